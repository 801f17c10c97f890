-- `note` meets its contract, by whether the transition is from the state.
use mathlib.Core.Path.{◌≡◌, sym, ◌∙◌, ap}
use mathlib.Core.Bool.{true, false}
use mathlib.Core.List.{List}
use Prim.Native.Nat.{ℕ, ◌+◌}
use native.Mathlib.Omega.{arith}
use Rattle.layout.specs.declared.record.Transition.{Transition}
use Rattle.meaning.specs.Sums.{one}
use Rattle.meaning.specs.Meaning.{same}
use Rattle.meaning.specs.Laws.Bools.{same_refl, same_≢}
use Rattle.cells.specs.Triggers.{put_trigger}
use Rattle.candidates.specs.Candidates.Laws.{first_byte}
use Rattle.staying.specs.Staying.{Notes}
use Rattle.staying.proofs.note.Goals as goal

module _ (t : Transition) (q c k x : ℕ) (e : x ≡ t.from) (g : List ℕ) where
  from_elsewhere : (x ≡ q → ⊥) → Notes t q c k g g k
  from_elsewhere h = let n : same t.from q ≡ false = rw (← e) (same_≢ x q h) in
      record { table = rw n; count = let z : one (same t.from q) ≡ 0 = ap one n in omega arith }

  from_here : x ≡ q → {r : Transition} {g' : List ℕ} → r ≡ t → g' ≡ put_trigger g c k r → Notes t q c k g g' (k + 1)
  from_here h i o = let y : same t.from q ≡ true = rw (← e, h) (same_refl q) in
      record { table = rw (o, y, i); count = ap (λ b. k + one b) (sym y) }

pub returns-then-body-at : goal.returns-then-body-at
returns-then-body-at c =
    from_elsewhere _ c.args.state c.args.c c.args.have _ (first_byte c.args.body.now c.args.at)
    c.args.guards.now c.if-body-at.true

pub put-requires : goal.put-requires
put-requires c =
    (c.requires.1, c.requires.2, c.requires.4 (sym (first_byte c.args.body.now c.args.at) ∙ c.if-body-at.false))

pub returns : goal.returns
returns c =
    from_here _ c.args.state c.args.c c.args.have _ (first_byte c.args.body.now c.args.at)
    c.args.guards.now c.if-body-at.false c.read_transition-r.ensures c.put.ensures
