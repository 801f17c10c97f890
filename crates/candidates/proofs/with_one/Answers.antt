-- `with_one` meets its contract, by whether the transition is from the state. Assumes nothing.
use mathlib.Core.Path.{◌≡◌}
use Prim.Native.Nat.{ℕ, ◌+◌}
use lib.ListN.{drop}
use Rattle.signals.specs.Mask.{◌∪◌, ◌∩◌}
use Rattle.layout.specs.Record.{transition_of}
use Rattle.layout.specs.declared.record.Transition.{Transition}
use Rattle.meaning.specs.Meaning.{same}
use Rattle.meaning.specs.Laws.Bools.{same_refl, same_≢}
use Rattle.tables.specs.Narrowing.{narrow}
use Rattle.candidates.specs.declared.Puts.{Puts}
use Rattle.candidates.specs.Candidates.{with_one}
use Rattle.candidates.specs.Candidates.Laws.{first_byte}
use Rattle.candidates.proofs.with_one.Goals as goal

module _ (t : Transition) (q x u : ℕ) (e : x ≡ t.from) (p : Puts) where
  from_here : x ≡ q → (r : Transition) → r ≡ narrow u t
      → record { may = p.may ∪ r.action; sure = p.sure ∩ r.action; count = p.count + 1 }
      ≡ with_one (same t.from q) (t.action ∩ u) p
  from_here h r i = rw (← e, h, same_refl q, i)

  from_elsewhere : (x ≡ q → ⊥) → p ≡ with_one (same t.from q) (t.action ∩ u) p
  from_elsewhere h = rw (← e, same_≢ x q h)

pub returns-then-body-at : goal.returns-then-body-at
returns-then-body-at c =
    let a = c.args in
    from_here (transition_of (drop a.at a.body.now)) a.state _ a.read (first_byte a.body.now a.at)
    a.p c.if-body-at.true _ c.read_at-r.ensures

pub returns : goal.returns
returns c =
    let a = c.args in
    from_elsewhere (transition_of (drop a.at a.body.now)) a.state _ a.read
    (first_byte a.body.now a.at) _ c.if-body-at.false
