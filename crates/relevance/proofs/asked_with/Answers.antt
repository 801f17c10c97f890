-- `asked_with` meets its contract, by whether the transition is from the state. Assumes nothing.
use mathlib.Core.Path.{◌≡◌}
use mathlib.Core.List.{[], ◌∷◌}
use Prim.Native.Nat.{ℕ}
use lib.ListN.{drop}
use Rattle.signals.specs.Mask.{◌∪◌}
use Rattle.signals.specs.Decide.{sets, A, ∅ₑ, ◌∪ₑ◌, ◌≐◌}
use Rattle.layout.specs.Record.{transition_of}
use Rattle.layout.specs.declared.record.Transition.{Transition}
use Rattle.meaning.specs.Laws.Bools.{same_refl, same_≢}
use Rattle.candidates.specs.Candidates.Laws.{first_byte}
use Rattle.relevance.specs.Relevance.{asked_by}
use Rattle.relevance.proofs.asked_with.Goals as goal

module _ (t : Transition) (q x u : ℕ) (e : x ≡ t.from) where
  from_here : x ≡ q → (r : Transition) → r ≡ t
      → u ∪ (r.needed ∪ r.barred) ≡ u ∪ asked_by q t
  from_here h r i = rw (← e, h, same_refl q, i)

  from_elsewhere : (x ≡ q → ⊥) → u ≡ u ∪ asked_by q t
  from_elsewhere h = rw (← e, same_≢ x q h) (sets (u ∷ []) [] (A ≐ A ∪ₑ ∅ₑ) tt)

pub returns-then-body-at : goal.returns-then-body-at
returns-then-body-at c =
    let a = c.args in
    from_here (transition_of (drop a.at a.body.now)) a.state _ a.u (first_byte a.body.now a.at)
    c.if-body-at.true _ c.read_transition-r.ensures

pub returns : goal.returns
returns c =
    let a = c.args in
    from_elsewhere (transition_of (drop a.at a.body.now)) a.state _ a.u
    (first_byte a.body.now a.at) c.if-body-at.false
