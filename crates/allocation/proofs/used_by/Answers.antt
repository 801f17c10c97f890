use mathlib.Core.Path.{◌≡◌, sym, ap, ap₂, ◌∙◌}
use mathlib.Core.List.{List, [], ◌∷◌}
use Prim.Native.Nat.{ℕ, ◌+◌}
use native.Mathlib.Omega.{arith}
use Rattle.signals.specs.Mask.{◌∪◌}
use Rattle.signals.specs.Decide.{sets, A, B, C, D, E, ◌∪ₑ◌, ◌≐◌}
use Rattle.layout.specs.Body.{from, transition_at}
use Rattle.layout.specs.declared.body.Shape.{Shape}
use Rattle.layout.specs.declared.record.Transition.{Transition}
use Rattle.meaning.specs.Meaning.{guards, actions}
use Rattle.meaning.specs.Laws.Faces.{guards_none, guards_more, actions-none, actions-more}
use Rattle.allocation.proofs.used_by.Goals as goal
use Rattle.allocation.proofs.used_by.Invariants.{passed}

more : (n : Shape) (b : List ℕ) (start k all : ℕ) (t : Transition) → all ≡ passed n b start k
    → t ≡ transition_at n b (start + k)
    → all ∪ (t.needed ∪ t.barred ∪ t.action) ≡ passed n b start (k + 1)
more n b start k all t h e =
    ap₂ (λ (a : ℕ) (t : Transition). a ∪ (t.needed ∪ t.barred ∪ t.action)) h e
    ∙ sets (guards (from (transition_at n b) start k) ∷ actions (from (transition_at n b) start k) ∷ u.needed ∷ u.barred
    ∷ u.action ∷ []) []
    (A ∪ₑ B ∪ₑ (C ∪ₑ D ∪ₑ E) ≐ A ∪ₑ (C ∪ₑ D) ∪ₑ (B ∪ₑ E)) tt
    ∙ ap₂ ◌∪◌ (sym (guards_more (transition_at n b) start k)) (sym (actions-more (transition_at n b) start k))
  where
    u : Transition
    u = transition_at n b (start + k)

pub loop-k-init : goal.loop-k-init
loop-k-init c = sym (ap₂ ◌∪◌ (guards_none _ _) (actions-none _ _))

pub loop-k-preserved : goal.loop-k-preserved
loop-k-preserved c =
    let a = c.args in more a.n a.body.now a.start c.loop-k.k c.loop-k.all c.transition_at-t.result c.loop-k.invariant
    c.transition_at-t.ensures

pub returns : goal.returns
returns c =
    let a = c.args in
    let e : c.loop-k.k ≡ a.count = omega arith in
    c.loop-k.invariant ∙ ap (λ (k : ℕ). passed a.n a.body.now a.start k) e
