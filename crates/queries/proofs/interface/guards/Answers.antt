use mathlib.Core.Path.{◌≡◌, sym, ap, ap₂, ◌∙◌}
use mathlib.Core.List.{List, [], ◌∷◌}
use Prim.Native.Nat.{ℕ, ◌+◌}
use native.Mathlib.Omega.{arith}
use Rattle.signals.specs.Mask.{◌∪◌}
use Rattle.signals.specs.Decide.{sets, A, B, C, D, ◌∪ₑ◌, ◌≐◌}
use Rattle.layout.specs.Body.{from, transition_at}
use Rattle.layout.specs.declared.body.Shape.{Shape}
use Rattle.layout.specs.declared.record.Transition.{Transition}
use Rattle.meaning.specs.Meaning.{guards}
use Rattle.meaning.specs.Laws.Faces.{guards_none, guards_more}
use Rattle.queries.proofs.interface.guards.Goals as goal

more : (n : Shape) (b : List ℕ) (start k extra all : ℕ) (t : Transition)
    → all ≡ guards (from (transition_at n b) start k) ∪ extra → t ≡ transition_at n b (start + k)
    → all ∪ t.needed ∪ t.barred ≡ guards (from (transition_at n b) start (k + 1)) ∪ extra
more n b start k extra all t h e =
    let f = transition_at n b in
    ap₂ (λ (a : ℕ) (t : Transition). a ∪ t.needed ∪ t.barred) h e
    ∙ sets (guards (from f start k) ∷ extra ∷ (f (start + k)).needed ∷ (f (start + k)).barred ∷ []) []
    (A ∪ₑ B ∪ₑ C ∪ₑ D ≐ A ∪ₑ (C ∪ₑ D) ∪ₑ B) tt
    ∙ ap (λ (z : ℕ). z ∪ extra) (sym (guards_more f start k))

pub loop-k-init : goal.loop-k-init
loop-k-init c = rw guards_none

pub loop-k-preserved : goal.loop-k-preserved
loop-k-preserved c =
    let a = c.args in more a.n a.body.now a.start c.loop-k.k a.extra c.loop-k.all c.transition_at-t.result c.loop-k.invariant
    c.transition_at-t.ensures

pub returns : goal.returns
returns c =
    let a = c.args in
    let e : c.loop-k.k ≡ a.count = omega arith in
    c.loop-k.invariant ∙ ap (λ (k : ℕ). guards (from (transition_at a.n a.body.now) a.start k) ∪ a.extra) e

pub overflow_add-start : goal.overflow_add-start
overflow_add-start c = omega arith
