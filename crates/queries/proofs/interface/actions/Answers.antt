use mathlib.Core.Path.{◌≡◌, sym, ap, ap₂, ◌∙◌}
use mathlib.Core.List.{List}
use Prim.Native.Nat.{ℕ, ◌+◌}
use native.Mathlib.Omega.{arith}
use Rattle.signals.specs.Mask.{◌∪◌}
use Rattle.layout.specs.Body.{from, transition_at}
use Rattle.layout.specs.declared.body.Shape.{Shape}
use Rattle.layout.specs.declared.record.Transition.{Transition}
use Rattle.meaning.specs.Meaning.{actions}
use Rattle.meaning.specs.Laws.Faces.{actions-none, actions-more}
use Rattle.queries.proofs.interface.actions.Goals as goal

more : (n : Shape) (b : List ℕ) (start k all : ℕ) (t : Transition) → all ≡ actions (from (transition_at n b) start k)
    → t ≡ transition_at n b (start + k) → all ∪ t.action ≡ actions (from (transition_at n b) start (k + 1))
more n b start k all t h e =
    ap₂ (λ (a : ℕ) (t : Transition). a ∪ t.action) h e ∙ sym (actions-more (transition_at n b) start k)

pub loop-k-init : goal.loop-k-init
loop-k-init c = sym (actions-none _ _)

pub loop-k-preserved : goal.loop-k-preserved
loop-k-preserved c =
    let a = c.args in more a.n a.body.now a.start c.loop-k.k c.loop-k.all c.transition_at-t.result c.loop-k.invariant
    c.transition_at-t.ensures

pub returns : goal.returns
returns c =
    let a = c.args in
    let e : c.loop-k.k ≡ a.count = omega arith in
    c.loop-k.invariant ∙ ap (λ (k : ℕ). actions (from (transition_at a.n a.body.now) a.start k)) e

pub overflow_add-start : goal.overflow_add-start
overflow_add-start c = omega arith
