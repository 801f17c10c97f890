use mathlib.Core.Path.{◌≡◌, sym, ap, ◌∙◌}
use mathlib.Core.List.{[], ◌∷◌}
use Prim.Native.Nat.{ℕ, ◌+◌, ◌≤◌}
use native.Mathlib.Omega.{arith}
use Rattle.signals.specs.Mask.{◌∪◌}
use Rattle.layout.specs.Body.{transition_at}
use Rattle.layout.specs.declared.record.Transition.{Transition}
use Rattle.clearing.specs.declared.Left.{Left}
use Rattle.clearing.specs.Left.{left_of}
use Rattle.clearing.proofs.LeftLaws.{left_to, left-none, left-count, left_was, left_still, left_most}
use Rattle.clearing.proofs.of_list.Goals as goal
use Rattle.clearing.proofs.of_list.Goals.{After-of_one-one}

pub loop-k-init : goal.loop-k-init
loop-k-init c =
    let e = left-none c.args.fed (transition_at c.args.n c.args.body.now)
    c.args.start in (
      sym (ap (λ (l : Left). l.count) e),
      sym (ap (λ (l : Left). l.was) e),
      sym (ap (λ (l : Left). l.still) e),
    )

-- what is left of the one that was read
one-is : (c : After-of_one-one)
    → c.of_one-one.result ≡ left_of c.args.fed
    (transition_at c.args.n
    c.args.body.now
    (c.args.start + c.loop-k.k) ∷ [])
one-is c =
    c.of_one-one.ensures
    ∙ ap (λ (t : Transition). left_of c.args.fed (t ∷ []))
    c.transition_at.ensures

-- so many more are at most the transitions passed
few : (c : After-of_one-one)
    → c.loop-k.kept + c.of_one-one.result.count ≤ c.loop-k.k + 1
few c =
    let e =
    left-count c.args.fed (transition_at c.args.n c.args.body.now) c.args.start c.loop-k.k _ (one-is c) in
    let m = left_most c.args.fed (transition_at c.args.n c.args.body.now) c.args.start (c.loop-k.k + 1) in
    let q = c.loop-k.invariant.0 in
    omega arith

pub loop-k-preserved : goal.loop-k-preserved
loop-k-preserved c =
    let f = transition_at c.args.n c.args.body.now in (
      ap (λ (z : ℕ). z + c.of_one-one.result.count) c.loop-k.invariant.0
          ∙ left-count c.args.fed f c.args.start c.loop-k.k _ (one-is (goal.at.loop-k-preserved c).After-of_one-one),
      ap (λ (z : ℕ). z ∪ c.of_one-one.result.was) c.loop-k.invariant.1
          ∙ left_was c.args.fed f c.args.start c.loop-k.k _ (one-is (goal.at.loop-k-preserved c).After-of_one-one),
      ap (λ (z : ℕ). z ∪ c.of_one-one.result.still) c.loop-k.invariant.2
          ∙ left_still c.args.fed f c.args.start c.loop-k.k _ (one-is (goal.at.loop-k-preserved c).After-of_one-one),
    )

pub returns : goal.returns
unfolding left_of
returns c =
    let e : c.loop-k.k ≡ c.args.count = omega arith in
    let l = left_to c.args.fed (transition_at c.args.n c.args.body.now) c.args.start in
    (λ z. record { count = c.loop-k.invariant.0 z; was = c.loop-k.invariant.1 z; still = c.loop-k.invariant.2 z }) ∙ ap l e

pub transition_at-requires : goal.transition_at-requires
transition_at-requires c = (c.requires.0, (let l = c.requires.1 in omega arith))

pub overflow_add-kept : goal.overflow_add-kept
overflow_add-kept c = let f = few (goal.at.overflow_add-kept c).After-of_one-one in omega arith
