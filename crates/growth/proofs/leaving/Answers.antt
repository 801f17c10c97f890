use mathlib.Core.Path.{◌≡◌, refl, sym, ap, ◌∙◌}
use mathlib.Core.List.{List}
use Prim.Native.Nat.{ℕ, zero, suc, ◌+◌}
use native.Mathlib.Numerals.{add-one}
use native.Mathlib.Omega.{arith}
use Rattle.layout.specs.Body.{from, transition_at}
use Rattle.layout.specs.declared.body.Shape.{Shape}
use Rattle.layout.specs.declared.record.Transition.{Transition}
use Rattle.meaning.specs.Sums.{one}
use Rattle.meaning.specs.Meaning.{same}
use Rattle.meaning.specs.Laws.Bools.{same_refl, same_≢}
use Rattle.meaning.specs.Rewriting.{leaving_in}
use Rattle.growth.proofs.leaving.Goals as goal
use Rattle.growth.proofs.leaving.Goals.{else-t-s, then-t-s}

-- one more at the end
leaving-more : (f : ℕ → Transition) (s a k : ℕ)
    → leaving_in (from f a (suc k)) s ≡ leaving_in (from f a k) s + one (same (f (a + k)).from s)
unfolding leaving_in from
leaving-more f s a zero = let e : one (same (f (a + 0)).from s) ≡ one (same (f a).from s) =
    ap (λ (i : ℕ). one (same (f i).from s)) (omega arith) in omega arith
leaving-more f s a (suc k) =
    let e : one (same (f (suc a + k)).from s) ≡ one (same (f (a + suc k)).from s) =
    ap (λ (i : ℕ). one (same (f i).from s)) (omega arith) in
    omega (arith, leaving-more f s (suc a) k)

leaving-next : (f : ℕ → Transition) (s a k : ℕ)
    → leaving_in (from f a (k + 1)) s ≡ leaving_in (from f a k) s + one (same (f (a + k)).from s)
leaving-next f s a k = ap (λ (j : ℕ). leaving_in (from f a j) s) (add-one k) ∙ leaving-more f s a k

module _ (n : Shape) (b : List ℕ) (start k s times : ℕ) (t : Transition) (e : t ≡ transition_at n b (start + k))
    (h : times ≡ leaving_in (from (transition_at n b) start k) s) where
  own : t.from ≡ s → times + 1 ≡ leaving_in (from (transition_at n b) start (k + 1)) s
  own g =
      let q : one (same (transition_at n b (start + k)).from s) ≡ 1 =
      ap one (ap (λ (x : ℕ). same x s) (sym (ap (λ (t : Transition). t.from) e) ∙ g) ∙ same_refl s) in
      omega (arith, leaving-next (transition_at n b) s start k)

  other : (t.from ≡ s → ⊥) → times ≡ leaving_in (from (transition_at n b) start (k + 1)) s
  other g =
      let q : one (same (transition_at n b (start + k)).from s) ≡ 0 =
      ap one (same_≢ _ s (λ z. g (ap (λ (t : Transition). t.from) e ∙ z))) in
      omega (arith, leaving-next (transition_at n b) s start k)

pub loop-k-init : goal.loop-k-init
unfolding leaving_in from
loop-k-init c = (omega arith, refl)

pub loop-k-preserved : goal.loop-k-preserved
loop-k-preserved c =
    let e = c.transition_at-t.ensures in (
      elim c.if-t-s.branch [ then-t-s w ↦ let q = w.times-is in omega arith | else-t-s w ↦ let q = w.times-is in omega arith ],
      elim c.if-t-s.branch [ then-t-s w ↦ w.times-is ∙ own _ _ _ _ _ _ _ e c.loop-k.invariant.1 w.if-t-s.true | else-t-s w ↦ w.times-is ∙ other _ _ _ _ _ _ _ e c.loop-k.invariant.1 w.if-t-s.false ],
    )

pub returns : goal.returns
returns c =
    let e : c.loop-k.k ≡ c.args.count = omega arith in
    (rw e at c.loop-k.invariant.1, omega arith)
