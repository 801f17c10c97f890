-- What the loops over pairs share: the transitions of a list that a loop has not passed, and a test of some one of
-- them.
use mathlib.Core.Path.{◌≡◌, ap, ap₂, ◌∙◌}
use mathlib.Core.Bool.{Bool, true, false, ◌||◌}
use mathlib.Core.List.{List, [], ◌∷◌}
use Prim.Native.Nat.{ℕ, suc, ◌+◌, ◌-◌, ◌≤◌, ◌<◌}
use native.Mathlib.Omega.{arith}
use Rattle.layout.specs.Body.{from}
use Rattle.layout.specs.declared.record.Transition.{Transition}

-- m transitions from s on, of which k are passed
abbrev pub left : (ℕ → Transition) → ℕ → ℕ → ℕ → List Transition
left f s m k = from f (s + k) (m - k)

module _ (f : ℕ → Transition) (s m : ℕ) where
  pub left-all : from f s m ≡ left f s m 0
  left-all = ap₂ (from f) (omega arith) (omega arith)

  pub left-none : (k : ℕ) → m ≤ k → left f s m k ≡ []
  unfolding from
  left-none k l = let e : m - k ≡ 0 = omega arith in rw e

  left-next : (k : ℕ) → k < m → left f s m k ≡ f (s + k) ∷ left f s m (k + 1)
  unfolding from
  left-next k l =
      let e : m - k ≡ suc (m - (k + 1)) = omega arith in
      let a : suc (s + k) ≡ s + (k + 1) = omega arith in
      ap (from f (s + k)) e ∙ ap (λ (i : ℕ). f (s + k) ∷ from f i (m - (k + 1))) a

  -- g asks p of each transition and those behind it
  module _ (p : Transition → List Transition → Bool) (g : List Transition → Bool)
      (asks : (t : Transition) (ts : List Transition) → g (t ∷ ts) ≡ (p t ts || g ts)) (k : ℕ) (l : k < m) where
    pub found : p (f (s + k)) (left f s m (k + 1)) ≡ true → g (left f s m k) ≡ true
    found e = ap g (left-next k l) ∙ asks _ _ ∙ rw e

    pub passed : p (f (s + k)) (left f s m (k + 1)) ≡ false → g (left f s m k) ≡ g (left f s m (k + 1))
    passed e = ap g (left-next k l) ∙ asks _ _ ∙ rw e
