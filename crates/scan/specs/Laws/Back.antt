-- Laws of one byte back, a case for each kind of byte; and the bytes before a place, last first.
use Rattle.std.specs.Prelude.{◌≡◌, refl, Bool, true, false, List, [], ◌∷◌, ℕ, zero, suc, ◌+◌, ◌-◌, ◌<◌, eqb, length}
use Rattle.std.specs.Prelude.{take, get_or}
use Rattle.std.proofs.Common.{ap, add-one, arith, take-suc}
use borrow.Author.Tests.{eq-eqb, ne_eqb}
use Rattle.notation.specs.Grammar.{blank}
use Rattle.scan.specs.Look.{opener, closer, around, level, back_to, rev}
use Rattle.scan.specs.Laws.Look.{rev-append}

down : {A : Type 0} (a : A) (g : ℕ → A) (n : ℕ) → (n ≡ 0 → ⊥) → level n a g ≡ g (n - 1)
down a g zero h = absurd (h refl)
down a g (suc m) h = ap g (let z : m ≡ suc m - 1 = omega arith in z)

module _ {A : Type 0} (b : ℕ) (g : ℕ → A) (f : ℕ → ℕ → Bool → A) (n s : ℕ) (q : Bool) where
  pub back-closer : closer b ≡ true → back_to b g f n s q ≡ f (n + 1) s false
  unfolding back_to
  back-closer h = rw (h, add-one)

  module _ (h : closer b ≡ false) where
    pub back_found : opener b ≡ true → n ≡ 0 → back_to b g f n s q ≡ g (around b s q)
    unfolding back_to
    back_found k z = rw (h, k, z)

    pub back_open : opener b ≡ true → (n ≡ 0 → ⊥) → back_to b g f n s q ≡ f (n - 1) s false
    unfolding back_to
    back_open k z = rw (h, k) (down (g (around b s q)) (λ m. f m s false) n z)

    module _ (k : opener b ≡ false) where
      pub back-first : b ≡ 124 → n ≡ 0 → back_to b g f n s q ≡ f n 1 false
      unfolding back_to
      back-first e z = rw (h, k, eq-eqb b 124 e) (ap (λ m. level m (f n 1 false) (λ k. f n s false)) z)

      pub back_bar : b ≡ 124 → (n ≡ 0 → ⊥) → back_to b g f n s q ≡ f n s false
      unfolding back_to
      back_bar e z = rw (h, k, eq-eqb b 124 e) (down (f n 1 false) (λ k. f n s false) n z)

      pub back-blank : (b ≡ 124 → ⊥) → blank b ≡ true → back_to b g f n s q ≡ f n s q
      unfolding back_to
      back-blank e z = rw (h, k, ne_eqb b 124 e, z)

      pub back_else : (b ≡ 124 → ⊥) → blank b ≡ false → back_to b g f n s q ≡ f n s (eqb b 113)
      unfolding back_to
      back_else e z = rw (h, k, ne_eqb b 124 e, z)

-- the bytes before a place, last first
pub rev-take : (w : List ℕ) (i : ℕ) → i < length w → rev (take (i + 1) w) [] ≡ get_or w i 0 ∷ rev (take i w) []
unfolding rev
rev-take w i h = rw (add-one, take-suc w i 0) (rev-append (take i w) (get_or w i 0 ∷ []) [])
