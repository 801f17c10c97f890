-- Laws of the lists of names: some member passes a test (`any-..`), the mask of a list (`bit_mask`), a number given
-- twice (`twice_snoc`). The bytes of two lists (`all_append`).
use Rattle.std.specs.Prelude.{◌≡◌, refl, Bool, true, false, ◌||◌, List, [], ◌∷◌, ◌++◌, ℕ, eqb}
use Rattle.std.proofs.Common.{ap, ◌∙◌, sym, append_assoc, eq-eqb}
use Rattle.std.proofs.Math.Bool.{or-false, or-true}
use Rattle.signals.specs.Mask.{bit, single}
use Rattle.signals.specs.Mask.Laws.{bit_union, bit-none, bit-single}
use Rattle.meaning.specs.Laws.Bools.{eqb_sym}
use Rattle.reading.specs.Names.{any, has, twice?}
use Rattle.reading.specs.Meant.{mask_of, all}

-- ── some member passes a test ──

pub any_append : {A : Type 0} (p : A → Bool) (a b : List A) → any p (a ++ b) ≡ (any p a || any p b)
unfolding any
any_append p [] b = refl
any_append p (u ∷ a) b = ap (p u ||◌) (any_append p a b) ∙ go (p u)
  where
    go : (c : Bool) → (c || (any p a || any p b)) ≡ ((c || any p a) || any p b)
    go true = refl
    go false = refl

pub any_snoc : (p : ℕ → Bool) (a : List ℕ) (n : ℕ) → any p (a ++ (n ∷ [])) ≡ (any p a || p n)
unfolding any
any_snoc p a n = any_append p a (n ∷ []) ∙ ap (any p a ||◌) (or-false (p n))

-- none does if none of its numbers does
pub any_of : (p : ℕ → Bool) (a : List ℕ) → ((n : ℕ) → has a n ≡ true → p n ≡ false) → any p a ≡ false
unfolding any has
any_of p [] h = refl
any_of p (m ∷ a) h =
    ap (◌|| any p a) (h m (ap (◌|| has a m) (eq-eqb m m refl)))
    ∙ any_of p a (λ n k. h n (ap (eqb m n ||◌) k ∙ or-true (eqb m n)))

-- ── masks ──

-- a number is in the mask of a list exactly if the list has it
pub bit_mask : (ns : List ℕ) (n : ℕ) → bit (mask_of ns) n ≡ has ns n
unfolding mask_of has any
bit_mask [] n = bit-none n
bit_mask (m ∷ ns) n = bit_union n (single m) (mask_of ns) ∙ ap (◌|| bit (mask_of ns) n) (bit-single m n)
    ∙ ap (eqb m n ||◌) (bit_mask ns n)

-- ── given twice ──

shuffle : (h t e k : Bool) → ((h || e) || (t || k)) ≡ ((h || t) || (e || k))
shuffle true t e k = refl
shuffle false true true k = refl
shuffle false true false k = refl
shuffle false false e k = refl

pub twice_snoc : (a : List ℕ) (n : ℕ) → twice? (a ++ (n ∷ [])) ≡ (twice? a || has a n)
unfolding twice? has any
twice_snoc [] n = refl
twice_snoc (m ∷ a) n =
    ap (◌|| twice? (a ++ (n ∷ []))) (any_snoc (λ k. eqb k m) a n) ∙ ap ((has a m || eqb n m) ||◌) (twice_snoc a n)
    ∙ ap (λ e. (has a m || e) || (twice? a || has a n)) (eqb_sym n m)
    ∙ shuffle (has a m) (twice? a) (eqb m n) (has a n)

-- ── the bytes of a list ──

pub all_append : {A : Type 0} (f : A → List ℕ) (a b : List A) → all f (a ++ b) ≡ all f a ++ all f b
unfolding all
all_append f [] b = refl
all_append f (x ∷ a) b = ap (f x ++◌) (all_append f a b) ∙ sym (append_assoc (f x) (all f a) (all f b))
