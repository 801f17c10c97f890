-- What the proofs of the records' readers and writers share, in this order: what stands at place k of the record that
-- begins at `at`; a record that is written part by part, each where the part before it ends.
use mathlib.Core.Path.{◌≡◌, refl, sym, ap, ◌∙◌}
use mathlib.Core.List.{List, [], ◌∷◌, ◌++◌}
use Prim.Native.Nat.{ℕ, ◌+◌}
use native.Mathlib.Nat.{add-zero}
use lib.ListN.{length, get_or, drop, set}
use lib.Seq.{get_or-drop, drop-drop, sets}
use Rattle.layout.specs.Le.{le}
use Rattle.layout.specs.Le.Laws.{sets-append}

-- ---- reading

module _ (s : List ℕ) (at : ℕ) where
  pub byte_at : (k : ℕ) → get_or s (at + k) 0 ≡ get_or (drop at s) k 0
  byte_at k = sym (get_or-drop at s k 0)

  -- the record's first byte, which code reads at `at` itself
  pub first-at : get_or s at 0 ≡ get_or (drop at s) 0 0
  first-at = ap (λ (j : ℕ). get_or s j 0) (sym (add-zero at)) ∙ byte_at 0

  -- x, which code has read at `at + k`
  pub number_at : (n k : ℕ) {x : ℕ} → x ≡ le n (drop (at + k) s) → x ≡ le n (drop k (drop at s))
  number_at n k e = e ∙ ap (le n) (sym (drop-drop k at s))

-- ---- writing

-- m is l with xs written at `at`
pub record Written (l : List ℕ) (at : ℕ) (xs m : List ℕ) : Type 0 where
  pub is : m ≡ sets l at xs

module _ {l : List ℕ} {at : ℕ} {xs m : List ℕ} (w : Written l at xs m) where
  -- a part more, written right after xs
  pub part : (ys : List ℕ) {m' : List ℕ} → m' ≡ sets m (at + length xs) ys → Written l at (xs ++ ys) m'
  part ys e = record { is = e ∙ ap (λ (n : List ℕ). sets n (at + length xs) ys) w.is ∙ sym (sets-append l at xs ys) }

  -- a byte more
  pub byte : (b : ℕ) → Written l at (xs ++ (b ∷ [])) (set m (at + length xs) b)
  byte b = part (b ∷ []) refl

-- the first part, and a first byte
pub start : (l : List ℕ) (at : ℕ) (xs : List ℕ) {m : List ℕ} → m ≡ sets l at xs → Written l at xs m
start l at xs e = record { is = e }

pub first : (l : List ℕ) (at b : ℕ) → Written l at (b ∷ []) (set l at b)
first l at b = start l at (b ∷ []) refl
