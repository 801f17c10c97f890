-- What a loop that writes xs at a place has still to write, and its laws, in this order: all of it; one piece less;
-- none of it; its room.
use mathlib.Core.Path.{◌≡◌, refl, sym, ap, ◌∙◌}
use mathlib.Core.List.{List, [], ◌++◌}
use Prim.Native.Nat.{ℕ, ◌+◌}
use native.Mathlib.Nat.{add-zero}
use native.Mathlib.Omega.{arith}
use lib.ListN.{length, length-append}
use lib.Seq.{sets, length-sets}
use Rattle.layout.specs.Le.Laws.{sets-append}
use Rattle.layout.specs.Put.{Put, Room}

-- of xs, which goes to `at` of l, ys is left, and goes to j of m
pub record Left (l : List ℕ) (at : ℕ) (xs m : List ℕ) (j : ℕ) (ys : List ℕ) : Type 0 where
  pub is : sets m j ys ≡ sets l at xs
  pub place : j + length ys ≡ at + length xs

pub left-all : (l : List ℕ) (at : ℕ) (xs : List ℕ) → Left l at xs l at xs
left-all l at xs = record { is = refl; place = refl }

module _ {l xs m : List ℕ} {at j : ℕ} where
  pub left-put : {n : List ℕ} {k : ℕ} (ys zs : List ℕ) → Left l at xs m j (ys ++ zs) → Put m j ys n k
      → Left l at xs n k zs
  left-put ys zs w p =
      record {
        is = rw (p.is, p.place) (sym (sets-append m j ys zs) ∙ w.is);
        place = omega (arith, p.place, w.place, length-append ys zs);
      }

  pub left-none : Left l at xs m j [] → Put l at xs m j
  left-none w = record { is = w.is; place = sym (add-zero j) ∙ w.place }

  pub left-length : (ys : List ℕ) → Left l at xs m j ys → length m ≡ length l
  left-length ys w = sym (length-sets m j ys) ∙ ap length w.is ∙ length-sets l at xs

  pub left_room : (ys : List ℕ) → Left l at xs m j ys → Room l at xs → Room m j ys
  left_room ys w h = omega (arith, left-length ys w, w.place)
