-- Laws of Put and Room, in this order: nothing; one part after another; a byte; a buffer keeps its length; what is
-- written at 0 lies over the buffer; room for a first part, and for what follows it.
use Rattle.std.specs.Prelude.{◌≡◌, refl, List, [], ◌∷◌, ◌++◌, ℕ, ◌+◌, ◌≤◌, length, drop, set}
use Rattle.std.proofs.Common.{sym, ◌∙◌, add_assoc, add-zero, zero-add, arith, length-append}
use Rattle.std.proofs.lemmas.List.Edits.{sets-eq}
use Rattle.std.proofs.Math.Seq.{length-sets}
use Rattle.layout.specs.Le.Laws.{sets-append}
use Rattle.layout.specs.Put.{Put, Room}

pub put-none : (at : ℕ) (l : List ℕ) → Put l at [] l at
put-none at l = record { is = refl; place = sym (add-zero at) }

-- a part, and a part right after it
pub put-append : {l m n xs ys : List ℕ} {at j k : ℕ} → Put l at xs m j → Put m j ys n k → Put l at (xs ++ ys) n k
put-append {l} {m} {n} {xs} {ys} {at} {j} {k} p q =
    record {
      is = rw (q.is, p.is, p.place) (sym (sets-append l at xs ys));
      place = rw (q.place, p.place, length-append) (add_assoc at (length xs) (length ys));
    }

pub put_byte : (l : List ℕ) (at b : ℕ) → Put l at (b ∷ []) (set l at b) (at + 1)
put_byte l at b = record { is = refl; place = refl }

pub put-length : {l m xs : List ℕ} {at j : ℕ} → Put l at xs m j → length m ≡ length l
put-length {l} {m} {xs} {at} p = rw p.is (length-sets l at xs)

-- what is written at 0
pub put-over : {l m xs : List ℕ} {j : ℕ} → Put l 0 xs m j → length xs ≤ length l
    → (j ≡ length xs) × (m ≡ xs ++ drop (length xs) l)
put-over {l} {m} {xs} p h = (p.place ∙ zero-add _, p.is ∙ sets-eq xs l 0 (rw zero-add h) ∙ rw zero-add)

module _ (l : List ℕ) (at : ℕ) (xs ys : List ℕ) (h : Room l at (xs ++ ys)) where
  pub room_first : Room l at xs
  room_first = omega (arith, length-append xs ys)

  pub room_next : {m : List ℕ} {j : ℕ} → Put l at xs m j → Room m j ys
  room_next p = omega (arith, length-append xs ys, p.place, put-length p)
