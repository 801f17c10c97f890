-- Laws of bytes written one behind another (Put, of layout), in this order: records of a width; records in turn, as a
-- loop writes them.
use Rattle.std.specs.Prelude.{◌≡◌, length}
use Rattle.std.proofs.Math.Path.{refl, sym, ap}
use Rattle.std.proofs.Common.{ap₂, ◌∙◌, arith}
use mathlib.Core.List.{List, [], ◌++◌, append_assoc, append-nil}
use Rattle.std.proofs.Math.Logic.{⊎_elim}
use Prim.Native.Nat.{ℕ, zero, suc, ◌+◌, ◌≤◌, ◌<◌}
use Rattle.std.proofs.Math.Numerals.{add-one}
use Rattle.std.proofs.Math.ListN.{length-append}
use Rattle.std.proofs.lemmas.List.Edits.{sets}
use Rattle.layout.specs.Put.Laws.{put-none, put-append, put-length, room_first, room_next}
use Rattle.meaning.specs.Sums.Laws.{below_suc}
use Rattle.meaning.specs.Rewriting.{in_turn}
use Rattle.layout.specs.Put.{Room, Put}

-- ── records of w bytes ──

pub put_one : (xs : List ℕ) (w at : ℕ) (l m : List ℕ) → length xs ≡ w → m ≡ sets l at xs → Put l at xs m (at + w)
put_one xs w at l m e h = record { place = ap (λ (k : ℕ). at + k) (sym e); is = h }

pub put_is : {xs ys : List ℕ} {at p : ℕ} {l m : List ℕ} → xs ≡ ys → Put l at xs m p → Put l at ys m p
put_is {xs} {ys} {at} {p} {l} {m} e h = rw e at h

pub room_one : (xs ys : List ℕ) (w : ℕ) → length xs ≡ w → (at : ℕ) (l : List ℕ) → Room l at (xs ++ ys)
    → at + w ≤ length l
room_one xs ys w e at l r = rw e at (room_first l at xs ys r)

pub room_all : (xs ys : List ℕ) (w : ℕ) → xs ≡ ys → length ys ≡ w → (at : ℕ) (l : List ℕ) → Room l at xs
    → at + w ≤ length l
room_all xs ys w q e at l r = rw (q, e) at r

pub room_last : {xs : List ℕ} (ys : List ℕ) (w : ℕ) → length ys ≡ w → {at p : ℕ} {l m : List ℕ} → Put l at xs m p
    → Room l at (xs ++ ys)
    → p + w ≤ length m
room_last {xs} ys w e {at} {p} {l} {m} h r = rw e at (room_next _ _ _ ys r h)

-- ── records in turn ──

module _ (f : ℕ → List ℕ) where
  pub turn-none : in_turn 0 f ≡ []
  unfolding in_turn
  turn-none = refl

  pub turn_more : (k : ℕ) → in_turn (k + 1) f ≡ in_turn k f ++ f k
  unfolding in_turn
  turn_more k = rw add-one

  pub turn_in : (n k : ℕ) → k < n → length (in_turn k f) + length (f k) ≤ length (in_turn n f)
  unfolding in_turn
  turn_in zero k l = absurd (omega arith)
  turn_in (suc n) k l =
      ⊎_elim (λ e. rw e (omega (arith, length-append (in_turn n f) (f n))))
      (λ h. omega (arith, turn_in n k h, length-append (in_turn n f) (f n))) (below_suc k n l)

  -- from the front
  pub turn-front : (n : ℕ) → in_turn (suc n) f ≡ f 0 ++ in_turn n (λ i. f (suc i))
  unfolding in_turn
  turn-front zero = sym (append-nil (f 0))
  turn-front (suc n) =
      ap (λ (l : List ℕ). l ++ f (suc n)) (turn-front n) ∙ append_assoc (f 0) (in_turn n (λ i. f (suc i))) (f (suc n))

  module _ {at : ℕ} {l : List ℕ} where
    pub put-start : Put l at (in_turn 0 f) l at
    put-start = rw turn-none (put-none at l)

    pub put_next : {k p q : ℕ} {m o : List ℕ} → Put l at (in_turn k f) m p → Put m p (f k) o q
        → Put l at (in_turn (k + 1) f) o q
    put_next {k} h g = rw turn_more (put-append h g)

    pub room_turn : {n k p : ℕ} {m : List ℕ} → Room l at (in_turn n f) → k < n → Put l at (in_turn k f) m p
        → Room m p (f k)
    room_turn {n} {k} {p} {m} r i h = let e = put-length h in omega (arith, h.place, turn_in n k i)

    -- the next is a record of w bytes
    pub room_record : {n k p : ℕ} {m : List ℕ} (w : ℕ) → length (f k) ≡ w → Room l at (in_turn n f) → k < n
        → Put l at (in_turn k f) m p
        → p + w ≤ length m
    room_record {n} {k} {p} {m} w e r i h = rw e at (room_turn r i h)

    pub put-done : {n k p : ℕ} {m : List ℕ} → k ≡ n → Put l at (in_turn k f) m p → Put l at (in_turn n f) m p
    put-done {n} {k} {p} {m} e h = rw e at h

pub turn_cong : (f g : ℕ → List ℕ) (n : ℕ) → ((k : ℕ) → k < n → f k ≡ g k) → in_turn n f ≡ in_turn n g
unfolding in_turn
turn_cong f g zero h = refl
turn_cong f g (suc n) h = ap₂ ◌++◌ (turn_cong f g n (λ k l. h k (omega arith))) (h n (omega arith))
