-- Laws of a row that a loop fills, one entry in each turn, in this order: none is filled (`row-none`); one more
-- (`row_more`), and one that is right as it is (`row_kept`); all are right as they are (`row_same`); what is not in the
-- row stays (`row-rest`); the same of the entries alone, in a row from place 0 on (`fill_more`).
use Rattle.std.specs.Prelude.{◌≡◌, refl, List, ◌≢◌, ℕ, ◌+◌, ◌-◌, ◌<◌, length, get_or, set}
use Rattle.std.proofs.Common.{◌∙◌, arith, below_more, length-set, get_or-set_same, get_or-set_other}
use Rattle.std.proofs.Math.Decide.{dec_lt}
use Rattle.layout.specs.Row.{RowAt}

pub row-none : (at : ℕ) (f : ℕ → ℕ) (l : List ℕ) → RowAt at 0 f l l
row-none at f l =
    record { in_row = λ c p. absurd (omega arith); below = λ k p. refl; above = λ k p. refl; long = refl }

-- one entry more
pub row_more : (at c v : ℕ) (f : ℕ → ℕ) (l m : List ℕ) → at + c < length m → v ≡ f c → RowAt at c f l m
    → RowAt at (c + 1) f l (set m (at + c) v)
row_more at c v f l m p e h =
    record {
      in_row =
          below_more (λ (k : ℕ). get_or (set m (at + c) v) (at + k) 0 ≡ f k) c
          (λ k q. get_or-set_other m (at + c) (at + k) v 0 (λ z. omega arith) ∙ h.in_row k q)
          (get_or-set_same m (at + c) v 0 p ∙ e);
      below = λ k q. get_or-set_other m (at + c) k v 0 (λ z. omega arith) ∙ h.below k q;
      above = λ k q. get_or-set_other m (at + c) k v 0 (λ z. omega arith) ∙ h.above k (omega arith);
      long = length-set m (at + c) v ∙ h.long;
    }

-- one that stays as it is
pub row_kept : (at c : ℕ) (f : ℕ → ℕ) (l m : List ℕ) → get_or l (at + c) 0 ≡ f c → RowAt at c f l m
    → RowAt at (c + 1) f l m
row_kept at c f l m e h =
    record {
      in_row = below_more (λ (k : ℕ). get_or m (at + k) 0 ≡ f k) c h.in_row (h.above (at + c) (omega arith) ∙ e);
      below = h.below;
      above = λ k q. h.above k (omega arith);
      long = h.long;
    }

-- all stay
pub row_same : (at n : ℕ) (f : ℕ → ℕ) (l : List ℕ) → ((c : ℕ) → c < n → get_or l (at + c) 0 ≡ f c) → RowAt at n f l l
row_same at n f l e = record { in_row = e; below = λ k p. refl; above = λ k p. refl; long = refl }

-- an entry that is not in the row
pub row-rest : {at n : ℕ} {f : ℕ → ℕ} {l m : List ℕ} → RowAt at n f l m → (i : ℕ)
    → ((c : ℕ) → c < n → i ≢ at + c) → get_or m i 0 ≡ get_or l i 0
row-rest {at} {n} {f} {l} {m} h i q = go (dec_lt i at) (dec_lt i (at + n))
  where
    go : Dec (i < at) → Dec (i < at + n) → get_or m i 0 ≡ get_or l i 0
    go (yes p) r = h.below i p
    go (no p) (no r) = h.above i (omega arith)
    go (no p) (yes r) = absurd (q (i - at) (omega arith) (omega arith))

-- one entry more of a row from place 0 on, where nothing is asked of the other entries
pub fill_more : (f : ℕ → ℕ) (t : List ℕ) (j v : ℕ) → ((k : ℕ) → k < j → get_or t k 0 ≡ f k) → v ≡ f j → j < length t
    → (k : ℕ) → k < j + 1 → get_or (set t j v) k 0 ≡ f k
fill_more f t j v h e m =
    below_more (λ (k : ℕ). get_or (set t j v) k 0 ≡ f k) j
    (λ k q. get_or-set_other t j k v 0 (λ z. omega arith) ∙ h k q) (get_or-set_same t j v 0 m ∙ e)
