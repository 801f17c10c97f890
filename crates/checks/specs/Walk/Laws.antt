-- Laws of the walks: a table as it is filled (`Table`); of the walk of 7, that its table counts (`Counts`), and that
-- what it asks of a transition is `bad_at` (`next?`).
use Rattle.std.specs.Prelude.{◌≡◌, true, false, not, cond, List, ℕ, suc, ◌+◌, ◌≤◌, ◌<◌, ltb, get_or, set, replicate}
use Rattle.std.proofs.Common.{sym, ap, ◌∙◌, add-one, arith, lt-ltb, le-ltb, ltb-true, ltb-false, length-set}
use Rattle.std.proofs.Common.{get_or-set_same, get_or-set_other}
use Rattle.std.proofs.Math.Logic.{⊎_elim}
use Rattle.std.proofs.lemmas.List.{length-replicate, get_or-replicate}
use Rattle.layout.specs.Body.{head_at}
use Rattle.layout.specs.declared.body.Shape.{Shape}
use Rattle.meaning.specs.Numbers.{most_states, most_from_state}
use Rattle.meaning.specs.Sums.{one}
use Rattle.meaning.specs.Sums.Laws.{or_left}
use Rattle.meaning.specs.Meaning.{same}
use Rattle.meaning.specs.Check.{not_below, in_chart, ends?, leaving}
use Rattle.meaning.specs.Check.Laws.{below, decided, eq_or-not, bad_at, leaving-none, leaving-more, leaving-own}
use Rattle.meaning.specs.Laws.Bools.{same_refl, same_≢}
use Rattle.checks.specs.Walk.{Table, one_more, next?, counted, Counts}

-- ── Table ──

-- nothing counted
pub table_none : (n : ℕ) (f : ℕ → ℕ) → ((i : ℕ) → f i ≡ 0) → Table n f (replicate n 0)
table_none n f h = record { long = length-replicate n 0; at = λ i l. get_or-replicate n i 0 0 l ∙ sym (h i) }

-- the same values
pub table_same : (n : ℕ) (f g : ℕ → ℕ) (t : List ℕ) → Table n f t → ((i : ℕ) → g i ≡ f i) → Table n g t
table_same n f g t h e = record { long = h.long; at = λ i l. h.at i l ∙ sym (e i) }

module _ (n : ℕ) (f g : ℕ → ℕ) (t : List ℕ) (i : ℕ) (h : Table n f t) (l : i < n) where
  -- v stored at place i
  pub table-set : (v : ℕ) → ((j : ℕ) → g j ≡ cond (same i j) v (f j)) → Table n g (set t i v)
  table-set v e =
      record {
        long = simp length-set h.long;
        at =
            λ j m.
            ⊎_elim
            (λ q. rw (← q) (get_or-set_same t i v 0 (rw h.long l) ∙ sym (e i ∙ rw (same_refl i))))
            (λ q. get_or-set_other t i j v 0 (λ p. q (sym p)) ∙ h.at j m ∙ sym (e j ∙ rw (same_≢ i j q)))
            (eq_or-not i j);
      }

  -- one more counted there
  pub table_more : ((j : ℕ) → g j ≡ one (same i j) + f j) → Table n g (one_more t i)
  table_more e =
      table-set (get_or t i 0 + 1)
      (λ j.
      e j
      ∙ ⊎_elim
      (λ q. rw (← q, same_refl i, h.at i l) (omega arith))
      (λ q. rw (same_≢ i j q) (omega arith))
      (eq_or-not i j))

module _ (n : Shape) (b : List ℕ) (c : ℕ) where
  -- ── Counts ──

  pub counts-none : Counts n b c (replicate 16 0) 0
  counts-none = table_none 16 _ (leaving-none n b c)

  pub counts-more : (left : List ℕ) (k : ℕ) → Counts n b c left k → (in_chart n b c k).from < most_states
      → Counts n b c (counted (in_chart n b c k) left) (k + 1)
  unfolding counted
  counts-more left k h l = rw (add-one k) (table_more _ _ _ left _ h l (λ s. leaving-more n b c s k))

  -- ── next? ──

  ends_in : (k : ℕ) → ends? n b c k ≡ false → (in_chart n b c k).from < (head_at n b c).states
  unfolding ends?
  ends_in k e = below _ _ (or_left _ (not_below (in_chart n b c k).to (head_at n b c).states) e)

  -- not below 8 before it is over 8 with it
  over : (x m : ℕ) → not (ltb x m) ≡ ltb m (suc x)
  over x m =
      ⊎_elim
      (λ e. ap not e ∙ sym (le-ltb m (suc x) (omega (arith, ltb-true))))
      (λ e. ap not e ∙ sym (lt-ltb m (suc x) (omega (arith, ltb-false))))
      (decided (ltb x m))

  pub next_is : (left : List ℕ) (k : ℕ) → Counts n b c left k → (head_at n b c).states ≤ most_states
      → next? (in_chart n b c k) (head_at n b c).states left ≡ bad_at n b c k
  unfolding next? bad_at ends?
  next_is left k h m =
      ⊎_elim
      (λ (e : ends? n b c k ≡ true). rw e)
      (λ (e : ends? n b c k ≡ false).
      let l = ends_in k e in
      rw (
        h.at (in_chart n b c k).from (omega arith),
        over (leaving n b c (in_chart n b c k).from k) most_from_state,
        ← leaving-own n b c k,
      ))
      (decided (ends? n b c k))

  -- one that is not bad is from a state of the chart
  pub from_in : (k : ℕ) → bad_at n b c k ≡ false → (in_chart n b c k).from < (head_at n b c).states
  unfolding bad_at
  from_in k h =
      ends_in k (or_left (ends? n b c k) _ h)
