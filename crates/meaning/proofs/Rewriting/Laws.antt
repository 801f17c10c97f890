-- Laws of unions as a loop takes them, and that each set is in its union (`union_up_to`); and of the rewriting's
-- refusals, in this order: what 42 gives of the list of a chart (`list_most`); that no sum of such lists passes the
-- limit of all charts (`sum_most`); so that a test of the sum behind 42 changes no first refusal, of the list
-- (`sum_untested`) or of the call (`refusal_same`).
use Rattle.std.specs.Prelude.{◌≡◌, refl, false, ℕ, zero, suc, ◌+◌, ◌*◌, ◌≤◌, ◌<◌, length}
use Rattle.std.proofs.Math.Path.{sym, ap}
use Rattle.std.proofs.Common.{◌∙◌, ap₂, le_trans, mul-le-mul_left, add-one, arith}
use mathlib.Core.List.{List, [], ◌∷◌, ◌++◌, append_assoc}
use Rattle.std.proofs.Math.Logic.{⊎_elim}
use borrow.Author.Tests.{le-ltb, ltb-false}
use Rattle.std.proofs.Math.Dec.{ltb}
use Rattle.signals.specs.Mask.{◌∪◌, ◌∖◌}
use Rattle.signals.specs.Decide.{sets, A, B, C, ∅ₑ, ◌∪ₑ◌, ◌≐◌, ◌⊑◌}
use Rattle.meaning.specs.Numbers.{most_charts, most_in_chart, most_transitions, most_nodes, no_free_signal}
use Rattle.meaning.specs.Numbers.{many_from_state, many_in_chart, many_nodes, short_out}
use Rattle.meaning.specs.Sums.Laws.{below_suc, any-never, tally_most}
use Rattle.meaning.specs.Meaning.{Set, ∅}
use Rattle.meaning.specs.File.{File, trailer, shape_of, file_at, file_of}
use Rattle.meaning.specs.Check.{Test, first_of, file_tests, refusal_of}
use Rattle.meaning.specs.Check.Laws.{eq_or-not, first_of_cong, first_of_covered, passed, call_refused, call-passed}
use Rattle.meaning.specs.Check.Laws.{counted}
use Rattle.meaning.specs.Rewriting.{union_up_to, rewrite, transitions_in, no_free?, from_state?, in_chart?}
use Rattle.meaning.specs.Rewriting.{rewrite_tests, rewrite_bytes, stay_test, rewrite_refusal}

-- ── unionUpTo ──

pub union_none : (f : ℕ → Set) → ∅ ≡ union_up_to 0 f
unfolding union_up_to
union_none f = refl

pub union_more : (k : ℕ) (f : ℕ → Set) → union_up_to k f ∪ f k ≡ union_up_to (k + 1) f
unfolding union_up_to
union_more k f = rw add-one

pub union_taken : (k : ℕ) (f : ℕ → Set) {all v : Set} → all ≡ union_up_to k f → v ≡ f k
    → all ∪ v ≡ union_up_to (k + 1) f
union_taken k f h e = ap₂ ◌∪◌ h e ∙ union_more k f

pub union_left : (k : ℕ) (f : ℕ → Set) {all : Set} → all ≡ union_up_to k f → f k ≡ ∅ → all ≡ union_up_to (k + 1) f
union_left k f {all} h e = sets (all ∷ []) [] (A ≐ A ∪ₑ ∅ₑ) tt ∙ union_taken k f h (sym e)

pub union_in : (n : ℕ) (f : ℕ → Set) (i : ℕ) → i < n → f i ∖ union_up_to n f ≡ ∅
unfolding union_up_to
union_in zero f i l = absurd (omega arith)
union_in (suc n) f i l = ⊎_elim (λ e. rw e (sets (union_up_to n f ∷ f n ∷ []) [] (B ⊑ A ∪ₑ B) tt))
    (λ m. sets (union_up_to n f ∷ f n ∷ f i ∷ []) (C ⊑ A ∷ []) (C ⊑ A ∪ₑ B) tt (union_in n f i m)) (below_suc i n l)

-- ── inChart? ──

pub list_most : (R : File) → in_chart? R ≡ false → (c : ℕ) → c < R.charts
    → length (R.chart c).transitions ≤ most_in_chart
unfolding in_chart?
list_most R h c l =
    ltb-false most_in_chart _ (any-never R.charts (λ c. ltb most_in_chart (length (R.chart c).transitions)) h c l)

-- ── transitionsIn ──

-- what it rests on
room_for_all : most_in_chart * most_charts ≤ most_transitions
room_for_all = omega arith

pub sum_most : (R : File) → R.charts ≤ most_charts
    → ((c : ℕ) → c < R.charts → length (R.chart c).transitions ≤ most_in_chart)
    → transitions_in R ≤ most_transitions
unfolding transitions_in
sum_most R l h =
    le_trans (tally_most most_in_chart R.charts _ h) (le_trans (mul-le-mul_left most_in_chart l) room_for_all)

-- ── first_of: a test of the sum, whatever its number, behind 42 ──

charts_most : (f : List ℕ) → refusal_of f ≡ 0 → (file_of f).charts ≤ most_charts
unfolding file_of file_at shape_of
charts_most f e = (counted (trailer f) (passed f e).counts).charts

module _ (number : ℕ) where
  -- the list with a test for more transitions of all charts than a file may have, once number 43 (RULES 3.5)
  abbrev pub tests_with_sum : File → List Test
  tests_with_sum F =
      record { number = no_free_signal; applies = no_free? F }
      ∷ record { number = many_from_state; applies = from_state? (rewrite F) }
      ∷ record { number = many_in_chart; applies = in_chart? (rewrite F) }
      ∷ record { number = number; applies = ltb most_transitions (transitions_in (rewrite F)) }
      ∷ record { number = many_nodes; applies = ltb most_nodes (rewrite F).nodes }
      ∷ []

  pub sum_untested : (F : File) → F.charts ≤ most_charts → (us : List Test)
      → first_of (tests_with_sum F ++ us) ≡ first_of (rewrite_tests F ++ us)
  unfolding rewrite_tests
  sum_untested F l us =
      first_of_cong _ _ _ (first_of_cong _ _ _
      (first_of_covered _ _ _ (λ h. le-ltb most_transitions _ (sum_most (rewrite F) l (list_most (rewrite F) h)))))

  -- for every file, refused by 1 to 11 or not
  pub refusal_same : (f : List ℕ) (room : ℕ)
      → first_of (file_tests f ++ (stay_test f ∷ tests_with_sum (file_of f) ++ (record {
        number = short_out;
        applies = ltb room (length (rewrite_bytes f));
      } ∷ [])))
      ≡ rewrite_refusal f room
  unfolding rewrite_refusal
  refusal_same f room =
      ⊎_elim
      (λ (e : refusal_of f ≡ 0).
      call-passed f _ e ∙ first_of_cong (stay_test f) _ _ (sum_untested (file_of f) (charts_most f e) room_test)
      ∙ sym (call-passed f _ e))
      (λ (e : refusal_of f ≡ 0 → ⊥). call_refused f _ e ∙ sym (call_refused f _ e))
      (eq_or-not (refusal_of f) 0)
      ∙ ap first_of (sym (append_assoc (file_tests f) (stay_test f ∷ rewrite_tests (file_of f)) room_test))
    where
      room_test : List Test
      room_test = record { number = short_out; applies = ltb room (length (rewrite_bytes f)) } ∷ []
