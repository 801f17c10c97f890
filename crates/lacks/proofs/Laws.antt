-- Laws of the question. In this order: each refusal where it should be (`refused_file`, `refused_chart`,
-- `refused_place`); else the test of the transition at that place (`shown`); the same of the body of a file, as the
-- code goes (`in_file`); the test is met exactly if the chart could take the transition, were it offered that set
-- (`met_exactly`, `met_permits`); and every answer says what it should, in words (`says`, of files `answers`).
use Rattle.std.specs.Prelude.{◌≡◌, refl, true, ◌&&◌, not, List, [], ◌∷◌, ℕ, zero, suc, Ok, Err, ◌≤◌, ◌<◌, ◌^◌, length}
use Rattle.std.proofs.Common.{sym, ap, subst, ◌∙◌, arith}
use borrow.Author.Tests.{le-ltb, ne_eqb}
use Rattle.signals.specs.Mask.{◌∪◌, ◌∩◌}
use Rattle.signals.specs.Guard.{is_met, Shows}
use Rattle.signals.specs.Guard.Laws.{guard_shows}
use Rattle.layout.specs.Le.{AllBytes}
use Rattle.layout.specs.declared.record.Transition.{Transition}
use Rattle.meaning.specs.Numbers.{no_such_chart, no_such_place}
use Rattle.meaning.specs.Meaning.{Set, same, Chart, no_move, takes, nth, met?, ok_chart}
use Rattle.meaning.specs.File.{File, file_at, file_of, chart_of}
use Rattle.meaning.specs.Check.{first_of, refusal_of, not_below}
use Rattle.meaning.specs.Check.Laws.{first_of_here, first_of-next, first_of_[], call_refused, call-passed, passed}
use Rattle.meaning.specs.Check.Laws.{is_below}
use Rattle.meaning.specs.Laws.Bools.{same_refl}
use Rattle.agreement.specs.Every.{Every}
use Rattle.agreement.specs.Encoded.{Small}
use Rattle.agreement.specs.Passed.{smalls}
use Rattle.lacks.specs.Lacking.{test_of, test_at, place_tests, lacking_refusal, lacking_of, lacking_in, Answers}

-- ── which answer ──

not-below : (m n : ℕ) → n ≤ m → not_below m n ≡ true
not-below m n l = ap not (le-ltb m n l)

module _ (F : File) (chart place : ℕ) where
  pub no_chart : F.charts ≤ chart → first_of (place_tests F chart place) ≡ no_such_chart
  unfolding place_tests
  no_chart l = first_of_here _ _ (not-below chart F.charts l)

  pub no_place : chart < F.charts → length (F.chart chart).transitions ≤ place
      → first_of (place_tests F chart place) ≡ no_such_place
  unfolding place_tests
  no_place l k =
      first_of-next _ _ (is_below chart F.charts l)
      ∙ first_of_here _ _ (not-below place (length (F.chart chart).transitions) k)

  pub both_there : chart < F.charts → place < length (F.chart chart).transitions
      → first_of (place_tests F chart place) ≡ 0
  unfolding place_tests
  both_there l k =
      first_of-next _ _ (is_below chart F.charts l)
      ∙ first_of-next _ _ (is_below place (length (F.chart chart).transitions) k) ∙ first_of_[]

  -- the answer by the first test that applies
  module _ (o : Set) where
    pub in_refused : (r : ℕ) → (r ≡ 0 → ⊥) → first_of (place_tests F chart place) ≡ r
        → Err r ≡ lacking_in F chart place o
    unfolding lacking_in same
    in_refused r h e = rw (e, ne_eqb r 0 h)

    pub in_shown : first_of (place_tests F chart place) ≡ 0
        → Ok (test_at (F.chart chart) place o) ≡ lacking_in F chart place o
    unfolding lacking_in same
    in_shown e = rw e

module _ (f : List ℕ) (chart place : ℕ) (o : Set) where
  -- a file that is refused
  pub refused_file : (refusal_of f ≡ 0 → ⊥) → lacking_of f chart place o ≡ Err (refusal_of f)
  unfolding lacking_of lacking_refusal same
  refused_file h = rw (call_refused f (place_tests (file_of f) chart place) h, ne_eqb (refusal_of f) 0 h)

  module _ (h : refusal_of f ≡ 0) where
    -- one that is not
    pub in_file : lacking_of f chart place o ≡ lacking_in (file_of f) chart place o
    unfolding lacking_of lacking_refusal lacking_in
    in_file = rw (call-passed f (place_tests (file_of f) chart place) h)

    pub refused_chart : (file_of f).charts ≤ chart → lacking_of f chart place o ≡ Err no_such_chart
    refused_chart l = in_file ∙ sym (in_refused (file_of f) chart place o _
        (λ z. absurd (omega (arith, z))) (no_chart (file_of f) chart place l))

    pub refused_place : chart < (file_of f).charts → length ((file_of f).chart chart).transitions ≤ place
        → lacking_of f chart place o ≡ Err no_such_place
    refused_place l k =
        in_file ∙ sym (in_refused (file_of f) chart place o _
        (λ z. absurd (omega (arith, z))) (no_place (file_of f) chart place l k))

    pub shown : chart < (file_of f).charts → place < length ((file_of f).chart chart).transitions
        → lacking_of f chart place o ≡ Ok (test_at ((file_of f).chart chart) place o)
    shown l k = in_file ∙ sym (in_shown (file_of f) chart place o (both_there (file_of f) chart place l k))

-- ── what it means ──

-- the transition at a place
pub at_place : (C : Chart) (place : ℕ) (t : Transition) (o : Set) → nth no_move C.transitions place ≡ takes t
    → test_at C place o ≡ test_of C.feedback t o
unfolding test_at
at_place C place t o e = rw e

-- met exactly if the guard is, and the chart, active, in the transition's state and offered the set, may take it (RULES
-- 5.6, 5.7)
pub met_exactly : (C : Chart) (t : Transition) (o : Set)
    → is_met (test_of C.feedback t o) ≡ met? t (o ∪ (t.action ∩ C.feedback)) (o ∪ (t.action ∩ C.feedback))
unfolding test_of met?
met_exactly C t o = refl

pub met_permits : (C : Chart) (t : Transition) (o : Set)
    → is_met (test_of C.feedback t o) ≡ ok_chart C true o t.from (takes t)
unfolding test_of met? ok_chart
met_permits C t o =
    ap (λ b. b && met? t (o ∪ (t.action ∩ C.feedback)) (o ∪ (t.action ∩ C.feedback))) (sym (same_refl t.from))

-- in words: the named signal is lacking, none below it is, and a barred one is named only where no needed one is
-- missing
pub says : (fed : Set) (t : Transition) (o : Set) → t.needed < 2 ^ 64 → t.barred < 2 ^ 64
    → Shows t.needed t.barred (o ∪ (t.action ∩ fed)) (o ∪ (t.action ∩ fed)) (test_of fed t o)
unfolding test_of
says fed t o n b = guard_shows t.needed t.barred (o ∪ (t.action ∩ fed)) (o ∪ (t.action ∩ fed)) n b

-- the same of files, whose sets have no signals but 0 to 63
some_at : (ts : List Transition) (place : ℕ) → place < length ts → Every Small ts
    → (t : Transition) × ((nth no_move ts place ≡ takes t) × Small t)
unfolding nth
some_at [] place l h = absurd (omega arith)
some_at (t ∷ ts) zero l h = (t, (refl, h.0))
some_at (t ∷ ts) (suc place) l h = some_at ts place (omega arith) h.1

sets_fit : (f : List ℕ) → AllBytes f → refusal_of f ≡ 0 → (chart : ℕ)
    → Every Small ((file_of f).chart chart).transitions
unfolding file_of file_at chart_of
sets_fit f ab e chart = smalls f (passed f e) ab chart

pub answers : (f : List ℕ) → AllBytes f → refusal_of f ≡ 0 → (chart place : ℕ) (o : Set)
    → place < length ((file_of f).chart chart).transitions
    → Answers f chart place o (test_at ((file_of f).chart chart) place o)
answers f ab e chart place o l = go (some_at ((file_of f).chart chart).transitions place l (sets_fit f ab e chart))
  where
    go : ((t : Transition) × ((nth no_move ((file_of f).chart chart).transitions place ≡ takes t) × Small t))
        → Answers f chart place o (test_at ((file_of f).chart chart) place o)
    go (t, (at, fits)) =
        record {
          transition = t;
          at = at;
          permits = ap is_met (at_place ((file_of f).chart chart) place t o at)
              ∙ met_permits ((file_of f).chart chart) t o;
          shows =
              subst (Shows t.needed t.barred (o ∪ (t.action ∩ ((file_of f).chart chart).feedback))
              (o ∪ (t.action ∩ ((file_of f).chart chart).feedback)))
              (sym (at_place ((file_of f).chart chart) place t o at))
              (says ((file_of f).chart chart).feedback t o fits.0 fits.1);
        }
