-- What a transition lacks (RULES 13): the test of its guard on a set that the one who asks gives, and what the call
-- answers. Laws are in proofs/Laws.antt.
use Rattle.std.specs.Prelude.{◌≡◌, true, cond, List, [], ◌∷◌, ◌++◌, ℕ, length, Result, Ok, Err}
use Rattle.signals.specs.Mask.{◌∪◌, ◌∩◌}
use Rattle.signals.specs.Guard.{guard, is_met, case_of, signal_of, Shows}
use Rattle.signals.specs.declared.guard.Tested.{Tested}
use Rattle.signals.specs.declared.guard.Tested.TheVariants.{Met}
use Rattle.layout.specs.declared.record.Transition.{Transition}
use Rattle.meaning.specs.Numbers.{no_such_chart, no_such_place}
use Rattle.meaning.specs.Meaning.{Set, same, Chart, Move, no_move, takes, stay, nth, ok_chart}
use Rattle.meaning.specs.File.{File, file_of}
use Rattle.meaning.specs.Check.{Test, first_of, file_tests, not_below}

-- ── the test ──

-- a transition's guard on the offered set, joined with what its own action feeds back to its chart, whose feedback set
-- is fed (RULES 5.6, 13.1)
unfoldable pub test_of : Set → Transition → Set → Tested
test_of fed t o = guard t.needed t.barred (o ∪ (t.action ∩ fed)) (o ∪ (t.action ∩ fed))

-- the same of a move: only a transition has a guard
abbrev pub test_of_move : Set → Move → Set → Tested
test_of_move fed no_move o = Met
test_of_move fed (takes t) o = test_of fed t o
test_of_move fed stay o = Met

-- the same of the transition at a place of a chart's list
unfoldable pub test_at : Chart → ℕ → Set → Tested
test_at C place o = test_of_move C.feedback (nth no_move C.transitions place) o

-- ── the call: 1 to 11, 25, 26 (RULES 3.6) ──

-- 25: there is no chart of that number; 26: its list has no such place (RULES 3.3)
unfoldable pub place_tests : File → ℕ → ℕ → List Test
place_tests F chart place =
    record { number = no_such_chart; applies = not_below chart F.charts }
    ∷ record { number = no_such_place; applies = not_below place (length (F.chart chart).transitions) }
    ∷ []

unfoldable pub lacking_refusal : List ℕ → ℕ → ℕ → ℕ
lacking_refusal f chart place = first_of (file_tests f ++ place_tests (file_of f) chart place)

-- what `lacking` answers: the test of the guard, or the number of the refusal (RULES 13.2)
unfoldable pub lacking_of : List ℕ → ℕ → ℕ → Set → Result Tested ℕ
lacking_of f chart place o =
    cond (same (lacking_refusal f chart place) 0)
    (Ok (test_at ((file_of f).chart chart) place o))
    (Err (lacking_refusal f chart place))

-- its answer for a file that passed 1 to 11
unfoldable pub lacking_in : File → ℕ → ℕ → Set → Result Tested ℕ
lacking_in F chart place o =
    cond (same (first_of (place_tests F chart place)) 0)
    (Ok (test_at (F.chart chart) place o))
    (Err (first_of (place_tests F chart place)))

-- ── the answer in numbers (RULES 13.2) ──

-- its refusal; 0, 1 or 2 as the guard is met, a needed signal is absent, or a barred one is present; and that signal.
-- What does not apply is 0.
abbrev pub refusal_in : Result Tested ℕ → ℕ
refusal_in (Err r) = r
refusal_in (Ok t) = 0

abbrev pub case_in : Result Tested ℕ → ℕ
case_in (Err r) = 0
case_in (Ok t) = case_of t

abbrev pub signal_in : Result Tested ℕ → ℕ
signal_in (Err r) = 0
signal_in (Ok t) = signal_of t

-- ── the answer in words (RULES 13.3) ──

-- what the answer r for a place of a chart of a file says, where the call is not refused
pub record Answers (f : List ℕ) (chart place : ℕ) (o : Set) (r : Tested) : Type 0 where
  pub transition : Transition
  -- it is about the transition at that place
  pub at : nth no_move ((file_of f).chart chart).transitions place ≡ takes transition
  -- it is met exactly if the chart, active and in the transition's state, may take the transition where it is offered
  -- the set (RULES 5.7)
  pub permits : is_met r ≡ ok_chart ((file_of f).chart chart) true o transition.from (takes transition)
  -- otherwise it names the signal that is to blame
  pub shows : Shows transition.needed transition.barred
      (o ∪ (transition.action ∩ ((file_of f).chart chart).feedback))
      (o ∪ (transition.action ∩ ((file_of f).chart chart).feedback)) r
