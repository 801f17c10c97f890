-- Clearing (RULES 12): a file of edition 1 without its dead transitions, which no step can take. In this order: which
-- are dead; a list, a chart and a file without them; the places of a step in the new lists; what the call answers. That
-- the cleared file steps as the file does is in Calls.
use Rattle.std.specs.Prelude.{Bool, ◌||◌, cond, List, [], ◌∷◌, ◌++◌, ℕ, zero, suc, ltb, length}
use Rattle.signals.specs.Mask.{◌∪◌, ◌∩◌, ◌∖◌}
use Rattle.layout.specs.declared.record.Transition.{Transition}
use Rattle.meaning.specs.Numbers.{short_out, no_place}
use Rattle.meaning.specs.Meaning.{Set, ∅, same, Chart, guards}
use Rattle.meaning.specs.File.{File, file_of}
use Rattle.meaning.specs.Check.{differ, first_of, file_tests}
use Rattle.meaning.specs.Calls.{laid_over}
use Rattle.meaning.specs.Rewriting.{encode, stay_test}

-- ── dead transitions ──

-- the transition needs a signal and bars it too; or it bars one that it outputs, which its chart's own feedback set,
-- fed, offers it again (RULES 12.2). What nodes or an enclosing master feed back does not count.
unfoldable pub dead : Set → Transition → Bool
dead fed t = differ (t.needed ∩ t.barred) ∅ || differ (t.barred ∩ (t.action ∩ fed)) ∅

-- a list without them, in its old order (RULES 12.3)
unfoldable pub alive : Set → List Transition → List Transition
alive fed [] = []
alive fed (t ∷ ts) = cond (dead fed t) (alive fed ts) (t ∷ alive fed ts)

-- ── the cleared file ──

-- the signals that some guard of the chart named before, and none names after (RULES 12.3)
unfoldable pub lost : Chart → Set
lost C = guards C.transitions ∖ guards (alive C.feedback C.transitions)

-- a chart without its dead transitions; the lost signals join its extra set, so that its input interface stays (RULES
-- 12.3)
unfoldable pub cleared_chart : Chart → Chart
cleared_chart C =
    record {
      states = C.states;
      initial = C.initial;
      transitions = alive C.feedback C.transitions;
      feedback = C.feedback;
      extra = C.extra ∪ lost C;
      stays = C.stays;
    }

-- the file with all its charts cleared; slaves and nodes stay (RULES 12.3)
abbrev pub clear : File → File
clear F =
    record {
      charts = F.charts;
      chart = λ c. cleared_chart (F.chart c);
      slaves = F.slaves;
      master = F.master;
      state = F.state;
      node = F.node;
      nodes = F.nodes;
      kind = F.kind;
      a = F.a;
      b = F.b;
      x = F.x;
      y = F.y;
    }

-- ── places ──

-- how many of the first k transitions of a list are left: the place that transition k has in the new list (RULES 12.5)
unfoldable pub lives : Set → List Transition → ℕ → ℕ
lives fed [] k = 0
lives fed (t ∷ ts) zero = 0
lives fed (t ∷ ts) (suc k) = cond (dead fed t) (lives fed ts k) (suc (lives fed ts k))

-- a chart's place in the new list (RULES 5.11); 255 stays
unfoldable pub new_place : Chart → ℕ → ℕ
new_place C p = cond (same p no_place) no_place (lives C.feedback C.transitions p)

-- the same of charts c, c + 1, ..
unfoldable pub new_places : (ℕ → Chart) → ℕ → List ℕ → List ℕ
new_places E c [] = []
new_places E c (p ∷ ps) = new_place (E c) p ∷ new_places E (suc c) ps

-- ── what the call answers: 1 to 11, 46 for edition 2, 45 (RULES 12.4) ──

-- the result, without a front (RULES 12.3)
unfoldable pub clear_bytes : List ℕ → List ℕ
clear_bytes f = encode (clear (file_of f))

-- 45: the buffer is too short for the result (RULES 3.5)
unfoldable pub clear_refusal : List ℕ → ℕ → ℕ
clear_refusal f room =
    first_of
    (file_tests f ++ (stay_test f ∷ record { number = short_out; applies = ltb room (length (clear_bytes f)) } ∷ []))

-- the length of the result; 0 if the call is refused (RULES 1.4)
unfoldable pub clear_length : List ℕ → ℕ → ℕ
clear_length f room = cond (same (clear_refusal f room) 0) (length (clear_bytes f)) 0

-- what the caller's buffer holds after the call (RULES 1.4)
unfoldable pub clear_out : List ℕ → List ℕ → List ℕ
clear_out f buffer = cond (same (clear_refusal f (length buffer)) 0) (laid_over (clear_bytes f) buffer) buffer
