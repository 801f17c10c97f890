-- The records of the sequential charts of a text: their heads, and then their transitions, laid down in the order of
-- the charts' numbers. What is written is right if there is room for it; without room nothing is.
use Rattle.std.specs.Prelude.{◌≡◌, false, ◌||◌, List, ◌∷◌, ◌++◌, map, ℕ, ◌≤◌, ◌<◌, ◌%◌, length, drop, get_or}
use Rattle.layout.specs.Record.{head_bytes, transition_bytes}
use Rattle.layout.specs.declared.record.Head.{Head}
use Rattle.layout.specs.declared.record.Transition.{Transition as Record}
use Rattle.meaning.specs.Each.{Each}
use Rattle.notation.specs.Syntax.{OneOrMore, Transition, Sequential}
use Rattle.notation.specs.Grammar.{rbrace, sign, Tokens, of_transition_list, Text}
use Rattle.reading.specs.Numbers.{named_states}
use Rattle.reading.specs.Names.{members_of, members_or, any, signals?, set?, signal_of, sequential?}
use Rattle.reading.specs.Meant.{all, gathered, transition_for, transitions_in, head_for}
use Rattle.fields.specs.declared.Passage.{Passage}
use Rattle.lists.specs.Lists.{more_of}
use Rattle.laying.specs.Room.{Tries}
use Rattle.roster.specs.declared.Roster.{Roster}
use Rattle.roster.specs.Roster.{crowded?, StandsAt, Charted}

-- ── bytes ──

-- the bytes of a chart's head, of a transition, and of a chart's transitions
unfoldable pub head_of : Sequential → List ℕ
head_of s = head_bytes (head_for s)

unfoldable pub line_of : Transition → List ℕ
line_of u = transition_bytes (transition_for u)

unfoldable pub lines_of : Sequential → List ℕ
lines_of s = all line_of (transitions_in s)

-- ── one chart ──

-- p is the c-th place, cut at the end of the text
abbrev pub PlaceOf : List ℕ → Roster → ℕ → ℕ → Type 0
PlaceOf w r c p = (p ≤ length w) × (c < 16 → drop p w ≡ drop (get_or r.places c 0) w)

-- h is the head of the chart that stands at a place
abbrev pub HeadAt : List ℕ → ℕ → Head → Type 0
HeadAt w at h = (s : Sequential) → StandsAt w at s → sequential? s ≡ false → crowded? s ≡ false → h ≡ head_for s

-- a transition as it is read, its states in a byte each
unfoldable pub record_of : Passage → Record
record_of p =
    record {
      from = p.from % 256;
      to = p.to % 256;
      needed = p.needed;
      barred = p.barred;
      action = p.action;
    }

-- every number of a transition is in range
pub record InRange (t : Transition) : Type 0 where
  pub from : t.from < named_states
  pub to : t.to < named_states
  pub sets : (signals? (map signal_of (members_or t.guard)) || set? t.action) ≡ false

-- the transitions that stand at a place, each behind a comma, are written
abbrev pub LinesMore : List ℕ → ℕ → List ℕ → ℕ → List ℕ → ℕ → Type 0
LinesMore w at before to after next =
    (ts : List Transition) (us : Tokens) → Text (more_of ts ++ (sign rbrace ∷ us)) (drop at w) → Each InRange ts
    → Tries before to (all line_of ts) after next

-- the transitions that stand at a place are written
abbrev pub LinesFrom : List ℕ → ℕ → List ℕ → ℕ → List ℕ → ℕ → Type 0
LinesFrom w at before to after next =
    (ts : OneOrMore Transition) (us : Tokens) → Text (of_transition_list ts ++ (sign rbrace ∷ us)) (drop at w)
    → Each InRange (members_of ts) → Tries before to (all line_of (members_of ts)) after next

-- the transitions of the chart that stands at a place are written
abbrev pub LinesAt : List ℕ → ℕ → List ℕ → ℕ → List ℕ → ℕ → Type 0
LinesAt w at before to after next =
    (s : Sequential) → StandsAt w at s → sequential? s ≡ false → Tries before to (lines_of s) after next

-- ── all charts ──

-- of the charts that r has, the heads are written; and the transitions
abbrev pub HeadsPut : List ℕ → Roster → List ℕ → ℕ → List ℕ → ℕ → Type 0
HeadsPut w r before at after next =
    (ss : List Sequential) → Charted w r ss → any sequential? ss ≡ false → any crowded? ss ≡ false
    → Tries before at (all (λ s. head_bytes (head_for s)) ss) after next

abbrev pub TransitionsPut : List ℕ → Roster → List ℕ → ℕ → List ℕ → ℕ → Type 0
TransitionsPut w r before at after next =
    (ss : List Sequential) → Charted w r ss → any sequential? ss ≡ false
    → Tries before at (all (λ u. transition_bytes (transition_for u)) (gathered transitions_in ss)) after next
