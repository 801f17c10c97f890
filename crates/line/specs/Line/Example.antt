-- The example of RULES 10.4, and files that are refused, by computation.
use Rattle.std.specs.Prelude.{◌≡◌, refl, List, [], ◌∷◌, ◌++◌, ℕ, length, take, drop, replicate}
use Rattle.layout.specs.Le.{le, bytes}
use Rattle.layout.specs.Record.{trailer_of, head_of, transition_of, slave_of, node_of}
use Rattle.layout.specs.Body.{head_at, transition_at, slave_at, node_at, start_of, from, transitions_of}
use Rattle.meaning.specs.Sums.{any_up_to, tally}
use Rattle.signals.specs.Guard.{guard}
use Rattle.meaning.specs.Meaning.{same, nth, pick, last_place, met?, action_of, after, guards, in_face_chart, in_face}
use Rattle.meaning.specs.Meaning.{in_faces, out, outs, ok_chart, meets, ok, oks, permitted, upd, moves, nexts, place_of}
use Rattle.meaning.specs.Meaning.{places_from, upto, outcome_of, outcome, search, outcomes, eq_list, agree, answer}
use Rattle.meaning.specs.File.{gather, build, tree_of, Has, HasS, trailer, body_of, shape_of, chart_of, file_at}
use Rattle.meaning.specs.File.{file_of}
use Rattle.meaning.specs.Check.{first_of, edition?, counts?, distance?, nonzero, zeros?, chart?, charts?, ends?}
use Rattle.meaning.specs.Check.{leaving}
use Rattle.meaning.specs.Check.{transitions?, rising, slave?, slaves?, node_of_kind?, nodes?, names, named, held}
use Rattle.meaning.specs.Check.{naming?}
use Rattle.meaning.specs.Check.{inside?, file_tests, refusal_of}
use Rattle.meaning.specs.Open.{open_chart, open_tree, is_open, choices, how_many, open_choices}
use Rattle.meaning.specs.Calls.{made, initials, found_in, many_open?, step_in, row_of, rows_of}
use Rattle.line.specs.Ascii.{ascii}
use Rattle.line.specs.Line.{digit, digits, width_to, width, decimal, behind, joined, fields, dotted, letter}
use Rattle.line.specs.Line.{row_fields, line_of, file_refused, front_of, day_refusal, inputs_of, lines_of, day_lines}
use Rattle.line.specs.Line.{day_of}

abbrev zeros : ℕ → List ℕ
zeros n = replicate n 0

-- the inputs {0}, ∅ and {1}
front : List ℕ
front = bytes 8 1 ++ bytes 8 0 ++ bytes 8 2

-- one chart with two states and the initial state 0: 0 to 1 needs {0} and outputs {1}, 1 to 0 needs {1}; no feedback,
-- no extra set; one node
chart : List ℕ
chart =
    (2 ∷ 0 ∷ 2 ∷ zeros 21)
    ++ (0 ∷ 1 ∷ 0 ∷ 0 ∷ bytes 8 1 ++ bytes 8 0 ++ bytes 8 2)
    ++ (1 ∷ 0 ∷ 0 ∷ 0 ∷ bytes 8 2 ++ bytes 8 0 ++ bytes 8 0)
    ++ zeros 20
    ++ (0x64 ∷ 0 ∷ 0 ∷ 0 ∷ 1 ∷ 0 ∷ 1 ∷ 1 ∷ 2 ∷ 0 ∷ 0 ∷ 0 ∷ [])

pub case : List ℕ
unfolding front chart
case = front ++ chart

-- 24 bytes of inputs, 100 of the body, 12 of the trailer
pub case_length : length case ≡ 136
unfolding case bytes
case_length = refl

-- all of it; without the front (no line, RULES 10.3); with a front of 23 bytes; without the last byte (no charts);
-- nothing at all
pub outputs : List (List ℕ)
unfolding case chart
outputs = day_of case ∷ day_of chart ∷ day_of (drop 1 case) ∷ day_of (take 135 case) ∷ day_of [] ∷ []

pub printed : outputs ≡ ascii "1 0000000000000002 1 y\n2 refused 23\n3 0000000000000000 0 y\n"
    ∷ []
    ∷ ascii "file refused 30\n"
    ∷ ascii "file refused 3\n"
    ∷ ascii "file refused 1\n"
    ∷ []
unfolding outputs case chart le bytes trailer_of head_of transition_of slave_of node_of head_at transition_at slave_at
    node_at start_of from transitions_of any_up_to tally same nth pick last_place action_of after guard met? guards
    in_face_chart in_face in_faces out outs ok_chart meets ok oks permitted upd moves nexts place_of places_from upto
    outcome_of outcome search outcomes eq_list agree answer gather build tree_of Has HasS trailer body_of shape_of
    chart_of file_at file_of first_of edition? counts? distance? nonzero zeros? chart? charts? ends? leaving
    transitions? rising slave? slaves? node_of_kind? nodes? names named held naming? inside? file_tests refusal_of made
    initials open_chart open_tree is_open choices how_many open_choices found_in many_open? step_in row_of rows_of digit
    digits width_to width decimal behind joined fields dotted letter row_fields line_of file_refused front_of
    day_refusal inputs_of lines_of day_lines day_of
printed = refl

-- 31 comes first: these bytes have no chart
pub too_long : day_of (zeros 65537) ≡ ascii "file refused 31\n"
unfolding same first_of digit digits width_to width decimal behind joined fields file_refused day_refusal day_of
too_long = refl
