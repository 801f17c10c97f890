-- What reading a text answers: refusal 50, with the place of the first wrong byte; or of the chart that the text
-- spells, in this order, 51, 52, 1 to 11 on the numbers as read, and 45; or the file. A refusal changes no byte of the
-- buffer.
use Rattle.std.specs.Prelude.{cond, List, [], ◌∷◌, ◌++◌, ℕ, ltb, length}
use Rattle.meaning.specs.Numbers.{most_in_chart, bad_counts, bad_chart, short_out}
use Rattle.meaning.specs.Meaning.{same}
use Rattle.meaning.specs.Check.{Test, first_of, counts?, file_tests}
use Rattle.meaning.specs.Calls.{laid_over}
use Rattle.notation.specs.Syntax.{Chart, depth}
use Rattle.notation.specs.Reader.{Reading, spelt, wrong_at, reader}
use Rattle.reading.specs.Numbers.{most_depth, not_notation, too_deep, bad_name}
use Rattle.reading.specs.Names.{any, names?}
use Rattle.reading.specs.Meant.{charts_of, transitions_in, trailer_for, file_for}

-- ── the tests of a chart ──

-- 51, 52; then 1 to 11. Two of these are tested on numbers that can be too large for their bytes: 3 on the counts, 6 on
-- the transitions of a chart. Once they pass, every number of the file is in its bytes, and 1 to 11 are tested on the
-- file. Last 45: the buffer is shorter than the file.
unfoldable pub chart_tests : Chart → ℕ → List Test
chart_tests t room =
    record { number = too_deep; applies = ltb most_depth (depth t) }
    ∷ record { number = bad_name; applies = names? t }
    ∷ record { number = bad_counts; applies = counts? (trailer_for t) }
    ∷ record { number = bad_chart; applies = any (λ s. ltb most_in_chart (length (transitions_in s))) (charts_of t) }
    ∷ (file_tests (file_for t) ++ (record { number = short_out; applies = ltb room (length (file_for t)) } ∷ []))

-- ── the answer ──

unfoldable pub refusal_in : Reading → ℕ → ℕ
refusal_in (wrong_at k) room = not_notation
refusal_in (spelt t) room = first_of (chart_tests t room)

-- the refusal of a text, for a buffer of so many bytes; 0 for success
unfoldable pub read_refusal : List ℕ → ℕ → ℕ
read_refusal text room = refusal_in (reader text) room

unfoldable pub place_in : Reading → ℕ
place_in (wrong_at k) = k
place_in (spelt t) = 0

-- the place of the first wrong byte; 0 in all other answers
unfoldable pub read_place : List ℕ → ℕ
read_place text = place_in (reader text)

unfoldable pub file_in : Reading → List ℕ
file_in (wrong_at k) = []
file_in (spelt t) = file_for t

-- the file that a text means
unfoldable pub read_file : List ℕ → List ℕ
read_file text = file_in (reader text)

-- its length; 0 if the text is refused
unfoldable pub read_length : List ℕ → ℕ → ℕ
read_length text room = cond (same (read_refusal text room) 0) (length (read_file text)) 0

-- what the buffer holds afterwards
unfoldable pub read_out : List ℕ → List ℕ → List ℕ
read_out text buffer = cond (same (read_refusal text (length buffer)) 0) (laid_over (read_file text) buffer) buffer
