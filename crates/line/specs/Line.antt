-- What the day program prints (RULES 10): numbers in digits, fields, the line of a row, the whole output. Laws are in
-- Line/Laws.antt; the example of RULES 10.4 is in Line/Example.antt.
use Rattle.std.specs.Prelude.{cond, List, [], ◌∷◌, ◌++◌, map, ℕ, zero, suc, ◌+◌, ◌-◌, ◌/◌, ◌%◌, ltb, length, get_or}
use Rattle.std.specs.Prelude.{take, drop}
use Prim.Native.Char.{code}
use Rattle.layout.specs.Le.{le}
use Rattle.meaning.specs.Numbers.{most_input, input_too_long, odd_front}
use Rattle.meaning.specs.Meaning.{Set, ∅, same}
use Rattle.meaning.specs.File.{file_of, end_of, trailer}
use Rattle.meaning.specs.Check.{first_of, file_tests, differ}
use Rattle.meaning.specs.Calls.{initials, rows_of}
use Rattle.line.specs.Ascii.{ascii}
pub mod Laws
pub mod Example

-- ── numbers ──

-- 0 to 9, then a to f, in lower case (RULES 10.3)
unfoldable pub digit : ℕ → ℕ
digit d = cond (ltb d 10) (code "0" + d) (code "a" + (d - 10))

-- the n lowest digits of a number, the most significant one first (RULES 10.3)
unfoldable pub digits : ℕ → ℕ → ℕ → List ℕ
digits base zero x = []
digits base (suc n) x = digits base n (x / base) ++ (digit (x % base) ∷ [])

-- n digits in hex; an output has 16 (RULES 10.3)
abbrev pub hex : ℕ → ℕ → List ℕ
hex n x = digits 16 n x

-- how many decimal digits a number has, up to a limit: one, and one more for each division that it takes to get below
-- ten
unfoldable pub width_to : ℕ → ℕ → ℕ
width_to zero x = 0
width_to (suc n) x = cond (ltb x 10) 1 (suc (width_to n (x / 10)))

-- a number has fewer divisions in it than units
unfoldable pub width : ℕ → ℕ
width x = width_to (suc x) x

-- a number in decimal, without leading zeros (RULES 10.3)
unfoldable pub decimal : ℕ → List ℕ
decimal x = digits 10 (width x) x

-- ── fields ──

-- each part behind a byte
unfoldable pub behind : ℕ → List (List ℕ) → List ℕ
behind b [] = []
behind b (p ∷ ps) = b ∷ p ++ behind b ps

-- parts with a byte between each two
unfoldable pub joined : ℕ → List (List ℕ) → List ℕ
joined b [] = []
joined b (p ∷ ps) = p ++ behind b ps

-- what is between two fields, between two states, and at the end of a line (RULES 10.3)
abbrev pub space : ℕ
space = code " "

abbrev pub dot : ℕ
dot = code "."

abbrev pub newline : ℕ
newline = 10

-- the line that has these fields (RULES 10.3)
unfoldable pub fields : List (List ℕ) → List ℕ
fields fs = joined space fs ++ (newline ∷ [])

-- what follows the first field, to the line's end
abbrev pub closing : List (List ℕ) → List ℕ
closing fs = behind space fs ++ (newline ∷ [])

-- the field of the states (RULES 10.3)
unfoldable pub dotted : List ℕ → List ℕ
dotted states = joined dot (map decimal states)

-- ── a line ──

-- the field of the mark, by a row's: 1 for yes (RULES 6.3, 10.3)
unfoldable pub letter : ℕ → ℕ
letter mark = cond (same mark 1) (code "y") (code "n")

-- the fields of a step that is given: output, states, mark (RULES 10.3). A row has the output in its first 8 bytes, the
-- mark in byte 8 and the configuration from byte 10 on (RULES 6.3).
abbrev pub given_fields : List ℕ → List (List ℕ)
given_fields row = hex 16 (le 8 row) ∷ dotted (drop 10 row) ∷ (letter (get_or row 8 0) ∷ []) ∷ []

-- two parts of such a line: the output with a space on either side, and the mark with a space before it, to the line's
-- end
abbrev pub output_part : Set → List ℕ
output_part output = space ∷ hex 16 output ++ (space ∷ [])

abbrev pub mark_part : ℕ → List ℕ
mark_part mark = space ∷ letter mark ∷ newline ∷ []

-- the fields of a refusal: the word and the number (RULES 10.2, 10.3)
abbrev pub refused_fields : ℕ → List (List ℕ)
refused_fields refusal = ascii "refused" ∷ decimal refusal ∷ []

-- byte 9 of a row is 0 or the refusal (RULES 6.3)
unfoldable pub row_fields : List ℕ → List (List ℕ)
row_fields row = cond (same (get_or row 9 0) 0) (given_fields row) (refused_fields (get_or row 9 0))

-- the line of an input, by its number and its row (RULES 10.3)
unfoldable pub line_of : ℕ → List ℕ → List ℕ
line_of number row = fields (decimal number ∷ row_fields row)

-- the one line for a file that is refused (RULES 10.2)
unfoldable pub file_refused : ℕ → List ℕ
file_refused n = fields (ascii "file" ∷ refused_fields n)

-- ── the output ──

-- how many bytes the front has (RULES 2.1)
unfoldable pub front_of : List ℕ → ℕ
front_of f = end_of f - (trailer f).distance

-- 31, then 1 to 11, then 30 (RULES 3.4, 10.2)
unfoldable pub day_refusal : List ℕ → ℕ
day_refusal f =
    first_of
    (record { number = input_too_long; applies = ltb most_input (length f) }
    ∷ file_tests f ++ (record { number = odd_front; applies = differ (front_of f % 8) 0 } ∷ []))

-- the first n inputs of the front, 8 bytes each (RULES 10.1)
unfoldable pub inputs_of : ℕ → List ℕ → List Set
inputs_of zero s = []
inputs_of (suc n) s = le 8 s ∷ inputs_of n (drop 8 s)

-- the lines of n rows of w bytes each, numbered from k on (RULES 10.3)
unfoldable pub lines_of : ℕ → ℕ → ℕ → List ℕ → List ℕ
lines_of w k zero rows = []
lines_of w k (suc n) rows = line_of k (take w rows) ++ lines_of w (suc k) n (drop w rows)

-- the lines of a run from the first configuration, with ∅ carried (RULES 10.1)
unfoldable pub day_lines : List ℕ → ℕ → List ℕ
day_lines f n = lines_of (10 + (file_of f).charts) 1 n (rows_of (file_of f) (initials f) ∅ (inputs_of n f))

-- what is printed for the bytes on standard input (RULES 10.2, 10.3)
unfoldable pub day_of : List ℕ → List ℕ
day_of f = cond (same (day_refusal f) 0) (day_lines f (front_of f / 8)) (file_refused (day_refusal f))

-- the same, by the first 65,536 bytes, or all if there are fewer, and by how many come behind them (RULES 10.1)
unfoldable pub day_from : List ℕ → ℕ → List ℕ
day_from s behind = cond (ltb 0 behind) (file_refused input_too_long) (day_of s)
