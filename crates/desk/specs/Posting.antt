-- The posting of a day for a whole book (RULES 11). A book is one chart file and a list of case records; a day is a
-- list of entries. In this order: limits; a case and its entries; the refusals in order; a case posted;
-- the book posted; the call.
use Rattle.std.specs.Prelude.{◌≡◌, Bool, true, false, cond, ◌||◌, List, [], ◌∷◌, ◌++◌, ℕ, zero, suc, ◌+◌, ◌*◌, ltb, leb}
use Rattle.std.specs.Prelude.{length, get_or, Result}
use Rattle.signals.specs.Mask.{◌∪◌}
use Rattle.layout.specs.Le.{bytes}
use Rattle.meaning.specs.Meaning.{Set, ∅, same, Answer}
use Rattle.meaning.specs.File.{File, file_of}
use Rattle.meaning.specs.Check.{Test, first_of, file_tests}
use Rattle.meaning.specs.Calls.{made, laid_over, config_tests, step_in, next_in, row_of, carried_after}
use Rattle.meaning.specs.Numbers.{most_charts}
pub use Rattle.meaning.specs.Numbers.{bad_book, no_such_case, rows_end, short_book}
use Rattle.checks.specs.Refusals.{Answers}
use Rattle.checks.specs.declared.refusal.Refusal.{Refusal}
use Rattle.desk.specs.declared.Case.{Case}
use Rattle.desk.specs.declared.Entry.{Entry}
pub mod Laws

-- ── limits; the refusals, 60 to 63, are with all others ──

-- cases of a book (RULES 3.7)
abbrev pub most_cases : ℕ
most_cases = 64

-- the highest number of a row: it has four bytes (RULES 11.4)
abbrev pub last_row : ℕ
last_row = 4294967295

-- the bytes that a record has for its configuration (RULES 11.1)
abbrev pub width : ℕ
width = most_charts

-- ── a case and its entries ──

-- the configuration of a record: its first `length` bytes; past those that the record has, they count as 0 (RULES 11.1)
abbrev pub config_of : Case → List ℕ
config_of c = made c.length (λ k. get_or c.config k 0)

-- all that arrived for case k: its entries joined, and the empty set if it has none (RULES 11.2)
unfoldable pub joined : ℕ → List Entry → Set
joined k [] = ∅
joined k (e ∷ es) = cond (same e.number k) (e.signals ∪ joined k es) (joined k es)

-- ── the refusals, in order ──

-- 20 and 21 of each case in turn: the first bad case decides, also past the cases that a book may have (RULES 11.6)
unfoldable pub book_tests : List ℕ → List Case → List Test
book_tests f [] = []
book_tests f (c ∷ cs) = config_tests f (config_of c) ++ book_tests f cs

-- 61, in a book of n cases
unfoldable pub outside? : ℕ → List Entry → Bool
outside? n [] = false
outside? n (e ∷ es) = leb n e.number || outside? n es

-- 62
unfoldable pub ended? : List Case → Bool
ended? [] = false
ended? (c ∷ cs) = leb last_row c.last || ended? cs

-- 60 to 63; a row has 14 bytes and one for each chart (RULES 3.7, 11.4)
unfoldable pub day_tests : List ℕ → List Case → List Entry → ℕ → List Test
day_tests f cases entries room =
    record { number = bad_book; applies = same (length cases) 0 || ltb most_cases (length cases) }
    ∷ record { number = no_such_case; applies = outside? (length cases) entries }
    ∷ record { number = rows_end; applies = ended? cases }
    ∷ record { number = short_book; applies = ltb room (length cases * (14 + (file_of f).charts)) }
    ∷ []

-- 1 to 11; 20 and 21; 60 to 63 (RULES 3.6, 11.6)
unfoldable pub post_refusal : List ℕ → List Case → List Entry → ℕ → ℕ
post_refusal f cases entries room = first_of (file_tests f ++ (book_tests f cases ++ day_tests f cases entries room))

-- ── a case posted: i is what arrived for it ──

-- the step from its configuration, under what it carries joined with what arrived (RULES 11.3)
abbrev pub answer_to : File → Case → Set → Answer
answer_to F c i = step_in F (config_of c) (c.carried ∪ i)

-- its row, given or refused: the new number in 4 bytes, then a row as a run has it (RULES 6.3, 11.4)
unfoldable pub posted_row : File → Case → Set → List ℕ
posted_row F c i = bytes 4 (c.last + 1) ++ row_of (answer_to F c i) (config_of c)

-- its record then: the next configuration over the front of the old bytes, what is carried on (RULES 6.4), the number
-- of the new row (RULES 11.5)
unfoldable pub posted_case : File → Case → Set → Case
posted_case F c i = record {
  carried = carried_after (answer_to F c i) (c.carried ∪ i);
  last = c.last + 1;
  length = c.length;
  config = next_in (answer_to F c i) c.config;
}

-- ── the book posted: every case has one row, in the order of the cases; the first of them has number k (RULES 11.3) ──

unfoldable pub rows_from : File → ℕ → List Case → List Entry → List ℕ
rows_from F k [] entries = []
rows_from F k (c ∷ cs) entries = posted_row F c (joined k entries) ++ rows_from F (suc k) cs entries

unfoldable pub cases_from : File → ℕ → List Case → List Entry → List Case
cases_from F k [] entries = []
cases_from F k (c ∷ cs) entries = posted_case F c (joined k entries) ∷ cases_from F (suc k) cs entries

-- ── the call: a refusal changes nothing, and bytes behind the rows are unchanged (RULES 1.4) ──

-- what the records hold after it
unfoldable pub post_cases : List ℕ → List Case → List Entry → ℕ → List Case
post_cases f cases entries room =
    cond (same (post_refusal f cases entries room) 0) (cases_from (file_of f) 0 cases entries) cases

-- what the row buffer holds after it
unfoldable pub post_rows : List ℕ → List Case → List Entry → List ℕ → List ℕ
post_rows f cases entries rows =
    cond (same (post_refusal f cases entries (length rows)) 0)
    (laid_over (rows_from (file_of f) 0 cases entries) rows) rows

-- the contract: r is the result, and cs and rs are what the records and the row buffer hold
abbrev pub PostSays : List ℕ → List Case → List Entry → List ℕ → Result (Unit {0}) Refusal → List Case → List ℕ → Type 0
PostSays f cases entries rows r cs rs =
    Answers (post_refusal f cases entries (length rows)) tt r
    × (cs ≡ post_cases f cases entries (length rows))
    × (rs ≡ post_rows f cases entries rows)
