-- The words by which the theorems on posted days are read, in this order: entries of a case, and days alike; a row that
-- was posted; days one after another.
use Rattle.std.specs.Prelude.{◌≡◌, cond, List, [], ◌∷◌, ◌++◌, ℕ, ◌+◌, ◌*◌, length, take, drop}
use Rattle.signals.specs.Mask.{◌∪◌}
use Rattle.meaning.specs.Meaning.{Set, same}
use Rattle.meaning.specs.File.{file_of}
use Rattle.desk.specs.declared.Case.{Case}
use Rattle.desk.specs.declared.Entry.{Entry}
use Rattle.desk.specs.Posting.{joined, post_refusal, post_cases, post_rows}

-- ── entries ──

-- the entries of case k
unfoldable pub mine : ℕ → List Entry → List Entry
mine k [] = []
mine k (e ∷ es) = cond (same e.number k) (e ∷ mine k es) (mine k es)

-- two entries for one case, joined beforehand
abbrev pub both : Entry → Entry → Entry
both a b = record { number = a.number; signals = a.signals ∪ b.signals }

-- two days that differ in the order of their entries, and in what was joined beforehand: neighbours are exchanged, or
-- joined if they are for one case, at any place, back and forth, any number of times
pub data Alike : List Entry → List Entry → Type 0 where
  alike_none : Alike [] []
  alike_on : (e : Entry) {es fs : List Entry} → Alike es fs → Alike (e ∷ es) (e ∷ fs)
  alike_swap : (a b : Entry) (es : List Entry) → Alike (a ∷ b ∷ es) (b ∷ a ∷ es)
  alike_join : (a b : Entry) (es : List Entry) → a.number ≡ b.number → Alike (a ∷ b ∷ es) (both a b ∷ es)
  alike_back : {es fs : List Entry} → Alike es fs → Alike fs es
  alike_then : {es fs gs : List Entry} → Alike es fs → Alike fs gs → Alike es gs

-- ── a row ──

-- row k of the rows that a call wrote
abbrev pub posted_at : List ℕ → List ℕ → ℕ → List ℕ
posted_at f rows k = take (14 + (file_of f).charts) (drop (k * (14 + (file_of f).charts)) rows)

-- ── days one after another, each with a buffer as long as `rows` ──

-- the records after them
unfoldable pub post_days : List ℕ → List Case → List (List Entry) → List ℕ → List Case
post_days f cases [] rows = cases
post_days f cases (day ∷ days) rows = post_days f (post_cases f cases day (length rows)) days rows

-- no day of them is refused
unfoldable pub DaysPosted : List ℕ → List Case → List (List Entry) → List ℕ → Type 0
DaysPosted f cases [] rows = Unit {0}
DaysPosted f cases (day ∷ days) rows =
    (post_refusal f cases day (length rows) ≡ 0) × DaysPosted f (post_cases f cases day (length rows)) days rows

-- the rows of case k, day by day, each without its number
unfoldable pub case_rows : List ℕ → List Case → List (List Entry) → List ℕ → ℕ → List ℕ
case_rows f cases [] rows k = []
case_rows f cases (day ∷ days) rows k =
    drop 4 (posted_at f (post_rows f cases day rows) k)
    ++ case_rows f (post_cases f cases day (length rows)) days rows k

-- what arrived for case k, day by day
unfoldable pub arrived : ℕ → List (List Entry) → List Set
arrived k [] = []
arrived k (day ∷ days) = joined k day ∷ arrived k days
