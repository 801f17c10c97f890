-- What reading a text into a file promises: the result, and what the caller's buffer holds after the call, for every
-- text and buffer (docs/NOTATION.md 5). b is what the buffer holds before the call, and c what it holds after it.
use Rattle.std.specs.Prelude.{◌≡◌, cond, List, [], ◌∷◌, ◌++◌, ℕ, ltb, length, Result, Ok, Err}
use Rattle.meaning.specs.Numbers.{short_out}
use Rattle.meaning.specs.Meaning.{same}
use Rattle.meaning.specs.Check.{Test, first_of, file_tests}
use Rattle.meaning.specs.Calls.{laid_over}
use Rattle.checks.specs.Refusals.{number}
use Rattle.notation.specs.Syntax.{Chart}
use Rattle.reading.specs.Meant.{file_for}
use Rattle.reading.specs.Read.{chart_tests, read_refusal, read_length, read_place, read_out}
use Rattle.texts.specs.declared.Refused.{Refused}

-- ── the call ──

-- what is answered, where n is 0 or the number of the first refusal that applies, k the length of the file if none
-- does, and p the place of the first wrong byte, 0 where there is none
abbrev pub Reads : ℕ → ℕ → ℕ → Result ℕ Refused → Type 0
Reads n k p (Ok x) = (n ≡ 0) × (x ≡ k) × (p ≡ 0)
Reads n k p (Err e) = (number e.refusal ≡ n) × (e.place ≡ p)

abbrev pub ReadSays : List ℕ → List ℕ → Result ℕ Refused → List ℕ → Type 0
ReadSays text b r c =
    Reads (read_refusal text (length b)) (read_length text (length b)) (read_place text) r × (c ≡ read_out text b)

-- ── a file, once the text is known to mean it ──

-- the file f is written unless a test applies
unfoldable pub Tested : List Test → List ℕ → Result ℕ Refused → Type 0
Tested ts f r = Reads (first_of ts) (cond (same (first_of ts) 0) (length f) 0) 0 r

unfoldable pub written : List Test → List ℕ → List ℕ → List ℕ
written ts f b = cond (same (first_of ts) 0) (laid_over f b) b

-- 1 to 11, and 45
abbrev pub deliver_tests : List ℕ → ℕ → List Test
deliver_tests f room = file_tests f ++ (record { number = short_out; applies = ltb room (length f) } ∷ [])

abbrev pub Delivers : List ℕ → List ℕ → Result ℕ Refused → List ℕ → Type 0
Delivers f b r c = Tested (deliver_tests f (length b)) f r × (c ≡ written (deliver_tests f (length b)) f b)

-- all tests of a chart that the text spells
abbrev pub ReadsChart : Chart → List ℕ → Result ℕ Refused → List ℕ → Type 0
ReadsChart t b r c =
    Tested (chart_tests t (length b)) (file_for t) r × (c ≡ written (chart_tests t (length b)) (file_for t) b)
