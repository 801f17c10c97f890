-- What writing a file as text answers: refusals 1 to 11, 46 for edition 2, 51 if it is nested too deep, 45 if the
-- buffer is too short; or the text. A refusal changes no byte of the buffer.
use Rattle.std.specs.Prelude.{cond, List, [], ◌∷◌, ◌++◌, ℕ, ltb, length}
use Rattle.meaning.specs.Numbers.{short_out}
use Rattle.meaning.specs.Meaning.{same}
use Rattle.meaning.specs.File.{File, whole_of, file_of}
use Rattle.meaning.specs.Check.{Test, first_of, file_tests}
use Rattle.meaning.specs.Calls.{laid_over}
use Rattle.meaning.specs.Rewriting.{stay_test}
use Rattle.notation.specs.Syntax.{Chart, depth}
use Rattle.notation.specs.Grammar.{write}
use Rattle.reading.specs.Numbers.{most_depth, too_deep}
use Rattle.spelling.specs.Typed.{typed_of}

-- the chart that a file holds, as typed
abbrev pub chart_in : File → Chart
chart_in F = typed_of F (whole_of F)

-- its text: the tokens of the chart, without blanks
unfoldable pub text_in : File → List ℕ
text_in F = write (chart_in F)

unfoldable pub text_of : List ℕ → List ℕ
text_of f = text_in (file_of f)

-- 51: the file is nested deeper than sixteen
abbrev pub deep_test : File → Test
deep_test F = record { number = too_deep; applies = ltb most_depth (depth (chart_in F)) }

-- 45: the buffer is too short for the text
unfoldable pub write_refusal : List ℕ → ℕ → ℕ
write_refusal f room =
    first_of
    (file_tests f
    ++ (stay_test f ∷ deep_test (file_of f) ∷ record
    { number = short_out; applies = ltb room (length (text_of f)) } ∷ []))

-- the length of the text; 0 if the call is refused
unfoldable pub write_length : List ℕ → ℕ → ℕ
write_length f room = cond (same (write_refusal f room) 0) (length (text_of f)) 0

-- what the caller's buffer holds after the call
unfoldable pub write_out : List ℕ → List ℕ → List ℕ
write_out f buffer = cond (same (write_refusal f (length buffer)) 0) (laid_over (text_of f) buffer) buffer
