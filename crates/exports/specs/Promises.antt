-- What each call for C and Rust promises, one definition for each contract: what it returns and what it leaves behind
-- each pointer. f has the bytes of the file and r is what is returned; b is what a buffer holds before the call, and c
-- what it holds after it. A mark and a yes are numbers: 1 for yes.
use Rattle.std.specs.Prelude.{◌≡◌, List, ℕ, length}
use Rattle.meaning.specs.Sums.{one}
use Rattle.meaning.specs.Meaning.{Set}
use Rattle.meaning.specs.Check.{refusal_of}
use Rattle.meaning.specs.Calls.{first_refusal, first_bytes, input_of, output_of, step_of, places_of, open_of, next_in}
use Rattle.meaning.specs.Calls.{refusal_in, output_in, mark_in, run_refusal}
use Rattle.meaning.specs.Calls.{run_bytes, run_carried}
use Rattle.meaning.specs.Rewriting.{rewrite_refusal, rewrite_length, rewrite_out}
use Rattle.meaning.specs.Plain.{plain_of}
use Rattle.clearing.specs.Clearing.{clear_refusal, clear_length, clear_out}
use Rattle.lacks.specs.Lacking.{lacking_of, case_in, signal_in}
use Rattle.reading.specs.Read.{read_refusal, read_length, read_place, read_out}
use Rattle.spelling.specs.Write.{write_refusal, write_length, write_out}
use Rattle.lacks.specs.Lacking.{refusal_in as refusedIn}
use Rattle.desk.specs.declared.Case.{Case}
use Rattle.desk.specs.declared.Entry.{Entry}
use Rattle.desk.specs.Posting.{post_refusal, post_cases, post_rows}
pub mod Laws

abbrev pub CheckReturns : List ℕ → ℕ → Type 0
CheckReturns f r = r ≡ refusal_of f

abbrev pub FirstReturns : List ℕ → List ℕ → ℕ → List ℕ → Type 0
FirstReturns f b r c = (r ≡ first_refusal f (length b)) × (c ≡ first_bytes f b)

abbrev pub InterfaceReturns : List ℕ → ℕ → Set → Set → Type 0
InterfaceReturns f r input output = (r ≡ refusal_of f) × (input ≡ input_of f) × (output ≡ output_of f)

abbrev pub PlainReturns : List ℕ → ℕ → ℕ → Type 0
PlainReturns f r plain = (r ≡ refusal_of f) × (plain ≡ one (plain_of f))

abbrev pub StepReturns : List ℕ → List ℕ → Set → List ℕ → ℕ → List ℕ → Set → ℕ → List ℕ → ℕ → Type 0
StepReturns f config i b r c output mark places n =
    let a = step_of f config i (length b) in
    (r ≡ refusal_in a) × (c ≡ next_in a b) × (output ≡ output_in a) × (mark ≡ one (mark_in a))
    × (places ≡ places_of f config i (length b)) × (n ≡ open_of f config i (length b))

abbrev pub RunReturns : List ℕ → List ℕ → Set → List Set → List ℕ → ℕ → List ℕ → Set → Type 0
RunReturns f config carried inputs b r c left =
    (r ≡ run_refusal f config (length inputs) (length b))
    × (c ≡ run_bytes f config carried inputs b)
    × (left ≡ run_carried f config carried inputs (length b))

abbrev pub RewriteReturns : List ℕ → List ℕ → ℕ → List ℕ → ℕ → Type 0
RewriteReturns f b r c size =
    (r ≡ rewrite_refusal f (length b)) × (c ≡ rewrite_out f b) × (size ≡ rewrite_length f (length b))

-- cs and rs are what the records and the row buffer hold
abbrev pub PostReturns : List ℕ → List Case → List Entry → List ℕ → ℕ → List Case → List ℕ → Type 0
PostReturns f cases entries rows r cs rs =
    (r ≡ post_refusal f cases entries (length rows))
    × (cs ≡ post_cases f cases entries (length rows))
    × (rs ≡ post_rows f cases entries rows)

abbrev pub ClearReturns : List ℕ → List ℕ → ℕ → List ℕ → ℕ → Type 0
ClearReturns f b r c size = (r ≡ clear_refusal f (length b)) × (c ≡ clear_out f b) × (size ≡ clear_length f (length b))

-- case and signal of the answer in numbers (RULES 13.2)
abbrev pub LackingReturns : List ℕ → ℕ → ℕ → Set → ℕ → ℕ → ℕ → Type 0
LackingReturns f chart place o r answer signal =
    let a = lacking_of f chart place o in (r ≡ refusedIn a) × (answer ≡ case_in a) × (signal ≡ signal_in a)

-- length of the file, and place of the first wrong byte (RULES 14)
abbrev pub ReadReturns : List ℕ → List ℕ → ℕ → List ℕ → ℕ → ℕ → Type 0
ReadReturns text b r c size place =
    (r ≡ read_refusal text (length b)) × (c ≡ read_out text b) × (size ≡ read_length text (length b))
    × (place ≡ read_place text)

-- length of the text (RULES 15)
abbrev pub WriteReturns : List ℕ → List ℕ → ℕ → List ℕ → ℕ → Type 0
WriteReturns f b r c size = (r ≡ write_refusal f (length b)) × (c ≡ write_out f b) × (size ≡ write_length f (length b))
