-- An accepted file of edition 1 that is written as text and read again: every public call answers the same of both, but
-- for the rewriting and clearing, whose bytes follow the order of the nodes. In this order: the check and the edition;
-- the first configuration; the interface; a step, its places and how many choices are open in it; a run; whether the
-- file is plain; what a transition lacks; its text again.
use Rattle.std.specs.Prelude.{◌≡◌, List, [], ◌∷◌, ℕ, length}
use Rattle.std.proofs.Math.Path.{sym, ap, ap₂}
use Rattle.std.proofs.Common.{◌∙◌, subst}
use Rattle.std.proofs.Math.Bool.{cond}
use Rattle.std.proofs.Math.Dec.{ltb}
use Rattle.layout.specs.Le.{AllBytes}
use Rattle.meaning.specs.Numbers.{first_edition, stay_edition, may_stay, short_out}
use Rattle.meaning.specs.Meaning.{Set, same}
use Rattle.meaning.specs.File.{trailer, whole_of, file_of}
use Rattle.meaning.specs.Check.{first_of, refusal_of}
use Rattle.meaning.specs.Check.Laws.{counted, call-passed}
use Rattle.meaning.specs.Calls.{first_refusal, first_bytes, input_of, output_of, step_of, open_of, places_of, run_refusal}
use Rattle.meaning.specs.Calls.{run_bytes, run_carried, laid_over}
use Rattle.meaning.specs.Rewriting.{stay_test}
use Rattle.meaning.specs.Plain.{plain_of}
use Rattle.meaning.specs.Laws.Alike.{accepted_node, accepted_sound}
use Rattle.notation.specs.Syntax.{depth}
use Rattle.notation.specs.Grammar.{write}
use Rattle.notation.proofs.Laws.Write.{write_spells}
use Rattle.reading.specs.Numbers.{most_depth, too_deep}
use Rattle.reading.specs.Meant.{trailer_for, file_for}
use Rattle.reading.specs.Read.{read_file}
use Rattle.reading.proofs.Laws.Read.{read_spells}
use Rattle.propositions.proofs.Exchange.Answers.{TreesAlike, answer-first_refusal, answer-first, answer_input}
use Rattle.propositions.proofs.Exchange.Answers.{answer_output, answer-step, answer_places, answer_open}
use Rattle.propositions.proofs.Exchange.Answers.{answer_run_refusal, answer_run, answer_carried, answer_plain}
use Rattle.lacks.specs.Lacking.{lacking_of}
use Rattle.lacks.proofs.Exchanged.{answer-lacking}
use Rattle.spelling.specs.Write.{chart_in, text_in, text_of, deep_test, write_refusal, write_length, write_out}
use Rattle.faithful.specs.Laws.Back.{trailer-back_is}
use Rattle.accepted.proofs.Laws.Counts.{counts-right}
use Rattle.roundtrip.specs.Same.{SameCharts}
use Rattle.roundtrip.specs.Laws.Proper.{Proper, tidy, whole_proper, AnySet}
use Rattle.roundtrip.proofs.Laws.Back.{same-charts}
use Rattle.roundtrip.proofs.Laws.Accepted.{written-passes}
use Rattle.roundtrip.proofs.Laws.Kept.{same_alike, same_typed}

-- the file that is read from a file's text
pub read_text : (f : List ℕ) → read_file (text_of f) ≡ file_for (chart_in (file_of f))
unfolding text_of text_in
read_text f = let t = chart_in (file_of f) in (read_spells _ t 0 (write_spells t)).1.1

module _ (f : List ℕ) (bytes : AllBytes f) (ok : refusal_of f ≡ 0) (one : (trailer f).edition ≡ first_edition) where
  abbrev g : List ℕ
  g = read_file (text_of f)

  pub same-file : SameCharts (file_of f) (file_of g)
  same-file = subst (λ b. SameCharts (file_of f) (file_of b)) (sym (read_text f)) (same-charts f bytes ok one)

  -- ── the check and the edition ──

  again : refusal_of g ≡ 0
  again = ap refusal_of (read_text f) ∙ written-passes f bytes ok one

  pub same_check : refusal_of g ≡ refusal_of f
  same_check = again ∙ sym ok

  pub same_edition : (trailer g).edition ≡ (trailer f).edition
  unfolding trailer_for
  same_edition =
      ap (λ b. (trailer b).edition) (read_text f)
      ∙ ap (λ r. r.edition) (trailer-back_is (chart_in (file_of f)) (counted _ (counts-right f bytes ok))) ∙ sym one

  -- ── the calls ──

  proper : Proper (file_of f) AnySet (whole_of (file_of f))
  proper = whole_proper (file_of f) AnySet (tidy f ok AnySet (λ j l. (tt, tt)))

  alike : refusal_of f ≡ 0 → TreesAlike (file_of f) (file_of g)
  alike e =
      same_alike (file_of f) (file_of g) AnySet same-file proper (accepted_sound f ok) (accepted_node f ok)
      (accepted_sound g again) (accepted_node g again)

  -- the first configuration
  pub same-first_refusal : (room : ℕ) → first_refusal g room ≡ first_refusal f room
  same-first_refusal = answer-first_refusal f g same_check alike

  pub same_first : (buffer : List ℕ) → first_bytes g buffer ≡ first_bytes f buffer
  same_first = answer-first f g same_check alike

  -- the interface
  pub same_input : input_of g ≡ input_of f
  same_input = answer_input f g same_check alike

  pub same_output : output_of g ≡ output_of f
  same_output = answer_output f g same_check alike

  -- a step: its refusal, output, next configuration and mark; its places; how many choices are open
  pub same_step : (config : List ℕ) (i : Set) (room : ℕ) → step_of g config i room ≡ step_of f config i room
  same_step = answer-step f g same_check alike

  pub same_places : (config : List ℕ) (i : Set) (room : ℕ) → places_of g config i room ≡ places_of f config i room
  same_places = answer_places f g same_check alike

  pub same_open : (config : List ℕ) (i : Set) (room : ℕ) → open_of g config i room ≡ open_of f config i room
  same_open = answer_open f g same_check alike

  -- a run: its refusal, its rows, and what it carries
  pub same_run_refusal : (config : List ℕ) (inputs room : ℕ)
      → run_refusal g config inputs room ≡ run_refusal f config inputs room
  same_run_refusal = answer_run_refusal f g same_check alike

  pub same_run : (config : List ℕ) (carried : Set) (inputs : List Set) (rows : List ℕ)
      → run_bytes g config carried inputs rows ≡ run_bytes f config carried inputs rows
  same_run = answer_run f g same_check alike

  pub same_carried : (config : List ℕ) (carried : Set) (inputs : List Set) (room : ℕ)
      → run_carried g config carried inputs room ≡ run_carried f config carried inputs room
  same_carried = answer_carried f g same_check alike

  -- whether it is plain
  pub same_plain : plain_of g ≡ plain_of f
  same_plain = answer_plain f g same_check alike same_edition

  -- what a transition lacks
  pub same-lacking : (chart place : ℕ) (o : Set) → lacking_of g chart place o ≡ lacking_of f chart place o
  same-lacking = answer-lacking f g same_check alike

  -- ── its text again ──

  pub same-chart : chart_in (file_of g) ≡ chart_in (file_of f)
  same-chart = same_typed (file_of f) (file_of g) AnySet same-file proper

  pub same_text : text_of g ≡ text_of f
  unfolding text_of text_in
  same_text = ap write same-chart

  pub same-write_refusal : (room : ℕ) → write_refusal g room ≡ write_refusal f room
  unfolding write_refusal
  same-write_refusal room =
      call-passed g _ again
      ∙ ap (λ n. first_of (record { number = may_stay; applies = same n stay_edition } ∷ deep_test (file_of g)
      ∷ record { number = short_out; applies = ltb room (length (text_of g)) } ∷ [])) same_edition
      ∙ ap₂ (λ t w. first_of (stay_test f ∷ record { number = too_deep; applies = ltb most_depth (depth t) }
      ∷ record { number = short_out; applies = ltb room (length w) } ∷ [])) same-chart same_text
      ∙ sym (call-passed f _ ok)

  pub same_length : (room : ℕ) → write_length g room ≡ write_length f room
  unfolding write_length
  same_length room =
      ap₂ (λ n w. cond (same n 0) (length w) 0) (same-write_refusal room) same_text

  pub same-written : (buffer : List ℕ) → write_out g buffer ≡ write_out f buffer
  unfolding write_out
  same-written buffer =
      ap₂ (λ n w. cond (same n 0) (laid_over w buffer) buffer) (same-write_refusal (length buffer)) same_text
