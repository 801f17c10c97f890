-- Composition is symmetric: of a file with a composed node j and of the file with a and b of j exchanged, the public
-- calls answer the same. Of both editions, and of refused files too. In this order: the check, the first configuration,
-- the interface, a step, its places and how many choices are open in it, a run and what it carries, whether the file is
-- plain; nodes exchanged in turn.
-- The rewriting is not among them: its bytes have the parts of a node in their order (`rewritten_differs`, in
-- Examples).
use Rattle.std.specs.Prelude.{◌≡◌, List, ℕ}
use Rattle.std.proofs.Common.{ap}
use Rattle.meaning.specs.Meaning.{Set}
use Rattle.meaning.specs.File.{file_of}
use Rattle.meaning.specs.Check.{refusal_of}
use Rattle.meaning.specs.Check.Laws.{passed}
use Rattle.meaning.specs.Open.{open_in}
use Rattle.meaning.specs.Calls.{first_refusal, first_bytes, input_of, output_of, step_of, open_of, places_of}
use Rattle.meaning.specs.Calls.{run_refusal}
use Rattle.meaning.specs.Calls.{run_bytes, run_carried}
use Rattle.meaning.specs.Plain.{plain_of}
use Rattle.meaning.specs.Laws.Alike.{accepted_treed, accepted_node}
use Rattle.propositions.specs.Exchange.{exchange, HasComposed}
use Rattle.propositions.proofs.Exchange.Answers.{TreesAlike, open_alike, answer-first_refusal, answer-first}
use Rattle.propositions.proofs.Exchange.Answers.{answer_input, answer_output, answer-step, answer_places}
use Rattle.propositions.proofs.Exchange.Answers.{answer_open, answer_run_refusal, answer_run, answer_carried}
use Rattle.propositions.proofs.Exchange.Answers.{answer_plain}
use Rattle.propositions.proofs.Exchange.Records.{turned_alike}
use Rattle.propositions.proofs.Exchange.Bytes.{trailer-same, turns, same_refusal, still_composed}

module _ (j : ℕ) (f : List ℕ) (h : HasComposed j f) where
  abbrev f' : List ℕ
  f' = exchange j f

  -- 1 to 11
  pub same_check : refusal_of f' ≡ refusal_of f
  same_check = same_refusal j f h

  pub same_trees : refusal_of f ≡ 0 → TreesAlike (file_of f) (file_of f')
  same_trees e =
      turned_alike (file_of f) (file_of f') (turns j f h (passed f e).charts) (accepted_treed f e) (accepted_node f e)

  -- the first configuration
  pub same-first_refusal : (room : ℕ) → first_refusal f' room ≡ first_refusal f room
  same-first_refusal = answer-first_refusal f f' same_check same_trees

  pub same_first : (buffer : List ℕ) → first_bytes f' buffer ≡ first_bytes f buffer
  same_first = answer-first f f' same_check same_trees

  -- the interface
  pub same_input : input_of f' ≡ input_of f
  same_input = answer_input f f' same_check same_trees

  pub same_output : output_of f' ≡ output_of f
  same_output = answer_output f f' same_check same_trees

  -- a step: its refusal, output, next configuration and mark; its places
  pub same_step : (config : List ℕ) (i : Set) (room : ℕ) → step_of f' config i room ≡ step_of f config i room
  same_step = answer-step f f' same_check same_trees

  pub same_places : (config : List ℕ) (i : Set) (room : ℕ) → places_of f' config i room ≡ places_of f config i room
  same_places = answer_places f f' same_check same_trees

  -- how many choices are open: in the file, where it is accepted, and as a step says it
  pub same_open : refusal_of f ≡ 0 → (config : List ℕ) → open_in (file_of f') config ≡ open_in (file_of f) config
  same_open e config = open_alike (file_of f) (file_of f') (same_trees e) config

  pub same_open_said : (config : List ℕ) (i : Set) (room : ℕ) → open_of f' config i room ≡ open_of f config i room
  same_open_said = answer_open f f' same_check same_trees

  -- a run: its refusal, its rows, and what it carries
  pub same_run_refusal : (config : List ℕ) (inputs room : ℕ)
      → run_refusal f' config inputs room ≡ run_refusal f config inputs room
  same_run_refusal = answer_run_refusal f f' same_check same_trees

  pub same_run : (config : List ℕ) (carried : Set) (inputs : List Set) (rows : List ℕ)
      → run_bytes f' config carried inputs rows ≡ run_bytes f config carried inputs rows
  same_run = answer_run f f' same_check same_trees

  pub same_carried : (config : List ℕ) (carried : Set) (inputs : List Set) (room : ℕ)
      → run_carried f' config carried inputs room ≡ run_carried f config carried inputs room
  same_carried = answer_carried f f' same_check same_trees

  -- whether it is plain
  pub same_plain : plain_of f' ≡ plain_of f
  same_plain = answer_plain f f' same_check same_trees (ap (λ t. t.edition) (trailer-same j f h))

  -- a composed node is composed afterwards too, so that others can be exchanged in turn, and this one again
  pub same-composed : (k : ℕ) → HasComposed k f → HasComposed k f'
  same-composed k g = still_composed j f h k g
