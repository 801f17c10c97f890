-- Two files with the same charts, and with trees that are the same but for the order of composed parts (`TreesAlike`),
-- are answered alike. Over records: the interfaces, a step, its places and its open choices, whether the file is plain.
-- Then over bytes, for files with the same refusal of 1 to 11 and of one edition, call by call; what the bytes hold
-- counts only where the file is accepted.
use Rattle.std.specs.Prelude.{◌≡◌, Bool, true, false, ◌&&◌, List, [], ℕ, zero, suc, ◌<◌, ltb, get_or}
use Rattle.std.proofs.Math.Path.{refl, ap, ap₂}
use Rattle.std.proofs.Common.{◌∙◌, arith, ltb-false}
use Rattle.std.proofs.Math.Bool.{not, cond}
use Rattle.signals.specs.Mask.{◌∪◌}
use Rattle.meaning.specs.Numbers.{first_edition, most_open, many_open}
use Rattle.meaning.specs.Sums.{any_up_to}
use Rattle.meaning.specs.Sums.Laws.{any_cong}
use Rattle.meaning.specs.Meaning.{Set, ∅, same, in_face, out_face, outcomes, Answer, refused, given, answer, first_places}
use Rattle.meaning.specs.File.{File, trailer, whole_of, file_of}
use Rattle.meaning.specs.Check.{refusal_of}
use Rattle.meaning.specs.Open.{open_choices, open_in}
use Rattle.meaning.specs.Calls.{first_refusal, first_bytes, input_of, output_of, step_refusal, outcomes_in, found_in}
use Rattle.meaning.specs.Calls.{many_open?, step_in, step_of, open_for, open_of, all_places, places_found, places_in, places_of}
use Rattle.meaning.specs.Calls.{run_refusal, run_bytes, run_carried}
use Rattle.meaning.specs.Calls.Laws.{step_allowed, answered}
use Rattle.meaning.specs.Rewriting.{union_up_to}
use Rattle.meaning.specs.Plain.{fed_back, any_doubtful, plain_in, plain_of}
use Rattle.meaning.proofs.Laws.Many.{behind_tests}
use Rattle.meaning.specs.Laws.Alike.{ConfigsAlike, StepsAlike, answer_alike, first_refusal_alike, first_alike}
use Rattle.meaning.specs.Laws.Alike.{step_refusal_alike, step_alike, run_refusal_alike, run_alike, run_carried_alike}
use Rattle.propositions.specs.Exchange.Trees.{Exchanged}
use Rattle.propositions.proofs.Exchange.Trees.{in_exchanged, out_face-exchanged, outcomes-exchanged}
use Rattle.propositions.proofs.Exchange.Trees.{open_exchanged}

-- ── over records ──

-- the signals that composed nodes feed back (RULES 8.1)
abbrev pub nodes_feed : File → Set
nodes_feed F = union_up_to F.nodes (λ j. cond (same (F.kind j) 1) (F.x j) ∅)

-- all of a file that its answers depend on
pub record TreesAlike (F G : File) : Type 0 where
  pub charts : G.charts ≡ F.charts
  pub chart : (c : ℕ) → c < F.charts → G.chart c ≡ F.chart c
  pub whole : Exchanged F.chart G.chart F.state G.state (whole_of F) (whole_of G)
  pub fed : nodes_feed G ≡ nodes_feed F

pub union_alike : (n : ℕ) (f g : ℕ → Set) → ((i : ℕ) → i < n → f i ≡ g i) → union_up_to n f ≡ union_up_to n g
unfolding union_up_to
union_alike zero f g h = refl
union_alike (suc n) f g h = ap₂ ◌∪◌ (union_alike n f g (λ i l. h i (omega arith))) (h n (omega arith))

module _ (F G : File) (r : TreesAlike F G) where
  pub in_alike : in_face G.chart (whole_of G) ≡ in_face F.chart (whole_of F)
  in_alike = in_exchanged F.chart G.chart F.state G.state r.whole

  pub out_alike : out_face G.chart (whole_of G) ≡ out_face F.chart (whole_of F)
  out_alike = out_face-exchanged F.chart G.chart F.state G.state r.whole

  outcomes_alike : (config : List ℕ) (i : Set) → outcomes_in G config i ≡ outcomes_in F config i
  outcomes_alike config i =
      ap (outcomes G.chart G.state (λ c. get_or config c 0) (whole_of G) i) r.charts
      ∙ outcomes-exchanged F.chart G.chart F.state G.state F.charts r.chart
      (λ c. get_or config c 0) r.whole i

  pub open_alike : (config : List ℕ) → open_in G config ≡ open_in F config
  open_alike config =
      ap (open_choices G.chart G.state (λ c. get_or config c 0) (whole_of G)) r.charts
      ∙ open_exchanged F.chart G.chart F.state G.state F.charts r.chart
      (λ c. get_or config c 0) r.whole

  pub found_alike : (config : List ℕ) (i : Set) → found_in G config i ≡ found_in F config i
  unfolding found_in
  found_alike config i = ap answer (outcomes_alike config i)

  pub steps_in_alike : (config : List ℕ) (i : Set) → step_in G config i ≡ step_in F config i
  unfolding step_in many_open?
  steps_in_alike config i =
      ap₂ (λ n a. cond (ltb most_open n) (refused many_open) a) (open_alike config) (found_alike config i)

  pub places_found_alike : (config : List ℕ) (i : Set) → places_found G config i ≡ places_found F config i
  unfolding places_found
  places_found_alike config i = ap (λ os. all_places (first_places os)) (outcomes_alike config i)

  places_alike : (config : List ℕ) (i : Set) → places_in G config i ≡ places_in F config i
  unfolding places_in many_open?
  places_alike config i =
      ap₂ (λ n ps. cond (ltb most_open n) (all_places []) ps) (open_alike config) (places_found_alike config i)

  pub configs_alike : ConfigsAlike F G
  configs_alike = record {
    charts = r.charts;
    states = λ c l. ap (λ C. C.states) (r.chart c l);
    initials = λ c l. ap (λ C. C.initial) (r.chart c l);
  }

  steps_alike : StepsAlike F G
  steps_alike = record { configs = configs_alike; step = steps_in_alike }

  pub plain_alike : plain_in G ≡ plain_in F
  unfolding plain_in fed_back
  plain_alike = ap not (ap₂ (λ n s. any_up_to n (λ c. any_doubtful s (G.chart c).transitions)) r.charts all_fed
      ∙ any_cong F.charts _ _ (λ c l. ap (λ C. any_doubtful (fed_back F) C.transitions) (r.chart c l)))
    where
      all_fed : fed_back G ≡ fed_back F
      all_fed = ap₂ ◌∪◌ (ap (λ n. union_up_to n (λ c. (G.chart c).feedback)) r.charts
          ∙ union_alike F.charts _ _ (λ c l. ap (λ C. C.feedback) (r.chart c l)))
          r.fed

-- ── over bytes ──

module _ (f f' : List ℕ) (check : refusal_of f' ≡ refusal_of f)
    (alike : refusal_of f ≡ 0 → TreesAlike (file_of f) (file_of f')) where
  configs : refusal_of f ≡ 0 → ConfigsAlike (file_of f) (file_of f')
  configs e = configs_alike (file_of f) (file_of f') (alike e)

  steps : refusal_of f ≡ 0 → StepsAlike (file_of f) (file_of f')
  steps e = steps_alike (file_of f) (file_of f') (alike e)

  -- the first configuration
  pub answer-first_refusal : (room : ℕ) → first_refusal f' room ≡ first_refusal f room
  answer-first_refusal = first_refusal_alike f f' check configs

  pub answer-first : (buffer : List ℕ) → first_bytes f' buffer ≡ first_bytes f buffer
  answer-first = first_alike f f' check configs

  -- the interface
  pub answer_input : input_of f' ≡ input_of f
  unfolding input_of
  answer_input =
      answer_alike (refusal_of f) (refusal_of f') check
      (in_face (file_of f).chart (whole_of (file_of f))) (in_face (file_of f').chart (whole_of (file_of f'))) (λ n. ∅)
      (λ e. in_alike (file_of f) (file_of f') (alike e))

  pub answer_output : output_of f' ≡ output_of f
  unfolding output_of
  answer_output =
      answer_alike (refusal_of f) (refusal_of f') check
      (out_face (file_of f).chart (whole_of (file_of f))) (out_face (file_of f').chart (whole_of (file_of f'))) (λ n. ∅)
      (λ e. out_alike (file_of f) (file_of f') (alike e))

  -- a step: its refusal, output, next configuration and mark; its places
  pub answer-step : (config : List ℕ) (i : Set) (room : ℕ) → step_of f' config i room ≡ step_of f config i room
  answer-step = step_alike f f' check steps

  pub answer_places : (config : List ℕ) (i : Set) (room : ℕ) → places_of f' config i room ≡ places_of f config i room
  unfolding places_of
  answer_places config i room =
      answer_alike (step_refusal f config room) (step_refusal f' config room)
      (step_refusal_alike f f' check configs config room)
      (places_in (file_of f) config i) (places_in (file_of f') config i) (λ n. all_places [])
      (λ z. places_alike (file_of f) (file_of f') (alike (step_allowed f config room z).0) config i)

  -- how many choices are open, as a step says it
  pub answer_open : (config : List ℕ) (i : Set) (room : ℕ) → open_of f' config i room ≡ open_of f config i room
  unfolding open_of
  answer_open config i room =
      ap (λ a. open_for a (open_in (file_of f') config)) (answer-step config i room)
      ∙ said (step_of f config i room) refl
    where
      same_open : refusal_of f ≡ 0 → open_in (file_of f') config ≡ open_in (file_of f) config
      same_open e = open_alike (file_of f) (file_of f') (alike e) config

      said : (a : Answer) → step_of f config i room ≡ a
          → open_for a (open_in (file_of f') config) ≡ open_for a (open_in (file_of f) config)
      said (given o n m) q = same_open (answered f config i room o n m q).accepted
      said (refused r) q = go (ltb r many_open) refl
        where
          go : (b : Bool) → ltb r many_open ≡ b
              → cond b 0 (open_in (file_of f') config) ≡ cond b 0 (open_in (file_of f) config)
          go true e = refl
          go false e =
              let l = ltb-false r many_open e in same_open (behind_tests f config i room r (omega arith) q).0.0

  -- a run: its refusal, its rows, and what it carries
  pub answer_run_refusal : (config : List ℕ) (inputs room : ℕ)
      → run_refusal f' config inputs room ≡ run_refusal f config inputs room
  answer_run_refusal = run_refusal_alike f f' check configs

  pub answer_run : (config : List ℕ) (carried : Set) (inputs : List Set) (rows : List ℕ)
      → run_bytes f' config carried inputs rows ≡ run_bytes f config carried inputs rows
  answer_run = run_alike f f' check steps

  pub answer_carried : (config : List ℕ) (carried : Set) (inputs : List Set) (room : ℕ)
      → run_carried f' config carried inputs room ≡ run_carried f config carried inputs room
  answer_carried = run_carried_alike f f' check steps

  -- whether it is plain
  pub answer_plain : (trailer f').edition ≡ (trailer f).edition → plain_of f' ≡ plain_of f
  unfolding plain_of
  answer_plain d =
      answer_alike (refusal_of f) (refusal_of f') check
      (same (trailer f).edition first_edition && plain_in (file_of f))
      (same (trailer f').edition first_edition && plain_in (file_of f')) (λ n. false)
      (λ e. ap₂ (λ n b. same n first_edition && b) d (plain_alike (file_of f) (file_of f') (alike e)))
