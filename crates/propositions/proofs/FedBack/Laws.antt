-- Fed-back signals count as the environment's: where the whole of an accepted file is composed and a choice is
-- permitted under an input, it is permitted under any other one that makes the same set, joined with what the choice
-- feeds back (`same_choice`; `within_choice` for an input within the interface, as the paper has it). Of both editions.
-- So a fed-back signal may be typed in by hand: the choice that was the step is permitted again (`typed_choice`), so a
-- step is given (`typed_given`), and it is the same step if its mark is yes (`typed_sure`). With the mark no it may be
-- another step (`typed_differs`, in Examples).
use Rattle.std.specs.Prelude.{◌≡◌, Bool, true, List, [], ◌∷◌, ℕ, ◌-◌, get_or}
use Rattle.std.proofs.Math.Path.{sym}
use Rattle.std.proofs.Common.{◌∙◌, ap, ap₂, arith}
use Rattle.std.proofs.Math.Bool.{false}
use Rattle.signals.specs.Mask.{◌∪◌, ◌∩◌, Within}
use Rattle.signals.specs.Decide.{sets, A, B, C, D, ◌∪ₑ◌, ◌∩ₑ◌, ◌≐◌, ◌⊑◌}
use Rattle.meaning.specs.Meaning.{Set, ∅, given, in_face, moves, first_places}
use Rattle.meaning.specs.File.{File, file_of, whole_of}
use Rattle.meaning.specs.Check.{refusal_of}
use Rattle.meaning.specs.Calls.{input_of, outcomes_in, found_in, step_of}
use Rattle.meaning.specs.Calls.Laws.{step_by, behind_is, Answered, answered}
use Rattle.meaning.specs.Laws.Alike.{accepted_treed, accepted_node}
use Rattle.meaning.specs.Words.{Given}
use Rattle.meaning.proofs.Laws.Demand2.{given_if, given-first, mark_yes}
use Rattle.meaning.specs.Laws.Trees.{tree₁}
use Rattle.propositions.specs.FedBack.{feedback_of, joined_in, WholeComposed, fed_back_of, joined_of, ChoiceIn}
use Rattle.propositions.specs.FedBack.{PermittedIn, choice_output, choice_next}
use Rattle.propositions.proofs.FedBack.Trees.{fed_back_lem}

-- ── sets ──

-- cutting an input that is within the interface changes nothing
within-joined : (face back i j : Set) → Within j face → j ∪ back ≡ (i ∩ face) ∪ back
    → (j ∩ face) ∪ back ≡ (i ∩ face) ∪ back
within-joined face back i j w e =
    sets (face ∷ back ∷ i ∷ j ∷ []) (D ⊑ A ∷ D ∪ₑ B ≐ C ∩ₑ A ∪ₑ B ∷ []) (D ∩ₑ A ∪ₑ B ≐ C ∩ₑ A ∪ₑ B) tt w e

-- nor does typing in what is fed back anyway
typed_joined : (face back i s : Set) → Within s back → ((i ∪ s) ∩ face) ∪ back ≡ (i ∩ face) ∪ back
typed_joined face back i s w =
    sets (face ∷ back ∷ i ∷ s ∷ []) (D ⊑ B ∷ []) ((C ∪ₑ D) ∩ₑ A ∪ₑ B ≐ C ∩ₑ A ∪ₑ B) tt w

module _ (f config : List ℕ) (composed : WholeComposed f) where
  abbrev F : File
  F = file_of f

  abbrev cfg : ℕ → ℕ
  cfg c = get_or config c 0

  -- ── a choice ──

  module _ (e : refusal_of f ≡ 0) where
    face_is : input_of f ≡ in_face F.chart (whole_of F)
    unfolding input_of
    face_is = behind_is (refusal_of f) _ ∅ e

    feedback_is : feedback_of F.chart (whole_of F) ≡ F.x (F.nodes - 1)
    feedback_is =
        let s = accepted_node f e in
        ap (feedback_of F.chart) (tree₁ F (accepted_treed f e).ordered (F.nodes - 1) (omega arith) composed)

    joined_is : (o i : Set) → joined_in F.chart (whole_of F) o i ≡ joined_of f o i
    joined_is o i = ap₂ (λ face back. (i ∩ face) ∪ (o ∩ back)) (sym face_is) feedback_is

    module _ (i j : Set) (ch : ℕ → ℕ) where
      abbrev o : Set
      o = choice_output f config i ch

      pub same_choice : joined_of f o j ≡ joined_of f o i → PermittedIn f config i ch → PermittedIn f config j ch
      same_choice q p =
          fed_back_lem F.chart F.state cfg (moves F.chart ch) (whole_of F) i j
          (joined_is o j ∙ q ∙ sym (joined_is o i)) ∙ p

      -- another input that is within the interface
      pub within_choice : Within j (input_of f) → j ∪ fed_back_of f o ≡ (i ∩ input_of f) ∪ fed_back_of f o
          → PermittedIn f config i ch → PermittedIn f config j ch
      within_choice w q p = same_choice (within-joined (input_of f) (fed_back_of f o) i j w q) p

  -- ── a fed-back signal typed in by hand ──

  -- a step is given under i with output o; s: some of what it feeds back
  module _ (room : ℕ) (i s o : Set) (n : List ℕ) (m : Bool) (step : step_of f config i room ≡ given o n m)
      (fed : Within s (fed_back_of f o)) where
    known : Answered f config i room o n m
    known = answered f config i room o n m step

    first : Given F.chart F.state cfg (whole_of F) i F.charts o n
    unfolding found_in
    first = given-first F.chart F.state cfg (whole_of F) i F.charts o n m known.found_is

    -- the choice that was the step
    pub typed_choice : (ch : ℕ → ℕ) × ChoiceIn f config (i ∪ s) ch × PermittedIn f config (i ∪ s) ch
        × (choice_output f config (i ∪ s) ch ≡ o) × (choice_next f config (i ∪ s) ch ≡ n)
    typed_choice = (
      first.choice,
      record { places = first.chosen.places; others = first.chosen.others },
      same_choice known.accepted i (i ∪ s) first.choice
          (ap (λ z. joined_of f z (i ∪ s)) (sym first.output)
          ∙ typed_joined (input_of f) (fed_back_of f o) i s fed
          ∙ ap (λ z. joined_of f z i) first.output) first.permits,
      sym first.output,
      sym first.next,
    )

    -- what is answered behind the tests of a step, 24 included, which no input changes
    answer_in_lem : step_of f config (i ∪ s) room ≡ found_in F config (i ∪ s)
    unfolding step_of
    answer_in_lem = behind_is _ _ _ known.passes ∙ step_by F config (i ∪ s) false known.few_open

    pub typed_given : (o' : Set) × (n' : List ℕ) × (m' : Bool) × (step_of f config (i ∪ s) room ≡ given o' n' m')
    unfolding found_in
    typed_given =
        let c = typed_choice in
        let g = given_if F.chart F.state cfg (whole_of F) (i ∪ s) F.charts c.0 c.1 c.2 in
        (g.0, g.1, g.2, answer_in_lem ∙ g.3)

    pub typed_sure : (o' : Set) (n' : List ℕ) → step_of f config (i ∪ s) room ≡ given o' n' true → (o' ≡ o) × (n' ≡ n)
    unfolding found_in
    typed_sure o' n' e =
        let c = typed_choice in
        let y = mark_yes F.chart F.state cfg (whole_of F) (i ∪ s) F.charts o' n' (sym answer_in_lem ∙ e) c.0
        c.1
        c.2 in
        (sym y.0 ∙ c.3, sym y.1 ∙ c.4)
