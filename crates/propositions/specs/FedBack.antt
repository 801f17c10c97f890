-- What a whole feeds back counts as if the environment had offered it (`Laws`). The paper on mu-Charts has it of a
-- sequential chart as Proposition 1, of composed charts as Proposition 5 and of decomposed ones as Proposition 10.
use Rattle.std.specs.Prelude.{◌≡◌, List, ℕ, ◌-◌, get_or}
use Rattle.signals.specs.Mask.{◌∪◌, ◌∩◌}
use Rattle.meaning.specs.Meaning.{Set, ∅, Chart, Tree, leaf, comp, hide, dec, in_face}
use Rattle.meaning.specs.File.{file_of, whole_of}
use Rattle.meaning.specs.Calls.{input_of}
use Rattle.meaning.specs.Words.{Choice, Permitted, output_by, next_by}

-- ── over a tree ──

-- the feedback set of a whole (RULES 5.5, 5.6): of a chart or a master its chart's, of a composed part its x; a hidden
-- part counts as having none
abbrev pub feedback_of : (ℕ → Chart) → Tree → Set
feedback_of E (leaf c) = (E c).feedback
feedback_of E (comp l r x) = x
feedback_of E (hide t x y) = ∅
feedback_of E (dec c ss) = (E c).feedback

-- the input cut to the whole's interface, joined with what the whole feeds back of its output o
abbrev pub joined_in : (ℕ → Chart) → Tree → Set → Set → Set
joined_in E t o i = (i ∩ in_face E t) ∪ (o ∩ feedback_of E t)

-- ── over a file ──

-- the whole, the last node, is composed (RULES 2.7)
abbrev pub WholeComposed : List ℕ → Type 0
WholeComposed f = (file_of f).kind ((file_of f).nodes - 1) ≡ 1

-- what it then feeds back of its output o: the part in its x (RULES 5.5)
abbrev pub fed_back_of : List ℕ → Set → Set
fed_back_of f o = o ∩ (file_of f).x ((file_of f).nodes - 1)

-- the input's part in the interface, joined with the fed-back output
abbrev pub joined_of : List ℕ → Set → Set → Set
joined_of f o i = (i ∩ input_of f) ∪ fed_back_of f o

-- Of a step of the file from the configuration config under the input i, the words of meaning: ch is a choice (RULES
-- 5.2); it is permitted (RULES 5.7); what it puts out (RULES 5.4); where it leads (RULES 5.9)
module _ (f config : List ℕ) (i : Set) (ch : ℕ → ℕ) where
  abbrev pub ChoiceIn : Type 0
  ChoiceIn =
      Choice (file_of f).chart (file_of f).state (λ c. get_or config c 0) (whole_of (file_of f)) i (file_of f).charts ch

  abbrev pub PermittedIn : Type 0
  PermittedIn =
      Permitted (file_of f).chart (file_of f).state (λ c. get_or config c 0) (whole_of (file_of f)) i
      (file_of f).charts ch

  abbrev pub choice_output : Set
  choice_output =
      output_by (file_of f).chart (file_of f).state (λ c. get_or config c 0) (whole_of (file_of f)) i
      (file_of f).charts ch

  abbrev pub choice_next : List ℕ
  choice_next =
      next_by (file_of f).chart (file_of f).state (λ c. get_or config c 0) (whole_of (file_of f)) i
      (file_of f).charts ch
