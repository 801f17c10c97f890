-- The words by which the promises are read (docs/PROMISES.md). Of a step: a choice, whether it is permitted, its
-- outcome, the order of choices, and the choice that a given step is. Of two files: answers that agree unless one is
-- refused with a number, and how far a run comes before it is. Of the rewriting: places that agree. Of a plain file: an
-- answer and a row that leave no doubt.
use Rattle.std.specs.Prelude.{◌≡◌, true, ◌⊎◌, ◌≢◌, List, ℕ, zero, ◌≤◌, ◌<◌, length, get_or}
use Rattle.meaning.specs.Numbers.{no_place, no_step, many_open}
use Rattle.meaning.specs.Meaning.{Set, Chart, Tree, no_move, takes, nth, last_place, moves, permitted, out, nexts}
use Rattle.meaning.specs.Meaning.{places_from, outcomes}
use Rattle.meaning.specs.Meaning.{first_places, Answer, refused, given}
use Rattle.meaning.specs.File.{File, whole_of, file_of}
use Rattle.meaning.specs.Check.{refusal_of}
use Rattle.meaning.specs.Calls.{Valid, refusal_in, step_at}
use Rattle.meaning.specs.Rewriting.{call, idle}

-- ── a step (Demand 2) ──

-- one choice comes before another: the first chart with different moves decides (RULES 5.8)
pub record Before (ch ch₂ : ℕ → ℕ) : Type 0 where
  pub at : ℕ
  pub lower : ch at < ch₂ at
  pub equal : (c : ℕ) → c < at → ch c ≡ ch₂ c

-- of a step of N charts, from the states cfg, under the input inp
module _ (E : ℕ → Chart) (state : ℕ → ℕ) (cfg : ℕ → ℕ) (t : Tree) (inp : Set) (N : ℕ) where
  -- places of N charts: none, one of the chart's transitions, or, in edition 2, staying (RULES 5.2)
  pub record Choice (ch : ℕ → ℕ) : Type 0 where
    pub places : (c : ℕ) → c < N → ch c ≤ last_place (E c)
    pub others : (c : ℕ) → N ≤ c → ch c ≡ 0

  -- the choice is permitted (RULES 5.7)
  abbrev pub Permitted : (ℕ → ℕ) → Type 0
  Permitted ch = permitted E state cfg (moves E ch) t inp ≡ true

  -- what it puts out, where it leads, and its places (RULES 5.9, 5.11)
  abbrev pub output_by : (ℕ → ℕ) → Set
  output_by ch = out (moves E ch) t

  abbrev pub next_by : (ℕ → ℕ) → List ℕ
  next_by ch = nexts cfg (moves E ch) zero N

  abbrev pub places_by : (ℕ → ℕ) → List ℕ
  places_by ch = places_from E ch zero N

  -- output o and next configuration n are those of a permitted choice, and no permitted choice comes before it (RULES
  -- 5.9)
  pub record Given (o : Set) (n : List ℕ) : Type 0 where
    pub choice : ℕ → ℕ
    pub chosen : Choice choice
    pub permits : Permitted choice
    pub output : o ≡ output_by choice
    pub next : n ≡ next_by choice
    pub places : first_places (outcomes E state cfg t inp N) ≡ places_by choice
    pub first : (ch : ℕ → ℕ) → Choice ch → Permitted ch → Before ch choice → ⊥

-- of a file, by its bytes: a choice of its charts that is permitted from the configuration under the input i (RULES
-- 5.7)
abbrev pub PermittedChoice : List ℕ → List ℕ → Set → (ℕ → ℕ) → Type 0
PermittedChoice f config i ch =
    Choice (file_of f).chart (file_of f).state (λ c. get_or config c 0) (whole_of (file_of f)) i (file_of f).charts ch
    × Permitted (file_of f).chart (file_of f).state (λ c. get_or config c 0) (whole_of (file_of f)) i
    (file_of f).charts ch

-- no test of a step before 24 applies: the file is accepted, the configuration valid, the buffer long enough (RULES
-- 3.6)
abbrev pub Allowed : List ℕ → List ℕ → ℕ → Type 0
Allowed f config room = (refusal_of f ≡ 0) × Valid (file_of f) config × ((file_of f).charts ≤ room)

-- ── two files (Demand 3, clearing) ──

-- two answers agree, unless one is refused with r
abbrev pub AgreeUnless : ℕ → Answer → Answer → Type 0
AgreeUnless r a b = a ≢ refused r → b ≢ refused r → b ≡ a

-- none of the first k steps of a run is refused with r (RULES 6.2)
abbrev pub Until : ℕ → List ℕ → List ℕ → Set → List Set → List ℕ → ℕ → Type 0
Until r f config carried inputs rows k = (j : ℕ) → j < k → step_at f config carried inputs rows j ≢ refused r

-- ── the rewriting (Demand 3) ──

-- F: the file; F': the rewritten one; config: the configuration; a: what a step of either answers; ps and ps': the
-- places of both
module _ (F F' : File) (config : List ℕ) (a : Answer) (ps ps' : List ℕ) where
  -- the exception: the step is given, chart c of the file took none, and in the rewritten file it takes an idle
  -- transition (RULES 9.8)
  pub record IdleStands (c : ℕ) : Type 0 where
    pub is_given : refusal_in a ≡ 0
    pub one-of_its : c < F.charts
    pub none-taken : get_or ps c no_place ≡ no_place
    pub slave : ℕ
    pub is_idle : nth no_move (F'.chart c).transitions (get_or ps' c no_place)
        ≡ takes (idle (call F) slave (get_or config c 0))

  -- apart from that, the places are the same (RULES 9.8)
  pub record PlacesAgree : Type 0 where
    pub long : length ps' ≡ length ps
    pub each : (c : ℕ) → (get_or ps' c no_place ≡ get_or ps c no_place) ⊎ IdleStands c
    -- every chart of the rewritten file takes a transition in a step that is given: so where the file has 255, it is an
    -- idle one
    pub taken : refusal_in a ≡ 0 → (c : ℕ) → c < F.charts → get_or ps' c no_place ≢ no_place

-- ── a plain file (the profile without doubt) ──

-- an answer that leaves no doubt: the mark is yes, or no choice is permitted, or too many are open (RULES 8.3)
abbrev pub Sure : Answer → Type 0
Sure (refused r) = (r ≡ no_step) ⊎ (r ≡ many_open)
Sure (given o n m) = m ≡ true

-- a row's mark and refusal: 1 and 0, or 0 and 23 or 24 (RULES 6.3, 8.3)
abbrev pub SureRow : List ℕ → Type 0
SureRow row =
    ((get_or row 8 0 ≡ 1) × (get_or row 9 0 ≡ 0))
    ⊎ ((get_or row 8 0 ≡ 0) × ((get_or row 9 0 ≡ no_step) ⊎ (get_or row 9 0 ≡ many_open)))
