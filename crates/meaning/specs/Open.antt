-- Open choices: those that keep the present states (RULES 5.1) and the rules of activity (RULES 5.3), guards aside.
-- Here: when a choice is open; all choices, in the order of RULES 5.8; how many of them are open. The input has no part
-- in it. Laws are in Laws/Open.antt.
use Rattle.std.specs.Prelude.{Bool, true, false, ◌&&◌, List, [], ◌∷◌, ℕ, zero, suc, ◌+◌, get_or}
use Rattle.meaning.specs.Sums.{one}
use Rattle.meaning.specs.Meaning.{same, Chart, Tree, Slaves, leaf, comp, hide, dec, nil, snoc, Move, no_move}
use Rattle.meaning.specs.Meaning.{takes, stay, last_place, meets, upd, moves, upto}
use Rattle.meaning.specs.File.{File, whole_of}

-- ── when a choice is open ──

-- The rule of one chart (RULES 5.7) with its guards left out. An inactive chart takes none. An active one takes a
-- transition that leaves its present state; or it stays, if it may, whatever triggers it. Given: the chart, whether it
-- is active, its present state, its move.
unfoldable pub open_chart : Chart → Bool → ℕ → Move → Bool
open_chart C false s no_move = true
open_chart C false s (takes t) = false
open_chart C false s stay = false
open_chart C true s no_move = false
open_chart C true s (takes t) = same t.from s
open_chart C true s stay = C.stays

-- E: the charts; state: of each slave, its state; cfg: the present states; M: the moves of a choice
module _ (E : ℕ → Chart) (state : ℕ → ℕ) (cfg : ℕ → ℕ) (M : ℕ → Move) where
  unfoldable mutual
    -- every chart of a part follows that rule; given whether the part is active (RULES 5.3)
    pub open_tree : Tree → Bool → Bool
    open_tree (leaf c) a = open_chart (E c) a (cfg c) (M c)
    open_tree (comp l r x) a = open_tree l a && open_tree r a
    open_tree (hide l x y) a = open_tree l a
    -- a slave is active if the master is and meets the slave's state (RULES 5.3)
    open_tree (dec c ss) a = open_chart (E c) a (cfg c) (M c) && open_slaves ss (λ q. a && meets (cfg c) (M c) q)

    -- the same of slaves; given whether one is active, by its state
    pub open_slaves : Slaves → (ℕ → Bool) → Bool
    open_slaves nil f = true
    open_slaves (snoc ss i t) f = open_slaves ss f && open_tree t (f (state i))

  -- a choice is open; the whole is active (RULES 5.3)
  unfoldable pub is_open : Tree → Bool
  is_open t = open_tree t true

-- ── how many choices are open ──

-- all choices in order (RULES 5.8), by the move of the lowest chart first: n charts are left, c is the next
unfoldable pub choices : (ℕ → Chart) → ℕ → ℕ → (ℕ → ℕ) → List (ℕ → ℕ)
choices E zero c ch = ch ∷ []
choices E (suc n) c ch = upto (last_place (E c)) (λ v. choices E n (suc c) (upd ch c v))

module _ {A : Type 0} where
  -- how many of a list p holds of
  unfoldable pub how_many : (A → Bool) → List A → ℕ
  how_many p [] = 0
  how_many p (a ∷ as') = one (p a) + how_many p as'

-- of all choices of N charts, how many are open
unfoldable pub open_choices : (ℕ → Chart) → (ℕ → ℕ) → (ℕ → ℕ) → Tree → ℕ → ℕ
open_choices E state cfg t N = how_many (λ ch. is_open E state cfg (moves E ch) t) (choices E N zero (λ c. zero))

-- the same in a file, from a configuration
abbrev pub open_in : File → List ℕ → ℕ
open_in F config = open_choices F.chart F.state (λ c. get_or config c 0) (whole_of F) F.charts
