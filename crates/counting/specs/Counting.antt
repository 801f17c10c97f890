-- The count of open choices over rows of bytes and a table: wiring's Entries, over lists. In this order: what the count
-- asks of a file (Countable); a product (`branch_in`), a chart's sum (`sum_in`) and the total (`total_in`), with what
-- each
-- needs so as not to overflow; the table while it is filled (CountsOn, Stored, Filled); the places that begin an open
-- choice (`begins`), and the states by which one is left out (Shuts).
use Rattle.std.specs.Prelude.{◌≡◌, Bool, false, ◌&&◌, ◌||◌, cond, List, ℕ, ◌+◌, ◌≤◌, ◌<◌, ltb, length, get_or}
use Rattle.signals.specs.Mask.{bit}
use Rattle.layout.specs.Body.{head_at, transition_at, start_of}
use Rattle.layout.specs.declared.body.Shape.{Shape}
use Rattle.layout.specs.declared.record.Transition.{Transition}
use Rattle.meaning.specs.Numbers.{most_charts, most_signals, stay_edition}
use Rattle.meaning.specs.Sums.{any_up_to, tally, one}
use Rattle.meaning.specs.Meaning.{same}
use Rattle.meaning.specs.File.{File, chart_of, file_at}
use Rattle.meaning.specs.Check.{transitions?}
use Rattle.meaning.specs.Check.Nodes.{Sound}
use Rattle.meaning.specs.Calls.{Valid}
use Rattle.meaning.specs.Laws.Names.{kap}
use Rattle.wiring.specs.Product.{times}
use Rattle.wiring.specs.Completions.{count_by, spared}
use Rattle.wiring.specs.Total.{last_of, rule_of, hits_of}
use Rattle.wiring.specs.Entries.{factor_at, branch_at, sum_at, total_at}
use Rattle.checks.specs.Known.{Sized, Summed}
use Rattle.nesting.specs.Nearest.{master_by, state_by}
pub mod Laws

-- a chart's transitions from a state and its staying are 9 at most, and charts 16: 9 ^ 16; no number on the way is
-- larger
abbrev pub most_count : ℕ
most_count = 1853020188851841

-- an entry of a row
abbrev pub at : List ℕ → ℕ → ℕ
at l d = get_or l d 0

-- ── what the count asks ──

-- m and s have, of each chart, the master and the state of its nearest slave
abbrev pub NearestIn : File → List ℕ → List ℕ → Type 0
NearestIn F m s =
    (c : ℕ) → c < F.charts → (at m c ≡ master_by F (kap F c)) × (at s c ≡ state_by F (kap F c))

-- a body that passed the file check, a configuration of it, and the two rows
pub record Countable (n : Shape) (b config m s : List ℕ) : Type 0 where
  pub sized : Sized n b
  pub summed : Summed n b
  pub transitions : transitions? n b ≡ false
  pub sound : Sound (file_at n b)
  pub valid : Valid (file_at n b) config
  pub nearest : NearestIn (file_at n b) m s
  pub masters : n.charts ≤ length m
  pub states : n.charts ≤ length s

-- ── products ──

-- rows with room for n charts
pub record Roomy (n : ℕ) (m s t : List ℕ) : Type 0 where
  pub masters : n ≤ length m
  pub states : n ≤ length s
  pub counts : n ≤ length t

-- chart d's count in t, if chart c activates it by going from state q to state u
abbrev pub factor_in : List ℕ → List ℕ → List ℕ → ℕ → ℕ → ℕ → ℕ → ℕ
factor_in m s t c q u d = factor_at (at m) (at s) (at t) c q u d

abbrev pub branch_in : ℕ → List ℕ → List ℕ → List ℕ → ℕ → ℕ → ℕ → ℕ
branch_in n m s t c q u = branch_at n (at m) (at s) (at t) c q u

-- the product is small as far as it is made
abbrev pub Small : ℕ → List ℕ → List ℕ → List ℕ → ℕ → ℕ → ℕ → Type 0
Small n m s t c q u = (j : ℕ) → j ≤ n → times j (factor_in m s t c q u) ≤ most_count

-- ── sums ──

-- what staying adds to the entry of chart c in state q, by the edition
abbrev pub staying_in : Shape → List ℕ → List ℕ → List ℕ → ℕ → ℕ → ℕ
staying_in n m s t c q = cond (same n.edition stay_edition) (branch_in n.charts m s t c q q) 0

-- what a transition adds
abbrev pub added_in : ℕ → List ℕ → List ℕ → List ℕ → ℕ → ℕ → Transition → ℕ
added_in n m s t c q u = cond (same u.from q) (branch_in n m s t c q u.to) 0

-- staying and the first p transitions of chart c, in state q
abbrev pub sum_in : Shape → List ℕ → List ℕ → List ℕ → List ℕ → ℕ → ℕ → ℕ → ℕ
sum_in n b m s t c q p = sum_at n.charts (at m) (at s) (at t) (chart_of n b c) c q p

-- how many of p transitions from `start` on leave state q
abbrev pub leaving_in : Shape → List ℕ → ℕ → ℕ → ℕ → ℕ
leaving_in n b start q p = tally p (λ j. one (same (transition_at n b (start + j)).from q))

-- of the first k charts, t has how many transitions leave the present state
abbrev pub LeavesTo : Shape → List ℕ → List ℕ → ℕ → List ℕ → Type 0
LeavesTo n b config k t =
    (c : ℕ) → c < k → at t c ≡ leaving_in n b (start_of n b c) (at config c) (head_at n b c).transitions

-- some chart stands nearest in a slave of chart c
abbrev pub encloses_in : ℕ → List ℕ → ℕ → Bool
encloses_in n m c = any_up_to n (λ d. same (at m d) c)

-- each product and each sum on the way to the entry of chart c is small
pub record Smalls (n : Shape) (b m s t : List ℕ) (c q : ℕ) : Type 0 where
  pub staying : Small n.charts m s t c q q
  pub products : (p : ℕ) → p < (head_at n b c).transitions
      → Small n.charts m s t c q (transition_at n b (start_of n b c + p)).to
  pub sums : (p : ℕ) → p ≤ (head_at n b c).transitions → sum_in n b m s t c q p ≤ most_count

-- ── the total ──

-- the product over the charts outside all slaves
abbrev pub total_in : Shape → List ℕ → List ℕ → ℕ
total_in n m t = total_at n.charts most_charts (at m) (at t)

-- one factor of it: a master that is no chart's number says that there is none
abbrev pub outside_in : List ℕ → List ℕ → ℕ → ℕ
outside_in m t d = cond (ltb (at m d) most_charts) 1 (at t d)

-- it is small as far as it is made
abbrev pub TotalSmall : Shape → List ℕ → List ℕ → Type 0
TotalSmall n m t = (j : ℕ) → j ≤ n.charts → times j (outside_in m t) ≤ most_count

-- ── the table ──

-- the entry that chart c should have, by the entries of t above it
abbrev pub right_at : File → List ℕ → List ℕ → ℕ → ℕ
right_at F config t c =
    count_by F.charts (kap F) F.master (hits_of F.chart (at config) F.state F.master) (at t)
    (last_of F.chart) (rule_of F.chart (at config)) c

-- the entries of t from k on are right
abbrev pub CountsOn : Shape → List ℕ → List ℕ → ℕ → List ℕ → Type 0
CountsOn n b config k t =
    (c : ℕ) → k ≤ c → c < (file_at n b).charts → at t c ≡ right_at (file_at n b) config t c

-- chart k's entry is stored, and the charts below it still have what they had
pub record Stored (n : Shape) (b config : List ℕ) (k : ℕ) (t₀ t : List ℕ) (start : ℕ) : Type 0 where
  pub long : length t ≡ length t₀
  pub below : (c : ℕ) → c < k → at t c ≡ at t₀ c
  pub starts : start ≡ start_of n b k
  pub right : CountsOn n b config k t

-- all entries are
pub record Filled (n : Shape) (b config t₀ t : List ℕ) : Type 0 where
  pub long : length t ≡ length t₀
  pub right : CountsOn n b config 0 t

-- ── places that begin an open choice ──

-- place v of chart c does, by a table that is right, or it is that of an inactive chart
abbrev pub begins : File → List ℕ → List ℕ → ℕ → ℕ → Bool
begins F config t c v =
    spared F.charts (kap F) F.master (hits_of F.chart (at config) F.state F.master) (at t)
    (rule_of F.chart (at config)) c v

-- ── states that are shut: going there begins none ──

-- a mask of the states by which a chart at q activates the slave of state s, before the step or after it
abbrev pub ShutTo : ℕ → ℕ → ℕ → Type 0
ShutTo q s x = (u : ℕ) → bit x u ≡ (ltb u most_signals && (same q s || same u s))

-- chart d has no open choice, and chart c activates it by going from state q to state u
abbrev pub shut_by : List ℕ → List ℕ → List ℕ → ℕ → ℕ → ℕ → ℕ → Bool
shut_by m s t c q u d = same (at t d) 0 && (same (at m d) c && (same q (at s d) || same u (at s d)))

module _ (n : ℕ) (config m s t : List ℕ) where
  -- r has of each chart the states that are shut by the first k charts
  abbrev pub Shuts : ℕ → List ℕ → Type 0
  Shuts k r =
      (c u : ℕ) → c < n → bit (at r c) u ≡ (ltb u most_signals && any_up_to k (shut_by m s t c (at config c) u))

  -- r has those of r₀, and those that are shut by chart d
  abbrev pub ShutOne : ℕ → List ℕ → List ℕ → Type 0
  ShutOne d r₀ r =
      (c u : ℕ) → c < n
      → bit (at r c) u ≡ (bit (at r₀ c) u || (ltb u most_signals && shut_by m s t c (at config c) u d))
