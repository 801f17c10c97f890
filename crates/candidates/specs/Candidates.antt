-- What the functions that choose candidates ask and leave.
use Rattle.std.specs.Prelude.{◌≡◌, Bool, true, false, List, ℕ, ◌+◌, ◌*◌, ◌≤◌, ◌<◌, length, get_or, drop}
use Rattle.signals.specs.Mask.{◌∪◌, ◌∩◌}
use Rattle.layout.specs.Record.{transition_of}
use Rattle.layout.specs.Body.{head_at, transition_at, start_of, transitions_of}
use Rattle.layout.specs.Body.{from as fromOn}
use Rattle.layout.specs.declared.body.Shape.{Shape}
use Rattle.layout.specs.declared.record.Transition.{Transition}
use Rattle.meaning.specs.Numbers.{most_charts, most_from_state, stay_edition}
use Rattle.meaning.specs.Sums.{tally, one}
use Rattle.meaning.specs.Meaning.{Set, same, Chart}
use Rattle.meaning.specs.File.{chart_of}
use Rattle.meaning.specs.Check.{leaving}
use Rattle.meaning.specs.Rewriting.{union_up_to}
use Rattle.wiring.specs.Sure.{sure_of, sure_in}
use Rattle.wiring.specs.Pruning.{may_of}
use Rattle.cells.specs.Table.{SameWiring, masks_for, back_at, master_from, state_from, small_size, state_at}
use Rattle.tables.specs.Narrowing.{narrow, narrow_all, narrowed}
use Rattle.tables.specs.Insertion.{Filling, considered, listing, sure_at, Raised, Until, Chosen}
use Rattle.checks.specs.Known.{Sized, Summed}
use Rattle.candidates.specs.declared.Around.{Around}
use Rattle.candidates.specs.declared.Puts.{Puts}
pub mod Laws

-- a body that passed the checks, and a configuration of it
pub record Ready (n : Shape) (b config : List ℕ) : Type 0 where
  pub sized : Sized n b
  pub summed : Summed n b
  pub configured : n.charts ≤ length config
  pub room : (c : ℕ) → c < n.charts → leaving n b c (get_or config c 0) (head_at n b c).transitions ≤ most_from_state

-- tables with room for N charts
pub record Tabled (N : ℕ) (m s : List ℕ) : Type 0 where
  pub masks : masks_for N ≤ length m
  pub small : length s ≡ small_size

-- what a filling leaves in the tables
pub record Left (f : Filling) (m s : List ℕ) (k : ℕ) : Type 0 where
  pub masks : m ≡ f.masks
  pub small : s ≡ f.small
  pub count : k ≡ f.count

abbrev pub filling : List ℕ → List ℕ → ℕ → Filling
filling m s k = record { masks = m; small = s; count = k }

module _ (a : Around) where
  abbrev pub considered_by : ℕ → Transition → Filling → Filling
  considered_by p t f = considered a.chart a.state a.low a.own a.others a.shut p t f

  abbrev pub listing_by : (ℕ → Transition) → ℕ → Filling → Filling
  listing_by g p f = listing a.chart a.state a.low a.own a.others a.shut g p f

-- transition t, with only what is read of its action
abbrev pub read_as : Shape → List ℕ → Set → ℕ → Transition
read_as n b read t = narrow read (transition_at n b t)

-- the same of transition u from `start` on
abbrev pub from_start : Shape → List ℕ → Set → ℕ → ℕ → Transition
from_start n b read start u = read_as n b read (start + u)

-- the transitions that stand one behind the other from byte `at` on
abbrev pub record_from : List ℕ → ℕ → ℕ → Transition
record_from b at u = transition_of (drop (at + 28 * u) b)

-- the same, with only what is read of their actions
abbrev pub read_from : List ℕ → Set → ℕ → ℕ → Transition
read_from b read at u = narrow read (record_from b at u)

-- the charts, with only what is read of their actions
abbrev pub read_charts : Shape → List ℕ → List ℕ → ℕ → Chart
read_charts n b reads = narrowed (λ c. get_or reads c 0) (chart_of n b)

-- one transition with the action a more
abbrev pub with_one : Bool → Set → Puts → Puts
with_one true a p = record { may = p.may ∪ a; sure = p.sure ∩ a; count = p.count + 1 }
with_one false a p = p

-- what those of `count` transitions from `start` on that leave state q put out, and how many they are
pub record PutsOf (f : ℕ → Transition) (start count q : ℕ) (u : Puts) : Type 0 where
  pub may : u.may ≡ may_of (fromOn f start count) q
  pub sure : u.sure ≡ sure_of (fromOn f start count) q
  pub many : u.count ≡ tally count (λ j. one (same (f (start + j)).from q))

-- may has what each of the first k charts might put out
abbrev pub Mays : Shape → List ℕ → List ℕ → List ℕ → ℕ → List ℕ → Type 0
Mays n b config reads k may =
    (c : ℕ) → c < k → get_or may c 0 ≡ may_of (narrow_all (get_or reads c 0) (transitions_of n b c)) (get_or config c 0)

-- sures has what all transitions from its state of each of the first k charts put out
abbrev pub Sures : Shape → List ℕ → List ℕ → List ℕ → ℕ → List ℕ → Type 0
Sures n b config reads k sures =
    (c : ℕ) → c < k → get_or sures c 0 ≡ sure_of (narrow_all (get_or reads c 0) (transitions_of n b c))
    (get_or config c 0)

-- both, and counts has how many these transitions are
pub record PutsBy (n : Shape) (b config reads : List ℕ) (k : ℕ) (may sures counts : List ℕ) : Type 0 where
  pub mays : Mays n b config reads k may
  pub sure : Sures n b config reads k sures
  pub many : (c : ℕ) → c < k → get_or counts c 0
      ≡ tally (head_at n b c).transitions
      (λ j. one (same (transition_at n b (start_of n b c + j)).from (get_or config c 0)))
  pub may-long : length may ≡ most_charts
  pub sures-long : length sures ≡ most_charts
  pub counts-long : length counts ≡ most_charts

-- lows has what base has, and what the first k charts surely put in, if u has what all their transitions do
abbrev pub RaisedBy : Shape → List ℕ → List ℕ → List ℕ → ℕ → List ℕ → List ℕ → Type 0
RaisedBy n m s u k base lows =
    (c : ℕ) → c < most_charts
    → get_or lows c 0
    ≡ get_or base c 0 ∪ union_up_to k (λ e. sure_at s e (sure_in (same n.edition stay_edition) (get_or u e 0))
    ∩ back_at m c e)

-- the first k charts have their candidates
abbrev pub UntilChart : Shape → List ℕ → List ℕ → List ℕ → List ℕ → List ℕ → List ℕ → List ℕ → ℕ → List ℕ → List ℕ
    → Type 0
UntilChart n b config reads lows shuts m₀ s₀ k m s =
    Until (read_charts n b reads) (λ c. get_or config c 0) n.charts lows shuts m₀ s₀ k m s

-- chart c gets its candidates
abbrev pub NextChart : Shape → List ℕ → List ℕ → List ℕ → List ℕ → List ℕ → ℕ → List ℕ → List ℕ → List ℕ → List ℕ
    → Type 0
NextChart n b config reads lows shuts c m s m' s' =
    (m₀ s₀ : List ℕ) → UntilChart n b config reads lows shuts m₀ s₀ c m s
    → UntilChart n b config reads lows shuts m₀ s₀ (c + 1) m' s'

-- the states of the first k charts are in the table, the rest as it was
pub record Stated (config : List ℕ) (k : ℕ) (s₀ s : List ℕ) : Type 0 where
  pub states : (c : ℕ) → c < k → state_at s c ≡ get_or config c 0
  pub below : (i : ℕ) → i < state_from → get_or s i 0 ≡ get_or s₀ i 0
  pub small : length s ≡ length s₀

-- all charts have theirs, and the rest of the tables m₀ and s₀ is as it was: the wiring, the masters and their states
pub record Chooses (n : Shape) (b config reads base shuts lows m₀ s₀ m s : List ℕ) : Type 0 where
  pub chosen : Chosen (read_charts n b reads) (λ c. get_or config c 0) n.charts lows shuts m s
  pub raised : Raised (read_charts n b reads) (λ c. get_or config c 0) n.charts m s base lows
  pub wires : SameWiring m₀ m
  pub masters : (i : ℕ) → master_from ≤ i → i < state_from → get_or s i 0 ≡ get_or s₀ i 0
  pub tabled : Tabled n.charts m s
