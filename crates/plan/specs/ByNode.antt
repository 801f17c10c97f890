-- What the wiring of a file leaves, node by node from node 0 up: in a search's masks (crate cells, Table), in the row
-- of what gets down to each chart, and in the sets of charts, one for each node. What the masks mean is in the crate
-- wiring (Reach, Latest).
use Rattle.std.specs.Prelude.{◌≡◌, Bool, ◌&&◌, ◌||◌, cond, List, ℕ, ◌<◌, length, get_or, set}
use Rattle.signals.specs.Mask.{◌∪◌, ◌∩◌, ◌∖◌, bit}
use Rattle.meaning.specs.Numbers.{most_charts}
use Rattle.meaning.specs.Sums.{any_up_to}
use Rattle.meaning.specs.Meaning.{Set, Tree, same}
use Rattle.meaning.specs.File.{File, Has, tree_of}
use Rattle.cells.specs.Table.{back_at, up_at, up_cell}
use Rattle.wiring.specs.Reach.{full}
use Rattle.wiring.specs.Latest.{down_to, up_to, back_to}
pub mod Laws

-- all masks are empty
abbrev pub Blank : List ℕ → Type 0
Blank l = (k : ℕ) → get_or l k 0 ≡ 0

-- ── a part with the charts s; N is the number of all charts ──

-- what gets down to chart c by the row r, if c is one of the part's charts
abbrev pub down_in : Set → List ℕ → ℕ → Set
down_in s r c = cond (bit s c) (get_or r c 0) 0

-- q has this for the first n charts
abbrev pub DownRow : Set → List ℕ → ℕ → List ℕ → Type 0
DownRow s r n q = (c : ℕ) → c < n → get_or q c 0 ≡ down_in s r c

-- what chart c is offered of chart d's action, where of that action m is fed back: what the masks l have and, if c is
-- one of the part's charts, what is in m and gets down to it by the row r
abbrev pub fed_row : Set → Set → ℕ → List ℕ → List ℕ → ℕ → Set
fed_row s m d r l c = cond (bit s c) (back_at l c d ∪ (m ∩ get_or r c 0)) (back_at l c d)

-- the same with feedback of x: of the actions of the part's charts, what gets up and is in x
abbrev pub fed_at : Set → Set → List ℕ → List ℕ → ℕ → ℕ → Set
fed_at s x r l c d = cond (bit s d) (fed_row s (up_at l d ∩ x) d r l c) (back_at l c d)

-- the masks m are l with feedback of x over the part
pub record Feeds (N : ℕ) (s x : Set) (r l m : List ℕ) : Type 0 where
  pub back_is : (c d : ℕ) → c < N → d < N → back_at m c d ≡ fed_at s x r l c d
  pub up_is : (d : ℕ) → d < N → up_at m d ≡ up_at l d

-- the masks m and the row q are l and r with x hidden on the way into the part, and y on the way out
pub record Hides (N : ℕ) (s x y : Set) (r q l m : List ℕ) : Type 0 where
  pub down_is : (c : ℕ) → c < N → get_or q c 0 ≡ cond (bit s c) (get_or r c 0 ∖ x) (get_or r c 0)
  pub up_is : (d : ℕ) → d < N → up_at m d ≡ cond (bit s d) (up_at l d ∖ y) (up_at l d)
  pub back_is : (c d : ℕ) → c < N → d < N → back_at m c d ≡ back_at l c d
  pub long : length q ≡ length r

-- chart c is inside one of the first k slaves, one of chart d's, where l has the set of each node's charts
abbrev pub inside : File → ℕ → List ℕ → ℕ → ℕ → Bool
inside F d l k c = any_up_to k (λ i. same (F.master i) d && bit (get_or l (F.node i) 0) c)

-- s is the set of these charts
abbrev pub Inside : File → ℕ → List ℕ → ℕ → Set → Type 0
Inside F d l k s = (c : ℕ) → bit s c ≡ inside F d l k c

-- chart d with its slaves, where l has the set of each node's charts: s is the set of them all; everything gets down to
-- d, and up from it; and d's feedback goes over them all
pub record Charted (F : File) (d : ℕ) (l : List ℕ) (s : Set) (r q m m' : List ℕ) : Type 0 where
  pub set_is : (c : ℕ) → bit s c ≡ (same c d || inside F d l F.slaves c)
  pub down_is : q ≡ set r d full
  pub fed : Feeds F.charts s (F.chart d).feedback q (set m (up_cell d) full) m'

-- ── the first j nodes ──

-- s is the set of the tree's charts
abbrev pub ChartsOf : Set → Tree → Type 0
ChartsOf s t = (c : ℕ) → bit s c ≡ Has t c

-- l has the set of each node's charts
abbrev pub Sets : File → ℕ → List ℕ → Type 0
Sets F j l = (i : ℕ) → i < j → ChartsOf (get_or l i 0) (tree_of F i)

-- the row r and the masks m are those of the parts that the first j nodes make
pub record WiredTo (F : File) (j : ℕ) (r m : List ℕ) : Type 0 where
  pub down_is : (c : ℕ) → c < F.charts → get_or r c 0 ≡ down_to F j c
  pub up_is : (d : ℕ) → d < F.charts → up_at m d ≡ up_to F j d
  pub back_is : (c d : ℕ) → c < F.charts → d < F.charts → back_at m c d ≡ back_to F j c d
  pub long : length r ≡ most_charts
