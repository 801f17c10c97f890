-- When a file holds a chart as typed (`Faithful`): its charts are the sequential charts typed, by their names
-- (`ChartsTyped`), and its tree means the chart (`Means`).
use Rattle.std.specs.Prelude.{◌≡◌, false, ℕ, ◌<◌, length}
use Rattle.std.proofs.Math.Option.{Option}
use mathlib.Core.List.{List, [], ◌∷◌, ◌++◌, map, Memᴰ, Permᴰ}
use Rattle.meaning.specs.Meaning.{Chart as Drawn, Tree, leaf, comp, hide, dec, nil, snoc}
use Rattle.meaning.specs.Meaning.{Slaves as Held}
use Rattle.meaning.specs.File.{File, whole_of}
use Rattle.notation.specs.Syntax.{Signals, Sequential, sequential, decomposed, hidden, Chart, single}
use Rattle.notation.specs.Syntax.{composed, Slaves, first_slave, more_slaves}
use Rattle.reading.specs.Names.{members_of, name_of, sequentials_of}
use Rattle.reading.specs.Meant.{set_of, optional_of, transition_for, transitions_in}
use Rattle.forms.specs.Laws.Slaves.{Pair}
use Rattle.outline.specs.Laws.Sorted.{Each}

-- ── charts ──

-- a chart of a file is the sequential chart s
pub record ChartIs (c : Drawn) (s : Sequential) : Type 0 where
  pub states : c.states ≡ length (members_of s.heading.states)
  pub initial : c.initial ≡ s.heading.initial
  pub transitions : c.transitions ≡ map transition_for (transitions_in s)
  pub feedback : c.feedback ≡ set_of s.heading.feedback
  pub extra : c.extra ≡ optional_of s.extra
  pub stays : c.stays ≡ false

-- the charts of a file are the sequential charts of t, each by the number of its name
pub record ChartsTyped (F : File) (t : Chart) : Type 0 where
  pub charts : F.charts ≡ length (sequentials_of t)
  pub each : (s : Sequential) → Memᴰ s (sequentials_of t)
      → (name_of s < F.charts) × ChartIs (F.chart (name_of s)) s
  pub all : (c : ℕ) → c < F.charts → (s : Sequential) × Memᴰ s (sequentials_of t) × (name_of s ≡ c)

-- ── the tree ──

-- the slaves of a master, each with its state, in the order of the text
unfoldable pub pairs_of : Slaves → List Pair
pairs_of (first_slave q t) = record { state = q; chart = t } ∷ []
pairs_of (more_slaves ps q t) = pairs_of ps ++ (record { state = q; chart = t } ∷ [])

-- each key is above those before it
unfoldable pub Rising : {A : Type 0} → (A → ℕ) → List A → Type 0
Rising key [] = Unit {0}
Rising key (a ∷ l) = Each (λ b. key a < key b) l × Rising key l

-- l is the slaves of a master by rising state
pub record ByState (ps : Slaves) (l : List Pair) : Type 0 where
  pub typed : Permᴰ l (pairs_of ps)
  pub rises : Rising (λ p. p.state) l

mutual
  -- a tree of the file means a chart as typed
  pub data Means (F : File) : Tree → Chart → Type 0 where
    a-chart : (s : Sequential) → Means F (leaf (name_of s)) (single (sequential s))
    a_master : (s : Sequential) (ps : Slaves) (l : List Pair) (ss : Held) → ByState ps l → MeansAll F (name_of s) ss l
        → Means F (dec (name_of s) ss) (single (decomposed s ps))
    a-hiding : (x : Option Signals) (t : Chart) (y : Option Signals) (p : Tree) → Means F p t
        → Means F (hide p (optional_of x) (optional_of y)) (single (hidden x t y))
    a_pair : (t : Chart) (x : Signals) (u : Chart) (p q : Tree) → Means F p t → Means F q u
        → Means F (comp p q (set_of x)) (composed t x u)

  -- slaves of the tree mean slaves as typed, one by one: each is the record of the master c and of the state typed
  pub data MeansAll (F : File) : ℕ → Held → List Pair → Type 0 where
    no_slave : (c : ℕ) → MeansAll F c nil []
    one_more : (c : ℕ) (ss : Held) (l : List Pair) (i : ℕ) (p : Tree) (r : Pair) → MeansAll F c ss l → F.master i ≡ c
        → F.state i ≡ r.state → Means F p r.chart → MeansAll F c (snoc ss i p) (l ++ (r ∷ []))

-- ── both ──

pub record Faithful (F : File) (t : Chart) : Type 0 where
  pub charts : ChartsTyped F t
  pub tree : Means F (whole_of F) t
