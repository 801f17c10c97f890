-- The nearest enclosing slave of each chart (crate meaning, Laws/Names: kap), as a search reads it.
use Rattle.std.specs.Prelude.{◌≡◌, List, ℕ, ◌<◌}
use Rattle.meaning.specs.File.{File}
use Rattle.meaning.specs.Laws.Names.{kap}
use Rattle.cells.specs.Table.{master_at, slave_state_at}
use Rattle.nesting.specs.Nearest.{master_by, state_by}

module _ (F : File) where
  -- s has the master and the state of chart c's
  abbrev pub Noted : List ℕ → ℕ → Type 0
  Noted s c = (master_at s c ≡ master_by F (kap F c)) × (slave_state_at s c ≡ state_by F (kap F c))

  -- every chart's
  abbrev pub NearestIn : List ℕ → Type 0
  NearestIn s = (c : ℕ) → c < F.charts → Noted s c

  -- m has those of node j's chart, if it holds one, and of the charts of which l has them
  pub record Notes (j : ℕ) (l m : List ℕ) : Type 0 where
    pub noted : F.kind j ≡ 0 → Noted m (F.a j)
    pub stays : (c : ℕ) → c < F.charts → Noted l c → Noted m c

-- the first n charts stand in no slave
abbrev pub NotedNone : ℕ → List ℕ → Type 0
NotedNone n s = (c : ℕ) → c < n → (master_at s c ≡ 255) × (slave_state_at s c ≡ 0)
