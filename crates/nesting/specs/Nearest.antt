-- The nearest enclosing slave of each node (crate meaning, Laws/Names: enc), in bytes.
use Rattle.std.specs.Prelude.{◌≡◌, List, ℕ, suc, ◌<◌, get_or}
use Rattle.std.proofs.Math.Option.{Option, none, some}
use Rattle.meaning.specs.File.{File}
use Rattle.meaning.specs.Laws.Names.{enc}

-- a slave's number, 255 for none
unfoldable pub number_of : Option ℕ → ℕ
number_of none = 255
number_of (some i) = i

-- a slave's master, 255 for none; and its state
unfoldable pub master_by : File → Option ℕ → ℕ
master_by F none = 255
master_by F (some i) = F.master i

unfoldable pub state_by : File → Option ℕ → ℕ
state_by F none = 0
state_by F (some i) = F.state i

module _ (F : File) where
  -- l has node k's
  abbrev pub Right : List ℕ → ℕ → Type 0
  Right l k = get_or l k 0 ≡ number_of (enc F k)

  -- l has every node's
  abbrev pub Enclosers : List ℕ → Type 0
  Enclosers l = (k : ℕ) → k < F.nodes → Right l k

  -- ── while the nodes are walked ──

  -- m has the last node's and those of the slaves' nodes
  pub record Seeded (m : List ℕ) : Type 0 where
    pub last : (j : ℕ) → suc j ≡ F.nodes → Right m j
    pub slaves : (i : ℕ) → i < F.slaves → Right m (F.node i)

  -- m has those of the first n slaves' nodes, and what l has
  pub record Seeds (n : ℕ) (l m : List ℕ) : Type 0 where
    pub slaves : (i : ℕ) → i < n → Right m (F.node i)
    pub stays : (k : ℕ) → Right l k → Right m k

  -- m has those of the nodes that node j names
  pub record Handed (j : ℕ) (m : List ℕ) : Type 0 where
    pub left : F.kind j ≡ 1 → Right m (F.a j)
    pub right : F.kind j ≡ 1 → Right m (F.b j)
    pub inside : F.kind j ≡ 2 → Right m (F.a j)

  -- and what l has
  pub record Hands (j : ℕ) (l m : List ℕ) : Type 0 where
    pub handed : Handed j m
    pub stays : (k : ℕ) → Right l k → Right m k
