-- What is said of a file's tree and of its slaves: the charts of a tree in their order (`charts_in`); a tree of charts
-- and slaves of the file alone (`Within`), in which each slave has the tree of its node (`Built`); a slave's record as
-- a number (`key_of`), and numbers that rise (`Climbs`).
use Rattle.std.specs.Prelude.{◌≡◌, List, [], ◌∷◌, ◌++◌, ℕ, suc, ◌+◌, ◌*◌, ◌<◌}
use Rattle.meaning.specs.Meaning.{Tree, leaf, comp, hide, dec, nil, snoc}
use Rattle.meaning.specs.Meaning.{Slaves as Held}
use Rattle.meaning.specs.File.{File, tree_of}

-- ── the charts of a tree ──

-- from left to right, a master before its slaves
unfoldable mutual
  pub charts_in : Tree → List ℕ
  charts_in (leaf c) = c ∷ []
  charts_in (comp p q x) = charts_in p ++ charts_in q
  charts_in (hide p x y) = charts_in p
  charts_in (dec c ss) = c ∷ charts_in_all ss

  pub charts_in_all : Held → List ℕ
  charts_in_all nil = []
  charts_in_all (snoc ss i t) = charts_in_all ss ++ charts_in t

-- ── the charts and slaves of a file ──

module _ (F : File) where
  abbrev mutual
    -- each chart of a tree is one of the file, and each slave too, under its master
    pub Within : Tree → Type 0
    Within (leaf c) = c < F.charts
    Within (comp p q x) = Within p × Within q
    Within (hide p x y) = Within p
    Within (dec c ss) = (c < F.charts) × WithinBy c ss

    pub WithinBy : ℕ → Held → Type 0
    WithinBy c nil = Unit {0}
    WithinBy c (snoc ss i t) = WithinBy c ss × (i < F.slaves) × (F.master i ≡ c) × Within t

  abbrev mutual
    -- each slave in a tree has the tree of its node
    pub Built : Tree → Type 0
    Built (leaf c) = Unit {0}
    Built (comp p q x) = Built p × Built q
    Built (hide p x y) = Built p
    Built (dec c ss) = BuiltAll ss

    pub BuiltAll : Held → Type 0
    BuiltAll nil = Unit {0}
    BuiltAll (snoc ss i t) = BuiltAll ss × (t ≡ tree_of F (F.node i)) × Built t

-- ── slaves in their order ──

-- a chart and a state as one number, for states below sixteen
abbrev pub key_for : ℕ → ℕ → ℕ
key_for c q = c * 16 + q

-- a slave's record: by its chart, then by its state
abbrev pub key_of : File → ℕ → ℕ
key_of F i = key_for (F.master i) (F.state i)

-- k 0 < k 1 < .. < k (n - 1)
abbrev pub Climbs : ℕ → (ℕ → ℕ) → Type 0
Climbs n k = (i : ℕ) → suc i < n → k i < k (suc i)
