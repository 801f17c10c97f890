-- How 11 is tested: by the lowest chart of each node, slaves left out. A slave that passes has none but higher charts
-- than its master, so where every slave passes, that chart is the lowest with slaves too. Laws are in Inside/Laws.antt.
use Rattle.std.specs.Prelude.{Bool, cond, List, ◌≡◌, ℕ, ◌<◌, ltb, get_or}
use Rattle.meaning.specs.Meaning.{Tree, leaf, comp, hide, dec}
use Rattle.meaning.specs.File.{File, tree_of}
use Rattle.meaning.specs.Check.{not_below}
pub mod Laws

abbrev pub lower : ℕ → ℕ → ℕ
lower a b = cond (ltb a b) a b

-- the lowest chart of a tree, slaves left out
unfoldable pub lowest : Tree → ℕ
lowest (leaf c) = c
lowest (comp p q x) = lower (lowest p) (lowest q)
lowest (hide p x y) = lowest p
lowest (dec c ss) = c

-- the table t is right below j
pub record Lows (F : File) (t : List ℕ) (j : ℕ) : Type 0 where
  pub at : (k : ℕ) → k < j → get_or t k 0 ≡ lowest (tree_of F k)

-- slave i does not pass: that chart of its node is not above its master
abbrev pub fails : File → ℕ → Bool
fails F i = not_below (F.master i) (lowest (tree_of F (F.node i)))
