-- How deep the chart that a node makes is as it is typed; the deepest slave of a chart; a table of the nodes' depths.
use Rattle.std.specs.Prelude.{◌≡◌, cond, List, ℕ, zero, suc, ◌<◌, get_or}
use Rattle.layout.specs.declared.body.Shape.{Shape}
use Rattle.meaning.specs.Meaning.{same}
use Rattle.meaning.specs.File.{File, tree_of, file_at}
use Rattle.notation.specs.Syntax.{larger, depth}
use Rattle.spelling.specs.Typed.{typed_of}

-- how deep node j is
abbrev pub depth_at : File → ℕ → ℕ
depth_at F j = depth (typed_of F (tree_of F j))

-- the deepest, by d, of the slaves of chart c among the first k records; 0 for none
unfoldable pub deepest : (ℕ → ℕ) → (ℕ → ℕ) → ℕ → ℕ → ℕ
deepest master d c zero = 0
deepest master d c (suc i) = cond (same (master i) c) (larger (deepest master d c i) (d i)) (deepest master d c i)

-- the same by the table t of the nodes' depths
unfoldable pub deepest_by : File → List ℕ → ℕ → ℕ → ℕ
deepest_by F t c k = deepest F.master (λ i. get_or t (F.node i) 0) c k

-- the table t is right below j
pub record Depths (F : File) (t : List ℕ) (j : ℕ) : Type 0 where
  pub at : (k : ℕ) → k < j → get_or t k 0 ≡ depth_at F k

-- a walk up the nodes of a body is at node j
abbrev pub Reached : Shape → List ℕ → List ℕ → ℕ → Type 0
Reached n b t j = (j < n.nodes) × Depths (file_at n b) t j
