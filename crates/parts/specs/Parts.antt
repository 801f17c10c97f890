-- What a table of the nodes' values is filled with: of each part the charts' own values joined, less what hiding takes
-- off.
use Rattle.std.specs.Prelude.{◌≡◌, List, ℕ, ◌<◌, get_or}
use Rattle.signals.specs.Mask.{◌∪◌}
use Rattle.meaning.specs.Meaning.{Set}
use Rattle.meaning.specs.File.{File, tree_of}
use Rattle.meaning.specs.Laws.Folds.{fold, joins, value_of}
use Rattle.parts.specs.declared.Off.{Off}
use Rattle.parts.specs.declared.Off.TheVariants.{Input, Output}
pub mod Laws

-- what a hidden node takes off, of its sets x and y
abbrev pub off_of : Off → Set → Set → Set
off_of Input x y = x
off_of Output x y = y

-- own, joined with what the slaves of chart c among the first k records have in the table t
unfoldable pub with_slaves : File → List ℕ → ℕ → Set → ℕ → Set
with_slaves F t c own k = own ∪ joins F.master (λ i. get_or t (F.node i) 0) c k

-- the value of node j by the table t of lower nodes; own has the charts' values
unfoldable pub value_at : File → List ℕ → Off → List ℕ → ℕ → Set
value_at F own off t j = value_of F (λ c. get_or own c 0) (off_of off) (λ k. get_or t k 0) j

-- the table t is right below j
pub record Filled (F : File) (own : List ℕ) (off : Off) (t : List ℕ) (j : ℕ) : Type 0 where
  pub at : (k : ℕ) → k < j → get_or t k 0 ≡ fold (λ c. get_or own c 0) (off_of off) (tree_of F k)
