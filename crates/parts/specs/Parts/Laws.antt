-- Laws of tables: a slave's node and chart are in one (`slave_there`); what a whole table says of a node (`filled`).
use Rattle.std.specs.Prelude.{◌≡◌, List, ℕ, ◌<◌, get_or}
use Rattle.std.proofs.Common.{◌∙◌, arith}
use Rattle.layout.specs.Body.{slave_at}
use Rattle.layout.specs.declared.body.Shape.{Shape}
use Rattle.layout.specs.declared.record.Slave.{Slave}
use Rattle.meaning.specs.Numbers.{most_charts, most_nodes}
use Rattle.meaning.specs.Meaning.{Set}
use Rattle.meaning.specs.File.{File, tree_of, file_at}
use Rattle.meaning.specs.Laws.Folds.{fold, fold_own}
use Rattle.meaning.specs.Check.Nodes.{Treed, has-below}
use Rattle.checks.specs.Known.{Sized}
use Rattle.parts.specs.Parts.{off_of, Filled}
use Rattle.parts.specs.declared.Off.{Off}

-- a slave's node and chart are there, so they are in a table
pub slave_there : (n : Shape) (b : List ℕ) (i : ℕ) (s : Slave) → s ≡ slave_at n b i → Sized n b
    → (let F = file_at n b in (h : ℕ) → h < F.slaves → (F.node h < F.nodes) × (F.master h < F.charts))
    → i < n.slaves
    → (s.node < most_nodes) × (s.chart < most_charts)
unfolding file_at
slave_there n b i s e z f l = let h = f i l in let m = z.nodes in let c = z.charts in rw e (omega arith, omega arith)

module _ (F : File) (w : Treed F) (own : List ℕ) (t : List ℕ) where
  -- the charts' values are asked of the file's charts alone
  pub filled : (off : Off) (v : ℕ → Set) → Filled F own off t F.nodes
      → ((c : ℕ) → c < F.charts → get_or own c 0 ≡ v c)
      → (j : ℕ) → j < F.nodes → get_or t j 0 ≡ fold v (off_of off) (tree_of F j)
  filled off v f h j l =
      f.at j l ∙ fold_own (λ c. get_or own c 0) v (off_of off) (tree_of F j) (λ c e. h c (has-below F w j c l e))
