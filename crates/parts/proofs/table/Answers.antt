use mathlib.Core.Path.{◌≡◌, refl, ◌∙◌}
use mathlib.Core.List.{List}
use Prim.Native.Nat.{ℕ, ◌+◌, ◌<◌}
use native.Mathlib.Omega.{arith}
use lib.ListN.{length, get_or, set, length-set}
use Rattle.meaning.specs.File.{File, file_at, tree_of}
use Rattle.meaning.specs.Laws.Trees.{Ordered}
use Rattle.meaning.specs.Laws.Folds.{fold, value_fold}
use Rattle.parts.specs.Parts.{off_of, value_at, Filled}
use Rattle.layout.specs.Row.Laws.{fill_more}
use Rattle.parts.specs.declared.Off.{Off}
use Rattle.parts.proofs.table.Goals as goal

-- a table that is right below j gets the value of node j
module _ (F : File) (w : Ordered F) (own : List ℕ) (off : Off) (t : List ℕ) (j v : ℕ) (f : Filled F own off t j)
    (l : j < F.nodes) (m : j < length t)
    (e : v ≡ value_at F own off t j) where
  right : v ≡ fold (λ c. get_or own c 0) (off_of off) (tree_of F j)
  unfolding value_at
  right = e ∙ value_fold (λ c. get_or own c 0) (off_of off) F w (λ k. get_or t k 0) j l f.at

  stored : Filled F own off (set t j v) (j + 1)
  stored = record { at = fill_more (λ k. fold (λ c. get_or own c 0) (off_of off) (tree_of F k)) t j v f.at right m }

pub loop-j-init : goal.loop-j-init
loop-j-init c = (refl, record { at = λ k h. absurd (omega arith) })

pub loop-j-preserved : goal.loop-j-preserved
unfolding file_at
loop-j-preserved c = (
  simp length-set c.loop-j.invariant.0,
  stored _ c.requires.1.ordered _ _ _ _ _ c.loop-j.invariant.1 c.loop-j-test.true
      (omega arith) c.value.ensures,
)

pub returns : goal.returns
returns c = record { at = λ k h. c.loop-j.invariant.1.at k (omega arith) }
