-- The walk of 10, over slaves and then over nodes: what its three tables have on the way, and what 10 asks of them.
-- Laws are in Names/Laws.antt.
use Rattle.std.specs.Prelude.{Bool, cond, List, ℕ, zero, suc, ◌+◌, get_or}
use Rattle.meaning.specs.Numbers.{most_charts, most_nodes}
use Rattle.meaning.specs.Sums.{any_up_to, tally, one}
use Rattle.meaning.specs.Meaning.{same}
use Rattle.meaning.specs.File.{File}
use Rattle.meaning.specs.Check.{not_below, differ, names, holds}
use Rattle.checks.specs.Walk.{Table}
pub mod Laws

module _ (F : File) where
  -- how often the first i slaves and the first k nodes name node j
  unfoldable pub named_by : ℕ → ℕ → ℕ → ℕ
  named_by i k j = tally i (λ h. one (same (F.node h) j)) + tally k (λ m. names F m j)

  -- how many of the first k nodes hold chart c
  unfoldable pub held_by : ℕ → ℕ → ℕ
  held_by k c = tally k (λ m. one (holds F m c))

  -- the last of the first k nodes that holds chart c, and 0 where none does
  unfoldable pub holder_in : ℕ → ℕ → ℕ
  holder_in zero c = 0
  holder_in (suc k) c = cond (holds F k c) k (holder_in k c)

-- the tables after all slaves and the first k nodes
pub record Walked (F : File) (k : ℕ) (named held holder : List ℕ) : Type 0 where
  pub named_is : Table most_nodes (named_by F F.slaves k) named
  pub held_is : Table most_charts (held_by F k) held
  pub holder_is : Table most_charts (holder_in F k) holder

-- the three parts of 10, asked of the tables
abbrev pub held_amiss : ℕ → List ℕ → Bool
held_amiss charts held = any_up_to charts (λ c. differ (get_or held c 0) 1)

abbrev pub named_amiss : ℕ → List ℕ → Bool
named_amiss nodes named = any_up_to nodes (λ j. differ (get_or named j 0) (cond (same (suc j) nodes) 0 1))

abbrev pub masters_amiss : File → List ℕ → Bool
masters_amiss F holder = any_up_to F.slaves (λ i. not_below (F.node i) (get_or holder (F.master i) 0))
