-- `plan::feed` meets its contract: the rows below d are fed, if their chart is in the set; what gets up stays.
use mathlib.Core.Path.{◌≡◌}
use mathlib.Core.List.{List}
use Prim.Native.Nat.{ℕ, ◌≤◌, ◌<◌}
use lib.ListN.{length, get_or}
use Rattle.meaning.specs.Meaning.{Set}
use Rattle.cells.specs.Table.{back_row, back_at, up_at}
use Rattle.plan.specs.ByNode.{fed_at}
use Rattle.plan.proofs.feed.Given as goal

-- the first n rows of N charts are fed
pub record Fed (N n : ℕ) (s x : Set) (r l m : List ℕ) : Type 0 where
  pub in_rows : (c d : ℕ) → c < N → d < n → back_at m c d ≡ fed_at s x r l c d
  pub rest : (k : ℕ) → back_row n ≤ k → get_or m k 0 ≡ get_or l k 0
  pub ups : (d : ℕ) → up_at m d ≡ up_at l d

abbrev pub invariant-loop-d : goal.invariant-loop-d
invariant-loop-d l = (length l.masks ≡ length l.initial.masks) × Fed l.charts l.d l.set l.x l.down l.initial.masks l.masks
