-- `start::first` meets its contract: the places are those of the first rows, by computation.
use mathlib.Core.Path.{◌≡◌, ap, ◌∙◌}
use Prim.Native.Nat.{◌+◌}
use native.Mathlib.Omega.{arith}
use Rattle.scan.specs.Table.{numbers}
use Rattle.modes.specs.Laws.Start.{first_row, first_rows, first_rows_lem, starts_all, starts_first}
use Rattle.modes.proofs.start.first.Goals as goal

pub returns-then-m-gt120 : goal.returns-then-m-gt120
returns-then-m-gt120 c = starts_all _

pub returns : goal.returns
unfolding first_rows first_row numbers
returns c =
    let m = c.args.m in
    starts_first m _ (first_rows_lem 121 0 m (omega arith) ∙ ap (first_row numbers) (let z : 0 + m ≡ m = omega arith in z))
