-- `modes::lookup` meets its contract: what is left of the table decides.
use mathlib.Core.Path.{◌≡◌}
use Prim.Native.Nat.{◌%◌, ◌≤◌}
use lib.ListN.{drop}
use Rattle.scan.specs.Table.{rows_of, numbers, table, lookup}
use Rattle.modes.proofs.lookup.Given as goal

abbrev pub invariant-loop-i : goal.invariant-loop-i
invariant-loop-i l = (l.i % 3 ≡ 0) × (l.i ≤ 507) × (lookup (rows_of (drop l.i numbers)) l.m l.b ≡ lookup table l.m l.b)
