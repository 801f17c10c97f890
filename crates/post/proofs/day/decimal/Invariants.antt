-- `day::decimal` is safe and ends: a turn for each digit.
use Rattle.std.proofs.Common.{◌≤◌}
use Rattle.post.proofs.day.decimal.Given as goal

abbrev pub invariant-loop-b : goal.invariant-loop-b
invariant-loop-b l = l.v ≤ 999999999
