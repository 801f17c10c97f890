-- `book::fill` is safe and ends: a turn for each record.
use Rattle.std.proofs.Common.{◌≡◌, length}
use Rattle.post.proofs.book.fill.Given as goal

abbrev pub invariant-loop-k : goal.invariant-loop-k
invariant-loop-k l = length l.book ≡ 2112
