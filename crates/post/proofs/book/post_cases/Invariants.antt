-- `book::post_cases` is safe and ends: a turn for each record.
use Rattle.std.proofs.Common.{◌≡◌, length}
use Rattle.post.proofs.book.post_cases.Given as goal

abbrev pub invariant-loop-k : goal.invariant-loop-k
invariant-loop-k l = (length l.book ≡ 2112) × (length l.rows ≡ 1920)
