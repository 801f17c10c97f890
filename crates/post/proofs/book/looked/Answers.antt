use Rattle.std.proofs.Common.{arith, rules}
use Rattle.post.proofs.book.looked.Goals as goal

pub case_at-requires : goal.case_at-requires
case_at-requires c = (omega arith, search rules)
