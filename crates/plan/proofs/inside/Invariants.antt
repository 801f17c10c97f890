-- `plan::inside` meets its contract: the sets of the slaves below i are joined.
use Rattle.meaning.specs.File.{file_at}
use Rattle.plan.specs.ByNode.{Inside}
use Rattle.plan.proofs.inside.Given as goal

abbrev pub invariant-loop-i : goal.invariant-loop-i
invariant-loop-i l = Inside (file_at l.n l.body) l.c l.sets l.i l.set
