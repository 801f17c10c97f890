-- `seed` meets its contract: the slaves below i are seeded. Assumes nothing.
use Rattle.meaning.specs.File.{file_at}
use Rattle.nesting.specs.Nearest.{Seeds}
use Rattle.nesting.proofs.seed.Given as goal

abbrev pub invariant-loop-i : goal.invariant-loop-i
invariant-loop-i l = Seeds (file_at l.n l.body) l.i l.initial.near l.near
