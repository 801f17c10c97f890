-- `names::walk_nodes` meets its contract. The loop's invariant: the tables have what the nodes passed name and hold.
-- Assumes nothing.
use Rattle.meaning.specs.File.{file_at}
use Rattle.naming.specs.Names.{Walked}
use Rattle.naming.proofs.names.walk_nodes.Given as goal

abbrev pub invariant-loop-k : goal.invariant-loop-k
invariant-loop-k l = Walked (file_at l.n l.body) l.k l.named l.held l.holder
