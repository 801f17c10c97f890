-- `names::named_by_slaves` meets its contract. The loop's invariant: the table has how often the slaves passed name
-- each node. Assumes nothing.
use Rattle.meaning.specs.Numbers.{most_nodes}
use Rattle.meaning.specs.File.{file_at}
use Rattle.checks.specs.Walk.{Table}
use Rattle.naming.specs.Names.{named_by}
use Rattle.naming.proofs.names.named_by_slaves.Given as goal

abbrev pub invariant-loop-i : goal.invariant-loop-i
invariant-loop-i l = Table most_nodes (named_by (file_at l.n l.body) l.i 0) l.named
