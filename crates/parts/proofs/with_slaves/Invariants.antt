-- `parts::with_slaves` meets its contract. The loop's invariant: what the slaves passed have is joined. Assumes
-- nothing.
use mathlib.Core.Path.{◌≡◌}
use Rattle.meaning.specs.File.{file_at}
use Rattle.parts.specs.Parts.{with_slaves}
use Rattle.parts.proofs.with_slaves.Given as goal

abbrev pub invariant-loop-i : goal.invariant-loop-i
invariant-loop-i l = l.all ≡ with_slaves (file_at l.n l.body) l.table l.c l.own l.i
