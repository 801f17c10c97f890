-- `file::put_bytes` meets its contract. The charts passed have their bytes at the front of the buffer.
use mathlib.Core.Path.{◌≡◌}
use mathlib.Core.List.{◌++◌}
use lib.ListN.{drop}
use Rattle.layout.specs.Body.{head_at}
use Rattle.meaning.specs.Calls.{made}
use Rattle.queries.proofs.file.put_bytes.Given as goal

abbrev pub invariant-loop-c : goal.invariant-loop-c
invariant-loop-c g l = l.out ≡ made l.c (λ d. g.byte (head_at l.n l.body d)) ++ drop l.c l.initial.out
