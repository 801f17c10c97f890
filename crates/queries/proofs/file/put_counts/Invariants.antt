-- `file::put_counts` meets its contract: the byte of each head is its number of states.
use Rattle.layout.specs.declared.record.Head.{Head}
use Rattle.queries.proofs.file.put_counts.Given as goal

abbrev pub ghost-put_bytes : goal.ghost-put_bytes
ghost-put_bytes a = λ (h : Head). h.states
