-- `file::put_initials` meets its contract: the byte of each head is its initial state.
use Rattle.layout.specs.declared.record.Head.{Head}
use Rattle.queries.proofs.file.put_initials.Given as goal

abbrev pub ghost-put_bytes : goal.ghost-put_bytes
ghost-put_bytes a = λ (h : Head). h.initial
