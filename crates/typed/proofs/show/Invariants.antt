-- `typed::show` meets its contract. The loop's invariant: the signals below n are written, with commas between.
use Rattle.layout.specs.Put.{Put}
use Rattle.typed.specs.Typed.{members_to}
use Rattle.typed.specs.Typed.Laws.{listed}
use Rattle.typed.proofs.show.Given as goal

abbrev pub invariant-loop-n : goal.invariant-loop-n
invariant-loop-n l = Put l.initial.out 0 (listed (members_to l.n l.set)) l.out l.end
