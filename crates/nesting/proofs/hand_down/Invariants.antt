-- `hand_down` meets its contract: the nodes from j on are walked, and the next one's byte is right. Assumes nothing.
use Rattle.meaning.specs.File.{file_at}
use Rattle.nesting.proofs.Near.{Walked}
use Rattle.nesting.proofs.hand_down.Given as goal

abbrev pub invariant-loop-j : goal.invariant-loop-j
invariant-loop-j l = Walked (file_at l.n l.body) l.j l.near
