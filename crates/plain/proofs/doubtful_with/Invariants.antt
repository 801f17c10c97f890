-- `doubtful_with` meets its contract. The loop's invariant: those that are left decide.
use mathlib.Core.Path.{◌≡◌}
use Rattle.layout.specs.Body.{from, transition_at}
use Rattle.meaning.specs.Plain.{doubtful_with}
use Rattle.plain.proofs.Laws.{left}
use Rattle.plain.proofs.doubtful_with.Given as goal

abbrev pub invariant-loop-k : goal.invariant-loop-k
invariant-loop-k l =
    doubtful_with l.fed l.t (from (transition_at l.n l.body) l.start l.count)
    ≡ doubtful_with l.fed l.t (left (transition_at l.n l.body) l.start l.count l.k)
