-- `any_doubtful` meets its contract. The loop's invariant: those that are left decide.
use mathlib.Core.Path.{◌≡◌}
use Rattle.layout.specs.Body.{from, transition_at}
use Rattle.meaning.specs.Plain.{any_doubtful}
use Rattle.plain.proofs.Laws.{left}
use Rattle.plain.proofs.any_doubtful.Given as goal

abbrev pub invariant-loop-i : goal.invariant-loop-i
invariant-loop-i l =
    any_doubtful l.fed (from (transition_at l.n l.body) l.start l.count)
    ≡ any_doubtful l.fed (left (transition_at l.n l.body) l.start l.count l.i)
