-- `settling::all_calm` meets its contract: where none may stay all charts are calm; the loop: those below d are.
use mathlib.Core.Path.{◌≡◌}
use mathlib.Core.Bool.{true}
use mathlib.Core.List.{List}
use Prim.Native.Nat.{ℕ}
use Rattle.meaning.specs.Laws.Bools.{every}
use Rattle.settling.specs.Trail.{trail_in}
use Rattle.settling.specs.Calm.{calm_at}
use Rattle.settling.proofs.all_calm.Given as goal

abbrev pub invariant-loop-d : goal.invariant-loop-d
invariant-loop-d l = (s : List ℕ) (o : ℕ) → every l.d (calm_at l.masks s l.guards l.stays (trail_in l.trail l.moves l.k o) l.k) ≡ true
