-- `consult::unseen` meets its contract: what the file's charts have, or its refusal.
use mathlib.Core.Path.{◌≡◌}
use mathlib.Core.Bool.{false}
use mathlib.Core.List.{List}
use Prim.Native.Nat.{ℕ}
use Rattle.std.specs.Prelude.{Ok}
use Rattle.queries.specs.declared.file.StateCounts.{StateCounts}
use Rattle.queries.specs.States.{states_of}
use Rattle.desk.specs.Turns.{unseen_of}
use Rattle.consult.proofs.unseen.Goals as goal

accepted : (f : List ℕ) (s : StateCounts) → s ≡ states_of f
    → record { tested = Ok tt; charts = s.charts; states = s.states; ended = false } ≡ unseen_of f
unfolding unseen_of
accepted f s e = rw e

pub returns : goal.returns
returns c = let e = c.in_ok-s.ensures in (e.0, accepted _ _ e.1)
