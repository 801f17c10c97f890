-- `list` meets its contract. The loop: p transitions were considered, and the next begins at `at`. Assumes nothing.
use mathlib.Core.Path.{◌≡◌}
use Prim.Native.Nat.{◌+◌, ◌*◌}
use Rattle.candidates.specs.Candidates.{Left, filling, listing_by, read_from}
use Rattle.candidates.proofs.list.Given as goal

abbrev pub invariant-loop-p : goal.invariant-loop-p
invariant-loop-p l =
    (l.at ≡ l.initial.at + 28 * l.p)
    × Left (listing_by l.a (read_from l.body l.a.read l.initial.at) l.p (filling l.initial.masks l.initial.small 0)) l.masks l.small l.have
