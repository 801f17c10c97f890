-- `plan::nearest` meets its contract. The loop's invariant: the charts of the nodes passed have their nearest slaves
-- noted. Assumes nothing.
use mathlib.Core.Path.{◌≡◌}
use Prim.Native.Nat.{ℕ, ◌<◌}
use lib.ListN.{length}
use Rattle.meaning.specs.File.{file_at}
use Rattle.plan.specs.Noted.{Noted}
use Rattle.plan.proofs.nearest.Given as goal

abbrev pub invariant-loop-j : goal.invariant-loop-j
invariant-loop-j l =
    (length l.small ≡ length l.initial.small)
    × ((k : ℕ) → k < l.j → (file_at l.n l.body).kind k ≡ 0 → Noted (file_at l.n l.body) l.small ((file_at l.n l.body).a k))
