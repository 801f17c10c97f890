-- `settling::idle` meets its contract: what it writes is one chart more, which takes no transition.
use mathlib.Core.Path.{◌≡◌}
use mathlib.Core.List.{List}
use Prim.Native.Nat.{ℕ, ◌+◌, ◌≤◌, ◌<◌}
use lib.ListN.{length-set}
use Rattle.meaning.specs.Numbers.{most_charts}
use Rattle.cells.specs.Table.{state_at}
use Rattle.cells.specs.Trail.{put_asked, put_move, Room}
use Rattle.settling.specs.Trail.{Lowers}
use Rattle.settling.specs.Trail.Laws.{written_keeps, idle_in}
use Rattle.settling.specs.Hunt.{Idles}
use Rattle.settling.proofs.idle.Goals as goal

-- what was written is chart k's, which keeps its state
idles : (m s w b : List ℕ) (N k z t : ℕ) {w₁ b₁ w' : List ℕ} {x : ℕ} → Room (k + 1) w b → N ≤ most_charts
    → k < most_charts → w₁ ≡ put_asked w k 0 0 → x ≡ state_at s k → b₁ ≡ put_move b k x z t → Lowers m 0 N k w₁ w'
    → Idles z t s N k w b w' b₁
idles m s w b N k z t {w' = w'} room few one ew ex eb h =
    let l : Lowers m 0 N k (put_asked w k 0 0) w' = rw ew at h in
    rw (eb, ex)
    (record {
      kept = written_keeps m w b w' N k _ _ _ _ _ _ room few one l;
      grown = idle_in m s w b w' N k z t room few one l;
    })

pub lower-requires : goal.lower-requires
lower-requires c =
    (c.requires.0, rw c.put_asked.ensures (simp length-set c.requires.2.masks), c.requires.3, c.requires.4)

pub returns : goal.returns
returns c =
    idles c.args.masks.now c.args.small.now c.args.trail.now c.args.moves.now c.args.charts
    c.args.k c.args.active c.args.place c.requires.2 c.requires.4 c.requires.3
    c.put_asked.ensures c.state-next.ensures c.put.ensures c.lower.ensures
