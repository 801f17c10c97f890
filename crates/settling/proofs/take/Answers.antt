-- `settling::take` meets its contract: what it writes is one chart more.
use mathlib.Core.Path.{◌≡◌}
use mathlib.Core.List.{List}
use Prim.Native.Nat.{ℕ, ◌+◌, ◌≤◌, ◌<◌}
use borrow.Author.Rules.{rules}
use lib.ListN.{length-set}
use Rattle.meaning.specs.Numbers.{most_charts}
use Rattle.cells.specs.Table.{needed_at, barred_at, action_at, to_at, place_at}
use Rattle.cells.specs.Trail.{put_asked, put_move, Room}
use Rattle.settling.specs.Trail.{Lowers}
use Rattle.settling.specs.Trail.Laws.{written_keeps, take_in}
use Rattle.settling.specs.Hunt.{Takes}
use Rattle.settling.proofs.take.Goals as goal

-- what was read is candidate v, and what was written is chart k's
takes : (m s w b : List ℕ) (N k v : ℕ) {w₁ b₁ w' : List ℕ} {n r x t a : ℕ} → Room (k + 1) w b → N ≤ most_charts
    → k < most_charts → n ≡ needed_at m k v → r ≡ barred_at m k v → w₁ ≡ put_asked w k n r → x ≡ to_at s k v
    → t ≡ place_at s k v → b₁ ≡ put_move b k x 1 t → a ≡ action_at m k v → Lowers m a N k w₁ w'
    → Takes m s N k v w b w' b₁
takes m s w b N k v {w' = w'} room few one en er ew ex et eb ea h =
    let l : Lowers m (action_at m k v) N k (put_asked w k (needed_at m k v) (barred_at m k v)) w' =
    rw (ea, ew, en, er) at h in
    rw (eb, ex, et)
    (record {
      kept = written_keeps m w b w' N k _ _ _ _ _ _ room few one l;
      grown = take_in m s w b w' N k v room few one l;
    })

pub lower-requires : goal.lower-requires
lower-requires c =
    (search rules, rw c.put_asked.ensures (simp length-set c.requires.2.masks), c.requires.3, c.requires.5)

pub returns : goal.returns
returns c =
    takes c.args.masks.now c.args.small.now c.args.trail.now c.args.moves.now c.args.charts
    c.args.k c.args.v c.requires.2 c.requires.5 c.requires.3
    c.needed-needed.ensures c.barred-barred.ensures c.put_asked.ensures c.to-next.ensures
    c.place-place.ensures c.put.ensures c.action-action.ensures
    c.lower.ensures
