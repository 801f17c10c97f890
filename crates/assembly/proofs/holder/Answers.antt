-- `holder` meets its contract, by whether the chart has slaves.
use mathlib.Core.Path.{◌≡◌, sym, ap, ◌∙◌}
use mathlib.Core.List.{List}
use Prim.Native.Nat.{ℕ}
use native.Mathlib.Omega.{arith}
use Rattle.layout.specs.Record.{node_bytes}
use Rattle.layout.specs.Record.Laws.{length_node}
use Rattle.meaning.specs.File.{File, file_at}
use Rattle.meaning.specs.Rewriting.{count}
use Rattle.layout.specs.Put.{Room}
use Rattle.layout.specs.Put.Laws.{put-length}
use Rattle.laying.specs.Sequence.{put_is, room_all}
use Rattle.assembly.specs.Records.{holding, master_bytes, held_bytes}
use Rattle.assembly.specs.Records.Laws.{held_none, held_some}
use Rattle.assembly.proofs.holder.Goals as goal
use Rattle.assembly.proofs.holder.Goals.{After-slice_known-2-1, After-slice_known-then-slaves-eq0-1}

-- s is the chart's number of slaves, k
module _ (F : File) (c at s k : ℕ) (e : s ≡ k) where
  none : s ≡ 0 → held_bytes F c at k ≡ node_bytes (holding c)
  none z = held_none F c at k (sym e ∙ z)

  some : (s ≡ 0 → ⊥) → held_bytes F c at k ≡ master_bytes F c at s
  some z = held_some F c at k (λ q. z (e ∙ q)) ∙ ap (master_bytes F c at) (sym e)

  room_some : (s ≡ 0 → ⊥) → (p : ℕ) (l : List ℕ) → Room l p (held_bytes F c at k) → Room l p (master_bytes F c at s)
  room_some z p l r = rw (some z) at r

pub put_node-requires : goal.put_node-requires
put_node-requires c =
    let a = c.args in
    let F = file_at a.n a.body.now in
    room_all (held_bytes F a.c a.first (count F a.c a.n.slaves)) (node_bytes (holding a.c)) 20
    (none F a.c a.first _ _ c.slaves_of-slaves.ensures.0 c.if-slaves-eq0.true)
    (length_node (holding a.c)) a.at a.out.now c.requires.4

pub returns-then-slaves-eq0 : goal.returns-then-slaves-eq0
returns-then-slaves-eq0 c =
    put_is (sym (none _ _ _ _ _ c.slaves_of-slaves.ensures.0
    c.if-slaves-eq0.true)) c.put_node.ensures

pub master-requires : goal.master-requires
unfolding file_at
master-requires c =
    let p = c.requires in
    let a = c.args in
    let e = c.slaves_of-slaves.ensures.0 in
    let m = p.3.named in
    let z = c.if-slaves-eq0.false in (
      p.0,
      p.1,
      p.2,
      record { there = p.3.there; some = omega arith; number = e; named = omega arith },
      room_some (file_at a.n a.body.now) a.c a.first _
          (count (file_at a.n a.body.now) a.c a.n.slaves) e z a.at
          a.out.now p.4,
    )

pub returns : goal.returns
returns c =
    put_is (sym (some _ _ _ _ _ c.slaves_of-slaves.ensures.0
    c.if-slaves-eq0.false)) c.master.ensures

pub slaves_of-slaves-requires : goal.slaves_of-slaves-requires
unfolding file_at
slaves_of-slaves-requires c = c.requires.0

pub overflow_cast-held : goal.overflow_cast-held
unfolding file_at
overflow_cast-held c =
    let h = c.requires.0.sized.charts in
    let t = c.requires.3.there in omega arith

pub shape_of-out-then-slaves-eq0 : goal.shape_of-out-then-slaves-eq0
unfolding file_at
shape_of-out-then-slaves-eq0 c =
    put-length (returns-then-slaves-eq0 (goal.at.shape_of-out-then-slaves-eq0 c).After-slice_known-then-slaves-eq0-1)

pub shape_of-out : goal.shape_of-out
unfolding file_at
shape_of-out c = put-length (returns (goal.at.shape_of-out c).After-slice_known-2-1)
