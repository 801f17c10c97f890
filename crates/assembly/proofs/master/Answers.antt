-- `master` meets its contract: the three parts of `master_bytes`, one behind another.
use mathlib.Core.Path.{◌≡◌, sym}
use mathlib.Core.List.{List, ◌++◌}
use Prim.Native.Nat.{ℕ, ◌+◌}
use native.Mathlib.Omega.{arith}
use Rattle.signals.specs.Mask.{◌∪◌}
use Rattle.layout.specs.Record.{node_bytes}
use Rattle.layout.specs.Record.Laws.{length_node}
use Rattle.layout.specs.Body.{head_at}
use Rattle.layout.specs.declared.body.Shape.{Shape}
use Rattle.layout.specs.declared.record.Head.{Head}
use Rattle.meaning.specs.Meaning.{Set}
use Rattle.meaning.specs.File.{File, file_at, chart_of}
use Rattle.meaning.specs.Rewriting.{calls_of, in_turn}
use Rattle.layout.specs.Put.{Room}
use Rattle.layout.specs.Put.Laws.{put-append, put-length, room_first, room_next}
use Rattle.laying.specs.Sequence.{put_is, room_one, room_last}
use Rattle.assembly.specs.Records.{holding, hiding, part_bytes, master_bytes}
use Rattle.assembly.proofs.master.Goals as goal
use Rattle.assembly.proofs.master.Goals.{After-slice_known-4-1}

-- the parts, by the sets that code has
abbrev middle : File → ℕ → ℕ → Set → List ℕ
middle F c first x = in_turn F.slaves (part_bytes F c first x)

abbrev last : ℕ → Set → List ℕ
last at hidden = node_bytes (hiding at hidden hidden)

module _ (n : Shape) (b : List ℕ) (c slaves first : ℕ) (h : Head) (hidden : Set) (eh : h ≡ head_at n b c)
    (es : hidden ≡ calls_of (file_at n b) c) where
  bytes_are : master_bytes (file_at n b) c first slaves
      ≡ node_bytes (holding c) ++ (middle (file_at n b) c first (h.feedback ∪ hidden) ++ last (first + slaves) hidden)
  unfolding master_bytes file_at chart_of
  bytes_are = rw (eh, es)

  room_are : (at : ℕ) (l : List ℕ) → Room l at (master_bytes (file_at n b) c first slaves)
      → Room l at
      (node_bytes (holding c) ++ (middle (file_at n b) c first (h.feedback ∪ hidden) ++ last (first + slaves) hidden))
  room_are at l r = rw bytes_are at r

pub put_node-p-requires : goal.put_node-p-requires
put_node-p-requires c =
    let p = c.requires in
    let a = c.args in
    room_one (node_bytes (holding a.c)) _ 20 (length_node (holding a.c)) a.at a.out.now
    (room_are a.n a.body.now a.c a.slaves a.first _ _ c.head_at-h.ensures
    c.calls_of-hidden.ensures a.at
    a.out.now p.4)

pub parts-q-requires : goal.parts-q-requires
unfolding file_at
parts-q-requires c =
    let p = c.requires in
    let a = c.args in
    let x = c.head_at-h.result.feedback
    ∪ c.calls_of-hidden.result in
    let m = p.3.named in (
      p.0,
      p.2,
      omega arith,
      room_first c.put_node-p.new.out _
          (middle (file_at a.n a.body.now) a.c a.first x)
          (last (a.first + a.slaves) c.calls_of-hidden.result)
          (room_next _ _ _ (middle (file_at a.n a.body.now) a.c a.first x
          ++ last (a.first + a.slaves) c.calls_of-hidden.result)
          (room_are a.n a.body.now a.c a.slaves a.first _ _
          c.head_at-h.ensures
          c.calls_of-hidden.ensures a.at a.out.now p.4)
          c.put_node-p.ensures),
    )

pub put_node-requires : goal.put_node-requires
unfolding file_at
put_node-requires c =
    let p = c.requires in
    let a = c.args in
    let x = c.head_at-h.result.feedback
    ∪ c.calls_of-hidden.result in
    room_last (last (a.first + a.slaves)
    c.calls_of-hidden.result) 20
    (length_node _) c.parts-q.ensures
    (room_next _ _ _ (middle (file_at a.n a.body.now) a.c a.first x
    ++ last (a.first + a.slaves)
    c.calls_of-hidden.result)
    (room_are a.n a.body.now a.c a.slaves a.first _ _
    c.head_at-h.ensures
    c.calls_of-hidden.ensures
    a.at a.out.now p.4)
    c.put_node-p.ensures)

pub returns : goal.returns
unfolding file_at
returns c =
    let a = c.args in
    put_is (sym (bytes_are a.n a.body.now a.c a.slaves a.first _ _
    c.head_at-h.ensures
    c.calls_of-hidden.ensures))
    (put-append
    c.put_node-p.ensures
    (put-append c.parts-q.ensures
    c.put_node.ensures))

pub calls_of-hidden-requires : goal.calls_of-hidden-requires
unfolding file_at
calls_of-hidden-requires c = (c.requires.0, c.requires.1)

pub head_at-h-requires : goal.head_at-h-requires
unfolding file_at
head_at-h-requires c = (c.requires.0.sized.holds, c.requires.3.there)

pub overflow_cast-held : goal.overflow_cast-held
unfolding file_at
overflow_cast-held c =
    let h = c.requires.0.sized.charts in
    let t = c.requires.3.there in omega arith

pub overflow_cast-first : goal.overflow_cast-first
unfolding file_at
overflow_cast-first c =
    let m = c.requires.3.named in
    omega arith

pub overflow_add-whole : goal.overflow_add-whole
unfolding file_at
overflow_add-whole c =
    let m = c.requires.3.named in
    omega arith

pub overflow_cast-whole : goal.overflow_cast-whole
unfolding file_at
overflow_cast-whole c =
    let m = c.requires.3.named in
    omega arith

pub shape_of-out : goal.shape_of-out
unfolding file_at
shape_of-out c = put-length (returns (goal.at.shape_of-out c).After-slice_known-4-1)
