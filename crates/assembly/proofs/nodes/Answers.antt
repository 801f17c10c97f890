use mathlib.Core.Path.{◌≡◌, refl, ap, ◌∙◌}
use Prim.Native.Nat.{ℕ, ◌+◌, ◌<◌}
use native.Mathlib.Omega.{arith}
use lib.ListN.{get_or}
use Rattle.meaning.specs.File.{File, file_at}
use Rattle.meaning.specs.Rewriting.{before_last, start, new_name}
use Rattle.agreement.specs.Laid.{ren_inside}
use Rattle.layout.specs.Put.Laws.{put-length}
use Rattle.laying.specs.Sequence.{put-start, put_next, put-done, room_turn}
use Rattle.growth.specs.Growth.Laws.{nodes_none, nodes_more}
use Rattle.assembly.proofs.nodes.Goals as goal
use Rattle.assembly.proofs.nodes.Goals.{After-first-1}
use Rattle.assembly.proofs.nodes.Invariants.{written}

-- behind the last that is made for node j, by which it is named
name_next_lem : (F : File) (j : ℕ) → new_name F j + 1 ≡ start F (j + 1)
unfolding new_name
name_next_lem F j =
    let e : start F j + before_last F j + 1 ≡ start F j + (before_last F j + 1) = omega arith in
    e ∙ nodes_more F j refl

pub loop-j-init : goal.loop-j-init
loop-j-init c = (nodes_none _, put-start _)

pub node-p-requires : goal.node-p-requires
unfolding file_at
node-p-requires c =
    let p = c.requires in
    let a = c.args in
    let t = c.loop-j-test.true in (
      p.0,
      p.1,
      p.2,
      record { there = t; is = c.loop-j.invariant.0; named = p.3.nodes },
      room_turn (written a.n a.body.now) p.4 t c.loop-j.invariant.1,
    )

-- a name is below the limit
small : (c : After-first-1)
    → get_or c.args.names.now
    c.loop-j.j 0 < 64
unfolding file_at
small c =
    let p = c.requires in
    let a = c.args in
    let j = c.loop-j.j in
    let t = c.loop-j-test.true in
    omega (arith, p.2 j t, ren_inside (file_at a.n a.body.now) a.n.nodes j t, p.3.nodes)

pub loop-j-preserved : goal.loop-j-preserved
unfolding file_at
loop-j-preserved c = (
  ap (λ (k : ℕ). k + 1) (c.requires.2 c.loop-j.j
      c.loop-j-test.true) ∙ name_next_lem _ c.loop-j.j,
  put_next _ c.loop-j.invariant.1 c.node-p.ensures,
)

pub returns : goal.returns
returns c = put-done _ (omega arith) c.loop-j.invariant.1

pub overflow_cast-first : goal.overflow_cast-first
overflow_cast-first c = let s = small (goal.at.overflow_cast-first c).After-first-1 in omega arith

pub overflow_add-first : goal.overflow_add-first
overflow_add-first c = let s = small (goal.at.overflow_add-first c).After-first-1 in omega arith

pub shape_of-out : goal.shape_of-out
shape_of-out c = put-length c.loop-j.invariant.1
