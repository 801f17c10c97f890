use mathlib.Core.Path.{◌≡◌}
use Prim.Native.Nat.{◌+◌, ◌*◌, ◌≤◌}
use native.Mathlib.Omega.{arith}
use Rattle.meaning.specs.Numbers.{most_from_state}
use Rattle.meaning.specs.Sums.{tally, one}
use Rattle.meaning.specs.Meaning.{same}
use Rattle.candidates.specs.Candidates.{record_from}
use Rattle.staying.specs.Staying.Laws.{noting_none, noting_next, noting_few, noting_room, noting_from}
use Rattle.staying.specs.Staying.Laws.{records_few}
use Rattle.staying.proofs.note_chart.Goals as goal
use Rattle.staying.proofs.note_chart.Goals.{At-loop-p, Start}

-- no more transitions leave the state than there is room for
few : (s : Start)
    → tally s.args.count (λ u. one (same
    (record_from s.args.body.now (24 * s.args.n.charts + 28 * s.args.start) (0 + u)).from s.args.state))
    ≤ most_from_state
few s = records_few s.args.n s.args.body.now s.args.start s.args.count s.args.state s.requires.4

-- the record that is next, counted as the laws count it
next : (t : At-loop-p)
    → (t.loop-p.at ≡ 24 * t.args.n.charts + 28 * t.args.start + 28 * (0 + t.loop-p.p))
next t = omega (arith, t.loop-p.invariant.0)

pub loop-p-init : goal.loop-p-init
loop-p-init c = (omega arith, noting_none _ _ _ _ _ _)

pub note-have-requires : goal.note-have-requires
note-have-requires c = (
  omega (arith, c.requires.0, c.requires.1, c.loop-p.invariant.0),
  rw c.loop-p.invariant.1.beside.size c.requires.2,
  c.requires.3,
  noting_few _ _ _ _ _ _ (few (goal.at.note-have-requires c).Start) _ _ _ c.loop-p.invariant.1 c.loop-p.auto.p-end,
  λ h. noting_room _ _ _ _ _ _ (few (goal.at.note-have-requires c).Start) _ _ _ c.loop-p.invariant.1 c.loop-p-test.true (rw (next (goal.at.note-have-requires c).At-loop-p) at h),
)

pub loop-p-preserved : goal.loop-p-preserved
loop-p-preserved c = (
  omega (arith, c.loop-p.invariant.0),
  noting_next _ _ _ _ _ _ (few (goal.at.loop-p-preserved c).Start) _ _ _ c.loop-p.invariant.1 c.loop-p-test.true
      c.requires.3 c.requires.2 _ _ (rw (next (goal.at.loop-p-preserved c).At-loop-p) at c.note-have.ensures),
)

pub returns : goal.returns
returns c =
    let e : c.loop-p.p ≡ c.args.count = omega arith in (
      noting_from c.args.n c.args.body.now c.args.start c.args.count c.args.state c.args.c _ _ _
          (rw e at c.loop-p.invariant.1),
      noting_few _ _ _ _ _ _ (few (goal.at.returns c).Start) _ _ _ c.loop-p.invariant.1 c.loop-p.auto.p-end,
    )
