use mathlib.Core.Path.{◌≡◌, refl, sym, subst}
use Prim.Native.Nat.{ℕ, ◌+◌, ◌*◌, ◌≤◌}
use native.Mathlib.Omega.{arith}
use Rattle.layout.specs.declared.record.Transition.{Transition}
use Rattle.meaning.specs.Numbers.{most_from_state}
use Rattle.meaning.specs.Sums.{tally, one}
use Rattle.meaning.specs.Meaning.{same}
use Rattle.tables.specs.Insertion.{Filling}
use Rattle.candidates.specs.Candidates.{filling, read_from, from_start}
use Rattle.candidates.specs.Candidates.Laws.{read_from_lem, left-none, left-next, left_masks, left-small, left_tabled}
use Rattle.candidates.specs.Candidates.Laws.{left_few, left_room}
use Rattle.candidates.proofs.list.Goals as goal
use Rattle.candidates.proofs.list.Goals.{Start}

-- the chart's transitions, record by record
abbrev records : Start → ℕ → Transition
records s = read_from s.args.body.now s.args.a.read (24 * s.args.n.charts + 28 * s.args.start)

-- nothing is listed yet
abbrev none : Start → Filling
none s = filling s.args.masks.now s.args.small.now 0

as_typed : (s : Start) → records s ≡ from_start s.args.n s.args.body.now s.args.a.read s.args.start
as_typed s = read_from_lem s.args.n s.args.body.now s.args.a.read s.args.start

-- no more of them leave the state than there is room for
few : (s : Start)
    → tally s.args.count (λ u. one (same (records s u).from s.args.a.state)) ≤ most_from_state
few s =
    subst (λ f. tally s.args.count (λ u. one (same (f u).from s.args.a.state)) ≤ most_from_state)
    (sym (as_typed s)) s.requires.5

pub loop-p-init : goal.loop-p-init
loop-p-init c = (omega arith, left-none c.args.a _ _)

pub consider-have-requires : goal.consider-have-requires
consider-have-requires c =
    let a = c.args in (
      omega (arith, c.requires.0, c.requires.1, c.loop-p.invariant.0),
      left_tabled a.a (records (goal.at.consider-have-requires c).Start) (none (goal.at.consider-have-requires c).Start) (a.a.chart + 1) c.loop-p.p c.loop-p.masks c.loop-p.small c.loop-p.have c.loop-p.invariant.1
          c.requires.3,
      c.requires.4,
      left_few a.a (records (goal.at.consider-have-requires c).Start) (none (goal.at.consider-have-requires c).Start) refl a.count (few (goal.at.consider-have-requires c).Start) c.loop-p.p c.loop-p.masks c.loop-p.small c.loop-p.have c.loop-p.invariant.1
          c.loop-p.auto.p-end,
      λ h. left_room a.a (records (goal.at.consider-have-requires c).Start) (none (goal.at.consider-have-requires c).Start) refl a.count (few (goal.at.consider-have-requires c).Start) c.loop-p.p c.loop-p.masks c.loop-p.small c.loop-p.have
          c.loop-p.invariant.1 c.loop-p-test.true (rw c.loop-p.invariant.0 at h),
    )

pub loop-p-preserved : goal.loop-p-preserved
loop-p-preserved c = (
  omega (arith, c.loop-p.invariant.0),
  left-next c.args.a (records (goal.at.loop-p-preserved c).Start) (none (goal.at.loop-p-preserved c).Start) c.loop-p.p c.loop-p.masks c.loop-p.small c.loop-p.have _ _ _ c.loop-p.invariant.1
      (rw c.loop-p.invariant.0 at c.consider-have.ensures),
)

pub returns : goal.returns
returns c =
    let a = c.args in
    let e : c.loop-p.p ≡ a.count = omega arith in (
      rw (as_typed (goal.at.returns c).Start) at (rw e at c.loop-p.invariant.1),
      left_few a.a (records (goal.at.returns c).Start) (none (goal.at.returns c).Start) refl a.count (few (goal.at.returns c).Start) c.loop-p.p c.loop-p.masks c.loop-p.small c.loop-p.have c.loop-p.invariant.1
          c.loop-p.auto.p-end,
    )
