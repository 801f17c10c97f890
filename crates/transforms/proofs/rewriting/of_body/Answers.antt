-- `rewriting::of_body` meets its contract: 40 to 45 in order, then the rewritten file over the front of the buffer.
use mathlib.Core.Path.{◌≡◌, refl, sym, ap, ◌∙◌}
use mathlib.Core.Bool.{true, false}
use Prim.Native.Nat.{ℕ, ◌+◌}
use native.Mathlib.Omega.{arith}
use Rattle.std.proofs.Common.{List, Some, None}
use lib.Dec.{ltb}
use lib.ListN.{length}
use Rattle.meaning.specs.File.{File, file_at}
use Rattle.meaning.specs.Check.{first_of}
use Rattle.meaning.specs.Rewriting.{used, free, call, rewrite, encode}
use Rattle.std.proofs.lemmas.Result.{err_from_is_err_and}
use Rattle.checks.specs.Refusals.Laws.{number-some}
use Rattle.checks.specs.declared.refusal.Refusal.TheVariants.{NoFreeSignal, ShortOut}
use Rattle.laying.specs.Trailer.{Small}
use Rattle.allocation.specs.Known.{Calling, CallsIn}
use Rattle.assembly.specs.Known.{Fits}
use Rattle.assembly.specs.Records.Laws.{shape_small}
use Rattle.transforms.specs.Rewriting.{limit_tests}
use Rattle.transforms.specs.Rewriting.Laws.{after-calls, after_limits, after_room, after-all, fits, size_is}
use Rattle.transforms.specs.Rewriting.Laws.{refuses, gives}
use Rattle.transforms.proofs.rewriting.of_body.Goals as goal
use Rattle.transforms.proofs.rewriting.of_body.Goals.{After-size-size, In-Some, In_ok-test_limits}

-- u are the signals that the file uses
module _ (F : File) (u : ℕ) (e : u ≡ used F) where
  too_few : Calling u F.slaves None → ltb (length (free F)) F.slaves ≡ true
  unfolding free
  too_few h = rw (← e) h

  module _ (l : List ℕ) (h : Calling u F.slaves (Some l)) where
    enough : ltb (length (free F)) F.slaves ≡ false
    unfolding free
    enough = rw (← e) h.0

    calls_in : CallsIn F l
    unfolding call free
    calls_in i q = h.1 i q ∙ rw e

-- 40 applies
pub returns-in_default : goal.returns-in_default
unfolding file_at
returns-in_default c =
    let a = c.args in
    refuses (file_at a.n a.body.now) a.out.now NoFreeSignal
    (sym (after-calls (file_at a.n a.body.now) _
    (too_few (file_at a.n a.body.now) _ c.used.ensures (rw c.in_default.is at c.given.ensures))))

-- the file that was read
abbrev at : In-Some → File
at c =
    file_at c.args.n
    c.args.body.now

-- 40 does not apply, and slaves have their calls
free-left : (c : In-Some) → ltb (length (free (at c))) (at c).slaves ≡ false
unfolding file_at
free-left c = enough (at c) _ c.used.ensures _ (rw c.in-Some.is at c.given.ensures)

have-calls : (c : In-Some) → CallsIn (at c) c.in-Some.calls
unfolding file_at
have-calls c = calls_in (at c) _ c.used.ensures _ (rw c.in-Some.is at c.given.ensures)

-- 41 to 44 do not apply
in-limits : (c : In_ok-test_limits)
    → first_of (limit_tests (at (goal.at.In_ok-test_limits c).In-Some)) ≡ 0
in-limits c = sym c.in_ok-test_limits.ensures

fitting : (c : In_ok-test_limits) → Fits (at (goal.at.In_ok-test_limits c).In-Some)
fitting c =
    fits (at ((goal.at.In_ok-test_limits c).In-Some)) 0
    (free-left ((goal.at.In_ok-test_limits c).In-Some)) (in-limits c)

pub inner-inner-requires : goal.inner-inner-requires
inner-inner-requires c = (
  c.requires.0,
  have-calls (goal.at.inner-inner-requires c).In-Some,
  c.requires.1,
)

pub test_limits-requires : goal.test_limits-requires
test_limits-requires c = (
  c.requires.0,
  c.inner-inner.ensures,
  c.shape-m.ensures,
)

pub returns-in_err-test_limits : goal.returns-in_err-test_limits
returns-in_err-test_limits c =
    let e = c.in_err-test_limits.ensures in
    let k = (goal.at.returns-in_err-test_limits c).In-Some in
    let p = err_from_is_err_and c.from_residual.result c.from_residual.ensures.1 in
    rw (p.1, p.2)
    (refuses (at k) c.args.out.now _
    (e ∙ sym (after_limits (at k) _ (free-left k) (λ z. number-some _ (e ∙ z)))))

-- the result's counts and its size
counts : (c : In_ok-test_limits) → Small c.shape-m.result
unfolding file_at
counts c = shape_small (at (goal.at.In_ok-test_limits c).In-Some) (fitting c)
    c.requires.0.sized.charts _
    c.shape-m.ensures

length-is : (c : After-size-size)
    → c.size-size.result + 12
    ≡ length (encode (rewrite (at (goal.at.After-size-size c).In-Some)))
unfolding file_at
length-is c = ap (λ (k : ℕ). k + 12) c.size-size.ensures
    ∙ size_is (at (goal.at.After-size-size c).In-Some) _
    c.shape-m.ensures

pub overflow_add-size : goal.overflow_add-size
overflow_add-size c =
    let e = c.size-size.ensures in let k = counts (goal.at.overflow_add-size c).In_ok-test_limits in omega arith

pub returns-then-out-size : goal.returns-then-out-size
returns-then-out-size c =
    let l = length-is (goal.at.returns-then-out-size c).After-size-size in
    let r = c.args.out.now in
    refuses (at (goal.at.returns-then-out-size c).In-Some) r ShortOut (sym (after_room (at (goal.at.returns-then-out-size c).In-Some) (length r) (free-left (goal.at.returns-then-out-size c).In-Some) (in-limits (goal.at.returns-then-out-size c).In_ok-test_limits)
    (rw l at c.if-out-size.true)))

pub lay-requires : goal.lay-requires
lay-requires c =
    let p = c.requires in (
      p.0,
      have-calls
          (goal.at.lay-requires c).In-Some,
      c.inner-inner.ensures,
      fitting (goal.at.lay-requires c).In_ok-test_limits,
      c.shape-m.ensures,
      refl,
      rw (length-is (goal.at.lay-requires c).After-size-size) at c.if-out-size.false,
    )

pub returns : goal.returns
returns c =
    let l = length-is (goal.at.returns c).After-size-size in
    let r = c.args.out.now in
    gives (at (goal.at.returns c).In-Some) r _ _ (after-all (at (goal.at.returns c).In-Some) (length r) (free-left (goal.at.returns c).In-Some)
    (in-limits (goal.at.returns c).In_ok-test_limits)
    (rw l at c.if-out-size.false)) l c.lay.ensures

pub used-requires : goal.used-requires
used-requires c = c.requires.0

pub given-requires : goal.given-requires
given-requires c = let h = c.requires.0.sized.slaves in omega arith

pub shape-m-requires : goal.shape-m-requires
shape-m-requires c = (
  c.requires.0,
  c.inner-inner.ensures,
)

pub size-size-requires : goal.size-size-requires
size-size-requires c = counts (goal.at.size-size-requires c).In_ok-test_limits
