use mathlib.Core.Path.{◌≡◌, refl, sym, ap, ap₂, ◌∙◌, subst}
use mathlib.Core.Bool.{false, cond}
use mathlib.Core.Option.{none, some}
use mathlib.Core.List.{[]}
use native.Mathlib.Omega.{arith}
use Prim.Native.Nat.{◌+◌}
use lib.ListN.{length, take, drop, get_or}
use lib.Seq.{take-length}
use Rattle.scan.specs.Look.{look, rev}
use Rattle.scan.specs.Scan.{advance, accepts, scan_from, scan}
use Rattle.scan.specs.Laws.Back.{rev-take}
use Rattle.scan.specs.Laws.Steps.{scan_stops, scan-goes, scan_ends}
use Rattle.levels.specs.Ring.{Keeps}
use Rattle.modes.specs.Step.{place_of, packed}
use Rattle.modes.specs.Laws.Step.{somewhere, packed-mode, packed_place}
use Rattle.recogniser.specs.Laws.Loop.{first-level, verdict_at, scan-verdict}
use Rattle.recogniser.proofs.from_start.Goals as goal
use Rattle.recogniser.proofs.from_start.Goals.{After-accepts, After-advance}

pub loop-i-init : goal.loop-i-init
unfolding scan rev
loop-i-init c = (c.requires, refl)

-- one byte further
advances : (c : After-advance) → packed c.advance.result
    ≡ advance c.loop-i.step.mode (place_of c.loop-i.step.token) (get_or c.args.text.now c.loop-i.i 0)
    (look (rev (take c.loop-i.i c.args.text.now) []) 0 0 false)
advances c =
    c.advance.ensures
    ∙ ap (advance c.loop-i.step.mode (place_of c.loop-i.step.token) _) (c.innermost.ensures
    ∙ first-level _ _ _ _ c.refilled-kept.ensures.0.stands.kept c.refilled-kept.ensures.1.1)

pub returns-in_default : goal.returns-in_default
returns-in_default c =
    ap verdict_at
    (sym (scan_stops c.args.text.now c.loop-i.i _ _ c.loop-i-test.true _
    (advances (goal.at.returns-in_default c).After-advance)
    (ap packed c.in_default.is))
    ∙ c.loop-i.invariant.1)
    ∙ scan-verdict c.args.text.now

pub noted-kept-requires : goal.noted-kept-requires
noted-kept-requires c =
    let f = c.refilled-kept.ensures in
    (f.0.stands.kept.inside, (f.1.1, (f.0.stands.kept.few, f.1.0.few)))

pub loop-i-preserved : goal.loop-i-preserved
loop-i-preserved c =
    let w = c.args.text.now in
    let f = c.refilled-kept.ensures in
    let k = c.noted-kept.ensures w _ (omega arith, refl) f.0 f.1.0 in
    let s = c.in-Some.next in
    let e = sym (ap packed c.in-Some.is) ∙ advances (goal.at.loop-i-preserved c).After-advance in (
      (
        subst (λ v. Keeps w c.noted-kept.new.ring c.noted-kept.new.places c.noted-kept.result v)
            (sym (rev-take w c.loop-i.i c.loop-i-test.true)) k.0,
        k.1,
      ),
      ap₂ (scan_from (drop (c.loop-i.i + 1) w) (rev (take (c.loop-i.i + 1) w) []) (c.loop-i.i + 1))
          (sym (packed-mode s)) (sym (packed_place s))
          ∙ sym (scan-goes w c.loop-i.i _ _ c.loop-i-test.true _ e (somewhere s)) ∙ c.loop-i.invariant.1,
    )

-- the answer at the end of the text
ends : (c : After-accepts) → cond c.accepts.result none (some (length c.args.text.now)) ≡ scan c.args.text.now
ends c =
    let w = c.args.text.now in
    let s = c.loop-i.step in
    let e : c.loop-i.i ≡ length w = omega arith in
    ap (λ b. cond b none (some (length w)))
    (c.accepts.ensures
    ∙ ap (accepts s.mode (place_of s.token)) (c.innermost-2.ensures
    ∙ first-level _ _ _ _ c.refilled-kept-2.ensures.0.stands.kept c.refilled-kept-2.ensures.1.1)
    ∙ ap (λ w. accepts s.mode (place_of s.token) (look (rev w []) 0 0 false)) (take-length w))
    ∙ sym (scan_ends w (length w) s.mode (place_of s.token) (omega arith))
    ∙ (rw e at c.loop-i.invariant.1)

pub returns-then-accepts : goal.returns-then-accepts
returns-then-accepts c =
    ap verdict_at
    (ap (λ b. cond b none (some (length c.args.text.now))) (sym c.if-accepts.true)
    ∙ ends (goal.at.returns-then-accepts c).After-accepts)
    ∙ scan-verdict _

pub returns : goal.returns
returns c =
    ap verdict_at
    (ap (λ b. cond b none (some (length c.args.text.now))) (sym c.if-accepts.false)
    ∙ ends (goal.at.returns c).After-accepts)
    ∙ scan-verdict _

pub refilled-kept-requires : goal.refilled-kept-requires
refilled-kept-requires c = c.loop-i.invariant.0

pub innermost-requires : goal.innermost-requires
innermost-requires c = c.refilled-kept.ensures.0.stands.kept.inside

pub refilled-kept-requires-2 : goal.refilled-kept-requires-2
refilled-kept-requires-2 c =
    let e : c.loop-i.i ≡ length c.args.text.now = omega arith in
    rw (← e) c.loop-i.invariant.0

pub innermost-requires-2 : goal.innermost-requires-2
innermost-requires-2 c = c.refilled-kept-2.ensures.0.stands.kept.inside
