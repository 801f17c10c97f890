-- `search::hunt` meets its contract: each return is a step of what the charts left give (Hunts).
use mathlib.Core.Path.{◌≡◌, refl, sym, ap, ap₂, subst, subst₂, ◌∙◌}
use mathlib.Core.Bool.{true, false}
use mathlib.Core.List.{List}
use Prim.Native.Nat.{ℕ, ◌+◌, ◌-◌, ◌<◌, ◌≤◌}
use native.Mathlib.Omega.{arith}
use borrow.Author.Tests.{eq-eqb, ne_eqb}
use Rattle.meaning.specs.Numbers.{most_charts, most_from_state}
use lib.ListN.{length}
use Rattle.cells.specs.Table.{masks_for, count_at}
use Rattle.settling.specs.Trail.{Trail, Matches, trail_in, Keeps}
use Rattle.cells.specs.Trail.{Room}
use Rattle.settling.specs.Trail.Laws.{keeps_refl, keeps_trans, keeps_fewer, keeps_room, room_fewer, trail_kept}
use Rattle.meaning.specs.Rewriting.{in_turn}
use Rattle.settling.specs.Hunt.{rested, fine_at, over, found_in, Held}
use Rattle.settling.specs.Calm.{stayed, calm_all, hunts_calm}
use Rattle.settling.specs.Hunt.Laws.{Stopped, over_stopped, over_each, over_each_stopped}
use Rattle.settling.specs.Asks.{Covers}
use Rattle.settling.specs.Asks.Laws.{asks_kept, passes_kept}
use Rattle.search.proofs.Hunts.{block, last, ends, awake, asleep, goes_on, passes_on, drops, goes, leaves}
use Rattle.search.proofs.Hunts.{rest-fine, stay_fine, never, shut_last, open_last, not_calm, stopped}
use Rattle.search.proofs.+hunt.Goals as goal
use Rattle.search.proofs.+hunt.Goals.{After-apart, At-loop-v, After-loop-v, After-stay}
use Rattle.search.proofs.+hunt.Goals.{then-fits+else-disagree, else-fits}

-- ── some chart is left ──

calmed : (t : ℕ) (c : After-apart t) →
    let a = c.args in
    calm_all a.masks.now a.small.now a.guards.now a.stays.now
    (trail_in a.trail.now a.moves.now (a.charts - a.left) a.output) (a.charts - a.left) ≡ true
calmed t c = sym (c.all_calm.ensures c.args.small.now c.args.output) ∙ c.if-not-all_calm.false

-- what may still be put in for the settled charts comes from the next one or from those behind it
covered : (t : ℕ) (c : After-apart t) → Covers c.args.masks.now (c.args.charts - c.args.left)
covered t c d l =
    let some = c.if-left-eq0.false in
    c.requires.0.ahead _ d (omega (arith, c.requires.4)) (omega (arith, c.requires.4))

pub returns-then-not-all_calm : goal.returns-then-not-all_calm
returns-then-not-all_calm t c =
    let a = c.args in
    record {
      found = not_calm a.masks.now a.small.now a.guards.now a.stays.now a.left
          (a.charts - a.left) (trail_in a.trail.now a.moves.now (a.charts - a.left) a.output)
          (found_in a.best.now a.shown.now) (sym (c.all_calm.ensures a.small.now a.output)
          ∙ c.if-not-all_calm.true);
      kept = keeps_refl _ _ _;
      held = c.requires.2;
    }

pub returns-then-left-eq0 : goal.returns-then-left-eq0
returns-then-left-eq0 t c =
    let a = c.args in
    record {
      found =
          c.settle.ensures.1
          ∙ ends a.masks.now a.small.now a.guards.now a.stays.now a.trail.now a.moves.now a.charts a.left a.output
          (found_in a.best.now a.shown.now) c.if-left-eq0.true
          (sym (c.all_calm.ensures a.small.now a.output) ∙ c.if-not-all_calm.false);
      held = c.settle.ensures.0;
      kept = keeps_refl _ _ _;
    }

pub returns-then-not-apart : goal.returns-then-not-apart
returns-then-not-apart t c =
    let p = (goal.at.returns-then-not-apart t c).After-apart in
    let a = c.args in
    record {
      found =
          never a.masks.now a.small.now a.guards.now a.stays.now a.charts a.left c.if-left-eq0.false c.requires.4
          (found_in a.best.now a.shown.now) c.requires.3 a.trail.now a.moves.now
          a.output c.requires.6 (covered t p) c.asks-asked.result
          c.asks-asked.ensures (calmed t p)
          (sym c.apart.ensures ∙ c.if-not-apart.true);
      kept = keeps_refl _ _ _;
      held = c.requires.2;
    }

-- ── chart k is not woken: it is inactive ──

pub returns-then-asked-ne0 : goal.returns-then-asked-ne0
returns-then-asked-ne0 t c =
    let p = (goal.at.returns-then-asked-ne0 t c).After-apart in
    let a = c.args in
    let m = a.masks.now in
    let s = a.small.now in
    let gs = a.guards.now in
    let y = a.stays.now in
    record {
      found =
          drops m s gs y a.charts a.left c.if-left-eq0.false c.requires.4 (found_in a.best.now a.shown.now) _
          (rest-fine m s gs y a.charts a.left c.if-left-eq0.false c.requires.4
          (found_in a.best.now a.shown.now) c.requires.3 a.trail.now a.moves.now
          a.output c.requires.6 (covered t p) c.asks-asked.result c.asks-asked.ensures false
          (ne_eqb _ _ c.if-asked-ne0.true))
          ∙ asleep m s gs y a.charts a.left c.if-left-eq0.false c.requires.4
          (found_in a.best.now a.shown.now)
          (trail_in a.trail.now a.moves.now (a.charts - a.left) a.output) (calmed t p)
          (sym (c.wakes.ensures m a.trail.now a.output) ∙ c.if-not-wakes.true);
      kept = keeps_refl _ _ _;
      held = c.requires.2;
    }

-- nothing is to be in an inactive chart's action
rests : (t : ℕ) (c : After-apart t) →
    let a = c.args in
    let k = a.charts - a.left in
    c.asks-asked.result.needed ≡ 0 →
    fine_at a.masks.now a.small.now
    (rested a.masks.now a.small.now (trail_in a.trail.now a.moves.now k a.output) k) k ≡ true
rests t c e =
    let a = c.args in
    rest-fine a.masks.now a.small.now a.guards.now a.stays.now a.charts a.left c.if-left-eq0.false
    c.requires.4 (found_in a.best.now a.shown.now) c.requires.3 a.trail.now a.moves.now a.output
    c.requires.6 (covered t c) c.asks-asked.result c.asks-asked.ensures true (eq-eqb _ _ e)

pub hunt-requires : goal.hunt-requires
hunt-requires t c =
    let p = (goal.at.hunt-requires t c).After-apart in
    let a = c.args in
    let some = c.if-left-eq0.false in (
      omega (arith, c.decreases),
      (
        c.requires.0,
        keeps_room c.rest.ensures.kept c.requires.1,
        c.requires.2,
        c.requires.3,
        omega (arith, c.requires.4),
        c.requires.5,
        passes_on a.masks.now a.small.now a.guards.now a.stays.now a.charts a.left some
            c.requires.4 (found_in a.best.now a.shown.now) c.requires.3 _ _ a.output _
            (c.rest.ensures.grown a.masks.now a.output) (rests t p c.if-asked-ne0.false),
      ),
    )

pub returns-then-not-wakes : goal.returns-then-not-wakes
returns-then-not-wakes t c =
    let p = (goal.at.returns-then-not-wakes t c).After-apart in
    let a = c.args in
    let m = a.masks.now in
    let s = a.small.now in
    let gs = a.guards.now in
    let y = a.stays.now in
    let some = c.if-left-eq0.false in
    let z : a.charts - (a.left - 1) ≡ a.charts - a.left + 1 = omega (arith, c.requires.4) in
    record {
      found =
          c.hunt.ensures.found
          ∙ goes_on m s gs y a.charts a.left some c.requires.4 (found_in a.best.now a.shown.now)
          c.requires.3 _ _ a.output _
          (c.rest.ensures.grown m a.output)
          (rests t p c.if-asked-ne0.false)
          ∙ asleep m s gs y a.charts a.left some c.requires.4 (found_in a.best.now a.shown.now)
          (trail_in a.trail.now a.moves.now (a.charts - a.left) a.output) (calmed t p)
          (sym (c.wakes.ensures m a.trail.now a.output) ∙ c.if-not-wakes.true);
      kept =
          keeps_trans c.rest.ensures.kept (keeps_fewer (a.charts - (a.left - 1)) z c.hunt.ensures.kept);
      held = c.hunt.ensures.held;
    }

-- ── its candidates ──

pub loop-v-init : goal.loop-v-init
unfolding in_turn over
loop-v-init t c = (keeps_refl _ _ _, refl, c.requires.2)

-- from the loop's head: that the chart's number is below most_charts, and a candidate's below most_from_state
few : (t : ℕ) (c : At-loop-v t) → c.args.charts - c.args.left < most_charts
few t c = let some = c.if-left-eq0.false in omega (arith, c.requires.3, c.requires.4)

roomy : (t : ℕ) (c : At-loop-v t) → masks_for (c.args.charts - c.args.left + 1) ≤ length c.args.masks.now
roomy t c = let some = c.if-left-eq0.false in omega (arith, c.requires.0.masks, c.requires.4)

-- there is room for chart k
one_more : (t : ℕ) (c : At-loop-v t) → Room (c.args.charts - c.args.left + 1) c.loop-v.trail c.loop-v.moves
one_more t c =
    let some = c.if-left-eq0.false in
    keeps_room c.loop-v.invariant.0 (room_fewer _ (omega (arith, c.requires.4)) c.requires.1)

counted : (t : ℕ) (c : At-loop-v t) → c.count-n.result ≤ most_from_state
counted t c =
    let some = c.if-left-eq0.false in
    omega (arith, c.count-n.ensures, c.requires.0.counts (c.args.charts - c.args.left) (omega (arith, c.requires.4)))

-- what the charts left give is what all candidates of chart k give, and then its staying
whole : (t : ℕ) (c : At-loop-v t) →
    let a = c.args in
    let k = a.charts - a.left in
    let u = trail_in a.trail.now a.moves.now k a.output in
    over (hunts_calm a.masks.now a.small.now a.guards.now a.stays.now a.left k u)
    (found_in a.best.now a.shown.now)
    ≡ over (last a.masks.now a.small.now a.guards.now a.stays.now a.left k u)
    (over (in_turn (count_at a.small.now k) (block a.masks.now a.small.now a.guards.now a.stays.now
    a.left k u)) (found_in a.best.now a.shown.now))
whole t c =
    let a = c.args in
    awake a.masks.now a.small.now a.guards.now a.stays.now a.charts a.left c.if-left-eq0.false c.requires.4
    (found_in a.best.now a.shown.now)
    (trail_in a.trail.now a.moves.now (a.charts - a.left) a.output)
    (sym (c.all_calm.ensures a.small.now a.output) ∙ c.if-not-all_calm.false)
    (sym (c.wakes.ensures a.masks.now a.trail.now a.output) ∙ c.if-not-wakes.false)

pub fits-requires : goal.fits-requires
fits-requires t c =
    let l = (goal.at.fits-requires t c).At-loop-v in
    let p = (goal.at.fits-requires t c).After-apart in (
      roomy t l,
      few t l,
      omega (arith, counted t l),
      c.asks-asked.ensures ∙ sym (asks_kept c.args.masks.now (few t l) c.loop-v.invariant.0),
      omega (arith, (one_more t l).masks),
      passes_kept c.args.masks.now (few t l) c.loop-v.invariant.0 c.requires.6,
      covered t p,
    )

pub take-requires : goal.take-requires
take-requires t c =
    let l = (goal.at.take-requires t c).At-loop-v in
    (roomy t l, c.requires.0.small, one_more t l, few t l, omega (arith, counted t l), c.requires.3)

pub shown_by-more-requires : goal.shown_by-more-requires
shown_by-more-requires t c =
    let l = (goal.at.shown_by-more-requires t c).At-loop-v in
    (roomy t l, few t l, omega (arith, counted t l))

pub hunt-requires-then-fits : goal.hunt-requires-then-fits
hunt-requires-then-fits t c =
    let a = c.args in
    let some = c.if-left-eq0.false in (
      omega (arith, c.decreases),
      (
        c.requires.0,
        keeps_room c.take.ensures.kept (keeps_room c.loop-v.invariant.0 c.requires.1),
        c.loop-v.invariant.2,
        c.requires.3,
        omega (arith, c.requires.4),
        c.requires.5,
        passes_on a.masks.now a.small.now a.guards.now a.stays.now a.charts a.left some
            c.requires.4 (found_in a.best.now a.shown.now) c.requires.3 _ _ _ _
            (c.take.ensures.grown a.output)
            (sym (c.fits.ensures a.small.now c.loop-v.moves a.output) ∙ c.if-fits.true),
      ),
    )

pub returns-then-disagree : goal.returns-then-disagree
returns-then-disagree t c =
    let l = (goal.at.returns-then-disagree t c).At-loop-v in
    let a = c.args in
    let m = a.masks.now in
    let s = a.small.now in
    let gs = a.guards.now in
    let y = a.stays.now in
    let k = a.charts - a.left in
    let f = found_in a.best.now a.shown.now in
    let h = c.hunt-then-fits in
    let all = block m s gs y a.left k (trail_in a.trail.now a.moves.now k a.output) in
    let stays = last m s gs y a.left k (trail_in a.trail.now a.moves.now k a.output) in
    let one = goes m s gs y a.charts a.left c.if-left-eq0.false c.requires.4
    (found_in c.loop-v.best c.loop-v.shown) a.trail.now a.moves.now
    c.loop-v.trail c.loop-v.moves c.loop-v.v a.output c.loop-v.invariant.0 c.requires.3 _ _ _ _ _ _ _ _ _ refl
    (sym c.if-fits.true ∙ c.fits.ensures s c.loop-v.moves a.output)
    c.take.ensures c.shown_by-more.ensures h.ensures in
    let r' = found_in h.new.best h.new.shown in
    let e : r' ≡ over (in_turn (c.loop-v.v + 1) all) f = rw (over_each, ← c.loop-v.invariant.1) one.1 in
    let end : Stopped r' = stopped r' (sym (c.disagree.ensures h.new.shown) ∙ c.if-disagree.true) in
    let same : r' ≡ over (in_turn (count_at s k) all) f =
    e ∙ sym (over_each_stopped all f (count_at s k) (c.loop-v.v + 1)
    (omega (arith, c.count-n.ensures, c.loop-v-test.true)) (rw e at end)) in
    record {
      found = same ∙ sym (over_stopped stays _ (subst Stopped same end)) ∙ sym (whole t l);
      kept = one.0;
      held = h.ensures.held;
    }

pub loop-v-preserved : goal.loop-v-preserved
loop-v-preserved t c =
    let a = c.args in
    let m = a.masks.now in
    let s = a.small.now in
    let gs = a.guards.now in
    let y = a.stays.now in
    let k = a.charts - a.left in
    let some = c.if-left-eq0.false in
    let fits = c.fits.ensures s c.loop-v.moves a.output in
    let f = found_in c.loop-v.best c.loop-v.shown in
    let e : Keeps k a.trail.now a.moves.now c.if-fits.trail c.if-fits.moves
    × (found_in c.if-fits.best c.if-fits.shown
    ≡ over (block m s gs y a.left k (trail_in a.trail.now a.moves.now k a.output) c.loop-v.v) f)
    × Held c.if-fits.best c.if-fits.shown =
    elim c.if-fits.branch [
      | then-fits+else-disagree w ↦
          let one = goes m s gs y a.charts a.left some c.requires.4 f a.trail.now a.moves.now
          c.loop-v.trail c.loop-v.moves c.loop-v.v a.output c.loop-v.invariant.0 c.requires.3 _ _ _ _ _ _ _ _ _ refl
          (sym w.if-fits.true ∙ fits)
          w.take.ensures w.shown_by-more.ensures w.hunt-then-fits.ensures in (
            subst₂ (λ (x y : List ℕ). Keeps k a.trail.now a.moves.now x y) (sym w.trail-is) (sym w.moves-is) one.0,
            ap₂ found_in w.best-is w.shown-is ∙ one.1,
            subst₂ Held (sym w.best-is) (sym w.shown-is) w.hunt-then-fits.ensures.held,
          )
      | else-fits w ↦ (
        subst₂ (λ (x y : List ℕ). Keeps k a.trail.now a.moves.now x y) (sym w.trail-is) (sym w.moves-is)
            c.loop-v.invariant.0,
        ap₂ found_in w.best-is w.shown-is
            ∙ leaves m s gs y a.charts a.left some c.requires.4 f a.trail.now a.moves.now
            c.loop-v.trail c.loop-v.moves c.loop-v.v a.output c.loop-v.invariant.0 (sym w.if-fits.false ∙ fits),
        subst₂ Held (sym w.best-is) (sym w.shown-is) c.loop-v.invariant.2,
      )
    ] in
    (e.0, rw (over_each, ← c.loop-v.invariant.1) e.1, e.2)

-- ── all candidates were tried: what was found so far, and its staying ──

tried : (t : ℕ) (c : After-loop-v t) →
    let a = c.args in
    let k = a.charts - a.left in
    found_in c.loop-v.best c.loop-v.shown
    ≡ over (in_turn (count_at a.small.now k) (block a.masks.now a.small.now a.guards.now a.stays.now
    a.left k (trail_in a.trail.now a.moves.now k a.output))) (found_in a.best.now a.shown.now)
tried t c =
    let a = c.args in
    let e : c.loop-v.v ≡ count_at a.small.now (a.charts - a.left) = omega (arith, c.count-n.ensures) in
    rw (← e) c.loop-v.invariant.1

pub told-requires : goal.told-requires
told-requires t c = let l = (goal.at.told-requires t c).At-loop-v in (c.requires.5.small, few t l)

pub returns-then-told-eq0 : goal.returns-then-told-eq0
returns-then-told-eq0 t c =
    let here = goal.at.returns-then-told-eq0 t c in
    let a = c.args in
    let m = a.masks.now in
    let s = a.small.now in
    let gs = a.guards.now in
    let y = a.stays.now in
    let k = a.charts - a.left in
    let u = trail_in a.trail.now a.moves.now k a.output in
    record {
      found = sym (shut_last m s gs y a.left k u (found_in c.loop-v.best c.loop-v.shown)
          (sym c.told.ensures ∙ c.if-told-eq0.true))
          ∙ ap (over (last m s gs y a.left k u)) (tried t here.After-loop-v) ∙ sym (whole t here.At-loop-v);
      kept = c.loop-v.invariant.0;
      held = c.loop-v.invariant.2;
    }

pub returns-then-asked-ne0-2 : goal.returns-then-asked-ne0-2
returns-then-asked-ne0-2 t c =
    let here = goal.at.returns-then-asked-ne0-2 t c in
    let a = c.args in
    let m = a.masks.now in
    let s = a.small.now in
    let gs = a.guards.now in
    let y = a.stays.now in
    let k = a.charts - a.left in
    let u = trail_in a.trail.now a.moves.now k a.output in
    let f = found_in c.loop-v.best c.loop-v.shown in
    let some = c.if-left-eq0.false in
    record {
      found =
          drops m s gs y a.charts a.left some c.requires.4 f (stayed m s u k)
          (stay_fine m s gs y a.charts a.left some c.requires.4 f c.requires.3
          a.trail.now a.moves.now a.output c.requires.6 (covered t here.After-apart)
          c.asks-asked.result c.asks-asked.ensures false (ne_eqb _ _ c.if-asked-ne0-2.true))
          ∙ sym (open_last m s gs y a.left k u f (λ e. c.if-told-eq0.false (c.told.ensures ∙ e)))
          ∙ ap (over (last m s gs y a.left k u)) (tried t here.After-loop-v) ∙ sym (whole t here.At-loop-v);
      kept = c.loop-v.invariant.0;
      held = c.loop-v.invariant.2;
    }

pub stay-requires : goal.stay-requires
stay-requires t c =
    let l = (goal.at.stay-requires t c).At-loop-v in
    (roomy t l, c.requires.0.small, one_more t l, few t l, c.requires.3)

-- nor is anything to be in the action of one that stays
stays_fine : (t : ℕ) (c : After-apart t) →
    let a = c.args in
    let k = a.charts - a.left in
    c.asks-asked.result.needed ≡ 0 →
    fine_at a.masks.now a.small.now
    (stayed a.masks.now a.small.now (trail_in a.trail.now a.moves.now k a.output) k) k ≡ true
stays_fine t c e =
    let a = c.args in
    stay_fine a.masks.now a.small.now a.guards.now a.stays.now a.charts a.left c.if-left-eq0.false
    c.requires.4 (found_in a.best.now a.shown.now) c.requires.3 a.trail.now a.moves.now a.output
    c.requires.6 (covered t c) c.asks-asked.result c.asks-asked.ensures true (eq-eqb _ _ e)

-- what stands there then, from the beginning at the function's entry
grown_stay : (t : ℕ) (c : After-stay t) →
    let a = c.args in
    let k = a.charts - a.left in
    Matches a.charts (trail_in c.stay.new.trail c.stay.new.moves (k + 1) a.output)
    (stayed a.masks.now a.small.now (trail_in a.trail.now a.moves.now k a.output) k)
grown_stay t c =
    let a = c.args in
    let m = a.masks.now in
    let k = a.charts - a.left in
    subst (Matches a.charts _)
    (ap (λ (x : Trail). stayed m a.small.now x k) (trail_kept c.loop-v.invariant.0 a.output))
    (c.stay.ensures.grown m a.output)

pub hunt-requires-2 : goal.hunt-requires-2
hunt-requires-2 t c =
    let here = goal.at.hunt-requires-2 t c in
    let a = c.args in
    let m = a.masks.now in
    let s = a.small.now in
    let some = c.if-left-eq0.false in (
      omega (arith, c.decreases),
      (
        c.requires.0,
        keeps_room c.stay.ensures.kept (keeps_room c.loop-v.invariant.0 c.requires.1),
        c.loop-v.invariant.2,
        c.requires.3,
        omega (arith, c.requires.4),
        c.requires.5,
        passes_on m s a.guards.now a.stays.now a.charts a.left some c.requires.4
            (found_in a.best.now a.shown.now) c.requires.3 _ _ a.output _
            (grown_stay t here.After-stay) (stays_fine t here.After-apart c.if-asked-ne0-2.false),
      ),
    )

pub returns : goal.returns
returns t c =
    let here = goal.at.returns t c in
    let a = c.args in
    let m = a.masks.now in
    let s = a.small.now in
    let gs = a.guards.now in
    let y = a.stays.now in
    let k = a.charts - a.left in
    let u = trail_in a.trail.now a.moves.now k a.output in
    let f = found_in c.loop-v.best c.loop-v.shown in
    let some = c.if-left-eq0.false in
    let z : a.charts - (a.left - 1) ≡ k + 1 = omega (arith, c.requires.4) in
    record {
      found =
          c.hunt-2.ensures.found
          ∙ goes_on m s gs y a.charts a.left some c.requires.4 f c.requires.3 _ _ a.output
          (stayed m s u k) (grown_stay t here.After-stay)
          (stays_fine t here.After-apart c.if-asked-ne0-2.false)
          ∙ sym (open_last m s gs y a.left k u f (λ e. c.if-told-eq0.false (c.told.ensures ∙ e)))
          ∙ ap (over (last m s gs y a.left k u)) (tried t here.After-loop-v) ∙ sym (whole t here.At-loop-v);
      kept = keeps_trans c.loop-v.invariant.0 (keeps_trans c.stay.ensures.kept
          (keeps_fewer (a.charts - (a.left - 1)) z c.hunt-2.ensures.kept));
      held = c.hunt-2.ensures.held;
    }
