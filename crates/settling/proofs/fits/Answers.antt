-- `settling::fits` meets its contract: what is asked of the action, then the candidate's own guard.
use mathlib.Core.Path.{◌≡◌, refl, sym, ap, ◌∙◌}
use mathlib.Core.Bool.{Bool, true, false, ◌&&◌, and-true, and-false}
use mathlib.Core.List.{List}
use Prim.Native.Nat.{ℕ, ◌<◌}
use Rattle.meaning.specs.Numbers.{most_charts}
use Rattle.settling.specs.declared.Guard.{Guard}
use Rattle.cells.specs.Table.{action_at}
use Rattle.settling.specs.Trail.{trail_in}
use Rattle.settling.specs.Hunt.{taken, fine_at}
use Rattle.settling.specs.Asks.{Passes, Covers, asks_of}
use Rattle.settling.specs.Asks.Laws.{met, field_own, fine-taken}
use Rattle.settling.proofs.fits.Goals as goal

module _ (m s w b : List ℕ) (k o v : ℕ) (few : k < most_charts) (can : Passes m w k) (cover : Covers m k) (g : Guard)
    (is : g ≡ asks_of m w k) (a : ℕ) (at : a ≡ action_at m k v) (z : Bool) where
  -- what was asked of the action, as the code tests it
  by : met g.needed g.barred a ≡ z → fine_at m s (taken m s (trail_in w b k o) k v) k ≡ (field_own m w k v && z)
  by e =
      fine-taken m s w b k o few can cover v
      ∙ ap (λ (h : Guard). field_own m w k v && met h.needed h.barred (action_at m k v)) (sym is)
      ∙ ap (λ (x : Bool). field_own m w k v && x) (ap (met g.needed g.barred) (sym at) ∙ e)

pub returns-then-not-holds : goal.returns-then-not-holds
returns-then-not-holds c s b o =
    let m = c.args.masks.now in
    let w = c.args.trail.now in
    let h = sym c.holds.ensures ∙ c.if-not-holds.true in
    sym (by m s w b c.args.k o c.args.v c.requires.1 c.requires.5 c.requires.6 c.args.asked
    c.requires.3 c.action-action.result c.action-action.ensures false h
    ∙ and-false (field_own m w c.args.k c.args.v))

pub returns : goal.returns
returns c s b o =
    let ahead = c.ahead.ensures in
    let back = c.back.ensures in
    let low = c.low.ensures in
    let barred = c.barred.ensures in
    let needed = c.needed.ensures in
    let m = c.args.masks.now in
    let w = c.args.trail.now in
    let h = sym c.holds.ensures ∙ c.if-not-holds.false in
    let own : c.holds-2.result ≡ field_own m w c.args.k c.args.v =
    rw (c.holds-2.ensures, needed, barred, low, c.action-action.ensures, back, ahead) refl in
    own
    ∙ sym (by m s w b c.args.k o c.args.v c.requires.1 c.requires.5 c.requires.6 c.args.asked
    c.requires.3 c.action-action.result c.action-action.ensures true h
    ∙ and-true (field_own m w c.args.k c.args.v))

pub holds-requires : goal.holds-requires
holds-requires c = tt

pub holds-requires-2 : goal.holds-requires-2
holds-requires-2 c = tt
