-- `settling::calm` meets its contract: a chart that moves, or has no triggers, is calm; for another the triggers
-- decide.
use mathlib.Core.Path.{◌≡◌, sym, ◌∙◌}
use mathlib.Core.List.{List}
use Prim.Native.Nat.{ℕ, ◌-◌}
use native.Mathlib.Omega.{arith}
use Rattle.signals.specs.Mask.{◌∪◌}
use Rattle.settling.specs.Calm.{trips}
use Rattle.settling.specs.Calm.Laws.{calm-moves, calm-none, calm_stays}
use Rattle.settling.proofs.calm.Goals as goal

pub returns-then-place : goal.returns-then-place
returns-then-place c s o =
    calm-moves _ s _ _ _ _ c.args.k c.args.d o c.requires.2 c.requires.3
    (λ z. c.if-place.true (c.place.ensures ∙ z))

pub returns-then-n-eq0 : goal.returns-then-n-eq0
returns-then-n-eq0 c s o =
    calm-none _ s _ _ _ _ c.args.k c.args.d o c.requires.2 c.requires.3
    (sym c.place.ensures ∙ c.if-place.false)
    (sym c.told-n.ensures ∙ c.if-n-eq0.true)

pub trips-requires : goal.trips-requires
trips-requires c =
    let n = c.told-n.ensures in
    let few = c.requires.1.counts c.args.d (omega (arith, c.requires.2, c.requires.3)) in (
      c.requires.1.masks c.args.d (omega (arith, c.requires.2, c.requires.3)) (λ z. c.if-n-eq0.false (n ∙ z)),
      omega (arith, c.requires.2, c.requires.3),
      omega arith,
    )

-- the triggers are tried with what was read
tried : (g : List ℕ) (d : ℕ) {n n' l l' h h' : ℕ} → n ≡ n' → l ≡ l' → h ≡ h'
    → trips g d (n - 1) l (l ∪ h) ≡ trips g d (n' - 1) l' (l' ∪ h')
tried g d p q r = rw (p, q, r)

pub returns : goal.returns
returns c s o =
    calm_stays _ s _ _ _ _ c.args.k c.args.d o c.requires.2 c.requires.3
    (sym c.place.ensures ∙ c.if-place.false) _
    (c.trips.ensures ∙ tried _ _ c.told-n.ensures c.low-low.ensures c.ahead.ensures)

pub overflow_sub-n : goal.overflow_sub-n
overflow_sub-n c = omega arith
