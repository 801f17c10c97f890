-- `opened` meets its contract.
use mathlib.Core.Path.{◌≡◌, refl, sym, ◌∙◌}
use Prim.Native.Nat.{ℕ, ◌-◌}
use native.Mathlib.Omega.{arith}
use Rattle.walk.specs.Brackets.{opened}
use Rattle.walk.specs.Laws.Brackets.{opened-more, opened_less, opened-same}
use Rattle.walk.proofs.brackets.opened.Goals as goal
use Rattle.walk.proofs.brackets.opened.Goals.{Then-closes}

less : (c : Then-closes) (m : ℕ) → m ≡ c.args.level - 1
    → m ≡ opened c.args.level c.args.b
less c m h =
    opened_less _ _ m h (sym c.opens.ensures ∙ c.if-opens.false)
    (sym c.closes.ensures ∙ c.if-closes.true)

pub returns-then-opens : goal.returns-then-opens
returns-then-opens c = opened-more _ _ (sym c.opens.ensures ∙ c.if-opens.true)

pub returns-then-level-eq0 : goal.returns-then-level-eq0
returns-then-level-eq0 c = less (goal.at.returns-then-level-eq0 c).Then-closes 0 (omega arith)

pub returns-then-closes : goal.returns-then-closes
returns-then-closes c = less (goal.at.returns-then-closes c).Then-closes _ refl

pub returns : goal.returns
returns c =
    opened-same _ _ (sym c.opens.ensures ∙ c.if-opens.false)
    (sym c.closes.ensures ∙ c.if-closes.false)
