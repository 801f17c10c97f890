-- `levels::inside` meets its contract: a law for each kind of byte.
use mathlib.Core.Path.{◌≡◌, refl, sym, ◌∙◌}
use mathlib.Core.Bool.{false}
use mathlib.Core.List.{[]}
use Rattle.scan.specs.Look.{closer}
use Rattle.levels.specs.Laws.Ring.{keeps-closer, keeps_bar, keeps_else, keeps-named, keeps_late}
use Rattle.levels.proofs.inside.Goals as goal
use Rattle.levels.proofs.inside.Goals.{After-is_closer, Else-is_closer, Start}

abbrev start : After-is_closer → Start
start c = (goal.at.After-is_closer c).Start

no-closer : (c : Else-is_closer) → closer (start (goal.at.Else-is_closer c).After-is_closer).args.b ≡ false
no-closer c = sym c.is_closer.ensures ∙ c.if-is_closer.false

pub returns-then-is_closer : goal.returns-then-is_closer
returns-then-is_closer c =
    let p = (start (goal.at.returns-then-is_closer c).After-is_closer).requires.1.1 in
    let e = c.closed.ensures in (
      e.1.0,
      λ text places v h. keeps-closer text _ v _ _ _ h _ [] p.0 p.1 e.0
          (sym c.is_closer.ensures ∙ c.if-is_closer.true) e.1.1,
    )

pub returns-then-b-eq124 : goal.returns-then-b-eq124
returns-then-b-eq124 c =
    let p = (start (goal.at.returns-then-b-eq124 c).After-is_closer).requires.1.1 in
    let e = c.second.ensures in (
      e.1.0,
      λ text places v h. keeps_bar text _ v _ _ _ h _ _ p.0 p.1 e.0 (no-closer (goal.at.returns-then-b-eq124 c).Else-is_closer)
          c.if-b-eq124.true e.1.1,
    )

pub returns-then-b-ne113 : goal.returns-then-b-ne113
returns-then-b-ne113 c =
    let p = (start (goal.at.returns-then-b-ne113 c).After-is_closer).requires.1.1 in (
      (refl, refl),
      λ text places v h. keeps_else text _ v _ _ _ h _ [] p.0 p.1 refl (no-closer (goal.at.returns-then-b-ne113 c).Else-is_closer) c.if-b-eq124.false
          c.if-b-ne113.true refl refl refl,
    )

pub returns-then-k : goal.returns-then-k
returns-then-k c =
    let p = (start (goal.at.returns-then-k c).After-is_closer).requires.1.1 in
    let e = c.named.ensures in (
      e.1.0,
      λ text places v h. keeps-named text _ v _ _ _ h _ _ p.0 p.1 e.0 (no-closer (goal.at.returns-then-k c).Else-is_closer) c.if-b-ne113.false
          c.if-k.true e.1.1,
    )

pub returns : goal.returns
returns c =
    ((refl, refl), λ text places v h. keeps_late text _ v _ _ _ h c.if-b-ne113.false c.if-k.false)
