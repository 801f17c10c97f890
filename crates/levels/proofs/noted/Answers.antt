-- `levels::noted` meets its contract.
use mathlib.Core.Path.{◌≡◌, sym, ◌∙◌}
use mathlib.Core.Bool.{false}
use Rattle.notation.specs.Grammar.{blank}
use Rattle.levels.specs.Laws.Ring.{keeps-blank, keeps-opener}
use Rattle.levels.specs.Laws.Marks.{marks_same}
use Rattle.levels.proofs.noted.Goals as goal
use Rattle.levels.proofs.noted.Goals.{Else-is_blank}

no-blank : (c : Else-is_blank) → blank c.args.b ≡ false
no-blank c = sym c.is_blank.ensures ∙ c.if-is_blank.false

pub returns-then-is_blank : goal.returns-then-is_blank
returns-then-is_blank c =
    λ text v g h m. (keeps-blank text _ v _ _ _ h (sym c.is_blank.ensures ∙ c.if-is_blank.true), m)

pub returns-then-is_opener : goal.returns-then-is_opener
returns-then-is_opener c =
    let o = c.opened.ensures in
    λ text v g h m. (
      keeps-opener text _ v _ _ _ h _ _ (no-blank (goal.at.returns-then-is_opener c).Else-is_blank) _
          (sym c.is_opener.ensures ∙ c.if-is_opener.true) o.0 _ c.found.ensures
          (λ s. (o.1 text _ g s).0),
      (o.1 text _ g h.stands).1 m,
    )

pub inside-requires : goal.inside-requires
inside-requires c =
    let p = c.requires in
    (p.0, (p.1.0, (no-blank (goal.at.inside-requires c).Else-is_blank, sym c.is_opener.ensures ∙ c.if-is_opener.false)))

pub returns : goal.returns
returns c =
    let o = c.inside.ensures in
    λ text v g h m. (o.1 text _ v h, marks_same text _ _ _ _ _ _ _ o.0 m)
