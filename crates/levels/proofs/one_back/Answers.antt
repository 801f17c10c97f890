-- `levels::one_back` meets its contract: each way out is a case of `back`.
use mathlib.Core.Path.{◌≡◌, sym, ap, ◌∙◌}
use mathlib.Core.Bool.{true, false}
use native.Mathlib.Omega.{arith}
use Rattle.scan.specs.Look.{closer, opener}
use Rattle.scan.specs.Laws.Back.{back-closer, back_found, back_open, back-first, back_bar, back-blank, back_else}
use Rattle.levels.proofs.one_back.Goals as goal
use Rattle.levels.proofs.one_back.Goals.{Else-is_closer, Else-is_opener, Then-is_opener}

no-closer : (c : Else-is_closer) → closer c.args.b ≡ false
no-closer c = sym c.is_closer.ensures ∙ c.if-is_closer.false

is-opener : (c : Then-is_opener) → opener c.args.b ≡ true
is-opener c = sym c.is_opener.ensures ∙ c.if-is_opener.true

no-opener : (c : Else-is_opener) → opener c.args.b ≡ false
no-opener c = sym c.is_opener.ensures ∙ c.if-is_opener.false

pub returns-then-is_closer : goal.returns-then-is_closer
returns-then-is_closer c =
    (λ g f. back-closer _ g f _ _ _ (sym c.is_closer.ensures ∙ c.if-is_closer.true), omega arith)

pub returns-then-depth-eq0 : goal.returns-then-depth-eq0
returns-then-depth-eq0 c = (
  λ g f. back_found _ g f _ _ _ (no-closer (goal.at.returns-then-depth-eq0 c).Else-is_closer) (is-opener (goal.at.returns-then-depth-eq0 c).Then-is_opener)
      c.if-depth-eq0.true ∙ ap g (sym c.found.ensures),
  omega arith,
)

pub returns-then-is_opener : goal.returns-then-is_opener
returns-then-is_opener c = (
  λ g f. back_open _ g f _ _ _ (no-closer (goal.at.returns-then-is_opener c).Else-is_closer) (is-opener (goal.at.returns-then-is_opener c).Then-is_opener) c.if-depth-eq0.false,
  omega arith,
)

pub returns-then-depth-eq0-2 : goal.returns-then-depth-eq0-2
returns-then-depth-eq0-2 c = (
  λ g f. back-first _ g f _ _ _ (no-closer (goal.at.returns-then-depth-eq0-2 c).Else-is_closer) (no-opener (goal.at.returns-then-depth-eq0-2 c).Else-is_opener) c.if-b-eq124.true c.if-depth-eq0-2.true,
  omega arith,
)

pub returns-then-b-eq124 : goal.returns-then-b-eq124
returns-then-b-eq124 c = (
  λ g f. back_bar _ g f _ _ _ (no-closer (goal.at.returns-then-b-eq124 c).Else-is_closer) (no-opener (goal.at.returns-then-b-eq124 c).Else-is_opener) c.if-b-eq124.true c.if-depth-eq0-2.false,
  omega arith,
)

pub returns-then-is_blank : goal.returns-then-is_blank
returns-then-is_blank c = (
  λ g f. back-blank _ g f _ _ _ (no-closer (goal.at.returns-then-is_blank c).Else-is_closer) (no-opener (goal.at.returns-then-is_blank c).Else-is_opener)
      c.if-b-eq124.false (sym c.is_blank.ensures ∙ c.if-is_blank.true),
  omega arith,
)

pub returns : goal.returns
returns c = (
  λ g f. back_else _ g f _ _ _ (no-closer (goal.at.returns c).Else-is_closer) (no-opener (goal.at.returns c).Else-is_opener)
      c.if-b-eq124.false (sym c.is_blank.ensures ∙ c.if-is_blank.false),
  omega arith,
)
