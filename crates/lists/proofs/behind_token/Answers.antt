-- `behind_token` meets its contract: the first byte tells a name from a sign, and how long a sign is.
use mathlib.Core.Path.{sym, ap, ◌∙◌}
use Rattle.lists.specs.Found.{letter?, width}
use Rattle.lists.specs.Laws.Tokens.{token_name, token_sign}
use Rattle.lists.proofs.behind_token.Goals as goal

pub returns-then-is_letter : goal.returns-then-is_letter
returns-then-is_letter c =
    token_name _ _ _ (ap letter? (sym c.peek-b.ensures) ∙ sym c.is_letter.ensures ∙ c.if-is_letter.true)
    c.name_at.ensures

pub returns : goal.returns
returns c =
    token_sign _ _ _ _ (ap letter? (sym c.peek-b.ensures) ∙ sym c.is_letter.ensures ∙ c.if-is_letter.false)
    (c.width.ensures ∙ ap width c.peek-b.ensures) c.behind_sign.ensures
