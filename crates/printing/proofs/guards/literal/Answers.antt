-- `literal` meets its contract: a signal that is in the set is one more.
use mathlib.Core.Path.{refl, sym, ◌∙◌}
use Rattle.notation.specs.Grammar.{letS, letter, sign_bytes}
use Rattle.printing.specs.Laws.Separated.{adds_none, adds_one}
use Rattle.printing.specs.Laws.Forms.{literals_solid}
use Rattle.printing.proofs.guards.literal.Goals as goal

pub returns-then-not-has : goal.returns-then-not-has
returns-then-not-has c = rw (sym c.has.ensures ∙ c.if-not-has.true) adds_none

pub returns : goal.returns
unfolding sign_bytes letter
returns c =
    rw (sym c.has.ensures ∙ c.if-not-has.false)
    (adds_one literals_solid _ refl c.apart-begin.ensures (c.minus-next.ensures _ _ _ (c.name.ensures letS refl)))
