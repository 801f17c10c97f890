-- `other` meets its contract: a state that is not the initial one is one more.
use mathlib.Core.Path.{refl}
use borrow.Author.Tests.{eq-eqb, ne_eqb}
use Rattle.meaning.specs.Meaning.{same}
use Rattle.notation.specs.Grammar.{letQ, letter, sign_bytes}
use Rattle.printing.specs.Laws.Separated.{adds_none, adds_one}
use Rattle.printing.specs.Laws.Forms.{names_solid}
use Rattle.printing.proofs.states.other.Goals as goal

pub returns-then-q-initial : goal.returns-then-q-initial
unfolding same
returns-then-q-initial c = rw (eq-eqb _ _ c.if-q-initial.true) adds_none

pub returns : goal.returns
unfolding same sign_bytes letter
returns c =
    rw (ne_eqb _ _ c.if-q-initial.false)
    (adds_one (names_solid letQ) _ refl c.apart-next.ensures (c.name.ensures letQ refl))
