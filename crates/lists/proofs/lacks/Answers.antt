-- `lacks` meets its contract.
use mathlib.Core.Path.{sym, ap, ◌∙◌}
use mathlib.Core.Bool.{◌||◌, not}
use borrow.Author.Tests.{lt-ltb, le-ltb}
use Rattle.signals.specs.Mask.{bit}
use Rattle.lists.specs.Lists.{lacks}
use Rattle.lists.proofs.lacks.Goals as goal

pub returns-then-n-lt-STATES : goal.returns-then-n-lt-STATES
unfolding lacks
returns-then-n-lt-STATES c =
    let a = c.args in
    ap not c.has.ensures ∙ sym (ap (λ b. not b || not (bit a.mask a.n)) (lt-ltb a.n 16 c.if-n-lt-STATES.true))

pub returns : goal.returns
unfolding lacks
returns c =
    let a = c.args in
    sym (ap (λ b. not b || not (bit a.mask a.n)) (le-ltb a.n 16 c.if-n-lt-STATES.false))
