-- `with_name` meets its contract.
use mathlib.Core.Path.{sym, ap, ◌∙◌}
use mathlib.Core.Bool.{◌||◌, not, or-true}
use native.Mathlib.Omega.{arith}
use borrow.Author.Tests.{lt-ltb, le-ltb}
use Rattle.signals.specs.Mask.{bit}
use Rattle.lists.proofs.with_name.Goals as goal

pub returns-then-n-limit : goal.returns-then-n-limit
returns-then-n-limit c =
    let a = c.args in
    let l = c.if-n-limit.true in
    record {
      is_bad =
          ap (a.bad ||◌) c.has.ensures
          ∙ sym (ap (λ b. a.bad || (not b || bit a.mask a.n)) (lt-ltb a.n a.limit l));
      is_mask = λ l. c.with.ensures;
    }

pub returns : goal.returns
returns c =
    let a = c.args in
    let h = c.if-n-limit.false in
    record {
      is_bad =
          sym (or-true a.bad)
          ∙ sym (ap (λ b. a.bad || (not b || bit a.mask a.n)) (le-ltb a.n a.limit h));
      is_mask = λ l. absurd (omega arith);
    }
