-- `with_signal` meets its contract.
use mathlib.Core.Path.{sym, ap, ◌∙◌}
use mathlib.Core.Bool.{◌||◌, not, or-false, or-true}
use native.Mathlib.Omega.{arith}
use borrow.Author.Tests.{lt-ltb, le-ltb}
use Rattle.fields.proofs.with_signal.Goals as goal

pub returns-then-n-lt64 : goal.returns-then-n-lt64
returns-then-n-lt64 c =
    let a = c.args in
    record {
      is_bad = sym (or-false a.bad) ∙ sym (ap (λ b. a.bad || not b) (lt-ltb a.n 64 c.if-n-lt64.true));
      is_mask = λ l. c.with.ensures;
    }

pub returns : goal.returns
returns c =
    let a = c.args in
    let h = c.if-n-lt64.false in
    record {
      is_bad = sym (or-true a.bad) ∙ sym (ap (λ b. a.bad || not b) (le-ltb a.n 64 h));
      is_mask = λ l. absurd (omega arith);
    }
