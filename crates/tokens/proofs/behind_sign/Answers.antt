-- `behind_sign` meets its contract.
use native.Mathlib.Omega.{arith}
use Rattle.tokens.specs.Laws.Steps.{behind_in, behind_out}
use Rattle.tokens.proofs.behind_sign.Goals as goal

pub returns-then-text-i : goal.returns-then-text-i
returns-then-text-i c =
    let a = c.args in
    let h = c.next_token-i.ensures.1 in
    record {
      behind =
          behind_out a.text.now a.at c.next_token-i.result a.n c.next_token-i.ensures.0 (omega arith);
      within = omega arith;
      onward = omega (arith, c.next_token-i.ensures.0);
      further = λ p q. omega (arith, c.next_token-i.ensures.0);
    }

pub returns : goal.returns
returns c =
    let a = c.args in
    let h = c.next_token-i.ensures.1 in
    record {
      behind = behind_in a.text.now a.at c.next_token-i.result a.n c.next_token-i.ensures.0;
      within = omega arith;
      onward = omega (arith, c.next_token-i.ensures.0);
      further = λ p q. omega (arith, c.next_token-i.ensures.0);
    }
