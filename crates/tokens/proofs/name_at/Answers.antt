-- `name_at` meets its contract.
use mathlib.Core.Path.{subst}
use native.Mathlib.Omega.{arith}
use Rattle.tokens.specs.Tokens.{NumberAt}
use Rattle.tokens.proofs.name_at.Goals as goal

pub returns : goal.returns
returns c =
    let a = c.args in
    let b = c.behind_sign-i.ensures in
    record {
      is = subst (λ u. NumberAt u a.text.now c.number.result) b.behind c.number.ensures.0;
      onward = omega (arith, b.onward, c.number.ensures.1);
      further = λ p. (let z = b.further (omega arith) p in omega (arith, c.number.ensures.1));
    }

pub number-requires : goal.number-requires
number-requires c = c.behind_sign-i.ensures.within
