-- `names::due` meets its contract. Assumes nothing.
use mathlib.Core.Path.{refl}
use Prim.Native.Nat.{suc}
use native.Mathlib.Omega.{arith}
use borrow.Author.Tests.{eq-eqb, ne_eqb}
use Rattle.meaning.specs.Meaning.{same}
use Rattle.naming.proofs.names.due.Goals as goal

pub returns-then-j-n : goal.returns-then-j-n
unfolding same
returns-then-j-n c = let a = c.args in rw (eq-eqb (suc a.j) a.n.nodes (omega arith)) refl

pub returns-else-j-n : goal.returns-else-j-n
unfolding same
returns-else-j-n c =
    let a = c.args in rw (ne_eqb (suc a.j) a.n.nodes (λ e. c.if-j-n.false (omega arith))) refl
