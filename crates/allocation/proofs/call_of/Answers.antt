-- `call_of` meets its contract.
use mathlib.Core.Path.{refl}
use native.Mathlib.Omega.{arith}
use borrow.Author.Tests.{lt-ltb, le-ltb}
use Rattle.allocation.proofs.call_of.Goals as goal

pub returns-then-at-slaves : goal.returns-then-at-slaves
returns-then-at-slaves c = rw (lt-ltb _ _ c.if-at-slaves.true) refl

pub returns-else-at-slaves : goal.returns-else-at-slaves
returns-else-at-slaves c = rw (le-ltb _ _ c.if-at-slaves.false) refl

pub bounds-calls-at : goal.bounds-calls-at
bounds-calls-at c = let h = c.requires in omega arith
