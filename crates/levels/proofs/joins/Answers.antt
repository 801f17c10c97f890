-- `levels::joins` meets its contract.
use mathlib.Core.Path.{sym}
use mathlib.Core.Bool.{false≢true}
use native.Mathlib.Omega.{arith}
use Rattle.levels.proofs.joins.Goals as goal

pub returns-then-t-eq0 : goal.returns-then-t-eq0
returns-then-t-eq0 c = (λ e. absurd (false≢true e), λ e. omega arith)

pub returns-then-t-eq-MARKS : goal.returns-then-t-eq-MARKS
returns-then-t-eq-MARKS c = (λ e. omega arith, λ e. absurd (false≢true (sym e)))
