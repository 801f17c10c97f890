-- `placed` meets its contract.
use native.Mathlib.Omega.{arith}
use Rattle.roster.proofs.placed.Goals as goal

pub returns-else-n : goal.returns-else-n
returns-else-n c = (λ e. e, λ l. absurd (omega arith))
