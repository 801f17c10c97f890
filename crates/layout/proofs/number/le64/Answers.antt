-- `number::le64` meets its contract. A number is its two halves: `le_twice`.
use Prim.Native.Nat.{ℕ, ◌+◌, ◌*◌, ◌^◌}
use mathlib.Core.Path.{ap₂, ◌∙◌}
use Rattle.layout.specs.Le.Laws.{le_twice}
use Rattle.layout.proofs.number.le64.Goals as goal

pub returns : goal.returns
returns c =
    ap₂ (λ (x y : ℕ). x + y * 256 ^ 4) c.le32.ensures c.le32-2.ensures
    ∙ le_twice 4 c.args.s.now c.args.at
