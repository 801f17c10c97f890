-- `number::le32` meets its contract. A number is its two halves: `le_twice`.
use Prim.Native.Nat.{ℕ, ◌+◌, ◌*◌, ◌^◌}
use mathlib.Core.Path.{ap₂, ◌∙◌}
use Rattle.layout.specs.Le.Laws.{le_twice}
use Rattle.layout.proofs.number.le32.Goals as goal

pub returns : goal.returns
returns c =
    ap₂ (λ (x y : ℕ). x + y * 256 ^ 2) c.le16.ensures c.le16-2.ensures
    ∙ le_twice 2 c.args.s.now c.args.at
