-- `fed_by_node` meets its contract.
use mathlib.Core.Path.{◌≡◌}
use mathlib.Core.Bool.{cond}
use mathlib.Core.List.{List}
use Prim.Native.Nat.{ℕ}
use native.Mathlib.Omega.{arith}
use Rattle.layout.specs.Body.{node_at}
use Rattle.layout.specs.declared.body.Shape.{Shape}
use Rattle.layout.specs.declared.record.Node.{Node}
use Rattle.meaning.specs.Meaning.{∅, same}
use Rattle.meaning.specs.File.{file_at}
use Rattle.meaning.specs.Laws.Bools.{same_refl, same_≢}
use Rattle.plain.proofs.fed_by_node.Goals as goal

-- r is node j
module _ (n : Shape) (b : List ℕ) (j : ℕ) {r : Node} (e : r ≡ node_at n b j) where
  composed : r.kind ≡ 1 → r.x ≡ cond (same ((file_at n b).kind j) 1) ((file_at n b).x j) ∅
  unfolding file_at
  composed h = rw (← e, h, same_refl 1)

  other : (r.kind ≡ 1 → ⊥) → ∅ ≡ cond (same ((file_at n b).kind j) 1) ((file_at n b).x j) ∅
  unfolding file_at
  other h = rw (← e, same_≢ r.kind 1 h)

pub returns-then-r-composes : goal.returns-then-r-composes
returns-then-r-composes c = composed _ _ _ c.node_at-r.ensures (omega arith)

pub returns-else-r-composes : goal.returns-else-r-composes
returns-else-r-composes c = other _ _ _ c.node_at-r.ensures (λ h. omega arith)
