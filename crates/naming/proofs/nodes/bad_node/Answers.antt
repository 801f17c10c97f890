-- `nodes::bad_node` meets its contract: each arm is the definition at its kind. Assumes nothing.
use mathlib.Core.Path.{◌≡◌, refl, sym, ap, ◌∙◌}
use mathlib.Core.Bool.{true, not, ◌||◌}
use mathlib.Core.List.{List}
use Prim.Native.Nat.{ℕ, zero, suc, ◌<◌}
use native.Mathlib.Omega.{arith}
use lib.Dec.{ltb, eqb}
use Rattle.layout.specs.Body.{node_at}
use Rattle.layout.specs.Kind.{byte_of}
use Rattle.layout.specs.declared.body.Shape.{Shape}
use Rattle.layout.specs.declared.record.Node.{Node}
use Rattle.meaning.specs.Meaning.{same}
use Rattle.meaning.specs.File.{file_at}
use Rattle.meaning.specs.Check.{node_of_kind?}
use Rattle.naming.proofs.nodes.bad_node.Goals as goal

module _ (n : Shape) (b : List ℕ) (j : ℕ) (r : Node) (er : r ≡ node_at n b j) where
  -- the kind that the code has matched is the record's
  kind_is : (k : ℕ) → r.kind ≡ k → (node_at n b j).kind ≡ k
  kind_is k e = sym (ap (λ (x : Node). x.kind) er) ∙ e

  kind₀ : r.kind ≡ 0 → (not (ltb r.a n.charts) || not (eqb r.b 0) || not (eqb r.x 0) || not (eqb r.y 0))
      ≡ node_of_kind? (file_at n b) (node_at n b j).kind j
  unfolding node_of_kind? file_at same
  kind₀ e = rw (kind_is 0 e, ← er)

  kind₁ : r.kind ≡ 1 → (not (ltb r.a j) || not (ltb r.b j) || not (eqb r.y 0))
      ≡ node_of_kind? (file_at n b) (node_at n b j).kind j
  unfolding node_of_kind? file_at same
  kind₁ e = rw (kind_is 1 e, ← er)

  kind₂ : r.kind ≡ 2 → (not (ltb r.a j) || not (eqb r.b 0)) ≡ node_of_kind? (file_at n b) (node_at n b j).kind j
  unfolding node_of_kind? file_at same
  kind₂ e = rw (kind_is 2 e, ← er)

  other : (k : ℕ) → 2 < k → true ≡ node_of_kind? (file_at n b) k j
  unfolding node_of_kind?
  other zero l = absurd (omega arith)
  other (suc zero) l = absurd (omega arith)
  other (suc (suc zero)) l = absurd (omega arith)
  other (suc (suc (suc k))) l = refl

pub returns-in-Ok-Holds : goal.returns-in-Ok-Holds
returns-in-Ok-Holds c = kind₀ _ _ _ _ c.node_at-r.ensures (sym c.in-Ok-Holds.ensures ∙ ap byte_of c.in-Ok-Holds.field-0-is)

pub returns-in-Ok-Composes : goal.returns-in-Ok-Composes
returns-in-Ok-Composes c = kind₁ _ _ _ _ c.node_at-r.ensures (sym c.in-Ok-Composes.ensures ∙ ap byte_of c.in-Ok-Composes.field-0-is)

pub returns-in-Ok-Hides : goal.returns-in-Ok-Hides
returns-in-Ok-Hides c = kind₂ _ _ _ _ c.node_at-r.ensures (sym c.in-Ok-Hides.ensures ∙ ap byte_of c.in-Ok-Hides.field-0-is)

pub returns-in-Err : goal.returns-in-Err
returns-in-Err c =
    let e = ap (λ (x : Node). x.kind) c.node_at-r.ensures in other _ _ _ _ c.node_at-r.ensures _ (rw e at c.in-Err.ensures.1)
