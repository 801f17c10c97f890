-- `before_last` meets its contract, by the node's kind and its chart's slaves.
use mathlib.Core.Path.{◌≡◌, refl, sym, ap, ◌∙◌}
use mathlib.Core.List.{List}
use Prim.Native.Nat.{ℕ, zero, suc, ◌+◌}
use native.Mathlib.Numerals.{add-one}
use native.Mathlib.Omega.{arith}
use Rattle.layout.specs.Body.{node_at}
use Rattle.layout.specs.Kind.{byte_of}
use Rattle.layout.specs.Kind.Laws.{byte-one}
use Rattle.layout.specs.declared.record.Kind.TheVariants.{Holds}
use Rattle.layout.specs.declared.body.Shape.{Shape}
use Rattle.layout.specs.declared.record.Node.{Node}
use Rattle.meaning.specs.File.{File, file_at}
use Rattle.meaning.specs.Rewriting.{count, before, before_last}
use Rattle.growth.proofs.before_last.Goals as goal

-- by kind k, with s slaves
before-other : (F : File) (k s : ℕ) → (k ≡ 0 → ⊥) → 0 ≡ before F k s
before-other F zero s h = absurd (h refl)
before-other F (suc k) s h = refl

before_some : (F : File) (s : ℕ) → (s ≡ 0 → ⊥) → s + 1 ≡ before F 0 s
before_some F zero h = absurd (h refl)
before_some F (suc s) h = add-one (suc s)

module _ (n : Shape) (b : List ℕ) (j : ℕ) (r : Node) (e : r ≡ node_at n b j) where
  other : (r.kind ≡ 0 → ⊥) → 0 ≡ before_last (file_at n b) j
  unfolding file_at
  other h = rw (← e) (before-other (file_at n b) r.kind (count (file_at n b) r.a n.slaves) h)

  module _ (k : r.kind ≡ 0) (s : ℕ) (is : s ≡ count (file_at n b) r.a n.slaves) where
    none : s ≡ 0 → 0 ≡ before_last (file_at n b) j
    unfolding file_at
    none h = rw (← e, k, ← is, h)

    some : (s ≡ 0 → ⊥) → s + 1 ≡ before_last (file_at n b) j
    unfolding file_at
    some h = rw (← e, k, ← is) (before_some (file_at n b) s h)

pub of-requires : goal.of-requires
unfolding file_at
of-requires c =
    let t = c.requires.0.sound.ordered.kinds _ c.requires.1 in
    let d = ap (λ (x : Node). x.kind) c.node_at-node.ensures in omega arith

pub returns-in_default : goal.returns-in_default
returns-in_default c =
    (other _ _ _ _ c.node_at-node.ensures (λ z. c.in_default.not-Holds (byte-one _ Holds (c.of.ensures ∙ z))), omega arith)

pub returns-then-slaves-eq0 : goal.returns-then-slaves-eq0
returns-then-slaves-eq0 c = (
  none _ _ _ _ c.node_at-node.ensures (sym c.of.ensures ∙ ap byte_of c.in-Holds.is) _
      c.slaves_of-slaves.ensures.0 c.if-slaves-eq0.true,
  omega arith,
)

pub returns-else-slaves-eq0 : goal.returns-else-slaves-eq0
returns-else-slaves-eq0 c =
    let m = c.slaves_of-slaves.ensures.1 in
    let h = c.requires.0.sized.slaves in (
      some _ _ _ _ c.node_at-node.ensures
          (sym c.of.ensures ∙ ap byte_of c.in-Holds.is) _
          c.slaves_of-slaves.ensures.0 c.if-slaves-eq0.false,
      omega arith,
    )

pub node_at-node-requires : goal.node_at-node-requires
node_at-node-requires c = (c.requires.0.sized.holds, c.requires.1)

pub slaves_of-slaves-requires : goal.slaves_of-slaves-requires
slaves_of-slaves-requires c = c.requires.0

pub overflow_add-result : goal.overflow_add-result
overflow_add-result c =
    let m = c.slaves_of-slaves.ensures.1 in
    let h = c.requires.0.sized.slaves in
    omega arith
