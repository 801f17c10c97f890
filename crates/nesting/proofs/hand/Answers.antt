-- `hand` meets its contract: by kind, the laws of Near.
use mathlib.Core.Path.{◌≡◌, sym, ap, ◌∙◌}
use native.Mathlib.Omega.{arith}
use lib.ListN.{length-set}
use Rattle.layout.specs.Kind.{byte_of}
use Rattle.layout.specs.declared.record.Node.{Node}
use Rattle.meaning.specs.File.{file_at}
use Rattle.nesting.proofs.Records.{is_node, lower-a, lower-b}
use Rattle.nesting.proofs.Near.{hands_none, hands_hide, hands_comp}
use Rattle.nesting.proofs.hand.Goals as goal
use Rattle.nesting.proofs.hand.Goals.{In-Composes, In-Hides}

composes : (c : In-Composes) → c.node_at-node.result.kind ≡ 1
composes c = sym c.of.ensures ∙ ap byte_of c.in-Composes.is

hides : (c : In-Hides) → c.node_at-node.result.kind ≡ 2
hides c = sym c.of.ensures ∙ ap byte_of c.in-Hides.is

pub of-requires : goal.of-requires
unfolding file_at
of-requires c =
    let p = c.requires in
    let t = p.0.sound.ordered.kinds _ p.1 in
    let d = ap (λ (x : Node). x.kind) c.node_at-node.ensures in omega arith

pub returns-in-Holds : goal.returns-in-Holds
unfolding file_at
returns-in-Holds c =
    let p = c.requires in
    hands_none _ p.0.sound p.1 (is_node _ _ _ c.node_at-node.ensures) (sym c.of.ensures ∙ ap byte_of c.in-Holds.is)

pub bounds-near-a : goal.bounds-near-a
unfolding file_at
bounds-near-a c =
    let p = c.requires in
    let k = composes (goal.at.bounds-near-a c).In-Composes in
    let h = lower-a _ p.0.sound p.1 (is_node _ _ _ c.node_at-node.ensures) (λ z. omega (arith, k, z)) in
    omega (arith, p.0.sized.nodes, p.1, p.2)

pub bounds-near-a-in-Hides : goal.bounds-near-a-in-Hides
unfolding file_at
bounds-near-a-in-Hides c =
    let p = c.requires in
    let k = hides (goal.at.bounds-near-a-in-Hides c).In-Hides in
    let h = lower-a _ p.0.sound p.1 (is_node _ _ _ c.node_at-node.ensures) (λ z. omega (arith, k, z)) in
    omega (arith, p.0.sized.nodes, p.1, p.2)

pub bounds-near-b : goal.bounds-near-b
unfolding file_at
bounds-near-b c =
    let p = c.requires in
    let h = lower-b _ p.0.sound p.1 (is_node _ _ _ c.node_at-node.ensures) (composes (goal.at.bounds-near-b c).In-Composes) in
    simp length-set (omega (arith, p.0.sized.nodes, p.1, p.2))

pub returns-in-Composes : goal.returns-in-Composes
unfolding file_at
returns-in-Composes c =
    let p = c.requires in
    hands_comp _ p.0.sound p.1 (is_node _ _ _ c.node_at-node.ensures) p.3 (omega (arith, p.0.sized.nodes, p.2))
    (composes (goal.at.returns-in-Composes c).In-Composes)

pub returns-in-Hides : goal.returns-in-Hides
unfolding file_at
returns-in-Hides c =
    let p = c.requires in
    let k = hides (goal.at.returns-in-Hides c).In-Hides in
    hands_hide _ p.0.sound p.1 (is_node _ _ _ c.node_at-node.ensures) p.3 (omega (arith, p.0.sized.nodes, p.2))
    (λ z. omega (arith, k, z)) (λ z. omega (arith, k, z))
