-- `plan::wire_node` meets its contract: by kind, the laws of NextNode.
use mathlib.Core.Path.{◌≡◌, sym, ap, ◌∙◌}
use Prim.Native.Nat.{ℕ, ◌<◌}
use native.Mathlib.Numerals.{add-one}
use native.Mathlib.Omega.{arith}
use lib.ListN.{get_or}
use Rattle.signals.specs.Mask.{◌∪◌}
use Rattle.layout.specs.Kind.{byte_of}
use Rattle.meaning.specs.Numbers.{most_nodes}
use Rattle.meaning.specs.File.{file_at}
use Rattle.nesting.proofs.Records.{is_node}
use Rattle.plan.specs.ByNode.{Feeds}
use Rattle.plan.proofs.Nodes.{lower_hide, lower_comp, some_kind, below-charts}
use Rattle.plan.proofs.NextNode.{wired_hide, wired_comp, wired_chart, charts_comp, charts_hide}
use Rattle.plan.proofs.wire_node.Goals as goal
use Rattle.plan.proofs.wire_node.Goals.{After-node_at-node, In-Hides, In-Composes}

-- ── a chart ──

pub of-requires : goal.of-requires
of-requires c = some_kind c.requires.0 c.requires.1 c.node_at-node.ensures

pub wire_chart-requires : goal.wire_chart-requires
wire_chart-requires c = (
  c.requires.0,
  below-charts c.requires.0 c.requires.1 c.node_at-node.ensures (sym c.of.ensures ∙ ap byte_of c.in-Holds.is),
  c.requires.2,
  c.requires.4.long,
)

pub returns-in-Holds : goal.returns-in-Holds
unfolding file_at
returns-in-Holds c =
    let a = c.args in
    let F = file_at a.n a.body.now in
    let i = is_node a.n a.body.now a.j c.node_at-node.ensures in
    let h = wired_chart F c.requires.0.sound a.j c.requires.1 (sym i.kind ∙ (sym c.of.ensures ∙ ap byte_of c.in-Holds.is)) c.node_at-node.result.a
    i.a c.requires.0.sized.charts c.requires.2 c.requires.3 c.requires.4
    c.wire_chart.ensures in
    (h.0, rw add-one h.1)

-- ── a composition ──

-- back from where the kind is known, to where the node was read; the parts are there
abbrev comp-read : In-Composes → After-node_at-node
comp-read c = (goal.at.In-Composes c).After-node_at-node

parts-there : (c : In-Composes)
    → ((comp-read c).node_at-node.result.a < most_nodes) × ((comp-read c).node_at-node.result.b < most_nodes)
parts-there c =
    let r = comp-read c in
    let h = lower_comp r.requires.0 r.requires.1 r.node_at-node.ensures (sym c.of.ensures ∙ ap byte_of c.in-Composes.is) in
    (omega (arith, h.0, r.requires.1, r.requires.0.sized.nodes), omega (arith, h.1, r.requires.1, r.requires.0.sized.nodes))

pub returns-in-Composes : goal.returns-in-Composes
unfolding file_at
returns-in-Composes c =
    let r = comp-read (goal.at.returns-in-Composes c).In-Composes in
    let a = r.args in
    let F = file_at a.n a.body.now in
    let i = is_node a.n a.body.now a.j r.node_at-node.ensures in
    let e = sym i.kind ∙ (sym c.of.ensures ∙ ap byte_of c.in-Composes.is) in
    let at : (m : ℕ) → ℕ = λ m. get_or a.sets.now m 0 in
    let ch = charts_comp F r.requires.0.sound a.j r.requires.1 e a.sets.now c.wide.result c.wide-in-Composes.result
    r.requires.3 (c.wide.ensures ∙ ap at i.a) (c.wide-in-Composes.ensures ∙ ap at i.b) in
    let g : Feeds a.n.charts (c.wide.result ∪ c.wide-in-Composes.result) r.node_at-node.result.x a.down.now
    a.masks.now c.feed.new.masks = c.feed.ensures in (
      ch,
      rw add-one (wired_comp F r.requires.0.sound a.j r.requires.1 r.node_at-node.result.x e ch i.x r.requires.4 g),
    )

-- ── a hiding ──

abbrev hide-read : In-Hides → After-node_at-node
hide-read c = (goal.at.In-Hides c).After-node_at-node

hides : (c : In-Hides) → (hide-read c).node_at-node.result.kind ≡ 2
hides c = sym c.of.ensures ∙ ap byte_of c.in-Hides.is

inner-there : (c : In-Hides) → (hide-read c).node_at-node.result.a < most_nodes
inner-there c =
    let r = hide-read c in
    let h = lower_hide r.requires.0 r.requires.1 r.node_at-node.ensures (hides c) in
    omega (arith, r.requires.1, r.requires.0.sized.nodes)

pub returns-in-Hides : goal.returns-in-Hides
unfolding file_at
returns-in-Hides c =
    let r = hide-read (goal.at.returns-in-Hides c).In-Hides in
    let a = r.args in
    let F = file_at a.n a.body.now in
    let i = is_node a.n a.body.now a.j r.node_at-node.ensures in
    let e = sym i.kind ∙ hides (goal.at.returns-in-Hides c).In-Hides in
    let ch = charts_hide F r.requires.0.sound a.j r.requires.1 e a.sets.now c.wide-set.result r.requires.3
    (c.wide-set.ensures ∙ ap (λ (m : ℕ). get_or a.sets.now m 0) i.a) in (
      ch,
      rw add-one (wired_hide F r.requires.0.sound a.j r.requires.1 r.node_at-node.result.x
          r.node_at-node.result.y e ch i.x i.y r.requires.4 c.hide.ensures),
    )

pub bounds-sets-a : goal.bounds-sets-a
bounds-sets-a c = (parts-there (goal.at.bounds-sets-a c).In-Composes).0

pub wide-requires : goal.wide-requires
wide-requires c = tt

pub bounds-sets-b : goal.bounds-sets-b
bounds-sets-b c = (parts-there (goal.at.bounds-sets-b c).In-Composes).1

pub wide-requires-in-Composes : goal.wide-requires-in-Composes
wide-requires-in-Composes c = tt

pub bounds-sets-a-in-Hides : goal.bounds-sets-a-in-Hides
bounds-sets-a-in-Hides c = inner-there (goal.at.bounds-sets-a-in-Hides c).In-Hides

pub wide-set-requires : goal.wide-set-requires
wide-set-requires c = tt
