-- `plan::note` meets its contract: by whether node j holds a chart, the laws of Noted. Assumes nothing.
use mathlib.Core.Path.{sym, ap, ◌∙◌}
use Prim.Native.Nat.{◌<◌}
use native.Mathlib.Omega.{arith}
use Rattle.layout.specs.Kind.{byte_of}
use Rattle.layout.specs.Kind.Laws.{byte-one}
use Rattle.layout.specs.declared.record.Kind.TheVariants.{Holds}
use Rattle.meaning.specs.Numbers.{most_charts}
use Rattle.meaning.specs.File.{file_at}
use Rattle.nesting.proofs.Records.{is_node}
use Rattle.plan.proofs.Nodes.{some_kind, below-charts}
use Rattle.plan.proofs.Noted.{notes_none, notes_chart}
use Rattle.plan.proofs.note.Goals as goal
use Rattle.plan.proofs.note.Goals.{In-Holds}

-- the node's chart is one that tables have room for
in-room : (c : In-Holds) → c.node_at-node.result.a < most_charts
in-room c =
    let p = c.requires in
    let e = (sym c.of.ensures ∙ ap byte_of c.in-Holds.is) in
    let h = below-charts p.0 p.1 c.node_at-node.ensures e in
    omega (arith, p.0.sized.charts)

pub returns-in-Holds : goal.returns-in-Holds
unfolding file_at
returns-in-Holds c =
    let p = c.requires in
    rw c.put_nearest.ensures
    (notes_chart _ p.0.sound p.1 (is_node _ _ _ c.node_at-node.ensures)
    (sym c.of.ensures ∙ ap byte_of c.in-Holds.is) p.0.sized.charts p.4
    c.enclosing-slave.ensures.0 c.enclosing-slave.ensures.1)

pub returns-in_default : goal.returns-in_default
unfolding file_at
returns-in_default c =
    let p = c.requires in
    notes_none _ p.0.sound p.1 (is_node _ _ _ c.node_at-node.ensures) (λ z. c.in_default.not-Holds (byte-one _ Holds (c.of.ensures ∙ z)))

pub put_nearest-requires : goal.put_nearest-requires
put_nearest-requires c =
    (c.requires.4, in-room (goal.at.put_nearest-requires c).In-Holds)

pub of-requires : goal.of-requires
of-requires c = some_kind c.requires.0 c.requires.1 c.node_at-node.ensures
