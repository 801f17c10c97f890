-- `body::test_nodes` meets its contract: 9 to 11 in order. Assumes nothing.
use mathlib.Core.Path.{sym, ◌∙◌}
use Rattle.meaning.specs.Check.Laws.{first_of_here, first_of-next, first_of_[]}
use Rattle.opening.proofs.body.test_nodes.Goals as goal
use Rattle.opening.proofs.body.test_nodes.Goals.{Else-bad_nodes}

pub returns-then-bad_nodes : goal.returns-then-bad_nodes
returns-then-bad_nodes c = sym (first_of_here _ _ (sym c.bad_nodes.ensures ∙ c.if-bad_nodes.true))

pub returns-then-bad_naming : goal.returns-then-bad_naming
returns-then-bad_naming c =
    sym
    (first_of-next _ _ (sym c.bad_nodes.ensures ∙ c.if-bad_nodes.false)
    ∙ first_of_here _ _ (sym c.bad_naming.ensures ∙ c.if-bad_naming.true))

pub bad_naming-requires : goal.bad_naming-requires
bad_naming-requires c =
    let p = c.requires in
    record { sized = p.0; slaves = p.1; nodes = sym c.bad_nodes.ensures ∙ c.if-bad_nodes.false }

pub bad_inside-requires : goal.bad_inside-requires
bad_inside-requires c =
    (bad_naming-requires (goal.at.bad_inside-requires c).Else-bad_nodes, sym c.bad_naming.ensures ∙ c.if-bad_naming.false)

pub returns-then-bad_inside : goal.returns-then-bad_inside
returns-then-bad_inside c =
    sym
    (first_of-next _ _
    (sym c.bad_nodes.ensures ∙ c.if-bad_nodes.false)
    ∙ first_of-next _ _ (sym c.bad_naming.ensures ∙ c.if-bad_naming.false)
    ∙ first_of_here _ _ (sym c.bad_inside.ensures ∙ c.if-bad_inside.true))

pub returns : goal.returns
returns c =
    sym
    (first_of-next _ _
    (sym c.bad_nodes.ensures ∙ c.if-bad_nodes.false)
    ∙ first_of-next _ _ (sym c.bad_naming.ensures ∙ c.if-bad_naming.false)
    ∙ first_of-next _ _ (sym c.bad_inside.ensures ∙ c.if-bad_inside.false)
    ∙ first_of_[])

pub bad_nodes-requires : goal.bad_nodes-requires
bad_nodes-requires c = c.requires.0
