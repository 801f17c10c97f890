use mathlib.Core.Path.{sym, ◌∙◌}
use Rattle.meaning.specs.Sums.Laws.{any_none, any-more, any_at, any-done}
use Rattle.meaning.specs.File.{file_at}
use Rattle.meaning.specs.Check.{nodes?}
use Rattle.naming.proofs.nodes.bad_nodes.Goals as goal

pub loop-j-init : goal.loop-j-init
loop-j-init c = any_none _

pub returns-then-bad_node : goal.returns-then-bad_node
unfolding nodes? file_at
returns-then-bad_node c =
    sym (any_at _ _ c.loop-j.j c.loop-j-test.true
    (sym c.bad_node.ensures ∙ c.if-bad_node.true))

pub loop-j-preserved : goal.loop-j-preserved
loop-j-preserved c = any-more _ _ c.loop-j.invariant (sym c.bad_node.ensures ∙ c.if-bad_node.false)

pub returns : goal.returns
unfolding nodes? file_at
returns c = any-done _ _ _ c.loop-j.auto.j-end c.loop-j-test.false c.loop-j.invariant
