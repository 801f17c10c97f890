-- `rewriting::test_limits` meets its contract: 41 to 44, in order.
use mathlib.Core.Path.{◌≡◌, sym, ap, ◌∙◌}
use mathlib.Core.Bool.{true, false}
use Prim.Native.Nat.{◌≤◌, ◌<◌}
use borrow.Author.Tests.{lt-ltb, le-ltb}
use lib.Dec.{ltb}
use Rattle.layout.specs.declared.body.Shape.{Shape}
use Rattle.meaning.specs.Numbers.{most_nodes}
use Rattle.meaning.specs.File.{File, file_at}
use Rattle.meaning.specs.Check.Laws.{first_of_here, first_of-next, first_of_[]}
use Rattle.meaning.specs.Rewriting.{rewrite, from_state?, in_chart?, shape_in}
use Rattle.transforms.specs.Rewriting.{limit_tests}
use Rattle.transforms.proofs.rewriting.test_limits.Goals as goal

-- m is the result's shape
module _ (F : File) (m : Shape) (e : m ≡ shape_in (rewrite F)) where
  nodes_is : m.nodes ≡ (rewrite F).nodes
  unfolding shape_in
  nodes_is = ap (λ (s : Shape). s.nodes) e

  nodes_over : most_nodes < m.nodes → ltb most_nodes (rewrite F).nodes ≡ true
  nodes_over l = rw (← nodes_is) (lt-ltb most_nodes m.nodes l)

  nodes_fit : m.nodes ≤ most_nodes → ltb most_nodes (rewrite F).nodes ≡ false
  nodes_fit l = rw (← nodes_is) (le-ltb most_nodes m.nodes l)

pub returns-then-over_from : goal.returns-then-over_from
unfolding limit_tests from_state? file_at
returns-then-over_from c = sym (first_of_here _ _ (sym c.over_from.ensures ∙ c.if-over_from.true))

pub returns-then-over_in_chart : goal.returns-then-over_in_chart
unfolding limit_tests from_state? in_chart? file_at
returns-then-over_in_chart c =
    sym (first_of-next _ _ (sym c.over_from.ensures ∙ c.if-over_from.false)
    ∙ first_of_here _ _ (sym c.over_in_chart.ensures ∙ c.if-over_in_chart.true))

pub returns-then-m : goal.returns-then-m
unfolding limit_tests from_state? in_chart? file_at
returns-then-m c =
    sym (first_of-next _ _
    (sym c.over_from.ensures ∙ c.if-over_from.false)
    ∙ first_of-next _ _ (sym c.over_in_chart.ensures ∙ c.if-over_in_chart.false)
    ∙ first_of_here _ _
    (nodes_over _ _ c.requires.2 c.if-m.true))

pub returns : goal.returns
unfolding limit_tests from_state? in_chart? file_at
returns c =
    sym (first_of-next _ _
    (sym c.over_from.ensures ∙ c.if-over_from.false)
    ∙ first_of-next _ _ (sym c.over_in_chart.ensures ∙ c.if-over_in_chart.false)
    ∙ first_of-next _ _
    (nodes_fit _ _ c.requires.2 c.if-m.false)
    ∙ first_of_[])

pub over_from-requires : goal.over_from-requires
over_from-requires c = (c.requires.0, c.requires.1)

pub over_in_chart-requires : goal.over_in_chart-requires
over_in_chart-requires c = (c.requires.0, c.requires.1)
