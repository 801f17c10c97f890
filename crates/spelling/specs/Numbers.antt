-- The most bytes that the text of a file has. For a transition, with the comma behind it, 814; for a chart without its
-- transitions 564; for a slave 14, with what its master's `Dec`, `by` and braces take; for a node 496. They are counted
-- from these: a name has at most 3 bytes; a set at most 247, for all 64 signals with their commas and the braces; a
-- guard at most 555, each signal needed and barred; a hiding has two sets and two brackets, a composition less.
use Rattle.std.specs.Prelude.{ℕ, ◌+◌, ◌*◌}
use Rattle.meaning.specs.Numbers.{most_charts, most_slaves, most_nodes, most_transitions}

abbrev pub most_text : ℕ
most_text = 814 * most_transitions + 564 * most_charts + 14 * most_slaves + 496 * most_nodes
