-- How many records of each kind a text means, and whether 3 applies to them.
use Rattle.std.specs.Prelude.{Bool, ◌||◌, ltb}
use Rattle.layout.specs.declared.body.Shape.{Shape}
use Rattle.meaning.specs.Numbers.{first_edition, most_charts, most_slaves, most_nodes, most_transitions}
use Rattle.meaning.specs.Meaning.{same}
use Rattle.outline.specs.declared.Outline.{Outline}
use Rattle.roster.specs.declared.Roster.{Roster}

-- 3 of a shape, whose counts need not fit into the trailer's bytes
unfoldable pub over? : Shape → Bool
over? m =
    (same m.charts 0 || ltb most_charts m.charts)
    || ltb most_slaves m.slaves
    || (same m.nodes 0 || ltb most_nodes m.nodes)
    || ltb most_transitions m.transitions

-- the shape by what was found of a text
unfoldable pub shape_with : Roster → Outline → Shape
shape_with s o =
    record {
      charts = s.charts;
      transitions = s.transitions;
      slaves = o.slaves;
      nodes = o.nodes;
      edition = first_edition;
    }
