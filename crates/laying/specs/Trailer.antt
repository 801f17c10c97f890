-- The trailer behind a body, by the body's shape (RULES 2.2).
use Rattle.std.specs.Prelude.{ℕ, ◌<◌}
use Rattle.layout.specs.Body.{size_of}
use Rattle.layout.specs.declared.body.Shape.{Shape}
use Rattle.layout.specs.declared.record.Trailer.{Trailer}

-- the counts of a shape fit their bytes
abbrev pub Small : Shape → Type 0
Small m = (m.charts < 256) × (m.transitions < 65536) × (m.slaves < 256) × (m.nodes < 256)

-- the trailer of a body of the shape m
unfoldable pub trailer_with : Shape → ℕ → Trailer
trailer_with m edition =
    record {
      distance = size_of m;
      charts = m.charts;
      slaves = m.slaves;
      nodes = m.nodes;
      edition = edition;
      transitions = m.transitions;
    }
