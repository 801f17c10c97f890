-- The records of a chart file in bytes (RULES 2.2 to 2.6): of each, the record that bytes begin with, and the bytes of
-- a record. Zero bytes are not a part of it: they are not read here, and written as 0. Behind the trailer comes a file
-- under another edition. That what is written reads back is in Record/Laws.antt.
use Rattle.std.specs.Prelude.{List, [], ◌∷◌, ◌++◌, ℕ, ◌+◌, ◌-◌, length, get_or, drop, set}
use Rattle.layout.specs.Le.{le, bytes}
use Rattle.layout.specs.declared.record.Trailer.{Trailer}
use Rattle.layout.specs.declared.record.Head.{Head}
use Rattle.layout.specs.declared.record.Transition.{Transition}
use Rattle.layout.specs.declared.record.Slave.{Slave}
use Rattle.layout.specs.declared.record.Node.{Node}
pub mod Laws

-- the trailer: 12 bytes, of which the last two are zero bytes (RULES 2.2)
unfoldable pub trailer_of : List ℕ → Trailer
trailer_of s =
    record {
      distance = le 4 s;
      charts = get_or s 4 0;
      slaves = get_or s 5 0;
      nodes = get_or s 6 0;
      edition = get_or s 7 0;
      transitions = le 2 (drop 8 s);
    }

unfoldable pub trailer_bytes : Trailer → List ℕ
trailer_bytes r =
    bytes 4 r.distance ++ (r.charts ∷ r.slaves ∷ r.nodes ∷ r.edition ∷ bytes 2 r.transitions) ++ (0 ∷ 0 ∷ [])

-- the file, whose last 12 bytes are its trailer, with this edition in it; all other bytes stay, those of its front too
unfoldable pub with_edition : ℕ → List ℕ → List ℕ
with_edition e f = set f ((length f - 12) + 7) e

-- a chart: 24 bytes, of which 3 to 7 are zero bytes (RULES 2.3)
unfoldable pub head_of : List ℕ → Head
head_of s =
    record {
      states = get_or s 0 0;
      initial = get_or s 1 0;
      transitions = get_or s 2 0;
      feedback = le 8 (drop 8 s);
      extra = le 8 (drop 16 s);
    }

unfoldable pub head_bytes : Head → List ℕ
head_bytes r =
    (r.states ∷ r.initial ∷ r.transitions ∷ 0 ∷ 0 ∷ 0 ∷ 0 ∷ 0 ∷ []) ++ bytes 8 r.feedback ++ bytes 8 r.extra

-- a transition: 28 bytes, of which 2 and 3 are zero bytes (RULES 2.4)
unfoldable pub transition_of : List ℕ → Transition
transition_of s =
    record {
      from = get_or s 0 0;
      to = get_or s 1 0;
      needed = le 8 (drop 4 s);
      barred = le 8 (drop 12 s);
      action = le 8 (drop 20 s);
    }

unfoldable pub transition_bytes : Transition → List ℕ
transition_bytes r =
    (r.from ∷ r.to ∷ 0 ∷ 0 ∷ []) ++ bytes 8 r.needed ++ bytes 8 r.barred ++ bytes 8 r.action

-- a slave: 4 bytes, of which the last is a zero byte (RULES 2.5)
unfoldable pub slave_of : List ℕ → Slave
slave_of s = record { chart = get_or s 0 0; state = get_or s 1 0; node = get_or s 2 0 }

unfoldable pub slave_bytes : Slave → List ℕ
slave_bytes r = r.chart ∷ r.state ∷ r.node ∷ 0 ∷ []

-- a node: 20 bytes, of which 3 is a zero byte (RULES 2.6)
unfoldable pub node_of : List ℕ → Node
node_of s =
    record { kind = get_or s 0 0; a = get_or s 1 0; b = get_or s 2 0; x = le 8 (drop 4 s); y = le 8 (drop 12 s) }

unfoldable pub node_bytes : Node → List ℕ
node_bytes r = (r.kind ∷ r.a ∷ r.b ∷ 0 ∷ []) ++ bytes 8 r.x ++ bytes 8 r.y
