-- The records of the rewritten file as code makes them, from sets that tables hold. In this order: a chart's
-- transitions; nodes. That these are the records of the rewriting is in Records/Laws.antt.
use Rattle.std.specs.Prelude.{cond, List, [], ◌∷◌, ◌++◌, ℕ, zero, suc, ◌+◌}
use Rattle.signals.specs.Mask.{◌∪◌}
use Rattle.layout.specs.Record.{node_bytes}
use Rattle.layout.specs.declared.record.Transition.{Transition}
use Rattle.layout.specs.declared.record.Node.{Node}
use Rattle.meaning.specs.Meaning.{Set, ∅}
use Rattle.meaning.specs.File.{File}
use Rattle.meaning.specs.Rewriting.{is_of, count, calls_of, new_name, in_turn}
pub mod Laws

-- an own transition, with the call signals that it also outputs
unfoldable pub called_with : Set → Set → Transition → Transition
called_with κ added t =
    record { from = t.from; to = t.to; needed = t.needed ∪ κ; barred = t.barred; action = t.action ∪ added }

unfoldable pub idle_with : Set → ℕ → Transition
idle_with κ s = record { from = s; to = s; needed = ∅; barred = κ; action = ∅ }

-- nodes by kind
abbrev pub holding : ℕ → Node
holding c = record { kind = 0; a = c; b = 0; x = ∅; y = ∅ }

abbrev pub composing : ℕ → ℕ → Set → Node
composing p q x = record { kind = 1; a = p; b = q; x = x; y = ∅ }

abbrev pub hiding : ℕ → Set → Set → Node
hiding p x y = record { kind = 2; a = p; b = 0; x = x; y = y }

unfoldable pub nodes_bytes : List Node → List ℕ
nodes_bytes [] = []
nodes_bytes (d ∷ ds) = node_bytes d ++ nodes_bytes ds

-- the bytes for slave i where chart c's slaves are composed, after node `at`
unfoldable pub part_bytes : File → ℕ → ℕ → Set → ℕ → List ℕ
part_bytes F c at x i = cond (is_of F c i) (node_bytes (composing (at + count F c i) (new_name F (F.node i)) x)) []

-- the bytes of the nodes of chart c with so many slaves, of which the first gets the name `at`
unfoldable pub master_bytes : File → ℕ → ℕ → ℕ → List ℕ
master_bytes F c at slaves =
    node_bytes (holding c)
    ++ (in_turn F.slaves (part_bytes F c at ((F.chart c).feedback ∪ calls_of F c))
    ++ node_bytes (hiding (at + slaves) (calls_of F c) (calls_of F c)))

-- the bytes of the nodes for a node that holds chart c, by the chart's number of slaves
unfoldable pub held_bytes : File → ℕ → ℕ → ℕ → List ℕ
held_bytes F c at zero = node_bytes (holding c)
held_bytes F c at (suc s) = master_bytes F c at (suc s)
