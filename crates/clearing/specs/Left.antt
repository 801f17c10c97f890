-- What code makes of a list of transitions as it clears it: what is left of it, the head of its chart then, its bytes
-- transition by transition; and the parts of a cleared body. That these are the records of the cleared file is in
-- LeftLaws.antt, in proofs/.
use Rattle.std.specs.Prelude.{List, [], ◌∷◌, ℕ, length}
use Rattle.signals.specs.Mask.{◌∪◌, ◌∖◌}
use Rattle.layout.specs.Record.{head_bytes, slave_bytes, node_bytes}
use Rattle.layout.specs.Body.{slave_at, node_at}
use Rattle.layout.specs.declared.body.Shape.{Shape}
use Rattle.layout.specs.declared.record.Head.{Head}
use Rattle.layout.specs.declared.record.Transition.{Transition}
use Rattle.meaning.specs.Meaning.{Set, guards}
use Rattle.meaning.specs.File.{file_at}
use Rattle.meaning.specs.Rewriting.{head_for, in_turn, transitions_bytes}
use Rattle.clearing.specs.declared.Left.{Left}
use Rattle.clearing.specs.Clearing.{alive, cleared_chart}

-- how many are left; the signals that the guards named before, and name after
unfoldable pub left_of : Set → List Transition → Left
left_of fed ts = record { count = length (alive fed ts); was = guards ts; still = guards (alive fed ts) }

-- the head of a chart of which so much is left
unfoldable pub head_with : Head → Left → Head
head_with h l =
    record {
      states = h.states;
      initial = h.initial;
      transitions = l.count;
      feedback = h.feedback;
      extra = h.extra ∪ (l.was ∖ l.still);
    }

-- the bytes that are left of one transition: its record, or none
unfoldable pub kept_bytes : Set → Transition → List ℕ
kept_bytes fed t = transitions_bytes (alive fed (t ∷ []))

-- the four parts of the cleared body: heads, transitions, slaves, nodes
module _ (n : Shape) (b : List ℕ) where
  abbrev pub heads_bytes : List ℕ
  heads_bytes = in_turn n.charts (λ c. head_bytes (head_for (cleared_chart ((file_at n b).chart c))))

  abbrev pub lists_bytes : List ℕ
  lists_bytes = in_turn n.charts (λ c. transitions_bytes (cleared_chart ((file_at n b).chart c)).transitions)

  abbrev pub slaves_bytes : List ℕ
  slaves_bytes = in_turn n.slaves (λ i. slave_bytes (slave_at n b i))

  abbrev pub nodes_bytes : List ℕ
  nodes_bytes = in_turn n.nodes (λ j. node_bytes (node_at n b j))
