-- The file that a chart means: edition 1, no front. Charts have the numbers of their names; slaves are sorted by chart,
-- then state; nodes stand parts before wholes, left before right, the slaves of a master by state and before it.
use Rattle.std.specs.Prelude.{Bool, true, false, cond, List, [], ◌∷◌, ◌++◌, ℕ, zero, suc, ◌+◌, ◌-◌, eqb, length}
use Rattle.std.proofs.Math.Option.{Option, none, some}
use Rattle.signals.specs.Mask.{◌∪◌, single as only}
use Rattle.layout.specs.Record.{trailer_bytes, head_bytes, transition_bytes, slave_bytes, node_bytes}
use Rattle.layout.specs.declared.record.Trailer.{Trailer}
use Rattle.layout.specs.declared.record.Head.{Head}
use Rattle.layout.specs.declared.record.Transition.{Transition as Record}
use Rattle.layout.specs.declared.record.Slave.{Slave}
use Rattle.layout.specs.declared.record.Node.{Node}
use Rattle.meaning.specs.Numbers.{first_edition}
use Rattle.meaning.specs.Meaning.{Set, ∅}
use Rattle.notation.specs.Syntax.{Signals, Literal, needed, barred, Transition, Heading, Sequential}
use Rattle.notation.specs.Syntax.{Single, sequential, decomposed, hidden, Chart, single, composed, Slaves, first_slave}
use Rattle.notation.specs.Syntax.{more_slaves}
use Rattle.reading.specs.Numbers.{named_charts, named_states}
use Rattle.reading.specs.Names.{members_of, members_or, name_of, sequentials_of}

-- ── lists ──

-- those whose key is k, in their order
unfoldable pub with_key : {A : Type 0} → (A → ℕ) → ℕ → List A → List A
with_key key k [] = []
with_key key k (a ∷ as') = cond (eqb (key a) k) (a ∷ with_key key k as') (with_key key k as')

-- sorted by their keys, which are below n; equal keys stay in their order
unfoldable pub sorted_by : {A : Type 0} → (A → ℕ) → ℕ → List A → List A
sorted_by key zero as' = []
sorted_by key (suc n) as' = sorted_by key n as' ++ with_key key n as'

-- the bytes of records, one after another
unfoldable pub all : {A : Type 0} → (A → List ℕ) → List A → List ℕ
all f [] = []
all f (a ∷ as') = f a ++ all f as'

unfoldable pub gathered : {A B : Type 0} → (A → List B) → List A → List B
gathered f [] = []
gathered f (a ∷ as') = f a ++ gathered f as'

-- ── sets ──

-- a signal given twice counts once
unfoldable pub mask_of : List ℕ → Set
mask_of [] = ∅
mask_of (n ∷ ns) = only n ∪ mask_of ns

abbrev pub set_of : Signals → Set
set_of x = mask_of (members_or x)

-- a set that is left out is empty
unfoldable pub optional_of : Option Signals → Set
optional_of none = ∅
optional_of (some x) = set_of x

unfoldable pub needed_in : List Literal → List ℕ
needed_in [] = []
needed_in (needed n ∷ gs) = n ∷ needed_in gs
needed_in (barred n ∷ gs) = needed_in gs

unfoldable pub barred_in : List Literal → List ℕ
barred_in [] = []
barred_in (needed n ∷ gs) = barred_in gs
barred_in (barred n ∷ gs) = n ∷ barred_in gs

-- ── charts and transitions ──

unfoldable pub transition_for : Transition → Record
transition_for t =
    record {
      from = t.from;
      to = t.to;
      needed = mask_of (needed_in (members_or t.guard));
      barred = mask_of (barred_in (members_or t.guard));
      action = set_of t.action;
    }

abbrev pub transitions_in : Sequential → List Transition
transitions_in s = members_or s.transitions

unfoldable pub head_for : Sequential → Head
head_for s =
    record {
      states = length (members_of s.heading.states);
      initial = s.heading.initial;
      transitions = length (transitions_in s);
      feedback = set_of s.heading.feedback;
      extra = optional_of s.extra;
    }

-- the sequential charts of a chart, by number
abbrev pub charts_of : Chart → List Sequential
charts_of t = sorted_by name_of named_charts (sequentials_of t)

-- ── nodes and slaves ──

-- the nodes of a part, the last of which is the part itself, and the slaves in it
pub record Laid : Type 0 where
  pub nodes : List Node
  pub slaves : List Slave

-- the number of a part's own node, where the first of its nodes has the number k
abbrev pub last_of : ℕ → Laid → ℕ
last_of k p = k + length p.nodes - 1

-- a slave: its state, and its part where the first of its nodes has a given number
pub record Placed : Type 0 where
  pub at : ℕ
  pub part : ℕ → Laid

-- the slaves of chart c, one after another
unfoldable pub lay_slaves : ℕ → List Placed → ℕ → Laid
lay_slaves c [] k = record { nodes = []; slaves = [] }
lay_slaves c (s ∷ ss) k =
    let p = s.part k in
    let q = lay_slaves c ss (k + length p.nodes) in
    record {
      nodes = p.nodes ++ q.nodes;
      slaves = p.slaves ++ (record { chart = c; state = s.at; node = last_of k p } ∷ q.slaves);
    }

-- one node more, behind those of a part
unfoldable pub with_node : Laid → Node → Laid
with_node p n = record { nodes = p.nodes ++ (n ∷ []); slaves = p.slaves }

-- two parts, one behind the other
unfoldable pub beside : Laid → Laid → Laid
beside p q = record { nodes = p.nodes ++ q.nodes; slaves = p.slaves ++ q.slaves }

abbrev pub chart_node : Sequential → Node
chart_node s = record { kind = 0; a = name_of s; b = 0; x = ∅; y = ∅ }

-- the part p hidden, behind its own nodes
unfoldable pub lay_hidden : Option Signals → Laid → Option Signals → ℕ → Laid
lay_hidden x p y k = with_node p (record { kind = 2; a = last_of k p; b = 0; x = optional_of x; y = optional_of y })

-- two parts composed, with the feedback x: p, and behind its nodes q
unfoldable pub lay_both : Laid → Signals → (ℕ → Laid) → ℕ → Laid
lay_both p x q k =
    let r = q (k + length p.nodes) in
    with_node (beside p r)
    (record { kind = 1; a = last_of k p; b = last_of (k + length p.nodes) r; x = set_of x; y = ∅ })

unfoldable mutual
  -- a part, where the first of its nodes has the number k
  pub lay_single : Single → ℕ → Laid
  lay_single (sequential s) k = record { nodes = chart_node s ∷ []; slaves = [] }
  lay_single (decomposed s ps) k =
      with_node (lay_slaves (name_of s) (sorted_by (λ p. p.at) named_states (placed ps)) k) (chart_node s)
  lay_single (hidden x t y) k = lay_hidden x (lay_chart t k) y k

  pub lay_chart : Chart → ℕ → Laid
  lay_chart (single s) k = lay_single s k
  lay_chart (composed a x b) k = lay_both (lay_chart a k) x (λ m. lay_chart b m) k

  -- the slaves of a master, as typed
  pub placed : Slaves → List Placed
  placed (first_slave q t) = record { at = q; part = λ k. lay_chart t k } ∷ []
  placed (more_slaves ps q t) = placed ps ++ (record { at = q; part = λ k. lay_chart t k } ∷ [])

abbrev pub nodes_of : Chart → List Node
nodes_of t = (lay_chart t 0).nodes

abbrev pub slaves_of : Chart → List Slave
slaves_of t = sorted_by (λ s. s.chart) named_charts (sorted_by (λ s. s.state) named_states (lay_chart t 0).slaves)

-- ── the file ──

abbrev pub transitions_of : Chart → List Transition
transitions_of t = gathered transitions_in (charts_of t)

unfoldable pub body_for : Chart → List ℕ
body_for t =
    all (λ s. head_bytes (head_for s)) (charts_of t)
    ++ (all (λ u. transition_bytes (transition_for u)) (transitions_of t)
    ++ (all slave_bytes (slaves_of t) ++ all node_bytes (nodes_of t)))

-- the counts as read, whether they fit into their bytes or not
unfoldable pub trailer_for : Chart → Trailer
trailer_for t =
    record {
      distance = length (body_for t);
      charts = length (charts_of t);
      slaves = length (slaves_of t);
      nodes = length (nodes_of t);
      edition = first_edition;
      transitions = length (transitions_of t);
    }

unfoldable pub file_for : Chart → List ℕ
file_for t = body_for t ++ trailer_bytes (trailer_for t)
