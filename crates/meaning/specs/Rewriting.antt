-- The rewriting (RULES 9): a file with slaves becomes a file without, rule by rule. In this order: the call signals;
-- the charts; the nodes; the rewritten file; refusals 40 to 44; the file in bytes; what the call answers. That the
-- rewritten file steps as the file does is proved in the crate agreement. Laws of the refusals are in
-- proofs/Rewriting/Laws.antt.
use Rattle.std.specs.Prelude.{◌≡◌, Bool, true, false, ◌&&◌, ◌||◌, cond, ◌≢◌, ◌⊎◌, List, [], ◌∷◌, ◌++◌, map, ℕ, zero}
use Rattle.std.specs.Prelude.{suc, ◌+◌, ◌<◌, ltb, length, get_or}
use Rattle.std.proofs.Math.Option.{Option, none, some}
use Rattle.signals.specs.Mask.{◌∪◌, bit, single}
use Rattle.layout.specs.Record.{trailer_bytes, head_bytes, transition_bytes, slave_bytes, node_bytes}
use Rattle.layout.specs.Body.{size_of}
use Rattle.layout.specs.declared.body.Shape.{Shape}
use Rattle.layout.specs.declared.record.Head.{Head}
use Rattle.layout.specs.declared.record.Transition.{Transition}
use Rattle.layout.specs.declared.record.Node.{Node}
use Rattle.meaning.specs.Numbers.{first_edition, stay_edition, most_signals, most_from_state, most_in_chart, most_nodes}
use Rattle.meaning.specs.Numbers.{no_free_signal, many_from_state, many_in_chart, many_nodes, short_out, may_stay}
use Rattle.meaning.specs.Sums.{any_up_to, tally, one}
use Rattle.meaning.specs.Meaning.{Set, ∅, same, Chart, Tree, Slaves, leaf, comp, hide, dec, nil, snoc, guards}
use Rattle.meaning.specs.Meaning.{actions}
use Rattle.meaning.specs.File.{File, trailer, whole_of, Has, file_of}
use Rattle.meaning.specs.Check.{Test, first_of, file_tests}
use Rattle.meaning.specs.Calls.{laid_over}

-- f 0 ∪ f 1 ∪ .. ∪ f (n - 1)
unfoldable pub union_up_to : ℕ → (ℕ → Set) → Set
union_up_to zero f = ∅
union_up_to (suc n) f = union_up_to n f ∪ f n

-- ── the call signals ──

-- the numbers below n that are not in s, rising
unfoldable pub lacking : Set → ℕ → List ℕ
lacking s zero = []
lacking s (suc n) = cond (bit s n) (lacking s n) (lacking s n ++ (n ∷ []))

module _ (F : File) where
  -- all signals that some set of the file has (RULES 9.2)
  unfoldable pub used : Set
  used =
      union_up_to F.charts
      (λ c. guards (F.chart c).transitions ∪ actions (F.chart c).transitions ∪ (F.chart c).feedback
      ∪ (F.chart c).extra)
      ∪ union_up_to F.nodes (λ j. F.x j ∪ F.y j)

  -- the free signals, from the lowest up (RULES 9.2)
  unfoldable pub free : List ℕ
  free = lacking used most_signals

  -- the call signal of slave i: free signal i, counted from the lowest (RULES 9.2). If there are not enough, which 40
  -- refuses, it is a number that is no signal.
  unfoldable pub call : ℕ → ℕ
  call i = get_or free i (most_signals + i)

  -- the same said of a number m: no set of the file has it, it is no earlier slave's call signal, and each lower number
  -- is in a set or is one
  pub record LowestLeft (i m : ℕ) : Type 0 where
    pub unused : bit used m ≡ false
    pub left : (k : ℕ) → k < i → call k ≢ m
    pub lower : (j : ℕ) → j < m → (bit used j ≡ true) ⊎ ((k : ℕ) × (k < i) × (call k ≡ j))

  -- ── the charts ──

  -- slave i is one of chart c
  abbrev pub is_of : ℕ → ℕ → Bool
  is_of c i = same (F.master i) c

  -- the transition leaves or enters the state of slave i (RULES 9.3)
  abbrev pub touches : Transition → ℕ → Bool
  touches t i = same t.from (F.state i) || same t.to (F.state i)

  -- what a transition of a master also outputs: the call signal of each of the chart's slaves whose state it leaves or
  -- enters (RULES 9.3)
  unfoldable pub calls_by : ℕ → Transition → Set
  calls_by c t = union_up_to F.slaves (λ i. cond (is_of c i && touches t i) (single (call i)) ∅)

-- call: the call signal of each slave; a chart is inside a slave, its nearest, or inside none (RULES 2.7)
module _ (call : ℕ → ℕ) where
  -- what a chart's own transitions also need: the call signal of its nearest slave (RULES 9.3)
  unfoldable pub call_in : Option ℕ → Set
  call_in none = ∅
  call_in (some i) = single (call i)

  -- one of its own transitions, which also needs that; `added` are the call signals that it also outputs (RULES 9.3)
  unfoldable pub called : Option ℕ → (Transition → Set) → Transition → Transition
  called κ added t =
      record {
        from = t.from;
        to = t.to;
        needed = t.needed ∪ call_in κ;
        barred = t.barred;
        action = t.action ∪ added t;
      }

  -- the idle transition of state s inside slave i: it leads back to s, bars the call signal and outputs nothing (RULES
  -- 9.3)
  unfoldable pub idle : ℕ → ℕ → Transition
  idle i s = record { from = s; to = s; needed = ∅; barred = single (call i); action = ∅ }

  -- one for each of n states, from s up; a chart inside no slave has none (RULES 9.3)
  unfoldable pub idles : Option ℕ → ℕ → ℕ → List Transition
  idles none s n = []
  idles (some i) s zero = []
  idles (some i) s (suc n) = idle i s ∷ idles (some i) (suc s) n

  -- a rewritten chart (RULES 9.3): its own transitions, then the idle ones, which output no call signal; all else is
  -- unchanged
  unfoldable pub chart_with : Option ℕ → (Transition → Set) → Chart → Chart
  chart_with κ added C =
      record {
        states = C.states;
        initial = C.initial;
        transitions = map (called κ added) C.transitions ++ idles κ zero C.states;
        feedback = C.feedback;
        extra = C.extra;
        stays = C.stays;
      }

-- the nearest slave of chart c (RULES 2.7), in a part that is inside the slave κ
unfoldable mutual
  pub nearest_in : Tree → Option ℕ → ℕ → Option ℕ
  nearest_in (leaf d) κ c = κ
  nearest_in (comp p q x) κ c = cond (Has p c) (nearest_in p κ c) (nearest_in q κ c)
  nearest_in (hide p x y) κ c = nearest_in p κ c
  nearest_in (dec d ss) κ c = cond (same c d) κ (nearest_among ss c)

  pub nearest_among : Slaves → ℕ → Option ℕ
  nearest_among nil c = none
  nearest_among (snoc ss i t) c = cond (Has t c) (nearest_in t (some i) c) (nearest_among ss c)

module _ (F : File) where
  -- the nearest slave of chart c (RULES 2.7); the whole is inside none
  unfoldable pub nearest_slave : ℕ → Option ℕ
  nearest_slave c = nearest_in (whole_of F) none c

  -- chart c of the result (RULES 9.3)
  unfoldable pub rewritten_chart : ℕ → Chart
  rewritten_chart c = chart_with (call F) (nearest_slave c) (calls_by F c) (F.chart c)

  -- ── the nodes ──

  -- how many of the first k slaves are chart c's
  abbrev pub count : ℕ → ℕ → ℕ
  count c k = tally k (λ i. one (is_of F c i))

  -- how many nodes are appended for a node before the last of them, by its kind and the number of its chart's slaves:
  -- for a master the node that holds it and a composed one for each slave, else none (RULES 9.4)
  abbrev pub before : ℕ → ℕ → ℕ
  before zero zero = 0
  before zero (suc s) = suc (suc s)
  before (suc k) s = 0

  -- the same of node j
  abbrev pub before_last : ℕ → ℕ
  before_last j = before (F.kind j) (count (F.a j) F.slaves)

  -- where the nodes that are appended for node j begin: old nodes are gone through from node 0 up (RULES 9.4)
  unfoldable pub start : ℕ → ℕ
  start zero = 0
  start (suc j) = start j + suc (before_last j)

  -- the new number of node j: that of the last node appended for it (RULES 9.4)
  unfoldable pub new_name : ℕ → ℕ
  new_name j = start j + before_last j

  -- the call signals of all slaves of chart c (RULES 9.4)
  unfoldable pub calls_of : ℕ → Set
  calls_of c = union_up_to F.slaves (λ i. cond (is_of F c i) (single (call F i)) ∅)

  -- the composed nodes of a master c (RULES 9.4), for those of the first k slaves that are its own: a is the node just
  -- before, b the new number of the slave's node, x the feedback set with all call signals. The node that holds c is
  -- number `at`. Its slaves come in the order of their states, by refusal 8.
  unfoldable pub composed : ℕ → ℕ → ℕ → List Node
  composed c at zero = []
  composed c at (suc i) =
      cond (is_of F c i)
      (composed c at i
      ++ (record { kind = 1; a = at + count c i; b = new_name (F.node i); x = (F.chart c).feedback ∪ calls_of c; y = ∅ }
      ∷ []))
      (composed c at i)

  -- the nodes that are appended for node j, by its kind and the number of its chart's slaves (RULES 9.4): for a master,
  -- one that holds it, the composed ones, and a hidden one that removes the call signals; for any other node, the same
  -- with new numbers
  abbrev pub made_by : ℕ → ℕ → ℕ → List Node
  made_by zero zero j = record { kind = 0; a = F.a j; b = 0; x = ∅; y = ∅ } ∷ []
  made_by zero (suc s) j =
      record { kind = 0; a = F.a j; b = 0; x = ∅; y = ∅ }
      ∷ (composed (F.a j) (start j) F.slaves
      ++ (record { kind = 2; a = start j + suc s; b = 0; x = calls_of (F.a j); y = calls_of (F.a j) } ∷ []))
  made_by (suc zero) s j = record { kind = 1; a = new_name (F.a j); b = new_name (F.b j); x = F.x j; y = ∅ } ∷ []
  made_by (suc (suc k)) s j = record { kind = 2; a = new_name (F.a j); b = 0; x = F.x j; y = F.y j } ∷ []

  -- the same of node j
  unfoldable pub made_for : ℕ → List Node
  made_for j = made_by (F.kind j) (count (F.a j) F.slaves) j

  -- the nodes that are appended for the first n nodes (RULES 9.4)
  unfoldable pub laid : ℕ → List Node
  laid zero = []
  laid (suc j) = laid j ++ made_for j

  -- node p of the result
  abbrev pub new_node : ℕ → Node
  new_node p = get_or (laid F.nodes) p (record { kind = 0; a = 0; b = 0; x = ∅; y = ∅ })

  -- ── the rewritten file ──

  -- the result: the rewritten charts, the new nodes, no slaves (RULES 9.5)
  abbrev pub rewrite : File
  rewrite =
      record {
        charts = F.charts;
        chart = rewritten_chart;
        slaves = 0;
        master = λ i. 0;
        state = λ i. 0;
        node = λ i. 0;
        nodes = start F.nodes;
        kind = λ p. (new_node p).kind;
        a = λ p. (new_node p).a;
        b = λ p. (new_node p).b;
        x = λ p. (new_node p).x;
        y = λ p. (new_node p).y;
      }

-- ── refusals 40 to 44, each tested over the whole result (RULES 9.6) ──

-- how many of the transitions leave the state s
unfoldable pub leaving_in : List Transition → ℕ → ℕ
leaving_in [] s = 0
leaving_in (t ∷ ts) s = one (same t.from s) + leaving_in ts s

-- 40: there are not enough free signals for the slaves (RULES 3.5, 9.2)
unfoldable pub no_free? : File → Bool
no_free? F = ltb (length (free F)) F.slaves

-- 41, of the result R: more than 8 transitions leave one state (RULES 3.5)
unfoldable pub from_state? : File → Bool
from_state? R =
    any_up_to R.charts
    (λ c. any_up_to (R.chart c).states (λ s. ltb most_from_state (leaving_in (R.chart c).transitions s)))

-- 42, of the result R: a chart has more than 64 transitions (RULES 3.5)
unfoldable pub in_chart? : File → Bool
in_chart? R = any_up_to R.charts (λ c. ltb most_in_chart (length (R.chart c).transitions))

-- 40, 41, 42, 44 (RULES 3.6); 44: the result has more than 64 nodes. 43 is not in use, since a result that passes 42
-- has at most 1,024 transitions (`sum_most`).
unfoldable pub rewrite_tests : File → List Test
rewrite_tests F =
    record { number = no_free_signal; applies = no_free? F }
    ∷ record { number = many_from_state; applies = from_state? (rewrite F) }
    ∷ record { number = many_in_chart; applies = in_chart? (rewrite F) }
    ∷ record { number = many_nodes; applies = ltb most_nodes (rewrite F).nodes }
    ∷ []

-- ── a file in bytes ──

-- f 0 ++ f 1 ++ .. ++ f (n - 1)
unfoldable pub in_turn : {A : Type 0} → ℕ → (ℕ → List A) → List A
in_turn zero f = []
in_turn (suc n) f = in_turn n f ++ f n

-- the record of a chart (RULES 2.3)
unfoldable pub head_for : Chart → Head
head_for C =
    record {
      states = C.states;
      initial = C.initial;
      transitions = length C.transitions;
      feedback = C.feedback;
      extra = C.extra;
    }

-- the records of transitions (RULES 2.4)
unfoldable pub transitions_bytes : List Transition → List ℕ
transitions_bytes [] = []
transitions_bytes (t ∷ ts) = transition_bytes t ++ transitions_bytes ts

-- how many transitions the file has (RULES 2.2)
unfoldable pub transitions_in : File → ℕ
transitions_in F = tally F.charts (λ c. length (F.chart c).transitions)

-- its counts, with edition 1 (RULES 9.5)
unfoldable pub shape_in : File → Shape
shape_in F = record {
  charts = F.charts;
  transitions = transitions_in F;
  slaves = F.slaves;
  nodes = F.nodes;
  edition = first_edition;
}

-- the body (RULES 2.1): the records of charts, transitions, slaves, nodes
unfoldable pub body_bytes : File → List ℕ
body_bytes F =
    in_turn F.charts (λ c. head_bytes (head_for (F.chart c)))
    ++ in_turn F.charts (λ c. transitions_bytes (F.chart c).transitions)
    ++ in_turn F.slaves (λ i. slave_bytes (record { chart = F.master i; state = F.state i; node = F.node i }))
    ++ in_turn F.nodes (λ j. node_bytes (record { kind = F.kind j; a = F.a j; b = F.b j; x = F.x j; y = F.y j }))

-- the body, then the trailer (RULES 2.1, 2.2)
unfoldable pub encode : File → List ℕ
encode F =
    body_bytes F
    ++ trailer_bytes (record {
      distance = size_of (shape_in F);
      charts = F.charts;
      slaves = F.slaves;
      nodes = F.nodes;
      edition = first_edition;
      transitions = transitions_in F;
    })

-- ── what the call answers: 1 to 11, 46 for edition 2, then 40 to 45 (RULES 3.5, 3.6) ──

-- the result, without a front (RULES 9.5)
unfoldable pub rewrite_bytes : List ℕ → List ℕ
rewrite_bytes f = encode (rewrite (file_of f))

-- 46: the file has edition 2 (RULES 3.5)
abbrev pub stay_test : List ℕ → Test
stay_test f = record { number = may_stay; applies = same (trailer f).edition stay_edition }

-- 45: the buffer is too short for the result (RULES 3.5)
unfoldable pub rewrite_refusal : List ℕ → ℕ → ℕ
rewrite_refusal f room =
    first_of
    (file_tests f ++ (stay_test f ∷ rewrite_tests (file_of f))
    ++ (record { number = short_out; applies = ltb room (length (rewrite_bytes f)) } ∷ []))

-- the length of the result; 0 if the call is refused (RULES 1.4)
unfoldable pub rewrite_length : List ℕ → ℕ → ℕ
rewrite_length f room = cond (same (rewrite_refusal f room) 0) (length (rewrite_bytes f)) 0

-- what the caller's buffer holds after the call (RULES 1.4)
unfoldable pub rewrite_out : List ℕ → List ℕ → List ℕ
rewrite_out f buffer = cond (same (rewrite_refusal f (length buffer)) 0) (laid_over (rewrite_bytes f) buffer) buffer
