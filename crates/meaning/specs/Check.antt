-- The file check: refusals 1 to 11 (RULES 3.2), in this order. A test is true where its refusal applies.
use Rattle.std.specs.Prelude.{Bool, true, ◌&&◌, ◌||◌, not, cond, List, [], ◌∷◌, ℕ, zero, suc, ◌+◌, ◌*◌, ltb, length}
use Rattle.std.specs.Prelude.{get_or}
use Rattle.layout.specs.Body.{size_of, transitions_from, slaves_from, nodes_from, head_at, transition_at, start_of}
use Rattle.layout.specs.declared.body.Shape.{Shape}
use Rattle.layout.specs.declared.record.Trailer.{Trailer}
use Rattle.layout.specs.declared.record.Transition.{Transition}
use Rattle.meaning.specs.Numbers.{first_edition, stay_edition, most_charts, most_slaves, most_nodes, most_transitions}
use Rattle.meaning.specs.Numbers.{most_states, most_in_chart, most_from_state, too_short, other_edition, bad_counts}
use Rattle.meaning.specs.Numbers.{bad_distance, not_zero, bad_chart, bad_transition, bad_slave, bad_node, bad_naming}
use Rattle.meaning.specs.Numbers.{bad_inside}
use Rattle.meaning.specs.Sums.{any_up_to, tally, one}
use Rattle.meaning.specs.Meaning.{same}
use Rattle.meaning.specs.File.{File, tree_of, Has, end_of, trailer, body_of, shape_of, file_at}
pub mod Laws
pub mod Nodes

-- ── the first refusal that applies ──

-- the number of a refusal, and whether it applies
pub record Test : Type 0 where
  pub number : ℕ
  pub applies : Bool

-- the number of the first test that applies; if none does, 0 for success (RULES 3.1)
unfoldable pub first_of : List Test → ℕ
first_of [] = 0
first_of (t ∷ ts) = cond t.applies t.number (first_of ts)

-- a number is not below another
abbrev pub not_below : ℕ → ℕ → Bool
not_below m n = not (ltb m n)

-- two numbers differ
abbrev pub differ : ℕ → ℕ → Bool
differ m n = not (same m n)

-- ── 2 to 4: the trailer ──

-- 2: the edition is neither 1 nor 2 (RULES 3.2)
unfoldable pub edition? : Trailer → Bool
edition? t = differ t.edition first_edition && differ t.edition stay_edition

-- 3: the number of charts, slaves, nodes or transitions is outside its limits (RULES 2.8, 3.2)
unfoldable pub counts? : Trailer → Bool
counts? t =
    (same t.charts 0 || ltb most_charts t.charts)
    || ltb most_slaves t.slaves
    || (same t.nodes 0 || ltb most_nodes t.nodes)
    || ltb most_transitions t.transitions

-- 4: the distance differs from the body size, or the file has fewer bytes before its trailer (RULES 2.1, 3.2)
unfoldable pub distance? : List ℕ → Bool
distance? f = differ (trailer f).distance (size_of (shape_of (trailer f))) || ltb (end_of f) (trailer f).distance

-- ── 5: zero bytes (RULES 3.2) ──

-- one of the k bytes from `at` on is not zero
unfoldable pub nonzero : List ℕ → ℕ → ℕ → Bool
nonzero b at k = any_up_to k (λ i. differ (get_or b (at + i) 0) 0)

module _ (n : Shape) (b : List ℕ) where
  -- a zero byte of a record is not 0 (RULES 2.3 to 2.6); the trailer's are tested in `file_tests`
  unfoldable pub zeros? : Bool
  zeros? =
      any_up_to n.charts (λ c. nonzero b (24 * c + 3) 5)
      || any_up_to n.transitions (λ t. nonzero b (transitions_from n + 28 * t + 2) 2)
      || any_up_to n.slaves (λ i. nonzero b (slaves_from n + 4 * i + 3) 1)
      || any_up_to n.nodes (λ j. nonzero b (nodes_from n + 20 * j + 3) 1)

  -- ── 6 and 7: charts and their transitions ──

  -- 6: a chart has no state or more than 16, its initial state is not one of its states, or it has more than 64
  -- transitions (RULES 3.2)
  unfoldable pub chart? : ℕ → Bool
  chart? c =
      (same (head_at n b c).states 0 || ltb most_states (head_at n b c).states)
      || not_below (head_at n b c).initial (head_at n b c).states
      || ltb most_in_chart (head_at n b c).transitions

  -- 6 of all charts; or their transitions do not add up to the trailer's number (RULES 3.2)
  unfoldable pub charts? : Bool
  charts? = any_up_to n.charts chart? || differ (start_of n b n.charts) n.transitions

  -- transition k of chart c
  abbrev pub in_chart : ℕ → ℕ → Transition
  in_chart c k = transition_at n b (start_of n b c + k)

  -- 7: a transition leaves or enters a state that its chart does not have (RULES 3.2)
  unfoldable pub ends? : ℕ → ℕ → Bool
  ends? c k = not_below (in_chart c k).from (head_at n b c).states || not_below (in_chart c k).to (head_at n b c).states

  -- how many of the first k transitions of chart c leave the state s
  unfoldable pub leaving : ℕ → ℕ → ℕ → ℕ
  leaving c s k = tally k (λ u. one (same (in_chart c u).from s))

  -- 7 of all charts; or more than 8 transitions leave one state (RULES 3.2)
  unfoldable pub transitions? : Bool
  transitions? =
      any_up_to n.charts
      (λ c.
      any_up_to (head_at n b c).transitions (ends? c)
      || any_up_to (head_at n b c).states (λ s. ltb most_from_state (leaving c s (head_at n b c).transitions)))

-- ── 8 to 11: slaves and nodes ──

module _ (F : File) where
  -- slave i has a higher chart than slave h, or the same chart and a higher state (RULES 3.2)
  unfoldable pub rising : ℕ → ℕ → Bool
  rising h i = ltb (F.master h) (F.master i) || (same (F.master h) (F.master i) && ltb (F.state h) (F.state i))

  -- slave i is the first, or above the one before it
  abbrev pub in_order_at : ℕ → Bool
  in_order_at zero = true
  in_order_at (suc h) = rising h (suc h)

  -- 8: a slave names a chart, a state or a node that does not exist, or is not in order (RULES 3.2)
  unfoldable pub slave? : ℕ → Bool
  slave? i =
      not_below (F.master i) F.charts
      || not_below (F.state i) (F.chart (F.master i)).states
      || not_below (F.node i) F.nodes
      || not (in_order_at i)

  -- 8 of all slaves
  unfoldable pub slaves? : Bool
  slaves? = any_up_to F.slaves slave?

  -- 9: the kind is above 2, the node holds a chart that does not exist, it names a node that is not lower than itself,
  -- or a field that its kind does not use is not 0 (RULES 2.6, 3.2)
  unfoldable pub node_of_kind? : ℕ → ℕ → Bool
  node_of_kind? zero j = not_below (F.a j) F.charts || differ (F.b j) 0 || differ (F.x j) 0 || differ (F.y j) 0
  node_of_kind? (suc zero) j = not_below (F.a j) j || not_below (F.b j) j || differ (F.y j) 0
  node_of_kind? (suc (suc zero)) j = not_below (F.a j) j || differ (F.b j) 0
  node_of_kind? (suc (suc (suc k))) j = true

  -- 9 of all nodes
  unfoldable pub nodes? : Bool
  nodes? = any_up_to F.nodes (λ j. node_of_kind? (F.kind j) j)

  -- how often node k names node j (RULES 3.2); the a of kind 0 is a chart
  unfoldable pub names : ℕ → ℕ → ℕ
  names k j =
      one (same (F.kind k) 1 && same (F.a k) j)
      + one (same (F.kind k) 1 && same (F.b k) j)
      + one (same (F.kind k) 2 && same (F.a k) j)

  -- how often node j is named, by slaves and by nodes (RULES 3.2)
  unfoldable pub named : ℕ → ℕ
  named j = tally F.slaves (λ i. one (same (F.node i) j)) + tally F.nodes (λ k. names k j)

  -- node j holds chart c (RULES 2.6)
  abbrev pub holds : ℕ → ℕ → Bool
  holds j c = same (F.kind j) 0 && same (F.a j) c

  -- how many nodes hold chart c
  unfoldable pub held : ℕ → ℕ
  held c = tally F.nodes (λ k. one (holds k c))

  -- 10: the nodes do not make one tree (RULES 3.2). For each chart one node has to hold it, and only one; each node has
  -- one name, but the last has none; a slave's node is lower than its master's.
  unfoldable pub naming? : Bool
  naming? =
      any_up_to F.charts (λ c. differ (held c) 1)
      || any_up_to F.nodes (λ j. differ (named j) (cond (same (suc j) F.nodes) 0 1))
      || any_up_to F.slaves (λ i. any_up_to F.nodes (λ j. holds j (F.master i) && not_below (F.node i) j))

  -- 11: the number of a chart inside a slave is not above that of the master (RULES 2.7, 3.2)
  unfoldable pub inside? : Bool
  inside? =
      any_up_to F.slaves (λ i. any_up_to F.charts (λ c. Has (tree_of F (F.node i)) c && not_below (F.master i) c))

-- ── the table ──

-- 6 to 11, over a body of this shape
abbrev pub body_tests : Shape → List ℕ → List Test
body_tests n b =
    record { number = bad_chart; applies = charts? n b }
    ∷ record { number = bad_transition; applies = transitions? n b }
    ∷ record { number = bad_slave; applies = slaves? (file_at n b) }
    ∷ record { number = bad_node; applies = nodes? (file_at n b) }
    ∷ record { number = bad_naming; applies = naming? (file_at n b) }
    ∷ record { number = bad_inside; applies = inside? (file_at n b) }
    ∷ []

-- 1 to 11 (RULES 3.2); 1: the file is shorter than a trailer
unfoldable pub file_tests : List ℕ → List Test
file_tests f =
    record { number = too_short; applies = ltb (length f) 12 }
    ∷ record { number = other_edition; applies = edition? (trailer f) }
    ∷ record { number = bad_counts; applies = counts? (trailer f) }
    ∷ record { number = bad_distance; applies = distance? f }
    ∷ record { number = not_zero; applies = nonzero f (end_of f + 10) 2 || zeros? (shape_of (trailer f)) (body_of f) }
    ∷ body_tests (shape_of (trailer f)) (body_of f)

-- what `check` answers (RULES 3.6)
unfoldable pub refusal_of : List ℕ → ℕ
refusal_of f = first_of (file_tests f)
