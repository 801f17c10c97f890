-- The body of a file that is read, part by part: the bytes of its records are so many for each (`length-all`,
-- `length_heads` to `length_nodes`), and together as many as its shape says (`length-body`).
use Rattle.std.specs.Prelude.{◌≡◌, List, [], ◌∷◌, ◌++◌, ℕ, ◌+◌, ◌*◌}
use Rattle.std.proofs.Math.Path.{refl, ap}
use Rattle.std.proofs.Common.{sym, mul-suc, mul-zero}
use native.Mathlib.Omega.{arith}
use Rattle.std.proofs.Math.ListN.{length, length-append}
use Rattle.layout.specs.Record.{head_bytes, transition_bytes, slave_bytes, node_bytes}
use Rattle.layout.specs.Record.Laws.{length-head, length-transition, length-slave, length_node}
use Rattle.layout.specs.Body.{size_of}
use Rattle.meaning.specs.File.{shape_of}
use Rattle.notation.specs.Syntax.{Chart}
use Rattle.reading.specs.Meant.{all, transition_for, head_for, charts_of, transitions_of, slaves_of, nodes_of, body_for}
use Rattle.reading.specs.Meant.{trailer_for}

-- ── records of one width ──

pub length-all : {A : Type 0} (n : ℕ) (f : A → List ℕ) → ((a : A) → length (f a) ≡ n) → (l : List A)
    → length (all f l) ≡ n * length l
unfolding all
length-all n f h [] = sym (mul-zero n)
length-all n f h (a ∷ l) =
    let e = mul-suc n (length l) in
    omega (arith, length-append (f a) (all f l), h a, length-all n f h l)

-- ── the parts ──

module _ (t : Chart) where
  -- the bytes of the heads, of the transitions, of the slaves and of the nodes
  abbrev pub heads_for : List ℕ
  heads_for = all (λ s. head_bytes (head_for s)) (charts_of t)

  abbrev pub lines_for : List ℕ
  lines_for = all (λ u. transition_bytes (transition_for u)) (transitions_of t)

  abbrev pub slaves_for : List ℕ
  slaves_for = all slave_bytes (slaves_of t)

  abbrev pub nodes_for : List ℕ
  nodes_for = all node_bytes (nodes_of t)

  pub body_for_lem : body_for t ≡ heads_for ++ (lines_for ++ (slaves_for ++ nodes_for))
  unfolding body_for
  body_for_lem = refl

  pub length_heads : length heads_for ≡ 24 * length (charts_of t)
  length_heads = length-all 24 (λ s. head_bytes (head_for s)) (λ s. length-head (head_for s)) (charts_of t)

  pub length_lines : length lines_for ≡ 28 * length (transitions_of t)
  length_lines =
      length-all 28 (λ u. transition_bytes (transition_for u)) (λ u. length-transition (transition_for u))
      (transitions_of t)

  pub length-slaves : length slaves_for ≡ 4 * length (slaves_of t)
  length-slaves = length-all 4 slave_bytes length-slave (slaves_of t)

  pub length_nodes : length nodes_for ≡ 20 * length (nodes_of t)
  length_nodes = length-all 20 node_bytes length_node (nodes_of t)

  pub length-body : length (body_for t) ≡ size_of (shape_of (trailer_for t))
  unfolding shape_of trailer_for
  length-body =
      omega (
        arith,
        ap length body_for_lem,
        length-append heads_for (lines_for ++ (slaves_for ++ nodes_for)),
        length-append lines_for (slaves_for ++ nodes_for),
        length-append slaves_for nodes_for,
        length_heads,
        length_lines,
        length-slaves,
        length_nodes,
      )
