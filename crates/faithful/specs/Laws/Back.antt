-- The file of a chart reads back: its trailer and its body (`trailer-back_is`, `body_back`), and the records of its
-- body, each the one of its place in the lists of the chart: its bytes (`head_there`, `transition_there`,
-- `slave_there`, `node-there`) and what they read as (`head_is`, `transition_is`, `slave_is`, `node_is`).
use Rattle.std.specs.Prelude.{◌≡◌, false, drop}
use Rattle.std.proofs.Math.Path.{refl, sym, ap, ap₂}
use Rattle.std.proofs.Common.{◌∙◌, arith, drop_at}
use mathlib.Core.List.{List, [], ◌∷◌, ◌++◌, append_assoc, append-nil}
use Prim.Native.Nat.{ℕ, ◌+◌, ◌*◌, ◌-◌, ◌^◌, ◌<◌}
use Rattle.std.proofs.Math.ListN.{length, take, length-append}
use Rattle.std.proofs.Math.Seq.{take_at}
use Rattle.layout.specs.Record.{trailer_of, head_of, transition_of, slave_of, node_of, trailer_bytes, head_bytes}
use Rattle.layout.specs.Record.{transition_bytes, slave_bytes, node_bytes}
use Rattle.layout.specs.Record.Laws.{length-trailer, length-head, length-transition, length-slave, length_node}
use Rattle.layout.specs.Record.Laws.{trailer-back, head-back, transition-back, slave-back, node_back}
use Rattle.layout.specs.Body.{transitions_from, slaves_from, nodes_from, head_at, transition_at, slave_at, node_at}
use Rattle.layout.specs.declared.body.Shape.{Shape}
use Rattle.layout.specs.declared.record.Slave.{Slave}
use Rattle.layout.specs.declared.record.Node.{Node}
use Rattle.meaning.specs.Check.Laws.{Counted}
use Rattle.meaning.specs.File.{end_of, trailer, body_of, shape_of, file_at, file_of}
use Rattle.agreement.specs.Encoded.{past}
use Rattle.notation.specs.Syntax.{Transition, Sequential, Chart}
use Rattle.reading.specs.Names.{sequential?}
use Rattle.reading.specs.Meant.{all, transition_for, head_for, charts_of, transitions_of, slaves_of, nodes_of, body_for}
use Rattle.reading.specs.Meant.{trailer_for, file_for}
use Rattle.reading.specs.Laws.Body.{length-all, heads_for, lines_for, slaves_for, nodes_for, body_for_lem, length_heads}
use Rattle.reading.specs.Laws.Body.{length_lines, length-slaves, length-body}
use Rattle.reading.specs.Laws.Lists.{all_append}
use Rattle.faithful.specs.Laws.Small.{head_small}

-- ── a member of a list ──

-- a is the member i of l
pub record At {A : Type 0} (l : List A) (i : ℕ) (a : A) : Type 0 where
  pub before : List A
  pub after : List A
  pub is : l ≡ before ++ (a ∷ after)
  pub counted : length before ≡ i

pub at-below : {A : Type 0} (l : List A) (i : ℕ) (a : A) → At l i a → i < length l
at-below l i a h = omega (arith, ap length h.is, length-append h.before (a ∷ h.after), h.counted)

-- its bytes, among those of records of one width
all-at : {A : Type 0} (w : ℕ) (g : A → List ℕ) → ((a : A) → length (g a) ≡ w) → (l : List A) (i : ℕ) (a : A) → At l i a
    → (rest : List ℕ) → (r : List ℕ) × (drop (w * i) (all g l ++ rest) ≡ g a ++ r)
unfolding all
all-at w g h l i a m rest =
    let p = all g m.before in
    let q = all g m.after in (
      q ++ rest,
      ap (λ k. drop (w * i) (all g k ++ rest)) m.is
          ∙ ap (λ k. drop (w * i) (k ++ rest)) (all_append g m.before (a ∷ m.after))
          ∙ ap (drop (w * i)) (append_assoc p (g a ++ q) rest)
          ∙ drop_at p ((g a ++ q) ++ rest) (w * i) (length-all w g h m.before ∙ ap (w *◌) m.counted)
          ∙ append_assoc (g a) q rest,
    )

-- ── the trailer and the body ──

module _ (t : Chart) where
  abbrev pub shape_for : Shape
  shape_for = shape_of (trailer_for t)

  pub end_is : end_of (file_for t) ≡ length (body_for t)
  unfolding file_for
  end_is = omega (arith, length-append (body_for t) (trailer_bytes (trailer_for t)), length-trailer (trailer_for t))

  module _ (c : Counted (trailer_for t)) where
    near : (trailer_for t).distance < 256 ^ 4
    unfolding trailer_for shape_of
    near =
        let a = c.charts in
        let b = c.slaves in
        let d = c.nodes in
        let e = c.transitions in
        omega (arith, length-body t)

    few : (trailer_for t).transitions < 256 ^ 2
    few = let e = c.transitions in omega arith

    pub trailer-back_is : trailer (file_for t) ≡ trailer_for t
    unfolding trailer file_for
    trailer-back_is =
        ap trailer_of (drop_at (body_for t) (trailer_bytes (trailer_for t)) (end_of (file_for t)) (sym end_is)
        ∙ sym (append-nil (trailer_bytes (trailer_for t))))
        ∙ trailer-back (trailer_for t) [] near few

    pub body_back : body_of (file_for t) ≡ body_for t
    unfolding body_of trailer_for file_for
    body_back =
        let d : (trailer (file_for t)).distance ≡ length (body_for t) = ap (λ r. r.distance) trailer-back_is in
        let z : end_of (file_for t) - (trailer (file_for t)).distance ≡ 0 = omega (arith, end_is, d) in
        ap₂ (λ m k. take m (drop k (file_for t))) d z
        ∙ take_at (body_for t) (trailer_bytes (trailer_for t)) (length (body_for t)) refl

    pub file-back : file_of (file_for t) ≡ file_at shape_for (body_for t)
    unfolding file_of
    file-back = ap₂ (λ r b. file_at (shape_of r) b) trailer-back_is body_back

  -- ── the records ──

  abbrev b : List ℕ
  b = body_for t

  pub head_there : (c : ℕ) (s : Sequential) → At (charts_of t) c s
      → (r : List ℕ) × (drop (24 * c) b ≡ head_bytes (head_for s) ++ r)
  head_there c s m =
      let u = all-at 24 (λ s. head_bytes (head_for s)) (λ s. length-head (head_for s)) (charts_of t) c s m
      (lines_for t ++ (slaves_for t ++ nodes_for t)) in
      (u.0, ap (drop (24 * c)) (body_for_lem t) ∙ u.1)

  pub head_is : (c : ℕ) (s : Sequential) → At (charts_of t) c s → sequential? s ≡ false
      → head_at shape_for b c ≡ head_for s
  unfolding head_at
  head_is c s m e =
      let u = head_there c s m in
      let f = head_small s e in
      ap head_of u.1 ∙ head-back (head_for s) u.0 f.0 f.1

  pub transition_there : (i : ℕ) (u : Transition) → At (transitions_of t) i u
      → (r : List ℕ) × (drop (transitions_from shape_for + 28 * i) b ≡ transition_bytes (transition_for u) ++ r)
  unfolding shape_of trailer_for
  transition_there i u m =
      let v = all-at 28 (λ u. transition_bytes (transition_for u)) (λ u. length-transition (transition_for u))
      (transitions_of t) i u m (slaves_for t ++ nodes_for t) in (
        v.0,
        ap (drop (24 * length (charts_of t) + 28 * i)) (body_for_lem t)
            ∙ past (heads_for t) _ (24 * length (charts_of t)) (28 * i) (length_heads t) ∙ v.1,
      )

  pub transition_is : (i : ℕ) (u : Transition) → At (transitions_of t) i u
      → ((transition_for u).needed < 256 ^ 8) × ((transition_for u).barred < 256 ^ 8)
      × ((transition_for u).action < 256 ^ 8)
      → transition_at shape_for b i ≡ transition_for u
  unfolding transition_at
  transition_is i u m f =
      let v = transition_there i u m in
      ap transition_of v.1 ∙ transition-back (transition_for u) v.0 f.0 f.1 f.2

  pub slave_there : (i : ℕ) (r : Slave) → At (slaves_of t) i r
      → (s : List ℕ) × (drop (slaves_from shape_for + 4 * i) b ≡ slave_bytes r ++ s)
  unfolding shape_of trailer_for
  slave_there i r m =
      let v = all-at 4 slave_bytes length-slave (slaves_of t) i r m (nodes_for t) in
      let n = 24 * length (charts_of t) + 28 * length (transitions_of t) in (
        v.0,
        ap (drop (n + 4 * i)) (body_for_lem t ∙ sym (append_assoc (heads_for t) (lines_for t) _))
            ∙ past (heads_for t ++ lines_for t) (slaves_for t ++ nodes_for t) n (4 * i)
            (length-append (heads_for t) (lines_for t) ∙ ap₂ ◌+◌ (length_heads t) (length_lines t)) ∙ v.1,
      )

  pub slave_is : (i : ℕ) (r : Slave) → At (slaves_of t) i r → slave_at shape_for b i ≡ r
  unfolding slave_at
  slave_is i r m = let v = slave_there i r m in ap slave_of v.1 ∙ slave-back r v.0

  pub node-there : (j : ℕ) (r : Node) → At (nodes_of t) j r
      → (s : List ℕ) × (drop (nodes_from shape_for + 20 * j) b ≡ node_bytes r ++ s)
  unfolding shape_of trailer_for
  node-there j r m =
      let v = all-at 20 node_bytes length_node (nodes_of t) j r m [] in
      let n = 24 * length (charts_of t) + 28 * length (transitions_of t) + 4 * length (slaves_of t) in (
        v.0,
        ap (drop (n + 20 * j)) (body_for_lem t ∙ sym (append_assoc (heads_for t) (lines_for t) _)
            ∙ sym (append_assoc (heads_for t ++ lines_for t) (slaves_for t) _))
            ∙ past ((heads_for t ++ lines_for t) ++ slaves_for t) (nodes_for t) n (20 * j)
            (length-append (heads_for t ++ lines_for t) (slaves_for t)
            ∙ ap₂ ◌+◌ (length-append (heads_for t) (lines_for t) ∙ ap₂ ◌+◌ (length_heads t) (length_lines t))
            (length-slaves t))
            ∙ ap (drop (20 * j)) (sym (append-nil (nodes_for t))) ∙ v.1,
      )

  pub node_is : (j : ℕ) (r : Node) → At (nodes_of t) j r → r.x < 256 ^ 8 → r.y < 256 ^ 8 → node_at shape_for b j ≡ r
  unfolding node_at
  node_is j r m x y = let v = node-there j r m in ap node_of v.1 ∙ node_back r v.0 x y
