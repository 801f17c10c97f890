-- The file of a chart is made of bytes, where it is accepted (`file-bytes`): heads, transitions, slaves and nodes in
-- turn, and the trailer.
use Rattle.std.specs.Prelude.{◌≡◌, not, ℕ, zero, suc, ◌≤◌, ◌<◌}
use Rattle.std.proofs.Common.{sym, ◌∙◌, true≢false, arith, lit<}
use Rattle.std.proofs.Math.Path.{ap, ap₂, subst}
use Rattle.std.proofs.Math.Bool.{false}
use mathlib.Core.List.{List, [], ◌∷◌}
use Rattle.layout.specs.Le.{AllBytes}
use Rattle.layout.specs.Record.{node_of, head_bytes, transition_bytes, slave_bytes, node_bytes}
use Rattle.layout.specs.Body.{node_at}
use Rattle.layout.specs.declared.record.Slave.{Slave}
use Rattle.layout.specs.declared.record.Node.{Node}
use Rattle.meaning.specs.Sums.Laws.{or_three, or_four, or_left, or_right}
use Rattle.meaning.specs.Check.{not_below, differ, counts?, charts?, node_of_kind?, nodes?, refusal_of}
use Rattle.meaning.specs.Check.Laws.{Counted, alike, below, passed, counted, charted}
use Rattle.meaning.specs.Check.Nodes.{node_passes}
use Rattle.meaning.specs.File.{File, shape_of, file_at, file_of}
use Rattle.agreement.specs.Bytes.{Bytes, end, byte, all-bytes, and, nought, head_bytes_lem, transition-bytes}
use Rattle.agreement.specs.Bytes.{node_bytes_lem}
use Rattle.agreement.specs.Bytes.{trailer-bytes}
use Rattle.notation.specs.Syntax.{Transition, Sequential, Chart}
use Rattle.reading.specs.Names.{members_of, has, any, transition?, sequential?, names?}
use Rattle.reading.specs.Meant.{all, gathered, transition_for, transitions_in, head_for, charts_of, slaves_of}
use Rattle.reading.specs.Meant.{nodes_of, body_for, trailer_for, file_for}
use Rattle.reading.specs.Laws.Body.{heads_for, lines_for, slaves_for, nodes_for, body_for_lem}
use Rattle.reading.specs.Laws.Lists.{all_append}
use Rattle.outline.specs.Laws.Laid.{has-below}
use Rattle.faithful.specs.Laws.Small.{transitions_fine}
use Rattle.faithful.specs.Laws.Back.{At, at-below, shape_for, trailer-back_is, body_back, file-back, head_is, slave_is}
use Rattle.faithful.specs.Laws.Back.{node-there}
use Rattle.faithful.proofs.Laws.Charts.{at_head, at_more, at-fine, charts-fine}
use Rattle.roundtrip.specs.Laws.Proper.{Tidy, tidy, AnySet}

-- records in turn
all_of : {A : Type 0} (g : A → List ℕ) (l : List A) → ((i : ℕ) (a : A) → At l i a → Bytes (g a)) → Bytes (all g l)
unfolding all
all_of g [] h = end
all_of g (a ∷ l) h = and (h 0 a (at_head a l)) (all_of g l (λ i b m. h (suc i) b (at_more a l i b m)))

-- ── transitions ──

abbrev pub line : Transition → List ℕ
line u = transition_bytes (transition_for u)

module _ (s : Sequential) (e : sequential? s ≡ false) where
  lines_of : (us : List Transition) → any (transition? (members_of s.heading.states)) us ≡ false
      → Bytes (all line us)
  unfolding all any transition? transition_for
  lines_of [] f = end
  lines_of (u ∷ us) f =
      let states = members_of s.heading.states in
      let g = or_left (transition? states u) (any (transition? states) us) f in
      let a = has-below s e u.from (or_left _ _ g) in
      let b = has-below s e u.to (or_left _ _ (or_right (not (has states u.from)) _ g)) in
      and (transition-bytes (transition_for u) (omega arith) (omega arith))
      (lines_of us (or_right (transition? states u) (any (transition? states) us) f))

all_lines : (l : List Sequential) → any sequential? l ≡ false → Bytes (all line (gathered transitions_in l))
unfolding gathered any all
all_lines [] e = end
all_lines (s ∷ l) e =
    let f = or_left (sequential? s) (any sequential? l) e in
    subst Bytes (sym (all_append line (transitions_in s) (gathered transitions_in l)))
    (and (lines_of s f (transitions_in s) (transitions_fine s f))
    (all_lines l (or_right (sequential? s) (any sequential? l) e)))

-- ── nodes ──

parts-small : (F : File) (k j : ℕ) → F.charts ≤ 64 → j < 64 → node_of_kind? F k j ≡ false
    → (k < 256) × (F.a j < 256) × (F.b j < 256)
unfolding node_of_kind?
parts-small F zero j c l h =
    let q = or_four (not_below (F.a j) F.charts) (differ (F.b j) 0) (differ (F.x j) 0) (differ (F.y j) 0) h in
    let a = below (F.a j) F.charts q.0 in let b = alike (F.b j) 0 q.1 in
    (omega arith, omega arith, omega arith)
parts-small F (suc zero) j c l h =
    let q = or_three (not_below (F.a j) j) (not_below (F.b j) j) (differ (F.y j) 0) h in
    let a = below (F.a j) j q.0 in let b = below (F.b j) j q.1 in
    (omega arith, omega arith, omega arith)
parts-small F (suc (suc zero)) j c l h =
    let a = below (F.a j) j (or_left (not_below (F.a j) j) (differ (F.b j) 0) h) in
    let b = alike (F.b j) 0 (or_right (not_below (F.a j) j) (differ (F.b j) 0) h) in
    (omega arith, omega arith, omega arith)
parts-small F (suc (suc (suc k))) j c l h = absurd (true≢false h)

-- ── the file ──

module _ (t : Chart) (n : names? t ≡ false) (c : counts? (trailer_for t) ≡ false)
    (p : refusal_of (file_for t) ≡ 0) where
  abbrev counts : Counted (trailer_for t)
  counts = counted (trailer_for t) c

  abbrev B : File
  B = file_at (shape_for t) (body_for t)

  back : file_of (file_for t) ≡ B
  back = file-back t counts

  tidied : Tidy B AnySet
  tidied = subst (λ F. Tidy F AnySet) back (tidy (file_for t) p AnySet (λ j l. (tt, tt)))

  heads : Bytes (heads_for t)
  unfolding shape_of trailer_for
  heads = all_of (λ s. head_bytes (head_for s)) (charts_of t) (λ i s m. at i s m)
    where
      right : charts? (shape_for t) (body_for t) ≡ false
      right =
          ap₂ (λ r b. charts? (shape_of r) b) (sym (trailer-back_is t counts)) (sym (body_back t counts))
          ∙ (passed (file_for t) p).charts

      at : (i : ℕ) (s : Sequential) → At (charts_of t) i s → Bytes (head_bytes (head_for s))
      at i s m =
          let h = charted (shape_for t) (body_for t) right i (at-below (charts_of t) i s m) in
          let a = h.states in let b = h.initial in let d = h.transitions in
          subst (λ r. Bytes (head_bytes r)) (head_is t i s m
          (at-fine sequential? (charts_of t) i s (charts-fine t n) m))
          (head_bytes_lem _ (omega arith) (omega arith) (omega arith))

  lines : Bytes (lines_for t)
  lines = all_lines (charts_of t) (charts-fine t n)

  slaves : Bytes (slaves_for t)
  unfolding slave_bytes file_at shape_of trailer_for
  slaves = all_of slave_bytes (slaves_of t) at
    where
      at : (i : ℕ) (r : Slave) → At (slaves_of t) i r → Bytes (slave_bytes r)
      at i r m =
          let l = at-below (slaves_of t) i r m in
          let a = tidied.treed.node-there i l in
          let u = a.0 in let v = a.1 in let w = tidied.states i l in
          let x = counts.charts in let y = counts.nodes in
          subst (λ r. Bytes (slave_bytes r)) (slave_is t i r m)
          (byte (omega arith) (byte (omega arith) (byte (omega arith) (nought end))))

  nodes : Bytes (nodes_for t)
  unfolding node_of node_bytes node_at file_at shape_of trailer_for
  nodes = all_of node_bytes (nodes_of t) at
    where
      at : (j : ℕ) (r : Node) → At (nodes_of t) j r → Bytes (node_bytes r)
      at j r m =
          let l = at-below (nodes_of t) j r m in
          let d = (node-there t j r m).1 in
          let x = counts.charts in let y = counts.nodes in
          let q = parts-small B (B.kind j) j (omega arith) (omega arith)
          (node_passes B (subst (λ F. nodes? F ≡ false) back (passed (file_for t) p).nodes) j l) in
          let a = ap (λ w. (node_of w).kind) d in
          let b = ap (λ w. (node_of w).a) d in
          let e = ap (λ w. (node_of w).b) d in
          let f = q.0 in let g = q.1 in let h = q.2 in
          node_bytes_lem r (omega arith) (omega arith) (omega arith)

  pub file-bytes : AllBytes (file_for t)
  unfolding file_for trailer_for
  file-bytes =
      let x = counts.charts in let y = counts.slaves in let z = counts.nodes in
      all-bytes (and (subst Bytes (sym (body_for_lem t)) (and heads (and lines (and slaves nodes))))
      (trailer-bytes (trailer_for t) (omega arith) (omega arith) (omega arith) (lit< tt)))
