-- 10 does not apply to the file of a chart: its nodes and slaves are those that the chart lays down, so that what they
-- name and hold can be summed on the lists (`tally-total`); the sums are as 10 asks (`rule_10`), so it passes
-- (`naming_passes`).
use Rattle.std.specs.Prelude.{◌≡◌, refl, true, false, eqb}
use Rattle.std.proofs.Math.Path.{sym, ap, ap₂}
use Rattle.std.proofs.Common.{◌∙◌, subst, lt-ltb, le-ltb}
use Rattle.std.proofs.Math.Bool.{◌&&◌}
use mathlib.Core.List.{List, [], ◌∷◌, ◌++◌, Memᴰ}
use Rattle.std.proofs.Math.Logic.{⊎_elim}
use Prim.Native.Nat.{ℕ, suc, ◌+◌, ◌-◌, ◌≤◌, ◌<◌}
use native.Mathlib.Omega.{arith}
use Rattle.std.proofs.Math.ListN.{length}
use Rattle.layout.specs.Body.{slave_at, node_at}
use Rattle.layout.specs.declared.record.Slave.{Slave}
use Rattle.layout.specs.declared.record.Node.{Node}
use Rattle.meaning.specs.Sums.{tally, one}
use Rattle.meaning.specs.Sums.Laws.{tally-front, tally-two}
use Rattle.meaning.specs.Meaning.{same}
use Rattle.meaning.specs.Laws.Bools.{same_refl}
use Rattle.meaning.specs.Laws.Names.{Rule10}
use Rattle.meaning.specs.File.{File, shape_of, file_at}
use Rattle.meaning.specs.Check.{names, named, holds, held, naming?}
use Rattle.meaning.specs.Check.Laws.{eq_or-not}
use Rattle.agreement.specs.Again.{naming_is}
use Rattle.notation.specs.Syntax.{Sequential, Chart}
use Rattle.reading.specs.Numbers.{named_charts, named_states}
use Rattle.reading.specs.Names.{sequentials_of, name_of, names?}
use Rattle.reading.specs.Meant.{sorted_by, lay_chart, charts_of, slaves_of, nodes_of, body_for, trailer_for}
use Rattle.outline.specs.Laws.Sorted.{Each, more, each_of, each_sorted, total, total_sorted}
use Rattle.outline.specs.Laws.Filed.{not_refused, all_fit}
use Rattle.faithful.specs.Laws.Back.{At, at-below, shape_for, slave_is}
use Rattle.faithful.proofs.Laws.Charts.{at_more, at_head, at_place, chart_typed}
use Rattle.faithful.specs.Laws.Parts.{times_in, times_of, once_typed, named_so}
use Rattle.faithful.proofs.Laws.Theorems.{once}
use Rattle.accepted.specs.Parts.{names_by, holds_by, under, Mastered, Whole}
use Rattle.accepted.proofs.Laws.Nodes.{nodes_are}
use Rattle.accepted.proofs.Laws.Runs.{chart-whole}

-- ── what is read of records, summed ──

pub tally-total : {A : Type 0} (f : A → ℕ) (g : ℕ → A) (l : List A) → ((i : ℕ) (a : A) → At l i a → g i ≡ a)
    → tally (length l) (λ i. f (g i)) ≡ total f l
unfolding tally total
tally-total f g [] h = refl
tally-total f g (a ∷ l) h =
    tally-front (length l) (λ i. f (g i))
    ∙ ap₂ ◌+◌ (ap f (h 0 a (at_head a l))) (tally-total f (λ i. g (suc i)) l (λ i b m. h (suc i) b (at_more a l i b m)))

each_then : {A : Type 0} {P : A → Type 0} (l : List A) (a : A) (m : List A) → Each P (l ++ (a ∷ m)) → P a
each_then [] a m (more p e) = p
each_then (b ∷ l) a m (more p e) = each_then l a m e

pub each_at : {A : Type 0} {P : A → Type 0} (l : List A) (i : ℕ) (a : A) → Each P l → At l i a → P a
each_at {P = P} l i a e m = each_then m.before a m.after (subst (Each P) m.is e)

-- ── how often a chart is typed ──

mem_times : (s : Sequential) (l : List Sequential) → Memᴰ s l → 0 < times_in (name_of s) l
unfolding total
mem_times s [] x' = elim x' [ ]
mem_times s (u ∷ l) (Memᴰ.head e) =
    let z : one (eqb (name_of u) (name_of s)) ≡ 1 =
    ap (λ v. one (eqb (name_of v) (name_of s))) (sym e) ∙ named_so (name_of s) in
    omega arith
mem_times s (u ∷ l) (Memᴰ.tail m) = omega (arith, mem_times s l m)

module _ (t : Chart) (e : names? t ≡ false) where
  at_most_once : (c : ℕ) → times_of c t ≤ 1
  at_most_once c = once_typed (sequentials_of t) (once t e) c

  typed_once : (c : ℕ) → c < length (charts_of t) → times_of c t ≡ 1
  typed_once c l =
      let u = chart_typed t e c l in
      let h = subst (λ d. 0 < times_of d t) u.2 (mem_times u.0 (sequentials_of t) u.1) in
      omega (arith, at_most_once c)

  -- ── the file of a chart ──

  abbrev F : File
  F = file_at (shape_for t) (body_for t)

  whole : Whole (λ c. times_of c t) 0 (lay_chart t 0)
  whole = chart-whole t (not_refused t e) 0

  -- the slaves are in another order
  slaves-total : (f : Slave → ℕ) → total f (slaves_of t) ≡ total f (lay_chart t 0).slaves
  slaves-total f =
      let l = (lay_chart t 0).slaves in
      let h = all_fit t e in
      total_sorted (λ s. s.chart) f named_charts (sorted_by (λ s. s.state) named_states l)
      (each_sorted (λ s. s.state) named_states l (each_of (λ s g. g.chart) h))
      ∙ total_sorted (λ s. s.state) f named_states l (each_of (λ s g. g.state) h)

  held_is : (c : ℕ) → held F c ≡ times_of c t
  unfolding held file_at shape_of trailer_for holds_by
  held_is c =
      tally-total (holds_by c) (node_at (shape_for t) (body_for t)) (nodes_of t) (λ j r m. nodes_are t e j r m)
      ∙ whole.held c

  named_is : (j : ℕ) → named F j ≡ under (length (nodes_of t) - 1) j
  unfolding named names file_at shape_of trailer_for names_by
  named_is j =
      let z : 0 + length (nodes_of t) - 1 ≡ length (nodes_of t) - 1 = omega arith in
      ap₂ ◌+◌
      (tally-total (λ s. one (same s.node j)) (slave_at (shape_for t) (body_for t)) (slaves_of t)
      (λ i r m. slave_is t i r m) ∙ slaves-total (λ s. one (same s.node j)))
      (tally-total (names_by j) (node_at (shape_for t) (body_for t)) (nodes_of t) (λ i r m. nodes_are t e i r m))
      ∙ omega (arith, whole.named j, ap one (le-ltb j 0 (omega arith)), ap (λ m. under m j) z)

  pub all_mastered : Each (Mastered 0 (nodes_of t)) (slaves_of t)
  all_mastered =
      let l = (lay_chart t 0).slaves in
      each_sorted (λ s. s.chart) named_charts (sorted_by (λ s. s.state) named_states l)
      (each_sorted (λ s. s.state) named_states l whole.mastered)

  -- the node that holds a chart is one only
  holds-one : (c i j : ℕ) → i < F.nodes → j < F.nodes → holds F i c ≡ true → holds F j c ≡ true → i ≡ j
  unfolding held
  holds-one c i j l m p q =
      ⊎_elim (λ z. z)
      (λ z. absurd (omega (
        arith,
        tally-two F.nodes (λ k. one (holds F k c)) i j l m z,
        ap one p,
        ap one q,
        held_is c,
        at_most_once c,
      )))
      (eq_or-not i j)

  holds_is : (c j : ℕ) (r : Node) → At (nodes_of t) j r → r.kind ≡ 0 → r.a ≡ c → holds F j c ≡ true
  unfolding file_at
  holds_is c j r m k a =
      let q = nodes_are t e j r m in
      ap₂ (λ x y. same x 0 && same y c) (ap (λ d. d.kind) q ∙ k) (ap (λ d. d.a) q ∙ a)
      ∙ ap₂ ◌&&◌ (same_refl 0) (same_refl c)

  master_above : (i j : ℕ) → i < F.slaves → j < F.nodes → F.kind j ≡ 0 → F.a j ≡ F.master i → F.node i < j
  unfolding file_at shape_of trailer_for
  master_above i j l m k a =
      let u = at_place (slaves_of t) i l in
      let q = slave_is t i u.0 u.1 in
      let h = each_at (slaves_of t) i u.0 all_mastered u.1 in
      let c = (slave_at (shape_for t) (body_for t) i).chart in
      let z = holds-one c h.place j (at-below (nodes_of t) h.place h.node h.at) m
      (holds_is c h.place h.node h.at h.kind (h.chart ∙ sym (ap (λ s. s.chart) q)))
      (ap₂ (λ x y. same x 0 && same y c) k a ∙ ap₂ ◌&&◌ (same_refl 0) (same_refl c)) in
      omega (arith, h.lower, ap (λ s. s.node) q)

  pub rule_10 : Rule10 F
  unfolding file_at shape_of trailer_for
  rule_10 =
      record {
        once = λ c l. held_is c ∙ typed_once c l;
        named_once = λ j l. named_is j ∙ ap one (lt-ltb j (length (nodes_of t) - 1) (omega arith));
        named-last = λ j q. named_is j ∙ ap one (le-ltb j (length (nodes_of t) - 1) (omega arith));
        master_higher = master_above;
      }

  pub naming_passes : naming? F ≡ false
  naming_passes = naming_is F rule_10
