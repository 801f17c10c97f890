-- The slaves of an accepted file: each has a master and a state of it (`slave-passes`, `state_below`), and they come by
-- chart, then state, which is one number (`key_of`) that rises (`climbing`).
use Rattle.std.specs.Prelude.{◌≡◌, true, ◌&&◌, not, List, ℕ, zero, suc, ◌≤◌, ◌<◌}
use Rattle.std.proofs.Common.{sym, subst, arith}
use Rattle.std.proofs.Math.Decide.{dec_lt}
use borrow.Author.Tests.{ltb-true, not-false}
use Rattle.std.proofs.Math.Dec.{ltb}
use Rattle.meaning.specs.Sums.Laws.{or_four, any-never}
use Rattle.meaning.specs.Meaning.{same}
use Rattle.meaning.specs.Laws.Bools.{same→≡, or_elim, and_l, and_r}
use Rattle.meaning.specs.File.{File, trailer, body_of, shape_of, chart_of, file_at, file_of}
use Rattle.meaning.specs.Check.{not_below, rising, in_order_at, slave?, slaves?, refusal_of}
use Rattle.meaning.specs.Check.Laws.{below, passed, charted}
use Rattle.accepted.specs.Tree.{Climbs, key_of}

-- ── numbers that rise ──

pub climbs_all : (n : ℕ) (k : ℕ → ℕ) → Climbs n k → (i j : ℕ) → i < j → j < n → k i < k j
climbs_all n k c i zero l m = absurd (omega arith)
climbs_all n k c i (suc j) l m = go (dec_lt i j) (λ b. climbs_all n k c i j b (omega arith))
  where
    go : Dec (i < j) → (i < j → k i < k j) → k i < k (suc j)
    go (yes b) f = let p = f b in let q = c j m in omega arith
    go (no b) f = let e : i ≡ j = omega arith in subst (λ z. k z < k (suc j)) (sym e) (c j m)

-- ── slaves ──

module _ (f : List ℕ) (e : refusal_of f ≡ 0) where
  abbrev F : File
  F = file_of f

  pub slave-passes : (i : ℕ) → i < F.slaves
      → (F.master i < F.charts) × (F.state i < (F.chart (F.master i)).states) × (in_order_at F i ≡ true)
  unfolding slaves? slave?
  slave-passes i l =
      let q = or_four (not_below (F.master i) F.charts) (not_below (F.state i) (F.chart (F.master i)).states)
      (not_below (F.node i) F.nodes) (not (in_order_at F i))
      (any-never F.slaves (slave? F) (passed f e).slaves i l) in
      (below _ _ q.0, below _ _ q.1, not-false (in_order_at F i) q.3)

  few_states : (c : ℕ) → c < F.charts → (F.chart c).states ≤ 16
  unfolding file_of file_at chart_of shape_of
  few_states c l = (charted (shape_of (trailer f)) (body_of f) (passed f e).charts c l).states

  pub state_below : (i : ℕ) → i < F.slaves → F.state i < 16
  state_below i l =
      let p = slave-passes i l in let q = few_states (F.master i) p.0 in let r = p.1 in omega arith

  pub climbing : Climbs F.slaves (key_of F)
  unfolding rising
  climbing i l =
      let a = state_below i (omega arith) in
      let b = state_below (suc i) l in
      or_elim (ltb (F.master i) (F.master (suc i)))
      (same (F.master i) (F.master (suc i)) && ltb (F.state i) (F.state (suc i))) _
      (λ u. let z = ltb-true (F.master i) (F.master (suc i)) u in omega arith)
      (λ u. let z = same→≡ (F.master i) (F.master (suc i)) (and_l _ _ u) in
      let y = ltb-true (F.state i) (F.state (suc i)) (and_r (same (F.master i) (F.master (suc i))) _ u) in
      omega arith)
      (slave-passes (suc i) l).2
