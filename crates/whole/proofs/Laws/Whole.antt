-- What the tree of an accepted file is made of. In this order: a sum over the whole, by nodes and slaves (`whole_sum`)
-- and by charts, nodes and slaves (`whole_weight`); as many nodes as the file has (`whole_nodes`); a sum over its
-- charts (`whole-charts`), each of which stands in it once (`whole-chart`); each slave record once (`whole-slave`), as
-- many as the file has (`whole-slaves`); what compositions feed back (`whole_fed`); each slave under its own master
-- (`whole_master`).
use Rattle.std.specs.Prelude.{◌≡◌, Bool, ◌&&◌, ◌||◌, cond}
use Rattle.std.proofs.Math.Path.{refl, ap}
use Rattle.std.proofs.Common.{sym, ◌∙◌}
use Rattle.std.proofs.Math.Bool.{true, false, or_comm}
use Prim.Native.Nat.{ℕ, zero, suc, ◌+◌, ◌-◌, ◌*◌, ◌≤◌, ◌<◌}
use native.Mathlib.Omega.{arith}
use Rattle.signals.specs.Mask.{bit}
use Rattle.signals.specs.Mask.Laws.{bit_union, bit-none, ext}
use Rattle.meaning.specs.Sums.{tally, one}
use Rattle.meaning.specs.Sums.Laws.{tally_cong, tally_zero, tally_add, tally_swap, tally_only, tally_scale, tally_ones}
use Rattle.meaning.specs.Meaning.{Set, ∅, same, Tree, Slaves, leaf, comp, hide, dec, nil, snoc}
use Rattle.meaning.specs.File.{File, by_kind, gather, whole, build, tree_of, whole_of}
use Rattle.meaning.specs.Check.{holds, held}
use Rattle.meaning.specs.Check.Nodes.{Sound}
use Rattle.meaning.specs.Rewriting.{union_up_to}
use Rattle.meaning.specs.Laws.Bools.{same_refl, same_≢, same→≡}
use Rattle.whole.specs.Weigh.{Weights, weight, weights, of_charts, of_slaves, every_node, nodes_in, charts_sum}
use Rattle.whole.specs.Weigh.{times_chart, times_slave, slaves_in, Owned, OwnedBy, fed_in, fed_in_all}
use Rattle.whole.proofs.Laws.Double.{pick, double, of_kind, node_weight, tree_additive}

once_below : (n a : ℕ) → a < n → tally n (λ i. one (same i a)) ≡ 1
once_below n a l =
    tally_only n (λ i. one (same i a)) a l (λ k _ d. ap one (same_≢ k a d)) ∙ ap one (same_refl a)

none_above : (n a : ℕ) → n ≤ a → tally n (λ i. one (same i a)) ≡ 0
none_above n a h = tally_zero n (λ i. one (same i a)) (λ k l. ap one (same_≢ k a (λ e. omega arith)))

-- what node j adds, where it holds no chart
abbrev pub part_weight : Weights → File → ℕ → ℕ
part_weight W F j = of_kind (F.kind j) 0 (W.composed (F.x j)) (W.hiding (F.x j) (F.y j))

module _ (F : File) (s : Sound F) (some : 0 < F.nodes) where
  -- ── sums ──

  pub whole_sum : (W : Weights)
      → weight W (whole_of F) ≡ tally F.nodes (node_weight W F) + tally F.slaves W.slave
  whole_sum W = double F s _ _ _ (tree_additive W F s) (F.nodes - 1) (omega arith)

  -- each chart is held by one node
  held-charts : (g : ℕ → ℕ) → tally F.nodes (λ j. g (F.a j) * one (same (F.kind j) 0)) ≡ tally F.charts g
  unfolding held
  held-charts g =
      tally_cong F.nodes _ _ at
      ∙ tally_swap F.nodes F.charts (λ c j. g c * one (holds F j c))
      ∙ tally_cong F.charts _ g
      (λ c l.
      tally_scale F.nodes (g c) (λ j. one (holds F j c)) ∙ ap (λ z. g c * z) (s.rule10.once c l) ∙ omega arith)
    where
      at : (j : ℕ) → j < F.nodes
          → g (F.a j) * one (same (F.kind j) 0) ≡ tally F.charts (λ c. g c * one (holds F j c))
      at j l = go (same (F.kind j) 0) refl
        where
          go : (b : Bool) → same (F.kind j) 0 ≡ b
              → g (F.a j) * one b ≡ tally F.charts (λ c. g c * one (b && same (F.a j) c))
          go true e =
              let h = pick F.charts (F.a j) g (s.chart_there j l (same→≡ (F.kind j) 0 e)) in omega arith
          go false e = let h = tally_zero F.charts (λ c. g c * 0) (λ c _. omega arith) in omega arith

  pub whole_weight : (W : Weights)
      → weight W (whole_of F)
      ≡ tally F.charts W.chart + tally F.nodes (part_weight W F) + tally F.slaves W.slave
  whole_weight W =
      whole_sum W
      ∙ ap (λ z. z + tally F.slaves W.slave)
      (tally_cong F.nodes _ _ (λ j _. apart (F.kind j) j)
      ∙ tally_add F.nodes (λ j. W.chart (F.a j) * one (same (F.kind j) 0)) (part_weight W F)
      ∙ ap (λ z. z + tally F.nodes (part_weight W F)) (held-charts W.chart))
    where
      apart : (k j : ℕ) → of_kind k (W.chart (F.a j)) (W.composed (F.x j)) (W.hiding (F.x j) (F.y j))
          ≡ W.chart (F.a j) * one (same k 0) + of_kind k 0 (W.composed (F.x j)) (W.hiding (F.x j) (F.y j))
      apart zero j = rw (same_refl 0) (omega arith)
      apart (suc zero) j = rw (same_≢ 1 0 (λ e. omega arith)) (omega arith)
      apart (suc (suc k)) j = rw (same_≢ (suc (suc k)) 0 (λ e. omega arith)) (omega arith)

  -- ── nodes ──

  pub whole_nodes : nodes_in (whole_of F) ≡ F.nodes
  whole_nodes =
      let h = whole_sum every_node in
      let a =
      tally_cong F.nodes (node_weight every_node F) (λ j. 1) (λ j _. always (F.kind j)) ∙ tally_ones F.nodes in
      let b = tally_zero F.slaves (λ i. 0) (λ i _. refl) in omega arith
    where
      always : (k : ℕ) → of_kind k 1 1 1 ≡ 1
      always zero = refl
      always (suc zero) = refl
      always (suc (suc k)) = refl

  no_part : (k : ℕ) → of_kind k 0 0 0 ≡ 0
  no_part zero = refl
  no_part (suc zero) = refl
  no_part (suc (suc k)) = refl

  no_parts : tally F.nodes (λ j. of_kind (F.kind j) 0 0 0) ≡ 0
  no_parts = tally_zero F.nodes _ (λ j _. no_part (F.kind j))

  -- ── charts ──

  pub whole-charts : (g : ℕ → ℕ) → charts_sum g (whole_of F) ≡ tally F.charts g
  whole-charts g =
      let h = whole_weight (of_charts g) in let a = no_parts in
      let b = tally_zero F.slaves (λ i. 0) (λ i _. refl) in omega arith

  pub whole-chart : (c : ℕ) → c < F.charts → times_chart c (whole_of F) ≡ 1
  whole-chart c l = whole-charts (λ d. one (same d c)) ∙ once_below F.charts c l

  pub whole_no_chart : (c : ℕ) → F.charts ≤ c → times_chart c (whole_of F) ≡ 0
  whole_no_chart c l = whole-charts (λ d. one (same d c)) ∙ none_above F.charts c l

  -- ── slaves ──

  pub slaves-sum : (g : ℕ → ℕ) → weight (of_slaves g) (whole_of F) ≡ tally F.slaves g
  slaves-sum g = let h = whole_sum (of_slaves g) in let a = no_parts in omega arith

  pub whole-slave : (i : ℕ) → i < F.slaves → times_slave i (whole_of F) ≡ 1
  whole-slave i l = slaves-sum (λ h. one (same h i)) ∙ once_below F.slaves i l

  pub whole_no_slave : (i : ℕ) → F.slaves ≤ i → times_slave i (whole_of F) ≡ 0
  whole_no_slave i l = slaves-sum (λ h. one (same h i)) ∙ none_above F.slaves i l

  pub whole-slaves : slaves_in (whole_of F) ≡ F.slaves
  whole-slaves = slaves-sum (λ i. 1) ∙ tally_ones F.slaves

-- ── feedback ──

abbrev positive : ℕ → Bool
positive zero = false
positive (suc m) = true

positive_add : (a b : ℕ) → positive (a + b) ≡ (positive a || positive b)
positive_add zero b = ap positive (let e : 0 + b ≡ b = omega arith in e)
positive_add (suc a) b = ap positive (let e : suc a + b ≡ suc (a + b) = omega arith in e)

positive-one : (b : Bool) → positive (one b) ≡ b
positive-one true = refl
positive-one false = refl

-- g of the set of each composition
abbrev of_composed : (Set → ℕ) → Weights
of_composed g = record { chart = λ c. 0; composed = g; hiding = λ x y. 0; slave = λ i. 0 }

-- a signal is fed back in a tree if some composition has it
module _ (n : ℕ) where
  abbrev having : Weights
  having = of_composed (λ x. one (bit x n))

  mutual
    unfolding fed_in weight

    fed_bit : (t : Tree) → bit (fed_in t) n ≡ positive (weight having t)
    fed_bit (leaf c) = bit-none n
    fed_bit (comp p q x) = rw (bit_union, bit_union, fed_bit p, fed_bit q, positive_add, positive_add, positive-one)
    fed_bit (hide p x y) = rw positive_add (fed_bit p)
    fed_bit (dec c ss) = rw positive_add (fed_bits ss)

    fed_bits : (ss : Slaves) → bit (fed_in_all ss) n ≡ positive (weights having ss)
    fed_bits nil = bit-none n
    fed_bits (snoc ss i t) = rw (bit_union, fed_bit t, fed_bits ss, positive_add, positive_add)

  union_bit : (k : ℕ) (f : ℕ → Set) → bit (union_up_to k f) n ≡ positive (tally k (λ j. one (bit (f j) n)))
  unfolding union_up_to tally
  union_bit zero f = bit-none n
  union_bit (suc k) f = rw (bit_union, union_bit k f, positive_add, positive-one) (or_comm _ (bit (f k) n))

module _ (F : File) (s : Sound F) (some : 0 < F.nodes) where
  pub whole_fed : fed_in (whole_of F) ≡ union_up_to F.nodes (λ j. cond (same (F.kind j) 1) (F.x j) ∅)
  whole_fed = ext _ _ at
    where
      own : (n k j : ℕ) → of_kind k 0 (one (bit (F.x j) n)) 0 ≡ one (bit (cond (same k 1) (F.x j) ∅) n)
      own n zero j = rw (same_≢ 0 1 (λ e. omega arith), bit-none)
      own n (suc zero) j = rw (same_refl 1)
      own n (suc (suc k)) j = rw (same_≢ (suc (suc k)) 1 (λ e. omega arith), bit-none)

      counts : (n : ℕ) → weight (having n) (whole_of F)
          ≡ tally F.nodes (λ j. one (bit (cond (same (F.kind j) 1) (F.x j) ∅) n))
      counts n =
          let h = whole_sum F s some (having n) in
          let a =
          tally_cong F.nodes _ (λ j. one (bit (cond (same (F.kind j) 1) (F.x j) ∅) n))
          (λ j _. own n (F.kind j) j) in
          let b = tally_zero F.slaves (λ i. 0) (λ i _. refl) in omega arith

      at : (n : ℕ)
          → bit (fed_in (whole_of F)) n ≡ bit (union_up_to F.nodes (λ j. cond (same (F.kind j) 1) (F.x j) ∅)) n
      at n = fed_bit n (whole_of F) ∙ ap positive (counts n) ∙ sym (union_bit n F.nodes _)

-- ── slaves under their master ──

module _ (F : File) where
  owned_whole : (c : ℕ) (ss : Slaves) → OwnedBy F.master c ss → Owned F.master (whole c ss)
  owned_whole c nil h = tt
  owned_whole c (snoc ss i t) h = h

  owned_gather : (g : ℕ → Tree) (c k : ℕ) → ((i : ℕ) → Owned F.master (g i))
      → OwnedBy F.master c (gather F.master g c k)
  unfolding gather
  owned_gather g c zero h = tt
  owned_gather g c (suc k) h = go (same (F.master k) c) refl (owned_gather g c k h)
    where
      go : (b : Bool) → same (F.master k) c ≡ b → OwnedBy F.master c (gather F.master g c k)
          → OwnedBy F.master c (cond b (snoc (gather F.master g c k) k (g k)) (gather F.master g c k))
      go true e r = (r, same→≡ (F.master k) c e, h k)
      go false e r = r

  owned : (f j : ℕ) → Owned F.master (build F f j)
  unfolding build
  owned zero j = tt
  owned (suc f) j = go (F.kind j) (owned f)
    where
      go : (k : ℕ) → ((i : ℕ) → Owned F.master (build F f i))
          → Owned F.master
          (by_kind k (whole (F.a j) (gather F.master (λ i. build F f (F.node i)) (F.a j) F.slaves))
          (comp (build F f (F.a j)) (build F f (F.b j)) (F.x j)) (hide (build F f (F.a j)) (F.x j) (F.y j)))
      go zero ih =
          owned_whole (F.a j) (gather F.master (λ i. build F f (F.node i)) (F.a j) F.slaves)
          (owned_gather (λ i. build F f (F.node i)) (F.a j) F.slaves (λ i. ih (F.node i)))
      go (suc zero) ih = (ih (F.a j), ih (F.b j))
      go (suc (suc k)) ih = ih (F.a j)

  pub whole_master : (j : ℕ) → Owned F.master (tree_of F j)
  unfolding tree_of
  whole_master j = owned (suc j) j
