-- The double count, over any value S of nodes that is what a node adds by itself, the S of the nodes that it names and,
-- of a node that holds a chart, that of its slaves (`Additive`). Summed over all nodes, the S of each node but the last
-- stands on both sides, for it is named once; so S of the last is the sum of what nodes and slaves add (`double`). In
-- this order: sums that pick a place; the count; that the weight of a node's tree is such a value (`tree_additive`).
use Rattle.std.specs.Prelude.{◌≡◌, Bool, true, false, ◌&&◌, cond}
use Rattle.std.proofs.Math.Path.{refl, sym, ap, ap₂}
use Rattle.std.proofs.Common.{◌∙◌}
use Prim.Native.Nat.{ℕ, zero, suc, ◌+◌, ◌*◌, ◌<◌}
use Rattle.std.proofs.Math.Nat.{mul-add}
use native.Mathlib.Omega.{arith}
use Rattle.meaning.specs.Sums.{tally, one}
use Rattle.meaning.specs.Sums.Laws.{tally_cong, tally_zero, tally_add, tally_swap, tally_only, tally_scale}
use Rattle.meaning.specs.Meaning.{same, Tree, Slaves, nil, snoc}
use Rattle.meaning.specs.File.{File, gather, whole, tree_of}
use Rattle.meaning.specs.Check.{names, named, holds, held}
use Rattle.meaning.specs.Check.Nodes.{Sound}
use Rattle.meaning.specs.Laws.Bools.{same_refl, same_≢, same_comm}
use Rattle.meaning.specs.Laws.Trees.{tree₀, tree₁, tree₂}
use Rattle.whole.specs.Weigh.{Weights, weight, weights}

-- ── sums that pick a place ──

pub pick : (n a : ℕ) (g : ℕ → ℕ) → a < n → tally n (λ i. g i * one (same a i)) ≡ g a
pick n a g l =
    tally_only n (λ i. g i * one (same a i)) a l
    (λ k m d. ap (λ b. g k * one b) (same_≢ a k (λ e. d (sym e))) ∙ omega arith)
    ∙ ap (λ b. g a * one b) (same_refl a)
    ∙ omega arith

module _ (F : File) (s : Sound F) where
  -- ── the count ──

  -- S of a node is made of what the node adds, of S of the nodes that it names, and of its slaves
  pub record Additive (own extra S : ℕ → ℕ) : Type 0 where
    pub at : (j : ℕ) → j < F.nodes
        → S j
        ≡ own j
        + (tally F.nodes (λ i. S i * names F j i)
        + tally F.slaves (λ i. (extra i + S (F.node i)) * one (holds F j (F.master i))))

  module _ (own extra S : ℕ → ℕ) (r : Additive own extra S) where
    -- S of what nodes name, over all nodes
    by_nodes : tally F.nodes (λ j. tally F.nodes (λ i. S i * names F j i))
        ≡ tally F.nodes (λ i. S i * tally F.nodes (λ j. names F j i))
    by_nodes =
        tally_swap F.nodes F.nodes (λ i j. S i * names F j i)
        ∙ tally_cong F.nodes _ _ (λ i _. tally_scale F.nodes (S i) (λ j. names F j i))

    -- each slave has one master, held by one node
    by_masters : tally F.nodes
        (λ j. tally F.slaves (λ i. (extra i + S (F.node i)) * one (holds F j (F.master i))))
        ≡ tally F.slaves extra + tally F.slaves (λ i. S (F.node i))
    unfolding held
    by_masters =
        tally_swap F.nodes F.slaves (λ i j. (extra i + S (F.node i)) * one (holds F j (F.master i)))
        ∙ tally_cong F.slaves _ _
        (λ i l.
        tally_scale F.nodes (extra i + S (F.node i)) (λ j. one (holds F j (F.master i)))
        ∙ ap (λ z. (extra i + S (F.node i)) * z) (s.rule10.once (F.master i) (s.node-there i l).1)
        ∙ omega arith)
        ∙ tally_add F.slaves extra (λ i. S (F.node i))

    -- S of what slaves name, over all slaves
    by-slaves : tally F.slaves (λ i. S (F.node i))
        ≡ tally F.nodes (λ j. S j * tally F.slaves (λ i. one (same (F.node i) j)))
    by-slaves =
        tally_cong F.slaves _ _ (λ i l. sym (pick F.nodes (F.node i) S (s.node-there i l).0))
        ∙ tally_swap F.slaves F.nodes (λ j i. S j * one (same (F.node i) j))
        ∙ tally_cong F.nodes _ _ (λ j _. tally_scale F.slaves (S j) (λ i. one (same (F.node i) j)))

    -- each node is counted as often as it is named
    by_name : tally F.slaves (λ i. S (F.node i)) + tally F.nodes (λ j. tally F.nodes (λ i. S i * names F j i))
        ≡ tally F.nodes (λ j. S j * named F j)
    unfolding named
    by_name =
        ap₂ ◌+◌ by-slaves by_nodes
        ∙ sym (tally_add F.nodes (λ j. S j * tally F.slaves (λ i. one (same (F.node i) j)))
        (λ j. S j * tally F.nodes (λ k. names F k j)))
        ∙ tally_cong F.nodes _ _
        (λ j _.
        sym (mul-add (S j) (tally F.slaves (λ i. one (same (F.node i) j))) (tally F.nodes (λ k. names F k j))))

    -- that is once, but for the last
    by_last : (last : ℕ) → suc last ≡ F.nodes → tally F.nodes (λ j. S j * named F j) ≡ tally last S
    unfolding tally
    by_last last e =
        let z : S last * named F last ≡ 0 = ap (λ z. S last * z) (s.rule10.named-last last e) ∙ omega arith in
        let r : tally last (λ j. S j * named F j) ≡ tally last S =
        tally_cong last _ S (λ j l. ap (λ z. S j * z) (s.rule10.named_once j (omega arith)) ∙ omega arith) in
        ap (λ n. tally n (λ j. S j * named F j)) (sym e) ∙ omega arith

    summed : tally F.nodes S
        ≡ tally F.nodes own
        + (tally F.nodes (λ j. tally F.nodes (λ i. S i * names F j i))
        + tally F.nodes (λ j. tally F.slaves (λ i. (extra i + S (F.node i)) * one (holds F j (F.master i)))))
    summed =
        tally_cong F.nodes S _ r.at
        ∙ tally_add F.nodes own _
        ∙ ap (λ z. tally F.nodes own + z) (tally_add F.nodes _ _)

    last-left : (last : ℕ) → suc last ≡ F.nodes → tally F.nodes S ≡ S last + tally last S
    unfolding tally
    last-left last e = ap (λ n. tally n S) (sym e)

    pub double : (last : ℕ) → suc last ≡ F.nodes → S last ≡ tally F.nodes own + tally F.slaves extra
    double last e =
        let a = summed in let b = by_masters in let c = by_name in let d = by_last last e in let f = last-left last e in
        omega arith

-- ── the weight of a node's tree ──

-- one of three weights, by a node's kind (RULES 2.6)
abbrev pub of_kind : ℕ → ℕ → ℕ → ℕ → ℕ
of_kind zero p q r = p
of_kind (suc zero) p q r = q
of_kind (suc (suc k)) p q r = r

-- what node j adds by itself
abbrev pub node_weight : Weights → File → ℕ → ℕ
node_weight W F j = of_kind (F.kind j) (W.chart (F.a j)) (W.composed (F.x j)) (W.hiding (F.x j) (F.y j))

weights_gather : (W : Weights) (master : ℕ → ℕ) (g : ℕ → Tree) (c k : ℕ)
    → weights W (gather master g c k) ≡ tally k (λ i. (W.slave i + weight W (g i)) * one (same (master i) c))
unfolding gather weight tally
weights_gather W master g c zero = refl
weights_gather W master g c (suc k) = go (same (master k) c) (weights_gather W master g c k)
  where
    rest : Slaves
    rest = gather master g c k

    go : (b : Bool) → weights W rest ≡ tally k (λ i. (W.slave i + weight W (g i)) * one (same (master i) c))
        → weights W (cond b (snoc rest k (g k)) rest)
        ≡ (W.slave k + weight W (g k)) * one b + tally k (λ i. (W.slave i + weight W (g i)) * one (same (master i) c))
    go true h = omega arith
    go false h = omega arith

weight_whole : (W : Weights) (c : ℕ) (ss : Slaves) → weight W (whole c ss) ≡ W.chart c + weights W ss
unfolding weight
weight_whole W c nil = omega arith
weight_whole W c (snoc ss i t) = refl

behind : (n : ℕ) → n + 0 ≡ n
behind n = omega arith

ahead : (n : ℕ) → 0 + 0 + n ≡ n
ahead n = omega arith

module _ (W : Weights) (F : File) (s : Sound F) where
  -- the weight of the tree of node j
  abbrev tree_weight : ℕ → ℕ
  tree_weight j = weight W (tree_of F j)

  -- what it names weighs, and what the slaves of the chart that it holds weigh
  abbrev named_by : ℕ → ℕ
  named_by j = tally F.nodes (λ i. tree_weight i * names F j i)

  abbrev held_by : ℕ → ℕ
  held_by j = tally F.slaves (λ i. (W.slave i + tree_weight (F.node i)) * one (holds F j (F.master i)))

  none-held : (j k : ℕ) → F.kind j ≡ suc k → held_by j ≡ 0
  none-held j k e =
      tally_zero F.slaves _
      (λ i _.
      ap (λ b. (W.slave i + tree_weight (F.node i)) * one (b && same (F.a j) (F.master i)))
      (same_≢ (F.kind j) 0 (λ z. omega arith)) ∙ omega arith)

  held_all : (j : ℕ) → F.kind j ≡ 0
      → held_by j ≡ tally F.slaves (λ i. (W.slave i + tree_weight (F.node i)) * one (same (F.master i) (F.a j)))
  held_all j e =
      tally_cong F.slaves _ _
      (λ i _. ap (λ b. (W.slave i + tree_weight (F.node i)) * one b)
      (ap (λ z. same z 0 && same (F.a j) (F.master i)) e
      ∙ ap (λ b. b && same (F.a j) (F.master i)) (same_refl 0)
      ∙ same_comm (F.a j) (F.master i)))

  named₀ : (j : ℕ) → F.kind j ≡ 0 → named_by j ≡ 0
  unfolding names
  named₀ j e =
      tally_zero F.nodes _
      (λ i _. rw (e, same_≢ 0 1 (λ z. omega arith), same_≢ 0 2 (λ z. omega arith)) (omega arith))

  named₁ : (j : ℕ) → j < F.nodes → F.kind j ≡ 1 → named_by j ≡ tree_weight (F.a j) + tree_weight (F.b j)
  unfolding names
  named₁ j l e = let h = s.ordered.lower₁ j l e in
      tally_cong F.nodes _ (λ i. tree_weight i * one (same (F.a j) i) + tree_weight i * one (same (F.b j) i))
      (λ i _.
      rw (e, same_refl 1, same_≢ 1 2 (λ z. omega arith))
      (ap (λ z. tree_weight i * z) (behind _) ∙ mul-add (tree_weight i) (one (same (F.a j) i)) (one (same (F.b j) i))))
      ∙ tally_add F.nodes _ _
      ∙ ap₂ ◌+◌ (pick F.nodes (F.a j) tree_weight (omega arith)) (pick F.nodes (F.b j) tree_weight (omega arith))

  named₂ : (j : ℕ) → j < F.nodes → F.kind j ≡ 2 → named_by j ≡ tree_weight (F.a j)
  unfolding names
  named₂ j l e = let h = s.ordered.lower₂ j l e in
      tally_cong F.nodes _ (λ i. tree_weight i * one (same (F.a j) i))
      (λ i _. rw (e, same_refl 2, same_≢ 2 1 (λ z. omega arith)) (ap (λ z. tree_weight i * z) (ahead _)))
      ∙ pick F.nodes (F.a j) tree_weight (omega arith)

  node_weighs : (j : ℕ) → j < F.nodes → tree_weight j ≡ node_weight W F j + (named_by j + held_by j)
  unfolding weight
  node_weighs j l = go (F.kind j) refl
    where
      go : (k : ℕ) → F.kind j ≡ k
          → tree_weight j
          ≡ of_kind k (W.chart (F.a j)) (W.composed (F.x j)) (W.hiding (F.x j) (F.y j)) + (named_by j + held_by j)
      go zero e =
          let t = ap (weight W) (tree₀ F s.ordered j l e)
          ∙ weight_whole W (F.a j) (gather F.master (λ i. tree_of F (F.node i)) (F.a j) F.slaves) in
          let g = weights_gather W F.master (λ i. tree_of F (F.node i)) (F.a j) F.slaves in
          let a = named₀ j e in let b = held_all j e in omega arith
      go (suc zero) e =
          let t = ap (weight W) (tree₁ F s.ordered j l e) in
          let a = named₁ j l e in let b = none-held j 0 e in omega arith
      go (suc (suc k)) e =
          let e₂ : F.kind j ≡ 2 = (let m = s.ordered.kinds j l in omega arith) in
          let t = ap (weight W) (tree₂ F s.ordered j l e₂) in
          let a = named₂ j l e₂ in let b = none-held j (suc k) e in omega arith

  pub tree_additive : Additive F s (node_weight W F) W.slave tree_weight
  tree_additive = record { at = node_weighs }
