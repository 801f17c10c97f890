-- Laws of the walk of 10: what one more slave or node adds to a count, and how large it can grow (`named_by`,
-- `held_by`);
-- the node that holds a chart which is held once (`holder_in`); that a byte holds each count, and one more node in the
-- tables (`Walked`); that 10 may be asked of the tables (`naming?`).
use Rattle.std.specs.Prelude.{◌≡◌, Bool, ◌&&◌, ◌||◌, cond, List, get_or, set, replicate}
use Rattle.std.proofs.Math.Path.{refl}
use Rattle.std.proofs.Common.{sym, ◌∙◌, arith}
use Rattle.std.proofs.Math.Bool.{true, false, or-false}
use Rattle.std.proofs.Math.Logic.{⊎_elim}
use Prim.Native.Nat.{ℕ, zero, suc, ◌+◌, ◌*◌, ◌≤◌, ◌<◌}
use Rattle.std.proofs.Math.Numerals.{add-one}
use Rattle.meaning.specs.Numbers.{most_charts, most_nodes}
use Rattle.meaning.specs.Sums.{any_up_to, tally, one}
use Rattle.meaning.specs.Sums.Laws.{any_cong, any-never, tally_most}
use Rattle.meaning.specs.Meaning.{same}
use Rattle.meaning.specs.File.{File}
use Rattle.meaning.specs.Check.{not_below, differ, names, named, holds, held, slaves?, naming?}
use Rattle.meaning.specs.Check.Laws.{alike, decided, eq_or-not}
use Rattle.meaning.specs.Check.Nodes.{slaves_there}
use Rattle.meaning.specs.Laws.Bools.{same_≢}
use Rattle.checks.specs.Walk.{Table, one_more}
use Rattle.checks.specs.Walk.Laws.{table_none, table_same, table-set, table_more}
use Rattle.naming.specs.Names.{named_by, held_by, holder_in, Walked, held_amiss, named_amiss, masters_amiss}

one_most : (b : Bool) → one b ≤ 1
one_most true = omega arith
one_most false = omega arith

module _ (F : File) where
  -- ── named_by ──

  pub named_none : (j : ℕ) → named_by F 0 0 j ≡ 0
  unfolding named_by tally
  named_none j = refl

  pub named-slave : (i j : ℕ) → named_by F (i + 1) 0 j ≡ one (same (F.node i) j) + named_by F i 0 j
  unfolding named_by tally
  named-slave i j = rw add-one (omega arith)

  named_node : (i k j : ℕ) → named_by F i (k + 1) j ≡ names F k j + named_by F i k j
  unfolding named_by tally
  named_node i k j = rw add-one (omega arith)

  -- what node k names, by its kind
  names₀ : (k j : ℕ) → F.kind k ≡ 0 → names F k j ≡ 0
  unfolding names same
  names₀ k j e = rw e

  names₁ : (k j : ℕ) → F.kind k ≡ 1 → names F k j ≡ one (same (F.b k) j) + one (same (F.a k) j)
  unfolding names same
  names₁ k j e = rw e (omega arith)

  names₂ : (k j : ℕ) → F.kind k ≡ 2 → names F k j ≡ one (same (F.a k) j)
  unfolding names same
  names₂ k j e = rw e (omega arith)

  names_most : (k j : ℕ) → names F k j ≤ 2
  unfolding names
  names_most k j =
      ⊎_elim
      (λ e. omega (arith, names₁ k j e, one_most (same (F.b k) j), one_most (same (F.a k) j)))
      (λ e. rw (same_≢ (F.kind k) 1 e) (omega (arith, one_most (same (F.kind k) 2 && same (F.a k) j))))
      (eq_or-not (F.kind k) 1)

  pub named_most : (i k j : ℕ) → named_by F i k j ≤ i + 2 * k
  unfolding named_by
  named_most i k j =
      omega (arith, tally_most 1 i _ (λ h _. one_most (same (F.node h) j)), tally_most 2 k _ (λ m _. names_most m j))

  -- ── heldBy ──

  held_none : (c : ℕ) → held_by F 0 c ≡ 0
  unfolding held_by tally
  held_none c = refl

  held_node : (k c : ℕ) → held_by F (k + 1) c ≡ one (holds F k c) + held_by F k c
  unfolding held_by tally
  held_node k c = rw add-one

  held_most : (k c : ℕ) → held_by F k c ≤ k
  unfolding held_by
  held_most k c = omega (arith, tally_most 1 k _ (λ m _. one_most (holds F m c)))

  -- ── holderIn ──

  holder_none : (c : ℕ) → holder_in F 0 c ≡ 0
  unfolding holder_in
  holder_none c = refl

  holder_node : (k c : ℕ) → holder_in F (k + 1) c ≡ cond (holds F k c) k (holder_in F k c)
  unfolding holder_in
  holder_node k c = rw add-one

  module _ (c : ℕ) (q : ℕ → Bool) where
    -- of a chart that is not held, and of one that is held once: what is asked of all that hold it
    holder_no : (k : ℕ) → held_by F k c ≡ 0 → any_up_to k (λ j. holds F j c && q j) ≡ false
    unfolding held_by tally any_up_to
    holder_no zero h = refl
    holder_no (suc k) h = go (holds F k c) h (holder_no k)
      where
        go : (b : Bool) → one b + held_by F k c ≡ 0
            → (held_by F k c ≡ 0 → any_up_to k (λ j. holds F j c && q j) ≡ false)
            → (any_up_to k (λ j. holds F j c && q j) || (b && q k)) ≡ false
        go true h r = absurd (omega arith)
        go false h r = rw (r (omega arith))

    holder_one : (k : ℕ) → held_by F k c ≡ 1 → any_up_to k (λ j. holds F j c && q j) ≡ q (holder_in F k c)
    unfolding held_by tally any_up_to holder_in
    holder_one zero h = absurd (omega arith)
    holder_one (suc k) h = go (holds F k c) h (holder_one k)
      where
        go : (b : Bool) → one b + held_by F k c ≡ 1
            → (held_by F k c ≡ 1 → any_up_to k (λ j. holds F j c && q j) ≡ q (holder_in F k c))
            → (any_up_to k (λ j. holds F j c && q j) || (b && q k)) ≡ q (cond b k (holder_in F k c))
        go true h r = rw (holder_no k (omega arith))
        go false h r = rw (r (omega arith)) (or-false (q (holder_in F k c)))

  -- ── Walked ──

  pub walked_none : (ns : List ℕ) → Table most_nodes (named_by F F.slaves 0) ns
      → Walked F 0 ns (replicate most_charts 0) (replicate most_charts 0)
  walked_none ns h = record {
    named_is = h;
    held_is = table_none most_charts _ held_none;
    holder_is = table_none most_charts _ holder_none;
  }

  holds₀ : (k c : ℕ) → F.kind k ≡ 0 → holds F k c ≡ same (F.a k) c
  unfolding same
  holds₀ k c e = rw e

  holds_not : (k c : ℕ) → (F.kind k ≡ 0 → ⊥) → holds F k c ≡ false
  holds_not k c e = rw (same_≢ (F.kind k) 0 e)

  module _ (k : ℕ) (ns hs os : List ℕ) (w : Walked F k ns hs os) where
    -- what has been counted so far
    pub walked_held : (c : ℕ) → c < most_charts → get_or hs c 0 ≤ k
    walked_held c l = rw (w.held_is.at c l) (held_most k c)

    pub walked_named : (j : ℕ) → j < most_nodes → get_or ns j 0 ≤ F.slaves + 2 * k
    walked_named j l = rw (w.named_is.at j l) (named_most F.slaves k j)

    -- and with the first name of node k
    first-named : (i : ℕ) → i < most_nodes
        → Table most_nodes (λ j. one (same i j) + named_by F F.slaves k j) (one_more ns i)
    first-named i l = table_more _ _ _ ns i w.named_is l (λ j. refl)

    pub walked_first : (i j : ℕ) → i < most_nodes → j < most_nodes → get_or (one_more ns i) j 0 ≤ F.slaves + 2 * k + 1
    walked_first i j l m = rw ((first-named i l).at j m) (omega (arith, one_most (same i j), named_most F.slaves k j))

    -- node k, by its kind
    pub walked₀ : F.kind k ≡ 0 → F.a k < most_charts → Walked F (k + 1) ns (one_more hs (F.a k)) (set os (F.a k) k)
    walked₀ e l =
        record {
          named_is =
              table_same _ _ _ ns w.named_is (λ j. named_node F.slaves k j ∙ rw (names₀ k j e) (omega arith));
          held_is = table_more _ _ _ hs _ w.held_is l (λ c. held_node k c ∙ rw (holds₀ k c e));
          holder_is = table-set _ _ _ os _ w.holder_is l k (λ c. holder_node k c ∙ rw (holds₀ k c e));
        }

    -- one that holds no chart
    module _ (e : F.kind k ≡ 0 → ⊥) (ms : List ℕ) (h : Table most_nodes (named_by F F.slaves (k + 1)) ms) where
      walked_not : Walked F (k + 1) ms hs os
      walked_not =
          record {
            named_is = h;
            held_is = table_same _ _ _ hs w.held_is (λ c. held_node k c ∙ rw (holds_not k c e) (omega arith));
            holder_is = table_same _ _ _ os w.holder_is (λ c. holder_node k c ∙ rw (holds_not k c e));
          }

    pub walked₁ : F.kind k ≡ 1 → F.a k < most_nodes → F.b k < most_nodes
        → Walked F (k + 1) (one_more (one_more ns (F.a k)) (F.b k)) hs os
    walked₁ e l m =
        walked_not (λ z. omega arith) _
        (table_more _ _ _ _ (F.b k) (first-named (F.a k) l) m
        (λ j. named_node F.slaves k j ∙ rw (names₁ k j e) (omega arith)))

    pub walked₂ : F.kind k ≡ 2 → F.a k < most_nodes → Walked F (k + 1) (one_more ns (F.a k)) hs os
    walked₂ e l =
        walked_not (λ z. omega arith) _
        (table_more _ _ _ ns (F.a k) w.named_is l (λ j. named_node F.slaves k j ∙ rw (names₂ k j e)))

  -- ── naming? ──

  module _ (ns hs os : List ℕ) (w : Walked F F.nodes ns hs os)
      (most : (F.charts ≤ most_charts) × (F.nodes ≤ most_nodes)) where
    held-asked : held_amiss F.charts hs ≡ any_up_to F.charts (λ c. differ (held F c) 1)
    unfolding held held_by
    held-asked = any_cong F.charts _ _ (λ c l. rw (w.held_is.at c (omega arith)))

    named-asked : named_amiss F.nodes ns
        ≡ any_up_to F.nodes (λ j. differ (named F j) (cond (same (suc j) F.nodes) 0 1))
    unfolding named named_by
    named-asked = any_cong F.nodes _ _ (λ j l. rw (w.named_is.at j (omega arith)))

    module _ (h : slaves? F ≡ false) where
      -- where each chart is held once
      masters_asked : any_up_to F.charts (λ c. differ (held F c) 1) ≡ false
          → masters_amiss F os
          ≡ any_up_to F.slaves (λ i. any_up_to F.nodes (λ j. holds F j (F.master i) && not_below (F.node i) j))
      unfolding held held_by
      masters_asked once =
          any_cong F.slaves _ _
          (λ i l.
          let m = (slaves_there F h i l).1 in
          let c = F.master i in
          let e : held F c ≡ 1 = alike _ _ (any-never F.charts (λ c. differ (held F c) 1) once c m) in
          rw (w.holder_is.at c (omega arith)) (sym (holder_one c (not_below (F.node i)) F.nodes e)))

      pub naming_asked : naming? F ≡ (held_amiss F.charts hs || named_amiss F.nodes ns || masters_amiss F os)
      unfolding naming?
      naming_asked =
          ⊎_elim
          (λ (a : held_amiss F.charts hs ≡ true). rw (← held-asked, a))
          (λ (a : held_amiss F.charts hs ≡ false).
          rw (← held-asked, ← named-asked, ← masters_asked (sym held-asked ∙ a)))
          (decided (held_amiss F.charts hs))
