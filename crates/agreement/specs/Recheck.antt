-- The rewritten file passes test 10 (RULES 3.2): each chart is held once, each node has one name except the last. The
-- names of all new nodes are summed node by node.
use Rattle.std.specs.Prelude.{◌≡◌, Bool, true, false, ◌&&◌, cond, ◌≢◌, List, [], ◌∷◌, ◌++◌, length, get_or}
use Rattle.std.proofs.Math.Path.{refl, ap, ap₂, subst}
use Rattle.std.proofs.Common.{sym, ◌∙◌, zero-add}
use Rattle.std.proofs.Math.Option.{none}
use Prim.Native.Nat.{ℕ, zero, suc, ◌+◌, ◌-◌, ◌≤◌, ◌<◌}
use Rattle.std.proofs.Math.Nat.{add-zero}
use native.Mathlib.Omega.{arith}
use Rattle.std.proofs.Math.Decide.{dec_lt}
use Rattle.meaning.specs.Meaning.{Set, ∅, same}
use Rattle.signals.specs.Mask.{◌∪◌}
use Rattle.meaning.specs.Laws.Bools.{same_refl, same→≡, same_comm, same→≢, same_≢, bool_eq}
use Rattle.meaning.specs.File.{File}
use Rattle.meaning.specs.Laws.Trees.{Ordered}
use Rattle.meaning.specs.Sums.{one, tally}
use Rattle.meaning.specs.Sums.Laws.{tally_cong, tally_zero, tally_add, tally_swap, tally-front, tally_only, tally_ge}
use Rattle.meaning.specs.Laws.Names.{Rule10}
use Rattle.meaning.specs.Check.{names, named, held}
use Rattle.meaning.specs.Rewriting.{calls_of, count, before, start, new_name, composed, made_by, made_for, laid}
use Rattle.meaning.specs.Rewriting.{new_node}
use Rattle.meaning.specs.Rewriting.{rewrite}
use Rattle.agreement.specs.Renamed.{count_less}
use Rattle.agreement.specs.Laid.{no_node, width_of, width, start_suc, start_mono, last-width, laid-length}
use Rattle.layout.specs.declared.record.Node.{Node}

-- ── sums ──

sum_l : (Node → ℕ) → List Node → ℕ
sum_l g [] = 0
sum_l g (n ∷ r) = g n + sum_l g r

sum_l_append : (g : Node → ℕ) (r s : List Node) → sum_l g (r ++ s) ≡ sum_l g r + sum_l g s
unfolding sum_l
sum_l_append g [] s = sym (zero-add (sum_l g s))
sum_l_append g (n ∷ r) s = let a = sum_l_append g r s in omega arith

tally_list : (g : Node → ℕ) (r : List Node) → tally (length r) (λ q. g (get_or r q no_node)) ≡ sum_l g r
unfolding sum_l tally
tally_list g [] = refl
tally_list g (n ∷ r) = tally-front (length r) (λ q. g (get_or (n ∷ r) q no_node)) ∙ ap (λ z. g n + z) (tally_list g r)

s20 : same 2 0 ≡ false
unfolding same
s20 = refl

s10 : same 1 0 ≡ false
unfolding same
s10 = refl

s01 : same 0 1 ≡ false
unfolding same
s01 = refl

s02 : same 0 2 ≡ false
unfolding same
s02 = refl

s12 : same 1 2 ≡ false
unfolding same
s12 = refl

s21 : same 2 1 ≡ false
unfolding same
s21 = refl

-- ── how often a node names p, and whether it holds c ──
nm : ℕ → Node → ℕ
nm p n = one (same n.kind 1 && same n.a p) + one (same n.kind 1 && same n.b p)
    + one (same n.kind 2 && same n.a p)

hd : ℕ → Node → ℕ
hd c n = one (same n.kind 0 && same n.a c)

module _ (F : File) (w : Ordered F) (r : Rule10 F)
    (there : (i : ℕ) → i < F.slaves → (F.node i < F.nodes) × (F.master i < F.charts)) where
  total : (g : Node → ℕ)
      → tally (start F F.nodes) (λ q. g (new_node F q)) ≡ tally F.nodes (λ j. sum_l g (made_for F j))
  unfolding laid sum_l tally
  total g = subst (λ z. tally z (λ q. g (new_node F q)) ≡ sum_l g (laid F F.nodes)) (laid-length F F.nodes)
      (tally_list g (laid F F.nodes))
      ∙ blocks F.nodes
    where
      blocks : (n : ℕ) → sum_l g (laid F n) ≡ tally n (λ j. sum_l g (made_for F j))
      blocks zero = refl
      blocks (suc n) = let a = sum_l_append g (laid F n) (made_for F n) in let b = blocks n in omega arith

  -- ── charts ──
  held-parts : (c d at i : ℕ) → sum_l (hd d) (composed F c at i) ≡ 0
  unfolding composed sum_l hd same
  held-parts c d at zero = refl
  held-parts c d at (suc i) = go (same (F.master i) c) (held-parts c d at i)
    where
      nd : Node
      nd = record {
        kind = 1;
        a = at + count F c i;
        b = new_name F (F.node i);
        x = (F.chart c).feedback ∪ calls_of F c;
        y = ∅;
      }

      go : (b : Bool) → sum_l (hd d) (composed F c at i) ≡ 0
          → sum_l (hd d) (cond b (composed F c at i ++ (nd ∷ [])) (composed F c at i)) ≡ 0
      go true e = sum_l_append (hd d) (composed F c at i) (nd ∷ []) ∙ ap (λ z. z + 0) e
      go false e = e

  held-block : (d j : ℕ) → sum_l (hd d) (made_for F j) ≡ one (same (F.kind j) 0 && same (F.a j) d)
  unfolding made_for sum_l hd
  held-block d j = go (F.kind j) (count F (F.a j) F.slaves) refl
    where
      go : (k s : ℕ) → F.kind j ≡ k → sum_l (hd d) (made_by F k s j) ≡ one (same k 0 && same (F.a j) d)
      go zero zero e = add-zero (one (same 0 0 && same (F.a j) d))
      go zero (suc s) e = ap (λ z. one (same 0 0 && same (F.a j) d) + z)
          (sum_l_append (hd d) (composed F (F.a j) (start F j) F.slaves) _
          ∙ ap₂ ◌+◌ (held-parts (F.a j) d (start F j) F.slaves) tail0)
          ∙ add-zero (one (same 0 0 && same (F.a j) d))
        where
          tail0 : hd d (record {
            kind = 2;
            a = start F j + suc s;
            b = 0;
            x = calls_of F (F.a j);
            y = calls_of F (F.a j);
          }) + 0 ≡ 0
          tail0 = rw s20
      go (suc zero) s e = rw s10
      go (suc (suc k)) s e = rw (s20, same_≢ (suc (suc k)) 0 (λ w. omega arith))

  held_new : (c : ℕ) → held (rewrite F) c ≡ held F c
  unfolding held hd
  held_new c = total (hd c)
      ∙ tally_cong F.nodes (λ j. sum_l (hd c) (made_for F j)) (λ j. one (same (F.kind j) 0 && same (F.a j) c))
      (λ j l. held-block c j)

  -- ── names ──
  block_unique : (j q j' q' : ℕ) → q < width F j → q' < width F j' → start F j + q ≡ start F j' + q' → j ≡ j'
  block_unique j q j' q' l l' e = go (dec_lt j j') (dec_lt j' j)
    where
      go : Dec (j < j') → Dec (j' < j) → j ≡ j'
      go (yes a) b = absurd (let m = start_mono F j' (suc j) a in let u = start_suc F j in omega arith)
      go (no a) (yes b) = absurd (let m = start_mono F j (suc j') b in let u = start_suc F j' in omega arith)
      go (no a) (no b) = omega arith

  -- the last of a madeFor
  end : ℕ → ℕ
  end j = before F (F.kind j) (count F (F.a j) F.slaves)

  ren_end : (j : ℕ) → (new_name F j ≡ start F j + end j) × (end j < width F j)
  unfolding new_name end
  ren_end j = (refl, (let e = last-width F (F.kind j) (count F (F.a j) F.slaves) in omega arith))

  ren_inj : (x y : ℕ) → new_name F x ≡ new_name F y → x ≡ y
  ren_inj x y e = block_unique x (end x) y (end y) (ren_end x).1 (ren_end y).1 (sym (ren_end x).0 ∙ e ∙ (ren_end y).0)

  same_ren : (x y : ℕ) → same (new_name F x) (new_name F y) ≡ same x y
  same_ren x y =
      bool_eq (same (new_name F x) (new_name F y)) (same x y) (λ e. rw (ren_inj x y (same→≡ _ _ e)) (same_refl y))
      (λ e. rw (same→≡ x y e) (same_refl (new_name F y)))

  -- a node inside a madeFor that is not its end is no node's new name
  not_end : (j q x : ℕ) → q < end j → start F j + q ≢ new_name F x
  not_end j q x l e = let a = ren_end j in let b = ren_end x in
      let z : j ≡ x = block_unique j q x (end x) (omega arith) b.1 (e ∙ b.0) in
      let c : end j ≡ end x = ap end z in let d : start F j ≡ start F x = ap (start F) z in omega arith

  end_is : (j s : ℕ) → F.kind j ≡ 0 → count F (F.a j) F.slaves ≡ suc s → end j ≡ suc (suc s)
  unfolding end
  end_is j s e f = ap₂ (before F) e f

  nm_parts : (j j₀ s i : ℕ) → F.kind j ≡ 0 → count F (F.a j) F.slaves ≡ suc s → i ≤ F.slaves
      → sum_l (nm (new_name F j₀)) (composed F (F.a j) (start F j) i)
      ≡ tally i (λ i. one (same (F.master i) (F.a j) && same (F.node i) j₀))
  unfolding composed sum_l tally nm
  nm_parts j j₀ s zero e f m = refl
  nm_parts j j₀ s (suc i) e f m = go (same (F.master i) (F.a j)) refl (nm_parts j j₀ s i e f (omega arith))
    where
      c : ℕ
      c = F.a j

      nd : Node
      nd = record {
        kind = 1;
        a = start F j + count F c i;
        b = new_name F (F.node i);
        x = (F.chart c).feedback ∪ calls_of F c;
        y = ∅;
      }

      nm_one : (a b : ℕ) → same a (new_name F j₀) ≡ false
          → one (same 1 1 && same a (new_name F j₀)) + one (same 1 1 && same b (new_name F j₀))
          + one (same 1 2 && same a (new_name F j₀))
          ≡ one (same b (new_name F j₀))
      nm_one a b x = rw (same_refl 1, s12, x) (omega arith)

      names-slave : same (F.master i) c ≡ true → nm (new_name F j₀) nd ≡ one (same (F.node i) j₀)
      names-slave p = let l = count_less F c i F.slaves m p in let u = end_is j s e f in
          let x : same (start F j + count F c i) (new_name F j₀) ≡ false =
          same_≢ _ _ (not_end j (count F c i) j₀ (omega arith)) in
          nm_one (start F j + count F c i) (new_name F (F.node i)) x ∙ ap one (same_ren (F.node i) j₀)

      go : (d : Bool) → same (F.master i) c ≡ d
          → sum_l (nm (new_name F j₀)) (composed F c (start F j) i)
          ≡ tally i (λ i. one (same (F.master i) c && same (F.node i) j₀))
          → sum_l (nm (new_name F j₀)) (cond d (composed F c (start F j) i ++ (nd ∷ [])) (composed F c (start F j) i))
          ≡ one (d && same (F.node i) j₀) + tally i (λ i. one (same (F.master i) c && same (F.node i) j₀))
      go true p h = let a = sum_l_append (nm (new_name F j₀)) (composed F c (start F j) i) (nd ∷ []) in
          let b = names-slave p in omega arith
      go false p h = h ∙ sym (zero-add _)

  nm_base : (p c : ℕ) → nm p (record { kind = 0; a = c; b = 0; x = ∅; y = ∅ }) ≡ 0
  unfolding nm
  nm_base p c = rw (s01, s02)

  nm_1 : (p a b : ℕ) (x y : Set)
      → nm p (record { kind = 1; a = a; b = b; x = x; y = y }) ≡ one (same a p) + one (same b p)
  unfolding nm
  nm_1 p a b x y = rw (same_refl 1, s12) (omega arith)

  nm_2 : (p a b : ℕ) (x y : Set) → nm p (record { kind = 2; a = a; b = b; x = x; y = y }) ≡ one (same a p)
  unfolding nm
  nm_2 p a b x y = rw (same_refl 2, s21) (omega arith)

  no_more : (k : ℕ) (X : ℕ → Bool) → same k 0 ≡ false → tally F.slaves (λ i. one (same k 0 && X i)) ≡ 0
  no_more k X e = tally_zero F.slaves _ (λ i l. ap (λ b. one (b && X i)) e)

  all_more : (X : ℕ → Bool) → tally F.slaves (λ i. one (same 0 0 && X i)) ≡ tally F.slaves (λ i. one (X i))
  all_more X = tally_cong F.slaves _ _ (λ i l. ap (λ b. one (b && X i)) (same_refl 0))

  nm_block : (j j₀ : ℕ) → j < F.nodes → sum_l (nm (new_name F j₀)) (made_for F j)
      ≡ names F j j₀
      + tally F.slaves (λ i. one (same (F.kind j) 0 && (same (F.master i) (F.a j) && same (F.node i) j₀)))
  unfolding made_for sum_l names
  nm_block j j₀ l = go (F.kind j) (count F (F.a j) F.slaves) refl refl
    where
      P : ℕ
      P = new_name F j₀

      hidden : ℕ → Node
      hidden s = record { kind = 2; a = start F j + suc s; b = 0; x = calls_of F (F.a j); y = calls_of F (F.a j) }

      go : (k s : ℕ) → F.kind j ≡ k → count F (F.a j) F.slaves ≡ s → sum_l (nm P) (made_by F k s j)
          ≡ one (same k 1 && same (F.a j) j₀) + one (same k 1 && same (F.b j) j₀) + one (same k 2 && same (F.a j) j₀)
          + tally F.slaves (λ i. one (same k 0 && (same (F.master i) (F.a j) && same (F.node i) j₀)))
      go zero zero e f = rw (nm_base P (F.a j), s01, s02)
          (let z = tally_zero F.slaves
          (λ i. one (same 0 0 && (same (F.master i) (F.a j) && same (F.node i) j₀))) none in omega arith)
        where
          none : (i : ℕ) → i < F.slaves → one (same 0 0 && (same (F.master i) (F.a j) && same (F.node i) j₀)) ≡ 0
          none i m = let a = tally_ge F.slaves (λ i. one (same (F.master i) (F.a j))) i m in
              law (same 0 0) (same (F.master i) (F.a j)) (same (F.node i) j₀) (omega arith)
            where
              law : (u v x : Bool) → one v ≡ 0 → one (u && (v && x)) ≡ 0
              law true true x h = absurd (omega arith)
              law true false x h = refl
              law false v x h = refl
      go zero (suc s) e f = rw (nm_base P (F.a j), s01, s02)
          (let a = sum_l_append (nm P) (composed F (F.a j) (start F j) F.slaves) (hidden s ∷ []) in
          let b = nm_parts j j₀ s F.slaves e f (omega arith) in
          let c = nm_2 P (start F j + suc s) 0 (calls_of F (F.a j)) (calls_of F (F.a j)) in
          let d = all_more (λ i. same (F.master i) (F.a j) && same (F.node i) j₀) in
          let u = end_is j s e f in
          let g : one (same (start F j + suc s) P) ≡ 0 =
          ap one (same_≢ (start F j + suc s) P (not_end j (suc s) j₀ (omega arith))) in omega arith)
      go (suc zero) s e f = let a = nm_1 P (new_name F (F.a j)) (new_name F (F.b j)) (F.x j) ∅ in
          let b = no_more 1 (λ i. same (F.master i) (F.a j) && same (F.node i) j₀) s10 in
          let c : one (same (new_name F (F.a j)) P) ≡ one (same (F.a j) j₀) = ap one (same_ren (F.a j) j₀) in
          let d : one (same (new_name F (F.b j)) P) ≡ one (same (F.b j) j₀) = ap one (same_ren (F.b j) j₀) in
          let g : one (same 1 1 && same (F.a j) j₀) ≡ one (same (F.a j) j₀) =
          ap (λ z. one (z && same (F.a j) j₀)) (same_refl 1) in
          let h : one (same 1 1 && same (F.b j) j₀) ≡ one (same (F.b j) j₀) =
          ap (λ z. one (z && same (F.b j) j₀)) (same_refl 1) in
          let i : one (same 1 2 && same (F.a j) j₀) ≡ 0 = ap (λ z. one (z && same (F.a j) j₀)) s12 in omega arith
      go (suc (suc k)) s e f = let a = nm_2 P (new_name F (F.a j)) 0 (F.x j) (F.y j) in
          let b = no_more (suc (suc k))
          (λ i. same (F.master i) (F.a j) && same (F.node i) j₀) (same_≢ _ _ (λ z. omega arith)) in
          let c : one (same (new_name F (F.a j)) P) ≡ one (same (F.a j) j₀) = ap one (same_ren (F.a j) j₀) in
          let two : suc (suc k) ≡ 2 = (let z = w.kinds j l in omega arith) in
          let g : one (same (suc (suc k)) 1 && same (F.a j) j₀) ≡ 0 =
          ap (λ z. one (z && same (F.a j) j₀)) (same_≢ (suc (suc k)) 1 (λ z. omega arith)) in
          let h : one (same (suc (suc k)) 1 && same (F.b j) j₀) ≡ 0 =
          ap (λ z. one (z && same (F.b j) j₀)) (same_≢ (suc (suc k)) 1 (λ z. omega arith)) in
          let i : one (same (suc (suc k)) 2 && same (F.a j) j₀) ≡ one (same (F.a j) j₀) =
          ap (λ z. one (z && same (F.a j) j₀)) (ap (λ z. same z 2) two ∙ same_refl 2) in omega arith

  -- a renamed node is named as often as before
  named_ren : (j₀ : ℕ) → named (rewrite F) (new_name F j₀) ≡ named F j₀
  unfolding named names nm held
  named_ren j₀ = ap₂ ◌+◌ (tally_zero 0 (λ i. one (same 0 (new_name F j₀))) (λ i l. absurd (omega arith)))
      (total (nm (new_name F j₀))
      ∙ tally_cong F.nodes (λ j. sum_l (nm (new_name F j₀)) (made_for F j))
      (λ j. names F j j₀ + tally F.slaves (λ i. B i j))
      (λ j l. nm_block j j₀ l)
      ∙ tally_add F.nodes (λ j. names F j j₀) (λ j. tally F.slaves (λ i. B i j))
      ∙ ap (λ z. tally F.nodes (λ j. names F j j₀) + z) (tally_swap F.nodes F.slaves B
      ∙ tally_cong F.slaves (λ i. tally F.nodes (λ j. B i j)) (λ i. one (same (F.node i) j₀))
      (λ i l. single_holder i l (same (F.node i) j₀) refl)))
      ∙ turn (tally F.nodes (λ j. names F j j₀)) (tally F.slaves (λ i. one (same (F.node i) j₀)))
    where
      turn : (a b : ℕ) → 0 + (a + b) ≡ b + a
      turn a b = omega arith

      B : ℕ → ℕ → ℕ
      B i j = one (same (F.kind j) 0 && (same (F.master i) (F.a j) && same (F.node i) j₀))

      law : (a b : Bool) → one (a && (b && true)) ≡ one (a && b)
      law true true = refl
      law true false = refl
      law false b = refl

      law0 : (a b : Bool) → one (a && (b && false)) ≡ 0
      law0 true true = refl
      law0 true false = refl
      law0 false b = refl

      held_is : (c : ℕ) → c < F.charts → tally F.nodes (λ k. one (same (F.kind k) 0 && same (F.a k) c)) ≡ 1
      held_is c l = r.once c l

      single_holder : (i : ℕ) → i < F.slaves → (x : Bool) → same (F.node i) j₀ ≡ x
          → tally F.nodes (λ j. B i j) ≡ one x
      single_holder i l true e =
          tally_cong F.nodes (λ j. B i j) (λ j. one (same (F.kind j) 0 && same (F.a j) (F.master i)))
          (λ j m. rw (e, same_comm (F.master i) (F.a j)) (law (same (F.kind j) 0) (same (F.a j) (F.master i))))
          ∙ held_is (F.master i) (there i l).1
      single_holder i l false e =
          tally_zero F.nodes (λ j. B i j) (λ j m. rw e (law0 (same (F.kind j) 0) (same (F.master i) (F.a j))))

  -- ── the nodes before the last that is made for a node ──
  both_zero : (a b : Bool) → (a ≡ true → b ≡ false) → one (a && b) ≡ 0
  both_zero true b h = ap one (h refl)
  both_zero false b h = refl

  -- of the first k slaves of c, one has q before it, if there are more than q
  none-with : (c q k : ℕ) → count F c k ≤ q → tally k (λ i. one (same (F.master i) c && same (count F c i) q)) ≡ 0
  none-with c q k h = tally_zero k _ (λ i l. both_zero (same (F.master i) c) (same (count F c i) q)
      (λ e. same_≢ (count F c i) q (λ z. let a = count_less F c i k l e in omega arith)))

  one-with : (c q k : ℕ) → q < count F c k → tally k (λ i. one (same (F.master i) c && same (count F c i) q)) ≡ 1
  unfolding tally
  one-with c q zero h = absurd (omega arith)
  one-with c q (suc k) h = go (same (F.master k) c) refl (same (count F c k) q) refl (λ h. one-with c q k h)
    where
      bits : tally (suc k) (λ i. one (same (F.master i) c)) ≡ one (same (F.master k) c) + count F c k
      bits = refl

      go : (d : Bool) → same (F.master k) c ≡ d → (x : Bool) → same (count F c k) q ≡ x
          → (q < count F c k → tally k (λ i. one (same (F.master i) c && same (count F c i) q)) ≡ 1)
          → one (d && x) + tally k (λ i. one (same (F.master i) c && same (count F c i) q)) ≡ 1
      go true p true z r = let a = same→≡ (count F c k) q z in let b = none-with c q k (omega arith) in omega arith
      go true p false z r = let a : count F c k ≢ q = same→≢ (count F c k) q z in
          let b : one (same (F.master k) c) ≡ 1 = ap one p in let d = bits in
          let f = r (omega arith) in omega arith
      go false p x z r = let b : one (same (F.master k) c) ≡ 0 = ap one p in let d = bits in
          let f = r (omega arith) in omega arith

  nm_parts_in : (p c at k : ℕ) → ((x : ℕ) → p ≢ new_name F x)
      → sum_l (nm p) (composed F c at k) ≡ tally k (λ i. one (same (F.master i) c && same (at + count F c i) p))
  unfolding composed sum_l tally
  nm_parts_in p c at zero h = refl
  nm_parts_in p c at (suc i) h = go (same (F.master i) c) (nm_parts_in p c at i h)
    where
      nd : Node
      nd = record {
        kind = 1;
        a = at + count F c i;
        b = new_name F (F.node i);
        x = (F.chart c).feedback ∪ calls_of F c;
        y = ∅;
      }

      go : (d : Bool)
          → sum_l (nm p) (composed F c at i) ≡ tally i (λ i. one (same (F.master i) c && same (at + count F c i) p))
          → sum_l (nm p) (cond d (composed F c at i ++ (nd ∷ [])) (composed F c at i))
          ≡ one (d && same (at + count F c i) p)
          + tally i (λ i. one (same (F.master i) c && same (at + count F c i) p))
      go true e = let a = sum_l_append (nm p) (composed F c at i) (nd ∷ []) in
          let b = nm_1 p (at + count F c i) (new_name F (F.node i)) ((F.chart c).feedback ∪ calls_of F c) ∅ in
          let z : one (same (new_name F (F.node i)) p) ≡ 0 =
          ap one (same_≢ (new_name F (F.node i)) p (λ u. h (F.node i) (sym u))) in omega arith
      go false e = e ∙ sym (zero-add _)

  module _ (j₀ q : ℕ) (l₀ : j₀ < F.nodes) (lq : q < end j₀) where
    P : ℕ
    P = start F j₀ + q

    no_ren : (x : ℕ) → P ≢ new_name F x
    unfolding P
    no_ren x = not_end j₀ q x lq

    elsewhere : (j z : ℕ) → j ≢ j₀ → z < width F j → start F j + z ≢ P
    unfolding P
    elsewhere j z h l e = h (block_unique j z j₀ q l (let a = ren_end j₀ in omega arith) e)

    out_block : (j : ℕ) → j < F.nodes → j ≢ j₀ → sum_l (nm P) (made_for F j) ≡ 0
    unfolding made_for sum_l
    out_block j l h = go (F.kind j) (count F (F.a j) F.slaves) refl refl
      where
        no : (a : ℕ) → a ≢ P → one (same a P) ≡ 0
        no a h = ap one (same_≢ a P h)

        go : (k s : ℕ) → F.kind j ≡ k → count F (F.a j) F.slaves ≡ s → sum_l (nm P) (made_by F k s j) ≡ 0
        go zero zero e f = rw (nm_base P (F.a j))
        go zero (suc s) e f = rw (nm_base P (F.a j))
            (let wd : width F j ≡ suc (suc (suc s)) = ap₂ (width_of F) e f in
            let a = sum_l_append (nm P) (composed F (F.a j) (start F j) F.slaves) (hidden s ∷ []) in
            let b = nm_parts_in P (F.a j) (start F j) F.slaves no_ren in
            let c = nm_2 P (start F j + suc s) 0 (calls_of F (F.a j)) (calls_of F (F.a j)) in
            let d =
            tally_zero F.slaves (λ i. one (same (F.master i) (F.a j) && same (start F j + count F (F.a j) i) P))
            (λ i m. both_zero (same (F.master i) (F.a j)) (same (start F j + count F (F.a j) i) P)
            (λ z. same_≢ _ _
            (elsewhere j (count F (F.a j) i) h (let y = count_less F (F.a j) i F.slaves m z in omega arith)))) in
            let g = no (start F j + suc s) (elsewhere j (suc s) h (omega arith)) in omega arith)
          where
            hidden : ℕ → Node
            hidden s = record { kind = 2; a = start F j + suc s; b = 0; x = calls_of F (F.a j); y = calls_of F (F.a j) }
        go (suc zero) s e f = let a = nm_1 P (new_name F (F.a j)) (new_name F (F.b j)) (F.x j) ∅ in
            let b = no (new_name F (F.a j)) (λ u. no_ren (F.a j) (sym u)) in
            let c = no (new_name F (F.b j)) (λ u. no_ren (F.b j) (sym u)) in
            omega arith
        go (suc (suc k)) s e f = let a = nm_2 P (new_name F (F.a j)) 0 (F.x j) (F.y j) in
            let b = no (new_name F (F.a j)) (λ u. no_ren (F.a j) (sym u)) in omega arith

    in_block : sum_l (nm P) (made_for F j₀) ≡ 1
    unfolding made_for sum_l end P
    in_block = go (F.kind j₀) (count F (F.a j₀) F.slaves) refl refl lq
      where
        go : (k s : ℕ) → F.kind j₀ ≡ k → count F (F.a j₀) F.slaves ≡ s → q < before F k s
            → sum_l (nm P) (made_by F k s j₀) ≡ 1
        go zero zero e f l = absurd (omega arith)
        go zero (suc s) e f l = rw (nm_base P (F.a j₀))
            (let a = sum_l_append (nm P) (composed F (F.a j₀) (start F j₀) F.slaves) (hidden s ∷ []) in
            let b = nm_parts_in P (F.a j₀) (start F j₀) F.slaves no_ren in
            let c = nm_2 P (start F j₀ + suc s) 0 (calls_of F (F.a j₀)) (calls_of F (F.a j₀)) in
            let d = tally_cong F.slaves
            (λ i. one (same (F.master i) (F.a j₀) && same (start F j₀ + count F (F.a j₀) i) P))
            (λ i. one (same (F.master i) (F.a j₀) && same (count F (F.a j₀) i) q))
            (λ i m. ap (λ z. one (same (F.master i) (F.a j₀) && z)) (shift (count F (F.a j₀) i))) in
            let g : one (same (start F j₀ + suc s) P) ≡ one (same (suc s) q) = ap one (shift (suc s)) in
            let x = cases (dec_lt q (suc s)) in omega arith)
          where
            hidden : ℕ → Node
            hidden s =
                record { kind = 2; a = start F j₀ + suc s; b = 0; x = calls_of F (F.a j₀); y = calls_of F (F.a j₀) }

            shift : (z : ℕ) → same (start F j₀ + z) P ≡ same z q
            shift z = bool_eq (same (start F j₀ + z) P) (same z q)
                (λ u. let v = same→≡ (start F j₀ + z) P u in let y : z ≡ q = omega arith in rw y (same_refl q))
                (λ u. rw (same→≡ z q u) (same_refl (start F j₀ + q)))

            cases : Dec (q < suc s)
                → tally F.slaves (λ i. one (same (F.master i) (F.a j₀) && same (count F (F.a j₀) i) q))
                + one (same (suc s) q) ≡ 1
            cases (yes v) = let y = one-with (F.a j₀) q F.slaves (omega arith) in
                let z : one (same (suc s) q) ≡ 0 = ap one (same_≢ (suc s) q (λ u. omega arith)) in omega arith
            cases (no v) = let y = none-with (F.a j₀) q F.slaves (omega arith) in let o : suc s ≡ q = omega arith in
                let z : one (same (suc s) q) ≡ 1 = ap one (ap (λ u. same u q) o ∙ same_refl q) in omega arith
        go (suc k) s e f l = absurd (omega arith)

    named_in : named (rewrite F) P ≡ 1
    unfolding named names nm
    named_in = ap₂ ◌+◌ (tally_zero 0 (λ i. one (same 0 P)) (λ i l. absurd (omega arith)))
        (total (nm P) ∙ tally_only F.nodes (λ j. sum_l (nm P) (made_for F j)) j₀ l₀ out_block ∙ in_block)

  -- every new node stands in a madeFor
  locate : (n p : ℕ) → p < start F n → (j : ℕ) × (q : ℕ) × (j < n) × (q < width F j) × (p ≡ start F j + q)
  unfolding start
  locate zero p l = absurd (omega arith)
  locate (suc n) p l = go (dec_lt p (start F n)) (λ h. locate n p h)
    where
      go : Dec (p < start F n) → (p < start F n → (j : ℕ) × (q : ℕ) × (j < n) × (q < width F j) × (p ≡ start F j + q))
          → (j : ℕ) × (q : ℕ) × (j < suc n) × (q < width F j) × (p ≡ start F j + q)
      go (yes h) rec = let u = rec h in (u.0, u.1, (let v = u.2 in omega arith), u.3, u.4)
      go (no h) rec = (n, p - start F n, omega arith, (let s = start_suc F n in omega arith), omega arith)

  pub rule10_r : Rule10 (rewrite F)
  unfolding end P start
  rule10_r = record {
    once = λ c l. held_new c
        ∙ r.once c l;
    named_once = once';
    named-last = last';
    master_higher = λ i j m l e q. absurd (omega arith);
  }
    where
      top : (j : ℕ) → suc (new_name F j) ≡ start F (suc j)
      top j = let a = ren_end j in let b = last-width F (F.kind j) (count F (F.a j) F.slaves) in
          let c = start_suc F j in omega arith

      -- a new node is a block's end, or inside it
      place : (p : ℕ) → p < start F F.nodes → (j : ℕ) × (q : ℕ) × (j < F.nodes) × (q ≤ end j) × (p ≡ start F j + q)
      place p l = let u = locate F.nodes p l in (u.0, u.1, u.2, endw u.0 u.1 u.3, u.4)
        where
          endw : (j q : ℕ) → q < width F j → q ≤ end j
          endw j q l = let b = last-width F (F.kind j) (count F (F.a j) F.slaves) in omega arith

      once' : (p : ℕ) → suc p < start F F.nodes → named (rewrite F) p ≡ 1
      once' p l = let u = place p (omega arith) in go u.0 u.1 u.2 u.3 u.4 (dec_lt u.1 (end u.0))
        where
          go : (j q : ℕ) → j < F.nodes → q ≤ end j → p ≡ start F j + q → Dec (q < end j) → named (rewrite F) p ≡ 1
          go j q m h e (yes k) = ap (named (rewrite F)) e ∙ named_in j q m k
          go j q m h e (no k) = let a = ren_end j in let b = top j in let z : p ≡ new_name F j = omega arith in
              ap (named (rewrite F)) z ∙ named_ren j
              ∙ r.named_once j (inner (dec_lt (suc j) F.nodes))
            where
              inner : Dec (suc j < F.nodes) → suc j < F.nodes
              inner (yes d) = d
              inner (no d) = absurd (let x : suc j ≡ F.nodes = omega arith in let y = ap (start F) x in
                  let a = ren_end j in let b = top j in
                  omega arith)

      last' : (p : ℕ) → suc p ≡ start F F.nodes → named (rewrite F) p ≡ 0
      last' p e = go F.nodes refl
        where
          go : (n : ℕ) → F.nodes ≡ n → named (rewrite F) p ≡ 0
          go zero x = absurd (let y : start F F.nodes ≡ 0 = ap (start F) x in omega arith)
          go (suc j) x = let y : start F F.nodes ≡ start F (suc j) = ap (start F) x in let b = top j in
              let z : p ≡ new_name F j = omega arith in
              ap (named (rewrite F)) z ∙ named_ren j ∙ r.named-last j (sym x)
