-- The nodes of the rewritten file, laid down in order. In this order: how many are made for each node, and where they
-- begin; what stands at a place; so they are nodes as Renamed asks for (`nodes_r`); each names lower ones
-- (`ordered_r`).
use Rattle.std.specs.Prelude.{◌≡◌, Bool, cond, ◌≢◌, List, [], ◌∷◌, ◌++◌}
use Rattle.std.proofs.Math.Path.{refl, sym, ap, ap₂}
use Rattle.std.proofs.Common.{◌∙◌, subst, subst₂, add-zero, zero-add}
use Rattle.std.proofs.Math.Bool.{true, false}
use Rattle.std.proofs.lemmas.Bool.{false≢true}
use Prim.Native.Nat.{ℕ, zero, suc, ◌+◌, ◌≤◌, ◌<◌}
use native.Mathlib.Omega.{arith}
use Rattle.std.proofs.Math.ListN.{length, get_or, length-append, get_or-append}
use Rattle.std.proofs.Math.Seq.{get_or-append-add}
use Rattle.std.proofs.lemmas.List.{get_or_at}
use Rattle.meaning.specs.Meaning.{Set, ∅, same}
use Rattle.signals.specs.Mask.{◌∪◌}
use Rattle.layout.specs.declared.record.Node.{Node}
use Rattle.meaning.specs.Laws.Bools.{same_refl, same→≡, same→≢}
use Rattle.meaning.specs.Rewriting.{calls_of, count, before, start, new_name, composed, made_by, made_for, laid}
use Rattle.meaning.specs.Rewriting.{new_node}
use Rattle.meaning.specs.Rewriting.{rewrite}
use Rattle.meaning.specs.File.{File}
use Rattle.meaning.specs.Laws.Trees.{Ordered}
use Rattle.meaning.specs.Sums.{one, tally}
use Rattle.agreement.specs.Renamed.{count_less, NodesR}

-- what stands past the last node
abbrev pub no_node : Node
no_node = record { kind = 0; a = 0; b = 0; x = ∅; y = ∅ }

module _ (F : File) where
  -- how many nodes are made for a node: kind, and the slaves of its chart
  abbrev pub width_of : ℕ → ℕ → ℕ
  width_of k s = suc (before F k s)

  -- the same of node j
  abbrev pub width : ℕ → ℕ
  width j = width_of (F.kind j) (count F (F.a j) F.slaves)

  pub start_suc : (j : ℕ) → start F (suc j) ≡ start F j + width j
  unfolding start
  start_suc j = refl

  pub start_mono : (n j : ℕ) → j ≤ n → start F j ≤ start F n
  start_mono zero j l = let z : j ≡ 0 = omega arith in rw z (omega arith)
  start_mono (suc n) j l = go (same j (suc n)) refl (λ h. start_mono n j h)
    where
      go : (b : Bool) → same j (suc n) ≡ b → (j ≤ n → start F j ≤ start F n) → start F j ≤ start F (suc n)
      go true e r = rw (same→≡ j (suc n) e) (omega arith)
      go false e r = let z : j ≢ suc n = same→≢ j (suc n) e in let y = r (omega arith) in
          let u = start_suc n in omega arith

  pub inside : (n j q : ℕ) → j < n → q < width j → start F j + q < start F n
  inside n j q l h = let a = start_mono n (suc j) l in let u = start_suc j in omega arith

  pub last-width : (k s : ℕ) → suc (before F k s) ≡ width_of k s
  last-width zero zero = refl
  last-width zero (suc s) = refl
  last-width (suc k) s = refl

  pub ren_inside : (n j : ℕ) → j < n → new_name F j < start F n
  unfolding new_name
  ren_inside n j l = inside n j (before F (F.kind j) (count F (F.a j) F.slaves)) l
      (let e = last-width (F.kind j) (count F (F.a j) F.slaves) in omega arith)

  pub parts-length : (c at k : ℕ) → length (composed F c at k) ≡ count F c k
  unfolding composed tally
  parts-length c at zero = refl
  parts-length c at (suc i) = go (same (F.master i) c) (parts-length c at i)
    where
      nd : Node
      nd = record {
        kind = 1;
        a = at + count F c i;
        b = new_name F (F.node i);
        x = (F.chart c).feedback ∪ calls_of F c;
        y = ∅;
      }

      go : (d : Bool) → length (composed F c at i) ≡ count F c i
          → length (cond d (composed F c at i ++ (nd ∷ [])) (composed F c at i)) ≡ one d + count F c i
      go true h = length-append (composed F c at i) (nd ∷ []) ∙ omega arith
      go false h = h ∙ sym (zero-add (count F c i))

  block-length : (j : ℕ) → length (made_for F j) ≡ width_of (F.kind j) (count F (F.a j) F.slaves)
  unfolding made_for
  block-length j = go (F.kind j) (count F (F.a j) F.slaves) refl
    where
      go : (k s : ℕ) → count F (F.a j) F.slaves ≡ s → length (made_by F k s j) ≡ width_of k s
      go zero zero e = refl
      go zero (suc s) e = ap suc (length-append (composed F (F.a j) (start F j) F.slaves) _
          ∙ rw (parts-length (F.a j) (start F j) F.slaves, e) (omega arith))
      go (suc zero) s e = refl
      go (suc (suc k)) s e = refl

  pub laid-length : (j : ℕ) → length (laid F j) ≡ start F j
  unfolding laid start
  laid-length zero = refl
  laid-length (suc j) = length-append (laid F j) (made_for F j) ∙ rw (laid-length j, block-length j)

  -- a node's madeFor F stands at its start
  laid-at : (n j q : ℕ) → j < n → q < width_of (F.kind j) (count F (F.a j) F.slaves)
      → get_or (laid F n) (start F j + q) no_node ≡ get_or (made_for F j) q no_node
  unfolding laid
  laid-at zero j q l h = absurd (omega arith)
  laid-at (suc n) j q l h = go (same j n) refl (λ m. laid-at n j q m h)
    where
      go : (d : Bool) → same j n ≡ d → (j < n → get_or (laid F n) (start F j + q) no_node
          ≡ get_or (made_for F j) q no_node)
          → get_or (laid F n ++ made_for F n) (start F j + q) no_node ≡ get_or (made_for F j) q no_node
      go true e r = rw (same→≡ j n e) (ap (λ z. get_or (laid F n ++ made_for F n) (z + q) no_node) (sym (laid-length n))
          ∙ get_or-append-add (laid F n) (made_for F n) q no_node)
      go false e r = let z : j ≢ n = same→≢ j n e in let m : j < n = omega arith in
          get_or-append (laid F n) (made_for F n) no_node (start F j + q)
          (let a = inside n j q m h in let b = laid-length n in omega arith) ∙ r m

  part_at : (c at k i : ℕ) → i < k → F.master i ≡ c → get_or (composed F c at k) (count F c i) no_node
      ≡ record {
        kind = 1;
        a = at + count F c i;
        b = new_name F (F.node i);
        x = (F.chart c).feedback ∪ calls_of F c;
        y = ∅;
      }
  unfolding composed tally
  part_at c at zero i l e = absurd (omega arith)
  part_at c at (suc k) i l e = go (same (F.master k) c) refl (same i k) refl (λ h. part_at c at k i h e)
    where
      nd : ℕ → Node
      nd i = record {
        kind = 1;
        a = at + count F c i;
        b = new_name F (F.node i);
        x = (F.chart c).feedback ∪ calls_of F c;
        y = ∅;
      }

      less : i < k → count F c i < count F c k
      less h = count_less F c i k h (ap (λ z. same z c) e ∙ same_refl c)

      go : (d : Bool) → same (F.master k) c ≡ d → (f : Bool) → same i k ≡ f
          → (i < k → get_or (composed F c at k) (count F c i) no_node ≡ nd i)
          → get_or (cond d (composed F c at k ++ (nd k ∷ [])) (composed F c at k)) (count F c i) no_node ≡ nd i
      go true p true q r =
          rw (same→≡ i k q) (get_or_at (composed F c at k) (nd k) [] no_node (count F c k) (parts-length c at k))
      go true p false q r = let z : i ≢ k = same→≢ i k q in let h : i < k = omega arith in
          get_or-append (composed F c at k) (nd k ∷ []) no_node (count F c i)
          (let a = parts-length c at k in let b = less h in omega arith) ∙ r h
      go false p true q r = absurd (false≢true (sym p ∙ ap (λ z. same (F.master z) c) (sym (same→≡ i k q))
          ∙ ap (λ z. same z c) e ∙ same_refl c))
      go false p false q r = let z : i ≢ k = same→≢ i k q in r (omega arith)

module _ (F : File) where
  block_is : (j k s : ℕ) → F.kind j ≡ k → count F (F.a j) F.slaves ≡ s → made_for F j ≡ made_by F k s j
  unfolding made_for
  block_is j k s e f = ap₂ (λ k s. made_by F k s j) e f

  at_node : (j q k s : ℕ) → j < F.nodes → F.kind j ≡ k → count F (F.a j) F.slaves ≡ s → q < width_of F k s
      → new_node F (start F j + q) ≡ get_or (made_by F k s j) q no_node
  at_node j q k s l e f h = laid-at F F.nodes j q l (subst₂ (λ k s. q < width_of F k s) (sym e) (sym f) h)
      ∙ ap (λ b. get_or b q no_node) (block_is j k s e f)

  ren_is : (j k s : ℕ) → F.kind j ≡ k → count F (F.a j) F.slaves ≡ s → new_name F j ≡ start F j + before F k s
  unfolding new_name
  ren_is j k s e f = ap₂ (λ k s. start F j + before F k s) e f

  pub comp_node : (j : ℕ) → j < F.nodes → F.kind j ≡ 1
      → new_node F (new_name F j) ≡ record {
        kind = 1;
        a = new_name F (F.a j);
        b = new_name F (F.b j);
        x =
            F.x j;
        y = ∅;
      }
  comp_node j l e = ap (new_node F) (ren_is j 1 (count F (F.a j) F.slaves) e refl)
      ∙ at_node j 0 1 (count F (F.a j) F.slaves) l e refl (omega arith)

  pub hide_node : (j : ℕ) → j < F.nodes → F.kind j ≡ 2
      → new_node F (new_name F j) ≡ record { kind = 2; a = new_name F (F.a j); b = 0; x = F.x j; y = F.y j }
  hide_node j l e = ap (new_node F) (ren_is j 2 (count F (F.a j) F.slaves) e refl)
      ∙ at_node j 0 2 (count F (F.a j) F.slaves) l e refl (omega arith)

  pub base_node : (j : ℕ) → j < F.nodes → F.kind j ≡ 0
      → new_node F (start F j) ≡ record { kind = 0; a = F.a j; b = 0; x = ∅; y = ∅ }
  base_node j l e = ap (new_node F) (sym (add-zero (start F j))) ∙ go (count F (F.a j) F.slaves) refl
    where
      go : (s : ℕ) → count F (F.a j) F.slaves ≡ s
          → new_node F (start F j + 0) ≡ record { kind = 0; a = F.a j; b = 0; x = ∅; y = ∅ }
      go zero f = at_node j 0 0 0 l e f (omega arith)
      go (suc s) f = at_node j 0 0 (suc s) l e f (omega arith)

  part_node : (j i : ℕ) → j < F.nodes → F.kind j ≡ 0 → i < F.slaves → F.master i ≡ F.a j
      → new_node F (start F j + suc (count F (F.a j) i))
      ≡ record {
        kind = 1;
        a = start F j + count F (F.a j) i;
        b = new_name F (F.node i);
        x = (F.chart (F.a j)).feedback ∪ calls_of F (F.a j);
        y = ∅;
      }
  unfolding tally
  part_node j i l e m q = go (count F (F.a j) F.slaves) refl
    where
      less : count F (F.a j) i < count F (F.a j) F.slaves
      less = count_less F (F.a j) i F.slaves m (ap (λ z. same z (F.a j)) q ∙ same_refl (F.a j))

      go : (s : ℕ) → count F (F.a j) F.slaves ≡ s
          → new_node F (start F j + suc (count F (F.a j) i))
          ≡ record {
            kind = 1;
            a = start F j + count F (F.a j) i;
            b = new_name F (F.node i);
            x = (F.chart (F.a j)).feedback ∪ calls_of F (F.a j);
            y = ∅;
          }
      go zero f = absurd (let a = less in omega arith)
      go (suc s) f = at_node j (suc (count F (F.a j) i)) 0 (suc s) l e f (let a = less in omega arith)
          ∙ get_or-append (composed F (F.a j) (start F j) F.slaves) _ no_node (count F (F.a j) i)
          (let a = less in let b = parts-length F (F.a j) (start F j) F.slaves in omega arith)
          ∙ part_at F (F.a j) (start F j) F.slaves i m q

  whole_node : (j : ℕ) → j < F.nodes → F.kind j ≡ 0 → 0 < count F (F.a j) F.slaves
      → new_node F (new_name F j) ≡ record {
        kind = 2;
        a = start F j + count F (F.a j) F.slaves;
        b = 0;
        x = calls_of F (F.a j);
        y = calls_of F (F.a j);
      }
  whole_node j l e h = go (count F (F.a j) F.slaves) refl
    where
      go : (s : ℕ) → count F (F.a j) F.slaves ≡ s
          → new_node F (new_name F j)
          ≡ record { kind = 2; a = start F j + s; b = 0; x = calls_of F (F.a j); y = calls_of F (F.a j) }
      go zero f = absurd (omega arith)
      go (suc s) f = ap (new_node F) (ren_is j 0 (suc s) e f) ∙ at_node j (suc (suc s)) 0 (suc s) l e f (omega arith)
          ∙ get_or_at (composed F (F.a j) (start F j) F.slaves) _ [] no_node (suc s)
          (parts-length F (F.a j) (start F j) F.slaves ∙ f)

  pub nodes_r : NodesR F (rewrite F)
  nodes_r = record {
    no_slaves = refl;
    there = λ j l. ren_inside F F.nodes j l;
    comp_kind = λ j l e. ap k (comp_node j l e);
    comp_a = λ j l e. ap a (comp_node j l e);
    comp_b = λ j l e. ap b (comp_node j l e);
    comp_x = λ j l e. ap x (comp_node j l e);
    hide_kind = λ j l e. ap k (hide_node j l e);
    hide_a = λ j l e. ap a (hide_node j l e);
    hide_x_lem = λ j l e. ap x (hide_node j l e);
    hide_y_lem = λ j l e. ap y (hide_node j l e);
    base_kind = λ j l e. ap k (base_node j l e);
    base_a = λ j l e. ap a (base_node j l e);
    plain = λ j l e f. ren_is j 0 0 e f ∙ add-zero (start F j);
    part_kind = λ j i l e m q. ap k (part_node j i l e m q);
    part-a = λ j i l e m q. ap a (part_node j i l e m q);
    part-b = λ j i l e m q. ap b (part_node j i l e m q);
    part-x = λ j i l e m q. ap x (part_node j i l e m q);
    whole-at = λ j l e h. at j e h (count F (F.a j) F.slaves) refl;
    whole_kind = λ j l e h. ap k (whole_node j l e h);
    whole-a = λ j l e h. ap a (whole_node j l e h);
    whole-x = λ j l e h. ap x (whole_node j l e h);
    whole_y = λ j l e h. ap y (whole_node j l e h);
  }
    where
      k : Node → ℕ
      k n = n.kind

      a : Node → ℕ
      a n = n.a

      b : Node → ℕ
      b n = n.b

      x : Node → Set
      x n = n.x

      y : Node → Set
      y n = n.y

      at : (j : ℕ) → F.kind j ≡ 0 → 0 < count F (F.a j) F.slaves → (s : ℕ) → count F (F.a j) F.slaves ≡ s
          → new_name F j ≡ start F j + suc s
      at j e h zero f = absurd (omega arith)
      at j e h (suc s) f = ren_is j 0 (suc s) e f

-- ── the new nodes name lower ones ──
-- a node numbered p, and a list of nodes numbered from p on
abbrev Low : ℕ → Node → Type 0
Low p n = (n.kind ≡ 1 → (n.a < p) × (n.b < p)) × (n.kind ≡ 2 → n.a < p) × (n.kind ≤ 2)

abbrev AllLow : ℕ → List Node → Type 0
AllLow p [] = Unit {0}
AllLow p (n ∷ r) = Low p n × AllLow (suc p) r

low-append : (p : ℕ) (r s : List Node) → AllLow p r → AllLow (p + length r) s → AllLow p (r ++ s)
low-append p [] s h k = rw (add-zero p) at k
low-append p (n ∷ r) s h k = (
  h.0,
  low-append (suc p) r s h.1
      (subst (λ z. AllLow z s) (let e : p + suc (length r) ≡ suc p + length r = omega arith in e) k),
)

low-at : (p : ℕ) (r : List Node) (q : ℕ) → AllLow p r → q < length r → Low (p + q) (get_or r q no_node)
low-at p [] q h l = absurd (omega arith)
low-at p (n ∷ r) zero h l = subst (λ z. Low z n) (sym (add-zero p)) h.0
low-at p (n ∷ r) (suc q) h l =
    subst (λ z. Low z (get_or r q no_node)) (let e : suc p + q ≡ p + suc q = omega arith in e)
    (low-at (suc p) r q h.1 (omega arith))

module _ (F : File) (w : Ordered F) where
  low_parts : (j : ℕ) → j < F.nodes → F.kind j ≡ 0 → (i : ℕ) → i ≤ F.slaves
      → AllLow (suc (start F j)) (composed F (F.a j) (start F j) i)
  unfolding composed
  low_parts j l e zero m = tt
  low_parts j l e (suc i) m = go (same (F.master i) (F.a j)) refl (low_parts j l e i (omega arith))
    where
      c : ℕ
      c = F.a j

      nd : Node
      nd = record {
        kind = 1;
        a = start F j + count F c i;
        b = new_name F (F.node i);
        x = (F.chart c).feedback ∪ calls_of F c;
        y = ∅;
      }

      go : (d : Bool) → same (F.master i) c ≡ d → AllLow (suc (start F j)) (composed F c (start F j) i)
          → AllLow (suc (start F j)) (cond d (composed F c (start F j) i ++ (nd ∷ [])) (composed F c (start F j) i))
      go true p h = low-append (suc (start F j)) (composed F c (start F j) i) (nd ∷ []) h
          ((λ z. low, λ z. absurd (omega arith), omega arith), tt)
        where
          low : (start F j + count F c i < suc (start F j) + length (composed F c (start F j) i))
              × (new_name F (F.node i) < suc (start F j) + length (composed F c (start F j) i))
          low = let a = parts-length F c (start F j) i in
              let b = ren_inside F j (F.node i) (w.lower₀ j l e i m (same→≡ (F.master i) c p)) in
              (omega arith, omega arith)
      go false p h = h

  low-block : (j : ℕ) → j < F.nodes → AllLow (start F j) (made_for F j)
  unfolding made_for
  low-block j l = go (F.kind j) (count F (F.a j) F.slaves) refl refl
    where
      go : (k s : ℕ) → F.kind j ≡ k → count F (F.a j) F.slaves ≡ s → AllLow (start F j) (made_by F k s j)
      go zero zero e f = ((λ z. absurd (omega arith), λ z. absurd (omega arith), omega arith), tt)
      go zero (suc s) e f = (
        (λ z. absurd (omega arith), λ z. absurd (omega arith), omega arith),
        low-append (suc (start F j)) (composed F (F.a j) (start F j) F.slaves) _
            (low_parts j l e F.slaves (omega arith)) (
              (
                λ z. absurd (omega arith),
                λ z. (let a = parts-length F (F.a j) (start F j) F.slaves in omega arith),
                omega arith,
              ),
              tt,
            ),
      )
      go (suc zero) s e f = let h = w.lower₁ j l e in let p = ren_inside F j (F.a j) h.0 in
          let q = ren_inside F j (F.b j) h.1 in
          ((λ z. (p, q), λ z. absurd (omega arith), omega arith), tt)
      go (suc (suc k)) s e f = let e₂ : F.kind j ≡ 2 = (let h = w.kinds j l in omega arith) in
          ((λ z. absurd (omega arith), λ z. ren_inside F j (F.a j) (w.lower₂ j l e₂), omega arith), tt)

  low-laid : (n : ℕ) → n ≤ F.nodes → AllLow 0 (laid F n)
  unfolding laid
  low-laid zero l = tt
  low-laid (suc n) l = low-append 0 (laid F n) (made_for F n) (low-laid n (omega arith))
      (subst (λ z. AllLow z (made_for F n)) (sym (laid-length F n) ∙ sym (zero-add (length (laid F n))))
      (low-block n l))

  low_node : (p : ℕ) → p < start F F.nodes → Low p (new_node F p)
  low_node p l = subst (λ z. Low z (new_node F p)) (zero-add p)
      (low-at 0 (laid F F.nodes) p (low-laid F.nodes (omega arith))
      (let e = laid-length F F.nodes in omega arith))

  pub ordered_r : Ordered (rewrite F)
  ordered_r = record {
    lower₁ = λ p l e. (low_node p l).0 e;
    lower₂ = λ p l e. (low_node p l).1 e;
    lower₀ = λ p l e i m q. absurd (omega arith);
    kinds = λ p l. (low_node p l).2;
  }
