-- The walk down the nodes that finds each one's nearest enclosing slave. Every byte that is written is the right one at
-- its place, so that no write spoils another. In order: a write (right-set); the slaves' nodes; the nodes that a node
-- names; the walk (Walked); a slave by the byte of a node (enclosed, alone). Assumes nothing.
use mathlib.Core.Path.{◌≡◌, refl, sym, ap, ◌∙◌}
use mathlib.Core.List.{List}
use mathlib.Core.Logic.{⊎_elim}
use mathlib.Core.Option.{Option, none, some}
use Prim.Native.Nat.{ℕ, suc, ◌+◌, ◌-◌, ◌≤◌, ◌<◌}
use native.Mathlib.Omega.{arith}
use borrow.Author.Count.{below_more}
use lib.ListN.{length, get_or, set, replicate, length-set, get_or-replicate}
use lib.Seq.{get_or-set_same, get_or-set_other}
use Rattle.layout.specs.declared.record.Slave.{Slave}
use Rattle.layout.specs.declared.record.Node.{Node}
use Rattle.meaning.specs.File.{File}
use Rattle.meaning.specs.Check.Nodes.{Sound}
use Rattle.meaning.specs.Check.Laws.{eq_or-not}
use Rattle.meaning.specs.Laws.Trees.{Placed, Joined, Namer, left, right, inside, slave}
use Rattle.meaning.specs.Laws.Names.{enc, kap, enc-below, enc-slave, enc-last, placed, joined}
use Rattle.nesting.specs.Nearest.{master_by, state_by, number_of, Right, Enclosers, Seeded, Seeds, Handed, Hands}
use Rattle.nesting.proofs.Records.{Is, IsSlave}

-- ── a write of the right byte ──

module _ (F : File) (l : List ℕ) (p v : ℕ) (q : p < length l) (e : v ≡ number_of (enc F p)) where
  pub right_here : Right F (set l p v) p
  right_here = get_or-set_same l p v 0 q ∙ e

  pub right-set : (k : ℕ) → Right F l k → Right F (set l p v) k
  right-set k h =
      ⊎_elim (λ z. ap (λ (i : ℕ). get_or (set l p v) i 0) z ∙ right_here ∙ ap (λ (i : ℕ). number_of (enc F i)) (sym z))
      (λ z. get_or-set_other l p k v 0 z ∙ h) (eq_or-not k p)

module _ (F : File) (s : Sound F) where
  at : Placed F (enc F) (kap F)
  at = placed F s.ordered s.rule10 s.chart_there s.node-there

  -- ── the slaves' nodes ──

  pub seeds_none : (l : List ℕ) → Seeds F 0 l l
  seeds_none l = record { slaves = λ i p. absurd (omega arith); stays = λ k h. h }

  pub seeds_more : {l m : List ℕ} {i : ℕ} {r : Slave} → IsSlave F i r → i < F.slaves → F.nodes ≤ length m
      → Seeds F i l m → Seeds F (i + 1) l (set m r.node i)
  unfolding number_of
  seeds_more {l} {m} {i} {r} is p q h =
      record {
        slaves =
            below_more (λ (k : ℕ). Right F (set m r.node i) (F.node k)) i
            (λ k z. right-set F m r.node i b e (F.node k) (h.slaves k z))
            (ap (λ (j : ℕ). get_or (set m r.node i) j 0) (sym is.node) ∙ right_here F m r.node i b e
            ∙ ap (λ (j : ℕ). number_of (enc F j)) is.node);
        stays = λ k z. right-set F m r.node i b e k (h.stays k z);
      }
    where
      there : F.node i < F.nodes
      there = (s.node-there i p).0

      b : r.node < length m
      b = let z = is.node in let t = there in omega arith

      e : i ≡ number_of (enc F r.node)
      e = sym
          (ap (λ (o : Option ℕ). number_of o) (ap (enc F) is.node ∙ enc-slave F s.ordered s.rule10 i p there))

  pub seeded : (m : List ℕ) → F.nodes ≤ 64 → Seeds F F.slaves (replicate 64 255) m → Seeded F m
  unfolding number_of
  seeded m p h =
      record {
        last = λ j e. h.stays j (get_or-replicate 64 j 255 0 (omega arith)
            ∙ sym (ap (λ (o : Option ℕ). number_of o) (enc-last F s.ordered s.rule10 j e)));
        slaves = h.slaves;
      }

  -- ── the nodes that node j names ──

  module _ {j : ℕ} (p : j < F.nodes) {n : Node} (is : Is F j n) {l : List ℕ} where
    pub hands_none : n.kind ≡ 0 → Hands F j l l
    hands_none k =
        let z = is.kind in
        record {
          handed = record {
            left = λ e. absurd (omega arith);
            right = λ e. absurd (omega arith);
            inside = λ e. absurd (omega arith);
          };
          stays = λ k h. h;
        }

    module _ (h : Right F l j) (q : F.nodes ≤ length l) where
      pub hands_hide : (n.kind ≡ 0 → ⊥) → (n.kind ≡ 1 → ⊥) → Hands F j l (set l n.a (get_or l j 0))
      hands_hide k₀ k₁ =
          let z = is.kind in
          record {
            handed =
                record {
                  left = λ e. absurd (k₁ (z ∙ e));
                  right = λ e. absurd (k₁ (z ∙ e));
                  inside = λ e. ap (λ (i : ℕ). get_or (set l n.a (get_or l j 0)) i 0) (sym is.a)
                      ∙ right_here F l n.a (get_or l j 0) b w ∙ ap (λ (i : ℕ). number_of (enc F i)) is.a;
                };
            stays = right-set F l n.a (get_or l j 0) b w;
          }
        where
          k : F.kind j ≡ 2
          k = let z = is.kind in let t = s.ordered.kinds j p in omega arith

          b : n.a < length l
          b = let z = is.a in let t = s.ordered.lower₂ j p k in omega arith

          w : get_or l j 0 ≡ number_of (enc F n.a)
          w = h ∙ ap (λ (o : Option ℕ). number_of o) (sym (at.in₂ j p k))
              ∙ ap (λ (i : ℕ). number_of (enc F i)) (sym is.a)

      pub hands_comp : n.kind ≡ 1 → Hands F j l (set (set l n.a (get_or l j 0)) n.b (get_or l j 0))
      hands_comp e₁ =
          let z = is.kind in
          record {
            handed =
                record {
                  left = λ e. ap (λ (i : ℕ). get_or m i 0) (sym is.a) ∙ right-set F l' n.b v bb wb n.a
                      (right_here F l n.a v ba wa) ∙ ap (λ (i : ℕ). number_of (enc F i)) is.a;
                  right = λ e. ap (λ (i : ℕ). get_or m i 0) (sym is.b) ∙ right_here F l' n.b v bb wb
                      ∙ ap (λ (i : ℕ). number_of (enc F i)) is.b;
                  inside = λ e. absurd (omega arith);
                };
            stays = λ i y. right-set F l' n.b v bb wb i (right-set F l n.a v ba wa i y);
          }
        where
          k : F.kind j ≡ 1
          k = sym is.kind ∙ e₁

          v : ℕ
          v = get_or l j 0

          l' : List ℕ
          l' = set l n.a v

          m : List ℕ
          m = set l' n.b v

          ba : n.a < length l
          ba = let z = is.a in let t = s.ordered.lower₁ j p k in omega arith

          bb : n.b < length l'
          bb = simp length-set (let z = is.b in let t = s.ordered.lower₁ j p k in omega arith)

          wa : v ≡ number_of (enc F n.a)
          wa = h ∙ ap (λ (o : Option ℕ). number_of o) (sym (at.in₁ j p k).0)
              ∙ ap (λ (i : ℕ). number_of (enc F i)) (sym is.a)

          wb : v ≡ number_of (enc F n.b)
          wb = h ∙ ap (λ (o : Option ℕ). number_of o) (sym (at.in₁ j p k).1)
              ∙ ap (λ (i : ℕ). number_of (enc F i)) (sym is.b)

-- ── the walk ──

-- the nodes from j on are walked
pub record Walked (F : File) (j : ℕ) (l : List ℕ) : Type 0 where
  pub seeds : Seeded F l
  pub handed : (k : ℕ) → j ≤ k → k < F.nodes → Handed F k l

module _ (F : File) (s : Sound F) where
  stands : Joined F
  stands = joined F s.ordered s.rule10 s.chart_there s.node-there

  pub walked_none : {j : ℕ} {l : List ℕ} → j ≡ F.nodes → Seeded F l → Walked F j l
  walked_none e h = record { seeds = h; handed = λ k p q. absurd (omega arith) }

  -- the next node is the last, a slave's, or named by a node that is walked
  pub walked_right : {j : ℕ} {l : List ℕ} → 0 < j → j ≤ F.nodes → Walked F j l → Right F l (j - 1)
  walked_right {j} {l} p q h = ⊎_elim (h.seeds.last (j - 1))
      (λ z. by (stands.named (j - 1) (omega arith))) (eq_or-not (suc (j - 1)) F.nodes)
    where
      moved : (k : ℕ) → k ≡ j - 1 → Right F l k → Right F l (j - 1)
      moved k e r = rw e at r

      by : Namer F (j - 1) → Right F l (j - 1)
      by (left k u e z) = let t = s.ordered.lower₁ k u e in moved (F.a k) z ((h.handed k (omega arith) u).left e)
      by (right k u e z) = let t = s.ordered.lower₁ k u e in moved (F.b k) z ((h.handed k (omega arith) u).right e)
      by (inside k u e z) = let t = s.ordered.lower₂ k u e in moved (F.a k) z ((h.handed k (omega arith) u).inside e)
      by (slave i u z) = moved (F.node i) z (h.seeds.slaves i u)

  pub walked_more : {j : ℕ} {l l' : List ℕ} → 0 < j → Walked F j l → Hands F (j - 1) l l' → Walked F (j - 1) l'
  walked_more {j} {l} {l'} p h g =
      record {
        seeds = record {
          last = λ k e. g.stays k (h.seeds.last k e);
          slaves = λ i u. g.stays (F.node i) (h.seeds.slaves i u);
        };
        handed = λ k u v. ⊎_elim (λ z. ap_handed k z) (λ z. keep k (h.handed k (omega arith) v)) (eq_or-not k (j - 1));
      }
    where
      ap_handed : (k : ℕ) → k ≡ j - 1 → Handed F k l'
      ap_handed k z = rw z g.handed

      keep : (k : ℕ) → Handed F k l → Handed F k l'
      keep k y = record {
        left = λ e. g.stays (F.a k) (y.left e);
        right = λ e. g.stays (F.b k) (y.right e);
        inside = λ e. g.stays (F.a k) (y.inside e);
      }

  pub walked_done : {l : List ℕ} → Walked F 0 l → Enclosers F l
  walked_done {l} h k p =
      let r : Right F l (suc k - 1) = walked_right {j = suc k} (omega arith) p
      (record { seeds = h.seeds; handed = λ i u v. h.handed i (omega arith) v }) in
      let e : suc k - 1 ≡ k = omega arith in rw e at r

-- ── a slave by the byte of a node ──

module _ (F : File) (j i : ℕ) (e : i ≡ number_of (enc F j)) where
  pub enclosed : F.slaves < 255 → i < F.slaves
      → (F.master i ≡ master_by F (enc F j)) × (F.state i ≡ state_by F (enc F j))
  unfolding number_of master_by state_by
  enclosed p q = go (enc F j) e
    where
      go : (o : Option ℕ) → i ≡ number_of o → (F.master i ≡ master_by F o) × (F.state i ≡ state_by F o)
      go none z = absurd (omega arith)
      go (some h) z = (ap F.master z, ap F.state z)

  pub alone : F.slaves ≤ i → (255 ≡ master_by F (enc F j)) × (0 ≡ state_by F (enc F j))
  unfolding number_of master_by state_by
  alone q = go (enc F j) refl
    where
      go : (o : Option ℕ) → enc F j ≡ o → (255 ≡ master_by F o) × (0 ≡ state_by F o)
      go none z = (refl, refl)
      go (some h) z = let b = enc-below F j h z in let t : i ≡ h = e ∙ ap (λ (o : Option ℕ). number_of o) z in
          absurd (omega arith)
