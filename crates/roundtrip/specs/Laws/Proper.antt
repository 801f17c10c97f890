-- The tree of an accepted file (`whole_proper`): its charts are the file's, a master has a slave, and the slaves of a
-- master are records of that master by rising state (`Proper`). What of an accepted file counts here is in `Tidy`
-- (`tidy`).
use Rattle.std.specs.Prelude.{◌≡◌, Bool, cond, List, [], ◌∷◌, ◌++◌}
use Rattle.std.proofs.Math.Path.{refl, sym}
use Rattle.std.proofs.Common.{◌∙◌, subst}
use Rattle.std.proofs.Math.Bool.{true, false}
use Prim.Native.Nat.{ℕ, zero, suc, ◌-◌, ◌^◌, ◌≤◌, ◌<◌}
use native.Mathlib.Omega.{arith}
use Rattle.meaning.specs.Meaning.{Set, same, Tree, leaf, comp, hide, dec, nil, snoc}
use Rattle.meaning.specs.Meaning.{Slaves as Held}
use Rattle.meaning.specs.File.{File, gather, whole, tree_of, whole_of, file_of}
use Rattle.meaning.specs.Check.{refusal_of}
use Rattle.meaning.specs.Check.Nodes.{Treed}
use Rattle.meaning.specs.Laws.Bools.{same→≡}
use Rattle.meaning.specs.Laws.Trees.{tree₀, tree₁, tree₂}
use Rattle.meaning.specs.Laws.Alike.{accepted_treed, accepted_node}
use Rattle.forms.specs.Laws.Slaves.{Pair}
use Rattle.outline.specs.Laws.Sorted.{Each, none, more, each_append}
use Rattle.spelling.specs.Typed.{typed_of}
use Rattle.accepted.specs.Tree.{key_of, Climbs}
use Rattle.accepted.specs.Laws.Records.{climbs_all, state_below, climbing}

-- ── slaves in their order ──

module _ (F : File) where
  -- slaves of the tree as they are typed
  unfoldable pub held_pairs : Held → List Pair
  held_pairs nil = []
  held_pairs (snoc ss i t) = held_pairs ss ++ (record { state = F.state i; chart = typed_of F t } ∷ [])

-- there is a slave
abbrev pub NotNone : Held → Type 0
NotNone nil = ⊥
NotNone (snoc ss i t) = Unit {0}

-- what is known of the sets of a tree: that they are of 64 signals, or nothing
abbrev pub InRange : Set → Type 0
InRange x = x < 2 ^ 64

abbrev pub AnySet : Set → Type 0
AnySet x = Unit {0}

-- a tree of the file F, S: what is known of its sets
module _ (F : File) (S : Set → Type 0) where
  abbrev mutual
    pub Proper : Tree → Type 0
    Proper (leaf c) = c < F.charts
    Proper (comp p q x) = S x × Proper p × Proper q
    Proper (hide p x y) = S x × S y × Proper p
    Proper (dec c ss) = (c < F.charts) × NotNone ss × ProperAll c ss

    pub ProperAll : ℕ → Held → Type 0
    ProperAll c nil = Unit {0}
    ProperAll c (snoc ss i t) =
        ProperAll c ss × (F.master i ≡ c) × (i < F.slaves) × Each (λ r. r.state < F.state i) (held_pairs F ss)
        × Proper t

-- ── an accepted file ──

pub record Tidy (F : File) (S : Set → Type 0) : Type 0 where
  pub treed : Treed F
  pub some : 0 < F.nodes
  pub states : (i : ℕ) → i < F.slaves → F.state i < 16
  pub climbs : Climbs F.slaves (key_of F)
  pub sets : (j : ℕ) → j < F.nodes → S (F.x j) × S (F.y j)

module _ (f : List ℕ) (e : refusal_of f ≡ 0) where
  abbrev F : File
  F = file_of f

  pub tidy : (S : Set → Type 0) → ((j : ℕ) → j < F.nodes → S (F.x j) × S (F.y j)) → Tidy F S
  tidy S s =
      record {
        treed = accepted_treed f e;
        some = accepted_node f e;
        states = state_below f e;
        climbs = climbing f e;
        sets = s;
      }

-- ── the trees of its nodes ──

module _ (F : File) (S : Set → Type 0) (t : Tidy F S) where
  -- states of records before i, of the same master
  lower_state : (i j : ℕ) → i < j → j < F.slaves → F.master i ≡ F.master j → F.state i < F.state j
  lower_state i j l m e = let z = climbs_all F.slaves (key_of F) t.climbs i j l m in omega arith

  module _ (g : ℕ → Tree) (c : ℕ) where
    abbrev gathered : ℕ → Held
    gathered k = gather F.master g c k

    states-below : (q k : ℕ) → ((i : ℕ) → i < k → F.master i ≡ c → F.state i < q)
        → Each (λ r. r.state < q) (held_pairs F (gathered k))
    unfolding gather held_pairs
    states-below q zero h = none
    states-below q (suc k) h = go (same (F.master k) c) refl (states-below q k (λ i l. h i (omega arith)))
      where
        go : (b : Bool) → same (F.master k) c ≡ b → Each (λ r. r.state < q) (held_pairs F (gathered k))
            → Each (λ r. r.state < q) (held_pairs F (cond b (snoc (gathered k) k (g k)) (gathered k)))
        go true e r = each_append r (more (h k (omega arith) (same→≡ (F.master k) c e)) none)
        go false e r = r

    gather_proper : (k : ℕ) → k ≤ F.slaves → ((i : ℕ) → i < k → F.master i ≡ c → Proper F S (g i))
        → ProperAll F S c (gathered k)
    unfolding gather
    gather_proper zero l h = tt
    gather_proper (suc k) l h =
        go (same (F.master k) c) refl (gather_proper k (omega arith) (λ i m. h i (omega arith)))
      where
        go : (b : Bool) → same (F.master k) c ≡ b → ProperAll F S c (gathered k)
            → ProperAll F S c (cond b (snoc (gathered k) k (g k)) (gathered k))
        go true e r =
            let z = same→≡ (F.master k) c e in (
              r,
              z,
              omega arith,
              states-below (F.state k) k (λ i m y. lower_state i k m (omega arith) (y ∙ sym z)),
              h k (omega arith) z,
            )
        go false e r = r

  chart_proper : (c : ℕ) (ss : Held) → c < F.charts → ProperAll F S c ss → Proper F S (whole c ss)
  chart_proper c nil l h = l
  chart_proper c (snoc ss i u) l h = (l, tt, h)

  trees : (f j : ℕ) → j < f → j < F.nodes → Proper F S (tree_of F j)
  trees zero j p l = absurd (omega arith)
  trees (suc f) j p l = go (F.kind j) refl (λ i m. trees f i (omega arith) (omega arith))
    where
      go : (k : ℕ) → F.kind j ≡ k → ((i : ℕ) → i < j → Proper F S (tree_of F i)) → Proper F S (tree_of F j)
      go zero e ih =
          subst (Proper F S) (sym (tree₀ F t.treed.ordered j l e))
          (chart_proper (F.a j) (gather F.master (λ i. tree_of F (F.node i)) (F.a j) F.slaves)
          (t.treed.chart_there j l e)
          (gather_proper (λ i. tree_of F (F.node i)) (F.a j) F.slaves (omega arith)
          (λ i m q. ih (F.node i) (t.treed.ordered.lower₀ j l e i m q))))
      go (suc zero) e ih =
          let u = t.treed.ordered.lower₁ j l e in
          subst (Proper F S) (sym (tree₁ F t.treed.ordered j l e))
          ((t.sets j l).0, ih (F.a j) u.0, ih (F.b j) u.1)
      go (suc (suc k)) e ih =
          let e₂ : F.kind j ≡ 2 = (let m = t.treed.ordered.kinds j l in omega arith) in
          subst (Proper F S) (sym (tree₂ F t.treed.ordered j l e₂))
          ((t.sets j l).0, (t.sets j l).1, ih (F.a j) (t.treed.ordered.lower₂ j l e₂))

  pub whole_proper : Proper F S (whole_of F)
  whole_proper = let n = t.some in trees F.nodes (F.nodes - 1) (omega arith) (omega arith)
