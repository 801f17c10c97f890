-- `inner` meets its contract. A chart has the call signal of the slave that the node which holds it stands in. The
-- loop's invariant: the charts of the nodes passed have theirs.
use mathlib.Core.Path.{◌≡◌, refl, sym, ap, ◌∙◌}
use mathlib.Core.Bool.{cond}
use mathlib.Core.List.{List}
use mathlib.Core.Logic.{⊎_elim}
use mathlib.Core.Option.{Option, none, some}
use Prim.Native.Nat.{ℕ, ◌+◌, ◌≤◌, ◌<◌}
use native.Mathlib.Omega.{arith}
use borrow.Author.Count.{below_more}
use borrow.Author.Tests.{lt-ltb, le-ltb}
use lib.Dec.{ltb}
use lib.ListN.{length, get_or, set, length-set}
use lib.Seq.{get_or-set_same, get_or-set_other}
use Rattle.layout.specs.Body.{node_at}
use Rattle.layout.specs.declared.body.Shape.{Shape}
use Rattle.layout.specs.declared.record.Node.{Node}
use Rattle.meaning.specs.Numbers.{most_charts, most_slaves}
use Rattle.meaning.specs.File.{File, file_at}
use Rattle.meaning.specs.Check.Nodes.{Sound}
use Rattle.meaning.specs.Check.Laws.{eq_or-not}
use Rattle.meaning.specs.Laws.Names.{enc, kap, enc-below, placed}
use Rattle.meaning.specs.Rewriting.{call, call_in}
use Rattle.nesting.specs.Nearest.{number_of}
use Rattle.allocation.specs.Known.{Checked, CallsIn}
use Rattle.allocation.proofs.inner.Given as goal

-- chart c's entry is the call signal of its nearest slave
abbrev pub Has : File → List ℕ → ℕ → Type 0
Has F l c = get_or l c 0 ≡ call_in (call F) (kap F c)

module _ (F : File) (s : Sound F) where
  -- the call signal of the slave that node j stands in, by its number
  pub call_is : (calls : List ℕ) → CallsIn F calls → F.slaves ≤ most_slaves → (j i : ℕ) → i ≡ number_of (enc F j)
      → cond (ltb i F.slaves) (get_or calls i 0) 0 ≡ call_in (call F) (enc F j)
  unfolding number_of call_in
  call_is calls h m j i e = go (enc F j) refl e
    where
      go : (κ : Option ℕ) → enc F j ≡ κ → i ≡ number_of κ
          → cond (ltb i F.slaves) (get_or calls i 0) 0 ≡ call_in (call F) κ
      go none q z = rw (le-ltb i F.slaves (omega arith))
      go (some k) q z = let b = enc-below F j k q in rw (z, lt-ltb k F.slaves b) (h k b)

  module _ (j : ℕ) (p : j < F.nodes) (k : F.kind j ≡ 0) (l : List ℕ) (v : ℕ) (e : v ≡ call_in (call F) (enc F j))
      (m : F.a j < length l) where
    pub has_here : Has F (set l (F.a j) v) (F.a j)
    has_here =
        get_or-set_same l (F.a j) v 0 m ∙ e
        ∙ ap (call_in (call F)) (sym ((placed F s.ordered s.rule10 s.chart_there s.node-there).hold j p k).1)

    -- a write of the right set spoils none
    pub has-set : (c : ℕ) → Has F l c → Has F (set l (F.a j) v) c
    has-set c h = ⊎_elim (λ q. rw q has_here) (λ q. get_or-set_other l (F.a j) c v 0 q ∙ h) (eq_or-not c (F.a j))

-- the charts of the first j nodes have theirs
pub record Filled (F : File) (j : ℕ) (l : List ℕ) : Type 0 where
  pub long : length l ≡ most_charts
  pub has : (k : ℕ) → k < j → F.kind k ≡ 0 → Has F l (F.a k)

-- r is node j
module _ (n : Shape) (b : List ℕ) (w : Checked n b) (j : ℕ) (p : j < n.nodes) (r : Node) (e : r ≡ node_at n b j)
    (l : List ℕ)
    (h : Filled (file_at n b) j l) where
  abbrev pub F : File
  F = file_at n b

  pub a_is : r.a ≡ F.a j
  unfolding file_at
  a_is = ap (λ (x : Node). x.a) e

  pub kind_is : r.kind ≡ F.kind j
  unfolding file_at
  kind_is = ap (λ (x : Node). x.kind) e

  pub there : r.kind ≡ 0 → r.a < most_charts
  unfolding file_at
  there k = let c = w.sound.chart_there j p (sym kind_is ∙ k) in let q = a_is in
      let m = w.sized.charts in omega arith

  pub filled_own : (v : ℕ) → v ≡ call_in (call F) (enc F j) → r.kind ≡ 0 → Filled F (j + 1) (set l r.a v)
  unfolding file_at
  filled_own v q k =
      let u : F.kind j ≡ 0 = sym kind_is ∙ k in
      let m : F.a j < length l = (let t = there k in let z = a_is in let y = h.long in omega arith) in
      rw a_is (record {
        long = simp length-set h.long;
        has = below_more (λ (i : ℕ). F.kind i ≡ 0 → Has F (set l (F.a j) v) (F.a i)) j
            (λ i z y. has-set F w.sound j p u l v q m (F.a i) (h.has i z y))
            (λ y. has_here F w.sound j p u l v q m);
      })

  pub filled_other : (r.kind ≡ 0 → ⊥) → Filled F (j + 1) l
  filled_other k = record {
    long = h.long;
    has = below_more (λ (i : ℕ). F.kind i ≡ 0 → Has F l (F.a i)) j h.has (λ y. absurd (k (kind_is ∙ y)));
  }

abbrev pub invariant-loop-j : goal.invariant-loop-j
invariant-loop-j l = Filled (file_at l.n l.body) l.j l.inner
