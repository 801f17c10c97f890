-- `plan::wire_chart` meets its contract: the set is the chart with what is inside it. Without slaves, feedback of the
-- chart alone is all there is to feed.
use mathlib.Core.Path.{◌≡◌, refl, sym, ap, ap₂, subst, subst₂, ◌∙◌}
use mathlib.Core.Bool.{Bool, true, false, ◌||◌, cond, or_comm}
use mathlib.Core.List.{List, [], ◌∷◌}
use Prim.Native.Nat.{ℕ, ◌≤◌, ◌<◌}
use native.Mathlib.Omega.{arith}
use lib.ListN.{length, get_or, set, length-set}
use lib.Seq.{get_or-set_same, get_or-set_other}
use Rattle.signals.specs.Mask.{◌∪◌, ◌∩◌, bit, single}
use Rattle.signals.specs.Mask.Laws.{bit_union, bit-single, bit-none}
use Rattle.signals.specs.Decide.{sets, A, B, C, D, E as Eₑ, ◌∪ₑ◌, ◌∩ₑ◌, ◌≐◌}
use Rattle.layout.specs.Body.{head_at}
use Rattle.layout.specs.declared.body.Shape.{Shape}
use Rattle.layout.specs.declared.record.Head.{Head}
use Rattle.meaning.specs.Numbers.{most_charts}
use Rattle.meaning.specs.Meaning.{Set, same}
use Rattle.meaning.specs.File.{File, chart_of, file_at}
use Rattle.meaning.specs.Laws.Bools.{same→≡, same→≢, same_comm}
use Rattle.cells.specs.Table.{back_cell, up_cell, back_at, up_at, masks_for}
use Rattle.wiring.specs.Reach.{full}
use Rattle.plan.specs.ByNode.{Feeds, inside, Inside}
use Rattle.plan.proofs.NextNode.{or-false}
use Rattle.plan.proofs.wire_chart.Goals as goal

with_is : (x d c : ℕ) → bit (x ∪ single d) c ≡ (same c d || bit x c)
unfolding same
with_is x d c = bit_union c x (single d) ∙ or_comm (bit x c) (bit (single d) c)
    ∙ ap (λ (b : Bool). b || bit x c) (bit-single d c ∙ same_comm d c)

is_feedback : (n : Shape) (b : List ℕ) (c : ℕ) {h : Head} → h ≡ head_at n b c
    → h.feedback ≡ ((file_at n b).chart c).feedback
unfolding file_at chart_of
is_feedback n b c e = ap (λ (h : Head). h.feedback) e

-- feedback of x over chart d alone
module _ (N d : ℕ) (few : N ≤ most_charts) (z x : Set) (r m : List ℕ) (there : d < N)
    (only : (c : ℕ) → bit z c ≡ same c d)
    (down : get_or r d 0 ≡ full) (up : up_at m d ≡ full) (room : masks_for N ≤ length m) where
  abbrev m' : List ℕ
  m' = set m (back_cell d d) (back_at m d d ∪ (full ∩ x))

  fed_alone : Feeds N z x r m m'
  fed_alone =
      record {
        back_is = λ c e p q. go c e p q (same e d) (same c d) refl refl
            ∙ ap₂ (λ (b b' : Bool). cond b (cond b' (back_at m c e ∪ (up_at m e ∩ x ∩ get_or r c 0)) (back_at m c e))
            (back_at m c e)) (sym (only e)) (sym (only c));
        up_is = λ e p. get_or-set_other m (back_cell d d) (up_cell e) _ 0 (up-back d d e (omega arith));
      }
    where
      up-back : (c d e : ℕ) → c < most_charts → up_cell e ≡ back_cell c d → ⊥
      up-back c d e p y = omega arith

      other : (c e : ℕ) → c < N → e < N → (c ≡ d → e ≡ d → ⊥) → back_at m' c e ≡ back_at m c e
      other c e p q n = get_or-set_other m (back_cell d d) (back_cell c e) _ 0 (λ y. n (omega arith) (omega arith))

      go : (c e : ℕ) → c < N → e < N → (b b' : Bool) → same e d ≡ b → same c d ≡ b'
          → back_at m' c e ≡ cond b (cond b' (back_at m c e ∪ (up_at m e ∩ x ∩ get_or r c 0)) (back_at m c e)) (back_at m c e)
      go c e p q true true i k = let ec : c ≡ d = same→≡ c d k in let ee : e ≡ d = same→≡ e d i in
          ap₂ back_at' ec ee ∙ get_or-set_same m (back_cell d d) _ 0 (omega arith)
          ∙ sets (back_at m d d ∷ full ∷ x ∷ up_at m d ∷ get_or r d 0 ∷ []) (D ≐ B ∷ Eₑ ≐ B ∷ [])
          (A ∪ₑ (B ∩ₑ C) ≐ A ∪ₑ (D ∩ₑ C ∩ₑ Eₑ)) tt up down
          ∙ ap₂ (λ (c e : ℕ). back_at m c e ∪ (up_at m e ∩ x ∩ get_or r c 0)) (sym ec) (sym ee)
        where
          back_at' : ℕ → ℕ → ℕ
          back_at' = λ c e. back_at m' c e
      go c e p q true false i k = other c e p q (λ u v. same→≢ c d k u)
      go c e p q false b' i k = other c e p q (λ u v. same→≢ e d i v)

-- the set of the chart and of what is inside it
set_is : (F : File) (d : ℕ) (l : List ℕ) (z x : Set) → z ≡ x ∪ single d → Inside F d l F.slaves x → (c : ℕ)
    → bit z c ≡ (same c d || inside F d l F.slaves c)
set_is F d l z x e h c = ap (λ (s : Set). bit s c) e ∙ with_is x d c ∙ ap (λ (b : Bool). same c d || b) (h c)

only_it : (d : ℕ) (z x : Set) → z ≡ x ∪ single d → x ≡ 0 → (c : ℕ) → bit z c ≡ same c d
only_it d z x e h c =
    ap (λ (s : Set). bit s c) e ∙ with_is x d c
    ∙ ap (λ (b : Bool). same c d || b) (ap (λ (s : Set). bit s c) h ∙ bit-none c) ∙ or-false (same c d)

pub returns-then-inner-eq0 : goal.returns-then-inner-eq0
unfolding file_at full
returns-then-inner-eq0 c =
    let a = c.args in
    let d = a.a in
    let F = file_at a.n a.body.now in
    let x = (F.chart d).feedback in
    let m = set a.masks.now (up_cell d) full in
    let z = c.with-set.result in
    let few = c.requires.0.sized.charts in
    let there = c.requires.1 in
    let room = c.requires.2 in
    let long = c.requires.3 in
    let fb = is_feedback a.n a.body.now d c.head_at-head.ensures in
    let e : c.put_back.new.masks ≡ set m (back_cell d d) (back_at m d d ∪ (full ∩ x)) =
    c.put_back.ensures
    ∙ ap₂ (λ (m : List ℕ) (v : ℕ). set m (back_cell d d) v) c.put_up.ensures
    (ap₂ (λ (v f : ℕ). v ∪ (full ∩ f))
    (c.back.ensures ∙ ap (λ (m : List ℕ). back_at m d d) c.put_up.ensures) fb) in
    record {
      set_is = set_is F d a.sets.now z c.inside-inner.result c.with-set.ensures c.inside-inner.ensures;
      down_is = refl;
      fed = subst (Feeds a.n.charts z x (set a.down.now d full) m) (sym e)
          (fed_alone a.n.charts d few z x (set a.down.now d full) m there
          (only_it d z c.inside-inner.result c.with-set.ensures c.if-inner-eq0.true)
          (get_or-set_same a.down.now d full 0 (omega arith))
          (get_or-set_same a.masks.now (up_cell d) full 0 (omega arith))
          (rw (length-set a.masks.now (up_cell d) full) room));
    }

pub returns : goal.returns
unfolding file_at full
returns c =
    let a = c.args in
    let F = file_at a.n a.body.now in
    record {
      set_is =
          set_is F a.a a.sets.now c.with-set.result c.inside-inner.result c.with-set.ensures c.inside-inner.ensures;
      down_is = refl;
      fed = subst₂ (λ (x : Set) (m : List ℕ). Feeds a.n.charts c.with-set.result x
          (set a.down.now a.a full) m c.feed.new.masks)
          (is_feedback a.n a.body.now a.a c.head_at-head.ensures) c.put_up.ensures c.feed.ensures;
    }
