use mathlib.Core.Path.{◌≡◌, refl, sym, ap, ap₂, ◌∙◌, subst}
use mathlib.Core.Bool.{Bool, true, false, cond}
use mathlib.Core.List.{List, [], ◌∷◌}
use Prim.Native.Nat.{ℕ, ◌+◌, ◌≤◌, ◌<◌}
use native.Mathlib.Decide.{dec_lt}
use native.Mathlib.Omega.{arith}
use borrow.Author.Count.{below_more}
use lib.ListN.{length, get_or}
use Rattle.signals.specs.Mask.{◌∪◌, ◌∩◌, bit}
use Rattle.signals.specs.Decide.{sets, A, B, C, D, ∅ₑ, ◌∪ₑ◌, ◌∩ₑ◌, ◌≐◌}
use Rattle.meaning.specs.Numbers.{most_charts}
use Rattle.meaning.specs.Meaning.{Set}
use Rattle.cells.specs.Table.{back_row, back_cell, up_cell, back_at, up_at}
use Rattle.layout.specs.Row.{RowAt}
use Rattle.plan.specs.ByNode.{DownRow, fed_row, fed_at}
use Rattle.plan.proofs.feed.Goals as goal
use Rattle.plan.proofs.feed.Goals.{else-has, then-has}
use Rattle.plan.proofs.feed.Invariants.{Fed}

-- what is fed by the row q of the part's charts, for one of them and for another
fed_is : (b : Bool) (u m v : Set) → u ∪ (m ∩ cond b v 0) ≡ cond b (u ∪ (m ∩ v)) u
fed_is true u m v = refl
fed_is false u m v = sets (u ∷ m ∷ []) [] (A ∪ₑ (B ∩ₑ ∅ₑ) ≐ A) tt

fed_row_lem : (N n : ℕ) (s v : Set) (r q m m' : List ℕ) → DownRow s r N q
    → RowAt (back_row n) N (λ c. back_at m c n ∪ (v ∩ get_or q c 0)) m m' → RowAt (back_row n) N (fed_row s v n r m) m m'
fed_row_lem N n s v r q m m' d h =
    record {
      in_row = λ c p. h.in_row c p ∙ ap (λ z. back_at m c n ∪ (v ∩ z)) (d c p)
          ∙ fed_is (bit s c) (back_at m c n) v (get_or r c 0);
      below = h.below;
      above = h.above;
      long = h.long;
    }

fed_none : (N : ℕ) (s x : Set) (r l : List ℕ) → Fed N 0 s x r l l
fed_none N s x r l = record { in_rows = λ c d p q. absurd (omega arith); rest = λ k p. refl; ups = λ d. refl }

-- one row more
module _ (N n : ℕ) (few : N ≤ most_charts) (s x : Set) (r l m : List ℕ) (h : Fed N n s x r l m) where
  fed_in_lem : (m' : List ℕ) (v : Set) → bit s n ≡ true → v ≡ up_at m n
      → RowAt (back_row n) N (fed_row s (v ∩ x) n r m) m m' → Fed N (n + 1) s x r l m'
  fed_in_lem m' v b e f =
      record {
        in_rows = λ c d p q.
            below_more (λ (d : ℕ). back_at m' c d ≡ fed_at s x r l c d) n
            (λ k z. f.below (back_cell c k) (omega arith) ∙ h.in_rows c k p z)
            (f.in_row c p
            ∙ ap₂ (λ (u w : Set). cond (bit s c) (u ∪ (w ∩ x ∩ get_or r c 0)) u) (h.rest (back_cell c n) (omega arith))
            (e ∙ h.ups n)
            ∙ sym (ap (λ (t : Bool). cond t (fed_row s (up_at l n ∩ x) n r l c) (back_at l c n)) b))
            d q;
        rest = λ k p. f.above k (omega arith) ∙ h.rest k (omega arith);
        ups = λ d. kept d (dec_lt d n) ∙ h.ups d;
      }
    where
      kept : (d : ℕ) → Dec (d < n) → up_at m' d ≡ up_at m d
      kept d (yes p) = f.below (up_cell d) (omega arith)
      kept d (no p) = f.above (up_cell d) (omega arith)

  fed_out : bit s n ≡ false → Fed N (n + 1) s x r l m
  fed_out b =
      record {
        in_rows = λ c d p q.
            below_more (λ (d : ℕ). back_at m c d ≡ fed_at s x r l c d) n
            (λ k z. h.in_rows c k p z)
            (h.rest (back_cell c n) (omega arith)
            ∙ sym (ap (λ (t : Bool). cond t (fed_row s (up_at l n ∩ x) n r l c) (back_at l c n)) b))
            d q;
        rest = λ k p. h.rest k (omega arith);
        ups = h.ups;
      }

-- nothing is in x
nothing : (e b : Bool) (v u x r : Set) → x ≡ 0 → v ≡ cond e (cond b (v ∪ (u ∩ x ∩ r)) v) v
nothing true true v u x r h = sets (v ∷ u ∷ x ∷ r ∷ []) (C ≐ ∅ₑ ∷ []) (A ≐ A ∪ₑ (B ∩ₑ C ∩ₑ D)) tt h
nothing true false v u x r h = refl
nothing false b v u x r h = refl

pub returns-then-x-eq0 : goal.returns-then-x-eq0
returns-then-x-eq0 c =
    let a = c.args in
    record {
      back_is = λ k d p q. nothing (bit a.set d) (bit a.set k) _ (up_at a.masks.now d) a.x
          (get_or a.down.now k 0) c.if-x-eq0.true;
      up_is = λ d p. refl;
    }

pub loop-d-preserved : goal.loop-d-preserved
loop-d-preserved c =
    let a = c.args in
    let Now : List ℕ → Type 0 = λ m. (length m ≡ length a.masks.now)
    × Fed a.charts (c.loop-d.d + 1) a.set a.x a.down.now a.masks.now m in
    let z : Now c.if-has.masks =
    elim c.if-has.branch [
      | then-has w ↦ subst Now (sym w.masks-is) (
        w.feed_row.auto.masks ∙ c.loop-d.invariant.0,
        fed_in_lem a.charts c.loop-d.d c.requires.1 a.set a.x a.down.now a.masks.now c.loop-d.masks c.loop-d.invariant.1 _
            w.up.result
            (sym c.has.ensures ∙ w.if-has.true) w.up.ensures (fed_row_lem a.charts c.loop-d.d a.set (w.up.result ∩ a.x)
            a.down.now c.down_row-offered.result c.loop-d.masks _
            c.down_row-offered.ensures w.feed_row.ensures),
      )
      | else-has w ↦ subst Now (sym w.masks-is) (
        c.loop-d.invariant.0,
        fed_out a.charts c.loop-d.d c.requires.1 a.set a.x a.down.now a.masks.now c.loop-d.masks c.loop-d.invariant.1
            (sym c.has.ensures ∙ w.if-has.false),
      )
    ] in
    (z.0, z.1)

pub returns : goal.returns
returns c =
    let i = c.loop-d.invariant in
    record { back_is = λ k d p q. i.1.in_rows k d p (omega arith); up_is = λ d p. i.1.ups d }

pub down_row-offered-requires : goal.down_row-offered-requires
down_row-offered-requires c = c.requires.1

pub loop-d-init : goal.loop-d-init
loop-d-init c = (refl, fed_none _ _ _ _ _)

pub overflow_cast-d : goal.overflow_cast-d
overflow_cast-d c = omega arith

pub has-requires : goal.has-requires
has-requires c = omega arith

pub up-requires : goal.up-requires
up-requires c =
    let p = c.requires in
    (omega (arith, c.loop-d.invariant.0, p.0), omega (arith, p.1))

pub feed_row-requires : goal.feed_row-requires
feed_row-requires c =
    let p = c.requires in
    (omega (arith, c.loop-d.invariant.0, p.0), p.1, omega arith)

pub shape_of-masks : goal.shape_of-masks
shape_of-masks c = c.loop-d.invariant.0
