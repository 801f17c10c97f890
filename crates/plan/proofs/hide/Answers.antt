use mathlib.Core.Path.{◌≡◌, refl, sym, ap, ◌∙◌, subst₂}
use mathlib.Core.Bool.{Bool, true, false}
use mathlib.Core.List.{List}
use Prim.Native.Nat.{ℕ, ◌+◌, ◌≤◌, ◌<◌}
use native.Mathlib.Omega.{arith}
use borrow.Author.Count.{below_more}
use lib.ListN.{length, get_or, set, length-set}
use lib.Seq.{get_or-set_same, get_or-set_other}
use Rattle.signals.specs.Mask.{◌∖◌, bit}
use Rattle.meaning.specs.Numbers.{most_charts}
use Rattle.meaning.specs.Meaning.{Set}
use Rattle.cells.specs.Table.{back_cell, up_cell, masks_for, up_at}
use Rattle.plan.proofs.hide.Goals as goal
use Rattle.plan.proofs.hide.Goals.{In-loop-c, else-has, then-has}
use Rattle.plan.proofs.hide.Invariants.{left, Hidden}

hidden_none : (s x y : Set) (r l : List ℕ) → Hidden 0 s x y r r l l
hidden_none s x y r l =
    record {
      down_is = λ c p. absurd (omega arith);
      down_rest = λ c p. refl;
      up_is = λ d p. absurd (omega arith);
      up_rest = λ d p. refl;
      back_is = λ c d p. refl;
      long = refl;
    }

-- one chart more
module _ (n : ℕ) (s x y : Set) (r q l m : List ℕ) (h : Hidden n s x y r q l m) where
  hidden_in : (u v : Set) → n < length q → up_cell n < length m → bit s n ≡ true → u ≡ get_or q n 0 ∖ x → v ≡ up_at m n ∖ y
      → Hidden (n + 1) s x y r (set q n u) l (set m (up_cell n) v)
  hidden_in u v a b i e f =
      record {
        down_is = below_more (λ (c : ℕ). get_or (set q n u) c 0 ≡ left (bit s c) (get_or r c 0) x) n
            (λ c p. get_or-set_other q n c u 0 (λ z. omega arith) ∙ h.down_is c p)
            (get_or-set_same q n u 0 a ∙ e ∙ ap (λ (w : Set). w ∖ x) (h.down_rest n (omega arith))
            ∙ sym (ap (λ (t : Bool). left t (get_or r n 0) x) i));
        down_rest = λ c p. get_or-set_other q n c u 0 (λ z. omega arith) ∙ h.down_rest c (omega arith);
        up_is = below_more (λ (d : ℕ). up_at (set m (up_cell n) v) d ≡ left (bit s d) (up_at l d) y) n
            (λ d p. get_or-set_other m (up_cell n) (up_cell d) v 0 (λ z. omega arith) ∙ h.up_is d p)
            (get_or-set_same m (up_cell n) v 0 b ∙ f ∙ ap (λ (w : Set). w ∖ y) (h.up_rest n (omega arith))
            ∙ sym (ap (λ (t : Bool). left t (up_at l n) y) i));
        up_rest = λ d p. get_or-set_other m (up_cell n) (up_cell d) v 0 (λ z. omega arith) ∙ h.up_rest d (omega arith);
        back_is = λ c d p. get_or-set_other m (up_cell n) (back_cell c d) v 0 (λ z. omega arith) ∙ h.back_is c d p;
        long = length-set q n u ∙ h.long;
      }

  hidden_out : bit s n ≡ false → Hidden (n + 1) s x y r q l m
  hidden_out i =
      record {
        down_is = below_more (λ (c : ℕ). get_or q c 0 ≡ left (bit s c) (get_or r c 0) x) n h.down_is
            (h.down_rest n (omega arith) ∙ sym (ap (λ (t : Bool). left t (get_or r n 0) x) i));
        down_rest = λ c p. h.down_rest c (omega arith);
        up_is = below_more (λ (d : ℕ). up_at m d ≡ left (bit s d) (up_at l d) y) n h.up_is
            (h.up_rest n (omega arith) ∙ sym (ap (λ (t : Bool). left t (up_at l n) y) i));
        up_rest = λ d p. h.up_rest d (omega arith);
        back_is = h.back_is;
        long = h.long;
      }

pub loop-c-preserved : goal.loop-c-preserved
loop-c-preserved c =
    let a = c.args in
    let Now : List ℕ → List ℕ → Type 0 = λ m q. (length m ≡ length a.masks.now)
    × Hidden (c.loop-c.c + 1) a.set a.x a.y a.down.now q a.masks.now m in
    let z : Now c.if-has.masks c.if-has.down =
    elim c.if-has.branch [
      | then-has w ↦ subst₂ Now (sym w.masks-is) (sym w.down-is) (rw w.put_up.ensures (
        length-set c.loop-c.masks _ _ ∙ c.loop-c.invariant.0,
        hidden_in c.loop-c.c a.set a.x a.y a.down.now c.loop-c.down a.masks.now c.loop-c.masks c.loop-c.invariant.1 _ _
            (omega (arith, c.loop-c.invariant.1.long, c.requires.2, c.requires.1)) (omega (arith, c.loop-c.invariant.0, c.requires.0))
            (sym c.has.ensures ∙ w.if-has.true) w.less.ensures (w.less-up.ensures ∙ ap (λ (u : Set). u ∖ a.y) w.up.ensures),
      ))
      | else-has w ↦ subst₂ Now (sym w.masks-is) (sym w.down-is) (
        c.loop-c.invariant.0,
        hidden_out c.loop-c.c a.set a.x a.y a.down.now c.loop-c.down a.masks.now c.loop-c.masks c.loop-c.invariant.1
            (sym c.has.ensures ∙ w.if-has.false),
      )
    ] in
    (z.0, z.1)

pub returns : goal.returns
returns c =
    let i = c.loop-c.invariant in
    let p = c.requires in
    record {
      down_is = λ k l. i.1.down_is k (omega arith);
      up_is = λ k l. i.1.up_is k (omega arith);
      back_is = λ k d l m. i.1.back_is k d (omega (arith, p.1));
      long = i.1.long;
    }

-- the masks are as many as they were
room : (c : In-loop-c)
    → (masks_for (c.loop-c.c + 1) ≤ length c.loop-c.masks) × (c.loop-c.c < most_charts)
room c = let p = c.requires in (omega (arith, p.0, c.loop-c.invariant.0), omega (arith, p.1))

pub loop-c-init : goal.loop-c-init
loop-c-init c = (refl, hidden_none _ _ _ _ _)

pub overflow_cast-c : goal.overflow_cast-c
overflow_cast-c c = omega arith

pub has-requires : goal.has-requires
has-requires c = omega arith

pub offset_bounds-down-c : goal.offset_bounds-down-c
offset_bounds-down-c c = omega arith

pub bounds-down-c : goal.bounds-down-c
bounds-down-c c = omega arith

pub less-requires : goal.less-requires
less-requires c = tt

pub offset_bounds-down-c-then-has : goal.offset_bounds-down-c-then-has
offset_bounds-down-c-then-has c = omega arith

pub bounds-down-c-then-has : goal.bounds-down-c-then-has
bounds-down-c-then-has c = omega arith

pub up-requires : goal.up-requires
up-requires c = room (goal.at.up-requires c).In-loop-c

pub less-up-requires : goal.less-up-requires
less-up-requires c = tt

pub put_up-requires : goal.put_up-requires
put_up-requires c = room (goal.at.put_up-requires c).In-loop-c

pub shape_of-masks : goal.shape_of-masks
shape_of-masks c = c.loop-c.invariant.0
