-- A tree folded into masks: what of the offered set and of each chart's action reaches each chart, and the output.
use Rattle.std.specs.Prelude.{◌≡◌, refl, Bool, true, false, ◌&&◌, cond, ℕ, zero, suc, ◌<◌, ◌≢◌, ◌^◌, ◌-◌}
use Rattle.std.proofs.Common.{sym, ◌∙◌, ap, ap₂, subst, true≢false, arith}
use Rattle.std.proofs.Math.Path.{fun_ext}
use Rattle.std.proofs.Math.Option.{Option, none, some}
use mathlib.Core.List.{[], ◌∷◌}
use Rattle.signals.specs.Mask.{◌∪◌, ◌∩◌, ◌∖◌}
use Rattle.signals.specs.Decide.{sets, A, B, C, D, E as Eₑ, F as Fₑ, G as Gₑ, ∅ₑ, ◌∪ₑ◌, ◌∩ₑ◌, ◌∖ₑ◌, ◌≐◌}
use Rattle.meaning.specs.Rewriting.{union_up_to}
use Rattle.meaning.specs.Meaning.{Set, ∅, same, Chart, Tree, Slaves, leaf, comp, hide, dec, nil, snoc, Move, no_move}
use Rattle.meaning.specs.Meaning.{takes, stay, action_of, met?, untriggered, out, outs, ok_chart, meets}
use Rattle.meaning.specs.Sums.Laws.{or_left, or_right}
use Rattle.meaning.specs.Laws.Bools.{and_second, or_l, or_r, same_refl, same→≡, same→≢, same_≢}
use Rattle.meaning.specs.File.{Has, HasS}
use Rattle.wiring.specs.Uncut.{ok_u, oks_u}

-- ── the wiring ──
-- the 64 signals
unfoldable pub full : Set
full = 2 ^ 64 - 1

-- all signals if c is d, else none
unfoldable pub own : ℕ → ℕ → Set
own d c = cond (same c d) full ∅

-- a set of signals 0 to 63
abbrev pub Small : Set → Type 0
Small s = s ∩ full ≡ s

unfoldable mutual
  -- what of a set offered to the tree gets down to chart c
  pub down : Tree → ℕ → Set
  down (leaf d) c = own d c
  down (comp l r x) c = down l c ∪ down r c
  down (hide l x y) c = down l c ∖ x
  down (dec d ss) c = own d c ∪ downs ss c

  pub downs : Slaves → ℕ → Set
  downs nil c = ∅
  downs (snoc ss i t) c = downs ss c ∪ down t c

unfoldable mutual
  -- what of chart e's action gets up to the tree's output
  pub up : Tree → ℕ → Set
  up (leaf d) e = own d e
  up (comp l r x) e = up l e ∪ up r e
  up (hide l x y) e = up l e ∖ y
  up (dec d ss) e = own d e ∪ ups ss e

  pub ups : Slaves → ℕ → Set
  ups nil e = ∅
  ups (snoc ss i t) e = ups ss e ∪ up t e

module _ (E : ℕ → Chart) where
  unfoldable mutual
    -- what of chart e's action gets to chart c by feedback in the tree
    pub back : Tree → ℕ → ℕ → Set
    back (leaf d) c e = own d c ∩ own d e ∩ (E d).feedback
    back (comp l r x) c e = (back l c e ∪ back r c e) ∪ (down l c ∪ down r c) ∩ (up l e ∪ up r e) ∩ x
    back (hide l x y) c e = back l c e
    back (dec d ss) c e = backs ss c e ∪ (own d c ∪ downs ss c) ∩ (own d e ∪ ups ss e) ∩ (E d).feedback

    pub backs : Slaves → ℕ → ℕ → Set
    backs nil c e = ∅
    backs (snoc ss i t) c e = backs ss c e ∪ back t c e

-- what a chart is offered, from its row of the wiring
unfoldable pub offered : ℕ → (ℕ → Set) → Set → Set → (ℕ → Set) → Set
offered N act z a b = z ∩ a ∪ union_up_to N (λ e. act e ∩ b e)

-- the rule of a chart, its feedback in what it is offered
unfoldable pub fits : Chart → Bool → Set → ℕ → Move → Bool
fits K false o s no_move = true
fits K false o s (takes t) = false
fits K false o s stay = false
fits K true o s no_move = false
fits K true o s (takes t) = same t.from s && met? t o o
fits K true o s stay = K.stays && untriggered K.transitions s o o

-- for every chart of the tree
unfoldable mutual
  pub each : Tree → (ℕ → Bool) → Bool
  each (leaf d) f = f d
  each (comp l r x) f = each l f && each r f
  each (hide l x y) f = each l f
  each (dec d ss) f = f d && eachs ss f

  pub eachs : Slaves → (ℕ → Bool) → Bool
  eachs nil f = true
  eachs (snoc ss i t) f = eachs ss f && each t f

-- the charts are below N, and no two are the same
abbrev mutual
  pub Held : ℕ → Tree → Type 0
  Held N (leaf d) = d < N
  Held N (comp l r x) = Held N l × Held N r × ((c : ℕ) → (Has l c && Has r c) ≡ false)
  Held N (hide l x y) = Held N l
  Held N (dec d ss) = (d < N) × Helds N ss × (HasS ss d ≡ false)

  pub Helds : ℕ → Slaves → Type 0
  Helds N nil = Unit {0}
  Helds N (snoc ss i t) = Helds N ss × Held N t × ((c : ℕ) → (Has t c && HasS ss c) ≡ false)

-- enc c is the nearest slave that chart c is in; sc i is the master of slave i
module _ (enc : ℕ → Option ℕ) (sc : ℕ → ℕ) where
  abbrev mutual
    pub Enc : Tree → Option ℕ → Type 0
    Enc (leaf d) κ = enc d ≡ κ
    Enc (comp l r x) κ = Enc l κ × Enc r κ
    Enc (hide l x y) κ = Enc l κ
    Enc (dec d ss) κ = (enc d ≡ κ) × Encs ss d

    pub Encs : Slaves → ℕ → Type 0
    Encs nil d = Unit {0}
    Encs (snoc ss i t) d = Encs ss d × (sc i ≡ d) × Enc t (some i)

-- a chart's activity, from its master's
abbrev pub awake_by : (ℕ → ℕ) → (ℕ → ℕ) → (ℕ → ℕ) → (ℕ → Move) → (ℕ → Bool) → Option ℕ → Bool
awake_by sc state cfg M act none = true
awake_by sc state cfg M act (some i) = act (sc i) && meets (cfg (sc i)) (M (sc i)) (state i)

-- ── identities of sets ──
pub own_on : (d : ℕ) → own d d ≡ full
unfolding own
own_on d = ap (λ b. cond b full ∅) (same_refl d)

pub own_off : (d c : ℕ) → same c d ≡ false → own d c ≡ ∅
unfolding own
own_off d c e = ap (λ b. cond b full ∅) e

none_or : {a b : Set} → a ≡ ∅ → b ≡ ∅ → a ∪ b ≡ ∅
none_or {a} {b} = sets (a ∷ b ∷ []) (A ≐ ∅ₑ ∷ B ≐ ∅ₑ ∷ []) (A ∪ₑ B ≐ ∅ₑ) tt

none_less : {a : Set} (x : Set) → a ≡ ∅ → a ∖ x ≡ ∅
none_less {a} x = sets (a ∷ x ∷ []) (A ≐ ∅ₑ ∷ []) (A ∖ₑ B ≐ ∅ₑ) tt

none-cut : {a : Set} (y x : Set) → a ≡ ∅ → a ∩ y ∩ x ≡ ∅
none-cut {a} y x = sets (a ∷ y ∷ x ∷ []) (A ≐ ∅ₑ ∷ []) (A ∩ₑ B ∩ₑ C ≐ ∅ₑ) tt

-- ── joins ──
join_feed : (N : ℕ) (act b y : ℕ → Set) (a x : Set)
    → union_up_to N (λ e. act e ∩ (b e ∪ a ∩ y e ∩ x))
    ≡ union_up_to N (λ e. act e ∩ b e) ∪ union_up_to N (λ e. act e ∩ y e) ∩ x ∩ a
unfolding union_up_to
join_feed zero act b y a x = sets (a ∷ x ∷ []) [] (∅ₑ ≐ ∅ₑ ∪ₑ ∅ₑ ∩ₑ B ∩ₑ A) tt
join_feed (suc k) act b y a x = ap (λ j. j ∪ act k ∩ (b k ∪ a ∩ y k ∩ x)) (join_feed k act b y a x)
    ∙ sets (union_up_to k (λ e. act e ∩ b e) ∷ union_up_to k (λ e. act e ∩ y e) ∷ act k ∷ b k ∷ y k ∷ a ∷ x ∷ []) []
    (A ∪ₑ B ∩ₑ Gₑ ∩ₑ Fₑ ∪ₑ C ∩ₑ (D ∪ₑ Fₑ ∩ₑ Eₑ ∩ₑ Gₑ) ≐ A ∪ₑ C ∩ₑ D ∪ₑ (B ∪ₑ C ∩ₑ Eₑ) ∩ₑ Gₑ ∩ₑ Fₑ) tt

join_or : (N : ℕ) (act y z : ℕ → Set)
    → union_up_to N (λ e. act e ∩ (y e ∪ z e)) ≡ union_up_to N (λ e. act e ∩ y e) ∪ union_up_to N (λ e. act e ∩ z e)
unfolding union_up_to
join_or zero act y z = sets [] [] (∅ₑ ≐ ∅ₑ ∪ₑ ∅ₑ) tt
join_or (suc k) act y z = ap (λ j. j ∪ act k ∩ (y k ∪ z k)) (join_or k act y z)
    ∙ sets (union_up_to k (λ e. act e ∩ y e) ∷ union_up_to k (λ e. act e ∩ z e) ∷ act k ∷ y k ∷ z k ∷ []) []
    (A ∪ₑ B ∪ₑ C ∩ₑ (D ∪ₑ Eₑ) ≐ A ∪ₑ C ∩ₑ D ∪ₑ (B ∪ₑ C ∩ₑ Eₑ)) tt

join_less : (N : ℕ) (act y : ℕ → Set) (x : Set)
    → union_up_to N (λ e. act e ∩ (y e ∖ x)) ≡ union_up_to N (λ e. act e ∩ y e) ∖ x
unfolding union_up_to
join_less zero act y x = sets (x ∷ []) [] (∅ₑ ≐ ∅ₑ ∖ₑ A) tt
join_less (suc k) act y x = ap (λ j. j ∪ act k ∩ (y k ∖ x)) (join_less k act y x)
    ∙ sets (union_up_to k (λ e. act e ∩ y e) ∷ act k ∷ y k ∷ x ∷ []) []
    (A ∖ₑ D ∪ₑ B ∩ₑ (C ∖ₑ D) ≐ (A ∪ₑ B ∩ₑ C) ∖ₑ D) tt

join_none : (N : ℕ) (act y : ℕ → Set) → ((e : ℕ) → e < N → y e ≡ ∅) → union_up_to N (λ e. act e ∩ y e) ≡ ∅
unfolding union_up_to
join_none zero act y h = refl
join_none (suc k) act y h =
    sets (union_up_to k (λ e. act e ∩ y e) ∷ act k ∷ y k ∷ []) (A ≐ ∅ₑ ∷ C ≐ ∅ₑ ∷ []) (A ∪ₑ B ∩ₑ C ≐ ∅ₑ) tt
    (join_none k act y (λ e l. h e (omega arith)))
    (h k (omega arith))

join_own : (N : ℕ) (act : ℕ → Set) (d : ℕ) → Small (act d) → d < N → union_up_to N (λ e. act e ∩ own d e) ≡ act d
unfolding union_up_to
join_own zero act d s l = absurd (omega arith)
join_own (suc k) act d s l = go (same k d) refl (λ m. join_own k act d s m)
  where
    go : (b : Bool) → same k d ≡ b → (d < k → union_up_to k (λ e. act e ∩ own d e) ≡ act d)
        → (union_up_to k (λ e. act e ∩ own d e) ∪ act k ∩ own d k) ≡ act d
    go true p rec = let q : k ≡ d = same→≡ k d p in
        sets (union_up_to k (λ e. act e ∩ own d e) ∷ act k ∷ own d k ∷ full ∷ act d ∷ [])
        (A ≐ ∅ₑ ∷ C ≐ D ∷ B ≐ Eₑ ∷ Eₑ ∩ₑ D ≐ Eₑ ∷ []) (A ∪ₑ B ∩ₑ C ≐ Eₑ) tt
        (join_none k act (own d) (λ e l. own_off d e (same_≢ e d (λ z. omega arith)))) (ap (own d) q ∙ own_on d)
        (ap act q) s
    go false p rec = let z : k ≢ d = same→≢ k d p in
        sets (union_up_to k (λ e. act e ∩ own d e) ∷ act k ∷ own d k ∷ act d ∷ []) (A ≐ D ∷ C ≐ ∅ₑ ∷ [])
        (A ∪ₑ B ∩ₑ C ≐ D) tt
        (rec (omega arith))
        (own_off d k p)

join_small : (N : ℕ) (act y : ℕ → Set) → ((e : ℕ) → Small (act e)) → Small (union_up_to N (λ e. act e ∩ y e))
unfolding union_up_to
join_small zero act y h = sets (full ∷ []) [] (∅ₑ ∩ₑ A ≐ ∅ₑ) tt
join_small (suc k) act y h =
    sets (union_up_to k (λ e. act e ∩ y e) ∷ act k ∷ y k ∷ full ∷ []) (A ∩ₑ D ≐ A ∷ B ∩ₑ D ≐ B ∷ [])
    ((A ∪ₑ B ∩ₑ C) ∩ₑ D ≐ A ∪ₑ B ∩ₑ C) tt
    (join_small k act y h) (h k)

-- feedback of x, from rows: a chart is offered what its part is, with the feedback joined
feed : (N : ℕ) (act b y : ℕ → Set) (z a x : Set)
    → offered N act z a (λ e. b e ∪ a ∩ y e ∩ x) ≡ offered N act (z ∪ union_up_to N (λ e. act e ∩ y e) ∩ x) a b
unfolding offered
feed N act b y z a x = ap (λ j. z ∩ a ∪ j) (join_feed N act b y a x)
    ∙ sets (z ∷ a ∷ x ∷ union_up_to N (λ e. act e ∩ b e) ∷ union_up_to N (λ e. act e ∩ y e) ∷ []) []
    (A ∩ₑ B ∪ₑ (D ∪ₑ Eₑ ∩ₑ C ∩ₑ B) ≐ (A ∪ₑ Eₑ ∩ₑ C) ∩ₑ B ∪ₑ D) tt

-- ── a chart that is not in the tree has no part in the rows ──
apart_r : (a b : Bool) → (a && b) ≡ false → b ≡ true → a ≡ false
apart_r true b h e = absurd (true≢false (sym e ∙ h))
apart_r false b h e = refl

mutual
  unfolding down Has

  pub down_off : (t : Tree) (c : ℕ) → Has t c ≡ false → down t c ≡ ∅
  down_off (leaf d) c h = own_off d c h
  down_off (comp l r x) c h =
      none_or (down_off l c (or_left (Has l c) (Has r c) h)) (down_off r c (or_right (Has l c) (Has r c) h))
  down_off (hide l x y) c h = none_less x (down_off l c h)
  down_off (dec d ss) c h =
      none_or (own_off d c (or_left (same c d) (HasS ss c) h)) (downs_off ss c (or_right (same c d) (HasS ss c) h))

  pub downs_off : (ss : Slaves) (c : ℕ) → HasS ss c ≡ false → downs ss c ≡ ∅
  downs_off nil c h = refl
  downs_off (snoc ss i t) c h =
      none_or (downs_off ss c (or_right (Has t c) (HasS ss c) h)) (down_off t c (or_left (Has t c) (HasS ss c) h))

mutual
  unfolding up Has

  pub up_off : (t : Tree) (e : ℕ) → Has t e ≡ false → up t e ≡ ∅
  up_off (leaf d) e h = own_off d e h
  up_off (comp l r x) e h =
      none_or (up_off l e (or_left (Has l e) (Has r e) h)) (up_off r e (or_right (Has l e) (Has r e) h))
  up_off (hide l x y) e h = none_less y (up_off l e h)
  up_off (dec d ss) e h =
      none_or (own_off d e (or_left (same e d) (HasS ss e) h)) (ups_off ss e (or_right (same e d) (HasS ss e) h))

  pub ups_off : (ss : Slaves) (e : ℕ) → HasS ss e ≡ false → ups ss e ≡ ∅
  ups_off nil e h = refl
  ups_off (snoc ss i t) e h =
      none_or (ups_off ss e (or_right (Has t e) (HasS ss e) h)) (up_off t e (or_left (Has t e) (HasS ss e) h))

module _ (E : ℕ → Chart) where
  mutual
    unfolding back down Has

    pub back_off : (t : Tree) (c : ℕ) → Has t c ≡ false → (e : ℕ) → back E t c e ≡ ∅
    back_off (leaf d) c h e = none-cut (own d e) (E d).feedback (own_off d c h)
    back_off (comp l r x) c h e = none_or
        (none_or (back_off l c (or_left (Has l c) (Has r c) h) e) (back_off r c (or_right (Has l c) (Has r c) h) e))
        (none-cut (up l e ∪ up r e) x (down_off (comp l r x) c h))
    back_off (hide l x y) c h e = back_off l c h e
    back_off (dec d ss) c h e =
        none_or (backs_off ss c (or_right (same c d) (HasS ss c) h) e)
        (none-cut (own d e ∪ ups ss e) (E d).feedback (down_off (dec d ss) c h))

    pub backs_off : (ss : Slaves) (c : ℕ) → HasS ss c ≡ false → (e : ℕ) → backs E ss c e ≡ ∅
    backs_off nil c h e = refl
    backs_off (snoc ss i t) c h e =
        none_or (backs_off ss c (or_right (Has t c) (HasS ss c) h) e) (back_off t c (or_left (Has t c) (HasS ss c) h) e)

-- ── every chart of a tree ──
mutual
  unfolding each Has

  each_cong : (t : Tree) (f g : ℕ → Bool) → ((c : ℕ) → Has t c ≡ true → f c ≡ g c) → each t f ≡ each t g
  each_cong (leaf d) f g h = h d (same_refl d)
  each_cong (comp l r x) f g h =
      ap₂ ◌&&◌ (each_cong l f g (λ c k. h c (or_l (Has l c) (Has r c) k)))
      (each_cong r f g (λ c k. h c (or_r (Has l c) (Has r c) k)))
  each_cong (hide l x y) f g h = each_cong l f g h
  each_cong (dec d ss) f g h =
      ap₂ ◌&&◌ (h d (or_l (same d d) (HasS ss d) (same_refl d)))
      (eachs_cong ss f g (λ c k. h c (or_r (same c d) (HasS ss c) k)))

  eachs_cong : (ss : Slaves) (f g : ℕ → Bool) → ((c : ℕ) → HasS ss c ≡ true → f c ≡ g c) → eachs ss f ≡ eachs ss g
  eachs_cong nil f g h = refl
  eachs_cong (snoc ss i t) f g h =
      ap₂ ◌&&◌ (eachs_cong ss f g (λ c k. h c (or_r (Has t c) (HasS ss c) k)))
      (each_cong t f g (λ c k. h c (or_l (Has t c) (HasS ss c) k)))

-- ── the output ──
module _ (N : ℕ) (M : ℕ → Move) (small : (e : ℕ) → Small (action_of (M e))) where
  acts : ℕ → Set
  acts e = action_of (M e)

  mutual
    unfolding out up acts

    pub out_wired : (t : Tree) → Held N t → out M t ≡ union_up_to N (λ e. action_of (M e) ∩ up t e)
    out_wired (leaf d) h = sym (join_own N acts d (small d) h)
    out_wired (comp l r x) h = ap₂ ◌∪◌ (out_wired l h.0) (out_wired r h.1) ∙ sym (join_or N acts (up l) (up r))
    out_wired (hide l x y) h = ap (λ s. s ∖ y) (out_wired l h) ∙ sym (join_less N acts (up l) y)
    out_wired (dec d ss) h = ap₂ ◌∪◌ (sym (join_own N acts d (small d) h.0)) (outs_wired ss h.1)
        ∙ sym (join_or N acts (own d) (ups ss))

    outs_wired : (ss : Slaves) → Helds N ss → outs M ss ≡ union_up_to N (λ e. action_of (M e) ∩ ups ss e)
    outs_wired nil h = sym (join_none N acts (λ e. ∅) (λ e l. refl))
    outs_wired (snoc ss i t) h =
        ap₂ ◌∪◌ (outs_wired ss h.0) (out_wired t h.1) ∙ sym (join_or N acts (ups ss) (up t))

-- ── what a part's chart is offered ──
ok_c_fits : (K : Chart) (a : Bool) (o : Set) (s : ℕ) (m : Move)
    → ok_chart K a o s m ≡ fits K a (o ∪ action_of m ∩ K.feedback) s m
unfolding ok_chart fits action_of
ok_c_fits K false o s no_move = refl
ok_c_fits K false o s (takes t) = refl
ok_c_fits K false o s stay = refl
ok_c_fits K true o s no_move = refl
ok_c_fits K true o s (takes t) = refl
ok_c_fits K true o s stay =
    ap (λ z. K.stays && untriggered K.transitions s z z) (sets (o ∷ K.feedback ∷ []) [] (A ≐ A ∪ₑ ∅ₑ ∩ₑ B) tt)

or-∅ : (a b : Set) → b ≡ ∅ → a ∪ b ≡ a
or-∅ a b = sets (a ∷ b ∷ []) (B ≐ ∅ₑ ∷ []) (A ∪ₑ B ≐ A) tt

∅-or : (a b : Set) → a ≡ ∅ → a ∪ b ≡ b
∅-or a b = sets (a ∷ b ∷ []) (A ≐ ∅ₑ ∷ []) (A ∪ₑ B ≐ B) tt

module _ (N : ℕ) (act : ℕ → Set) where
  fst_part : (z a₁ a₂ : Set) (b₁ b₂ : ℕ → Set) → a₂ ≡ ∅ → ((e : ℕ) → b₂ e ≡ ∅)
      → offered N act z (a₁ ∪ a₂) (λ e. b₁ e ∪ b₂ e) ≡ offered N act z a₁ b₁
  fst_part z a₁ a₂ b₁ b₂ p q = ap₂ (offered N act z) (or-∅ a₁ a₂ p) (fun_ext (λ e. or-∅ (b₁ e) (b₂ e) (q e)))

  snd_part : (z a₁ a₂ : Set) (b₁ b₂ : ℕ → Set) → a₁ ≡ ∅ → ((e : ℕ) → b₁ e ≡ ∅)
      → offered N act z (a₁ ∪ a₂) (λ e. b₁ e ∪ b₂ e) ≡ offered N act z a₂ b₂
  snd_part z a₁ a₂ b₁ b₂ p q = ap₂ (offered N act z) (∅-or a₁ a₂ p) (fun_ext (λ e. ∅-or (b₁ e) (b₂ e) (q e)))

  alone : (d : ℕ) (z a : Set) (b : ℕ → Set) → Small z → a ≡ ∅ → ((e : ℕ) → b e ≡ ∅)
      → offered N act z (own d d ∪ a) b ≡ z
  unfolding offered
  alone d z a b s p h =
      sets (z ∷ own d d ∷ a ∷ full ∷ union_up_to N (λ e. act e ∩ b e) ∷ []) (B ≐ D ∷ C ≐ ∅ₑ ∷ A ∩ₑ D ≐ A ∷ Eₑ ≐ ∅ₑ ∷ [])
      (A ∩ₑ (B ∪ₑ C) ∪ₑ Eₑ ≐ A) tt
      (own_on d) p s (join_none N act b (λ e l. h e))

  leaf_part : (d : ℕ) (z x : Set) → Small z → Small (act d) → d < N
      → offered N act z (own d d) (λ e. own d d ∩ own d e ∩ x) ≡ z ∪ act d ∩ x
  leaf_part d z x s t l = ap₂ (offered N act z) (sym (or-∅ (own d d) ∅ refl))
      (fun_ext
      (λ e. sym (∅-or ∅ (own d d ∩ own d e ∩ x) refl) ∙ ap (λ a. ∅ ∪ a ∩ own d e ∩ x) (sym (or-∅ (own d d) ∅ refl))))
      ∙ feed N act (λ e. ∅) (own d) z (own d d ∪ ∅) x
      ∙ ap (λ w. offered N act (z ∪ w ∩ x) (own d d ∪ ∅) (λ e. ∅)) (join_own N act d t l)
      ∙ alone d (z ∪ act d ∩ x) ∅ (λ e. ∅) (sets (z ∷ act d ∷ x ∷ full ∷ []) (A ∩ₑ D ≐ A ∷ B ∩ₑ D ≐ B ∷ [])
      ((A ∪ₑ B ∩ₑ C) ∩ₑ D ≐ A ∪ₑ B ∩ₑ C) tt s t) refl (λ e. refl)

  filtered : (z a x : Set) (b : ℕ → Set) → offered N act z (a ∖ x) b ≡ offered N act (z ∖ x) a b
  unfolding offered
  filtered z a x b =
      sets (z ∷ a ∷ x ∷ union_up_to N (λ e. act e ∩ b e) ∷ []) [] (A ∩ₑ (B ∖ₑ C) ∪ₑ D ≐ (A ∖ₑ C) ∩ₑ B ∪ₑ D) tt

-- ── the theorem ──
small_less : (z x : Set) → Small z → Small (z ∖ x)
small_less z x = sets (z ∷ x ∷ full ∷ []) (A ∩ₑ C ≐ A ∷ []) ((A ∖ₑ B) ∩ₑ C ≐ A ∖ₑ B) tt

small_fed : (z o x : Set) → Small z → Small o → Small (z ∪ o ∩ x)
small_fed z o x = sets (z ∷ o ∷ x ∷ full ∷ []) (A ∩ₑ D ≐ A ∷ B ∩ₑ D ≐ B ∷ []) ((A ∪ₑ B ∩ₑ C) ∩ₑ D ≐ A ∪ₑ B ∩ₑ C) tt

module _ (E : ℕ → Chart) (state : ℕ → ℕ) (cfg : ℕ → ℕ) (M : ℕ → Move) (N : ℕ) (enc : ℕ → Option ℕ) (sc : ℕ → ℕ)
    (act : ℕ → Bool)
    (awake : (c : ℕ) → c < N → act c ≡ awake_by sc state cfg M act (enc c)) (small : (e : ℕ)
    → Small (action_of (M e))) where
  -- chart c's rule, offered by its row
  abbrev pub rule_at : Set → (ℕ → Set) → (ℕ → ℕ → Set) → ℕ → Bool
  rule_at z a b c = fits (E c) (act c) (offered N (λ e. action_of (M e)) z (a c) (b c)) (cfg c) (M c)

  ap_fits : (c : ℕ) (o p : Set) → o ≡ p → fits (E c) (act c) o (cfg c) (M c) ≡ fits (E c) (act c) p (cfg c) (M c)
  ap_fits c o p e = ap (λ s. fits (E c) (act c) s (cfg c) (M c)) e

  mutual
    unfolding ok_u each Has back down out up

    pub wired : (t : Tree) (κ : Option ℕ) (a : Bool) (z : Set) → Small z → Held N t → Enc enc sc t κ
        → a ≡ awake_by sc state cfg M act κ
        → ok_u E state cfg M t a z ≡ each t (rule_at z (down t) (back E t))
    wired (leaf d) κ a z sm h k e = ok_c_fits (E d) a z (cfg d) (M d) ∙ ap₂ (λ b o. fits (E d) b o (cfg d) (M d))
        (e ∙ ap (awake_by sc state cfg M act) (sym k) ∙ sym (awake d h))
        (sym (leaf_part N (λ e. action_of (M e)) d z (E d).feedback sm (small d) h))
    wired (comp l r x) κ a z sm h k e = ap₂ ◌&&◌
        (wired l κ a z' sm' h.0 k.0 e
        ∙ sym (each_cong l (rule_at z (down (comp l r x)) (back E (comp l r x))) (rule_at z' (down l) (back E l))
        (λ c m. ap_fits c _ _
        (fed c ∙ fst_part N (λ e. action_of (M e)) z' (down l c) (down r c) (back E l c) (back E r c)
        (down_off r c (and_second (Has l c) (Has r c) (h.2 c) m))
        (back_off E r c (and_second (Has l c) (Has r c) (h.2 c) m))))))
        (wired r κ a z' sm' h.1 k.1 e
        ∙ sym (each_cong r (rule_at z (down (comp l r x)) (back E (comp l r x))) (rule_at z' (down r) (back E r))
        (λ c m. ap_fits c _ _
        (fed c ∙ snd_part N (λ e. action_of (M e)) z' (down l c) (down r c) (back E l c) (back E r c)
        (down_off l c (apart_r (Has l c) (Has r c) (h.2 c) m))
        (back_off E l c (apart_r (Has l c) (Has r c) (h.2 c) m))))))
      where
        z' : Set
        z' = z ∪ (out M l ∪ out M r) ∩ x

        sm' : Small z'
        sm' = small_fed z (out M l ∪ out M r) x sm (subst Small (sym (out_wired N M small (comp l r x) h))
            (join_small N (λ e. action_of (M e)) (λ e. up l e ∪ up r e) small))

        fed : (c : ℕ) → offered N (λ e. action_of (M e)) z (down l c ∪ down r c)
            (λ e. (back E l c e ∪ back E r c e) ∪ (down l c ∪ down r c) ∩ (up l e ∪ up r e) ∩ x)
            ≡ offered N (λ e. action_of (M e)) z' (down l c ∪ down r c) (λ e. back E l c e ∪ back E r c e)
        fed c = feed N (λ e. action_of (M e)) (λ e. back E l c e ∪ back E r c e)
            (λ e. up l e ∪ up r e) z (down l c ∪ down r c) x
            ∙ ap
            (λ w. offered N (λ e. action_of (M e)) (z ∪ w ∩ x) (down l c ∪ down r c) (λ e. back E l c e ∪ back E r c e))
            (sym (out_wired N M small (comp l r x) h))
    wired (hide l x y) κ a z sm h k e = wired l κ a (z ∖ x) (small_less z x sm) h k e
        ∙ sym (each_cong l (rule_at z (down (hide l x y)) (back E (hide l x y))) (rule_at (z ∖ x) (down l) (back E l))
        (λ c m. ap_fits c _ _
        (filtered N (λ e. action_of (M e)) z (down l c) x (back E l c))))
    wired (dec d ss) κ a z sm h k e = ap₂ ◌&&◌
        (ok_c_fits (E d) a z' (cfg d) (M d) ∙ ap₂ (λ b o. fits (E d) b o (cfg d) (M d)) am
        (inside ∙ sym (fed d ∙ alone N
        (λ e. action_of (M e)) d z' (downs ss d) (backs E ss d) sm' (downs_off ss d h.2) (backs_off E ss d h.2))))
        (wireds ss d (λ q. a && meets (cfg d) (M d) q) z' sm' h.1 k.1
        (λ q. ap (λ b. b && meets (cfg d) (M d) q) am)
        ∙ sym (eachs_cong ss (rule_at z (down (dec d ss)) (back E (dec d ss))) (rule_at z' (downs ss) (backs E ss))
        (λ c m. ap_fits c _ _
        (fed c ∙ ap (λ s. offered N (λ e. action_of (M e)) z' s (backs E ss c))
        (∅-or (own d c) (downs ss c) (own_off d c (same_≢ c d (λ q. true≢false (sym m ∙ ap (HasS ss) q ∙ h.2)))))))))
      where
        z' : Set
        z' = z ∪ (action_of (M d) ∪ outs M ss) ∩ (E d).feedback

        sm' : Small z'
        sm' = small_fed z (action_of (M d) ∪ outs M ss) (E d).feedback sm
            (subst Small (sym (out_wired N M small (dec d ss) h))
            (join_small N (λ e. action_of (M e)) (λ e. own d e ∪ ups ss e) small))

        am : a ≡ act d
        am = e ∙ ap (awake_by sc state cfg M act) (sym k.0) ∙ sym (awake d h.0)

        inside : z' ∪ action_of (M d) ∩ (E d).feedback ≡ z'
        inside = sets (z ∷ action_of (M d) ∷ outs M ss ∷ (E d).feedback ∷ []) []
            (A ∪ₑ (B ∪ₑ C) ∩ₑ D ∪ₑ B ∩ₑ D ≐ A ∪ₑ (B ∪ₑ C) ∩ₑ D) tt

        fed : (c : ℕ) → offered N (λ e. action_of (M e)) z (own d c ∪ downs ss c)
            (λ e. backs E ss c e ∪ (own d c ∪ downs ss c) ∩ (own d e ∪ ups ss e) ∩ (E d).feedback)
            ≡ offered N (λ e. action_of (M e)) z' (own d c ∪ downs ss c) (λ e. backs E ss c e)
        fed c = feed N (λ e. action_of (M e)) (backs E ss c)
            (λ e. own d e ∪ ups ss e) z (own d c ∪ downs ss c) (E d).feedback
            ∙ ap (λ w. offered N (λ e. action_of (M e)) (z ∪ w ∩ (E d).feedback) (own d c ∪ downs ss c) (backs E ss c))
            (sym (out_wired N M small (dec d ss) h))

    wireds : (ss : Slaves) (d : ℕ) (f : ℕ → Bool) (z : Set) → Small z → Helds N ss → Encs enc sc ss d
        → ((q : ℕ) → f q ≡ (act d && meets (cfg d) (M d) q))
        → oks_u E state cfg M ss f z ≡ eachs ss (rule_at z (downs ss) (backs E ss))
    wireds nil d f z sm h k e = refl
    wireds (snoc ss i t) d f z sm h k e = ap₂ ◌&&◌
        (wireds ss d f z sm h.0 k.0 e
        ∙ sym (eachs_cong ss (rule_at z (downs (snoc ss i t)) (backs E (snoc ss i t)))
        (rule_at z (downs ss) (backs E ss))
        (λ c m. ap_fits c _ _
        (fst_part N (λ e. action_of (M e)) z (downs ss c) (down t c) (backs E ss c) (back E t c)
        (down_off t c (apart_r (Has t c) (HasS ss c) (h.2 c) m))
        (back_off E t c (apart_r (Has t c) (HasS ss c) (h.2 c) m))))))
        (wired t (some i) (f (state i)) z sm h.1 k.2
        (e (state i) ∙ ap (λ c. act c && meets (cfg c) (M c) (state i)) (sym k.1))
        ∙ sym (each_cong t (rule_at z (downs (snoc ss i t)) (backs E (snoc ss i t))) (rule_at z (down t) (back E t))
        (λ c m. ap_fits c _ _
        (snd_part N (λ e. action_of (M e)) z (downs ss c) (down t c) (backs E ss c) (back E t c)
        (downs_off ss c (and_second (Has t c) (HasS ss c) (h.2 c) m))
        (backs_off E ss c (and_second (Has t c) (HasS ss c) (h.2 c) m))))))
