-- Laws of what settled charts ask of the next chart's action: that it is met exactly if each of them can still be met
-- (`asked`, `asked-none`), and so for a candidate of the next chart (`fine-taken`) and for one that is inactive
-- (`fine-rested`); that it cannot be met where it contradicts itself (`asked-never`). All of them suppose that each
-- could be met before, which the test of the chart settled last gives (`passes-next`).
use Rattle.std.specs.Prelude.{◌≡◌, Bool, true, false, eqb}
use Rattle.std.proofs.Math.Path.{refl, sym, ap, ap₂}
use Rattle.std.proofs.Common.{◌∙◌, add-one, arith, eqb-true, eq-eqb}
use Rattle.std.proofs.Math.Bool.{◌&&◌}
use mathlib.Core.List.{List, [], ◌∷◌}
use Prim.Native.Nat.{ℕ, zero, suc, ◌+◌, ◌*◌, ◌<◌}
use Rattle.std.proofs.Math.ListN.{get_or}
use Rattle.signals.specs.Mask.{◌∪◌, ◌∩◌, ◌∖◌, within, apart}
use Rattle.signals.specs.Decide.{sets, A, B, C, D, E, F, G, H, ∅ₑ, ◌∪ₑ◌, ◌∩ₑ◌, ◌∖ₑ◌, ◌≐◌, ◌⊑◌, ◌⊥ₑ◌}
use Rattle.meaning.specs.Calls.{made}
use Rattle.meaning.specs.Laws.Bools.{and_l, and_r, and_i, bool_eq, every, every_elim}
use Rattle.meaning.specs.Rewriting.{union_up_to}
use Rattle.wiring.specs.Dropped.{join_cong}
use Rattle.wiring.specs.Pruning.{every_cong}
use Rattle.meaning.specs.Numbers.{most_charts}
use Rattle.cells.specs.Table.{needed_at, barred_at, action_at, back_at, ahead_at}
use Rattle.cells.specs.Trail.{low_cell, needs_cell, bars_cell, low_in, needed_in, barred_in}
use Rattle.settling.specs.Trail.{trail_in, Keeps}
use Rattle.meaning.specs.Calls.Laws.{get_or-made}
use Rattle.settling.specs.Trail.Laws.{get_or-before, get_or-last}
use Rattle.settling.specs.Hunt.{may, taken, idled, rested, passes_at, fine_at}
use Rattle.settling.specs.Asks.{Passes, Covers, wants_in, bans_in, asks_of}

-- ── a test, and what it says ──

-- a guard holds of a set
abbrev pub met : ℕ → ℕ → ℕ → Bool
met n r a = within n a && apart r a

both : (a b c d : ℕ) → (eqb (a ∖ b) 0 && eqb (c ∩ d) 0) ≡ true → (a ∖ b ≡ 0) × (c ∩ d ≡ 0)
both a b c d e = (
  eqb-true (a ∖ b) 0 (and_l (eqb (a ∖ b) 0) (eqb (c ∩ d) 0) e),
  eqb-true (c ∩ d) 0 (and_r (eqb (a ∖ b) 0) (eqb (c ∩ d) 0) e),
)

-- ── what is asked is met ──

-- A chart that needs n and bars r, is surely offered l, may be offered h by charts behind the next, and gets b of the
-- next one's action. Before the next is settled it may be offered p, and can be met.
module _ (n r l h b p : ℕ) (can : may n r l p ≡ true) (cover : p ∖ (h ∪ b) ≡ 0) where
  -- over what the others ask, g and q, of the action a
  module _ (a g q : ℕ) where
    one : (may n r (l ∪ a ∩ b) h && met g q a) ≡ met (g ∪ n ∖ (l ∪ h)) (q ∪ r ∩ b) a
    one = bool_eq _ _ there back
      where
        there : (may n r (l ∪ a ∩ b) h && met g q a) ≡ true → met (g ∪ n ∖ (l ∪ h)) (q ∪ r ∩ b) a ≡ true
        there e =
            let x = both n (l ∪ a ∩ b ∪ h) r (l ∪ a ∩ b) (and_l (may n r (l ∪ a ∩ b) h) _ e) in
            let y = both g a q a (and_r (may n r (l ∪ a ∩ b) h) _ e) in
            and_i
            (eq-eqb _ _ (sets (n ∷ g ∷ l ∷ h ∷ b ∷ a ∷ []) (A ⊑ C ∪ₑ F ∩ₑ E ∪ₑ D ∷ B ⊑ F ∷ [])
            (B ∪ₑ A ∖ₑ (C ∪ₑ D) ⊑ F) tt x.0 y.0))
            (eq-eqb _ _ (sets (r ∷ q ∷ l ∷ b ∷ a ∷ []) (A ⊥ₑ (C ∪ₑ E ∩ₑ D) ∷ B ⊥ₑ E ∷ [])
            ((B ∪ₑ A ∩ₑ D) ⊥ₑ E) tt x.1 y.1))

        back : met (g ∪ n ∖ (l ∪ h)) (q ∪ r ∩ b) a ≡ true → (may n r (l ∪ a ∩ b) h && met g q a) ≡ true
        back e =
            let x = both (g ∪ n ∖ (l ∪ h)) a (q ∪ r ∩ b) a e in
            let y = both n (l ∪ p) r l can in
            and_i
            (and_i
            (eq-eqb _ _ (sets (n ∷ g ∷ l ∷ h ∷ b ∷ a ∷ p ∷ [])
            (B ∪ₑ A ∖ₑ (C ∪ₑ D) ⊑ F ∷ A ⊑ C ∪ₑ G ∷ G ⊑ D ∪ₑ E ∷ []) (A ⊑ C ∪ₑ F ∩ₑ E ∪ₑ D) tt x.0 y.0 cover))
            (eq-eqb _ _ (sets (r ∷ q ∷ l ∷ b ∷ a ∷ []) ((B ∪ₑ A ∩ₑ D) ⊥ₑ E ∷ A ⊥ₑ C ∷ [])
            (A ⊥ₑ (C ∪ₑ E ∩ₑ D)) tt x.1 y.1)))
            (and_i
            (eq-eqb _ _ (sets (a ∷ g ∷ n ∖ (l ∪ h) ∷ []) (B ∪ₑ C ⊑ A ∷ []) (B ⊑ A) tt x.0))
            (eq-eqb _ _ (sets (a ∷ q ∷ r ∩ b ∷ []) ((B ∪ₑ C) ⊥ₑ A ∷ []) (B ⊥ₑ A) tt x.1)))

  -- the same of an inactive chart, which has no action
  module _ (g : ℕ) where
    one_none : (may n r l h && eqb g 0) ≡ eqb (g ∪ n ∖ (l ∪ h)) 0
    one_none = bool_eq _ _ there back
      where
        there : (may n r l h && eqb g 0) ≡ true → eqb (g ∪ n ∖ (l ∪ h)) 0 ≡ true
        there e =
            eq-eqb _ _ (sets (n ∷ l ∷ h ∷ g ∷ []) (A ⊑ B ∪ₑ C ∷ D ≐ ∅ₑ ∷ []) (D ∪ₑ A ∖ₑ (B ∪ₑ C) ≐ ∅ₑ) tt
            (both n (l ∪ h) r l (and_l (may n r l h) _ e)).0 (eqb-true _ _ (and_r (may n r l h) _ e)))

        back : eqb (g ∪ n ∖ (l ∪ h)) 0 ≡ true → (may n r l h && eqb g 0) ≡ true
        back e =
            let x = eqb-true _ _ e in
            and_i
            (and_i
            (eq-eqb _ _ (sets (n ∷ l ∷ h ∷ g ∷ []) (D ∪ₑ A ∖ₑ (B ∪ₑ C) ≐ ∅ₑ ∷ []) (A ⊑ B ∪ₑ C) tt x))
            (eq-eqb _ _ (both n (l ∪ p) r l can).1))
            (eq-eqb _ _ (sets (n ∷ l ∷ h ∷ g ∷ []) (D ∪ₑ A ∖ₑ (B ∪ₑ C) ≐ ∅ₑ ∷ []) (D ≐ ∅ₑ) tt x))

module _ (n r l h b p : ℕ → ℕ) where
  abbrev all_want : ℕ → ℕ
  all_want k = union_up_to k (λ d. n d ∖ (l d ∪ h d))

  abbrev all_ban : ℕ → ℕ
  all_ban k = union_up_to k (λ d. r d ∩ b d)

  abbrev Can : ℕ → Type 0
  Can k = (d : ℕ) → d < k → may (n d) (r d) (l d) (p d) ≡ true

  abbrev Cover : ℕ → Type 0
  Cover k = (d : ℕ) → d < k → p d ∖ (h d ∪ b d) ≡ 0

  asked : (a k : ℕ) → Can k → Cover k
      → every k (λ d. may (n d) (r d) (l d ∪ a ∩ b d) (h d)) ≡ met (all_want k) (all_ban k) a
  unfolding every union_up_to
  asked a zero can cover =
      sym (and_i (eq-eqb _ _ (sets (a ∷ []) [] (∅ₑ ⊑ A) tt)) (eq-eqb _ _ (sets (a ∷ []) [] (∅ₑ ⊥ₑ A) tt)))
  asked a (suc k) can cover =
      ap (λ (z : Bool). may (n k) (r k) (l k ∪ a ∩ b k) (h k) && z)
      (asked a k (λ d t. can d (omega arith)) (λ d t. cover d (omega arith)))
      ∙ one (n k) (r k) (l k) (h k) (b k) (p k) (can k (omega arith)) (cover k (omega arith)) a (all_want k) (all_ban k)

  asked-none : (k : ℕ) → Can k → Cover k → every k (λ d. may (n d) (r d) (l d) (h d)) ≡ eqb (all_want k) 0
  unfolding every union_up_to
  asked-none zero can cover = refl
  asked-none (suc k) can cover =
      ap (λ (z : Bool). may (n k) (r k) (l k) (h k) && z)
      (asked-none k (λ d t. can d (omega arith)) (λ d t. cover d (omega arith)))
      ∙ one_none (n k) (r k) (l k) (h k) (b k) (p k) (can k (omega arith)) (cover k (omega arith)) (all_want k)

-- what contradicts itself holds of no set
pub asked-never : (n r a : ℕ) → apart n r ≡ false → met n r a ≡ false
asked-never n r a h = go (met n r a) refl
  where
    go : (z : Bool) → met n r a ≡ z → met n r a ≡ false
    go false e = e
    go true e =
        let x = both n a r a e in
        let y : apart n r ≡ true = eq-eqb _ _ (sets (n ∷ r ∷ a ∷ []) (A ⊑ C ∷ B ⊥ₑ C ∷ []) (A ⊥ₑ B) tt x.0 x.1) in
        e ∙ (sym y ∙ h)

pub asked_some : (n r : ℕ) → apart n r ≡ false → eqb n 0 ≡ false
asked_some n r h = go (eqb n 0) refl
  where
    go : (z : Bool) → eqb n 0 ≡ z → eqb n 0 ≡ false
    go false e = e
    go true e =
        let y : apart n r ≡ true = eq-eqb _ _ (sets (n ∷ r ∷ []) (A ≐ ∅ₑ ∷ []) (A ⊥ₑ B) tt (eqb-true _ _ e)) in
        e ∙ (sym y ∙ h)

may_eq : {n n' r r' l l' h h' : ℕ} → n ≡ n' → r ≡ r' → l ≡ l' → h ≡ h' → may n r l h ≡ may n' r' l' h'
may_eq p q u v = rw (p, q, u, v)

-- what is asked stands in the beginning of k charts
pub asks_kept : (m : List ℕ) {k : ℕ} {w b w' b' : List ℕ} → k < most_charts → Keeps k w b w' b'
    → asks_of m w' k ≡ asks_of m w k
unfolding asks_of
asks_kept m {k} {w} {b} {w'} {b'} few h =
    ap₂ (λ (x y : ℕ). record { needed = x; barred = y })
    (join_cong k (wants_in m w' k) (wants_in m w k)
    (λ d l. rw (h.masks.at (needs_cell d) (omega arith), h.masks.at (low_cell k d) (omega arith)) refl))
    (join_cong k (bans_in m w' k) (bans_in m w k)
    (λ d l. rw (h.masks.at (bars_cell d) (omega arith)) refl))

-- and so does that each chart below k can still be met
pub passes_kept : (m : List ℕ) {k : ℕ} {w b w' b' : List ℕ} → k < most_charts → Keeps k w b w' b'
    → Passes m w k → Passes m w' k
passes_kept m {k} {w} {b} {w'} {b'} few h can d l =
    may_eq {h = ahead_at m k d} (h.masks.at (needs_cell d) (omega arith)) (h.masks.at (bars_cell d) (omega arith))
    (h.masks.at (low_cell k d) (omega arith)) refl
    ∙ can d l

-- ── the next chart ──

-- the guard of chart k's candidate v can still be met
abbrev pub field_own : List ℕ → List ℕ → ℕ → ℕ → Bool
field_own m w k v =
    may (needed_at m k v) (barred_at m k v) (low_in w k k ∪ action_at m k v ∩ back_at m k k) (ahead_at m (k + 1) k)

module _ (m s w b : List ℕ) (k o : ℕ) (few : k < most_charts) (can : Passes m w k) (cover : Covers m k) where
  next-ahead : (d : ℕ) → ahead_at m (suc k) d ≡ ahead_at m (k + 1) d
  next-ahead d = ap (λ (j : ℕ). ahead_at m j d) (sym (add-one k))

  -- it takes its candidate v: that can still be met, and what is asked of its action is
  module _ (v : ℕ) where
    abbrev action : ℕ
    action = action_at m k v

    -- what chart d is surely offered then
    abbrev offered : ℕ → ℕ
    offered d = low_in w k d ∪ action ∩ back_at m d k

    offered_is : (d : ℕ) → d < most_charts → get_or (taken m s (trail_in w b k o) k v).low d 0 ≡ offered d
    unfolding taken trail_in
    offered_is d l =
        get_or-made most_charts (λ c. get_or (made most_charts (low_in w k)) c 0 ∪ action ∩ back_at m c k) d l
        ∙ ap (λ (x : ℕ). x ∪ action ∩ back_at m d k) (get_or-made most_charts (low_in w k) d l)

    pub fine-taken : fine_at m s (taken m s (trail_in w b k o) k v) k
        ≡ (field_own m w k v && met (asks_of m w k).needed (asks_of m w k).barred action)
    unfolding fine_at every passes_at taken trail_in asks_of
    fine-taken =
        ap₂ ◌&&◌
        (may_eq (get_or-last k (needed_in w) (needed_at m k v)) (get_or-last k (barred_in w) (barred_at m k v))
        (offered_is k few) (next-ahead k))
        (every_cong k _ _
        (λ d l. may_eq (get_or-before k (needed_in w) (needed_at m k v) d l ∙ get_or-made k (needed_in w) d l)
        (get_or-before k (barred_in w) (barred_at m k v) d l ∙ get_or-made k (barred_in w) d l)
        (offered_is d (omega arith))
        (next-ahead d))
        ∙ asked (needed_in w) (barred_in w) (low_in w k) (ahead_at m (k + 1)) (λ d. back_at m d k) (ahead_at m k)
        action k can
        cover)

  -- it is inactive: nothing is to be in its action
  pub fine-rested : fine_at m s (rested m s (trail_in w b k o) k) k ≡ eqb (asks_of m w k).needed 0
  unfolding fine_at every passes_at idled trail_in asks_of
  fine-rested =
      ap₂ ◌&&◌
      (may_eq {l = get_or (made most_charts (low_in w k)) k 0} {h = ahead_at m (suc k) k}
      (get_or-last k (needed_in w) 0)
      (get_or-last k (barred_in w) 0) refl refl
      ∙ and_i
      (eq-eqb _ _ (sets (get_or (made most_charts (low_in w k)) k 0 ∷ ahead_at m (suc k) k ∷ []) [] (∅ₑ ⊑ A ∪ₑ B) tt))
      (eq-eqb _ _ (sets (get_or (made most_charts (low_in w k)) k 0 ∷ []) [] (∅ₑ ⊥ₑ A) tt)))
      (every_cong k _ _
      (λ d l. may_eq (get_or-before k (needed_in w) 0 d l ∙ get_or-made k (needed_in w) d l)
      (get_or-before k (barred_in w) 0 d l ∙ get_or-made k (barred_in w) d l)
      (get_or-made most_charts (low_in w k) d (omega arith)) (next-ahead d))
      ∙ asked-none (needed_in w) (barred_in w) (low_in w k) (ahead_at m (k + 1)) (λ d. back_at m d k)
      (ahead_at m k) k can
      cover)

-- every chart up to k can still be met, where the charts below k + 1 are settled
pub passes-next : (m s w b : List ℕ) (k o : ℕ) → k < most_charts → fine_at m s (trail_in w b (k + 1) o) k ≡ true
    → Passes m w (k + 1)
unfolding fine_at passes_at trail_in
passes-next m s w b k o few fine d l =
    may_eq (sym (get_or-made (k + 1) (needed_in w) d l)) (sym (get_or-made (k + 1) (barred_in w) d l))
    (sym (get_or-made most_charts (low_in w (k + 1)) d (omega arith))) (ap (λ (j : ℕ). ahead_at m j d) (add-one k))
    ∙ every_elim (suc k) _ fine d (omega arith)
