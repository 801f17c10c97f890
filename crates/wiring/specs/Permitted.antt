-- The step by the wiring: a choice is permitted exactly if each chart's rule holds under its row.
use Rattle.std.specs.Prelude.{◌≡◌, Bool, false, ◌&&◌}
use Rattle.std.proofs.Math.Path.{refl, ap}
use Rattle.std.proofs.Common.{◌∙◌, arith}
use Rattle.std.proofs.Math.Bool.{true}
use Rattle.std.proofs.lemmas.Bool.{false≢true}
use Rattle.std.proofs.Math.Option.{Option, none, some}
use Prim.Native.Nat.{ℕ, zero, suc, ◌<◌}
use Rattle.meaning.specs.Meaning.{Set, same, Chart, Tree, Slaves, leaf, comp, hide, dec, nil, snoc, Move, action_of}
use Rattle.meaning.specs.Meaning.{in_face_chart, meets, permitted}
use Rattle.meaning.specs.Laws.Bools.{or_elim, same→≡, every, every_intro, every_elim, and_l, and_r, and_i, bool_eq}
use Rattle.meaning.specs.File.{Has, HasS}
use Rattle.wiring.specs.Uncut.{Within, permitted_uncut}
use Rattle.wiring.specs.Reach.{down, back, offered, fits, each, eachs, Held, Helds, Enc, awake_by, wired, Small}

mutual
  unfolding each Has

  each_elim : (t : Tree) (f : ℕ → Bool) → each t f ≡ true → (c : ℕ) → Has t c ≡ true → f c ≡ true
  each_elim (leaf d) f h c k = rw (same→≡ c d k) h
  each_elim (comp l r x) f h c k =
      or_elim (Has l c) (Has r c) _ (λ e. each_elim l f (and_l _ _ h) c e)
      (λ e. each_elim r f (and_r (each l f) _ h) c e) k
  each_elim (hide l x y) f h c k = each_elim l f h c k
  each_elim (dec d ss) f h c k =
      or_elim (same c d) (HasS ss c) _ (λ e. rw (same→≡ c d e) (and_l _ _ h))
      (λ e. eachs_elim ss f (and_r (f d) _ h) c e) k

  eachs_elim : (ss : Slaves) (f : ℕ → Bool) → eachs ss f ≡ true → (c : ℕ) → HasS ss c ≡ true → f c ≡ true
  eachs_elim nil f h c k = absurd (false≢true k)
  eachs_elim (snoc ss i t) f h c k =
      or_elim (Has t c) (HasS ss c) _ (λ e. each_elim t f (and_r (eachs ss f) _ h) c e)
      (λ e. eachs_elim ss f (and_l _ _ h) c e) k

mutual
  unfolding each

  each_intro : (N : ℕ) (t : Tree) (f : ℕ → Bool) → Held N t → ((c : ℕ) → c < N → f c ≡ true) → each t f ≡ true
  each_intro N (leaf d) f h k = k d h
  each_intro N (comp l r x) f h k = and_i (each_intro N l f h.0 k) (each_intro N r f h.1 k)
  each_intro N (hide l x y) f h k = each_intro N l f h k
  each_intro N (dec d ss) f h k = and_i (k d h.0) (eachs_intro N ss f h.1 k)

  eachs_intro : (N : ℕ) (ss : Slaves) (f : ℕ → Bool) → Helds N ss → ((c : ℕ) → c < N → f c ≡ true) → eachs ss f ≡ true
  eachs_intro N nil f h k = refl
  eachs_intro N (snoc ss i t) f h k = and_i (eachs_intro N ss f h.0 k) (each_intro N t f h.1 k)

pub each_every : (N : ℕ) (t : Tree) (f : ℕ → Bool) → Held N t → ((c : ℕ) → c < N → Has t c ≡ true)
    → each t f ≡ every N f
each_every N t f h has =
    bool_eq _ _ (λ e. every_intro N f (λ c l. each_elim t f e c (has c l))) (λ e. each_intro N t f h (every_elim N f e))

-- ── activity, from the masters, which are lower ──
module _ (enc : ℕ → Option ℕ) (sc state cfg : ℕ → ℕ) (M : ℕ → Move) where
  -- looking at most so many masters up
  unfoldable pub awake_in : ℕ → ℕ → Bool
  awake_in zero c = false
  awake_in (suc f) c = awake_by sc state cfg M (awake_in f) (enc c)

  -- is chart c active?
  unfoldable pub awake : ℕ → Bool
  awake c = awake_in (suc c) c

  module _ (N : ℕ) (lower : (c i : ℕ) → c < N → enc c ≡ some i → sc i < c) where
    fuel : (f g c : ℕ) → c < f → c < g → c < N → awake_in f c ≡ awake_in g c
    unfolding awake_in
    fuel zero g c p q l = absurd (omega arith)
    fuel (suc f) zero c p q l = absurd (omega arith)
    fuel (suc f) (suc g) c p q l = go (enc c) refl (λ i r. fuel f g (sc i) (omega arith) (omega arith) (omega arith))
      where
        go : (κ : Option ℕ) → enc c ≡ κ → ((i : ℕ) → sc i < c → awake_in f (sc i) ≡ awake_in g (sc i))
            → awake_by sc state cfg M (awake_in f) κ ≡ awake_by sc state cfg M (awake_in g) κ
        go none e ih = refl
        go (some i) e ih = ap (λ b. b && meets (cfg (sc i)) (M (sc i)) (state i)) (ih i (lower c i l e))

    pub awake-by : (c : ℕ) → c < N → awake c ≡ awake_by sc state cfg M awake (enc c)
    unfolding awake awake_in
    awake-by c l = go (enc c) refl
      where
        go : (κ : Option ℕ) → enc c ≡ κ → awake_by sc state cfg M (awake_in c) κ ≡ awake_by sc state cfg M awake κ
        go none e = refl
        go (some i) e = let r = lower c i l e in
            ap (λ b. b && meets (cfg (sc i)) (M (sc i)) (state i))
            (fuel c (suc (sc i)) (sc i) r (omega arith) (omega arith))

-- how the charts stand in the tree
pub record Stands (N : ℕ) (enc : ℕ → Option ℕ) (sc : ℕ → ℕ) (t : Tree) : Type 0 where
  pub held : Held N t
  pub has : (c : ℕ) → c < N → Has t c ≡ true
  pub encs : Enc enc sc t none
  pub lower : (c i : ℕ) → c < N → enc c ≡ some i → sc i < c

module _ (E : ℕ → Chart) (state : ℕ → ℕ) (cfg : ℕ → ℕ) (N : ℕ) (enc : ℕ → Option ℕ) (sc : ℕ → ℕ) (t : Tree)
    (inp : Set) where
  -- what chart c is offered, by the actions of the first k charts
  unfoldable pub offer : (ℕ → Move) → ℕ → ℕ → Set
  offer M k c = offered k (λ e. action_of (M e)) inp (down t c) (back E t c)

  -- chart c's rule holds under its row
  unfoldable pub ruled : (ℕ → Move) → ℕ → Bool
  ruled M c = fits (E c) (awake enc sc state cfg M c) (offer M N c) (cfg c) (M c)

  pub permitted_wired : (M : ℕ → Move) → Stands N enc sc t → Small inp → ((e : ℕ) → Small (action_of (M e)))
      → ((c : ℕ) → Within (in_face_chart (E c)) (M c)) → permitted E state cfg M t inp ≡ every N (ruled M)
  unfolding ruled offer
  permitted_wired M s si sa own = permitted_uncut E state cfg M own t inp
      ∙ wired E state cfg M N enc sc (awake enc sc state cfg M)
      (awake-by enc sc state cfg M N s.lower) sa t none true inp si s.held
      s.encs refl
      ∙ each_every N t _ s.held s.has
