-- A chart no two of whose transitions are doubtful takes one and the same move, whatever it is offered by feedback. In
-- this order: two transitions of a list (`never-doubtful`); sets that differ by feedback alone (`same_fed`); two guards
-- that hold (`not-told-apart`); two moves (`one_move`).
use Rattle.std.proofs.Math.Path.{◌≡◌, refl, ap}
use Rattle.std.proofs.Common.{sym, ◌∙◌, true≢false, arith, eqb-true}
use Rattle.std.specs.Prelude.{Bool, ◌&&◌}
use Rattle.std.proofs.Math.Bool.{true, false, not}
use Rattle.std.proofs.lemmas.Bool.{false≢true}
use mathlib.Core.List.{List, [], ◌∷◌}
use Prim.Native.Nat.{ℕ, zero, suc, ◌<◌}
use Rattle.std.proofs.Math.Decide.{dec_lt}
use Rattle.signals.specs.Mask.{◌∪◌, ◌∩◌, ◌∖◌, within, apart, Within}
use Rattle.signals.specs.Decide.{sets, A, B, C, D, E, F, G, ∅ₑ, ◌∪ₑ◌, ◌∩ₑ◌, ◌∖ₑ◌, ◌≐◌, ◌⊑◌, ◌⊥ₑ◌}
use Rattle.layout.specs.declared.record.Transition.{Transition}
use Rattle.meaning.specs.Sums.Laws.{or_left, or_right}
use Rattle.meaning.specs.Meaning.{Set, ∅, same, Chart, Move, no_move, takes, stay, nth, pick}
use Rattle.meaning.specs.Laws.Bools.{and_l, and_r, and_i, same→≡, agrees}
use Rattle.meaning.proofs.Laws.Editions.{ok_one, pick-one}
use Rattle.meaning.specs.Plain.{told_apart, doubtful, doubtful_with, any_doubtful}

-- ── anyDoubtful ──

module _ (f : Set) where
  doubtful-with : (t u : Transition) (us : List Transition) (k : ℕ) → doubtful_with f t us ≡ false
      → nth no_move us k ≡ takes u → doubtful f t u ≡ false
  unfolding doubtful_with nth
  doubtful-with t u [] k h e = absurd (let z : ◌≡◌ {A = ℕ} 0 1 = cc in omega arith)
  doubtful-with t u (w ∷ us) zero h e =
      ap (λ (m : Transition). doubtful f t m) (let z : u ≡ w = cc in z) ∙ or_left _ _ h
  doubtful-with t u (w ∷ us) (suc k) h e = doubtful-with t u us k (or_right (doubtful f t w) _ h) e

  -- of no two transitions of the list
  pub never-doubtful : (ts : List Transition) (t u : Transition) (j k : ℕ) → any_doubtful f ts ≡ false
      → nth no_move ts j ≡ takes t → nth no_move ts k ≡ takes u → j < k
      → doubtful f t u ≡ false
  unfolding any_doubtful nth
  never-doubtful [] t u j k h p q l = absurd (let z : ◌≡◌ {A = ℕ} 0 1 = cc in omega arith)
  never-doubtful (w ∷ ts) t u zero zero h p q l = absurd (omega arith)
  never-doubtful (w ∷ ts) t u zero (suc k) h p q l =
      ap (λ (m : Transition). doubtful f m u) (let z : t ≡ w = cc in z) ∙ doubtful-with w u ts k (or_left _ _ h) q
  never-doubtful (w ∷ ts) t u (suc j) zero h p q l = absurd (omega arith)
  never-doubtful (w ∷ ts) t u (suc j) (suc k) h p q l =
      never-doubtful ts t u j k (or_right (doubtful_with f w ts) _ h) p q (omega arith)

-- ── sets that differ by feedback alone ──

-- and so with more feedback, of x
pub same_fed : (f o p : Set) → o ∖ f ≡ p ∖ f → (v w x : Set) → Within x f → (o ∪ v ∩ x) ∖ f ≡ (p ∪ w ∩ x) ∖ f
same_fed f o p e v w x h =
    sets (o ∷ p ∷ v ∷ w ∷ x ∷ f ∷ []) (A ∖ₑ F ≐ B ∖ₑ F ∷ E ⊑ F ∷ []) ((A ∪ₑ C ∩ₑ E) ∖ₑ F ≐ (B ∪ₑ D ∩ₑ E) ∖ₑ F) tt e h

-- ── toldApart ──

-- two guards that hold in such sets
module _ (f : Set) (t u : Transition) (o p : Set) (e : o ∖ f ≡ p ∖ f) where
  pub not-told-apart : within t.needed o ≡ true → apart t.barred o ≡ true → within u.needed p ≡ true
      → apart u.barred p ≡ true → told_apart f t u ≡ false
  unfolding told_apart
  not-told-apart tn tb un ub = agrees ((t.needed ∩ u.barred ∪ t.barred ∩ u.needed) ∖ f) ∅
      (sets (t.needed ∷ t.barred ∷ u.needed ∷ u.barred ∷ o ∷ p ∷ f ∷ [])
      (A ⊑ E ∷ B ⊥ₑ E ∷ C ⊑ F ∷ D ⊥ₑ F ∷ E ∖ₑ G ≐ F ∖ₑ G ∷ [])
      ((A ∩ₑ D ∪ₑ B ∩ₑ C) ∖ₑ G ≐ ∅ₑ) tt
      (eqb-true (t.needed ∖ o) 0 tn) (eqb-true (t.barred ∩ o) 0 tb) (eqb-true (u.needed ∖ p) 0 un)
      (eqb-true (u.barred ∩ p) 0 ub) e)

-- ── okOne: the rule of a chart in edition 1 ──

-- a chart's own feedback g is in f; s is its state
module _ (f g : Set) (fed : Within g f) (s : ℕ) where
  -- two transitions that it may take are doubtful
  both-doubtful : (t u : Transition) (o p : Set) → o ∖ f ≡ p ∖ f → ok_one g true o s (takes t) ≡ true
      → ok_one g true p s (takes u) ≡ true → doubtful f t u ≡ true
  unfolding ok_one
  both-doubtful t u o p e h k = and_i (ap (same t.from) (same→≡ u.from s (and_l _ _ k)) ∙ and_l _ _ h)
      (ap not (not-told-apart f t u (o ∪ t.action ∩ g) (p ∪ u.action ∩ g)
      (same_fed f o p e t.action u.action g fed) (and_l _ _ th) (and_r (within t.needed (o ∪ t.action ∩ g)) _
      th) (and_l _ _ uh) (and_r (within u.needed (p ∪ u.action ∩ g)) _ uh)))
    where
      th : (within t.needed (o ∪ t.action ∩ g) && apart t.barred (o ∪ t.action ∩ g)) ≡ true
      th = and_r (same t.from s) _ h

      uh : (within u.needed (p ∪ u.action ∩ g) && apart u.barred (p ∪ u.action ∩ g)) ≡ true
      uh = and_r (same u.from s) _ k

  module _ (K : Chart) (one : K.stays ≡ false) (d : any_doubtful f K.transitions ≡ false) where
    -- so that they stand at one place
    not-before : (a : Bool) (j k : ℕ) (o p : Set) → o ∖ f ≡ p ∖ f → (m n : Move) → pick K j ≡ m → pick K k ≡ n → j < k
        → ok_one g a o s m ≡ true → ok_one g a p s n ≡ true → m ≡ n
    unfolding ok_one
    not-before false j k o p e no_move no_move r q l h i = refl
    not-before false j k o p e (takes t) n r q l h i = absurd (false≢true h)
    not-before false j k o p e stay n r q l h i = absurd (false≢true h)
    not-before false j k o p e no_move (takes u) r q l h i = absurd (false≢true i)
    not-before false j k o p e no_move stay r q l h i = absurd (false≢true i)
    not-before true j k o p e no_move n r q l h i = absurd (false≢true h)
    not-before true j k o p e stay n r q l h i = absurd (false≢true h)
    not-before true j k o p e (takes t) no_move r q l h i = absurd (false≢true i)
    not-before true j k o p e (takes t) stay r q l h i = absurd (false≢true i)
    not-before true zero k o p e (takes t) (takes u) r q l h i =
        absurd (let y : pick K zero ≡ no_move = (unfold pick in refl) in let z : ◌≡◌ {A = ℕ} 0 1 = cc in omega arith)
    not-before true (suc j) zero o p e (takes t) (takes u) r q l h i = absurd (omega arith)
    not-before true (suc j) (suc k) o p e (takes t) (takes u) r q l h i =
        absurd (true≢false (sym (both-doubtful t u o p e h i)
        ∙ never-doubtful f K.transitions t u j k d (sym (pick-one K one j) ∙ r) (sym (pick-one K one k) ∙ q)
        (omega arith)))

    pub one_move : (a : Bool) (j k : ℕ) (o p : Set) → o ∖ f ≡ p ∖ f → ok_one g a o s (pick K j) ≡ true
        → ok_one g a p s (pick K k) ≡ true
        → pick K j ≡ pick K k
    one_move a j k o p e h i = go (dec_lt j k) (dec_lt k j)
      where
        go : Dec (j < k) → Dec (k < j) → pick K j ≡ pick K k
        go (yes l) x = not-before a j k o p e (pick K j) (pick K k) refl refl l h i
        go (no l) (yes m) = sym (not-before a k j p o (sym e) (pick K k) (pick K j) refl refl m i h)
        go (no l) (no m) = ap (pick K) (let z : j ≡ k = omega arith in z)
