-- The step without the cuts to interfaces: they change nothing, for a chart looks at its guard signals alone.
-- Assumes of each move only that it is one of its chart's transitions (or that its guard signals are in the chart's
-- interface).
use Rattle.std.specs.Prelude.{◌≡◌, refl, Bool, false, ◌&&◌, cond, List, [], ◌∷◌, ℕ, zero, suc}
use Rattle.std.proofs.Common.{sym, ◌∙◌, ap, ap₂}
use Rattle.std.proofs.Math.Bool.{true}
use Rattle.signals.specs.Mask.{◌∪◌, ◌∩◌, ◌∖◌}
use Rattle.signals.specs.Decide.{sets, A, B, C, D, ◌∪ₑ◌, ◌∩ₑ◌, ◌∖ₑ◌, ◌≐◌, ◌⊑◌}
use Rattle.meaning.specs.Meaning.{Set, same, Chart, Tree, Slaves, leaf, comp, hide, dec, nil, snoc, Move, no_move}
use Rattle.meaning.specs.Meaning.{takes}
use Rattle.meaning.specs.Meaning.{stay, nth, behind, pick, moves, guards, action_of, in_face_chart, in_face, in_faces}
use Rattle.meaning.specs.Meaning.{out}
use Rattle.meaning.specs.Meaning.{outs, ok_chart, meets, ok, oks, permitted}
use Rattle.layout.specs.declared.record.Transition.{Transition}
use Rattle.meaning.specs.Laws.Guards.{met-cut, quiet-cut}

-- `ok` with every cut left out
module _ (E : ℕ → Chart) (state : ℕ → ℕ) (cfg : ℕ → ℕ) (M : ℕ → Move) where
  unfoldable mutual
    pub ok_u : Tree → Bool → Set → Bool
    ok_u (leaf c) a o = ok_chart (E c) a o (cfg c) (M c)
    ok_u (comp l r x) a o = ok_u l a (o ∪ ((out M l ∪ out M r) ∩ x)) && ok_u r a (o ∪ ((out M l ∪ out M r) ∩ x))
    ok_u (hide l x y) a o = ok_u l a (o ∖ x)
    ok_u (dec c ss) a o =
        ok_chart (E c) a (o ∪ ((action_of (M c) ∪ outs M ss) ∩ (E c).feedback)) (cfg c) (M c)
        && oks_u ss (λ q. a && meets (cfg c) (M c) q) (o ∪ ((action_of (M c) ∪ outs M ss) ∩ (E c).feedback))

    pub oks_u : Slaves → (ℕ → Bool) → Set → Bool
    oks_u nil f z = true
    oks_u (snoc ss i t) f z = oks_u ss f z && ok_u t (f (state i)) z

-- the guard signals of a move are in the set
abbrev pub Within : Set → Move → Type 0
Within I no_move = Unit {0}
Within I (takes t) = (t.needed ∪ t.barred) ∖ I ≡ 0
Within I stay = Unit {0}

-- ── identities of sets ──
cut_left : (o w l r : Set) → (o ∩ (l ∪ r) ∪ w) ∩ l ≡ (o ∪ w) ∩ l
cut_left o w l r = sets (o ∷ w ∷ l ∷ r ∷ []) [] ((A ∩ₑ (C ∪ₑ D) ∪ₑ B) ∩ₑ C ≐ (A ∪ₑ B) ∩ₑ C) tt

cut_right : (o w l r : Set) → (o ∩ (l ∪ r) ∪ w) ∩ r ≡ (o ∪ w) ∩ r
cut_right o w l r = sets (o ∷ w ∷ l ∷ r ∷ []) [] ((A ∩ₑ (C ∪ₑ D) ∪ₑ B) ∩ₑ D ≐ (A ∪ₑ B) ∩ₑ D) tt

cut_less : (o i x : Set) → ((o ∩ (i ∖ x)) ∖ x) ∩ i ≡ (o ∖ x) ∩ i
cut_less o i x = sets (o ∷ i ∷ x ∷ []) [] (((A ∩ₑ (B ∖ₑ C)) ∖ₑ C) ∩ₑ B ≐ (A ∖ₑ C) ∩ₑ B) tt

cut_fst : (z l r : Set) → (z ∩ (l ∪ r)) ∩ l ≡ z ∩ l
cut_fst z l r = sets (z ∷ l ∷ r ∷ []) [] ((A ∩ₑ (B ∪ₑ C)) ∩ₑ B ≐ A ∩ₑ B) tt

cut_snd : (z l r : Set) → (z ∩ (l ∪ r)) ∩ r ≡ z ∩ r
cut_snd z l r = sets (z ∷ l ∷ r ∷ []) [] ((A ∩ₑ (B ∪ₑ C)) ∩ₑ C ≐ A ∩ₑ C) tt

-- ── the rule of a chart ──
-- all guards of a chart are in its interface
guards_in : (C : Chart) → guards C.transitions ∖ in_face_chart C ≡ 0
unfolding in_face_chart
guards_in C = sets (guards C.transitions ∷ C.extra ∷ []) [] (A ⊑ A ∪ₑ B) tt

ok_c_cut : (K : Chart) (a : Bool) (o : Set) (s : ℕ) (m : Move) → Within (in_face_chart K) m
    → ok_chart K a (o ∩ in_face_chart K) s m ≡ ok_chart K a o s m
unfolding ok_chart
ok_c_cut K false o s no_move w = refl
ok_c_cut K false o s (takes t) w = refl
ok_c_cut K false o s stay w = refl
ok_c_cut K true o s no_move w = refl
ok_c_cut K true o s (takes t) w = ap (λ p. same t.from s && p) (met-cut t (in_face_chart K) _ _ w
    (sets (o ∷ (t.action ∩ K.feedback) ∷ in_face_chart K ∷ []) [] ((A ∩ₑ C ∪ₑ B) ∩ₑ C ≐ (A ∪ₑ B) ∩ₑ C) tt))
ok_c_cut K true o s stay w = ap (λ p. K.stays && p)
    (quiet-cut K.transitions s (in_face_chart K) (o ∩ in_face_chart K) o (guards_in K)
    (sets (o ∷ in_face_chart K ∷ []) [] (A ∩ₑ B ∩ₑ B ≐ A ∩ₑ B) tt))

module _ (E : ℕ → Chart) (state : ℕ → ℕ) (cfg : ℕ → ℕ) (M : ℕ → Move)
    (own : (c : ℕ) → Within (in_face_chart (E c)) (M c)) where
  -- what is offered counts only up to the interface
  via : (t : Tree) (a : Bool) (o p : Set) → ok_u E state cfg M t a (o ∩ in_face E t) ≡ ok_u E state cfg M t a o
      → ok_u E state cfg M t a (p ∩ in_face E t) ≡ ok_u E state cfg M t a p
      → o ∩ in_face E t ≡ p ∩ in_face E t → ok_u E state cfg M t a o ≡ ok_u E state cfg M t a p
  via t a o p h k e = sym h ∙ ap (ok_u E state cfg M t a) e ∙ k

  vias : (ss : Slaves) (f : ℕ → Bool) (o p : Set)
      → oks_u E state cfg M ss f (o ∩ in_faces E ss) ≡ oks_u E state cfg M ss f o
      → oks_u E state cfg M ss f (p ∩ in_faces E ss) ≡ oks_u E state cfg M ss f p
      → o ∩ in_faces E ss ≡ p ∩ in_faces E ss → oks_u E state cfg M ss f o ≡ oks_u E state cfg M ss f p
  vias ss f o p h k e = sym h ∙ ap (oks_u E state cfg M ss f) e ∙ k

  viac : (c : ℕ) (a : Bool) (o p : Set) → o ∩ in_face_chart (E c) ≡ p ∩ in_face_chart (E c)
      → ok_chart (E c) a o (cfg c) (M c) ≡ ok_chart (E c) a p (cfg c) (M c)
  viac c a o p e = sym (ok_c_cut (E c) a o (cfg c) (M c) (own c)) ∙ ap (λ z. ok_chart (E c) a z (cfg c) (M c)) e
      ∙ ok_c_cut (E c) a p (cfg c) (M c) (own c)

  mutual
    unfolding ok_u in_face

    cut : (t : Tree) (a : Bool) (o : Set) → ok_u E state cfg M t a (o ∩ in_face E t) ≡ ok_u E state cfg M t a o
    cut (leaf c) a o = ok_c_cut (E c) a o (cfg c) (M c) (own c)
    cut (comp l r x) a o = ap₂ ◌&&◌
        (via l a (o ∩ (in_face E l ∪ in_face E r) ∪ w) (o ∪ w) (cut l a (o ∩ (in_face E l ∪ in_face E r) ∪ w))
        (cut l a (o ∪ w))
        (cut_left o w (in_face E l) (in_face E r)))
        (via r a (o ∩ (in_face E l ∪ in_face E r) ∪ w) (o ∪ w) (cut r a (o ∩ (in_face E l ∪ in_face E r) ∪ w))
        (cut r a (o ∪ w))
        (cut_right o w (in_face E l) (in_face E r)))
      where
        w : Set
        w = (out M l ∪ out M r) ∩ x
    cut (hide l x y) a o =
        via l a ((o ∩ (in_face E l ∖ x)) ∖ x) (o ∖ x) (cut l a ((o ∩ (in_face E l ∖ x)) ∖ x)) (cut l a (o ∖ x))
        (cut_less o (in_face E l) x)
    cut (dec c ss) a o = ap₂ ◌&&◌ (viac c a (o ∩ (in_face_chart (E c) ∪ in_faces E ss) ∪ w) (o ∪ w)
        (cut_left o w (in_face_chart (E c)) (in_faces E ss)))
        (vias ss f (o ∩ (in_face_chart (E c) ∪ in_faces E ss) ∪ w) (o ∪ w)
        (cuts ss f (o ∩ (in_face_chart (E c) ∪ in_faces E ss) ∪ w)) (cuts ss f (o ∪ w))
        (cut_right o w (in_face_chart (E c)) (in_faces E ss)))
      where
        w : Set
        w = (action_of (M c) ∪ outs M ss) ∩ (E c).feedback

        f : ℕ → Bool
        f q = a && meets (cfg c) (M c) q

    cuts : (ss : Slaves) (f : ℕ → Bool) (z : Set)
        → oks_u E state cfg M ss f (z ∩ in_faces E ss) ≡ oks_u E state cfg M ss f z
    cuts nil f z = refl
    cuts (snoc ss i t) f z = ap₂ ◌&&◌
        (vias ss f (z ∩ (in_faces E ss ∪ in_face E t)) z (cuts ss f (z ∩ (in_faces E ss ∪ in_face E t))) (cuts ss f z)
        (cut_fst z (in_faces E ss) (in_face E t)))
        (via t (f (state i)) (z ∩ (in_faces E ss ∪ in_face E t)) z
        (cut t (f (state i)) (z ∩ (in_faces E ss ∪ in_face E t)))
        (cut t (f (state i)) z)
        (cut_snd z (in_faces E ss) (in_face E t)))

  mutual
    unfolding ok ok_u

    pub no_cut : (t : Tree) (a : Bool) (o : Set) → ok E state cfg M t a o ≡ ok_u E state cfg M t a o
    no_cut (leaf c) a o = refl
    no_cut (comp l r x) a o =
        ap₂ ◌&&◌ (no_cut l a (z ∩ in_face E l) ∙ cut l a z) (no_cut r a (z ∩ in_face E r) ∙ cut r a z)
      where
        z : Set
        z = o ∪ ((out M l ∪ out M r) ∩ x)
    no_cut (hide l x y) a o = no_cut l a (o ∖ x)
    no_cut (dec c ss) a o = ap₂ ◌&&◌ (ok_c_cut (E c) a z (cfg c) (M c) (own c))
        (no_cuts ss (λ q. a && meets (cfg c) (M c) q) z)
      where
        z : Set
        z = o ∪ ((action_of (M c) ∪ outs M ss) ∩ (E c).feedback)

    no_cuts : (ss : Slaves) (f : ℕ → Bool) (z : Set) → oks E state cfg M ss f z ≡ oks_u E state cfg M ss f z
    no_cuts nil f z = refl
    no_cuts (snoc ss i t) f z =
        ap₂ ◌&&◌ (no_cuts ss f z) (no_cut t (f (state i)) (z ∩ in_face E t) ∙ cut t (f (state i)) z)

  pub permitted_uncut : (t : Tree) (i : Set) → permitted E state cfg M t i ≡ ok_u E state cfg M t true i
  unfolding permitted
  permitted_uncut t i = no_cut t true (i ∩ in_face E t) ∙ cut t true i

-- a choice's moves are such
nth-within : (m : Move) (ts : List Transition) (I : Set) → Within I m → guards ts ∖ I ≡ 0 → (k : ℕ)
    → Within I (nth m ts k)
unfolding nth guards
nth-within m [] I w h k = w
nth-within m (t ∷ ts) I w h zero =
    sets (t.needed ∷ t.barred ∷ guards ts ∷ I ∷ []) (A ∪ₑ B ∪ₑ C ⊑ D ∷ []) (A ∪ₑ B ⊑ D) tt h
nth-within m (t ∷ ts) I w h (suc k) =
    nth-within m ts I w (sets (t.needed ∷ t.barred ∷ guards ts ∷ I ∷ []) (A ∪ₑ B ∪ₑ C ⊑ D ∷ []) (C ⊑ D) tt h) k

behind-within : (b : Bool) (I : Set) → Within I (cond b stay no_move)
behind-within true I = tt
behind-within false I = tt

pub own-moves : (E : ℕ → Chart) (ch : ℕ → ℕ) (c : ℕ) → Within (in_face_chart (E c)) (moves E ch c)
unfolding moves pick
own-moves E ch c = go (ch c)
  where
    go : (v : ℕ) → Within (in_face_chart (E c)) (pick (E c) v)
    go zero = tt
    go (suc k) = nth-within (behind (E c)) (E c).transitions (in_face_chart (E c))
        (behind-within (E c).stays (in_face_chart (E c))) (guards_in (E c)) k
