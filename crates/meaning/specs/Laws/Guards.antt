-- Laws of the test of a transition's guard, in both editions. In this order: it is met exactly if no needed signal is
-- missing and no barred one is there (`met_is`); a guard that is met is met between wider bounds (`met_wider`), and
-- looks at its own signals alone (`met-cut`); the same of a chart that nothing triggers (`quiet_wider`, `quiet-cut`),
-- and that this is what it says (`quiet_out`, `quiet_in`).
use Rattle.std.specs.Prelude.{◌≡◌, refl, true, false, ◌&&◌, not, ◌⊎◌, ℕ, eqb}
use Rattle.std.proofs.Common.{sym, ◌∙◌, ap, ap₂, true≢false, inl, inr, eqb-true, eq-eqb}
use mathlib.Core.List.Memᴰ
use mathlib.Core.List.{List, [], ◌∷◌, Memᴰ}
use Rattle.std.proofs.lemmas.Bool.{not-true as of-not}
use Rattle.signals.specs.Mask.{◌∪◌, ◌∩◌, ◌∖◌, within, apart, Within}
use Rattle.signals.specs.Guard.Laws.{guard_is}
use Rattle.signals.specs.Decide.{sets, A, B, C, D, E as Eₑ, ◌∪ₑ◌, ◌∩ₑ◌, ◌∖ₑ◌, ◌≐◌, ◌⊑◌, ◌⊥ₑ◌}
use Rattle.layout.specs.declared.record.Transition.{Transition}
use Rattle.meaning.specs.Meaning.{Set, same, guards, met?, untriggered}
use Rattle.meaning.specs.Laws.Bools.{and_l, and_r, and_i, not-true, same_refl}

-- ── a transition's guard ──

pub met_is : (t : Transition) (i j : Set) → met? t i j ≡ (within t.needed i && apart t.barred j)
unfolding met?
met_is t i j = guard_is t.needed t.barred i j

sub_in : (g o p : Set) → Within o p → within g o ≡ true → within g p ≡ true
sub_in g o p h e = eq-eqb (g ∖ p) 0 (sets (g ∷ o ∷ p ∷ []) (A ⊑ B ∷ B ⊑ C ∷ []) (A ⊑ C) tt (eqb-true (g ∖ o) 0 e) h)

dis_in : (g o p : Set) → Within p o → apart g o ≡ true → apart g p ≡ true
dis_in g o p h e = eq-eqb (g ∩ p) 0 (sets (g ∷ o ∷ p ∷ []) (A ⊥ₑ B ∷ C ⊑ B ∷ []) (A ⊥ₑ C) tt (eqb-true (g ∩ o) 0 e) h)

-- more may be there of what is needed, and less of what is barred
pub met_wider : (t : Transition) (i i' j j' : Set) → Within i i' → Within j' j → met? t i j ≡ true → met? t i' j' ≡ true
met_wider t i i' j j' p q e =
    let h = sym (met_is t i j) ∙ e in
    met_is t i' j'
    ∙ and_i (sub_in t.needed i i' p (and_l _ _ h)) (dis_in t.barred j j' q (and_r (within t.needed i) _ h))

-- two sets that are alike as far as the guard's signals go
pub met-cut : (t : Transition) (I i k : Set) → (t.needed ∪ t.barred) ∖ I ≡ 0 → i ∩ I ≡ k ∩ I → met? t i i ≡ met? t k k
met-cut t I i k w e =
    met_is t i i
    ∙ ap₂ (λ p q. eqb p 0 && eqb q 0)
    (sets (t.needed ∷ t.barred ∷ i ∷ k ∷ I ∷ []) (A ∪ₑ B ⊑ Eₑ ∷ C ∩ₑ Eₑ ≐ D ∩ₑ Eₑ ∷ []) (A ∖ₑ C ≐ A ∖ₑ D) tt w e)
    (sets (t.needed ∷ t.barred ∷ i ∷ k ∷ I ∷ []) (A ∪ₑ B ⊑ Eₑ ∷ C ∩ₑ Eₑ ≐ D ∩ₑ Eₑ ∷ []) (B ∩ₑ C ≐ B ∩ₑ D) tt w e)
    ∙ sym (met_is t k k)

-- ── a chart that nothing triggers ──

-- less may be there of what is needed, and more of what is barred
pub quiet_wider : (ts : List Transition) (s : ℕ) (i i' j j' : Set) → Within i' i → Within j j'
    → untriggered ts s i j ≡ true
    → untriggered ts s i' j' ≡ true
unfolding untriggered
quiet_wider [] s i i' j j' p q e = refl
quiet_wider (t ∷ ts) s i i' j j' p q e =
    and_i (ap not (not-true (λ h.
    true≢false (sym (and_i (and_l (same t.from s) (met? t i' j') h)
    (met_wider t i' i j' j p q (and_r (same t.from s) (met? t i' j') h)))
    ∙ of-not (same t.from s && met? t i j) (and_l _ _ e)))))
    (quiet_wider ts s i i' j j' p q (and_r (not (same t.from s && met? t i j)) _ e))

pub quiet-cut : (ts : List Transition) (s : ℕ) (I i k : Set) → guards ts ∖ I ≡ 0 → i ∩ I ≡ k ∩ I
    → untriggered ts s i i ≡ untriggered ts s k k
unfolding untriggered guards
quiet-cut [] s I i k w e = refl
quiet-cut (t ∷ ts) s I i k w e =
    ap₂ (λ p q. not (same t.from s && p) && q)
    (met-cut t I i k (sets (t.needed ∷ t.barred ∷ guards ts ∷ I ∷ []) (A ∪ₑ B ∪ₑ C ⊑ D ∷ []) (A ∪ₑ B ⊑ D) tt w) e)
    (quiet-cut ts s I i k (sets (t.needed ∷ t.barred ∷ guards ts ∷ I ∷ []) (A ∪ₑ B ∪ₑ C ⊑ D ∷ []) (C ⊑ D) tt w) e)

-- nothing triggers a chart exactly if, of the transitions from its state, none has a guard that is met (RULES 5.7)
pub quiet_out : (ts : List Transition) (s : ℕ) (i j : Set) → untriggered ts s i j ≡ true → (t : Transition)
    → Memᴰ t ts → t.from ≡ s
    → met? t i j ≡ false
unfolding untriggered
quiet_out [] s i j h t m e = absurd (Memᴰ.not-nil m)
quiet_out (u ∷ ts) s i j h t m e =
    go (Memᴰ.cases_cons m) (quiet_out ts s i j (and_r (not (same u.from s && met? u i j)) _ h) t)
  where
    go : (t ≡ u) ⊎ Memᴰ t ts → (Memᴰ t ts → t.from ≡ s → met? t i j ≡ false) → met? t i j ≡ false
    go (inl q) r =
        not-true (λ z.
        true≢false (sym (and_i (ap (λ (v : Transition). same v.from s) (sym q) ∙ ap (λ k. same k s) e ∙ same_refl s)
        (ap (λ v. met? v i j) (sym q) ∙ z)) ∙ of-not _ (and_l _ _ h)))
    go (inr n) r = r n e

pub quiet_in : (ts : List Transition) (s : ℕ) (i j : Set)
    → ((t : Transition) → Memᴰ t ts → same t.from s ≡ true → met? t i j ≡ false)
    → untriggered ts s i j ≡ true
unfolding untriggered
quiet_in [] s i j h = refl
quiet_in (t ∷ ts) s i j h =
    and_i
    (ap not (not-true (λ z. true≢false (sym (and_r (same t.from s) _ z) ∙ h t (Memᴰ.head refl) (and_l _ _ z)))))
    (quiet_in ts s i j (λ u m. h u (Memᴰ.tail m)))
