-- A dead transition is in no permitted choice. In this order: what being dead or not says; of a chart; of a tree.
use Rattle.std.specs.Prelude.{◌≡◌, Bool, false, not, [], ◌∷◌, ℕ}
use Rattle.std.proofs.Common.{sym, ◌∙◌, ap, eqb-true}
use Rattle.std.proofs.Math.Bool.{true}
use Rattle.std.proofs.lemmas.Bool.{false≢true}
use Rattle.signals.specs.Mask.{◌∪◌, ◌∩◌, ◌∖◌, within, apart}
use Rattle.signals.specs.Decide.{sets, A, B, C, ◌∪ₑ◌, ◌⊑◌, ◌⊥ₑ◌}
use Rattle.layout.specs.declared.record.Transition.{Transition}
use Rattle.meaning.specs.Meaning.{Set, ∅, same, Chart, Tree, Slaves, leaf, comp, hide, dec, nil, snoc, Move, takes}
use Rattle.meaning.specs.Meaning.{met?, action_of, in_face_chart, in_face, out, outs, ok_chart, ok, oks, permitted}
use Rattle.meaning.specs.File.{Has, HasS}
use Rattle.meaning.specs.Check.{differ}
use Rattle.clearing.specs.Clearing.{dead}
use Rattle.meaning.specs.Laws.Bools.{and_l, and_r, or_elim, same_refl, same→≡}
use Rattle.meaning.specs.Laws.Guards.{met_is}
use Rattle.meaning.specs.Check.Laws.{neither}

none_differs : (a : Set) → a ≡ ∅ → differ a ∅ ≡ false
none_differs a e = ap (λ z. differ z ∅) e ∙ ap not (same_refl ∅)

-- a transition whose guard is met with its own output fed back
met-alive : (fed o : Set) (t : Transition) → met? t (o ∪ (t.action ∩ fed)) (o ∪ (t.action ∩ fed)) ≡ true
    → dead fed t ≡ false
unfolding dead
met-alive fed o t h =
    let g = sym (met_is t (o ∪ (t.action ∩ fed)) (o ∪ (t.action ∩ fed))) ∙ h in
    let i = o ∪ (t.action ∩ fed) in
    let p : t.needed ∖ i ≡ ∅ = eqb-true (t.needed ∖ i) 0 (and_l (within t.needed i) (apart t.barred i) g) in
    let q : t.barred ∩ i ≡ ∅ = eqb-true (t.barred ∩ i) 0 (and_r (within t.needed i) (apart t.barred i) g) in
    neither (differ (t.needed ∩ t.barred) ∅) _
    (none_differs _ (sets (t.needed ∷ t.barred ∷ i ∷ []) (A ⊑ C ∷ B ⊥ₑ C ∷ []) (A ⊥ₑ B) tt p q))
    (none_differs _ (sets (t.barred ∷ o ∷ (t.action ∩ fed) ∷ []) (A ⊥ₑ B ∪ₑ C ∷ []) (A ⊥ₑ C) tt q))

ok-alive : (K : Chart) (a : Bool) (o : Set) (s : ℕ) (m : Move) (t : Transition) → m ≡ takes t
    → ok_chart K a o s m ≡ true
    → dead K.feedback t ≡ false
unfolding ok_chart
ok-alive K a o s m t e h = go a (ap (ok_chart K a o s) (sym e) ∙ h)
  where
    go : (a : Bool) → ok_chart K a o s (takes t) ≡ true → dead K.feedback t ≡ false
    go false h = absurd (false≢true h)
    go true h = met-alive K.feedback o t (and_r (same t.from s) _ h)

module _ (E : ℕ → Chart) (state : ℕ → ℕ) (cfg : ℕ → ℕ) (M : ℕ → Move) (c : ℕ) (u : Transition)
    (takes-it : M c ≡ takes u) where
  mutual
    unfolding ok Has

    alive_in : (t : Tree) (a : Bool) (o : Set) → ok E state cfg M t a o ≡ true → Has t c ≡ true
        → dead (E c).feedback u ≡ false
    alive_in (leaf d) a o h there = let e = same→≡ c d there in
        ok-alive (E c) a o (cfg c) (M c) u takes-it (ap (λ z. ok_chart (E z) a o (cfg z) (M z)) e ∙ h)
    alive_in (comp l r x) a o h there =
        or_elim (Has l c) (Has r c) (dead (E c).feedback u ≡ false) (λ q. alive_in l a _ (and_l _ _ h) q)
        (λ q. alive_in r a _ (and_r (ok E state cfg M l a ((o ∪ ((out M l ∪ out M r) ∩ x)) ∩ in_face E l)) _ h) q) there
    alive_in (hide l x y) a o h there = alive_in l a (o ∖ x) h there
    alive_in (dec d ss) a o h there =
        or_elim (same c d) (HasS ss c) (dead (E c).feedback u ≡ false)
        (λ q. let e = same→≡ c d q in ok-alive (E c) a _ (cfg c) (M c) u takes-it
        (ap (λ z. ok_chart (E z) a ((o ∪ ((action_of (M d) ∪ outs M ss) ∩ (E d).feedback)) ∩ in_face_chart (E d))
        (cfg z)
        (M z)) e ∙ and_l _ _ h))
        (λ q. alive-slave ss _ _
        (and_r (ok_chart (E d) a ((o ∪ ((action_of (M d) ∪ outs M ss) ∩ (E d).feedback)) ∩ in_face_chart (E d)) (cfg d)
        (M d)) _ h) q) there

    alive-slave : (ss : Slaves) (f : ℕ → Bool) (z : Set) → oks E state cfg M ss f z ≡ true → HasS ss c ≡ true
        → dead (E c).feedback u ≡ false
    alive-slave nil f z h there = absurd (false≢true there)
    alive-slave (snoc ss i t) f z h there =
        or_elim (Has t c) (HasS ss c) (dead (E c).feedback u ≡ false)
        (λ q. alive_in t (f (state i)) _ (and_r (oks E state cfg M ss f z) _ h) q)
        (λ q. alive-slave ss f z (and_l _ _ h) q) there

  -- a transition of a permitted choice is not dead
  pub never-dead : (t : Tree) (i : Set) → Has t c ≡ true → permitted E state cfg M t i ≡ true
      → dead (E c).feedback u ≡ false
  unfolding permitted
  never-dead t i there h = alive_in t true (i ∩ in_face E t) h there
