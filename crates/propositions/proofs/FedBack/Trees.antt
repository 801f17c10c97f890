-- Over a tree: two inputs that make the same set, joined with what a choice feeds back, permit the choice alike
-- (`fed_back_lem`). Of every whole: a chart, a composed or a decomposed part; of a hidden part it says nothing new.
use Rattle.std.specs.Prelude.{◌≡◌, refl, ◌&&◌, [], ◌∷◌, ℕ}
use Rattle.std.proofs.Math.Path.{ap}
use Rattle.std.proofs.Math.Bool.{true}
use Rattle.signals.specs.Mask.{◌∪◌, ◌∩◌, ◌∖◌}
use Rattle.signals.specs.Decide.{sets, A, B, C, ∅ₑ, ◌∪ₑ◌, ◌∩ₑ◌, ◌≐◌}
use Rattle.meaning.specs.Meaning.{Set, ∅, Chart, Tree, leaf, comp, hide, dec, Move, no_move, takes, stay, same}
use Rattle.meaning.specs.Meaning.{action_of}
use Rattle.meaning.specs.Meaning.{meets, untriggered, met?, in_face_chart, in_face, out, ok_chart, ok, oks, permitted}
use Rattle.propositions.specs.FedBack.{feedback_of, joined_in}

-- a chart that stays feeds nothing back
nothing-back : (f o p : Set) → o ∪ (∅ ∩ f) ≡ p ∪ (∅ ∩ f) → o ≡ p
nothing-back f o p e = sets (f ∷ o ∷ p ∷ []) (B ∪ₑ ∅ₑ ∩ₑ A ≐ C ∪ₑ ∅ₑ ∩ₑ A ∷ []) (B ≐ C) tt e

chart-back : (K : Chart) (s : ℕ) (m : Move) (o p : Set)
    → o ∪ (action_of m ∩ K.feedback) ≡ p ∪ (action_of m ∩ K.feedback) → ok_chart K true o s m ≡ ok_chart K true p s m
unfolding ok_chart action_of
chart-back K s no_move o p e = refl
chart-back K s (takes t) o p e = ap (λ z. same t.from s && met? t z z) e
chart-back K s stay o p e = ap (λ z. K.stays && untriggered K.transitions s z z) (nothing-back K.feedback o p e)

module _ (E : ℕ → Chart) (state : ℕ → ℕ) (cfg : ℕ → ℕ) (M : ℕ → Move) where
  pub fed_back_lem : (t : Tree) (i j : Set) → joined_in E t (out M t) j ≡ joined_in E t (out M t) i
      → permitted E state cfg M t j ≡ permitted E state cfg M t i
  unfolding permitted ok out
  fed_back_lem (leaf c) i j e = chart-back (E c) (cfg c) (M c) (j ∩ in_face E (leaf c)) (i ∩ in_face E (leaf c)) e
  fed_back_lem (comp l r x) i j e =
      ap (λ z. ok E state cfg M l true (z ∩ in_face E l) && ok E state cfg M r true (z ∩ in_face E r)) e
  fed_back_lem (hide t x y) i j e =
      ap (λ z. ok E state cfg M (hide t x y) true z)
      (sets ((j ∩ in_face E (hide t x y)) ∷ (i ∩ in_face E (hide t x y)) ∷ (out M t ∖ y) ∷ [])
      (A ∪ₑ C ∩ₑ ∅ₑ ≐ B ∪ₑ C ∩ₑ ∅ₑ ∷ []) (A ≐ B) tt e)
  fed_back_lem (dec c ss) i j e =
      ap
      (λ z. ok_chart (E c) true (z ∩ in_face_chart (E c)) (cfg c) (M c)
      && oks E state cfg M ss (λ q. true && meets (cfg c) (M c) q) z) e
