-- Places after the rewriting (RULES 9.8): a transition keeps its place, and a chart that takes none has the place of an
-- idle transition, if it has any. So an outcome is turned into one of the rewritten file, and the answer is the same.
-- In this order: one place; the places of a choice; outcomes.
use Rattle.std.specs.Prelude.{◌≡◌, Bool, true, false, ◌&&◌, cond, ◌⊎◌, length}
use Rattle.std.proofs.Math.Path.{refl, ap, ap₂}
use Rattle.std.proofs.Common.{sym, ◌∙◌, inl, inr, arith}
use Rattle.std.proofs.Math.Option.{Option, none, some}
use mathlib.Core.List.{List, [], ◌∷◌, ◌++◌, map, map-append}
use Prim.Native.Nat.{ℕ, zero, suc, ◌+◌, ◌≤◌, ◌<◌}
use Rattle.meaning.specs.Numbers.{no_place}
use Rattle.meaning.specs.Meaning.{same, Chart, pick, Outcome, eq_list, agree, answer, given, upto, place_of}
use Rattle.meaning.specs.Meaning.{places_from}
use Rattle.meaning.specs.Meaning.{first_places}
use Rattle.meaning.specs.Laws.Bools.{same_refl, same→≡, same_≢}
use Rattle.meaning.proofs.Laws.Choices.{place-own}
use Rattle.agreement.specs.Charts.{place}

-- ── one place ──

-- of a chart with m own transitions that is at s
unfoldable pub turned_place : Option ℕ → ℕ → ℕ → ℕ → ℕ
turned_place none m s p = p
turned_place (some i) m s p = cond (same p no_place) (m + s) p

-- a chart's list is too short for 255 to be a place
pub place-turned : (κ : Option ℕ) (C C' : Chart) (s v : ℕ) → v ≤ length C.transitions
    → length C.transitions ≤ no_place
    → ((w : ℕ) → place κ (length C.transitions) s v ≡ suc w → w < length C'.transitions)
    → place_of (pick C' (place κ (length C.transitions) s v)) (place κ (length C.transitions) s v)
    ≡ turned_place κ (length C.transitions) s (place_of (pick C v) v)
unfolding place turned_place
place-turned none C C' s zero l b h = unfold pick place_of in refl
place-turned none C C' s (suc k) l b h = place-own C' k (h k refl) ∙ sym (place-own C k (omega arith))
place-turned (some i) C C' s zero l b h =
    place-own C' (length C.transitions + s) (h (length C.transitions + s) refl)
    ∙ unfold pick place_of in rw (same_refl no_place)
place-turned (some i) C C' s (suc k) l b h =
    place-own C' k (h k refl) ∙ rw (place-own C k (omega arith), same_≢ k no_place (λ e. omega arith))

-- it stays, or an idle transition's stands where there was none
pub turned-or-idle : (κ : Option ℕ) (m s p : ℕ)
    → (turned_place κ m s p ≡ p) ⊎ ((i : ℕ) × (κ ≡ some i) × (p ≡ no_place) × (turned_place κ m s p ≡ m + s))
unfolding turned_place
turned-or-idle none m s p = inl refl
turned-or-idle (some i) m s p = go (same p no_place) refl
  where
    go : (b : Bool) → same p no_place ≡ b
        → (cond b (m + s) p ≡ p) ⊎ ((j : ℕ) × (some i ≡ some j) × (p ≡ no_place) × (cond b (m + s) p ≡ m + s))
    go true e = inr (i, refl, same→≡ p no_place e, refl)
    go false e = inl refl

-- ── the places of charts c, c + 1, .. ──

-- each chart's nearest slave, how many transitions of its own it has, and its present state
module _ (kap : ℕ → Option ℕ) (own : ℕ → ℕ) (cfg : ℕ → ℕ) where
  unfoldable pub turned_places : ℕ → List ℕ → List ℕ
  turned_places c [] = []
  turned_places c (p ∷ ps) = turned_place (kap c) (own c) (cfg c) p ∷ turned_places (suc c) ps

  pub length-turned : (c : ℕ) (ps : List ℕ) → length (turned_places c ps) ≡ length ps
  unfolding turned_places
  length-turned c [] = refl
  length-turned c (p ∷ ps) = ap suc (length-turned (suc c) ps)

  -- ── outcomes ──

  unfoldable pub turned : Outcome → Outcome
  turned o = record { output = o.output; next = o.next; places = turned_places zero o.places }

  agree-turned : (a : Outcome) (os : List Outcome) → agree (turned a) (map turned os) ≡ agree a os
  unfolding agree turned
  agree-turned a [] = refl
  agree-turned a (o ∷ os) =
      ap (λ b. (same a.output o.output && eq_list a.next o.next) && b) (agree-turned a os)

  -- what is turned answers as before
  pub answer-turned : (os : List Outcome) → answer (map turned os) ≡ answer os
  unfolding answer turned
  answer-turned [] = refl
  answer-turned (o ∷ os) = ap (given o.output o.next) (agree-turned o os)

  pub first-turned : (os : List Outcome) → first_places (map turned os) ≡ turned_places zero (first_places os)
  unfolding first_places turned turned_places
  first-turned [] = refl
  first-turned (o ∷ os) = refl

-- the places of a choice ch, and of the choice ch' that stands for it in the rewritten file
module _ (kap : ℕ → Option ℕ) (E E' : ℕ → Chart) (cfg : ℕ → ℕ) where
  abbrev own : ℕ → ℕ
  own c = length (E c).transitions

  pub record Stands (ch ch' : ℕ → ℕ) (c : ℕ) : Type 0 where
    pub place_there : ch c ≤ own c
    pub few : own c ≤ no_place
    pub is : ch' c ≡ place (kap c) (own c) (cfg c) (ch c)
    pub new_there : (w : ℕ) → place (kap c) (own c) (cfg c) (ch c) ≡ suc w → w < length (E' c).transitions

  pub places_turned : (ch ch' : ℕ → ℕ) (c n : ℕ) → ((i : ℕ) → c ≤ i → i < c + n → Stands ch ch' i)
      → places_from E' ch' c n ≡ turned_places kap own cfg c (places_from E ch c n)
  unfolding places_from turned_places
  places_turned ch ch' c zero h = refl
  places_turned ch ch' c (suc n) h =
      let g = h c (omega arith) (omega arith) in
      ap₂ ◌∷◌ (ap (λ v. place_of (pick (E' c) v) v) g.is
      ∙ place-turned (kap c) (E c) (E' c) (cfg c) (ch c) g.place_there g.few g.new_there)
      (places_turned ch ch' (suc c) n (λ i l m. h i (omega arith) (omega arith)))

module _ {A B : Type 0} (g : A → B) where
  pub map_cond : (b : Bool) (x : A) → map g (cond b (x ∷ []) []) ≡ cond b (g x ∷ []) []
  map_cond true x = refl
  map_cond false x = refl

  pub map-upto : (m : ℕ) (f : ℕ → List A) → map g (upto m f) ≡ upto m (λ v. map g (f v))
  unfolding upto
  map-upto zero f = refl
  map-upto (suc m) f = map-append g (upto m f) (f (suc m)) ∙ ap (λ l. l ++ map g (f (suc m))) (map-upto m f)
