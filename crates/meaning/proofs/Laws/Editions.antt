-- What the editions do not share (RULES 7). In this order: a chart that may not stay has no place for it (`places_one`,
-- `never_stays`, `stay_one`), and its rule is that of a chart which takes a transition (`ok-one`); one that may stay
-- has its place behind all its transitions (`places_two`, `stay_place_lem`) and is permitted to stay exactly if nothing
-- triggers it (`stay_two`); and which files these are (`one_stays`, `two_stays`, `edition_left`).
use Rattle.std.proofs.Math.Path.{◌≡◌, refl, ap}
use Rattle.std.proofs.Common.{sym, ◌∙◌, true≢false}
use Rattle.std.specs.Prelude.{Bool, ◌&&◌, length}
use Rattle.std.proofs.Math.Bool.{true, false, not, cond}
use Rattle.std.proofs.lemmas.Bool.{false≢true}
use mathlib.Core.List.{List, [], ◌∷◌}
use Prim.Native.Nat.{ℕ, zero, suc}
use native.Mathlib.Omega.{arith}
use Rattle.signals.specs.Mask.{◌∪◌, ◌∩◌, within, apart}
use Rattle.layout.specs.declared.record.Transition.{Transition}
use Rattle.meaning.specs.Numbers.{first_edition, stay_edition, stay_place}
use Rattle.meaning.specs.Meaning.{Set, same, Chart, Move, no_move, takes, stay, nth, behind, pick, last_place}
use Rattle.meaning.specs.Meaning.{untriggered, ok_chart, place_of}
use Rattle.meaning.specs.File.{trailer, shape_of, chart_of, file_at, file_of}
use Rattle.meaning.specs.Check.{differ, edition?}
use Rattle.meaning.specs.Laws.Guards.{met_is}
use Rattle.meaning.specs.Laws.Bools.{and_second, not-true, same_refl, same→≡, same_≢, differs}

-- ── a chart that may not stay: edition 1 ──

module _ (C : Chart) (one : C.stays ≡ false) where
  pub places_one : last_place C ≡ length C.transitions
  unfolding last_place
  places_one = ap (λ b. cond b (suc (length C.transitions)) (length C.transitions)) one

  behind-one : behind C ≡ no_move
  behind-one = ap (λ b. cond b stay no_move) one

  pub pick-one : (k : ℕ) → pick C (suc k) ≡ nth no_move C.transitions k
  unfolding pick
  pick-one k = ap (λ m. nth m C.transitions k) behind-one

  nth-moves : (ts : List Transition) (k : ℕ) → nth no_move ts k ≡ stay → ⊥
  unfolding nth
  nth-moves [] k e = let z : ◌≡◌ {A = ℕ} 0 1 = cc in omega arith
  nth-moves (t ∷ ts) zero e = let z : ◌≡◌ {A = ℕ} 0 1 = cc in omega arith
  nth-moves (t ∷ ts) (suc k) e = nth-moves ts k e

  -- no place of a choice is staying
  pub never_stays : (v : ℕ) → pick C v ≡ stay → ⊥
  unfolding pick
  never_stays zero e = let z : ◌≡◌ {A = ℕ} 0 1 = cc in omega arith
  never_stays (suc k) e = nth-moves C.transitions k (sym (ap (λ m. nth m C.transitions k) behind-one) ∙ e)

  -- and it would not be permitted
  pub stay_one : (a : Bool) (o : Set) (s : ℕ) → ok_chart C a o s stay ≡ false
  unfolding ok_chart
  stay_one false o s = refl
  stay_one true o s = ap (λ b. b && untriggered C.transitions s o o) one

-- the rule of a chart in edition 1 (RULES 5.7), by its feedback
unfoldable pub ok_one : Set → Bool → Set → ℕ → Move → Bool
ok_one F false o s no_move = true
ok_one F false o s (takes t) = false
ok_one F false o s stay = false
ok_one F true o s no_move = false
ok_one F true o s (takes t) =
    same t.from s && (within t.needed (o ∪ (t.action ∩ F)) && apart t.barred (o ∪ (t.action ∩ F)))
ok_one F true o s stay = false

pub ok-one : (C : Chart) → C.stays ≡ false → (a : Bool) (o : Set) (s : ℕ) (m : Move)
    → ok_chart C a o s m ≡ ok_one C.feedback a o s m
unfolding ok_chart ok_one
ok-one C one false o s no_move = refl
ok-one C one false o s (takes t) = refl
ok-one C one false o s stay = refl
ok-one C one true o s no_move = refl
ok-one C one true o s (takes t) = ap (λ b. same t.from s && b) (met_is t _ _)
ok-one C one true o s stay = ap (λ b. b && untriggered C.transitions s o o) one

-- ── a chart that may: edition 2 ──

module _ (C : Chart) (two : C.stays ≡ true) where
  pub places_two : last_place C ≡ suc (length C.transitions)
  unfolding last_place
  places_two = ap (λ b. cond b (suc (length C.transitions)) (length C.transitions)) two

  nth_end : (m : Move) (ts : List Transition) → nth m ts (length ts) ≡ m
  unfolding nth
  nth_end m [] = refl
  nth_end m (t ∷ ts) = nth_end m ts

  -- it is the last place of a choice, and 254 in an answer
  pub stay_last : pick C (last_place C) ≡ stay
  unfolding pick
  stay_last = ap (pick C) places_two ∙ nth_end (behind C) C.transitions ∙ ap (λ b. cond b stay no_move) two

  pub stay_place_lem : place_of (pick C (last_place C)) (last_place C) ≡ stay_place
  unfolding place_of
  stay_place_lem = ap (λ m. place_of m (last_place C)) stay_last

  -- an active chart stays exactly if nothing triggers it on what it is offered
  pub stay_two : (o : Set) (s : ℕ) → ok_chart C true o s stay ≡ untriggered C.transitions s o o
  unfolding ok_chart
  stay_two o s = ap (λ b. b && untriggered C.transitions s o o) two

-- ── which files ──

module _ (f : List ℕ) where
  stays_is : (c : ℕ) → ((file_of f).chart c).stays ≡ same (trailer f).edition stay_edition
  unfolding file_of file_at chart_of shape_of
  stays_is c = refl

  pub one_stays : (trailer f).edition ≡ first_edition → (c : ℕ) → ((file_of f).chart c).stays ≡ false
  one_stays e c = stays_is c ∙ ap (λ n. same n stay_edition) e ∙ same_≢ 1 2 (λ z. omega arith)

  pub two_stays : (trailer f).edition ≡ stay_edition → (c : ℕ) → ((file_of f).chart c).stays ≡ true
  two_stays e c = stays_is c ∙ ap (λ n. same n stay_edition) e ∙ same_refl 2

  -- what passes 2, and 46 too, is edition 1
  pub edition_left : edition? (trailer f) ≡ false → same (trailer f).edition stay_edition ≡ false
      → (trailer f).edition ≡ first_edition
  unfolding edition?
  edition_left h k = go (same (trailer f).edition first_edition) refl
    where
      go : (b : Bool) → same (trailer f).edition first_edition ≡ b → (trailer f).edition ≡ first_edition
      go true e = same→≡ _ _ e
      go false e = absurd (true≢false (sym (ap not k) ∙ and_second _ _ h (ap not e)))
