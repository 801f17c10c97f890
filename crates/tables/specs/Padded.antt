-- Lists of outcomes that say the same: one of a search over tables, whose configurations have 8 states, zeros behind,
-- and whose places are 8, with 255s behind; one of the meaning. Laws: of one outcome, of ++, of what comes again
-- (padded-one to padded-again), of the answer (found) and of the places (found-places).
use Rattle.std.specs.Prelude.{◌≡◌, ◌&&◌, ℕ, ◌-◌, length}
use Rattle.std.proofs.Math.Path.{refl, sym, ap, ap₂}
use Rattle.std.proofs.Common.{◌∙◌, arith, take_at}
use mathlib.Core.List.{List, [], ◌∷◌, ◌++◌, map, map-append, append-nil}
use Rattle.std.proofs.Math.ListN.{replicate}
use Rattle.meaning.specs.Numbers.{most_charts, no_place}
use Rattle.meaning.specs.Meaning.{same, Outcome, eq_list, agree, given, answer, first_places}
use Rattle.meaning.specs.Calls.{all_places}
use Rattle.settling.specs.Hunt.{over, nothing}
use Rattle.meaning.proofs.Laws.Choices.{eq_list_refl}
use Rattle.settling.specs.Hunt.Laws.{head, over_first, Alike, alike_refl, alike_one, alike_sym, alike_trans}
use Rattle.settling.specs.Hunt.Laws.{alike_fewer, alike_append, alike_answer, Among, among_alike, alike_drop}
use Rattle.settling.specs.Hunt.Laws.{answer-over}
use Rattle.tables.specs.Contents.{answer_of, trimmed}

-- ── outcomes of 8 states ──

module _ (N : ℕ) where
  unfoldable pub pad : Outcome → Outcome
  pad o = record {
    output = o.output;
    next = o.next ++ replicate (most_charts - N) 0;
    places = o.places ++ replicate (most_charts - N) no_place;
  }

  -- padded, ys is like xs; under P the first has the same places too
  pub record Padded (P : Type 0) (xs ys : List Outcome) : Type 0 where
    alike : Alike P xs (map pad ys)

  pub padded_fewer : {P Q : Type 0} {xs ys : List Outcome} → (P → Q) → Padded Q xs ys → Padded P xs ys
  padded_fewer f p = record { alike = alike_fewer f p.alike }

  module _ {P : Type 0} where
    pub padded_none : Padded P [] []
    padded_none = record { alike = alike_refl [] }

    pub padded_one : (a b : Outcome) → a.output ≡ b.output → a.next ≡ b.next ++ replicate (most_charts - N) 0
        → (P → a.places ≡ b.places ++ replicate (most_charts - N) no_place) → Padded P (a ∷ []) (b ∷ [])
    unfolding pad
    padded_one a b p q r = record { alike = alike_one a (pad b) p q r }

    pub padded_append : (xs ys zs ws : List Outcome) → Padded P xs ys → Padded P zs ws → Padded P (xs ++ zs) (ys ++ ws)
    padded_append xs ys zs ws p q = record { alike = rw (map-append pad ys ws) (alike_append p.alike q.alike) }

    pub padded_nothing : (xs ys ws : List Outcome) → Padded P xs ys → ws ≡ [] → Padded P xs (ys ++ ws)
    padded_nothing xs ys ws p e = rw (e, append-nil ys) p

    -- what is in the list already may come again, at other places too
    pub padded_again : {Q : Type 0} (xs ys zs ws : List Outcome) → Padded P xs ys → Padded Q zs ws → Among zs xs
        → Padded P xs (ys ++ ws)
    padded_again xs ys zs ws p q i =
        record {
          alike =
              rw (map-append pad ys ws)
              (alike_trans (alike_sym (alike_drop xs (map pad ws) (among_alike q.alike i)))
              (alike_append p.alike (alike_refl (map pad ws))));
        }

  -- ── the answer ──

  -- every outcome is of N states and places
  abbrev pub Sizes : List Outcome → Type 0
  Sizes [] = Unit {0}
  Sizes (o ∷ os) = (length o.next ≡ N) × (length o.places ≡ N) × Sizes os

  -- what stands behind lists of one length says nothing
  eq_list-behind : (a b z : List ℕ) → length a ≡ length b → eq_list (a ++ z) (b ++ z) ≡ eq_list a b
  unfolding eq_list
  eq_list-behind [] [] z e = eq_list_refl z
  eq_list-behind [] (y ∷ b) z e = absurd (omega arith)
  eq_list-behind (x ∷ a) [] z e = absurd (omega arith)
  eq_list-behind (x ∷ a) (y ∷ b) z e = ap (λ r. same x y && r) (eq_list-behind a b z (omega arith))

  agree-pad : (a : Outcome) (os : List Outcome) → length a.next ≡ N → Sizes os
      → agree (pad a) (map pad os) ≡ agree a os
  unfolding agree pad
  agree-pad a [] l s = refl
  agree-pad a (o ∷ os) l s = ap₂ (λ x y. (same a.output o.output && x) && y)
      (eq_list-behind a.next o.next (replicate (most_charts - N) 0) (l ∙ sym s.0)) (agree-pad a os l s.2)

  answer-pad : (os : List Outcome) → Sizes os → trimmed N (answer (map pad os)) ≡ answer os
  unfolding answer trimmed pad
  answer-pad [] s = refl
  answer-pad (o ∷ os) s =
      ap₂ (given o.output) (take_at o.next (replicate (most_charts - N) 0) N s.0) (agree-pad o os s.0 s.2)

  module _ {P : Type 0} where
    pub found : (xs ys : List Outcome) → Padded P xs ys → Sizes ys → answer_of N (over xs nothing) ≡ answer ys
    found xs ys p s = ap (trimmed N) (answer-over xs ∙ alike_answer xs (map pad ys) p.alike) ∙ answer-pad ys s

    pub found_places : P → (xs ys : List Outcome) → Padded P xs ys → Sizes ys
        → (over xs nothing).places ≡ all_places (first_places ys)
    unfolding head first_places over pad
    found_places q [] [] p s = refl
    found_places q [] (y ∷ ys) p s = let h = p.alike.first in cc
    found_places q (x ∷ xs) [] p s = let h = p.alike.first in cc
    found_places q (x ∷ xs) (y ∷ ys) p s = ap (λ f. f.places) (over_first x xs) ∙ p.alike.places q
        ∙ ap (λ n. y.places ++ replicate (most_charts - n) no_place) (sym s.1)
