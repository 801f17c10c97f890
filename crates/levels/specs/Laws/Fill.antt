-- The walk back that fills the ring: what it has still to find (`Looks`) are the levels outside those in the ring, and
-- each bracket that it finds is the next of them.
use Rattle.std.specs.Prelude.{◌≡◌, refl, Bool, false, List, [], ◌∷◌, ℕ, suc, ◌+◌, ◌-◌, ◌≤◌, ◌<◌, length, take, get_or}
use Rattle.std.specs.Prelude.{set}
use Rattle.std.proofs.Common.{sym, ◌∙◌, subst, arith}
use Rattle.std.proofs.Math.Path.{ap}
use Rattle.scan.specs.Look.{levels, rev}
use Rattle.scan.specs.Levels.{below}
use Rattle.scan.specs.Laws.Back.{rev-take}
use Rattle.scan.specs.Laws.Levels.{levels_some, below_none, below_one, below-head}
use Rattle.levels.specs.declared.Back.{Back}
use Rattle.levels.specs.declared.Back.TheVariants.{On, Found}
use Rattle.levels.specs.Ring.{flag, goes, StepsBack, slot_of, Ring, levels_at, Around, Places, Stands}
use Rattle.levels.specs.Laws.Ring.{ring_more, places_more}

-- the walk back has come to the place i
pub record Looks (text ring places : List ℕ) (end held i depth : ℕ) (second q : Bool) (ls : List ℕ) : Type 0 where
  pub kept : Ring ring end held ls
  pub placed : Places text places end held ls
  pub left : below held ls ≡ levels (rev (take i text) []) depth (flag second) q

module _ (text ring places : List ℕ) (end held i : ℕ) (ls : List ℕ) where
  pub looks_first : Stands text ring places end held i ls → Looks text ring places end held i 0 false false ls
  looks_first h = record { kept = h.kept; placed = h.placed; left = sym h.rest.1 }

  module _ (depth : ℕ) (second q : Bool) (h : Looks text ring places end held i depth second q ls) where
    -- one byte back
    on-back : (r : Back) → 0 < i → i ≤ length text → StepsBack (get_or text (i - 1) 0) depth second q r
        → below held ls ≡ goes (λ a. a ∷ levels_at text (i - 1)) (levels (rev (take (i - 1) text) [])) r
    on-back r p l e =
        h.left
        ∙ ap (λ k. levels (rev (take k text) []) depth (flag second) q) (let z : i ≡ i - 1 + 1 = omega arith in z)
        ∙ ap (λ w. levels w depth (flag second) q) (rev-take text (i - 1) (omega arith))
        ∙ (unfold levels in e.0 (λ a. a ∷ levels_at text (i - 1)) (levels (rev (take (i - 1) text) [])))

    -- a level is found
    found : (a p : ℕ) → p ≤ length text → (ms : List ℕ) → below held ls ≡ a ∷ ms → below 0 ms ≡ levels_at text p
        → held < 1024 → (j : ℕ) → j ≡ slot_of end held
        → Stands text (set ring j a) (set places j p) end (held + 1) p ls
    found a p o ms z w f j y =
        record {
          kept = ring_more ring end held ls h.kept f j y a (sym (ap (λ l. get_or l 0 0) z) ∙ below-head held ls);
          placed = places_more text places end held ls h.placed h.kept.inside f j y p next;
          rest = subst (λ n. Around text p (below n ls)) (let v : suc held ≡ held + 1 = omega arith in v) next;
        }
      where
        next : Around text p (below (suc held) ls)
        next = (o, sym w ∙ sym (sym (below_one held ls) ∙ ap (below 1) z ∙ (unfold below in refl)))

    module _ (p : 0 < i) (l : i ≤ length text) (r : Back) (e : StepsBack (get_or text (i - 1) 0) depth second q r) where
      pub looks_on : (n : ℕ) (s t : Bool) → r ≡ On n s t → Looks text ring places end held (i - 1) n s t ls
      looks_on n s t x =
          record {
            kept = h.kept;
            placed = h.placed;
            left =
                on-back r p l e
                ∙ ap (goes (λ a. a ∷ levels_at text (i - 1)) (levels (rev (take (i - 1) text) []))) x;
          }

      pub looks_found : (a : ℕ) → r ≡ Found a → held < 1024 → (j : ℕ) → j ≡ slot_of end held
          → Stands text (set ring j a) (set places j (i - 1)) end (held + 1) (i - 1) ls
      looks_found a x f j y =
          let z = on-back r p l e
          ∙ ap (goes (λ a. a ∷ levels_at text (i - 1)) (levels (rev (take (i - 1) text) []))) x in
          found a (i - 1) (omega arith) (levels_at text (i - 1)) z
          (below_none (levels_at text (i - 1)) (levels_some (rev (take (i - 1) text) []) 0 0 false)) f j y

    -- the text's start: the level of the whole text
    pub looks_whole : i ≤ 0 → held < 1024 → (j : ℕ) → j ≡ slot_of end held → (a : ℕ) → a ≡ flag second
        → Stands text (set ring j a) (set places j 0) end (held + 1) 0 ls
    looks_whole o f j y a x =
        found a 0 (omega arith) []
        (h.left ∙ ap (λ k. levels (rev (take k text) []) depth (flag second) q) (let z : i ≡ 0 = omega arith in z)
        ∙ (unfold levels rev in ap (◌∷ []) (sym x))) (unfold below levels rev in refl) f j y
