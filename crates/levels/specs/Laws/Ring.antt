-- Laws of the ring of levels: a level opened, closed, changed; the ring filled anew; and what it keeps with one byte
-- more.
use Rattle.std.specs.Prelude.{◌≡◌, true, false, length, take, set}
use Rattle.std.proofs.Math.Path.{refl, subst}
use Rattle.std.proofs.Common.{sym, ap, ◌∙◌, add-one, eq-eqb, ne_eqb}
use mathlib.Core.List.{List, [], ◌∷◌}
use Prim.Native.Nat.{ℕ, zero, suc, ◌+◌, ◌-◌, ◌%◌, ◌≤◌, ◌<◌}
use Rattle.std.proofs.Math.Decide.{dec_lt}
use native.Mathlib.Omega.{arith}
use Rattle.std.proofs.Math.ListN.{get_or, length-set}
use Rattle.std.proofs.Math.Seq.{get_or-set_same, get_or-set_other}
use Rattle.notation.specs.Grammar.{blank}
use Rattle.scan.specs.Look.{opener, closer, around, levels, rev}
use Rattle.scan.specs.Levels.{below, on_first, second_of, fresh, slave_of}
use Rattle.scan.specs.Laws.Levels.{levels-closer, opener-closer, levels-opener, levels_bar, levels-q, levels-blank}
use Rattle.scan.specs.Laws.Levels.{levels_else, fresh-blank, fresh-opener, fresh-other, levels_some}
use Rattle.scan.specs.Laws.Levels.{below_none, below-below, below_at, below_some, below-first}
use Rattle.levels.specs.declared.Kept.{Kept}
use Rattle.levels.specs.Ring.{slot_of, Ring, Around, Places, Stands, StandsIn, Keeps}

-- ── lists ──

module _ (g : ℕ → ℕ) where
  length-first : (l : List ℕ) → length (on_first g l) ≡ length l
  unfolding on_first
  length-first [] = refl
  length-first (x ∷ l) = refl

  first-first : (l : List ℕ) → 0 < length l → g (get_or l 0 0) ≡ get_or (on_first g l) 0 0
  unfolding on_first
  first-first [] h = absurd (omega arith)
  first-first (x ∷ l) h = refl

  first-other : (l : List ℕ) (j : ℕ) → get_or l (suc j) 0 ≡ get_or (on_first g l) (suc j) 0
  unfolding on_first
  first-other [] j = refl
  first-other (x ∷ l) j = refl

-- ── the ring ──

module _ (ring : List ℕ) (end held : ℕ) (ls : List ℕ) (r : Ring ring end held ls) where
  pub ring_open : (a more : ℕ) → more ≤ 1024 → more ≤ held + 1
      → Ring (set ring end a) ((end + 1) % 1024) more (a ∷ ls)
  ring_open a more h k =
      let e = r.inside in
      record { long = length-set ring end a ∙ r.long; inside = omega arith; few = h; some = omega arith; entry = at }
    where
      at : (j : ℕ) → j < more → get_or (set ring end a) (slot_of ((end + 1) % 1024) j) 0 ≡ get_or (a ∷ ls) j 0
      at zero l =
          let e = r.inside in
          let w = r.long in
          ap (λ i. get_or (set ring end a) i 0) (let z : slot_of ((end + 1) % 1024) 0 ≡ end = omega arith in z)
          ∙ get_or-set_same ring end a 0 (omega arith)
      at (suc j) l =
          let e = r.inside in
          ap (λ i. get_or (set ring end a) i 0)
          (let z : slot_of ((end + 1) % 1024) (suc j) ≡ slot_of end j = omega arith in z)
          ∙ get_or-set_other ring end (slot_of end j) a 0 (λ z. omega arith) ∙ r.entry j (omega arith)

  pub ring_close : 0 < held → Ring ring (slot_of end 0) (held - 1) (below 1 ls)
  ring_close p =
      let e = r.inside in
      let f = r.few in
      record {
        long = r.long;
        inside = omega arith;
        few = omega arith;
        some = below_some 1 ls;
        entry =
            λ j l.
            ap (λ i. get_or ring i 0) (let z : slot_of (slot_of end 0) j ≡ slot_of end (suc j) = omega arith in z)
            ∙ r.entry (suc j) (omega arith) ∙ sym (below_at ls j);
      }

  pub ring_first : (g : ℕ → ℕ) (a : ℕ) → a ≡ g (get_or ring (slot_of end 0) 0)
      → Ring (set ring (slot_of end 0) a) end held (on_first g ls)
  ring_first g a q =
      record {
        long = length-set ring (slot_of end 0) a ∙ r.long;
        inside = r.inside;
        few = r.few;
        some = (let w = r.some in rw (length-first g ls) w);
        entry = at;
      }
    where
      at : (j : ℕ) → j < held → get_or (set ring (slot_of end 0) a) (slot_of end j) 0 ≡ get_or (on_first g ls) j 0
      at zero l =
          let e = r.inside in
          let w = r.long in
          get_or-set_same ring (slot_of end 0) a 0 (omega arith) ∙ q ∙ ap g (r.entry 0 l) ∙ first-first g ls r.some
      at (suc j) l =
          let e = r.inside in
          let f = r.few in
          get_or-set_other ring (slot_of end 0) (slot_of end (suc j)) a 0 (λ z. omega arith) ∙ r.entry (suc j) l
          ∙ first-other g ls j

  -- one level more at the outer end, while the ring is filled
  pub ring_more : held < 1024 → (i : ℕ) → i ≡ slot_of end held → (a : ℕ) → a ≡ get_or ls held 0
      → Ring (set ring i a) end (held + 1) ls
  ring_more h i x a d =
      record {
        long = length-set ring i a ∙ r.long;
        inside = r.inside;
        few = omega arith;
        some = r.some;
        entry = λ j l. at j l (dec_lt j held);
      }
    where
      at : (j : ℕ) → j < held + 1 → Dec (j < held) → get_or (set ring i a) (slot_of end j) 0 ≡ get_or ls j 0
      at j l (yes k) =
          let e = r.inside in
          get_or-set_other ring i (slot_of end j) a 0 (λ z. omega arith) ∙ r.entry j k
      at j l (no k) =
          let e = r.inside in
          let w = r.long in
          let z : j ≡ held = omega arith in
          ap (λ x. get_or (set ring x a) (slot_of end j) 0) (let y : i ≡ slot_of end j = omega arith in y)
          ∙ get_or-set_same ring (slot_of end j) a 0 (omega arith) ∙ d ∙ ap (λ x. get_or ls x 0) (sym z)

-- ── the places ──

around-none : (text : List ℕ) (p : ℕ) (ls : List ℕ) → Around text p ls → Around text p (below 0 ls)
around-none text p ls h =
    (h.0, h.1 ∙ sym (below_none ls (subst (λ l. 0 < length l) h.1 (levels_some (rev (take p text) []) 0 0 false))))

-- one place more at the outer end, while the ring is filled
pub places_more : (text places : List ℕ) (end held : ℕ) (ls : List ℕ) → Places text places end held ls
    → end < 1024 → held < 1024 → (i : ℕ) → i ≡ slot_of end held → (p : ℕ) → Around text p (below (suc held) ls)
    → Places text (set places i p) end (held + 1) ls
places_more text places end held ls h e f i q p a =
    record { long = length-set places i p ∙ h.long; bracket = λ j l. at j l (dec_lt j held) }
  where
    at : (j : ℕ) → j < held + 1 → Dec (j < held)
        → Around text (get_or (set places i p) (slot_of end j) 0) (below (suc j) ls)
    at j l (yes k) =
        subst (λ x. Around text x (below (suc j) ls))
        (sym (get_or-set_other places i (slot_of end j) p 0 (λ z. omega arith))) (h.bracket j k)
    at j l (no k) =
        let w = h.long in
        let z : j ≡ held = omega arith in
        subst (λ x. Around text x (below (suc j) ls))
        (sym (ap (λ x. get_or (set places x p) (slot_of end j) 0) (let y : i ≡ slot_of end j = omega arith in y)
        ∙ get_or-set_same places (slot_of end j) p 0 (omega arith)))
        (subst (λ x. Around text p (below (suc x) ls)) (sym z) a)

module _ (text ring places : List ℕ) (end held floor : ℕ) (ls : List ℕ) (h : Stands text ring places end held floor ls)
  where
    pub stands_with : (n : ℕ) → held ≡ n → Stands text ring places end n floor ls
    stands_with n e = subst (λ n. Stands text ring places end n floor ls) e h

    -- the oldest level goes: the rest stand around the place of the next one's bracket
    pub stands_spill : held ≡ 1024 → (i : ℕ) → i ≡ slot_of end 1022
        → Stands text ring places end 1023 (get_or places i 0) ls
    stands_spill e i q =
        let r = h.kept in
        let y = r.inside in
        record {
          kept =
              record {
                long = r.long;
                inside = r.inside;
                few = omega arith;
                some = r.some;
                entry = λ j l. r.entry j (omega arith);
              };
          placed = record { long = h.placed.long; bracket = λ j l. h.placed.bracket j (omega arith) };
          rest =
              subst (λ x. Around text (get_or places x 0) (below 1023 ls))
              (sym q) (h.placed.bracket 1022 (omega arith));
        }

    pub stands_open : held < 1024 → (at a : ℕ) → Around text at ls
        → Stands text (set ring end a) (set places end at) ((end + 1) % 1024) (held + 1) floor (a ∷ ls)
    unfolding below
    stands_open f at a g =
        record {
          kept = ring_open ring end held ls h.kept a (held + 1) (omega arith) (omega arith);
          placed = record { long = length-set places end at ∙ h.placed.long; bracket = bracket };
          rest = subst (λ n. Around text floor (below n (a ∷ ls))) (sym (add-one held)) h.rest;
        }
      where
        bracket : (j : ℕ) → j < held + 1
            → Around text (get_or (set places end at) (slot_of ((end + 1) % 1024) j) 0) (below (suc j) (a ∷ ls))
        bracket zero l =
            let e = h.kept.inside in
            let w = h.placed.long in
            subst (λ x. Around text x (below 0 ls))
            (sym (ap (λ i. get_or (set places end at) i 0)
            (let z : slot_of ((end + 1) % 1024) 0 ≡ end = omega arith in z)
            ∙ get_or-set_same places end at 0 (omega arith)))
            (around-none text at ls g)
        bracket (suc j) l =
            let e = h.kept.inside in
            subst (λ x. Around text x (below (suc j) ls))
            (sym (ap (λ i. get_or (set places end at) i 0)
            (let z : slot_of ((end + 1) % 1024) (suc j) ≡ slot_of end j = omega arith in z)
            ∙ get_or-set_other places end (slot_of end j) at 0 (λ z. omega arith)))
            (h.placed.bracket j (omega arith))

    pub stands_close : 0 < held → (i : ℕ) → i ≡ slot_of end 0 → Stands text ring places i (held - 1) floor (below 1 ls)
    stands_close p i q =
        record {
          kept = subst (λ x. Ring ring x (held - 1) (below 1 ls)) (sym q) (ring_close ring end held ls h.kept p);
          placed =
              record {
                long = h.placed.long;
                bracket =
                    λ j l.
                    let e = h.kept.inside in
                    let f = h.kept.few in
                    subst (λ x. Around text (get_or places x 0) (below (suc j) (below 1 ls)))
                    (let z : slot_of end (suc j) ≡ slot_of i j = omega arith in z)
                    (subst (λ m. Around text (get_or places (slot_of end (suc j)) 0) m) (sym (below-below (suc j) ls))
                    (h.placed.bracket (suc j) (omega arith)));
              };
          rest =
              subst (λ m. Around text floor m)
              (ap (λ n. below n ls) (let z : held ≡ suc (held - 1) = omega arith in z)
              ∙ sym (below-below (held - 1) ls))
              h.rest;
        }

    pub stands_first : 0 < held → (i : ℕ) → i ≡ slot_of end 0 → (g : ℕ → ℕ) (a : ℕ) → a ≡ g (get_or ring i 0)
        → Stands text (set ring i a) places end held floor (on_first g ls)
    stands_first p i e g a q =
        record {
          kept =
              subst (λ i. Ring (set ring i a) end held (on_first g ls)) (sym e)
              (ring_first ring end held ls h.kept g a (q ∙ ap (λ i. g (get_or ring i 0)) e));
          placed =
              record {
                long = h.placed.long;
                bracket =
                    λ j l. subst (λ m. Around text (get_or places (slot_of end j) 0) m) (below-first g j ls)
                    (h.placed.bracket j l);
              };
          rest =
              subst (λ m. Around text floor m)
              (ap (λ n. below n ls) (let z : held ≡ suc (held - 1) = omega arith in z) ∙ below-first g (held - 1) ls
              ∙ ap (λ n. below n (on_first g ls)) (let z : suc (held - 1) ≡ held = omega arith in z))
              h.rest;
        }

-- ── no byte yet: the level of the whole text, 0 ──

pub keeps-start : (text ring places : List ℕ) (k : Kept) → length ring ≡ 1024 → get_or ring 1023 0 ≡ 0
    → length places ≡ 1024 → get_or places 1023 0 ≡ 0
    → k.end ≡ 0 → k.held ≡ 1 → k.fresh ≡ false → k.floor ≡ 0 → Keeps text ring places k []
unfolding levels fresh below
keeps-start text ring places k l z m y e h f o =
    record {
      stands =
          record {
            kept =
                record {
                  long = l;
                  inside = omega arith;
                  few = omega arith;
                  some = omega arith;
                  entry = λ j i. at j (omega arith);
                };
            placed = record { long = m; bracket = λ j i. from j (omega arith) };
            rest = rw (o, h) nowhere;
          };
      is_fresh = f;
    }
  where
    nowhere : Around text 0 (0 ∷ [])
    nowhere = (omega arith, unfold levels rev in refl)

    at : (j : ℕ) → j < 1 → get_or ring (slot_of k.end j) 0 ≡ get_or (0 ∷ []) j 0
    at zero i = ap (λ x. get_or ring (slot_of x 0) 0) e ∙ z
    at (suc j) i = absurd (omega arith)

    from : (j : ℕ) → j < 1 → Around text (get_or places (slot_of k.end j) 0) (below (suc j) (0 ∷ []))
    from zero i = subst (λ p. Around text p (0 ∷ [])) (sym (ap (λ x. get_or places (slot_of x 0) 0) e ∙ y)) nowhere
    from (suc j) i = absurd (omega arith)

-- ── one byte more ──

module _ (text : List ℕ) (b : ℕ) (v ring places : List ℕ) (k : Kept) (h : Keeps text ring places k v) where
  pub keeps-blank : blank b ≡ true → Keeps text ring places k (b ∷ v)
  keeps-blank e =
      record {
        stands = rw (levels-blank b v e) h.stands;
        is_fresh = h.is_fresh ∙ sym (fresh-blank b v e);
      }

  module _ (r : Kept) (ring' : List ℕ) (nb : blank b ≡ false) where
    pub keeps-opener : (places' : List ℕ) → opener b ≡ true → r.fresh ≡ true → (a : ℕ) → a ≡ around b 0 false
        → (StandsIn text ring places k (levels v 0 0 false)
        → StandsIn text ring' places' r (a ∷ levels v 0 0 false))
        → Keeps text ring' places' r (b ∷ v)
    keeps-opener places' e f a q g =
        record {
          stands = rw (levels-opener b v (opener-closer b e) e, ← q) (g h.stands);
          is_fresh = f ∙ sym (fresh-opener b v e);
        }

    module _ (no : opener b ≡ false) (f : r.fresh ≡ false) where
      old : r.fresh ≡ fresh (b ∷ v)
      old = f ∙ sym (fresh-other b v nb no)

      pub keeps-closer : closer b ≡ true
          → ((text ring places ls : List ℕ) → StandsIn text ring places k ls → StandsIn text ring places r (below 1 ls))
          → Keeps text ring places r (b ∷ v)
      keeps-closer e g =
          record {
            stands = rw (levels-closer b v e) (g text ring places (levels v 0 0 false) h.stands);
            is_fresh = old;
          }

      module _ (nc : closer b ≡ false) where
        pub keeps_bar : b ≡ 124
            → ((text places ls : List ℕ) → StandsIn text ring places k ls
            → StandsIn text ring' places r (on_first second_of ls))
            → Keeps text ring' places r (b ∷ v)
        keeps_bar e g =
            record {
              stands = rw (levels_bar b v nc no (eq-eqb b 124 e)) (g text places (levels v 0 0 false) h.stands);
              is_fresh = old;
            }

        pub keeps_else : (b ≡ 124 → ⊥) → (b ≡ 113 → ⊥) → r.end ≡ k.end → r.held ≡ k.held → r.floor ≡ k.floor
            → Keeps text ring places r (b ∷ v)
        keeps_else e q x y z =
            record {
              stands = rw (levels_else b v nc no (ne_eqb b 124 e) nb (ne_eqb b 113 q), x, y, z) h.stands;
              is_fresh = old;
            }

        pub keeps-named : b ≡ 113 → k.fresh ≡ true
            → ((text places ls : List ℕ) → StandsIn text ring places k ls
            → StandsIn text ring' places r (on_first slave_of ls))
            → Keeps text ring' places r (b ∷ v)
        keeps-named e q g =
            record {
              stands =
                  subst (λ l. StandsIn text ring' places r l)
                  (sym (ap (λ c. levels (c ∷ v) 0 0 false) e ∙ levels-q v ∙ rw (sym h.is_fresh ∙ q)))
                  (g text places (levels v 0 0 false) h.stands);
              is_fresh = old;
            }

  pub keeps_late : b ≡ 113 → k.fresh ≡ false → Keeps text ring places k (b ∷ v)
  keeps_late e q =
      record {
        stands =
            subst (λ l. StandsIn text ring places k l)
            (sym (ap (λ c. levels (c ∷ v) 0 0 false) e ∙ levels-q v ∙ rw (sym h.is_fresh ∙ q))) h.stands;
        is_fresh =
            q ∙ sym (ap (λ c. fresh (c ∷ v)) e ∙ fresh-other 113 v (unfold blank in refl) (unfold opener in refl));
      }
