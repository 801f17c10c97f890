-- Laws of the marks, the levels that have left the ring: one more, the last one replaced, the last one taken back.
use Rattle.std.specs.Prelude.{◌≡◌, List, ℕ, suc, ◌+◌, ◌<◌, length, get_or, set}
use Rattle.std.proofs.Common.{sym, ap, ◌∙◌, subst, arith, length-set, get_or-set_same, get_or-set_other}
use Rattle.std.proofs.Math.Decide.{dec_lt}
use Rattle.scan.specs.Levels.{below}
use Rattle.scan.specs.Laws.Levels.{below_one, below-head}
use Rattle.levels.specs.Ring.{slot_of, Ring, levels_at, Around, Places, Stands, Under, Marks}
use Rattle.levels.specs.Laws.Ring.{ring_more, places_more}

under_at : (text : List ℕ) (p f a l : ℕ) → levels_at text p ≡ levels_at text f → Under text p a l → Under text f a l
under_at text p f a l e u =
    (ap (λ m. get_or m 0 0) (sym e) ∙ u.0, (u.1.0, u.1.1 ∙ ap (below 1) e))

under_same : (text : List ℕ) (p a c l m : ℕ) → a ≡ c → l ≡ m → Under text p a l → Under text p c m
under_same text p a c l m e f u = subst (λ c. Under text p c m) e (subst (λ m. Under text p a m) f u)

pub no_marks : (text firsts lasts tops : List ℕ) (f : ℕ) → length firsts ≡ 512 → length lasts ≡ 512
    → length tops ≡ 512 → Marks text firsts lasts tops 0 f
no_marks text firsts lasts tops f x y z =
    record {
      few = omega arith;
      long_firsts = x;
      long-lasts = y;
      long_tops = z;
      last = λ i e. absurd (omega arith);
      next = λ i e. absurd (omega arith);
    }

module _ (text firsts lasts tops : List ℕ) (t floor : ℕ) (h : Marks text firsts lasts tops t floor) where
  pub marks_none : (f : ℕ) → Marks text firsts lasts tops 0 f
  marks_none f = no_marks text firsts lasts tops f h.long_firsts h.long-lasts h.long_tops

  -- the last mark is taken back: the one before it stands below its first place
  pub marks_pop : (i f : ℕ) → suc i ≡ t → f ≡ get_or firsts i 0 → Marks text firsts lasts tops i f
  marks_pop i f e q =
      let w = h.few in
      record {
        few = omega arith;
        long_firsts = h.long_firsts;
        long-lasts = h.long-lasts;
        long_tops = h.long_tops;
        last =
            λ j x. subst (λ p. Under text p (get_or tops j 0) (get_or lasts j 0))
            (ap (λ k. get_or firsts k 0) x ∙ sym q) (h.next j (omega arith));
        next = λ j x. h.next j (omega arith);
      }

  -- the marks before the last one, or none
  pub marks_left : (i f r : ℕ) → suc i ≡ t → (0 < r → (r ≡ i) × (f ≡ get_or firsts i 0))
      → Marks text firsts lasts tops r f
  marks_left i f r e k = go (dec_lt 0 r)
    where
      go : Dec (0 < r) → Marks text firsts lasts tops r f
      go (yes y) = rw (k y).0 (marks_pop i f e (k y).1)
      go (no n) = rw (let z : r ≡ 0 = omega arith in z) (marks_none f)

  module _ (p x f : ℕ) (u : Under text f x p) where
    -- the last mark is replaced
    pub marks_join : (i : ℕ) → suc i ≡ t → Marks text firsts (set lasts i p) (set tops i x) t f
    marks_join i e =
        let w = h.few in
        let y = h.long-lasts in
        let z = h.long_tops in
        record {
          few = h.few;
          long_firsts = h.long_firsts;
          long-lasts = length-set lasts i p ∙ h.long-lasts;
          long_tops = length-set tops i x ∙ h.long_tops;
          last =
              λ j k.
              let n : i ≡ j = omega arith in
              under_same text f x _ p _
              (sym (ap (λ n. get_or (set tops n x) j 0) n ∙ get_or-set_same tops j x 0 (omega arith)))
              (sym (ap (λ n. get_or (set lasts n p) j 0) n ∙ get_or-set_same lasts j p 0 (omega arith))) u;
          next =
              λ j k.
              under_same text (get_or firsts (suc j) 0) _ _ _ _ (sym (get_or-set_other tops i j x 0 (λ n. omega arith)))
              (sym (get_or-set_other lasts i j p 0 (λ n. omega arith))) (h.next j k);
        }

    -- one mark more, with the place p for its first
    pub marks_push : t < 512 → levels_at text floor ≡ levels_at text p
        → Marks text (set firsts t p) (set lasts t p) (set tops t x) (t + 1) f
    marks_push l g =
        let v = h.long_firsts in
        let y = h.long-lasts in
        let z = h.long_tops in
        record {
          few = omega arith;
          long_firsts = length-set firsts t p ∙ h.long_firsts;
          long-lasts = length-set lasts t p ∙ h.long-lasts;
          long_tops = length-set tops t x ∙ h.long_tops;
          last =
              λ j k.
              let n : t ≡ j = omega arith in
              under_same text f x _ p _
              (sym (ap (λ n. get_or (set tops n x) j 0) n ∙ get_or-set_same tops j x 0 (omega arith)))
              (sym (ap (λ n. get_or (set lasts n p) j 0) n ∙ get_or-set_same lasts j p 0 (omega arith))) u;
          next =
              λ j k.
              under_same text (get_or (set firsts t p) (suc j) 0) _ _ _ _
              (sym (get_or-set_other tops t j x 0 (λ n. omega arith)))
              (sym (get_or-set_other lasts t j p 0 (λ n. omega arith))) (below_it j k (dec_lt (suc j) t));
        }
      where
        below_it : (j : ℕ) → suc j < t + 1 → Dec (suc j < t)
            → Under text (get_or (set firsts t p) (suc j) 0) (get_or tops j 0) (get_or lasts j 0)
        below_it j k (yes n) =
            subst (λ q. Under text q (get_or tops j 0) (get_or lasts j 0))
            (sym (get_or-set_other firsts t (suc j) p 0 (λ z. omega arith))) (h.next j n)
        below_it j k (no n) =
            let v = h.long_firsts in
            let m : t ≡ suc j = omega arith in
            subst (λ q. Under text q (get_or tops j 0) (get_or lasts j 0))
            (sym (ap (λ n. get_or (set firsts n p) (suc j) 0) m ∙ get_or-set_same firsts (suc j) p 0 (omega arith)))
            (under_at text floor p _ _ g (h.last j (sym m)))

pub marks_same : (text firsts lasts tops : List ℕ) (t floor t' floor' : ℕ) → (floor' ≡ floor) × (t' ≡ t)
    → Marks text firsts lasts tops t floor → Marks text firsts lasts tops t' floor'
marks_same text firsts lasts tops t floor t' floor' e h = rw (e.0, e.1) h

module _ (text ring places : List ℕ) (end held floor : ℕ) (ls : List ℕ) (h : Stands text ring places end held floor ls)
  where
    -- the oldest level of a full ring stands below the place of the next one's bracket
    pub spill_under : held ≡ 1024 → (f : ℕ) → Around text f (below 1023 ls)
        → (levels_at text floor ≡ levels_at text (get_or places end 0))
        × Under text f (get_or ring end 0) (get_or places end 0)
    spill_under e f g =
        let y = h.kept.inside in
        let z : slot_of end 1023 ≡ end = omega arith in
        let a : Around text (get_or places end 0) (below 1024 ls) =
        subst (λ i. Around text (get_or places i 0) (below 1024 ls)) z (h.placed.bracket 1023 (omega arith)) in (
          h.rest.1 ∙ ap (λ n. below n ls) e ∙ sym a.1,
          (
            ap (λ m. get_or m 0 0) g.1 ∙ below-head 1023 ls ∙ sym (h.kept.entry 1023 (omega arith))
                ∙ ap (λ i. get_or ring i 0) z,
            (a.0, a.1 ∙ sym (ap (below 1) g.1 ∙ below_one 1023 ls)),
          ),
        )

    -- the level of a mark is taken back into an empty ring
    pub recall_stands : held ≡ 0 → (a l : ℕ) → Under text floor a l → (i : ℕ) → i ≡ slot_of end 0
        → Stands text (set ring i a) (set places i l) end 1 l ls
    recall_stands z a l u i q =
        record {
          kept =
              subst (λ n. Ring (set ring i a) end n ls) (let y : held + 1 ≡ 1 = omega arith in y)
              (ring_more ring end held ls h.kept (omega arith) i (q ∙ ap (slot_of end) (sym z)) a
              (sym u.0 ∙ ap (λ m. get_or m 0 0) h.rest.1 ∙ below-head held ls));
          placed =
              subst (λ n. Places text (set places i l) end n ls) (let y : held + 1 ≡ 1 = omega arith in y)
              (places_more text places end held ls h.placed h.kept.inside (omega arith) i
              (q ∙ ap (slot_of end) (sym z)) l
              outer);
          rest = subst (λ n. Around text l (below n ls)) (ap suc z) outer;
        }
      where
        outer : Around text l (below (suc held) ls)
        outer = (u.1.0, u.1.1 ∙ ap (below 1) h.rest.1 ∙ below_one held ls)
