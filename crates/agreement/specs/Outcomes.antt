-- The rewritten tree has the outcomes of the tree, in the same order, with their places turned: so a step has the same
-- refusal, output, next configuration and mark.
use Rattle.std.specs.Prelude.{◌≡◌, Bool, false, ◌≢◌}
use Rattle.std.proofs.Math.Path.{refl, sym, ap, ap₂, subst, subst₂}
use Rattle.std.proofs.Common.{◌∙◌, true≢false, zero-add, arith}
use Rattle.std.proofs.Math.Bool.{true}
use Rattle.std.proofs.lemmas.Bool.{false≢true}
use Rattle.std.proofs.Math.Option.{Option, none, some}
use mathlib.Core.List.{List, [], ◌∷◌, map}
use Prim.Native.Nat.{ℕ, zero, suc, ◌+◌, ◌≤◌, ◌<◌}
use Rattle.std.proofs.Math.ListN.{length}
use Rattle.signals.specs.Mask.{◌∩◌}
use Rattle.signals.specs.Decide.{sets, A, B, ∅ₑ, ◌∪ₑ◌, ◌∩ₑ◌, ◌≐◌}
use Rattle.layout.specs.declared.record.Transition.{Transition}
use Rattle.meaning.specs.Meaning.{Set, same, Chart, Tree, Slaves, leaf, comp, hide, dec, nil, snoc, Move, no_move}
use Rattle.meaning.specs.Meaning.{takes}
use Rattle.meaning.specs.Meaning.{stay, nth, behind, pick, last_place, after, in_face_chart, in_face, out, ok}
use Rattle.meaning.specs.Meaning.{permitted}
use Rattle.meaning.specs.Meaning.{upd, moves, nexts, Outcome, upto, outcome_of, outcome, search, outcomes}
use Rattle.meaning.specs.Numbers.{no_place}
use Rattle.meaning.specs.File.{Has}
use Rattle.meaning.specs.Rewriting.{call_in, idle, called, chart_with}
use Rattle.meaning.specs.Laws.Bools.{same→≡, same→≢, not-true}
use Rattle.meaning.proofs.Laws.Choices.{upto_cong, upd-at, upd_off, search_empty}
use Rattle.meaning.proofs.Active.Laws.{some?, active_by, ok_active}
use Rattle.meaning.specs.Laws.Above.{Above}
use Rattle.meaning.proofs.Laws.Editions.{places_one}
use Rattle.agreement.specs.Tree.{on, tree, touch, move_r}
use Rattle.agreement.specs.Same.{At, Rw, Rws, old-cut, ok-t, out_t, face-t, face-old}
use Rattle.agreement.specs.Active.{active_agree, Live, live}
use Rattle.agreement.specs.Upto.{merge}
use Rattle.agreement.specs.Charts.{place, idle-at, pick-moved, places, places_none, face_is, OldChart, old-pick}
use Rattle.agreement.specs.Charts.{old_face_chart}
use Rattle.agreement.specs.Fit.{Fit, FitS}
use Rattle.agreement.specs.Places.{turned, Stands, places_turned, map_cond, map-upto}

after-moved : (sig : ℕ → ℕ) (κ : Option ℕ) (T : Transition → Set) (s : ℕ) (m : Move)
    → after s (move_r sig κ T s m) ≡ after s m
unfolding after move_r called idle
after-moved sig κ T s (takes t) = refl
after-moved sig κ T s stay = refl
after-moved sig none T s no_move = refl
after-moved sig (some i) T s no_move = refl

pub some_nth : (d : Move) (ts : List Transition) (k : ℕ) → k < length ts → some? (nth d ts k) ≡ true
unfolding nth some?
some_nth d [] k l = absurd (omega arith)
some_nth d (t ∷ ts) zero l = refl
some_nth d (t ∷ ts) (suc k) l = some_nth d ts k (omega arith)

module _ (sig state : ℕ → ℕ) (inj : (i j : ℕ) → sig i ≡ sig j → i ≡ j) (kap : ℕ → Option ℕ) (slv : ℕ → Slaves) (N : ℕ)
    (E E' : ℕ → Chart)
    (cfg : ℕ → ℕ) (t : Tree) (inp : Set)
    (same-chart : (c : ℕ) → c < N
    → E' c ≡ chart_with sig (kap c) (touch sig state (slv c)) (E c)) (fit : Fit sig kap slv N t none) (above : Above t)
    (has : (c : ℕ) → c < N → Has t c ≡ true)
    (old : (c : ℕ) → c < N → OldChart sig (E c)) (sound : (c : ℕ) → c < N → cfg c < (E c).states)
    (few : (c : ℕ) → c < N → length (E c).transitions ≤ no_place) where
  abbrev fbs : ℕ → Set
  fbs c = (E c).feedback

  -- choices of the charts below c, in range, and their rewriting
  abbrev Good : ℕ → (ℕ → ℕ) → (ℕ → ℕ) → Type 0
  Good c ch ch' = (i : ℕ) → i < c
      → (ch i ≤ length (E i).transitions) × (ch' i ≡ place (kap i) (length (E i).transitions) (cfg i) (ch i))

  moved_is : (ch ch' : ℕ → ℕ) → Good N ch ch' → (c : ℕ) → c < N
      → moves E' ch' c ≡ move_r sig (kap c) (touch sig state (slv c)) (cfg c) (moves E ch c)
  unfolding moves
  moved_is ch ch' g c l = ap₂ pick (same-chart c l) (g c l).1
      ∙ (pick-moved sig (kap c) (touch sig state (slv c)) (E c) (cfg c) (ch c) (g c l).0 (sound c l))

  -- the rewritten chart is of edition 1 too
  one' : (c : ℕ) → c < N → (E' c).stays ≡ false
  unfolding chart_with
  one' c l = ap (λ C. C.stays) (same-chart c l) ∙ (old c l).one

  -- its list has the place that stands for a place
  new_there : (c v : ℕ) → c < N → v ≤ length (E c).transitions → (w : ℕ)
      → place (kap c) (length (E c).transitions) (cfg c) v ≡ suc w
      → w < length (E' c).transitions
  unfolding place
  new_there c v l b w e = subst (λ C. w < length C.transitions) (sym (same-chart c l)) (go (kap c) v b e)
    where
      m : ℕ
      m = length (E c).transitions

      T : Transition → Set
      T = touch sig state (slv c)

      go : (κ : Option ℕ) (v : ℕ) → v ≤ m → place κ m (cfg c) v ≡ suc w
          → w < length (chart_with sig κ T (E c)).transitions
      go none v b e = let n = places_none sig T (E c) in omega arith
      go (some i) zero b e = let n = places sig i T (E c) in let s = sound c l in omega arith
      go (some i) (suc k) b e = let n = places sig i T (E c) in omega arith

  at_is : (ch ch' : ℕ → ℕ) → Good N ch ch' → (c : ℕ) (κ : Option ℕ) (ss : Slaves) → c < N → kap c ≡ κ → slv c ≡ ss
      → At sig state cfg E E' (moves E ch) (moves E' ch') κ c ss
  unfolding chart_with moves
  at_is ch ch' g c κ ss l p q = subst₂ (λ κ ss. At sig state cfg E E' (moves E ch) (moves E' ch') κ c ss) p q
      (record {
        moved = moved_is ch ch' g c l;
        fed = ap (λ C. C.feedback) (same-chart c l);
        faced = ap in_face_chart (same-chart c l)
            ∙ face_is sig (kap c) (touch sig state (slv c)) (E c) (let h = sound c l in omega arith);
        old_feedback = (old c l).old_feedback;
        old-face = old_face_chart sig (E c) (old c l);
        old_move = old-pick sig (E c) (ch c) (old c l).one (old c l).old_transitions;
        one = (old c l).one;
        one' = one' c l;
      })

  module _ (ch ch' : ℕ → ℕ) (g : Good N ch ch') where
    mutual
      rw_t : (t : Tree) (κ : Option ℕ) → Fit sig kap slv N t κ → Rw sig state cfg E E' (moves E ch) (moves E' ch') t κ
      rw_t (leaf c) κ f = at_is ch ch' g c κ nil f.0 f.1 f.2
      rw_t (comp p q x) κ f = (rw_t p κ f.0, rw_t q κ f.1)
      rw_t (hide p x y) κ f = (f.0, rw_t p κ f.1)
      rw_t (dec c ss) κ f = (at_is ch ch' g c κ ss f.0 f.1 f.2, f.3, rw_s ss κ f.4)

      rw_s : (ss : Slaves) (κ : Option ℕ) → FitS sig kap slv N ss κ
          → Rws sig state cfg E E' (moves E ch) (moves E' ch') ss κ
      rw_s nil κ f = tt
      rw_s (snoc ss i t) κ f = (rw_s ss κ f.0, f.1, rw_t t (some i) f.2)

  same-permitted : (ch ch' : ℕ → ℕ) → Good N ch ch'
      → permitted E' state cfg (moves E' ch') (tree sig fbs t) inp ≡ permitted E state cfg (moves E ch) t inp
  unfolding permitted on call_in
  same-permitted ch ch' g =
      ap (ok E' state cfg (moves E' ch') (tree sig fbs t) true)
      (ap (λ z. inp ∩ z) (face-t sig state inj cfg E E' (moves E ch) (moves E' ch') t none r)
      ∙ sets (inp ∷ in_face E t ∷ []) [] (A ∩ₑ (B ∪ₑ ∅ₑ) ≐ (A ∩ₑ B) ∪ₑ ∅ₑ) tt)
      ∙ ok-t sig state inj cfg E E' (moves E ch) (moves E' ch') t none true (inp ∩ in_face E t) r
      (old-cut sig inp (in_face E t) (face-old sig state inj cfg E E' (moves E ch) (moves E' ch') t none r)) refl
    where
      r : Rw sig state cfg E E' (moves E ch) (moves E' ch') t none
      r = rw_t ch ch' g t none fit

  same-nexts : (ch ch' : ℕ → ℕ) → Good N ch ch' → (c n : ℕ) → c + n ≤ N
      → nexts cfg (moves E' ch') c n ≡ nexts cfg (moves E ch) c n
  unfolding nexts
  same-nexts ch ch' g c zero l = refl
  same-nexts ch ch' g c (suc n) l =
      ap₂ ◌∷◌ (rw (moved_is ch ch' g c (omega arith))
      (after-moved sig (kap c) (touch sig state (slv c)) (cfg c) (moves E ch c)))
      (same-nexts ch ch' g (suc c) n (omega arith))

  -- an outcome with its places turned
  abbrev turn : Outcome → Outcome
  turn = turned kap (λ c. length (E c).transitions) cfg

  same_outcome : (ch ch' : ℕ → ℕ) → Good N ch ch'
      → outcome E' state cfg (tree sig fbs t) inp N ch' ≡ map turn (outcome E state cfg t inp N ch)
  unfolding outcome outcome_of turned
  same_outcome ch ch' g =
      rw (
        same-permitted ch ch' g,
        same_out,
        same-nexts ch ch' g zero N (omega arith),
        places_turned kap E E' cfg ch ch' zero N (λ i l m. stands i (omega arith)),
      )
      (sym (map_cond turn (permitted E state cfg (moves E ch) t inp) (outcome_of E cfg t N ch)))
    where
      stands : (i : ℕ) → i < N → Stands kap E E' cfg ch ch' i
      stands i l =
          record { place_there = (g i l).0; few = few i l; is = (g i l).1; new_there = new_there i (ch i) l (g i l).0 }

      same_out : out (moves E' ch') (tree sig fbs t) ≡ out (moves E ch) t
      same_out = out_t sig state inj cfg E E' (moves E ch) (moves E' ch') t none (rw_t ch ch' g t none fit)

  -- one more chart is settled
  good_step : (ch ch' : ℕ → ℕ) (c v : ℕ) → Good c ch ch' → v ≤ length (E c).transitions
      → Good (suc c) (upd ch c v) (upd ch' c (place (kap c) (length (E c).transitions) (cfg c) v))
  good_step ch ch' c v g l i b = go (same i c) refl
    where
      p : ℕ
      p = place (kap c) (length (E c).transitions) (cfg c) v

      go : (d : Bool) → same i c ≡ d
          → (upd ch c v i ≤ length (E i).transitions)
          × (upd ch' c p i ≡ place (kap i) (length (E i).transitions) (cfg i) (upd ch c v i))
      go true e = let q : i ≡ c = same→≡ i c e in
          rw q (
            subst (λ w. w ≤ length (E c).transitions) (sym (upd-at ch c v)) l,
            upd-at ch' c p
                ∙ ap (place (kap c) (length (E c).transitions) (cfg c)) (sym (upd-at ch c v)),
          )
      go false e = let q : i ≢ c = same→≢ i c e in
          let k : i < c = omega arith in
          rw (upd_off ch c v i k, upd_off ch' c p i k) (g i k)

  -- in the rewritten chart, a place without a transition from the present state leads nowhere
  dead : (n c w : ℕ) (ch' : ℕ → ℕ) → c < N → (Live (cfg c) (pick (E' c) w) → ⊥)
      → search E' state cfg (tree sig fbs t) inp N n (suc c) (upd ch' c w) ≡ []
  unfolding permitted moves
  dead n c w ch' l h = search_empty E' state cfg (tree sig fbs t) inp N n (suc c) (upd ch' c w) (λ ch₂ b. not-true (λ k.
      h (subst (λ u. Live (cfg c) (pick (E' c) u)) (b c (omega arith) ∙ upd-at ch' c w)
      (live sig fbs E' state cfg (moves E' ch₂) c t (inp ∩ in_face E' (tree sig fbs t)) (has c l) k))))

  -- in the original, a chart's activity is settled by the charts below
  settled : (n c v : ℕ) (ch : ℕ → ℕ) → c < N → (some? (pick (E c) v) ≡ active_by state cfg (moves E ch) t true c → ⊥)
      → search E state cfg t inp N n (suc c) (upd ch c v) ≡ []
  unfolding permitted moves
  settled n c v ch l h = search_empty E state cfg t inp N n (suc c) (upd ch c v) (λ ch₂ b. not-true (λ k.
      h
      (subst (λ u. some? (pick (E c) u) ≡ active_by state cfg (moves E ch₂) t true c)
      (b c (omega arith) ∙ upd-at ch c v)
      (ok_active E state cfg (moves E ch₂) t true (inp ∩ in_face E t) c (has c l) k)
      ∙ active_agree state cfg (moves E ch₂) (moves E ch) c
      (λ d e. ap (pick (E d)) (b d (omega arith) ∙ upd_off ch c v d e)) t true above (has c l))))

  same-search : (n c : ℕ) (ch ch' : ℕ → ℕ) → c + n ≡ N → Good c ch ch'
      → search E' state cfg (tree sig fbs t) inp N n c ch' ≡ map turn (search E state cfg t inp N n c ch)
  unfolding search place pick some? idle
  same-search zero c ch ch' e g = same_outcome ch ch' (λ i l. g i (omega arith))
  same-search (suc n) c ch ch' e g =
      ap (λ z. upto z f') (places_one (E' c) (one' c (omega arith)))
      ∙ go (kap c) refl (λ v l. same-search n (suc c) (upd ch c v)
      (upd ch' c (place (kap c) (length (E c).transitions) (cfg c) v)) (omega arith)
      (good_step ch ch' c v g l))
      ∙ sym (map-upto turn m old-from)
      ∙ ap (λ z. map turn (upto z old-from)) (sym (places_one (E c) (old c (omega arith)).one))
    where
      m : ℕ
      m = length (E c).transitions

      old-from : ℕ → List Outcome
      old-from v = search E state cfg t inp N n (suc c) (upd ch c v)

      f : ℕ → List Outcome
      f v = map turn (old-from v)

      f' : ℕ → List Outcome
      f' v = search E' state cfg (tree sig fbs t) inp N n (suc c) (upd ch' c v)

      go : (κ : Option ℕ) → kap c ≡ κ → ((v : ℕ) → v ≤ m → f' (place (kap c) m (cfg c) v) ≡ f v)
          → upto (length (E' c).transitions) f' ≡ upto m f
      go none p ih = rw (same-chart c (omega arith), p, places_none sig (touch sig state (slv c)) (E c))
          (upto_cong m f' f (λ v l. subst (λ κ. f' (place κ m (cfg c) v) ≡ f v) p (ih v l)))
      go (some i) p ih = rw (len) (merge m (E c).states (cfg c) f f' (sound c l)
          (dead n c zero ch' l (λ lv. lv))
          (λ j h. subst (λ κ. f' (place κ m (cfg c) (suc j)) ≡ f (suc j)) p (ih (suc j) (omega arith)))
          (subst (λ κ. f' (place κ m (cfg c) zero) ≡ f zero) p (ih zero (omega arith)))
          (λ q h ne. dead n c (suc (m + q)) ch' l (λ lv. ne (subst (Live (cfg c)) (at q h) lv)))
          (active_by state cfg (moves E ch) t true c)
          (λ b. ap (map turn) (settled n c zero ch l (λ q. false≢true (q ∙ b))))
          (λ b j h. ap (map turn)
          (settled n c (suc j) ch l (λ q. true≢false (sym (some_nth (behind (E c)) (E c).transitions j h) ∙ q ∙ b)))))
        where
          l : c < N
          l = omega arith

          len : length (E' c).transitions ≡ m + (E c).states
          len = ap (λ C. length C.transitions) (same-chart c l) ∙ rw p (places sig i (touch sig state (slv c)) (E c))

          at : (q : ℕ) → q < (E c).states → pick (E' c) (suc (m + q)) ≡ takes (idle sig i q)
          at q h =
              ap (λ C. pick C (suc (m + q))) (same-chart c l) ∙ rw p (idle-at sig i (touch sig state (slv c)) (E c) q h)

  -- the theorem: the same outcomes in the same order, but for the places of idle transitions
  pub same-outcomes : outcomes E' state cfg (tree sig fbs t) inp N ≡ map turn (outcomes E state cfg t inp N)
  unfolding outcomes
  same-outcomes = same-search N zero (λ c. zero) (λ c. zero) (zero-add N) (λ i l. absurd (omega arith))
