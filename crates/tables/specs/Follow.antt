-- A trail that follows a choice: what it holds of the settled charts, chart by chart, is what the choice gives them.
use Rattle.std.specs.Prelude.{◌≡◌, Bool, ◌&&◌, ◌||◌, ◌≢◌, ltb}
use Rattle.std.proofs.Math.Path.{refl, sym, ap, ap₂}
use Rattle.std.proofs.Common.{◌∙◌, ext_get_or, lt-ltb, le-ltb, eq-eqb}
use Rattle.std.proofs.Math.Bool.{true, false, cond, and-true}
use Rattle.std.proofs.lemmas.Bool.{false≢true}
use Rattle.std.proofs.Math.Option.{Option, none, some}
use mathlib.Core.List.{List, [], ◌∷◌, ◌++◌}
use Prim.Native.Nat.{ℕ, zero, suc, ◌+◌, ◌-◌, ◌<◌}
use native.Mathlib.Omega.{arith}
use Rattle.std.proofs.Math.ListN.{length, get_or, length-append, get_or-append}
use Rattle.std.proofs.Math.Seq.{get_or-append_seam}
use Rattle.signals.specs.Mask.{◌∪◌, ◌∩◌, within, apart}
use Rattle.signals.specs.Decide.{sets, A, B, C, D, ∅ₑ, ◌∪ₑ◌, ◌∩ₑ◌, ◌≐◌, ◌⊑◌, ◌⊥ₑ◌}
use Rattle.layout.specs.declared.record.Transition.{Transition}
use Rattle.meaning.specs.Meaning.{Set, ∅, same, Chart, Tree, Move, no_move, takes, stay, pick, last_place, action_of}
use Rattle.meaning.specs.Meaning.{after, meets, upd, moves, nexts, place_of, places_from, out}
use Rattle.meaning.specs.Numbers.{most_charts, no_place, stay_place}
use Rattle.meaning.specs.Calls.Laws.{get_or-made}
use Rattle.meaning.specs.Laws.Bools.{same_refl, same→≡, same_≢, and_i, every}
use Rattle.meaning.specs.Laws.Guards.{met_is}
use Rattle.meaning.proofs.Laws.Editions.{stay_last, stay_place_lem}
use Rattle.meaning.proofs.Laws.Choices.{place-own, upd-at, upd_off, length-nexts, get_or-nexts, places_upd}
use Rattle.meaning.specs.Rewriting.{union_up_to}
use Rattle.wiring.specs.Reach.{down, up, back, offered, awake_by, Small, out_wired}
use Rattle.wiring.specs.Permitted.{awake, awake-by, Stands, offer}
use Rattle.wiring.specs.Dropped.{ahead, test, sures, low, high, passes, join_cong}
use Rattle.wiring.specs.Pruning.{awake-below, every_cong}
use Rattle.cells.specs.Table.{needed_at, barred_at, action_at, back_at, ahead_at, to_at, master_at, slave_state_at}
use Rattle.cells.specs.Table.{state_at}
use Rattle.cells.specs.Table.{place_at}
use Rattle.settling.specs.Trail.{Trail}
use Rattle.settling.specs.Hunt.{is_awake, wakes, taken, idled, rested, passes_at, fine_at}
use Rattle.settling.specs.Calm.{stays_at, calm, stayed, calm_at, quiet_at}
use Rattle.tables.specs.Contents.{Is, may_at, Rows, Candidates, Stayers}

-- ── a choice, one chart more settled ──

module _ (E : ℕ → Chart) (ch : ℕ → ℕ) (k v : ℕ) where
  pub moves-on : moves E (upd ch k v) k ≡ pick (E k) v
  unfolding moves
  moves-on = ap (pick (E k)) (upd-at ch k v)

  pub moves_off : (d : ℕ) → d < k → moves E (upd ch k v) d ≡ moves E ch d
  unfolding moves
  moves_off d l = ap (pick (E d)) (upd_off ch k v d l)

-- ── what a trail holds of a settled chart ──

module _ (cfg : ℕ → ℕ) where
  -- chart c: whether it is active, what it needs and bars, its next state; its move
  abbrev pub Shows : ℕ → Bool → ℕ → ℕ → ℕ → Move → Type 0
  Shows c false n r x no_move = (n ≡ ∅) × (r ≡ ∅) × (x ≡ cfg c)
  Shows c false n r x (takes t) = ⊥
  Shows c false n r x stay = ⊥
  Shows c true n r x no_move = ⊥
  Shows c true n r x (takes t) = (n ≡ t.needed) × (r ≡ t.barred) × (x ≡ t.to)
  Shows c true n r x stay = (n ≡ ∅) × (r ≡ ∅) × (x ≡ cfg c)

  shows_after : (c : ℕ) (a : Bool) (n r x : ℕ) (M : Move) → Shows c a n r x M → x ≡ after (cfg c) M
  unfolding after
  shows_after c false n r x no_move h = h.2
  shows_after c false n r x (takes t) h = absurd h
  shows_after c false n r x stay h = absurd h
  shows_after c true n r x no_move h = absurd h
  shows_after c true n r x (takes t) h = h.2
  shows_after c true n r x stay h = h.2

-- by its place a chart stays or not, and one that does is among those whose staying is open
module _ (g y : List ℕ) where
  abbrev pub Stayed : ℕ → ℕ → Move → Type 0
  Stayed c p no_move = same p stay_place ≡ false
  Stayed c p (takes t) = same p stay_place ≡ false
  Stayed c p stay = (same p stay_place ≡ true) × (stays_at g y c ≡ true)

nothing-asked : (n r lo hi : Set) → n ≡ ∅ → r ≡ ∅ → (within n hi && apart r lo) ≡ true
nothing-asked n r lo hi p q =
    and_i (eq-eqb _ _ (sets (n ∷ hi ∷ []) (A ≐ ∅ₑ ∷ []) (A ⊑ B) tt p))
    (eq-eqb _ _ (sets (r ∷ lo ∷ []) (A ≐ ∅ₑ ∷ []) (A ⊥ₑ B) tt q))

-- both tests of a settled chart are the test of its move
module _ (E : ℕ → Chart) (cfg : ℕ → ℕ) (N : ℕ) (keep : ℕ → ℕ → Bool) (g y : List ℕ)
    (sy : Stayers E cfg N keep g y) where
  shows_test : (c : ℕ) → c < N → (a : Bool) (n r x p : ℕ) (M : Move) (lo hi : Set) → Shows cfg c a n r x M
      → Stayed g y c p M
      → ((within n hi && apart r lo) && cond (same p stay_place) (calm g y c lo hi) true) ≡ test (E c) (cfg c) M lo hi
  unfolding test
  shows_test c l false n r x p no_move lo hi h e =
      ap₂ (λ z w. z && cond w (calm g y c lo hi) true) (nothing-asked n r lo hi h.0 h.1) e
  shows_test c l false n r x p (takes t) lo hi h e = absurd h
  shows_test c l false n r x p stay lo hi h e = absurd h
  shows_test c l true n r x p no_move lo hi h e = absurd h
  shows_test c l true n r x p (takes t) lo hi h e =
      ap₂ (λ z w. z && cond w (calm g y c lo hi) true) (ap₂ (λ y z. within y hi && apart z lo) h.0 h.1) e
      ∙ and-true (within t.needed hi && apart t.barred lo) ∙ sym (met_is t hi lo)
  shows_test c l true n r x p stay lo hi h e =
      ap₂ (λ z w. z && cond w (calm g y c lo hi) true) (nothing-asked n r lo hi h.0 h.1) e.0
      ∙ sy.calm-at c l e.1 lo hi

-- ── a trail that follows a choice up to chart k ──

module _ (E : ℕ → Chart) (state : ℕ → ℕ) (cfg : ℕ → ℕ) (N : ℕ) (enc : ℕ → Option ℕ) (sc : ℕ → ℕ) (tree : Tree)
    (inp : Set) (m s g y : List ℕ) where
  abbrev low_of : (ℕ → ℕ) → ℕ → ℕ → Set
  low_of ch k c = low E state cfg N enc sc tree inp (may_at m s) ch k c

  pub record Follows (t : Trail) (k : ℕ) (ch : ℕ → ℕ) : Type 0 where
    pub lows : (c : ℕ) → c < N → get_or t.low c 0 ≡ low_of ch k c
    pub shows : (d : ℕ) → d < k → Shows cfg d (is_awake m s t d) (get_or t.needed d 0) (get_or t.barred d 0)
        (get_or t.next d 0) (moves E ch d)
    pub active : (d : ℕ) → d < k → is_awake m s t d ≡ awake enc sc state cfg (moves E ch) d
    pub output : t.output ≡ union_up_to k (λ e. action_of (moves E ch e) ∩ up tree e)
    pub all_needed : length t.needed ≡ k
    pub all_barred : length t.barred ≡ k
    pub all-next : length t.next ≡ k
    pub all-awake : length t.awake ≡ k
    pub all_places_lem : length t.places ≡ k
    pub stays : (d : ℕ) → d < k → Stayed g y d (get_or t.places d 0) (moves E ch d)

  -- its places are the choice's
  abbrev pub Placed : Trail → ℕ → (ℕ → ℕ) → Type 0
  Placed t k ch = t.places ≡ places_from E ch zero k

  pub taken_placed : (t : Trail) (k : ℕ) (ch : ℕ → ℕ) (v p : ℕ) → p < length (E k).transitions → Placed t k ch
      → place_at s k v ≡ p
      → Placed (taken m s t k v) (suc k) (upd ch k (suc p))
  unfolding taken
  taken_placed t k ch v p l h e =
      ap₂ (λ l x. l ++ (x ∷ [])) h (e ∙ sym (place-own (E k) p l)) ∙ sym (places_upd E ch k (suc p))

  pub rested_placed : (t : Trail) (k : ℕ) (ch : ℕ → ℕ) → Placed t k ch → Placed (rested m s t k) (suc k) (upd ch k zero)
  unfolding idled
  rested_placed t k ch h = ap (λ l. l ++ (no_place ∷ [])) h ∙ (unfold pick place_of in sym (places_upd E ch k zero))

  pub stayed_placed : (t : Trail) (k : ℕ) (ch : ℕ → ℕ) → (E k).stays ≡ true → Placed t k ch
      → Placed (stayed m s t k) (suc k) (upd ch k (last_place (E k)))
  unfolding idled
  stayed_placed t k ch e h =
      ap₂ (λ l x. l ++ (x ∷ [])) h (sym (stay_place_lem (E k) e)) ∙ sym (places_upd E ch k (last_place (E k)))

  module _ (st : Stands N enc sc tree) (ro : Rows E state cfg N enc sc tree m s) where
    -- ── the next chart's activity ──

    pub wakes_is : (t : Trail) (k : ℕ) (ch : ℕ → ℕ) (v : ℕ) → Follows t k ch → k < N
        → wakes m s t k ≡ awake enc sc state cfg (moves E (upd ch k v)) k
    unfolding wakes meets
    wakes_is t k ch v f l = go (enc k) refl ∙ sym (awake-by enc sc state cfg (moves E (upd ch k v)) N st.lower k l)
      where
        Mv : ℕ → Move
        Mv = moves E (upd ch k v)

        chosen : ℕ → Bool
        chosen d =
            is_awake m s t d && (same (state_at s d) (slave_state_at s k)
            || same (get_or t.next d 0) (slave_state_at s k))

        at : (i d : ℕ) → d ≡ sc i → sc i < k → slave_state_at s k ≡ state i
            → chosen d ≡ awake_by sc state cfg Mv (awake enc sc state cfg Mv) (some i)
        at i d e r q = rw (e, q, ro.state_at_lem (sc i) (omega arith))
            (ap₂ (λ x y. x && (same (cfg (sc i)) (state i) || same y (state i)))
            (f.active (sc i) r ∙ sym (awake-below enc sc state cfg N st.lower (moves E ch) Mv (sc i) (omega arith)
            (λ b p. moves_off E ch k v b (omega arith))))
            (shows_after cfg (sc i) (is_awake m s t (sc i)) (get_or t.needed (sc i) 0) (get_or t.barred (sc i) 0)
            (get_or t.next (sc i) 0) (moves E ch (sc i)) (f.shows (sc i) r)
            ∙ ap (after (cfg (sc i))) (sym (moves_off E ch k v (sc i) r))))

        go : (κ : Option ℕ) → enc k ≡ κ → cond (ltb (master_at s k) k) (chosen (master_at s k)) true
            ≡ awake_by sc state cfg Mv (awake enc sc state cfg Mv) κ
        go none e = let h = ro.outside k l e in let w = ro.few in
            ap (λ b. cond b (chosen (master_at s k)) true) (le-ltb (master_at s k) k (omega arith))
        go (some i) e = let h = ro.inside k i l e in let r = st.lower k i l e in let g = h.0 in
            ap (λ b. cond b (chosen (master_at s k)) true) (lt-ltb (master_at s k) k (omega arith))
            ∙ at i (master_at s k) h.0 r h.1

    -- ── what a chart is surely offered ──

    low-upd : (ch : ℕ → ℕ) (k v c : ℕ)
        → low_of (upd ch k v) (suc k) c ≡ low_of ch k c ∪ action_of (pick (E k) v) ∩ back E tree c k
    unfolding low offer offered union_up_to
    low-upd ch k v c = ap₂ (λ j a. sure c ∪ (inp ∩ down tree c ∪ (j ∪ action_of a ∩ back E tree c k)))
        (join_cong k (λ e. action_of (moves E (upd ch k v) e) ∩ back E tree c e) (λ e. action_of (moves E ch e)
        ∩ back E tree c e) (λ e l. ap (λ a. action_of a ∩ back E tree c e) (moves_off E ch k v e l)))
        (moves-on E ch k v)
        ∙ sets (sure c ∷ (inp ∩ down tree c) ∷ union_up_to k (λ e. action_of (moves E ch e) ∩ back E tree c e)
        ∷ (action_of (pick (E k) v) ∩ back E tree c k) ∷ []) [] (A ∪ₑ (B ∪ₑ (C ∪ₑ D)) ≐ A ∪ₑ (B ∪ₑ C) ∪ₑ D) tt
      where
        sure : ℕ → Set
        sure = sures E state cfg N enc sc tree inp (may_at m s)

    -- ── one chart more: it takes place v, being active or not ──

    settled : (t t' : Trail) (k : ℕ) (ch : ℕ → ℕ) (v a n r x p : ℕ) → Follows t k ch → k < N
        → t'.needed ≡ t.needed ++ (n ∷ []) → t'.barred ≡ t.barred ++ (r ∷ []) → t'.next ≡ t.next ++ (x ∷ [])
        → t'.awake ≡ t.awake ++ (a ∷ [])
        → t'.places ≡ t.places ++ (p ∷ [])
        → ((c : ℕ) → c < N → get_or t'.low c 0 ≡ get_or t.low c 0 ∪ action_of (pick (E k) v) ∩ back E tree c k)
        → t'.output ≡ t.output ∪ action_of (pick (E k) v) ∩ up tree k
        → same a 1 ≡ wakes m s t k → Shows cfg k (same a 1) n r x (pick (E k) v) → Stayed g y k p (pick (E k) v)
        → Follows t' (suc k) (upd ch k v)
    unfolding union_up_to
    settled t t' k ch v a n r x pl f l e₁ e₂ e₃ e₄ e₅ le oe we sh sp =
        record {
          lows = λ c p. le c p ∙ ap (λ z. z ∪ action_of (pick (E k) v) ∩ back E tree c k) (f.lows c p)
              ∙ sym (low-upd ch k v c);
          shows = λ d p. go₁ d p (same d k) refl;
          active = λ d p. go₂ d p (same d k) refl;
          output = oe ∙ ap₂ ◌∪◌
              (f.output ∙ join_cong k (λ e. action_of (moves E ch e) ∩ up tree e)
              (λ e. action_of (moves E (upd ch k v) e) ∩ up tree e)
              (λ e p. ap (λ z. action_of z ∩ up tree e) (sym (moves_off E ch k v e p))))
              (ap (λ z. action_of z ∩ up tree k) (sym (moves-on E ch k v)));
          all_needed = longer t.needed t'.needed n e₁ f.all_needed;
          all_barred = longer t.barred t'.barred r e₂ f.all_barred;
          all-next = longer t.next t'.next x e₃ f.all-next;
          all-awake = longer t.awake t'.awake a e₄ f.all-awake;
          all_places_lem = longer t.places t'.places pl e₅ f.all_places_lem;
          stays = λ d p. go₃ d p (same d k) refl;
        }
      where
        longer : (b b' : List ℕ) (y : ℕ) → b' ≡ b ++ (y ∷ []) → length b ≡ k → length b' ≡ suc k
        longer b b' y e h = ap length e ∙ length-append b (y ∷ []) ∙ omega arith

        on : (b b' : List ℕ) (y : ℕ) → b' ≡ b ++ (y ∷ []) → length b ≡ k → get_or b' k 0 ≡ y
        on b b' y e h = ap (λ z. get_or z k 0) e ∙ ap (λ z. get_or (b ++ (y ∷ [])) z 0) (sym h)
            ∙ get_or-append_seam b y [] 0

        off : (b b' : List ℕ) (y : ℕ) → b' ≡ b ++ (y ∷ []) → length b ≡ k → (d : ℕ) → d < k
            → get_or b' d 0 ≡ get_or b d 0
        off b b' y e h d p = ap (λ z. get_or z d 0) e ∙ get_or-append b (y ∷ []) 0 d (omega arith)

        earlier : (d : ℕ) → d < suc k → same d k ≡ false → d < k
        earlier d p e = let z : d ≢ k = λ q. false≢true (sym e ∙ rw q (same_refl k)) in omega arith

        kept : (d : ℕ) → d < k → is_awake m s t' d ≡ is_awake m s t d
        kept d p = ap (λ z. same z 1) (off t.awake t'.awake a e₄ f.all-awake d p)

        here : is_awake m s t' k ≡ same a 1
        here = ap (λ z. same z 1) (on t.awake t'.awake a e₄ f.all-awake)

        shows_by : (d : ℕ) (a₁ a₂ : Bool) (n₁ n₂ r₁ r₂ x₁ x₂ : ℕ) (m₁ m₂ : Move) → a₁ ≡ a₂ → n₁ ≡ n₂ → r₁ ≡ r₂ → x₁ ≡ x₂
            → m₁ ≡ m₂ → Shows cfg d a₂ n₂ r₂ x₂ m₂ → Shows cfg d a₁ n₁ r₁ x₁ m₁
        shows_by d a₁ a₂ n₁ n₂ r₁ r₂ x₁ x₂ m₁ m₂ p q u v w h = rw (p, q, u, v, w) h

        go₁ : (d : ℕ) → d < suc k → (b : Bool) → same d k ≡ b → Shows cfg d (is_awake m s t' d) (get_or t'.needed d 0)
            (get_or t'.barred d 0) (get_or t'.next d 0) (moves E (upd ch k v) d)
        go₁ d p true e = rw (same→≡ d k e) (shows_by k _ (same a 1) _ n _ r _ x _ (pick (E k) v) here
            (on t.needed t'.needed n e₁ f.all_needed) (on t.barred t'.barred r e₂ f.all_barred)
            (on t.next t'.next x e₃ f.all-next) (moves-on E ch k v) sh)
        go₁ d p false e = let q = earlier d p e in shows_by d _ (is_awake m s t d) _ (get_or t.needed d 0) _
            (get_or t.barred d 0) _ (get_or t.next d 0) _ (moves E ch d) (kept d q)
            (off t.needed t'.needed n e₁ f.all_needed d q) (off t.barred t'.barred r e₂ f.all_barred d
            q) (off t.next t'.next x e₃ f.all-next d q) (moves_off E ch k v d q) (f.shows d q)

        go₂ : (d : ℕ) → d < suc k → (b : Bool) → same d k ≡ b
            → is_awake m s t' d ≡ awake enc sc state cfg (moves E (upd ch k v)) d
        go₂ d p true e = rw (same→≡ d k e) (here ∙ we ∙ wakes_is t k ch v f l)
        go₂ d p false e = let q = earlier d p e in kept d q ∙ f.active d q
            ∙ sym (awake-below enc sc state cfg N st.lower (moves E ch) (moves E (upd ch k v)) d (omega arith)
            (λ b p'. moves_off E ch k v b (omega arith)))

        stayed-by : (d p₁ p₂ : ℕ) (m₁ m₂ : Move) → p₁ ≡ p₂ → m₁ ≡ m₂ → Stayed g y d p₂ m₂ → Stayed g y d p₁ m₁
        stayed-by d p₁ p₂ m₁ m₂ p q h = rw (p, q) h

        go₃ : (d : ℕ) → d < suc k → (b : Bool) → same d k ≡ b
            → Stayed g y d (get_or t'.places d 0) (moves E (upd ch k v) d)
        go₃ d p true e = rw (same→≡ d k e) (stayed-by k _ pl _ (pick (E k) v)
            (on t.places t'.places pl e₅ f.all_places_lem) (moves-on E ch k v) sp)
        go₃ d p false e = let q = earlier d p e in
            stayed-by d _ (get_or t.places d 0) _ (moves E ch d)
            (off t.places t'.places pl e₅ f.all_places_lem d q) (moves_off E ch k v d q) (f.stays d q)

    -- an active chart takes a candidate that is the transition at place p
    pub taken-follows : (t : Trail) (k : ℕ) (ch : ℕ → ℕ) (v p : ℕ) (tr : Transition) → Follows t k ch → k < N
        → wakes m s t k ≡ true
        → pick (E k) (suc p) ≡ takes tr → Is m s k v tr → same (place_at s k v) stay_place ≡ false
        → Follows (taken m s t k v) (suc k) (upd ch k (suc p))
    unfolding taken action_of same
    taken-follows t k ch v p tr f l w e i sp = settled t (taken m s t k v) k ch (suc p) 1 (needed_at m k v)
        (barred_at m k v) (to_at s k v) (place_at s k v) f l refl refl refl refl refl
        (λ c r. let few = ro.few in
        get_or-made most_charts (λ c. get_or t.low c 0 ∪ action_at m k v ∩ back_at m c k) c (omega arith)
        ∙ rw (e, ro.back_at_lem c k r l, i.action))
        (rw (e, ro.up_at_lem k l, i.action)) (sym w) (rw e (i.needed, i.barred, i.to)) (rw e sp)

    -- an inactive chart takes none
    pub rested-follows : (t : Trail) (k : ℕ) (ch : ℕ → ℕ) → Follows t k ch → k < N → wakes m s t k ≡ false
        → Follows (rested m s t k) (suc k) (upd ch k zero)
    unfolding idled pick action_of same
    rested-follows t k ch f l w =
        settled t (rested m s t k) k ch zero 0 0 0 (state_at s k) no_place f l refl refl refl refl refl
        (λ c r. sets (get_or t.low c 0 ∷ back E tree c k ∷ []) [] (A ≐ A ∪ₑ ∅ₑ ∩ₑ B) tt)
        (sets (t.output ∷ up tree k ∷ []) [] (A ≐ A ∪ₑ ∅ₑ ∩ₑ B) tt)
        (sym w) (refl, refl, ro.state_at_lem k l) (same_≢ no_place stay_place (λ z. omega arith))

    -- an active chart stays, if that is open
    pub stayed-follows : (t : Trail) (k : ℕ) (ch : ℕ → ℕ) → Follows t k ch → k < N → wakes m s t k ≡ true
        → (E k).stays ≡ true → stays_at g y k ≡ true
        → Follows (stayed m s t k) (suc k) (upd ch k (last_place (E k)))
    unfolding idled action_of same
    stayed-follows t k ch f l w e o =
        settled t (stayed m s t k) k ch (last_place (E k)) 1 0 0 (state_at s k) stay_place f l refl refl refl refl refl
        (λ c r. rw at (sets (get_or t.low c 0 ∷ back E tree c k ∷ []) [] (A ≐ A ∪ₑ ∅ₑ ∩ₑ B) tt))
        (rw at (sets (t.output ∷ up tree k ∷ []) [] (A ≐ A ∪ₑ ∅ₑ ∩ₑ B) tt))
        (sym w) (rw at (refl, refl, ro.state_at_lem k l)) (rw at (same_refl stay_place, o))
      where
        at : pick (E k) (last_place (E k)) ≡ stay
        at = stay_last (E k) e

    -- ── the outcome, when none is left ──

    pub output_is : (t : Trail) (ch : ℕ → ℕ) → Follows t N ch → ((e : ℕ) → Small (action_of (moves E ch e)))
        → t.output ≡ out (moves E ch) tree
    output_is t ch f sa = f.output ∙ sym (out_wired N (moves E ch) sa tree st.held)

    pub next_is : (t : Trail) (ch : ℕ → ℕ) → Follows t N ch → t.next ≡ nexts cfg (moves E ch) zero N
    next_is t ch f =
        ext_get_or 0 t.next (nexts cfg (moves E ch) zero N) (f.all-next ∙ sym (length-nexts cfg (moves E ch) zero N))
        (λ i l. let h = f.all-next in let r : i < N = omega arith in
        shows_after cfg i (is_awake m s t i) (get_or t.needed i 0) (get_or t.barred i 0) (get_or t.next i 0)
        (moves E ch i) (f.shows i r)
        ∙ sym (get_or-nexts cfg (moves E ch) zero N i r
        ∙ ap (λ z. after (cfg z) (moves E ch z)) (let q : zero + i ≡ i = omega arith in q)))

    module _ (keep : ℕ → ℕ → Bool) (ca : Candidates E cfg N tree keep m s) (sy : Stayers E cfg N keep g y) where
      -- ── the tests of a settled chart ──

      pub passes_is : (t : Trail) (n k : ℕ) (ch : ℕ → ℕ) → Follows t k ch → n + k ≡ N → (d : ℕ) → d < k
          → (passes_at m s t k d && calm_at m s g y t k d) ≡ passes E state cfg N enc sc tree inp (may_at m s) ch n k d
      unfolding passes_at calm_at passes high
      passes_is t n k ch f e d l = shows_test E cfg N keep g y sy d (omega arith) (is_awake m s t d)
          (get_or t.needed d 0) (get_or t.barred d 0) (get_or t.next d 0)
          (get_or t.places d 0) (moves E ch d) (get_or t.low d 0) (get_or t.low d 0 ∪ ahead_at m k d) (f.shows d l)
          (f.stays d l)
          ∙ ap₂ (λ lo a. test (E d) (cfg d) (moves E ch d) lo (lo ∪ a)) (f.lows d (omega arith))
          (ca.ahead-at k d (omega arith) (omega arith)
          ∙ ap (λ z. ahead z k (λ e. may_at m s e ∩ back E tree d e)) (let h : N - k ≡ n = omega arith in h))

      every-and : (n : ℕ) (p q : ℕ → Bool) → (every n p && every n q) ≡ every n (λ i. p i && q i)
      unfolding every
      every-and zero p q = refl
      every-and (suc n) p q = swap (p n) (every n p) (q n) (every n q) ∙ ap (λ z. (p n && q n) && z) (every-and n p q)
        where
          swap : (a b c d : Bool) → ((a && b) && (c && d)) ≡ ((a && c) && (b && d))
          swap true true c d = refl
          swap true false true d = refl
          swap true false false d = refl
          swap false b c d = refl

      pub fine_is : (t : Trail) (n k : ℕ) (ch : ℕ → ℕ) → Follows t (suc k) ch → n + suc k ≡ N
          → (fine_at m s t k && quiet_at m s g y t k)
          ≡ every (suc k) (passes E state cfg N enc sc tree inp (may_at m s) ch n (suc k))
      unfolding fine_at quiet_at
      fine_is t n k ch f e = every-and (suc k) (passes_at m s t (suc k)) (calm_at m s g y t (suc k))
          ∙ every_cong (suc k) _ _ (passes_is t n (suc k) ch f e)
