-- Laws of what is read. In order: a narrowed list (length-narrowed to narrow-from), a narrowed move (narrowMove to
-- place-narrowed), the wiring (back-narrowed), what a chart asks of what it is offered (join-at to awake-narrowed), and
-- a choice: it is permitted of narrowed charts exactly if it is of the charts (permitted-narrowed), and all outcomes
-- are the same, with their places (outcomes-narrowed). Last, what has all that is read (reads_all, reads_at).
use Rattle.std.specs.Prelude.{◌≡◌, Bool, true, false, ◌&&◌, ◌||◌, not, cond, ◌≢◌, length}
use Rattle.std.proofs.Math.Path.{refl, sym, ap, ap₂}
use Rattle.std.proofs.Common.{◌∙◌, arith}
use Rattle.std.proofs.lemmas.Bool.{false≢true}
use Rattle.std.proofs.Math.Option.{Option, none, some}
use mathlib.Core.List.{List, [], ◌∷◌}
use Prim.Native.Nat.{ℕ, zero, suc, ◌<◌}
use Rattle.signals.specs.Mask.{◌∪◌, ◌∩◌, ◌∖◌, Within}
use Rattle.signals.specs.Decide.{sets, A, B, C, D, E as Eₑ, F as Fₑ, ∅ₑ, ◌∪ₑ◌, ◌∩ₑ◌, ◌≐◌, ◌⊑◌}
use Rattle.layout.specs.Body.{from as fromOn}
use Rattle.layout.specs.declared.record.Transition.{Transition}
use Rattle.meaning.specs.Meaning.{Set, ∅, same, Chart, Tree, Slaves, leaf, comp, hide, dec, nil, snoc, Move, no_move}
use Rattle.meaning.specs.Meaning.{takes, stay, nth, behind, pick, last_place, action_of, after, met?, untriggered}
use Rattle.meaning.specs.Meaning.{meets}
use Rattle.meaning.specs.Meaning.{permitted, moves, nexts, place_of, places_from, upd, out, upto, outcome_of, outcome}
use Rattle.meaning.specs.Meaning.{search, outcomes}
use Rattle.meaning.specs.Laws.Bools.{same_refl, same→≡, and_cong}
use Rattle.meaning.specs.Laws.Guards.{met-cut}
use Rattle.meaning.proofs.Laws.Choices.{upto_cong}
use Rattle.wiring.specs.Uncut.{own-moves}
use Rattle.meaning.specs.Rewriting.{union_up_to}
use Rattle.wiring.specs.Reach.{full, down, up, back, backs, offered, fits, awake_by, Small, out_wired}
use Rattle.wiring.specs.Permitted.{awake_in, awake, Stands, offer, ruled, permitted_wired}
use Rattle.wiring.specs.Dropped.{join_cong}
use Rattle.wiring.specs.Pruning.{every_cong}
use Rattle.cells.specs.Table.{back_at, up_at}
use Rattle.tables.specs.Narrowing.{asked, read_of, Reads, read_at, narrow, narrow_all, narrow_chart, narrowed}

-- ── a narrowed list ──

pub length-narrowed : (r : Set) (ts : List Transition) → length (narrow_all r ts) ≡ length ts
unfolding narrow_all
length-narrowed r [] = refl
length-narrowed r (t ∷ ts) = ap suc (length-narrowed r ts)

-- guards are as they were
pub quiet-narrowed : (r : Set) (ts : List Transition) (q : ℕ) (i j : Set)
    → untriggered (narrow_all r ts) q i j ≡ untriggered ts q i j
unfolding narrow_all untriggered met?
quiet-narrowed r [] q i j = refl
quiet-narrowed r (t ∷ ts) q i j = ap (λ b. not (same t.from q && met? t i j) && b) (quiet-narrowed r ts q i j)

pub narrow-from : (r : Set) (f : ℕ → Transition) (k n : ℕ)
    → narrow_all r (fromOn f k n) ≡ fromOn (λ u. narrow r (f u)) k n
unfolding narrow_all fromOn
narrow-from r f k zero = refl
narrow-from r f k (suc n) = ap (λ ts. narrow r (f k) ∷ ts) (narrow-from r f (suc k) n)

-- ── a narrowed move ──

unfoldable pub narrow_move : Set → Move → Move
narrow_move r no_move = no_move
narrow_move r (takes t) = takes (narrow r t)
narrow_move r stay = stay

pub nth-narrowed : (r : Set) (d : Move) (ts : List Transition) (k : ℕ)
    → nth (narrow_move r d) (narrow_all r ts) k ≡ narrow_move r (nth d ts k)
unfolding nth narrow_all narrow_move
nth-narrowed r d [] k = refl
nth-narrowed r d (t ∷ ts) zero = refl
nth-narrowed r d (t ∷ ts) (suc k) = nth-narrowed r d ts k

pub pick-narrowed : (r : Set) (K : Chart) (v : ℕ) → pick (narrow_chart r K) v ≡ narrow_move r (pick K v)
unfolding pick narrow_move
pick-narrowed r K zero = refl
pick-narrowed r K (suc k) =
    ap (λ d. nth d (narrow_all r K.transitions) k) (sym (rests K.stays))
    ∙ nth-narrowed r (behind K) K.transitions k
  where
    rests : (b : Bool) → narrow_move r (cond b stay no_move) ≡ cond b stay no_move
    rests true = refl
    rests false = refl

pub last-narrowed : (r : Set) (K : Chart) → last_place (narrow_chart r K) ≡ last_place K
unfolding last_place
last-narrowed r K = ap (λ n. cond K.stays (suc n) n) (length-narrowed r K.transitions)

action-narrowed : (r : Set) (M : Move) → action_of (narrow_move r M) ≡ action_of M ∩ r
unfolding action_of narrow_move
action-narrowed r no_move = sets (r ∷ []) [] (∅ₑ ≐ ∅ₑ ∩ₑ A) tt
action-narrowed r (takes t) = refl
action-narrowed r stay = sets (r ∷ []) [] (∅ₑ ≐ ∅ₑ ∩ₑ A) tt

after-narrowed : (r : Set) (s : ℕ) (M : Move) → after s (narrow_move r M) ≡ after s M
unfolding after narrow_move
after-narrowed r s no_move = refl
after-narrowed r s (takes t) = refl
after-narrowed r s stay = refl

place-narrowed : (r : Set) (M : Move) (v : ℕ) → place_of (narrow_move r M) v ≡ place_of M v
unfolding place_of narrow_move
place-narrowed r no_move v = refl
place-narrowed r (takes t) v = refl
place-narrowed r stay v = refl

-- ── the wiring ──

module _ (r : ℕ → Set) (E : ℕ → Chart) where
  mutual
    unfolding back

    pub back-narrowed : (t : Tree) (c e : ℕ) → back (narrowed r E) t c e ≡ back E t c e
    back-narrowed (leaf d) c e = refl
    back-narrowed (comp p q x) c e =
        ap₂ (λ y z. (y ∪ z) ∪ (down p c ∪ down q c) ∩ (up p e ∪ up q e) ∩ x) (back-narrowed p c e) (back-narrowed q c e)
    back-narrowed (hide p x y) c e = back-narrowed p c e
    back-narrowed (dec d ss) c e = rw (backs_narrowed ss c e)

    backs_narrowed : (ss : Slaves) (c e : ℕ) → backs (narrowed r E) ss c e ≡ backs E ss c e
    backs_narrowed nil c e = refl
    backs_narrowed (snoc ss i t) c e = ap₂ ◌∪◌ (backs_narrowed ss c e) (back-narrowed t c e)

-- ── what is asked of what is offered ──

pub join_at : (n : ℕ) (f : ℕ → Set) (v : ℕ) → v < n → Within (f v) (union_up_to n f)
unfolding union_up_to
join_at zero f v l = absurd (omega arith)
join_at (suc n) f v l = go (same v n) refl (λ h. join_at n f v h)
  where
    go : (b : Bool) → same v n ≡ b → (v < n → Within (f v) (union_up_to n f)) → Within (f v) (union_up_to n f ∪ f n)
    go true e r = rw (same→≡ v n e) (sets (f n ∷ union_up_to n f ∷ []) [] (A ⊑ B ∪ₑ A) tt)
    go false e r = let z : v ≢ n = λ w. false≢true (sym e ∙ rw w (same_refl n)) in
        sets (f v ∷ union_up_to n f ∷ f n ∷ []) (A ⊑ B ∷ []) (A ⊑ B ∪ₑ C) tt (r (omega arith))

-- two joins that are alike as far as a goes
join_alike : (n : ℕ) (f g : ℕ → Set) (a : Set) → ((e : ℕ) → e < n → f e ∩ a ≡ g e ∩ a)
    → union_up_to n f ∩ a ≡ union_up_to n g ∩ a
unfolding union_up_to
join_alike zero f g a h = refl
join_alike (suc n) f g a h =
    sets (union_up_to n f ∷ union_up_to n g ∷ f n ∷ g n ∷ a ∷ []) (A ∩ₑ Eₑ ≐ B ∩ₑ Eₑ ∷ C ∩ₑ Eₑ ≐ D ∩ₑ Eₑ ∷ [])
    ((A ∪ₑ C) ∩ₑ Eₑ ≐ (B ∪ₑ D) ∩ₑ Eₑ) tt (join_alike n f g a (λ e l. h e (omega arith))) (h n (omega arith))

-- a transition from q is asked for within I
abbrev Asks : Set → ℕ → Move → Type 0
Asks I q no_move = Unit {0}
Asks I q (takes t) = same t.from q ≡ true → (t.needed ∪ t.barred) ∖ I ≡ 0
Asks I q stay = Unit {0}

-- the guard of the first transition, and the rest
asked-first : (t : Transition) (ts : List Transition) (q : ℕ) (I : Set) → Within (asked (t ∷ ts) q) I
    → same t.from q ≡ true → (t.needed ∪ t.barred) ∖ I ≡ 0
unfolding asked
asked-first t ts q I h e =
    sets (asked ts q ∷ cond (same t.from q) (t.needed ∪ t.barred) ∅ ∷ I ∷ (t.needed ∪ t.barred) ∷ [])
    (A ∪ₑ B ⊑ C ∷ B ≐ D ∷ []) (D ⊑ C) tt h (ap (λ b. cond b (t.needed ∪ t.barred) ∅) e)

asked-rest : (t : Transition) (ts : List Transition) (q : ℕ) (I : Set) → Within (asked (t ∷ ts) q) I
    → Within (asked ts q) I
unfolding asked
asked-rest t ts q I h =
    sets (asked ts q ∷ cond (same t.from q) (t.needed ∪ t.barred) ∅ ∷ I ∷ []) (A ∪ₑ B ⊑ C ∷ []) (A ⊑ C) tt h

nth_asks : (d : Move) (ts : List Transition) (q : ℕ) (I : Set) → Asks I q d → Within (asked ts q) I → (k : ℕ)
    → Asks I q (nth d ts k)
unfolding nth
nth_asks d [] q I w h k = w
nth_asks d (t ∷ ts) q I w h zero = asked-first t ts q I h
nth_asks d (t ∷ ts) q I w h (suc k) = nth_asks d ts q I w (asked-rest t ts q I h) k

pick_asks : (K : Chart) (q v : ℕ) → Asks (asked K.transitions q) q (pick K v)
unfolding pick
pick_asks K q zero = tt
pick_asks K q (suc k) =
    nth_asks (behind K) K.transitions q (asked K.transitions q) (rests K.stays)
    (sets (asked K.transitions q ∷ []) [] (A ⊑ A) tt) k
  where
    rests : (b : Bool) → Asks (asked K.transitions q) q (cond b stay no_move)
    rests true = tt
    rests false = tt

-- nothing triggers a chart, by what it asks for alone
quiet-asked : (ts : List Transition) (q : ℕ) (I i k : Set) → Within (asked ts q) I → i ∩ I ≡ k ∩ I
    → untriggered ts q i i ≡ untriggered ts q k k
unfolding untriggered
quiet-asked [] q I i k h e = refl
quiet-asked (t ∷ ts) q I i k h e =
    ap₂ (λ x y. not x && y)
    (and_cong (same t.from q) (same t.from q) (met? t i i) (met? t k k) refl
    (λ w. met-cut t I i k (asked-first t ts q I h w) e))
    (quiet-asked ts q I i k (asked-rest t ts q I h) e)

-- the rule of a narrowed chart, offered the same as far as it asks
fits-narrowed : (r : Set) (K : Chart) (a : Bool) (o p : Set) (q : ℕ) (M : Move)
    → Asks (asked K.transitions q) q M → o ∩ asked K.transitions q ≡ p ∩ asked K.transitions q
    → fits (narrow_chart r K) a o q (narrow_move r M) ≡ fits K a p q M
unfolding fits narrow_move met?
fits-narrowed r K false o p q no_move w e = refl
fits-narrowed r K false o p q (takes t) w e = refl
fits-narrowed r K false o p q stay w e = refl
fits-narrowed r K true o p q no_move w e = refl
fits-narrowed r K true o p q (takes t) w e =
    and_cong (same t.from q) (same t.from q) _ (met? t p p) refl
    (λ h. met-cut t (asked K.transitions q) o p (w h) e)
fits-narrowed r K true o p q stay w e =
    ap (λ b. K.stays && b)
    (quiet-narrowed r K.transitions q o o
    ∙ quiet-asked K.transitions q (asked K.transitions q) o p
    (sets (asked K.transitions q ∷ []) [] (A ⊑ A) tt) e)

-- activity looks at states alone
awake-narrowed : (enc : ℕ → Option ℕ) (sc state cfg : ℕ → ℕ) (M M' : ℕ → Move)
    → ((d : ℕ) → after (cfg d) (M' d) ≡ after (cfg d) (M d)) → (f c : ℕ)
    → awake_in enc sc state cfg M' f c ≡ awake_in enc sc state cfg M f c
unfolding awake_in meets
awake-narrowed enc sc state cfg M M' h zero c = refl
awake-narrowed enc sc state cfg M M' h (suc f) c =
    go (enc c) (λ d. awake-narrowed enc sc state cfg M M' h f d)
  where
    go : (κ : Option ℕ) → ((d : ℕ) → awake_in enc sc state cfg M' f d ≡ awake_in enc sc state cfg M f d)
        → awake_by sc state cfg M' (awake_in enc sc state cfg M' f) κ
        ≡ awake_by sc state cfg M (awake_in enc sc state cfg M f) κ
    go none ih = refl
    go (some i) ih =
        ap₂ (λ b x. b && (same (cfg (sc i)) (state i) || same x (state i))) (ih (sc i)) (h (sc i))

-- ── a choice of narrowed charts ──

module _ (E : ℕ → Chart) (state : ℕ → ℕ) (cfg : ℕ → ℕ) (N : ℕ) (enc : ℕ → Option ℕ) (sc : ℕ → ℕ) (t : Tree)
    (inp : Set) (r : ℕ → Set) (st : Stands N enc sc t) (si : Small inp)
    (sa : (ch : ℕ → ℕ) (e : ℕ) → Small (action_of (moves E ch e))) (rd : Reads E cfg N t r) where
  abbrev E' : ℕ → Chart
  E' = narrowed r E

  moves-narrowed : (ch : ℕ → ℕ) (c : ℕ) → moves E' ch c ≡ narrow_move (r c) (moves E ch c)
  unfolding moves
  moves-narrowed ch c = pick-narrowed (r c) (E c) (ch c)

  acts_narrowed : (ch : ℕ → ℕ) (c : ℕ) → action_of (moves E' ch c) ≡ action_of (moves E ch c) ∩ r c
  acts_narrowed ch c = ap action_of (moves-narrowed ch c) ∙ action-narrowed (r c) (moves E ch c)

  afters_narrowed : (ch : ℕ → ℕ) (c : ℕ) → after (cfg c) (moves E' ch c) ≡ after (cfg c) (moves E ch c)
  afters_narrowed ch c = ap (after (cfg c)) (moves-narrowed ch c) ∙ after-narrowed (r c) (cfg c) (moves E ch c)

  pub small-narrowed : (ch : ℕ → ℕ) (e : ℕ) → Small (action_of (moves E' ch e))
  small-narrowed ch e =
      sets (action_of (moves E' ch e) ∷ action_of (moves E ch e) ∷ r e ∷ full ∷ [])
      (A ≐ B ∩ₑ C ∷ B ∩ₑ D ≐ B ∷ []) (A ∩ₑ D ≐ A) tt (acts_narrowed ch e) (sa ch e)

  -- chart c is offered the same, as far as it asks
  offer-narrowed : (ch : ℕ → ℕ) (c : ℕ) → c < N
      → offer E' state cfg N enc sc t inp (moves E' ch) N c ∩ asked (E c).transitions (cfg c)
      ≡ offer E state cfg N enc sc t inp (moves E ch) N c ∩ asked (E c).transitions (cfg c)
  unfolding offer offered
  offer-narrowed ch c l =
      sets ((inp ∩ down t c) ∷ union_up_to N f ∷ union_up_to N g ∷ a ∷ []) (B ∩ₑ D ≐ C ∩ₑ D ∷ [])
      ((A ∪ₑ B) ∩ₑ D ≐ (A ∪ₑ C) ∩ₑ D) tt (join_alike N f g a at)
    where
      a : Set
      a = asked (E c).transitions (cfg c)

      f : ℕ → Set
      f e = action_of (moves E' ch e) ∩ back E' t c e

      g : ℕ → Set
      g e = action_of (moves E ch e) ∩ back E t c e

      asks : ℕ → ℕ → Set
      asks e d = back E t d e ∩ asked (E d).transitions (cfg d)

      at : (e : ℕ) → e < N → f e ∩ a ≡ g e ∩ a
      at e m = rw (acts_narrowed ch e, back-narrowed r E t c e)
          (sets (action_of (moves E ch e) ∷ r e ∷ back E t c e ∷ a ∷ read_of E cfg N t e ∷ full ∷ [])
          (A ∩ₑ Fₑ ≐ A ∷ C ∩ₑ D ⊑ Eₑ ∷ Eₑ ∩ₑ Fₑ ⊑ B ∷ []) (A ∩ₑ B ∩ₑ C ∩ₑ D ≐ A ∩ₑ C ∩ₑ D) tt (sa ch e)
          (unfold read_of in sets ((back E t c e ∩ a) ∷ up t e ∷ union_up_to N (asks e) ∷ []) (A ⊑ C ∷ [])
          (A ⊑ B ∪ₑ C) tt
          (join_at N (asks e) c l)) (rd e m))

  ruled-narrowed : (ch : ℕ → ℕ) (c : ℕ) → c < N
      → ruled E' state cfg N enc sc t inp (moves E' ch) c ≡ ruled E state cfg N enc sc t inp (moves E ch) c
  unfolding ruled awake
  ruled-narrowed ch c l =
      rw (
        moves-narrowed ch c,
        awake-narrowed enc sc state cfg (moves E ch) (moves E' ch) (afters_narrowed ch) (suc c) c,
      )
      (fits-narrowed (r c) (E c) (awake_in enc sc state cfg (moves E ch) (suc c) c) _ _ (cfg c) (moves E ch c)
      (unfold moves in pick_asks (E c) (cfg c) (ch c)) (offer-narrowed ch c l))

  pub permitted-narrowed : (ch : ℕ → ℕ)
      → permitted E' state cfg (moves E' ch) t inp ≡ permitted E state cfg (moves E ch) t inp
  permitted-narrowed ch =
      permitted_wired E' state cfg N enc sc t inp (moves E' ch) st si (small-narrowed ch) (own-moves E' ch)
      ∙ every_cong N _ _ (ruled-narrowed ch)
      ∙ sym (permitted_wired E state cfg N enc sc t inp (moves E ch) st si (sa ch) (own-moves E ch))

  out_narrowed : (ch : ℕ → ℕ) → out (moves E' ch) t ≡ out (moves E ch) t
  out_narrowed ch = out_wired N (moves E' ch) (small-narrowed ch) t st.held ∙ join_cong N _ _ (λ e m.
      sets (action_of (moves E' ch e) ∷ action_of (moves E ch e) ∷ r e ∷ up t e ∷ read_of E cfg N t e ∷ full ∷ [])
      (A ≐ B ∩ₑ C ∷ B ∩ₑ Fₑ ≐ B ∷ D ⊑ Eₑ ∷ Eₑ ∩ₑ Fₑ ⊑ C ∷ [])
      (A ∩ₑ D ≐ B ∩ₑ D) tt (acts_narrowed ch e) (sa ch e)
      (unfold read_of in sets (up t e ∷ union_up_to N (λ c. back E t c e ∩ asked (E c).transitions (cfg c)) ∷ []) []
      (A ⊑ A ∪ₑ B) tt) (rd e m))
      ∙ sym (out_wired N (moves E ch) (sa ch) t st.held)

  nexts-narrowed : (ch : ℕ → ℕ) (c n : ℕ) → nexts cfg (moves E' ch) c n ≡ nexts cfg (moves E ch) c n
  unfolding nexts
  nexts-narrowed ch c zero = refl
  nexts-narrowed ch c (suc n) = ap₂ ◌∷◌ (afters_narrowed ch c) (nexts-narrowed ch (suc c) n)

  places_narrowed : (ch : ℕ → ℕ) (c n : ℕ) → places_from E' ch c n ≡ places_from E ch c n
  unfolding places_from
  places_narrowed ch c zero = refl
  places_narrowed ch c (suc n) =
      ap₂ ◌∷◌
      (ap (λ M. place_of M (ch c)) (pick-narrowed (r c) (E c) (ch c)) ∙ place-narrowed (r c) (pick (E c) (ch c)) (ch c))
      (places_narrowed ch (suc c) n)

  search-narrowed : (n c : ℕ) (ch : ℕ → ℕ)
      → search E' state cfg t inp N n c ch ≡ search E state cfg t inp N n c ch
  unfolding search outcome outcome_of
  search-narrowed zero c ch =
      rw (permitted-narrowed ch, out_narrowed ch, nexts-narrowed ch zero N, places_narrowed ch zero N)
  search-narrowed (suc n) c ch =
      ap (λ m. upto m (λ v. search E' state cfg t inp N n (suc c) (upd ch c v))) (last-narrowed (r c) (E c))
      ∙ upto_cong (last_place (E c)) _ _ (λ v l. search-narrowed n (suc c) (upd ch c v))

  pub outcomes-narrowed : outcomes E' state cfg t inp N ≡ outcomes E state cfg t inp N
  unfolding outcomes
  outcomes-narrowed = search-narrowed N zero (λ c. zero)

-- ── what has all that is read ──

module _ (E : ℕ → Chart) (cfg : ℕ → ℕ) (N : ℕ) (t : Tree) where
  -- all signals
  pub reads_all : (r : ℕ → Set) → ((k : ℕ) → k < N → r k ≡ full) → Reads E cfg N t r
  reads_all r h k l = sets (read_of E cfg N t k ∷ full ∷ r k ∷ []) (C ≐ B ∷ []) (A ∩ₑ B ⊑ C) tt (h k l)

  -- by tables that have the wiring
  pub reads_at : (m : List ℕ) (r : ℕ → Set) → ((c d : ℕ) → c < N → d < N → back_at m c d ≡ back E t c d)
      → ((d : ℕ) → d < N → up_at m d ≡ up t d)
      → ((k : ℕ) → k < N → r k ≡ read_at m N (λ c. asked (E c).transitions (cfg c)) k) → Reads E cfg N t r
  unfolding read_of read_at
  reads_at m r b u h k l =
      let asks = join_cong N _ _ (λ c q. ap (λ z. z ∩ asked (E c).transitions (cfg c)) (b c k q l)) in
      sets ((up t k ∪ union_up_to N (λ c. back E t c k ∩ asked (E c).transitions (cfg c))) ∷ full ∷ r k ∷ [])
      (C ≐ A ∷ [])
      (A ∩ₑ B ⊑ C) tt (h k l ∙ ap₂ ◌∪◌ (u k l) asks)
