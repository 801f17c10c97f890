-- A tree over cleared charts. In this order: interfaces, of which the input interface is the same and the output
-- interface within the old one; permitted choices, and open ones; places; the same outcomes in the same order, with the
-- places of the new lists (`outcomes-cleared`); no more open choices than there were (`open_fewer`).
use Rattle.std.specs.Prelude.{◌≡◌, Bool, ◌&&◌, length}
use Rattle.std.proofs.Math.Path.{refl, sym, ap, ap₂, fun_ext, subst}
use Rattle.std.proofs.Common.{◌∙◌, arith}
use Rattle.std.proofs.Math.Bool.{true, false, cond, true≢false}
use mathlib.Core.List.{List, [], ◌∷◌, map}
use Prim.Native.Nat.{ℕ, zero, suc, ◌+◌, ◌≤◌, ◌<◌}
use Rattle.signals.specs.Mask.{◌∪◌, ◌∩◌, ◌∖◌}
use Rattle.signals.specs.Decide.{sets, A, B, C, D, ∅ₑ, ◌∪ₑ◌, ◌∖ₑ◌, ◌≐◌, ◌⊑◌}
use Rattle.meaning.specs.Numbers.{no_place}
use Rattle.meaning.specs.Meaning.{Set, ∅, same, Chart, Tree, Slaves, leaf, comp, hide, dec, nil, snoc, Move, no_move}
use Rattle.meaning.specs.Meaning.{takes, stay, behind, pick, last_place, action_of, guards, actions, in_face_chart}
use Rattle.meaning.specs.Meaning.{in_face}
use Rattle.meaning.specs.Meaning.{in_faces, out_face, out_faces, out, outs, ok_chart, meets, ok, oks, permitted}
use Rattle.meaning.specs.Meaning.{untriggered, upd, moves, place_of, places_from, Outcome, outcome_of, upto, outcome}
use Rattle.meaning.specs.Meaning.{search, outcomes, eq_list, agree, answer, given, first_places}
use Rattle.meaning.specs.Sums.{one as ones}
use Rattle.meaning.specs.File.{Has}
use Rattle.meaning.specs.Open.{open_chart, open_tree, open_slaves, is_open, choices, how_many, open_choices}
use Rattle.meaning.proofs.Laws.Open.{how_many-next, how_many-last}
use Rattle.clearing.specs.Clearing.{alive, lost, cleared_chart, lives, new_place, new_places}
use Rattle.meaning.specs.Laws.Bools.{same_refl, same→≡, same_≢, not-true}
use Rattle.meaning.proofs.Laws.Choices.{upd-at, search_empty, place-own}
use Rattle.agreement.specs.Places.{map_cond}
use Rattle.clearing.proofs.Dead.{never-dead}
use Rattle.clearing.proofs.Alive.{dead_at, lives-below, nth-alive, nth-dead, upto-alive, tally-alive}
use Rattle.clearing.proofs.Alive.{guards-alive, actions-alive}

-- ── interfaces ──

-- what the guards no longer name is in the extra set
pub face-cleared : (K : Chart) → in_face_chart (cleared_chart K) ≡ in_face_chart K
unfolding in_face_chart cleared_chart lost
face-cleared K = sets (guards (alive K.feedback K.transitions) ∷ guards K.transitions ∷ K.extra ∷ [])
    (A ⊑ B ∷ [])
    (A ∪ₑ (C ∪ₑ B ∖ₑ A) ≐ B ∪ₑ C) tt (guards-alive K.feedback K.transitions)

module _ (E : ℕ → Chart) where
  abbrev cleared : ℕ → Chart
  cleared c = cleared_chart (E c)

  mutual
    unfolding in_face

    pub in_cleared : (t : Tree) → in_face cleared t ≡ in_face E t
    in_cleared (leaf c) = face-cleared (E c)
    in_cleared (comp p q x) = ap₂ ◌∪◌ (in_cleared p) (in_cleared q)
    in_cleared (hide p x y) = ap (λ z. z ∖ x) (in_cleared p)
    in_cleared (dec c ss) = ap₂ ◌∪◌ (face-cleared (E c)) (ins_cleared ss)

    ins_cleared : (ss : Slaves) → in_faces cleared ss ≡ in_faces E ss
    ins_cleared nil = refl
    ins_cleared (snoc ss i t) = ap₂ ◌∪◌ (ins_cleared ss) (in_cleared t)

  -- the output interface is within the old one
  within_join : (a a' b b' : Set) → a' ∖ a ≡ ∅ → b' ∖ b ≡ ∅ → (a' ∪ b') ∖ (a ∪ b) ≡ ∅
  within_join a a' b b' p q = sets (a ∷ a' ∷ b ∷ b' ∷ []) (B ⊑ A ∷ D ⊑ C ∷ []) (B ∪ₑ D ⊑ A ∪ₑ C) tt p q

  actions-cleared : (c : ℕ) → actions (cleared c).transitions ∖ actions (E c).transitions ≡ ∅
  unfolding cleared_chart
  actions-cleared c = actions-alive (E c).feedback (E c).transitions

  mutual
    unfolding out_face

    pub out_cleared : (t : Tree) → out_face cleared t ∖ out_face E t ≡ ∅
    out_cleared (leaf c) = actions-cleared c
    out_cleared (comp p q x) =
        within_join (out_face E p) (out_face cleared p) (out_face E q) (out_face cleared q) (out_cleared p)
        (out_cleared q)
    out_cleared (hide p x y) =
        sets (out_face E p ∷ out_face cleared p ∷ y ∷ []) (B ⊑ A ∷ []) (B ∖ₑ C ⊑ A ∖ₑ C) tt (out_cleared p)
    out_cleared (dec c ss) =
        within_join (actions (E c).transitions) (actions (cleared c).transitions) (out_faces E ss)
        (out_faces cleared ss) (actions-cleared c) (outs_cleared ss)

    outs_cleared : (ss : Slaves) → out_faces cleared ss ∖ out_faces E ss ≡ ∅
    outs_cleared nil = sets [] [] (∅ₑ ⊑ ∅ₑ) tt
    outs_cleared (snoc ss i t) =
        within_join (out_faces E ss) (out_faces cleared ss) (out_face E t) (out_face cleared t) (outs_cleared ss)
        (out_cleared t)

-- ── permitted choices: in edition 1 nothing looks at a chart's whole list ──

chart-cleared : (K : Chart) → K.stays ≡ false → (a : Bool) (o : Set) (s : ℕ) (m : Move)
    → ok_chart (cleared_chart K) a o s m ≡ ok_chart K a o s m
unfolding ok_chart cleared_chart
chart-cleared K e false o s no_move = refl
chart-cleared K e false o s (takes t) = refl
chart-cleared K e false o s stay = refl
chart-cleared K e true o s no_move = refl
chart-cleared K e true o s (takes t) = refl
chart-cleared K e true o s stay =
    ap (λ b. b && untriggered (alive K.feedback K.transitions) s o o) e
    ∙ sym (ap (λ b. b && untriggered K.transitions s o o) e)

module _ (E : ℕ → Chart) (one : (c : ℕ) → (E c).stays ≡ false) (state : ℕ → ℕ) (cfg : ℕ → ℕ) (M : ℕ → Move) where
  abbrev E' : ℕ → Chart
  E' c = cleared_chart (E c)

  mutual
    unfolding ok cleared_chart

    ok-cleared : (t : Tree) (a : Bool) (o : Set) → ok E' state cfg M t a o ≡ ok E state cfg M t a o
    ok-cleared (leaf c) a o = chart-cleared (E c) (one c) a o (cfg c) (M c)
    ok-cleared (comp l r x) a o =
        ap₂ ◌&&◌ (ap (λ f. ok E' state cfg M l a ((o ∪ ((out M l ∪ out M r) ∩ x)) ∩ f)) (in_cleared E l)
        ∙ ok-cleared l a _)
        (ap (λ f. ok E' state cfg M r a ((o ∪ ((out M l ∪ out M r) ∩ x)) ∩ f)) (in_cleared E r) ∙ ok-cleared r a _)
    ok-cleared (hide l x y) a o = ok-cleared l a (o ∖ x)
    ok-cleared (dec c ss) a o =
        ap₂ ◌&&◌ (ap (λ f. ok_chart (E' c) a ((o ∪ ((action_of (M c) ∪ outs M ss) ∩ (E c).feedback)) ∩ f) (cfg c) (M c))
        (face-cleared (E c))
        ∙ chart-cleared (E c) (one c) a _ (cfg c) (M c))
        (oks_cleared ss (λ q. a && meets (cfg c) (M c) q) (o ∪ ((action_of (M c) ∪ outs M ss) ∩ (E c).feedback)))

    oks_cleared : (ss : Slaves) (f : ℕ → Bool) (z : Set) → oks E' state cfg M ss f z ≡ oks E state cfg M ss f z
    oks_cleared nil f z = refl
    oks_cleared (snoc ss i t) f z = ap₂ ◌&&◌ (oks_cleared ss f z)
        (ap (λ y. ok E' state cfg M t (f (state i)) (z ∩ y)) (in_cleared E t)
        ∙ ok-cleared t (f (state i)) (z ∩ in_face E t))

  pub permitted-cleared : (t : Tree) (i : Set) → permitted E' state cfg M t i ≡ permitted E state cfg M t i
  unfolding permitted
  permitted-cleared t i = ap (λ f. ok E' state cfg M t true (i ∩ f)) (in_cleared E t)
      ∙ ok-cleared t true (i ∩ in_face E t)

-- ── open choices: nothing looks at a list there either ──

open_chart_lem : (K : Chart) (a : Bool) (s : ℕ) (m : Move) → open_chart (cleared_chart K) a s m ≡ open_chart K a s m
unfolding open_chart cleared_chart
open_chart_lem K false s no_move = refl
open_chart_lem K false s (takes t) = refl
open_chart_lem K false s stay = refl
open_chart_lem K true s no_move = refl
open_chart_lem K true s (takes t) = refl
open_chart_lem K true s stay = refl

module _ (E : ℕ → Chart) (state : ℕ → ℕ) (cfg : ℕ → ℕ) (M : ℕ → Move) where
  mutual
    unfolding open_tree

    open_tree_lem : (t : Tree) (a : Bool) → open_tree (cleared E) state cfg M t a ≡ open_tree E state cfg M t a
    open_tree_lem (leaf c) a = open_chart_lem (E c) a (cfg c) (M c)
    open_tree_lem (comp l r x) a = ap₂ ◌&&◌ (open_tree_lem l a) (open_tree_lem r a)
    open_tree_lem (hide l x y) a = open_tree_lem l a
    open_tree_lem (dec c ss) a =
        ap₂ ◌&&◌ (open_chart_lem (E c) a (cfg c) (M c)) (open_slaves_lem ss (λ q. a && meets (cfg c) (M c) q))

    open_slaves_lem : (ss : Slaves) (f : ℕ → Bool)
        → open_slaves (cleared E) state cfg M ss f ≡ open_slaves E state cfg M ss f
    open_slaves_lem nil f = refl
    open_slaves_lem (snoc ss i t) f = ap₂ ◌&&◌ (open_slaves_lem ss f) (open_tree_lem t (f (state i)))

  pub open_cleared : (t : Tree) → is_open (cleared E) state cfg M t ≡ is_open E state cfg M t
  unfolding is_open
  open_cleared t = open_tree_lem t true

-- ── places ──

module _ (E : ℕ → Chart) where
  -- an outcome with the places of the new lists
  unfoldable pub renewed : Outcome → Outcome
  renewed o = record { output = o.output; next = o.next; places = new_places E zero o.places }

  agree-renewed : (a : Outcome) (os : List Outcome) → agree (renewed a) (map renewed os) ≡ agree a os
  unfolding agree renewed
  agree-renewed a [] = refl
  agree-renewed a (o ∷ os) =
      ap (λ b. (same a.output o.output && eq_list a.next o.next) && b) (agree-renewed a os)

  -- output, next configuration, mark and 23 are as before
  pub answer-renewed : (os : List Outcome) → answer (map renewed os) ≡ answer os
  unfolding answer renewed
  answer-renewed [] = refl
  answer-renewed (o ∷ os) = ap (given o.output o.next) (agree-renewed o os)

  pub first-renewed : (os : List Outcome) → first_places (map renewed os) ≡ new_places E zero (first_places os)
  unfolding first_places renewed new_places
  first-renewed [] = refl
  first-renewed (o ∷ os) = refl

-- ── the same outcomes in the same order ──

module _ (E : ℕ → Chart) (one : (c : ℕ) → (E c).stays ≡ false) where
  abbrev F' : ℕ → Chart
  F' c = cleared_chart (E c)

  -- a place of chart c, and the place that stands for it: the same move
  pub record Linked (c v v' : ℕ) : Type 0 where
    pub move : pick (F' c) v' ≡ pick (E c) v
    pub place : place_of (pick (F' c) v') v' ≡ new_place (E c) (place_of (pick (E c) v) v)

  pub linked_none : (c : ℕ) → Linked c 0 0
  unfolding pick place_of new_place
  linked_none c = record { move = refl; place = rw (same_refl no_place) }

  below_new : (c k : ℕ) → k < length (E c).transitions → dead_at (E c).feedback (E c).transitions k ≡ false
      → lives (E c).feedback (E c).transitions k < length (F' c).transitions
  unfolding cleared_chart
  below_new c k l e = lives-below (E c).feedback (E c).transitions k l e

  same_move : (c k : ℕ) → k < length (E c).transitions → dead_at (E c).feedback (E c).transitions k ≡ false
      → pick (F' c) (suc (lives (E c).feedback (E c).transitions k)) ≡ pick (E c) (suc k)
  unfolding pick cleared_chart
  same_move c k l e = nth-alive (E c).feedback (behind (E c)) (E c).transitions k l e

  pub linked_some : (c k : ℕ) → length (E c).transitions ≤ no_place → k < length (E c).transitions
      → dead_at (E c).feedback (E c).transitions k ≡ false
      → Linked c (suc k) (suc (lives (E c).feedback (E c).transitions k))
  unfolding new_place
  linked_some c k few l e = record {
    move = same_move c k l e;
    place = place-own (F' c) (lives (E c).feedback (E c).transitions k) (below_new c k l e)
        ∙ sym (ap (λ p. cond (same p no_place) no_place (lives (E c).feedback (E c).transitions p))
        (place-own (E c) k l)
        ∙ ap (λ b. cond b no_place (lives (E c).feedback (E c).transitions k)) (same_≢ k no_place (λ z. omega arith)));
  }

  pub linked_upd : (ch ch' : ℕ → ℕ) (c v v' : ℕ) → ((i : ℕ) → Linked i (ch i) (ch' i)) → Linked c v v' → (i : ℕ)
      → Linked i (upd ch c v i) (upd ch' c v' i)
  unfolding upd
  linked_upd ch ch' c v v' h g i = go (same i c) refl
    where
      go : (b : Bool) → same i c ≡ b → Linked i (cond b v (ch i)) (cond b v' (ch' i))
      go true e = subst (λ z. Linked z v v') (sym (same→≡ i c e)) g
      go false e = h i

  pub moves_linked : (ch ch' : ℕ → ℕ) → ((i : ℕ) → Linked i (ch i) (ch' i)) → moves F' ch' ≡ moves E ch
  unfolding moves
  moves_linked ch ch' h = fun_ext (λ i. (h i).move)

  places_linked : (ch ch' : ℕ → ℕ) → ((i : ℕ) → Linked i (ch i) (ch' i)) → (c n : ℕ)
      → places_from F' ch' c n ≡ new_places E c (places_from E ch c n)
  unfolding places_from new_places
  places_linked ch ch' h c zero = refl
  places_linked ch ch' h c (suc n) = ap₂ ◌∷◌ (h c).place (places_linked ch ch' h (suc c) n)

  pub last_is : (c : ℕ) → last_place (E c) ≡ length (E c).transitions
  unfolding last_place
  last_is c = rw (one c)

  pub last-new : (c : ℕ) → last_place (F' c) ≡ length (alive (E c).feedback (E c).transitions)
  unfolding last_place cleared_chart
  last-new c = rw (one c)

  module _ (state : ℕ → ℕ) (cfg : ℕ → ℕ) (t : Tree) (inp : Set) (N : ℕ) (there : (c : ℕ) → c < N → Has t c ≡ true)
      (few : (c : ℕ) → c < N → length (E c).transitions ≤ no_place) where
    outcome-cleared : (ch ch' : ℕ → ℕ) → ((i : ℕ) → Linked i (ch i) (ch' i))
        → outcome F' state cfg t inp N ch' ≡ map (renewed E) (outcome E state cfg t inp N ch)
    unfolding outcome outcome_of renewed
    outcome-cleared ch ch' h =
        rw (moves_linked ch ch' h, places_linked ch ch' h zero N, permitted-cleared E one state cfg (moves E ch) t inp)
        (sym (map_cond (renewed E) (permitted E state cfg (moves E ch) t inp) (outcome_of E cfg t N ch)))

    -- a beginning that takes a dead transition
    dead_empty : (n c k : ℕ) (ch : ℕ → ℕ) → c < N → k < length (E c).transitions
        → dead_at (E c).feedback (E c).transitions k ≡ true
        → search E state cfg t inp N n (suc c) (upd ch c (suc k)) ≡ []
    unfolding moves pick
    dead_empty n c k ch l m e = search_empty E state cfg t inp N n (suc c) (upd ch c (suc k)) (λ ch₂ b. not-true (λ p.
        let u = nth-dead (E c).feedback (behind (E c)) (E c).transitions k m e in
        let at : ch₂ c ≡ suc k = b c (omega arith) ∙ upd-at ch c (suc k) in
        true≢false (sym u.2
        ∙ never-dead E state cfg (moves E ch₂) c u.0 (ap (pick (E c)) at ∙ u.1) t inp (there c l) p)))

    search-cleared : (n c : ℕ) (ch ch' : ℕ → ℕ) → c + n ≡ N → ((i : ℕ) → Linked i (ch i) (ch' i))
        → search F' state cfg t inp N n c ch' ≡ map (renewed E) (search E state cfg t inp N n c ch)
    unfolding search
    search-cleared zero c ch ch' e h = outcome-cleared ch ch' h
    search-cleared (suc n) c ch ch' e h =
        ap (λ m. upto m (λ v. search F' state cfg t inp N n (suc c) (upd ch' c v))) (last-new c)
        ∙ upto-alive (E c).feedback (renewed E) (λ v. search E state cfg t inp N n (suc c) (upd ch c v))
        (λ v. search F' state cfg t inp N n (suc c) (upd ch' c v)) (E c).transitions
        (search-cleared n (suc c) (upd ch c 0) (upd ch' c 0) (omega arith) (linked_upd ch ch' c 0 0 h (linked_none c)))
        (λ k l d. dead_empty n c k ch (omega arith) l d)
        (λ k l d. search-cleared n (suc c) (upd ch c (suc k))
        (upd ch' c (suc (lives (E c).feedback (E c).transitions k))) (omega arith)
        (linked_upd ch ch' c (suc k) (suc (lives (E c).feedback (E c).transitions k)) h
        (linked_some c k (few c (omega arith)) l d)))
        ∙ ap (λ m. map (renewed E) (upto m (λ v. search E state cfg t inp N n (suc c) (upd ch c v)))) (sym (last_is c))

    pub outcomes-cleared : outcomes F' state cfg t inp N ≡ map (renewed E) (outcomes E state cfg t inp N)
    unfolding outcomes
    outcomes-cleared = search-cleared N zero (λ c. zero) (λ c. zero) (omega arith) (λ i. linked_none i)

    -- ── no more open choices ──

    abbrev opens : (ℕ → ℕ) → Bool
    opens ch = is_open E state cfg (moves E ch) t

    abbrev opens' : (ℕ → ℕ) → Bool
    opens' ch = is_open F' state cfg (moves F' ch) t

    beginnings_fewer : (n c : ℕ) (ch ch' : ℕ → ℕ) → c + n ≡ N → ((i : ℕ) → Linked i (ch i) (ch' i))
        → how_many opens' (choices F' n c ch') ≤ how_many opens (choices E n c ch)
    beginnings_fewer zero c ch ch' e h =
        let q : opens' ch' ≡ opens ch =
        ap (λ M. is_open F' state cfg M t) (moves_linked ch ch' h) ∙ open_cleared E state cfg (moves E ch) t in
        let z : ones (opens' ch') ≡ ones (opens ch) = ap ones q in
        rw (how_many-last F' opens' c ch', how_many-last E opens c ch) (omega arith)
    beginnings_fewer (suc n) c ch ch' e h =
        rw (how_many-next F' opens' n c ch', how_many-next E opens n c ch, last-new c, last_is c)
        (tally-alive (E c).feedback (λ v. how_many opens (choices E n (suc c) (upd ch c v)))
        (λ v. how_many opens' (choices F' n (suc c) (upd ch' c v))) (E c).transitions
        (beginnings_fewer n (suc c) (upd ch c 0) (upd ch' c 0) (omega arith)
        (linked_upd ch ch' c 0 0 h (linked_none c)))
        (λ k l d. beginnings_fewer n (suc c) (upd ch c (suc k))
        (upd ch' c (suc (lives (E c).feedback (E c).transitions k))) (omega arith)
        (linked_upd ch ch' c (suc k) (suc (lives (E c).feedback (E c).transitions k)) h
        (linked_some c k (few c (omega arith)) l d))))

    pub open_fewer : open_choices F' state cfg t N ≤ open_choices E state cfg t N
    unfolding open_choices
    open_fewer = beginnings_fewer N zero (λ c. zero) (λ c. zero) (omega arith) (λ i. linked_none i)
