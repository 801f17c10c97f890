-- Interfaces and steps (RULES 4 and 5; RULES 1.1 says where they come from), over a tree of parts. Here: charts and the
-- tree; moves; the test of a guard; interfaces; what a part puts out; when a choice is permitted; all choices in order;
-- the step's answer. Laws are elsewhere: that interfaces cut nothing off and how the tree folds into masks in the crate
-- wiring, the rewriting in agreement.
use Rattle.std.specs.Prelude.{Bool, true, false, ◌&&◌, ◌||◌, not, cond, List, [], ◌∷◌, ◌++◌, ℕ, zero, suc, ◌-◌, eqb}
use Rattle.std.specs.Prelude.{length}
use Rattle.signals.specs.Mask.{◌∪◌, ◌∩◌, ◌∖◌}
use Rattle.signals.specs.Guard.{guard, is_met}
use Rattle.layout.specs.declared.record.Transition.{Transition}
use Rattle.meaning.specs.Numbers.{no_step, no_place, stay_place}

-- a signal set (RULES 1.2), as a mask; the empty set
abbrev pub Set : Type 0
Set = ℕ

abbrev pub ∅ : Set
∅ = 0

-- two numbers are equal, as a test
unfoldable pub same : ℕ → ℕ → Bool
same m n = eqb m n

-- ── charts and the tree ──

-- a chart with its transitions (RULES 2.3, 2.4)
pub record Chart : Type 0 where
  pub states : ℕ
  pub initial : ℕ
  pub transitions : List Transition
  pub feedback : Set
  pub extra : Set
  pub stays : Bool  -- may it stay? in a file of edition 2 (RULES 7.1)

-- A part (RULES 2.6, 2.7): a chart; two parts composed, with their feedback; a part hidden, without x in its input and
-- y in its output; a master decomposed, with its slaves, each named by the number of its record. Charts are named by
-- number too.
mutual
  pub data Tree : Type 0 where
    leaf : ℕ → Tree
    comp : Tree → Tree → Set → Tree
    hide : Tree → Set → Set → Tree
    dec : ℕ → Slaves → Tree

  pub data Slaves : Type 0 where
    nil : Slaves
    snoc : Slaves → ℕ → Tree → Slaves

-- ── moves ──

-- what a choice has for each chart (RULES 5.2): none, a transition, or staying, in edition 2 only
pub data Move : Type 0 where
  no_move : Move
  takes : Transition → Move
  stay : Move

-- transition k of the list; past its end, m
unfoldable pub nth : Move → List Transition → ℕ → Move
nth m [] k = m
nth m (t ∷ ts) zero = takes t
nth m (t ∷ ts) (suc k) = nth m ts k

-- what comes after a chart's transitions: staying, if the chart may stay (RULES 5.8)
abbrev pub behind : Chart → Move
behind C = cond C.stays stay no_move

-- the move at a place of a choice, in the order of RULES 5.8: 0 is none, suc k is transition k, and staying comes after
-- the last transition
unfoldable pub pick : Chart → ℕ → Move
pick C zero = no_move
pick C (suc k) = nth (behind C) C.transitions k

-- the last place that a choice may give the chart (RULES 5.8)
unfoldable pub last_place : Chart → ℕ
last_place C = cond C.stays (suc (length C.transitions)) (length C.transitions)

-- a chart's own output (RULES 5.2): the action of the transition that it takes, else nothing
unfoldable pub action_of : Move → Set
action_of no_move = ∅
action_of (takes t) = t.action
action_of stay = ∅

-- its state after the step (RULES 5.2): the one that the transition enters; without a transition, the present one
unfoldable pub after : ℕ → Move → ℕ
after s no_move = s
after s (takes t) = t.to
after s stay = s

-- ── the test of a guard ──

-- the guard of a transition is met (RULES 5.6); what testing it shows otherwise is in crate signals, specs/Guard.antt.
-- Needed signals are looked up in i and barred ones in j: the same set twice, except where a search has only bounds on
-- it
unfoldable pub met? : Transition → Set → Set → Bool
met? t i j = is_met (guard t.needed t.barred i j)

-- nothing triggers a chart in state s (RULES 5.7): no transition that leaves s has a guard that is met
unfoldable pub untriggered : List Transition → ℕ → Set → Set → Bool
untriggered [] s i j = true
untriggered (t ∷ ts) s i j = not (same t.from s && met? t i j) && untriggered ts s i j

-- ── interfaces ──

-- all signals that guards name, needed or barred (RULES 4.1)
unfoldable pub guards : List Transition → Set
guards [] = ∅
guards (t ∷ ts) = (t.needed ∪ t.barred) ∪ guards ts

-- all signals of actions, a chart's output interface (RULES 4.1)
unfoldable pub actions : List Transition → Set
actions [] = ∅
actions (t ∷ ts) = t.action ∪ actions ts

-- the input interface of a chart: what its guards name, and its extra set (RULES 4.1)
unfoldable pub in_face_chart : Chart → Set
in_face_chart C = guards C.transitions ∪ C.extra

module _ (E : ℕ → Chart) where
  -- the input interface of a part (RULES 4.2): that of its chart; of several parts, theirs together; of a hidden part,
  -- its own without x
  unfoldable mutual
    pub in_face : Tree → Set
    in_face (leaf c) = in_face_chart (E c)
    in_face (comp a b x) = in_face a ∪ in_face b
    in_face (hide a x y) = in_face a ∖ x
    in_face (dec c ss) = in_face_chart (E c) ∪ in_faces ss

    pub in_faces : Slaves → Set
    in_faces nil = ∅
    in_faces (snoc ss i t) = in_faces ss ∪ in_face t

  -- the output interface of a part (RULES 4.2): the same with the signals of actions, and without y if hidden
  unfoldable mutual
    pub out_face : Tree → Set
    out_face (leaf c) = actions (E c).transitions
    out_face (comp a b x) = out_face a ∪ out_face b
    out_face (hide a x y) = out_face a ∖ y
    out_face (dec c ss) = actions (E c).transitions ∪ out_faces ss

    pub out_faces : Slaves → Set
    out_faces nil = ∅
    out_faces (snoc ss i t) = out_faces ss ∪ out_face t

-- ── what a part puts out ──

module _ (M : ℕ → Move) where
  -- the output of a part (RULES 5.4); M: the moves of a choice
  unfoldable mutual
    pub out : Tree → Set
    out (leaf c) = action_of (M c)
    out (comp a b x) = out a ∪ out b
    out (hide a x y) = out a ∖ y
    out (dec c ss) = action_of (M c) ∪ outs ss

    pub outs : Slaves → Set
    outs nil = ∅
    outs (snoc ss i t) = outs ss ∪ out t

-- ── when a choice is permitted ──

-- The rule of one chart (RULES 5.6, 5.7). An inactive chart takes none. An active one takes a transition that leaves
-- its present state and whose guard is met on the offered set, joined with what its own action feeds back to it; or it
-- stays, if it may and the offered set alone triggers nothing. Given: the chart, whether it is active, the offered set,
-- its present state, its move.
unfoldable pub ok_chart : Chart → Bool → Set → ℕ → Move → Bool
ok_chart C false o s no_move = true
ok_chart C false o s (takes t) = false
ok_chart C false o s stay = false
ok_chart C true o s no_move = false
ok_chart C true o s (takes t) =
    same t.from s && met? t (o ∪ (t.action ∩ C.feedback)) (o ∪ (t.action ∩ C.feedback))
ok_chart C true o s stay = C.stays && untriggered C.transitions s o o

-- the master is in the slave's state q before the step or after it (RULES 5.3); one that stays is in its state both
-- times
unfoldable pub meets : ℕ → Move → ℕ → Bool
meets s m q = same s q || same (after s m) q

-- E: the charts; state: of each slave, its state; cfg: the present states; M: the moves of a choice
module _ (E : ℕ → Chart) (state : ℕ → ℕ) (cfg : ℕ → ℕ) (M : ℕ → Move) where
  unfoldable mutual
    -- every chart of a part follows its rule (RULES 5.7); given whether the part is active, and the set that it is
    -- offered
    pub ok : Tree → Bool → Set → Bool
    ok (leaf c) a o = ok_chart (E c) a o (cfg c) (M c)
    -- both parts are offered the set and what x feeds back of their output, cut to their interfaces (RULES 5.5)
    ok (comp l r x) a o =
        ok l a ((o ∪ ((out M l ∪ out M r) ∩ x)) ∩ in_face E l) && ok r a ((o ∪ ((out M l ∪ out M r) ∩ x)) ∩ in_face E r)
    -- the part is offered the set without x (RULES 5.5)
    ok (hide l x y) a o = ok l a (o ∖ x)
    -- the master's feedback set feeds back what master and slaves put out, to all of them (RULES 5.5); a slave is
    -- active if the master is and meets the slave's state (RULES 5.3)
    ok (dec c ss) a o =
        ok_chart (E c) a ((o ∪ ((action_of (M c) ∪ outs M ss) ∩ (E c).feedback)) ∩ in_face_chart (E c)) (cfg c) (M c)
        && oks ss (λ q. a && meets (cfg c) (M c) q) (o ∪ ((action_of (M c) ∪ outs M ss) ∩ (E c).feedback))

    -- the same of slaves; given whether one is active, by its state, and what all are offered before the cut (RULES
    -- 5.5)
    pub oks : Slaves → (ℕ → Bool) → Set → Bool
    oks nil f z = true
    oks (snoc ss i t) f z = oks ss f z && ok t (f (state i)) (z ∩ in_face E t)

  -- a choice is permitted (RULES 5.7): the whole is active (RULES 5.3), and offered what its interface has of the input
  -- (RULES 5.5)
  unfoldable pub permitted : Tree → Set → Bool
  permitted t i = ok t true (i ∩ in_face E t)

-- ── all choices in order ──

-- the choice ch with chart c's place v
unfoldable pub upd : (ℕ → ℕ) → ℕ → ℕ → ℕ → ℕ
upd ch c v i = cond (same i c) v (ch i)

-- the moves of a choice of places (RULES 5.2)
unfoldable pub moves : (ℕ → Chart) → (ℕ → ℕ) → ℕ → Move
moves E ch c = pick (E c) (ch c)

-- the states after the step (RULES 5.9), of charts c, c + 1, .. (n of them)
unfoldable pub nexts : (ℕ → ℕ) → (ℕ → Move) → ℕ → ℕ → List ℕ
nexts cfg M c zero = []
nexts cfg M c (suc n) = after (cfg c) (M c) ∷ nexts cfg M (suc c) n

-- the place that an answer has for a chart (RULES 5.11): that of its transition, 254 if it stayed, 255 if it took none;
-- given its move, and the place of the move in the choice
unfoldable pub place_of : Move → ℕ → ℕ
place_of no_move v = no_place
place_of (takes t) v = v - 1
place_of stay v = stay_place

-- the same of charts c, c + 1, .. (n of them)
unfoldable pub places_from : (ℕ → Chart) → (ℕ → ℕ) → ℕ → ℕ → List ℕ
places_from E ch c zero = []
places_from E ch c (suc n) = place_of (pick (E c) (ch c)) (ch c) ∷ places_from E ch (suc c) n

-- what a permitted choice gives (RULES 5.9): the output of the whole, the next configuration, and the places
pub record Outcome : Type 0 where
  pub output : Set
  pub next : List ℕ
  pub places : List ℕ

-- the outcome of a choice, in a file of N charts
unfoldable pub outcome_of : (ℕ → Chart) → (ℕ → ℕ) → Tree → ℕ → (ℕ → ℕ) → Outcome
outcome_of E cfg t N ch =
    record { output = out (moves E ch) t; next = nexts cfg (moves E ch) zero N; places = places_from E ch zero N }

module _ {A : Type 0} where
  -- f 0 ++ f 1 ++ .. ++ f m
  unfoldable pub upto : ℕ → (ℕ → List A) → List A
  upto zero f = f zero
  upto (suc m) f = upto m f ++ f (suc m)

module _ (E : ℕ → Chart) (state : ℕ → ℕ) (cfg : ℕ → ℕ) (t : Tree) (i : Set) (N : ℕ) where
  -- a choice's outcome, if it is permitted (RULES 5.7)
  unfoldable pub outcome : (ℕ → ℕ) → List Outcome
  outcome ch = cond (permitted E state cfg (moves E ch) t i) (outcome_of E cfg t N ch ∷ []) []

  -- choices in order (RULES 5.8), by the move of the lowest chart first: n charts are left, c is the next
  unfoldable pub search : ℕ → ℕ → (ℕ → ℕ) → List Outcome
  search zero c ch = outcome ch
  search (suc n) c ch = upto (last_place (E c)) (λ v. search n (suc c) (upd ch c v))

  -- the outcomes of all permitted choices, in the order of choices (RULES 5.8)
  unfoldable pub outcomes : List Outcome
  outcomes = search N zero (λ c. zero)

-- ── the step's answer: the first permitted choice's outcome, and the mark, for which places do not count ──

-- a step is refused, with a number; or given, with output, next configuration and mark (RULES 5.9)
pub data Answer : Type 0 where
  refused : ℕ → Answer
  given : Set → List ℕ → Bool → Answer

-- two lists are equal, as a test
unfoldable pub eq_list : List ℕ → List ℕ → Bool
eq_list [] [] = true
eq_list [] (b ∷ bs) = false
eq_list (a ∷ as') [] = false
eq_list (a ∷ as') (b ∷ bs) = same a b && eq_list as' bs

-- the mark (RULES 5.10): all of the outcomes agree with a, on output and next configuration
unfoldable pub agree : Outcome → List Outcome → Bool
agree a [] = true
agree a (b ∷ bs) = (same a.output b.output && eq_list a.next b.next) && agree a bs

-- the first permitted choice is the step; if there is none, 23 (RULES 5.9)
unfoldable pub answer : List Outcome → Answer
answer [] = refused no_step
answer (a ∷ as') = given a.output a.next (agree a as')

-- the places of the first permitted choice (RULES 5.9)
unfoldable pub first_places : List Outcome → List ℕ
first_places [] = []
first_places (a ∷ as') = a.places
