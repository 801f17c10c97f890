-- A beginning that fails the test has no permitted choice.
use Rattle.std.specs.Prelude.{◌≡◌, refl, Bool, true, false, ◌&&◌}
use Rattle.std.proofs.Common.{sym, ◌∙◌, arith, zero-add}
use Rattle.std.proofs.Math.Path.{ap, ap₂}
use Rattle.std.proofs.lemmas.Bool.{false≢true}
use Rattle.std.proofs.Math.Option.{Option}
use mathlib.Core.List.{[], ◌∷◌}
use Prim.Native.Nat.{ℕ, zero, suc, ◌+◌, ◌≤◌, ◌<◌}
use Rattle.signals.specs.Mask.{◌∪◌, ◌∩◌, Within}
use Rattle.signals.specs.Decide.{sets, A, B, C, D, E as Eₑ, F as Fₑ, ∅ₑ, ◌∪ₑ◌, ◌∩ₑ◌, ◌≐◌, ◌⊑◌}
use Rattle.meaning.specs.Meaning.{Set, ∅, same, Chart, Tree, Move, no_move, takes, stay, pick, action_of, met?}
use Rattle.meaning.specs.Meaning.{untriggered, permitted, moves, search}
use Rattle.meaning.specs.Laws.Bools.{every_elim, and_l, and_r, not-true}
use Rattle.meaning.specs.Laws.Guards.{met_wider, quiet_wider}
use Rattle.meaning.proofs.Laws.Choices.{Below, search_empty}
use Rattle.wiring.specs.Uncut.{own-moves}
use Rattle.meaning.specs.Rewriting.{union_up_to}
use Rattle.wiring.specs.Reach.{down, back, offered, fits, Small}
use Rattle.wiring.specs.Permitted.{awake, Stands, offer, ruled, permitted_wired}
use Rattle.wiring.specs.Sure.{surely, open?, sure_open}

-- f k ∪ .. ∪ f (k + n - 1)
unfoldable pub ahead : ℕ → ℕ → (ℕ → Set) → Set
ahead zero k f = ∅
ahead (suc n) k f = f k ∪ ahead n (suc k) f

-- The test of a move between bounds on what the chart is offered: a transition's needed signals may still all come, and
-- no barred one is there; a chart that stays is not triggered yet for sure: no transition from its state s has all
-- needed signals there and can have none barred.
unfoldable pub test : Chart → ℕ → Move → Set → Set → Bool
test K s no_move low high = true
test K s (takes t) low high = met? t high low
test K s stay low high = untriggered K.transitions s low high

split : (n k : ℕ) (f : ℕ → Set) → union_up_to (n + k) f ≡ union_up_to k f ∪ ahead n k f
unfolding union_up_to ahead
split zero k f = rw zero-add (sets (union_up_to k f ∷ []) [] (A ≐ A ∪ₑ ∅ₑ) tt)
split (suc n) k f = ap (λ z. union_up_to z f) (let h : suc n + k ≡ n + suc k = omega arith in h) ∙ split n (suc k) f
    ∙ sets (union_up_to k f ∷ f k ∷ ahead n (suc k) f ∷ []) [] (A ∪ₑ B ∪ₑ C ≐ A ∪ₑ (B ∪ₑ C)) tt

ahead_in : (n k : ℕ) (f g : ℕ → Set) → ((e : ℕ) → k ≤ e → e < n + k → Within (f e) (g e))
    → Within (ahead n k f) (ahead n k g)
unfolding ahead
ahead_in zero k f g h = sets [] [] (∅ₑ ⊑ ∅ₑ) tt
ahead_in (suc n) k f g h =
    sets (f k ∷ g k ∷ ahead n (suc k) f ∷ ahead n (suc k) g ∷ []) (A ⊑ B ∷ C ⊑ D ∷ []) (A ∪ₑ C ⊑ B ∪ₑ D) tt
    (h k (omega arith) (omega arith)) (ahead_in n (suc k) f g (λ e p q. h e (omega arith) (omega arith)))

pub join_in : (k : ℕ) (f g b : ℕ → Set) → ((e : ℕ) → e < k → Within (f e) (g e))
    → Within (union_up_to k (λ e. f e ∩ b e)) (union_up_to k (λ e. g e ∩ b e))
unfolding union_up_to
join_in zero f g b h = sets [] [] (∅ₑ ⊑ ∅ₑ) tt
join_in (suc k) f g b h = sets (union_up_to k (λ e. f e ∩ b e) ∷ union_up_to k (λ e. g e ∩ b e) ∷ f k ∷ g k ∷ b k ∷ [])
    (A ⊑ B ∷ C ⊑ D ∷ []) (A ∪ₑ C ∩ₑ Eₑ ⊑ B ∪ₑ D ∩ₑ Eₑ) tt
    (join_in k f g b (λ e l. h e (omega arith))) (h k (omega arith))

-- a rule that holds passes the test between bounds
pub fits-test : (K : Chart) (a : Bool) (o : Set) (s : ℕ) (m : Move) (low high : Set) → Within low o → Within o high
    → fits K a o s m ≡ true → test K s m low high ≡ true
unfolding fits test
fits-test K false o s no_move low high p q e = refl
fits-test K false o s (takes t) low high p q e = absurd (false≢true e)
fits-test K false o s stay low high p q e = absurd (false≢true e)
fits-test K true o s no_move low high p q e = refl
fits-test K true o s (takes t) low high p q e = met_wider t o high o low q p (and_r (same t.from s) _ e)
fits-test K true o s stay low high p q e = quiet_wider K.transitions s o low o high p q (and_r K.stays _ e)

-- a rule is its activity, its state and the exact test
pub fits_open : (K : Chart) (a : Bool) (o : Set) (s : ℕ) (m : Move)
    → fits K a o s m ≡ (open? K.stays a s m && test K s m o o)
unfolding fits open? test
fits_open K false o s no_move = refl
fits_open K false o s (takes t) = refl
fits_open K false o s stay = refl
fits_open K true o s no_move = refl
fits_open K true o s (takes t) = refl
fits_open K true o s stay = refl

-- may has the action of every transition from the state
abbrev pub May : (ℕ → Chart) → (ℕ → ℕ) → (ℕ → Set) → Type 0
May E cfg may = (c v : ℕ) → (a : Bool) → open? (E c).stays a (cfg c) (pick (E c) v) ≡ true
    → Within (action_of (pick (E c) v)) (may c)

-- no permitted choice puts out more
abbrev pub Bounds : (ℕ → Chart) → (ℕ → ℕ) → (ℕ → ℕ) → ℕ → Tree → Set → (ℕ → Set) → Type 0
Bounds E state cfg N t inp may = (ch : ℕ → ℕ) → permitted E state cfg (moves E ch) t inp ≡ true → (e : ℕ) → e < N
    → Within (action_of (moves E ch e)) (may e)

pub join_cong : (k : ℕ) (f g : ℕ → Set) → ((e : ℕ) → e < k → f e ≡ g e) → union_up_to k f ≡ union_up_to k g
unfolding union_up_to
join_cong zero f g h = refl
join_cong (suc k) f g h = ap₂ ◌∪◌ (join_cong k f g (λ e l. h e (omega arith))) (h k (omega arith))

-- the rule of each chart holds in a permitted choice, so that each keeps activity and state
module _ (E : ℕ → Chart) (state : ℕ → ℕ) (cfg : ℕ → ℕ) (N : ℕ) (enc : ℕ → Option ℕ) (sc : ℕ → ℕ) (t : Tree) (inp : Set)
    (s : Stands N enc sc t) (si : Small inp) (sa : (ch : ℕ → ℕ) (e : ℕ) → Small (action_of (moves E ch e))) (ch : ℕ → ℕ)
    (p : permitted E state cfg (moves E ch) t inp ≡ true) where
  permitted-ruled : (c : ℕ) → c < N → ruled E state cfg N enc sc t inp (moves E ch) c ≡ true
  permitted-ruled c l = every_elim N (ruled E state cfg N enc sc t inp (moves E ch))
      (sym (permitted_wired E state cfg N enc sc t inp (moves E ch) s si (sa ch) (own-moves E ch)) ∙ p) c l

  pub permitted_open : (c : ℕ) → c < N
      → open? (E c).stays (awake enc sc state cfg (moves E ch) c) (cfg c) (moves E ch c) ≡ true
  unfolding ruled
  permitted_open c l = and_l _ _ (sym (fits_open (E c) (awake enc sc state cfg (moves E ch) c)
      (offer E state cfg N enc sc t inp (moves E ch) N c) (cfg c) (moves E ch c)) ∙ permitted-ruled c l)

module _ (E : ℕ → Chart) (state : ℕ → ℕ) (cfg : ℕ → ℕ) (N : ℕ) (enc : ℕ → Option ℕ) (sc : ℕ → ℕ) (t : Tree) (inp : Set)
    (may : ℕ → Set) where
  -- what is sure before any chart is settled
  unfoldable pub sures : ℕ → Set
  sures c = union_up_to N (λ e. surely enc E cfg e ∩ back E t c e)

  -- charts below k are settled; n are left
  unfoldable pub low : (ℕ → ℕ) → ℕ → ℕ → Set
  low ch k c = sures c ∪ offer E state cfg N enc sc t inp (moves E ch) k c

  unfoldable pub high : (ℕ → ℕ) → ℕ → ℕ → ℕ → Set
  high ch n k c = low ch k c ∪ ahead n k (λ e. may e ∩ back E t c e)

  unfoldable pub passes : (ℕ → ℕ) → ℕ → ℕ → ℕ → Bool
  passes ch n k c = test (E c) (cfg c) (moves E ch c) (low ch k c) (high ch n k c)

  module _ (s : Stands N enc sc t) (m : Bounds E state cfg N t inp may) (si : Small inp)
      (sa : (ch : ℕ → ℕ) (e : ℕ) → Small (action_of (moves E ch e))) where
    -- every chart keeps activity and state
    abbrev Open : (ℕ → ℕ) → Type 0
    Open ch = (e : ℕ) → e < N → open? (E e).stays (awake enc sc state cfg (moves E ch) e) (cfg e) (moves E ch e) ≡ true

    sures_in : (ch : ℕ → ℕ) (c : ℕ) → Open ch
        → Within (sures c) (union_up_to N (λ e. action_of (moves E ch e) ∩ back E t c e))
    unfolding sures
    sures_in ch c o = join_in N (surely enc E cfg) (λ e. action_of (moves E ch e)) (back E t c)
        (λ e l. sure_open E state cfg N enc sc t s ch e l (o e l))

    low_in_lem : (ch : ℕ → ℕ) (n k c : ℕ) → n + k ≡ N → Open ch
        → Within (low ch k c) (offer E state cfg N enc sc t inp (moves E ch) N c)
    unfolding low offer offered
    low_in_lem ch n k c e o =
        sets ((inp ∩ down t c) ∷ union_up_to k f ∷ ahead n k f ∷ union_up_to N f ∷ sures c ∷ []) (D ≐ B ∪ₑ C ∷ Eₑ
        ⊑ D ∷ []) (Eₑ ∪ₑ (A ∪ₑ B) ⊑ A ∪ₑ D) tt (ap (λ z. union_up_to z f) (sym e) ∙ split n k f) (sures_in ch c o)
      where
        f : ℕ → Set
        f e = action_of (moves E ch e) ∩ back E t c e

    high_in : (ch : ℕ → ℕ) (n k c : ℕ) → n + k ≡ N → ((e : ℕ) → e < N → Within (action_of (moves E ch e)) (may e))
        → Within (offer E state cfg N enc sc t inp (moves E ch) N c) (high ch n k c)
    unfolding low high offer offered
    high_in ch n k c e q =
        sets ((inp ∩ down t c) ∷ union_up_to k f ∷ ahead n k f ∷ union_up_to N f ∷ ahead n k g ∷ sures c ∷ [])
        (D ≐ B ∪ₑ C ∷ C ⊑ Eₑ ∷ []) (A ∪ₑ D ⊑ Fₑ ∪ₑ (A ∪ₑ B) ∪ₑ Eₑ) tt (ap (λ z. union_up_to z f) (sym e) ∙ split n k f)
        (ahead_in n k f g (λ d p r. sets (action_of (moves E ch d) ∷ may d ∷ back E t c d ∷ []) (A ⊑ B ∷ [])
        (A ∩ₑ C ⊑ B ∩ₑ C) tt (q d (omega arith))))
      where
        f : ℕ → Set
        f e = action_of (moves E ch e) ∩ back E t c e

        g : ℕ → Set
        g e = may e ∩ back E t c e

    -- a permitted choice passes every test on the way
    pub passed : (ch : ℕ → ℕ) (n k c : ℕ) → n + k ≡ N → c < N → permitted E state cfg (moves E ch) t inp ≡ true
        → passes ch n k c ≡ true
    unfolding passes ruled
    passed ch n k c e l p = fits-test (E c) (awake enc sc state cfg (moves E ch) c)
        (offer E state cfg N enc sc t inp (moves E ch) N c) (cfg c) (moves E ch c) (low ch k c) (high ch n k c)
        (low_in_lem ch n k c e (permitted_open E state cfg N enc sc t inp s si sa ch p)) (high_in ch n k c e
        (λ d r. m ch p d r)) (permitted-ruled E state cfg N enc sc t inp s si sa ch p c l)

    -- low, high and the test look at settled charts alone
    pub passes-below : (ch ch₂ : ℕ → ℕ) (n k c : ℕ) → Below k ch ch₂ → c < k → passes ch₂ n k c ≡ passes ch n k c
    unfolding passes low high offer offered moves
    passes-below ch ch₂ n k c b l = rw (
      b c l,
      join_cong k (λ e. action_of (moves E ch₂ e) ∩ back E t c e) (λ e. action_of (moves E ch e) ∩ back E t c e)
          (λ e r. ap (λ v. action_of (pick (E e) v) ∩ back E t c e) (b e r)),
    )

    pub dropped : (ch : ℕ → ℕ) (n k c : ℕ) → n + k ≡ N → c < k → passes ch n k c ≡ false → (ch₂ : ℕ → ℕ)
        → Below k ch ch₂ → permitted E state cfg (moves E ch₂) t inp ≡ false
    dropped ch n k c e l f ch₂ b =
        not-true (λ p. false≢true (sym f ∙ sym (passes-below ch ch₂ n k c b l) ∙ passed ch₂ n k c e (omega arith) p))

    -- when none is left the test is the exact one: every chart puts out what was sure
    pub passes-last : (ch : ℕ → ℕ) (c : ℕ) → Open ch
        → ruled E state cfg N enc sc t inp (moves E ch) c
        ≡ (open? (E c).stays (awake enc sc state cfg (moves E ch) c) (cfg c) (moves E ch c) && passes ch zero N c)
    unfolding passes high ruled ahead
    passes-last ch c o = fits_open (E c) (awake enc sc state cfg (moves E ch) c) all (cfg c) (moves E ch c)
        ∙ ap₂ (λ x y. open? (E c).stays (awake enc sc state cfg (moves E ch) c) (cfg c) (moves E ch c)
        && test (E c) (cfg c) (moves E ch c) x y) (sym exact) (sym exact ∙ sets (low ch N c ∷ []) [] (A ≐ A ∪ₑ ∅ₑ) tt)
      where
        all : Set
        all = offer E state cfg N enc sc t inp (moves E ch) N c

        exact : low ch N c ≡ all
        exact = unfold low offer offered in sets
            ((inp ∩ down t c) ∷ union_up_to N (λ e. action_of (moves E ch e) ∩ back E t c e) ∷ sures c ∷ [])
            (C ⊑ B ∷ [])
            (C ∪ₑ (A ∪ₑ B) ≐ A ∪ₑ B) tt (sures_in ch c o)

    -- the search may leave such a beginning out
    pub skip_dropped : (ch : ℕ → ℕ) (n k c : ℕ) → n + k ≡ N → c < k → passes ch n k c ≡ false
        → search E state cfg t inp N n k ch ≡ []
    skip_dropped ch n k c e l f = search_empty E state cfg t inp N n k ch (dropped ch n k c e l f)

-- what the transitions from the present states put out is a bound
module _ (E : ℕ → Chart) (state : ℕ → ℕ) (cfg : ℕ → ℕ) (N : ℕ) (enc : ℕ → Option ℕ) (sc : ℕ → ℕ) (t : Tree) (inp : Set)
    (may : ℕ → Set)
    (s : Stands N enc sc t) (m : May E cfg may) (si : Small inp)
    (sa : (ch : ℕ → ℕ) (e : ℕ) → Small (action_of (moves E ch e))) where
  pub may_bounds : Bounds E state cfg N t inp may
  unfolding moves
  may_bounds ch p e l =
      m e (ch e) (awake enc sc state cfg (moves E ch) e) (permitted_open E state cfg N enc sc t inp s si sa ch p e l)
