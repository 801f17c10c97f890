-- The search that leaves out what cannot be permitted, chart by chart: it finds the same outcomes in the same order.
use Rattle.std.specs.Prelude.{◌≡◌, Bool, ◌&&◌, ◌≢◌}
use Rattle.std.proofs.Math.Path.{refl, sym, ap, ap₂}
use Rattle.std.proofs.Common.{◌∙◌, subst, true≢false}
use Rattle.std.proofs.Math.Bool.{true, false, cond, false≢true}
use Rattle.std.proofs.Math.Option.{Option, none, some}
use mathlib.Core.List.{List, [], ◌∷◌}
use Prim.Native.Nat.{ℕ, zero, suc, ◌+◌, ◌<◌}
use native.Mathlib.Omega.{arith}
use Rattle.signals.specs.Mask.{◌∪◌, Within}
use Rattle.signals.specs.Decide.{sets, A, B, C, ∅ₑ, ◌∪ₑ◌, ◌≐◌, ◌⊑◌}
use Rattle.meaning.specs.Meaning.{Set, ∅, same, Chart, Tree, Move, no_move, stay, nth, behind, pick, last_place}
use Rattle.meaning.specs.Meaning.{action_of}
use Rattle.meaning.specs.Meaning.{permitted, upd, moves, upto, Outcome, outcome_of, outcome, search, meets}
use Rattle.meaning.specs.Laws.Bools.{same_refl, same→≡, every, every_intro, every_elim, and_i, not-true}
use Rattle.meaning.proofs.Laws.Choices.{upto_cong, upd-at, upd_off, Below, search_empty}
use Rattle.layout.specs.declared.record.Transition.{Transition}
use Rattle.wiring.specs.Uncut.{own-moves}
use Rattle.wiring.specs.Reach.{Small, awake_by}
use Rattle.wiring.specs.Permitted.{awake_in, awake, Stands, ruled, permitted_wired}
use Rattle.wiring.specs.Sure.{open?}
use Rattle.wiring.specs.Dropped.{permitted_open, May, Bounds, passes, passes-last, skip_dropped}

pub every_cong : (n : ℕ) (f g : ℕ → Bool) → ((i : ℕ) → i < n → f i ≡ g i) → every n f ≡ every n g
unfolding every
every_cong zero f g h = refl
every_cong (suc n) f g h = ap₂ ◌&&◌ (h n (omega arith)) (every_cong n f g (λ i l. h i (omega arith)))

every-fails : (n : ℕ) (f : ℕ → Bool) → every n f ≡ false → (i : ℕ) × (i < n) × (f i ≡ false)
unfolding every
every-fails zero f h = absurd (true≢false h)
every-fails (suc n) f h = go (f n) refl h (every-fails n f)
  where
    go : (b : Bool) → f n ≡ b → (b && every n f) ≡ false → (every n f ≡ false → (i : ℕ) × (i < n) × (f i ≡ false))
        → (i : ℕ) × (i < suc n) × (f i ≡ false)
    go true e h r = let u = r h in (u.0, (let l = u.1 in omega arith), u.2)
    go false e h r = (n, omega arith, e)

-- a chart's activity looks at lower charts alone
module _ (enc : ℕ → Option ℕ) (sc state cfg : ℕ → ℕ) (N : ℕ) (lower : (c i : ℕ) → c < N → enc c ≡ some i → sc i < c)
    (M M₂ : ℕ → Move) where
  awake_in-below : (f c : ℕ) → c < N → ((d : ℕ) → d < c → M₂ d ≡ M d)
      → awake_in enc sc state cfg M₂ f c ≡ awake_in enc sc state cfg M f c
  unfolding awake_in
  awake_in-below zero c l h = refl
  awake_in-below (suc f) c l h = go (enc c) refl
      (λ i r. awake_in-below f (sc i) (omega arith) (λ d q. h d (omega arith)))
    where
      go : (κ : Option ℕ) → enc c ≡ κ
          → ((i : ℕ) → sc i < c → awake_in enc sc state cfg M₂ f (sc i) ≡ awake_in enc sc state cfg M f (sc i))
          → awake_by sc state cfg M₂ (awake_in enc sc state cfg M₂ f) κ
          ≡ awake_by sc state cfg M (awake_in enc sc state cfg M f) κ
      go none e ih = refl
      go (some i) e ih = let r = lower c i l e in ap₂ (λ b m. b && meets (cfg (sc i)) m (state i)) (ih i r) (h (sc i) r)

  pub awake-below : (c : ℕ) → c < N → ((d : ℕ) → d < c → M₂ d ≡ M d)
      → awake enc sc state cfg M₂ c ≡ awake enc sc state cfg M c
  unfolding awake
  awake-below c l h = awake_in-below (suc c) c l h

module _ (E : ℕ → Chart) (state : ℕ → ℕ) (cfg : ℕ → ℕ) (N : ℕ) (enc : ℕ → Option ℕ) (sc : ℕ → ℕ) (t : Tree) (inp : Set)
    (may : ℕ → Set) (keep : ℕ → ℕ → Bool) where
  -- chart c's move keeps activity and state
  unfoldable pub opens : (ℕ → ℕ) → ℕ → Bool
  opens ch c = open? (E c).stays (awake enc sc state cfg (moves E ch) c) (cfg c) (moves E ch c)

  -- chart k is settled now, n are left
  unfoldable pub fine : (ℕ → ℕ) → ℕ → ℕ → Bool
  fine ch n k = opens ch k && every (suc k) (passes E state cfg N enc sc t inp may ch n (suc k))

  unfoldable pub hunt : ℕ → ℕ → (ℕ → ℕ) → List Outcome
  hunt zero k ch = outcome_of E cfg t N ch ∷ []
  hunt (suc n) k ch =
      upto (last_place (E k)) (λ v. cond (keep k v && fine (upd ch k v) n k) (hunt n (suc k) (upd ch k v)) [])

  module _ (s : Stands N enc sc t) (m : Bounds E state cfg N t inp may) (si : Small inp)
      (sa : (ch : ℕ → ℕ) (e : ℕ) → Small (action_of (moves E ch e)))
      (kept : (ch : ℕ → ℕ) → permitted E state cfg (moves E ch) t inp ≡ true → (c : ℕ) → c < N
      → keep c (ch c) ≡ true) where
    opens-below : (ch ch₂ : ℕ → ℕ) (c : ℕ) → c < N → Below (suc c) ch ch₂ → opens ch₂ c ≡ opens ch c
    unfolding opens moves
    opens-below ch ch₂ c l b = ap₂ (λ a v. open? (E c).stays a (cfg c) (pick (E c) v)) (awake-below enc sc state cfg N
        s.lower (moves E ch) (moves E ch₂) c l (λ d q. ap (pick (E d)) (b d (omega arith)))) (b c (omega arith))

    -- a move against activity or state leads nowhere
    skip_open : (n k : ℕ) (ch : ℕ → ℕ) → k < N → opens ch k ≡ false → search E state cfg t inp N n (suc k) ch ≡ []
    unfolding opens
    skip_open n k ch l h = search_empty E state cfg t inp N n (suc k) ch (λ ch₂ b. not-true (λ p. false≢true
        (sym h ∙ sym (opens-below ch ch₂ k l b) ∙ permitted_open E state cfg N enc sc t inp s si sa ch₂ p k l)))

    skip_keep : (n k v : ℕ) (ch : ℕ → ℕ) → k < N → keep k v ≡ false
        → search E state cfg t inp N n (suc k) (upd ch k v) ≡ []
    skip_keep n k v ch l h = search_empty E state cfg t inp N n (suc k) (upd ch k v) (λ ch₂ b.
        not-true (λ p. false≢true (sym h ∙ ap (keep k) (sym (b k (omega arith) ∙ upd-at ch k v)) ∙ kept ch₂ p k l)))

    -- all settled charts are open and pass
    abbrev Good : (ℕ → ℕ) → ℕ → ℕ → Type 0
    Good ch n k = (c : ℕ) → c < k → (opens ch c ≡ true) × (passes E state cfg N enc sc t inp may ch n k c ≡ true)

    good_all : (ch : ℕ → ℕ) → Good ch zero N → permitted E state cfg (moves E ch) t inp ≡ true
    unfolding opens
    good_all ch g = permitted_wired E state cfg N enc sc t inp (moves E ch) s si (sa ch) (own-moves E ch)
        ∙ every_intro N (ruled E state cfg N enc sc t inp (moves E ch)) (λ c l.
        passes-last E state cfg N enc sc t inp may s m si sa ch c (λ e r. (g e r).0) ∙ and_i (g c l).0 (g c l).1)

    pub hunted : (n k : ℕ) (ch : ℕ → ℕ) → n + k ≡ N → Good ch n k → hunt n k ch ≡ search E state cfg t inp N n k ch
    unfolding hunt search outcome fine
    hunted zero k ch e g = let q : k ≡ N = omega arith in rw (good_all ch (subst (λ z. Good ch zero z) q g))
    hunted (suc n) k ch e g = upto_cong (last_place (E k)) _ _ (λ v l. first v (keep k v) refl (go v
        (opens (upd ch k v) k) refl (every (suc k) (passes E state cfg N enc sc t inp may (upd ch k v) n (suc k))) refl
        (λ g'. hunted n (suc k) (upd ch k v) (omega arith) g')))
      where
        first : (v : ℕ) (x : Bool) → keep k v ≡ x → cond (fine (upd ch k v) n k) (hunt n (suc k) (upd ch k v)) []
            ≡ search E state cfg t inp N n (suc k) (upd ch k v)
            → cond (x && fine (upd ch k v) n k) (hunt n (suc k) (upd ch k v)) []
            ≡ search E state cfg t inp N n (suc k) (upd ch k v)
        first v true p r = r
        first v false p r = sym (skip_keep n k v ch (omega arith) p)

        go : (v : ℕ) (a : Bool) → opens (upd ch k v) k ≡ a → (b : Bool)
            → every (suc k) (passes E state cfg N enc sc t inp may (upd ch k v) n (suc k)) ≡ b
            → (Good (upd ch k v) n (suc k)
            → hunt n (suc k) (upd ch k v) ≡ search E state cfg t inp N n (suc k) (upd ch k v))
            → cond (fine (upd ch k v) n k) (hunt n (suc k) (upd ch k v)) []
            ≡ search E state cfg t inp N n (suc k) (upd ch k v)
        go v true p true q ih = ap₂ (λ x y. cond (x && y) (hunt n (suc k) (upd ch k v)) []) p q
            ∙ ih (λ c l. (
              mine c l (same c k) refl,
              every_elim (suc k) (passes E state cfg N enc sc t inp may (upd ch k v) n (suc k)) q c l,
            ))
          where
            mine : (c : ℕ) → c < suc k → (x : Bool) → same c k ≡ x → opens (upd ch k v) c ≡ true
            mine c l true z = rw (same→≡ c k z) p
            mine c l false z = let d : c ≢ k = λ w. false≢true (sym z ∙ rw w (same_refl k)) in
                opens-below ch (upd ch k v) c (omega arith) (λ i j. upd_off ch k v i (omega arith))
                ∙ (g c (omega arith)).0
        go v true p false q ih = ap₂ (λ x y. cond (x && y) (hunt n (suc k) (upd ch k v)) []) p q
            ∙ (let u = every-fails (suc k) (passes E state cfg N enc sc t inp may (upd ch k v) n (suc k)) q in
            sym (skip_dropped E state cfg N enc sc t inp may s m si sa (upd ch k v) n (suc k) u.0 (omega arith)
            u.1 u.2))
        go v false p b q ih =
            ap (λ x. cond (x && every (suc k) (passes E state cfg N enc sc t inp may (upd ch k v) n (suc k)))
            (hunt n (suc k) (upd ch k v)) []) p
            ∙ sym (skip_open n k (upd ch k v) (omega arith) p)

    -- a chart with no candidate that is kept: there is nothing to search
    pub nothing_kept : (c : ℕ) → c < N → ((v : ℕ) → keep c v ≡ false)
        → search E state cfg t inp N N zero (λ c. zero) ≡ []
    nothing_kept c l h = search_empty E state cfg t inp N N zero (λ c. zero)
        (λ ch₂ b. not-true (λ p. false≢true (sym (h (ch₂ c)) ∙ kept ch₂ p c l)))

    -- the whole search
    pub hunted_all : hunt N zero (λ c. zero) ≡ search E state cfg t inp N N zero (λ c. zero)
    hunted_all = hunted N zero (λ c. zero) (omega arith) (λ c l. absurd (omega arith))

-- ── what a chart may put out: the actions of all transitions from its state ──
unfoldable pub may_of : List Transition → ℕ → Set
may_of [] q = ∅
may_of (t ∷ ts) q = may_of ts q ∪ cond (same t.from q) t.action ∅

may-nth : (b : Bool) (m : Move) (ts : List Transition) (q k : ℕ) (a : Bool) → action_of m ≡ ∅
    → open? b a q (nth m ts k) ≡ true
    → Within (action_of (nth m ts k)) (may_of ts q)
unfolding may_of nth action_of open?
may-nth b m [] q k a e h = sets (action_of m ∷ []) (A ≐ ∅ₑ ∷ []) (A ⊑ ∅ₑ) tt e
may-nth b m (t ∷ ts) q zero true e h = sets (t.action ∷ may_of ts q ∷ cond (same t.from q) t.action ∅ ∷ [])
    (C ≐ A ∷ []) (A ⊑ B ∪ₑ C) tt (ap (λ b. cond b t.action ∅) h)
may-nth b m (t ∷ ts) q zero false e h = absurd (false≢true h)
may-nth b m (t ∷ ts) q (suc k) a e h = sets (action_of (nth m ts k) ∷ may_of ts q ∷ cond (same t.from q) t.action ∅
    ∷ []) (A ⊑ B ∷ []) (A ⊑ B ∪ₑ C) tt (may-nth b m ts q k a e h)

-- what comes behind the transitions puts out nothing
pub behind_empty : (b : Bool) → action_of (cond b stay no_move) ≡ ∅
unfolding action_of
behind_empty true = refl
behind_empty false = refl

pub may_of_lem : (E : ℕ → Chart) (cfg : ℕ → ℕ) → May E cfg (λ c. may_of (E c).transitions (cfg c))
unfolding pick action_of
may_of_lem E cfg c zero a h = sets (may_of (E c).transitions (cfg c) ∷ []) [] (∅ₑ ⊑ A) tt
may_of_lem E cfg c (suc k) a h =
    may-nth (E c).stays (behind (E c)) (E c).transitions (cfg c) k a (behind_empty (E c).stays) h
