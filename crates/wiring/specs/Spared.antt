-- The search may leave out the places that begin no open choice. In this order: an open choice has none of them, so a
-- permitted one has none (`opened-spared`, `permitted-spared`), and a search that leaves them out finds the same
-- outcomes (`hunted_spared`); where there are open choices at all, each beginning that it tries goes on to one
-- (`tried_open`), so that it tries no more beginnings than charts times open choices (`tried-all`, `hunt_tries`).
use Rattle.std.specs.Prelude.{◌≡◌, Bool, ◌&&◌}
use Rattle.std.proofs.Math.Path.{refl, sym, subst}
use Rattle.std.proofs.Common.{◌∙◌, ap, ⊎_elim, suc-mul}
use Rattle.std.proofs.Math.Bool.{true, false, cond}
use Rattle.std.proofs.Math.Option.{Option}
use Prim.Native.Nat.{ℕ, zero, suc, ◌+◌, ◌*◌, ◌≤◌, ◌<◌}
use Rattle.std.proofs.Math.Nat.{one-mul}
use native.Mathlib.Omega.{arith}
use Rattle.meaning.specs.Sums.{tally, one}
use Rattle.meaning.specs.Sums.Laws.{below_suc, tally_scale, tally-le}
use Rattle.meaning.specs.Meaning.{Set, Chart, Tree, pick, action_of, permitted, upd, moves, search}
use Rattle.meaning.specs.Open.{open_choices}
use Rattle.meaning.specs.Laws.Bools.{every_elim, every_intro, and_l, and_r, and_i}
use Rattle.meaning.proofs.Laws.Choices.{upd_off, Below}
use Rattle.meaning.proofs.Laws.Open.{permitted_open, how_many-find}
use Rattle.wiring.specs.Reach.{Small}
use Rattle.wiring.specs.Permitted.{Stands}
use Rattle.wiring.specs.Dropped.{Bounds}
use Rattle.wiring.specs.Pruning.{opens, fine, hunt, hunted_all}
use Rattle.wiring.specs.Completions.{Counts, spared, local, completions, open_spared, completes}
use Rattle.wiring.specs.Total.{open?_is, rule_in, last_of, rule_of, hits_of, act_of, open_at, keeps_in, goes_on, ac, ru}
use Rattle.wiring.specs.Total.{open_every, keeps_below, open_completions, open_all, open_total}

module _ (E : ℕ → Chart) (state : ℕ → ℕ) (cfg : ℕ → ℕ) (N : ℕ) (enc : ℕ → Option ℕ) (sc : ℕ → ℕ) (t : Tree)
    (s : Stands N enc sc t) (count : ℕ → ℕ)
    (cs : Counts N enc sc (hits_of E cfg state sc) count (last_of E) (rule_of E cfg)) where
  -- place v of chart c begins an open choice, or is that of an inactive chart
  abbrev pub spared_of : ℕ → ℕ → Bool
  spared_of = spared N enc sc (hits_of E cfg state sc) count (rule_of E cfg)

  abbrev is_open_at : (ℕ → ℕ) → Bool
  is_open_at = open_at E state cfg N enc sc t s

  abbrev keeps : (ℕ → ℕ) → ℕ → Bool
  keeps = keeps_in E state cfg N enc sc t s

  abbrev left : ℕ → ℕ → (ℕ → ℕ) → ℕ
  left = goes_on E state cfg N enc sc t s

  -- ── nothing is lost ──

  pub opened-spared : (ch : ℕ → ℕ) → is_open_at ch ≡ true → (c : ℕ) → c < N → spared_of c (ch c) ≡ true
  opened-spared ch h c l =
      open_spared N (last_of E) enc sc (rule_of E cfg) (hits_of E cfg state sc) (act_of E cfg state enc sc)
      (ac E state cfg N enc sc t s) (ru E state cfg N enc sc t s) count cs ch
      (every_elim N (keeps ch) (sym (open_every E state cfg N enc sc t s ch) ∙ h)) c l

  -- as `hunt` asks of the places that it keeps
  pub permitted-spared : (inp : Set) (ch : ℕ → ℕ) → permitted E state cfg (moves E ch) t inp ≡ true
      → (c : ℕ) → c < N → spared_of c (ch c) ≡ true
  permitted-spared inp ch p = opened-spared ch (permitted_open E state cfg (moves E ch) t inp p)

  module _ (inp : Set) (may : ℕ → Set) (keep : ℕ → ℕ → Bool) (m : Bounds E state cfg N t inp may) (si : Small inp)
      (sa : (ch : ℕ → ℕ) (e : ℕ) → Small (action_of (moves E ch e)))
      (kept : (ch : ℕ → ℕ) → permitted E state cfg (moves E ch) t inp ≡ true
      → (c : ℕ) → c < N → keep c (ch c) ≡ true) where
    pub hunted_spared :
        hunt E state cfg N enc sc t inp may (λ c v. keep c v && spared_of c v) N zero (λ c. zero)
        ≡ search E state cfg t inp N N zero (λ c. zero)
    hunted_spared =
        hunted_all E state cfg N enc sc t inp may (λ c v. keep c v && spared_of c v) s m si sa
        (λ ch p c l. and_i (kept ch p c l) (permitted-spared inp ch p c l))

  -- ── what is tried goes on ──

  -- the first k charts keep activity and state, and have no place that is left out
  abbrev pub Clear : (ℕ → ℕ) → ℕ → Type 0
  Clear ch k = (c : ℕ) → c < k → (keeps ch c ≡ true) × (spared_of c (ch c) ≡ true)

  left_some : (n k : ℕ) (ch : ℕ → ℕ) → n + k ≡ N → 0 < open_choices E state cfg t N → Clear ch k → 0 < left n k ch
  left_some n k ch e pos g =
      completes N (last_of E) enc sc (rule_of E cfg) (hits_of E cfg state sc) (act_of E cfg state enc sc)
      (ac E state cfg N enc sc t s) (ru E state cfg N enc sc t s) count cs n k ch e
      (rw (open_total E state cfg N enc sc t s count cs) at pos) g

  -- some open choice goes on from there
  pub tried_open : (n k : ℕ) (ch : ℕ → ℕ) → n + k ≡ N → 0 < open_choices E state cfg t N → Clear ch k
      → (ch₂ : ℕ → ℕ) × Below k ch ch₂ × (is_open_at ch₂ ≡ true)
  tried_open n k ch e pos g =
      how_many-find E is_open_at n k ch (rw (
        open_completions E state cfg N enc sc t s n k ch e,
        every_intro k (keeps ch) (λ c l. (g c l).0),
        one-mul,
      ) (left_some n k ch e pos g))

  -- ── how many beginnings are tried ──

  -- by a search that goes into beginnings with `into`, n charts left, k the one settled last
  module _ (into : (ℕ → ℕ) → ℕ → ℕ → Bool) where
    unfoldable pub tried : ℕ → ℕ → (ℕ → ℕ) → ℕ
    tried zero k ch = 0
    tried (suc n) k ch =
        tally (suc (last_of E k)) (λ v. cond (into (upd ch k v) n k) (1 + tried n (suc k) (upd ch k v)) 0)

    module _ (only : (ch : ℕ → ℕ) (n k : ℕ) → k < N → into ch n k ≡ true
        → (keeps ch k ≡ true) × (spared_of k (ch k) ≡ true))
        (pos : 0 < open_choices E state cfg t N) where
      clear-more : (ch : ℕ → ℕ) (k v : ℕ) → k < N → Clear ch k
          → (keeps (upd ch k v) k ≡ true) × (spared_of k (upd ch k v k) ≡ true) → Clear (upd ch k v) (suc k)
      clear-more ch k v l g h c m =
          ⊎_elim (λ (e : c ≡ k). rw e h)
          (λ (q : c < k). (
            keeps_below E state cfg N enc sc t s ch k v c q l ∙ (g c q).0,
            ap (spared_of c) (upd_off ch k v c q) ∙ (g c q).1,
          )) (below_suc c k m)

      -- no more than open completions, for each chart left
      pub tried_most : (n k : ℕ) (ch : ℕ → ℕ) → n + k ≡ N → Clear ch k → tried n k ch ≤ n * left n k ch
      unfolding tried completions
      tried_most zero k ch e g = omega arith
      tried_most (suc n) k ch e g =
          subst
          (λ z. tally (suc (last_of E k)) (λ v. cond (into (upd ch k v) n k) (1 + tried n (suc k) (upd ch k v)) 0) ≤ z)
          (tally_scale (suc (last_of E k)) (suc n) (λ v. one (keeps (upd ch k v) k) * left n (suc k) (upd ch k v)))
          (tally-le (suc (last_of E k)) _ _
          (λ v l. go v (into (upd ch k v) n k) refl (λ f. tried_most n (suc k) (upd ch k v) (omega arith) f)))
        where
          go : (v : ℕ) (b : Bool) → into (upd ch k v) n k ≡ b
              → (Clear (upd ch k v) (suc k) → tried n (suc k) (upd ch k v) ≤ n * left n (suc k) (upd ch k v))
              → cond b (1 + tried n (suc k) (upd ch k v)) 0
              ≤ suc n * (one (keeps (upd ch k v) k) * left n (suc k) (upd ch k v))
          go v false q ih = omega arith
          go v true q ih =
              let h = only (upd ch k v) n k (omega arith) q in
              let f = clear-more ch k v (omega arith) g h in
              let some_left = left_some n (suc k) (upd ch k v) (omega arith) pos f in
              let few = ih f in
              rw (h.0, one-mul, suc-mul) (omega arith)

      pub tried-all : tried N zero (λ c. zero) ≤ N * open_choices E state cfg t N
      tried-all =
          rw (open_all E state cfg N enc sc t s)
          (tried_most N zero (λ c. zero) (omega arith) (λ c l. absurd (omega arith)))

  -- `hunt` that leaves them out is such a search
  module _ (inp : Set) (may : ℕ → Set) (keep : ℕ → ℕ → Bool) where
    abbrev keep_spared : ℕ → ℕ → Bool
    keep_spared c v = keep c v && spared_of c v

    abbrev pub hunts_into : (ℕ → ℕ) → ℕ → ℕ → Bool
    hunts_into ch n k = keep_spared k (ch k) && fine E state cfg N enc sc t inp may keep_spared ch n k

    pub hunt_only : (ch : ℕ → ℕ) (n k : ℕ) → k < N → hunts_into ch n k ≡ true
        → (keeps ch k ≡ true) × (spared_of k (ch k) ≡ true)
    unfolding fine opens local rule_in moves
    hunt_only ch n k l h = (
      sym (open?_is (E k) (act_of E cfg state enc sc ch k) (cfg k) (pick (E k) (ch k)))
          ∙ and_l _ _ (and_r (keep_spared k (ch k)) _ h),
      and_r (keep k (ch k)) _ (and_l (keep_spared k (ch k)) _ h),
    )

    -- no more beginnings than charts times open choices
    pub hunt_tries : 0 < open_choices E state cfg t N
        → tried hunts_into N zero (λ c. zero) ≤ N * open_choices E state cfg t N
    hunt_tries pos = tried-all hunts_into hunt_only pos
