-- Laws of charts that stay: the test of one where a beginning stands (`calm-by`), of all where none may stay
-- (`calm-all`); that a search finds the same from beginnings that match (`hunts_match`); and a test of all charts, one
-- by one (`every-next`, `every_off`).
use Rattle.std.specs.Prelude.{◌≡◌, refl, Bool, true, false}
use Rattle.std.proofs.Math.Path.{sym, ap, ap₂, fun_ext}
use Rattle.std.proofs.Common.{◌∙◌, add-one, arith}
use Rattle.std.proofs.Math.Bool.{◌&&◌, not, cond, and-false}
use mathlib.Core.List.{List, [], ◌∷◌, ◌++◌}
use Prim.Native.Nat.{ℕ, zero, suc, ◌+◌, ◌-◌, ◌≤◌, ◌<◌}
use Rattle.std.proofs.Math.Decide.{dec_lt}
use Rattle.std.proofs.Math.ListN.{get_or, replicate}
use Rattle.signals.specs.Mask.{◌∪◌, ◌∩◌}
use Rattle.meaning.specs.Numbers.{most_charts, no_place, stay_place}
use Rattle.meaning.specs.Meaning.{same, Outcome}
use Rattle.meaning.specs.Sums.{any_up_to}
use Rattle.meaning.specs.Calls.Laws.{get_or-made}
use Rattle.meaning.specs.Rewriting.{in_turn}
use Rattle.wiring.specs.Pruning.{every_cong}
use Rattle.meaning.specs.Laws.Bools.{every, every_intro, and_i, same_refl, same_≢}
use Rattle.cells.specs.Table.{action_at, back_at, ahead_at, count_at}
use Rattle.cells.specs.Trail.{low_in, place_in}
use Rattle.settling.specs.Trail.{Trail, bare, Matches, trail_in}
use Rattle.settling.specs.Hunt.{may, wakes, taken, idled, rested, passes_at, fine_at}
use Rattle.cells.specs.Triggers.{Guards, told_at, some_stay}
use Rattle.settling.specs.Calm.{trips, stays_at, calm, stayed, calm_at, calm_all, quiet_at, hunts_both, hunts_calm}

module _ (m s g y w b : List ℕ) (k d o : ℕ) (few : k ≤ most_charts) (l : d < k) where
  calm-by : calm_at m s g y (trail_in w b k o) k d
      ≡ cond (same (place_in b d) stay_place) (calm g y d (low_in w k d) (low_in w k d ∪ ahead_at m k d)) true
  unfolding calm_at trail_in
  calm-by = ap₂ (λ (p x : ℕ). cond (same p stay_place) (calm g y d x (x ∪ ahead_at m k d)) true)
      (get_or-made k (place_in b) d l) (get_or-made most_charts (low_in w k) d (omega arith))

  -- it does not stay
  pub calm-moves : (place_in b d ≡ stay_place → ⊥) → true ≡ calm_at m s g y (trail_in w b k o) k d
  calm-moves e = rw (calm-by, same_≢ (place_in b d) stay_place e)

  -- it has no triggers
  pub calm-none : place_in b d ≡ stay_place → get_or y d 0 ≡ 0 → true ≡ calm_at m s g y (trail_in w b k o) k d
  unfolding calm trips any_up_to
  calm-none e z = sym (calm-by ∙ rw (e, same_refl stay_place, z))

  pub calm_stays : place_in b d ≡ stay_place → (r : Bool)
      → r ≡ trips g d (get_or y d 0 - 1) (low_in w k d) (low_in w k d ∪ ahead_at m k d)
      → not r ≡ calm_at m s g y (trail_in w b k o) k d
  unfolding calm
  calm_stays e r h = ap not h ∙ sym (calm-by ∙ rw (e, same_refl stay_place))

-- where no chart may stay, all are calm
pub calm-all : (m s g y : List ℕ) → Guards g y → some_stay y ≡ 0 → (t : Trail) (k : ℕ) → k ≤ most_charts
    → every k (calm_at m s g y t k) ≡ true
unfolding calm_at calm trips any_up_to
calm-all m s g y r e t k few =
    every_intro k (λ d. calm_at m s g y t k d) (λ d l. either d l (same (get_or t.places d 0) stay_place))
  where
    either : (d : ℕ) → d < k → (x : Bool)
        → cond x (calm g y d (get_or t.low d 0) (get_or t.low d 0 ∪ ahead_at m k d)) true ≡ true
    either d l true = rw (r.none-may e d (omega arith))
    either d l false = refl

-- a chart that stays asks no more of the others than one that is inactive
pub fine-same : (m s : List ℕ) (t : Trail) (k : ℕ) → fine_at m s (stayed m s t k) k ≡ fine_at m s (rested m s t k) k
unfolding fine_at passes_at idled
fine-same m s t k = refl

-- ── beginnings that match ──

-- a beginning that is gone on from, if it passes its tests
abbrev tested : List ℕ → List ℕ → List ℕ → List ℕ → ℕ → ℕ → Trail → List Outcome
tested m s g y n k u = cond (fine_at m s u k && quiet_at m s g y u k) (hunts_both m s g y n (suc k) u) []

-- what a search over N charts makes of two that match is the same
module _ (m s : List ℕ) {N : ℕ} where
  wakes_match : {t t' : Trail} → Matches N t t' → (k : ℕ) → wakes m s t k ≡ wakes m s t' k
  unfolding wakes
  wakes_match h k = ap (λ (u : Trail). wakes m s u k) h.rest

  pub fine_match : {t t' : Trail} → Matches N t t' → (k : ℕ) → k < N → fine_at m s t k ≡ fine_at m s t' k
  unfolding fine_at passes_at
  fine_match {t} {t'} h k l =
      every_cong (suc k) (passes_at m s t (suc k)) (passes_at m s t' (suc k))
      (λ d p. ap₂
      (λ (u : Trail) (x : ℕ). may (get_or u.needed d 0) (get_or u.barred d 0) x (ahead_at m (suc k) d))
      h.rest (h.low d (omega arith)))

  taken_match : {t t' : Trail} → N ≤ most_charts → Matches N t t' → (k v : ℕ)
      → Matches N (taken m s t k v) (taken m s t' k v)
  unfolding taken
  taken_match {t} {t'} few h k v =
      record {
        low = λ c l. get_or-made most_charts (offered t) c (omega arith)
            ∙ ap (λ (x : ℕ). x ∪ action_at m k v ∩ back_at m c k) (h.low c l)
            ∙ sym (get_or-made most_charts (offered t') c (omega arith));
        rest = ap (λ (u : Trail). bare (taken m s u k v)) h.rest;
      }
    where
      offered : Trail → ℕ → ℕ
      offered u c = get_or u.low c 0 ∪ action_at m k v ∩ back_at m c k

  idled_match : {t t' : Trail} → Matches N t t' → (a p k : ℕ) → Matches N (idled m s a p t k) (idled m s a p t' k)
  unfolding idled
  idled_match h a p k = record { low = h.low; rest = ap (λ (u : Trail). bare (idled m s a p u k)) h.rest }

  module _ (g y : List ℕ) where
    calm_match : {t t' : Trail} → Matches N t t' → (k : ℕ) → k ≤ N → calm_all m s g y t k ≡ calm_all m s g y t' k
    unfolding calm_at
    calm_match {t} {t'} h k l =
        every_cong k (calm_at m s g y t k) (calm_at m s g y t' k)
        (λ d p. ap₂
        (λ (u : Trail) (x : ℕ). cond (same (get_or u.places d 0) stay_place) (calm g y d x (x ∪ ahead_at m k d)) true)
        h.rest (h.low d (omega arith)))

    tested_match : (n k : ℕ) {u u' : Trail} → Matches N u u' → k < N
        → hunts_both m s g y n (suc k) u ≡ hunts_both m s g y n (suc k) u'
        → tested m s g y n k u ≡ tested m s g y n k u'
    unfolding quiet_at
    tested_match n k e l r = ap₂ (λ (z : Bool) (os : List Outcome). cond z os [])
        (ap₂ ◌&&◌ (fine_match e k l) (calm_match e (suc k) (omega arith))) r

    both_match : (n k : ℕ) {t t' : Trail} → N ≤ most_charts → Matches N t t' → n + k ≤ N
        → hunts_both m s g y n k t ≡ hunts_both m s g y n k t'
    unfolding hunts_both
    both_match zero k few h l =
        ap (λ (u : Trail). record {
          output = u.output;
          next = u.next ++ replicate (most_charts - k) 0;
          places = u.places ++ replicate (most_charts - k) no_place;
        } ∷ []) h.rest
    both_match (suc n) k {t} {t'} few h l =
        let takes : (v : ℕ) → Matches N (taken m s t k v) (taken m s t' k v) = taken_match few h k in
        let stays = idled_match h 1 stay_place k in
        let rests = idled_match h 0 no_place k in
        ap (λ (z : Bool). cond z (in_turn (count_at s k) (λ v. tested m s g y n k (taken m s t k v))
        ++ cond (stays_at g y k) (tested m s g y n k (stayed m s t k)) []) (tested m s g y n k (rested m s t k)))
        (wakes_match h k)
        ∙ ap₂ (λ (xs ys : List Outcome). cond (wakes m s t' k) xs ys)
        (ap₂ ◌++◌ (ap (in_turn (count_at s k))
        (fun_ext (λ v. tested_match n k (takes v) (omega arith) (both_match n (suc k) few (takes v) (omega arith)))))
        (ap (λ (z : List Outcome). cond (stays_at g y k) z [])
        (tested_match n k stays (omega arith) (both_match n (suc k) few stays (omega arith)))))
        (tested_match n k rests (omega arith) (both_match n (suc k) few rests (omega arith)))

    pub hunts_match : (n k : ℕ) {t t' : Trail} → N ≤ most_charts → Matches N t t' → n + k ≤ N
        → hunts_calm m s g y n k t ≡ hunts_calm m s g y n k t'
    unfolding hunts_calm
    hunts_match n k few h l =
        ap₂ (λ (z : Bool) (os : List Outcome). cond z os []) (calm_match h k (omega arith)) (both_match n k few h l)

-- ── every ──

pub every-next : (n : ℕ) (f : ℕ → Bool) → every n f ≡ true → f n ≡ true → every (n + 1) f ≡ true
unfolding every
every-next n f p q = rw add-one (and_i q p)

pub every_off : (n : ℕ) (f : ℕ → Bool) (i : ℕ) → i < n → f i ≡ false → every n f ≡ false
unfolding every
every_off zero f i l e = absurd (omega arith)
every_off (suc n) f i l e = go (dec_lt i n) (λ m. every_off n f i m e)
  where
    go : Dec (i < n) → (i < n → every n f ≡ false) → (f n && every n f) ≡ false
    go (yes m) ih = ap (λ b. f n && b) (ih m) ∙ and-false (f n)
    go (no m) ih = let z : i ≡ n = omega arith in ap (λ b. b && every n f) (ap f (sym z) ∙ e)

pub every-none : (f : ℕ → Bool) → every 0 f ≡ true
unfolding every
every-none f = refl
