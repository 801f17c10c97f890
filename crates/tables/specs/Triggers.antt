-- The triggers of a chart that may stay, as they get into a list: all transitions from its present state, in order
-- (Noted). Where the list stands elsewhere it is noted there too (`noted_kept`); one of it holds exactly if the chart
-- is triggered (`noted_trips`), so the chart is calm by it exactly if nothing triggers it (`noted_calm`). What a search
-- is told of a chart (Told, `told_kept`), also with less in its actions (`told_narrowed`), and that this is what it
-- asks for (`stayers`).
use Rattle.std.specs.Prelude.{◌≡◌, Bool, true, false, ◌&&◌, cond, List, [], ◌∷◌, ◌≢◌, ℕ, zero, suc, ◌+◌, ◌-◌, ◌≤◌, ◌<◌}
use Rattle.std.specs.Prelude.{length}
use Rattle.std.proofs.Math.Path.{refl, sym, ap, ap₂}
use Rattle.std.proofs.Common.{◌∙◌, subst, true≢false}
use Rattle.std.proofs.Math.Bool.{◌||◌, not, or-false}
use native.Mathlib.Omega.{arith}
use Rattle.std.proofs.Math.ListN.{get_or}
use Rattle.layout.specs.declared.record.Transition.{Transition}
use Rattle.meaning.specs.Numbers.{most_from_state}
use Rattle.meaning.specs.Sums.{any_up_to}
use Rattle.meaning.specs.Meaning.{Set, same, Chart, Move, no_move, takes, stay, nth, last_place, met?, untriggered}
use Rattle.signals.specs.Guard.{guard, is_met}
use Rattle.meaning.specs.Laws.Bools.{same_refl, same_≢}
use Rattle.cells.specs.Triggers.{trigger_needed, trigger_barred}
use Rattle.settling.specs.Calm.{trips, stays_at, calm}
use Rattle.tables.specs.Contents.{Stayers}
use Rattle.tables.specs.Narrowing.{narrow, narrow_all}
use Rattle.tables.specs.Narrowing.Laws.{narrow_move, length-narrowed, nth-narrowed}

-- of the first p of chart c's transitions ts those from state q are triggers: n of them
module _ (g : List ℕ) (c : ℕ) (ts : List Transition) (q : ℕ) where
  pub data Noted : ℕ → ℕ → Type 0 where
    begun : Noted zero zero
    passed : {p n : ℕ} → Noted p n → (t : Transition) → nth no_move ts p ≡ takes t → t.from ≢ q → Noted (suc p) n
    noted : {p n : ℕ} → Noted p n → (t : Transition) → nth no_move ts p ≡ takes t → t.from ≡ q
        → trigger_needed g c n ≡ t.needed → trigger_barred g c n ≡ t.barred
        → Noted (suc p) (suc n)

-- other guards with the same triggers of chart c
abbrev pub SameTriggers : List ℕ → List ℕ → ℕ → ℕ → Type 0
SameTriggers g g' c n =
    (v : ℕ) → v < n → (trigger_needed g' c v ≡ trigger_needed g c v) × (trigger_barred g' c v ≡ trigger_barred g c v)

pub noted_kept : (g g' : List ℕ) (c : ℕ) (ts : List Transition) (q : ℕ) {p n : ℕ} → SameTriggers g g' c n
    → Noted g c ts q p n → Noted g' c ts q p n
noted_kept g g' c ts q h begun = begun
noted_kept g g' c ts q h (passed r t e f) = passed (noted_kept g g' c ts q h r) t e f
noted_kept g g' c ts q h (noted {p = p} {n = n} r t e f a b) =
    noted (noted_kept g g' c ts q (λ v l. h v (omega arith)) r) t e f ((h n (omega arith)).0 ∙ a)
    ((h n (omega arith)).1 ∙ b)

-- a move is a transition from q whose guard is met
fires : ℕ → Set → Set → Move → Bool
fires q lo hi no_move = false
fires q lo hi (takes t) = same t.from q && met? t lo hi
fires q lo hi stay = false

any-front : (n : ℕ) (f : ℕ → Bool) → any_up_to (suc n) f ≡ (f zero || any_up_to n (λ u. f (suc u)))
unfolding any_up_to
any-front zero f = sym (or-false (f zero))
any-front (suc n) f = ap (λ b. b || f (suc n)) (any-front n f)
    ∙ turn (f zero) (any_up_to n (λ u. f (suc u))) (f (suc n))
  where
    turn : (a b c : Bool) → ((a || b) || c) ≡ (a || (b || c))
    turn true b c = refl
    turn false b c = refl

-- nothing triggers the chart: none of its list fires
quiet_list : (ts : List Transition) (q : ℕ) (lo hi : Set)
    → untriggered ts q lo hi ≡ not (any_up_to (length ts) (λ u. fires q lo hi (nth no_move ts u)))
unfolding untriggered nth fires
quiet_list [] q lo hi = unfold any_up_to in refl
quiet_list (t ∷ ts) q lo hi = ap (λ b. not (same t.from q && met? t lo hi) && b) (quiet_list ts q lo hi)
    ∙ apart-not (same t.from q && met? t lo hi) (any_up_to (length ts) (λ u. fires q lo hi (nth no_move ts u)))
    ∙ ap not (sym (any-front (length ts) (λ u. fires q lo hi (nth no_move (t ∷ ts) u))))
  where
    apart-not : (a b : Bool) → (not a && not b) ≡ not (a || b)
    apart-not true b = refl
    apart-not false b = refl

module _ (g : List ℕ) (c : ℕ) (ts : List Transition) (q : ℕ) (lo hi : Set) where
  abbrev holds : ℕ → Bool
  holds v = is_met (guard (trigger_needed g c v) (trigger_barred g c v) lo hi)

  noted_fires : {p n : ℕ} → Noted g c ts q p n → any_up_to n holds ≡ any_up_to p (λ u. fires q lo hi (nth no_move ts u))
  unfolding any_up_to fires met?
  noted_fires begun = refl
  noted_fires (passed {p = p} {n = n} r t e f) =
      sym (or-false (any_up_to n holds)) ∙ ap₂ ◌||◌ (noted_fires r)
      (sym (ap (fires q lo hi) e ∙ ap (λ b. b && is_met (guard t.needed t.barred lo hi)) (same_≢ t.from q f)))
  noted_fires (noted {p = p} {n = n} r t e f a b) =
      ap₂ ◌||◌ (noted_fires r) (ap₂ (λ x z. is_met (guard x z lo hi)) a b
      ∙ sym (ap (fires q lo hi) e
      ∙ ap (λ b. b && is_met (guard t.needed t.barred lo hi)) (ap (λ k. same k q) f ∙ same_refl q)))

  pub noted_trips : (n : ℕ) → Noted g c ts q (length ts) n → untriggered ts q lo hi ≡ not (trips g c n lo hi)
  unfolding trips
  noted_trips n r = quiet_list ts q lo hi ∙ ap not (sym (noted_fires r))

  noted_calm : (y : List ℕ) (n : ℕ) → Noted g c ts q (length ts) n → get_or y c 0 ≡ suc n
      → calm g y c lo hi ≡ untriggered ts q lo hi
  unfolding calm
  noted_calm y n r e =
      ap (λ k. not (trips g c k lo hi)) (let z : get_or y c 0 - 1 ≡ n = omega arith in z) ∙ sym (noted_trips n r)

-- ── what a search is told of chart c: 0, it cannot stay; else it may, and the number is that of its triggers and 1 ──

module _ (g : List ℕ) (c : ℕ) (ts : List Transition) (q : ℕ) (may : Bool) where
  pub data Told (k : ℕ) : Type 0 where
    shut : may ≡ false → k ≡ 0 → Told k
    listed : may ≡ true → (n : ℕ) → k ≡ suc n → Noted g c ts q (length ts) n → Told k

pub told_kept : (g g' : List ℕ) (c : ℕ) (ts : List Transition) (q : ℕ) (may : Bool) (k : ℕ) → k ≤ most_from_state + 1
    → SameTriggers g g' c most_from_state → Told g c ts q may k → Told g' c ts q may k
told_kept g g' c ts q may k few h (shut e z) = shut e z
told_kept g g' c ts q may k few h (listed e n z r) = listed e n z (noted_kept g g' c ts q (λ v l. h v (omega arith)) r)

-- guards are the same where actions are narrowed
module _ (g : List ℕ) (c : ℕ) (r : Set) (ts : List Transition) (q : ℕ) where
  at-narrowed : (p : ℕ) (t : Transition) → nth no_move ts p ≡ takes t
      → nth no_move (narrow_all r ts) p ≡ takes (narrow r t)
  unfolding narrow_move
  at-narrowed p t e = nth-narrowed r no_move ts p ∙ ap (narrow_move r) e

  noted_narrowed : {p n : ℕ} → Noted g c ts q p n → Noted g c (narrow_all r ts) q p n
  noted_narrowed begun = begun
  noted_narrowed (passed {p = p} h t e f) = passed (noted_narrowed h) (narrow r t) (at-narrowed p t e) f
  noted_narrowed (noted {p = p} h t e f a b) = noted (noted_narrowed h) (narrow r t) (at-narrowed p t e) f a b

  pub told_narrowed : (may : Bool) (k : ℕ) → Told g c ts q may k → Told g c (narrow_all r ts) q may k
  told_narrowed may k (shut e z) = shut e z
  told_narrowed may k (listed e n z h) =
      listed e n z (subst (λ j. Noted g c (narrow_all r ts) q j n) (sym (length-narrowed r ts)) (noted_narrowed h))

-- ── a table of such lists ──

module _ (E : ℕ → Chart) (cfg : ℕ → ℕ) (N : ℕ) (keep : ℕ → ℕ → Bool) (g y : List ℕ) where
  abbrev told : ℕ → Type 0
  told c = Told g c (E c).transitions (cfg c) ((E c).stays && keep c (last_place (E c))) (get_or y c 0)

  pub stayers : ((c : ℕ) → c < N → told c) → Stayers E cfg N keep g y
  unfolding stays_at
  stayers h = record { open_at = λ c l. at c (h c l); calm-at = λ c l o lo hi. quiet c (h c l) o lo hi }
    where
      at : (c : ℕ) → told c → not (same (get_or y c 0) 0) ≡ ((E c).stays && keep c (last_place (E c)))
      at c (shut e z) = ap not (ap (λ k. same k 0) z ∙ same_refl 0) ∙ sym e
      at c (listed e n z r) = ap not (ap (λ k. same k 0) z ∙ same_≢ (suc n) 0 (λ x. omega arith)) ∙ sym e

      quiet : (c : ℕ) → told c → not (same (get_or y c 0) 0) ≡ true → (lo hi : Set)
          → calm g y c lo hi ≡ untriggered (E c).transitions (cfg c) lo hi
      quiet c (shut e z) o lo hi = absurd (true≢false (sym o ∙ ap not (ap (λ k. same k 0) z ∙ same_refl 0)))
      quiet c (listed e n z r) o lo hi = noted_calm g c (E c).transitions (cfg c) lo hi y n r z
