-- What the charts left to be settled give, step by step, as `search::hunt` counts.
use mathlib.Core.Path.{◌≡◌, refl, sym, ap, ap₂, subst₂, fun_ext, ◌∙◌}
use mathlib.Core.Bool.{Bool, true, false, ◌&&◌, not, cond, and-false}
use mathlib.Core.List.{List, [], ◌++◌}
use Prim.Native.Nat.{ℕ, zero, suc, ◌+◌, ◌-◌, ◌<◌, ◌≤◌}
use native.Mathlib.Numerals.{add-one, sub-one}
use native.Mathlib.Omega.{arith}
use borrow.Author.Tests.{not-true}
use lib.Dec.{eqb}
use Rattle.signals.specs.Mask.{◌∪◌, ◌∩◌, apart}
use Rattle.meaning.specs.Numbers.{most_charts}
use Rattle.meaning.specs.Meaning.{Outcome}
use Rattle.meaning.specs.Laws.Bools.{and_l, and_r, same_refl, same_≢}
use Rattle.settling.specs.declared.Found.{Found}
use Rattle.settling.specs.declared.Guard.{Guard}
use Rattle.cells.specs.Table.{action_at, up_at, count_at}
use Rattle.cells.specs.Triggers.{told_at}
use Rattle.settling.specs.Trail.{Trail, Matches, trail_in, Keeps}
use Rattle.settling.specs.Trail.Laws.{keeps_trans, keeps_fewer, trail_kept}
use Rattle.meaning.specs.Rewriting.{in_turn}
use Rattle.settling.specs.Hunt.{wakes, taken, rested, fine_at, outcome_in, settle_of, over, found_in, Takes}
use Rattle.settling.specs.Calm.{stays_at, stayed, calm_all, quiet_at, hunts_both, hunts_calm, Hunted}
use Rattle.settling.specs.Calm.Laws.{fine-same, fine_match, hunts_match}
use Rattle.settling.specs.Hunt.Laws.{Stopped, over-append, each_none}
use Rattle.settling.specs.Asks.{Passes, Covers, asks_of}
use Rattle.settling.specs.Asks.Laws.{field_own, asked-never, asked_some, passes-next}
use Rattle.settling.specs.Asks.Laws.{fine-taken, fine-rested}

-- ── one step of `hunts_calm`, as the code counts ──

-- what chart k's beginning u gives
abbrev pub below : List ℕ → List ℕ → List ℕ → List ℕ → ℕ → ℕ → Trail → List Outcome
below m s gs y left k u = cond (fine_at m s u k) (hunts_calm m s gs y (left - 1) (k + 1) u) []

-- what chart k's candidate v gives
abbrev pub block : List ℕ → List ℕ → List ℕ → List ℕ → ℕ → ℕ → Trail → ℕ → List Outcome
block m s gs y left k t v = below m s gs y left k (taken m s t k v)

-- what chart k's staying gives
abbrev pub last : List ℕ → List ℕ → List ℕ → List ℕ → ℕ → ℕ → Trail → List Outcome
last m s gs y left k t = cond (stays_at gs y k) (below m s gs y left k (stayed m s t k)) []

-- no chart is left
pub ends_at : (m s gs y w b : List ℕ) (charts left o k : ℕ) (f : Found) → k ≡ charts → left ≡ 0
    → calm_all m s gs y (trail_in w b k o) k ≡ true →
    over (hunts_calm m s gs y left k (trail_in w b k o)) f ≡ settle_of (outcome_in b charts o) f
unfolding hunts_calm
ends_at m s gs y w b charts left o k f p q h =
    ap₂ (λ (z : Bool) (l : ℕ). over (cond z (hunts_both m s gs y l k (trail_in w b k o)) []) f) h q
    ∙ (unfold hunts_both over trail_in in rw p)

pub ends : (m s gs y w b : List ℕ) (charts left o : ℕ) (f : Found) → left ≡ 0
    → calm_all m s gs y (trail_in w b (charts - left) o) (charts - left) ≡ true →
    settle_of (outcome_in b charts o) f
    ≡ over (hunts_calm m s gs y left (charts - left) (trail_in w b (charts - left) o)) f
ends m s gs y w b charts left o f e h = sym (ends_at m s gs y w b charts left o (charts - left) f (omega arith) e h)

cond_both : (a b : Bool) (x : List Outcome) → cond (a && b) x [] ≡ cond a (cond b x []) []
cond_both true b x = refl
cond_both false b x = refl

-- a beginning that is tested on the way is tested when it is gone on from
below_is : (m s gs y : List ℕ) (l k : ℕ) (u : Trail) →
    cond (fine_at m s u k && quiet_at m s gs y u k) (hunts_both m s gs y l (suc k) u) [] ≡ below m s gs y (suc l) k u
unfolding quiet_at hunts_calm
below_is m s gs y l k u = cond_both (fine_at m s u k) (calm_all m s gs y u (suc k)) (hunts_both m s gs y l (suc k) u)
    ∙ ap₂ (λ (n j : ℕ). cond (fine_at m s u k) (cond (calm_all m s gs y u j) (hunts_both m s gs y n j u) []) [])
    (sym (sub-one (suc l))) (sym (add-one k))

pub hunts_step : (m s gs y : List ℕ) (left k : ℕ) (t : Trail) → (left ≡ 0 → ⊥) → calm_all m s gs y t k ≡ true →
    hunts_calm m s gs y left k t
    ≡ cond (wakes m s t k) (in_turn (count_at s k) (block m s gs y left k t) ++ last m s gs y left k t)
    (below m s gs y left k (rested m s t k))
unfolding hunts_calm hunts_both
hunts_step m s gs y zero k t h q = absurd (h refl)
hunts_step m s gs y (suc l) k t h q =
    ap (λ (z : Bool). cond z (hunts_both m s gs y (suc l) k t) []) q
    ∙ ap₂ (λ (xs ys : List Outcome). cond (wakes m s t k) xs ys)
    (ap₂ ◌++◌ (ap (in_turn (count_at s k)) (fun_ext (λ v. below_is m s gs y l k (taken m s t k v))))
    (ap (λ (z : List Outcome). cond (stays_at gs y k) z []) (below_is m s gs y l k (stayed m s t k))))
    (below_is m s gs y l k (rested m s t k))

module _ (m s gs y : List ℕ) (charts left : ℕ) (some : left ≡ 0 → ⊥) (within : left ≤ charts) (f : Found) where
  abbrev k : ℕ
  k = charts - left

  pub awake : (t : Trail) → calm_all m s gs y t k ≡ true → wakes m s t k ≡ true
      → over (hunts_calm m s gs y left k t) f
      ≡ over (last m s gs y left k t) (over (in_turn (count_at s k) (block m s gs y left k t)) f)
  awake t q w = rw (hunts_step m s gs y left k t some q, w)
      (over-append (in_turn (count_at s k) (block m s gs y left k t)) (last m s gs y left k t) f)

  pub asleep : (t : Trail) → calm_all m s gs y t k ≡ true → wakes m s t k ≡ false
      → over (below m s gs y left k (rested m s t k)) f ≡ over (hunts_calm m s gs y left k t) f
  asleep t q w = rw (hunts_step m s gs y left k t some q, w)

  -- a beginning that can still be met, where it stands, and one that cannot
  pub goes_on : charts ≤ most_charts → (w b : List ℕ) (o : ℕ) (u : Trail) → Matches charts (trail_in w b (k + 1) o) u
      → fine_at m s u k ≡ true →
      over (hunts_calm m s gs y (left - 1) (charts - (left - 1)) (trail_in w b (charts - (left - 1)) o)) f
      ≡ over (below m s gs y left k u) f
  goes_on few w b o u e h = let z : charts - (left - 1) ≡ k + 1 = omega arith in
      rw (z, h) (ap (λ (os : List Outcome). over os f) (hunts_match m s gs y (left - 1) (k + 1) few e (omega arith)))

  -- where it stands, each settled chart can still be met
  pub passes_on : charts ≤ most_charts → (w b : List ℕ) (o : ℕ) (u : Trail) → Matches charts (trail_in w b (k + 1) o) u
      → fine_at m s u k ≡ true → Passes m w (charts - (left - 1))
  passes_on few w b o u e h = let z : charts - (left - 1) ≡ k + 1 = omega arith in
      rw z (passes-next m s w b k o (omega arith) (fine_match m s e k (omega arith) ∙ h))

  pub drops : (u : Trail) → fine_at m s u k ≡ false → f ≡ over (below m s gs y left k u) f
  unfolding over
  drops u h = rw h

  -- candidate v was taken, or left out; the beginning stands in w and b as it stood in w₀ and b₀
  module _ (w₀ b₀ w b : List ℕ) (v o : ℕ) (kept : Keeps k w₀ b₀ w b) where
    here : taken m s (trail_in w b k o) k v ≡ taken m s (trail_in w₀ b₀ k o) k v
    here = ap (λ (u : Trail). taken m s u k v) (trail_kept kept o)

    pub goes : charts ≤ most_charts → (w₁ b₁ f₁ g₁ w₂ b₂ f₂ g₂ : List ℕ) (o₁ : ℕ) → found_in f₁ g₁ ≡ f
        → true ≡ fine_at m s (taken m s (trail_in w b k o) k v) k →
        Takes m s charts k v w b w₁ b₁ → o₁ ≡ o ∪ action_at m k v ∩ up_at m k
        → Hunted m s gs y charts (left - 1) o₁ w₁ b₁ f₁ g₁ w₂ b₂ f₂ g₂ →
        Keeps k w₀ b₀ w₂ b₂ × (found_in f₂ g₂ ≡ over (block m s gs y left k (trail_in w₀ b₀ k o) v) f)
    goes few w₁ b₁ f₁ g₁ w₂ b₂ f₂ g₂ o₁ q fine t e h =
        let z : charts - (left - 1) ≡ k + 1 = omega arith in (
          keeps_trans kept (keeps_trans t.kept (keeps_fewer (charts - (left - 1)) z h.kept)),
          h.found ∙ ap
              (over (hunts_calm m s gs y (left - 1) (charts - (left - 1)) (trail_in w₁ b₁ (charts - (left - 1)) o₁))) q
              ∙ goes_on few w₁ b₁ o₁ (taken m s (trail_in w₀ b₀ k o) k v)
              (subst₂ (Matches charts) (sym (ap (trail_in w₁ b₁ (k + 1)) e)) here (t.grown o))
              (ap (λ (u : Trail). fine_at m s u k) (sym here) ∙ sym fine),
        )

    pub leaves : false ≡ fine_at m s (taken m s (trail_in w b k o) k v) k
        → f ≡ over (block m s gs y left k (trail_in w₀ b₀ k o) v) f
    leaves fine = drops (taken m s (trail_in w₀ b₀ k o) k v) (ap (λ (u : Trail). fine_at m s u k) (sym here) ∙ sym fine)

  -- what the settled charts ask contradicts itself
  module _ (few : charts ≤ most_charts) (w b : List ℕ) (o : ℕ) (can : Passes m w k) (cover : Covers m k) (g : Guard)
      (is : g ≡ asks_of m w k) where
    -- what an inactive chart's beginning is tested by, and one's that stays
    pub rest-fine : (z : Bool) → eqb g.needed 0 ≡ z → fine_at m s (rested m s (trail_in w b k o) k) k ≡ z
    rest-fine z h = fine-rested m s w b k o (omega arith) can cover ∙ ap (λ (a : Guard). eqb a.needed 0) (sym is) ∙ h

    pub stay_fine : (z : Bool) → eqb g.needed 0 ≡ z → fine_at m s (stayed m s (trail_in w b k o) k) k ≡ z
    stay_fine z h = fine-same m s (trail_in w b k o) k ∙ rest-fine z h

    pub never : calm_all m s gs y (trail_in w b k o) k ≡ true → apart g.needed g.barred ≡ false
        → f ≡ over (hunts_calm m s gs y left k (trail_in w b k o)) f
    unfolding over
    never q h = rw (
      hunts_step m s gs y left k t some q,
      each_none (count_at s k) (block m s gs y left k t) (λ v l. none v),
      no_rest,
      no_stay (stays_at gs y k),
    ) (either (wakes m s t k))
      where
        t : Trail
        t = trail_in w b k o

        few' : k < most_charts
        few' = omega arith

        h' : apart (asks_of m w k).needed (asks_of m w k).barred ≡ false
        h' = ap (λ (a : Guard). apart a.needed a.barred) (sym is) ∙ h

        none : (v : ℕ) → block m s gs y left k t v ≡ []
        none v = rw (
          fine-taken m s w b k o few' can cover v,
          asked-never _ _ (action_at m k v) h',
          and-false (field_own m w k v),
        )

        no_rest : below m s gs y left k (rested m s t k) ≡ []
        no_rest = rw (fine-rested m s w b k o few' can cover, asked_some _ _ h')

        no_stay : (a : Bool) → cond a (below m s gs y left k (stayed m s t k)) [] ≡ []
        no_stay true = rw (fine-same m s t k, fine-rested m s w b k o few' can cover, asked_some _ _ h')
        no_stay false = refl

        either : (a : Bool) → f ≡ over (cond a [] []) f
        either true = refl
        either false = refl

-- staying is not open, or is
module _ (m s gs y : List ℕ) (left k : ℕ) (t : Trail) (f : Found) where
  pub shut_last : told_at y k ≡ 0 → over (last m s gs y left k t) f ≡ f
  unfolding stays_at over
  shut_last h = rw (h, same_refl 0)

  pub open_last : (told_at y k ≡ 0 → ⊥) → over (last m s gs y left k t) f
      ≡ over (below m s gs y left k (stayed m s t k)) f
  unfolding stays_at
  open_last h = rw (same_≢ (told_at y k) 0 h)

-- a settled chart that stays is surely triggered
pub not_calm : (m s gs y : List ℕ) (left k : ℕ) (t : Trail) (f : Found) → calm_all m s gs y t k ≡ false
    → f ≡ over (hunts_calm m s gs y left k t) f
unfolding hunts_calm over
not_calm m s gs y left k t f h = rw h

-- two that disagree were found, as the code tests it
pub stopped : (f : Found) → (f.has && not f.agree) ≡ true → Stopped f
stopped f h =
    record { has = and_l f.has (not f.agree) h; agree = not-true f.agree (and_r f.has (not f.agree) h) }
