-- A list without its dead transitions. In this order: how many of the first k are left (`lives`), and that transition k
-- is at this place of the new list; lists of outcomes, of which those of dead transitions are empty; sums over places,
-- which do not rise; the sets that the list names; lists cleared twice.
use Rattle.std.specs.Prelude.{◌≡◌, Bool}
use Rattle.std.proofs.Math.Path.{refl, sym, ap, ap₂}
use Rattle.std.proofs.Common.{◌∙◌}
use Rattle.std.proofs.Math.Bool.{true, false, cond}
use mathlib.Core.List.{List, [], ◌∷◌, ◌++◌, map, map-append, append-nil}
use Prim.Native.Nat.{ℕ, zero, suc, ◌+◌, ◌≤◌, ◌<◌}
use native.Mathlib.Omega.{arith}
use Rattle.std.proofs.Math.ListN.{length}
use Rattle.signals.specs.Mask.{◌∪◌, ◌∖◌}
use Rattle.signals.specs.Decide.{sets, A, B, C, ∅ₑ, ◌∪ₑ◌, ◌⊑◌}
use Rattle.layout.specs.declared.record.Transition.{Transition}
use Rattle.meaning.specs.Sums.{tally}
use Rattle.meaning.specs.Meaning.{Set, ∅, Move, takes, nth, guards, actions, upto}
use Rattle.clearing.specs.Clearing.{dead, alive, lives}

module _ (fed : Set) where
  -- ── how many are left ──

  -- transition k is dead
  unfoldable pub dead_at : List Transition → ℕ → Bool
  dead_at [] k = false
  dead_at (t ∷ ts) zero = dead fed t
  dead_at (t ∷ ts) (suc k) = dead_at ts k

  pub lives-none : (ts : List Transition) → lives fed ts 0 ≡ 0
  unfolding lives
  lives-none [] = refl
  lives-none (t ∷ ts) = refl

  pub lives_all : (ts : List Transition) → lives fed ts (length ts) ≡ length (alive fed ts)
  unfolding lives alive
  lives_all [] = refl
  lives_all (t ∷ ts) = go (dead fed t) (lives_all ts)
    where
      go : (b : Bool) → lives fed ts (length ts) ≡ length (alive fed ts)
          → cond b (lives fed ts (length ts)) (suc (lives fed ts (length ts)))
          ≡ length (cond b (alive fed ts) (t ∷ alive fed ts))
      go true e = e
      go false e = ap suc e

  pub lives-same : (ts : List Transition) (k : ℕ) → k < length ts → dead_at ts k ≡ true
      → lives fed ts (suc k) ≡ lives fed ts k
  unfolding lives dead_at
  lives-same [] k l e = refl
  lives-same (t ∷ ts) zero l e = rw e (lives-none ts)
  lives-same (t ∷ ts) (suc k) l e = rw (lives-same ts k (omega arith) e)

  pub lives_more : (ts : List Transition) (k : ℕ) → k < length ts → dead_at ts k ≡ false
      → lives fed ts (suc k) ≡ suc (lives fed ts k)
  unfolding lives dead_at
  lives_more [] k l e = absurd (omega arith)
  lives_more (t ∷ ts) zero l e = rw e (ap suc (lives-none ts))
  lives_more (t ∷ ts) (suc k) l e = rw (lives_more ts k (omega arith) e) (go (dead fed t))
    where
      go : (b : Bool) → cond b (suc (lives fed ts k)) (suc (suc (lives fed ts k)))
          ≡ suc (cond b (lives fed ts k) (suc (lives fed ts k)))
      go true = refl
      go false = refl

  -- a transition that is not dead stands in the new list
  pub nth-alive : (m : Move) (ts : List Transition) (k : ℕ) → k < length ts → dead_at ts k ≡ false
      → nth m (alive fed ts) (lives fed ts k) ≡ nth m ts k
  unfolding lives dead_at alive nth
  nth-alive m [] k l e = absurd (omega arith)
  nth-alive m (t ∷ ts) zero l e = rw e
  nth-alive m (t ∷ ts) (suc k) l e = go (dead fed t) (nth-alive m ts k (omega arith) e)
    where
      go : (b : Bool) → nth m (alive fed ts) (lives fed ts k) ≡ nth m ts k
          → nth m (cond b (alive fed ts) (t ∷ alive fed ts)) (cond b (lives fed ts k) (suc (lives fed ts k)))
          ≡ nth m ts k
      go true q = q
      go false q = q

  pub lives-below : (ts : List Transition) (k : ℕ) → k < length ts → dead_at ts k ≡ false
      → lives fed ts k < length (alive fed ts)
  unfolding lives dead_at alive
  lives-below [] k l e = absurd (omega arith)
  lives-below (t ∷ ts) zero l e = rw e (omega arith)
  lives-below (t ∷ ts) (suc k) l e = go (dead fed t) (lives-below ts k (omega arith) e)
    where
      go : (b : Bool) → lives fed ts k < length (alive fed ts)
          → cond b (lives fed ts k) (suc (lives fed ts k)) < length (cond b (alive fed ts) (t ∷ alive fed ts))
      go true q = q
      go false q = omega arith

  -- a dead one
  pub nth-dead : (m : Move) (ts : List Transition) (k : ℕ) → k < length ts → dead_at ts k ≡ true
      → (u : Transition) × (nth m ts k ≡ takes u) × (dead fed u ≡ true)
  unfolding dead_at nth
  nth-dead m [] k l e = absurd (omega arith)
  nth-dead m (t ∷ ts) zero l e = (t, refl, e)
  nth-dead m (t ∷ ts) (suc k) l e = nth-dead m ts k (omega arith) e

  pub alive_most : (ts : List Transition) → length (alive fed ts) ≤ length ts
  unfolding alive
  alive_most [] = omega arith
  alive_most (t ∷ ts) = go (dead fed t) (alive_most ts)
    where
      go : (b : Bool) → length (alive fed ts) ≤ length ts
          → length (cond b (alive fed ts) (t ∷ alive fed ts)) ≤ suc (length ts)
      go true q = omega arith
      go false q = omega arith

  -- ── lists one behind another ──

  module _ {X Y : Type 0} (g : X → Y) (f : ℕ → List X) (f' : ℕ → List Y) (ts : List Transition)
      (none : f' 0 ≡ map g (f 0))
      (gone : (k : ℕ) → k < length ts → dead_at ts k ≡ true → f (suc k) ≡ [])
      (stays : (k : ℕ) → k < length ts → dead_at ts k ≡ false → f' (suc (lives fed ts k)) ≡ map g (f (suc k))) where
    upto-lives : (m : ℕ) → m ≤ length ts → upto (lives fed ts m) f' ≡ map g (upto m f)
    unfolding upto
    upto-lives zero l = ap (λ z. upto z f') (lives-none ts) ∙ none
    upto-lives (suc m) l = go (dead_at ts m) refl (upto-lives m (omega arith))
      where
        go : (b : Bool) → dead_at ts m ≡ b → upto (lives fed ts m) f' ≡ map g (upto m f)
            → upto (lives fed ts (suc m)) f' ≡ map g (upto m f ++ f (suc m))
        go true e q = ap (λ z. upto z f') (lives-same ts m (omega arith) e) ∙ q
            ∙ ap (map g) (sym (append-nil (upto m f)) ∙ ap (λ z. upto m f ++ z) (sym (gone m (omega arith) e)))
        go false e q = ap (λ z. upto z f') (lives_more ts m (omega arith) e) ∙ ap₂ ◌++◌ q (stays m (omega arith) e)
            ∙ sym (map-append g (upto m f) (f (suc m)))

    pub upto-alive : upto (length (alive fed ts)) f' ≡ map g (upto (length ts) f)
    upto-alive = ap (λ z. upto z f') (sym (lives_all ts)) ∙ upto-lives (length ts) (omega arith)

  -- ── sums over the places of a list, and none ──

  module _ (f f' : ℕ → ℕ) (ts : List Transition) (none : f' 0 ≤ f 0)
      (stays : (k : ℕ) → k < length ts → dead_at ts k ≡ false → f' (suc (lives fed ts k)) ≤ f (suc k)) where
    tally-lives : (m : ℕ) → m ≤ length ts → tally (suc (lives fed ts m)) f' ≤ tally (suc m) f
    unfolding tally
    tally-lives zero l = rw (lives-none ts) (omega (arith, none))
    tally-lives (suc m) l = go (dead_at ts m) refl (tally-lives m (omega arith))
      where
        go : (b : Bool) → dead_at ts m ≡ b → tally (suc (lives fed ts m)) f' ≤ tally (suc m) f
            → tally (suc (lives fed ts (suc m))) f' ≤ f (suc m) + tally (suc m) f
        go true e q = rw (lives-same ts m (omega arith) e) (omega arith)
        go false e q =
            let h = stays m (omega arith) e in rw (lives_more ts m (omega arith) e) (omega arith)

    pub tally-alive : tally (suc (length (alive fed ts))) f' ≤ tally (suc (length ts)) f
    tally-alive = rw (← lives_all ts) (tally-lives (length ts) (omega arith))

  -- ── sets ──

  pub guards-alive : (ts : List Transition) → guards (alive fed ts) ∖ guards ts ≡ ∅
  unfolding guards alive
  guards-alive [] = sets [] [] (∅ₑ ⊑ ∅ₑ) tt
  guards-alive (t ∷ ts) = go (dead fed t) (guards-alive ts)
    where
      go : (b : Bool) → guards (alive fed ts) ∖ guards ts ≡ ∅
          → guards (cond b (alive fed ts) (t ∷ alive fed ts)) ∖ ((t.needed ∪ t.barred) ∪ guards ts) ≡ ∅
      go true q = sets ((t.needed ∪ t.barred) ∷ guards (alive fed ts) ∷ guards ts ∷ []) (B ⊑ C ∷ []) (B ⊑ A ∪ₑ C) tt q
      go false q = sets ((t.needed ∪ t.barred) ∷ guards (alive fed ts) ∷ guards ts ∷ []) (B ⊑ C ∷ [])
          (A ∪ₑ B ⊑ A ∪ₑ C) tt q

  pub actions-alive : (ts : List Transition) → actions (alive fed ts) ∖ actions ts ≡ ∅
  unfolding actions alive
  actions-alive [] = sets [] [] (∅ₑ ⊑ ∅ₑ) tt
  actions-alive (t ∷ ts) = go (dead fed t) (actions-alive ts)
    where
      go : (b : Bool) → actions (alive fed ts) ∖ actions ts ≡ ∅
          → actions (cond b (alive fed ts) (t ∷ alive fed ts)) ∖ (t.action ∪ actions ts) ≡ ∅
      go true q = sets (t.action ∷ actions (alive fed ts) ∷ actions ts ∷ []) (B ⊑ C ∷ []) (B ⊑ A ∪ₑ C) tt q
      go false q = sets (t.action ∷ actions (alive fed ts) ∷ actions ts ∷ []) (B ⊑ C ∷ []) (A ∪ₑ B ⊑ A ∪ₑ C) tt q

  -- ── twice ──

  pub alive_twice : (ts : List Transition) → alive fed (alive fed ts) ≡ alive fed ts
  unfolding alive
  alive_twice [] = refl
  alive_twice (t ∷ ts) = go (dead fed t) refl (alive_twice ts)
    where
      go : (b : Bool) → dead fed t ≡ b → alive fed (alive fed ts) ≡ alive fed ts
          → alive fed (cond b (alive fed ts) (t ∷ alive fed ts)) ≡ cond b (alive fed ts) (t ∷ alive fed ts)
      go true e q = q
      go false e q = rw e (ap (λ z. t ∷ z) q)
