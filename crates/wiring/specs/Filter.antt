-- A candidate that fails between the bounds of all other charts is in no permitted choice; what is left gives tighter
-- bounds.
use Rattle.std.specs.Prelude.{◌≡◌, Bool, false, ◌≢◌}
use Rattle.std.proofs.Math.Path.{refl, ap}
use Rattle.std.proofs.Common.{sym, ◌∙◌, subst, arith}
use Rattle.std.proofs.Math.Bool.{true, cond}
use Rattle.std.proofs.lemmas.Bool.{false≢true}
use Rattle.std.proofs.Math.Option.{Option}
use mathlib.Core.List.{List, [], ◌∷◌}
use Prim.Native.Nat.{ℕ, zero, suc, ◌≤◌, ◌<◌}
use Rattle.std.proofs.Math.Decide.{dec_lt}
use Rattle.std.proofs.Math.ListN.{length}
use Rattle.signals.specs.Mask.{◌∪◌, Within}
use Rattle.signals.specs.Decide.{sets, A, B, C, ∅ₑ, ◌∪ₑ◌, ◌≐◌, ◌⊑◌}
use Rattle.meaning.specs.Meaning.{Set, ∅, same, Chart, Tree, Move, nth, behind, pick, action_of, permitted, moves}
use Rattle.meaning.specs.Laws.Bools.{same_refl, same→≡}
use Rattle.layout.specs.declared.record.Transition.{Transition}
use Rattle.wiring.specs.Uncut.{own-moves}
use Rattle.wiring.specs.Reach.{Small, down, back, offered}
use Rattle.wiring.specs.Permitted.{Stands}
use Rattle.wiring.specs.Sure.{surely, sure_open}
use Rattle.wiring.specs.Dropped.{test, Bounds, permitted_open}
use Rattle.wiring.specs.Between.{bounded}
use Rattle.wiring.specs.Pruning.{behind_empty}

module _ (E : ℕ → Chart) (state : ℕ → ℕ) (cfg : ℕ → ℕ) (N : ℕ) (enc : ℕ → Option ℕ) (t : Tree) (inp : Set)
    (may : ℕ → Set) where
  -- the test of chart c's candidate v with its own action, between what the others surely and what they may put out
  unfoldable pub lasts : ℕ → ℕ → Bool
  lasts c v = test (E c) (cfg c) (pick (E c) v)
      (offered N (λ e. cond (same e c) (action_of (pick (E c) v)) ∅ ∪ surely enc E cfg e) inp (down t c) (back E t c))
      (offered N
      (λ e. cond (same e c) (action_of (pick (E c) v)) (may e) ∪ surely enc E cfg e) inp (down t c) (back E t c))

  -- what the first k candidates put out that last
  unfoldable pub may_last : ℕ → ℕ → Set
  may_last c zero = ∅
  may_last c (suc k) = may_last c k ∪ cond (lasts c (suc k)) (action_of (pick (E c) (suc k))) ∅

  may_at : (c k v : ℕ) → v < k → lasts c (suc v) ≡ true → Within (action_of (pick (E c) (suc v))) (may_last c k)
  unfolding may_last
  may_at c zero v l h = absurd (omega arith)
  may_at c (suc k) v l h = go (same v k) refl (λ m. may_at c k v m h)
    where
      new : Set
      new = cond (lasts c (suc k)) (action_of (pick (E c) (suc k))) ∅

      go : (b : Bool) → same v k ≡ b → (v < k → Within (action_of (pick (E c) (suc v))) (may_last c k))
          → Within (action_of (pick (E c) (suc v))) (may_last c k ∪ new)
      go true e r = sets (action_of (pick (E c) (suc v)) ∷ may_last c k ∷ new ∷ []) (C ≐ A ∷ []) (A ⊑ B ∪ₑ C) tt
          (subst (λ z. cond (lasts c (suc z)) (action_of (pick (E c) (suc z))) ∅ ≡ action_of (pick (E c) (suc v)))
          (same→≡ v k e) (ap (λ b. cond b (action_of (pick (E c) (suc v))) ∅) h))
      go false e r = let z : v ≢ k = λ w. false≢true (sym e ∙ rw w (same_refl k)) in
          sets (action_of (pick (E c) (suc v)) ∷ may_last c k ∷ new ∷ []) (A ⊑ B ∷ []) (A ⊑ B ∪ₑ C) tt (r (omega arith))

  module _ (sc : ℕ → ℕ) (s : Stands N enc sc t) (m : Bounds E state cfg N t inp may) (si : Small inp)
      (sa : (ch : ℕ → ℕ) (e : ℕ) → Small (action_of (moves E ch e))) where
    pub kept : (ch : ℕ → ℕ) → permitted E state cfg (moves E ch) t inp ≡ true → (c : ℕ) → c < N → lasts c (ch c) ≡ true
    unfolding lasts moves
    kept ch p c l = bounded E state cfg N enc sc t inp s (moves E ch) si (sa ch) (own-moves E ch)
        (λ e. cond (same e c) (action_of (pick (E c) (ch c))) ∅ ∪ surely enc E cfg e)
        (λ e. cond (same e c) (action_of (pick (E c) (ch c))) (may e) ∪ surely enc E cfg e) p
        (λ e h. below e (same e c) refl (sure_open E state cfg N enc sc t s ch e h
        (permitted_open E state cfg N enc sc t inp s si sa ch p e h))) (λ e h. above e (same e c) refl (m ch p e h)) c l
      where
        mine : (e : ℕ) → same e c ≡ true → action_of (moves E ch e) ≡ action_of (pick (E c) (ch c))
        mine e q = ap (λ z. action_of (moves E ch z)) (same→≡ e c q)

        below : (e : ℕ) (b : Bool) → same e c ≡ b → Within (surely enc E cfg e) (action_of (moves E ch e))
            → Within (cond b (action_of (pick (E c) (ch c))) ∅ ∪ surely enc E cfg e) (action_of (moves E ch e))
        below e true q w = sets (action_of (pick (E c) (ch c)) ∷ action_of (moves E ch e) ∷ surely enc E cfg e ∷ [])
            (B ≐ A ∷ C ⊑ B ∷ []) (A ∪ₑ C ⊑ B) tt (mine e q) w
        below e false q w = sets (action_of (moves E ch e) ∷ surely enc E cfg e ∷ []) (B ⊑ A ∷ []) (∅ₑ ∪ₑ B ⊑ A) tt w

        above : (e : ℕ) (b : Bool) → same e c ≡ b → Within (action_of (moves E ch e)) (may e)
            → Within (action_of (moves E ch e)) (cond b (action_of (pick (E c) (ch c))) (may e) ∪ surely enc E cfg e)
        above e true q w = sets (action_of (pick (E c) (ch c)) ∷ action_of (moves E ch e) ∷ surely enc E cfg e ∷ [])
            (B ≐ A ∷ []) (B ⊑ A ∪ₑ C) tt (mine e q)
        above e false q w =
            sets (action_of (moves E ch e) ∷ may e ∷ surely enc E cfg e ∷ []) (A ⊑ B ∷ []) (A ⊑ B ∪ₑ C) tt w

    far : (m : Move) (ts : List Transition) (k : ℕ) → action_of m ≡ ∅ → length ts ≤ k → action_of (nth m ts k) ≡ ∅
    unfolding nth
    far m [] k e l = e
    far m (t ∷ ts) zero e l = absurd (omega arith)
    far m (t ∷ ts) (suc k) e l = far m ts k e (omega arith)

    pub tighter : Bounds E state cfg N t inp (λ c. may_last c (length (E c).transitions))
    unfolding moves pick action_of
    tighter ch p c l = go (ch c) (kept ch p c l)
      where
        go : (v : ℕ) → lasts c v ≡ true → Within (action_of (pick (E c) v)) (may_last c (length (E c).transitions))
        go zero h = sets (may_last c (length (E c).transitions) ∷ []) [] (∅ₑ ⊑ A) tt
        go (suc v) h = near (dec_lt v (length (E c).transitions))
          where
            near : Dec (v < length (E c).transitions)
                → Within (action_of (nth (behind (E c)) (E c).transitions v)) (may_last c (length (E c).transitions))
            near (yes l) = may_at c (length (E c).transitions) v l h
            near (no f) = sets (action_of (nth (behind (E c)) (E c).transitions v)
                ∷ may_last c (length (E c).transitions) ∷ []) (A ≐ ∅ₑ ∷ []) (A ⊑ B) tt
                (far (behind (E c)) (E c).transitions v (behind_empty (E c).stays) (omega arith))
