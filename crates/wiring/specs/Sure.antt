-- What a chart surely puts out: all that every transition from its present state does, if it stands in no slave and so
-- is surely active. One that may stay puts out nothing for sure.
use Rattle.std.specs.Prelude.{◌≡◌, Bool, true, false, cond, ℕ, zero, suc, ◌<◌}
use Rattle.std.proofs.Math.Path.{refl, ap}
use Rattle.std.proofs.Common.{sym, ◌∙◌}
use Rattle.std.proofs.lemmas.Bool.{false≢true}
use Rattle.std.proofs.Math.Option.{Option, none, some}
use mathlib.Core.List.{List, [], ◌∷◌}
use Rattle.signals.specs.Mask.{◌∩◌, Within}
use Rattle.signals.specs.Decide.{sets, A, B, C, ∅ₑ, ◌∩ₑ◌, ◌≐◌, ◌⊑◌}
use Rattle.layout.specs.declared.record.Transition.{Transition}
use Rattle.meaning.specs.Meaning.{Set, ∅, same, Chart, Tree, Move, no_move, takes, stay, nth, pick, action_of, moves}
use Rattle.wiring.specs.Reach.{full, Small, awake_by}
use Rattle.wiring.specs.Permitted.{awake, awake-by, Stands}

-- what all transitions from state q put out
unfoldable pub sure_of : List Transition → ℕ → Set
sure_of [] q = full
sure_of (t ∷ ts) q = cond (same t.from q) (sure_of ts q ∩ t.action) (sure_of ts q)

pub sure_small : (ts : List Transition) (q : ℕ) → Small (sure_of ts q)
unfolding sure_of
sure_small [] q = sets (full ∷ []) [] (A ∩ₑ A ≐ A) tt
sure_small (t ∷ ts) q = go (same t.from q) (sure_small ts q)
  where
    go : (b : Bool) → Small (sure_of ts q) → Small (cond b (sure_of ts q ∩ t.action) (sure_of ts q))
    go true r = sets (sure_of ts q ∷ t.action ∷ full ∷ []) (A ∩ₑ C ≐ A ∷ []) (A ∩ₑ B ∩ₑ C ≐ A ∩ₑ B) tt r
    go false r = r

-- nothing where there is a slave
abbrev pub outside : Option ℕ → Set → Set
outside none u = u
outside (some i) u = ∅

-- nothing where staying puts nothing out
abbrev pub sure_in : Bool → Set → Set
sure_in true u = ∅
sure_in false u = u

unfoldable pub surely : (ℕ → Option ℕ) → (ℕ → Chart) → (ℕ → ℕ) → ℕ → Set
surely enc E cfg c = outside (enc c) (sure_in (E c).stays (sure_of (E c).transitions (cfg c)))

-- ── a chart that keeps activity and state puts out what it surely does ──

-- the rule of a chart (RULES 5.7) is this, its activity and its state, and the exact test of guards. b: may the chart
-- stay?
unfoldable pub open? : Bool → Bool → ℕ → Move → Bool
open? b false s no_move = true
open? b false s (takes t) = false
open? b false s stay = false
open? b true s no_move = false
open? b true s (takes t) = same t.from s
open? b true s stay = b

sure_nth : (ts : List Transition) (q k : ℕ) → open? false true q (nth no_move ts k) ≡ true
    → Within (sure_of ts q) (action_of (nth no_move ts k))
unfolding sure_of nth action_of open?
sure_nth [] q k h = absurd (false≢true h)
sure_nth (t ∷ ts) q zero h = rw h (sets (sure_of ts q ∷ t.action ∷ []) [] (A ∩ₑ B ⊑ B) tt)
sure_nth (t ∷ ts) q (suc k) h = go (same t.from q) (sure_nth ts q k h)
  where
    go : (b : Bool) → Within (sure_of ts q) (action_of (nth no_move ts k))
        → Within (cond b (sure_of ts q ∩ t.action) (sure_of ts q)) (action_of (nth no_move ts k))
    go true r = sets (sure_of ts q ∷ t.action ∷ action_of (nth no_move ts k) ∷ []) (A ⊑ C ∷ []) (A ∩ₑ B ⊑ C) tt r
    go false r = r

sure_pick : (K : Chart) (q v : ℕ) → open? K.stays true q (pick K v) ≡ true
    → Within (sure_in K.stays (sure_of K.transitions q)) (action_of (pick K v))
unfolding pick open?
sure_pick K q zero h = absurd (false≢true h)
sure_pick K q (suc k) h = go K.stays h
  where
    go : (b : Bool) → open? b true q (nth (cond b stay no_move) K.transitions k) ≡ true
        → Within (sure_in b (sure_of K.transitions q)) (action_of (nth (cond b stay no_move) K.transitions k))
    go true h = sets (action_of (nth stay K.transitions k) ∷ []) [] (∅ₑ ⊑ A) tt
    go false h = sure_nth K.transitions q k h

module _ (E : ℕ → Chart) (state : ℕ → ℕ) (cfg : ℕ → ℕ) (N : ℕ) (enc : ℕ → Option ℕ) (sc : ℕ → ℕ) (t : Tree)
    (s : Stands N enc sc t) where
  pub sure_open : (ch : ℕ → ℕ) (c : ℕ) → c < N
      → open? (E c).stays (awake enc sc state cfg (moves E ch) c) (cfg c) (moves E ch c) ≡ true
      → Within (surely enc E cfg c) (action_of (moves E ch c))
  unfolding surely moves
  sure_open ch c l h = go (enc c) refl
    where
      go : (κ : Option ℕ) → enc c ≡ κ
          → Within (outside κ (sure_in (E c).stays (sure_of (E c).transitions (cfg c)))) (action_of (pick (E c) (ch c)))
      go (some i) e = sets (action_of (pick (E c) (ch c)) ∷ []) [] (∅ₑ ⊑ A) tt
      go none e = sure_pick (E c) (cfg c) (ch c)
          (ap (λ b. open? (E c).stays b (cfg c) (pick (E c) (ch c))) (sym (awake-by enc sc state cfg (moves E ch) N
          s.lower c l ∙ ap (awake_by sc state cfg (moves E ch) (awake enc sc state cfg (moves E ch))) e)) ∙ h)
