-- The test between any bounds on the charts' actions: of the search, and of a candidate alone before it.
use Rattle.std.specs.Prelude.{◌≡◌, true, ℕ, ◌<◌, [], ◌∷◌}
use Rattle.std.proofs.Common.{sym, ◌∙◌}
use Rattle.std.proofs.Math.Option.{Option}
use Rattle.signals.specs.Mask.{◌∪◌, ◌∩◌, Within as Inside}
use Rattle.signals.specs.Decide.{sets, A, B, C, ◌∪ₑ◌, ◌⊑◌}
use Rattle.meaning.specs.Meaning.{Set, Chart, Tree, Move, action_of, in_face_chart, permitted}
use Rattle.meaning.specs.Laws.Bools.{every_elim}
use Rattle.wiring.specs.Uncut.{Within}
use Rattle.meaning.specs.Rewriting.{union_up_to}
use Rattle.wiring.specs.Reach.{down, back, offered, Small}
use Rattle.wiring.specs.Permitted.{awake, Stands, offer, ruled, permitted_wired}
use Rattle.wiring.specs.Dropped.{test, join_in, fits-test}

offered_in : (N : ℕ) (f g : ℕ → Set) (z a : Set) (b : ℕ → Set) → ((e : ℕ) → e < N → Inside (f e) (g e))
    → Inside (offered N f z a b) (offered N g z a b)
unfolding offered
offered_in N f g z a b h =
    sets ((z ∩ a) ∷ union_up_to N (λ e. f e ∩ b e) ∷ union_up_to N (λ e. g e ∩ b e) ∷ []) (B ⊑ C ∷ [])
    (A ∪ₑ B ⊑ A ∪ₑ C) tt (join_in N f g b h)

module _ (E : ℕ → Chart) (state : ℕ → ℕ) (cfg : ℕ → ℕ) (N : ℕ) (enc : ℕ → Option ℕ) (sc : ℕ → ℕ) (t : Tree) (inp : Set)
    (s : Stands N enc sc t)
    (M : ℕ → Move) (si : Small inp) (sa : (e : ℕ) → Small (action_of (M e)))
    (own : (c : ℕ) → Within (in_face_chart (E c)) (M c)) (lo hi : ℕ → Set) where
  -- a permitted choice passes the test of each chart between bounds on all actions
  pub bounded : permitted E state cfg M t inp ≡ true → ((e : ℕ) → e < N → Inside (lo e) (action_of (M e)))
      → ((e : ℕ) → e < N → Inside (action_of (M e)) (hi e))
      → (c : ℕ) → c < N → test (E c) (cfg c) (M c) (offered N lo inp (down t c) (back E t c))
      (offered N hi inp (down t c) (back E t c)) ≡ true
  unfolding ruled offer
  bounded p l h c b = fits-test (E c) (awake enc sc state cfg M c)
      (offered N (λ e. action_of (M e)) inp (down t c) (back E t c)) (cfg c) (M c) _ _
      (offered_in N lo (λ e. action_of (M e)) inp (down t c) (back E t c) l) (offered_in N
      (λ e. action_of (M e)) hi inp (down t c) (back E t c) h)
      (every_elim N (ruled E state cfg N enc sc t inp M)
      (sym (permitted_wired E state cfg N enc sc t inp M s si sa own) ∙ p) c b)
