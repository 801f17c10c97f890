-- What the functions promise that reading and showing are made of: where a part of a word ends, and what is written for
-- one signal.
use Rattle.std.specs.Prelude.{◌≡◌, cond, List, [], ◌∷◌, ◌++◌, ℕ, ◌+◌, ◌-◌, ◌≤◌, ◌<◌, ltb, length, take, drop}
use Rattle.std.proofs.Common.{lt-ltb, le-ltb}
use Rattle.signals.specs.Mask.{bit}
use Rattle.meaning.specs.Meaning.{Set, same}
use Rattle.typed.specs.Typed.{split, comma, shown_signal}

-- the parts behind a separator at e; none at the word's end
unfoldable pub behind_part : ℕ → List ℕ → ℕ → List (List ℕ)
behind_part separator w e = cond (ltb e (length w)) (split separator (drop (e + 1) w)) []

-- the part of w that begins at `at` ends at e
pub record Ends (separator : ℕ) (w : List ℕ) (at e : ℕ) : Type 0 where
  pub order : at ≤ e
  pub within : e ≤ length w
  pub parts : split separator (drop at w) ≡ take (e - at) (drop at w) ∷ behind_part separator w e

pub behind_more : (separator : ℕ) (w : List ℕ) (e : ℕ) → e < length w
    → behind_part separator w e ≡ split separator (drop (e + 1) w)
unfolding behind_part
behind_more separator w e h = rw (lt-ltb e (length w) h)

pub behind-none : (separator : ℕ) (w : List ℕ) (e : ℕ) → length w ≤ e → behind_part separator w e ≡ []
unfolding behind_part
behind-none separator w e h = rw (le-ltb e (length w) h)

-- what is written at a place for signal n, the signals below it being written: nothing, or the signal, behind a comma
-- unless it is the first
unfoldable pub next_signal : ℕ → Set → ℕ → List ℕ
next_signal at s n = cond (bit s n) (cond (same at 0) [] (comma ∷ []) ++ shown_signal n) []
