-- Bytes and tokens that are typed at a place of a buffer. What is past the buffer's end is counted and not written, so
-- that an empty buffer counts. A place is never past `most_text`, and so is one of the machine's numbers.
use Rattle.std.specs.Prelude.{◌≡◌, List, [], ◌∷◌, ℕ, ◌+◌, ◌≤◌, length}
use Rattle.layout.specs.Put.{Put}
use Rattle.notation.specs.Grammar.{Tokens, Sign, Letter, sign₁, name₁, sign_bytes, letter, bytes_of_all}
use Rattle.spelling.specs.Numbers.{most_text}

-- xs was written at a place of a buffer, if it ends where a text can end
pub record Writes (before : List ℕ) (at : ℕ) (xs after : List ℕ) (next : ℕ) : Type 0 where
  pub put : at + length xs ≤ most_text → Put before at xs after next

-- tokens were
pub record Prints (before : List ℕ) (at : ℕ) (ts : Tokens) (after : List ℕ) (next : ℕ) : Type 0 where
  pub writes : Writes before at (bytes_of_all ts) after next

-- the sign of one byte b was
abbrev pub PrintsSign : ℕ → List ℕ → ℕ → List ℕ → ℕ → Type 0
PrintsSign b before at after next = (k : Sign) → sign_bytes k ≡ (b ∷ []) → Prints before at (sign₁ k) after next

-- the name with the letter b and the number n was
abbrev pub PrintsName : ℕ → ℕ → List ℕ → ℕ → List ℕ → ℕ → Type 0
PrintsName b n before at after next = (l : Letter) → letter l ≡ b → Prints before at (name₁ l n) after next
