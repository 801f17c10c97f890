-- Lists of which each member is typed in its turn, with a sign between each two.
use Rattle.std.specs.Prelude.{◌≡◌, List, [], ◌∷◌, ◌++◌, ℕ, ◌+◌, length}
use Rattle.notation.specs.Grammar.{Tokens, Sign, sign₁, sign_bytes, bytes_of_all}
use Rattle.printing.specs.Prints.{Prints}

-- each member behind the sign k
unfoldable pub behind_each : {A : Type 0} → Sign → (A → Tokens) → List A → Tokens
behind_each k f [] = []
behind_each k f (a ∷ l) = sign₁ k ++ (f a ++ behind_each k f l)

-- the members with the sign k between each two
unfoldable pub in_turn : {A : Type 0} → Sign → (A → Tokens) → List A → Tokens
in_turn k f [] = []
in_turn k f (a ∷ l) = f a ++ behind_each k f l

-- the sign k, unless nothing stands before it
unfoldable pub apart : Sign → Tokens → Tokens
apart k [] = []
apart k (t ∷ ts) = sign₁ k

-- the sign of one byte b was typed, unless nothing stands from `first` on
abbrev pub PrintsApart : ℕ → ℕ → List ℕ → ℕ → List ℕ → ℕ → Type 0
PrintsApart b first before at after next =
    (k : Sign) (ts : Tokens) → sign_bytes k ≡ (b ∷ []) → at ≡ first + length (bytes_of_all ts)
    → Prints before at (apart k ts) after next

-- members were added to a list that begins at `first`
pub record Adds {A : Type 0} (k : Sign) (f : A → Tokens) (more : List A) (first : ℕ) (before : List ℕ) (at : ℕ)
    (after : List ℕ) (next : ℕ) : Type 0 where
  pub adds : (l : List ℕ) (as' : List A) → Prints l first (in_turn k f as') before at
      → Prints l first (in_turn k f (as' ++ more)) after next
