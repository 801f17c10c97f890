-- What encloses the part that has just ended, found by looking back over the text and counting brackets. Each open
-- bracket is a level with a number: 2 a slave's pair, 4 hiding brackets, 6 round brackets (and any other bracket that
-- is open); the whole text is 0. One more is for the second part of a composition there: a bar stands further on.
use Rattle.std.specs.Prelude.{Bool, false, ◌||◌, cond, List, [], ◌∷◌, ℕ, zero, suc, ◌+◌, eqb}
use Prim.Native.Char.{code}
use Rattle.notation.specs.Grammar.{blank}

unfoldable pub opener : ℕ → Bool
opener b = eqb b (code "(") || (eqb b (code "[") || eqb b (code "{"))

unfoldable pub closer : ℕ → Bool
closer b = eqb b (code ")") || (eqb b (code "]") || eqb b (code "}"))

-- the level that the open bracket b makes: s is 1 for a second part, q says that a state's name begins right behind b
unfoldable pub around : ℕ → ℕ → Bool → ℕ
around b s q = cond (eqb b (code "[")) (4 + s) (cond q (2 + s) (6 + s))

-- a for 0, and f of one less for any other number
abbrev pub level : {A : Type 0} → ℕ → A → (ℕ → A) → A
level zero a f = a
level (suc n) a f = f n

-- one byte back: n brackets are closed further on, s and q are as above. The bracket that is open makes `found`; what
-- is looked for further back is f.
unfoldable pub back_to : {A : Type 0} → ℕ → (ℕ → A) → (ℕ → ℕ → Bool → A) → ℕ → ℕ → Bool → A
back_to b found f n s q =
    cond (closer b) (f (suc n) s false)
    (cond (opener b) (level n (found (around b s q)) (λ m. f m s false))
    (cond (eqb b (code "|")) (level n (f n 1 false) (λ m. f n s false))
    (cond (blank b) (f n s q) (f n s (eqb b (code "q"))))))

-- the same if all that is wanted is the level that is found
abbrev pub back : ℕ → (ℕ → ℕ → Bool → ℕ) → ℕ → ℕ → Bool → ℕ
back b f n s q = back_to b (λ a. a) f n s q

-- the innermost level around the end of the bytes v, which stand last first
unfoldable pub look : List ℕ → ℕ → ℕ → Bool → ℕ
look [] n s q = s
look (b ∷ v) n s q = back b (look v) n s q

-- all levels around it, the innermost first
unfoldable pub levels : List ℕ → ℕ → ℕ → Bool → List ℕ
levels [] n s q = s ∷ []
levels (b ∷ v) n s q = back_to b (λ a. a ∷ levels v 0 0 false) (levels v) n s q

-- w in front of v, its last byte first
unfoldable pub rev : List ℕ → List ℕ → List ℕ
rev [] v = v
rev (b ∷ w) v = rev w (b ∷ v)
