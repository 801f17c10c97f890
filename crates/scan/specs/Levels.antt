-- How the levels around the end of the bytes change with one byte more: a bracket that is closed, a bar, a state's
-- name.
use Rattle.std.specs.Prelude.{Bool, false, cond, List, [], ◌∷◌, ℕ, zero, suc, ◌+◌, ◌-◌, ◌*◌, ◌/◌, ltb}
use Rattle.notation.specs.Grammar.{blank}
use Rattle.scan.specs.Look.{opener}

-- the levels outside the first n: what is left when n brackets are closed. The level of the whole text is always there.
unfoldable pub below : ℕ → List ℕ → List ℕ
below n [] = 0 ∷ []
below zero (a ∷ l) = a ∷ l
below (suc n) (a ∷ l) = below n l

-- a bar: the level of a second part
unfoldable pub second_of : ℕ → ℕ
second_of a = a / 2 * 2 + 1

-- the first level of a list changed
unfoldable pub on_first : (ℕ → ℕ) → List ℕ → List ℕ
on_first g [] = []
on_first g (a ∷ l) = g a ∷ l

-- a state's name right behind a bracket: the level of a slave's pair instead of that of round brackets
unfoldable pub slave_of : ℕ → ℕ
slave_of a = cond (ltb a 6) a (a - 4)

-- the last byte that is no blank opens a bracket
unfoldable pub fresh : List ℕ → Bool
fresh [] = false
fresh (b ∷ v) = cond (blank b) (fresh v) (opener b)
