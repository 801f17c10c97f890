-- A step of reading, as the numbers of the scan.
use Rattle.std.specs.Prelude.{◌≡◌, Option, Some, None, ℕ}
use Rattle.scan.specs.Scan.{nowhere, pack}
use Rattle.modes.specs.declared.Step.{Step}
use Rattle.modes.specs.declared.Token.{Token}
use Rattle.modes.specs.declared.Token.TheVariants.{Between, D, De, B, Letter, Number}

-- the place in a token
abbrev pub place_of : Token → ℕ
place_of Between = 0
place_of D = 1
place_of De = 2
place_of B = 3
place_of Letter = 4
place_of Number = 5

-- a step as one number
abbrev pub packed : Option Step → ℕ
packed None = nowhere
packed (Some s) = pack s.mode (place_of s.token)

-- r is the number t of the table, none for 255
abbrev pub LeadsTo : ℕ → Option ℕ → Type 0
LeadsTo t None = t ≡ 255
LeadsTo t (Some n) = (t ≡ n) × (t ≡ 255 → ⊥)
