-- A step as one number: none is nowhere, and the number gives its mode and its place in a token.
use Rattle.std.specs.Prelude.{◌≡◌, Some, ◌/◌, ◌%◌, ◌≤◌}
use Rattle.std.proofs.Common.{arith}
use Rattle.scan.specs.Scan.{nowhere, pack}
use Rattle.modes.specs.declared.Step.{Step}
use Rattle.modes.specs.declared.Token.{Token}
use Rattle.modes.specs.declared.Token.TheVariants.{Between, D, De, B, Letter, Number}
use Rattle.modes.specs.Step.{place_of, packed}

place-le : (t : Token) → place_of t ≤ 5
place-le Between = omega arith
place-le D = omega arith
place-le De = omega arith
place-le B = omega arith
place-le Letter = omega arith
place-le Number = omega arith

module _ (s : Step) where
  pub somewhere : packed (Some s) ≡ nowhere → ⊥
  unfolding pack
  somewhere e = omega (arith, place-le s.token)

  pub packed-mode : packed (Some s) / 8 ≡ s.mode
  unfolding pack
  packed-mode = omega (arith, place-le s.token)

  pub packed_place : packed (Some s) % 8 ≡ place_of s.token
  unfolding pack
  packed_place = omega (arith, place-le s.token)
