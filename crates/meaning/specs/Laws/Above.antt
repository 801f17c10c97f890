-- Test 11 over a tree (RULES 3.2): every chart inside a slave has a higher number than the master.
use Rattle.std.specs.Prelude.{◌≡◌, true, ℕ, ◌<◌}
use Rattle.meaning.specs.File.{HasS}
use Rattle.meaning.specs.Meaning.{Tree, Slaves, leaf, comp, hide, dec, nil, snoc}

-- test 11
abbrev mutual
  pub Above : Tree → Type 0
  Above (leaf d) = Unit {0}
  Above (comp p q x) = Above p × Above q
  Above (hide p x y) = Above p
  Above (dec d ss) = ((c : ℕ) → HasS ss c ≡ true → d < c) × AboveS ss

  pub AboveS : Slaves → Type 0
  AboveS nil = Unit {0}
  AboveS (snoc ss i t) = AboveS ss × Above t
