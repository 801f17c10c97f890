-- `is_plain` meets its contract. The loop's invariant: no chart passed has a doubtful pair, and `start` is where the
-- next one's transitions begin.
use mathlib.Core.Path.{◌≡◌}
use mathlib.Core.Bool.{Bool, false}
use mathlib.Core.List.{List}
use Prim.Native.Nat.{ℕ}
use Rattle.layout.specs.Body.{start_of}
use Rattle.layout.specs.declared.body.Shape.{Shape}
use Rattle.meaning.specs.Sums.{any_up_to}
use Rattle.meaning.specs.File.{file_at}
use Rattle.meaning.specs.Plain.{fed_back, any_doubtful}
use Rattle.plain.proofs.is_plain.Given as goal

-- chart c has a doubtful pair
abbrev pub doubted : Shape → List ℕ → ℕ → Bool
doubted n b c = any_doubtful (fed_back (file_at n b)) ((file_at n b).chart c).transitions

abbrev pub invariant-loop-c : goal.invariant-loop-c
invariant-loop-c l = (l.start ≡ start_of l.n l.body l.c) × (any_up_to l.c (doubted l.n l.body) ≡ false)
