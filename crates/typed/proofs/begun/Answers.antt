-- `typed::begun` meets its contract.
use mathlib.Core.Path.{◌≡◌, refl}
use mathlib.Core.Bool.{true, false, not}
use mathlib.Core.List.{List, [], ◌∷◌}
use Prim.Native.Nat.{ℕ}
use Prim.Native.Char.{code}
use native.Mathlib.Omega.{arith}
use lib.ListN.{length, get_or}
use lib.Dec.{eqb}
use Rattle.meaning.specs.Meaning.{same}
use Rattle.typed.specs.Typed.{begun}
use Rattle.typed.proofs.begun.Goals as goal

none : (w : List ℕ) → length w ≡ 0 → false ≡ begun w
unfolding begun
none [] h = refl
none (b ∷ w) h = absurd (omega arith)

one : (w : List ℕ) → length w ≡ 1 → true ≡ begun w
unfolding begun
one [] h = absurd (omega arith)
one (b ∷ []) h = refl
one (b ∷ c ∷ w) h = absurd (omega arith)

more : (w : List ℕ) → (length w ≡ 0 → ⊥) → (length w ≡ 1 → ⊥) → not (eqb (get_or w 0 0) (code "0")) ≡ begun w
unfolding begun same
more [] h k = absurd (h refl)
more (b ∷ []) h k = absurd (k refl)
more (b ∷ c ∷ w) h k = refl

pub returns-then-n-eq0 : goal.returns-then-n-eq0
returns-then-n-eq0 c = none c.args.word.now c.if-n-eq0.true

pub returns-then-n-eq1 : goal.returns-then-n-eq1
returns-then-n-eq1 c = one c.args.word.now c.if-n-eq1.true

pub returns : goal.returns
returns c = more c.args.word.now c.if-n-eq0.false c.if-n-eq1.false
