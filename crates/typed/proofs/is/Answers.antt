-- `typed::is` meets its contract: std compares lists element by element, as `eq_list` does.
use mathlib.Core.Path.{◌≡◌, refl, ap, ◌∙◌}
use mathlib.Core.Bool.{◌&&◌}
use mathlib.Core.List.{List, [], ◌∷◌}
use Prim.Native.Nat.{ℕ}
use lib.Dec.{eqb}
use lib.Pointwise.{pointwise}
use Rattle.meaning.specs.Meaning.{same, eq_list}
use Rattle.typed.proofs.is.Goals as goal

by_elements : (v w : List ℕ) → pointwise eqb v w ≡ eq_list v w
unfolding eq_list same
by_elements [] [] = refl
by_elements [] (b ∷ w) = refl
by_elements (a ∷ v) [] = refl
by_elements (a ∷ v) (b ∷ w) = ap (eqb a b &&◌) (by_elements v w)

pub returns : goal.returns
returns c = c.eq.ensures ∙ by_elements c.args.word.now c.args.other.now
