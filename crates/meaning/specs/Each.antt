-- A statement of each member of a list. Laws are in Each/Laws.antt.
use Rattle.std.specs.Prelude.{List, [], ◌∷◌}
pub mod Laws

-- P holds of each member
pub data Each {A : Type 0} (P : A → Type 0) : List A → Type 0 where
  none : Each P []
  more : {a : A} {l : List A} → P a → Each P l → Each P (a ∷ l)
