-- What holds of each member of a list holds of those picked by a key (`each_with`), and of those of the sorted list
-- (`each_sorted`).
use Rattle.std.specs.Prelude.{Bool, cond, eqb}
use Rattle.std.proofs.Math.Bool.{true, false}
use mathlib.Core.List.{List, [], ◌∷◌}
use Prim.Native.Nat.{ℕ, zero, suc}
use Rattle.meaning.specs.Each.{Each, none, more}
use Rattle.meaning.specs.Each.Laws.{each_append}
use Rattle.reading.specs.Meant.{with_key, sorted_by}

module _ {A : Type 0} (key : A → ℕ) where
  pub each_with : {P : A → Type 0} (k : ℕ) (l : List A) → Each P l → Each P (with_key key k l)
  unfolding with_key
  each_with k [] e = none
  each_with {P} k (a ∷ l) (more p e) = go (eqb (key a) k) (each_with k l e)
    where
      go : (b : Bool) → Each P (with_key key k l) → Each P (cond b (a ∷ with_key key k l) (with_key key k l))
      go true i = more p i
      go false i = i

  pub each_sorted : {P : A → Type 0} (n : ℕ) (l : List A) → Each P l → Each P (sorted_by key n l)
  unfolding sorted_by
  each_sorted zero l e = none
  each_sorted (suc n) l e = each_append (each_sorted n l e) (each_with n l e)
