-- Laws of a statement of each member of a list, in this order: of the first member and the others; what follows from
-- it; two statements; two lists.
use Rattle.std.specs.Prelude.{List, [], ◌∷◌, ◌++◌}
use Rattle.meaning.specs.Each.{Each, none, more}

module _ {A : Type 0} {P : A → Type 0} where
  pub each_head : {a : A} {l : List A} → Each P (a ∷ l) → P a
  each_head (more p e) = p

  pub each_tail : {a : A} {l : List A} → Each P (a ∷ l) → Each P l
  each_tail (more p e) = e

  -- what follows from it holds of each as well
  pub each_of : {Q : A → Type 0} {l : List A} → ((a : A) → P a → Q a) → Each P l → Each Q l
  each_of f none = none
  each_of f (more {a} p e) = more (f a p) (each_of f e)

  pub each_both : {Q : A → Type 0} (l : List A) → Each P l → Each Q l → Each (λ a. P a × Q a) l
  each_both [] e f = none
  each_both (a ∷ l) (more p e) (more q f) = more (p, q) (each_both l e f)

  pub each_append : {l m : List A} → Each P l → Each P m → Each P (l ++ m)
  each_append none n = n
  each_append (more p e) n = more p (each_append e n)
