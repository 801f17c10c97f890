use mathlib.Core.Path.{◌≡◌, refl, sym, ◌∙◌}
use mathlib.Core.List.{List}
use Prim.Native.Nat.{ℕ, ◌+◌, ◌≤◌, ◌<◌}
use native.Mathlib.Numerals.{add-one}
use native.Mathlib.Omega.{arith}
use lib.ListN.{length, get_or, drop, drop_of_length-le}
use lib.Seq.{drop-cons}
use Rattle.typed.specs.Typed.{digit_on, digits_on}
use Rattle.std.specs.Prelude.{Option}
use Rattle.std.specs.Prelude.{Some, None}
use Rattle.typed.proofs.digits.Goals as goal

module _ (base most x : ℕ) (w : List ℕ) (i : ℕ) (h : i < length w) (r : Option ℕ)
    (e : r ≡ digit_on base most x (get_or w i 0)) where
  read_wrong : r ≡ None → digits_on base most x (drop i w) ≡ None
  unfolding digits_on
  read_wrong p = rw (drop-cons w i 0 h, ← e, p)

  read_on : (y : ℕ) → r ≡ Some y → digits_on base most x (drop i w) ≡ digits_on base most y (drop (i + 1) w)
  unfolding digits_on
  read_on y p = rw (add-one, drop-cons w i 0 h, ← e, p)

read_all : (base most x : ℕ) (w : List ℕ) (i : ℕ) → length w ≤ i → digits_on base most x (drop i w) ≡ Some x
unfolding digits_on
read_all base most x w i h = rw (drop_of_length-le w h)

pub returns-in_err-x : goal.returns-in_err-x
returns-in_err-x c =
    let a = c.args in
    rw c.from_residual.ensures
    (sym (c.loop-i.invariant ∙ read_wrong a.base a.most c.loop-i.x a.word.now c.loop-i.i c.loop-i-test.true _
    c.in_err-x.ensures refl))

pub loop-i-preserved : goal.loop-i-preserved
loop-i-preserved c =
    let a = c.args in
    c.loop-i.invariant ∙ read_on a.base a.most c.loop-i.x a.word.now c.loop-i.i c.loop-i-test.true _
    c.in_ok-x.ensures _ refl

pub returns : goal.returns
returns c =
    let a = c.args in
    sym (c.loop-i.invariant ∙ read_all a.base a.most c.loop-i.x a.word.now c.loop-i.i c.loop-i-test.false)

pub loop-i-init : goal.loop-i-init
loop-i-init c = refl

pub bounds-word-i : goal.bounds-word-i
bounds-word-i c = omega arith
