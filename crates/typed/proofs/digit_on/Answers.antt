-- `typed::digit_on` meets its contract: x goes over the quotient exactly if x with the digit behind it goes over the
-- most.
use mathlib.Core.Path.{sym, ap, ◌∙◌}
use Prim.Native.Nat.{ℕ, ◌+◌, ◌*◌, ◌-◌, ◌/◌, ◌≤◌, ◌<◌}
use native.Mathlib.Nat.{le-div_iff_mul-le, div-lt_iff_lt-mul}
use native.Mathlib.Omega.{arith}
use Rattle.std.specs.Prelude.{Some}
use Rattle.typed.specs.Typed.Laws.{digit-none, digit-over, digit_is}
use Rattle.typed.proofs.digit_on.Goals as goal
use Rattle.typed.proofs.digit_on.Goals.{Else-x-most}

module _ (base most x v : ℕ) (p : 0 < base) (h : v ≤ most) where
  over : (most - v) / base < x → most < x * base + v
  over l = omega (arith, (div-lt_iff_lt-mul p).0 l)

  fits : x ≤ (most - v) / base → x * base + v ≤ most
  fits l = omega (arith, (le-div_iff_mul-le p).0 l)

-- the digit has room
room : (c : Else-x-most) → let a = c.args in
    a.x * a.base + c.value-v.result ≤ a.most
room c =
    let a = c.args in
    fits a.base a.most a.x c.value-v.result (omega arith) (omega arith) c.if-x-most.false

pub returns-then-v-base : goal.returns-then-v-base
returns-then-v-base c =
    let a = c.args in
    sym (digit-none a.base a.most a.x a.b (omega (arith, c.value-v.ensures, c.if-v-base.true)))

pub returns-then-x-most : goal.returns-then-x-most
returns-then-x-most c =
    let a = c.args in
    let e = c.value-v.ensures in
    let o =
    over a.base a.most a.x c.value-v.result (omega arith) (omega arith) c.if-x-most.true in
    sym (digit-over a.base a.most a.x a.b (omega (arith, e)) (omega (arith, e, o)))

pub overflow_mul-result : goal.overflow_mul-result
overflow_mul-result c = omega (arith, room (goal.at.overflow_mul-result c).Else-x-most)

pub overflow_add-result : goal.overflow_add-result
overflow_add-result c = omega (arith, room (goal.at.overflow_add-result c).Else-x-most)

pub returns : goal.returns
returns c =
    let a = c.args in
    let e = c.value-v.ensures in
    ap (λ (v : ℕ). Some (a.x * a.base + v)) e
    ∙ sym (digit_is a.base a.most a.x a.b (omega (arith, e)) (omega (arith, e, room (goal.at.returns c).Else-x-most)))
