use mathlib.Core.Path.{◌≡◌, refl, sym, ap, ◌∙◌}
use mathlib.Core.List.{List, [], ◌∷◌}
use Prim.Native.Nat.{ℕ, suc, ◌+◌, ◌-◌, ◌/◌, ◌%◌, ◌≤◌, ◌<◌}
use native.Mathlib.Nat.{sub-zero, mod-lt}
use native.Mathlib.Omega.{arith}
use lib.ListN.{length, set, length-set}
use lib.Seq.{sets, set_comm}
use Rattle.layout.specs.Le.Laws.{sets-append}
use Rattle.line.specs.Line.{digit, digits}
use Rattle.line.specs.Line.Laws.{length_digits}
use Rattle.line.proofs.put_digits.Goals as goal
use Rattle.line.proofs.put_digits.Goals.{In-loop-i}

-- a byte behind xs may be written before it
set-sets : (l : List ℕ) (at : ℕ) (xs : List ℕ) (k b : ℕ) → at + length xs ≤ k
    → sets (set l k b) at xs ≡ set (sets l at xs) k b
set-sets l at [] k b h = refl
set-sets l at (x ∷ xs) k b h =
    ap (λ (m : List ℕ). sets m (suc at) xs) (set_comm l k at b x (λ e. omega arith))
    ∙ set-sets (set l at x) (suc at) xs k b (omega arith)

-- the lowest digit, and then those above it
lowest-first : (l : List ℕ) (at base k x : ℕ)
    → sets (set l (at + k) (digit (x % base))) at (digits base k (x / base)) ≡ sets l at (digits base (suc k) x)
unfolding digits
lowest-first l at base k x =
    let hs = digits base k (x / base) in
    let e = length_digits base k (x / base) in
    set-sets l at hs (at + k) (digit (x % base)) (omega arith)
    ∙ ap (λ (j : ℕ). set (sets l at hs) (at + j) (digit (x % base))) (sym e)
    ∙ sym (sets-append l at hs (digit (x % base) ∷ []))

pub loop-i-init : goal.loop-i-init
loop-i-init c = (refl, rw sub-zero)

-- a digit is below the base
low : (c : In-loop-i) → c.loop-i.left % c.args.base < 16
low c = omega (arith, mod-lt c.loop-i.left {m = c.args.base} (omega arith))

pub bounds-out-place : goal.bounds-out-place
bounds-out-place c = omega (arith, c.place.ensures)

pub loop-i-preserved : goal.loop-i-preserved
loop-i-preserved c =
    let a = c.args in
    let k = a.n - (c.loop-i.i + 1) in
    let e : a.n - c.loop-i.i ≡ suc k = omega arith in (
      simp length-set c.loop-i.invariant.0,
      rw (c.place.ensures, c.digit.ensures)
          (lowest-first c.loop-i.out a.at a.base k c.loop-i.left ∙ (rw e at c.loop-i.invariant.1)),
    )

pub returns : goal.returns
unfolding digits
returns c =
    let a = c.args in
    let e : a.n - c.loop-i.i ≡ 0 = omega arith in
    record { is = rw e at c.loop-i.invariant.1; place = rw length_digits }

pub nonzero_rem-left : goal.nonzero_rem-left
nonzero_rem-left c = omega arith

pub overflow_cast-left : goal.overflow_cast-left
overflow_cast-left c = omega (arith, low (goal.at.overflow_cast-left c).In-loop-i)

pub digit-requires : goal.digit-requires
digit-requires c = low (goal.at.digit-requires c).In-loop-i

pub place-requires : goal.place-requires
place-requires c = omega arith

pub nonzero_div-left : goal.nonzero_div-left
nonzero_div-left c = omega arith

pub overflow_add-result : goal.overflow_add-result
overflow_add-result c = omega arith

pub shape_of-out : goal.shape_of-out
shape_of-out c = omega arith
