use mathlib.Core.Path.{◌≡◌, refl, sym, ap, ◌∙◌}
use mathlib.Core.List.{List}
use Prim.Native.Nat.{ℕ, ◌+◌, ◌-◌, ◌≤◌}
use native.Mathlib.Omega.{arith}
use lib.ListN.{length, take, drop}
use Rattle.signals.specs.Mask.{◌∪◌, single}
use Rattle.typed.specs.Typed.{signal_of, signals_on, split, comma}
use Rattle.typed.specs.Typed.Laws.{signal_most}
use Rattle.typed.specs.Parts.{Ends, behind_more, behind-none}
use Rattle.std.specs.Prelude.{Option}
use Rattle.std.specs.Prelude.{Some, None}
use Rattle.typed.proofs.signal_list.Goals as goal
use Rattle.typed.proofs.signal_list.Goals.{In_ok-n}

module _ (s : ℕ) (w : List ℕ) (at e : ℕ) (h : Ends comma w at e) (r : Option ℕ)
    (q : r ≡ signal_of (take (e - at) (drop at w))) where
  list_wrong : r ≡ None → signals_on s (split comma (drop at w)) ≡ None
  unfolding signals_on
  list_wrong p = rw (h.parts, ← q, p)

  list_last : (n : ℕ) → r ≡ Some n → e ≡ length w → signals_on s (split comma (drop at w)) ≡ Some (s ∪ single n)
  unfolding signals_on
  list_last n p l = rw (h.parts, ← q, p, behind-none comma w e (omega arith))

  list_more : (n : ℕ) → r ≡ Some n → (e ≡ length w → ⊥)
      → signals_on s (split comma (drop at w)) ≡ signals_on (s ∪ single n) (split comma (drop (e + 1) w))
  unfolding signals_on
  list_more n p l = rw (h.parts, ← q, p, behind_more comma w e (omega (arith, h.within)))

pub returns-in_err-n : goal.returns-in_err-n
returns-in_err-n c =
    rw c.from_residual.ensures
    (sym (c.loop-n.invariant.1 ∙ list_wrong c.loop-n.set _ c.loop-n.at _ c.end-e.ensures _ c.in_err-n.ensures refl))

-- the signal is below 64
small : (c : In_ok-n) → c.in_ok-n.n ≤ 63
small c = signal_most _ _ (sym c.in_ok-n.ensures)

pub returns-then-e-word : goal.returns-then-e-word
returns-then-e-word c =
    let m = list_last c.loop-n.set _ c.loop-n.at _ c.end-e.ensures _ c.in_ok-n.ensures _ refl
    c.if-e-word.true in
    ap (λ (x : ℕ). Some x) c.with-set.ensures ∙ sym (c.loop-n.invariant.1 ∙ m)

pub loop-n-preserved : goal.loop-n-preserved
loop-n-preserved c =
    let m =
    list_more c.loop-n.set _ c.loop-n.at _ c.end-e.ensures _ c.in_ok-n.ensures _ refl c.if-e-word.false in
    (omega (arith, c.end-e.ensures.within, c.if-e-word.false), rw c.with-set.ensures (c.loop-n.invariant.1 ∙ m))

pub loop-n-init : goal.loop-n-init
loop-n-init c = (omega arith, refl)

pub overflow_cast-n : goal.overflow_cast-n
overflow_cast-n c = omega (arith, small (goal.at.overflow_cast-n c).In_ok-n)

pub with-set-requires : goal.with-set-requires
with-set-requires c = omega (arith, small (goal.at.with-set-requires c).In_ok-n)
