-- `plan::hide` meets its contract: the charts below c that are in the set are done.
use mathlib.Core.Path.{◌≡◌}
use mathlib.Core.Bool.{Bool, cond}
use mathlib.Core.List.{List}
use Prim.Native.Nat.{ℕ, ◌≤◌, ◌<◌}
use lib.ListN.{length, get_or}
use Rattle.signals.specs.Mask.{◌∖◌, bit}
use Rattle.meaning.specs.Numbers.{most_charts}
use Rattle.meaning.specs.Meaning.{Set}
use Rattle.cells.specs.Table.{back_at, up_at}
use Rattle.plan.proofs.hide.Given as goal

-- what a chart is left of v, by whether it is in the set
abbrev pub left : Bool → Set → Set → Set
left b v x = cond b (v ∖ x) v

-- the first n charts are done
pub record Hidden (n : ℕ) (s x y : Set) (r q l m : List ℕ) : Type 0 where
  pub down_is : (c : ℕ) → c < n → get_or q c 0 ≡ left (bit s c) (get_or r c 0) x
  pub down_rest : (c : ℕ) → n ≤ c → get_or q c 0 ≡ get_or r c 0
  pub up_is : (d : ℕ) → d < n → up_at m d ≡ left (bit s d) (up_at l d) y
  pub up_rest : (d : ℕ) → n ≤ d → up_at m d ≡ up_at l d
  pub back_is : (c d : ℕ) → c < most_charts → back_at m c d ≡ back_at l c d
  pub long : length q ≡ length r

abbrev pub invariant-loop-c : goal.invariant-loop-c
invariant-loop-c l = (length l.masks ≡ length l.initial.masks) × Hidden l.c l.set l.x l.y l.initial.down l.down l.initial.masks l.masks
