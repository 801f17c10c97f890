-- `calls_by` meets its contract. The loop's invariant: of the slaves passed the call signals that the transition also
-- outputs are joined.
use mathlib.Core.Path.{◌≡◌}
use mathlib.Core.Bool.{◌&&◌, cond}
use Prim.Native.Nat.{ℕ}
use Rattle.signals.specs.Mask.{single}
use Rattle.layout.specs.declared.record.Transition.{Transition}
use Rattle.meaning.specs.Meaning.{Set, ∅}
use Rattle.meaning.specs.File.{File, file_at}
use Rattle.meaning.specs.Rewriting.{union_up_to, call, is_of, touches}
use Rattle.allocation.proofs.calls_by.Given as goal

-- the call signal of slave i, if t outputs it
abbrev pub part : File → ℕ → Transition → ℕ → Set
part F c t i = cond (is_of F c i && touches F t i) (single (call F i)) ∅

abbrev pub invariant-loop-i : goal.invariant-loop-i
invariant-loop-i l = l.all ≡ union_up_to l.i (part (file_at l.n l.body) l.c l.t)
