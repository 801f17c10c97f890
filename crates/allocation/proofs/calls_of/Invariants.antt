-- `calls_of` meets its contract. The loop's invariant: of the slaves passed the chart's call signals are joined.
use mathlib.Core.Path.{◌≡◌}
use mathlib.Core.Bool.{cond}
use Prim.Native.Nat.{ℕ}
use Rattle.signals.specs.Mask.{single}
use Rattle.meaning.specs.Meaning.{Set, ∅}
use Rattle.meaning.specs.File.{File, file_at}
use Rattle.meaning.specs.Rewriting.{union_up_to, call, is_of}
use Rattle.allocation.proofs.calls_of.Given as goal

-- the call signal of slave i, if it is one of c
abbrev pub part : File → ℕ → ℕ → Set
part F c i = cond (is_of F c i) (single (call F i)) ∅

abbrev pub invariant-loop-i : goal.invariant-loop-i
invariant-loop-i l = l.all ≡ union_up_to l.i (part (file_at l.n l.body) l.c)
