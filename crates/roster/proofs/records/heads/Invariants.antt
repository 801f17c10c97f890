-- `heads` meets its contract. The loop's invariant: the heads of the charts before c are written.
use mathlib.Core.Path.{◌≡◌}
use mathlib.Core.Bool.{false}
use mathlib.Core.List.{List}
use Prim.Native.Nat.{ℕ}
use lib.ListN.{length}
use Rattle.layout.specs.Record.{head_bytes}
use Rattle.layout.specs.Put.{Room}
use Rattle.meaning.specs.Each.{Each}
use Rattle.notation.specs.Syntax.{Sequential}
use Rattle.reading.specs.Names.{sequential?}
use Rattle.reading.specs.Meant.{all, head_for}
use Rattle.roster.specs.Roster.{crowded?, Charted}
use Rattle.roster.specs.Laws.Laid.{Laid}
use Rattle.roster.proofs.records.heads.Given as goal

abbrev pub bytes : Sequential → List ℕ
bytes s = head_bytes (head_for s)

abbrev pub Good : Sequential → Type 0
Good s = (sequential? s ≡ false) × (crowded? s ≡ false)

abbrev pub invariant-loop-c : goal.invariant-loop-c
invariant-loop-c l =
    (length l.out ≡ length l.initial.out)
    × ((ss : List Sequential) → Charted l.text l.r ss → Each Good ss → Room l.initial.out l.at (all bytes ss)
    → Laid bytes Good l.text l.r ss l.initial.out l.at l.c l.out l.p)
