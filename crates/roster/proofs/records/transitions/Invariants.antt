-- `transitions` meets its contract. The loop's invariant: the transitions of the charts before c are written.
use mathlib.Core.Path.{◌≡◌}
use mathlib.Core.Bool.{false}
use mathlib.Core.List.{List}
use lib.ListN.{length}
use Rattle.layout.specs.Put.{Room}
use Rattle.meaning.specs.Each.{Each}
use Rattle.notation.specs.Syntax.{Sequential}
use Rattle.reading.specs.Names.{sequential?}
use Rattle.reading.specs.Meant.{all}
use Rattle.roster.specs.Roster.{Charted}
use Rattle.roster.specs.Records.{lines_of}
use Rattle.roster.specs.Laws.Laid.{Laid}
use Rattle.roster.proofs.records.transitions.Given as goal

abbrev pub Good : Sequential → Type 0
Good s = sequential? s ≡ false

abbrev pub invariant-loop-c : goal.invariant-loop-c
invariant-loop-c l =
    (length l.out ≡ length l.initial.out)
    × ((ss : List Sequential) → Charted l.text l.r ss → Each Good ss → Room l.initial.out l.at (all lines_of ss)
    → Laid lines_of Good l.text l.r ss l.initial.out l.at l.c l.out l.p)
