-- `deciding::look_at` meets its contract.
use mathlib.Core.Path.{◌≡◌, refl, ◌∙◌}
use mathlib.Core.Bool.{Bool, ◌||◌}
use lib.Dec.{leb}
use Rattle.std.specs.Prelude.{Result}
use Rattle.std.specs.Result.{result_and}
use Rattle.checks.specs.declared.refusal.Refusal.{Refusal}
use Rattle.desk.specs.declared.Case.{Case}
use Rattle.desk.specs.declared.Seen.{Seen}
use Rattle.desk.specs.Posting.{last_row}
use Rattle.desk.specs.Turns.{bad_of, seen_of}
use Rattle.deciding.proofs.look_at.Goals as goal
use Rattle.deciding.proofs.look_at.Goals.{then-s, else-s}

seen_is : (s : Seen) (c : Case) (r b : Result (Unit {0}) Refusal) (e : Bool) → b ≡ bad_of s c
    → r ≡ result_and s.tested b → e ≡ (s.ended || leb last_row c.last)
    → record { tested = r; charts = s.charts; states = s.states; ended = e } ≡ seen_of s c
unfolding seen_of
seen_is s c r b e h g k = rw (g, h, k)

pub returns : goal.returns
returns c =
    elim c.if-s.branch [
      | then-s w ↦
          seen_is c.args.s c.args.c _ _ _ c.test.ensures c.and-tested.ensures (w.ended-is ∙ rw w.if-s.true refl)
      | else-s w ↦
          seen_is c.args.s c.args.c _ _ _ c.test.ensures c.and-tested.ensures (w.ended-is ∙ rw w.if-s.false refl)
    ]
