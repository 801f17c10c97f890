-- `deciding::take_one` meets its contract.
use mathlib.Core.Path.{◌≡◌, refl}
use mathlib.Core.Bool.{Bool, ◌||◌}
use mathlib.Core.List.{List}
use Prim.Native.Nat.{ℕ}
use lib.Dec.{leb}
use Rattle.meaning.specs.Meaning.{Set}
use Rattle.desk.specs.declared.Entry.{Entry}
use Rattle.desk.specs.declared.Day.{Day}
use Rattle.desk.specs.Turns.{joined_at, taken_of}
use Rattle.deciding.proofs.take_one.Goals as goal

taken_is : (n : ℕ) (d : Day) (e : Entry) (l : List Set) (t : Bool) → l ≡ joined_at d.sets e.number e.signals
    → t ≡ (d.outside || leb n e.number)
    → record { sets = l; outside = t } ≡ taken_of n d e
unfolding taken_of
taken_is n d e l t h g = rw (h, g)

pub returns-then-d : goal.returns-then-d
returns-then-d c = taken_is c.args.n c.args.d c.args.e _ _ c.joined_at-sets.ensures (rw c.if-d.true refl)

pub returns-else-d : goal.returns-else-d
returns-else-d c = taken_is c.args.n c.args.d c.args.e _ _ c.joined_at-sets.ensures (rw c.if-d.false refl)
