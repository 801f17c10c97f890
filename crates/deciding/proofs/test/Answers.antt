-- `deciding::test` meets its contract: a law for each return.
use mathlib.Core.Path.{◌≡◌, ◌∙◌}
use mathlib.Core.Bool.{Bool, cond}
use Prim.Native.Nat.{◌≤◌, ◌<◌}
use borrow.Author.Tests.{lt-ltb, le-ltb, eq-eqb, ne_eqb}
use lib.ListN.{get_or}
use Rattle.std.specs.Prelude.{Result, Ok, Err}
use Rattle.meaning.specs.Numbers.{most_charts}
use Rattle.meaning.specs.Sums.{any_up_to}
use Rattle.meaning.specs.Meaning.{same}
use Rattle.meaning.specs.Check.{not_below}
use Rattle.checks.specs.declared.refusal.Refusal.{Refusal}
use Rattle.checks.specs.declared.refusal.Refusal.TheVariants as refusal
use Rattle.desk.specs.declared.Case.{Case}
use Rattle.desk.specs.declared.Seen.{Seen}
use Rattle.desk.specs.Turns.{bad_of}
use Rattle.deciding.proofs.test.Goals as goal

bad-long : (s : Seen) (c : Case) → most_charts < c.length → Err refusal.WrongLength ≡ bad_of s c
unfolding bad_of
bad-long s c l = rw (lt-ltb most_charts c.length l)

bad-length : (s : Seen) (c : Case) → c.length ≤ most_charts → (c.length ≡ s.charts → ⊥)
    → Err refusal.WrongLength ≡ bad_of s c
unfolding bad_of same
bad-length s c l n = rw (le-ltb most_charts c.length l, ne_eqb c.length s.charts n)

bad-states : (s : Seen) (c : Case) (t : Bool) (r : Result (Unit {0}) Refusal) → c.length ≤ most_charts
    → c.length ≡ s.charts
    → t ≡ any_up_to c.length (λ k. not_below (get_or c.config k 0) (get_or s.states k 0))
    → r ≡ cond t (Err refusal.BadState) (Ok tt) → r ≡ bad_of s c
unfolding bad_of same
bad-states s c t r l n e g = g ∙ rw (le-ltb most_charts c.length l, eq-eqb c.length s.charts n, e)

pub returns-then-n-gt-CHARTS : goal.returns-then-n-gt-CHARTS
returns-then-n-gt-CHARTS c = bad-long _ _ c.if-n-gt-CHARTS.true

pub returns-then-n-s : goal.returns-then-n-s
returns-then-n-s c = bad-length _ _ c.if-n-gt-CHARTS.false c.if-n-s.true

pub returns-then-bad_state : goal.returns-then-bad_state
returns-then-bad_state c =
    bad-states _ _ _ _ c.if-n-gt-CHARTS.false c.if-n-s.false c.bad_state.ensures (rw c.if-bad_state.true)

pub returns : goal.returns
returns c =
    bad-states _ _ _ _ c.if-n-gt-CHARTS.false c.if-n-s.false c.bad_state.ensures (rw c.if-bad_state.false)

pub bad_state-requires : goal.bad_state-requires
bad_state-requires c = c.if-n-gt-CHARTS.false
