-- `step::found` meets its contract: the tables hold the file's wiring and candidates, and the search is told which
-- charts may stay, none but in the second edition; so what it finds answers the step.
use mathlib.Core.List.{List, []}
use Prim.Native.Nat.{ℕ}
use borrow.Author.Rules.{rules}
use lib.ListN.{replicate}
use Rattle.cells.specs.Triggers.{stays_size}
use Rattle.candidates.specs.Candidates.Laws.{searchable}
use Rattle.staying.specs.Staying.{Stays}
use Rattle.staying.specs.Staying.Laws.{stays_none}
use Rattle.stepping.specs.Step.Laws.{prepared_again, found_here}
use Rattle.stepping.proofs.step.found.Goals as goal
use Rattle.stepping.proofs.step.found.Goals.{Else-n}

pub choose-requires : goal.choose-requires
choose-requires c =
    (c.requires.1, c.requires.2.tabled, c.requires.4.mays, c.requires.4.sure, search rules)

pub found_staying-requires : goal.found_staying-requires
found_staying-requires c =
    let k = c.choose.ensures in
    (c.requires.1, searchable k)

pub returns-then-n : goal.returns-then-n
returns-then-n c =
    let q = c.found_staying.ensures in (
      rw q.found
          (found_here _ _ _ _ _ _ _ _ _ _ _ _ c.requires.0.sized c.requires.2 c.choose.ensures
          (λ i. (c.type_inv.body i).fits) c.requires.0
          _ c.ranges.input.fits c.lows-low.ensures q.guards q.stays _ q.told c.requires.4.mays c.requires.3
          c.requires.4.read),
      prepared_again _ _ _ _ _ _ _ _ _ _ _ _ c.requires.0.sized c.requires.2 c.choose.ensures,
    )

-- no chart may stay
none : (c : Else-n) → (m : List ℕ)
    → Stays c.args.n c.args.body.now c.args.config.now c.args.may.now c.choose.new.low c.args.shuts.now m []
    (replicate stays_size 0)
none c = λ m. stays_none _ _ _ _ c.args.may.now _ m [] c.requires.0.sized.charts c.if-n.false

pub searched-requires : goal.searched-requires
searched-requires c =
    let k = c.choose.ensures in (
      searchable k,
      c.requires.0.sized.charts,
      (none (goal.at.searched-requires c).Else-n []).guards,
    )

pub returns : goal.returns
returns c = (
  rw c.searched.ensures
      (found_here _ _ _ _ _ _ _ _ _ _ _ _ c.requires.0.sized c.requires.2 c.choose.ensures
      (λ i. (c.type_inv.body i).fits) c.requires.0
      _ c.ranges.input.fits c.lows-low.ensures [] (replicate stays_size 0) _ (none (goal.at.returns c).Else-n _) c.requires.4.mays
      c.requires.3 c.requires.4.read),
  prepared_again _ _ _ _ _ _ _ _ _ _ _ _ c.requires.0.sized c.requires.2 c.choose.ensures,
)
