-- `levels::marked` meets its contract: the last mark is replaced, or there is one more.
use Prim.Native.Nat.{◌<◌}
use native.Mathlib.Omega.{arith}
use Rattle.levels.specs.Laws.Marks.{marks_join, marks_push}
use Rattle.levels.proofs.marked.Goals as goal
use Rattle.levels.proofs.marked.Goals.{Else-joins, Then-joins}

joined : (c : Then-joins) → 0 < c.args.t
joined c = c.joins.ensures.0 c.if-joins.true

new : (c : Else-joins) → c.args.t < 512
new c = c.joins.ensures.1 c.if-joins.false

pub returns-then-joins : goal.returns-then-joins
returns-then-joins c =
    λ text floor f g u h. marks_join text _ _ _ _ floor h _ _ f u _ (let z = joined (goal.at.returns-then-joins c).Then-joins in omega arith)

pub returns : goal.returns
returns c =
    λ text floor f g u h. marks_push text _ _ _ _ floor h _ _ f u (new (goal.at.returns c).Else-joins) g

pub overflow_sub-i : goal.overflow_sub-i
overflow_sub-i c = let z = joined (goal.at.overflow_sub-i c).Then-joins in omega arith

pub bounds-lasts-i : goal.bounds-lasts-i
bounds-lasts-i c = let z = joined (goal.at.bounds-lasts-i c).Then-joins in omega arith

pub bounds-tops-i : goal.bounds-tops-i
bounds-tops-i c = let z = joined (goal.at.bounds-tops-i c).Then-joins in omega arith

pub bounds-firsts-t : goal.bounds-firsts-t
bounds-firsts-t c = new (goal.at.bounds-firsts-t c).Else-joins

pub bounds-lasts-t : goal.bounds-lasts-t
bounds-lasts-t c = new (goal.at.bounds-lasts-t c).Else-joins

pub bounds-tops-t : goal.bounds-tops-t
bounds-tops-t c = new (goal.at.bounds-tops-t c).Else-joins

pub overflow_add-result : goal.overflow_add-result
overflow_add-result c = let z = new (goal.at.overflow_add-result c).Else-joins in omega arith
