use mathlib.Core.Path.{◌≡◌, refl, ◌∙◌}
use mathlib.Core.List.{append-nil}
use Prim.Native.Nat.{◌+◌}
use native.Mathlib.Omega.{arith}
use lib.ListN.{get_or}
use Rattle.meaning.specs.Numbers.{most_charts}
use Rattle.meaning.specs.Calls.{made}
use Rattle.settling.specs.Trail.Laws.{made_filled}
use Rattle.search.proofs.bytes_at.Goals as goal

pub loop-c-init : goal.loop-c-init
unfolding made
loop-c-init c = refl

pub loop-c-preserved : goal.loop-c-preserved
loop-c-preserved c =
    let a = c.args in made_filled most_charts 0 (λ d. get_or a.best.now (a.at + d) 0) c.loop-c.c c.loop-c.row (omega arith)
    c.loop-c.invariant

pub returns : goal.returns
returns c = let e : c.loop-c.c ≡ most_charts = omega arith in rw e at c.loop-c.invariant ∙ append-nil _

pub overflow_add-row : goal.overflow_add-row
overflow_add-row c = omega arith

pub bounds-best-at : goal.bounds-best-at
bounds-best-at c = omega arith

pub bounds-row-c : goal.bounds-row-c
bounds-row-c c = omega arith
