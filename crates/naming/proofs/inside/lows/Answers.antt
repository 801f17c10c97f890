use mathlib.Core.Path.{refl}
use native.Mathlib.Omega.{arith}
use lib.ListN.{length-set}
use Rattle.meaning.specs.File.{file_at, tree_of}
use Rattle.naming.specs.Inside.{lowest}
use Rattle.layout.specs.Row.Laws.{fill_more}
use Rattle.naming.proofs.inside.lows.Goals as goal

pub loop-j-init : goal.loop-j-init
loop-j-init c = (refl, record { at = λ k h. absurd (omega arith) })

pub loop-j-preserved : goal.loop-j-preserved
loop-j-preserved c =
    let a = c.args in (
      simp length-set c.loop-j.invariant.0,
      record {
        at = fill_more (λ k. lowest (tree_of (file_at a.n a.body.now) k)) c.loop-j.low c.loop-j.j _
            c.loop-j.invariant.1.at c.lowest.ensures (omega arith);
      },
    )

pub returns : goal.returns
returns c = record { at = λ k h. c.loop-j.invariant.1.at k (omega arith) }
