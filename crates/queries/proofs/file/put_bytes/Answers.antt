use mathlib.Core.Path.{◌≡◌, refl}
use native.Mathlib.Omega.{arith}
use Rattle.meaning.specs.Calls.{made}
use Rattle.meaning.specs.Calls.Laws.{length-made, made_store}
use Rattle.queries.proofs.file.put_bytes.Goals as goal

pub loop-c-init : goal.loop-c-init
unfolding made
loop-c-init g c = refl

pub loop-c-preserved : goal.loop-c-preserved
loop-c-preserved g c = rw (c.loop-c.invariant, c.requires.1.1.0 _ _ c.of.ensures, c.head_at.ensures) (made_store _ _ _ (omega arith))

pub returns : goal.returns
returns g c =
    let e : c.loop-c.c ≡ c.args.n.charts = omega arith in
    rw (length-made) (rw e at c.loop-c.invariant)
