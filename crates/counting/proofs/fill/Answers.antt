use mathlib.Core.Path.{refl, sym}
use Rattle.counting.specs.Counting.Laws.{none_stored}
use Rattle.counting.proofs.fill.Goals as goal

pub loop-k-init : goal.loop-k-init
loop-k-init c =
    let a = c.args in
    (refl, sym c.requires.0.summed, none_stored a.n a.body.now a.config.now a.counts.now, c.requires.2)
