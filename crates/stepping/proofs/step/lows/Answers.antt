use Rattle.std.proofs.Common.{arith, get_or}
use Rattle.std.proofs.lemmas.List.{get_or_default}
use Rattle.std.proofs.lemmas.List.Edits.{map_over_more}
use Rattle.signals.specs.Mask.{◌∩◌}
use Rattle.stepping.proofs.step.lows.Goals as goal

pub loop-mask-preserved : goal.loop-mask-preserved
loop-mask-preserved c =
    let m = c.loop-mask.mask-items in
    let i = c.loop-mask.mask-index in
    map_over_more (λ x. c.args.input ∩ x) c.args.down m i (get_or m i 0) (omega arith) c.loop-mask.invariant
    (get_or_default m i 0 _ (omega arith))
