-- `step::lows` meets its contract: the masks passed are cut to the input.
use Rattle.std.proofs.Common.{◌≡◌, ℕ, ◌++◌, map, take, drop}
use Rattle.signals.specs.Mask.{◌∩◌}
use Rattle.stepping.proofs.step.lows.Given as goal

abbrev pub invariant-loop-mask : goal.invariant-loop-mask
invariant-loop-mask l =
    l.mask-items ≡ map (λ (x : ℕ). l.input ∩ x) (take l.mask-index l.fn.down) ++ drop l.mask-index l.fn.down
