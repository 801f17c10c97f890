-- `is_shut` meets its contract: no mask has a bit from 64 on.
use mathlib.Core.Path.{sym}
use Rattle.signals.specs.Mask.Laws.{bit_high}
use Rattle.candidates.proofs.is_shut.Goals as goal

pub returns-then-state-ge-BITS : goal.returns-then-state-ge-BITS
returns-then-state-ge-BITS c =
    sym (bit_high 64 c.args.shut c.args.state c.ranges.shut.fits c.if-state-ge-BITS.true)
