-- `number::put16` meets its contract. Two bytes, one store each: `put_two`.
use native.Mathlib.Omega.{arith}
use lib.ListN.{length-set}
use Rattle.layout.specs.Le.Laws.{put_two}
use Rattle.layout.proofs.number.put16.Goals as goal

pub returns : goal.returns
returns c = put_two c.args.s.now c.args.at c.args.x c.ranges.x.fits

pub bounds-s-at-2 : goal.bounds-s-at-2
bounds-s-at-2 c = simp length-set (omega arith)
