-- `line::put_output` meets its contract.
use native.Mathlib.Omega.{arith}
use Rattle.line.specs.Line.Laws.{length_digits, length_output}
use Rattle.layout.specs.Put.Laws.{put-append}
use Rattle.line.proofs.put_output.Goals as goal

pub put_hex-end-requires : goal.put_hex-end-requires
put_hex-end-requires c =
    let x = c.args.output in
    omega (arith, length_output x, length_digits 16 16 x)

pub put_byte-requires : goal.put_byte-requires
put_byte-requires c =
    let x = c.args.output in
    omega (arith, length_output x, length_digits 16 16 x)

pub returns : goal.returns
returns c =
    put-append c.put_byte-digits.ensures
    (put-append c.put_hex-end.ensures
    c.put_byte.ensures)
