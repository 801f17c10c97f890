-- `line::refused_file` meets its contract.
use native.Mathlib.Omega.{arith}
use Rattle.line.specs.Ascii.{ascii}
use Rattle.line.specs.Line.{file_refused, refused_fields}
use Rattle.line.specs.Line.Laws.{fields_cons, refused_le}
use Rattle.layout.specs.Put.Laws.{put-append, put-over}
use Rattle.line.proofs.refused_file.Goals as goal

pub put_refused-requires : goal.put_refused-requires
put_refused-requires c = omega (arith, refused_le c.args.n (omega arith))

pub returns : goal.returns
unfolding file_refused
returns c =
    let a = c.args in
    let p = put-append c.put_word-next.ensures
    c.put_refused.ensures in
    let h = refused_le a.n (omega arith) in
    rw (fields_cons (ascii "file") (refused_fields a.n)) (put-over p (omega arith))
