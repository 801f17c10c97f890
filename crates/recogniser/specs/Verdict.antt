-- The recogniser's verdict: the reader's answer without the chart.
use Rattle.std.specs.Prelude.{Result, Ok, Err}
use Rattle.notation.specs.Reader.{Reading, spelt, wrong_at}
use Rattle.recogniser.specs.declared.Wrong.{Wrong}

abbrev pub verdict_of : Reading → Result (Unit {0}) Wrong
verdict_of (spelt t) = Ok tt
verdict_of (wrong_at k) = Err (record { 0 = k })
