-- No two kinds are said by one byte.
use Rattle.std.specs.Prelude.{◌≡◌}
use Rattle.std.proofs.Common.{arith}
use Rattle.layout.specs.Kind.{byte_of}
use Rattle.layout.specs.declared.record.Kind.{Kind}

pub byte-one : (k l : Kind) → byte_of k ≡ byte_of l → k ≡ l
byte-one k l h = grind arith
