-- The limits of the notation that have a name. Each is written here once; its refusals, 50 to 52, are with all others.
use Rattle.std.specs.Prelude.{ℕ}
pub use Rattle.meaning.specs.Numbers.{not_notation, too_deep, bad_name}

-- a chart is nested so deep at most
abbrev pub most_depth : ℕ
most_depth = 16

-- names are c0 to c15, q0 to q15, s0 to s63
abbrev pub named_charts : ℕ
named_charts = 16

abbrev pub named_states : ℕ
named_states = 16

abbrev pub named_signals : ℕ
named_signals = 64
