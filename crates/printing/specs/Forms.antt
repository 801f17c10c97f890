-- Forms by the numbers of a file: a literal, the states of a chart, its heading.
use Rattle.std.specs.Prelude.{Bool, true, false, cond, [], ◌∷◌, ℕ}
use Rattle.layout.specs.declared.record.Head.{Head}
use Rattle.meaning.specs.Meaning.{same}
use Rattle.notation.specs.Syntax.{OneOrMore, one, Literal, needed, barred, Heading}
use Rattle.spelling.specs.Typed.{from_all, followed, signals_of}

-- a signal in a guard
abbrev pub literal_of : Bool → ℕ → Literal
literal_of true s = barred s
literal_of false s = needed s

-- states below a number, the initial one first
abbrev pub initial_first : ℕ → ℕ → OneOrMore ℕ
initial_first count initial = followed (one initial) (from_all count (λ q. cond (same q initial) [] (q ∷ [])))

-- the heading of chart c, which has the head h
abbrev pub heading_of : ℕ → Head → Heading
heading_of c h =
    record {
      name = c;
      states = initial_first h.states h.initial;
      initial = h.initial;
      feedback = signals_of h.feedback;
    }
