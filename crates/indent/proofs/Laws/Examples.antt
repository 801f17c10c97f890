-- The two texts of docs/NOTATION.md 7, laid out by computation: a slave (`slave-shown`), and compositions and hiding
-- (`hiding-shown`).
use Rattle.std.specs.Prelude.{◌≡◌, refl, List, ◌++◌, ℕ}
use Rattle.line.specs.Ascii.{ascii}
use Rattle.indent.specs.Breaks.{counted, round_opened, round_closed, round_ended, brace_opened, parted, of_byte}
use Rattle.indent.specs.Breaks.{closes, behind, break_at, shown_from, shown}

abbrev slave : List ℕ
slave =
    ascii "Dec(c0,{q0,q1},q0,{s1},{(q0,q1,s0/{s1}),(q1,q0,s3/{})})"
    ++ ascii "by{(q1,(c1,{q0,q1},q0,{},{(q0,q1,s1/{s2})}))}"

pub slave-shown : shown slave
    ≡ ascii "Dec(c0,{q0,q1},q0,{s1},{\n"
    ++ ascii "  (q0,q1,s0/{s1}),\n"
    ++ ascii "  (q1,q0,s3/{})\n"
    ++ ascii "})by{\n"
    ++ ascii "  (q1,\n"
    ++ ascii "    (c1,{q0,q1},q0,{},{\n"
    ++ ascii "      (q0,q1,s1/{s2})\n"
    ++ ascii "    }))\n"
    ++ ascii "}\n"
unfolding counted round_opened round_closed round_ended brace_opened parted of_byte closes behind break_at shown_from
slave-shown = refl

abbrev hiding : List ℕ
hiding =
    ascii "{}[((c0,{q0},q0,{},{})|{s1}|(c1,{q0},q0,{},{(q0,q0,s1/{})}))"
    ++ ascii "|{}|(c2,{q0},q0,{},{})]{s2}"

pub hiding-shown : shown hiding
    ≡ ascii "{}[\n"
    ++ ascii "  ((c0,{q0},q0,{},{})|{s1}|\n"
    ++ ascii "    (c1,{q0},q0,{},{\n"
    ++ ascii "      (q0,q0,s1/{})\n"
    ++ ascii "    }))|{}|\n"
    ++ ascii "  (c2,{q0},q0,{},{})\n"
    ++ ascii "]{s2}\n"
unfolding counted round_opened round_closed round_ended brace_opened parted of_byte closes behind break_at shown_from
hiding-shown = refl
