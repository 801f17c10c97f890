-- Texts and the reader's answers, by computation, as one table and one claim (`examples`): what is a text, and the
-- place of the first wrong byte of what is none.
use Rattle.std.specs.Prelude.{◌≡◌, refl, List, [], ◌∷◌, ◌++◌, map, ℕ}
use Rattle.std.proofs.Math.Option.{Option, none, some}
use Rattle.line.specs.Ascii.{ascii}
use Rattle.notation.specs.Grammar.{letter, blank}
use Rattle.notation.specs.Reader.{Reading, spelt, wrong_at, reader, read_from, at_end, on_to, step, step_gap, begin}
use Rattle.notation.specs.Reader.{onward, behind, first_byte, is_digit, ending, final, ways, last_set, follow, close}
use Rattle.notation.specs.Reader.{set_end, sequential_end, add_slave, ◌▸?◌}

-- the smallest chart, 18 bytes
abbrev A : List ℕ
A = ascii "(c0,{q0},q0,{},{})"

-- none if the text spells a chart, or the place of its first wrong byte
abbrev pub place_in : Reading → Option ℕ
place_in (spelt t) = none
place_in (wrong_at k) = some k

pub texts : List (List ℕ)
texts =
    A
    -- blanks before, between and behind the tokens
    ∷ ascii " \r\n(c0 ,\n{q0} ,q0,{},{ } )\n "
    -- a guard that is left out, a guard of two literals, an extra set
    ∷ ascii "(c0,{q0,q1},q0,{s1},{(q0,q1,/{}),(q1,q0,-s1&s2/{s3})},{s9})"
    -- a number of any size
    ∷ ascii "(c99999999999999999999999,{q0},q0,{},{})"
    -- hiding sets left out and given
    ∷ (ascii "[{s1,s1}[" ++ (A ++ ascii "]]{}"))
    -- a composition in round brackets only breaks off: it has to be a part
    ∷ (ascii "(" ++ (A ++ (ascii "|{}|" ++ (A ++ ascii ")"))))
    -- a third part: at the bar
    ∷ (A ++ (ascii "|{}|" ++ (A ++ (ascii "|{}|" ++ A))))
    -- two pairs of brackets around a part: at the second closing one
    ∷ (ascii "((" ++ (A ++ (ascii "|{}|" ++ (A ++ (ascii "))|{}|" ++ A)))))
    -- a leading zero
    ∷ ascii "(c01"
    -- no state, no slave
    ∷ ascii "(c0,{}"
    ∷ (ascii "Dec" ++ (A ++ ascii "by{}"))
    -- a master that is not sequential
    ∷ (ascii "Dec[" ++ (A ++ ascii "]"))
    -- a word with a blank inside
    ∷ ascii "D ec"
    -- no text at all
    ∷ []
    ∷ []

pub places : List (Option ℕ)
places =
    none ∷ none ∷ none ∷ none ∷ none
    ∷ some 42 ∷ some 40 ∷ some 43 ∷ some 3 ∷ some 5 ∷ some 24 ∷ some 3 ∷ some 1 ∷ some 0 ∷ []

pub examples : map (λ w. place_in (reader w)) texts ≡ places
unfolding texts places letter blank reader read_from at_end on_to step step_gap begin onward behind first_byte is_digit
    ending final ways last_set follow close set_end sequential_end add_slave ◌▸?◌
examples = refl
