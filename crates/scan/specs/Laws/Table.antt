-- The table is right: the rows of a state's number are the ways on from the state (`table-right`).
use Rattle.std.specs.Prelude.{◌≡◌, refl, Bool, true, false, List, [], ◌∷◌, ℕ, ◌+◌, eqb}
use Rattle.std.proofs.Math.Option.{none, some}
use Rattle.notation.specs.Grammar.{letter}
use Rattle.notation.specs.Syntax.{Single, sequential, decomposed, hidden}
use Rattle.notation.specs.Reader.{whole, in_slave, in_hiding, in_brackets, first_in, second_in, Role, alone, master}
use Rattle.notation.specs.Reader.{Slot}
use Rattle.notation.specs.Reader.{feedback, action, extra, between, hide_x, hide_y, State, part, opened, ended, boxed}
use Rattle.notation.specs.Reader.{joined, with_x, dec_of, dec_open, dec_by, dec_brace, pair_open, pair_state}
use Rattle.notation.specs.Reader.{pair_comma}
use Rattle.notation.specs.Reader.{pair_done, named, states_open, states_next, states_more, states_done, initial_next}
use Rattle.notation.specs.Reader.{initial_done, head_done, lines_open, lines_first, lines_next, line_done, lines_done}
use Rattle.notation.specs.Reader.{extra_done, from_next, from_done, to_next, to_done, guard_first, guard_next}
use Rattle.notation.specs.Reader.{guard_barred}
use Rattle.notation.specs.Reader.{guard_done, action_done, set_next, set_first, set_more, set_comma, Way, on, read}
use Rattle.notation.specs.Reader.{sequential_end, set_end, close, follow, last_set, ways, first_byte}
use Rattle.scan.specs.Laws.Look.{enclosure_number, context_number}
use Rattle.scan.specs.Table.{Row, row, rows_of, numbers, table, refine}

unfoldable pub role_number : Role → ℕ
role_number (alone g) = 0
role_number (master g) = 1

unfoldable pub slot_number : Slot → ℕ
slot_number (feedback m c qs i) = 0 + role_number m
slot_number (action m h ts p q g) = 2 + role_number m
slot_number (extra m h ts) = 4 + role_number m
slot_number (between h a) = 6
slot_number (hide_x g) = 7
slot_number (hide_y g x t) = 8

unfoldable pub end_number : Single → ℕ
end_number (sequential s) = 2
end_number (decomposed s ps) = 2
end_number (hidden x t none) = 3
end_number (hidden x t (some y)) = 2

unfoldable pub mode : State → ℕ
mode (part g) = 0
mode (opened g) = 1
mode (ended g s) = end_number s
mode (boxed g a x b) = 4
mode (joined h a x) = 5
mode (with_x g x) = 6
mode (dec_of g) = 7
mode (dec_open g) = 8
mode (dec_by g s) = 9
mode (dec_brace g s) = 10
mode (pair_open g s ps) = 11
mode (pair_state g s ps) = 12
mode (pair_comma g s ps q) = 13
mode (pair_done g s ps) = 14
mode (named m c) = 15 + role_number m
mode (states_open m c) = 17 + role_number m
mode (states_next m c qs) = 19 + role_number m
mode (states_more m c qs) = 21 + role_number m
mode (states_done m c qs) = 23 + role_number m
mode (initial_next m c qs) = 25 + role_number m
mode (initial_done m c qs i) = 27 + role_number m
mode (head_done m h) = 29 + role_number m
mode (lines_open m h) = 31 + role_number m
mode (lines_first m h) = 33 + role_number m
mode (lines_next m h ts) = 35 + role_number m
mode (line_done m h ts) = 37 + role_number m
mode (lines_done m h ts) = 39 + role_number m
mode (extra_done m h ts x) = 41 + role_number m
mode (from_next m h ts) = 43 + role_number m
mode (from_done m h ts p) = 45 + role_number m
mode (to_next m h ts p) = 47 + role_number m
mode (to_done m h ts p q) = 49 + role_number m
mode (guard_first m h ts p q) = 51 + role_number m
mode (guard_next m h ts p q g) = 53 + role_number m
mode (guard_barred m h ts p q g) = 55 + role_number m
mode (guard_done m h ts p q g) = 57 + role_number m
mode (action_done m h ts p q g x) = 59 + role_number m
mode (set_next w) = 61 + slot_number w
mode (set_first w) = 70 + slot_number w
mode (set_more w ns) = 79 + slot_number w
mode (set_comma w ns) = 88 + slot_number w

-- what encloses the part that a state stands behind
unfoldable pub enclosing : State → ℕ
enclosing (part g) = 0
enclosing (opened g) = 0
enclosing (ended g s) = context_number g
enclosing (boxed g a x b) = context_number g
enclosing (joined h a x) = 0
enclosing (with_x g x) = 0
enclosing (dec_of g) = 0
enclosing (dec_open g) = 0
enclosing (dec_by g s) = 0
enclosing (dec_brace g s) = 0
enclosing (pair_open g s ps) = 0
enclosing (pair_state g s ps) = 0
enclosing (pair_comma g s ps q) = 0
enclosing (pair_done g s ps) = 0
enclosing (named m c) = 0
enclosing (states_open m c) = 0
enclosing (states_next m c qs) = 0
enclosing (states_more m c qs) = 0
enclosing (states_done m c qs) = 0
enclosing (initial_next m c qs) = 0
enclosing (initial_done m c qs i) = 0
enclosing (head_done m h) = 0
enclosing (lines_open m h) = 0
enclosing (lines_first m h) = 0
enclosing (lines_next m h ts) = 0
enclosing (line_done m h ts) = 0
enclosing (lines_done m h ts) = 0
enclosing (extra_done m h ts x) = 0
enclosing (from_next m h ts) = 0
enclosing (from_done m h ts p) = 0
enclosing (to_next m h ts p) = 0
enclosing (to_done m h ts p q) = 0
enclosing (guard_first m h ts p q) = 0
enclosing (guard_next m h ts p q g) = 0
enclosing (guard_barred m h ts p q g) = 0
enclosing (guard_done m h ts p q g) = 0
enclosing (action_done m h ts p q g x) = 0
enclosing (set_next w) = 0
enclosing (set_first w) = 0
enclosing (set_more w ns) = 0
enclosing (set_comma w ns) = 0

-- a state's number, with what encloses it
unfoldable pub full : State → ℕ
full p = refine (mode p) (enclosing p)

unfoldable pub keep_if : Bool → Row → List Row → List Row
keep_if true r rs = r ∷ rs
keep_if false r rs = rs

-- the rows that begin in m
unfoldable pub rows_from : ℕ → List Row → List Row
rows_from m [] = []
rows_from m (r ∷ rs) = keep_if (eqb r.from m) r (rows_from m rs)

unfoldable pub way_row : ℕ → Way → Row
way_row m (on k p) = row m (first_byte k) (mode p)
way_row m (read l f) = row m (letter l) (mode (f 0))

unfoldable pub way_rows : ℕ → List Way → List Row
way_rows m [] = []
way_rows m (a ∷ ws) = way_row m a ∷ way_rows m ws

pub table-right : (p : State) → rows_from (full p) table ≡ way_rows (full p) (ways p)
unfolding rows_from keep_if way_rows way_row full refine mode enclosing role_number slot_number end_number
    enclosure_number context_number table rows_of numbers ways first_byte letter last_set follow close sequential_end
    set_end
table-right (part g) = refl
table-right (opened g) = refl
table-right (ended (first_in whole) (sequential s)) = refl
table-right (ended (first_in whole) (decomposed s us)) = refl
table-right (ended (first_in whole) (hidden u t none)) = refl
table-right (ended (first_in whole) (hidden u t (some y))) = refl
table-right (ended (first_in (in_slave m ps q g)) (sequential s)) = refl
table-right (ended (first_in (in_slave m ps q g)) (decomposed s us)) = refl
table-right (ended (first_in (in_slave m ps q g)) (hidden u t none)) = refl
table-right (ended (first_in (in_slave m ps q g)) (hidden u t (some y))) = refl
table-right (ended (first_in (in_hiding z g)) (sequential s)) = refl
table-right (ended (first_in (in_hiding z g)) (decomposed s us)) = refl
table-right (ended (first_in (in_hiding z g)) (hidden u t none)) = refl
table-right (ended (first_in (in_hiding z g)) (hidden u t (some y))) = refl
table-right (ended (first_in (in_brackets g)) (sequential s)) = refl
table-right (ended (first_in (in_brackets g)) (decomposed s us)) = refl
table-right (ended (first_in (in_brackets g)) (hidden u t none)) = refl
table-right (ended (first_in (in_brackets g)) (hidden u t (some y))) = refl
table-right (ended (second_in a x whole) (sequential s)) = refl
table-right (ended (second_in a x whole) (decomposed s us)) = refl
table-right (ended (second_in a x whole) (hidden u t none)) = refl
table-right (ended (second_in a x whole) (hidden u t (some y))) = refl
table-right (ended (second_in a x (in_slave m ps q g)) (sequential s)) = refl
table-right (ended (second_in a x (in_slave m ps q g)) (decomposed s us)) = refl
table-right (ended (second_in a x (in_slave m ps q g)) (hidden u t none)) = refl
table-right (ended (second_in a x (in_slave m ps q g)) (hidden u t (some y))) = refl
table-right (ended (second_in a x (in_hiding z g)) (sequential s)) = refl
table-right (ended (second_in a x (in_hiding z g)) (decomposed s us)) = refl
table-right (ended (second_in a x (in_hiding z g)) (hidden u t none)) = refl
table-right (ended (second_in a x (in_hiding z g)) (hidden u t (some y))) = refl
table-right (ended (second_in a x (in_brackets g)) (sequential s)) = refl
table-right (ended (second_in a x (in_brackets g)) (decomposed s us)) = refl
table-right (ended (second_in a x (in_brackets g)) (hidden u t none)) = refl
table-right (ended (second_in a x (in_brackets g)) (hidden u t (some y))) = refl
table-right (boxed (first_in whole) a x b) = refl
table-right (boxed (first_in (in_slave m ps q g)) a x b) = refl
table-right (boxed (first_in (in_hiding z g)) a x b) = refl
table-right (boxed (first_in (in_brackets g)) a x b) = refl
table-right (boxed (second_in d w whole) a x b) = refl
table-right (boxed (second_in d w (in_slave m ps q g)) a x b) = refl
table-right (boxed (second_in d w (in_hiding z g)) a x b) = refl
table-right (boxed (second_in d w (in_brackets g)) a x b) = refl
table-right (joined h a x) = refl
table-right (with_x g x) = refl
table-right (dec_of g) = refl
table-right (dec_open g) = refl
table-right (dec_by g s) = refl
table-right (dec_brace g s) = refl
table-right (pair_open g s ps) = refl
table-right (pair_state g s ps) = refl
table-right (pair_comma g s ps q) = refl
table-right (pair_done g s ps) = refl
table-right (named (alone k) c) = refl
table-right (named (master k) c) = refl
table-right (states_open (alone k) c) = refl
table-right (states_open (master k) c) = refl
table-right (states_next (alone k) c qs) = refl
table-right (states_next (master k) c qs) = refl
table-right (states_more (alone k) c qs) = refl
table-right (states_more (master k) c qs) = refl
table-right (states_done (alone k) c qs) = refl
table-right (states_done (master k) c qs) = refl
table-right (initial_next (alone k) c qs) = refl
table-right (initial_next (master k) c qs) = refl
table-right (initial_done (alone k) c qs i) = refl
table-right (initial_done (master k) c qs i) = refl
table-right (head_done (alone k) h) = refl
table-right (head_done (master k) h) = refl
table-right (lines_open (alone k) h) = refl
table-right (lines_open (master k) h) = refl
table-right (lines_first (alone k) h) = refl
table-right (lines_first (master k) h) = refl
table-right (lines_next (alone k) h ts) = refl
table-right (lines_next (master k) h ts) = refl
table-right (line_done (alone k) h ts) = refl
table-right (line_done (master k) h ts) = refl
table-right (lines_done (alone k) h ts) = refl
table-right (lines_done (master k) h ts) = refl
table-right (extra_done (alone k) h ts x) = refl
table-right (extra_done (master k) h ts x) = refl
table-right (from_next (alone k) h ts) = refl
table-right (from_next (master k) h ts) = refl
table-right (from_done (alone k) h ts p) = refl
table-right (from_done (master k) h ts p) = refl
table-right (to_next (alone k) h ts p) = refl
table-right (to_next (master k) h ts p) = refl
table-right (to_done (alone k) h ts p q) = refl
table-right (to_done (master k) h ts p q) = refl
table-right (guard_first (alone k) h ts p q) = refl
table-right (guard_first (master k) h ts p q) = refl
table-right (guard_next (alone k) h ts p q g) = refl
table-right (guard_next (master k) h ts p q g) = refl
table-right (guard_barred (alone k) h ts p q g) = refl
table-right (guard_barred (master k) h ts p q g) = refl
table-right (guard_done (alone k) h ts p q g) = refl
table-right (guard_done (master k) h ts p q g) = refl
table-right (action_done (alone k) h ts p q g x) = refl
table-right (action_done (master k) h ts p q g x) = refl
table-right (set_next (feedback (alone k) c qs i)) = refl
table-right (set_next (feedback (master k) c qs i)) = refl
table-right (set_next (action (alone k) h ts p q g)) = refl
table-right (set_next (action (master k) h ts p q g)) = refl
table-right (set_next (extra (alone k) h ts)) = refl
table-right (set_next (extra (master k) h ts)) = refl
table-right (set_next (between h a)) = refl
table-right (set_next (hide_x g)) = refl
table-right (set_next (hide_y g x t)) = refl
table-right (set_first (feedback (alone k) c qs i)) = refl
table-right (set_first (feedback (master k) c qs i)) = refl
table-right (set_first (action (alone k) h ts p q g)) = refl
table-right (set_first (action (master k) h ts p q g)) = refl
table-right (set_first (extra (alone k) h ts)) = refl
table-right (set_first (extra (master k) h ts)) = refl
table-right (set_first (between h a)) = refl
table-right (set_first (hide_x g)) = refl
table-right (set_first (hide_y g x t)) = refl
table-right (set_more (feedback (alone k) c qs i) ns) = refl
table-right (set_more (feedback (master k) c qs i) ns) = refl
table-right (set_more (action (alone k) h ts p q g) ns) = refl
table-right (set_more (action (master k) h ts p q g) ns) = refl
table-right (set_more (extra (alone k) h ts) ns) = refl
table-right (set_more (extra (master k) h ts) ns) = refl
table-right (set_more (between h a) ns) = refl
table-right (set_more (hide_x g) ns) = refl
table-right (set_more (hide_y g x t) ns) = refl
table-right (set_comma (feedback (alone k) c qs i) ns) = refl
table-right (set_comma (feedback (master k) c qs i) ns) = refl
table-right (set_comma (action (alone k) h ts p q g) ns) = refl
table-right (set_comma (action (master k) h ts p q g) ns) = refl
table-right (set_comma (extra (alone k) h ts) ns) = refl
table-right (set_comma (extra (master k) h ts) ns) = refl
table-right (set_comma (between h a) ns) = refl
table-right (set_comma (hide_x g) ns) = refl
table-right (set_comma (hide_y g x t) ns) = refl
