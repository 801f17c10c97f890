-- A reader of the notation, as a function: it takes one byte after the other and keeps what it has read, and so what
-- can come. Laws/Theorems has what it answers; to believe the notation, nobody has to read this.
use Rattle.std.specs.Prelude.{Bool, ◌&&◌, cond, List, [], ◌∷◌, ℕ, suc, ◌+◌, ◌*◌, ◌-◌, eqb, leb}
use Rattle.std.proofs.Math.Option.{Option, none, some}
use Prim.Native.Char.{code}
use Rattle.line.specs.Ascii.{ascii}
use Rattle.notation.specs.Syntax.{OneOrMore, one, ◌▸◌, Signals, Literal, needed, barred, Transition, Heading}
use Rattle.notation.specs.Syntax.{Sequential, Single, sequential, decomposed, hidden, Chart, single, composed}
use Rattle.notation.specs.Syntax.{Slaves, first_slave, more_slaves}
use Rattle.notation.specs.Grammar.{Sign, lpar, rpar, lbrace, rbrace, lsq, rsq, comma, bar, slash, amp, minus}
use Rattle.notation.specs.Grammar.{wordDec, wordBy, Letter, letC, letQ, letS, name, letter, blank}

-- ── where a chart stands ──

mutual
  -- what encloses a chart: nothing, if it is the whole; the pair of a slave; hiding brackets; round brackets
  pub data Enclosure : Type 0 where
    whole : Enclosure
    in_slave : Sequential → Option Slaves → ℕ → Context → Enclosure
    in_hiding : Option Signals → Context → Enclosure
    in_brackets : Context → Enclosure

  -- where a part stands: first in an enclosure, or second in a composition there
  pub data Context : Type 0 where
    first_in : Enclosure → Context
    second_in : Chart → Signals → Enclosure → Context

-- where a sequential chart stands: by itself, or as the master behind Dec
pub data Role : Type 0 where
  alone : Context → Role
  master : Context → Role

-- where a set stands
pub data Slot : Type 0 where
  feedback : Role → ℕ → OneOrMore ℕ → ℕ → Slot
  action : Role → Heading → Option (OneOrMore Transition) → ℕ → ℕ → Option (OneOrMore Literal) → Slot
  extra : Role → Heading → Option (OneOrMore Transition) → Slot
  between : Enclosure → Chart → Slot
  hide_x : Context → Slot
  hide_y : Context → Option Signals → Chart → Slot

-- ── between two tokens: what is read, and so what can come ──

pub data State : Type 0 where
  -- charts
  part : Context → State  -- a part is to come
  opened : Context → State  -- a part, its round bracket read
  ended : Context → Single → State
  boxed : Context → Chart → Signals → Chart → State  -- a composition in its round brackets
  joined : Enclosure → Chart → Signals → State  -- a part and a set, the second bar is to come
  with_x : Context → Signals → State  -- the first hiding set
  -- Dec .. by
  dec_of : Context → State
  dec_open : Context → State
  dec_by : Context → Sequential → State
  dec_brace : Context → Sequential → State
  pair_open : Context → Sequential → Option Slaves → State  -- a pair's bracket is to come
  pair_state : Context → Sequential → Option Slaves → State
  pair_comma : Context → Sequential → Option Slaves → ℕ → State
  pair_done : Context → Sequential → Slaves → State
  -- sequential charts
  named : Role → ℕ → State
  states_open : Role → ℕ → State
  states_next : Role → ℕ → Option (OneOrMore ℕ) → State
  states_more : Role → ℕ → OneOrMore ℕ → State
  states_done : Role → ℕ → OneOrMore ℕ → State
  initial_next : Role → ℕ → OneOrMore ℕ → State
  initial_done : Role → ℕ → OneOrMore ℕ → ℕ → State
  head_done : Role → Heading → State
  lines_open : Role → Heading → State
  lines_first : Role → Heading → State
  lines_next : Role → Heading → OneOrMore Transition → State
  line_done : Role → Heading → OneOrMore Transition → State
  lines_done : Role → Heading → Option (OneOrMore Transition) → State
  extra_done : Role → Heading → Option (OneOrMore Transition) → Signals → State
  -- a transition
  from_next : Role → Heading → Option (OneOrMore Transition) → State
  from_done : Role → Heading → Option (OneOrMore Transition) → ℕ → State
  to_next : Role → Heading → Option (OneOrMore Transition) → ℕ → State
  to_done : Role → Heading → Option (OneOrMore Transition) → ℕ → ℕ → State
  guard_first : Role → Heading → Option (OneOrMore Transition) → ℕ → ℕ → State
  guard_next : Role → Heading → Option (OneOrMore Transition) → ℕ → ℕ → OneOrMore Literal → State
  guard_barred : Role → Heading → Option (OneOrMore Transition) → ℕ → ℕ → Option (OneOrMore Literal) → State
  guard_done : Role → Heading → Option (OneOrMore Transition) → ℕ → ℕ → OneOrMore Literal → State
  action_done : Role → Heading → Option (OneOrMore Transition) → ℕ → ℕ → Option (OneOrMore Literal) → Signals → State
  -- a set
  set_next : Slot → State
  set_first : Slot → State
  set_more : Slot → OneOrMore ℕ → State
  set_comma : Slot → OneOrMore ℕ → State

-- a way on from a state: by a sign, or by a name with any number
pub data Way : Type 0 where
  on : Sign → State → Way
  read : Letter → (ℕ → State) → Way

-- one more at the end
unfoldable pub ◌▸?◌ : {A : Type 0} → Option (OneOrMore A) → A → OneOrMore A
none ▸? a = one a
(some ws) ▸? a = ws ▸ a

infixl 60 ◌▸?◌
unfoldable pub add_slave : Option Slaves → ℕ → Chart → Slaves
add_slave none q t = first_slave q t
add_slave (some ps) q t = more_slaves ps q t

-- the state behind a sequential chart
unfoldable pub sequential_end : Role → Sequential → State
sequential_end (alone g) s = ended g (sequential s)
sequential_end (master g) s = dec_by g s

-- the state behind a set
unfoldable pub set_end : Slot → Signals → State
set_end (feedback m c qs i) x = head_done m (record { name = c; states = qs; initial = i; feedback = x })
set_end (action m h ts p q g) x = action_done m h ts p q g x
set_end (extra m h ts) x = extra_done m h ts x
set_end (between h a) x = joined h a x
set_end (hide_x g) x = with_x g x
set_end (hide_y g x t) y = ended g (hidden x t (some y))

-- what can close the enclosure of the chart t
unfoldable pub close : Enclosure → Chart → List Way
close whole t = []
close (in_slave m ps q g) t = on rpar (pair_done g m (add_slave ps q t)) ∷ []
close (in_hiding x g) t = on rsq (ended g (hidden x t none)) ∷ []
close (in_brackets g) (single s) = []
close (in_brackets g) (composed a x b) = on rpar (boxed g a x b) ∷ []

-- what can come behind a part
unfoldable pub follow : Context → Single → List Way
follow (first_in h) s = on bar (set_next (between h (single s))) ∷ close h (single s)
follow (second_in a x h) s = close h (composed a x (single s))

-- the second hiding set, if there is none yet
unfoldable pub last_set : Context → Single → List Way → List Way
last_set g (sequential s) ws = ws
last_set g (decomposed s ps) ws = ws
last_set g (hidden x t none) ws = on lbrace (set_first (hide_y g x t)) ∷ ws
last_set g (hidden x t (some y)) ws = ws

unfoldable pub ways : State → List Way
ways (part g) =
    on lpar (opened g) ∷ on wordDec (dec_of g) ∷ on lbrace (set_first (hide_x g))
    ∷ on lsq (part (first_in (in_hiding none g))) ∷ []
ways (opened g) =
    read letC (named (alone g)) ∷ on lpar (opened (first_in (in_brackets g)))
    ∷ on wordDec (dec_of (first_in (in_brackets g)))
    ∷ on lbrace (set_first (hide_x (first_in (in_brackets g))))
    ∷ on lsq (part (first_in (in_hiding none (first_in (in_brackets g))))) ∷ []
ways (ended g s) = last_set g s (follow g s)
ways (boxed (first_in h) a x b) = on bar (set_next (between h (composed a x b))) ∷ []
ways (boxed (second_in c y h) a x b) = close h (composed c y (composed a x b))
ways (joined h a x) = on bar (part (second_in a x h)) ∷ []
ways (with_x g x) = on lsq (part (first_in (in_hiding (some x) g))) ∷ []
ways (dec_of g) = on lpar (dec_open g) ∷ []
ways (dec_open g) = read letC (named (master g)) ∷ []
ways (dec_by g s) = on wordBy (dec_brace g s) ∷ []
ways (dec_brace g s) = on lbrace (pair_open g s none) ∷ []
ways (pair_open g s ps) = on lpar (pair_state g s ps) ∷ []
ways (pair_state g s ps) = read letQ (pair_comma g s ps) ∷ []
ways (pair_comma g s ps q) = on comma (part (first_in (in_slave s ps q g))) ∷ []
ways (pair_done g s ps) = on comma (pair_open g s (some ps)) ∷ on rbrace (ended g (decomposed s ps)) ∷ []
ways (named m c) = on comma (states_open m c) ∷ []
ways (states_open m c) = on lbrace (states_next m c none) ∷ []
ways (states_next m c qs) = read letQ (λ q. states_more m c (qs ▸? q)) ∷ []
ways (states_more m c qs) = on comma (states_next m c (some qs)) ∷ on rbrace (states_done m c qs) ∷ []
ways (states_done m c qs) = on comma (initial_next m c qs) ∷ []
ways (initial_next m c qs) = read letQ (initial_done m c qs) ∷ []
ways (initial_done m c qs i) = on comma (set_next (feedback m c qs i)) ∷ []
ways (head_done m h) = on comma (lines_open m h) ∷ []
ways (lines_open m h) = on lbrace (lines_first m h) ∷ []
ways (lines_first m h) = on lpar (from_next m h none) ∷ on rbrace (lines_done m h none) ∷ []
ways (lines_next m h ts) = on lpar (from_next m h (some ts)) ∷ []
ways (line_done m h ts) = on comma (lines_next m h ts) ∷ on rbrace (lines_done m h (some ts)) ∷ []
ways (lines_done m h ts) =
    on comma (set_next (extra m h ts)) ∷ on rpar (sequential_end m (record {
      heading = h;
      transitions = ts;
      extra =
          none;
    })) ∷ []
ways (extra_done m h ts x) = on rpar (sequential_end m (record { heading = h; transitions = ts; extra = some x })) ∷ []
ways (from_next m h ts) = read letQ (from_done m h ts) ∷ []
ways (from_done m h ts p) = on comma (to_next m h ts p) ∷ []
ways (to_next m h ts p) = read letQ (to_done m h ts p) ∷ []
ways (to_done m h ts p q) = on comma (guard_first m h ts p q) ∷ []
ways (guard_first m h ts p q) =
    read letS (λ n. guard_done m h ts p q (one (needed n))) ∷ on minus (guard_barred m h ts p q none)
    ∷ on slash (set_next (action m h ts p q none)) ∷ []
ways (guard_next m h ts p q g) =
    read letS (λ n. guard_done m h ts p q (g ▸ needed n)) ∷ on minus (guard_barred m h ts p q (some g)) ∷ []
ways (guard_barred m h ts p q g) = read letS (λ n. guard_done m h ts p q (g ▸? barred n)) ∷ []
ways (guard_done m h ts p q g) = on amp (guard_next m h ts p q g)
    ∷ on slash (set_next (action m h ts p q (some g))) ∷ []
ways (action_done m h ts p q g x) =
    on rpar (line_done m h (ts ▸? record { from = p; to = q; guard = g; action = x })) ∷ []
ways (set_next w) = on lbrace (set_first w) ∷ []
ways (set_first w) = read letS (λ n. set_more w (one n)) ∷ on rbrace (set_end w none) ∷ []
ways (set_more w ns) = on comma (set_comma w ns) ∷ on rbrace (set_end w (some ns)) ∷ []
ways (set_comma w ns) = read letS (λ n. set_more w (ns ▸ n)) ∷ []

-- the chart, if the text may end here
unfoldable pub final : State → Option Chart
final (part g) = none
final (opened g) = none
final (ended (first_in whole) s) = some (single s)
final (ended (first_in (in_slave m ps q g)) s) = none
final (ended (first_in (in_hiding x g)) s) = none
final (ended (first_in (in_brackets g)) s) = none
final (ended (second_in a x whole) s) = some (composed a x (single s))
final (ended (second_in a x (in_slave m ps q g)) s) = none
final (ended (second_in a x (in_hiding y g)) s) = none
final (ended (second_in a x (in_brackets g)) s) = none
final (boxed (first_in h) a x b) = none
final (boxed (second_in c y whole) a x b) = some (composed c y (composed a x b))
final (boxed (second_in c y (in_slave m ps q g)) a x b) = none
final (boxed (second_in c y (in_hiding z g)) a x b) = none
final (boxed (second_in c y (in_brackets g)) a x b) = none
final (joined h a x) = none
final (with_x g x) = none
final (dec_of g) = none
final (dec_open g) = none
final (dec_by g s) = none
final (dec_brace g s) = none
final (pair_open g s ps) = none
final (pair_state g s ps) = none
final (pair_comma g s ps q) = none
final (pair_done g s ps) = none
final (named m c) = none
final (states_open m c) = none
final (states_next m c qs) = none
final (states_more m c qs) = none
final (states_done m c qs) = none
final (initial_next m c qs) = none
final (initial_done m c qs i) = none
final (head_done m h) = none
final (lines_open m h) = none
final (lines_first m h) = none
final (lines_next m h ts) = none
final (line_done m h ts) = none
final (lines_done m h ts) = none
final (extra_done m h ts x) = none
final (from_next m h ts) = none
final (from_done m h ts p) = none
final (to_next m h ts p) = none
final (to_done m h ts p q) = none
final (guard_first m h ts p q) = none
final (guard_next m h ts p q g) = none
final (guard_barred m h ts p q g) = none
final (guard_done m h ts p q g) = none
final (action_done m h ts p q g x) = none
final (set_next w) = none
final (set_first w) = none
final (set_more w ns) = none
final (set_comma w ns) = none

-- ── bytes ──

-- a token's first byte, and the bytes behind it that Dec and by have
unfoldable pub first_byte : Sign → ℕ
first_byte lpar = code "("
first_byte rpar = code ")"
first_byte lbrace = code "{"
first_byte rbrace = code "}"
first_byte lsq = code "["
first_byte rsq = code "]"
first_byte comma = code ","
first_byte bar = code "|"
first_byte slash = code "/"
first_byte amp = code "&"
first_byte minus = code "-"
first_byte wordDec = code "D"
first_byte wordBy = code "b"

unfoldable pub behind : ℕ → List ℕ
behind b = cond (eqb b (code "D")) (ascii "ec") (cond (eqb b (code "b")) (ascii "y") [])

unfoldable pub is_digit : ℕ → Bool
is_digit b = leb 48 b && leb b 57

-- where the reader stands: between tokens; inside Dec or by, with a byte that must come and those behind it; behind a
-- name's letter; in its number
pub data Position : Type 0 where
  gap : State → Position
  inside : ℕ → List ℕ → State → Position
  letter_read : Letter → (ℕ → State) → Position
  number : Letter → ℕ → (ℕ → State) → Position

unfoldable pub onward : List ℕ → State → Position
onward [] p = gap p
onward (c ∷ cs) p = inside c cs p

unfoldable pub begin : List Way → ℕ → Option Position
begin [] b = none
begin (on k p ∷ ws) b = cond (eqb (first_byte k) b) (some (onward (behind (first_byte k)) p)) (begin ws b)
begin (read l f ∷ ws) b = cond (eqb (letter l) b) (some (letter_read l f)) (begin ws b)

unfoldable pub step_gap : State → ℕ → Option Position
step_gap p b = cond (blank b) (some (gap p)) (begin (ways p) b)

-- one byte further; none if no text has it there
unfoldable pub step : Position → ℕ → Option Position
step (gap p) b = step_gap p b
step (inside c cs p) b = cond (eqb c b) (some (onward cs p)) none
step (letter_read l f) b = cond (eqb b 48) (some (gap (f 0))) (cond (is_digit b) (some (number l (b - 48) f)) none)
step (number l n f) b = cond (is_digit b) (some (number l (n * 10 + (b - 48)) f)) (step_gap (f n) b)

unfoldable pub ending : Position → Option Chart
ending (gap p) = final p
ending (inside c cs p) = none
ending (letter_read l f) = none
ending (number l n f) = final (f n)

-- ── the reader ──

-- the answer: the chart that the text spells, or the place of its first wrong byte
pub data Reading : Type 0 where
  spelt : Chart → Reading
  wrong_at : ℕ → Reading

unfoldable pub at_end : ℕ → Option Chart → Reading
at_end n none = wrong_at n
at_end n (some t) = spelt t

unfoldable pub on_to : ℕ → (Position → Reading) → Option Position → Reading
on_to n f none = wrong_at n
on_to n f (some s) = f s

-- reads the bytes w, the first of which is at place n
unfoldable pub read_from : List ℕ → ℕ → Position → Reading
read_from [] n s = at_end n (ending s)
read_from (b ∷ w) n s = on_to n (read_from w (suc n)) (step s b)

unfoldable pub reader : List ℕ → Reading
reader w = read_from w 0 (gap (part (first_in whole)))
