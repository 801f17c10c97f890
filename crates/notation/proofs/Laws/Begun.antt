-- Whatever the reader has read so far begins some text: `led_begins`. From each state a chain of `via`, one token each,
-- leads to a text that spells a chart.
use Rattle.std.proofs.Common.{sym, ap, ◌∙◌, subst, append_assoc, append-nil}
use Rattle.std.proofs.Math.Option.{Option, none, some}
use Rattle.std.specs.Prelude.{List, [], ◌∷◌, ◌++◌, ℕ}
use Rattle.line.specs.Line.{decimal}
use Rattle.notation.specs.Grammar.{letter, bytes_of, lpar, rbrace, comma, slash, minus, wordDec, letQ}
use Rattle.notation.specs.Grammar.{letS, Token, sign, name, Tokens}
use Rattle.notation.specs.Laws.Backward.{Laid, token, LaidAs, put_names, put_set, put_optional, put_literal}
use Rattle.notation.specs.Laws.Backward.{put_literals, put_guard, put_transition, put_transition_list}
use Rattle.notation.specs.Laws.Backward.{put_transitions, put_heading}
use Rattle.notation.specs.Laws.Backward.{put_extra, put_sequential, put_single, put_chart, put_part, tokens_of}
use Rattle.notation.specs.Syntax.{OneOrMore, one, ◌▸◌, Signals, Literal, barred, Transition, Heading, Sequential}
use Rattle.notation.specs.Syntax.{Single, sequential, decomposed, hidden, Chart, single, composed, Slaves}
use Rattle.notation.specs.Syntax.{first_slave, more_slaves}
use Rattle.notation.specs.Reader.{Enclosure, whole, in_slave, in_hiding, in_brackets, Context, first_in, second_in}
use Rattle.notation.specs.Reader.{Role, alone, master, Slot, feedback, action, extra, between, hide_x, hide_y}
use Rattle.notation.specs.Reader.{State, part, opened, ended, boxed, joined, with_x, dec_of, dec_open, dec_by}
use Rattle.notation.specs.Reader.{dec_brace, pair_open, pair_state, pair_comma, pair_done, named, states_open}
use Rattle.notation.specs.Reader.{states_next, states_more, states_done, initial_next, initial_done, head_done}
use Rattle.notation.specs.Reader.{lines_open, lines_first, lines_next, line_done, lines_done, extra_done, from_next}
use Rattle.notation.specs.Reader.{from_done, to_next, to_done, guard_first, guard_next, guard_barred, guard_done}
use Rattle.notation.specs.Reader.{action_done, set_next, set_first, set_more, set_comma, Position, gap, inside}
use Rattle.notation.specs.Reader.{letter_read, number}
use Rattle.notation.proofs.Laws.Before.{before, before_pair, before_enclosure, before_context, before_role}
use Rattle.notation.proofs.Laws.Before.{before_states, before_state, before_lines, before_line, before_guard}
use Rattle.notation.proofs.Laws.Before.{before_literal, before_slot}
use Rattle.notation.proofs.Laws.Led.{Led, whole_sign, whole_name}

-- the bytes w begin a text that is laid as some chart
abbrev pub BeginsLaid : List ℕ → Type 0
BeginsLaid w = (rest : List ℕ) × (t : Chart) × LaidAs (w ++ rest) t

-- what is laid as the tokens r begins a text
record Viable (r : Tokens) : Type 0 where
  begins : (w : List ℕ) → Laid r w → BeginsLaid w

chart_viable : (t : Chart) → Viable (tokens_of t)
chart_viable t = record { begins = λ w d. ([], t, rw (append-nil w) d) }

-- one token more
via : {t : Token} {r : Tokens} → Viable (t ∷ r) → Viable r
via {t} {r} v =
    record {
      begins = λ w d. let h =
          v.begins (w ++ bytes_of t) (token t d) in (
            bytes_of t ++ h.0,
            h.1,
            subst (λ u. Laid (tokens_of h.1) u) (append_assoc w (bytes_of t) h.0) h.2,
          );
    }

-- the least chart, (c0,{q0},q0,{},{})
abbrev least_sequential : Sequential
least_sequential = record {
  heading = record { name = 0; states = one 0; initial = 0; feedback = none };
  transitions =
      none;
  extra = none;
}

abbrev least_one : Single
least_one = sequential least_sequential

abbrev least : Chart
least = single least_one

least_via : {r : Tokens} → Viable (put_single least_one r) → Viable r
unfolding put_single put_sequential put_extra put_transitions put_heading put_set put_names
least_via v = via (via (via (via (via (via (via (via (via (via (via (via (via (via (via v))))))))))))))

mutual
  unfolding before_enclosure before_pair put_single put_set put_optional tokens_of

  enclosure_begins : (h : Enclosure) (t : Chart) → Viable (put_chart t (before_enclosure h))
  enclosure_begins whole t = chart_viable t
  enclosure_begins (in_slave s none q g) t = via (via (context_begins g (decomposed s (first_slave q t))))
  enclosure_begins (in_slave s (some ps) q g) t = via (via (context_begins g (decomposed s (more_slaves ps q t))))
  enclosure_begins (in_hiding x g) t = via (context_begins g (hidden x t none))
  enclosure_begins (in_brackets g) (single s) =
      via (via (via (via (least_via (via (box_viable g (single s) none least))))))
  enclosure_begins (in_brackets g) (composed a x b) = via (box_viable g a x b)

  context_begins : (g : Context) (s : Single) → Viable (put_single s (before_context g))
  context_begins (first_in h) s = enclosure_begins h (single s)
  context_begins (second_in a x h) s = enclosure_begins h (composed a x (single s))

  box_viable : (g : Context) (a : Chart) (x : Signals) (b : Chart)
      → Viable (put_part (composed a x b) (before_context g))
  box_viable (first_in h) a x b =
      via (via (via (via (least_via (enclosure_begins h (composed (composed a x b) none least))))))
  box_viable (second_in c y h) a x b = enclosure_begins h (composed c y (composed a x b))

part_viable : (g : Context) → Viable (before_context g)
part_viable g = least_via (context_begins g least_one)

by_viable : (g : Context) (s : Sequential) → Viable (put_sequential s (sign wordDec ∷ before_context g))
unfolding put_single
by_viable g s =
    via (via (via (via (via (least_via (via (via (context_begins g (decomposed s (first_slave 0 least))))))))))

sequential_viable : (m : Role) (s : Sequential) → Viable (put_sequential s (before_role m))
unfolding before_role put_single
sequential_viable (alone g) s = context_begins g (sequential s)
sequential_viable (master g) s = by_viable g s

pair_viable : (g : Context) (s : Sequential) (ps : Option Slaves) (q : ℕ)
    → Viable (sign comma ∷ name letQ q ∷ sign lpar ∷ before_pair s ps (before_context g))
unfolding before_enclosure before_pair put_single
pair_viable g s none q = least_via (via (via (context_begins g (decomposed s (first_slave q least)))))
pair_viable g s (some ps) q = least_via (via (via (context_begins g (decomposed s (more_slaves ps q least)))))

lines_viable : (m : Role) (h : Heading) (ts : Option (OneOrMore Transition))
    → Viable (put_transitions ts (sign comma ∷ put_heading h (before_role m)))
unfolding put_sequential put_extra
lines_viable m h ts = via (sequential_viable m (record { heading = h; transitions = ts; extra = none }))

head_viable : (m : Role) (h : Heading) → Viable (put_heading h (before_role m))
unfolding put_transitions
head_viable m h = via (via (via (lines_viable m h none)))

line_viable : (m : Role) (h : Heading) (ts : OneOrMore Transition) → Viable (put_transition_list ts (before_lines m h))
unfolding put_transitions before_lines
line_viable m h ts = via (lines_viable m h (some ts))

slash_viable : (m : Role) (h : Heading) (ts : Option (OneOrMore Transition)) (p q : ℕ)
    (g : Option (OneOrMore Literal)) (x : Signals)
    → Viable (put_set x (sign slash ∷ put_guard g (before_guard m h ts p q)))
unfolding before_guard before_line put_transition_list put_transition
slash_viable m h none p q g x = via (line_viable m h (one (record { from = p; to = q; guard = g; action = x })))
slash_viable m h (some ts) p q g x = via (line_viable m h (ts ▸ record { from = p; to = q; guard = g; action = x }))

guard_viable : (m : Role) (h : Heading) (ts : Option (OneOrMore Transition)) (p q : ℕ)
    (g : Option (OneOrMore Literal)) → Viable (put_guard g (before_guard m h ts p q))
unfolding put_set
guard_viable m h ts p q g = via (via (via (slash_viable m h ts p q g none)))

states_viable : (m : Role) (c : ℕ) (qs : OneOrMore ℕ) (i : ℕ) (x : Signals)
    → Viable (put_set x (before_slot (feedback m c qs i)))
unfolding before_slot before_states put_heading
states_viable m c qs i x = head_viable m (record { name = c; states = qs; initial = i; feedback = x })

initial_viable : (m : Role) (c : ℕ) (qs : OneOrMore ℕ) (i : ℕ)
    → Viable (name letQ i ∷ sign comma ∷ sign rbrace ∷ put_names letQ qs (before_states m c))
unfolding put_set before_slot
initial_viable m c qs i = via (via (via (states_viable m c qs i none)))

slot_viable : (w : Slot) (x : Signals) → Viable (put_set x (before_slot w))
unfolding before_slot put_sequential put_extra put_single put_optional before_enclosure
slot_viable (feedback m c qs i) x = states_viable m c qs i x
slot_viable (action m h ts p q g) x = slash_viable m h ts p q g x
slot_viable (extra m h ts) x = via (sequential_viable m (record { heading = h; transitions = ts; extra = some x }))
slot_viable (between h a) x = via (part_viable (second_in a x h))
slot_viable (hide_x g) x = via (part_viable (first_in (in_hiding (some x) g)))
slot_viable (hide_y g x t) y = context_begins g (hidden x t (some y))

state_viable : (m : Role) (c : ℕ) (qs : Option (OneOrMore ℕ)) → Viable (before_state m c qs)
unfolding before_state put_names
state_viable m c none = via (via (via (via (initial_viable m c (one 0) 0))))
state_viable m c (some qs) = via (via (via (via (initial_viable m c (qs ▸ 0) 0))))

literal_viable : (m : Role) (h : Heading) (ts : Option (OneOrMore Transition)) (p q : ℕ)
    (g : Option (OneOrMore Literal)) (n : ℕ) → Viable (name letS n ∷ sign minus ∷ before_literal m h ts p q g)
unfolding before_literal put_guard put_literals put_literal
literal_viable m h ts p q none n = guard_viable m h ts p q (some (one (barred n)))
literal_viable m h ts p q (some g) n = guard_viable m h ts p q (some (g ▸ barred n))

next_viable : (m : Role) (h : Heading) (ts : Option (OneOrMore Transition)) (p q : ℕ) → Viable (before_guard m h ts p q)
unfolding put_guard
next_viable m h ts p q = guard_viable m h ts p q none

from_viable : (m : Role) (h : Heading) (ts : Option (OneOrMore Transition)) (p : ℕ)
    → Viable (name letQ p ∷ sign lpar ∷ before_line m h ts)
unfolding before_guard
from_viable m h ts p = via (via (via (next_viable m h ts p 0)))

state_is_viable : (p : State) → Viable (before p)
unfolding before put_single before_pair before_enclosure before_role before_slot before_state before_states before_lines
    before_line before_guard before_literal put_names put_set put_optional put_literal put_literals put_guard
    put_transitions
state_is_viable (part g) = part_viable g
state_is_viable (opened g) = part_viable (first_in (in_brackets g))
state_is_viable (ended g s) = context_begins g s
state_is_viable (boxed g a x b) = box_viable g a x b
state_is_viable (joined h a x) = slot_viable (between h a) x
state_is_viable (with_x g x) = slot_viable (hide_x g) x
state_is_viable (dec_of g) = least_via (by_viable g least_sequential)
state_is_viable (dec_open g) = via (via (via (state_viable (master g) 0 none)))
state_is_viable (dec_by g s) = by_viable g s
state_is_viable (dec_brace g s) = via (via (via (via (pair_viable g s none 0))))
state_is_viable (pair_open g s ps) = via (via (via (pair_viable g s ps 0)))
state_is_viable (pair_state g s ps) = via (via (pair_viable g s ps 0))
state_is_viable (pair_comma g s ps q) = via (pair_viable g s ps q)
state_is_viable (pair_done g s ps) = via (context_begins g (decomposed s ps))
state_is_viable (named m c) = via (via (state_viable m c none))
state_is_viable (states_open m c) = via (state_viable m c none)
state_is_viable (states_next m c qs) = state_viable m c qs
state_is_viable (states_more m c qs) = via (via (via (initial_viable m c qs 0)))
state_is_viable (states_done m c qs) = via (via (initial_viable m c qs 0))
state_is_viable (initial_next m c qs) = via (initial_viable m c qs 0)
state_is_viable (initial_done m c qs i) = initial_viable m c qs i
state_is_viable (head_done m h) = head_viable m h
state_is_viable (lines_open m h) = via (via (lines_viable m h none))
state_is_viable (lines_first m h) = via (lines_viable m h none)
state_is_viable (lines_next m h ts) = via (via (from_viable m h (some ts) 0))
state_is_viable (line_done m h ts) = line_viable m h ts
state_is_viable (lines_done m h ts) = lines_viable m h ts
state_is_viable (extra_done m h ts x) = slot_viable (extra m h ts) x
state_is_viable (from_next m h ts) = via (from_viable m h ts 0)
state_is_viable (from_done m h ts p) = from_viable m h ts p
state_is_viable (to_next m h ts p) = via (via (next_viable m h ts p 0))
state_is_viable (to_done m h ts p q) = via (next_viable m h ts p q)
state_is_viable (guard_first m h ts p q) = next_viable m h ts p q
state_is_viable (guard_next m h ts p q g) = via (via (literal_viable m h ts p q (some g) 0))
state_is_viable (guard_barred m h ts p q g) = via (literal_viable m h ts p q g 0)
state_is_viable (guard_done m h ts p q g) = guard_viable m h ts p q (some g)
state_is_viable (action_done m h ts p q g x) = slash_viable m h ts p q g x
state_is_viable (set_next w) = via (via (slot_viable w none))
state_is_viable (set_first w) = via (slot_viable w none)
state_is_viable (set_more w ns) = via (slot_viable w (some ns))
state_is_viable (set_comma w ns) = via (via (slot_viable w (some (ns ▸ 0))))

-- if w with more bytes begins a text, so does w
cut : (w v : List ℕ) → BeginsLaid (w ++ v) → BeginsLaid w
cut w v h = (v ++ h.0, h.1, subst (λ u. Laid (tokens_of h.1) u) (append_assoc w v h.0) h.2)

pub led_begins : (s : Position) (w : List ℕ) → Led s w → BeginsLaid w
unfolding Led
led_begins (gap p) w d = (state_is_viable p).begins w d
led_begins (inside c cs p) w (k, i) =
    cut w (c ∷ cs) ((state_is_viable p).begins (w ++ (c ∷ cs)) (whole_sign {k = k}
    (record {
      done = i.done ++ (c ∷ cs);
      v = i.v;
      r = i.r;
      laid = i.laid;
      is =
          ap (◌++ (c ∷ cs)) i.is ∙ append_assoc i.v i.done (c ∷ cs);
      adds = i.adds;
      bytes =
          i.bytes ∙ sym (append-nil (i.done ++ (c ∷ cs)));
    })))
led_begins (letter_read l f) w i =
    cut w (decimal 0) ((state_is_viable (f 0)).begins (w ++ decimal 0) (whole_name 0
    (record {
      v = i.v;
      r = i.r;
      laid = i.laid;
      is =
          ap (◌++ decimal 0) i.is ∙ append_assoc i.v (letter l ∷ []) (decimal 0);
      adds = i.adds;
    })))
led_begins (number l n f) w (z, i) = (state_is_viable (f n)).begins w (whole_name n i)
