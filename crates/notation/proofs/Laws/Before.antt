-- What is read in each state, as tokens; every way on adds its own token, and a final state has read its chart.
use Rattle.std.specs.Prelude.{◌≡◌, refl, List, [], ◌∷◌, ℕ}
use Rattle.std.proofs.Common.{sym, ap}
use Rattle.std.proofs.Math.Option.{Option, none, some}
use Rattle.notation.specs.Syntax.{OneOrMore, ◌▸◌, Signals, Literal, barred, Transition, Heading, Sequential}
use Rattle.notation.specs.Syntax.{Single, sequential, decomposed, hidden, Chart, single, composed, Slaves}
use Rattle.notation.specs.Grammar.{lpar, rpar, lbrace, rbrace, lsq, rsq, comma, bar, slash, amp, minus, wordDec}
use Rattle.notation.specs.Grammar.{wordBy, letC, letQ, letS, sign, name, Tokens}
use Rattle.notation.specs.Laws.Backward.{put_names, put_set, put_optional, put_literal, put_literals, put_guard}
use Rattle.notation.specs.Laws.Backward.{put_transition, put_transition_list, put_transitions, put_heading, put_extra}
use Rattle.notation.specs.Laws.Backward.{put_sequential, put_single, put_chart, put_part, put_slaves}
use Rattle.notation.specs.Reader.{Enclosure, whole, in_slave, in_hiding, in_brackets, Context, first_in, second_in}
use Rattle.notation.specs.Reader.{Role, alone, master, Slot, feedback, action, extra, between, hide_x, hide_y}
use Rattle.notation.specs.Reader.{State, part, opened, ended, boxed, joined, with_x, dec_of, dec_open, dec_by}
use Rattle.notation.specs.Reader.{dec_brace, pair_open, pair_state, pair_comma, pair_done, named, states_open}
use Rattle.notation.specs.Reader.{states_next, states_more, states_done, initial_next, initial_done, head_done}
use Rattle.notation.specs.Reader.{lines_open, lines_first, lines_next, line_done, lines_done, extra_done, from_next}
use Rattle.notation.specs.Reader.{from_done, to_next, to_done, guard_first, guard_next, guard_barred, guard_done}
use Rattle.notation.specs.Reader.{action_done, set_next, set_first, set_more, set_comma, Way, on, read, ◌▸?◌, add_slave}
use Rattle.notation.specs.Reader.{sequential_end, set_end, close, follow, last_set, ways}

-- the tokens before a pair's bracket
unfoldable pub before_pair : Sequential → Option Slaves → Tokens → Tokens
before_pair s none r = sign lbrace ∷ sign wordBy ∷ put_sequential s (sign wordDec ∷ r)
before_pair s (some ps) r = sign comma ∷ put_slaves ps (sign lbrace ∷ sign wordBy ∷ put_sequential s (sign wordDec ∷ r))

unfoldable mutual
  pub before_enclosure : Enclosure → Tokens
  before_enclosure whole = []
  before_enclosure (in_slave s ps q g) = sign comma ∷ name letQ q ∷ sign lpar ∷ before_pair s ps (before_context g)
  before_enclosure (in_hiding x g) = sign lsq ∷ put_optional x (before_context g)
  before_enclosure (in_brackets g) = sign lpar ∷ before_context g

  pub before_context : Context → Tokens
  before_context (first_in h) = before_enclosure h
  before_context (second_in a x h) = sign bar ∷ put_set x (sign bar ∷ put_part a (before_enclosure h))

unfoldable pub before_role : Role → Tokens
before_role (alone g) = before_context g
before_role (master g) = sign wordDec ∷ before_context g

-- before the states, and before the state that is to come
unfoldable pub before_states : Role → ℕ → Tokens
before_states m c = sign lbrace ∷ sign comma ∷ name letC c ∷ sign lpar ∷ before_role m

unfoldable pub before_state : Role → ℕ → Option (OneOrMore ℕ) → Tokens
before_state m c none = before_states m c
before_state m c (some qs) = sign comma ∷ put_names letQ qs (before_states m c)

unfoldable pub before_lines : Role → Heading → Tokens
before_lines m h = sign lbrace ∷ sign comma ∷ put_heading h (before_role m)

unfoldable pub before_line : Role → Heading → Option (OneOrMore Transition) → Tokens
before_line m h none = before_lines m h
before_line m h (some ts) = sign comma ∷ put_transition_list ts (before_lines m h)

unfoldable pub before_guard : Role → Heading → Option (OneOrMore Transition) → ℕ → ℕ → Tokens
before_guard m h ts p q = sign comma ∷ name letQ q ∷ sign comma ∷ name letQ p ∷ sign lpar ∷ before_line m h ts

unfoldable pub before_literal : Role → Heading → Option (OneOrMore Transition) → ℕ → ℕ → Option (OneOrMore Literal)
    → Tokens
before_literal m h ts p q none = before_guard m h ts p q
before_literal m h ts p q (some g) = sign amp ∷ put_literals g (before_guard m h ts p q)

unfoldable pub before_slot : Slot → Tokens
before_slot (feedback m c qs i) =
    sign comma ∷ name letQ i ∷ sign comma ∷ sign rbrace ∷ put_names letQ qs (before_states m c)
before_slot (action m h ts p q g) = sign slash ∷ put_guard g (before_guard m h ts p q)
before_slot (extra m h ts) = sign comma ∷ put_transitions ts (sign comma ∷ put_heading h (before_role m))
before_slot (between h a) = sign bar ∷ put_part a (before_enclosure h)
before_slot (hide_x g) = before_context g
before_slot (hide_y g x t) = sign rsq ∷ put_chart t (sign lsq ∷ put_optional x (before_context g))

unfoldable pub before : State → Tokens
before (part g) = before_context g
before (opened g) = sign lpar ∷ before_context g
before (ended g s) = put_single s (before_context g)
before (boxed g a x b) = put_part (composed a x b) (before_context g)
before (joined h a x) = put_set x (sign bar ∷ put_part a (before_enclosure h))
before (with_x g x) = put_set x (before_context g)
before (dec_of g) = sign wordDec ∷ before_context g
before (dec_open g) = sign lpar ∷ sign wordDec ∷ before_context g
before (dec_by g s) = put_sequential s (sign wordDec ∷ before_context g)
before (dec_brace g s) = sign wordBy ∷ put_sequential s (sign wordDec ∷ before_context g)
before (pair_open g s ps) = before_pair s ps (before_context g)
before (pair_state g s ps) = sign lpar ∷ before_pair s ps (before_context g)
before (pair_comma g s ps q) = name letQ q ∷ sign lpar ∷ before_pair s ps (before_context g)
before (pair_done g s ps) = put_slaves ps
    (sign lbrace ∷ sign wordBy ∷ put_sequential s (sign wordDec ∷ before_context g))
before (named m c) = name letC c ∷ sign lpar ∷ before_role m
before (states_open m c) = sign comma ∷ name letC c ∷ sign lpar ∷ before_role m
before (states_next m c qs) = before_state m c qs
before (states_more m c qs) = put_names letQ qs (before_states m c)
before (states_done m c qs) = sign rbrace ∷ put_names letQ qs (before_states m c)
before (initial_next m c qs) = sign comma ∷ sign rbrace ∷ put_names letQ qs (before_states m c)
before (initial_done m c qs i) = name letQ i ∷ sign comma ∷ sign rbrace ∷ put_names letQ qs (before_states m c)
before (head_done m h) = put_heading h (before_role m)
before (lines_open m h) = sign comma ∷ put_heading h (before_role m)
before (lines_first m h) = before_lines m h
before (lines_next m h ts) = sign comma ∷ put_transition_list ts (before_lines m h)
before (line_done m h ts) = put_transition_list ts (before_lines m h)
before (lines_done m h ts) = put_transitions ts (sign comma ∷ put_heading h (before_role m))
before (extra_done m h ts x) = put_set x (sign comma ∷ put_transitions ts (sign comma ∷ put_heading h (before_role m)))
before (from_next m h ts) = sign lpar ∷ before_line m h ts
before (from_done m h ts p) = name letQ p ∷ sign lpar ∷ before_line m h ts
before (to_next m h ts p) = sign comma ∷ name letQ p ∷ sign lpar ∷ before_line m h ts
before (to_done m h ts p q) = name letQ q ∷ sign comma ∷ name letQ p ∷ sign lpar ∷ before_line m h ts
before (guard_first m h ts p q) = before_guard m h ts p q
before (guard_next m h ts p q g) = before_literal m h ts p q (some g)
before (guard_barred m h ts p q g) = sign minus ∷ before_literal m h ts p q g
before (guard_done m h ts p q g) = put_literals g (before_guard m h ts p q)
before (action_done m h ts p q g x) = put_set x (sign slash ∷ put_guard g (before_guard m h ts p q))
before (set_next w) = before_slot w
before (set_first w) = sign lbrace ∷ before_slot w
before (set_more w ns) = put_names letS ns (sign lbrace ∷ before_slot w)
before (set_comma w ns) = sign comma ∷ put_names letS ns (sign lbrace ∷ before_slot w)

-- ── every way on adds its token ──

unfoldable pub Right : State → Way → Type 0
Right p (on k p') = before p' ≡ sign k ∷ before p
Right p (read l f) = (n : ℕ) → before (f n) ≡ name l n ∷ before p

unfoldable pub AllRight : State → List Way → Type 0
AllRight p [] = Unit {0}
AllRight p (a ∷ ws) = Right p a × AllRight p ws

close-right : (h : Enclosure) (t : Chart) (p : State) → before p ≡ put_chart t (before_enclosure h)
    → AllRight p (close h t)
unfolding AllRight Right close add_slave before before_enclosure before_pair put_single put_optional
close-right whole t p e = tt
close-right (in_slave m none q g) t p e = (ap (sign rpar ∷◌) (sym e), tt)
close-right (in_slave m (some ps) q g) t p e = (ap (sign rpar ∷◌) (sym e), tt)
close-right (in_hiding x g) t p e = (ap (sign rsq ∷◌) (sym e), tt)
close-right (in_brackets g) (single s) p e = tt
close-right (in_brackets g) (composed a x b) p e = (ap (sign rpar ∷◌) (sym e), tt)

follow-right : (g : Context) (s : Single) (p : State) → before p ≡ put_single s (before_context g)
    → AllRight p (follow g s)
unfolding AllRight Right follow before before_enclosure before_slot put_single
follow-right (first_in h) s p e = (ap (sign bar ∷◌) (sym e), close-right h (single s) p e)
follow-right (second_in a x h) s p e = close-right h (composed a x (single s)) p e

last_set-right : (g : Context) (s : Single) (ws : List Way) → AllRight (ended g s) ws
    → AllRight (ended g s) (last_set g s ws)
unfolding AllRight Right last_set before before_slot put_single put_optional
last_set-right g (sequential s) ws h = h
last_set-right g (decomposed s ps) ws h = h
last_set-right g (hidden x t none) ws h = (refl, h)
last_set-right g (hidden x t (some y)) ws h = h

sequential_end-right : (m : Role) (s : Sequential) → before (sequential_end m s) ≡ put_sequential s (before_role m)
unfolding sequential_end before before_role put_single
sequential_end-right (alone g) s = refl
sequential_end-right (master g) s = refl

set_end-right : (w : Slot) (x : Signals) → before (set_end w x) ≡ put_set x (before_slot w)
unfolding set_end before before_slot before_states put_heading put_single put_optional
set_end-right (feedback m c qs i) x = refl
set_end-right (action m h ts p q g) x = refl
set_end-right (extra m h ts) x = refl
set_end-right (between h a) x = refl
set_end-right (hide_x g) x = refl
set_end-right (hide_y g x t) y = refl

state_right : (m : Role) (c : ℕ) (qs : Option (OneOrMore ℕ)) (q : ℕ)
    → put_names letQ (qs ▸? q) (before_states m c) ≡ name letQ q ∷ before_state m c qs
unfolding ◌▸?◌ before_state put_names
state_right m c none q = refl
state_right m c (some qs) q = refl

barred_right : (m : Role) (h : Heading) (ts : Option (OneOrMore Transition)) (p q : ℕ)
    (g : Option (OneOrMore Literal)) (n : ℕ)
    → put_literals (g ▸? barred n) (before_guard m h ts p q) ≡ name letS n ∷ sign minus ∷ before_literal m h ts p q g
unfolding ◌▸?◌ before_literal put_literals put_literal
barred_right m h ts p q none n = refl
barred_right m h ts p q (some g) n = refl

line-right : (m : Role) (h : Heading) (ts : Option (OneOrMore Transition)) (t : Transition)
    → put_transition_list (ts ▸? t) (before_lines m h) ≡ put_transition t (before_line m h ts)
unfolding ◌▸?◌ before_line put_transition_list
line-right m h none t = refl
line-right m h (some ts) t = refl

pub ways-right : (p : State) → AllRight p (ways p)
unfolding AllRight Right ways before before_enclosure before_pair before_role before_states before_state before_lines
    before_line before_guard before_literal before_slot
    put_names put_set put_optional put_literal put_literals put_guard put_transition put_transition_list put_transitions
    put_heading put_extra put_sequential put_single
ways-right (part g) = (refl, (refl, (refl, (refl, tt))))
ways-right (opened g) = ((λ n. refl), (refl, (refl, (refl, (refl, tt)))))
ways-right (ended g s) = last_set-right g s (follow g s) (follow-right g s (ended g s) refl)
ways-right (boxed (first_in h) a x b) = (refl, tt)
ways-right (boxed (second_in c y h) a x b) =
    close-right h (composed c y (composed a x b)) (boxed (second_in c y h) a x b) refl
ways-right (joined h a x) = (refl, tt)
ways-right (with_x g x) = (refl, tt)
ways-right (dec_of g) = (refl, tt)
ways-right (dec_open g) = ((λ n. refl), tt)
ways-right (dec_by g s) = (refl, tt)
ways-right (dec_brace g s) = (refl, tt)
ways-right (pair_open g s ps) = (refl, tt)
ways-right (pair_state g s ps) = ((λ n. refl), tt)
ways-right (pair_comma g s ps q) = (refl, tt)
ways-right (pair_done g s ps) = (refl, (refl, tt))
ways-right (named m c) = (refl, tt)
ways-right (states_open m c) = (refl, tt)
ways-right (states_next m c qs) = ((λ n. state_right m c qs n), tt)
ways-right (states_more m c qs) = (refl, (refl, tt))
ways-right (states_done m c qs) = (refl, tt)
ways-right (initial_next m c qs) = ((λ n. refl), tt)
ways-right (initial_done m c qs i) = (refl, tt)
ways-right (head_done m h) = (refl, tt)
ways-right (lines_open m h) = (refl, tt)
ways-right (lines_first m h) = (refl, (refl, tt))
ways-right (lines_next m h ts) = (refl, tt)
ways-right (line_done m h ts) = (refl, (refl, tt))
ways-right (lines_done m h ts) =
    (refl, (sequential_end-right m (record { heading = h; transitions = ts; extra = none }), tt))
ways-right (extra_done m h ts x) = (
  sequential_end-right m (record { heading = h; transitions = ts; extra = some x }),
  tt,
)
ways-right (from_next m h ts) = ((λ n. refl), tt)
ways-right (from_done m h ts p) = (refl, tt)
ways-right (to_next m h ts p) = ((λ n. refl), tt)
ways-right (to_done m h ts p q) = (refl, tt)
ways-right (guard_first m h ts p q) = ((λ n. refl), (refl, (refl, tt)))
ways-right (guard_next m h ts p q g) = ((λ n. refl), (refl, tt))
ways-right (guard_barred m h ts p q g) = ((λ n. barred_right m h ts p q g n), tt)
ways-right (guard_done m h ts p q g) = (refl, (refl, tt))
ways-right (action_done m h ts p q g x) = (line-right m h ts (record { from = p; to = q; guard = g; action = x }), tt)
ways-right (set_next w) = (refl, tt)
ways-right (set_first w) = ((λ n. refl), (set_end-right w none, tt))
ways-right (set_more w ns) = (refl, (set_end-right w (some ns), tt))
ways-right (set_comma w ns) = ((λ n. refl), tt)
