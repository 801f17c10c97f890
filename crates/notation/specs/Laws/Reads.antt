-- The tokens of every chart are read, and lead to a final state with that chart.
use Rattle.std.specs.Prelude.{◌≡◌, false, cond, List, [], ◌∷◌, ℕ, eqb}
use Rattle.std.proofs.Math.Path.{refl}
use Rattle.std.proofs.Common.{◌∙◌}
use Rattle.std.proofs.Math.Option.{Option, none, some}
use Rattle.notation.specs.Grammar.{letter, Sign, lpar, rpar, lbrace, lsq, rsq, bar, slash, wordDec, letC, letQ}
use Rattle.notation.specs.Grammar.{letS, Token, sign, name, Tokens}
use Rattle.notation.specs.Syntax.{OneOrMore, one, ◌▸◌, Signals, Literal, needed, barred, Transition, Heading}
use Rattle.notation.specs.Syntax.{Sequential, Single, sequential, decomposed, hidden, Chart, single, composed}
use Rattle.notation.specs.Syntax.{Slaves, first_slave, more_slaves}
use Rattle.notation.specs.Laws.Backward.{put_names, put_set, put_optional, put_literal, put_literals, put_guard}
use Rattle.notation.specs.Laws.Backward.{put_transition, put_transition_list, put_transitions, put_heading, put_extra}
use Rattle.notation.specs.Laws.Backward.{put_sequential, put_single, put_chart, put_part, put_slaves, tokens_of}
use Rattle.notation.specs.Reader.{Enclosure, whole, in_slave, in_hiding, in_brackets, Context, first_in, second_in}
use Rattle.notation.specs.Reader.{Role, alone, master, Slot, feedback, action, extra, between, hide_x, hide_y}
use Rattle.notation.specs.Reader.{State, part, opened, ended, boxed, dec_of, pair_open, pair_done, named, states_next}
use Rattle.notation.specs.Reader.{states_more, head_done, lines_open, lines_first, line_done, lines_done, from_next}
use Rattle.notation.specs.Reader.{guard_first, guard_done, set_next, set_first, set_more, Way, on, read, ◌▸?◌}
use Rattle.notation.specs.Reader.{add_slave, sequential_end, set_end, close, follow, last_set, ways, final, first_byte}

-- the state behind a token
unfoldable pub take : List Way → Token → Option State
take [] t = none
take (on k p ∷ ws) (sign k') = cond (eqb (first_byte k) (first_byte k')) (some p) (take ws (sign k'))
take (on k p ∷ ws) (name l n) = take ws (name l n)
take (read l f ∷ ws) (sign k) = take ws (sign k)
take (read l f ∷ ws) (name l' n) = cond (eqb (letter l) (letter l')) (some (f n)) (take ws (name l' n))

-- the tokens r, last first, lead to the state
pub data Reads : Tokens → State → Type 0 where
  start : Reads [] (part (first_in whole))
  next : {r : Tokens} {p p' : State} {t : Token} → Reads r p → take (ways p) t ≡ some p' → Reads (t ∷ r) p'

-- ── sets ──

set_more_lem : (w : Slot) (ns : OneOrMore ℕ) {r : Tokens} → Reads r (set_first w)
    → Reads (put_names letS ns r) (set_more w ns)
unfolding put_names take ways first_byte letter
set_more_lem w (one n) h = next h refl
set_more_lem w (ns ▸ n) h = next (next (set_more_lem w ns h) refl) refl

set_rest : (w : Slot) (x : Signals) {r : Tokens} → Reads (sign lbrace ∷ r) (set_first w)
    → Reads (put_set x r) (set_end w x)
unfolding put_set take ways first_byte letter
set_rest w none h = next h refl
set_rest w (some ns) h = next (set_more_lem w ns h) refl

set_read : (w : Slot) (x : Signals) {r : Tokens} → Reads r (set_next w) → Reads (put_set x r) (set_end w x)
unfolding take ways first_byte
set_read w x h = set_rest w x (next h refl)

-- ── a sequential chart ──

module _ (m : Role) where
  states_read : (c : ℕ) (qs : OneOrMore ℕ) {r : Tokens} → Reads r (states_next m c none)
      → Reads (put_names letQ qs r) (states_more m c qs)
  unfolding put_names take ways first_byte letter ◌▸?◌
  states_read c (one q) h = next h refl
  states_read c (qs ▸ q) h = next (next (states_read c qs h) refl) refl

  head_read : (h : Heading) {r : Tokens} → Reads (name letC h.name ∷ sign lpar ∷ r) (named m h.name)
      → Reads (put_heading h r) (head_done m h)
  unfolding put_heading take ways first_byte letter set_end
  head_read h a =
      set_read (feedback m h.name h.states h.initial) h.feedback
      (next (next (next (next (states_read h.name h.states (next (next a refl) refl)) refl) refl) refl) refl)

  module _ (h : Heading) where
    literals_read : (ts : Option (OneOrMore Transition)) (p q : ℕ) (gs : OneOrMore Literal) {r : Tokens}
        → Reads r (guard_first m h ts p q) → Reads (put_literals gs r) (guard_done m h ts p q gs)
    unfolding put_literals put_literal take ways first_byte letter ◌▸?◌
    literals_read ts p q (one (needed n)) a = next a refl
    literals_read ts p q (one (barred n)) a = next (next a refl) refl
    literals_read ts p q (gs ▸ needed n) a = next (next (literals_read ts p q gs a) refl) refl
    literals_read ts p q (gs ▸ barred n) a = next (next (next (literals_read ts p q gs a) refl) refl) refl

    guard_read : (ts : Option (OneOrMore Transition)) (p q : ℕ) (g : Option (OneOrMore Literal)) {r : Tokens}
        → Reads r (guard_first m h ts p q)
        → Reads (sign slash ∷ put_guard g r) (set_next (action m h ts p q g))
    unfolding put_guard take ways first_byte letter
    guard_read ts p q none a = next a refl
    guard_read ts p q (some gs) a = next (literals_read ts p q gs a) refl

    line_read : (ts : Option (OneOrMore Transition)) (t : Transition) {r : Tokens}
        → Reads (sign lpar ∷ r) (from_next m h ts) → Reads (put_transition t r) (line_done m h (ts ▸? t))
    unfolding put_transition take ways first_byte letter set_end
    line_read ts t a =
        next (set_read (action m h ts t.from t.to t.guard) t.action
        (guard_read ts t.from t.to t.guard (next (next (next (next a refl) refl) refl) refl))) refl

    lines_read : (ts : OneOrMore Transition) {r : Tokens} → Reads r (lines_first m h)
        → Reads (put_transition_list ts r) (line_done m h ts)
    unfolding put_transition_list take ways first_byte letter ◌▸?◌
    lines_read (one t) a = line_read none t (next a refl)
    lines_read (ts ▸ t) a = line_read (some ts) t (next (next (lines_read ts a) refl) refl)

    transitions_read : (ts : Option (OneOrMore Transition)) {r : Tokens} → Reads r (lines_open m h)
        → Reads (put_transitions ts r) (lines_done m h ts)
    unfolding put_transitions take ways first_byte letter
    transitions_read none a = next (next a refl) refl
    transitions_read (some ts) a = next (lines_read ts (next a refl)) refl

  extra_read : (h : Heading) (ts : Option (OneOrMore Transition)) (x : Option Signals) {r : Tokens}
      → Reads r (lines_done m h ts)
      → Reads (sign rpar ∷ put_extra x r) (sequential_end m (record { heading = h; transitions = ts; extra = x }))
  unfolding put_extra take ways first_byte letter set_end
  extra_read h ts none a = next a refl
  extra_read h ts (some x) a = next (set_read (extra m h ts) x (next a refl)) refl

  sequential_read : (s : Sequential) {r : Tokens}
      → Reads (name letC s.heading.name ∷ sign lpar ∷ r) (named m s.heading.name)
      → Reads (put_sequential s r) (sequential_end m s)
  unfolding put_sequential take ways first_byte letter
  sequential_read s a =
      extra_read s.heading s.transitions s.extra (transitions_read s.heading s.transitions
      (next (head_read s.heading a) refl))

-- ── charts ──

-- where a part of the context g can begin
record Starts (p : State) (g : Context) : Type 0 where
  on_par : take (ways p) (sign lpar) ≡ some (opened g)
  on_dec : take (ways p) (sign wordDec) ≡ some (dec_of g)
  on_brace : take (ways p) (sign lbrace) ≡ some (set_first (hide_x g))
  on_square : take (ways p) (sign lsq) ≡ some (part (first_in (in_hiding none g)))

starts_part : (g : Context) → Starts (part g) g
unfolding take ways first_byte
starts_part g = record { on_par = refl; on_dec = refl; on_brace = refl; on_square = refl }

starts_opened : (g : Context) → Starts (opened g) (first_in (in_brackets g))
unfolding take ways first_byte
starts_opened g = record { on_par = refl; on_dec = refl; on_brace = refl; on_square = refl }

-- the state behind a part, and behind a chart
unfoldable pub part_end : Context → Chart → State
part_end g (single s) = ended g s
part_end g (composed a x b) = boxed g a x b

unfoldable pub chart_end : Enclosure → Chart → State
chart_end h (single s) = ended (first_in h) s
chart_end h (composed a x b) = part_end (second_in a x h) b

-- a second hiding set does not bar what else can come
skip : (g : Context) (s : Single) (ws : List Way) (k : Sign) → eqb (first_byte lbrace) (first_byte k) ≡ false
    → take (last_set g s ws) (sign k) ≡ take ws (sign k)
unfolding last_set take
skip g (sequential s) ws k e = refl
skip g (decomposed s ps) ws k e = refl
skip g (hidden x t none) ws k e = rw e
skip g (hidden x t (some y)) ws k e = refl

bar_taken : (h : Enclosure) (a : Chart) → take (ways (part_end (first_in h) a)) (sign bar)
    ≡ some (set_next (between h a))
unfolding part_end ways take first_byte follow
bar_taken h (single s) = skip (first_in h) s _ bar refl
bar_taken h (composed a x b) = refl

-- a sign that closes the enclosure is taken behind the chart
close-taken : (h : Enclosure) (t : Chart) (k : Sign) → eqb (first_byte lbrace) (first_byte k) ≡ false
    → eqb (first_byte bar) (first_byte k) ≡ false
    → take (ways (chart_end h t)) (sign k) ≡ take (close h t) (sign k)
unfolding chart_end part_end ways follow take
close-taken h (single s) k e d = skip (first_in h) s _ k e ∙ rw d
close-taken h (composed a x (single s)) k e d = skip (second_in a x h) s _ k e
close-taken h (composed a x (composed b y c)) k e d = refl

hide_open : (x : Option Signals) {g : Context} {p : State} {r : Tokens} → Starts p g → Reads r p
    → Reads (sign lsq ∷ put_optional x r) (part (first_in (in_hiding x g)))
unfolding put_optional take ways first_byte set_end
hide_open none st a = next a st.on_square
hide_open (some x) {g} st a = next (set_rest (hide_x g) x (next a st.on_brace)) refl

hide_end : (x : Option Signals) (t : Chart) (y : Option Signals) {g : Context} {r : Tokens}
    → Reads r (ended g (hidden x t none)) → Reads (put_optional y r) (ended g (hidden x t y))
unfolding put_optional take ways first_byte set_end last_set
hide_end x t none a = a
hide_end x t (some y) {g} a = set_rest (hide_y g x t) y (next a refl)

mutual
  unfolding put_single take ways first_byte letter close add_slave part_end chart_end sequential_end set_end

  single_read : (s : Single) {g : Context} {p : State} {r : Tokens} → Starts p g → Reads r p
      → Reads (put_single s r) (ended g s)
  single_read (sequential s) {g} st a = sequential_read (alone g) s (next (next a st.on_par) refl)
  single_read (decomposed s ps) {g} st a =
      next (slaves_read ps {g = g} {s =
      s} (next (next (sequential_read (master g) s (next (next (next a st.on_dec) refl) refl)) refl) refl)) refl
  single_read (hidden x t y) {g} st a =
      hide_end x t y (next (chart_read t (hide_open x st a)) (close-taken (in_hiding x g) t rsq refl refl))

  chart_read : (t : Chart) {h : Enclosure} {r : Tokens} → Reads r (part (first_in h))
      → Reads (put_chart t r) (chart_end h t)
  chart_read (single s) {h} a = single_read s (starts_part (first_in h)) a
  chart_read (composed a x b) {h} i =
      part_read b (starts_part (second_in a x h))
      (next (set_read (between h a) x (next (part_read a (starts_part (first_in h)) i) (bar_taken h a))) refl)

  part_read : (t : Chart) {g : Context} {p : State} {r : Tokens} → Starts p g → Reads r p
      → Reads (put_part t r) (part_end g t)
  part_read (single s) st i = single_read s st i
  part_read (composed a x b) {g} st i =
      next (part_read b (starts_part (second_in a x (in_brackets g)))
      (next (set_read (between (in_brackets g) a) x (next (part_read a (starts_opened g) (next i st.on_par))
      (bar_taken (in_brackets g) a))) refl))
      (close-taken (in_brackets g) (composed a x b) rpar refl refl)

  slaves_read : (ps : Slaves) {g : Context} {s : Sequential} {r : Tokens} → Reads r (pair_open g s none)
      → Reads (put_slaves ps r) (pair_done g s ps)
  slaves_read (first_slave q t) {g} {s} a =
      next (chart_read t {h =
      in_slave s none q g} (next (next (next a refl) refl) refl)) (close-taken (in_slave s none q g) t rpar refl refl)
  slaves_read (more_slaves ps q t) {g} {s} a =
      next (chart_read t {h =
      in_slave s (some ps) q g} (next (next (next (next (slaves_read ps a) refl) refl) refl) refl))
      (close-taken (in_slave s (some ps) q g) t rpar refl refl)

pub tokens_read : (t : Chart) → Reads (tokens_of t) (chart_end whole t)
unfolding tokens_of
tokens_read t = chart_read t start

pub final-end : (t : Chart) → final (chart_end whole t) ≡ some t
unfolding chart_end part_end final
final-end (single s) = refl
final-end (composed a x (single s)) = refl
final-end (composed a x (composed b y c)) = refl
