-- Reading without a stack answers as the reader does (`scan-reader`), and so as the grammar says (`scan-none`,
-- `scan-right`, `scan_wrong`).
use Rattle.std.proofs.Math.Path.{◌≡◌, refl, sym, ap}
use Rattle.std.proofs.Common.{◌∙◌, eqb-true, eq-eqb, ne_eqb}
use Rattle.std.specs.Prelude.{Bool, ◌&&◌, ◌||◌, ℕ, suc, ◌+◌, ◌*◌, ◌-◌, ◌/◌, ◌%◌, ◌≤◌, ◌<◌}
use Rattle.std.proofs.Math.Bool.{true, false, cond}
use Rattle.std.proofs.Math.Option.{Option, none, some}
use mathlib.Core.List.{List, [], ◌∷◌, ◌++◌}
use native.Mathlib.Omega.{arith}
use Rattle.std.proofs.Math.Dec.{eqb}
use Rattle.meaning.specs.Laws.Bools.{eqb_sym}
use Rattle.notation.specs.Grammar.{letter, blank, Spells, Sign, lpar, rpar, lbrace, rbrace, lsq, rsq, comma, bar}
use Rattle.notation.specs.Grammar.{slash, amp, minus, wordDec, wordBy, Letter, letC, letQ, letS, FirstWrong}
use Rattle.notation.specs.Laws.Backward.{nothing}
use Rattle.notation.specs.Syntax.{Single, sequential, decomposed, hidden, Chart, single, composed}
use Rattle.notation.specs.Reader.{Enclosure, whole, in_slave, in_hiding, in_brackets, Context, first_in, second_in}
use Rattle.notation.specs.Reader.{Role}
use Rattle.notation.specs.Reader.{alone, master, Slot, feedback, action, extra, between, hide_x, hide_y, State, part}
use Rattle.notation.specs.Reader.{opened, ended, boxed, joined, with_x, dec_of, dec_open, dec_by, dec_brace, pair_open}
use Rattle.notation.specs.Reader.{pair_state, pair_comma, pair_done, named, states_open, states_next, states_more}
use Rattle.notation.specs.Reader.{states_done}
use Rattle.notation.specs.Reader.{initial_next, initial_done, head_done, lines_open, lines_first, lines_next, line_done}
use Rattle.notation.specs.Reader.{lines_done, extra_done, from_next, from_done, to_next, to_done, guard_first}
use Rattle.notation.specs.Reader.{guard_next}
use Rattle.notation.specs.Reader.{guard_barred, guard_done, action_done, set_next, set_first, set_more, set_comma, Way}
use Rattle.notation.specs.Reader.{on}
use Rattle.notation.specs.Reader.{read, close, follow, last_set, ways, final, first_byte, behind, is_digit, Position}
use Rattle.notation.specs.Reader.{gap}
use Rattle.notation.specs.Reader.{inside, letter_read, number, onward, begin, step_gap, step, ending, Reading, spelt}
use Rattle.notation.specs.Reader.{wrong_at, at_end, on_to, read_from, reader}
use Rattle.notation.proofs.Laws.Before.{before, before_enclosure}
use Rattle.notation.proofs.Laws.Led.{Led, Holds, whole_name, step_led}
use Rattle.notation.proofs.Laws.Theorems.{sound, complete, refused}
use Rattle.scan.specs.Look.{look, rev}
use Rattle.scan.specs.Laws.Look.{look_over, enclosure_number, context_number, single-look, part-look, laid-look}
use Rattle.scan.specs.Laws.Look.{rev-append}
use Rattle.scan.specs.Table.{Row, table, lookup, refine}
use Rattle.scan.specs.Laws.Table.{role_number, slot_number, end_number, mode, enclosing, full, keep_if, rows_from}
use Rattle.scan.specs.Laws.Table.{way_row, way_rows, table-right}
use Rattle.scan.specs.Scan.{nowhere, pack, token_after, landed, advance_between, expect}
use Rattle.scan.specs.Scan.{advance_letter, advance_number}
use Rattle.scan.specs.Scan.{advance, is_whole, accepts, advanced, scan_from, scan}

-- ── modes ──

role_le : (m : Role) → role_number m ≤ 1
unfolding role_number
role_le (alone g) = omega arith
role_le (master g) = omega arith

slot_le : (w : Slot) → slot_number w ≤ 8
unfolding slot_number
slot_le (feedback m c qs i) = omega (arith, role_le m)
slot_le (action m h ts p q g) = omega (arith, role_le m)
slot_le (extra m h ts) = omega (arith, role_le m)
slot_le (between h a) = omega arith
slot_le (hide_x g) = omega arith
slot_le (hide_y g x t) = omega arith

end-le : (s : Single) → end_number s ≤ 3
unfolding end_number
end-le (sequential s) = omega arith
end-le (decomposed s ps) = omega arith
end-le (hidden x t none) = omega arith
end-le (hidden x t (some y)) = omega arith

mode-le : (p : State) → mode p ≤ 96
unfolding mode
mode-le (part g) = omega arith
mode-le (opened g) = omega arith
mode-le (ended g s) = omega (arith, end-le s)
mode-le (boxed g a x b) = omega arith
mode-le (joined h a x) = omega arith
mode-le (with_x g x) = omega arith
mode-le (dec_of g) = omega arith
mode-le (dec_open g) = omega arith
mode-le (dec_by g s) = omega arith
mode-le (dec_brace g s) = omega arith
mode-le (pair_open g s ps) = omega arith
mode-le (pair_state g s ps) = omega arith
mode-le (pair_comma g s ps q) = omega arith
mode-le (pair_done g s ps) = omega arith
mode-le (named m c) = omega (arith, role_le m)
mode-le (states_open m c) = omega (arith, role_le m)
mode-le (states_next m c qs) = omega (arith, role_le m)
mode-le (states_more m c qs) = omega (arith, role_le m)
mode-le (states_done m c qs) = omega (arith, role_le m)
mode-le (initial_next m c qs) = omega (arith, role_le m)
mode-le (initial_done m c qs i) = omega (arith, role_le m)
mode-le (head_done m h) = omega (arith, role_le m)
mode-le (lines_open m h) = omega (arith, role_le m)
mode-le (lines_first m h) = omega (arith, role_le m)
mode-le (lines_next m h ts) = omega (arith, role_le m)
mode-le (line_done m h ts) = omega (arith, role_le m)
mode-le (lines_done m h ts) = omega (arith, role_le m)
mode-le (extra_done m h ts x) = omega (arith, role_le m)
mode-le (from_next m h ts) = omega (arith, role_le m)
mode-le (from_done m h ts p) = omega (arith, role_le m)
mode-le (to_next m h ts p) = omega (arith, role_le m)
mode-le (to_done m h ts p q) = omega (arith, role_le m)
mode-le (guard_first m h ts p q) = omega (arith, role_le m)
mode-le (guard_next m h ts p q g) = omega (arith, role_le m)
mode-le (guard_barred m h ts p q g) = omega (arith, role_le m)
mode-le (guard_done m h ts p q g) = omega (arith, role_le m)
mode-le (action_done m h ts p q g x) = omega (arith, role_le m)
mode-le (set_next w) = omega (arith, slot_le w)
mode-le (set_first w) = omega (arith, slot_le w)
mode-le (set_more w ns) = omega (arith, slot_le w)
mode-le (set_comma w ns) = omega (arith, slot_le w)

refine-other : (m a b : ℕ) → 4 < m → refine m a ≡ refine m b
unfolding refine
refine-other m a b h = rw (ne_eqb m 2 (λ e. omega arith), ne_eqb m 3 (λ e. omega arith), ne_eqb m 4 (λ e. omega arith))

-- the look back refines a mode as the state does
refine-right : (p : State) (a : ℕ) → look_over (before p) 0 0 false ≡ a → refine (mode p) a ≡ full p
unfolding full mode enclosing before
refine-right (part g) a e = unfold refine in refl
refine-right (opened g) a e = unfold refine in refl
refine-right (ended g s) a e = ap (refine (end_number s)) (sym e ∙ single-look s g)
refine-right (boxed g d x b) a e = ap (refine 4) (sym e ∙ part-look (composed d x b) g)
refine-right (joined h d x) a e = refine-other _ a 0 (omega arith)
refine-right (with_x g x) a e = refine-other _ a 0 (omega arith)
refine-right (dec_of g) a e = refine-other _ a 0 (omega arith)
refine-right (dec_open g) a e = refine-other _ a 0 (omega arith)
refine-right (dec_by g s) a e = refine-other _ a 0 (omega arith)
refine-right (dec_brace g s) a e = refine-other _ a 0 (omega arith)
refine-right (pair_open g s ps) a e = refine-other _ a 0 (omega arith)
refine-right (pair_state g s ps) a e = refine-other _ a 0 (omega arith)
refine-right (pair_comma g s ps q) a e = refine-other _ a 0 (omega arith)
refine-right (pair_done g s ps) a e = refine-other _ a 0 (omega arith)
refine-right (named m c) a e = refine-other _ a 0 (omega arith)
refine-right (states_open m c) a e = refine-other _ a 0 (omega arith)
refine-right (states_next m c qs) a e = refine-other _ a 0 (omega arith)
refine-right (states_more m c qs) a e = refine-other _ a 0 (omega arith)
refine-right (states_done m c qs) a e = refine-other _ a 0 (omega arith)
refine-right (initial_next m c qs) a e = refine-other _ a 0 (omega arith)
refine-right (initial_done m c qs i) a e = refine-other _ a 0 (omega arith)
refine-right (head_done m h) a e = refine-other _ a 0 (omega arith)
refine-right (lines_open m h) a e = refine-other _ a 0 (omega arith)
refine-right (lines_first m h) a e = refine-other _ a 0 (omega arith)
refine-right (lines_next m h ts) a e = refine-other _ a 0 (omega arith)
refine-right (line_done m h ts) a e = refine-other _ a 0 (omega arith)
refine-right (lines_done m h ts) a e = refine-other _ a 0 (omega arith)
refine-right (extra_done m h ts x) a e = refine-other _ a 0 (omega arith)
refine-right (from_next m h ts) a e = refine-other _ a 0 (omega arith)
refine-right (from_done m h ts p) a e = refine-other _ a 0 (omega arith)
refine-right (to_next m h ts p) a e = refine-other _ a 0 (omega arith)
refine-right (to_done m h ts p q) a e = refine-other _ a 0 (omega arith)
refine-right (guard_first m h ts p q) a e = refine-other _ a 0 (omega arith)
refine-right (guard_next m h ts p q g) a e = refine-other _ a 0 (omega arith)
refine-right (guard_barred m h ts p q g) a e = refine-other _ a 0 (omega arith)
refine-right (guard_done m h ts p q g) a e = refine-other _ a 0 (omega arith)
refine-right (action_done m h ts p q g x) a e = refine-other _ a 0 (omega arith)
refine-right (set_next w) a e = refine-other _ a 0 (omega arith)
refine-right (set_first w) a e = refine-other _ a 0 (omega arith)
refine-right (set_more w ns) a e = refine-other _ a 0 (omega arith)
refine-right (set_comma w ns) a e = refine-other _ a 0 (omega arith)

-- a name's number does not change the mode
unfoldable Steady : (ℕ → State) → Type 0
Steady f = (n : ℕ) → mode (f n) ≡ mode (f 0)

unfoldable AllSteady : List Way → Type 0
AllSteady [] = Unit {0}
AllSteady (on k p ∷ ws) = AllSteady ws
AllSteady (read l f ∷ ws) = Steady f × AllSteady ws

close_steady : (h : Enclosure) (t : Chart) → AllSteady (close h t)
unfolding AllSteady close
close_steady whole t = tt
close_steady (in_slave m ps q g) t = tt
close_steady (in_hiding x g) t = tt
close_steady (in_brackets g) (single s) = tt
close_steady (in_brackets g) (composed a x b) = tt

follow_steady : (g : Context) (s : Single) → AllSteady (follow g s)
unfolding AllSteady follow
follow_steady (first_in h) s = close_steady h (single s)
follow_steady (second_in a x h) s = close_steady h (composed a x (single s))

last_steady : (g : Context) (s : Single) (ws : List Way) → AllSteady ws → AllSteady (last_set g s ws)
unfolding AllSteady last_set
last_steady g (sequential s) ws h = h
last_steady g (decomposed s ps) ws h = h
last_steady g (hidden x t none) ws h = h
last_steady g (hidden x t (some y)) ws h = h

ways_steady : (p : State) → AllSteady (ways p)
unfolding AllSteady Steady ways mode
ways_steady (part g) = tt
ways_steady (opened g) = ((λ n. refl), tt)
ways_steady (ended g s) = last_steady g s (follow g s) (follow_steady g s)
ways_steady (boxed (first_in h) a x b) = tt
ways_steady (boxed (second_in c y h) a x b) = close_steady h (composed c y (composed a x b))
ways_steady (joined h a x) = tt
ways_steady (with_x g x) = tt
ways_steady (dec_of g) = tt
ways_steady (dec_open g) = ((λ n. refl), tt)
ways_steady (dec_by g s) = tt
ways_steady (dec_brace g s) = tt
ways_steady (pair_open g s ps) = tt
ways_steady (pair_state g s ps) = ((λ n. refl), tt)
ways_steady (pair_comma g s ps q) = tt
ways_steady (pair_done g s ps) = tt
ways_steady (named m c) = tt
ways_steady (states_open m c) = tt
ways_steady (states_next m c qs) = ((λ n. refl), tt)
ways_steady (states_more m c qs) = tt
ways_steady (states_done m c qs) = tt
ways_steady (initial_next m c qs) = ((λ n. refl), tt)
ways_steady (initial_done m c qs i) = tt
ways_steady (head_done m h) = tt
ways_steady (lines_open m h) = tt
ways_steady (lines_first m h) = tt
ways_steady (lines_next m h ts) = tt
ways_steady (line_done m h ts) = tt
ways_steady (lines_done m h ts) = tt
ways_steady (extra_done m h ts x) = tt
ways_steady (from_next m h ts) = ((λ n. refl), tt)
ways_steady (from_done m h ts p) = tt
ways_steady (to_next m h ts p) = ((λ n. refl), tt)
ways_steady (to_done m h ts p q) = tt
ways_steady (guard_first m h ts p q) = ((λ n. refl), tt)
ways_steady (guard_next m h ts p q g) = ((λ n. refl), tt)
ways_steady (guard_barred m h ts p q g) = ((λ n. refl), tt)
ways_steady (guard_done m h ts p q g) = tt
ways_steady (action_done m h ts p q g x) = tt
ways_steady (set_next w) = tt
ways_steady (set_first w) = ((λ n. refl), tt)
ways_steady (set_more w ns) = tt
ways_steady (set_comma w ns) = ((λ n. refl), tt)

-- ── places ──

unfoldable pub mode_of : Position → ℕ
mode_of (gap p) = mode p
mode_of (inside c cs p) = mode p
mode_of (letter_read l f) = mode (f 0)
mode_of (number l n f) = mode (f 0)

unfoldable pub token_of : Position → ℕ
token_of (gap p) = 0
token_of (inside c cs p) = cond (eqb c 101) 1 (cond (eqb c 99) 2 3)
token_of (letter_read l f) = 4
token_of (number l n f) = 5

unfoldable pub packed : Option Position → ℕ
packed none = nowhere
packed (some s) = pack (mode_of s) (token_of s)

-- what is left of Dec and by
data Left (c : ℕ) (cs : List ℕ) : Type 0 where
  leftEC : c ≡ 101 → cs ≡ 99 ∷ [] → Left c cs
  left_c : c ≡ 99 → cs ≡ [] → Left c cs
  left_y : c ≡ 121 → cs ≡ [] → Left c cs

unfoldable Fine : Position → Type 0
Fine (gap p) = Unit {0}
Fine (inside c cs p) = Left c cs
Fine (letter_read l f) = Steady f
Fine (number l n f) = Steady f

-- ── one byte ──

onward_token : (k : Sign) (p : State)
    → packed (some (onward (behind (first_byte k)) p)) ≡ pack (mode p) (token_after (first_byte k))
unfolding packed mode_of token_of onward behind first_byte token_after
onward_token lpar p = refl
onward_token rpar p = refl
onward_token lbrace p = refl
onward_token rbrace p = refl
onward_token lsq p = refl
onward_token rsq p = refl
onward_token comma p = refl
onward_token bar p = refl
onward_token slash p = refl
onward_token amp p = refl
onward_token minus p = refl
onward_token wordDec p = refl
onward_token wordBy p = refl

onward-fine : (k : Sign) (p : State) → Fine (onward (behind (first_byte k)) p)
unfolding Fine onward behind first_byte
onward-fine lpar p = tt
onward-fine rpar p = tt
onward-fine lbrace p = tt
onward-fine rbrace p = tt
onward-fine lsq p = tt
onward-fine rsq p = tt
onward-fine comma p = tt
onward-fine bar p = tt
onward-fine slash p = tt
onward-fine amp p = tt
onward-fine minus p = tt
onward-fine wordDec p = leftEC refl refl
onward-fine wordBy p = left_y refl refl

letter_token : (l : Letter) → token_after (letter l) ≡ 4
unfolding token_after letter
letter_token letC = refl
letter_token letQ = refl
letter_token letS = refl

lookup_rows : (rs : List Row) (m b : ℕ) → lookup rs m b ≡ lookup (rows_from m rs) m b
unfolding lookup rows_from keep_if
lookup_rows [] m b = refl
lookup_rows (r ∷ rs) m b = go (eqb r.from m) refl (lookup_rows rs m b)
  where
    go : (c : Bool) → eqb r.from m ≡ c → lookup rs m b ≡ lookup (rows_from m rs) m b
        → cond (c && eqb r.byte b) r.to (lookup rs m b) ≡ lookup (keep_if c r (rows_from m rs)) m b
    go true e ih = rw (e, ih)
    go false e ih = ih

module _ (b : ℕ) where
  begin_rows : (ws : List Way) (m : ℕ) → packed (begin ws b) ≡ landed (lookup (way_rows m ws) m b) b
  unfolding begin lookup way_rows way_row packed landed
  begin_rows [] m = refl
  begin_rows (on k p ∷ ws) m = rw (eq-eqb m m refl) (go (eqb (first_byte k) b) refl (begin_rows ws m))
    where
      go : (c : Bool) → eqb (first_byte k) b ≡ c → packed (begin ws b) ≡ landed (lookup (way_rows m ws) m b) b
          → packed (cond c (some (onward (behind (first_byte k)) p)) (begin ws b))
          ≡ landed (cond c (mode p) (lookup (way_rows m ws) m b)) b
      go true e ih =
          onward_token k p
          ∙ rw (ne_eqb (mode p) 255 (λ z. omega (arith, mode-le p))) (ap (λ x. pack (mode p) (token_after x))
          (eqb-true (first_byte k) b e))
      go false e ih = ih
  begin_rows (read l f ∷ ws) m = rw (eq-eqb m m refl) (go (eqb (letter l) b) refl (begin_rows ws m))
    where
      go : (c : Bool) → eqb (letter l) b ≡ c → packed (begin ws b) ≡ landed (lookup (way_rows m ws) m b) b
          → packed (cond c (some (letter_read l f)) (begin ws b))
          ≡ landed (cond c (mode (f 0)) (lookup (way_rows m ws) m b)) b
      go true e ih = unfold mode_of token_of in
          rw (ne_eqb (mode (f 0)) 255 (λ z. omega (arith, mode-le (f 0))))
          (ap (pack (mode (f 0))) (sym (letter_token l) ∙ ap token_after (eqb-true (letter l) b e)))
      go false e ih = ih

  begin-fine : (ws : List Way) → AllSteady ws → Holds Fine (begin ws b)
  unfolding begin AllSteady Holds
  begin-fine [] h = tt
  begin-fine (on k p ∷ ws) h = go (eqb (first_byte k) b) (begin-fine ws h)
    where
      go : (c : Bool) → Holds Fine (begin ws b)
          → Holds Fine (cond c (some (onward (behind (first_byte k)) p)) (begin ws b))
      go true ih = onward-fine k p
      go false ih = ih
  begin-fine (read l f ∷ ws) h = go (eqb (letter l) b) (begin-fine ws h.1)
    where
      go : (c : Bool) → Holds Fine (begin ws b) → Holds Fine (cond c (some (letter_read l f)) (begin ws b))
      go true ih = unfold Fine in h.0
      go false ih = ih

  between-advance : (p : State) (a : ℕ) → refine (mode p) a ≡ full p
      → packed (step_gap p b) ≡ advance_between (mode p) b a
  unfolding step_gap advance_between
  between-advance p a e = go (blank b)
    where
      go : (c : Bool)
          → packed (cond c (some (gap p)) (begin (ways p) b))
          ≡ cond c (pack (mode p) 0) (landed (lookup table (refine (mode p) a) b) b)
      go true = unfold packed mode_of token_of in refl
      go false =
          begin_rows (ways p) (full p) ∙ ap (λ x. landed x b) (ap (λ rs. lookup rs (full p) b) (sym (table-right p))
          ∙ sym (lookup_rows table (full p) b) ∙ ap (λ m. lookup table m b) (sym e))

  gap-fine : (p : State) → Holds Fine (step_gap p b)
  unfolding step_gap
  gap-fine p = go (blank b)
    where
      go : (c : Bool) → Holds Fine (cond c (some (gap p)) (begin (ways p) b))
      go true = unfold Holds Fine in tt
      go false = begin-fine (ways p) (ways_steady p)

-- ── the end ──

unfoldable given : {A : Type 0} → Option A → Bool
given none = false
given (some a) = true

other-whole : (m : ℕ) → 4 < m → m ≤ 96 → is_whole (refine m 0) ≡ false
unfolding is_whole refine
other-whole m h l =
    rw (
      ne_eqb m 2 (λ e. omega arith),
      ne_eqb m 3 (λ e. omega arith),
      ne_eqb m 4 (λ e. omega arith),
      ne_eqb m 97 (λ e. omega arith),
      ne_eqb m 98 (λ e. omega arith),
      ne_eqb m 105 (λ e. omega arith),
      ne_eqb m 106 (λ e. omega arith),
      ne_eqb m 114 (λ e. omega arith),
    )

whole-right : (p : State) → is_whole (full p) ≡ given (final p)
unfolding is_whole given final full refine mode enclosing end_number enclosure_number context_number
whole-right (part g) = refl
whole-right (opened g) = refl
whole-right (ended (first_in whole) (sequential s)) = refl
whole-right (ended (first_in whole) (decomposed s us)) = refl
whole-right (ended (first_in whole) (hidden u t none)) = refl
whole-right (ended (first_in whole) (hidden u t (some y))) = refl
whole-right (ended (first_in (in_slave m ps q g)) (sequential s)) = refl
whole-right (ended (first_in (in_slave m ps q g)) (decomposed s us)) = refl
whole-right (ended (first_in (in_slave m ps q g)) (hidden u t none)) = refl
whole-right (ended (first_in (in_slave m ps q g)) (hidden u t (some y))) = refl
whole-right (ended (first_in (in_hiding z g)) (sequential s)) = refl
whole-right (ended (first_in (in_hiding z g)) (decomposed s us)) = refl
whole-right (ended (first_in (in_hiding z g)) (hidden u t none)) = refl
whole-right (ended (first_in (in_hiding z g)) (hidden u t (some y))) = refl
whole-right (ended (first_in (in_brackets g)) (sequential s)) = refl
whole-right (ended (first_in (in_brackets g)) (decomposed s us)) = refl
whole-right (ended (first_in (in_brackets g)) (hidden u t none)) = refl
whole-right (ended (first_in (in_brackets g)) (hidden u t (some y))) = refl
whole-right (ended (second_in a x whole) (sequential s)) = refl
whole-right (ended (second_in a x whole) (decomposed s us)) = refl
whole-right (ended (second_in a x whole) (hidden u t none)) = refl
whole-right (ended (second_in a x whole) (hidden u t (some y))) = refl
whole-right (ended (second_in a x (in_slave m ps q g)) (sequential s)) = refl
whole-right (ended (second_in a x (in_slave m ps q g)) (decomposed s us)) = refl
whole-right (ended (second_in a x (in_slave m ps q g)) (hidden u t none)) = refl
whole-right (ended (second_in a x (in_slave m ps q g)) (hidden u t (some y))) = refl
whole-right (ended (second_in a x (in_hiding z g)) (sequential s)) = refl
whole-right (ended (second_in a x (in_hiding z g)) (decomposed s us)) = refl
whole-right (ended (second_in a x (in_hiding z g)) (hidden u t none)) = refl
whole-right (ended (second_in a x (in_hiding z g)) (hidden u t (some y))) = refl
whole-right (ended (second_in a x (in_brackets g)) (sequential s)) = refl
whole-right (ended (second_in a x (in_brackets g)) (decomposed s us)) = refl
whole-right (ended (second_in a x (in_brackets g)) (hidden u t none)) = refl
whole-right (ended (second_in a x (in_brackets g)) (hidden u t (some y))) = refl
whole-right (boxed (first_in whole) a x b) = refl
whole-right (boxed (first_in (in_slave m ps q g)) a x b) = refl
whole-right (boxed (first_in (in_hiding z g)) a x b) = refl
whole-right (boxed (first_in (in_brackets g)) a x b) = refl
whole-right (boxed (second_in d w whole) a x b) = refl
whole-right (boxed (second_in d w (in_slave m ps q g)) a x b) = refl
whole-right (boxed (second_in d w (in_hiding z g)) a x b) = refl
whole-right (boxed (second_in d w (in_brackets g)) a x b) = refl
whole-right (joined h a x) = refl
whole-right (with_x g x) = refl
whole-right (dec_of g) = refl
whole-right (dec_open g) = refl
whole-right (dec_by g s) = refl
whole-right (dec_brace g s) = refl
whole-right (pair_open g s ps) = refl
whole-right (pair_state g s ps) = refl
whole-right (pair_comma g s ps q) = refl
whole-right (pair_done g s ps) = refl
whole-right (named m c) = other-whole (15 + role_number m) (omega arith) (omega (arith, role_le m))
whole-right (states_open m c) = other-whole (17 + role_number m) (omega arith) (omega (arith, role_le m))
whole-right (states_next m c qs) = other-whole (19 + role_number m) (omega arith) (omega (arith, role_le m))
whole-right (states_more m c qs) = other-whole (21 + role_number m) (omega arith) (omega (arith, role_le m))
whole-right (states_done m c qs) = other-whole (23 + role_number m) (omega arith) (omega (arith, role_le m))
whole-right (initial_next m c qs) = other-whole (25 + role_number m) (omega arith) (omega (arith, role_le m))
whole-right (initial_done m c qs i) = other-whole (27 + role_number m) (omega arith) (omega (arith, role_le m))
whole-right (head_done m h) = other-whole (29 + role_number m) (omega arith) (omega (arith, role_le m))
whole-right (lines_open m h) = other-whole (31 + role_number m) (omega arith) (omega (arith, role_le m))
whole-right (lines_first m h) = other-whole (33 + role_number m) (omega arith) (omega (arith, role_le m))
whole-right (lines_next m h ts) = other-whole (35 + role_number m) (omega arith) (omega (arith, role_le m))
whole-right (line_done m h ts) = other-whole (37 + role_number m) (omega arith) (omega (arith, role_le m))
whole-right (lines_done m h ts) = other-whole (39 + role_number m) (omega arith) (omega (arith, role_le m))
whole-right (extra_done m h ts x) = other-whole (41 + role_number m) (omega arith) (omega (arith, role_le m))
whole-right (from_next m h ts) = other-whole (43 + role_number m) (omega arith) (omega (arith, role_le m))
whole-right (from_done m h ts p) = other-whole (45 + role_number m) (omega arith) (omega (arith, role_le m))
whole-right (to_next m h ts p) = other-whole (47 + role_number m) (omega arith) (omega (arith, role_le m))
whole-right (to_done m h ts p q) = other-whole (49 + role_number m) (omega arith) (omega (arith, role_le m))
whole-right (guard_first m h ts p q) = other-whole (51 + role_number m) (omega arith) (omega (arith, role_le m))
whole-right (guard_next m h ts p q g) = other-whole (53 + role_number m) (omega arith) (omega (arith, role_le m))
whole-right (guard_barred m h ts p q g) = other-whole (55 + role_number m) (omega arith) (omega (arith, role_le m))
whole-right (guard_done m h ts p q g) = other-whole (57 + role_number m) (omega arith) (omega (arith, role_le m))
whole-right (action_done m h ts p q g x) = other-whole (59 + role_number m) (omega arith) (omega (arith, role_le m))
whole-right (set_next w) = other-whole (61 + slot_number w) (omega arith) (omega (arith, slot_le w))
whole-right (set_first w) = other-whole (70 + slot_number w) (omega arith) (omega (arith, slot_le w))
whole-right (set_more w ns) = other-whole (79 + slot_number w) (omega arith) (omega (arith, slot_le w))
whole-right (set_comma w ns) = other-whole (88 + slot_number w) (omega arith) (omega (arith, slot_le w))

-- ── all bytes ──

-- a is what the look back finds, where it matters
unfoldable Seen : Position → ℕ → Type 0
Seen (gap p) a = look_over (before p) 0 0 false ≡ a
Seen (inside c cs p) a = Unit {0}
Seen (letter_read l f) a = Unit {0}
Seen (number l n f) a = look_over (before (f n)) 0 0 false ≡ a

led_seen : (s : Position) (u : List ℕ) → Led s u → Seen s (look (rev u []) 0 0 false)
unfolding Led Seen
led_seen (gap p) u d = ap (λ f. f 0 0 false) (sym (laid-look d))
led_seen (inside c cs p) u d = tt
led_seen (letter_read l f) u d = tt
led_seen (number l n f) u d = ap (λ g. g 0 0 false) (sym (laid-look (whole_name n d.1)))

module _ (b a : ℕ) where
  left-advance : (c : ℕ) (cs : List ℕ) (p : State) → Left c cs
      → packed (cond (eqb c b) (some (onward cs p)) none)
      ≡ advance (mode p) (cond (eqb c 101) 1 (cond (eqb c 99) 2 3)) b a
  unfolding advance expect packed onward
  left-advance c cs p (leftEC e d) = rw (e, d, eqb_sym 101 b) (go (eqb b 101))
    where
      go : (x : Bool) → packed (cond x (some (inside 99 [] p)) none) ≡ cond x (pack (mode p) 2) nowhere
      go true = unfold mode_of token_of in refl
      go false = refl
  left-advance c cs p (left_c e d) = rw (e, d, eqb_sym 99 b) (go (eqb b 99))
    where
      go : (x : Bool) → packed (cond x (some (gap p)) none) ≡ cond x (pack (mode p) 0) nowhere
      go true = unfold mode_of token_of in refl
      go false = refl
  left-advance c cs p (left_y e d) = rw (e, d, eqb_sym 121 b) (go (eqb b 121))
    where
      go : (x : Bool) → packed (cond x (some (gap p)) none) ≡ cond x (pack (mode p) 0) nowhere
      go true = unfold mode_of token_of in refl
      go false = refl

  advance-right : (s : Position) → Fine s → Seen s a → packed (step s b) ≡ advance (mode_of s) (token_of s) b a
  unfolding step Fine Seen mode_of token_of Steady advance expect advance_letter advance_number
  advance-right (gap p) f e = between-advance b p a (refine-right p a e)
  advance-right (inside c cs p) f e = left-advance c cs p f
  advance-right (letter_read l f) h e = go (eqb b 48) (is_digit b)
    where
      go : (x y : Bool)
          → packed (cond x (some (gap (f 0))) (cond y (some (number l (b - 48) f)) none))
          ≡ cond x (pack (mode (f 0)) 0) (cond y (pack (mode (f 0)) 5) nowhere)
      go true y = unfold packed mode_of token_of in refl
      go false true = unfold packed mode_of token_of in refl
      go false false = unfold packed in refl
  advance-right (number l n f) h e = go (is_digit b)
    where
      go : (y : Bool)
          → packed (cond y (some (number l (n * 10 + (b - 48)) f)) (step_gap (f n) b))
          ≡ cond y (pack (mode (f 0)) 5) (advance_between (mode (f 0)) b a)
      go true = unfold packed mode_of token_of in refl
      go false = between-advance b (f n) a (refine-right (f n) a e) ∙ ap (λ m. advance_between m b a) (h n)

  step-fine : (s : Position) → Fine s → Holds Fine (step s b)
  unfolding step Holds Fine
  step-fine (gap p) f = gap-fine b p
  step-fine (inside c cs p) (leftEC e d) = go (eqb c b) cs d
    where
      go : (x : Bool) (cs : List ℕ) → cs ≡ 99 ∷ [] → Holds Fine (cond x (some (onward cs p)) none)
      go true cs d = rw d (unfold onward in left_c refl refl)
      go false cs d = tt
  step-fine (inside c cs p) (left_c e d) = go (eqb c b) cs d
    where
      go : (x : Bool) (cs : List ℕ) → cs ≡ [] → Holds Fine (cond x (some (onward cs p)) none)
      go true cs d = rw d (unfold onward in tt)
      go false cs d = tt
  step-fine (inside c cs p) (left_y e d) = go (eqb c b) cs d
    where
      go : (x : Bool) (cs : List ℕ) → cs ≡ [] → Holds Fine (cond x (some (onward cs p)) none)
      go true cs d = rw d (unfold onward in tt)
      go false cs d = tt
  step-fine (letter_read l f) h = go (eqb b 48) (is_digit b)
    where
      go : (x y : Bool) → Holds Fine (cond x (some (gap (f 0))) (cond y (some (number l (b - 48) f)) none))
      go true y = tt
      go false true = h
      go false false = tt
  step-fine (number l n f) h = go (is_digit b)
    where
      go : (y : Bool) → Holds Fine (cond y (some (number l (n * 10 + (b - 48)) f)) (step_gap (f n) b))
      go true = h
      go false = gap-fine b (f n)

mode-of-le : (s : Position) → mode_of s ≤ 96
unfolding mode_of
mode-of-le (gap p) = mode-le p
mode-of-le (inside c cs p) = mode-le p
mode-of-le (letter_read l f) = mode-le (f 0)
mode-of-le (number l n f) = mode-le (f 0)

token_le : (s : Position) → token_of s ≤ 5
unfolding token_of
token_le (gap p) = omega arith
token_le (inside c cs p) = go (eqb c 101) (eqb c 99)
  where
    go : (x y : Bool) → cond x 1 (cond y 2 3) ≤ 5
    go true y = omega arith
    go false true = omega arith
    go false false = omega arith
token_le (letter_read l f) = omega arith
token_le (number l n f) = omega arith

accepts-right : (s : Position) (a : ℕ) → Fine s → Seen s a → accepts (mode_of s) (token_of s) a ≡ given (ending s)
unfolding accepts ending mode_of token_of Fine Seen given Steady
accepts-right (gap p) a f e = ap is_whole (refine-right p a e) ∙ whole-right p
accepts-right (inside c cs p) a f e = go (eqb c 101) (eqb c 99)
  where
    go : (x y : Bool)
        → ((eqb (cond x 1 (cond y 2 3)) 0 || eqb (cond x 1 (cond y 2 3)) 5) && is_whole (refine (mode p) a)) ≡ false
    go true y = refl
    go false true = refl
    go false false = refl
accepts-right (letter_read l f) a h e = refl
accepts-right (number l n f) a h e = ap (λ m. is_whole (refine m a)) (sym (h n)) ∙ ap is_whole (refine-right (f n) a e)
    ∙ whole-right (f n)

-- the place of refusal 50, or none
unfoldable pub verdict : Reading → Option ℕ
verdict (spelt t) = none
verdict (wrong_at k) = some k

agree : (w u : List ℕ) (k : ℕ) (s : Position) → Led s u → Fine s
    → verdict (read_from w k s) ≡ scan_from w (rev u []) k (mode_of s) (token_of s)
unfolding read_from scan_from on_to at_end verdict Holds packed rev
agree [] u k s d f = rw (accepts-right s (look (rev u []) 0 0 false) f (led_seen s u d)) (go (ending s))
  where
    go : (o : Option Chart) → verdict (at_end k o) ≡ cond (given o) none (some k)
    go none = unfold given in refl
    go (some t) = unfold given in refl
agree (b ∷ w) u k s d f =
    go (step s b) (advance-right b (look (rev u []) 0 0 false) s f (led_seen s u d)) (step_led b u s d)
    (step-fine b 0 s f) (λ s' d' f'. agree w (u ++ (b ∷ [])) (suc k) s' d' f')
  where
    unpack : (m x : ℕ) → m ≤ 96 → x ≤ 5 → (F : ℕ → ℕ → Option ℕ) → advanced (pack m x) k F ≡ F m x
    unpack m x h l F = unfold advanced pack in
        rw (ne_eqb (m * 8 + x) nowhere (λ e. omega arith)) (ap (λ y. F y ((m * 8 + x) % 8)) (let z : (m * 8 + x) / 8
        ≡ m = omega arith in z) ∙ ap (F m) (let z : (m * 8 + x) % 8 ≡ x = omega arith in z))

    go : (o : Option Position) → packed o ≡ advance (mode_of s) (token_of s) b (look (rev u []) 0 0 false)
        → Holds (λ s'. Led s' (u ++ (b ∷ []))) o → Holds Fine o
        → ((s' : Position) → Led s' (u ++ (b ∷ [])) → Fine s'
        → verdict (read_from w (suc k) s') ≡ scan_from w (rev (u ++ (b ∷ [])) []) (suc k) (mode_of s') (token_of s'))
        → verdict (on_to k (read_from w (suc k)) o)
        ≡ advanced (advance (mode_of s) (token_of s) b (look (rev u []) 0 0 false)) k
        (scan_from w (b ∷ rev u []) (suc k))
    go none h l g ih = rw (sym h) (unfold advanced in refl)
    go (some s') h l g ih =
        ih s' l g ∙ ap (λ x. scan_from w x (suc k) (mode_of s') (token_of s')) (rev-append u (b ∷ []) [])
        ∙ sym (unpack (mode_of s') (token_of s') (mode-of-le s') (token_le s') (scan_from w (b ∷ rev u []) (suc k)))
        ∙ ap (λ x. advanced x k (scan_from w (b ∷ rev u []) (suc k))) h

-- the scan answers as the reader does
pub scan-reader : (w : List ℕ) → scan w ≡ verdict (reader w)
unfolding scan reader rev mode_of token_of mode Led before before_enclosure Fine
scan-reader w = sym (agree w [] 0 (gap (part (first_in whole))) nothing tt)

-- so, by the theorems on the reader: none exactly if the text spells a chart, and else the place of the first wrong
-- byte
pub scan-right : (w : List ℕ) (t : Chart) → Spells w t → scan w ≡ none
unfolding verdict
scan-right w t d = scan-reader w ∙ ap verdict (complete w t d)

pub scan-none : (w : List ℕ) → scan w ≡ none → (t : Chart) × Spells w t
scan-none w e = go (reader w) refl (sym (scan-reader w) ∙ e)
  where
    go : (a : Reading) → reader w ≡ a → verdict a ≡ none → (t : Chart) × Spells w t
    go (spelt t) h v = (t, sound w t h)
    go (wrong_at k) h v = absurd (unfold verdict in let z : ◌≡◌ {A = ℕ} 0 1 = cc in omega arith)

pub scan_wrong : (w : List ℕ) (k : ℕ) → scan w ≡ some k → FirstWrong w k
scan_wrong w k e = go (reader w) refl (sym (scan-reader w) ∙ e)
  where
    go : (a : Reading) → reader w ≡ a → verdict a ≡ some k → FirstWrong w k
    go (spelt t) h v = absurd (unfold verdict in let z : ◌≡◌ {A = ℕ} 0 1 = cc in omega arith)
    go (wrong_at j) h v = refused w k (h ∙ ap wrong_at (unfold verdict in let z : j ≡ k = cc in z))
