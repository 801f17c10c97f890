-- Looking back finds what encloses the part that has just ended: over tokens (`single-look`, `part-look`), and over
-- bytes as over tokens (`laid-look`).
use Rattle.std.specs.Prelude.{◌≡◌, Bool, ◌||◌, List, [], ◌∷◌, ◌++◌, ℕ, zero, suc, ◌+◌, ◌/◌, ◌%◌, ◌≤◌, ◌<◌}
use Rattle.std.specs.Prelude.{eqb, ltb}
use Rattle.std.proofs.Math.Path.{refl, fun_ext}
use Rattle.std.proofs.Common.{sym, ap, ◌∙◌}
use Rattle.std.proofs.Math.Bool.{true, false}
use Rattle.std.proofs.lemmas.Bool.{false≢true}
use Rattle.std.proofs.Math.Option.{Option, none, some}
use native.Mathlib.Omega.{arith}
use borrow.Author.Tests.{ltb-false, eqb-true, ne_eqb, ltb-true}
use Rattle.notation.specs.Grammar.{blank, sign_bytes, letter, bytes_of, Sign, lpar, rpar, lbrace, rbrace, lsq}
use Rattle.notation.specs.Grammar.{rsq, comma, bar, slash, amp, minus, wordDec, wordBy, Letter, letC, letQ, letS}
use Rattle.notation.specs.Grammar.{Token, sign, name, Tokens}
use Rattle.line.specs.Line.{decimal}
use Rattle.notation.specs.Laws.Decimal.{decimal-one, decimal-more}
use Rattle.notation.specs.Laws.Backward.{Laid, nothing, space, token, put_names, put_set, put_optional, put_literal}
use Rattle.notation.specs.Laws.Backward.{put_literals, put_guard, put_transition, put_transition_list, put_transitions}
use Rattle.notation.specs.Laws.Backward.{put_heading, put_extra, put_sequential, put_single, put_chart, put_part}
use Rattle.notation.specs.Laws.Backward.{put_slaves}
use Rattle.notation.specs.Syntax.{OneOrMore, one, ◌▸◌, Signals, Literal, needed, barred, Transition, Heading}
use Rattle.notation.specs.Syntax.{Sequential, Single, sequential, decomposed, hidden, Chart, single, composed, Slaves}
use Rattle.notation.specs.Syntax.{first_slave, more_slaves}
use Rattle.notation.specs.Reader.{Enclosure, whole, in_slave, in_hiding, in_brackets, Context, first_in, second_in}
use Rattle.notation.specs.Reader.{first_byte}
use Rattle.notation.proofs.Laws.Before.{before_enclosure, before_context}
use Rattle.scan.specs.Look.{opener, closer, around, back, back_to, look, rev}

-- ── over tokens ──

unfoldable pub look_over : Tokens → ℕ → ℕ → Bool → ℕ
look_over [] n s q = s
look_over (sign k ∷ r) n s q = back (first_byte k) (look_over r) n s q
look_over (name l k ∷ r) n s q = back (letter l) (look_over r) n s q

-- from x on, n brackets deep, the look goes on at r; z says whether a state's name has just been passed
record Over (z : Bool) (x r : Tokens) (n : ℕ) : Type 0 where
  pass : (s : ℕ) (q : Bool) → look_over x n s q ≡ look_over r n s z

-- as from x to m, so to r
◌⨟◌ : {y z : Bool} {x m r : Tokens} {n : ℕ} → Over y x m n → Over z m r n → Over z x r n
◌⨟◌ {y} {z} {x} {m} {r} {n} h k = record { pass = λ s q. h.pass s q ∙ k.pass s y }

infixr 50 ◌⨟◌
abbrev is_q : Letter → Bool
is_q letC = false
is_q letQ = true
is_q letS = false

module _ {r : Tokens} {n : ℕ} where
  comma-over : Over false (sign comma ∷ r) r n
  unfolding look_over back_to opener closer blank first_byte letter
  comma-over = record { pass = λ s q. refl }

  slash_over : Over false (sign slash ∷ r) r n
  unfolding look_over back_to opener closer blank first_byte letter
  slash_over = record { pass = λ s q. refl }

  amp_over : Over false (sign amp ∷ r) r n
  unfolding look_over back_to opener closer blank first_byte letter
  amp_over = record { pass = λ s q. refl }

  minus_over : Over false (sign minus ∷ r) r n
  unfolding look_over back_to opener closer blank first_byte letter
  minus_over = record { pass = λ s q. refl }

  word_dec_over : Over false (sign wordDec ∷ r) r n
  unfolding look_over back_to opener closer blank first_byte letter
  word_dec_over = record { pass = λ s q. refl }

  word_by_over : Over false (sign wordBy ∷ r) r n
  unfolding look_over back_to opener closer blank first_byte letter
  word_by_over = record { pass = λ s q. refl }

  name_over : (l : Letter) (k : ℕ) → Over (is_q l) (name l k ∷ r) r n
  unfolding look_over back_to opener closer blank first_byte letter
  name_over letC k = record { pass = λ s q. refl }
  name_over letQ k = record { pass = λ s q. refl }
  name_over letS k = record { pass = λ s q. refl }

  -- a bar inside brackets
  bar_over : Over false (sign bar ∷ r) r (suc n)
  unfolding look_over back_to opener closer blank first_byte letter
  bar_over = record { pass = λ s q. refl }

  -- what stands in brackets is passed over
  braced : {z : Bool} {x : Tokens} → Over z x (sign lbrace ∷ r) (suc n) → Over false (sign rbrace ∷ x) r n
  unfolding look_over back_to opener closer blank first_byte letter
  braced h = record { pass = λ s q. h.pass s false }

  round : {z : Bool} {x : Tokens} → Over z x (sign lpar ∷ r) (suc n) → Over false (sign rpar ∷ x) r n
  unfolding look_over back_to opener closer blank first_byte letter
  round h = record { pass = λ s q. h.pass s false }

  squared : {z : Bool} {x : Tokens} → Over z x (sign lsq ∷ r) (suc n) → Over false (sign rsq ∷ x) r n
  unfolding look_over back_to opener closer blank first_byte letter
  squared h = record { pass = λ s q. h.pass s false }

  empty : Over false (sign rbrace ∷ sign lbrace ∷ r) r n
  unfolding look_over back_to opener closer blank first_byte letter
  empty = record { pass = λ s q. refl }

names-over : (l : Letter) (ns : OneOrMore ℕ) {r : Tokens} {n : ℕ} → Over (is_q l) (put_names l ns r) r n
unfolding put_names
names-over l (one k) = name_over l k
names-over l (ns ▸ k) = name_over l k ⨟ comma-over ⨟ names-over l ns

set-over : (x : Signals) {r : Tokens} {n : ℕ} → Over false (put_set x r) r n
unfolding put_set
set-over none = empty
set-over (some ns) = braced (names-over letS ns)

literal_over : (g : Literal) {r : Tokens} {n : ℕ} → Over false (put_literal g r) r n
unfolding put_literal
literal_over (needed k) = name_over letS k
literal_over (barred k) = name_over letS k ⨟ minus_over

literals-over : (gs : OneOrMore Literal) {r : Tokens} {n : ℕ} → Over false (put_literals gs r) r n
unfolding put_literals
literals-over (one g) = literal_over g
literals-over (gs ▸ g) = literal_over g ⨟ amp_over ⨟ literals-over gs

guard-over : (g : Option (OneOrMore Literal)) {r : Tokens} {n : ℕ} → Over false (sign slash ∷ put_guard g r) r n
unfolding put_guard
guard-over none = slash_over
guard-over (some gs) = slash_over ⨟ literals-over gs

line-over : (t : Transition) {r : Tokens} {n : ℕ} → Over false (put_transition t r) r n
unfolding put_transition
line-over t =
    round (set-over t.action ⨟ guard-over t.guard ⨟ comma-over ⨟ name_over letQ
    t.to ⨟ comma-over ⨟ name_over letQ t.from)

lines_over : (ts : OneOrMore Transition) {r : Tokens} {n : ℕ} → Over false (put_transition_list ts r) r n
unfolding put_transition_list
lines_over (one t) = line-over t
lines_over (ts ▸ t) = line-over t ⨟ comma-over ⨟ lines_over ts

transitions_over : (ts : Option (OneOrMore Transition)) {r : Tokens} {n : ℕ} → Over false (put_transitions ts r) r n
unfolding put_transitions
transitions_over none = empty
transitions_over (some ts) = braced (lines_over ts)

head-over : (h : Heading) {r : Tokens} {n : ℕ} → Over false (put_heading h r) (sign lpar ∷ r) n
unfolding put_heading
head-over h =
    set-over h.feedback ⨟ comma-over ⨟ name_over letQ h.initial ⨟ comma-over ⨟ braced
    (names-over letQ h.states) ⨟ comma-over ⨟ name_over letC h.name

extra_over : (x : Option Signals) {z : Bool} {m r : Tokens} {n : ℕ} → Over z m r n → Over z (put_extra x m) r n
unfolding put_extra
extra_over none h = h
extra_over (some x) h = set-over x ⨟ comma-over ⨟ h

seq_over : (t : Sequential) {r : Tokens} {n : ℕ} → Over false (put_sequential t r) r n
unfolding put_sequential
seq_over t = round (extra_over t.extra (transitions_over t.transitions ⨟ comma-over ⨟ head-over t.heading))

-- a set that may be left out, where the look begins and where it ends
maybe_over : (y : Option Signals) {z : Bool} {m r : Tokens} {n : ℕ} → Over z m r n → Over z (put_optional y m) r n
unfolding put_optional
maybe_over none h = h
maybe_over (some y) h = set-over y ⨟ h

over_maybe : (x : Option Signals) {m r : Tokens} {n : ℕ} → Over false m (put_optional x r) n → Over false m r n
unfolding put_optional
over_maybe none h = h
over_maybe (some x) h = h ⨟ set-over x

mutual
  unfolding put_single

  single-over : (t : Single) {r : Tokens} {n : ℕ} → Over false (put_single t r) r n
  single-over (sequential s) = seq_over s
  single-over (decomposed t ps) = braced (slaves-over ps) ⨟ word_by_over ⨟ seq_over t ⨟ word_dec_over
  single-over (hidden x t y) = maybe_over y (over_maybe x (squared (chart-over t)))

  -- a chart inside brackets
  chart-over : (t : Chart) {r : Tokens} {n : ℕ} → Over false (put_chart t r) r (suc n)
  chart-over (single t) = single-over t
  chart-over (composed a x b) = part-over b ⨟ bar_over ⨟ set-over x ⨟ bar_over ⨟ part-over a

  part-over : (t : Chart) {r : Tokens} {n : ℕ} → Over false (put_part t r) r n
  part-over (single t) = single-over t
  part-over (composed a x b) = round (part-over b ⨟ bar_over ⨟ set-over x ⨟ bar_over ⨟ part-over a)

  slaves-over : (ps : Slaves) {r : Tokens} {n : ℕ} → Over false (put_slaves ps r) r n
  slaves-over (first_slave k t) = round (chart-over t ⨟ comma-over ⨟ name_over letQ k)
  slaves-over (more_slaves ps k t) = round (chart-over t ⨟ comma-over ⨟ name_over letQ k) ⨟ comma-over ⨟ slaves-over ps

-- ── the context ──

unfoldable pub enclosure_number : Enclosure → ℕ
enclosure_number whole = 0
enclosure_number (in_slave t ps q g) = 2
enclosure_number (in_hiding x g) = 4
enclosure_number (in_brackets g) = 6

unfoldable pub context_number : Context → ℕ
context_number (first_in h) = enclosure_number h
context_number (second_in a x h) = enclosure_number h + 1

enclosure_look : (h : Enclosure) (s : ℕ) → look_over (before_enclosure h) 0 s false ≡ enclosure_number h + s
unfolding look_over back_to around opener closer blank first_byte letter before_enclosure enclosure_number
enclosure_look whole s = let z : s ≡ 0 + s = omega arith in z
enclosure_look (in_slave t ps q g) s = refl
enclosure_look (in_hiding x g) s = refl
enclosure_look (in_brackets g) s = refl

context_look : (g : Context) → look_over (before_context g) 0 0 false ≡ context_number g
unfolding look_over back_to around opener closer blank first_byte letter before_enclosure context_number
context_look (first_in h) = enclosure_look h 0
    ∙ (let z : enclosure_number h + 0 ≡ enclosure_number h = omega arith in z)
context_look (second_in a x h) = (set-over x {r = sign bar ∷ put_part a (before_enclosure h)}).pass 1 false
    ∙ (part-over a {r = before_enclosure h}).pass 1 false ∙ enclosure_look h 1

-- behind a part
pub single-look : (t : Single) (g : Context) → look_over (put_single t (before_context g)) 0 0 false ≡ context_number g
single-look t g = (single-over t).pass 0 false ∙ context_look g

pub part-look : (t : Chart) (g : Context) → look_over (put_part t (before_context g)) 0 0 false ≡ context_number g
part-look t g = (part-over t).pass 0 false ∙ context_look g

-- ── over bytes ──

pub rev-append : (v w x : List ℕ) → rev (v ++ w) x ≡ rev w (rev v x)
unfolding rev
rev-append [] w x = refl
rev-append (b ∷ v) w x = rev-append v w (b ∷ x)

unfoldable Digits : List ℕ → Type 0
Digits [] = Unit {0}
Digits (d ∷ ds) = ((48 ≤ d) × (d < 58)) × Digits ds

digits_append : (a b : List ℕ) → Digits a → Digits b → Digits (a ++ b)
unfolding Digits
digits_append [] b h k = k
digits_append (d ∷ a) b h k = (h.0, digits_append a b h.1 k)

decimal-digits : (m n : ℕ) → n < m → Digits (decimal n)
decimal-digits zero n h = absurd (omega arith)
decimal-digits (suc m) n h = go (ltb n 10) refl (decimal-digits m (n / 10))
  where
    go : (c : Bool) → ltb n 10 ≡ c → (n / 10 < m → Digits (decimal (n / 10))) → Digits (decimal n)
    go true e ih = let z = ltb-true n 10 e in rw (decimal-one n z) (unfold Digits in ((omega arith, omega arith), tt))
    go false e ih =
        let z = ltb-false n 10 e in
        rw (decimal-more n z)
        (digits_append (decimal (n / 10)) ((48 + n % 10) ∷ []) (ih (omega arith))
        (unfold Digits in ((omega arith, omega arith), tt)))

-- a digit is passed over
back-digit : (d : ℕ) (f : ℕ → ℕ → Bool → ℕ) (n s : ℕ) (q : Bool) → 48 ≤ d → d < 58 → back d f n s q ≡ f n s false
unfolding back_to opener closer blank
back-digit d f n s q h k =
    rw (
      ne_eqb d 41 (λ e. omega arith),
      ne_eqb d 93 (λ e. omega arith),
      ne_eqb d 125 (λ e. omega arith),
      ne_eqb d 40 (λ e. omega arith),
      ne_eqb d 91 (λ e. omega arith),
      ne_eqb d 123 (λ e. omega arith),
      ne_eqb d 124 (λ e. omega arith),
      ne_eqb d 32 (λ e. omega arith),
      ne_eqb d 10 (λ e. omega arith),
      ne_eqb d 13 (λ e. omega arith),
      ne_eqb d 113 (λ e. omega arith),
    )

-- digits in front of x (behind it in the text), where the first of x sets q
digits-look : (ds : List ℕ) (x : List ℕ) → Digits ds → ((n s : ℕ) (q : Bool) → look x n s q ≡ look x n s false)
    → (n s : ℕ) (q : Bool) → look (rev ds x) n s q ≡ look x n s false
unfolding rev Digits
digits-look [] x h e n s q = e n s q
digits-look (d ∷ ds) x h e n s q =
    digits-look ds (d ∷ x) h.1 (λ n s q. skip n s q ∙ sym (skip n s false)) n s q ∙ skip n s false
  where
    skip : (n s : ℕ) (q : Bool) → look (d ∷ x) n s q ≡ look x n s false
    skip n s q = unfold look in back-digit d (look x) n s q h.0.0 h.0.1

letter-look : (l : Letter) (f : ℕ → ℕ → Bool → ℕ) (n s : ℕ) (q : Bool)
    → back (letter l) f n s q ≡ back (letter l) f n s false
unfolding back_to opener closer blank letter
letter-look letC f n s q = refl
letter-look letQ f n s q = refl
letter-look letS f n s q = refl

sign_look : (k : Sign) (x : List ℕ) (n s : ℕ) (q : Bool)
    → look (rev (sign_bytes k) x) n s q ≡ back (first_byte k) (look x) n s q
unfolding sign_bytes rev look back_to opener closer blank first_byte
sign_look lpar x n s q = refl
sign_look rpar x n s q = refl
sign_look lbrace x n s q = refl
sign_look rbrace x n s q = refl
sign_look lsq x n s q = refl
sign_look rsq x n s q = refl
sign_look comma x n s q = refl
sign_look bar x n s q = refl
sign_look slash x n s q = refl
sign_look amp x n s q = refl
sign_look minus x n s q = refl
sign_look wordDec x n s q = refl
sign_look wordBy x n s q = refl

token_look : (t : Token) (x : List ℕ) (r : Tokens) → look x ≡ look_over r → (n s : ℕ) (q : Bool)
    → look (rev (bytes_of t) x) n s q ≡ look_over (t ∷ r) n s q
unfolding bytes_of look_over rev look
token_look (sign k) x r e n s q = sign_look k x n s q ∙ ap (λ f. back (first_byte k) f n s q) e
token_look (name l m) x r e n s q =
    digits-look (decimal m) (letter l ∷ x) (decimal-digits (suc m) m (omega arith))
    (λ n s q. letter-look l (look x) n s q) n s q
    ∙ sym (letter-look l (look x) n s q) ∙ ap (λ f. back (letter l) f n s q) e

blank-look : (b : ℕ) (f : ℕ → ℕ → Bool → ℕ) (n s : ℕ) (q : Bool) → blank b ≡ true → back b f n s q ≡ f n s q
unfolding blank
blank-look b f n s q e = go (eqb b 32) refl (eqb b 10) refl (eqb b 13) refl e
  where
    at : (c : ℕ) → b ≡ c → back c f n s q ≡ f n s q → back b f n s q ≡ f n s q
    at c h k = rw h k

    go : (x : Bool) → eqb b 32 ≡ x → (y : Bool) → eqb b 10 ≡ y → (z : Bool) → eqb b 13 ≡ z → (x || (y || z)) ≡ true
        → back b f n s q ≡ f n s q
    go true h y i z j o = at 32 (eqb-true b 32 h) (unfold back_to opener closer blank in refl)
    go false h true i z j o = at 10 (eqb-true b 10 i) (unfold back_to opener closer blank in refl)
    go false h false i true j o = at 13 (eqb-true b 13 j) (unfold back_to opener closer blank in refl)
    go false h false i false j o = absurd (false≢true o)

pub laid-look : {r : Tokens} {w : List ℕ} → Laid r w → look (rev w []) ≡ look_over r
laid-look nothing = fun_ext λ n. fun_ext λ s. fun_ext λ q. unfold look rev look_over in refl
laid-look {r} (space {w = w} b e d) =
    ap look (rev-append w (b ∷ []) []) ∙ blank-last b (rev w []) e ∙ laid-look d
  where
    blank-last : (b : ℕ) (x : List ℕ) → blank b ≡ true → look (rev (b ∷ []) x) ≡ look x
    blank-last b x e = fun_ext λ n. fun_ext λ s. fun_ext λ q. unfold look rev in blank-look b (look x) n s q e
laid-look (token {r = r} {w = w} t d) =
    ap look (rev-append w (bytes_of t) []) ∙ (let h = laid-look d in
    fun_ext λ n. fun_ext λ s. fun_ext λ q. token_look t (rev w []) r h n s q)
