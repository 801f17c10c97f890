-- The same grammar with the last token first, over which the proofs go: lists grow at their end, so that every form
-- only puts tokens in front (`put..`) and no law about appending is needed. It spells the same texts as Grammar
-- (`spells_laid`, `laid_spells`).
use Rattle.std.specs.Prelude.{◌≡◌, refl, true, List, [], ◌∷◌, ◌++◌, ℕ}
use Rattle.std.proofs.Common.{sym, ap, ◌∙◌, subst, append_assoc, append-nil}
use Rattle.std.proofs.Math.Option.{Option, none, some}
use Rattle.notation.specs.Grammar.{bytes_of, blank, Spells, lpar, rpar, lbrace, rbrace, lsq, rsq, comma, bar}
use Rattle.notation.specs.Grammar.{slash, amp, minus, wordDec, wordBy, Letter, letC, letQ, letS, Token, sign}
use Rattle.notation.specs.Grammar.{name, Tokens, sign₁, name₁, Text, end, blank_then, token_then, of_names}
use Rattle.notation.specs.Grammar.{of_set, of_optional, of_literal, of_literals, of_guard, of_transition}
use Rattle.notation.specs.Grammar.{of_transition_list, of_transitions, of_heading, of_extra, of_sequential, of_single}
use Rattle.notation.specs.Grammar.{of_chart, of_part, of_slaves}
use Rattle.notation.specs.Syntax.{OneOrMore, one, ◌▸◌, Signals, Literal, needed, barred, Transition, Heading}
use Rattle.notation.specs.Syntax.{Sequential, Single, sequential, decomposed, hidden, Chart, single, composed}
use Rattle.notation.specs.Syntax.{Slaves, first_slave, more_slaves}

-- ── the tokens of each form, put behind the tokens r ──

unfoldable pub put_names : Letter → OneOrMore ℕ → Tokens → Tokens
put_names l (one n) r = name l n ∷ r
put_names l (ns ▸ n) r = name l n ∷ sign comma ∷ put_names l ns r

unfoldable pub put_set : Signals → Tokens → Tokens
put_set none r = sign rbrace ∷ sign lbrace ∷ r
put_set (some ns) r = sign rbrace ∷ put_names letS ns (sign lbrace ∷ r)

-- a set that may be left out
unfoldable pub put_optional : Option Signals → Tokens → Tokens
put_optional none r = r
put_optional (some x) r = put_set x r

unfoldable pub put_literal : Literal → Tokens → Tokens
put_literal (needed n) r = name letS n ∷ r
put_literal (barred n) r = name letS n ∷ sign minus ∷ r

unfoldable pub put_literals : OneOrMore Literal → Tokens → Tokens
put_literals (one g) r = put_literal g r
put_literals (gs ▸ g) r = put_literal g (sign amp ∷ put_literals gs r)

unfoldable pub put_guard : Option (OneOrMore Literal) → Tokens → Tokens
put_guard none r = r
put_guard (some gs) r = put_literals gs r

-- (from,to,guard/action)
unfoldable pub put_transition : Transition → Tokens → Tokens
put_transition t r =
    sign rpar ∷ put_set t.action (sign slash ∷ put_guard t.guard (sign comma ∷ name letQ t.to ∷ sign comma
    ∷ name letQ t.from ∷ sign lpar ∷ r))

unfoldable pub put_transition_list : OneOrMore Transition → Tokens → Tokens
put_transition_list (one t) r = put_transition t r
put_transition_list (ts ▸ t) r = put_transition t (sign comma ∷ put_transition_list ts r)

unfoldable pub put_transitions : Option (OneOrMore Transition) → Tokens → Tokens
put_transitions none r = sign rbrace ∷ sign lbrace ∷ r
put_transitions (some ts) r = sign rbrace ∷ put_transition_list ts (sign lbrace ∷ r)

-- (name,{states},initial,feedback
unfoldable pub put_heading : Heading → Tokens → Tokens
put_heading h r =
    put_set h.feedback (sign comma ∷ name letQ h.initial ∷ sign comma ∷ sign rbrace
    ∷ put_names letQ h.states (sign lbrace ∷ sign comma ∷ name letC h.name ∷ sign lpar ∷ r))

-- the extra set, with its comma
unfoldable pub put_extra : Option Signals → Tokens → Tokens
put_extra none r = r
put_extra (some x) r = put_set x (sign comma ∷ r)

-- (name,{states},initial,feedback,{transitions},extra)
unfoldable pub put_sequential : Sequential → Tokens → Tokens
put_sequential s r =
    sign rpar ∷ put_extra s.extra (put_transitions s.transitions (sign comma ∷ put_heading s.heading r))

unfoldable mutual
  pub put_single : Single → Tokens → Tokens
  put_single (sequential s) r = put_sequential s r
  put_single (decomposed s ps) r =
      sign rbrace ∷ put_slaves ps (sign lbrace ∷ sign wordBy ∷ put_sequential s (sign wordDec ∷ r))
  put_single (hidden x t y) r = put_optional y (sign rsq ∷ put_chart t (sign lsq ∷ put_optional x r))

  -- a chart by itself
  pub put_chart : Chart → Tokens → Tokens
  put_chart (single s) r = put_single s r
  put_chart (composed a x b) r = put_part b (sign bar ∷ put_set x (sign bar ∷ put_part a r))

  -- a chart as a part of a composition: a composition stands in round brackets
  pub put_part : Chart → Tokens → Tokens
  put_part (single s) r = put_single s r
  put_part (composed a x b) r = sign rpar ∷ put_part b (sign bar ∷ put_set x (sign bar ∷ put_part a (sign lpar ∷ r)))

  pub put_slaves : Slaves → Tokens → Tokens
  put_slaves (first_slave q t) r = sign rpar ∷ put_chart t (sign comma ∷ name letQ q ∷ sign lpar ∷ r)
  put_slaves (more_slaves ps q t) r =
      sign rpar ∷ put_chart t (sign comma ∷ name letQ q ∷ sign lpar ∷ sign comma ∷ put_slaves ps r)

-- the tokens of a chart, last first
unfoldable pub tokens_of : Chart → Tokens
tokens_of t = put_chart t []

-- a text of tokens, last token first, with blanks before, between and behind them
pub data Laid : Tokens → List ℕ → Type 0 where
  nothing : Laid [] []
  space : {r : Tokens} {w : List ℕ} (b : ℕ) → blank b ≡ true → Laid r w → Laid r (w ++ (b ∷ []))
  token : {r : Tokens} {w : List ℕ} (t : Token) → Laid r w → Laid (t ∷ r) (w ++ bytes_of t)

-- the text w is laid as the chart t
abbrev pub LaidAs : List ℕ → Chart → Type 0
LaidAs w t = Laid (tokens_of t) w

-- ── it spells the same texts as Grammar ──

-- tokens put behind others, one after the other
unfoldable pub onto : Tokens → Tokens → Tokens
onto [] r = r
onto (t ∷ ts) r = onto ts (t ∷ r)

onto-append : (a b r : Tokens) → onto (a ++ b) r ≡ onto b (onto a r)
unfolding onto
onto-append [] b r = refl
onto-append (t ∷ a) b r = onto-append a b (t ∷ r)

names-onto : (l : Letter) (ks : OneOrMore ℕ) (r : Tokens) → onto (of_names l ks) r ≡ put_names l ks r
unfolding of_names put_names onto
names-onto l (one k) r = refl
names-onto l (ks ▸ k) r = onto-append (of_names l ks) (sign₁ comma ++ name₁ l k) r
    ∙ ap (λ x. name l k ∷ sign comma ∷ x) (names-onto l ks r)

set-onto : (x : Signals) (r : Tokens) → onto (of_set x) r ≡ put_set x r
unfolding of_set put_set onto
set-onto none r = refl
set-onto (some ks) r = onto-append (of_names letS ks) (sign₁ rbrace) (sign lbrace ∷ r)
    ∙ ap (sign rbrace ∷◌) (names-onto letS ks (sign lbrace ∷ r))

optional_onto : (x : Option Signals) (r : Tokens) → onto (of_optional x) r ≡ put_optional x r
unfolding of_optional put_optional onto
optional_onto none r = refl
optional_onto (some x) r = set-onto x r

literal_onto : (g : Literal) (r : Tokens) → onto (of_literal g) r ≡ put_literal g r
unfolding of_literal put_literal onto
literal_onto (needed k) r = refl
literal_onto (barred k) r = refl

literals-onto : (gs : OneOrMore Literal) (r : Tokens) → onto (of_literals gs) r ≡ put_literals gs r
unfolding of_literals put_literals onto
literals-onto (one g) r = literal_onto g r
literals-onto (gs ▸ g) r = onto-append (of_literals gs) (sign₁ amp ++ of_literal g) r
    ∙ ap (λ x. onto (of_literal g) (sign amp ∷ x)) (literals-onto gs r) ∙ literal_onto g _

guard-onto : (g : Option (OneOrMore Literal)) (r : Tokens) → onto (of_guard g) r ≡ put_guard g r
unfolding of_guard put_guard onto
guard-onto none r = refl
guard-onto (some gs) r = literals-onto gs r

transition-onto : (t : Transition) (r : Tokens) → onto (of_transition t) r ≡ put_transition t r
unfolding of_transition put_transition onto
transition-onto t r =
    onto-append (of_guard t.guard) _ _
    ∙ rw (guard-onto t.guard, onto-append (of_set t.action), set-onto t.action)

transition_list_onto : (ts : OneOrMore Transition) (r : Tokens)
    → onto (of_transition_list ts) r ≡ put_transition_list ts r
unfolding of_transition_list put_transition_list onto
transition_list_onto (one t) r = transition-onto t r
transition_list_onto (ts ▸ t) r = onto-append (of_transition_list ts) (sign₁ comma ++ of_transition t) r
    ∙ ap (λ x. onto (of_transition t) (sign comma ∷ x)) (transition_list_onto ts r) ∙ transition-onto t _

transitions_onto : (ts : Option (OneOrMore Transition)) (r : Tokens) → onto (of_transitions ts) r ≡ put_transitions ts r
unfolding of_transitions put_transitions onto
transitions_onto none r = refl
transitions_onto (some ts) r = onto-append (of_transition_list ts) (sign₁ rbrace) (sign lbrace ∷ r)
    ∙ ap (sign rbrace ∷◌) (transition_list_onto ts (sign lbrace ∷ r))

heading_onto : (h : Heading) (r : Tokens) → onto (of_heading h) r ≡ put_heading h r
unfolding of_heading put_heading onto
heading_onto h r =
    onto-append (of_names letQ h.states) _ _ ∙ rw (names-onto letQ h.states) (set-onto h.feedback _)

extra_onto : (x : Option Signals) (r : Tokens) → onto (of_extra x) r ≡ put_extra x r
unfolding of_extra put_extra onto
extra_onto none r = refl
extra_onto (some x) r = set-onto x (sign comma ∷ r)

sequential_onto : (t : Sequential) (r : Tokens) → onto (of_sequential t) r ≡ put_sequential t r
unfolding of_sequential put_sequential onto
sequential_onto t r =
    onto-append (of_heading t.heading) _ r
    ∙ rw (
      heading_onto t.heading,
      onto-append (of_transitions t.transitions),
      transitions_onto t.transitions,
      onto-append (of_extra t.extra),
      extra_onto t.extra,
    )

mutual
  unfolding of_single put_single onto

  single-onto : (t : Single) (r : Tokens) → onto (of_single t) r ≡ put_single t r
  single-onto (sequential t) r = sequential_onto t r
  single-onto (decomposed t ps) r =
      onto-append (of_sequential t) _ _
      ∙ ap (λ x. onto (of_slaves ps ++ sign₁ rbrace) (sign lbrace ∷ sign wordBy ∷ x))
      (sequential_onto t (sign wordDec ∷ r))
      ∙ onto-append (of_slaves ps) (sign₁ rbrace) _ ∙ ap (sign rbrace ∷◌) (slaves-onto ps _)
  single-onto (hidden x t y) r =
      onto-append (of_optional x) _ r
      ∙ ap (λ z. onto (of_chart t ++ (sign₁ rsq ++ of_optional y)) (sign lsq ∷ z)) (optional_onto x r)
      ∙ onto-append (of_chart t) (sign₁ rsq ++ of_optional y) _
      ∙ ap (λ z. onto (of_optional y) (sign rsq ∷ z)) (chart-onto t _) ∙ optional_onto y _

  pub chart-onto : (t : Chart) (r : Tokens) → onto (of_chart t) r ≡ put_chart t r
  chart-onto (single t) r = single-onto t r
  chart-onto (composed a x b) r =
      onto-append (of_part a) _ r ∙ ap (λ z. onto (of_set x ++ (sign₁ bar ++ of_part b)) (sign bar ∷ z)) (part-onto a r)
      ∙ onto-append (of_set x) (sign₁ bar ++ of_part b) _ ∙ ap (λ z. onto (of_part b) (sign bar ∷ z)) (set-onto x _)
      ∙ part-onto b _

  part-onto : (t : Chart) (r : Tokens) → onto (of_part t) r ≡ put_part t r
  part-onto (single t) r = single-onto t r
  part-onto (composed a x b) r =
      onto-append (of_part a) _ (sign lpar ∷ r)
      ∙ ap (λ z. onto (of_set x ++ (sign₁ bar ++ (of_part b ++ sign₁ rpar))) (sign bar ∷ z)) (part-onto a (sign lpar
      ∷ r))
      ∙ onto-append (of_set x) (sign₁ bar ++ (of_part b ++ sign₁ rpar)) _
      ∙ ap (λ z. onto (of_part b ++ sign₁ rpar) (sign bar ∷ z)) (set-onto x _)
      ∙ onto-append (of_part b) (sign₁ rpar) _ ∙ ap (sign rpar ∷◌) (part-onto b _)

  slaves-onto : (ps : Slaves) (r : Tokens) → onto (of_slaves ps) r ≡ put_slaves ps r
  slaves-onto (first_slave q t) r = onto-append (of_chart t) (sign₁ rpar) _ ∙ ap (sign rpar ∷◌) (chart-onto t _)
  slaves-onto (more_slaves ps q t) r =
      onto-append (of_slaves ps) _ r
      ∙ ap (λ z. onto (of_chart t ++ sign₁ rpar) (sign comma ∷ name letQ q ∷ sign lpar ∷ sign comma ∷ z))
      (slaves-onto ps r)
      ∙ onto-append (of_chart t) (sign₁ rpar) _ ∙ ap (sign rpar ∷◌) (chart-onto t _)

-- the tokens of a chart in their order, put one behind the other
pub chart_tokens : (t : Chart) → onto (of_chart t) [] ≡ tokens_of t
unfolding tokens_of
chart_tokens t = chart-onto t []

laid-at : {r : Tokens} {w v : List ℕ} → w ≡ v → Laid r w → Laid r v
laid-at {r} e d = subst (λ x. Laid r x) e d

text_at : {r : Tokens} {w v : List ℕ} → w ≡ v → Text r w → Text r v
text_at {r} e d = subst (λ x. Text r x) e d

text_laid : {ts r : Tokens} {w v : List ℕ} → Text ts w → Laid r v → Laid (onto ts r) (v ++ w)
unfolding onto
text_laid {v = v} end d = laid-at (sym (append-nil v)) d
text_laid {v = v} (blank_then {w = w} b e t) d = laid-at (append_assoc v (b ∷ []) w) (text_laid t (space b e d))
text_laid {v = v} (token_then {w = w} k t) d = laid-at (append_assoc v (bytes_of k) w) (text_laid t (token k d))

laid_text : {r ts : Tokens} {w v : List ℕ} → Laid r w → Text ts v → Text (onto r ts) (w ++ v)
unfolding onto
laid_text nothing t = t
laid_text {ts = ts} {v = v} (space {w = w} b e d) t =
    text_at (sym (append_assoc w (b ∷ []) v)) (laid_text d (blank_then b e t))
laid_text {ts = ts} {v = v} (token {w = w} k d) t =
    text_at (sym (append_assoc w (bytes_of k) v)) (laid_text d (token_then k t))

onto-onto : (ts r : Tokens) → onto (onto ts r) [] ≡ onto r ts
unfolding onto
onto-onto [] r = refl
onto-onto (t ∷ ts) r = onto-onto ts (t ∷ r)

pub spells_laid : (w : List ℕ) (t : Chart) → Spells w t → LaidAs w t
spells_laid w t h = subst (λ r. Laid r w) (chart_tokens t) (text_laid h nothing)

pub laid_spells : (w : List ℕ) (t : Chart) → LaidAs w t → Spells w t
laid_spells w t d =
    subst (λ ts. Text ts w)
    (ap (λ r. onto r []) (sym (chart_tokens t)) ∙ onto-onto (of_chart t) [] ∙ (unfold onto in refl))
    (subst (λ x. Text (onto (tokens_of t) []) x) (append-nil w) (laid_text d end))
