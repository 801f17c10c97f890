-- Which texts spell a chart: the tokens of each form in their order, the bytes of a token, blanks between tokens; and
-- what the place of refusal 50 is. This file and Syntax are the notation; a reader has to believe nothing else.
use Rattle.std.specs.Prelude.{◌≡◌, Bool, true, ◌||◌, List, [], ◌∷◌, ◌++◌, ℕ, suc, ◌≤◌, ◌<◌, eqb, length, take}
use Rattle.std.proofs.Math.Option.{Option, none, some}
use Prim.Native.Char.{code}
use Rattle.line.specs.Ascii.{ascii}
use Rattle.line.specs.Line.{decimal}
use Rattle.notation.specs.Syntax.{OneOrMore, one, ◌▸◌, Signals, Literal, needed, barred, Transition, Heading}
use Rattle.notation.specs.Syntax.{Sequential, Single, sequential, decomposed, hidden, Chart, single, composed}
use Rattle.notation.specs.Syntax.{Slaves, first_slave, more_slaves}

-- ── tokens ──

pub data Sign : Type 0 where
  lpar rpar lbrace rbrace lsq rsq comma bar slash amp minus wordDec wordBy : Sign

-- what a name begins with: a chart's, a state's or a signal's letter
pub data Letter : Type 0 where
  letC letQ letS : Letter

pub data Token : Type 0 where
  sign : Sign → Token
  name : Letter → ℕ → Token

abbrev pub Tokens : Type 0
Tokens = List Token

-- ── the tokens of each form ──

-- one sign, one name
abbrev pub sign₁ : Sign → Tokens
sign₁ k = sign k ∷ []

abbrev pub name₁ : Letter → ℕ → Tokens
name₁ l n = name l n ∷ []

-- names with commas between them
unfoldable pub of_names : Letter → OneOrMore ℕ → Tokens
of_names l (one n) = name₁ l n
of_names l (ns ▸ n) = of_names l ns ++ (sign₁ comma ++ name₁ l n)

-- {s1,s2}
unfoldable pub of_set : Signals → Tokens
of_set none = sign₁ lbrace ++ sign₁ rbrace
of_set (some ns) = sign₁ lbrace ++ (of_names letS ns ++ sign₁ rbrace)

-- a hiding set that may be left out
unfoldable pub of_optional : Option Signals → Tokens
of_optional none = []
of_optional (some x) = of_set x

-- s1 or -s1
unfoldable pub of_literal : Literal → Tokens
of_literal (needed n) = name₁ letS n
of_literal (barred n) = sign₁ minus ++ name₁ letS n

-- s1&-s2
unfoldable pub of_literals : OneOrMore Literal → Tokens
of_literals (one g) = of_literal g
of_literals (gs ▸ g) = of_literals gs ++ (sign₁ amp ++ of_literal g)

unfoldable pub of_guard : Option (OneOrMore Literal) → Tokens
of_guard none = []
of_guard (some gs) = of_literals gs

-- (from,to,guard/action)
unfoldable pub of_transition : Transition → Tokens
of_transition t =
    sign₁ lpar
    ++ (name₁ letQ t.from
    ++ (sign₁ comma
    ++ (name₁ letQ t.to
    ++ (sign₁ comma ++ (of_guard t.guard ++ (sign₁ slash ++ (of_set t.action ++ sign₁ rpar)))))))

-- transitions with commas between them
unfoldable pub of_transition_list : OneOrMore Transition → Tokens
of_transition_list (one t) = of_transition t
of_transition_list (ts ▸ t) = of_transition_list ts ++ (sign₁ comma ++ of_transition t)

-- {transitions}
unfoldable pub of_transitions : Option (OneOrMore Transition) → Tokens
of_transitions none = sign₁ lbrace ++ sign₁ rbrace
of_transitions (some ts) = sign₁ lbrace ++ (of_transition_list ts ++ sign₁ rbrace)

-- (name,{states},initial,feedback
unfoldable pub of_heading : Heading → Tokens
of_heading h =
    sign₁ lpar
    ++ (name₁ letC h.name
    ++ (sign₁ comma
    ++ (sign₁ lbrace
    ++ (of_names letQ h.states
    ++ (sign₁ rbrace ++ (sign₁ comma ++ (name₁ letQ h.initial ++ (sign₁ comma ++ of_set h.feedback))))))))

-- the extra set, with the comma before it
unfoldable pub of_extra : Option Signals → Tokens
of_extra none = []
of_extra (some x) = sign₁ comma ++ of_set x

-- (name,{states},initial,feedback,{transitions},extra)
unfoldable pub of_sequential : Sequential → Tokens
of_sequential t =
    of_heading t.heading ++ (sign₁ comma ++ (of_transitions t.transitions ++ (of_extra t.extra ++ sign₁ rpar)))

unfoldable mutual
  -- a sequential chart; Dec master by {slaves}; set [chart] set
  pub of_single : Single → Tokens
  of_single (sequential t) = of_sequential t
  of_single (decomposed t ps) =
      sign₁ wordDec ++ (of_sequential t ++ (sign₁ wordBy ++ (sign₁ lbrace ++ (of_slaves ps ++ sign₁ rbrace))))
  of_single (hidden x t y) = of_optional x ++ (sign₁ lsq ++ (of_chart t ++ (sign₁ rsq ++ of_optional y)))

  -- a chart by itself: single, or part |feedback| part
  pub of_chart : Chart → Tokens
  of_chart (single t) = of_single t
  of_chart (composed a x b) = of_part a ++ (sign₁ bar ++ (of_set x ++ (sign₁ bar ++ of_part b)))

  -- a chart as a part of a composition: a composition, and nothing else, stands in round brackets there
  pub of_part : Chart → Tokens
  of_part (single t) = of_single t
  of_part (composed a x b) =
      sign₁ lpar ++ (of_part a ++ (sign₁ bar ++ (of_set x ++ (sign₁ bar ++ (of_part b ++ sign₁ rpar)))))

  -- (state,chart),(state,chart)
  pub of_slaves : Slaves → Tokens
  of_slaves (first_slave q t) = sign₁ lpar ++ (name₁ letQ q ++ (sign₁ comma ++ (of_chart t ++ sign₁ rpar)))
  of_slaves (more_slaves ps q t) =
      of_slaves ps ++ (sign₁ comma ++ (sign₁ lpar ++ (name₁ letQ q ++ (sign₁ comma ++ (of_chart t ++ sign₁ rpar)))))

-- ── the bytes of a token ──

unfoldable pub sign_bytes : Sign → List ℕ
sign_bytes lpar = ascii "("
sign_bytes rpar = ascii ")"
sign_bytes lbrace = ascii "{"
sign_bytes rbrace = ascii "}"
sign_bytes lsq = ascii "["
sign_bytes rsq = ascii "]"
sign_bytes comma = ascii ","
sign_bytes bar = ascii "|"
sign_bytes slash = ascii "/"
sign_bytes amp = ascii "&"
sign_bytes minus = ascii "-"
sign_bytes wordDec = ascii "Dec"
sign_bytes wordBy = ascii "by"

unfoldable pub letter : Letter → ℕ
letter letC = code "c"
letter letQ = code "q"
letter letS = code "s"

-- a name is its letter and its number in decimal, without leading zeros
unfoldable pub bytes_of : Token → List ℕ
bytes_of (sign k) = sign_bytes k
bytes_of (name l n) = letter l ∷ decimal n

-- ── texts ──

-- a space or a line end: bytes 32, 10, 13
unfoldable pub blank : ℕ → Bool
blank b = eqb b 32 || (eqb b 10 || eqb b 13)

-- a text of tokens: their bytes in order, with blanks before, between and behind them
pub data Text : Tokens → List ℕ → Type 0 where
  end : Text [] []
  blank_then : {ts : Tokens} {w : List ℕ} (b : ℕ) → blank b ≡ true → Text ts w → Text ts (b ∷ w)
  token_then : {ts : Tokens} {w : List ℕ} (t : Token) → Text ts w → Text (t ∷ ts) (bytes_of t ++ w)

-- the text w spells the chart t
abbrev pub Spells : List ℕ → Chart → Type 0
Spells w t = Text (of_chart t) w

-- the text without blanks
unfoldable pub bytes_of_all : Tokens → List ℕ
bytes_of_all [] = []
bytes_of_all (t ∷ ts) = bytes_of t ++ bytes_of_all ts

unfoldable pub write : Chart → List ℕ
write t = bytes_of_all (of_chart t)

-- ── the place of refusal 50 ──

-- the bytes w begin some text that spells a chart
abbrev pub Begins : List ℕ → Type 0
Begins w = (rest : List ℕ) × (t : Chart) × Spells (w ++ rest) t

-- k is the place of the first byte of w that no text could have there: what stands before it begins some text, and
-- together with it none; if w only breaks off, k is its length
pub record FirstWrong (w : List ℕ) (k : ℕ) : Type 0 where
  pub within : k ≤ length w
  pub begins : Begins (take k w)
  pub never : k < length w → (v : List ℕ) (t : Chart) → Spells (take (suc k) w ++ v) t → ⊥
  pub no_chart : (t : Chart) → Spells w t → ⊥
