-- Refusal 52: a name out of range; a chart, or a state in its chart's list, given twice; a number left out below the
-- highest, of the charts or of a state list; an initial state that is not the first of its list; a state used that its
-- chart lacks.
use Rattle.std.specs.Prelude.{Bool, true, false, ◌||◌, not, cond, List, [], ◌∷◌, ◌++◌, map, ℕ, zero, suc, eqb, ltb}
use Rattle.std.proofs.Math.Option.{Option, none, some}
use Rattle.meaning.specs.Check.{not_below, differ}
use Rattle.notation.specs.Syntax.{OneOrMore, one, ◌▸◌, Signals, Literal, needed, barred, Transition, Heading}
use Rattle.notation.specs.Syntax.{Sequential, Single, sequential, decomposed, hidden, Chart, single, composed}
use Rattle.notation.specs.Syntax.{Slaves, first_slave}
use Rattle.notation.specs.Syntax.{more_slaves}
use Rattle.reading.specs.Numbers.{named_charts, named_states, named_signals}

-- ── lists ──

-- the members of a list of one or more, in its order
unfoldable pub members_of : {A : Type 0} → OneOrMore A → List A
members_of (one a) = a ∷ []
members_of (as' ▸ a) = members_of as' ++ (a ∷ [])

unfoldable pub members_or : {A : Type 0} → Option (OneOrMore A) → List A
members_or none = []
members_or (some as') = members_of as'

unfoldable pub first : OneOrMore ℕ → ℕ
first (one n) = n
first (ns ▸ n) = first ns

-- some member passes the test
unfoldable pub any : {A : Type 0} → (A → Bool) → List A → Bool
any p [] = false
any p (a ∷ as') = p a || any p as'

unfoldable pub has : List ℕ → ℕ → Bool
has ns n = any (λ m. eqb m n) ns

-- a number stands twice
unfoldable pub twice? : List ℕ → Bool
twice? [] = false
twice? (n ∷ ns) = has ns n || twice? ns

-- the number before one of the list is not in it
unfoldable pub lacks_before : List ℕ → ℕ → Bool
lacks_before ns zero = false
lacks_before ns (suc m) = not (has ns m)

-- a number below the highest is left out
unfoldable pub left_out? : List ℕ → Bool
left_out? ns = any (lacks_before ns) ns

-- names that have to be all numbers from 0 up to some number below the limit, each once
unfoldable pub not_all? : ℕ → List ℕ → Bool
not_all? limit ns = any (λ n. not_below n limit) ns || (twice? ns || left_out? ns)

-- ── signals ──

unfoldable pub signals? : List ℕ → Bool
signals? ns = any (λ n. not_below n named_signals) ns

unfoldable pub set? : Signals → Bool
set? x = signals? (members_or x)

unfoldable pub optional? : Option Signals → Bool
optional? none = false
optional? (some x) = set? x

unfoldable pub signal_of : Literal → ℕ
signal_of (needed n) = n
signal_of (barred n) = n

-- ── a sequential chart ──

unfoldable pub transition? : List ℕ → Transition → Bool
transition? states t =
    not (has states t.from) || (not (has states t.to)
    || (signals? (map signal_of (members_or t.guard)) || set? t.action))

unfoldable pub sequential? : Sequential → Bool
sequential? s =
    not_all? named_states (members_of s.heading.states)
    || (differ s.heading.initial (first s.heading.states)
    || (set? s.heading.feedback
    || (any (transition? (members_of s.heading.states)) (members_or s.transitions) || optional? s.extra)))

-- ── a chart ──

unfoldable mutual
  -- the sequential charts in it, from left to right
  pub sequentials_in : Single → List Sequential
  sequentials_in (sequential s) = s ∷ []
  sequentials_in (decomposed s ps) = s ∷ sequentials_of_slaves ps
  sequentials_in (hidden x t y) = sequentials_of t

  pub sequentials_of : Chart → List Sequential
  sequentials_of (single s) = sequentials_in s
  sequentials_of (composed a x b) = sequentials_of a ++ sequentials_of b

  pub sequentials_of_slaves : Slaves → List Sequential
  sequentials_of_slaves (first_slave q t) = sequentials_of t
  sequentials_of_slaves (more_slaves ps q t) = sequentials_of_slaves ps ++ sequentials_of t

unfoldable mutual
  -- a signal out of range between charts, or a slave's state that its master lacks
  pub single_parts? : Single → Bool
  single_parts? (sequential s) = false
  single_parts? (decomposed s ps) = slave_parts? (members_of s.heading.states) ps
  single_parts? (hidden x t y) = optional? x || (parts? t || optional? y)

  pub parts? : Chart → Bool
  parts? (single s) = single_parts? s
  parts? (composed a x b) = parts? a || (set? x || parts? b)

  pub slave_parts? : List ℕ → Slaves → Bool
  slave_parts? states (first_slave q t) = not (has states q) || parts? t
  slave_parts? states (more_slaves ps q t) = slave_parts? states ps || (not (has states q) || parts? t)

abbrev pub name_of : Sequential → ℕ
name_of s = s.heading.name

-- 52
unfoldable pub names? : Chart → Bool
names? t = not_all? named_charts (map name_of (sequentials_of t)) || (any sequential? (sequentials_of t) || parts? t)
