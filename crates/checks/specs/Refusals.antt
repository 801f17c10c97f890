-- Refusals as the code has them: the number of each in RULES 3, and what a call answers (RULES 3.1).
use Rattle.std.specs.Prelude.{◌≡◌, cond, ℕ, Result, Ok, Err}
use Rattle.meaning.specs.Meaning.{same}
use Rattle.meaning.specs.Numbers.{too_short, other_edition, bad_counts, bad_distance, not_zero, bad_chart}
use Rattle.meaning.specs.Numbers.{bad_transition, bad_slave, bad_node, bad_naming, bad_inside, wrong_length, bad_state}
use Rattle.meaning.specs.Numbers.{short_buffer, no_step, many_open, no_such_chart, no_such_place, short_rows, odd_front}
use Rattle.meaning.specs.Numbers.{input_too_long, no_free_signal, many_from_state, many_in_chart, many_nodes, short_out}
use Rattle.meaning.specs.Numbers.{may_stay, bad_book, no_such_case, rows_end, short_book, not_notation, too_deep}
use Rattle.meaning.specs.Numbers.{bad_name}
use Rattle.checks.specs.declared.refusal.Refusal.{Refusal}
use Rattle.checks.specs.declared.refusal.Refusal.TheVariants as refusal
pub mod Laws

-- the number of a refusal (RULES 3.2 to 3.8)
abbrev pub number : Refusal → ℕ
number refusal.TooShort = too_short
number refusal.OtherEdition = other_edition
number refusal.BadCounts = bad_counts
number refusal.BadDistance = bad_distance
number refusal.NotZero = not_zero
number refusal.BadChart = bad_chart
number refusal.BadTransition = bad_transition
number refusal.BadSlave = bad_slave
number refusal.BadNode = bad_node
number refusal.BadNaming = bad_naming
number refusal.BadInside = bad_inside
number refusal.WrongLength = wrong_length
number refusal.BadState = bad_state
number refusal.ShortBuffer = short_buffer
number refusal.NoStep = no_step
number refusal.ManyOpen = many_open
number refusal.NoSuchChart = no_such_chart
number refusal.NoSuchPlace = no_such_place
number refusal.ShortRun = short_rows
number refusal.OddFront = odd_front
number refusal.TooLong = input_too_long
number refusal.NoFreeSignal = no_free_signal
number refusal.ManyFromState = many_from_state
number refusal.ManyInChart = many_in_chart
number refusal.ManyNodes = many_nodes
number refusal.ShortOut = short_out
number refusal.MayStay = may_stay
number refusal.NotNotation = not_notation
number refusal.TooDeep = too_deep
number refusal.BadName = bad_name
number refusal.BadBook = bad_book
number refusal.NoSuchCase = no_such_case
number refusal.RowsEnd = rows_end
number refusal.ShortRows = short_book

-- the number that a result stands for: 0 for success (RULES 3.1)
abbrev pub told : {A : Type 0} → Result A Refusal → ℕ
told (Ok x) = 0
told (Err r) = number r

-- a result with the number in place of the refusal
abbrev pub numbered : {A : Type 0} → Result A Refusal → Result A ℕ
numbered (Ok x) = Ok x
numbered (Err r) = Err (number r)

-- what a call answers, where n is 0 or the number of the first refusal that applies, and x the value if none does
abbrev pub Answers : {A : Type 0} → ℕ → A → Result A Refusal → Type 0
Answers n x (Ok y) = (n ≡ 0) × (y ≡ x)
Answers n x (Err r) = number r ≡ n

-- the same as a value, with the number in place of the refusal: numbered r ≡ answer n x
abbrev pub answer : {A : Type 0} → ℕ → A → Result A ℕ
answer n x = cond (same n 0) (Ok x) (Err n)
