-- The numbers of the rules that have a name: limits (RULES 2.8) and refusals (RULES 3). Each is written here once.
use Rattle.std.specs.Prelude.{ℕ}

-- ── limits ──

-- the two editions (RULES 7.1): the first, which the rewriting writes, and the one in which a chart may stay
abbrev pub first_edition : ℕ
first_edition = 1

abbrev pub stay_edition : ℕ
stay_edition = 2

-- signals are 0 to 63 (RULES 1.2)
abbrev pub most_signals : ℕ
most_signals = 64

-- of a file (RULES 2.8)
abbrev pub most_charts : ℕ
most_charts = 16

abbrev pub most_slaves : ℕ
most_slaves = 15

abbrev pub most_nodes : ℕ
most_nodes = 64

abbrev pub most_transitions : ℕ
most_transitions = 1024

-- of a chart (RULES 2.8)
abbrev pub most_states : ℕ
most_states = 16

abbrev pub most_in_chart : ℕ
most_in_chart = 64

-- transitions from one state (RULES 2.8)
abbrev pub most_from_state : ℕ
most_from_state = 8

-- among a step's places (RULES 5.11): the chart took no transition
abbrev pub no_place : ℕ
no_place = 255

-- among a step's places (RULES 5.11): the chart stayed
abbrev pub stay_place : ℕ
stay_place = 254

-- open choices of a step (RULES 2.8)
abbrev pub most_open : ℕ
most_open = 16777216

-- bytes on the day program's standard input (RULES 10.1)
abbrev pub most_input : ℕ
most_input = 65536

-- ── refusals ──

-- of a file: 1 to 11 (RULES 3.2)
abbrev pub too_short : ℕ
too_short = 1

abbrev pub other_edition : ℕ
other_edition = 2

abbrev pub bad_counts : ℕ
bad_counts = 3

abbrev pub bad_distance : ℕ
bad_distance = 4

abbrev pub not_zero : ℕ
not_zero = 5

abbrev pub bad_chart : ℕ
bad_chart = 6

abbrev pub bad_transition : ℕ
bad_transition = 7

abbrev pub bad_slave : ℕ
bad_slave = 8

abbrev pub bad_node : ℕ
bad_node = 9

abbrev pub bad_naming : ℕ
bad_naming = 10

abbrev pub bad_inside : ℕ
bad_inside = 11

-- of a configuration, a step, a question or a run: 20 to 27 (RULES 3.3)
abbrev pub wrong_length : ℕ
wrong_length = 20

abbrev pub bad_state : ℕ
bad_state = 21

abbrev pub short_buffer : ℕ
short_buffer = 22

abbrev pub no_step : ℕ
no_step = 23

abbrev pub many_open : ℕ
many_open = 24

abbrev pub no_such_chart : ℕ
no_such_chart = 25

abbrev pub no_such_place : ℕ
no_such_place = 26

abbrev pub short_rows : ℕ
short_rows = 27

-- of the day program: 30, 31 (RULES 3.4)
abbrev pub odd_front : ℕ
odd_front = 30

abbrev pub input_too_long : ℕ
input_too_long = 31

-- of the rewriting: 40 to 46, without 43 (RULES 3.5)
abbrev pub no_free_signal : ℕ
no_free_signal = 40

abbrev pub many_from_state : ℕ
many_from_state = 41

abbrev pub many_in_chart : ℕ
many_in_chart = 42

abbrev pub many_nodes : ℕ
many_nodes = 44

abbrev pub short_out : ℕ
short_out = 45

abbrev pub may_stay : ℕ
may_stay = 46

-- of the posting: 60 to 63 (RULES 3.7)
-- a book has no case, or more than 64
abbrev pub bad_book : ℕ
bad_book = 60

-- an entry is for a case that is not in the book
abbrev pub no_such_case : ℕ
no_such_case = 61

-- the number of a case's last row is the highest one
abbrev pub rows_end : ℕ
rows_end = 62

-- the buffer has no room for a row of each case
abbrev pub short_book : ℕ
short_book = 63

-- of a typed text: 50 to 52 (RULES 3.8)
-- the text is not of the notation
abbrev pub not_notation : ℕ
not_notation = 50

abbrev pub too_deep : ℕ
too_deep = 51

abbrev pub bad_name : ℕ
bad_name = 52
