-- Texts and what reading them answers, by computation: the charts of docs/EXAMPLES.md as they are typed, and the
-- records of the files that they mean (`meant`, `accepted`); and a text for each refusal (`refusals`).
use Rattle.std.specs.Prelude.{◌≡◌, refl, Bool, true, false, List, [], ◌∷◌, ◌++◌, map, ℕ, zero, suc, length}
use Rattle.signals.specs.Mask.{◌∪◌, single}
use Rattle.layout.specs.Le.{le, bytes}
use Rattle.layout.specs.Record.{trailer_of, head_of, transition_of, slave_of, node_of}
use Rattle.layout.specs.Record.{trailer_bytes, head_bytes, transition_bytes, slave_bytes, node_bytes}
use Rattle.layout.specs.Body.{head_at, transition_at, slave_at, node_at, start_of, from, transitions_of}
use Rattle.layout.specs.declared.record.Head.{Head}
use Rattle.layout.specs.declared.record.Transition.{Transition}
use Rattle.layout.specs.declared.record.Slave.{Slave}
use Rattle.layout.specs.declared.record.Node.{Node}
use Rattle.meaning.specs.Sums.{any_up_to, tally}
use Rattle.meaning.specs.Meaning.{same}
use Rattle.meaning.specs.File.{gather, build, tree_of, Has, HasS, trailer, body_of, shape_of, chart_of, file_at}
use Rattle.meaning.specs.File.{file_of}
use Rattle.meaning.specs.Check.{first_of, edition?, counts?, distance?, nonzero, zeros?, chart?, charts?, ends?}
use Rattle.meaning.specs.Check.{leaving}
use Rattle.meaning.specs.Check.{transitions?, rising, slave?, slaves?, node_of_kind?, nodes?, names, named, held}
use Rattle.meaning.specs.Check.{naming?}
use Rattle.meaning.specs.Check.{inside?, file_tests}
use Rattle.line.specs.Ascii.{ascii}
use Rattle.notation.specs.Syntax.{depth}
use Rattle.notation.specs.Grammar.{letter, blank}
use Rattle.notation.specs.Reader.{reader, read_from, at_end, on_to, step, step_gap, begin, onward, behind, first_byte}
use Rattle.notation.specs.Reader.{is_digit, ending, final, ways, last_set, follow, close, set_end, sequential_end}
use Rattle.notation.specs.Reader.{add_slave, ◌▸?◌}
use Rattle.reading.specs.Names.{members_of, members_or, first, any, has, twice?, lacks_before, left_out?, not_all?}
use Rattle.reading.specs.Names.{signals?, set?, optional?, signal_of, transition?, sequential?, sequentials_in}
use Rattle.reading.specs.Names.{parts?, names? as badNames?}
use Rattle.reading.specs.Meant.{with_key, sorted_by, all, gathered, mask_of, optional_of, needed_in, barred_in}
use Rattle.reading.specs.Meant.{transition_for, head_for, lay_slaves, with_node, beside, lay_hidden, lay_both}
use Rattle.reading.specs.Meant.{lay_single, body_for, trailer_for, file_for}
use Rattle.reading.specs.Read.{chart_tests, refusal_in, read_refusal, place_in, read_place, file_in, read_file}

-- ── the charts as typed ──

pub texts : List (List ℕ)
texts =
    -- L1, L2, L3
    ascii "(c0,{q0,q1},q0,{s0},{(q0,q1,s0/{s0})})"
    ∷ ascii "(c0,{q0,q1},q0,{s0},{(q0,q1,-s0/{s0})})"
    ∷ ascii "(c0,{q0,q1},q0,{},{(q0,q1,s0/{s0})})"
    -- P1, P2, P3, P4
    ∷ ascii "(c0,{q0,q1},q0,{},{(q0,q1,s0/{s1})}) |{s1}| (c1,{q0,q1},q0,{},{(q0,q1,s1/{s2})})"
    ∷ ascii "(c0,{q0,q1},q0,{},{(q0,q1,s0/{s1})}) |{}| (c1,{q0,q1},q0,{},{(q0,q1,s1/{s2})})"
    ∷ ascii "{s1}[(c0,{q0,q1},q0,{},{(q0,q1,s0/{s1})}) |{s1}| (c1,{q0,q1},q0,{},{(q0,q1,s1/{s2})})]{s1}"
    ∷ ascii "(c0,{q0,q1},q0,{},{(q0,q1,s1/{s0})}) |{s0,s1}| (c1,{q0,q1},q0,{},{(q0,q1,s0/{s1})})"
    -- N1, N2
    ∷ ascii "(c0,{q0,q1},q0,{},{(q0,q0,/{s1}),(q0,q1,/{s2})})"
    ∷ ascii "(c0,{q0,q1},q0,{},{(q0,q1,/{s1}),(q0,q1,/{s1})})"
    -- D
    ∷ (ascii "Dec (c0,{q0,q1},q0,{s1},{(q0,q1,s0/{s1}),(q0,q0,-s0/{}),(q1,q0,s3/{})})"
    ++ ascii " by {(q1,(c1,{q0,q1},q0,{},{(q0,q1,s1/{s2}),(q1,q1,s3/{s4})}))}")
    -- two slaves, the later state typed first; charts not in the order of their numbers
    ∷ ascii "Dec (c0,{q0,q1},q0,{},{}) by {(q1,(c1,{q0},q0,{},{})),(q0,(c2,{q0},q0,{},{}))}"
    ∷ ascii "(c1,{q0},q0,{},{},{s9}) |{}| ((c2,{q0},q0,{},{}) |{s1,s1}| (c0,{q0},q0,{},{}))"
    ∷ []

-- ── their records ──

abbrev set : List ℕ → ℕ
set [] = 0
set (n ∷ ns) = single n ∪ set ns

abbrev transition : ℕ → ℕ → List ℕ → List ℕ → List ℕ → Transition
transition f t n b a = record { from = f; to = t; needed = set n; barred = set b; action = set a }

abbrev two : ℕ → List ℕ → Head
two n f = record { states = 2; initial = 0; transitions = n; feedback = set f; extra = 0 }

abbrev one : List ℕ → Head
one e = record { states = 1; initial = 0; transitions = 0; feedback = 0; extra = set e }

abbrev holds : ℕ → Node
holds c = record { kind = 0; a = c; b = 0; x = 0; y = 0 }

abbrev joins : ℕ → ℕ → List ℕ → Node
joins a b x = record { kind = 1; a = a; b = b; x = set x; y = 0 }

abbrev hides : ℕ → List ℕ → List ℕ → Node
hides a x y = record { kind = 2; a = a; b = 0; x = set x; y = set y }

abbrev concat : {A : Type 0} → (A → List ℕ) → List A → List ℕ
concat f [] = []
concat f (a ∷ as') = f a ++ concat f as'

abbrev body : List Head → List Transition → List Slave → List Node → List ℕ
body hs ts ss ns = concat head_bytes hs ++ (concat transition_bytes ts
    ++ (concat slave_bytes ss ++ concat node_bytes ns))

abbrev file : List Head → List Transition → List Slave → List Node → List ℕ
file hs ts ss ns =
    body hs ts ss ns
    ++ trailer_bytes
    (record {
      distance = length (body hs ts ss ns);
      charts = length hs;
      slaves = length ss;
      nodes = length ns;
      edition = 1;
      transitions = length ts;
    })

abbrev P : List ℕ → List Node → List ℕ
P f above =
    file (two 1 [] ∷ two 1 [] ∷ []) (transition 0 1 (0 ∷ []) [] (1 ∷ []) ∷ transition 0 1 (1 ∷ []) [] (2 ∷ []) ∷ []) []
    (holds 0 ∷ holds 1 ∷ joins 0 1 f ∷ above)

pub files : List (List ℕ)
files =
    file (two 1 (0 ∷ []) ∷ []) (transition 0 1 (0 ∷ []) [] (0 ∷ []) ∷ []) [] (holds 0 ∷ [])
    ∷ file (two 1 (0 ∷ []) ∷ []) (transition 0 1 [] (0 ∷ []) (0 ∷ []) ∷ []) [] (holds 0 ∷ [])
    ∷ file (two 1 [] ∷ []) (transition 0 1 (0 ∷ []) [] (0 ∷ []) ∷ []) [] (holds 0 ∷ [])
    ∷ P (1 ∷ []) []
    ∷ P [] []
    ∷ P (1 ∷ []) (hides 2 (1 ∷ []) (1 ∷ []) ∷ [])
    ∷ file (two 1 [] ∷ two 1 [] ∷ [])
    (transition 0 1 (1 ∷ []) [] (0 ∷ []) ∷ transition 0 1 (0 ∷ []) [] (1 ∷ []) ∷ []) []
    (holds 0 ∷ holds 1 ∷ joins 0 1 (0 ∷ 1 ∷ []) ∷ [])
    ∷ file (two 2 [] ∷ []) (transition 0 0 [] [] (1 ∷ []) ∷ transition 0 1 [] [] (2 ∷ []) ∷ []) [] (holds 0 ∷ [])
    ∷ file (two 2 [] ∷ []) (transition 0 1 [] [] (1 ∷ []) ∷ transition 0 1 [] [] (1 ∷ []) ∷ []) [] (holds 0 ∷ [])
    ∷ file (two 3 (1 ∷ []) ∷ two 2 [] ∷ [])
    (transition 0 1 (0 ∷ []) [] (1 ∷ []) ∷ transition 0 0 [] (0 ∷ []) [] ∷ transition 1 0 (3 ∷ []) [] []
    ∷ transition 0 1 (1 ∷ []) [] (2 ∷ []) ∷ transition 1 1 (3 ∷ []) [] (4 ∷ []) ∷ [])
    (record { chart = 0; state = 1; node = 0 } ∷ []) (holds 1 ∷ holds 0 ∷ [])
    ∷ file (two 0 [] ∷ one [] ∷ one [] ∷ []) []
    (record { chart = 0; state = 0; node = 0 } ∷ record { chart = 0; state = 1; node = 1 } ∷ [])
    (holds 2 ∷ holds 1 ∷ holds 0 ∷ [])
    ∷ file (one [] ∷ one (9 ∷ []) ∷ one [] ∷ []) [] []
    (holds 1 ∷ holds 2 ∷ holds 0 ∷ joins 1 2 (1 ∷ []) ∷ joins 0 3 [] ∷ [])
    ∷ []

-- each text means the file of its chart
pub meant : map read_file texts ≡ files
unfolding texts files letter blank reader read_from at_end on_to step step_gap begin onward behind first_byte is_digit
    ending final ways last_set follow close set_end sequential_end add_slave ◌▸?◌ members_of members_or sequentials_in
    with_key sorted_by all gathered mask_of optional_of needed_in barred_in transition_for head_for lay_slaves with_node
    beside lay_hidden lay_both lay_single body_for trailer_for file_for file_in read_file single trailer_bytes
    head_bytes transition_bytes slave_bytes node_bytes bytes
meant = refl

-- ── refusals ──

-- n pairs of hiding brackets around a text
abbrev nested : ℕ → List ℕ → List ℕ
nested zero w = w
nested (suc n) w = ascii "[" ++ (nested n w ++ ascii "]")

-- a chart of one state with n + 1 transitions, as typed
abbrev more : ℕ → List ℕ
more zero = []
more (suc n) = ascii ",(q0,q0,/{})" ++ more n

abbrev busy : ℕ → List ℕ
busy n = ascii "(c0,{q0},q0,{},{(q0,q0,/{})" ++ (more n ++ ascii "})")

pub refused_texts : List (List ℕ)
refused_texts =
    -- 50, also if the text is too deep as well
    ascii "(c0,{q0},q0,{},{}"
    ∷ (nested 16 (ascii "(c0,{q0},q0,{},{})") ++ ascii "]")
    -- 51: one operator too many; sixteen deep is accepted
    ∷ nested 16 (ascii "(c9,{q0},q0,{},{})")
    ∷ nested 15 (ascii "(c0,{q0},q0,{},{})")
    -- 52: a chart, a state, a signal out of range
    ∷ ascii "(c8,{q0},q0,{},{})"
    ∷ ascii "(c0,{q0,q16},q0,{},{})"
    ∷ ascii "(c0,{q0},q0,{s64},{})"
    ∷ ascii "[(c0,{q0},q0,{},{})]{s99999999999}"
    -- 52: a chart given twice, a state given twice
    ∷ ascii "(c0,{q0},q0,{},{})|{}|(c0,{q0},q0,{},{})"
    ∷ ascii "(c0,{q0,q0},q0,{},{})"
    -- 52: a chart left out, a state left out
    ∷ ascii "(c1,{q0},q0,{},{})"
    ∷ ascii "(c0,{q0,q2},q0,{},{})"
    -- 52: an initial state that is not the first
    ∷ ascii "(c0,{q0,q1},q1,{},{})"
    -- 52: a state used that its chart lacks, in a transition and in a slave's pair
    ∷ ascii "(c0,{q0},q0,{},{(q0,q1,/{})})"
    ∷ ascii "Dec (c0,{q0},q0,{},{}) by {(q1,(c1,{q0},q0,{},{}))}"
    -- 6: 256 transitions in a chart, which one byte would take for none; 7: nine from one state
    ∷ busy 255
    ∷ busy 8
    -- 8: a state with two slaves
    ∷ ascii "Dec (c0,{q0},q0,{},{}) by {(q0,(c1,{q0},q0,{},{})),(q0,(c2,{q0},q0,{},{}))}"
    -- 11: a slave with a lower number than its master
    ∷ ascii "Dec (c1,{q0},q0,{},{}) by {(q0,(c0,{q0},q0,{},{}))}"
    -- 45: 56 bytes do not fit
    ∷ ascii "(c0,{q0},q0,{},{})"
    ∷ []

-- each text of the charts above is accepted
pub accepted : map (λ w. read_refusal w 1000) texts ≡ 0 ∷ 0 ∷ 0 ∷ 0 ∷ 0 ∷ 0 ∷ 0 ∷ 0 ∷ 0 ∷ 0 ∷ 0 ∷ 0 ∷ []
unfolding texts letter blank reader read_from at_end on_to step step_gap begin onward behind first_byte is_digit ending
    final ways last_set follow close set_end sequential_end add_slave ◌▸?◌ members_of members_or first any has twice?
    lacks_before left_out? not_all? signals? set? optional? signal_of transition? sequential? sequentials_in parts?
    badNames? depth with_key sorted_by all gathered mask_of optional_of needed_in barred_in transition_for head_for
    lay_slaves with_node beside lay_hidden lay_both lay_single body_for trailer_for file_for chart_tests refusal_in
    read_refusal single trailer_bytes head_bytes transition_bytes slave_bytes node_bytes bytes le trailer_of head_of
    transition_of slave_of node_of head_at transition_at slave_at node_at start_of from transitions_of any_up_to tally
    same gather build tree_of Has trailer body_of shape_of chart_of file_at file_of first_of edition? counts? distance?
    nonzero zeros? chart? charts? ends? leaving transitions? rising slave? slaves? node_of_kind? nodes? names named held
    naming? inside? file_tests
accepted = refl

pub refusals : map (λ w. read_refusal w 55) refused_texts
    ≡ 50 ∷ 50 ∷ 51 ∷ 45 ∷ 52 ∷ 52 ∷ 52 ∷ 52 ∷ 52 ∷ 52 ∷ 52 ∷ 52 ∷ 52 ∷ 52 ∷ 52 ∷ 6 ∷ 7 ∷ 8 ∷ 11 ∷ 45 ∷ []
unfolding refused_texts letter blank reader read_from at_end on_to step step_gap begin onward behind first_byte is_digit
    ending final ways last_set follow close set_end sequential_end add_slave ◌▸?◌ members_of members_or first any has
    twice? lacks_before left_out? not_all? signals? set? optional? signal_of transition? sequential? sequentials_in
    parts? badNames? depth with_key sorted_by all gathered mask_of optional_of needed_in barred_in transition_for
    head_for lay_slaves with_node beside lay_hidden lay_both lay_single body_for trailer_for file_for chart_tests
    refusal_in read_refusal single trailer_bytes head_bytes transition_bytes slave_bytes node_bytes bytes le trailer_of
    head_of transition_of slave_of node_of head_at transition_at slave_at node_at start_of from transitions_of any_up_to
    tally same gather build tree_of Has trailer body_of shape_of chart_of file_at file_of first_of edition? counts?
    distance? nonzero zeros? chart? charts? ends? leaving transitions? rising slave? slaves? node_of_kind? nodes? names
    named held naming? inside? file_tests
refusals = refl
