-- Thirteen small charts (EXAMPLES 2, 3): seventeen answers over the bytes of chart files, as one table and one claim
-- (`thirteen`). Then the same charts in edition 2 (EXAMPLES 4), and the places of a step in which a chart stays.
use Rattle.std.specs.Prelude.{◌≡◌, refl, Bool, true, false, List, [], ◌∷◌, ◌++◌, ℕ, ◌-◌, length, replicate}
use Rattle.signals.specs.Mask.{◌∪◌, single}
use Rattle.signals.specs.Guard.{lowest_from, guard}
use Rattle.layout.specs.Le.{le, bytes}
use Rattle.layout.specs.Record.{trailer_of, head_of, transition_of, slave_of, node_of, trailer_bytes, head_bytes}
use Rattle.layout.specs.Record.{transition_bytes, slave_bytes, node_bytes}
use Rattle.layout.specs.Body.{head_at, transition_at, slave_at, node_at, start_of, from, transitions_of}
use Rattle.layout.specs.declared.record.Head.{Head}
use Rattle.layout.specs.declared.record.Node.{Node}
use Rattle.layout.specs.declared.record.Slave.{Slave}
use Rattle.layout.specs.declared.record.Transition.{Transition}
use Rattle.meaning.specs.Numbers.{most_charts, no_place, stay_place}
use Rattle.meaning.specs.Sums.{any_up_to, tally}
use Rattle.meaning.specs.Meaning.{Set, same, Answer, refused, given, nth, pick, last_place, action_of, after, met?}
use Rattle.meaning.specs.Meaning.{untriggered, guards, in_face_chart, in_face, in_faces, out, outs, ok_chart, meets}
use Rattle.meaning.specs.Meaning.{ok, oks, permitted, upd, moves, nexts, place_of, places_from, upto, outcome_of}
use Rattle.meaning.specs.Meaning.{outcome, search, outcomes, eq_list, agree, answer, first_places}
use Rattle.meaning.specs.File.{gather, build, tree_of, Has, HasS, trailer, body_of, shape_of, chart_of, file_at}
use Rattle.meaning.specs.File.{file_of}
use Rattle.meaning.specs.Check.{first_of, edition?, counts?, distance?, nonzero, zeros?, chart?, charts?, ends?}
use Rattle.meaning.specs.Check.{leaving, transitions?, rising, slave?, slaves?, node_of_kind?, nodes?, names, named}
use Rattle.meaning.specs.Check.{held, naming?, inside?, file_tests, refusal_of}
use Rattle.meaning.specs.Open.{open_chart, open_tree, is_open, choices, how_many, open_choices}
use Rattle.meaning.specs.Calls.{config_tests, step_refusal, found_in, many_open?, step_in, step_of, places_found}
use Rattle.meaning.specs.Calls.{places_in, places_of}

-- ── how the rows are written down ──

-- the set of the signals listed
set : List ℕ → Set
set [] = 0
set (x ∷ xs) = single x ∪ set xs

-- from, to, needs, bars, out
transition : ℕ → ℕ → List ℕ → List ℕ → List ℕ → Transition
unfolding set
transition f t n b a = record { from = f; to = t; needed = set n; barred = set b; action = set a }

-- a chart of two states, from state 0 on, with its feedback
pub record Drawn : Type 0 where
  pub lines : List Transition
  pub feedback : List ℕ

head : Drawn → Head
unfolding set
head d = record { states = 2; initial = 0; transitions = length d.lines; feedback = set d.feedback; extra = 0 }

joined : {A : Type 0} → (A → List ℕ) → List A → List ℕ
joined f [] = []
joined f (x ∷ xs) = f x ++ joined f xs

-- the transitions of all charts, chart by chart
drawn_lines : List Drawn → List Transition
drawn_lines [] = []
drawn_lines (d ∷ ds) = d.lines ++ drawn_lines ds

body : List Drawn → List Slave → List Node → List ℕ
unfolding joined drawn_lines head
body ds ss ns =
    joined (λ d. head_bytes (head d)) ds ++ joined transition_bytes (drawn_lines ds) ++ joined slave_bytes ss
    ++ joined node_bytes ns

-- a chart file of an edition, with no front
file : ℕ → List Drawn → List Slave → List Node → List ℕ
unfolding body drawn_lines
file e ds ss ns =
    body ds ss ns
    ++ trailer_bytes
    (record {
      distance = length (body ds ss ns);
      charts = length ds;
      slaves = length ss;
      nodes = length ns;
      edition = e;
      transitions = length (drawn_lines ds);
    })

held₀ : ℕ → Node
held₀ c = record { kind = 0; a = c; b = 0; x = 0; y = 0 }

composed : ℕ → ℕ → List ℕ → Node
unfolding set
composed a b x = record { kind = 1; a = a; b = b; x = set x; y = 0 }

hidden : ℕ → List ℕ → List ℕ → Node
unfolding set
hidden a x y = record { kind = 2; a = a; b = 0; x = set x; y = set y }

-- one chart alone
alone : ℕ → List Transition → List ℕ → List ℕ
unfolding file held₀
alone e ts f = file e (record { lines = ts; feedback = f } ∷ []) [] (held₀ 0 ∷ [])

-- two charts side by side, F the feedback between them, and the nodes above
beside : ℕ → Transition → Transition → List ℕ → List Node → List ℕ
unfolding file held₀ composed
beside e s t f above =
    file e (record { lines = s ∷ []; feedback = [] } ∷ record { lines = t ∷ []; feedback = [] } ∷ []) []
    (held₀ 0 ∷ held₀ 1 ∷ composed 0 1 f ∷ above)

-- ── the charts, in an edition ──

L1 : ℕ → List ℕ
unfolding alone transition
L1 e = alone e (transition 0 1 (0 ∷ []) [] (0 ∷ []) ∷ []) (0 ∷ [])

L2 : ℕ → List ℕ
unfolding alone transition
L2 e = alone e (transition 0 1 [] (0 ∷ []) (0 ∷ []) ∷ []) (0 ∷ [])

L3 : ℕ → List ℕ
unfolding alone transition
L3 e = alone e (transition 0 1 (0 ∷ []) [] (0 ∷ []) ∷ []) []

-- P1, P2 and P3: the feedback between, and the nodes above
P : ℕ → List ℕ → List Node → List ℕ
unfolding beside transition
P e = beside e (transition 0 1 (0 ∷ []) [] (1 ∷ [])) (transition 0 1 (1 ∷ []) [] (2 ∷ []))

P4 : ℕ → List ℕ
unfolding beside transition
P4 e = beside e (transition 0 1 (1 ∷ []) [] (0 ∷ [])) (transition 0 1 (0 ∷ []) [] (1 ∷ [])) (0 ∷ 1 ∷ []) []

N1 : ℕ → List ℕ
unfolding alone transition
N1 e = alone e (transition 0 0 [] [] (1 ∷ []) ∷ transition 0 1 [] [] (2 ∷ []) ∷ []) []

N2 : ℕ → List ℕ
unfolding alone transition
N2 e = alone e (transition 0 1 [] [] (1 ∷ []) ∷ transition 0 1 [] [] (1 ∷ []) ∷ []) []

D : ℕ → List ℕ
unfolding file transition held₀
D e =
    file e
    (record {
      lines = transition 0 1 (0 ∷ []) [] (1 ∷ []) ∷ transition 0 0 [] (0 ∷ []) [] ∷ transition 1 0 (3 ∷ []) [] [] ∷ [];
      feedback = 1 ∷ [];
    }
    ∷ record { lines = transition 0 1 (1 ∷ []) [] (2 ∷ []) ∷ transition 1 1 (3 ∷ []) [] (4 ∷ []) ∷ []; feedback = [] }
    ∷ [])
    (record { chart = 0; state = 1; node = 0 } ∷ []) (held₀ 1 ∷ held₀ 0 ∷ [])

-- ── the table ──

-- a step of a file from a configuration under the signals listed
step : List ℕ → List ℕ → List ℕ → Answer
unfolding set
step f config i = step_of f config (set i) (length config)

-- next configuration, output, mark
gives : List ℕ → List ℕ → Bool → Answer
unfolding set
gives next o m = given (set o) next m

pub answers : ℕ → List Answer
unfolding step L1 L2 L3 P P4 N1 N2 D hidden
answers e =
    step (L1 e) (0 ∷ []) []
    ∷ step (L2 e) (0 ∷ []) []
    ∷ step (L2 e) (0 ∷ []) (0 ∷ [])
    ∷ step (L3 e) (0 ∷ []) []
    ∷ step (P e (1 ∷ []) []) (0 ∷ 0 ∷ []) (0 ∷ [])
    ∷ step (P e [] []) (0 ∷ 0 ∷ []) (0 ∷ [])
    ∷ step (P e (1 ∷ []) (hidden 2 (1 ∷ []) (1 ∷ []) ∷ [])) (0 ∷ 0 ∷ []) (0 ∷ [])
    ∷ step (P e (1 ∷ []) (hidden 2 (1 ∷ []) (1 ∷ []) ∷ [])) (0 ∷ 0 ∷ []) (1 ∷ [])
    ∷ step (P4 e) (0 ∷ 0 ∷ []) []
    ∷ step (N1 e) (0 ∷ []) []
    ∷ step (N2 e) (0 ∷ []) []
    ∷ step (D e) (0 ∷ 0 ∷ []) (0 ∷ [])
    ∷ step (D e) (0 ∷ 0 ∷ []) (0 ∷ 9 ∷ [])
    ∷ step (D e) (0 ∷ 0 ∷ []) []
    ∷ step (D e) (1 ∷ 1 ∷ []) (3 ∷ [])
    ∷ step (D e) (0 ∷ 1 ∷ []) (0 ∷ [])
    ∷ step (D e) (0 ∷ 1 ∷ []) (0 ∷ 3 ∷ [])
    ∷ []

pub table : List Answer
unfolding gives
table =
    gives (1 ∷ []) (0 ∷ []) true  -- L1
    ∷ refused 23  -- L2
    ∷ refused 23
    ∷ refused 23  -- L3
    ∷ gives (1 ∷ 1 ∷ []) (1 ∷ 2 ∷ []) true  -- P1
    ∷ refused 23  -- P2
    ∷ gives (1 ∷ 1 ∷ []) (2 ∷ []) true  -- P3
    ∷ refused 23
    ∷ gives (1 ∷ 1 ∷ []) (0 ∷ 1 ∷ []) true  -- P4
    ∷ gives (0 ∷ []) (1 ∷ []) false  -- N1
    ∷ gives (1 ∷ []) (1 ∷ []) true  -- N2
    ∷ gives (1 ∷ 1 ∷ []) (1 ∷ 2 ∷ []) true  -- D1
    ∷ gives (1 ∷ 1 ∷ []) (1 ∷ 2 ∷ []) true
    ∷ gives (0 ∷ 0 ∷ []) [] true  -- D2
    ∷ gives (0 ∷ 1 ∷ []) (4 ∷ []) true  -- D3
    ∷ refused 23  -- D4
    ∷ gives (1 ∷ 1 ∷ []) (1 ∷ 4 ∷ []) true
    ∷ []

pub thirteen : answers 1 ≡ table
unfolding answers table single le bytes trailer_of head_of transition_of slave_of node_of trailer_bytes head_bytes
    transition_bytes slave_bytes node_bytes head_at transition_at slave_at node_at start_of from transitions_of
    any_up_to tally same nth pick last_place action_of after lowest_from guard met? untriggered guards in_face_chart
    in_face in_faces out outs ok_chart meets ok oks permitted upd moves nexts place_of places_from upto outcome_of
    outcome search outcomes eq_list agree answer gather build tree_of Has HasS trailer body_of shape_of chart_of file_at
    file_of first_of edition? counts? distance? nonzero zeros? chart? charts? ends? leaving transitions? rising slave?
    slaves? node_of_kind? nodes? names named held naming? inside? file_tests refusal_of config_tests step_refusal
    open_chart open_tree is_open choices how_many open_choices found_in many_open? step_in step_of
thirteen = refl

-- the same charts in edition 2, where a chart may stay (RULES 5.7)
pub table₂ : List Answer
unfolding gives
table₂ =
    gives (1 ∷ []) (0 ∷ []) false  -- L1: it could stay, too
    ∷ refused 23  -- L2: its transition keeps it from staying (RULES 5.7)
    ∷ gives (0 ∷ []) [] true
    ∷ gives (0 ∷ []) [] true  -- L3
    ∷ gives (1 ∷ 1 ∷ []) (1 ∷ 2 ∷ []) true  -- P1
    ∷ gives (1 ∷ 0 ∷ []) (1 ∷ []) true  -- P2: the second chart stays
    ∷ gives (1 ∷ 1 ∷ []) (2 ∷ []) true  -- P3
    ∷ gives (0 ∷ 0 ∷ []) [] true
    ∷ gives (1 ∷ 1 ∷ []) (0 ∷ 1 ∷ []) false  -- P4: both could stay, too
    ∷ gives (0 ∷ []) (1 ∷ []) false  -- N1
    ∷ gives (1 ∷ []) (1 ∷ []) true  -- N2
    ∷ gives (1 ∷ 1 ∷ []) (1 ∷ 2 ∷ []) true  -- D1
    ∷ gives (1 ∷ 1 ∷ []) (1 ∷ 2 ∷ []) true
    ∷ gives (0 ∷ 0 ∷ []) [] true  -- D2
    ∷ gives (0 ∷ 1 ∷ []) (4 ∷ []) true  -- D3
    ∷ gives (1 ∷ 1 ∷ []) (1 ∷ []) true  -- D4: the slave stays
    ∷ gives (1 ∷ 1 ∷ []) (1 ∷ 4 ∷ []) true
    ∷ []

pub second : answers 2 ≡ table₂
unfolding answers table₂ single le bytes trailer_of head_of transition_of slave_of node_of trailer_bytes head_bytes
    transition_bytes slave_bytes node_bytes head_at transition_at slave_at node_at start_of from transitions_of
    any_up_to tally same nth pick last_place action_of after lowest_from guard met? untriggered guards in_face_chart
    in_face in_faces out outs ok_chart meets ok oks permitted upd moves nexts place_of places_from upto outcome_of
    outcome search outcomes eq_list agree answer gather build tree_of Has HasS trailer body_of shape_of chart_of file_at
    file_of first_of edition? counts? distance? nonzero zeros? chart? charts? ends? leaving transitions? rising slave?
    slaves? node_of_kind? nodes? names named held naming? inside? file_tests refusal_of config_tests step_refusal
    open_chart open_tree is_open choices how_many open_choices found_in many_open? step_in step_of
second = refl

-- P2 in edition 2: the first chart takes its transition 0, the second stays
pub places₂ : List ℕ
unfolding P set
places₂ = places_of (P 2 [] []) (0 ∷ 0 ∷ []) (set (0 ∷ [])) 2

pub stayed : places₂ ≡ 0 ∷ stay_place ∷ replicate (most_charts - 2) no_place
unfolding places₂ single le bytes trailer_of head_of transition_of slave_of node_of trailer_bytes head_bytes
    transition_bytes slave_bytes node_bytes head_at transition_at slave_at node_at start_of from transitions_of
    any_up_to tally same nth pick last_place action_of after lowest_from guard met? untriggered guards in_face_chart
    in_face in_faces out outs ok_chart meets ok oks permitted upd moves nexts place_of places_from upto outcome_of
    outcome search outcomes eq_list agree answer gather build tree_of Has HasS trailer body_of shape_of chart_of file_at
    file_of first_of edition? counts? distance? nonzero zeros? chart? charts? ends? leaving transitions? rising slave?
    slaves? node_of_kind? nodes? names named held naming? inside? file_tests refusal_of config_tests step_refusal
    open_chart open_tree is_open choices how_many open_choices first_places many_open? places_found places_in places_of
stayed = refl
