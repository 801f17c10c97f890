-- What the two laws do not say, by computation on one small file. `typed_differs`: a fed-back signal typed in by hand
-- may change the answer, since another choice becomes the first permitted one. `rewritten_differs`: the rewriting of a
-- file with two parts exchanged has other bytes.
use Rattle.std.specs.Prelude.{◌≡◌, refl, Bool, true, false, List, [], ◌∷◌, ◌++◌, ℕ, replicate}
use Rattle.signals.specs.Mask.{bit, single}
use Rattle.signals.specs.Guard.{lowest_from, guard}
use Rattle.layout.specs.Le.{le, bytes}
use Rattle.layout.specs.Record.{trailer_of, trailer_bytes, head_of, head_bytes, transition_of, transition_bytes}
use Rattle.layout.specs.Record.{slave_of}
use Rattle.layout.specs.Record.{slave_bytes, node_of, node_bytes}
use Rattle.layout.specs.Body.{head_at, transition_at, slave_at, node_at, start_of, from, transitions_of}
use Rattle.meaning.specs.Sums.{any_up_to, tally}
use Rattle.meaning.specs.Meaning.{Answer, given, same, nth, pick, last_place, action_of, after, met?, untriggered}
use Rattle.meaning.specs.Meaning.{guards}
use Rattle.meaning.specs.Meaning.{actions, in_face_chart, in_face, in_faces, out, outs, ok_chart, meets, ok, oks}
use Rattle.meaning.specs.Meaning.{permitted}
use Rattle.meaning.specs.Meaning.{upd, moves, nexts, place_of, places_from, upto, outcome_of, outcome, search, outcomes}
use Rattle.meaning.specs.Meaning.{eq_list, agree, answer}
use Rattle.meaning.specs.File.{gather, build, tree_of, Has, HasS, trailer, body_of, shape_of, chart_of, file_at}
use Rattle.meaning.specs.File.{file_of}
use Rattle.meaning.specs.Check.{first_of, edition?, counts?, distance?, nonzero, zeros?, chart?, charts?, ends?}
use Rattle.meaning.specs.Check.{leaving}
use Rattle.meaning.specs.Check.{transitions?, rising, slave?, slaves?, node_of_kind?, nodes?, names, named, held}
use Rattle.meaning.specs.Check.{naming?}
use Rattle.meaning.specs.Check.{inside?, file_tests, refusal_of}
use Rattle.meaning.specs.Open.{open_chart, open_tree, is_open, choices, how_many, open_choices}
use Rattle.meaning.specs.Calls.{config_tests, step_refusal, found_in, many_open?, step_in, step_of}
use Rattle.meaning.specs.Rewriting.{leaving_in, union_up_to, lacking, used, free, call, call_in, called, idle, idles}
use Rattle.meaning.specs.Rewriting.{chart_with, nearest_in, nearest_slave, calls_by, rewritten_chart, start, new_name}
use Rattle.meaning.specs.Rewriting.{calls_of, composed, made_for, laid, in_turn, head_for, transitions_bytes, shape_in}
use Rattle.meaning.specs.Rewriting.{body_bytes, encode, transitions_in, rewrite_bytes}
use Rattle.propositions.specs.Exchange.{swap_at, exchange}
use Rattle.propositions.specs.FedBack.{fed_back_of}

abbrev zeros : ℕ → List ℕ
zeros n = replicate n 0

-- Of edition e, nodes a and b composed with feedback {1} between them. Chart 0 has two transitions from state 0: to 0,
-- needs {1}; and to 1, needs nothing, puts out {1}. Chart 1 has one transition, to its only state, which needs nothing.
-- Node 0 holds chart 0, node 1 holds chart 1.
unfoldable pub parts : ℕ → ℕ → ℕ → List ℕ
parts e a b =
    (2 ∷ 0 ∷ 2 ∷ zeros 21)
    ++ (1 ∷ 0 ∷ 1 ∷ zeros 21)
    ++ (0 ∷ 0 ∷ 0 ∷ 0 ∷ bytes 8 2 ++ zeros 16)
    ++ (0 ∷ 1 ∷ 0 ∷ 0 ∷ zeros 16 ++ bytes 8 2)
    ++ zeros 28
    ++ zeros 20
    ++ (0 ∷ 1 ∷ zeros 18)
    ++ (1 ∷ a ∷ b ∷ 0 ∷ bytes 8 2 ++ zeros 8)
    ++ (bytes 4 192 ++ (2 ∷ 0 ∷ 3 ∷ e ∷ bytes 2 3) ++ zeros 2)

-- ── a fed-back signal typed in ──

-- steps from state 0 of both charts, under ∅ and under {1}; and what the first one feeds back
unfoldable pub answers : ℕ → List Answer
answers e = step_of (parts e 0 1) (0 ∷ 0 ∷ []) 0 2 ∷ step_of (parts e 0 1) (0 ∷ 0 ∷ []) 2 2 ∷ []

-- Under ∅ chart 0 can only take its second transition, which feeds {1} back. With {1} typed in that is permitted again,
-- but so is the first transition: it comes before, and is the step. The mark then says no.
abbrev pub table : List Answer
table = given 2 (1 ∷ 0 ∷ []) true ∷ given 0 (0 ∷ 0 ∷ []) false ∷ []

pub typed_differs : (answers 1 ≡ table) × (answers 2 ≡ table) × (fed_back_of (parts 1 0 1) 2 ≡ 2)
unfolding answers parts single le bytes trailer_of head_of transition_of slave_of node_of head_at transition_at slave_at
    node_at start_of from transitions_of any_up_to tally same nth pick last_place action_of after lowest_from guard met?
    untriggered guards in_face_chart in_face in_faces out outs ok_chart meets ok oks permitted upd moves nexts place_of
    places_from upto outcome_of outcome search outcomes eq_list agree answer gather build tree_of Has HasS trailer
    body_of shape_of chart_of file_at file_of first_of edition? counts? distance? nonzero zeros? chart? charts? ends?
    leaving transitions? rising slave? slaves? node_of_kind? nodes? names named held naming? inside? file_tests
    refusal_of config_tests step_refusal open_chart open_tree is_open choices how_many open_choices found_in many_open?
    step_in step_of
typed_differs = (refl, refl, refl)

-- ── the rewriting of exchanged parts ──

-- the file has no slaves and no front, so its rewriting is the file itself, with either order of the parts
pub rewritten_differs : (exchange 2 (parts 1 0 1) ≡ parts 1 1 0)
    × (rewrite_bytes (parts 1 0 1) ≡ parts 1 0 1) × (rewrite_bytes (exchange 2 (parts 1 0 1)) ≡ parts 1 1 0)
unfolding exchange swap_at parts le bytes trailer_of trailer_bytes head_of head_bytes transition_of transition_bytes
    slave_of slave_bytes node_of node_bytes head_at transition_at slave_at node_at start_of from transitions_of trailer
    body_of shape_of chart_of file_at file_of same gather build tree_of Has tally union_up_to lacking used free call
    call_in called idle idles chart_with nearest_in nearest_slave calls_by rewritten_chart start new_name calls_of
    composed made_for laid in_turn head_for transitions_bytes shape_in body_bytes encode transitions_in rewrite_bytes
    guards actions bit single
rewritten_differs = (refl, refl, refl)
