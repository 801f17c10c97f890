-- By computation, in this order: a file cleared, and its steps (`sample`); why edition 2 is refused (`lonely`); files
-- whose rewriting is refused with 40, 41 and 42, and after clearing is not (`crowded_rewrites`), each then at its limit
-- (`crowded_limits`).
use Rattle.std.specs.Prelude.{◌≡◌, refl, true, false, cond, List, [], ◌∷◌, map, ℕ, ◌-◌, ◌^◌, ◌%◌, length}
use Rattle.signals.specs.Mask.{bit, single}
use Rattle.layout.specs.Le.{le, bytes}
use Rattle.layout.specs.Record.{trailer_of, trailer_bytes, head_of, head_bytes, transition_of, transition_bytes}
use Rattle.layout.specs.Record.{slave_of}
use Rattle.layout.specs.Record.{slave_bytes, node_of, node_bytes}
use Rattle.layout.specs.Body.{head_at, transition_at, slave_at, node_at, start_of, from, transitions_of}
use Rattle.layout.specs.declared.record.Transition.{Transition}
use Rattle.meaning.specs.Numbers.{most_from_state, most_in_chart, no_free_signal, many_from_state, many_in_chart}
use Rattle.meaning.specs.Sums.{any_up_to, tally}
use Rattle.signals.specs.Guard.{guard}
use Rattle.meaning.specs.Meaning.{Set, ∅, same, Chart, actions, stay, untriggered, nth, pick, last_place, action_of}
use Rattle.meaning.specs.Meaning.{after, met?, guards, in_face_chart, in_face, out, ok_chart, meets, ok, permitted, upd}
use Rattle.meaning.specs.Meaning.{moves, nexts, place_of, places_from, outcome_of, upto, outcome, search, outcomes}
use Rattle.meaning.specs.Meaning.{first_places}
use Rattle.meaning.specs.File.{gather, build, tree_of, Has, trailer, body_of, shape_of, chart_of, file_at, file_of}
use Rattle.meaning.specs.Check.{first_of, edition?, counts?, distance?, nonzero, zeros?, chart?, charts?, ends?}
use Rattle.meaning.specs.Check.{leaving}
use Rattle.meaning.specs.Check.{transitions?, rising, slave?, slaves?, node_of_kind?, nodes?, names, named, held}
use Rattle.meaning.specs.Check.{naming?}
use Rattle.meaning.specs.Check.{inside?, file_tests}
use Rattle.meaning.specs.Open.{open_chart, open_tree, is_open, choices, how_many, open_choices}
use Rattle.meaning.specs.Calls.{config_tests, step_refusal, many_open?, places_found, places_in, places_of}
use Rattle.meaning.specs.Rewriting.{union_up_to, lacking, used, free, call, calls_by, call_in, called, idle, idles}
use Rattle.meaning.specs.Rewriting.{chart_with, nearest_in, nearest_slave, rewritten_chart, start, new_name, calls_of}
use Rattle.meaning.specs.Rewriting.{composed, made_for, laid, rewrite, leaving_in, no_free?, from_state?, in_chart?}
use Rattle.meaning.specs.Rewriting.{rewrite_tests, in_turn, head_for, transitions_bytes, transitions_in, shape_in}
use Rattle.meaning.specs.Rewriting.{body_bytes}
use Rattle.meaning.specs.Rewriting.{encode, rewrite_bytes, rewrite_refusal}
use Rattle.clearing.specs.Clearing.{dead, alive, lost, cleared_chart, clear_bytes, clear_refusal}

-- ── a file cleared ──

-- Of four transitions the first needs and bars signal 2, and the third bars signal 1, which it puts out into its
-- chart's feedback. The fourth bars what it puts out, but that is in no feedback: it stays. Signals 1, 2 and 4 are lost
-- from the guards. Three front bytes stand before the file.
abbrev sample : List ℕ
sample =
    7 ∷ 7 ∷ 7 ∷ 2 ∷ 0 ∷ 4 ∷ 0 ∷ 0 ∷ 0 ∷ 0 ∷ 0 ∷ 2 ∷ 0 ∷ 0 ∷ 0 ∷ 0 ∷ 0 ∷ 0 ∷ 0 ∷ 32 ∷ 0 ∷ 0 ∷ 0 ∷ 0 ∷ 0 ∷ 0 ∷ 0 ∷ 0
    ∷ 1 ∷ 0 ∷ 0 ∷ 5 ∷ 0 ∷ 0 ∷ 0 ∷ 0 ∷ 0 ∷ 0 ∷ 0 ∷ 4 ∷ 0 ∷ 0 ∷ 0 ∷ 0 ∷ 0 ∷ 0 ∷ 0 ∷ 2 ∷ 0 ∷ 0 ∷ 0 ∷ 0 ∷ 0 ∷ 0 ∷ 0 ∷ 0
    ∷ 1 ∷ 0 ∷ 0 ∷ 1 ∷ 0 ∷ 0 ∷ 0 ∷ 0 ∷ 0 ∷ 0 ∷ 0 ∷ 8 ∷ 0 ∷ 0 ∷ 0 ∷ 0 ∷ 0 ∷ 0 ∷ 0 ∷ 2 ∷ 0 ∷ 0 ∷ 0 ∷ 0 ∷ 0 ∷ 0 ∷ 0 ∷ 1
    ∷ 0 ∷ 0 ∷ 0 ∷ 0 ∷ 0 ∷ 0 ∷ 0 ∷ 0 ∷ 0 ∷ 0 ∷ 0 ∷ 18 ∷ 0 ∷ 0 ∷ 0 ∷ 0 ∷ 0 ∷ 0 ∷ 0 ∷ 66 ∷ 0 ∷ 0 ∷ 0 ∷ 0 ∷ 0 ∷ 0 ∷ 0 ∷ 1
    ∷ 0 ∷ 0 ∷ 0 ∷ 0 ∷ 0 ∷ 0 ∷ 0 ∷ 0 ∷ 0 ∷ 0 ∷ 0 ∷ 64 ∷ 0 ∷ 0 ∷ 0 ∷ 0 ∷ 0 ∷ 0 ∷ 0 ∷ 64 ∷ 0 ∷ 0 ∷ 0 ∷ 0 ∷ 0 ∷ 0 ∷ 0 ∷ 0
    ∷ 0 ∷ 0 ∷ 0 ∷ 0 ∷ 0 ∷ 0 ∷ 0 ∷ 0 ∷ 0 ∷ 0 ∷ 0 ∷ 0 ∷ 0 ∷ 0 ∷ 0 ∷ 0 ∷ 0 ∷ 0 ∷ 0 ∷ 156 ∷ 0 ∷ 0 ∷ 0 ∷ 1 ∷ 0 ∷ 1 ∷ 1 ∷ 4
    ∷ 0 ∷ 0 ∷ 0 ∷ []

abbrev sample' : List ℕ
sample' =
    2 ∷ 0 ∷ 2 ∷ 0 ∷ 0 ∷ 0 ∷ 0 ∷ 0 ∷ 2 ∷ 0 ∷ 0 ∷ 0 ∷ 0 ∷ 0 ∷ 0 ∷ 0 ∷ 54 ∷ 0 ∷ 0 ∷ 0 ∷ 0 ∷ 0 ∷ 0 ∷ 0 ∷ 0 ∷ 1 ∷ 0 ∷ 0
    ∷ 1 ∷ 0 ∷ 0 ∷ 0 ∷ 0 ∷ 0 ∷ 0 ∷ 0 ∷ 8 ∷ 0 ∷ 0 ∷ 0 ∷ 0 ∷ 0 ∷ 0 ∷ 0 ∷ 2 ∷ 0 ∷ 0 ∷ 0 ∷ 0 ∷ 0 ∷ 0 ∷ 0 ∷ 1 ∷ 0 ∷ 0 ∷ 0
    ∷ 0 ∷ 0 ∷ 0 ∷ 0 ∷ 0 ∷ 0 ∷ 0 ∷ 0 ∷ 64 ∷ 0 ∷ 0 ∷ 0 ∷ 0 ∷ 0 ∷ 0 ∷ 0 ∷ 64 ∷ 0 ∷ 0 ∷ 0 ∷ 0 ∷ 0 ∷ 0 ∷ 0 ∷ 0 ∷ 0 ∷ 0 ∷ 0
    ∷ 0 ∷ 0 ∷ 0 ∷ 0 ∷ 0 ∷ 0 ∷ 0 ∷ 0 ∷ 0 ∷ 0 ∷ 0 ∷ 0 ∷ 0 ∷ 0 ∷ 0 ∷ 0 ∷ 100 ∷ 0 ∷ 0 ∷ 0 ∷ 1 ∷ 0 ∷ 1 ∷ 1 ∷ 2 ∷ 0 ∷ 0 ∷ 0
    ∷ []

sample-cleared : clear_bytes sample ≡ sample'
unfolding le bytes trailer_of trailer_bytes head_of head_bytes transition_of transition_bytes slave_of slave_bytes
    node_of node_bytes head_at transition_at slave_at node_at start_of from transitions_of trailer body_of shape_of
    chart_of file_at file_of same tally guards in_turn head_for transitions_bytes shape_in body_bytes encode
    transitions_in dead alive lost cleared_chart clear_bytes
sample-cleared = refl

-- there is room in 112 bytes, and not in 111
sample-passes : (clear_refusal sample 112 ≡ 0) × (clear_refusal sample 111 ≡ 45)
unfolding le bytes trailer_of trailer_bytes head_of head_bytes transition_of transition_bytes slave_of slave_bytes
    node_of node_bytes head_at transition_at slave_at node_at start_of from transitions_of trailer body_of shape_of
    chart_of file_at file_of same gather build tree_of Has tally guards in_turn head_for transitions_bytes shape_in
    body_bytes encode transitions_in dead alive lost cleared_chart clear_bytes clear_refusal any_up_to first_of edition?
    counts? distance? nonzero zeros? chart? charts? ends? leaving transitions? rising slave? slaves? node_of_kind?
    nodes? names named held naming? inside? file_tests
sample-passes = (refl, refl)

-- from state 0 with signal 0 the second transition is taken, now the first; from state 1 the fourth, now the second
abbrev chart0 : List ℕ → List ℕ
chart0 [] = []
chart0 (p ∷ ps) = p ∷ []

sample_places : (chart0 (places_of sample (0 ∷ []) 1 1) ≡ 1 ∷ []) × (chart0 (places_of sample' (0 ∷ []) 1 1) ≡ 0 ∷ [])
    × (chart0 (places_of sample (1 ∷ []) 0 1) ≡ 3 ∷ []) × (chart0 (places_of sample' (1 ∷ []) 0 1) ≡ 1 ∷ [])
unfolding le trailer_of head_of transition_of slave_of node_of head_at transition_at slave_at node_at start_of from
    transitions_of trailer body_of shape_of chart_of file_at file_of same gather build tree_of Has tally guards
    any_up_to first_of edition? counts? distance? nonzero zeros? chart? charts? ends? leaving transitions? rising slave?
    slaves? node_of_kind? nodes? names named held naming? inside? file_tests config_tests step_refusal open_chart
    open_tree is_open choices how_many open_choices many_open? places_found places_in places_of nth pick last_place
    action_of after guard met? in_face_chart in_face out ok_chart meets ok permitted upd moves nexts place_of
    places_from outcome_of upto outcome search outcomes first_places
sample_places = (refl, refl, refl, refl)

-- ── edition 2 ──

-- Why it is refused: there a dead transition can still forbid staying, which is tested without its own output
-- (L2 of EXAMPLES); without it, the chart could stay
abbrev lonely : Chart
lonely =
    record {
      states = 1;
      initial = 0;
      transitions = record { from = 0; to = 0; needed = 0; barred = 1; action = 1 } ∷ [];
      feedback = 1;
      extra = 0;
      stays = true;
    }

staying_differs : (ok_chart lonely true ∅ 0 stay ≡ false) × (ok_chart (cleared_chart lonely) true ∅ 0 stay ≡ true)
unfolding same guard met? untriggered ok_chart guards dead alive lost cleared_chart
staying_differs = (refl, refl)

-- ── the rewriting of a cleared file ──

-- a chart with so many states, these transitions and this extra set
abbrev having : ℕ → List Transition → Set → Chart
having n ts e = record { states = n; initial = 0; transitions = ts; feedback = ∅; extra = e; stays = false }

-- chart 0 is a master without transitions; its one slave is the chart C, so each state of C gets an idle transition
abbrev slaved : Chart → List ℕ
slaved C =
    encode (record {
      charts = 2;
      chart = λ c. cond (same c 0) (having 1 [] ∅) C;
      slaves = 1;
      master = λ i. 0;
      state = λ i. 0;
      node = λ i. 0;
      nodes = 2;
      kind = λ j. 0;
      a = λ j. 1 - j;
      b = λ j. 0;
      x = λ j. ∅;
      y = λ j. ∅;
    })

-- a transition that can be taken from state q, and a dead one, which outputs o
abbrev needing : ℕ → Set → Transition
needing q s = record { from = q; to = 0; needed = s; barred = ∅; action = ∅ }

abbrev never : Set → Transition
never o = record { from = 0; to = 0; needed = 1; barred = 1; action = o }

-- all 64 signals are used, the last of them by the dead transition alone; the slave needs one that is free
abbrev full : List ℕ
full = slaved (having 1 (never (2 ^ 63) ∷ []) (2 ^ 63 - 1))

-- eight transitions leave the state, one of them dead
abbrev crowded : List ℕ
crowded = slaved (having 1 (never ∅ ∷ map (needing 0) (1 ∷ 2 ∷ 4 ∷ 8 ∷ 16 ∷ 32 ∷ 64 ∷ [])) ∅)

-- 49 transitions over 16 states, one of them dead
abbrev long : List ℕ
long = slaved (having 16 (never ∅ ∷ from (λ k. needing (k % 16) 2) 0 48) ∅)

-- the call refuses to rewrite the file, with this number, and rewrites the cleared one into so many bytes
abbrev Freed : ℕ → List ℕ → ℕ → Type 0
Freed number f room = (rewrite_refusal f room ≡ number) × (rewrite_refusal (clear_bytes f) room ≡ 0)

crowded_rewrites : Freed no_free_signal full 168 × Freed many_from_state crowded 364 × Freed many_in_chart long 1932
unfolding le bytes trailer_of trailer_bytes head_of head_bytes transition_of transition_bytes slave_of slave_bytes
    node_of node_bytes head_at transition_at slave_at node_at start_of from transitions_of trailer body_of shape_of
    chart_of file_at file_of same gather build tree_of Has tally guards actions in_turn head_for transitions_bytes
    shape_in body_bytes encode transitions_in dead alive lost cleared_chart clear_bytes union_up_to lacking used free
    calls_by call_in called idle idles chart_with nearest_in nearest_slave rewritten_chart leaving_in bit single call
    start new_name calls_of composed made_for laid any_up_to first_of edition? counts? distance? nonzero zeros? chart?
    charts? ends? leaving transitions? rising slave? slaves? node_of_kind? nodes? names named held naming? inside?
    file_tests no_free? from_state? in_chart? rewrite_tests rewrite_bytes rewrite_refusal
crowded_rewrites = ((refl, refl), (refl, refl), (refl, refl))

-- what is rewritten is at its limit: one free signal for one slave; 8 transitions out of the state; 64 in the chart
crowded_limits : (length (free (file_of (clear_bytes full))) ≡ (file_of (clear_bytes full)).slaves)
    × (leaving_in ((rewrite (file_of (clear_bytes crowded))).chart 1).transitions 0 ≡ most_from_state)
    × (length ((rewrite (file_of (clear_bytes long))).chart 1).transitions ≡ most_in_chart)
unfolding le bytes trailer_of trailer_bytes head_of head_bytes transition_of transition_bytes slave_of slave_bytes
    node_of node_bytes head_at transition_at slave_at node_at start_of from transitions_of trailer body_of shape_of
    chart_of file_at file_of same gather build tree_of Has tally guards actions in_turn head_for transitions_bytes
    shape_in body_bytes encode transitions_in dead alive lost cleared_chart clear_bytes union_up_to lacking used free
    calls_by call_in called idle idles chart_with nearest_in nearest_slave rewritten_chart leaving_in bit single
crowded_limits = (refl, refl, refl)
