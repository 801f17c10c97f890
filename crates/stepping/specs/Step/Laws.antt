-- Laws of the step, in this order: a call's list behind 1 to 11; what a checked body and a valid configuration give the
-- choosing of candidates; the tables after it, and what is read by their wiring; what the search over them answers;
-- what was found, as an answer; how many choices are open; what was tried.
use Rattle.std.specs.Prelude.{◌≡◌, Bool, false, not, cond, ℕ, ◌^◌, ◌≤◌, ◌<◌, ltb, length, take, replicate, Err}
use Rattle.std.proofs.Math.Path.{refl, ap}
use Rattle.std.proofs.Common.{sym, subst, ◌∙◌, lit<}
use Rattle.std.proofs.Math.Bool.{true}
use mathlib.Core.List.{List, [], ◌∷◌, ◌++◌, append_assoc}
use native.Mathlib.Omega.{arith}
use borrow.Author.Tests.{ne_eqb, lt-ltb, le-ltb, ltb-false}
use Rattle.std.proofs.Math.ListN.{get_or}
use Rattle.std.proofs.lemmas.List.{get_or-replicate}
use Rattle.signals.specs.Mask.{◌∩◌, bit}
use Rattle.signals.specs.All.{cut_all}
use Rattle.layout.specs.Le.{AllBytes}
use Rattle.layout.specs.Body.{head_at, start_of, transition_at, transitions_of}
use Rattle.layout.specs.declared.body.Shape.{Shape}
use Rattle.meaning.specs.Numbers.{most_charts, most_open, most_from_state, stay_place, short_buffer, no_step, many_open}
use Rattle.meaning.specs.Sums.{any_up_to}
use Rattle.meaning.specs.Sums.Laws.{or_right, any-never}
use Rattle.meaning.specs.Meaning.{Set, same, Move, no_move, takes, stay, pick, after, Answer, refused, given, answer}
use Rattle.meaning.specs.Meaning.{first_places}
use Rattle.meaning.specs.File.{File, trailer, shape_of, body_of, chart_of, file_at, file_of, whole_of}
use Rattle.meaning.specs.Check.{Test, first_of, file_tests, refusal_of, not_below, ends?, leaving, transitions?}
use Rattle.meaning.specs.Check.Laws.{below, alike, charted, call_refused, call-passed, passed, Passes, first_of-passes}
use Rattle.meaning.specs.Check.Laws.{first_of_++, first_of-before, first_of_here, first_of-next, first_of_[]}
use Rattle.meaning.specs.Check.Nodes.{sound}
use Rattle.meaning.specs.Calls.{config_tests, Valid, step_refusal, found_in, step_in, step_of, all_places, places_found}
use Rattle.meaning.specs.Calls.{places_in, places_of, open_for, open_of, next_in}
use Rattle.meaning.specs.Calls.Laws.{behind_refused as places-refused, places_by_lem}
use Rattle.meaning.specs.Open.{open_chart, open_in}
use Rattle.meaning.specs.Laws.Names.{kap}
use Rattle.meaning.proofs.Laws.Open.{none_open_in}
use Rattle.meaning.proofs.Laws.Many.{first_under, many_is, few_is, step-many, step_few}
use Rattle.wiring.specs.Reach.{Small, full, down}
use Rattle.wiring.specs.Spared.{permitted-spared}
use Rattle.wiring.specs.Few.{file_stands}
use Rattle.cells.specs.Table.{Row, InRow, master_cell, slave_state_cell, master_at, slave_state_at}
use Rattle.settling.specs.Hunt.{nothing}
use Rattle.settling.specs.declared.Found.{Found}
use Rattle.tables.specs.Contents.{Rows, answer_of, trimmed}
use Rattle.tables.specs.Narrowing.Laws.{reads_all, reads_at}
use Rattle.tables.specs.Insertion.{opens_by}
use Rattle.tables.specs.Step.{step_found, step_places}
use Rattle.checks.specs.Known.{Sized}
use Rattle.checks.specs.Refusals.{number}
use Rattle.nesting.specs.Known.{Wirable}
use Rattle.nesting.specs.Nearest.{master_by, state_by}
use Rattle.counting.specs.Counting.{Countable, CountsOn, begins, Shuts}
use Rattle.counting.specs.Counting.Laws.{begins_open}
use Rattle.plan.specs.Noted.{NearestIn}
use Rattle.plan.specs.Plan.{Wired}
use Rattle.candidates.specs.Candidates.{Ready, Mays, Chooses}
use Rattle.candidates.specs.Candidates.Laws.{length_from, actions-small}
use Rattle.relevance.specs.Relevance.{ReadRow}
use Rattle.staying.specs.Staying.{Stays}
use Rattle.stepping.specs.declared.step.Refused.{Refused}
use Rattle.stepping.specs.declared.step.Tried.{Tried}
use Rattle.stepping.specs.Answer.{Steps}
use Rattle.stepping.specs.Step.{config_tests_in, refusal_after, step_after, places_after, open_after, Checked, Prepared}
use Rattle.stepping.specs.Step.{Shut, AllRead, searched_of, Finds, tried_answer, tried_refusal, Tries}

-- ── behind 1 to 11 ──

-- a list of tests behind the file's own
behind : (f config : List ℕ) (t : Test) → first_of (file_tests f ++ config_tests f config ++ (t ∷ []))
    ≡ first_of (file_tests f ++ (config_tests_in (file_of f) config ++ (t ∷ [])))
unfolding config_tests config_tests_in
behind f config t = ap first_of (append_assoc (file_tests f) (config_tests f config) (t ∷ []))

pub behind_refused : (f config : List ℕ) (t : Test) → (refusal_of f ≡ 0 → ⊥)
    → first_of (file_tests f ++ config_tests f config ++ (t ∷ [])) ≡ refusal_of f
behind_refused f config t h = behind f config t ∙ call_refused f _ h

pub behind-passed : (f config : List ℕ) (t : Test) → refusal_of f ≡ 0
    → first_of (file_tests f ++ config_tests f config ++ (t ∷ []))
    ≡ first_of (config_tests_in (file_of f) config ++ (t ∷ []))
behind-passed f config t h = behind f config t ∙ call-passed f _ h

pub step_refused : (f config : List ℕ) (i : Set) (room : ℕ) → (refusal_of f ≡ 0 → ⊥)
    → step_of f config i room ≡ refused (refusal_of f)
unfolding step_of step_refusal same
step_refused f config i room h = rw (behind_refused f config _ h, ne_eqb (refusal_of f) 0 h)

pub step-passed : (f config : List ℕ) (i : Set) (room : ℕ) → refusal_of f ≡ 0
    → step_of f config i room ≡ step_after (file_of f) config i room
unfolding step_of step_refusal step_after refusal_after
step-passed f config i room h = rw (behind-passed f config _ h)

pub places_passed : (f config : List ℕ) (i : Set) (room : ℕ) → refusal_of f ≡ 0
    → places_of f config i room ≡ places_after (file_of f) config i room
unfolding places_of step_refusal places_after refusal_after
places_passed f config i room h = rw (behind-passed f config _ h)

pub open_passed : (f config : List ℕ) (i : Set) (room : ℕ) → refusal_of f ≡ 0
    → open_of f config i room ≡ open_after (file_of f) config i room
unfolding open_of
open_passed f config i room h = ap (λ a. open_for a (open_in (file_of f) config)) (step-passed f config i room h)

-- 1 to 11 are numbered below 24
pub file-under : (f : List ℕ) → refusal_of f < no_step
unfolding refusal_of file_tests
file-under f = first_under _ refl

-- ── 20 to 22 ──

module _ (F : File) (config : List ℕ) where
  pub config_passes : first_of (config_tests_in F config) ≡ 0 → Passes (config_tests_in F config)
  unfolding config_tests_in
  config_passes h = first_of-passes _ (lit< tt, (lit< tt, tt)) h

  -- 20 and 21 are numbered below 24
  pub config_under : first_of (config_tests_in F config) < no_step
  unfolding config_tests_in
  config_under = first_under _ refl

  config_long : first_of (config_tests_in F config) ≡ 0 → length config ≡ F.charts
  unfolding config_tests_in
  config_long h = alike _ _ (config_passes h).0

  config_valid : first_of (config_tests_in F config) ≡ 0 → (c : ℕ) → c < F.charts
      → get_or config c 0 < (F.chart c).states
  unfolding config_tests_in
  config_valid h c l = below _ _ (any-never F.charts _ (config_passes h).1.0 c l)

  pub config-is : first_of (config_tests_in F config) ≡ 0 → Valid F config
  config-is h = record { long = config_long h; states = config_valid h }

  module _ (i : Set) (room : ℕ) where
    -- 22
    abbrev room_test_lem : Test
    room_test_lem = record { number = short_buffer; applies = ltb room F.charts }

    pub after_config : (first_of (config_tests_in F config) ≡ 0 → ⊥)
        → step_after F config i room ≡ refused (first_of (config_tests_in F config))
    unfolding step_after refusal_after same
    after_config h = rw (
      first_of-before (config_tests_in F config) _ h,
      ne_eqb (first_of (config_tests_in F config)) 0 h,
    )

    pub after_room : first_of (config_tests_in F config) ≡ 0 → room < F.charts
        → step_after F config i room ≡ refused short_buffer
    unfolding step_after refusal_after same
    after_room h l = rw (
      first_of_++ (config_tests_in F config) (room_test_lem ∷ []) (config_passes h),
      first_of_here room_test_lem [] (lt-ltb room F.charts l),
    )

    pub after-step : first_of (config_tests_in F config) ≡ 0 → F.charts ≤ room
        → step_after F config i room ≡ step_in F config i
    unfolding step_after refusal_after same
    after-step h l = rw (
      first_of_++ (config_tests_in F config) (room_test_lem ∷ []) (config_passes h),
      first_of-next room_test_lem [] (le-ltb room F.charts l),
      first_of_[],
    )

    -- the places, likewise
    pub after_places : first_of (config_tests_in F config) ≡ 0 → F.charts ≤ room
        → places_after F config i room ≡ places_in F config i
    unfolding places_after refusal_after same
    after_places h l = rw (
      first_of_++ (config_tests_in F config) (room_test_lem ∷ []) (config_passes h),
      first_of-next room_test_lem [] (le-ltb room F.charts l),
      first_of_[],
    )

    pub after_refused : (r : ℕ) → step_after F config i room ≡ refused r → places_after F config i room ≡ all_places []
    unfolding step_after places_after
    after_refused r e = places-refused r (refusal_after F config room) F config i e

-- the body that a file is opened to
pub checked : (f : List ℕ) (n : Shape) (b : List ℕ) → refusal_of f ≡ 0 → n ≡ shape_of (trailer f) → b ≡ body_of f
    → Sized n b → start_of n b n.charts ≡ n.transitions → Checked n b
unfolding file_of
checked f n b h en eb sz sm =
    let p = passed f h in
    record {
      sized = sz;
      summed = sm;
      charts = rw (en, eb) p.charts;
      transitions = rw (en, eb) p.transitions;
      sound = rw (en, eb) (sound (file_of f) p.slaves p.nodes p.naming p.inside);
    }

pub file_is : (f : List ℕ) (n : Shape) (b : List ℕ) → n ≡ shape_of (trailer f) → b ≡ body_of f → file_of f ≡ file_at n b
unfolding file_of
file_is f n b en eb = rw (en, eb)

-- ── a checked body and a valid configuration ──

module _ (n : Shape) (b : List ℕ) (k : Checked n b) where
  -- each state of a chart is left by mostFromState transitions at the most
  few_leave : (c s : ℕ) → c < n.charts → s < (head_at n b c).states
      → leaving n b c s (head_at n b c).transitions ≤ most_from_state
  unfolding transitions?
  few_leave c s l m =
      ltb-false most_from_state (leaving n b c s (head_at n b c).transitions)
      (any-never (head_at n b c).states _ (or_right (any_up_to (head_at n b c).transitions (ends? n b c)) _
      (any-never n.charts _ k.transitions c l)) s m)

  pub ready : (config : List ℕ) → n.charts ≤ length config
      → ((c : ℕ) → c < n.charts → get_or config c 0 < (head_at n b c).states) → Ready n b config
  ready config l v =
      record {
        sized = k.sized;
        summed = k.summed;
        configured = l;
        room = λ c m. few_leave c (get_or config c 0) m (v c m);
      }

  pub wirable : Wirable n b
  wirable = record { sized = k.sized; sound = k.sound }

pub valid_config : (n : Shape) (b config : List ℕ)
    → any_up_to n.charts (λ c. not_below (get_or config c 0) (head_at n b c).states) ≡ false
    → (c : ℕ) → c < n.charts → get_or config c 0 < (head_at n b c).states
valid_config n b config h c l = below _ _ (any-never n.charts _ h c l)

-- ── the tables after candidates are chosen ──

-- what is read: all signals have it, and so has what the wiring says
pub read_all : (n : Shape) (b config : List ℕ) → n.charts ≤ most_charts
    → AllRead n b config (replicate most_charts full)
read_all n b config few =
    reads_all (file_at n b).chart (λ c. get_or config c 0) n.charts (whole_of (file_at n b))
    (λ c. get_or (replicate most_charts full) c 0) (λ k l. get_or-replicate most_charts k full 0 (omega arith))

module _ (n : Shape) (b a m s config : List ℕ) (p : Prepared n b a m s) where
  pub read_rows : (reads : List ℕ) → ReadRow n b config m n.charts reads → AllRead n b config reads
  unfolding file_at chart_of
  read_rows reads h =
      reads_at (file_at n b).chart (λ c. get_or config c 0) n.charts (whole_of (file_at n b)) m (λ c. get_or reads c 0)
      p.wired.back_is p.wired.up_is h

module _ (n : Shape) (b a m s m' s' config reads base shuts lows : List ℕ) (sz : Sized n b) (p : Prepared n b a m s)
    (ch : Chooses n b config reads base shuts lows m s m' s') where
  wired_again : Wired (file_at n b) a m' s'
  unfolding file_at
  wired_again =
      record {
        down_is = p.wired.down_is;
        up_is = λ d l. ch.wires.ups d (omega (arith, sz.charts)) ∙ p.wired.up_is d l;
        back_is = λ c d l r. ch.wires.backs c d (omega (arith, sz.charts)) (omega (arith, sz.charts))
            ∙ p.wired.back_is c d l r;
        nearest_is = λ c l. let q = p.wired.nearest_is c l in (
          ch.masters (master_cell c) (omega (arith, sz.charts)) (omega (arith, sz.charts)) ∙ q.0,
          ch.masters (slave_state_cell c) (omega (arith, sz.charts)) (omega (arith, sz.charts)) ∙ q.1,
        );
      }

  pub prepared_again : Prepared n b a m' s'
  prepared_again = record { wired = wired_again; tabled = ch.tabled }

  abbrev F : File
  F = file_at n b

  abbrev cfg : ℕ → ℕ
  cfg c = get_or config c 0

  rows : Rows F.chart F.state cfg F.charts (kap F) F.master (whole_of F) m' s'
  unfolding file_at master_by state_by
  rows =
      record {
        few = sz.charts;
        back_at_lem = wired_again.back_is;
        up_at_lem = λ d l. wired_again.up_is d l;
        outside =
            λ c l e. let q : master_at s' c ≡ 255 = (wired_again.nearest_is c l).0 ∙ ap (master_by F) e in omega arith;
        inside = λ c i l e. let q = wired_again.nearest_is c l in (q.0 ∙ ap (master_by F) e, q.1 ∙ ap (state_by F) e);
        state_at_lem = ch.chosen.state_at_lem;
      }

  -- ── what the search answers ──

  module _ (all : AllBytes b) (k : Checked n b) (inp : Set) (fits : inp < 2 ^ 64)
      (lw : Row base (λ c. inp ∩ get_or a c 0)) (g y may : List ℕ)
      (sy : Stays n b config may lows shuts m' g y) (my : Mays n b config reads n.charts may)
      (sh : Shut n b config shuts) (ar : AllRead n b config reads) where
    base_is : (c : ℕ) → c < F.charts → get_or base c 0 ≡ inp ∩ down (whole_of F) c
    unfolding file_at
    base_is c l = lw c (omega (arith, sz.charts)) ∙ ap (λ z. inp ∩ z) (p.wired.down_is c l)

    small_input : Small inp
    unfolding full
    small_input = cut_all 64 inp fits

    -- a chart has at most 64 transitions, so 254 is no transition's place
    few : (c : ℕ) → c < F.charts → length (F.chart c).transitions ≤ stay_place
    unfolding file_at chart_of transitions_of
    few c l = let h = length_from (transition_at n b) (start_of n b c) (head_at n b c).transitions in
        let q = (charted n b k.charts c l).transitions in omega arith

    pub found_here : Finds n b config inp (searched_of n.charts lows m' s' g y)
    unfolding file_at chart_of
    found_here =
        let t = k.sound in
        record {
          answers = step_found F sz.some_node t.ordered t.rule10 t.rule11 t.chart_there
              t.node-there config inp small_input (actions-small n b all) m' s' g y base lows shuts few (sh inp) rows
              (λ c. get_or reads c 0) ar ch.chosen ch.raised base_is (sy.stayers reads my);
          places = step_places F sz.some_node t.ordered t.rule10 t.rule11 t.chart_there
              t.node-there config inp small_input (actions-small n b all) m' s' g y base lows shuts few (sh inp) rows
              (λ c. get_or reads c 0) ar ch.chosen ch.raised base_is (sy.stayers reads my);
        }

-- ── what was found ──

pub answer-none : (N : ℕ) (f : Found) → f.has ≡ false → answer_of N f ≡ refused no_step
unfolding trimmed
answer-none N f h = rw h

pub answer-given : (N : ℕ) (f : Found) → f.has ≡ true → answer_of N f ≡ given f.output (take N f.next) f.agree
unfolding trimmed
answer-given N f h = rw h

-- a refusal gives nothing and leaves the buffer, whatever its places are; k choices are open
pub refuses : (a : Answer) (places b : List ℕ) (k : ℕ) (e : Refused) → a ≡ refused (number e.refusal)
    → e.open_choices ≡ open_for (refused (number e.refusal)) k
    → Steps a places (open_for a k) (Err e) × (b ≡ next_in a b)
refuses a places b k e h w = rw h ((refl, w), refl)

-- below 24 it says none, in 24 all
pub says_none : (r k : ℕ) → r < many_open → 0 ≡ open_for (refused r) k
says_none r k l = sym (ap (λ z. cond z 0 k) (lt-ltb r many_open l))

pub says_all : (r k j : ℕ) → r ≡ many_open → j ≡ k → j ≡ open_for (refused r) k
says_all r k j e q = rw (e, q)

-- ── how many choices are open ──

module _ (n : Shape) (b config : List ℕ) (k : Checked n b) (v : Valid (file_at n b) config) where
  pub configured : length config ≡ n.charts
  unfolding file_at
  configured = v.long

  pub ready_valid : Ready n b config
  unfolding file_at chart_of
  ready_valid = ready n b k config (omega (arith, configured)) v.states

  -- the rows of masters and of states stand in the tables
  pub countable : (s m t : List ℕ) → NearestIn (file_at n b) s → InRow m (master_at s) → InRow t (slave_state_at s)
      → Countable n b config m t
  unfolding file_at
  countable s m t w rm rt =
      let few = k.sized.charts in
      record {
        sized = k.sized;
        summed = k.summed;
        transitions = k.transitions;
        sound = k.sound;
        valid = v;
        nearest = λ c l. (rm.each c (omega arith) ∙ (w c l).0, rt.each c (omega arith) ∙ (w c l).1);
        masters = omega (arith, rm.long);
        states = omega (arith, rt.long);
      }

  -- a state that is shut is in no permitted choice, since no open choice goes there
  pub shut_is : (m t counts shuts : List ℕ) → Countable n b config m t → CountsOn n b config 0 counts
      → Shuts n.charts config m t counts n.charts shuts → Shut n b config shuts
  unfolding file_at opens_by after open_chart
  shut_is m t counts shuts w h g i ch p c l = go (pick (chart_of n b c) (ch c)) refl
    where
      spares : begins (file_at n b) config counts c (ch c) ≡ true
      spares =
          permitted-spared (file_at n b).chart (file_at n b).state (λ c. get_or config c 0) n.charts (kap (file_at n b))
          (file_at n b).master (whole_of (file_at n b)) (file_stands (file_at n b) w.sound w.sized.some_node)
          (λ c. get_or counts c 0) (λ c l. h c (omega arith) l) i ch p c l

      closed : (M : Move) → pick (chart_of n b c) (ch c) ≡ M
          → open_chart (chart_of n b c) false (get_or config c 0) M ≡ false
          → bit (get_or shuts c 0) (after (get_or config c 0) M) ≡ false
      closed M e f =
          subst (λ z. bit (get_or shuts c 0) (after (get_or config c 0) z) ≡ false) e
          (begins_open n b config m t w counts shuts g c (ch c) l spares
          (ap (open_chart (chart_of n b c) false (get_or config c 0)) e ∙ f))

      go : (M : Move) → pick (chart_of n b c) (ch c) ≡ M
          → opens_by (get_or shuts c 0) (get_or config c 0) (pick (chart_of n b c) (ch c)) ≡ true
      go no_move e = ap (opens_by (get_or shuts c 0) (get_or config c 0)) e
      go (takes u) e = ap (opens_by (get_or shuts c 0) (get_or config c 0)) e ∙ ap not (closed (takes u) e refl)
      go stay e = ap (opens_by (get_or shuts c 0) (get_or config c 0)) e ∙ ap not (closed stay e refl)

-- ── what was tried ──

module _ (t : Tried) where
  -- 24 first, then whether anything was found
  pub refusal_many : most_open < t.open_choices → tried_refusal t ≡ many_open
  refusal_many l = ap (λ z. cond z many_open (cond t.found.has 0 no_step)) (lt-ltb most_open t.open_choices l)

  pub refusal_few : t.open_choices ≤ most_open → (y : Bool) → t.found.has ≡ y → tried_refusal t ≡ cond y 0 no_step
  refusal_few l y e =
      ap (λ z. cond z many_open (cond t.found.has 0 no_step)) (le-ltb most_open t.open_choices l)
      ∙ ap (λ z. cond z 0 no_step) e

  -- a refusal that is not 24 is 23
  pub refusal_else : (tried_refusal t ≡ many_open → ⊥) → tried_refusal t < many_open
  refusal_else h = go (ltb most_open t.open_choices) t.found.has h
    where
      go : (x y : Bool) → (cond x many_open (cond y 0 no_step) ≡ many_open → ⊥)
          → cond x many_open (cond y 0 no_step) < many_open
      go true y z = absurd (z refl)
      go false true z = lit< tt
      go false false z = lit< tt

module _ (N : ℕ) (t : Tried) where
  pub tried-many : most_open < t.open_choices → tried_answer N t ≡ refused many_open
  tried-many l = ap (λ z. cond z (refused many_open) (answer_of N t.found)) (lt-ltb most_open t.open_choices l)

  pub tried_few : t.open_choices ≤ most_open → tried_answer N t ≡ answer_of N t.found
  tried_few l = ap (λ z. cond z (refused many_open) (answer_of N t.found)) (le-ltb most_open t.open_choices l)

  -- 0 where it is given, else the refusal
  pub tried_refused : (tried_refusal t ≡ 0 → ⊥) → tried_answer N t ≡ refused (tried_refusal t)
  tried_refused h = go (ltb most_open t.open_choices) t.found.has refl h
    where
      go : (x y : Bool) → t.found.has ≡ y → (cond x many_open (cond y 0 no_step) ≡ 0 → ⊥)
          → cond x (refused many_open) (answer_of N t.found) ≡ refused (cond x many_open (cond y 0 no_step))
      go true y e z = refl
      go false true e z = absurd (z refl)
      go false false e z = answer-none N t.found e

  pub tried-given : tried_refusal t ≡ 0
      → tried_answer N t ≡ given t.found.output (take N t.found.next) t.found.agree
  tried-given h = go (ltb most_open t.open_choices) t.found.has refl h
    where
      go : (x y : Bool) → t.found.has ≡ y → cond x many_open (cond y 0 no_step) ≡ 0
          → cond x (refused many_open) (answer_of N t.found)
          ≡ given t.found.output (take N t.found.next) t.found.agree
      go true y e z = absurd (omega (arith, z))
      go false true e z = answer-given N t.found e
      go false false e z = absurd (omega (arith, z))

module _ (n : Shape) (b config : List ℕ) (i : Set) (t : Tried) (e : t.open_choices ≡ open_in (file_at n b) config) where
  abbrev G : File
  G = file_at n b

  found_none : open_in G config ≡ 0 → found_in G config i ≡ refused no_step
  unfolding found_in answer
  found_none o = ap answer (none_open_in G config i o)

  places_none : open_in G config ≡ 0 → places_found G config i ≡ all_places []
  unfolding places_found first_places
  places_none o = ap (λ os. all_places (first_places os)) (none_open_in G config i o)

  -- nothing is looked for
  module _ (none : t.found ≡ nothing) where
    none_places : t.found.places ≡ all_places []
    none_places = ap (λ f. f.places) none

    pub tries_many : most_open < t.open_choices → Tries n b config i t
    tries_many l =
        let m = rw e at l in
        record {
          counts = e;
          answers = tried-many n.charts t l ∙ sym (step-many G config i m);
          places = none_places ∙ sym (places_by_lem G config i true (many_is G config i m));
        }

    pub tries_none : t.open_choices ≡ 0 → Tries n b config i t
    tries_none z =
        let o : open_in G config ≡ 0 = sym e ∙ z in
        let f : open_in G config ≤ most_open = omega (arith, o) in
        record {
          counts = e;
          answers =
              tried_few n.charts t (omega (arith, z)) ∙ answer-none n.charts t.found (ap (λ f. f.has) none)
              ∙ sym (step_few G config i f ∙ found_none o);
          places = none_places ∙ sym (places_by_lem G config i false (few_is G config i f) ∙ places_none o);
        }

  -- what was looked for is found
  pub tries_found : t.open_choices ≤ most_open → Finds n b config i t.found → Tries n b config i t
  tries_found l h =
      let f = rw e at l in
      record {
        counts = e;
        answers = tried_few n.charts t l ∙ h.answers ∙ sym (step_few G config i f);
        places = h.places ∙ sym (places_by_lem G config i false (few_is G config i f));
      }
