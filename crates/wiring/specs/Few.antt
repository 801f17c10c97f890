-- How many choices of a file are open at most, in both editions. In this order: what an active chart may do, as test 7
-- counts it (`active_leaving`, `few_from`); the number by a table (`open_counted`); 9 for each chart (`open_few`), and
-- 8 where none may stay (`open_few_one`), so no more than 8 ^ 8 in edition 1 with 8 charts (`never-many`); the entries
-- of a table are as small (`entry-fits`); all this of a file that passes 1 to 11, so that no step of edition 1 with 8
-- charts is refused with 24 (`never_refused`): it is what is found (`as_found`); of 16 charts the number is below 2 ^
-- 64.
use Rattle.std.specs.Prelude.{◌≡◌, refl, Bool, false, cond, List, ◌≢◌, ℕ, suc, ◌+◌, ◌-◌, ◌^◌, ◌≤◌, ◌<◌, ltb, length}
use Rattle.std.specs.Prelude.{get_or}
use Rattle.std.proofs.Common.{sym, ◌∙◌, ap₂, true≢false, mul-one, arith, ltb-false, lit<}
use Rattle.std.proofs.Math.Path.{ap}
use Rattle.std.proofs.Math.Bool.{true}
use Rattle.std.proofs.Math.Nat.{pow-le-pow_right}
use Rattle.layout.specs.Body.{head_at, transition_at, start_of, from, transitions_of}
use Rattle.layout.specs.Body.Laws.{length_from}
use Rattle.layout.specs.declared.body.Shape.{Shape}
use Rattle.meaning.specs.Numbers.{most_from_state, most_open, first_edition, many_open}
use Rattle.meaning.specs.Sums.{any_up_to, tally, one}
use Rattle.meaning.specs.Sums.Laws.{or_right, any-never, tally_cong}
use Rattle.meaning.specs.Meaning.{Set, Chart, no_move, nth, last_place, refused}
use Rattle.meaning.specs.File.{File, trailer, body_of, shape_of, chart_of, file_at, file_of, whole_of}
use Rattle.meaning.specs.Check.{ends?, leaving, transitions?, refusal_of}
use Rattle.meaning.specs.Check.Laws.{passed}
use Rattle.meaning.specs.Check.Nodes.{Sound}
use Rattle.meaning.specs.Open.{open_chart, open_in}
use Rattle.meaning.specs.Calls.{Valid, found_in, step_of, places_found, places_of}
use Rattle.meaning.specs.Words.{Allowed}
use Rattle.meaning.proofs.Laws.Many.{few_found, refused_many}
use Rattle.meaning.specs.Laws.Names.{kap}
use Rattle.meaning.proofs.Laws.Editions.{one_stays}
use Rattle.wiring.specs.Permitted.{Stands}
use Rattle.meaning.proofs.Laws.Choices.{nth-from}
use Rattle.meaning.specs.Laws.Alike.{accepted_sound, accepted_node}
use Rattle.wiring.specs.Stand.{stands}
use Rattle.wiring.specs.Completions.{Counts, total_of}
use Rattle.wiring.specs.Largest.{count_fits}
use Rattle.wiring.specs.Total.{rule_in, places_sum, last_of, rule_of, hits_of, open_total, open_most}

-- ── what an active chart may do ──

-- the moves that an active chart in state s may make
abbrev pub moves_from : Chart → ℕ → ℕ
moves_from C s = tally (suc (last_place C)) (λ v. one (rule_in C s true v))

-- its transitions from the state, and staying, if it may
moves-sum : (C : Chart) (s : ℕ)
    → moves_from C s
    ≡ one C.stays + tally (length C.transitions) (λ k. one (open_chart C true s (nth no_move C.transitions k)))
moves-sum C s =
    tally_cong (suc (last_place C)) _ _ (λ v l. sym (mul-one (one (rule_in C s true v))))
    ∙ places_sum C s (λ v. 1)
    ∙ ap₂ ◌+◌ (is_one C.stays) (tally_cong (length C.transitions) _ _ (λ k l. mul-one (one (taken k))))
  where
    taken : ℕ → Bool
    taken k = open_chart C true s (nth no_move C.transitions k)

    is_one : (b : Bool) → cond b 1 0 ≡ one b
    is_one true = refl
    is_one false = refl

module _ (n : Shape) (b : List ℕ) where
  active_leaving : (c s : ℕ)
      → moves_from (chart_of n b c) s ≡ one (chart_of n b c).stays + leaving n b c s (head_at n b c).transitions
  active_leaving c s = moves-sum (chart_of n b c) s ∙ ap (λ z. one (chart_of n b c).stays + z) listed
    where
      K : Chart
      K = chart_of n b c

      start : ℕ
      start = start_of n b c

      count : ℕ
      count = (head_at n b c).transitions

      listed : tally (length (chart_of n b c).transitions)
          (λ k. one (open_chart (chart_of n b c) true s (nth no_move (chart_of n b c).transitions k)))
          ≡ leaving n b c s (head_at n b c).transitions
      listed =
          unfold chart_of transitions_of leaving open_chart in
          (ap (λ m. tally m (λ k. one (open_chart K true s (nth no_move (from (transition_at n b) start count) k))))
          (length_from (transition_at n b) start count)
          ∙ tally_cong count _ _ (λ k l.
          ap (λ m. one (open_chart K true s m)) (nth-from no_move (transition_at n b) start count k l)))

-- no state has more than 8 transitions from it (test 7)
abbrev pub FewFrom : File → Type 0
FewFrom F =
    (c s : ℕ) → c < F.charts → s < (F.chart c).states
    → moves_from (F.chart c) s ≤ one (F.chart c).stays + most_from_state

pub few_from : (n : Shape) (b : List ℕ) → transitions? n b ≡ false → FewFrom (file_at n b)
unfolding file_at transitions?
few_from n b h c s l m =
    let e = active_leaving n b c s in
    let few = ltb-false most_from_state (leaving n b c s (head_at n b c).transitions) here in
    omega arith
  where
    here : ltb most_from_state (leaving n b c s (head_at n b c).transitions) ≡ false
    here =
        any-never (head_at n b c).states _
        (or_right (any_up_to (head_at n b c).transitions (ends? n b c)) _ (any-never n.charts _ h c l)) s
        (unfold chart_of in m)

-- ── the count of a file that tests 8 to 11 allow ──

-- the moves of an active chart at most, in edition 2 and so in both
abbrev pub most_moves : ℕ
most_moves = 1 + most_from_state

module _ (F : File) (so : Sound F) (some_node : 0 < F.nodes) where
  pub file_stands : Stands F.charts (kap F) F.master (whole_of F)
  file_stands =
      stands F so.ordered so.rule10 so.rule11 so.chart_there so.node-there (F.nodes - 1) (omega arith)

  module _ (config : List ℕ) where
    abbrev cfg : ℕ → ℕ
    cfg c = get_or config c 0

    -- a table that is right: each chart's entry is a sum over its moves from the present state (`count_transitions`)
    abbrev pub CountsIn : (ℕ → ℕ) → Type 0
    CountsIn count =
        Counts F.charts (kap F) F.master (hits_of F.chart (λ c. get_or config c 0) F.state F.master) count
        (last_of F.chart) (rule_of F.chart (λ c. get_or config c 0))

    -- it gives the number of open choices
    pub open_counted : (count : ℕ → ℕ) → CountsIn count → open_in F config ≡ total_of F.charts (kap F) count
    open_counted count cs =
        open_total F.chart F.state cfg F.charts (kap F) F.master (whole_of F) file_stands count cs

    -- ── at most so many for each chart ──

    open_within : (B : ℕ) → 0 < B → ((c : ℕ) → c < F.charts → moves_from (F.chart c) (cfg c) ≤ B)
        → open_in F config ≤ B ^ F.charts
    open_within B p h =
        open_most F.chart F.state cfg F.charts (kap F) F.master (whole_of F) file_stands B p h

    module _ (few : FewFrom F) (v : Valid F config) where
      pub moves_few : (c : ℕ) → c < F.charts → moves_from (F.chart c) (get_or config c 0) ≤ most_moves
      moves_few c l = go (F.chart c).stays (few c (cfg c) l (v.states c l))
        where
          go : (b : Bool) → moves_from (F.chart c) (cfg c) ≤ one b + most_from_state
              → moves_from (F.chart c) (cfg c) ≤ most_moves
          go true h = h
          go false h = omega arith

      pub open_few : open_in F config ≤ most_moves ^ F.charts
      open_few = open_within most_moves (lit< tt) moves_few

      -- edition 1
      module _ (one-edition : (c : ℕ) → c < F.charts → (F.chart c).stays ≡ false) where
        pub open_few_one : open_in F config ≤ most_from_state ^ F.charts
        open_few_one = open_within most_from_state (lit< tt) (λ c l. go c l (F.chart c).stays (one-edition c l)
            (few c (cfg c) l (v.states c l)))
          where
            go : (c : ℕ) → c < F.charts → (b : Bool) → b ≡ false
                → moves_from (F.chart c) (cfg c) ≤ one b + most_from_state
                → moves_from (F.chart c) (cfg c) ≤ most_from_state
            go c l false e h = omega arith
            go c l true e h = absurd (true≢false e)

        -- what 8 charts of edition 1 cannot exceed
        pub never-many : F.charts ≤ 8 → open_in F config ≤ most_open
        never-many l =
            let h = open_few_one in let k = pow-le-pow_right {n = most_from_state} (lit< tt) l in
            let e : most_from_state ^ 8 ≡ most_open = refl in omega arith

      -- no entry of a table is larger
      pub entry-fits : (count : ℕ → ℕ) → CountsIn count → (c : ℕ) → c < F.charts → count c ≤ most_moves ^ F.charts
      entry-fits count cs =
          count_fits F.charts (kap F) F.master file_stands.lower most_moves (lit< tt) (last_of F.chart)
          (rule_of F.chart cfg) (hits_of F.chart cfg F.state F.master) count cs moves_few

-- ── a file that passes 1 to 11 ──

module _ (f : List ℕ) (ok : refusal_of f ≡ 0) where
  pub passed_few : FewFrom (file_of f)
  unfolding file_of
  passed_few = few_from (shape_of (trailer f)) (body_of f) (passed f ok).transitions

  -- in edition 1 no file of 8 charts has more open choices than this, from any configuration
  pub passed-never-many : (trailer f).edition ≡ first_edition → (file_of f).charts ≤ 8 → (config : List ℕ)
      → Valid (file_of f) config → open_in (file_of f) config ≤ most_open
  passed-never-many e l config v =
      never-many (file_of f) (accepted_sound f ok) (accepted_node f ok) config passed_few v (λ c m. one_stays f e c) l

-- edition 1 and 8 charts, as many as a file had before it could have 16
module _ (f : List ℕ) (e : (trailer f).edition ≡ first_edition) (l : (file_of f).charts ≤ 8) (config : List ℕ) (i : Set)
    (room : ℕ) where
  pub never_refused : step_of f config i room ≢ refused many_open
  never_refused z =
      let h = refused_many f config i room z in
      let k = passed-never-many f h.0.0 e l config h.0.1 in let m = h.1 in omega arith

  pub as_found : Allowed f config room
      → (step_of f config i room ≡ found_in (file_of f) config i)
      × (places_of f config i room ≡ places_found (file_of f) config i)
  as_found h =
      few_found f config i room h (passed-never-many f h.0 e l config h.1)

-- sixteen charts of eight transitions, and of eight and staying
pub sixteen_fit : (8 ^ 16 < 2 ^ 64) × (9 ^ 16 < 2 ^ 64)
sixteen_fit = (lit< tt, lit< tt)
