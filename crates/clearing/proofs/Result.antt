-- A cleared file, over its records. In this order: its trees; its steps, places, open choices and interfaces; tests 8
-- to 11; a file cleared twice.
use Rattle.std.specs.Prelude.{◌≡◌, true, false, ◌&&◌, ◌||◌, ◌≢◌, List, [], ◌∷◌, map, length, get_or}
use Rattle.std.proofs.Math.Path.{refl, ap, fun_ext}
use Rattle.std.proofs.Common.{sym, ◌∙◌, subst, inl, inr, arith}
use Rattle.std.proofs.Math.Bool.{not}
use Prim.Native.Nat.{ℕ, zero, suc, ◌-◌, ◌≤◌, ◌<◌}
use Rattle.signals.specs.Mask.{◌∪◌, ◌∖◌}
use Rattle.signals.specs.Decide.{sets, A, B, ◌∪ₑ◌, ◌∖ₑ◌, ◌≐◌}
use Rattle.layout.specs.declared.record.Transition.{Transition}
use Rattle.meaning.specs.Numbers.{no_place, many_open}
use Rattle.meaning.specs.Sums.Laws.{any_cong}
use Rattle.meaning.specs.Meaning.{Set, ∅, Chart, Tree, comp, hide, guards, in_face, out_face, outcomes, refused, answer}
use Rattle.meaning.specs.Meaning.{first_places}
use Rattle.meaning.specs.File.{File, by_kind, whole, gather, build, tree_of, whole_of, Has}
use Rattle.meaning.specs.Check.{not_below, rising, in_order_at, slave?, slaves?, node_of_kind?, nodes?, names, named}
use Rattle.meaning.specs.Check.{held}
use Rattle.meaning.specs.Check.{naming?, inside?}
use Rattle.meaning.specs.Open.{open_choices, open_in}
use Rattle.meaning.specs.Calls.{outcomes_in, found_in, many_open?, step_in, all_places, places_found}
use Rattle.meaning.specs.Calls.Laws.{step_by}
use Rattle.clearing.specs.Clearing.{alive, lost, cleared_chart, new_places, clear}
use Rattle.meaning.specs.Laws.Alike.{ConfigsAlike}
use Rattle.meaning.proofs.Laws.Many.{Decided, found_or-many, few_is, is_few}
use Rattle.clearing.proofs.Alive.{alive_twice}
use Rattle.clearing.proofs.Outcomes.{in_cleared, out_cleared, renewed, answer-renewed, first-renewed}
use Rattle.clearing.proofs.Outcomes.{outcomes-cleared, open_fewer}

module _ (F : File) where
  -- ── the trees: no chart's list is in them ──

  build-cleared : (f j : ℕ) → build (clear F) f j ≡ build F f j
  unfolding build
  build-cleared zero j = refl
  build-cleared (suc f) j =
      ap (λ (T : ℕ → Tree). by_kind (F.kind j)
      (whole (F.a j) (gather F.master (λ i. T (F.node i)) (F.a j) F.slaves))
      (comp (T (F.a j)) (T (F.b j)) (F.x j)) (hide (T (F.a j)) (F.x j) (F.y j)))
      (fun_ext (λ i. build-cleared f i))

  pub tree_cleared : (j : ℕ) → tree_of (clear F) j ≡ tree_of F j
  unfolding tree_of
  tree_cleared j = build-cleared (suc j) j

  -- ── steps ──

  -- what is asked of the file: it has edition 1, all its charts are in the whole, no list is so long that 255 is a
  -- place
  pub record Clearable : Type 0 where
    pub one : (c : ℕ) → (F.chart c).stays ≡ false
    pub there : (c : ℕ) → c < F.charts → Has (whole_of F) c ≡ true
    pub few : (c : ℕ) → c < F.charts → length (F.chart c).transitions ≤ no_place

  module _ (h : Clearable) where
    pub outcomes_are : (config : List ℕ) (i : Set)
        → outcomes_in (clear F) config i ≡ map (renewed F.chart) (outcomes_in F config i)
    outcomes_are config i =
        ap (λ t. outcomes (clear F).chart F.state (λ c. get_or config c 0) t i F.charts)
        (tree_cleared (F.nodes - 1))
        ∙ outcomes-cleared F.chart h.one F.state (λ c. get_or config c 0) (whole_of F) i F.charts h.there
        h.few

    -- the same is found
    pub found_is : (config : List ℕ) (i : Set) → found_in (clear F) config i ≡ found_in F config i
    unfolding found_in
    found_is config i = ap answer (outcomes_are config i) ∙ answer-renewed F.chart (outcomes_in F config i)

    -- with the places of the new lists
    pub places_are : (config : List ℕ) (i : Set)
        → places_found (clear F) config i ≡ all_places (new_places F.chart zero (first_places (outcomes_in F config i)))
    unfolding places_found
    places_are config i = ap (λ os. all_places (first_places os)) (outcomes_are config i)
        ∙ ap all_places (first-renewed F.chart (outcomes_in F config i))

    -- and no more choices are open
    pub open_is : (config : List ℕ) → open_in (clear F) config ≤ open_in F config
    open_is config = subst
        (λ t. open_choices (clear F).chart F.state (λ c. get_or config c 0) t F.charts ≤ open_in F config)
        (sym (tree_cleared (F.nodes - 1)))
        (open_fewer F.chart h.one F.state (λ c. get_or config c 0) (whole_of F) 0 F.charts h.there
        h.few)

    pub few_cleared : (config : List ℕ) → many_open? F config ≡ false → many_open? (clear F) config ≡ false
    few_cleared config e =
        let l = is_few F config 0 e in let m = open_is config in few_is (clear F) config 0 (omega arith)

    -- so each step that is not refused with 24 is the same
    pub step_is : (config : List ℕ) (i : Set) → step_in F config i ≢ refused many_open
        → step_in (clear F) config i ≡ step_in F config i
    step_is config i p = go (found_or-many F config i)
      where
        go : Decided F config i → step_in (clear F) config i ≡ step_in F config i
        go (inl q) = absurd (p q.1)
        go (inr q) =
            step_by (clear F) config i false (few_cleared config q.0) ∙ found_is config i ∙ sym q.1

  pub configs_cleared : ConfigsAlike F (clear F)
  unfolding cleared_chart
  configs_cleared = record { charts = refl; states = λ c l. refl; initials = λ c l. refl }

  -- ── interfaces ──

  pub in_is : in_face (clear F).chart (whole_of (clear F)) ≡ in_face F.chart (whole_of F)
  in_is = ap (in_face (clear F).chart) (tree_cleared (F.nodes - 1)) ∙ in_cleared F.chart (whole_of F)

  pub out_in : out_face (clear F).chart (whole_of (clear F)) ∖ out_face F.chart (whole_of F) ≡ ∅
  out_in = ap (λ t. out_face (clear F).chart t ∖ out_face F.chart (whole_of F)) (tree_cleared (F.nodes - 1))
      ∙ out_cleared F.chart (whole_of F)

  -- ── refusals 8 to 11 ──

  pub slaves-cleared : slaves? (clear F) ≡ slaves? F
  unfolding slaves? slave? rising cleared_chart
  slaves-cleared = any_cong F.slaves (slave? (clear F)) (slave? F)
      (λ i l. ap (λ o. not_below (F.master i) F.charts
      || not_below (F.state i) (F.chart (F.master i)).states || not_below (F.node i) F.nodes || not o) (order i))
    where
      order : (i : ℕ) → in_order_at (clear F) i ≡ in_order_at F i
      order zero = refl
      order (suc h) = refl

  pub nodes_cleared : nodes? (clear F) ≡ nodes? F
  unfolding nodes? node_of_kind?
  nodes_cleared = any_cong F.nodes _ _ (λ j l. of_kind_lem (F.kind j) j)
    where
      of_kind_lem : (k j : ℕ) → node_of_kind? (clear F) k j ≡ node_of_kind? F k j
      of_kind_lem zero j = refl
      of_kind_lem (suc zero) j = refl
      of_kind_lem (suc (suc zero)) j = refl
      of_kind_lem (suc (suc (suc k))) j = refl

  pub naming_cleared : naming? (clear F) ≡ naming? F
  unfolding naming? held named names
  naming_cleared = refl

  pub inside-cleared : inside? (clear F) ≡ inside? F
  unfolding inside?
  inside-cleared = any_cong F.slaves _ _
      (λ i l. any_cong F.charts _ _
      (λ c m. ap (λ t. Has t c && not_below (F.master i) c) (tree_cleared (F.node i))))

-- ── cleared twice ──

none-lost : (K : Chart) (l : List Transition) → l ≡ alive K.feedback K.transitions
    → (K.extra ∪ lost K) ∪ (guards (alive K.feedback K.transitions) ∖ guards l) ≡ K.extra ∪ lost K
none-lost K l e = ap (λ z. (K.extra ∪ lost K) ∪ (guards (alive K.feedback K.transitions) ∖ guards z)) e
    ∙ sets ((K.extra ∪ lost K) ∷ guards (alive K.feedback K.transitions) ∷ []) [] (A ∪ₑ B ∖ₑ B ≐ A) tt

pub chart_twice : (K : Chart) → cleared_chart (cleared_chart K) ≡ cleared_chart K
unfolding cleared_chart lost
chart_twice K = λ i. record {
  states = K.states;
  initial = K.initial;
  transitions = alive_twice K.feedback K.transitions i;
  feedback = K.feedback;
  extra = none-lost K (alive K.feedback (alive K.feedback K.transitions))
      (alive_twice K.feedback K.transitions) i;
  stays = K.stays;
}

pub clear_twice : (F : File) → clear (clear F) ≡ clear F
clear_twice F = ap (λ (E : ℕ → Chart). record {
  charts = F.charts;
  chart = E;
  slaves = F.slaves;
  master = F.master;
  state = F.state;
  node = F.node;
  nodes = F.nodes;
  kind = F.kind;
  a = F.a;
  b = F.b;
  x = F.x;
  y = F.y;
}) (fun_ext (λ c. chart_twice (F.chart c)))
