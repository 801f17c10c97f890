-- From each valid configuration and for each input, the same is found in the rewritten file as in the file
-- (`found_is`), with the same transitions but for idle ones (`places_are`, and Taken). So their steps agree, unless one
-- is refused with 24 (`steps-agree`). What is asked of the file is in Ready; its interfaces are in Faces.
use Rattle.std.specs.Prelude.{◌≡◌, refl, true, false, ◌&&◌, List, map}
use Rattle.std.proofs.Math.Path.{sym, ap, ap₂, fun_ext}
use Rattle.std.proofs.Common.{◌∙◌, subst, arith}
use Rattle.std.proofs.Math.Option.{none}
use Prim.Native.Nat.{ℕ, zero, suc, ◌+◌, ◌-◌, ◌^◌, ◌≤◌, ◌<◌}
use Rattle.std.proofs.Math.ListN.{length, get_or}
use Rattle.signals.specs.Mask.{◌∪◌, ◌∩◌, ◌∖◌}
use Rattle.meaning.specs.Meaning.{Set, Chart, Move, Tree, Slaves, leaf, comp, hide, dec, nil, snoc, last_place, in_face}
use Rattle.meaning.specs.Meaning.{ok, permitted, moves, upd, upto, Outcome, outcome, search, outcomes, answer}
use Rattle.meaning.specs.Meaning.{first_places}
use Rattle.meaning.specs.File.{File, tree_of, whole_of, Has}
use Rattle.meaning.specs.Numbers.{no_place, many_open}
use Rattle.meaning.specs.Calls.{outcomes_in, found_in, many_open?, step_in}
use Rattle.meaning.specs.Rewriting.{used, call, chart_with, nearest_slave, rewritten_chart, start, new_name, rewrite}
use Rattle.meaning.specs.Check.Nodes.{Sound}
use Rattle.meaning.proofs.Laws.Runs.{Valid}
use Rattle.meaning.proofs.Laws.Until.{step_until, StepsAgreeUnless}
use Rattle.meaning.specs.Laws.Trees.{above_node, all_there}
use Rattle.meaning.specs.Laws.Names.{enc, kap, placed, joined, enc-last}
use Rattle.agreement.specs.Every.{Every}
use Rattle.agreement.specs.Tree.{calls, tree, nest, touch}
use Rattle.agreement.specs.Fit.{slaves_of, Fit, fit_node, nearest_fit}
use Rattle.agreement.specs.Places.{turned_places, turned, answer-turned, first-turned}
use Rattle.agreement.specs.Outcomes.{same-outcomes}
use Rattle.agreement.specs.Free.{call_inj, old-chart, old-x}
use Rattle.agreement.specs.Renamed.{touch-of, tree_ren}
use Rattle.agreement.specs.Laid.{nodes_r, ordered_r, start_suc}

-- ── a rewritten tree has no slaves, so their states do not matter ──

module _ (sig : ℕ → ℕ) (fb : ℕ → Set) (E : ℕ → Chart) (s₁ s₂ : ℕ → ℕ) (cfg : ℕ → ℕ) (M : ℕ → Move) where
  mutual
    unfolding ok tree

    free-t : (t : Tree) (o : Set) → ok E s₁ cfg M (tree sig fb t) true o ≡ ok E s₂ cfg M (tree sig fb t) true o
    free-t (leaf c) o = refl
    free-t (comp p q x) o = ap₂ ◌&&◌ (free-t p _) (free-t q _)
    free-t (hide p x y) o = free-t p (o ∖ x)
    free-t (dec c ss) o = free-s ss c (fb c ∪ calls sig ss) (o ∖ calls sig ss)

    free-s : (ss : Slaves) (c : ℕ) (x o : Set)
        → ok E s₁ cfg M (nest sig fb ss c x) true o ≡ ok E s₂ cfg M (nest sig fb ss c x) true o
    free-s nil c x o = refl
    free-s (snoc ss i t) c x o = ap₂ ◌&&◌ (free-s ss c x _) (free-t t _)

module _ (E : ℕ → Chart) (s₁ s₂ : ℕ → ℕ) (cfg : ℕ → ℕ) (t : Tree) (inp : Set) (N : ℕ)
    (h : (M : ℕ → Move) → permitted E s₁ cfg M t inp ≡ permitted E s₂ cfg M t inp) where
  free-search : (n c : ℕ) (ch : ℕ → ℕ) → search E s₁ cfg t inp N n c ch ≡ search E s₂ cfg t inp N n c ch
  unfolding search outcome
  free-search zero c ch = rw (h (moves E ch))
  free-search (suc n) c ch = ap (upto (last_place (E c))) (fun_ext (λ v. free-search n (suc c) (upd ch c v)))

-- ── the whole ──

-- what a file is that passes 1 to 11, as far as it counts here
pub record Ready (F : File) : Type 0 where
  pub sound : Sound F
  pub some_node : 1 ≤ F.nodes
  pub some_state : (c : ℕ) → c < F.charts → 0 < (F.chart c).states
  pub ends : (c : ℕ) → c < F.charts → Every (λ t. t.to < (F.chart c).states) (F.chart c).transitions
  -- so few that 255 is no transition's place, with an idle one for each state
  pub few : (c : ℕ) → c < F.charts → length (F.chart c).transitions + (F.chart c).states < no_place
  -- its sets are of 64 signals
  pub small : used F < 2 ^ 64
  -- it has edition 1: no other is rewritten (RULES 9.1)
  pub one : (c : ℕ) → c < F.charts → (F.chart c).stays ≡ false

-- a file that is the rewriting of F as far as it is read
pub record Rewritten (F F' : File) : Type 0 where
  pub charts : F'.charts ≡ F.charts
  pub chart : (c : ℕ) → c < F.charts → F'.chart c ≡ rewritten_chart F c
  pub whole : whole_of F' ≡ whole_of (rewrite F)

pub rewritten : (F : File) → Rewritten F (rewrite F)
rewritten F = record { charts = refl; chart = λ c l. refl; whole = refl }

-- the node by which the last is named is the last of the new file
new-last : (F : File) (last : ℕ) → suc last ≡ F.nodes → suc (new_name F last) ≡ start F F.nodes
unfolding new_name
new-last F last e = let b = start_suc F last in let c = ap (start F) e in omega arith

module _ (F : File) (rd : Ready F) where
  abbrev last : ℕ
  last = F.nodes - 1

  is_last : suc last ≡ F.nodes
  is_last = let h = rd.some_node in omega arith

  abbrev fbs : ℕ → Set
  fbs c = (F.chart c).feedback

  pub fits : Fit (call F) (kap F) (slaves_of F) F.charts (whole_of F) none
  fits = let s = rd.sound in
      subst (λ κ. Fit (call F) (kap F) (slaves_of F) F.charts (whole_of F) κ)
      (enc-last F s.ordered s.rule10 last is_last)
      (fit_node F s.ordered (enc F) (kap F)
      (placed F s.ordered s.rule10 s.chart_there s.node-there) (call F)
      (λ j l e. old-x F rd.small j l)
      F.nodes last (let h = is_last in omega arith) (let h = is_last in omega arith))

  pub has : (c : ℕ) → c < F.charts → Has (whole_of F) c ≡ true
  has c l = let s = rd.sound in
      all_there F s.ordered (joined F s.ordered s.rule10 s.chart_there s.node-there) last c is_last l

  -- the nearest slave, from the whole down, is the nearest from the chart up
  pub nearest_is : (c : ℕ) → c < F.charts → nearest_slave F c ≡ kap F c
  unfolding nearest_slave
  nearest_is c l = nearest_fit (call F) (kap F) (slaves_of F) F.charts c (whole_of F) none fits (has c l)

  module _ (F' : File) (rw' : Rewritten F F') where
    -- the tree of the rewritten file is the rewriting of the tree
    pub whole_is : whole_of F' ≡ tree (call F) (λ c. (F.chart c).feedback) (whole_of F)
    whole_is = rw'.whole ∙ ap (tree_of (rewrite F)) (let h = new-last F last is_last in omega arith)
        ∙ tree_ren F (rewrite F) rd.sound.ordered (ordered_r F rd.sound.ordered) (nodes_r F) F.nodes last
        (let h = is_last in omega arith)
        (let h = is_last in omega arith)

    pub chart_is : (c : ℕ) → c < F.charts
        → F'.chart c ≡ chart_with (call F) (kap F c) (touch (call F) F.state (slaves_of F c)) (F.chart c)
    unfolding rewritten_chart
    chart_is c l = rw'.chart c l
        ∙ ap₂ (λ κ T. chart_with (call F) κ T (F.chart c)) (nearest_is c l) (fun_ext (λ t. sym (touch-of F c t)))

    -- ── the step ──

    -- what an outcome is turned into
    abbrev turn : List ℕ → Outcome → Outcome
    turn config = turned (kap F) (λ c. length (F.chart c).transitions) (λ c. get_or config c 0)

    outcomes_are : (config : List ℕ) → Valid F config → (inp : Set)
        → outcomes_in F' config inp ≡ map (turn config) (outcomes_in F config inp)
    unfolding outcomes permitted
    outcomes_are config v inp = let s = rd.sound in rw (whole_is, rw'.charts)
        (free-search F'.chart F'.state F.state cfg T inp F.charts
        (λ M. free-t (call F) fbs F'.chart F'.state F.state cfg M (whole_of F) (inp ∩ in_face F'.chart T))
        F.charts zero (λ c. zero)
        ∙ same-outcomes (call F) F.state (call_inj F) (kap F) (slaves_of F) F.charts F.chart F'.chart cfg
        (whole_of F) inp chart_is fits
        (above_node F s.ordered s.rule11 F.nodes last (let h = is_last in omega arith)
        (let h = is_last in omega arith)) has
        (old-chart F rd.small rd.one) v.states (λ c l. let h = rd.few c l in omega arith))
      where
        cfg : ℕ → ℕ
        cfg c = get_or config c 0

        T : Tree
        T = tree (call F) (λ c. (F.chart c).feedback) (whole_of F)

    pub found_is : (config : List ℕ) → Valid F config → (inp : Set) → found_in F' config inp ≡ found_in F config inp
    unfolding found_in
    found_is config v inp = ap answer (outcomes_are config v inp)
        ∙ answer-turned (kap F) (λ c. length (F.chart c).transitions) (λ c. get_or config c 0)
        (outcomes_in F config inp)

    -- idle transitions add open choices, so either file may have too many where the other has not
    pub steps-agree : StepsAgreeUnless many_open F F'
    unfolding step_in
    steps-agree config v inp =
        step_until many_open (many_open? F config) (many_open? F' config) (found_in F config inp)
        (found_in F' config inp)
        (found_is config v inp)

    -- ── the places ──

    -- the places of the first permitted choice
    pub places_are : (config : List ℕ) → Valid F config → (inp : Set) → first_places (outcomes_in F' config inp)
        ≡ turned_places (kap F) (λ c. length (F.chart c).transitions)
        (λ c. get_or config c 0) zero (first_places (outcomes_in F config inp))
    places_are config v inp = ap first_places (outcomes_are config v inp)
        ∙ first-turned (kap F) (λ c. length (F.chart c).transitions) (λ c. get_or config c 0) (outcomes_in F config inp)
