-- What is inactive (RULES 5.3), in a step that is given. In this order: what is known of such a step; a chart that is
-- inactive keeps its state and has no place, and one that is active has one (`inactive_stays`, `inactive_place`,
-- `active_place`); a chart is as active as its nearest slave (`outside_active`, `inside_active`); the places say what
-- the whole puts out (`whole_output`), and a part whose charts are inactive puts out nothing (`inactive_output`); in a
-- slave that is inactive every chart is, at any depth, so that the slave stays as it is and puts out nothing
-- (`inactive_inside`, `slave_stays`, `slave_output`).
use Rattle.std.specs.Prelude.{◌≡◌, Bool, false, ◌&&◌, ◌||◌, List, ◌≢◌}
use Rattle.std.proofs.Math.Path.{sym, ap, ap₂, fun_ext}
use Rattle.std.proofs.Common.{◌∙◌, zero-add, arith}
use Rattle.std.proofs.Math.Bool.{true}
use Rattle.std.proofs.Math.Option.{Option, none, some}
use Prim.Native.Nat.{ℕ, zero, suc, ◌-◌, ◌≤◌, ◌<◌}
use Rattle.std.proofs.Math.Decide.{dec_lt}
use Rattle.std.proofs.Math.ListN.{length, get_or, get_or-eq_default}
use Rattle.signals.specs.Mask.{◌∩◌}
use Rattle.layout.specs.Body.{transitions_of}
use Rattle.layout.specs.Body.Laws.{length_from}
use Rattle.meaning.specs.Numbers.{most_in_chart, no_place}
use Rattle.meaning.specs.Meaning.{Set, ∅, same, Move, no_move, nth, pick, action_of, after, in_face, out, ok, meets}
use Rattle.meaning.specs.Meaning.{permitted, moves, place_of, given}
use Rattle.meaning.specs.File.{File, tree_of, whole_of, Has, trailer, body_of, shape_of, chart_of, file_at, file_of}
use Rattle.meaning.specs.Check.Laws.{passed, counted, charted}
use Rattle.meaning.specs.Check.Nodes.{Sound, sound, has-below}
use Rattle.meaning.specs.Calls.{found_in, step_of, places_found, places_of}
use Rattle.meaning.specs.Calls.Laws.{get_or-all, Answered, answered}
use Rattle.meaning.specs.Rewriting.{nearest_slave}
use Rattle.meaning.specs.Active.{active_in, slave_active, put_out}
use Rattle.meaning.proofs.Active.Laws.{some?, some_none, ok_active, slave-part, By, near, out_cong, out_none}
use Rattle.meaning.proofs.Active.Laws.{place-action, place_some}
use Rattle.meaning.proofs.Laws.Choices.{length-nexts, get_or-nexts, get_or_places}
use Rattle.meaning.specs.Laws.Trees.{Joined, all_there}
use Rattle.meaning.specs.Laws.Names.{joined}
use Rattle.meaning.specs.Words.{Given}
use Rattle.meaning.proofs.Laws.Demand2.{given-first, inactive}

-- a step that is given
module _ (f config : List ℕ) (i : Set) (room : ℕ) (o : Set) (n : List ℕ) (m : Bool)
    (e : step_of f config i room ≡ given o n m) where
  abbrev F : File
  F = file_of f

  abbrev cfg : ℕ → ℕ
  cfg c = get_or config c 0

  -- ── what is known of it ──

  known : Answered f config i room o n m
  known = answered f config i room o n m e

  right : Sound F
  right = let p = passed f known.accepted in sound F p.slaves p.nodes p.naming p.inside

  some_node : 0 < F.nodes
  unfolding file_of file_at shape_of
  some_node = (counted (trailer f) (passed f known.accepted).counts).some_node

  few : (c : ℕ) → c < F.charts → length (F.chart c).transitions ≤ most_in_chart
  unfolding file_of file_at chart_of shape_of transitions_of
  few c l =
      rw length_from (charted (shape_of (trailer f)) (body_of f) (passed f known.accepted).charts c l).transitions

  -- the last node is there
  last : suc (F.nodes - 1) ≡ F.nodes
  last = let z = some_node in omega arith

  joins : Joined F
  joins = let s = right in joined F s.ordered s.rule10 s.chart_there s.node-there

  there : (c : ℕ) → c < F.charts → Has (whole_of F) c ≡ true
  there c l = all_there F right.ordered joins (F.nodes - 1) c last l

  by : Given F.chart F.state cfg (whole_of F) i F.charts o n
  unfolding found_in
  by = given-first F.chart F.state cfg (whole_of F) i F.charts o n m known.found_is

  -- its moves
  abbrev M : ℕ → Move
  M c = pick (F.chart c) (by.choice c)

  keeps_rules : ok F.chart F.state cfg M (whole_of F) true (i ∩ in_face F.chart (whole_of F)) ≡ true
  unfolding permitted moves
  keeps_rules = by.permits

  next_is : (c : ℕ) → get_or n c 0 ≡ after (cfg c) (M c)
  unfolding moves pick after
  next_is c = go (dec_lt c F.charts)
    where
      go : Dec (c < F.charts) → get_or n c 0 ≡ after (cfg c) (M c)
      go (yes l) =
          ap (λ k. get_or k c 0) by.next ∙ get_or-nexts cfg (moves F.chart by.choice) zero F.charts c l
          ∙ ap (λ d. after (cfg d) (M d)) (zero-add c)
      go (no l) =
          let a : length n ≡ F.charts =
          ap length by.next ∙ length-nexts cfg (moves F.chart by.choice) zero F.charts in
          let b = known.valid.long in
          get_or-eq_default n 0 {n = c} (omega arith) ∙ sym (get_or-eq_default config 0 {n = c} (omega arith))
          ∙ ap (λ v. after (cfg c) (pick (F.chart c) v)) (sym (by.chosen.others c (omega arith)))

  place_is : (c : ℕ) → c < F.charts → get_or (places_of f config i room) c no_place ≡ place_of (M c) (by.choice c)
  unfolding places_found
  place_is c l =
      rw (known.places_are, get_or-all, by.places, get_or_places F.chart by.choice zero F.charts c l, zero-add)

  -- a chart moves exactly if it is active
  moves_is : (c : ℕ) → c < F.charts → some? (M c) ≡ active_in F config n c
  unfolding active_in
  moves_is c l =
      rw (fun_ext next_is) (ok_active F.chart F.state cfg M (whole_of F) true _ c (there c l) keeps_rules)

  -- ── charts ──

  module _ (c : ℕ) (l : c < F.charts) where
    -- inactive, it keeps its state, and no transition is named for it
    none-taken : active_in F config n c ≡ false → M c ≡ no_move
    none-taken h = some_none (M c) (moves_is c l ∙ h)

    pub inactive_stays : active_in F config n c ≡ false → get_or n c 0 ≡ get_or config c 0
    unfolding after
    inactive_stays h = next_is c ∙ ap (after (cfg c)) (none-taken h)

    pub inactive_place : active_in F config n c ≡ false → get_or (places_of f config i room) c no_place ≡ no_place
    unfolding place_of
    inactive_place h = place_is c l ∙ ap (λ k. place_of k (by.choice c)) (none-taken h)

    -- active, it takes a transition or stays
    pub active_place : active_in F config n c ≡ true → get_or (places_of f config i room) c no_place ≢ no_place
    active_place h q = place_some (F.chart c) (few c l) (by.choice c) (moves_is c l ∙ h) (sym (place_is c l) ∙ q)

  -- ── slaves ──

  -- a slave is active by its master's move
  woken : (s : ℕ) → s < F.slaves
      → (some? (M (F.master s)) && meets (cfg (F.master s)) (M (F.master s)) (F.state s)) ≡ slave_active F config n s
  unfolding slave_active meets
  woken s l =
      ap₂ (λ a q. a && (same (cfg (F.master s)) (F.state s) || same q (F.state s)))
      (moves_is (F.master s) (right.node-there s l).1) (sym (next_is (F.master s)))

  -- a chart is as active as the nearest slave around it; outside all slaves it is active
  module _ (c : ℕ) (l : c < F.charts) where
    nearest : (κ : Option ℕ) → nearest_slave F c ≡ κ → By F right.ordered cfg M c κ
    unfolding nearest_slave
    nearest κ q =
        rw q at (near F right.ordered cfg M c (F.nodes - 1) (omega (arith, last)) _ keeps_rules (there c l))

    pub outside_active : nearest_slave F c ≡ none → active_in F config n c ≡ true
    outside_active q = sym (moves_is c l) ∙ (nearest none q).0

    pub inside_active : (s : ℕ) → nearest_slave F c ≡ some s → active_in F config n c ≡ slave_active F config n s
    inside_active s q = let u = nearest (some s) q in sym (moves_is c l) ∙ u.0 ∙ woken s u.1

  -- the charts of a part are the file's
  below : (j c : ℕ) → j < F.nodes → Has (tree_of F j) c ≡ true → c < F.charts
  below j c l h =
      let s = right in
      has-below F (record { ordered = s.ordered; chart_there = s.chart_there; node-there = s.node-there }) j c l h

  -- what a node's part puts out, by the places
  put_out_lem : (j : ℕ) → j < F.nodes → put_out F (places_of f config i room) (tree_of F j) ≡ out M (tree_of F j)
  unfolding put_out
  put_out_lem j l =
      out_cong _ M (tree_of F j) (λ c h. let b = below j c l h in
      ap (λ p. action_of (nth no_move (F.chart c).transitions p)) (place_is c b)
      ∙ place-action (F.chart c) (few c b) (by.choice c))

  pub whole_output : put_out F (places_of f config i room) (whole_of F) ≡ o
  unfolding moves
  whole_output = put_out_lem (F.nodes - 1) (omega (arith, last)) ∙ sym by.output

  -- a part whose charts are inactive puts out nothing
  pub inactive_output : (j : ℕ) → j < F.nodes → ((c : ℕ) → Has (tree_of F j) c ≡ true → active_in F config n c ≡ false)
      → put_out F (places_of f config i room) (tree_of F j) ≡ ∅
  inactive_output j l h = put_out_lem j l ∙ out_none M (tree_of F j) (λ c k. none-taken c (below j c l k) (h c k))

  -- a slave that is inactive
  module _ (s : ℕ) (l : s < F.slaves) (h : slave_active F config n s ≡ false) where
    node : F.node s < F.nodes
    node = (right.node-there s l).0

    -- each chart in it is inactive, at any depth
    pub inactive_inside : (c : ℕ) → Has (tree_of F (F.node s)) c ≡ true → active_in F config n c ≡ false
    unfolding some?
    inactive_inside c k =
        let p = slave-part F right.ordered joins cfg M (F.nodes - 1) last (_, keeps_rules) s l in
        let q = rw (woken s l ∙ h) at p.1 in
        sym (moves_is c (below (F.node s) c node k))
        ∙ ap some? (inactive F.chart F.state cfg M (tree_of F (F.node s)) p.0 q c k)

    -- so it keeps its state and has no place, and the slave puts out nothing
    pub slave_stays : (c : ℕ) → Has (tree_of F (F.node s)) c ≡ true
        → (get_or n c 0 ≡ get_or config c 0) × (get_or (places_of f config i room) c no_place ≡ no_place)
    slave_stays c k =
        let b = below (F.node s) c node k in
        (inactive_stays c b (inactive_inside c k), inactive_place c b (inactive_inside c k))

    pub slave_output : put_out F (places_of f config i room) (tree_of F (F.node s)) ≡ ∅
    slave_output = inactive_output (F.node s) node inactive_inside
