-- The file that is read from the text of an accepted file of edition 1 has the same charts, slaves and tree
-- (`body_same`, `same-charts`).
use Rattle.std.specs.Prelude.{◌≡◌, false, List, ℕ, ◌<◌, ltb}
use Rattle.std.proofs.Common.{sym, ap, ◌∙◌, subst, arith}
use Rattle.std.proofs.Math.Decide.{dec_lt}
use Rattle.layout.specs.Le.{AllBytes}
use Rattle.meaning.specs.Numbers.{first_edition}
use Rattle.meaning.specs.Sums.{one}
use Rattle.meaning.specs.File.{File, trailer, whole_of, shape_of, file_at, file_of}
use Rattle.meaning.specs.Check.{slaves?, refusal_of}
use Rattle.meaning.specs.Check.Laws.{passed, counted}
use Rattle.meaning.specs.Check.Nodes.{Treed, treed}
use Rattle.meaning.specs.Laws.Alike.{accepted_node}
use Rattle.agreement.specs.Calls.{regular}
use Rattle.notation.specs.Syntax.{Chart}
use Rattle.reading.specs.Names.{names?}
use Rattle.reading.specs.Meant.{body_for, trailer_for, file_for}
use Rattle.spelling.specs.Write.{chart_in}
use Rattle.faithful.specs.Laws.Back.{shape_for, file-back}
use Rattle.faithful.proofs.Laws.Theorems.{body_means}
use Rattle.accepted.proofs.Laws.Nodes.{nodes_pass}
use Rattle.accepted.proofs.Laws.Test10.{rule_10, naming_passes}
use Rattle.accepted.specs.Tree.{key_for, key_of}
use Rattle.accepted.specs.Laws.Records.{climbs_all}
use Rattle.accepted.proofs.Laws.Counts.{names_typed, charts_typed, nodes_typed, counts-right}
use Rattle.accepted.proofs.Laws.Charts.{chart-back}
use Rattle.accepted.proofs.Laws.Slaves.{slaves-many, back_sums, back-states, back_climbs, slaves_pass}
use Rattle.roundtrip.specs.Same.{SameCharts}
use Rattle.roundtrip.specs.Laws.Rising.{under, rising-same}
use Rattle.roundtrip.specs.Laws.Proper.{Tidy, tidy, whole_proper, InRange, AnySet}
use Rattle.roundtrip.specs.Laws.Like.{Like, like_same, Twins, means_like}

module _ (f : List ℕ) (bytes : AllBytes f) (ok : refusal_of f ≡ 0) (first : (trailer f).edition ≡ first_edition) where
  abbrev F : File
  F = file_of f

  -- the chart of its text
  abbrev t : Chart
  t = chart_in F

  -- what the body of its file holds
  abbrev G : File
  G = file_at (shape_for t) (body_for t)

  pub is_body : file_of (file_for t) ≡ G
  is_body = file-back t (counted (trailer_for t) (counts-right f bytes ok))

  named : names? t ≡ false
  named = names_typed f bytes ok

  pub slaves-right : slaves? G ≡ false
  slaves-right = slaves_pass f bytes ok first (rule_10 t named)

  pub treed_right : Treed G
  treed_right = treed G slaves-right (nodes_pass t named) (naming_passes t named)

  -- ── charts and nodes ──

  charts : G.charts ≡ F.charts
  unfolding file_at shape_of trailer_for
  charts = charts_typed f bytes ok

  chart : (c : ℕ) → c < F.charts → G.chart c ≡ F.chart c
  unfolding file_at
  chart c l = chart-back f bytes ok first c l

  pub nodes_many : G.nodes ≡ F.nodes
  unfolding file_at shape_of trailer_for
  nodes_many = nodes_typed f bytes ok

  -- ── the tree, but for the numbers of slaves ──

  tidy_first : Tidy F InRange
  tidy_first = tidy f ok InRange (regular f bytes (passed f ok) first).sets

  tidy_second : Tidy G AnySet
  tidy_second =
      record {
        treed = treed_right;
        some = let n = accepted_node f ok in omega (arith, nodes_many, n);
        states = back-states f bytes ok;
        climbs = back_climbs f bytes ok;
        sets = λ j l. (tt, tt);
      }

  alike : Like (Twins F G) (whole_of F) (whole_of G)
  alike =
      means_like F G (whole_of F) (whole_proper F InRange tidy_first) (whole_of G) (whole_proper G AnySet tidy_second)
      (body_means t named treed_right slaves-right)

  -- ── the numbers of slaves ──

  slaves : G.slaves ≡ F.slaves
  slaves = slaves-many f bytes ok

  -- as many records below each number
  as_many : (v : ℕ) → under F.slaves (key_of F) v ≡ under F.slaves (key_of G) v
  as_many v =
      sym (back_sums f bytes ok (λ c q. one (ltb (key_for c q) v))) ∙ ap (λ n. under n (key_of G) v) slaves

  keys : (i : ℕ) → i < F.slaves → key_of F i ≡ key_of G i
  keys =
      rising-same F.slaves (key_of F) (key_of G) tidy_first.climbs
      (λ i l. tidy_second.climbs i (let e = slaves in omega arith)) as_many

  -- a record is known by its key
  same_number : (i j : ℕ) → Twins F G i j → j ≡ i
  same_number i j r = go (dec_lt i j) (dec_lt j i)
    where
      a : i < F.slaves
      a = r.first_below

      b : j < F.slaves
      b = let l = r.second_below in let e = slaves in omega arith

      e : key_of F i ≡ key_of F j
      e = r.same_key ∙ sym (keys j b)

      go : Dec (i < j) → Dec (j < i) → j ≡ i
      go (yes l) d = absurd (let z = climbs_all F.slaves (key_of F) tidy_first.climbs i j l b in omega (arith, e))
      go (no l) (yes m) =
          absurd (let z = climbs_all F.slaves (key_of F) tidy_first.climbs j i m a in omega (arith, e))
      go (no l) (no m) = omega arith

  fields : (i : ℕ) → i < F.slaves → (G.master i ≡ F.master i) × (G.state i ≡ F.state i)
  fields i l =
      let k = keys i l in
      let a = tidy_first.states i l in
      let b = tidy_second.states i (let e = slaves in omega arith) in
      (omega arith, omega arith)

  pub body_same : SameCharts F G
  body_same =
      record {
        charts = charts;
        chart = chart;
        slaves = slaves;
        master = λ i l. (fields i l).0;
        state = λ i l. (fields i l).1;
        tree = like_same (Twins F G) same_number alike;
      }

  pub same-charts : SameCharts F (file_of (file_for t))
  same-charts = subst (SameCharts F) (sym is_body) body_same
