-- A file without slaves rewrites to itself: record by record, so byte by byte.
use Rattle.std.specs.Prelude.{◌≡◌, ◌&&◌, ◌||◌}
use Rattle.std.proofs.Math.Path.{refl, sym, ap, ap₂}
use Rattle.std.proofs.Common.{◌∙◌, true≢false}
use Rattle.std.proofs.Math.Bool.{false, cond}
use Rattle.std.proofs.Math.Option.{Option, none, some}
use mathlib.Core.List.{List, [], ◌∷◌, ◌++◌, map, append-nil}
use Prim.Native.Nat.{ℕ, zero, suc, ◌<◌}
use native.Mathlib.Omega.{arith}
use Rattle.std.proofs.Math.ListN.{length}
use Rattle.signals.specs.Mask.{◌∪◌, single}
use Rattle.signals.specs.Decide.{sets, A, ∅ₑ, ◌∪ₑ◌, ◌≐◌}
use Rattle.layout.specs.Body.{size_of}
use Rattle.layout.specs.Record.{trailer_bytes, head_bytes, slave_bytes, node_bytes}
use Rattle.layout.specs.declared.record.Transition.{Transition}
use Rattle.meaning.specs.Numbers.{first_edition}
use Rattle.meaning.specs.Sums.{tally}
use Rattle.meaning.specs.Sums.Laws.{or_left, or_right, any-never, tally_cong}
use Rattle.meaning.specs.Meaning.{Set, ∅}
use Rattle.meaning.specs.File.{File}
use Rattle.meaning.specs.Check.{node_of_kind?, nodes?, not_below, differ}
use Rattle.meaning.specs.Rewriting.{union_up_to, call, call_in, called, idles, chart_with, nearest_slave, is_of}
use Rattle.meaning.specs.Rewriting.{touches}
use Rattle.meaning.specs.Rewriting.{calls_by, rewritten_chart, count, before, start, new_name, new_node, rewrite}
use Rattle.meaning.specs.Rewriting.{in_turn}
use Rattle.meaning.specs.Rewriting.{head_for, transitions_bytes, transitions_in, shape_in, body_bytes, encode}
use Rattle.meaning.specs.Laws.Names.{kap}
use Rattle.agreement.specs.Encoded.{slave_in, node_in}
use Rattle.agreement.specs.Laid.{comp_node, hide_node, base_node}
use Rattle.agreement.specs.New.{kap-below}
use Rattle.meaning.specs.Check.Laws.{alike}
use Rattle.agreement.specs.Recovered.{Reads}
use Rattle.agreement.specs.Step.{Ready, nearest_is}

module _ (F : File) (rd : Ready F) (none_there : F.slaves ≡ 0) where
  -- ── charts ──

  no_nearest : (c : ℕ) → c < F.charts → nearest_slave F c ≡ none
  no_nearest c l = nearest_is F rd c l ∙ go (kap F c) refl
    where
      go : (κ : Option ℕ) → kap F c ≡ κ → κ ≡ none
      go none e = refl
      go (some i) e = absurd (let h = kap-below F c i e in omega arith)

  no_calls : (c : ℕ) (t : Transition) → calls_by F c t ≡ ∅
  unfolding calls_by union_up_to
  no_calls c t = ap (λ n. union_up_to n (λ i. cond (is_of F c i && touches F t i) (single (call F i)) ∅)) none_there

  stays : (sig : ℕ → ℕ) (T : Transition → Set) → ((t : Transition) → T t ≡ ∅) → (ts : List Transition)
      → map (called sig none T) ts ≡ ts
  unfolding called call_in
  stays sig T h [] = refl
  stays sig T h (t ∷ ts) = ap₂ ◌∷◌
      (ap₂ (λ n a. record { from = t.from; to = t.to; needed = n; barred = t.barred; action = a })
      (sets (t.needed ∷ []) [] (A ∪ₑ ∅ₑ ≐ A) tt)
      (ap (λ z. t.action ∪ z) (h t) ∙ sets (t.action ∷ []) [] (A ∪ₑ ∅ₑ ≐ A) tt))
      (stays sig T h ts)

  chart_stays : (c : ℕ) → c < F.charts → rewritten_chart F c ≡ F.chart c
  unfolding rewritten_chart chart_with idles
  chart_stays c l = ap (λ κ. chart_with (call F) κ (calls_by F c) (F.chart c)) (no_nearest c l)
      ∙ ap (λ ts. record {
        states = (F.chart c).states;
        initial = (F.chart c).initial;
        transitions = ts;
        feedback = (F.chart c).feedback;
        extra = (F.chart c).extra;
        stays = (F.chart c).stays;
      })
      (append-nil (map (called (call F) none (calls_by F c)) (F.chart c).transitions)
      ∙ stays (call F) (calls_by F c) (no_calls c) (F.chart c).transitions)

  -- ── nodes ──

  no_count : (c : ℕ) → count F c F.slaves ≡ 0
  unfolding tally
  no_count c = ap (count F c) none_there

  alone : (k : ℕ) → before F k 0 ≡ 0
  alone zero = refl
  alone (suc k) = refl

  start_stays : (j : ℕ) → start F j ≡ j
  unfolding start
  start_stays zero = refl
  start_stays (suc j) = let a = start_stays j in
      let b : before F (F.kind j) (count F (F.a j) F.slaves) ≡ 0 =
      ap (before F (F.kind j)) (no_count (F.a j)) ∙ alone (F.kind j) in
      omega arith

  name_stays : (j : ℕ) → new_name F j ≡ j
  unfolding new_name
  name_stays j = let a = start_stays j in
      let b : before F (F.kind j) (count F (F.a j) F.slaves) ≡ 0 =
      ap (before F (F.kind j)) (no_count (F.a j)) ∙ alone (F.kind j) in
      omega arith

  node_stays : nodes? F ≡ false → (j : ℕ) → j < F.nodes → new_node F j ≡ node_in F j
  unfolding nodes? node_of_kind?
  node_stays h j l = go (F.kind j) refl (any-never F.nodes (λ j. node_of_kind? F (F.kind j) j) h j l)
    where
      go : (k : ℕ) → F.kind j ≡ k → node_of_kind? F k j ≡ false → new_node F j ≡ node_in F j
      go zero e q =
          let q1 =
          or_left ((not_below (F.a j) F.charts || differ (F.b j) 0) || differ (F.x j) 0) (differ (F.y j) 0) q in
          let q2 = or_left (not_below (F.a j) F.charts || differ (F.b j) 0) (differ (F.x j) 0) q1 in
          let b0 = alike (F.b j) 0 (or_right (not_below (F.a j) F.charts) (differ (F.b j) 0) q2) in
          let x0 =
          alike (F.x j) 0 (or_right (not_below (F.a j) F.charts || differ (F.b j) 0) (differ (F.x j) 0) q1) in
          let y0 = alike (F.y j) 0 (or_right ((not_below (F.a j) F.charts || differ (F.b j) 0)
          || differ (F.x j) 0) (differ (F.y j) 0) q) in
          ap (new_node F) (sym (start_stays j)) ∙ base_node F j l e
          ∙ (λ i. record { kind = sym e i; a = F.a j; b = sym b0 i; x = sym x0 i; y = sym y0 i })
      go (suc zero) e q =
          let y0 = alike (F.y j) 0 (or_right (not_below (F.a j) j || not_below (F.b j) j) (differ (F.y j) 0) q) in
          ap (new_node F) (sym (name_stays j)) ∙ comp_node F j l e
          ∙ (λ i.
          record { kind = sym e i; a = name_stays (F.a j) i; b = name_stays (F.b j) i; x = F.x j; y = sym y0 i })
      go (suc (suc zero)) e q =
          let b0 = alike (F.b j) 0 (or_right (not_below (F.a j) j) (differ (F.b j) 0) q) in
          ap (new_node F) (sym (name_stays j)) ∙ hide_node F j l e
          ∙ (λ i. record { kind = sym e i; a = name_stays (F.a j) i; b = sym b0 i; x = F.x j; y = F.y j })
      go (suc (suc (suc k))) e q = absurd (true≢false q)

  -- ── the file ──

  pub reads_same : nodes? F ≡ false → Reads F (rewrite F)
  reads_same h = record {
    charts = refl;
    chart = chart_stays;
    slaves = sym none_there;
    slave = λ i l. absurd (omega arith);
    nodes = start_stays F.nodes;
    node = node_stays h;
  }

-- ── bytes ──

turn-same : (n : ℕ) (f g : ℕ → List ℕ) → ((i : ℕ) → i < n → f i ≡ g i) → in_turn n f ≡ in_turn n g
unfolding in_turn
turn-same zero f g h = refl
turn-same (suc n) f g h = ap₂ ◌++◌ (turn-same n f g (λ i l. h i (omega arith))) (h n (omega arith))

-- files that agree on what is read have the same bytes
module _ (F G : File) (r : Reads F G) where
  total-same : transitions_in G ≡ transitions_in F
  unfolding transitions_in
  total-same = ap (λ n. tally n (λ c. length (G.chart c).transitions)) r.charts
      ∙ tally_cong F.charts _ _ (λ c l. ap (λ C. length C.transitions) (r.chart c l))

  shape_same : shape_in G ≡ shape_in F
  unfolding shape_in
  shape_same = λ i. record {
    charts = r.charts i;
    transitions = total-same i;
    slaves = r.slaves i;
    nodes = r.nodes i;
    edition = first_edition;
  }

  body_same : body_bytes G ≡ body_bytes F
  unfolding body_bytes
  body_same = ap₂ ◌++◌ (ap₂ ◌++◌ (ap₂ ◌++◌
      (ap (λ n. in_turn n (λ c. head_bytes (head_for (G.chart c)))) r.charts
      ∙ turn-same F.charts _ _ (λ c l. ap (λ C. head_bytes (head_for C)) (r.chart c l)))
      (ap (λ n. in_turn n (λ c. transitions_bytes (G.chart c).transitions)) r.charts
      ∙ turn-same F.charts _ _ (λ c l. ap (λ C. transitions_bytes C.transitions) (r.chart c l))))
      (ap (λ n. in_turn n (λ i. slave_bytes (slave_in G i))) r.slaves
      ∙ turn-same F.slaves _ _ (λ i l. ap slave_bytes (r.slave i l))))
      (ap (λ n. in_turn n (λ j. node_bytes (node_in G j))) r.nodes
      ∙ turn-same F.nodes _ _ (λ j l. ap node_bytes (r.node j l)))

  pub encode_same : encode G ≡ encode F
  unfolding encode shape_in
  encode_same = ap₂ (λ s b. b ++ trailer_bytes (record {
    distance = size_of s;
    charts = s.charts;
    slaves = s.slaves;
    nodes = s.nodes;
    edition = first_edition;
    transitions = s.transitions;
  })) shape_same body_same

-- a file without slaves rewrites to itself
pub slaveless_same : (F : File) → Ready F → nodes? F ≡ false → F.slaves ≡ 0 → encode (rewrite F) ≡ encode F
slaveless_same F rd h e = encode_same F (rewrite F) (reads_same F rd e h)
