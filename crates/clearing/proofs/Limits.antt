-- The limits of the rewriting, over records: for a file that is read as the cleared one, no limit is met that the file
-- does not meet. In this order: the signals that a file uses; the lists of a rewritten chart; two lists of tests, of
-- which the second applies less; each limit; each test, and all of them (`later`).
use Rattle.std.specs.Prelude.{◌≡◌, Bool, true, false, cond, ◌≢◌, ltb}
use Rattle.std.proofs.Math.Path.{refl, ap, ap₂, subst}
use Rattle.std.proofs.Common.{sym, ◌∙◌, true≢false, length-append}
use mathlib.Core.List.{List, [], ◌∷◌, ◌++◌, map}
use Rattle.std.proofs.Math.Option.{Option, none, some}
use Prim.Native.Nat.{ℕ, zero, suc, ◌+◌, ◌-◌, ◌≤◌, ◌<◌}
use native.Mathlib.Omega.{arith}
use borrow.Author.Tests.{ltb-false, le-ltb}
use Rattle.std.proofs.Math.Dec.{lit<}
use Rattle.std.proofs.Math.ListN.{length}
use Rattle.signals.specs.Mask.{◌∪◌, bit, Within}
use Rattle.signals.specs.Mask.Laws.{within-at}
use Rattle.signals.specs.Decide.{sets, A, B, C, D, E, F as F₆, ∅ₑ, ◌∪ₑ◌, ◌∖ₑ◌, ◌⊑◌}
use Rattle.layout.specs.declared.record.Transition.{Transition}
use Rattle.meaning.specs.Numbers.{most_signals, most_from_state, most_in_chart, most_nodes, many_nodes}
use Rattle.meaning.specs.Sums.{tally, one}
use Rattle.meaning.specs.Sums.Laws.{any-never, any-all, tally_cong, tally-le}
use Rattle.meaning.specs.Meaning.{Set, same, Chart, guards, actions}
use Rattle.meaning.specs.File.{File, tree_of}
use Rattle.meaning.specs.Check.{Test, first_of}
use Rattle.meaning.specs.Check.Laws.{first_of_here, first_of-next, first_of_[]}
use Rattle.meaning.specs.Laws.Trees.{Ordered}
use Rattle.meaning.proofs.Rewriting.Laws.{list_most}
use Rattle.meaning.specs.Rewriting.{union_up_to, lacking, used, free, call, calls_by, called, idle, idles, chart_with}
use Rattle.meaning.specs.Rewriting.{nearest_in, nearest_slave, rewritten_chart, before, count, start, rewrite}
use Rattle.meaning.specs.Rewriting.{leaving_in}
use Rattle.meaning.specs.Rewriting.{no_free?, from_state?, in_chart?, rewrite_tests, transitions_in, shape_in}
use Rattle.meaning.specs.Rewriting.{encode}
use Rattle.agreement.specs.Charts.{places, places_none}
use Rattle.agreement.specs.Encoded.{length-encode}
use Rattle.agreement.specs.Recovered.{Reads, tree_same}
use Rattle.clearing.specs.Clearing.{alive, lost, cleared_chart, clear}
use Rattle.clearing.proofs.Alive.{alive_most, guards-alive, actions-alive}
use Rattle.clearing.proofs.Result.{tree_cleared}
use Rattle.clearing.proofs.New.{leaving-alive}

-- ── the signals that a file uses ──

union_within : (n : ℕ) (f g : ℕ → Set) → ((i : ℕ) → i < n → Within (g i) (f i))
    → Within (union_up_to n g) (union_up_to n f)
unfolding union_up_to
union_within zero f g h = sets [] [] (∅ₑ ⊑ ∅ₑ) tt
union_within (suc n) f g h =
    sets (union_up_to n f ∷ union_up_to n g ∷ f n ∷ g n ∷ []) (B ⊑ A ∷ D ⊑ C ∷ []) (B ∪ₑ D ⊑ A ∪ₑ C) tt
    (union_within n f g (λ i l. h i (omega arith))) (h n (omega arith))

-- all signals that the sets of a chart have
abbrev used_in : Chart → Set
used_in K = guards K.transitions ∪ actions K.transitions ∪ K.feedback ∪ K.extra

chart-within : (K : Chart) → Within (used_in (cleared_chart K)) (used_in K)
unfolding cleared_chart lost
chart-within K =
    sets
    (guards K.transitions
    ∷ guards (alive K.feedback K.transitions)
    ∷ actions K.transitions
    ∷ actions (alive K.feedback K.transitions)
    ∷ K.feedback
    ∷ K.extra
    ∷ [])
    (B ⊑ A ∷ D ⊑ C ∷ []) (B ∪ₑ D ∪ₑ E ∪ₑ (F₆ ∪ₑ A ∖ₑ B) ⊑ A ∪ₑ C ∪ₑ E ∪ₑ F₆) tt
    (guards-alive K.feedback K.transitions) (actions-alive K.feedback K.transitions)

lacking-more : (s s' : Set) → Within s' s → (n : ℕ) → length (lacking s n) ≤ length (lacking s' n)
unfolding lacking
lacking-more s s' w zero = omega arith
lacking-more s s' w (suc n) = go (bit s n) (bit s' n) refl refl (lacking-more s s' w n)
  where
    go : (b b' : Bool) → bit s n ≡ b → bit s' n ≡ b' → length (lacking s n) ≤ length (lacking s' n)
        → length (cond b (lacking s n) (lacking s n ++ (n ∷ []))) ≤ length
        (cond b' (lacking s' n) (lacking s' n ++ (n ∷ [])))
    go true true e e' h = h
    go true false e e' h = let l = length-append (lacking s' n) (n ∷ []) in omega arith
    go false true e e' h = absurd (true≢false (sym (within-at s' s w n e') ∙ e))
    go false false e e' h =
        let l = length-append (lacking s' n) (n ∷ []) in
        let k = length-append (lacking s n) (n ∷ []) in
        omega arith

-- ── the lists of a rewritten chart: how long they are does not depend on the call signals ──

leaving-append : (xs ys : List Transition) (s : ℕ) → leaving_in (xs ++ ys) s ≡ leaving_in xs s + leaving_in ys s
unfolding leaving_in
leaving-append [] ys s = omega arith
leaving-append (x ∷ xs) ys s = omega (arith, leaving-append xs ys s)

leaving-called : (sig : ℕ → ℕ) (κ : Option ℕ) (add : Transition → Set) (ts : List Transition) (s : ℕ)
    → leaving_in (map (called sig κ add) ts) s ≡ leaving_in ts s
unfolding leaving_in called
leaving-called sig κ add [] s = refl
leaving-called sig κ add (t ∷ ts) s = ap (λ k. one (same t.from s) + k) (leaving-called sig κ add ts s)

leaving-idles : (sig sig' : ℕ → ℕ) (κ : Option ℕ) (b n s : ℕ)
    → leaving_in (idles sig κ b n) s ≡ leaving_in (idles sig' κ b n) s
unfolding leaving_in idles idle
leaving-idles sig sig' none b n s = refl
leaving-idles sig sig' (some i) b zero s = refl
leaving-idles sig sig' (some i) b (suc n) s =
    ap (λ k. one (same b s) + k) (leaving-idles sig sig' (some i) (suc b) n s)

leaving-with : (sig : ℕ → ℕ) (κ : Option ℕ) (add : Transition → Set) (K : Chart) (s : ℕ)
    → leaving_in (chart_with sig κ add K).transitions s
    ≡ leaving_in K.transitions s + leaving_in (idles sig κ zero K.states) s
unfolding chart_with
leaving-with sig κ add K s = leaving-append (map (called sig κ add) K.transitions) (idles sig κ zero K.states) s
    ∙ ap (λ k. k + leaving_in (idles sig κ zero K.states) s) (leaving-called sig κ add K.transitions s)

module _ (sig sig' : ℕ → ℕ) (add add' : Transition → Set) (K : Chart) where
  leaving_less : (κ : Option ℕ) (s : ℕ) → leaving_in (chart_with sig' κ add' (cleared_chart K)).transitions s
      ≤ leaving_in (chart_with sig κ add K).transitions s
  unfolding cleared_chart
  leaving_less κ s =
      let a = leaving-alive K.feedback K.transitions s in
      let p = leaving-with sig' κ add' (cleared_chart K) s in
      let q = leaving-with sig κ add K s in
      let i = leaving-idles sig' sig κ zero K.states s in
      omega arith

  length_less : (κ : Option ℕ) → length (chart_with sig' κ add' (cleared_chart K)).transitions
      ≤ length (chart_with sig κ add K).transitions
  unfolding cleared_chart
  length_less none = let a = alive_most K.feedback K.transitions in
      let p = places_none sig' add' (cleared_chart K) in let q = places_none sig add K in omega arith
  length_less (some i) = let a = alive_most K.feedback K.transitions in
      let p = places sig' i add' (cleared_chart K) in let q = places sig i add K in omega arith

-- ── two lists of tests ──

-- with the same numbers, which rise from above k; a test of the second applies only where that of the first does
abbrev pub Fewer : ℕ → List Test → List Test → Type 0
Fewer k [] [] = Unit
Fewer k [] (u ∷ us) = ⊥
Fewer k (t ∷ ts) [] = ⊥
Fewer k (t ∷ ts) (u ∷ us) =
    (u.number ≡ t.number) × (k < t.number) × (t.applies ≡ false → u.applies ≡ false) × Fewer t.number ts us

first_later : (k : ℕ) (ts us : List Test) → Fewer k ts us → first_of us ≢ 0
    → (k < first_of ts) × (first_of ts ≤ first_of us)
first_later k [] [] h n = absurd (n first_of_[])
first_later k [] (u ∷ us) h n = absurd h
first_later k (t ∷ ts) [] h n = absurd h
first_later k (t ∷ ts) (u ∷ us) h n = go t.applies u.applies refl refl (first_later t.number ts us h.3)
  where
    go : (b b' : Bool) → t.applies ≡ b → u.applies ≡ b'
        → (first_of us ≢ 0 → (t.number < first_of ts) × (first_of ts ≤ first_of us))
        → (k < first_of (t ∷ ts)) × (first_of (t ∷ ts) ≤ first_of (u ∷ us))
    go true true p q later = let a = first_of_here t ts p in let c = first_of_here u us q in let e = h.0 in
        let l = h.1 in (omega arith, omega arith)
    go true false p q later = let a = first_of_here t ts p in let c = first_of-next u us q in
        let i = later (λ z. n (c ∙ z)) in let l = h.1 in (omega arith, omega arith)
    go false true p q later = absurd (true≢false (sym q ∙ h.2 p))
    go false false p q later = let a = first_of-next t ts p in let c = first_of-next u us q in
        let i = later (λ z. n (c ∙ z)) in let l = h.1 in (omega arith, omega arith)

-- ── over records: G is read as the cleared file of F ──

module _ (F G : File) (r : Reads (clear F) G) (w : Ordered (clear F)) (there : 0 < F.nodes) where
  -- 40
  used-within : Within (used G) (used F)
  unfolding used
  used-within = sets (cs ∷ cs' ∷ ns ∷ ns' ∷ []) (B ⊑ A ∷ D ⊑ C ∷ []) (B ∪ₑ D ⊑ A ∪ₑ C) tt
      (subst (λ n. Within (union_up_to n (λ c. used_in (G.chart c))) cs) (sym r.charts)
      (union_within F.charts _ _ (λ c l. subst (λ K. Within (used_in K) (used_in (F.chart c))) (sym (r.chart c l))
      (chart-within (F.chart c)))))
      (subst (λ n. Within (union_up_to n (λ j. G.x j ∪ G.y j)) ns) (sym r.nodes)
      (union_within F.nodes _ _ (λ j l. subst (λ d. Within (d.x ∪ d.y) (F.x j ∪ F.y j)) (sym (r.node j l))
      (sets (F.x j ∪ F.y j ∷ []) [] (A ⊑ A) tt))))
    where
      cs : Set
      cs = union_up_to F.charts (λ c. used_in (F.chart c))

      cs' : Set
      cs' = union_up_to G.charts (λ c. used_in (G.chart c))

      ns : Set
      ns = union_up_to F.nodes (λ j. F.x j ∪ F.y j)

      ns' : Set
      ns' = union_up_to G.nodes (λ j. G.x j ∪ G.y j)

  pub free_more : length (free F) ≤ length (free G)
  unfolding free
  free_more = lacking-more (used F) (used G) used-within most_signals

  -- 41 and 42
  nearest-same : (c : ℕ) → nearest_slave G c ≡ nearest_slave F c
  unfolding nearest_slave
  nearest-same c = ap (λ n. nearest_in (tree_of G (n - 1)) none c) r.nodes
      ∙ ap (λ t. nearest_in t none c)
      (tree_same (clear F) G r w (F.nodes - 1) (omega arith) ∙ tree_cleared F (F.nodes - 1))

  new_is : (c : ℕ) → c < F.charts
      → rewritten_chart G c ≡ chart_with (call G) (nearest_slave F c) (calls_by G c) (cleared_chart (F.chart c))
  unfolding rewritten_chart
  new_is c l = ap₂ (λ κ K. chart_with (call G) κ (calls_by G c) K) (nearest-same c) (r.chart c l)

  pub leaving_fewer : (c s : ℕ) → c < F.charts
      → leaving_in (rewritten_chart G c).transitions s ≤ leaving_in (rewritten_chart F c).transitions s
  leaving_fewer c s l = rw (new_is c l) (unfold rewritten_chart in
      leaving_less (call F) (call G) (calls_by F c) (calls_by G c) (F.chart c) (nearest_slave F c) s)

  pub list_shorter : (c : ℕ) → c < F.charts
      → length (rewritten_chart G c).transitions ≤ length (rewritten_chart F c).transitions
  list_shorter c l = rw (new_is c l) (unfold rewritten_chart in
      length_less (call F) (call G) (calls_by F c) (calls_by G c) (F.chart c) (nearest_slave F c))

  states-same : (c : ℕ) → c < F.charts → (rewritten_chart G c).states ≡ (rewritten_chart F c).states
  unfolding rewritten_chart chart_with cleared_chart
  states-same c l = ap (λ K. K.states) (r.chart c l)

  -- 44
  count_same : (c : ℕ) → count G c G.slaves ≡ count F c F.slaves
  count_same c = ap (count G c) r.slaves
      ∙ tally_cong F.slaves _ _ (λ i l. ap (λ s. one (same s.chart c)) (r.slave i l))

  start-same : (j : ℕ) → j ≤ F.nodes → start G j ≡ start F j
  unfolding start
  start-same zero l = refl
  start-same (suc j) l = ap₂ (λ m k. m + suc k) (start-same j (omega arith))
      (ap (λ d. before G d.kind (count G d.a G.slaves)) (r.node j (omega arith))
      ∙ ap (before F (F.kind j)) (count_same (F.a j)))

  pub nodes_same : (rewrite G).nodes ≡ (rewrite F).nodes
  nodes_same = ap (start G) r.nodes ∙ start-same F.nodes (omega arith)

  -- 45
  total_fewer : transitions_in (rewrite G) ≤ transitions_in (rewrite F)
  unfolding transitions_in
  total_fewer = subst (λ n. tally n (λ c. length (rewritten_chart G c).transitions) ≤ transitions_in (rewrite F))
      (sym r.charts) (tally-le F.charts _ _ list_shorter)

  pub written_shorter : length (encode (rewrite G)) ≤ length (encode (rewrite F))
  unfolding shape_in
  written_shorter =
      let a = length-encode (rewrite F) in let b = length-encode (rewrite G) in
      let t = total_fewer in let n = nodes_same in let c = r.charts in omega arith

  -- ── each test ──

  forty : no_free? F ≡ false → no_free? G ≡ false
  unfolding no_free?
  forty h = le-ltb (length (free G)) G.slaves
      (let a = ltb-false (length (free F)) F.slaves h in let b = free_more in let s = r.slaves in omega arith)

  forty_one : from_state? (rewrite F) ≡ false → from_state? (rewrite G) ≡ false
  unfolding from_state?
  forty_one h = any-all G.charts _ (λ c l. any-all (rewritten_chart G c).states _ (λ s m.
      let l' : c < F.charts = (let e = r.charts in omega arith) in
      let m' : s < (rewritten_chart F c).states = (let e = states-same c l' in omega arith) in
      let a = ltb-false most_from_state (leaving_in (rewritten_chart F c).transitions s)
      (any-never (rewritten_chart F c).states _ (any-never F.charts _ h c l') s m') in
      let b = leaving_fewer c s l' in
      le-ltb most_from_state (leaving_in (rewritten_chart G c).transitions s) (omega arith)))

  forty_two : in_chart? (rewrite F) ≡ false → in_chart? (rewrite G) ≡ false
  unfolding in_chart?
  forty_two h = any-all G.charts _ (λ c l.
      let l' : c < F.charts = (let e = r.charts in omega arith) in
      let a = list_most (rewrite F) h c l' in
      let b = list_shorter c l' in le-ltb most_in_chart (length (rewritten_chart G c).transitions) (omega arith))

  forty_four : ltb most_nodes (rewrite F).nodes ≡ false → ltb most_nodes (rewrite G).nodes ≡ false
  forty_four h = ap (ltb most_nodes) nodes_same ∙ h

  -- 40 to 44, and what stands behind them
  pub later : (us us' : List Test) → Fewer many_nodes us us' → first_of (rewrite_tests G ++ us') ≢ 0
      → (0 < first_of (rewrite_tests F ++ us)) × (first_of (rewrite_tests F ++ us) ≤ first_of (rewrite_tests G ++ us'))
  later us us' h = first_later 0 (rewrite_tests F ++ us) (rewrite_tests G ++ us') (unfold rewrite_tests in
      (refl, lit< tt, forty, (refl, lit< tt, forty_one, (refl, lit< tt, forty_two, (refl, lit< tt, forty_four, h)))))
