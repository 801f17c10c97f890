-- Laws of the loops that count, in this order: a factor by what a move activates (`factor_other` to `factor_none`); a
-- product one factor longer (`branch-none` to `branch-done`); what staying and a transition add (`staying_no` to
-- `adds-small`), a sum one transition longer (`begins-at` to `sum_done`), and that of a chart that encloses none
-- (`sum_alone`); of a file, where a chart's transitions start (`starts_at`), that nothing on the way is too large
-- (`smalls`, `total-small`), an entry stored (`stores`), that the total is the number of open choices (`total_is`), and
-- that no place that begins an open choice leads to a state that is shut (`begins_open`); the total one factor longer
-- (`total-none` to `total-done`). The states that are shut (`to_all` to `open_not_shut`) stand before the laws of a
-- file.
use Rattle.std.specs.Prelude.{◌≡◌, Bool, ◌&&◌, ◌||◌, cond, List, ◌≢◌, length, set, drop, replicate}
use Rattle.std.proofs.Math.Path.{refl, sym, ap, ap₂}
use Rattle.std.proofs.Common.{◌∙◌, subst, add-one, lit<, lit≤, get_or-set_same, get_or-set_other}
use Rattle.std.proofs.Math.Bool.{true, false, false≢true, and-false, or-false, and-or_distrib_left}
use Rattle.std.proofs.Math.Option.{none, some}
use Prim.Native.Nat.{ℕ, zero, suc, ◌+◌, ◌*◌, ◌-◌, ◌^◌, ◌≤◌, ◌<◌}
use Rattle.std.proofs.Math.Nat.{pow-le-pow_right}
use native.Mathlib.Omega.{arith}
use Rattle.std.proofs.Math.Decide.{dec_lt}
use borrow.Author.Tests.{lt-ltb, le-ltb, ltb-true}
use Rattle.std.proofs.Math.Dec.{ltb}
use Rattle.std.proofs.Math.ListN.{get_or-replicate}
use Rattle.signals.specs.Mask.{◌∪◌, bit, single}
use Rattle.signals.specs.Mask.Laws.{bit_union, bit-none, bit-single, bit_high}
use Rattle.signals.specs.All.{bit-all}
use Rattle.layout.specs.Record.{transition_of}
use Rattle.layout.specs.Body.{head_at, transition_at, start_of, transitions_of}
use Rattle.layout.specs.Body.Laws.{length_from, start_of-next, start_of_mono}
use Rattle.layout.specs.declared.body.Shape.{Shape}
use Rattle.layout.specs.declared.record.Transition.{Transition}
use Rattle.meaning.specs.Numbers.{most_charts, most_signals, stay_edition}
use Rattle.meaning.specs.Sums.{any_up_to, tally, one}
use Rattle.meaning.specs.Sums.Laws.{any-all, any-never, tally-more, tally_most, tally_cong}
use Rattle.meaning.specs.Meaning.{same, no_move, takes, nth, behind, pick, last_place, after}
use Rattle.meaning.specs.File.{chart_of, file_at}
use Rattle.meaning.specs.Open.{open_chart, open_in}
use Rattle.meaning.specs.Laws.Bools.{or_r, same_refl, same→≡, same_≢, same→≢, same_comm}
use Rattle.meaning.specs.Laws.Names.{kap}
use Rattle.wiring.specs.Product.{times, times_none, times_more, times-one, times-at}
use Rattle.wiring.specs.Completions.{spared}
use Rattle.wiring.specs.Total.{rule_in}
use Rattle.wiring.specs.Entries.{branch_at, adds_at, sum_at, total_at, Rowed, part-fits, sum-part-fits, counts_store}
use Rattle.wiring.specs.Entries.{total-part-fits, total-at, branch-at}
use Rattle.meaning.proofs.Laws.Choices.{nth-from}
use Rattle.wiring.specs.Few.{few_from, moves_from, most_moves, moves_few, file_stands, open_counted}
use Rattle.nesting.specs.Nearest.{master_by, state_by}
use Rattle.counting.specs.Counting.{most_count, at, Countable, factor_in, branch_in, Small, staying_in, added_in}
use Rattle.counting.specs.Counting.{sum_in, leaving_in, encloses_in, Smalls}
use Rattle.counting.specs.Counting.{total_in, outside_in, TotalSmall, CountsOn, begins, ShutTo, shut_by, Shuts}
use Rattle.counting.specs.Counting.{ShutOne}

-- ── a factor ──

module _ (m s t : List ℕ) (c q u d : ℕ) where
  pub factor_other : at m d ≢ c → 1 ≡ factor_in m s t c q u d
  factor_other h =
      sym (ap (λ b. cond (b && (same q (at s d) || same u (at s d))) (at t d) 1) (same_≢ (at m d) c h))

  pub factor_before : at m d ≡ c → at s d ≡ q → at t d ≡ factor_in m s t c q u d
  factor_before h e = rw (h, e, same_refl c, same_refl q)

  pub factor_after : at m d ≡ c → at s d ≡ u → at t d ≡ factor_in m s t c q u d
  factor_after h e =
      rw (h, e, same_refl c, same_refl u) (sym (ap (λ b. cond b (at t d) 1) (or_r (same q u) true refl)))

  pub factor_none : at m d ≡ c → at s d ≢ q → at s d ≢ u → 1 ≡ factor_in m s t c q u d
  factor_none h e f = rw (h, same_refl c, same_≢ q (at s d) (λ z. e (sym z)), same_≢ u (at s d) (λ z. f (sym z)))

-- ── a product ──

module _ (m s t : List ℕ) (c q u : ℕ) where
  pub branch-none : 1 ≡ times 0 (factor_in m s t c q u)
  branch-none = sym (times_none (factor_in m s t c q u))

  pub branch-more : (k x y : ℕ) → x ≡ times k (factor_in m s t c q u) → y ≡ factor_in m s t c q u k
      → y * x ≡ times (k + 1) (factor_in m s t c q u)
  branch-more k x y e f = rw (e, f) (sym (times_more k (factor_in m s t c q u)))

  pub branch-done : (n k x : ℕ) → k ≤ n → n ≤ k → x ≡ times k (factor_in m s t c q u) → x ≡ branch_in n m s t c q u
  unfolding branch_at
  branch-done n k x a b e = let z : k ≡ n = omega arith in e ∙ ap (λ j. times j (factor_in m s t c q u)) z

-- ── what staying adds, and a transition ──

module _ (n : Shape) (m s t : List ℕ) (c q : ℕ) where
  pub staying_no : n.edition ≢ stay_edition → 0 ≡ staying_in n m s t c q
  staying_no h = sym (ap (λ b. cond b (branch_in n.charts m s t c q q) 0) (same_≢ n.edition stay_edition h))

  pub staying_yes : (y : ℕ) → n.edition ≡ stay_edition → y ≡ branch_in n.charts m s t c q q
      → y ≡ staying_in n m s t c q
  staying_yes y h f =
      f ∙ sym (ap (λ b. cond b (branch_in n.charts m s t c q q) 0)
      (ap (λ z. same z stay_edition) h ∙ same_refl stay_edition))

-- a transition from another state, and from this
module _ (charts : ℕ) (m s t : List ℕ) (c q : ℕ) (r u : Transition) (e : r ≡ u) where
  pub adds-other : r.from ≢ q → 0 ≡ added_in charts m s t c q u
  adds-other h = rw (sym e) (sym (ap (λ b. cond b (branch_in charts m s t c q r.to) 0) (same_≢ r.from q h)))

  pub adds-own : (y : ℕ) → r.from ≡ q → y ≡ branch_in charts m s t c q r.to → y ≡ added_in charts m s t c q u
  adds-own y h f =
      rw (sym e) (f ∙ sym (ap (λ b. cond b (branch_in charts m s t c q r.to) 0)
      (ap (λ z. same z q) h ∙ same_refl q)))

  pub adds-small : Small charts m s t c q u.to → Small charts m s t c q r.to
  adds-small h = rw e h

-- ── a sum ──

-- the transition that begins at a byte, by its number
pub begins-at : (n : Shape) (b : List ℕ) (t at : ℕ) → at ≡ 24 * n.charts + 28 * t
    → transition_of (drop at b) ≡ transition_at n b t
unfolding transition_at
begins-at n b t at e = ap (λ i. transition_of (drop i b)) e

module _ (n : Shape) (b m s t : List ℕ) (c q : ℕ) where
  pub sum-none : (x : ℕ) → x ≡ staying_in n m s t c q → x ≡ sum_in n b m s t c q 0
  unfolding sum_at tally open_chart after chart_of
  sum-none x e = omega (arith, e)

  nth-own : (p : ℕ) → p < (head_at n b c).transitions
      → nth no_move (chart_of n b c).transitions p ≡ takes (transition_at n b (start_of n b c + p))
  unfolding chart_of transitions_of
  nth-own p l = nth-from no_move (transition_at n b) (start_of n b c) (head_at n b c).transitions p l

  -- what the transition at a place adds
  unfoldable adds : ℕ → ℕ
  adds p = adds_at n.charts (at m) (at s) (at t) (chart_of n b c) c q (nth no_move (chart_of n b c).transitions p)

  added_is : (p : ℕ) → p < (head_at n b c).transitions
      → adds p ≡ added_in n.charts m s t c q (transition_at n b (start_of n b c + p))
  unfolding open_chart after adds
  added_is p l = ap (adds_at n.charts (at m) (at s) (at t) (chart_of n b c) c q) (nth-own p l)

  -- by where the chart's transitions start, and how many there are
  module _ (start count : ℕ) (es : start ≡ start_of n b c) (ec : count ≡ (head_at n b c).transitions) where
    pub sum_more : (p x y : ℕ) → p < count → x ≡ sum_in n b m s t c q p
        → y ≡ added_in n.charts m s t c q (transition_at n b (start + p)) → y + x ≡ sum_in n b m s t c q (p + 1)
    unfolding sum_at adds
    sum_more p x y l e f =
        let h = tally-more p adds in
        let g = added_is p (omega (arith, ec)) in
        let k = f ∙ ap (λ z. added_in n.charts m s t c q (transition_at n b (z + p))) es in omega arith

    pub sum-small : Smalls n b m s t c q → (p : ℕ) → p ≤ count → sum_in n b m s t c q p ≤ most_count
    sum-small h p l = h.sums p (omega (arith, ec))

    pub product_small : Smalls n b m s t c q → (p : ℕ) → p < count
        → Small n.charts m s t c q (transition_at n b (start + p)).to
    product_small h p l =
        subst (λ z. Small n.charts m s t c q (transition_at n b (z + p)).to) (sym es)
        (h.products p (omega (arith, ec)))

  -- of a chart that encloses none, each transition from this state adds one
  module _ (alone : encloses_in n.charts m c ≡ false) where
    branch_one : (u : ℕ) → branch_in n.charts m s t c q u ≡ 1
    unfolding branch_at
    branch_one u =
        times-one n.charts _ (λ d l. sym (factor_other m s t c q u d (λ e.
        false≢true (sym (any-never n.charts _ alone d l) ∙ ap (λ z. same z c) e ∙ same_refl c))))

    one_added : (x : Bool) (y : ℕ) → y ≡ 1 → one x ≡ cond x y 0
    one_added true y e = sym e
    one_added false y e = refl

    pub sum_alone : (start count x y : ℕ) → start ≡ start_of n b c → count ≡ (head_at n b c).transitions
        → x ≡ staying_in n m s t c q → y ≡ leaving_in n b start q count → y + x ≡ sum_in n b m s t c q count
    unfolding sum_at open_chart after chart_of adds
    sum_alone start count x y es ec ex ey =
        ap₂ ◌+◌ (ey ∙ tally_cong count _ adds (λ j l.
        let u = transition_at n b (start + j) in
        one_added (same u.from q) _ (branch_one u.to)
        ∙ sym (added_is j (omega (arith, ec))
        ∙ ap (λ z. added_in n.charts m s t c q (transition_at n b (z + j))) (sym es)))) ex

  pub sum_done : (count p x : ℕ) → p ≤ count → count ≤ p → x ≡ sum_in n b m s t c q p → x ≡ sum_in n b m s t c q count
  sum_done count p x l k e = let z : p ≡ count = omega arith in e ∙ ap (sum_in n b m s t c q) z

-- ── states that are shut ──

module _ (q s : ℕ) where
  pub to_all : q ≡ s → ShutTo q s (2 ^ 64 - 1)
  to_all e u = go (dec_lt u most_signals)
    where
      go : Dec (u < most_signals) → bit (2 ^ 64 - 1) u ≡ (ltb u most_signals && (same q s || same u s))
      go (yes l) = bit-all 64 u l ∙ sym (rw (lt-ltb u most_signals l, e, same_refl s))
      go (no l) = bit_high 64 (2 ^ 64 - 1) u (lit< tt) (omega arith) ∙ sym (rw (le-ltb u most_signals (omega arith)))

  pub to_none : q ≢ s → most_signals ≤ s → ShutTo q s 0
  to_none n k u = bit-none u ∙ sym (go (dec_lt u most_signals))
    where
      go : Dec (u < most_signals) → (ltb u most_signals && (same q s || same u s)) ≡ false
      go (yes l) = rw (lt-ltb u most_signals l, same_≢ q s n, same_≢ u s (λ e. omega arith))
      go (no l) = rw (le-ltb u most_signals (omega arith))

  pub to_one : q ≢ s → s < most_signals → ShutTo q s (single s)
  unfolding same
  to_one n k u = bit-single s u ∙ go (same s u) refl
    where
      go : (b : Bool) → same s u ≡ b → same s u ≡ (ltb u most_signals && (same q s || same u s))
      go true e =
          let z = same→≡ s u e in
          e ∙ sym (rw (← z, lt-ltb s most_signals k, same_refl s) (or_r (same q s) true refl))
      go false e =
          e ∙ sym (rw (same_≢ q s n, same_comm u s, e) (and-false (ltb u most_signals)))

module _ (n : ℕ) (config m s t : List ℕ) where
  abbrev shut? : ℕ → ℕ → ℕ → Bool
  shut? c u d = shut_by m s t c (at config c) u d

  -- chart d shuts nothing for chart c
  none_more : (r : List ℕ) (c u d : ℕ) → shut? c u d ≡ false
      → bit (at r c) u ≡ (bit (at r c) u || (ltb u most_signals && shut? c u d))
  none_more r c u d e = sym (ap (λ x. bit (at r c) u || (ltb u most_signals && x)) e
      ∙ ap (λ x. bit (at r c) u || x) (and-false (ltb u most_signals)) ∙ or-false (bit (at r c) u))

  pub shut_counts : (r : List ℕ) (d : ℕ) → at t d ≢ 0 → ShutOne n config m s t d r r
  shut_counts r d e c u l = none_more r c u d (rw (same_≢ (at t d) 0 e))

  other_master : (c u d : ℕ) → at m d ≢ c → shut? c u d ≡ false
  other_master c u d e = rw (same_≢ (at m d) c e) (and-false (same (at t d) 0))

  pub shut_outside : (r : List ℕ) (d : ℕ) → n ≤ at m d → ShutOne n config m s t d r r
  shut_outside r d k c u l = none_more r c u d (other_master c u d (λ e. omega arith))

  pub shut_more : (r : List ℕ) (d x : ℕ) → at t d ≡ 0 → at m d < length r → ShutTo (at config (at m d)) (at s d) x
      → ShutOne n config m s t d r (set r (at m d) (at r (at m d) ∪ x))
  shut_more r d x e k h c u l = go (same (at m d) c) refl
    where
      go : (b : Bool) → same (at m d) c ≡ b
          → bit (at (set r (at m d) (at r (at m d) ∪ x)) c) u ≡ (bit (at r c) u || (ltb u most_signals && shut? c u d))
      go true z =
          rw (← same→≡ (at m d) c z) (ap (λ y. bit y u) (get_or-set_same r (at m d) (at r (at m d) ∪ x) 0 k)
          ∙ bit_union u (at r (at m d)) x
          ∙ ap (λ y. bit (at r (at m d)) u || y) (h u ∙ rw (e, same_refl (at m d), same_refl 0)))
      go false z =
          ap (λ y. bit y u) (get_or-set_other r (at m d) c (at r (at m d) ∪ x) 0 (λ y. same→≢ (at m d) c z (sym y)))
          ∙ none_more r c u d (other_master c u d (same→≢ (at m d) c z))

  pub shuts_none : n ≤ most_charts → Shuts n config m s t 0 (replicate most_charts 0)
  unfolding any_up_to
  shuts_none few c u l =
      ap (λ x. bit x u) (zeros c (omega arith)) ∙ bit-none u ∙ sym (and-false (ltb u most_signals))
    where
      zeros : (c : ℕ) → c < most_charts → at (replicate most_charts 0) c ≡ 0
      zeros c l = get_or-replicate most_charts c 0 0 l

  pub shuts_next : (k : ℕ) (r r' : List ℕ) → Shuts n config m s t k r → ShutOne n config m s t k r r'
      → Shuts n config m s t (k + 1) r'
  unfolding any_up_to
  shuts_next k r r' h g c u l =
      g c u l ∙ ap (λ x. x || (ltb u most_signals && shut? c u k)) (h c u l)
      ∙ sym (and-or_distrib_left (ltb u most_signals) (any_up_to k (shut? c u)) (shut? c u k)) ∙ rw (add-one k)

  pub shuts_done : (k : ℕ) (r : List ℕ) → k ≤ n → n ≤ k → Shuts n config m s t k r → Shuts n config m s t n r
  shuts_done k r a b h = let e : k ≡ n = omega arith in subst (λ z. Shuts n config m s t z r) e h

  -- a factor that is not 0 shuts nothing
  some_factor : (c q u d : ℕ) → 0 < factor_in m s t c q u d → shut_by m s t c q u d ≡ false
  some_factor c q u d = go (same (at t d) 0) refl (same (at m d) c && (same q (at s d) || same u (at s d)))
    where
      go : (a : Bool) → same (at t d) 0 ≡ a → (x : Bool) → 0 < cond x (at t d) 1 → (same (at t d) 0 && x) ≡ false
      go a e false h = and-false (same (at t d) 0)
      go false e true h = rw e
      go true e true h = absurd (let z = same→≡ (at t d) 0 e in omega arith)

  pub open_not_shut : (r : List ℕ) → Shuts n config m s t n r → (c u : ℕ) → c < n
      → 0 < branch_in n m s t c (at config c) u → bit (at r c) u ≡ false
  unfolding branch_at
  open_not_shut r h c u l p =
      h c u l ∙ ap (λ x. ltb u most_signals && x)
      (any-all n _ (λ d k. some_factor c (at config c) u d (times-at n (factor_in m s t c (at config c) u) p d k)))
      ∙ and-false (ltb u most_signals)

-- ── a file ──

module _ (n : Shape) (b config m s : List ℕ) (w : Countable n b config m s) where
  lower : (c i : ℕ) → c < (file_at n b).charts → kap (file_at n b) c ≡ some i → (file_at n b).master i < c
  unfolding file_at
  lower = (file_stands (file_at n b) w.sound w.sized.some_node).lower

  few : (file_at n b).charts ≤ most_charts
  unfolding file_at
  few = let h = w.sized.charts in omega arith

  rowed : Rowed (file_at n b).charts most_charts (file_at n b).state (kap (file_at n b)) (file_at n b).master
      (at m) (at s)
  rowed =
      record {
        few = few;
        lower = lower;
        outside = λ c l e. far (at m c) ((w.nearest c l).0 ∙ ap (master_by (file_at n b)) e);
        inside = λ c i l e. (
          (w.nearest c l).0 ∙ ap (master_by (file_at n b)) e ∙ unfold master_by in refl,
          (w.nearest c l).1 ∙ ap (state_by (file_at n b)) e ∙ unfold state_by in refl,
        );
      }
    where
      far : (x : ℕ) → x ≡ master_by (file_at n b) none → most_charts ≤ x
      far x h = unfold master_by in omega (arith, h)

  most : (c : ℕ) → c < (file_at n b).charts → moves_from ((file_at n b).chart c) (at config c) ≤ most_moves
  unfolding file_at
  most = moves_few (file_at n b) w.sound w.sized.some_node config (few_from n b w.transitions) w.valid

  -- nine for each chart is small
  small_power : (x : ℕ) → x ≤ most_moves ^ (file_at n b).charts → x ≤ most_count
  small_power x h =
      let k = pow-le-pow_right {n = most_moves} (lit< tt) few in let e : most_moves ^ most_charts
      ≤ most_count = lit≤ tt in
      omega arith

  -- where chart k's transitions start, from where the next chart's do
  pub starts_at : (k end cnt : ℕ) → k < n.charts → end ≡ start_of n b (k + 1) → cnt ≡ (head_at n b k).transitions
      → (cnt ≤ end) × (end - cnt ≡ start_of n b k) × ((end - cnt) + cnt ≤ n.transitions)
  starts_at k end cnt l e f =
      let a = start_of-next n b k in let d = start_of_mono n b k n.charts l in let z = w.summed in
      (omega arith, omega arith, omega arith)

  pub config_long : n.charts ≤ length config
  unfolding file_at
  config_long = let h = w.valid.long in omega arith

  module _ (k : ℕ) (l : k < n.charts) (t : List ℕ) (h : CountsOn n b config (suc k) t) where
    leads-small : (v : ℕ) → Small n.charts m s t k (at config k) (after (at config k) (pick (chart_of n b k) v))
    unfolding file_at
    leads-small v j r =
        small_power _
        (part-fits (file_at n b).chart (file_at n b).state (at config) n.charts most_charts (kap (file_at n b))
        (file_at n b).master (at m) (at s) rowed most_moves (lit< tt) most k l (at t) h v j r)

    -- nothing on the way to chart k's entry is too large
    pub smalls : Smalls n b m s t k (at config k)
    smalls =
        record {
          staying = subst (Small n.charts m s t k (at config k)) stays (leads-small zero);
          products = λ p q. subst (Small n.charts m s t k (at config k)) (takes_to p q) (leads-small (suc p));
          sums = sums;
        }
      where
        stays : after (at config k) (pick (chart_of n b k) zero) ≡ at config k
        stays = unfold after pick in refl

        takes_to : (p : ℕ) → p < (head_at n b k).transitions
            → after (at config k) (pick (chart_of n b k) (suc p)) ≡ (transition_at n b (start_of n b k + p)).to
        takes_to p q =
            unfold after pick chart_of transitions_of in
            ap (after (at config k)) (nth-from (behind (chart_of n b k)) (transition_at n b) (start_of n b k)
            (head_at n b k).transitions p q)

        sums : (p : ℕ) → p ≤ (head_at n b k).transitions → sum_in n b m s t k (at config k) p ≤ most_count
        sums p q =
            unfold file_at chart_of transitions_of in
            small_power _ (sum-part-fits (file_at n b).chart (file_at n b).state (at config) n.charts most_charts
            (kap (file_at n b)) (file_at n b).master (at m) (at s) rowed most_moves (lit< tt) most k l (at t) h p
            (rw (length_from (transition_at n b) (start_of n b k) (head_at n b k).transitions) q))

    -- chart k's entry stored
    pub stores : n.charts ≤ length t → (count : ℕ) → count ≡ (head_at n b k).transitions → (x : ℕ)
        → x ≡ sum_in n b m s t k (at config k) count → CountsOn n b config k (set t k x)
    unfolding file_at
    stores long count ec x ex =
        rw (ex ∙ ap (sum_in n b m s t k (at config k)) ec ∙ here)
        (counts_store (file_at n b).chart (file_at n b).state (at config) n.charts most_charts (kap (file_at n b))
        (file_at n b).master (at m) (at s) rowed t k (omega arith) h l)
      where
        here : sum_in n b m s t k (at config k) (head_at n b k).transitions
            ≡ sum_in n b m s t k (at config k) (length (chart_of n b k).transitions)
        here =
            ap (sum_in n b m s t k (at config k)) (sym (unfold chart_of transitions_of in
            length_from (transition_at n b) (start_of n b k) (head_at n b k).transitions))

  second : (x y : Bool) → (x || y) ≡ true → x ≡ false → y ≡ true
  second x y e f = ap (λ z. z || y) (sym f) ∙ e

  -- a place that begins an open choice, and is not that of an inactive chart, leads to no state that is shut
  pub begins_open : (t r : List ℕ) → Shuts n.charts config m s t n.charts r → (c v : ℕ) → c < n.charts
      → begins (file_at n b) config t c v ≡ true
      → open_chart (chart_of n b c) false (at config c) (pick (chart_of n b c) v) ≡ false
      → bit (at r c) (after (at config c) (pick (chart_of n b c) v)) ≡ false
  unfolding spared rule_in file_at
  begins_open t r h c v l e f =
      open_not_shut n.charts config m s t r h c _ l
      (subst (λ x. 0 < x) (branch-at (file_at n b).chart (file_at n b).state (at config) n.charts most_charts
      (kap (file_at n b)) (file_at n b).master (at m) (at s) rowed (at t) c v l)
      (ltb-true 0 _ (second _ _ e f)))

  -- the total over the first j charts
  pub total-small : (t : List ℕ) → CountsOn n b config zero t → TotalSmall n m t
  unfolding file_at
  total-small t h j l =
      small_power _ (total-part-fits (file_at n b).chart (file_at n b).state (at config) n.charts most_charts
      (kap (file_at n b)) (file_at n b).master (at m) (at s) rowed most_moves (lit< tt) most (at t) h j l)

  -- the total is the number of open choices
  pub total_is : (t : List ℕ) → CountsOn n b config zero t → open_in (file_at n b) config ≡ total_in n m t
  unfolding file_at
  total_is t h =
      open_counted (file_at n b) w.sound w.sized.some_node config (at t) (λ c l. h c (omega arith) l)
      ∙ total-at (file_at n b).chart (file_at n b).state (at config) n.charts most_charts (kap (file_at n b))
      (file_at n b).master (at m) (at s) rowed (at t)

-- no entry is stored yet
pub none_stored : (n : Shape) (b config t : List ℕ) → CountsOn n b config n.charts t
unfolding file_at
none_stored n b config t c p l = absurd (omega arith)

-- ── the total ──

module _ (m t : List ℕ) where
  pub total-none : 1 ≡ times 0 (outside_in m t)
  total-none = sym (times_none (outside_in m t))

  pub total-more : (k x y : ℕ) → x ≡ times k (outside_in m t) → y ≡ outside_in m t k
      → y * x ≡ times (k + 1) (outside_in m t)
  total-more k x y e f = rw (e, f) (sym (times_more k (outside_in m t)))

  pub total-done : (n : Shape) (k x : ℕ) → k ≤ n.charts → n.charts ≤ k → x ≡ times k (outside_in m t)
      → x ≡ total_in n m t
  unfolding total_at
  total-done n k x a b e = let z : k ≡ n.charts = omega arith in e ∙ ap (λ j. times j (outside_in m t)) z

  pub outside_no : (d : ℕ) → at m d < most_charts → 1 ≡ outside_in m t d
  outside_no d h = sym (ap (λ b. cond b 1 (at t d)) (lt-ltb (at m d) most_charts h))

  pub outside_yes : (d : ℕ) → most_charts ≤ at m d → at t d ≡ outside_in m t d
  outside_yes d h = sym (ap (λ b. cond b 1 (at t d)) (le-ltb (at m d) most_charts h))
