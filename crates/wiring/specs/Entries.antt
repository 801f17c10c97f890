-- The count as code computes it: from two rows of small numbers, each chart's master and that slave's state, and a
-- table of counts that is filled from the highest chart down. In this order: the product of a move (`branch_at`,
-- `branch-at`), and whether its place begins an open choice (`spared-at`); a chart's entry as a sum over its moves
-- (`entry_at`, `entry-at`), the total (`total_at`, `total-at`); a table whose entries from k on are right (CountsFrom):
-- one more stored (`counts_store`), all stored (`counts_all`); nothing on the way is too large (`part-fits`,
-- `sum-part-fits`, `total-part-fits`).
use Rattle.std.specs.Prelude.{◌≡◌, Bool, true, ◌&&◌, ◌||◌, cond, List, length, get_or, set}
use Rattle.std.proofs.Math.Path.{refl, ap, ap₂}
use Rattle.std.proofs.Common.{sym, ◌∙◌, subst, ⊎_elim, zero-mul, one-mul, eq-or-lt_of_le, lt-ltb, le-ltb}
use Rattle.std.proofs.Common.{get_or-set_same, get_or-set_other}
use Rattle.std.proofs.Math.Bool.{false}
use Rattle.std.proofs.Math.Option.{Option, none, some}
use Prim.Native.Nat.{ℕ, zero, suc, ◌+◌, ◌*◌, ◌^◌, ◌≤◌, ◌<◌}
use native.Mathlib.Omega.{arith}
use Rattle.std.proofs.Math.Dec.{ltb}
use Rattle.meaning.specs.Sums.{tally, one}
use Rattle.meaning.specs.Sums.Laws.{tally_cong, tally_mono}
use Rattle.meaning.specs.Meaning.{same, Chart, Move, no_move, stay, nth, behind, pick, last_place, after, meets}
use Rattle.meaning.specs.Open.{open_chart}
use Rattle.meaning.specs.Laws.Bools.{same→≡, same_≢}
use Rattle.meaning.proofs.Laws.Editions.{stay_last}
use Rattle.wiring.specs.Product.{times, times_cong}
use Rattle.wiring.specs.Completions.{nested, outside_only, total_of, branch, count_by, Counts, nested_above}
use Rattle.wiring.specs.Completions.{count_above}
use Rattle.wiring.specs.Completions.{the_count, the_counts, spared}
use Rattle.wiring.specs.Largest.{count_fits, branch_fits, total-fits}
use Rattle.wiring.specs.Total.{nth_near, rule_in, idle-pick, last_of, rule_of, hits_of, count_transitions}

-- master d: the master of chart d's nearest slave, `limit` or more if d is in none; inState d: that slave's state;
-- count: the table. Chart c goes from state q to state u: chart d's count, if that activates d
abbrev pub factor_at : (ℕ → ℕ) → (ℕ → ℕ) → (ℕ → ℕ) → ℕ → ℕ → ℕ → ℕ → ℕ
factor_at master inState count c q u d =
    cond (same (master d) c && (same q (inState d) || same u (inState d))) (count d) 1

module _ (N : ℕ) (master inState : ℕ → ℕ) (count : ℕ → ℕ) where
  -- the product over the charts that this activates
  unfoldable pub branch_at : ℕ → ℕ → ℕ → ℕ
  branch_at c q u = times N (factor_at master inState count c q u)

  -- what a move adds to the entry of chart c in state q
  abbrev pub adds_at : Chart → ℕ → ℕ → Move → ℕ
  adds_at C c q m = cond (open_chart C true q m) (branch_at c q (after q m)) 0

  -- staying and the first k transitions
  unfoldable pub sum_at : Chart → ℕ → ℕ → ℕ → ℕ
  sum_at C c q k = tally k (λ p. adds_at C c q (nth no_move C.transitions p)) + adds_at C c q stay

  -- all of them
  abbrev pub entry_at : Chart → ℕ → ℕ → ℕ
  entry_at C c q = sum_at C c q (length C.transitions)

-- the product over the charts outside all slaves
unfoldable pub total_at : ℕ → ℕ → (ℕ → ℕ) → (ℕ → ℕ) → ℕ
total_at N limit master count = times N (λ d. cond (ltb (master d) limit) 1 (count d))

-- the rows hold what the file's tree says
pub record Rowed (N limit : ℕ) (state : ℕ → ℕ) (enc : ℕ → Option ℕ) (sc master inState : ℕ → ℕ) : Type 0 where
  pub few : N ≤ limit
  pub lower : (c i : ℕ) → c < N → enc c ≡ some i → sc i < c
  pub outside : (c : ℕ) → c < N → enc c ≡ none → limit ≤ master c
  pub inside : (c i : ℕ) → c < N → enc c ≡ some i → (master c ≡ sc i) × (inState c ≡ state i)

module _ (E : ℕ → Chart) (state : ℕ → ℕ) (cfg : ℕ → ℕ) (N limit : ℕ) (enc : ℕ → Option ℕ) (sc : ℕ → ℕ)
    (master inState : ℕ → ℕ) (ro : Rowed N limit state enc sc master inState) where
  abbrev hits : ℕ → ℕ → Bool
  hits = hits_of E cfg state sc

  -- the state that chart c's place v leads to
  abbrev pub leads : ℕ → ℕ → ℕ
  leads c v = after (cfg c) (pick (E c) v)

  module _ (count : ℕ → ℕ) where
    -- one factor of the product
    pub factor_at_lem : (c v : ℕ) → c < N → (d : ℕ) → d < N
        → nested sc hits count c v d (enc d) ≡ factor_at master inState count c (cfg c) (leads c v) d
    factor_at_lem c v l d m = go (enc d) refl
      where
        meets_is : (i : ℕ) → sc i ≡ c → hits i v ≡ (same (cfg c) (state i) || same (leads c v) (state i))
        meets_is i z = unfold hits_of meets in ap (λ x. meets (cfg x) (pick (E x) v) (state i)) z

        go : (κ : Option ℕ) → enc d ≡ κ
            → nested sc hits count c v d κ ≡ factor_at master inState count c (cfg c) (leads c v) d
        go none q =
            let h = ro.outside d m q in let few = ro.few in
            sym (ap (λ b. cond (b && (same (cfg c) (inState d) || same (leads c v) (inState d))) (count d) 1)
            (same_≢ (master d) c (λ z. omega arith)))
        go (some i) q =
            let h = ro.inside d i m q in
            by (same (sc i) c) refl
            ∙ sym (ap₂ (λ a z. cond (same a c && (same (cfg c) z || same (leads c v) z)) (count d) 1) h.0 h.1)
          where
            by : (b : Bool) → same (sc i) c ≡ b
                → cond (b && hits i v) (count d) 1
                ≡ cond (b && (same (cfg c) (state i) || same (leads c v) (state i))) (count d) 1
            by true z = ap (λ x. cond x (count d) 1) (meets_is i (same→≡ (sc i) c z))
            by false z = refl

    pub branch-at : (c v : ℕ) → c < N
        → branch N enc sc hits count c v ≡ branch_at N master inState count c (cfg c) (leads c v)
    unfolding branch branch_at
    branch-at c v l = times_cong N _ _ (factor_at_lem c v l)

    -- a place that begins an open choice, if it is not that of an inactive chart
    pub spared-at : (c p : ℕ) → c < N → p < last_place (E c)
        → spared N enc sc hits count (rule_of E cfg) c (suc p)
        ≡ ltb 0 (branch_at N master inState count c (cfg c) (leads c (suc p)))
    unfolding spared rule_in
    spared-at c p l m = ap₂ (λ a x. a || ltb 0 x) (idle-pick (E c) (cfg c) p m) (branch-at c (suc p) l)

    -- the count's sum, move by move
    pub entry-at : (c : ℕ) → c < N
        → count_by N enc sc hits count (last_of E) (rule_of E cfg) c ≡ entry_at N master inState count (E c) c (cfg c)
    unfolding sum_at
    entry-at c l =
        count_transitions E cfg N enc sc hits count c
        ∙ ap₂ ◌+◌ (stays_at (E c).stays refl) (tally_cong (length (E c).transitions) _ _ taken_at)
        ∙ turn _ _
      where
        turn : (a b : ℕ) → a + b ≡ b + a
        turn a b = omega arith

        branch_c : ℕ → ℕ
        branch_c v = branch N enc sc hits count c v

        branch_to : ℕ → ℕ
        branch_to u = branch_at N master inState count c (cfg c) u

        adds : Move → ℕ
        adds m = adds_at N master inState count (E c) c (cfg c) m

        -- staying leads to the present state
        stays_to : (b : Bool) → (E c).stays ≡ b
            → cond b (branch_to (leads c (last_place (E c)))) 0 ≡ cond b (branch_to (cfg c)) 0
        stays_to true e = unfold after in ap (λ m. branch_to (after (cfg c) m)) (stay_last (E c) e)
        stays_to false e = refl

        adds_stay : adds stay ≡ cond (E c).stays (branch_to (cfg c)) 0
        adds_stay = unfold open_chart after in refl

        stays_at : (b : Bool) → (E c).stays ≡ b → cond b (branch_c (last_place (E c))) 0 ≡ adds stay
        stays_at b e =
            ap (λ x. cond b x 0) (branch-at c (last_place (E c)) l) ∙ stays_to b e
            ∙ sym (adds_stay ∙ ap (λ x. cond x (branch_to (cfg c)) 0) e)

        by : (x y : ℕ) → x ≡ y → (b : Bool) → one b * x ≡ cond b y 0
        by x y e true = one-mul x ∙ e
        by x y e false = zero-mul x

        taken_to : (k : ℕ) → k < length (E c).transitions
            → branch_c (suc k) ≡ branch_to (after (cfg c) (nth no_move (E c).transitions k))
        taken_to k m =
            branch-at c (suc k) l
            ∙ ap (λ m. branch_to (after (cfg c) m))
            (unfold pick in nth_near (behind (E c)) no_move (E c).transitions k m)

        taken_at : (k : ℕ) → k < length (E c).transitions
            → one (open_chart (E c) true (cfg c) (nth no_move (E c).transitions k)) * branch_c (suc k)
            ≡ adds (nth no_move (E c).transitions k)
        taken_at k m =
            by (branch_c (suc k)) (branch_to (after (cfg c) (nth no_move (E c).transitions k))) (taken_to k m)
            (open_chart (E c) true (cfg c) (nth no_move (E c).transitions k))

    outside-at : (d : ℕ) → d < N → outside_only count d (enc d) ≡ cond (ltb (master d) limit) 1 (count d)
    outside-at d m = go (enc d) refl
      where
        go : (κ : Option ℕ) → enc d ≡ κ → outside_only count d κ ≡ cond (ltb (master d) limit) 1 (count d)
        go none e = sym (ap (λ b. cond b 1 (count d)) (le-ltb (master d) limit (ro.outside d m e)))
        go (some i) e =
            let h = (ro.inside d i m e).0 in let low = ro.lower d i m e in let few = ro.few in
            sym (ap (λ b. cond b 1 (count d)) (lt-ltb (master d) limit (omega arith)))

    pub total-at : total_of N enc count ≡ total_at N limit master count
    unfolding total_of total_at
    total-at = times_cong N _ _ outside-at

  -- ── a table of counts, filled from the highest chart down ──

  abbrev count_of : (ℕ → ℕ) → ℕ → ℕ
  count_of t c = count_by N enc sc hits t (last_of E) (rule_of E cfg) c

  -- the entries from k on are right
  abbrev pub CountsFrom : ℕ → (ℕ → ℕ) → Type 0
  CountsFrom k t = (c : ℕ) → k ≤ c → c < N → t c ≡ count_by N enc sc hits t (last_of E) (rule_of E cfg) c

  pub counts-none : (t : ℕ → ℕ) → CountsFrom N t
  counts-none t c p l = absurd (omega arith)

  pub counts_all : (t : ℕ → ℕ) → CountsFrom zero t → Counts N enc sc hits t (last_of E) (rule_of E cfg)
  counts_all t h c l = h c (omega arith) l

  same_above : (t u : ℕ → ℕ) (c : ℕ) → ((d : ℕ) → c < d → d < N → t d ≡ u d) → count_of t c ≡ count_of u c
  same_above t u c h = count_above N enc sc hits ro.lower (last_of E) (rule_of E cfg) t u c h

  -- one more is stored: chart k's entry, made of the entries above it
  pub counts_store : (t : List ℕ) (k : ℕ) → k < length t → CountsFrom (suc k) (λ d. get_or t d 0) → k < N
      → CountsFrom k (λ d. get_or (set t k (entry_at N master inState (λ d. get_or t d 0) (E k) k (cfg k))) d 0)
  counts_store t k r h l c p m =
      ⊎_elim
      (λ (e : k ≡ c). subst (λ z. new z ≡ count_of new z) e
      (get_or-set_same t k value 0 r ∙ sym (entry-at old k l) ∙ same_above old new k (λ d q n. kept d (omega arith))))
      (λ (q : k < c). sym (kept c q) ∙ h c q m ∙ same_above old new c (λ d z n. kept d (omega arith)))
      (eq-or-lt_of_le p)
    where
      old : ℕ → ℕ
      old d = get_or t d 0

      value : ℕ
      value = entry_at N master inState (λ d. get_or t d 0) (E k) k (cfg k)

      new : ℕ → ℕ
      new d = get_or (set t k value) d 0

      kept : (d : ℕ) → k < d → get_or t d 0 ≡ get_or (set t k value) d 0
      kept d q = sym (get_or-set_other t k d value 0 (λ z. omega arith))

  -- ── nothing on the way is too large ──

  abbrev whole : ℕ → ℕ
  whole = the_count N enc sc hits ro.lower (last_of E) (rule_of E cfg)

  whole-counts : Counts N enc sc hits whole (last_of E) (rule_of E cfg)
  whole-counts = the_counts N enc sc hits ro.lower (last_of E) (rule_of E cfg)

  -- entries that are right are those of the count
  counts-part : (k : ℕ) (t : ℕ → ℕ) → CountsFrom k t → (c : ℕ) → k ≤ c → c < N → t c ≡ whole c
  counts-part k t h c p l = go N c (omega arith) p l
    where
      go : (f c : ℕ) → N ≤ f + c → k ≤ c → c < N → t c ≡ whole c
      go zero c b p l = absurd (omega arith)
      go (suc f) c b p l =
          h c p l ∙ same_above t whole c (λ d q n. go f d (omega arith) (omega arith) n) ∙ sym (whole-counts c l)

  module _ (B : ℕ) (some-B : 0 < B)
      (most : (c : ℕ) → c < N → tally (suc (last_of E c)) (λ v. one (rule_of E cfg true c v)) ≤ B) where
    module _ (c : ℕ) (l : c < N) (t : ℕ → ℕ) (h : CountsFrom (suc c) t) where
      -- the product of a move over the first j charts
      pub part-fits : (v j : ℕ) → j ≤ N → times j (factor_at master inState t c (cfg c) (leads c v)) ≤ B ^ N
      part-fits v j m =
          subst (λ z. z ≤ B ^ N)
          (times_cong j _ _ (λ d q. above d (omega arith) ∙ factor_at_lem t c v l d (omega arith)))
          (branch_fits N enc sc ro.lower B some-B (last_of E) (rule_of E cfg) hits whole whole-counts most c v j l m)
        where
          above : (d : ℕ) → d < N → nested sc hits whole c v d (enc d) ≡ nested sc hits t c v d (enc d)
          above = nested_above N enc sc hits ro.lower whole t c v (λ d a b. sym (counts-part (suc c) t h d a b))

      -- the sum over staying and the first p transitions
      pub sum-part-fits : (p : ℕ) → p ≤ length (E c).transitions
          → sum_at N master inState t (E c) c (cfg c) p ≤ B ^ N
      unfolding sum_at
      sum-part-fits p m =
          let term : ℕ → ℕ = λ k. adds_at N master inState t (E c) c (cfg c) (nth no_move (E c).transitions k) in
          let a = tally_mono p (length (E c).transitions) term m in
          let e = entry-at t c l in
          let b = same_above t whole c (counts-part (suc c) t h) in
          let d = whole-counts c l in
          let f = count_fits N enc sc ro.lower B some-B (last_of E) (rule_of E cfg) hits whole whole-counts most c l in
          omega arith

    -- the total over the first j charts
    pub total-part-fits : (t : ℕ → ℕ) → CountsFrom zero t → (j : ℕ) → j ≤ N
        → times j (λ d. cond (ltb (master d) limit) 1 (t d)) ≤ B ^ N
    total-part-fits t h j m =
        subst (λ z. z ≤ B ^ N) (times_cong j _ _ (λ d q. outside-at t d (omega arith)))
        (total-fits N enc sc ro.lower B some-B (last_of E) (rule_of E cfg) hits t (counts_all t h) most j m)
