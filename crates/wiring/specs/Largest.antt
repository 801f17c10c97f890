-- No number of the count is more than B to the power N, where an active chart may do at most B things, and those on the
-- way are not either, also where a later factor is 0. In this order: the largest table there is, with all slaves always
-- active (`most`), its total (`most_total`) and its entries (`most_fits`); then of any count, an entry (`count_fits`),
-- a product as far as it is made (`branch_fits`), a sum (`sum_fits`), the total (`total-fits`).
use Rattle.std.specs.Prelude.{◌≡◌, Bool, false, ◌&&◌, ltb}
use Rattle.std.proofs.Math.Path.{refl, sym, ap, ap₂, subst}
use Rattle.std.proofs.Common.{◌∙◌, mul-pos, mul-le-mul_left, pow-suc, le_refl, ltb-true, lt-ltb}
use Rattle.std.proofs.Math.Bool.{true, cond}
use Rattle.std.proofs.Math.Option.{Option, none, some}
use Prim.Native.Nat.{ℕ, zero, suc, ◌+◌, ◌*◌, ◌^◌, ◌≤◌, ◌<◌}
use Rattle.std.proofs.Math.Nat.{mul_comm, pow-zero}
use native.Mathlib.Omega.{arith}
use Rattle.meaning.specs.Meaning.{same, upd}
use Rattle.meaning.specs.Sums.{tally, one}
use Rattle.meaning.specs.Sums.Laws.{tally_cong, tally_scale, tally-le, tally_mono, tally_zero, tally-front, tally_ones}
use Rattle.meaning.specs.Laws.Bools.{and_l, and_r, and_i, same_refl, same→≡, same_≢}
use Rattle.meaning.proofs.Laws.Choices.{upd-at}
use Rattle.wiring.specs.Product.{times, times_cong, times_pos, times-le, times-part, times_factor, grow}
use Rattle.wiring.specs.Completions.{Acts, Rules, nested, outside_only, total_of, branch, count_by, Counts, the_count}
use Rattle.wiring.specs.Completions.{the_counts, local, completions, completions-total}

-- ── the largest table ──

module _ (N : ℕ) (enc : ℕ → Option ℕ) (sc : ℕ → ℕ) (lower : (c i : ℕ) → c < N → enc c ≡ some i → sc i < c) (B : ℕ)
    (some-B : 0 < B) where
  -- B things to do for every chart, always active
  abbrev all_rule : Bool → ℕ → ℕ → Bool
  all_rule true c v = ltb 0 v && ltb v (suc B)
  all_rule false c v = same v 0

  abbrev always : ℕ → ℕ → Bool
  always i v = true

  all_acts : Acts N enc sc always (λ ch c. true)
  all_acts =
      record {
        lower = lower;
        outside = λ ch c l e. refl;
        inside = λ ch c i l e. refl;
        settled = λ ch ch₂ c l b. refl;
      }

  all_rules : Rules N (λ c. B) sc all_rule always
  all_rules =
      record {
        idle = λ c l. tally-front B (λ v. one (same v 0))
            ∙ ap₂ ◌+◌ (ap one (same_refl 0))
            (tally_zero B (λ k. one (same (suc k) 0)) (λ k m. ap one (same_≢ (suc k) 0 (λ z. omega arith))));
        reach = λ c v l h. let q = ltb-true v (suc B) (and_r (ltb 0 v) _ h) in
            record { place = v; within = omega arith; ruled = h; same-hits = λ i e. refl };
        apart = λ c v h. let q = ltb-true 0 v (and_l _ _ h) in same_≢ v 0 (λ z. omega arith);
      }

  pub most : ℕ → ℕ
  most = the_count N enc sc always lower (λ c. B) all_rule

  most_counts : Counts N enc sc always most (λ c. B) all_rule
  unfolding most
  most_counts = the_counts N enc sc always lower (λ c. B) all_rule

  -- the places that it may take number B
  all_places_lem : tally (suc B) (λ v. one (all_rule true 0 v)) ≡ B
  all_places_lem =
      tally-front B (λ v. one (all_rule true 0 v))
      ∙ ap (λ z. 0 + z) (tally_cong B (λ k. one (all_rule true 0 (suc k))) (λ k. 1)
      (λ k l. ap one (and_i (lt-ltb 0 (suc k) (omega arith)) (lt-ltb (suc k) (suc B) (omega arith)))) ∙ tally_ones B)
      ∙ omega arith

  most_completions : (n k : ℕ) (ch : ℕ → ℕ) → completions (λ c. B) all_rule (λ ch c. true) n k ch ≡ B ^ n
  unfolding completions local
  most_completions zero k ch = sym (pow-zero B)
  most_completions (suc n) k ch =
      tally_cong (suc B) _ (λ v. B ^ n * one (all_rule true 0 v))
      (λ v l. ap₂ (λ w x. one (all_rule true k w) * x) (upd-at ch k v) (most_completions n (suc k) (upd ch k v))
      ∙ mul_comm (one (all_rule true 0 v)) (B ^ n))
      ∙ tally_scale (suc B) (B ^ n) (λ v. one (all_rule true 0 v)) ∙ ap (λ z. B ^ n * z) all_places_lem
      ∙ sym (pow-suc B n)

  most_total : total_of N enc most ≡ B ^ N
  most_total =
      sym (completions-total N (λ c. B) enc sc all_rule always (λ ch c. true) all_acts all_rules most most_counts
      (λ c. zero))
      ∙ most_completions N zero (λ c. zero)

  -- the product over all charts that are nearest in a slave of c
  abbrev below : ℕ → ℕ
  below c = branch N enc sc always most c 0

  most_is : (c : ℕ) → c < N → most c ≡ below c * B
  unfolding count_by branch
  most_is c l =
      most_counts c l
      ∙ tally_cong (suc B) _ (λ v. below c * one (all_rule true 0 v))
      (λ v q. mul_comm (one (all_rule true 0 v)) _
      ∙ ap (λ z. z * one (all_rule true 0 v)) (times_cong N _ _ (λ d m. alike v d (enc d))))
      ∙ tally_scale (suc B) (below c) (λ v. one (all_rule true 0 v)) ∙ ap (λ z. below c * z) all_places_lem
    where
      alike : (v d : ℕ) (κ : Option ℕ) → nested sc always most c v d κ ≡ nested sc always most c 0 d κ
      alike v d none = refl
      alike v d (some i) = refl

  -- a factor of such a product is not 0, where the counts of higher charts are not
  factor_pos : (c d : ℕ) → d < N → (c < d → 0 < most d) → (κ : Option ℕ) → enc d ≡ κ
      → 0 < nested sc always most c 0 d κ
  factor_pos c d l h none e = omega arith
  factor_pos c d l h (some i) e = go (same (sc i) c) refl
    where
      go : (b : Bool) → same (sc i) c ≡ b → 0 < cond (b && true) (most d) 1
      go true q = h (let low = lower d i l e in let z = same→≡ (sc i) c q in omega arith)
      go false q = omega arith

  most_pos : (f c : ℕ) → N ≤ f + c → c < N → 0 < most c
  most_pos zero c b l = absurd (omega arith)
  most_pos (suc f) c b l = rw (most_is c l) (mul-pos (product (λ d m k. most_pos f d (omega arith) m)) some-B)
    where
      product : ((d : ℕ) → d < N → c < d → 0 < most d) → 0 < below c
      product ih = unfold branch in times_pos N _ (λ d m. factor_pos c d m (λ k. ih d m k) (enc d) refl)

  pos : (c : ℕ) → c < N → 0 < most c
  pos c l = most_pos N c (omega arith) l

  pos_below : (c d : ℕ) → d < N → 0 < nested sc always most c 0 d (enc d)
  pos_below c d l = factor_pos c d l (λ k. pos d l) (enc d) refl

  pos_outside : (d : ℕ) → d < N → 0 < outside_only most d (enc d)
  pos_outside d l = go (enc d)
    where
      go : (κ : Option ℕ) → 0 < outside_only most d κ
      go none = pos d l
      go (some i) = omega arith

  below-le : (c : ℕ) → c < N → below c ≤ most c
  below-le c l = rw (most_is c l, mul_comm (below c) B) (grow B (below c) (below c) some-B (le_refl (below c)))

  -- its entries
  most_fits : (f c : ℕ) → c < f → c < N → most c ≤ B ^ N
  most_fits zero c p l = absurd (omega arith)
  most_fits (suc f) c p l = go (enc c) refl (λ m q. most_fits f m (omega arith) (omega arith))
    where
      in_total : enc c ≡ none → most c ≤ total_of N enc most
      in_total e =
          unfold total_of in
          subst (λ z. z ≤ times N (λ d. outside_only most d (enc d))) (ap (outside_only most c) e)
          (times_factor N (λ d. outside_only most d (enc d)) pos_outside c l)

      in_master : (i : ℕ) → enc c ≡ some i → most c ≤ below (sc i)
      in_master i e =
          unfold branch in
          subst (λ z. z ≤ times N (λ d. nested sc always most (sc i) 0 d (enc d)))
          (ap (nested sc always most (sc i) 0 c) e ∙ ap (λ b. cond (b && true) (most c) 1) (same_refl (sc i)))
          (times_factor N (λ d. nested sc always most (sc i) 0 d (enc d)) (pos_below (sc i)) c l)

      go : (κ : Option ℕ) → enc c ≡ κ → ((m : ℕ) → m < c → most m ≤ B ^ N) → most c ≤ B ^ N
      go none e ih = rw most_total at (in_total e)
      go (some i) e ih =
          let low = lower c i l e in let a = in_master i e in let b = below-le (sc i) (omega arith) in
          let h = ih (sc i) low in omega arith

  -- ── any count of no more than B ──

  module _ (last : ℕ → ℕ) (rule : Bool → ℕ → ℕ → Bool) (hits : ℕ → ℕ → Bool) (count : ℕ → ℕ)
      (cs : Counts N enc sc hits count last rule)
      (few : (c : ℕ) → c < N → tally (suc (last c)) (λ v. one (rule true c v)) ≤ B) where
    factor_le : (c v d : ℕ) → d < N → (c < d → count d ≤ most d) → (κ : Option ℕ) → enc d ≡ κ
        → nested sc hits count c v d κ ≤ nested sc always most c 0 d κ
    factor_le c v d l h none e = omega arith
    factor_le c v d l h (some i) e = go (same (sc i) c) refl (hits i v)
      where
        go : (b : Bool) → same (sc i) c ≡ b → (x : Bool) → cond (b && x) (count d) 1 ≤ cond (b && true) (most d) 1
        go true q true = h (let low = lower d i l e in let z = same→≡ (sc i) c q in omega arith)
        go true q false = pos d l
        go false q x = omega arith

    count-le : (f c : ℕ) → N ≤ f + c → c < N → count c ≤ most c
    count-le zero c b l = absurd (omega arith)
    count-le (suc f) c b l = least (λ d m k. count-le f d (omega arith) m)
      where
        least : ((d : ℕ) → d < N → c < d → count d ≤ most d) → count c ≤ most c
        least ih =
            unfold count_by in
            rw (cs c l, most_is c l) (chain
            (tally-le (suc (last c)) _ (λ v. below c * one (rule true c v)) (λ v q.
            subst (λ z. one (rule true c v) * branch N enc sc hits count c v ≤ z)
            (mul_comm (one (rule true c v)) (below c)) (mul-le-mul_left (one (rule true c v)) (product v))))
            (tally_scale (suc (last c)) (below c) (λ v. one (rule true c v))) (mul-le-mul_left (below c) (few c l)))
          where
            product : (v : ℕ) → branch N enc sc hits count c v ≤ below c
            product v = unfold branch in times-le N _ _ (λ d m. factor_le c v d m (λ k. ih d m k) (enc d) refl)

            chain : {x y z w : ℕ} → x ≤ y → y ≡ z → z ≤ w → x ≤ w
            chain p q r = omega arith

    le_most : (c : ℕ) → c < N → count c ≤ most c
    le_most c l = count-le N c (omega arith) l

    pub count_fits : (c : ℕ) → c < N → count c ≤ B ^ N
    count_fits c l = let a = le_most c l in let b = most_fits N c l l in omega arith

    -- a product over the first k charts
    pub branch_fits : (c v k : ℕ) → c < N → k ≤ N → times k (λ d. nested sc hits count c v d (enc d)) ≤ B ^ N
    unfolding branch
    branch_fits c v k l m =
        let made : ℕ → ℕ = λ d. nested sc hits count c v d (enc d) in
        let largest : ℕ → ℕ = λ d. nested sc always most c 0 d (enc d) in
        let a = times-le k made largest
        (λ d q. factor_le c v d (omega arith) (λ z. le_most d (omega arith)) (enc d) refl) in
        let b = times-part N k largest (pos_below c) m in
        let e = below-le c l in let h = most_fits N c l l in omega arith

    -- a sum over the first k places
    pub sum_fits : (c k : ℕ) → c < N → k ≤ suc (last c)
        → tally k (λ v. one (rule true c v) * branch N enc sc hits count c v) ≤ B ^ N
    unfolding count_by
    sum_fits c k l m =
        let a = tally_mono k (suc (last c)) (λ v. one (rule true c v) * branch N enc sc hits count c v) m in
        let e = cs c l in let h = count_fits c l in omega arith

    -- the total over the first k charts
    pub total-fits : (k : ℕ) → k ≤ N → times k (λ d. outside_only count d (enc d)) ≤ B ^ N
    total-fits k m =
        let made : ℕ → ℕ = λ d. outside_only count d (enc d) in
        let largest : ℕ → ℕ = λ d. outside_only most d (enc d) in
        let a = times-le k made largest (λ d q. go d (omega arith) (enc d)) in
        let b = times-part N k largest pos_outside m in let e = whole in omega arith
      where
        go : (d : ℕ) → d < N → (κ : Option ℕ) → outside_only count d κ ≤ outside_only most d κ
        go d l none = le_most d l
        go d l (some i) = omega arith

        whole : times N (λ d. outside_only most d (enc d)) ≡ B ^ N
        whole = unfold total_of in most_total
