-- How many choices keep the rules of all charts, where the rule of a chart looks at its activity and its own place
-- alone: counted from the highest chart down, and not one by one. It knows no transitions, and so no editions. In this
-- order: what a chart may do (Acts, Rules); the count as a table has it (`count_by`, Counts, `total_of`), which is
-- filled
-- from above (`count_above`), and of which there is one (`counts_same`, `the_counts`); how many completions a beginning
-- has, chart by chart (`completions`): that is a product over the charts that wait (`completions-front`), and so in all
-- the total (`completions-total`); a bound (`completions_most`); the places that begin no open choice (`spared`), that
-- no open choice has one (`open_spared`), and that a beginning without one can go on (`completes`).
use Rattle.std.specs.Prelude.{◌≡◌, Bool, ◌&&◌, ◌||◌, ◌⊎◌}
use Rattle.std.proofs.Math.Path.{refl, sym, ap, ap₂, subst}
use Rattle.std.proofs.Common.{◌∙◌, mul-one, mul_left_comm, mul-le-mul_left, mul-le-mul}
use Rattle.std.proofs.Math.Bool.{true, false, cond}
use Rattle.std.proofs.Math.Option.{Option, none, some}
use Rattle.std.proofs.Math.Logic.{⊎_elim}
use Prim.Native.Nat.{ℕ, zero, suc, ◌+◌, ◌*◌, ◌^◌, ◌≤◌, ◌<◌}
use Rattle.std.proofs.Math.Nat.{one-mul, mul_comm, pow-suc, pow-zero}
use native.Mathlib.Omega.{arith}
use borrow.Author.Tests.{ltb-true, ltb-false, lt-ltb, le-ltb}
use Rattle.std.proofs.Math.Dec.{ltb}
use Rattle.meaning.specs.Meaning.{same, upd}
use Rattle.meaning.specs.Sums.{tally, one}
use Rattle.meaning.specs.Sums.Laws.{below_suc, tally_cong, tally_scale, tally-le, tally_ge}
use Rattle.meaning.specs.Laws.Bools.{and_l, and_r, and_i, or_l, or_r, same_refl, same→≡, same_≢}
use Rattle.meaning.proofs.Laws.Choices.{upd-at, upd_off, Below}
use Rattle.wiring.specs.Product.{times, over, times_cong, times_pos, times-at}
use Rattle.wiring.specs.Product.{over_cong, over_mul, over_pos, over-all}

pub one-and : (a b : Bool) → one (a && b) ≡ one a * one b
one-and true true = refl
one-and true false = refl
one-and false b = omega arith

-- ── what a chart may do ──

-- last c: chart c's last place; enc c: the nearest slave that chart c is in; sc i: the master of slave i; rule a c v:
-- chart c, active or not by a, may take its place v; hits i v: slave i is active by its active master's place v;
-- act ch c: chart c is active in the choice ch

-- activity comes from the masters, which are lower
pub record Acts (N : ℕ) (enc : ℕ → Option ℕ) (sc : ℕ → ℕ) (hits : ℕ → ℕ → Bool) (act : (ℕ → ℕ) → ℕ → Bool)
    : Type 0 where
  pub lower : (c i : ℕ) → c < N → enc c ≡ some i → sc i < c
  pub outside : (ch : ℕ → ℕ) (c : ℕ) → c < N → enc c ≡ none → act ch c ≡ true
  pub inside : (ch : ℕ → ℕ) (c i : ℕ) → c < N → enc c ≡ some i → act ch c ≡ (act ch (sc i) && hits i (ch (sc i)))
  pub settled : (ch ch₂ : ℕ → ℕ) (c : ℕ) → c < N → Below c ch ch₂ → act ch₂ c ≡ act ch c

-- place w of chart c is one that a choice may have, and activates the slaves that place v does
pub record Alike (c last : ℕ) (sc : ℕ → ℕ) (rule : ℕ → Bool) (hits : ℕ → ℕ → Bool) (v : ℕ) : Type 0 where
  pub place : ℕ
  pub within : place ≤ last
  pub ruled : rule place ≡ true
  pub same-hits : (i : ℕ) → sc i ≡ c → hits i place ≡ hits i v

pub record Rules (N : ℕ) (last sc : ℕ → ℕ) (rule : Bool → ℕ → ℕ → Bool) (hits : ℕ → ℕ → Bool) : Type 0 where
  -- an inactive chart may do one thing
  pub idle : (c : ℕ) → c < N → tally (suc (last c)) (λ v. one (rule false c v)) ≡ 1
  -- what an active one may do, it may do at a place up to its last, and none of this while it is inactive
  pub reach : (c v : ℕ) → c < N → rule true c v ≡ true → Alike c (last c) sc (rule true c) hits v
  pub apart : (c v : ℕ) → rule true c v ≡ true → rule false c v ≡ false

-- ── the count, as a table has it ──

-- chart d's count, if d is nearest in a slave of c that place v activates
abbrev pub nested : (ℕ → ℕ) → (ℕ → ℕ → Bool) → (ℕ → ℕ) → ℕ → ℕ → ℕ → Option ℕ → ℕ
nested sc hits count c v d none = 1
nested sc hits count c v d (some i) = cond (same (sc i) c && hits i v) (count d) 1

abbrev pub outside_only : (ℕ → ℕ) → ℕ → Option ℕ → ℕ
outside_only count d none = count d
outside_only count d (some i) = 1

module _ (N : ℕ) (enc : ℕ → Option ℕ) where
  -- the product over the charts outside all slaves
  unfoldable pub total_of : (ℕ → ℕ) → ℕ
  total_of count = times N (λ d. outside_only count d (enc d))

  module _ (sc : ℕ → ℕ) (hits : ℕ → ℕ → Bool) (count : ℕ → ℕ) where
    -- the product over the charts that are nearest in slaves of c that place v activates
    unfoldable pub branch : ℕ → ℕ → ℕ
    branch c v = times N (λ d. nested sc hits count c v d (enc d))

    module _ (last : ℕ → ℕ) (rule : Bool → ℕ → ℕ → Bool) where
      -- the sum over the places that an active chart may take
      unfoldable pub count_by : ℕ → ℕ
      count_by c = tally (suc (last c)) (λ v. one (rule true c v) * branch c v)

      -- each entry is made of higher ones
      abbrev pub Counts : Type 0
      Counts = (c : ℕ) → c < N → count c ≡ count_by c

    -- place v is that of an inactive chart, or has open choices below it
    unfoldable pub spared : (Bool → ℕ → ℕ → Bool) → ℕ → ℕ → Bool
    spared rule c v = rule false c v || ltb 0 (branch c v)

    branch_alike : (c v w : ℕ) → ((i : ℕ) → sc i ≡ c → hits i w ≡ hits i v) → branch c w ≡ branch c v
    unfolding branch
    branch_alike c v w h = times_cong N _ _ (λ d l. go d (enc d))
      where
        by : (d i : ℕ) (b : Bool) → same (sc i) c ≡ b
            → cond (b && hits i w) (count d) 1 ≡ cond (b && hits i v) (count d) 1
        by d i true q = ap (λ x. cond x (count d) 1) (h i (same→≡ (sc i) c q))
        by d i false q = refl

        go : (d : ℕ) (κ : Option ℕ) → nested sc hits count c w d κ ≡ nested sc hits count c v d κ
        go d none = refl
        go d (some i) = by d i (same (sc i) c) refl

-- ── the table is filled from the highest chart down ──

module _ (N : ℕ) (enc : ℕ → Option ℕ) (sc : ℕ → ℕ) (hits : ℕ → ℕ → Bool)
    (lower : (c i : ℕ) → c < N → enc c ≡ some i → sc i < c) where
  -- what is made for chart c looks at higher charts alone, so that an entry written later changes nothing
  pub nested_above : (t u : ℕ → ℕ) (c v : ℕ) → ((d : ℕ) → c < d → d < N → t d ≡ u d) → (d : ℕ) → d < N
      → nested sc hits t c v d (enc d) ≡ nested sc hits u c v d (enc d)
  nested_above t u c v h d l = go (enc d) refl
    where
      go : (κ : Option ℕ) → enc d ≡ κ → nested sc hits t c v d κ ≡ nested sc hits u c v d κ
      go none e = refl
      go (some i) e = by (same (sc i) c) refl
        where
          by : (b : Bool) → same (sc i) c ≡ b → cond (b && hits i v) (t d) 1 ≡ cond (b && hits i v) (u d) 1
          by true q =
              let low = lower d i l e in let z = same→≡ (sc i) c q in
              ap (λ x. cond (hits i v) x 1) (h d (omega arith) l)
          by false q = refl

  pub branch_above : (t u : ℕ → ℕ) (c v : ℕ) → ((d : ℕ) → c < d → d < N → t d ≡ u d)
      → branch N enc sc hits t c v ≡ branch N enc sc hits u c v
  unfolding branch
  branch_above t u c v h = times_cong N _ _ (nested_above t u c v h)

  module _ (last : ℕ → ℕ) (rule : Bool → ℕ → ℕ → Bool) where
    pub count_above : (t u : ℕ → ℕ) (c : ℕ) → ((d : ℕ) → c < d → d < N → t d ≡ u d)
        → count_by N enc sc hits t last rule c ≡ count_by N enc sc hits u last rule c
    unfolding count_by
    count_above t u c h =
        tally_cong (suc (last c)) _ _ (λ v l. ap (λ x. one (rule true c v) * x) (branch_above t u c v h))

    -- two tables that are right are equal
    pub counts_same : (t u : ℕ → ℕ) → Counts N enc sc hits t last rule → Counts N enc sc hits u last rule
        → (c : ℕ) → c < N → t c ≡ u c
    counts_same t u p q c l = go N c (omega arith) l
      where
        go : (f c : ℕ) → N ≤ f + c → c < N → t c ≡ u c
        go zero c b l = absurd (omega arith)
        go (suc f) c b l = p c l ∙ count_above t u c (λ d m n. go f d (omega arith) n) ∙ sym (q c l)

    -- and there is one: f rounds are enough for chart c where N ≤ f + c
    unfoldable count_in : ℕ → ℕ → ℕ
    count_in zero c = zero
    count_in (suc f) c = count_by N enc sc hits (count_in f) last rule c

    count_in_enough : (f g c : ℕ) → N ≤ f + c → N ≤ g + c → c < N → count_in f c ≡ count_in g c
    unfolding count_in
    count_in_enough zero g c a b l = absurd (omega arith)
    count_in_enough (suc f) zero c a b l = absurd (omega arith)
    count_in_enough (suc f) (suc g) c a b l =
        count_above (count_in f) (count_in g) c (λ d m n. count_in_enough f g d (omega arith) (omega arith) n)

    pub the_count : ℕ → ℕ
    the_count c = count_in N c

    pub the_counts : Counts N enc sc hits the_count last rule
    unfolding the_count
    the_counts c l = count_in_enough N (suc N) c (omega arith) (omega arith) l ∙ unfold count_in in refl

-- ── completions of a beginning ──

module _ (last : ℕ → ℕ) (rule : Bool → ℕ → ℕ → Bool) (act : (ℕ → ℕ) → ℕ → Bool) where
  -- chart c's rule holds in ch
  unfoldable pub local : (ℕ → ℕ) → ℕ → Bool
  local ch c = rule (act ch c) c (ch c)

  -- charts below k are settled, n are left
  unfoldable pub completions : ℕ → ℕ → (ℕ → ℕ) → ℕ
  completions zero k ch = 1
  completions (suc n) k ch =
      tally (suc (last k)) (λ v. one (local (upd ch k v) k) * completions n (suc k) (upd ch k v))

module _ (N : ℕ) (last : ℕ → ℕ) (enc : ℕ → Option ℕ) (sc : ℕ → ℕ) (rule : Bool → ℕ → ℕ → Bool) (hits : ℕ → ℕ → Bool)
    (act : (ℕ → ℕ) → ℕ → Bool) (ac : Acts N enc sc hits act) (ru : Rules N last sc rule hits) where
  -- chart k's rule, where its place is v
  local_at : (ch : ℕ → ℕ) (k v : ℕ) → k < N → local last rule act (upd ch k v) k ≡ rule (act ch k) k v
  unfolding local
  local_at ch k v l =
      ap₂ (λ a w. rule a k w) (ac.settled ch (upd ch k v) k l (λ i m. upd_off ch k v i m)) (upd-at ch k v)

  pub local-below : (ch ch₂ : ℕ → ℕ) (c : ℕ) → c < N → Below (suc c) ch ch₂
      → local last rule act ch₂ c ≡ local last rule act ch c
  unfolding local
  local-below ch ch₂ c l b =
      ap₂ (λ a w. rule a c w) (ac.settled ch ch₂ c l (λ i m. b i (omega arith))) (b c (omega arith))

  -- ── a bound ──

  pub completions_most : (B : ℕ)
      → ((a : Bool) (c : ℕ) → c < N → tally (suc (last c)) (λ v. one (rule a c v)) ≤ B)
      → (n k : ℕ) (ch : ℕ → ℕ) → n + k ≡ N → completions last rule act n k ch ≤ B ^ n
  unfolding completions
  completions_most B h zero k ch e = rw pow-zero (omega arith)
  completions_most B h (suc n) k ch e =
      rw pow-suc (fewer (tally-le (suc (last k)) _ (λ v. B ^ n * one (rule (act ch k) k v)) (λ v l.
      rw (
        local_at ch k v (omega arith),
        mul_comm (one (rule (act ch k) k v)) (completions last rule act n (suc k) (upd ch k v)),
      )
      (mul-le-mul (completions_most B h n (suc k) (upd ch k v) (omega arith))
      (let z : one (rule (act ch k) k v) ≤ one (rule (act ch k) k v) = omega arith in z))))
      (tally_scale (suc (last k)) (B ^ n) (λ v. one (rule (act ch k) k v)))
      (mul-le-mul_left (B ^ n) (h (act ch k) k (omega arith))))
    where
      fewer : {x y z w : ℕ} → x ≤ y → y ≡ z → z ≤ w → x ≤ w
      fewer p q r = omega arith

  -- ── the count is how many completions there are ──

  module _ (count : ℕ → ℕ) (cs : Counts N enc sc hits count last rule) where
    abbrev branch_c : ℕ → ℕ → ℕ
    branch_c = branch N enc sc hits count

    -- chart d waits where its master is settled: its count, if it is active
    abbrev pub waits : ℕ → (ℕ → ℕ) → ℕ → Option ℕ → ℕ
    waits k ch d none = count d
    waits k ch d (some i) = cond (ltb (sc i) k && act ch d) (count d) 1

    unfoldable pub front : ℕ → (ℕ → ℕ) → ℕ → ℕ
    front k ch d = waits k ch d (enc d)

    -- the next chart itself
    front-own : (k : ℕ) (ch : ℕ → ℕ) → k < N → front k ch k ≡ cond (act ch k) (count k) 1
    unfolding front
    front-own k ch l = go (enc k) refl
      where
        go : (κ : Option ℕ) → enc k ≡ κ → waits k ch k κ ≡ cond (act ch k) (count k) 1
        go none e = sym (ap (λ a. cond a (count k) 1) (ac.outside ch k l e))
        go (some i) e = ap (λ b. cond (b && act ch k) (count k) 1) (lt-ltb (sc i) k (ac.lower k i l e))

    -- activity of chart d, whose master is settled
    act_old : (k v d i : ℕ) (ch : ℕ → ℕ) → d < N → enc d ≡ some i → sc i < k → act (upd ch k v) d ≡ act ch d
    act_old k v d i ch l e m =
        let low = ac.lower d i l e in
        let old = ac.settled ch (upd ch k v) (sc i) (omega arith) (λ j q. upd_off ch k v j (omega arith)) in
        ac.inside (upd ch k v) d i l e
        ∙ ap₂ (λ a w. a && hits i w) old (upd_off ch k v (sc i) m)
        ∙ sym (ac.inside ch d i l e)

    -- and of one whose master is settled now
    act_new : (k v d i : ℕ) (ch : ℕ → ℕ) → d < N → enc d ≡ some i → sc i ≡ k
        → act (upd ch k v) d ≡ (act ch k && hits i v)
    act_new k v d i ch l e m =
        let low = ac.lower d i l e in
        let old = ac.settled ch (upd ch k v) k (omega arith) (λ j q. upd_off ch k v j q) in
        ac.inside (upd ch k v) d i l e
        ∙ ap (λ z. act (upd ch k v) z && hits i (upd ch k v z)) m
        ∙ ap₂ (λ a w. a && hits i w) old (upd-at ch k v)

    -- settling chart k at v: the charts in its slaves that v activates wait too
    front-next : (k v d : ℕ) (ch : ℕ → ℕ) → k < d → d < N → act ch k ≡ true
        → front (suc k) (upd ch k v) d ≡ front k ch d * nested sc hits count k v d (enc d)
    unfolding front
    front-next k v d ch kd l a = go (enc d) refl
      where
        go : (κ : Option ℕ) → enc d ≡ κ
            → waits (suc k) (upd ch k v) d κ ≡ waits k ch d κ * nested sc hits count k v d κ
        go none e = sym (mul-one (count d))
        go (some i) e = by (below_suc (sc i) k) (ltb (sc i) (suc k)) refl
          where
            by : ((sc i < suc k) → (sc i ≡ k) ⊎ (sc i < k)) → (b : Bool) → ltb (sc i) (suc k) ≡ b
                → cond (b && act (upd ch k v) d) (count d) 1
                ≡ cond (ltb (sc i) k && act ch d) (count d) 1 * cond (same (sc i) k && hits i v) (count d) 1
            by f true q =
                ⊎_elim
                (λ (m : sc i ≡ k). rw (act_new k v d i ch l e m, a, le-ltb (sc i) k (omega arith), m, same_refl k)
                (sym (one-mul (cond (hits i v) (count d) 1))))
                (λ (m : sc i < k).
                rw (act_old k v d i ch l e m, lt-ltb (sc i) k m, same_≢ (sc i) k (λ z. omega arith))
                (sym (mul-one (cond (act ch d) (count d) 1))))
                (f (ltb-true (sc i) (suc k) q))
            by f false q =
                let z = ltb-false (sc i) (suc k) q in
                rw (le-ltb (sc i) k (omega arith), same_≢ (sc i) k (λ w. omega arith))

    -- settling an inactive chart: none
    front-idle : (k v d : ℕ) (ch : ℕ → ℕ) → k < d → d < N → act ch k ≡ false
        → front (suc k) (upd ch k v) d ≡ front k ch d
    unfolding front
    front-idle k v d ch kd l a = go (enc d) refl
      where
        go : (κ : Option ℕ) → enc d ≡ κ → waits (suc k) (upd ch k v) d κ ≡ waits k ch d κ
        go none e = refl
        go (some i) e = by (below_suc (sc i) k) (ltb (sc i) (suc k)) refl
          where
            by : ((sc i < suc k) → (sc i ≡ k) ⊎ (sc i < k)) → (b : Bool) → ltb (sc i) (suc k) ≡ b
                → cond (b && act (upd ch k v) d) (count d) 1 ≡ cond (ltb (sc i) k && act ch d) (count d) 1
            by f true q =
                ⊎_elim
                (λ (m : sc i ≡ k). rw (act_new k v d i ch l e m, a, le-ltb (sc i) k (omega arith)))
                (λ (m : sc i < k). rw (act_old k v d i ch l e m, lt-ltb (sc i) k m))
                (f (ltb-true (sc i) (suc k) q))
            by f false q = let z = ltb-false (sc i) (suc k) q in rw (le-ltb (sc i) k (omega arith))

    -- the charts above k alone
    branch-over : (n k v : ℕ) → suc n + k ≡ N
        → over n (suc k) (λ d. nested sc hits count k v d (enc d)) ≡ branch_c k v
    unfolding branch
    branch-over n k v e = over-all N n (suc k) _ (omega arith) (λ d l. go d l (enc d) refl)
      where
        go : (d : ℕ) → d < suc k → (κ : Option ℕ) → enc d ≡ κ → nested sc hits count k v d κ ≡ 1
        go d l none q = refl
        go d l (some i) q =
            let low = ac.lower d i (omega arith) q in rw (same_≢ (sc i) k (λ z. omega arith))

    -- the completions of a beginning: the product over the charts that wait
    pub completions-front : (n k : ℕ) (ch : ℕ → ℕ) → n + k ≡ N
        → completions last rule act n k ch ≡ over n k (front k ch)
    unfolding completions over
    completions-front zero k ch e = refl
    completions-front (suc n) k ch e =
        tally_cong (suc (last k)) _
        (λ v. one (rule (act ch k) k v) * over n (suc k) (front (suc k) (upd ch k v)))
        (λ v l. ap₂ (λ a x. one a * x) (local_at ch k v (omega arith))
        (completions-front n (suc k) (upd ch k v) (omega arith)))
        ∙ settle (act ch k) refl
      where
        rest : ℕ
        rest = over n (suc k) (front k ch)

        settle : (a : Bool) → act ch k ≡ a
            → tally (suc (last k)) (λ v. one (rule a k v) * over n (suc k) (front (suc k) (upd ch k v)))
            ≡ front k ch k * over n (suc k) (front k ch)
        settle true a =
            tally_cong (suc (last k)) _ (λ v. rest * (one (rule true k v) * branch_c k v))
            (λ v l. ap (λ x. one (rule true k v) * x)
            (over_cong n (suc k) _ (λ d. front k ch d * nested sc hits count k v d (enc d))
            (λ d p q. front-next k v d ch (omega arith) (omega arith) a)
            ∙ over_mul n (suc k) (front k ch) (λ d. nested sc hits count k v d (enc d))
            ∙ ap (λ x. rest * x) (branch-over n k v e))
            ∙ mul_left_comm (one (rule true k v)) rest (branch_c k v))
            ∙ tally_scale (suc (last k)) rest (λ v. one (rule true k v) * branch_c k v)
            ∙ mul_comm rest (tally (suc (last k)) (λ v. one (rule true k v) * branch_c k v))
            ∙ ap (λ x. x * rest) (sym (front-own k ch (omega arith) ∙ ap (λ b. cond b (count k) 1) a ∙ counted))
          where
            counted : count k ≡ tally (suc (last k)) (λ v. one (rule true k v) * branch_c k v)
            counted = unfold count_by in cs k (omega arith)
        settle false a =
            tally_cong (suc (last k)) _ (λ v. rest * one (rule false k v))
            (λ v l. ap (λ x. one (rule false k v) * x)
            (over_cong n (suc k) _ (front k ch) (λ d p q. front-idle k v d ch (omega arith) (omega arith) a))
            ∙ mul_comm (one (rule false k v)) rest)
            ∙ tally_scale (suc (last k)) rest (λ v. one (rule false k v))
            ∙ ap (λ x. rest * x) (ru.idle k (omega arith)) ∙ mul_comm rest 1
            ∙ ap (λ x. x * rest) (sym (front-own k ch (omega arith) ∙ ap (λ b. cond b (count k) 1) a))

    pub completions-total : (ch : ℕ → ℕ) → completions last rule act N zero ch ≡ total_of N enc count
    unfolding total_of front
    completions-total ch =
        completions-front N zero ch (omega arith)
        ∙ over-all N N zero (front zero ch) (omega arith) (λ d l. absurd (omega arith))
        ∙ times_cong N (front zero ch) _ (λ d l. go d (enc d))
      where
        go : (d : ℕ) (κ : Option ℕ) → waits zero ch d κ ≡ outside_only count d κ
        go d none = refl
        go d (some i) = rw (le-ltb (sc i) zero (omega arith))

    -- ── places that begin no open choice ──

    count_pos : (c v : ℕ) → c < N → rule true c v ≡ true → 0 < branch_c c v → 0 < count c
    unfolding count_by
    count_pos c v l h b = at (ru.reach c v l h)
      where
        at : Alike c (last c) sc (rule true c) hits v → 0 < count c
        at a =
            let z = a.within in
            let e = branch_alike N enc sc hits count c v a.place a.same-hits in
            let here : 0 < one (rule true c a.place) * branch_c c a.place = rw (a.ruled, one-mul, e) b in
            let term : ℕ → ℕ = λ v. one (rule true c v) * branch_c c v in
            rw (cs c l) (omega (arith, tally_ge (suc (last c)) term a.place (omega arith), here))

    module _ (ch : ℕ → ℕ) (o : (c : ℕ) → c < N → local last rule act ch c ≡ true) where
      rule_at_lem : (c : ℕ) → c < N → (a : Bool) → act ch c ≡ a → rule a c (ch c) ≡ true
      unfolding local
      rule_at_lem c l a e = ap (λ b. rule b c (ch c)) (sym e) ∙ o c l

      -- f charts are above c
      branch_pos : (f c : ℕ) → N ≤ f + c → c < N → act ch c ≡ true → 0 < branch_c c (ch c)
      unfolding branch
      branch_pos zero c b l a = absurd (omega arith)
      branch_pos (suc f) c b l a =
          times_pos N _ (λ d m. go d m (enc d) refl (λ q p. branch_pos f d (omega arith) m p))
        where
          go : (d : ℕ) → d < N → (κ : Option ℕ) → enc d ≡ κ
              → (c < d → act ch d ≡ true → 0 < branch_c d (ch d)) → 0 < nested sc hits count c (ch c) d κ
          go d m none e ih = omega arith
          go d m (some i) e ih = by (same (sc i) c) refl (hits i (ch c)) refl
            where
              by : (x : Bool) → same (sc i) c ≡ x → (y : Bool) → hits i (ch c) ≡ y → 0 < cond (x && y) (count d) 1
              by false p y q = omega arith
              by true p false q = omega arith
              by true p true q =
                  let z : sc i ≡ c = same→≡ (sc i) c p in
                  let low = ac.lower d i m e in
                  let w : act ch d ≡ true =
                  ac.inside ch d i m e ∙ ap (λ k. act ch k && hits i (ch k)) z ∙ and_i a q in
                  count_pos d (ch d) m (rule_at_lem d m true w) (ih (omega arith) w)

      -- an open choice has none of them
      pub open_spared : (c : ℕ) → c < N → spared N enc sc hits count rule c (ch c) ≡ true
      unfolding spared
      open_spared c l = go (act ch c) refl
        where
          go : (a : Bool) → act ch c ≡ a → (rule false c (ch c) || ltb 0 (branch_c c (ch c))) ≡ true
          go true e =
              or_r (rule false c (ch c)) _ (lt-ltb 0 (branch_c c (ch c)) (branch_pos N c (omega arith) l e))
          go false e = or_l _ (ltb 0 (branch_c c (ch c))) (rule_at_lem c l false e)

    branch-at : (c v d : ℕ) → d < N → 0 < branch_c c v → 0 < nested sc hits count c v d (enc d)
    unfolding branch
    branch-at c v d l h = times-at N (λ d. nested sc hits count c v d (enc d)) h d l

    -- the first k charts keep their rules, and none has such a place
    abbrev pub Free : (ℕ → ℕ) → ℕ → Type 0
    Free ch k =
        (c : ℕ) → c < k
        → (local last rule act ch c ≡ true) × (spared N enc sc hits count rule c (ch c) ≡ true)

    -- where there are open choices at all, such a beginning goes on to one
    pub completes : (n k : ℕ) (ch : ℕ → ℕ) → n + k ≡ N → 0 < total_of N enc count → Free ch k
        → 0 < completions last rule act n k ch
    completes n k ch e t g =
        rw (completions-front n k ch e) (over_pos n k (front k ch) (λ d p q. waiting d (omega arith)))
      where
        -- below the place of an active settled chart there are open choices
        free : (c : ℕ) → c < k → act ch c ≡ true → 0 < branch_c c (ch c)
        free c l a =
            unfold local spared in
            (let h : rule true c (ch c) ≡ true = ap (λ b. rule b c (ch c)) (sym a) ∙ (g c l).0 in
            ltb-true 0 (branch_c c (ch c))
            (sym (ap (λ b. b || ltb 0 (branch_c c (ch c))) (ru.apart c (ch c) h)) ∙ (g c l).1))

        waiting : (d : ℕ) → d < N → 0 < front k ch d
        waiting d l = unfold front in go (enc d) refl
          where
            go : (κ : Option ℕ) → enc d ≡ κ → 0 < waits k ch d κ
            go none q =
                unfold total_of in
                subst (λ κ. 0 < outside_only count d κ) q (times-at N (λ d. outside_only count d (enc d)) t d l)
            go (some i) q = by (ltb (sc i) k) refl (act ch d) refl
              where
                by : (x : Bool) → ltb (sc i) k ≡ x → (y : Bool) → act ch d ≡ y → 0 < cond (x && y) (count d) 1
                by false p y r = omega arith
                by true p false r = omega arith
                by true p true r =
                    let h : (act ch (sc i) && hits i (ch (sc i))) ≡ true = sym (ac.inside ch d i l q) ∙ r in
                    let u = branch-at (sc i) (ch (sc i)) d l (free (sc i) (ltb-true (sc i) k p) (and_l _ _ h)) in
                    rw (same_refl (sc i), and_r (act ch (sc i)) _ h)
                    at (subst (λ κ. 0 < nested sc hits count (sc i) (ch (sc i)) d κ) q u)
