-- Laws of the test of a guard. In this order: what the lowest signal of a set is (`lowest_in`, `lowest-first`), and
-- that nothing else is it (`lowest_is`); a guard is met exactly if no needed signal is missing and no barred one is
-- there (`guard_is`); and every answer says what it should, in words (`guard_shows`).
use Rattle.std.specs.Prelude.{◌≡◌, Bool, ◌&&◌, not, cond, ℕ, zero, suc, ◌+◌, ◌≤◌, ◌<◌, ◌^◌}
use Rattle.std.proofs.Math.Path.{refl}
use Rattle.std.proofs.Common.{sym, ap, ◌∙◌, true≢false, arith}
use Rattle.std.proofs.Math.Bool.{true, false}
use Rattle.std.proofs.lemmas.Bool.{false≢true}
use Rattle.std.proofs.Math.Decide.{dec_lt}
use borrow.Author.Tests.{eqb-true, eqb-false, not-true}
use Rattle.signals.specs.Mask.{◌∩◌, ◌∖◌, bit, within, apart}
use Rattle.signals.specs.Mask.Laws.{bit_cut, bit_less, bit-none, bit_high, ext}
use Rattle.signals.specs.Guard.{lowest_from, lowest, guard, is_met, LowestAbsent, LowestPresent, Shows}
use Rattle.signals.specs.declared.guard.Tested.TheVariants.{Met, Absent, Present}
use Rattle.signals.specs.Bools.{and_l, and_r, and_second}

-- ── the lowest signal of a set ──

-- of k signals from n on: it is in the set, if one is; none below it is
pub lowest_in : (k n m : ℕ) (s : ℕ) → n ≤ m → m < n + k → bit s m ≡ true → bit s (lowest_from k n s) ≡ true
unfolding lowest_from
lowest_in zero n m s l r h = absurd (omega arith)
lowest_in (suc k) n m s l r h = go (bit s n) refl (λ p q. lowest_in k (suc n) m s p q h)
  where
    go : (b : Bool) → bit s n ≡ b → (suc n ≤ m → m < suc n + k → bit s (lowest_from k (suc n) s) ≡ true)
        → bit s (cond b n (lowest_from k (suc n) s)) ≡ true
    go true e ih = e
    go false e ih = later (dec_lt n m) ih
      where
        later : Dec (n < m) → (suc n ≤ m → m < suc n + k → bit s (lowest_from k (suc n) s) ≡ true)
            → bit s (lowest_from k (suc n) s) ≡ true
        later (yes d) ih = ih (omega arith) (omega arith)
        later (no d) ih = let z : m ≡ n = omega arith in absurd (true≢false (sym h ∙ ap (bit s) z ∙ e))

pub lowest-first : (k n j : ℕ) (s : ℕ) → n ≤ j → j < lowest_from k n s → bit s j ≡ false
unfolding lowest_from
lowest-first zero n j s l r = absurd (omega arith)
lowest-first (suc k) n j s l r = go (bit s n) refl r (λ p q. lowest-first k (suc n) j s p q)
  where
    go : (b : Bool) → bit s n ≡ b → j < cond b n (lowest_from k (suc n) s)
        → (suc n ≤ j → j < lowest_from k (suc n) s → bit s j ≡ false) → bit s j ≡ false
    go true e r ih = absurd (omega arith)
    go false e r ih = later (dec_lt n j) ih
      where
        later : Dec (n < j) → (suc n ≤ j → j < lowest_from k (suc n) s → bit s j ≡ false) → bit s j ≡ false
        later (yes d) ih = ih (omega arith) r
        later (no d) ih = let z : j ≡ n = omega arith in ap (bit s) z ∙ e

-- a signal of the set with none below it
pub lowest_is : (n : ℕ) (s : ℕ) → n < 64 → bit s n ≡ true → ((j : ℕ) → j < n → bit s j ≡ false) → lowest s ≡ n
lowest_is n s l h below = go (dec_lt (lowest s) n) (dec_lt n (lowest s))
  where
    go : Dec (lowest s < n) → Dec (n < lowest s) → lowest s ≡ n
    go (yes d) e = absurd (true≢false (sym (lowest_in 64 0 n s (omega arith) l h) ∙ below (lowest s) d))
    go (no d) (yes e) = absurd (true≢false (sym h ∙ lowest-first 64 0 n s (omega arith) e))
    go (no d) (no e) = omega arith

-- a set of the 64 signals that is not empty has one
some_in : (s : ℕ) → ((n : ℕ) → 64 ≤ n → bit s n ≡ false) → (s ≡ 0 → ⊥) → bit s (lowest s) ≡ true
some_in s high h = go (bit s (lowest s)) refl
  where
    go : (b : Bool) → bit s (lowest s) ≡ b → bit s (lowest s) ≡ true
    go true e = e
    go false e = absurd (h (ext s 0 (λ n. none n (bit s n) refl (dec_lt n 64) ∙ sym (bit-none n))))
      where
        none : (n : ℕ) (b : Bool) → bit s n ≡ b → Dec (n < 64) → bit s n ≡ false
        none n true f (yes m) = absurd (true≢false (sym (lowest_in 64 0 n s (omega arith) m f) ∙ e))
        none n true f (no m) = high n (omega arith)
        none n false f d = f

-- ── the answer ──

pub guard_is : (needed barred i j : ℕ) → is_met (guard needed barred i j) ≡ (within needed i && apart barred j)
unfolding guard
guard_is needed barred i j = go (within needed i) (apart barred j) _ _
  where
    go : (a b : Bool) (x y : ℕ) → is_met (cond a (cond b Met (Present x)) (Absent y)) ≡ (a && b)
    go true true x y = refl
    go true false x y = refl
    go false b x y = refl

-- what is known of a digit of both, where one of them is 0
off_but : (a b : Bool) → (a && not b) ≡ false → a ≡ true → b ≡ true
off_but true true h e = refl
off_but true false h e = absurd (true≢false h)
off_but false b h e = absurd (false≢true e)

and_off : (a b : Bool) → a ≡ false → (a && b) ≡ false
and_off true b h = absurd (true≢false h)
and_off false b h = refl

module _ (needed barred i j : ℕ) (n-lt : needed < 2 ^ 64) (b_lt : barred < 2 ^ 64) where
  lowest_absent : within needed i ≡ false → LowestAbsent needed i (lowest (needed ∖ i))
  lowest_absent h =
      record {
        wanted = and_l _ _ there;
        missing = not-true _ (and_r (bit needed (lowest (needed ∖ i))) _ there);
        none-lower =
            λ k l. off_but (bit needed k) (bit i k)
            (sym (bit_less k needed i) ∙ lowest-first 64 0 k (needed ∖ i) (omega arith) l);
      }
    where
      there : (bit needed (lowest (needed ∖ i)) && not (bit i (lowest (needed ∖ i)))) ≡ true
      there =
          sym (bit_less (lowest (needed ∖ i)) needed i)
          ∙ some_in (needed ∖ i)
          (λ n l. bit_less n needed i ∙ and_off _ _ (bit_high 64 needed n n-lt l)) (eqb-false _ 0 h)

  lowest_present : apart barred j ≡ false → LowestPresent barred j (lowest (barred ∩ j))
  lowest_present h =
      record {
        unwanted = and_l _ _ there;
        there = and_r (bit barred (lowest (barred ∩ j))) _ there;
        none-lower =
            λ k l. and_second (bit barred k) (bit j k)
            (sym (bit_cut k barred j) ∙ lowest-first 64 0 k (barred ∩ j) (omega arith) l);
      }
    where
      there : (bit barred (lowest (barred ∩ j)) && bit j (lowest (barred ∩ j))) ≡ true
      there =
          sym (bit_cut (lowest (barred ∩ j)) barred j)
          ∙ some_in (barred ∩ j)
          (λ n l. bit_cut n barred j ∙ and_off _ _ (bit_high 64 barred n b_lt l)) (eqb-false _ 0 h)

  -- every answer says what it should
  pub guard_shows : Shows needed barred i j (guard needed barred i j)
  unfolding guard
  guard_shows = go (within needed i) refl (apart barred j) refl
    where
      go : (a : Bool) → within needed i ≡ a → (b : Bool) → apart barred j ≡ b
          → Shows needed barred i j (cond a (cond b Met (Present (lowest (barred ∩ j)))) (Absent (lowest (needed ∖ i))))
      go true e true f = (eqb-true _ 0 e, eqb-true _ 0 f)
      go true e false f = (eqb-true _ 0 e, lowest_present f)
      go false e b f = lowest_absent e
