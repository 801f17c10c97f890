-- The call signals: no two slaves have the same (`call_inj`), none is in a set of the file (`call-old`), and each is
-- the lowest number left, which no other is (`call_is`). In this order: unions; the numbers that a set lacks; the
-- calls; sets of the file.
use Rattle.std.specs.Prelude.{◌≡◌, Bool, cond, ◌⊎◌, ◌↔◌}
use Rattle.std.proofs.Math.Path.{refl, sym, ap}
use Rattle.std.proofs.Common.{◌∙◌, true≢false, lit<, inl, inr}
use Rattle.std.proofs.Math.Bool.{true, false}
use mathlib.Core.List.{List, [], ◌∷◌, ◌++◌}
use Prim.Native.Nat.{ℕ, zero, suc, ◌+◌, ◌^◌, ◌<◌}
use native.Mathlib.Omega.{arith}
use Rattle.std.proofs.Math.Decide.{dec_lt}
use Rattle.std.proofs.Math.ListN.{length, get_or, length-append, get_or-append, get_or-eq_default}
use Rattle.std.proofs.Math.Seq.{get_or_at}
use Rattle.signals.specs.Mask.{◌∪◌, ◌∖◌, bit, single}
use Rattle.signals.specs.Mask.Laws.{bit_high, union_lt, single-apart}
use Rattle.signals.specs.Decide.{Claim, sets, A, B, C, D, E as Eₑ, ◌∪ₑ◌, ◌⊑◌, ◌⊥ₑ◌}
use Rattle.layout.specs.declared.record.Transition.{Transition}
use Rattle.meaning.specs.Meaning.{Set, ∅, guards, actions}
use Rattle.meaning.specs.File.{File}
use Rattle.meaning.specs.Sums.Laws.{below_suc}
use Rattle.meaning.specs.Rewriting.{union_up_to, lacking, used, free, call, LowestLeft}
use Rattle.meaning.proofs.Rewriting.Laws.{union_in}
use Rattle.agreement.specs.Same.{Old}
use Rattle.agreement.specs.Charts.{OldTs, OldChart}
use Rattle.std.proofs.Math.Logic.{⊎_elim}

-- ── unionUpTo ──

pub union_small : (k : ℕ) (g : ℕ → Set) → ((i : ℕ) → i < k → g i < 2 ^ 64) → union_up_to k g < 2 ^ 64
unfolding union_up_to
union_small zero g h = lit< tt
union_small (suc k) g h =
    union_lt 64 (union_up_to k g) (g k) (union_small k g (λ i l. h i (omega arith))) (h k (omega arith))

-- ── lacking ──

module _ (s : Set) where
  pub lacking_is : (n i d : ℕ) → i < length (lacking s n)
      → (get_or (lacking s n) i d < n) × (bit s (get_or (lacking s n) i d) ≡ false)
  unfolding lacking
  lacking_is zero i d l = absurd (omega arith)
  lacking_is (suc n) i d l = go (bit s n) refl l (λ h. lacking_is n i d h)
    where
      go : (b : Bool) → bit s n ≡ b → i < length (cond b (lacking s n) (lacking s n ++ (n ∷ [])))
          → (i < length (lacking s n) → (get_or (lacking s n) i d < n) × (bit s (get_or (lacking s n) i d) ≡ false))
          → (get_or (cond b (lacking s n) (lacking s n ++ (n ∷ []))) i d < suc n)
          × (bit s (get_or (cond b (lacking s n) (lacking s n ++ (n ∷ []))) i d) ≡ false)
      go true e l r = let u = r l in ((let h = u.0 in omega arith), u.1)
      go false e l r = cases (dec_lt i (length (lacking s n)))
        where
          cases : Dec (i < length (lacking s n))
              → (get_or (lacking s n ++ (n ∷ [])) i d < suc n) × (bit s (get_or (lacking s n ++ (n ∷ [])) i d) ≡ false)
          cases (yes h) = let u = r h in
              rw (get_or-append (lacking s n) (n ∷ []) d i h) ((let v = u.0 in omega arith), u.1)
          cases (no h) = let t = length-append (lacking s n) (n ∷ []) in
              let z : length (lacking s n) ≡ i = omega arith in
              rw (get_or_at (lacking s n) n [] d i z) (omega arith, e)

  pub lacking_rise : (n i j d : ℕ) → i < j → j < length (lacking s n)
      → get_or (lacking s n) i d < get_or (lacking s n) j d
  unfolding lacking
  lacking_rise zero i j d l m = absurd (omega arith)
  lacking_rise (suc n) i j d l m = go (bit s n) m (λ h. lacking_rise n i j d l h)
    where
      go : (b : Bool) → j < length (cond b (lacking s n) (lacking s n ++ (n ∷ [])))
          → (j < length (lacking s n) → get_or (lacking s n) i d < get_or (lacking s n) j d)
          → get_or (cond b (lacking s n) (lacking s n ++ (n ∷ []))) i d
          < get_or (cond b (lacking s n) (lacking s n ++ (n ∷ []))) j d
      go true m r = r m
      go false m r = cases (dec_lt j (length (lacking s n)))
        where
          cases : Dec (j < length (lacking s n))
              → get_or (lacking s n ++ (n ∷ [])) i d < get_or (lacking s n ++ (n ∷ [])) j d
          cases (yes h) = rw (
            get_or-append (lacking s n) (n ∷ []) d i (omega arith),
            get_or-append (lacking s n) (n ∷ []) d j h,
          ) (r h)
          cases (no h) = let t = length-append (lacking s n) (n ∷ []) in
              let z : length (lacking s n) ≡ j = omega arith in
              rw (get_or_at (lacking s n) n [] d j z, get_or-append (lacking s n) (n ∷ []) d i (omega arith))
              (lacking_is n i d (omega arith)).0

  -- each number that the set lacks is there
  pub lacking-all : (n k : ℕ) → k < n → bit s k ≡ false
      → (i : ℕ) × (i < length (lacking s n)) × ((d : ℕ) → get_or (lacking s n) i d ≡ k)
  unfolding lacking
  lacking-all zero k l e = absurd (omega arith)
  lacking-all (suc n) k l e = go (bit s n) refl (λ m. lacking-all n k m e)
    where
      go : (b : Bool) → bit s n ≡ b
          → (k < n → (i : ℕ) × (i < length (lacking s n)) × ((d : ℕ) → get_or (lacking s n) i d ≡ k))
          → (i : ℕ) × (i < length (cond b (lacking s n) (lacking s n ++ (n ∷ []))))
          × ((d : ℕ) → get_or (cond b (lacking s n) (lacking s n ++ (n ∷ []))) i d ≡ k)
      go true q r = r (⊎_elim (λ z. absurd (true≢false (sym q ∙ ap (bit s) (sym z) ∙ e))) (λ m. m) (below_suc k n l))
      go false q r = ⊎_elim
          (λ z. (
            length (lacking s n),
            (let t = length-append (lacking s n) (n ∷ []) in omega arith),
            λ d. get_or_at (lacking s n) n [] d (length (lacking s n)) refl ∙ sym z,
          ))
          (λ m. let u = r m in (
            u.0,
            (let t = length-append (lacking s n) (n ∷ []) in let h = u.1 in omega arith),
            λ d. get_or-append (lacking s n) (n ∷ []) d u.0 u.1 ∙ u.2 d,
          ))
          (below_suc k n l)

get_d_any : (l : List ℕ) (i a b : ℕ) → i < length l → get_or l i a ≡ get_or l i b
get_d_any [] i a b h = absurd (omega arith)
get_d_any (x ∷ l) zero a b h = refl
get_d_any (x ∷ l) (suc i) a b h = get_d_any l i a b (omega arith)

-- ── the calls ──

module _ (F : File) where
  pub call_lt : (i j : ℕ) → i < j → call F i < call F j
  unfolding call free
  call_lt i j l = go (dec_lt i (length L)) (dec_lt j (length L))
    where
      L : List ℕ
      L = lacking (used F) 64

      go : Dec (i < length L) → Dec (j < length L) → get_or L i (64 + i) < get_or L j (64 + j)
      go (yes a) (yes b) =
          rw (get_d_any L i (64 + i) 0 a, get_d_any L j (64 + j) 0 b) (lacking_rise (used F) 64 i j 0 l b)
      go (yes a) (no b) = let u = (lacking_is (used F) 64 i (64 + i) a).0 in
          rw (get_or-eq_default L (64 + j) {n = j} (omega arith)) (omega arith)
      go (no a) (yes b) = absurd (omega arith)
      go (no a) (no b) = rw
          (get_or-eq_default L (64 + i) {n = i} (omega arith), get_or-eq_default L (64 + j) {n = j} (omega arith))
          (omega arith)

  pub call_inj : (i j : ℕ) → call F i ≡ call F j → i ≡ j
  call_inj i j e = go (dec_lt i j) (dec_lt j i)
    where
      go : Dec (i < j) → Dec (j < i) → i ≡ j
      go (yes a) b = absurd (let u = call_lt i j a in omega arith)
      go (no a) (yes b) = absurd (let u = call_lt j i b in omega arith)
      go (no a) (no b) = omega arith

  -- where 40 does not apply, a call signal is a signal
  pub call-small : (i : ℕ) → i < length (free F) → call F i < 64
  unfolding call free
  call-small i l = (lacking_is (used F) 64 i (64 + i) l).0

  -- and the lowest that is neither used nor an earlier slave's
  pub call-lowest : (i : ℕ) → i < length (free F) → (k : ℕ) → k < call F i → bit (used F) k ≡ false
      → (j : ℕ) × (j < i) × (call F j ≡ k)
  unfolding call free
  call-lowest i l k m e =
      let u = lacking-all (used F) 64 k (let h = (lacking_is (used F) 64 i (64 + i) l).0 in omega arith) e in
      (u.0, earlier u.0 u.1 (u.2 (64 + u.0)) (dec_lt u.0 i), u.2 (64 + u.0))
    where
      L : List ℕ
      L = lacking (used F) 64

      earlier : (j : ℕ) → j < length L → get_or L j (64 + j) ≡ k → Dec (j < i) → j < i
      earlier j h q (yes a) = a
      earlier j h q (no a) = absurd (not_later (dec_lt i j))
        where
          not_later : Dec (i < j) → ⊥
          not_later (yes b) = let r = lacking_rise (used F) 64 i j (64 + i) b h in
              let g = get_d_any L j (64 + i) (64 + j) h in omega arith
          not_later (no b) = let z : i ≡ j = omega arith in
              let y : get_or L i (64 + i) ≡ get_or L j (64 + j) = ap (λ n. get_or L n (64 + n)) z in
              omega arith

  free_unused : (i : ℕ) → i < length (free F) → bit (used F) (call F i) ≡ false
  unfolding call free
  free_unused i l = (lacking_is (used F) 64 i (64 + i) l).1

  call-left : (i : ℕ) → i < length (free F) → LowestLeft F i (call F i)
  call-left i l =
      record {
        unused = free_unused i l;
        left = λ k m e. absurd (let u = call_lt k i m in omega arith);
        lower = λ j m. go j m (bit (used F) j) refl;
      }
    where
      go : (j : ℕ) → j < call F i → (b : Bool) → bit (used F) j ≡ b → (b ≡ true) ⊎ ((k : ℕ) × (k < i) × (call F k ≡ j))
      go j m true e = inl refl
      go j m false e = inr (call-lowest i l j m e)

  -- a number is the call signal of slave i exactly if it is the lowest that is left
  pub call_is : (i : ℕ) → i < length (free F) → (m : ℕ) → (m ≡ call F i) ↔ LowestLeft F i m
  call_is i l m = (λ e. rw e (call-left i l), λ h. go h (dec_lt m (call F i)) (dec_lt (call F i) m))
    where
      go : LowestLeft F i m → Dec (m < call F i) → Dec (call F i < m) → m ≡ call F i
      go h (yes a) b = absurd (let u = call-lowest i l m a h.unused in h.left u.0 u.1 u.2)
      go h (no a) (yes b) =
          absurd (⊎_elim (λ e. true≢false (sym e ∙ free_unused i l))
          (λ u. let z = call_inj u.0 i u.2 in let q = u.1 in omega arith) (h.lower (call F i) b))
      go h (no a) (no b) = omega arith

  module _ (small : used F < 2 ^ 64) where
    call_unused : (i : ℕ) → bit (used F) (call F i) ≡ false
    unfolding call free
    call_unused i = go (dec_lt i (length (lacking (used F) 64)))
      where
        go : Dec (i < length (lacking (used F) 64)) → bit (used F) (get_or (lacking (used F) 64) i (64 + i)) ≡ false
        go (yes a) = (lacking_is (used F) 64 i (64 + i) a).1
        go (no a) = rw (get_or-eq_default (lacking (used F) 64) (64 + i) {n = i} (omega arith))
            (bit_high 64 (used F) (64 + i) small (omega arith))

    -- a part of what is used has no call signal in it
    pub call-old : (s : Set) → s ∖ used F ≡ ∅ → Old (call F) s
    call-old s h i = sets (single (call F i) ∷ used F ∷ s ∷ []) (A ⊥ₑ B ∷ C ⊑ B ∷ []) (A ⊥ₑ C) tt
        (single-apart (used F) (call F i) (call_unused i)) h

    -- ── sets of the file ──

    old_list : (ts : List Transition) → guards ts ∖ used F ≡ ∅ → actions ts ∖ used F ≡ ∅ → OldTs (call F) ts
    unfolding guards actions
    old_list [] g a = tt
    old_list (t ∷ ts) g a = (
      (
        call-old t.needed (sets vs (((A ∪ₑ B) ∪ₑ C) ⊑ D ∷ []) (A ⊑ D) tt g),
        call-old t.barred (sets vs (((A ∪ₑ B) ∪ₑ C) ⊑ D ∷ []) (B ⊑ D) tt g),
        call-old t.action (sets (t.action ∷ actions ts ∷ used F ∷ []) ((A ∪ₑ B) ⊑ C ∷ []) (A ⊑ C) tt a),
      ),
      old_list ts (sets vs (((A ∪ₑ B) ∪ₑ C) ⊑ D ∷ []) (C ⊑ D) tt g)
          (sets (t.action ∷ actions ts ∷ used F ∷ []) ((A ∪ₑ B) ⊑ C ∷ []) (B ⊑ C) tt a),
    )
      where
        vs : List ℕ
        vs = t.needed ∷ t.barred ∷ guards ts ∷ used F ∷ []

    pub old-chart : ((c : ℕ) → c < F.charts → (F.chart c).stays ≡ false) → (c : ℕ) → c < F.charts
        → OldChart (call F) (F.chart c)
    unfolding used
    old-chart one c l = record {
      one = one c l;
      old_transitions = old_list ts (sets vs H (A ⊑ D) tt h) (sets vs H (B ⊑ D) tt h);
      old_feedback = call-old (F.chart c).feedback (sets vs H (C ⊑ D) tt h);
      old_extra = call-old (F.chart c).extra (sets vs H (Eₑ ⊑ D) tt h);
    }
      where
        ts : List Transition
        ts = (F.chart c).transitions

        f : ℕ → Set
        f c = guards (F.chart c).transitions ∪ actions (F.chart c).transitions ∪ (F.chart c).feedback
            ∪ (F.chart c).extra

        vs : List ℕ
        vs = guards ts ∷ actions ts ∷ (F.chart c).feedback ∷ used F ∷ (F.chart c).extra ∷ []

        H : List Claim
        H = (((A ∪ₑ B) ∪ₑ C) ∪ₑ Eₑ) ⊑ D ∷ []

        h : f c ∖ used F ≡ ∅
        h = sets (f c ∷ union_up_to F.charts f ∷ union_up_to F.nodes (λ j. F.x j ∪ F.y j) ∷ []) (A ⊑ B ∷ [])
            (A ⊑ B ∪ₑ C) tt
            (union_in F.charts f c l)

    pub old-x : (j : ℕ) → j < F.nodes → Old (call F) (F.x j)
    unfolding used
    old-x j l = call-old (F.x j)
        (sets (F.x j ∷ F.y j ∷ union_up_to F.charts f ∷ union_up_to F.nodes (λ j. F.x j ∪ F.y j) ∷ [])
        ((A ∪ₑ B) ⊑ D ∷ []) (A ⊑ C ∪ₑ D) tt (union_in F.nodes (λ j. F.x j ∪ F.y j) j l))
      where
        f : ℕ → Set
        f c = guards (F.chart c).transitions ∪ actions (F.chart c).transitions ∪ (F.chart c).feedback
            ∪ (F.chart c).extra
