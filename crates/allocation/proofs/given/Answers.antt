use mathlib.Core.Path.{◌≡◌, refl, sym, ap, ◌∙◌}
use mathlib.Core.Bool.{Bool, true, false, ◌||◌, cond, or-false}
use mathlib.Core.List.{List, [], ◌∷◌, ◌++◌}
use mathlib.Core.Logic.{⊎_elim}
use Prim.Native.Nat.{ℕ, zero, suc, ◌+◌, ◌-◌, ◌^◌, ◌<◌}
use native.Mathlib.Nat.{add-zero}
use native.Mathlib.Omega.{arith}
use borrow.Author.Count.{below_more}
use borrow.Author.Tests.{lt-ltb, le-ltb, eq-eqb, ne_eqb}
use lib.ListN.{length, get_or, drop, set, length-set, length-drop}
use lib.Seq.{get_or-drop, drop-drop, get_or-set_same, get_or-set_other}
use Rattle.signals.specs.Mask.{◌∪◌, bit, single}
use Rattle.signals.specs.Mask.Laws.{bit_union, bit-single}
use Rattle.signals.specs.All.{bit-all}
use Rattle.std.proofs.Common.{Some, None}
use Rattle.meaning.specs.Numbers.{most_charts, most_signals}
use Rattle.meaning.specs.Sums.Laws.{below_suc}
use Rattle.meaning.specs.Laws.Bools.{or_r}
use Rattle.meaning.specs.Rewriting.{lacking}
use Rattle.allocation.specs.Known.{Calling}
use Rattle.allocation.proofs.given.Goals as goal
use Rattle.allocation.proofs.given.Invariants.{Gives}

-- ── what a set lacks ──

-- nothing, where it has all
lacks-none : (s n : ℕ) → ((k : ℕ) → k < n → bit s k ≡ true) → lacking s n ≡ []
unfolding lacking
lacks-none s zero h = refl
lacks-none s (suc n) h = rw (h n (omega arith)) (lacks-none s n (λ k l. h k (omega arith)))

bit-with : (s m k : ℕ) → bit (s ∪ single m) k ≡ (bit s k || bit (single m) k)
bit-with s m k = bit_union k s (single m)

bit-own : (s m : ℕ) → bit (s ∪ single m) m ≡ true
bit-own s m =
    bit-with s m m ∙ ap (λ (b : Bool). bit s m || b) (bit-single m m ∙ eq-eqb m m refl) ∙ or_r (bit s m) true refl

bit-other : (s m k : ℕ) → (m ≡ k → ⊥) → bit (s ∪ single m) k ≡ bit s k
bit-other s m k h =
    bit-with s m k ∙ ap (λ (b : Bool). bit s k || b) (bit-single m k ∙ ne_eqb m k h) ∙ or-false (bit s k)

-- the lowest, then what it lacks with that
lacks-lowest : (s m : ℕ) → bit s m ≡ false → ((k : ℕ) → k < m → bit s k ≡ true) → (n : ℕ) → m < n
    → lacking s n ≡ m ∷ lacking (s ∪ single m) n
unfolding lacking
lacks-lowest s m free low zero l = absurd (omega arith)
lacks-lowest s m free low (suc n) l = ⊎_elim here (λ h. later h (lacks-lowest s m free low n h)) (below_suc m n l)
  where
    here : m ≡ n → lacking s (suc n) ≡ m ∷ lacking (s ∪ single m) (suc n)
    here e =
        rw (
          ← e,
          free,
          bit-own s m,
          lacks-none s m low,
          lacks-none (s ∪ single m) m (λ k h. bit-other s m k (λ q. omega arith) ∙ low k h),
        )

    later : m < n → lacking s n ≡ m ∷ lacking (s ∪ single m) n → lacking s (suc n) ≡ m ∷ lacking (s ∪ single m) (suc n)
    later h r = rw (r, bit-other s m n (λ q. omega arith)) (go (bit s n))
      where
        rest : List ℕ
        rest = lacking (s ∪ single m) n

        go : (b : Bool) → cond b (m ∷ rest) ((m ∷ rest) ++ (n ∷ [])) ≡ m ∷ cond b rest (rest ++ (n ∷ []))
        go true = refl
        go false = refl

-- ── the loop ──

module _ (used i left s : ℕ) (l : List ℕ) (h : Gives used i left l) (free : bit left s ≡ false)
    (low : (k : ℕ) → k < s → bit left k ≡ true)
    (small : s < 64) where
  abbrev L : List ℕ
  L = lacking used most_signals

  next : drop i L ≡ s ∷ lacking (left ∪ single s) most_signals
  next = h.rest ∙ lacks-lowest left s free low 64 small

  next_is : (d : ℕ) → get_or L i d ≡ s
  next_is d =
      ap (λ (k : ℕ). get_or L k d) (sym (add-zero i)) ∙ sym (get_or-drop i L 0 d) ∙ ap (λ (xs : List ℕ). get_or xs 0 d) next

  gives_more : i < most_charts → (v : ℕ) → v ≡ single s → Gives used (i + 1) (left ∪ single s) (set l i v)
  gives_more m v e =
      record {
        long = simp length-set h.long;
        most = omega (arith, ap length next, length-drop i L);
        rest = sym (drop-drop 1 i L) ∙ ap (drop 1) next;
        given =
            below_more (λ (k : ℕ). get_or (set l i v) k 0 ≡ single (get_or L k (most_signals + k))) i
            (λ k q. get_or-set_other l i k v 0 (λ z. omega arith) ∙ h.given k q)
            (get_or-set_same l i v 0 (rw h.long m) ∙ e ∙ ap single (sym (next_is (most_signals + i))));
      }

-- none is left
gives_out : (used i left slaves : ℕ) (l : List ℕ) → Gives used i left l → left ≡ 2 ^ 64 - 1 → i < slaves
    → Calling used slaves None
gives_out used i left slaves l h e q =
    let none : lacking left most_signals ≡ [] = rw e (lacks-none (2 ^ 64 - 1) 64 (λ k p. bit-all 64 k p)) in
    lt-ltb (length (lacking used most_signals)) slaves
    (omega (arith, ap length (h.rest ∙ none), length-drop i (lacking used most_signals)))

gives_all : (used i left slaves : ℕ) (l : List ℕ) → Gives used i left l → i ≡ slaves → Calling used slaves (Some l)
gives_all used i left slaves l h e =
    let m = h.most in
    (le-ltb (length (lacking used most_signals)) slaves (omega arith), λ k p. h.given k (omega arith))

pub loop-i-init : goal.loop-i-init
loop-i-init c = record { long = refl; most = omega arith; rest = refl; given = λ k h. absurd (omega arith) }

pub loop-i-preserved : goal.loop-i-preserved
loop-i-preserved c =
    let f = c.in_ok-s.ensures in
    rw c.with-left.ensures
    (gives_more _ c.loop-i.i c.loop-i.left _ _ c.loop-i.invariant f.1.0 f.1.1 f.0 (omega arith) _ c.single.ensures)

pub returns-in_err-s : goal.returns-in_err-s
returns-in_err-s c =
    rw c.from_residual.ensures
    (gives_out _ c.loop-i.i c.loop-i.left _ _ c.loop-i.invariant c.in_err-s.ensures c.loop-i-test.true)

pub returns : goal.returns
returns c = gives_all _ c.loop-i.i c.loop-i.left _ _ c.loop-i.invariant (omega arith)
