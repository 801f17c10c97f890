-- Lists as typed: the members of a list of one or more (`followed-members`, `listed-members`, `followed-first`); what
-- is made of the numbers below a limit, one after another (`from-..`); those of them that pass a test (`chosen-..`);
-- and names that are the numbers below one (`numbers-named`).
use Rattle.std.specs.Prelude.{◌≡◌, Bool, ◌&&◌, ltb}
use Rattle.std.proofs.Math.Path.{refl, ap, ap₂}
use Rattle.std.proofs.Common.{sym, ◌∙◌, arith}
use Rattle.std.proofs.Math.Bool.{true, false, ◌||◌, not}
use mathlib.Core.List.{List, [], ◌∷◌, ◌++◌, append_assoc, append-nil}
use Prim.Native.Nat.{ℕ, zero, suc, ◌≤◌, ◌<◌}
use Rattle.std.proofs.Math.Decide.{dec_lt}
use borrow.Author.Tests.{lt-ltb, le-ltb, ltb-true, eq-eqb, ne_eqb}
use Rattle.std.proofs.Math.Dec.{eqb}
use Rattle.notation.specs.Syntax.{OneOrMore, one, ◌▸◌}
use Rattle.meaning.specs.Check.{not_below}
use Rattle.reading.specs.Names.{members_of, members_or, first, any, has, twice?, lacks_before, left_out?, not_all?}
use Rattle.reading.specs.Laws.Lists.{any_append, any_of, twice_snoc}
use Rattle.spelling.specs.Typed.{from_all, if_so, followed, listed}

-- ── one or more ──

pub followed-members : {A : Type 0} (a : OneOrMore A) (l : List A) → members_of (followed a l) ≡ members_of a ++ l
unfolding followed members_of
followed-members a [] = sym (append-nil (members_of a))
followed-members a (b ∷ l) = followed-members (a ▸ b) l ∙ append_assoc (members_of a) (b ∷ []) l

pub listed-members : {A : Type 0} (l : List A) → members_or (listed l) ≡ l
unfolding members_or members_of
listed-members [] = refl
listed-members (a ∷ l) = followed-members (one a) l

pub followed-first : (a : OneOrMore ℕ) (l : List ℕ) → first (followed a l) ≡ first a
unfolding followed first
followed-first a [] = refl
followed-first a (b ∷ l) = followed-first (a ▸ b) l

-- ── from all numbers below a limit ──

module _ {A : Type 0} where
  pub from_cong : (n : ℕ) (f g : ℕ → List A) → ((k : ℕ) → k < n → f k ≡ g k) → from_all n f ≡ from_all n g
  unfolding from_all
  from_cong zero f g h = refl
  from_cong (suc n) f g h = ap₂ ◌++◌ (from_cong n f g (λ k l. h k (omega arith))) (h n (omega arith))

  pub from-any : (p : A → Bool) (n : ℕ) (f : ℕ → List A) → ((k : ℕ) → k < n → any p (f k) ≡ false)
      → any p (from_all n f) ≡ false
  unfolding from_all any
  from-any p zero f h = refl
  from-any p (suc n) f h =
      any_append p (from_all n f) (f n)
      ∙ ap₂ ◌||◌ (from-any p n f (λ k l. h k (omega arith))) (h n (omega arith))

  -- a function that takes lists apart
  pub from_each : {B : Type 0} (g : List A → List B) → g [] ≡ [] → ((l m : List A) → g (l ++ m) ≡ g l ++ g m) → (n : ℕ)
      (f : ℕ → List A) → g (from_all n f) ≡ from_all n (λ k. g (f k))
  unfolding from_all
  from_each g z h zero f = z
  from_each g z h (suc n) f = h (from_all n f) (f n) ∙ ap (◌++ g (f n)) (from_each g z h n f)

-- ── those that pass a test ──

-- the numbers below n that do, rising
abbrev pub chosen : ℕ → (ℕ → Bool) → List ℕ
chosen n p = from_all n (λ k. if_so (p k) k)

has-so : (b : Bool) (k m : ℕ) → has (if_so b k) m ≡ (eqb k m && b)
unfolding has any
has-so true k m = go (eqb k m)
  where
    go : (c : Bool) → (c || false) ≡ (c && true)
    go true = refl
    go false = refl
has-so false k m = go (eqb k m)
  where
    go : (c : Bool) → false ≡ (c && false)
    go true = refl
    go false = refl

module _ (p : ℕ → Bool) where
  -- one number more: below the last, the last, above it
  has-next : (n k : ℕ) → ((ltb k n && p k) || (eqb n k && p n)) ≡ (ltb k (suc n) && p k)
  has-next n k = go (dec_lt k n) (dec_lt n k)
    where
      no_more : (b : Bool) → (b || false) ≡ b
      no_more true = refl
      no_more false = refl

      go : Dec (k < n) → Dec (n < k) → ((ltb k n && p k) || (eqb n k && p n)) ≡ (ltb k (suc n) && p k)
      go (yes l) m =
          rw (lt-ltb k n l, lt-ltb k (suc n) (omega arith), ne_eqb n k (λ e. omega arith)) (no_more (p k))
      go (no l) (yes m) =
          rw (le-ltb k n (omega arith), le-ltb k (suc n) (omega arith), ne_eqb n k (λ e. omega arith))
      go (no l) (no m) =
          let e : n ≡ k = omega arith in
          rw (le-ltb k n (omega arith), lt-ltb k (suc n) (omega arith), eq-eqb n k e) (ap p e)

  pub chosen-has : (n k : ℕ) → has (chosen n p) k ≡ (ltb k n && p k)
  unfolding from_all has any
  chosen-has zero k = ap (◌&& p k) (sym (le-ltb k 0 (omega arith)))
  chosen-has (suc n) k =
      any_append (λ m. eqb m k) (chosen n p) (if_so (p n) n)
      ∙ ap₂ ◌||◌ (chosen-has n k) (has-so (p n) n k) ∙ has-next n k

  -- none stands twice
  pub chosen_once : (n : ℕ) → twice? (chosen n p) ≡ false
  unfolding from_all twice?
  chosen_once zero = refl
  chosen_once (suc n) = go (p n) (chosen_once n)
    where
      go : (b : Bool) → twice? (chosen n p) ≡ false → twice? (chosen n p ++ if_so b n) ≡ false
      go true e =
          twice_snoc (chosen n p) n ∙ ap₂ ◌||◌ e (chosen-has n n ∙ ap (◌&& p n) (le-ltb n n (omega arith)))
      go false e = ap twice? (append-nil (chosen n p)) ∙ e

-- ── names ──

-- the numbers below n, each once, are right names
module _ (limit n : ℕ) (ns : List ℕ) (low : n ≤ limit) (once : twice? ns ≡ false)
    (there : (q : ℕ) → has ns q ≡ ltb q n) where
  below : (q : ℕ) → has ns q ≡ true → q < n
  below q e = ltb-true q n (sym (there q) ∙ e)

  before : (q : ℕ) → has ns q ≡ true → lacks_before ns q ≡ false
  unfolding lacks_before
  before zero e = refl
  before (suc q) e = let l = below (suc q) e in ap not (there q ∙ lt-ltb q n (omega arith))

  pub numbers-named : not_all? limit ns ≡ false
  unfolding not_all? left_out?
  numbers-named =
      ap₂ ◌||◌
      (any_of (λ q. not_below q limit) ns
      (λ q e. let l = below q e in ap not (lt-ltb q limit (omega arith))))
      (ap₂ ◌||◌ once (any_of (lacks_before ns) ns before))
