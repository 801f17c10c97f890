use mathlib.Core.Path.{◌≡◌, refl, sym, ap, ◌∙◌}
use mathlib.Core.Bool.{true, false, not, ◌&&◌}
use mathlib.Core.List.{List, ◌∷◌}
use Prim.Native.Nat.{ℕ, suc, ◌+◌, ◌≤◌, ◌<◌}
use native.Mathlib.Omega.{arith}
use lib.Dec.{eqb}
use lib.ListN.{length, get_or, drop, drop_of_length-le}
use lib.Seq.{drop-cons}
use Rattle.std.proofs.Common.{true≢false}
use Rattle.std.specs.List.{list_all}
use Rattle.std.proofs.lemmas.List.Folds.{list_all_at}
use Rattle.scan.specs.Table.{row, rows_of, numbers, lookup}
use Rattle.modes.proofs.lookup.Goals as goal

numbers-length : length numbers ≡ 507
unfolding numbers
numbers-length = refl

-- the row at i
rows_at : (i : ℕ) → i + 3 ≤ 507 → rows_of (drop i numbers)
    ≡ row (get_or numbers i 0) (get_or numbers (i + 1) 0) (get_or numbers (i + 2) 0) ∷ rows_of (drop (i + 3) numbers)
rows_at i h = go numbers i (omega (arith, numbers-length))
  where
    go : (l : List ℕ) (i : ℕ) → i + 3 ≤ length l
        → rows_of (drop i l) ≡ row (get_or l i 0) (get_or l (i + 1) 0) (get_or l (i + 2) 0) ∷ rows_of (drop (i + 3) l)
    go l i h = ap rows_of (drop-cons l i 0 (omega arith)
        ∙ ap (get_or l i 0 ∷◌) (at (suc i) (i + 1) (omega arith) ∙ drop-cons l (i + 1) 0 (omega arith)
        ∙ ap (get_or l (i + 1) 0 ∷◌) (at (suc (i + 1)) (i + 2) (omega arith) ∙ drop-cons l (i + 2) 0 (omega arith)
        ∙ ap (get_or l (i + 2) 0 ∷◌) (at (suc (i + 2)) (i + 3) (omega arith)))))
        ∙ unfold rows_of in refl
      where
        at : (a b : ℕ) → a ≡ b → drop a l ≡ drop b l
        at a b e = ap (λ k. drop k l) e

module _ (m b i : ℕ) (h : i + 3 ≤ 507) where
  taken : (eqb (get_or numbers i 0) m && eqb (get_or numbers (i + 1) 0) b) ≡ true
      → lookup (rows_of (drop i numbers)) m b ≡ get_or numbers (i + 2) 0
  unfolding lookup
  taken e = rw (rows_at i h, e)

  other : (eqb (get_or numbers i 0) m && eqb (get_or numbers (i + 1) 0) b) ≡ false
      → lookup (rows_of (drop i numbers)) m b ≡ lookup (rows_of (drop (i + 3) numbers)) m b
  unfolding lookup
  other e = rw (rows_at i h, e)

none_left : (m b i : ℕ) → 507 ≤ i → lookup (rows_of (drop i numbers)) m b ≡ 255
none_left m b i h =
    ap (λ l. lookup (rows_of l) m b) (drop_of_length-le numbers {i = i} (let z = numbers-length in omega arith))
    ∙ unfold rows_of lookup in refl

-- no row leads to 255
leads : (i : ℕ) → i < 507 → get_or numbers i 0 ≡ 255 → ⊥
leads i h e =
    let all : list_all (λ n. not (eqb n 255)) numbers ≡ true = unfold numbers in refl in
    true≢false (sym all
    ∙ list_all_at (λ n. not (eqb n 255)) numbers i 0 (omega (arith, numbers-length)) (ap (λ n. not (eqb n 255)) e))

pub returns-then-row_is : goal.returns-then-row_is
returns-then-row_is c =
    let e = sym c.loop-i.invariant.2
    ∙ taken _ _ c.loop-i.i (omega arith) (sym c.row_is.ensures ∙ c.if-row_is.true) in
    (e ∙ sym c.entry.ensures ∙ sym c.from.ensures, λ n. leads (c.loop-i.i + 2) (omega arith) (sym e ∙ n))

pub loop-i-preserved : goal.loop-i-preserved
loop-i-preserved c = (
  omega arith,
  omega arith,
  sym (other _ _ c.loop-i.i (omega arith) (sym c.row_is.ensures ∙ c.if-row_is.false)) ∙ c.loop-i.invariant.2,
)

pub returns : goal.returns
returns c = sym c.loop-i.invariant.2 ∙ none_left _ _ c.loop-i.i c.loop-i-test.false

pub loop-i-init : goal.loop-i-init
loop-i-init c = let f = c.first-i.ensures in (f.0, f.1.0, f.1.1 _)
