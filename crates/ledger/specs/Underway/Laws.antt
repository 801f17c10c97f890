-- The posting, case by case: it starts (`started`), a case more is posted (`stepped`), and then all are (`finished`).
use Rattle.std.specs.Prelude.{◌≡◌, refl, ℕ, suc, ◌+◌, ◌-◌, ◌*◌, ◌≤◌, ◌<◌, get_or, set}
use Rattle.std.proofs.Math.Path.{sym, ap}
use Rattle.std.proofs.Common.{◌∙◌, suc-mul, mul-le-mul_right, le_trans, length-append, length-drop, take-append-drop}
use Rattle.std.proofs.Common.{take_at, drop_at, drop-drop, take-suc-set, get_or-drop}
use mathlib.Core.List.{List, [], ◌∷◌, ◌++◌, append_assoc, append-nil}
use Rattle.std.proofs.Math.Numerals.{add-one}
use native.Mathlib.Omega.{arith}
use Rattle.std.proofs.Math.ListN.{length, take, drop, length-set}
use Rattle.std.proofs.Math.Seq.{drop-cons, drop-set-lt, length-take-le}
use Rattle.meaning.specs.Calls.{laid_over}
use Rattle.desk.specs.declared.Case.{Case}
use Rattle.desk.specs.declared.Day.{Day}
use Rattle.desk.specs.Turns.{turn_case, turn_row, turn_cases, turn_rows, Postable}
use Rattle.ledger.specs.Underway.{Underway}

module _ (f : List ℕ) (d : Day) (charts n : ℕ) (cs : List Case) (rs : List ℕ) where
  abbrev w : ℕ
  w = 14 + charts

  pub started : Underway f d charts n cs rs 0 cs rs
  unfolding turn_cases turn_rows
  started =
      record {
        within = omega arith;
        cases_long = refl;
        rows_long = refl;
        cases_left = refl;
        cases_done = rw none;
        rows_left = refl;
        rows_done = rw (at_front, none);
      }
    where
      none : n - 0 ≡ n
      none = omega arith

      at_front : 0 * w ≡ 0
      at_front = omega arith

  module _ (p : Postable cs n charts (length rs)) where
    module _ (i : ℕ) (cs' : List Case) (rs' : List ℕ) (u : Underway f d charts n cs rs i cs' rs') (l : i < n)
        (c₀ : Case) where
      -- the case that is next is as it was
      pub same_case : get_or cs i c₀ ≡ get_or cs' i c₀
      same_case =
          let z : i + 0 ≡ i = omega arith in
          let a : (xs : List Case) → get_or xs i c₀ ≡ get_or (drop i xs) 0 c₀ =
          λ xs. sym (rw z at (get_or-drop i xs 0 c₀)) in
          a cs ∙ ap (λ (xs : List Case). get_or xs 0 c₀) (sym u.cases_left) ∙ sym (a cs')

      pub room_for : i * w + w ≤ length rs'
      room_for = rw u.rows_long (le_trans (rw suc-mul at (mul-le-mul_right w l)) p.fits)

      module _ (r : Case) (zs : List ℕ) (e : r ≡ turn_case f (get_or cs' i c₀) d i)
          (g : zs ≡ take (i * w) rs' ++ (turn_row charts f (get_or cs' i c₀) d i ++ drop (i * w + w) rs'))
          (k : length zs ≡ length rs') where
        abbrev row : List ℕ
        row = turn_row charts f (get_or cs' i c₀) d i

        wide : length row ≡ w
        wide =
            let h = room_for in
            let a : length (take (i * w) rs') ≡ i * w = length-take-le (i * w) rs' (omega (arith, h)) in
            let b : length (take (i * w) rs' ++ (row ++ drop (i * w + w) rs'))
            ≡ i * w + (length row + (length rs' - (i * w + w))) = rw (length-append, length-append, length-drop, a) in
            omega (arith, h, b, ap length (sym g) ∙ k)

        front : length (take (i * w) rs' ++ row) ≡ (i + 1) * w
        front =
            let h = room_for in
            let a : length (take (i * w) rs') ≡ i * w = length-take-le (i * w) rs' (omega (arith, h)) in
            rw (length-append, a, wide, add-one, suc-mul)

        halves : zs ≡ (take (i * w) rs' ++ row) ++ drop (i * w + w) rs'
        halves = g ∙ sym (append_assoc (take (i * w) rs') row (drop (i * w + w) rs'))

        next-at : (i + 1) * w ≡ i * w + w
        next-at = rw (add-one, suc-mul)

        left_further : {A : Type 0} (m j : ℕ) (xs ys : List A) → drop m xs ≡ drop m ys
            → drop (m + j) xs ≡ drop (m + j) ys
        left_further m j xs ys h = sym (drop-drop j m xs) ∙ ap (drop j) h ∙ drop-drop j m ys

        fewer : n - i ≡ suc (n - (i + 1))
        fewer = omega arith

        there : i < length cs
        there = omega (arith, p.there)

        pub stepped : Underway f d charts n cs rs (i + 1) (set cs' i r) zs
        unfolding turn_cases turn_rows
        stepped =
            record {
              within = omega arith;
              cases_long = length-set cs' i r ∙ u.cases_long;
              rows_long = k ∙ u.rows_long;
              cases_left = drop-set-lt (i + 1) cs' i r (omega arith) ∙ left_further i 1 cs' cs u.cases_left;
              cases_done = cases;
              rows_left = rw (halves, next-at) (drop_at (take (i * w) rs' ++ row) (drop (i * w + w) rs') (i * w + w)
                  (front ∙ next-at) ∙ left_further (i * w) w rs' rs u.rows_left);
              rows_done = rows;
            }
          where
            cases : take (i + 1) (set cs' i r) ++ turn_cases f d (n - (i + 1)) (i + 1) (drop (i + 1) cs)
                ≡ turn_cases f d n 0 cs
            cases =
                let t : take (i + 1) (set cs' i r) ≡ take i cs' ++ (r ∷ []) =
                rw add-one (take-suc-set cs' i r (rw u.cases_long there)) in
                let q : turn_cases f d (n - i) i (drop i cs)
                ≡ turn_case f (get_or cs i c₀) d i ∷ turn_cases f d (n - (i + 1)) (i + 1) (drop (i + 1) cs) =
                rw (fewer, drop-cons cs i c₀ there, add-one) in
                rw (t, append_assoc, e, ← same_case) (rw q at u.cases_done)

            rows : take ((i + 1) * w) zs ++ turn_rows f d charts (n - (i + 1)) (i + 1) (drop (i + 1) cs)
                ≡ turn_rows f d charts n 0 cs
            rows =
                let t : take ((i + 1) * w) zs ≡ take (i * w) rs' ++ row =
                rw halves (take_at (take (i * w) rs' ++ row) (drop (i * w + w) rs') ((i + 1) * w) front) in
                let q : turn_rows f d charts (n - i) i (drop i cs)
                ≡ turn_row charts f (get_or cs i c₀) d i
                ++ turn_rows f d charts (n - (i + 1)) (i + 1) (drop (i + 1) cs) =
                rw (fewer, drop-cons cs i c₀ there, add-one) in
                rw (t, append_assoc, ← same_case) (rw q at u.rows_done)

    pub finished : (cs' : List Case) (rs' : List ℕ) → Underway f d charts n cs rs n cs' rs'
        → (cs' ≡ turn_cases f d n 0 cs) × (rs' ≡ laid_over (turn_rows f d charts n 0 cs) rs)
    unfolding turn_cases turn_rows
    finished cs' rs' u =
        let m : n - n ≡ 0 = omega arith in
        let a : take n cs' ++ drop n cs ≡ turn_cases f d n 0 cs = rw m at u.cases_done in
        let b : take (n * w) rs' ≡ turn_rows f d charts n 0 cs =
        sym (append-nil (take (n * w) rs')) ∙ rw m at u.rows_done in
        let k : length (turn_rows f d charts n 0 cs) ≡ n * w =
        ap length (sym b) ∙ length-take-le (n * w) rs' (rw u.rows_long p.fits) in (
          sym (take-append-drop n cs') ∙ ap (λ (z : List Case). take n cs' ++ z) u.cases_left ∙ a,
          rw k (sym (take-append-drop (n * w) rs') ∙ ap (λ (z : List ℕ). take (n * w) rs' ++ z) u.rows_left
              ∙ ap (λ (z : List ℕ). z ++ drop (n * w) rs) b),
        )
