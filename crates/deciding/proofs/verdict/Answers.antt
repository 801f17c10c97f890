-- `deciding::verdict` meets its contract: a law for each return.
use mathlib.Core.Path.{◌≡◌}
use mathlib.Core.Bool.{Bool, true, false}
use Prim.Native.Nat.{ℕ, ◌+◌, ◌*◌, ◌^◌, ◌≤◌, ◌<◌}
use native.Mathlib.Nat.{mul-le-mul_right}
use native.Mathlib.Omega.{arith}
use borrow.Author.Rules.{rules}
use borrow.Author.Tests.{lt-ltb, le-ltb, eq-eqb, ne_eqb}
use mir.Syntax.{w8}
use mir.Val.{Fits}
use Rattle.meaning.specs.Meaning.{same}
use Rattle.desk.specs.declared.Seen.{Seen}
use Rattle.desk.specs.Posting.{most_cases, bad_book, no_such_case, rows_end, short_book}
use Rattle.desk.specs.Turns.{verdict_of}
use Rattle.deciding.proofs.verdict.Goals as goal

module _ (s : Seen) (outside : Bool) (n room : ℕ) where
  abbrev verdict : ℕ
  verdict = verdict_of s outside n room

  by-none : n ≡ 0 → bad_book ≡ verdict
  unfolding verdict_of same
  by-none e = rw (eq-eqb n 0 e)

  module _ (some : n ≡ 0 → ⊥) where
    by-many : most_cases < n → bad_book ≡ verdict
    unfolding verdict_of same
    by-many e = rw (ne_eqb n 0 some, lt-ltb most_cases n e)

    module _ (few : n ≤ most_cases) where
      by-outside : outside ≡ true → no_such_case ≡ verdict
      unfolding verdict_of same
      by-outside e = rw (ne_eqb n 0 some, le-ltb most_cases n few, e)

      module _ (inside : outside ≡ false) where
        by_end : s.ended ≡ true → rows_end ≡ verdict
        unfolding verdict_of same
        by_end e = rw (ne_eqb n 0 some, le-ltb most_cases n few, inside, e)

        module _ (on : s.ended ≡ false) where
          by_room : room < n * (14 + s.charts) → short_book ≡ verdict
          unfolding verdict_of same
          by_room e =
              rw (ne_eqb n 0 some, le-ltb most_cases n few, inside, on, lt-ltb room (n * (14 + s.charts)) e)

          by-nothing : n * (14 + s.charts) ≤ room → 0 ≡ verdict
          unfolding verdict_of same
          by-nothing e =
              rw (ne_eqb n 0 some, le-ltb most_cases n few, inside, on, le-ltb room (n * (14 + s.charts)) e)

-- a product that fits
fits : (n m : ℕ) → n ≤ 64 → m < 256 → n * (14 + m) < 2 ^ 64
fits n m h k = let e : n * (14 + m) ≤ 64 * (14 + m) = mul-le-mul_right (14 + m) h in omega (arith, e, k)

pub returns-then-n-eq0 : goal.returns-then-n-eq0
returns-then-n-eq0 c = by-none _ _ _ _ c.if-n-eq0.true

pub returns-then-n-gt-CASES : goal.returns-then-n-gt-CASES
returns-then-n-gt-CASES c =
    by-many _ _ _ _ c.if-n-eq0.false c.if-n-gt-CASES.true

pub returns-then-outside : goal.returns-then-outside
returns-then-outside c =
    by-outside _ _ _ _ c.if-n-eq0.false c.if-n-gt-CASES.false
    c.if-outside.true

pub returns-then-ended : goal.returns-then-ended
returns-then-ended c =
    by_end _ _ _ _ c.if-n-eq0.false
    c.if-n-gt-CASES.false
    c.if-outside.false c.if-ended.true

pub overflow_mul-n : goal.overflow_mul-n
overflow_mul-n c =
    let h : Fits w8 c.args.s.charts = search rules in
    record { fits = fits c.args.n c.args.s.charts c.if-n-gt-CASES.false h.fits }

pub returns-then-room-n : goal.returns-then-room-n
returns-then-room-n c =
    by_room _ _ _ _ c.if-n-eq0.false
    c.if-n-gt-CASES.false
    c.if-outside.false c.if-ended.false c.if-room-n.true

pub returns : goal.returns
returns c =
    by-nothing _ _ _ _ c.if-n-eq0.false
    c.if-n-gt-CASES.false
    c.if-outside.false c.if-ended.false c.if-room-n.false
