-- `typed::put_next` meets its contract: a case for each test.
use mathlib.Core.Path.{◌≡◌, refl, sym, ap, ◌∙◌}
use mathlib.Core.Bool.{true, false}
use mathlib.Core.List.{[], ◌∷◌}
use Prim.Native.Nat.{ℕ}
use native.Mathlib.Nat.{add-zero}
use native.Mathlib.Omega.{arith}
use borrow.Author.Tests.{eq-eqb, ne_eqb}
use lib.ListN.{length}
use Rattle.signals.specs.Mask.{bit}
use Rattle.meaning.specs.Meaning.{same}
use Rattle.layout.specs.Put.Laws.{put-append}
use Rattle.typed.specs.Parts.{next_signal}
use Rattle.typed.specs.Typed.{comma, shown_signal}
use Rattle.typed.proofs.put_next.Goals as goal
use Rattle.typed.proofs.put_next.Goals.{Else-at-eq0, Else-not-has, Then-at-eq0}

module _ (at s n : ℕ) where
  lacks : bit s n ≡ false → next_signal at s n ≡ []
  unfolding next_signal
  lacks e = rw e

  first : bit s n ≡ true → at ≡ 0 → next_signal at s n ≡ shown_signal n
  unfolding next_signal same
  first e z = rw (e, eq-eqb _ _ z)

  later : bit s n ≡ true → (at ≡ 0 → ⊥) → next_signal at s n ≡ comma ∷ shown_signal n
  unfolding next_signal same
  later e z = rw (e, ne_eqb _ _ z)

-- the set has the signal
has : (c : Else-not-has) → let a = c.args in bit a.set a.n ≡ true
has c = sym c.has.ensures ∙ c.if-not-has.false

pub returns-then-not-has : goal.returns-then-not-has
returns-then-not-has c =
    let a = c.args in
    rw (lacks a.at a.set a.n (sym c.has.ensures ∙ c.if-not-has.true))
    (record { is = refl; place = sym (add-zero a.at) })

-- what is written
first-is : (c : Then-at-eq0) → let a = c.args in
    next_signal a.at a.set a.n ≡ shown_signal a.n
first-is c = let a = c.args in
    first a.at a.set a.n (has (goal.at.Then-at-eq0 c).Else-not-has) c.if-at-eq0.true

later-is : (c : Else-at-eq0) → let a = c.args in
    next_signal a.at a.set a.n ≡ comma ∷ shown_signal a.n
later-is c = let a = c.args in
    later a.at a.set a.n (has (goal.at.Else-at-eq0 c).Else-not-has) c.if-at-eq0.false

pub put_signal-requires : goal.put_signal-requires
put_signal-requires c = rw (first-is (goal.at.put_signal-requires c).Then-at-eq0) at c.requires.1

pub returns-then-at-eq0 : goal.returns-then-at-eq0
returns-then-at-eq0 c = rw (first-is (goal.at.returns-then-at-eq0 c).Then-at-eq0) c.put_signal.ensures

pub put_byte-next-requires : goal.put_byte-next-requires
put_byte-next-requires c =
    omega (arith, ap length (later-is (goal.at.put_byte-next-requires c).Else-at-eq0), c.requires.1)

pub put_signal-requires-2 : goal.put_signal-requires-2
put_signal-requires-2 c =
    omega (arith, ap length (later-is (goal.at.put_signal-requires-2 c).Else-at-eq0), c.requires.1)

pub returns : goal.returns
returns c =
    rw (later-is (goal.at.returns c).Else-at-eq0)
    (put-append c.put_byte-next.ensures c.put_signal-2.ensures)
