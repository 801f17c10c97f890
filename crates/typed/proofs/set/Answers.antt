-- `typed::set` meets its contract: a case for each test.
use mathlib.Core.Path.{◌≡◌, sym, ap, ◌∙◌}
use mathlib.Core.Bool.{true, false}
use mathlib.Core.List.{List}
use Prim.Native.Nat.{ℕ, ◌-◌, ◌≤◌}
use native.Mathlib.Omega.{arith}
use lib.ListN.{length, take, drop, length-take, length-drop}
use lib.Seq.{take_all}
use Rattle.meaning.specs.Meaning.{eq_list}
use Rattle.line.specs.Ascii.{ascii}
use Rattle.typed.specs.Typed.{hex_of, signals_on, split, comma, set_of}
use Rattle.typed.specs.Typed.Laws.{alike}
use Rattle.std.specs.Prelude.{Option}
use Rattle.std.specs.Prelude.{Some}
use Rattle.typed.proofs.set.Goals as goal
use Rattle.typed.proofs.set.Goals.{Else-is, Then-begins}

module _ (w : List ℕ) where
  two : eq_list (take 2 w) (ascii "0x") ≡ true → 2 ≤ length w
  two e = omega (arith, alike (take 2 w) (ascii "0x") e, length-take 2 w)

  by-none : eq_list w (ascii "-") ≡ true → Some 0 ≡ set_of w
  unfolding set_of
  by-none e = rw e

  by-hex : (r : Option ℕ) → eq_list w (ascii "-") ≡ false → eq_list (take 2 w) (ascii "0x") ≡ true
      → r ≡ hex_of (take (length w - 2) (drop 2 w)) → r ≡ set_of w
  unfolding set_of
  by-hex r e f h = rw (e, f) (h ∙ ap hex_of (take_all (length w - 2) (drop 2 w) (omega (arith, length-drop 2 w))))

  by_signals : (r : Option ℕ) → eq_list w (ascii "-") ≡ false → eq_list (take 2 w) (ascii "0x") ≡ false
      → r ≡ signals_on 0 (split comma w) → r ≡ set_of w
  unfolding set_of
  by_signals r e f h = rw (e, f) h

pub returns-then-is : goal.returns-then-is
returns-then-is c = by-none _ (sym c.is.ensures ∙ c.if-is.true)

-- the word is no `-`, and begins with `0x`
no-dash : (c : Else-is) → eq_list c.args.word.now (ascii "-") ≡ false
no-dash c = sym c.is.ensures ∙ c.if-is.false

begun : (c : Then-begins)
    → eq_list (take 2 c.args.word.now) (ascii "0x") ≡ true
begun c = sym c.begins.ensures ∙ c.if-begins.true

long : (c : Then-begins) → 2 ≤ length c.args.word.now
long c = two c.args.word.now (begun c)

pub returns-then-begins : goal.returns-then-begins
returns-then-begins c =
    by-hex _ _ (no-dash (goal.at.returns-then-begins c).Else-is) (begun (goal.at.returns-then-begins c).Then-begins) c.hex.ensures

pub returns : goal.returns
returns c =
    by_signals _ _ (no-dash (goal.at.returns c).Else-is)
    (sym c.begins.ensures ∙ c.if-begins.false) c.signal_list.ensures

pub slice_bounds-hex-count : goal.slice_bounds-hex-count
slice_bounds-hex-count c = long (goal.at.slice_bounds-hex-count c).Then-begins

pub slice_bounds-hex-start : goal.slice_bounds-hex-start
slice_bounds-hex-start c = long (goal.at.slice_bounds-hex-start c).Then-begins
