-- `typed::signal` meets its contract.
use mathlib.Core.Path.{◌≡◌, refl, sym, ap, ◌∙◌}
use mathlib.Core.List.{List, [], ◌∷◌}
use Prim.Native.Nat.{ℕ, ◌-◌}
use Prim.Native.Char.{code}
use native.Mathlib.Omega.{arith}
use borrow.Author.Tests.{eq-eqb, ne_eqb}
use lib.ListN.{length, get_or, take, drop}
use lib.Seq.{take_all}
use Rattle.meaning.specs.Meaning.{same}
use Rattle.typed.specs.Typed.{number_of, signal_of}
use Rattle.std.specs.Prelude.{Option}
use Rattle.std.specs.Prelude.{None}
use Rattle.typed.proofs.signal.Goals as goal

no_word : (w : List ℕ) → length w ≡ 0 → signal_of w ≡ None
unfolding signal_of
no_word [] h = refl
no_word (b ∷ w) h = absurd (omega arith)

no_s : (w : List ℕ) → (get_or w 0 0 ≡ code "s" → ⊥) → signal_of w ≡ None
unfolding signal_of same
no_s [] h = refl
no_s (b ∷ w) h = rw (ne_eqb _ _ h)

-- the number is the word from its second character on
numbered : (w : List ℕ) (r : Option ℕ) → get_or w 0 0 ≡ code "s" → r ≡ number_of 63 (take (length w - 1) (drop 1 w))
    → r ≡ signal_of w
unfolding signal_of same
numbered [] r h e = absurd (omega arith)
numbered (b ∷ w) r h e = rw (eq-eqb _ _ h) (e ∙ ap (number_of 63) (take_all (length (b ∷ w) - 1) w (omega arith)))

pub returns-then-word-eq0 : goal.returns-then-word-eq0
returns-then-word-eq0 c = sym (no_word c.args.word.now c.if-word-eq0.true)

pub returns-then-word-ne115 : goal.returns-then-word-ne115
returns-then-word-ne115 c = sym (no_s c.args.word.now c.if-word-ne115.true)

pub returns : goal.returns
returns c =
    numbered c.args.word.now _
    c.if-word-ne115.false c.number.ensures
