-- `search::same_states` meets its contract: what is left from c on decides, since all before is equal.
use mathlib.Core.Path.{◌≡◌, sym, ap, ◌∙◌}
use mathlib.Core.Bool.{true, false}
use mathlib.Core.List.{List, ◌++◌}
use Prim.Native.Nat.{ℕ, ◌+◌, ◌-◌, ◌≤◌, ◌<◌}
use native.Mathlib.Nat.{zero-add}
use native.Mathlib.Omega.{arith}
use lib.ListN.{length, get_or, drop, replicate}
use Rattle.meaning.specs.Numbers.{most_charts}
use Rattle.meaning.specs.Meaning.{eq_list}
use Rattle.meaning.specs.Calls.{made}
use Rattle.meaning.specs.Calls.Laws.{length-made, get_or-made}
use Rattle.meaning.proofs.Laws.Choices.{eq_list-more, eq_list-differ, eq_list-end}
use Rattle.cells.specs.Trail.{next_in, column_in}
use Rattle.settling.specs.Trail.Laws.{length_filled, column_next}
use Rattle.search.proofs.same_states.Given as goal

-- the next states of N charts in b, and those of the first outcome in f
module _ (f b : List ℕ) (N : ℕ) where
  abbrev pub next : List ℕ
  next = made N (next_in b) ++ replicate (most_charts - N) 0

  abbrev pub first : List ℕ
  first = made most_charts (λ c. get_or f (0 + c) 0)

  -- what is left from c on decides
  abbrev pub Left : ℕ → Type 0
  Left c = eq_list next first ≡ eq_list (drop c next) (drop c first)

  pub next-long : N ≤ most_charts → length next ≡ most_charts
  next-long few = length_filled N (next_in b) 0 few

  pub first-long : length first ≡ most_charts
  first-long = length-made most_charts (λ c. get_or f (0 + c) 0)

  -- all were compared
  pub none : (c : ℕ) → N ≤ most_charts → most_charts ≤ c → Left c → eq_list next first ≡ true
  none c few l h = let n = next-long few in h ∙ eq_list-end next first c (omega arith) (omega (arith, first-long))

  -- the next one, x, was compared
  module _ (c : ℕ) (few : N ≤ most_charts) (l : c < most_charts) (x : ℕ) (e : x ≡ get_or (column_in b N 0 0) c 0)
      (h : Left c) where
    pub next-at : get_or next c 0 ≡ x
    next-at = sym (e ∙ ap (λ (r : List ℕ). get_or r c 0) (column_next b N 0))

    pub first-at : get_or first c 0 ≡ get_or f c 0
    first-at = get_or-made most_charts (λ d. get_or f (0 + d) 0) c l ∙ ap (λ (i : ℕ). get_or f i 0) (zero-add c)

    pub more : x ≡ get_or f c 0 → Left (c + 1)
    more q = h ∙ eq_list-more next first c (omega (arith, next-long few)) (omega (arith, first-long))
        (next-at ∙ q ∙ sym first-at)

    pub differ : (x ≡ get_or f c 0 → ⊥) → eq_list next first ≡ false
    differ q = h ∙ eq_list-differ next first c (omega (arith, next-long few)) (omega (arith, first-long))
        (λ z. q (sym next-at ∙ z ∙ first-at))

abbrev pub invariant-loop-c : goal.invariant-loop-c
invariant-loop-c l = Left l.best l.moves l.charts l.c
