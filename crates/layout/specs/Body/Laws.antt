-- Laws of a body, in this order: a run of values; where a chart's transitions start; the fields of its records are
-- below their widths.
use Rattle.std.specs.Prelude.{◌≡◌, List, [], ◌∷◌, ◌++◌, length, get_or}
use Rattle.std.proofs.Math.Path.{refl, ap}
use Rattle.std.proofs.Common.{sym, ◌∙◌, not-suc-le-zero, le_of_suc-le-suc, eq-or-lt_of_le, add-zero, arith}
use Rattle.std.proofs.Math.Logic.{⊎_elim}
use Prim.Native.Nat.{ℕ, zero, suc, ◌+◌, ◌*◌, ◌≤◌, ◌<◌}
use Rattle.std.proofs.Math.Numerals.{add-one}
use Rattle.layout.specs.Le.{AllBytes}
use Rattle.layout.specs.Le.Laws.{bytes_drop}
use Rattle.layout.specs.Record.Laws.{HeadFits, TransitionFits, SlaveFits, NodeFits, head-fits, transition-fits}
use Rattle.layout.specs.Record.Laws.{slave-fits, node_fits}
use Rattle.layout.specs.Body.{transitions_from, slaves_from, nodes_from, head_at, transition_at, slave_at, node_at}
use Rattle.layout.specs.Body.{start_of, from}
use Rattle.layout.specs.declared.body.Shape.{Shape}

-- ---- from

module _ {A : Type 0} (f : ℕ → A) where
  pub length_from : (k n : ℕ) → length (from f k n) ≡ n
  unfolding from
  length_from k zero = refl
  length_from k (suc n) = ap suc (length_from (suc k) n)

  pub get_or-from : (k n i : ℕ) (d : A) → i < n → get_or (from f k n) i d ≡ f (k + i)
  unfolding from
  get_or-from k zero i d h = absurd (not-suc-le-zero h)
  get_or-from k (suc n) zero d h = ap f (sym (add-zero k))
  get_or-from k (suc n) (suc i) d h = get_or-from (suc k) n i d (le_of_suc-le-suc h) ∙ ap f (omega arith)

  pub from_more : (k n : ℕ) → from f k (suc n) ≡ from f k n ++ (f (k + n) ∷ [])
  unfolding from
  from_more k zero = ap (λ i. f i ∷ []) (omega arith)
  from_more k (suc n) =
      ap (f k ∷◌) (from_more (suc k) n ∙ ap (λ i. from f (suc k) n ++ (f i ∷ [])) (omega arith))

-- ---- start_of

module _ (n : Shape) (b : List ℕ) where
  pub start_of-none : start_of n b 0 ≡ 0
  unfolding start_of
  start_of-none = refl

  pub start_of-next : (c : ℕ) → start_of n b (c + 1) ≡ start_of n b c + (head_at n b c).transitions
  unfolding start_of
  start_of-next c = rw add-one

  -- a chart's transitions end before those of a later chart start
  pub start_of_mono : (c d : ℕ) → c < d → start_of n b c + (head_at n b c).transitions ≤ start_of n b d
  unfolding start_of
  start_of_mono c zero h = absurd (not-suc-le-zero h)
  start_of_mono c (suc d) h =
      ⊎_elim (λ e. rw e (omega arith)) (λ l. omega (arith, start_of_mono c d l)) (eq-or-lt_of_le (le_of_suc-le-suc h))

-- ---- the fields of a body's records

module _ (n : Shape) (b : List ℕ) (h : AllBytes b) where
  pub head_at-fits : (c : ℕ) → HeadFits (head_at n b c)
  unfolding head_at
  head_at-fits c = head-fits _ (bytes_drop (24 * c) b h)

  pub transition_at-fits : (t : ℕ) → TransitionFits (transition_at n b t)
  unfolding transition_at
  transition_at-fits t = transition-fits _ (bytes_drop (transitions_from n + 28 * t) b h)

  pub slave_at-fits : (i : ℕ) → SlaveFits (slave_at n b i)
  unfolding slave_at
  slave_at-fits i = slave-fits _ (bytes_drop (slaves_from n + 4 * i) b h)

  pub node_at-fits : (j : ℕ) → NodeFits (node_at n b j)
  unfolding node_at
  node_at-fits j = node_fits _ (bytes_drop (nodes_from n + 20 * j) b h)
