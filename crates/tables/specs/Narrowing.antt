-- What of a chart's action makes a difference to a step: what comes out of the whole, and what gets to a chart that
-- looks for it. Charts whose actions are narrowed to that have the same outcomes (Narrowing/Laws.antt), and fewer
-- candidates.
use Rattle.std.specs.Prelude.{cond, List, [], ◌∷◌, ℕ, ◌<◌}
use Rattle.signals.specs.Mask.{◌∪◌, ◌∩◌, Within}
use Rattle.layout.specs.declared.record.Transition.{Transition}
use Rattle.meaning.specs.Meaning.{Set, ∅, same, Chart, Tree}
use Rattle.meaning.specs.Rewriting.{union_up_to}
use Rattle.wiring.specs.Reach.{full, up, back}
use Rattle.cells.specs.Table.{back_at, up_at}
pub mod Laws

-- ── what is read ──

-- what a chart in state q looks for: the signals of the guards of all transitions from it, taken or triggering
unfoldable pub asked : List Transition → ℕ → Set
asked [] q = ∅
asked (t ∷ ts) q = asked ts q ∪ cond (same t.from q) (t.needed ∪ t.barred) ∅

module _ (E : ℕ → Chart) (cfg : ℕ → ℕ) (N : ℕ) (t : Tree) where
  -- what of chart k's action comes out of the whole, or gets to a chart that looks for it
  unfoldable pub read_of : ℕ → Set
  read_of k = up t k ∪ union_up_to N (λ c. back E t c k ∩ asked (E c).transitions (cfg c))

  -- r has all of it, for each chart
  abbrev pub Reads : (ℕ → Set) → Type 0
  Reads r = (k : ℕ) → k < N → Within (read_of k ∩ full) (r k)

-- the same by the tables, where ask has what each chart looks for
unfoldable pub read_at : List ℕ → ℕ → (ℕ → Set) → ℕ → Set
read_at m N ask k = up_at m k ∪ union_up_to N (λ c. back_at m c k ∩ ask c)

-- ── with nothing else in the actions ──

-- a transition with only r of its action
abbrev pub narrow : Set → Transition → Transition
narrow r t = record { from = t.from; to = t.to; needed = t.needed; barred = t.barred; action = t.action ∩ r }

unfoldable pub narrow_all : Set → List Transition → List Transition
narrow_all r [] = []
narrow_all r (t ∷ ts) = narrow r t ∷ narrow_all r ts

abbrev pub narrow_chart : Set → Chart → Chart
narrow_chart r K =
    record {
      states = K.states;
      initial = K.initial;
      transitions = narrow_all r K.transitions;
      feedback = K.feedback;
      extra = K.extra;
      stays = K.stays;
    }

-- each chart with what r has for it
abbrev pub narrowed : (ℕ → Set) → (ℕ → Chart) → ℕ → Chart
narrowed r E c = narrow_chart (r c) (E c)
