-- `raise` meets its contract: a chart in a slave puts out nothing that is sure. Assumes nothing.
use mathlib.Core.Path.{◌≡◌, refl}
use mathlib.Core.Bool.{Bool, true, false, cond}
use mathlib.Core.List.{List, [], ◌∷◌}
use Prim.Native.Nat.{ℕ, ◌≤◌, ◌<◌}
use borrow.Author.Tests.{lt-ltb, le-ltb}
use lib.Dec.{ltb}
use lib.ListN.{get_or}
use Rattle.signals.specs.Mask.{◌∪◌, ◌∩◌}
use Rattle.signals.specs.Decide.{sets, A, B, C, ∅ₑ, ◌∪ₑ◌, ◌∩ₑ◌, ◌≐◌}
use Rattle.meaning.specs.Numbers.{most_charts}
use Rattle.cells.specs.Table.{back_at, Row, master_at}
use Rattle.tables.specs.Insertion.{sure_at}
use Rattle.candidates.proofs.raise.Goals as goal

module _ (s : List ℕ) (c u : ℕ) where
  in_slave_lem : master_at s c < most_charts → sure_at s c u ≡ 0
  unfolding sure_at
  in_slave_lem h = rw (lt-ltb (master_at s c) most_charts h)

  nothing : u ≡ 0 → sure_at s c u ≡ 0
  unfolding sure_at
  nothing e = go (ltb (master_at s c) most_charts)
    where
      go : (b : Bool) → cond b 0 u ≡ 0
      go true = refl
      go false = e

  module _ (m low : List ℕ) where
    -- what is raised by nothing stays
    stays : sure_at s c u ≡ 0 → Row low (λ d. get_or low d 0 ∪ sure_at s c u ∩ back_at m d c)
    stays e d l = sets (get_or low d 0 ∷ sure_at s c u ∷ back_at m d c ∷ []) (B ≐ ∅ₑ ∷ []) (A ≐ A ∪ₑ B ∩ₑ C) tt e

    outside : (r : List ℕ) → most_charts ≤ master_at s c → Row r (λ d. get_or low d 0 ∪ u ∩ back_at m d c)
        → Row r (λ d. get_or low d 0 ∪ sure_at s c u ∩ back_at m d c)
    unfolding sure_at
    outside r h f d l = rw (le-ltb (master_at s c) most_charts h) (f d l)

pub returns-then-master-lt-CHARTS : goal.returns-then-master-lt-CHARTS
returns-then-master-lt-CHARTS c =
    let a = c.args in (
      c.requires.1,
      stays a.small.now a.c a.u a.masks.now a.low.now
          (in_slave_lem a.small.now a.c a.u (rw c.master.ensures at c.if-master-lt-CHARTS.true)),
    )

pub returns-then-u-ne0 : goal.returns-then-u-ne0
returns-then-u-ne0 c =
    let a = c.args in (
      c.raise_all.ensures.0,
      outside a.small.now a.c a.u a.masks.now a.low.now c.raise_all.new.low
          (rw c.master.ensures at c.if-master-lt-CHARTS.false) c.raise_all.ensures.1,
    )

pub returns-else-u-ne0 : goal.returns-else-u-ne0
returns-else-u-ne0 c = let a = c.args in (
  c.requires.1,
  stays a.small.now a.c a.u a.masks.now a.low.now
      (nothing a.small.now a.c a.u c.if-u-ne0.false),
)
