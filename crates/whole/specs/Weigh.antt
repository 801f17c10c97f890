-- Sums over a tree: of what each chart, each composition, each hiding and each slave adds (`weight`); how many nodes,
-- charts and slaves a tree has; whose slaves stand under a master (`Owned`); what its compositions feed back
-- (`fed_in`).
use Rattle.std.specs.Prelude.{◌≡◌, ℕ, ◌+◌}
use Rattle.signals.specs.Mask.{◌∪◌}
use Rattle.meaning.specs.Sums.{one}
use Rattle.meaning.specs.Meaning.{Set, ∅, same, Tree, Slaves, leaf, comp, hide, dec, nil, snoc}

-- ── sums ──

-- what each part of a tree adds to a sum
pub record Weights : Type 0 where
  pub chart : ℕ → ℕ  -- a chart, as a leaf or as a master
  pub composed : Set → ℕ  -- a composition, by its set
  pub hiding : Set → Set → ℕ  -- a hiding, by its two sets
  pub slave : ℕ → ℕ  -- a slave, by its record, its tree aside

module _ (W : Weights) where
  unfoldable mutual
    pub weight : Tree → ℕ
    weight (leaf c) = W.chart c
    weight (comp p q x) = W.composed x + (weight p + weight q)
    weight (hide p x y) = W.hiding x y + weight p
    weight (dec c ss) = W.chart c + weights ss

    pub weights : Slaves → ℕ
    weights nil = 0
    weights (snoc ss i t) = (W.slave i + weight t) + weights ss

-- ── counts ──

-- g of each chart
abbrev pub of_charts : (ℕ → ℕ) → Weights
of_charts g = record { chart = g; composed = λ x. 0; hiding = λ x y. 0; slave = λ i. 0 }

-- g of each slave record
abbrev pub of_slaves : (ℕ → ℕ) → Weights
of_slaves g = record { chart = λ c. 0; composed = λ x. 0; hiding = λ x y. 0; slave = g }

-- one for each node
abbrev pub every_node : Weights
every_node = record { chart = λ c. 1; composed = λ x. 1; hiding = λ x y. 1; slave = λ i. 0 }

-- how many nodes a tree has, those of its slaves with them
abbrev pub nodes_in : Tree → ℕ
nodes_in = weight every_node

-- the sum of g over the charts of a tree
abbrev pub charts_sum : (ℕ → ℕ) → Tree → ℕ
charts_sum g = weight (of_charts g)

-- how often chart c stands in a tree
abbrev pub times_chart : ℕ → Tree → ℕ
times_chart c = weight (of_charts (λ d. one (same d c)))

-- how often the slave of record i stands in a tree
abbrev pub times_slave : ℕ → Tree → ℕ
times_slave i = weight (of_slaves (λ h. one (same h i)))

-- how many slaves a tree has, those inside slaves with them
abbrev pub slaves_in : Tree → ℕ
slaves_in = weight (of_slaves (λ i. 1))

-- ── slaves under their master ──

-- each slave that stands under chart c has c for its master
module _ (master : ℕ → ℕ) where
  abbrev mutual
    pub Owned : Tree → Type 0
    Owned (leaf c) = Unit
    Owned (comp p q x) = Owned p × Owned q
    Owned (hide p x y) = Owned p
    Owned (dec c ss) = OwnedBy c ss

    pub OwnedBy : ℕ → Slaves → Type 0
    OwnedBy c nil = Unit
    OwnedBy c (snoc ss i t) = OwnedBy c ss × (master i ≡ c) × Owned t

-- ── feedback ──

-- what the compositions of a tree feed back
unfoldable mutual
  pub fed_in : Tree → Set
  fed_in (leaf c) = ∅
  fed_in (comp p q x) = x ∪ (fed_in p ∪ fed_in q)
  fed_in (hide p x y) = fed_in p
  fed_in (dec c ss) = fed_in_all ss

  pub fed_in_all : Slaves → Set
  fed_in_all nil = ∅
  fed_in_all (snoc ss i t) = fed_in t ∪ fed_in_all ss
