-- Trees no two transitions of whose charts are doubtful, with all their feedback in one set (PlainTree). The laws are
-- in
-- proofs/Choices.
use Rattle.std.specs.Prelude.{◌≡◌, false, ℕ}
use Rattle.signals.specs.Mask.{Within}
use Rattle.meaning.specs.Meaning.{Set, Chart, Tree, Slaves, leaf, comp, hide, dec, nil, snoc}
use Rattle.meaning.specs.Plain.{any_doubtful}

-- ── a tree of edition 1 whose feedback is in f, and no two transitions of whose charts are doubtful ──

module _ (E : ℕ → Chart) (f : Set) where
  abbrev pub PlainChart : ℕ → Type 0
  PlainChart c = Within (E c).feedback f × (any_doubtful f (E c).transitions ≡ false) × ((E c).stays ≡ false)

  abbrev mutual
    pub PlainTree : Tree → Type 0
    PlainTree (leaf d) = PlainChart d
    PlainTree (comp l r x) = PlainTree l × PlainTree r × Within x f
    PlainTree (hide l x y) = PlainTree l
    PlainTree (dec d ss) = PlainChart d × PlainSlaves ss

    pub PlainSlaves : Slaves → Type 0
    PlainSlaves nil = Unit {0}
    PlainSlaves (snoc ss i t) = PlainSlaves ss × PlainTree t
