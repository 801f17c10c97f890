-- The rewriting over a tree: what a decomposed chart becomes, the call signals that its transitions output, what a move
-- becomes. That the nodes of a rewritten file make this tree is in Renamed and Laid.
use Rattle.std.specs.Prelude.{Bool, ◌||◌, cond, ℕ}
use Rattle.std.proofs.Math.Option.{Option, none, some}
use Rattle.signals.specs.Mask.{◌∪◌, single}
use Rattle.layout.specs.declared.record.Transition.{Transition}
use Rattle.meaning.specs.Meaning.{Set, ∅, same, Tree, Slaves, leaf, comp, hide, dec, nil, snoc, Move, no_move, takes}
use Rattle.meaning.specs.Meaning.{stay}
use Rattle.meaning.specs.Rewriting.{call_in, called, idle}

-- sig: the call signal of each slave; state: its state
module _ (sig : ℕ → ℕ) where
  -- the call signals of the slaves
  unfoldable pub calls : Slaves → Set
  calls nil = ∅
  calls (snoc ss i t) = calls ss ∪ single (sig i)

  -- the call signal of the nearest slave, if that slave is active
  unfoldable pub on : Option ℕ → Bool → Set
  on κ a = cond a (call_in sig κ) ∅

  module _ (feedback_of : ℕ → Set) where
    unfoldable mutual
      pub tree : Tree → Tree
      tree (leaf c) = leaf c
      tree (comp a b x) = comp (tree a) (tree b) x
      tree (hide a x y) = hide (tree a) x y
      tree (dec c ss) = hide (nest ss c (feedback_of c ∪ calls ss)) (calls ss) (calls ss)

      pub nest : Slaves → ℕ → Set → Tree
      nest nil c x = leaf c
      nest (snoc ss i t) c x = comp (nest ss c x) (tree t) x

  -- the call signals that a master's transition outputs
  unfoldable pub touch : (ℕ → ℕ) → Slaves → Transition → Set
  touch state nil t = ∅
  touch state (snoc ss i u) t =
      touch state ss t ∪ cond (same t.from (state i) || same t.to (state i)) (single (sig i)) ∅

  -- what a move becomes
  unfoldable pub move_r : Option ℕ → (Transition → Set) → ℕ → Move → Move
  move_r κ T s (takes t) = takes (called sig κ T t)
  move_r κ T s stay = stay
  move_r none T s no_move = no_move
  move_r (some i) T s no_move = takes (idle sig i s)
