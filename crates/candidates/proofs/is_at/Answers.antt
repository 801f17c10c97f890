-- `is_at` meets its contract: what is read of the candidate is compared with the transition.
use mathlib.Core.Path.{◌≡◌}
use mathlib.Core.List.{List}
use mathlib.Core.Bool.{◌&&◌}
use Prim.Native.Nat.{ℕ}
use Rattle.layout.specs.declared.record.Transition.{Transition}
use Rattle.meaning.specs.Meaning.{same}
use Rattle.cells.specs.Table.{needed_at, barred_at, action_at, to_at}
use Rattle.tables.specs.Insertion.{is_at}
use Rattle.candidates.proofs.is_at.Goals as goal

compared : (m s : List ℕ) (c v : ℕ) (t : Transition) {n b a x : ℕ} → n ≡ needed_at m c v → b ≡ barred_at m c v
    → a ≡ action_at m c v → x ≡ to_at s c v →
    (same n t.needed && (same b t.barred && (same a t.action && same x t.to))) ≡ is_at m s c v t
unfolding is_at
compared m s c v t p q r u = rw (p, q, r, u)

pub returns : goal.returns
unfolding same
returns c =
    compared c.args.masks.now c.args.small.now c.args.c c.args.v c.args.t c.needed.ensures
    c.barred.ensures c.action.ensures c.to.ensures
