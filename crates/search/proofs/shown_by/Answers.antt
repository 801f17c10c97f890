-- `search::shown_by` meets its contract: the action, as far as it comes out of the whole, is joined to the output.
use mathlib.Core.Path.{ap₂}
use Prim.Native.Nat.{ℕ}
use Rattle.signals.specs.Mask.{◌∪◌, ◌∩◌}
use Rattle.search.proofs.shown_by.Goals as goal

pub returns : goal.returns
returns c =
    let o = c.args.output in
    ap₂ (λ (a u : ℕ). o ∪ a ∩ u) c.action.ensures c.up.ensures
