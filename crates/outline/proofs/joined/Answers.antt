-- `joined` meets its contract.
use mathlib.Core.Path.{refl, ◌∙◌}
use Rattle.outline.specs.Laws.Forms.{larger-max}
use Rattle.outline.proofs.joined.Goals as goal

pub returns : goal.returns
returns c =
    record {
      is_depth = c.max.ensures ∙ larger-max _ _;
      is_bad = refl;
      is_nodes = c.plus.ensures;
      is_slaves = c.plus-2.ensures;
      is_next = refl;
    }
