-- `record::write_edition` meets its contract: one store.
use mathlib.Core.Path.{refl}
use Rattle.layout.specs.Record.{with_edition}
use Rattle.layout.proofs.record.write_edition.Goals as goal

pub returns : goal.returns
unfolding with_edition
returns c = refl
