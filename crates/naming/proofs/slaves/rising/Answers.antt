-- `slaves::rising` meets its contract: its body is the definition, over the two records. Assumes nothing.
use mathlib.Core.Path.{ap₂}
use mathlib.Core.Bool.{◌&&◌, ◌||◌}
use lib.Dec.{ltb, eqb}
use Rattle.layout.specs.declared.record.Slave.{Slave}
use Rattle.meaning.specs.Meaning.{same}
use Rattle.meaning.specs.File.{file_at}
use Rattle.meaning.specs.Check.{rising}
use Rattle.naming.proofs.slaves.rising.Goals as goal

pub returns : goal.returns
unfolding rising file_at same
returns c =
    ap₂ (λ (p q : Slave). ltb p.chart q.chart || (eqb p.chart q.chart && ltb p.state q.state))
    c.slave_at-p.ensures
    c.slave_at-q.ensures
