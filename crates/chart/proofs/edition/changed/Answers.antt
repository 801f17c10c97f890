-- A file that is accepted has a trailer.
use Rattle.meaning.specs.Check.Laws.{passed}
use Rattle.chart.proofs.edition.changed.Goals as goal

pub write_edition-requires : goal.write_edition-requires
write_edition-requires c = (passed _ c.in_ok-check.ensures.0).long
