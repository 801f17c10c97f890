-- What is known of a text on the way to its file: it spells a chart (`Spelt`); and then, that no test before those of
-- the file applies, and what was found of it (`Ready`).
use Rattle.std.specs.Prelude.{◌≡◌, false, List, ℕ, ltb}
use Rattle.layout.specs.declared.body.Shape.{Shape}
use Rattle.meaning.specs.Check.{counts?}
use Rattle.notation.specs.Syntax.{Chart, depth}
use Rattle.notation.specs.Grammar.{Spells}
use Rattle.reading.specs.Numbers.{most_depth}
use Rattle.reading.specs.Names.{any, names?}
use Rattle.reading.specs.Meant.{charts_of, trailer_for}
use Rattle.roster.specs.declared.Roster.{Roster}
use Rattle.roster.specs.Roster.{crowded?, GivesRoster}
use Rattle.texts.specs.Laws.Parts.{shape_for}

pub record Spelt (w : List ℕ) : Type 0 where
  pub chart : Chart
  pub spells : Spells w chart

-- s is what was found of the charts, and m the shape of the file
pub record Ready (w : List ℕ) (s : Roster) (m : Shape) : Type 0 where
  pub chart : Chart
  pub spells : Spells w chart
  pub shallow : ltb most_depth (depth chart) ≡ false
  pub named : names? chart ≡ false
  pub counted : counts? (trailer_for chart) ≡ false
  pub sparse : any crowded? (charts_of chart) ≡ false
  pub found : GivesRoster w s chart
  pub shape : m ≡ shape_for chart
