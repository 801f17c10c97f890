-- The parts of the file that a chart means, one behind another (`file-parts`), and its trailer, by the file's shape
-- (`trailer_for_lem`).
use Rattle.std.specs.Prelude.{◌≡◌, ℕ}
use Rattle.std.proofs.Math.Path.{ap}
use Rattle.std.proofs.Common.{◌∙◌}
use mathlib.Core.List.{List, ◌++◌, append_assoc}
use Rattle.layout.specs.Record.{trailer_bytes}
use Rattle.layout.specs.declared.body.Shape.{Shape}
use Rattle.meaning.specs.Numbers.{first_edition}
use Rattle.meaning.specs.File.{shape_of}
use Rattle.laying.specs.Trailer.{trailer_with}
use Rattle.notation.specs.Syntax.{Chart}
use Rattle.reading.specs.Meant.{body_for, trailer_for, file_for}
use Rattle.reading.specs.Laws.Body.{heads_for, lines_for, slaves_for, nodes_for, length-body}

module _ (t : Chart) where
  -- how many records there are of each kind
  abbrev pub shape_for : Shape
  shape_for = shape_of (trailer_for t)

  pub trailer_for_lem : trailer_for t ≡ trailer_with shape_for first_edition
  unfolding trailer_for trailer_with shape_of
  trailer_for_lem = rw (length-body t)

  -- the bytes of the trailer
  abbrev pub end_for : List ℕ
  end_for = trailer_bytes (trailer_with shape_for first_edition)

  pub file-parts : file_for t ≡ heads_for t ++ (lines_for t ++ (slaves_for t ++ (nodes_for t ++ end_for)))
  unfolding file_for body_for
  file-parts = ap (λ r. body_for t ++ trailer_bytes r) trailer_for_lem ∙ simp append_assoc
