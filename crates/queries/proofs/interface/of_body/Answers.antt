-- `interface::of_body` meets its contract: the last entries of two tables that are filled with the charts' own
-- interfaces.
use mathlib.Core.Path.{◌≡◌, sym, ap₂, ◌∙◌}
use mathlib.Core.List.{List}
use Prim.Native.Nat.{ℕ, ◌<◌, ◌-◌}
use native.Mathlib.Omega.{arith}
use lib.ListN.{get_or}
use Rattle.meaning.specs.Meaning.{actions, in_face_chart, in_face, out_face}
use Rattle.meaning.specs.File.{File, file_at, whole_of}
use Rattle.meaning.specs.Laws.Folds.{in_fold, out_fold}
use Rattle.meaning.specs.Check.Nodes.{Treed}
use Rattle.queries.specs.Faces.{OwnOf}
use Rattle.parts.specs.Parts.{Filled}
use Rattle.parts.specs.Parts.Laws.{filled}
use Rattle.parts.specs.declared.Off.TheVariants.{Input, Output}
use Rattle.queries.specs.declared.interface.Faces.{Faces}
use Rattle.queries.proofs.interface.of_body.Goals as goal

module _ (F : File) (w : Treed F) (some : 0 < F.nodes) (i u : List ℕ) (o : OwnOf F i u F.charts) (t : List ℕ) where
  input_is : Filled F i Input t F.nodes → get_or t (F.nodes - 1) 0 ≡ in_face F.chart (whole_of F)
  input_is f =
      filled F w i t Input (λ c. in_face_chart (F.chart c)) f o.input_at (F.nodes - 1) (omega arith)
      ∙ sym (in_fold F.chart (whole_of F))

  output_is : Filled F u Output t F.nodes → get_or t (F.nodes - 1) 0 ≡ out_face F.chart (whole_of F)
  output_is f =
      filled F w u t Output (λ c. actions (F.chart c).transitions) f o.output_at (F.nodes - 1) (omega arith)
      ∙ sym (out_fold F.chart (whole_of F))

pub returns : goal.returns
unfolding file_at
returns c =
    let F = file_at c.args.n c.args.body.now in
    let z = c.requires.0.some_node in
    ap₂ {C = Faces} (λ (i o : ℕ). record { input = i; output = o })
    (input_is F c.requires.1.1 z _ _ c.charts-own.ensures _ c.table-inputs.ensures)
    (output_is F c.requires.1.1 z _ _ c.charts-own.ensures _ c.table-outputs.ensures)
