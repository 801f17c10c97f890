-- What is known of the charts' own interfaces while they are read, for `interface`.
use Rattle.std.specs.Prelude.{◌≡◌, List, ℕ, ◌<◌, get_or}
use Rattle.meaning.specs.Meaning.{in_face_chart, actions}
use Rattle.meaning.specs.File.{File}

-- of the charts below c, input has the input interfaces and output the output interfaces
pub record OwnOf (F : File) (input output : List ℕ) (c : ℕ) : Type 0 where
  pub input_at : (k : ℕ) → k < c → get_or input k 0 ≡ in_face_chart (F.chart k)
  pub output_at : (k : ℕ) → k < c → get_or output k 0 ≡ actions (F.chart k).transitions
