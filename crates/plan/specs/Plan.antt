-- The plan of a file that is wired: what a search reads in its masks m and small numbers s, and what of the input gets
-- down to each chart, a.
use Rattle.std.specs.Prelude.{◌≡◌, List, ℕ, ◌<◌, get_or}
use Rattle.meaning.specs.File.{File, whole_of}
use Rattle.wiring.specs.Reach.{down, up, back}
use Rattle.cells.specs.Table.{back_at, up_at}
use Rattle.plan.specs.Noted.{NearestIn}

pub record Wired (F : File) (a m s : List ℕ) : Type 0 where
  pub down_is : (c : ℕ) → c < F.charts → get_or a c 0 ≡ down (whole_of F) c
  pub up_is : (d : ℕ) → d < F.charts → up_at m d ≡ up (whole_of F) d
  pub back_is : (c d : ℕ) → c < F.charts → d < F.charts → back_at m c d ≡ back F.chart (whole_of F) c d
  pub nearest_is : NearestIn F s
