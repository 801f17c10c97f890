-- When two files are the same but for the order of their nodes (`SameCharts`).
use Rattle.std.specs.Prelude.{◌≡◌, ℕ, ◌<◌}
use Rattle.meaning.specs.File.{File, whole_of}

-- G has the charts of F, its slaves and its tree; nodes that make the same tree may have other numbers
pub record SameCharts (F G : File) : Type 0 where
  pub charts : G.charts ≡ F.charts
  pub chart : (c : ℕ) → c < F.charts → G.chart c ≡ F.chart c
  pub slaves : G.slaves ≡ F.slaves
  pub master : (i : ℕ) → i < F.slaves → G.master i ≡ F.master i
  pub state : (i : ℕ) → i < F.slaves → G.state i ≡ F.state i
  pub tree : whole_of G ≡ whole_of F
