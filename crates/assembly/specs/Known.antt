-- What is known where records of the rewritten file are written: of a chart, of the nodes that are made and their
-- names, and that the file is within the limits.
use Rattle.std.specs.Prelude.{◌≡◌, List, ℕ, ◌+◌, ◌≤◌, ◌<◌, length, get_or}
use Rattle.layout.specs.Body.{head_at, start_of}
use Rattle.layout.specs.declared.body.Shape.{Shape}
use Rattle.layout.specs.declared.record.Head.{Head}
use Rattle.meaning.specs.Numbers.{most_nodes, most_in_chart}
use Rattle.meaning.specs.File.{File}
use Rattle.meaning.specs.Rewriting.{rewritten_chart, count, start, new_name}

-- h is the head of chart c, whose transitions begin at s
pub record Stands (n : Shape) (b : List ℕ) (c : ℕ) (h : Head) (s : ℕ) : Type 0 where
  pub there : c < n.charts
  pub head : h ≡ head_at n b c
  pub start : s ≡ start_of n b c

-- chart c has so many slaves, at least one, and its own node gets the name `first`
pub record Master (F : File) (c slaves first : ℕ) : Type 0 where
  pub there : c < F.charts
  pub some : 0 < slaves
  pub number : slaves ≡ count F c F.slaves
  pub named : first + slaves ≤ most_nodes

-- chart c is there, and the first node that is made for the node that holds it gets the name `first`
pub record Holder (F : File) (c first : ℕ) : Type 0 where
  pub there : c < F.charts
  pub named : first + count F c F.slaves ≤ most_nodes

-- node j is there, and the first node that is made for it gets the name `first`
pub record Begins (F : File) (j first : ℕ) : Type 0 where
  pub there : j < F.nodes
  pub is : first ≡ start F j
  pub named : start F F.nodes ≤ most_nodes

-- of each node the name that it gets
abbrev pub NamesIn : File → List ℕ → Type 0
NamesIn F l = (j : ℕ) → j < F.nodes → get_or l j 0 ≡ new_name F j

-- the rewritten file is within the limits, as far as the bytes of its records ask it
pub record Fits (F : File) : Type 0 where
  pub lists : (c : ℕ) → c < F.charts → length (rewritten_chart F c).transitions ≤ most_in_chart
  pub nodes : start F F.nodes ≤ most_nodes
