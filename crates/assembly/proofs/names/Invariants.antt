-- `names` meets its contract. The loop's invariant: the nodes passed have their names, and `first` is where those made
-- for the next begin.
use mathlib.Core.Path.{◌≡◌}
use mathlib.Core.List.{List}
use Prim.Native.Nat.{ℕ, ◌<◌}
use lib.ListN.{length, get_or}
use Rattle.meaning.specs.File.{File, file_at}
use Rattle.meaning.specs.Rewriting.{start, new_name}
use Rattle.assembly.proofs.names.Given as goal

pub record Named (F : File) (j first : ℕ) (l : List ℕ) : Type 0 where
  pub long : length l ≡ 64
  pub next : first ≡ start F j
  pub names : (k : ℕ) → k < j → get_or l k 0 ≡ new_name F k

abbrev pub invariant-loop-j : goal.invariant-loop-j
invariant-loop-j l = Named (file_at l.n l.body) l.j l.first l.names
