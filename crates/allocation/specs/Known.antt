-- What the code of the rewriting knows of a body that passed the file check, and what its tables of call signals hold.
use Rattle.std.specs.Prelude.{◌≡◌, true, false, Option, Some, None, List, ℕ, ◌+◌, ◌<◌, ltb, length, get_or}
use Rattle.signals.specs.Mask.{single}
use Rattle.layout.specs.declared.body.Shape.{Shape}
use Rattle.meaning.specs.Numbers.{most_signals}
use Rattle.meaning.specs.Meaning.{Set}
use Rattle.meaning.specs.File.{File, file_at}
use Rattle.meaning.specs.Check.Nodes.{Sound}
use Rattle.meaning.specs.Rewriting.{lacking, call, call_in, nearest_slave}
use Rattle.meaning.specs.Laws.Names.{kap}
use Rattle.checks.specs.Known.{Sized, Summed}
pub mod Laws

-- a body that passed 1 to 11, as far as the rewriting needs that
pub record Checked (n : Shape) (b : List ℕ) : Type 0 where
  pub sized : Sized n b
  pub summed : Summed n b
  pub sound : Sound (file_at n b)

-- slaves get the numbers that `used` lacks, one after another; nothing, if there are fewer than slaves
abbrev pub Calling : ℕ → ℕ → Option (List ℕ) → Type 0
Calling used slaves None = ltb (length (lacking used most_signals)) slaves ≡ true
Calling used slaves (Some l) =
    (ltb (length (lacking used most_signals)) slaves ≡ false)
    × ((i : ℕ) → i < slaves → get_or l i 0 ≡ single (get_or (lacking used most_signals) i (most_signals + i)))

-- of each slave the set of its call signal alone
abbrev pub CallsIn : File → List ℕ → Type 0
CallsIn F l = (i : ℕ) → i < F.slaves → get_or l i 0 ≡ single (call F i)

-- κ is the set of the call signal of chart c's nearest slave
abbrev pub Takes : File → ℕ → Set → Type 0
Takes F c κ = κ ≡ call_in (call F) (nearest_slave F c)

-- of each chart the call signal of its nearest slave; outside all slaves the empty set
abbrev pub InnerIn : File → List ℕ → Type 0
InnerIn F l = (c : ℕ) → c < F.charts → Takes F c (get_or l c 0)

-- the nearest slave of a chart, from the whole down, is the nearest from the chart up
abbrev pub Upward : File → Type 0
Upward F = (c : ℕ) → c < F.charts → nearest_slave F c ≡ kap F c
