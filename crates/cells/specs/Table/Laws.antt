-- A row that is a part of a search's small numbers (`row-part`).
use Rattle.std.specs.Prelude.{◌≡◌, List, ℕ, ◌+◌, ◌≤◌, length, get_or, take, drop}
use Rattle.std.proofs.Common.{◌∙◌, arith, length-drop, length-take-le, get_or-take, get_or-drop}
use Rattle.meaning.specs.Numbers.{most_charts}
use Rattle.cells.specs.Table.{InRow}

pub row-part : (s : List ℕ) (from : ℕ) → from + most_charts ≤ length s
    → InRow (take most_charts (drop from s)) (λ c. get_or s (from + c) 0)
row-part s from l =
    record {
      long = length-take-le most_charts (drop from s) (rw length-drop (omega arith));
      each = λ c h. get_or-take most_charts (drop from s) c 0 h ∙ get_or-drop from s c 0;
    }
