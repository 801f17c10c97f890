-- `file::states` meets its contract: the file's refusal, or the states of its charts over zeros.
use mathlib.Core.Path.{◌≡◌}
use mathlib.Core.List.{List}
use Prim.Native.Nat.{ℕ, ◌≤◌}
use native.Mathlib.Omega.{arith}
use lib.ListN.{replicate}
use Rattle.std.proofs.lemmas.Result.{err_from_is_err_and}
use Rattle.layout.specs.Body.{head_at}
use Rattle.layout.specs.declared.body.Shape.{Shape}
use Rattle.meaning.specs.Numbers.{most_charts}
use Rattle.meaning.specs.File.{trailer, shape_of, body_of, chart_of, file_at, file_of}
use Rattle.meaning.specs.Check.{refusal_of}
use Rattle.meaning.specs.Check.Laws.{passed, counted}
use Rattle.meaning.specs.Calls.{made, laid_over}
use Rattle.queries.specs.States.{chart_states, states_of}
use Rattle.queries.proofs.file.states.Goals as goal
use Rattle.queries.proofs.file.states.Goals.{In_ok-o}

-- the file is accepted
module _ (f : List ℕ) (h : refusal_of f ≡ 0) (n : Shape) (is : n ≡ shape_of (trailer f)) where
  few : n.charts ≤ most_charts
  unfolding shape_of
  few = rw is (counted (trailer f) (passed f h).counts).charts

  laid : (b states : List ℕ) → b ≡ body_of f
      → states ≡ laid_over (made n.charts (λ c. (head_at n b c).states)) (replicate most_charts 0)
      → record { charts = n.charts; states = states } ≡ states_of f
  unfolding states_of chart_states file_of file_at chart_of
  laid b states g e = rw (e, g, is)

pub returns-in_err-o : goal.returns-in_err-o
returns-in_err-o c =
    let p = err_from_is_err_and c.from_residual.result c.from_residual.ensures.1 in
    rw (p.1, p.2) c.in_err-o.ensures

-- the file is accepted, and its body is opened
abbrev few_here : (c : In_ok-o) → c.in_ok-o.o.shape.charts ≤ most_charts
few_here c = let w = c.in_ok-o.ensures in few _ w.0 _ w.1.shape

pub put_counts-requires : goal.put_counts-requires
put_counts-requires c =
    let w = c.in_ok-o.ensures.1 in (rw w.body w.sized.holds, few_here (goal.at.put_counts-requires c).In_ok-o)

pub overflow_cast-charts : goal.overflow_cast-charts
overflow_cast-charts c =
    let h = few_here (goal.at.overflow_cast-charts c).In_ok-o in record { fits = omega (arith, h) }

pub returns : goal.returns
returns c = let w = c.in_ok-o.ensures in (w.0, laid _ w.0 _ w.1.shape _ _ w.1.body c.put_counts.ensures)
