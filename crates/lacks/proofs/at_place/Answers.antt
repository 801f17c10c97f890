-- `at_place` meets its contract: the place is one of the body's.
use mathlib.Core.Path.{◌≡◌, ap, ◌∙◌}
use mathlib.Core.List.{List}
use Prim.Native.Nat.{ℕ, ◌+◌, ◌<◌}
use native.Mathlib.Omega.{arith}
use Rattle.layout.specs.Body.{head_at, transition_at, start_of}
use Rattle.layout.specs.Body.Laws.{start_of_mono}
use Rattle.layout.specs.declared.body.Shape.{Shape}
use Rattle.checks.specs.Known.{Summed}
use Rattle.lacks.proofs.at_place.Goals as goal
use Rattle.lacks.proofs.at_place.Goals.{After-start_of-start}

there : (n : Shape) (b : List ℕ) → Summed n b → (c place start : ℕ) → c < n.charts → place < (head_at n b c).transitions
    → start ≡ start_of n b c → start + place < n.transitions
there n b u c place start l k e = let m = start_of_mono n b c n.charts l in omega (arith, m, k, e, u)

is-there : (c : After-start_of-start)
    → c.start_of-start.result + c.args.place < c.args.n.transitions
is-there c =
    there c.args.n c.args.body.now c.requires.1 c.args.c c.args.place _ c.requires.2 c.requires.3
    c.start_of-start.ensures

pub overflow_add-start : goal.overflow_add-start
overflow_add-start c =
    let l = is-there (goal.at.overflow_add-start c).After-start_of-start in let w = c.requires.0.transitions in omega (arith, l, w)

pub returns : goal.returns
returns c =
    c.transition_at.ensures
    ∙ ap (λ z. transition_at c.args.n c.args.body.now (z + c.args.place)) c.start_of-start.ensures

pub start_of-start-requires : goal.start_of-start-requires
start_of-start-requires c =
    (c.requires.0.holds, omega arith, (let w = c.requires.0.charts in omega arith))

pub transition_at-requires : goal.transition_at-requires
transition_at-requires c =
    (c.requires.0.holds, is-there (goal.at.transition_at-requires c).After-start_of-start)
