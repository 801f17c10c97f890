-- Laws of a chart's transitions as a walk over charts reads them: they are there, the next chart's begin behind them,
-- and they are the file's.
use Rattle.std.specs.Prelude.{◌≡◌, List, ℕ, ◌+◌, ◌≤◌, ◌<◌}
use Rattle.std.proofs.Common.{ap, arith}
use Rattle.layout.specs.Body.{head_at, transition_at, start_of, from, transitions_of}
use Rattle.layout.specs.Body.Laws.{start_of-next, start_of_mono}
use Rattle.layout.specs.declared.body.Shape.{Shape}
use Rattle.layout.specs.declared.record.Head.{Head}
use Rattle.meaning.specs.File.{file_at, chart_of}
use Rattle.checks.specs.Known.{Summed}

-- h is the head of chart c, whose transitions begin at s
module _ (n : Shape) (b : List ℕ) (c s : ℕ) {h : Head} (eh : h ≡ head_at n b c) (es : s ≡ start_of n b c) where
  pub in_all : Summed n b → c < n.charts → s + h.transitions ≤ n.transitions
  in_all w l = let e = ap (λ (h : Head). h.transitions) eh in omega (arith, start_of_mono n b c n.charts l)

  pub start-next : s + h.transitions ≡ start_of n b (c + 1)
  start-next = let e = ap (λ (h : Head). h.transitions) eh in omega (arith, start_of-next n b c)

  pub own_are : ((file_at n b).chart c).transitions ≡ from (transition_at n b) s h.transitions
  unfolding file_at chart_of transitions_of
  own_are = rw (es, eh)
