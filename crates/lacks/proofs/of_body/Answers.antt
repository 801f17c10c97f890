-- `of_body` meets its contract: a chart that is not there, a place that its list does not have, or the test of the
-- transition there.
use mathlib.Core.Path.{◌≡◌, sym, ap, ap₂, ◌∙◌}
use mathlib.Core.List.{List}
use Rattle.std.specs.Prelude.{Ok, Err}
use Prim.Native.Nat.{ℕ, ◌+◌, ◌≤◌, ◌<◌}
use native.Mathlib.Omega.{arith}
use lib.ListN.{length}
use Rattle.layout.specs.Body.{head_at, transition_at, start_of, transitions_of}
use Rattle.layout.specs.Body.Laws.{length_from}
use Rattle.layout.specs.declared.body.Shape.{Shape}
use Rattle.layout.specs.declared.record.Head.{Head}
use Rattle.layout.specs.declared.record.Transition.{Transition}
use Rattle.signals.specs.declared.guard.Tested.{Tested}
use Rattle.meaning.specs.Numbers.{no_such_chart, no_such_place}
use Rattle.meaning.specs.Meaning.{Set, no_move, takes, nth}
use Rattle.meaning.specs.File.{chart_of, file_at}
use Rattle.meaning.proofs.Laws.Choices.{nth-from}
use Rattle.lacks.specs.Lacking.{test_of, lacking_in}
use Rattle.lacks.proofs.Laws.{no_chart, no_place, both_there, in_refused, in_shown, at_place}
use Rattle.lacks.proofs.of_body.Goals as goal

module _ (n : Shape) (b : List ℕ) (chart place : ℕ) (o : Set) where
  long : length ((file_at n b).chart chart).transitions ≡ (head_at n b chart).transitions
  unfolding file_at chart_of transitions_of
  long = length_from (transition_at n b) (start_of n b chart) (head_at n b chart).transitions

  charted : n.charts ≤ chart → Err no_such_chart ≡ lacking_in (file_at n b) chart place o
  unfolding file_at
  charted l = in_refused (file_at n b) chart place o _ (λ z. omega (arith, z)) (no_chart (file_at n b) chart place l)

  module _ (l : chart < n.charts) (h : Head) (eh : h ≡ head_at n b chart) where
    count : h.transitions ≡ length ((file_at n b).chart chart).transitions
    count = ap (λ (x : Head). x.transitions) eh ∙ sym long

    placed : h.transitions ≤ place → Err no_such_place ≡ lacking_in (file_at n b) chart place o
    unfolding file_at
    placed k =
        in_refused (file_at n b) chart place o _ (λ z. omega (arith, z))
        (no_place (file_at n b) chart place l (let e = count in omega (arith, e)))

    module _ (k : place < h.transitions) where
      here : nth no_move ((file_at n b).chart chart).transitions place
          ≡ takes (transition_at n b (start_of n b chart + place))
      unfolding file_at chart_of transitions_of
      here =
          nth-from no_move (transition_at n b) (start_of n b chart) (head_at n b chart).transitions place
          (let t = ap (λ (x : Head). x.transitions) eh in omega (arith, t, k))

      shows : (t : Transition) → t ≡ transition_at n b (start_of n b chart + place) → (r : Tested)
          → r ≡ test_of h.feedback t o → Ok r ≡ lacking_in (file_at n b) chart place o
      unfolding file_at chart_of
      shows t et r er =
          ap Ok (er ∙ ap₂ (λ (x : Head) (z : Transition). test_of x.feedback z o) eh et
          ∙ sym (at_place ((file_at n b).chart chart) place (transition_at n b (start_of n b chart + place)) o here))
          ∙ in_shown (file_at n b) chart place o
          (both_there (file_at n b) chart place l (let e = count in omega (arith, e, k)))

pub returns-then-chart-n : goal.returns-then-chart-n
returns-then-chart-n c = charted _ _ c.args.chart c.args.place c.args.offered c.if-chart-n.true

pub returns-then-place-head : goal.returns-then-place-head
returns-then-place-head c =
    placed _ _ c.args.chart c.args.place c.args.offered (omega arith) _ c.head_at-head.ensures
    c.if-place-head.true

pub at_place-t-requires : goal.at_place-t-requires
at_place-t-requires c =
    let t = ap (λ (x : Head). x.transitions) c.head_at-head.ensures in
    (c.requires.0, c.requires.1, c.if-chart-n.false, (let l = c.if-place-head.false in omega (arith, t, l)))

pub returns : goal.returns
returns c =
    shows _ _ c.args.chart c.args.place c.args.offered c.if-chart-n.false _ c.head_at-head.ensures
    c.if-place-head.false _ c.at_place-t.ensures _ c.test.ensures
