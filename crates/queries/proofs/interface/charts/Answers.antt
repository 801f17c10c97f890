use mathlib.Core.Path.{◌≡◌, refl, sym, ap₂, ◌∙◌}
use mathlib.Core.List.{List}
use Prim.Native.Nat.{ℕ, ◌+◌, ◌≤◌}
use native.Mathlib.Omega.{arith}
use lib.ListN.{length-set}
use Rattle.signals.specs.Mask.{◌∪◌}
use Rattle.layout.specs.Body.{head_at, start_of, from, transition_at, transitions_of}
use Rattle.layout.specs.declared.body.Shape.{Shape}
use Rattle.layout.specs.declared.record.Head.{Head}
use Rattle.meaning.specs.Meaning.{guards, actions, in_face_chart}
use Rattle.meaning.specs.File.{file_at, chart_of}
use Rattle.layout.specs.Body.Laws.{start_of-none}
use Rattle.checks.specs.Known.Laws.{in_all, start-next}
use Rattle.layout.specs.Row.Laws.{fill_more}
use Rattle.queries.proofs.interface.charts.Goals as goal
use Rattle.queries.proofs.interface.charts.Goals.{After-head_at-h}

-- h is the head of chart c, whose transitions begin at s
module _ (n : Shape) (b : List ℕ) (c s : ℕ) (h : Head) (eh : h ≡ head_at n b c) (es : s ≡ start_of n b c) where
  input_is : (v : ℕ) → v ≡ guards (from (transition_at n b) s h.transitions) ∪ h.extra
      → v ≡ in_face_chart ((file_at n b).chart c)
  unfolding in_face_chart file_at chart_of transitions_of
  input_is v e = e ∙ ap₂ (λ (s : ℕ) (h : Head). guards (from (transition_at n b) s h.transitions) ∪ h.extra) es eh

  output_is : (v : ℕ) → v ≡ actions (from (transition_at n b) s h.transitions)
      → v ≡ actions ((file_at n b).chart c).transitions
  unfolding file_at chart_of transitions_of
  output_is v e = e ∙ ap₂ (λ (s : ℕ) (h : Head). actions (from (transition_at n b) s h.transitions)) es eh

pub loop-c-init : goal.loop-c-init
loop-c-init c = (
  refl,
  refl,
  sym (start_of-none _ _),
  record { input_at = λ k h. absurd (omega arith); output_at = λ k h. absurd (omega arith) },
)

-- a chart's transitions are there
fits : (c : After-head_at-h)
    → c.loop-c.start + c.head_at-h.result.transitions
    ≤ c.args.n.transitions
fits c =
    in_all _ _ _ _ c.head_at-h.ensures c.loop-c.invariant.2 c.requires.1 c.loop-c-test.true

pub guards-requires : goal.guards-requires
guards-requires c = (c.requires.0, fits (goal.at.guards-requires c).After-head_at-h)

pub actions-requires : goal.actions-requires
actions-requires c = (c.requires.0, fits (goal.at.actions-requires c).After-head_at-h)

pub overflow_add-start : goal.overflow_add-start
overflow_add-start c = omega (arith, fits (goal.at.overflow_add-start c).After-head_at-h)

pub loop-c-preserved : goal.loop-c-preserved
loop-c-preserved c = (
  simp length-set c.loop-c.invariant.0,
  simp length-set c.loop-c.invariant.1,
  start-next _ _ _ _ c.head_at-h.ensures c.loop-c.invariant.2,
  record {
    input_at = fill_more _ c.loop-c.input c.loop-c.c _ c.loop-c.invariant.3.input_at
        (input_is _ _ _ _ _ c.head_at-h.ensures c.loop-c.invariant.2 _ c.guards.ensures) (omega arith);
    output_at = fill_more _ c.loop-c.output c.loop-c.c _ c.loop-c.invariant.3.output_at
        (output_is _ _ _ _ _ c.head_at-h.ensures c.loop-c.invariant.2 _ c.actions.ensures) (omega arith);
  },
)

pub returns : goal.returns
returns c =
    let o = c.loop-c.invariant.3 in
    record { input_at = λ k h. o.input_at k (omega arith); output_at = λ k h. o.output_at k (omega arith) }

pub offset_bounds-input-c : goal.offset_bounds-input-c
offset_bounds-input-c c = omega arith

pub bounds-input-c : goal.bounds-input-c
bounds-input-c c = omega arith

pub offset_bounds-output-c : goal.offset_bounds-output-c
offset_bounds-output-c c = omega arith

pub bounds-output-c : goal.bounds-output-c
bounds-output-c c = omega arith
