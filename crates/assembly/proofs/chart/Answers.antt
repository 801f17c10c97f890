-- `chart` meets its contract: the rewritten chart's transitions are the own ones, with their call signals, and the idle
-- ones.
use mathlib.Core.Path.{◌≡◌, sym, ap, ◌∙◌}
use mathlib.Core.List.{List, ◌++◌}
use Prim.Native.Nat.{ℕ, ◌+◌, ◌<◌}
use native.Mathlib.Omega.{arith}
use borrow.Author.Rules.{rules}
use Rattle.layout.specs.Record.{transition_bytes}
use Rattle.layout.specs.Body.{transition_at}
use Rattle.layout.specs.declared.body.Shape.{Shape}
use Rattle.layout.specs.declared.record.Head.{Head}
use Rattle.meaning.specs.Meaning.{Set}
use Rattle.meaning.specs.File.{file_at, chart_of}
use Rattle.meaning.specs.Rewriting.{calls_by, rewritten_chart, in_turn, transitions_bytes}
use Rattle.layout.specs.Put.{Room}
use Rattle.layout.specs.Put.Laws.{put-append, put-length, room_first, room_next}
use Rattle.laying.specs.Sequence.{put_is}
use Rattle.allocation.specs.Known.{Takes}
use Rattle.growth.specs.Growth.{idle_count}
use Rattle.growth.specs.Growth.Laws.{count_most}
use Rattle.assembly.specs.Known.{Stands}
use Rattle.assembly.specs.Records.{called_with, idle_with}
use Rattle.assembly.specs.Records.Laws.{chart-bytes}
use Rattle.checks.specs.Known.Laws.{in_all, own_are}
use Rattle.assembly.proofs.chart.Goals as goal
use Rattle.assembly.proofs.chart.Goals.{After-slice_known-3-1}

-- the own transitions, and the idle ones
abbrev owns : Shape → List ℕ → Set → ℕ → ℕ → ℕ → List ℕ
owns n b κ c s count = in_turn count (λ k. transition_bytes
    (called_with κ (calls_by (file_at n b) c (transition_at n b (s + k))) (transition_at n b (s + k))))

abbrev rests : Set → ℕ → List ℕ
rests κ idle = in_turn idle (λ s. transition_bytes (idle_with κ s))

module _ (n : Shape) (b : List ℕ) (c : ℕ) (h : Head) (s κ idle : ℕ) (t : Takes (file_at n b) c κ) (w : Stands n b c h s)
    (e : idle ≡ idle_count κ h.states) where
  bytes_are : transitions_bytes (rewritten_chart (file_at n b) c).transitions
      ≡ owns n b κ c s h.transitions ++ rests κ idle
  unfolding file_at chart_of
  bytes_are =
      chart-bytes (file_at n b) c κ t (transition_at n b) s h.transitions (own_are n b c s w.head w.start)
      ∙ ap (λ (k : ℕ). owns n b κ c s h.transitions ++ rests κ k)
      (sym (e ∙ ap (λ (h : Head). idle_count κ h.states) w.head))

  room_are : (at : ℕ) (l : List ℕ) → Room l at (transitions_bytes (rewritten_chart (file_at n b) c).transitions)
      → Room l at (owns n b κ c s h.transitions ++ rests κ idle)
  room_are at l r = rw bytes_are at r

pub own-p-requires : goal.own-p-requires
own-p-requires c =
    let p = c.requires in
    let a = c.args in
    let w = p.3 in (
      p.0,
      p.1,
      in_all _ _ _ _ w.head w.start p.0.summed w.there,
      room_first a.out.now a.at (owns a.n a.body.now a.inner a.c a.start a.h.transitions)
          (rests a.inner c.idle_count-idle.result)
          (room_are _ _ _ _ _ _ _ p.2 w c.idle_count-idle.ensures a.at a.out.now p.4),
    )

pub idles-requires : goal.idles-requires
idles-requires c =
    let p = c.requires in
    let a = c.args in
    room_next _ _ _ (rests a.inner c.idle_count-idle.result)
    (room_are _ _ _ _ _ _ _ p.2 p.3 c.idle_count-idle.ensures
    a.at a.out.now p.4)
    c.own-p.ensures

pub returns : goal.returns
returns c =
    let p =
    c.requires in
    put_is (sym (bytes_are _ _ _ _ _ _ _ p.2 p.3
    c.idle_count-idle.ensures))
    (put-append c.own-p.ensures c.idles.ensures)

pub overflow_cast-idle : goal.overflow_cast-idle
overflow_cast-idle c =
    let s : c.args.h.states < 256 =
    search rules in
    omega (
      arith,
      c.idle_count-idle.ensures,
      count_most c.args.inner
          c.args.h.states,
    )

pub shape_of-out : goal.shape_of-out
shape_of-out c = put-length (returns (goal.at.shape_of-out c).After-slice_known-3-1)
