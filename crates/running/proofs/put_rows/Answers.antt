use mathlib.Core.Path.{◌≡◌, sym, ap, ◌∙◌}
use mathlib.Core.List.{List, ◌++◌}
use Prim.Native.Nat.{ℕ, ◌+◌, ◌-◌, ◌≤◌, ◌<◌}
use native.Mathlib.Omega.{arith}
use lib.ListN.{length, get_or, take, drop}
use lib.Seq.{drop-drop}
use Rattle.signals.specs.Mask.{◌∪◌}
use Rattle.layout.specs.declared.body.Shape.{Shape}
use Rattle.meaning.specs.Meaning.{Answer}
use Rattle.meaning.specs.File.{file_at}
use Rattle.meaning.specs.Calls.{after_step, carried_after, row_of, laid_over}
use Rattle.meaning.proofs.Laws.Runs.{
  Valid,
  Stand,
  step_from,
  stand_after,
  rows_from,
  carried_from,
  valid-after,
  length-next,
}
use Rattle.meaning.proofs.Laws.Runs.{rows_all}
use Rattle.stepping.specs.Step.{Checked, tried_answer}
use Rattle.running.specs.Run.Laws.{leads, laid, laid-before, laid-after, laid-length, run_step, carry_step}
use Rattle.running.specs.Run.Laws.{run_done, carry_done, next_row, next-at}
use Rattle.running.proofs.put_rows.Invariants.{So-far, stand}
use Rattle.running.proofs.put_rows.Goals as goal
use Rattle.running.proofs.put_rows.Goals.{In-loop-input}

module _ (n : Shape) (b inputs : List ℕ) (start : Stand) (rows₀ : List ℕ) where
  module _ (k : Checked n b) (rows : List ℕ) (t : Stand) (at i : ℕ) (s : So-far n b inputs start rows₀ rows t at i) where
    module _ (l : i < length inputs) (room : at + (10 + n.charts) ≤ length rows) (row : List ℕ) (u : Stand)
        (r : Answer)
        (e : r ≡ step_from (file_at n b) t (get_or inputs i 0)) (p : row ≡ row_of r t.config)
        (q : u ≡ stand_after r t (get_or inputs i 0)) where
      wide : length row ≡ at + (10 + n.charts) - at
      unfolding file_at
      wide = rw (p, e, length-next (file_at n b) (leads n b k) t.config (t.carried ∪ get_or inputs i 0) s.valid)
          (omega arith)

      -- one input more
      pub turn : So-far n b inputs start rows₀ (laid rows row at (at + (10 + n.charts))) u (at + (10 + n.charts)) (i + 1)
      turn =
          let w = 10 + n.charts in
          record {
            place = omega (arith, next-at i w, s.place);
            long = laid-length rows row at (at + w) (omega arith) room wide ∙ s.long;
            valid = rw (q, e)
                (valid-after (file_at n b) (leads n b k) t.config (t.carried ∪ get_or inputs i 0) s.valid);
            before = laid-before rows row at (at + w) (omega arith) room wide _ _
                (ap (λ (x : List ℕ). take at rows ++ x) (run_step (file_at n b) inputs t u row r i l e q p) ∙ s.before);
            behind = laid-after rows row at (at + w) (omega arith) room wide ∙ sym (drop-drop w at rows)
                ∙ ap (drop w) s.behind ∙ drop-drop w at rows₀;
            carried = carry_step (file_at n b) inputs t u row r i l e q ∙ s.carried;
          }

    pub all : Valid (file_at n b) start.config → i ≡ length inputs
        → (rows ≡ laid_over (rows_from (file_at n b) start inputs) rows₀)
        × (t.carried ≡ carried_from (file_at n b) start inputs)
    unfolding file_at
    all v e = (
      run_done (file_at n b) inputs start t rows rows₀ i at e
          (rows_all (file_at n b) (leads n b k) start inputs v ∙ rw (← e) (sym s.place)) s.before s.behind,
      carry_done (file_at n b) inputs start t i e s.carried,
    )

-- where a step leads
lands : (n : Shape) (states d : List ℕ) (held x i : ℕ) (r : Answer)
    → (take n.charts d ≡ after_step r (take n.charts states)) × (x ≡ carried_after r (held ∪ i))
    → stand n d x ≡ stand_after r (stand n states held) i
lands n states d held x i r p = λ j. record { config = p.0 j; carried = p.1 j }

-- the next row lies within the rows
fits : (c : In-loop-input) → c.loop-input.at + (10 + c.args.n.charts) ≤ length c.loop-input.rows
fits c =
    omega (
      arith,
      c.loop-input.invariant.0.place,
      c.loop-input.invariant.0.long,
      next_row c.loop-input.input-index (length c.args.inputs.now) (10 + c.args.n.charts) (length c.args.rows.now)
          c.loop-input-test.true c.requires.3,
    )

pub loop-input-preserved : goal.loop-input-preserved
loop-input-preserved c =
    let n = c.args.n in
    let s = c.loop-input in
    let t = stand n s.states s.held in
    let r = tried_answer n.charts c.try_wired-t.result in
    let p = c.after-p.result in (
      turn n c.args.body.now c.args.inputs.now _ _ c.requires.0 s.rows t s.at s.input-index s.invariant.0
          c.loop-input-test.true (fits (goal.at.loop-input-preserved c).In-loop-input) c.put_row.new.row
          (stand n p.states p.carried) r c.try_wired-t.ensures.0.answers c.put_row.ensures
          (lands n s.states p.states s.held p.carried (get_or c.args.inputs.now s.input-index 0) r
          (c.after-p.ensures n.charts)),
      c.try_wired-t.ensures.1,
      c.try_wired-t.auto.masks ∙ s.invariant.2,
    )

pub returns : goal.returns
returns c =
    all c.args.n c.args.body.now c.args.inputs.now _ c.args.rows.now c.requires.0 c.loop-input.rows _ c.loop-input.at
    c.loop-input.input-index c.loop-input.invariant.0 c.requires.1 (omega (arith, c.loop-input-test.false))
