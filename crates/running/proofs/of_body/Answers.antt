-- `of_body` meets its contract: 20 and 21, then 27, then all rows.
use mathlib.Core.Path.{◌≡◌, refl, sym, ◌∙◌}
use mathlib.Core.List.{List}
use Prim.Native.Nat.{ℕ, ◌+◌, ◌/◌, ◌≤◌, ◌<◌}
use native.Mathlib.Omega.{arith}
use borrow.Author.Rules.{rules}
use lib.ListN.{length, take}
use Rattle.std.specs.Prelude.{Ok}
use Rattle.std.proofs.lemmas.Result.{err_from_is_err_and}
use Rattle.layout.specs.declared.body.Shape.{Shape}
use Rattle.meaning.specs.Numbers.{most_charts, short_rows}
use Rattle.meaning.specs.File.{file_at}
use Rattle.meaning.specs.Check.{first_of}
use Rattle.meaning.specs.Calls.{laid_over, rows_of, carried_of}
use Rattle.meaning.proofs.Laws.Runs.{Valid}
use Rattle.cells.specs.Table.{masks_for}
use Rattle.plan.specs.ByNode.Laws.{blank-new}
use Rattle.checks.specs.Refusals.Laws.{number-some}
use Rattle.checks.specs.declared.refusal.Refusal.TheVariants.{ShortRun}
use Rattle.stepping.specs.Step.{config_tests_in}
use Rattle.stepping.specs.Step.Laws.{config-is}
use Rattle.running.specs.Run.{BodyRuns}
use Rattle.running.specs.Run.Laws.{Refuses, after_config, after_room, after_rows, room, no_room}
use Rattle.running.proofs.of_body.Goals as goal

-- the configuration is accepted
module _ (n : Shape) (b config : List ℕ) (carried : ℕ) (inputs rows : List ℕ)
    (z : 0 ≡ first_of (config_tests_in (file_at n b) config)) where
  valid : Valid (file_at n b) config
  valid = config-is (file_at n b) config (sym z)

  long : length config ≡ n.charts
  unfolding file_at
  long = valid.long

  by_room : length rows / (10 + n.charts) < length inputs → Refuses (file_at n b) config carried inputs rows short_rows
  unfolding file_at
  by_room l =
      after_room (file_at n b) config carried inputs rows (sym z)
      (no_room (length inputs) (10 + n.charts) (length rows) (omega arith) l)

  -- s begins with the configuration
  module _ (s : List ℕ) (h : take (length config) s ≡ config) where
    begins : take n.charts s ≡ config
    begins = rw (← long) h

    by_rows : length inputs ≤ length rows / (10 + n.charts) → (rows' : List ℕ) (c : ℕ)
        → (rows' ≡ laid_over (rows_of (file_at n b) (take n.charts s) carried inputs) rows)
        × (c ≡ carried_of (file_at n b) (take n.charts s) carried inputs)
        → BodyRuns (file_at n b) config carried inputs rows (Ok c) rows'
    unfolding file_at
    by_rows l rows' c p =
        let q = rw begins at p in
        after_rows (file_at n b) config carried inputs rows (sym z)
        (room (length inputs) (10 + n.charts) (length rows) (omega arith) l) rows' c q.0 q.1

pub returns-in_err-test_config : goal.returns-in_err-test_config
returns-in_err-test_config c =
    let p = err_from_is_err_and c.from_residual.result c.from_residual.ensures.1 in
    let e = c.in_err-test_config.ensures in
    rw (p.1, p.2) (after_config _ _ _ _ _ (λ z. number-some _ (e ∙ z)) _ e)

pub returns-then-rows-n : goal.returns-then-rows-n
returns-then-rows-n c = by_room _ _ _ _ _ _ c.in_ok-test_config.ensures c.if-rows-n.true ShortRun refl

pub states_of-start-requires : goal.states_of-start-requires
states_of-start-requires c =
    let a = c.args in
    omega (arith, c.requires.sized.charts, long _ _ _ a.carried a.inputs.now a.rows.now c.in_ok-test_config.ensures)

pub put_rows-requires : goal.put_rows-requires
put_rows-requires c =
    let a = c.args in
    let z = c.in_ok-test_config.ensures in (
      c.requires,
      rw (begins _ _ _ a.carried a.inputs.now a.rows.now z _ c.states_of-start.ensures)
          (valid _ _ _ a.carried a.inputs.now a.rows.now z),
      record {
        wired = c.wired-down.ensures;
        tabled = record { masks = omega (arith, c.requires.sized.charts, c.wired-down.auto.masks); small = search rules };
      },
      room _ _ _ (omega arith) c.if-rows-n.false,
    )

pub returns : goal.returns
returns c =
    by_rows _ _ _ _ _ _ c.in_ok-test_config.ensures _ c.states_of-start.ensures c.if-rows-n.false _ _
    c.put_rows.ensures

pub wired-down-requires : goal.wired-down-requires
wired-down-requires c = (search rules, search rules, blank-new (masks_for most_charts), search rules)
