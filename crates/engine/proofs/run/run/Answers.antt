-- `run::run` meets its contract: the file's refusal, or the run of its body.
use mathlib.Core.Path.{◌≡◌, sym, ◌∙◌}
use mathlib.Core.List.{List}
use Prim.Native.Nat.{ℕ}
use Rattle.std.specs.Prelude.{Result, Err}
use Rattle.std.proofs.lemmas.Result.{err_from_is_err_and}
use Rattle.layout.specs.declared.body.Shape.{Shape}
use Rattle.meaning.specs.File.{trailer, shape_of, body_of, file_at}
use Rattle.meaning.specs.Check.{refusal_of}
use Rattle.checks.specs.Refusals.{number}
use Rattle.checks.specs.Refusals.Laws.{number-some}
use Rattle.checks.specs.declared.refusal.Refusal.{Refusal}
use Rattle.stepping.specs.Step.Laws.{checked, file_is}
use Rattle.engine.specs.Promises.{RunSays}
use Rattle.running.specs.Run.{BodyRuns}
use Rattle.running.specs.Run.Laws.{run_refused, bytes_refused, run_passed, bytes-passed, carried_passed}
use Rattle.engine.proofs.run.run.Goals as goal

module _ (f config : List ℕ) (carried : ℕ) (inputs rows : List ℕ) where
  by-file : (r : Refusal) → number r ≡ refusal_of f → RunSays f config carried inputs rows (Err r) rows
  by-file r e =
      let z : refusal_of f ≡ 0 → ⊥ = λ q. number-some r (e ∙ q) in
      (e ∙ sym (run_refused f config carried inputs rows z), sym (bytes_refused f config carried inputs rows z))

  -- the run of the body that the file is opened to is the file's
  by-body : refusal_of f ≡ 0 → (n : Shape) → n ≡ shape_of (trailer f) → (b : List ℕ) → b ≡ body_of f
      → (rows' : List ℕ) (a : Result ℕ Refusal)
      → BodyRuns (file_at n b) config carried inputs rows a rows' → RunSays f config carried inputs rows a rows'
  by-body h n en b eb rows' a q =
      rw (
        run_passed f config carried inputs rows h,
        carried_passed f config carried inputs rows h,
        bytes-passed f config carried inputs rows h,
        file_is f n b en eb,
      ) q

pub returns-in_err-o : goal.returns-in_err-o
returns-in_err-o c =
    let p = err_from_is_err_and c.from_residual.result c.from_residual.ensures.1 in
    rw (p.1, p.2) (by-file _ _ _ _ _ _ c.in_err-o.ensures)

pub of_body-requires : goal.of_body-requires
of_body-requires c =
    let w = c.in_ok-o.ensures.1 in
    checked _ _ _ c.in_ok-o.ensures.0 w.shape w.body (rw w.body w.sized) (rw w.body w.summed)

pub returns : goal.returns
returns c =
    let w = c.in_ok-o.ensures.1 in
    let a = c.args in
    by-body _ a.config.now a.carried a.inputs.now a.rows.now c.in_ok-o.ensures.0 _ w.shape _ w.body _ _
    c.of_body.ensures
