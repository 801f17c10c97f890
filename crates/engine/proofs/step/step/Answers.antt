-- `step::step` meets its contract: the file's refusal, or the step of its body.
use mathlib.Core.Path.{◌≡◌, ◌∙◌}
use mathlib.Core.List.{List}
use Prim.Native.Nat.{ℕ, ◌<◌}
use native.Mathlib.Omega.{arith}
use Rattle.std.specs.Prelude.{length, Result}
use Rattle.std.proofs.lemmas.Result.{err_from_is_err_and}
use Rattle.layout.specs.declared.body.Shape.{Shape}
use Rattle.meaning.specs.Numbers.{many_open}
use Rattle.meaning.specs.Meaning.{Set, refused}
use Rattle.meaning.specs.File.{trailer, shape_of, body_of, file_at}
use Rattle.meaning.specs.Check.{refusal_of}
use Rattle.meaning.specs.Calls.{step_of, open_of}
use Rattle.checks.specs.Refusals.{number}
use Rattle.checks.specs.Refusals.Laws.{number-some}
use Rattle.checks.specs.declared.refusal.Refusal.{Refusal}
use Rattle.engine.specs.Promises.{StepSays}
use Rattle.stepping.specs.Step.{BodySteps}
use Rattle.stepping.specs.Step.Laws.{step_refused, step-passed, places_passed, open_passed, file-under, checked}
use Rattle.stepping.specs.Step.Laws.{file_is, refuses, says_none}
use Rattle.stepping.specs.declared.step.Stepped.{Stepped}
use Rattle.stepping.specs.declared.step.Refused.{Refused}
use Rattle.engine.proofs.step.step.Goals as goal

module _ (f config : List ℕ) (i : Set) (room : ℕ) (r : Refusal) (e : number r ≡ refusal_of f) where
  by-file : step_of f config i room ≡ refused (number r)
  by-file = rw e (step_refused f config i room (λ z. number-some r (e ∙ z)))

  by-under : number r < many_open
  by-under = let l = file-under f in omega (arith, e)

-- the step of the body that the file is opened to is the file's
by-body : (f : List ℕ) → refusal_of f ≡ 0 → (n : Shape) → n ≡ shape_of (trailer f) → (b : List ℕ) → b ≡ body_of f
    → (config : List ℕ) (i : Set) (next next' : List ℕ) (r : Result Stepped Refused)
    → BodySteps (file_at n b) config i next r next' → StepSays f config i next r next'
by-body f h n en b eb config i next next' r q =
    let room = length next in
    rw (
      step-passed f config i room h,
      places_passed f config i room h,
      open_passed f config i room h,
      file_is f n b en eb,
    ) q

pub returns-in_err-o : goal.returns-in_err-o
unfolding open_of
returns-in_err-o c =
    let p = err_from_is_err_and c.from_residual.result c.from_residual.ensures.1 in
    let e = c.in_err-o.ensures in
    rw (p.1, p.2) (refuses _ _ _ _ _ (by-file _ _ _ _ _ e) (says_none _ _ (by-under _ c.args.config.now c.args.input 0 _ e)))

pub of_body-requires : goal.of_body-requires
of_body-requires c =
    let w = c.in_ok-o.ensures.1 in
    checked _ _ _ c.in_ok-o.ensures.0 w.shape w.body (rw w.body w.sized) (rw w.body w.summed)

pub returns : goal.returns
returns c =
    let w = c.in_ok-o.ensures.1 in
    let a = c.args in
    by-body _ c.in_ok-o.ensures.0 _ w.shape _ w.body a.config.now a.input a.next.now _ _ c.of_body.ensures
