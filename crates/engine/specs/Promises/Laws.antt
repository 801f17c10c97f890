-- Any two results that one of these contracts allows are equal, and so are the bytes that it leaves in buffers.
use Rattle.std.specs.Prelude.{◌≡◌, List, ℕ, Result}
use Rattle.std.proofs.Common.{sym, ◌∙◌}
use Rattle.meaning.specs.Meaning.{Set}
use Rattle.checks.specs.Refusals.Laws.{answers-one}
use Rattle.checks.specs.declared.refusal.Refusal.{Refusal}
use Rattle.stepping.specs.Answer.Laws.{steps-one}
use Rattle.stepping.specs.declared.step.Stepped.{Stepped}
use Rattle.stepping.specs.declared.step.Refused.{Refused}
use Rattle.engine.specs.Promises.{StepSays, RunSays}

module _ (f config : List ℕ) where
  pub step_determined : (i : Set) (b : List ℕ) (r r' : Result Stepped Refused) (c c' : List ℕ)
      → StepSays f config i b r c → StepSays f config i b r' c' → (r ≡ r') × (c ≡ c')
  step_determined i b r r' c c' p q = (steps-one _ _ _ r r' p.0 q.0, p.1 ∙ sym q.1)

  pub run_determined : (x : Set) (inputs : List Set) (b : List ℕ) (r r' : Result Set Refusal) (c c' : List ℕ)
      → RunSays f config x inputs b r c → RunSays f config x inputs b r' c' → (r ≡ r') × (c ≡ c')
  run_determined x inputs b r r' c c' p q = (answers-one _ _ r r' p.0 q.0, p.1 ∙ sym q.1)
