-- Any two results that one of these contracts allows are equal, and so are the bytes that it leaves in buffers.
use Rattle.std.specs.Prelude.{◌≡◌, List, ℕ, Result}
use Rattle.std.proofs.Common.{sym, ◌∙◌}
use Rattle.checks.specs.Refusals.Laws.{answers-one}
use Rattle.checks.specs.declared.refusal.Refusal.{Refusal}
use Rattle.transforms.specs.Promises.{RewritingSays, ClearSays}

pub rewriting_determined : (f b : List ℕ) (r r' : Result ℕ Refusal) (c c' : List ℕ) → RewritingSays f b r c
    → RewritingSays f b r' c' → (r ≡ r') × (c ≡ c')
rewriting_determined f b r r' c c' p q = (answers-one _ _ r r' p.0 q.0, p.1 ∙ sym q.1)

pub clear_determined : (f b : List ℕ) (r r' : Result ℕ Refusal) (c c' : List ℕ) → ClearSays f b r c
    → ClearSays f b r' c' → (r ≡ r') × (c ≡ c')
clear_determined f b r r' c c' p q = (answers-one _ _ r r' p.0 q.0, p.1 ∙ sym q.1)
