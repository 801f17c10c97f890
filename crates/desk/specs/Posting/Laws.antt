-- The posting's contract determines what the call returns and leaves.
use Rattle.std.specs.Prelude.{◌≡◌, List, ℕ, Result}
use Rattle.std.proofs.Common.{sym, ◌∙◌}
use Rattle.checks.specs.Refusals.Laws.{answers-one}
use Rattle.checks.specs.declared.refusal.Refusal.{Refusal}
use Rattle.desk.specs.declared.Case.{Case}
use Rattle.desk.specs.declared.Entry.{Entry}
use Rattle.desk.specs.Posting.{PostSays}

-- two results that the contract allows are equal, and so are the records and the bytes of the row buffer
pub post_determined : (f : List ℕ) (cases : List Case) (entries : List Entry) (rows : List ℕ)
    (r r' : Result (Unit {0}) Refusal) (cs cs' : List Case) (rs rs' : List ℕ)
    → PostSays f cases entries rows r cs rs → PostSays f cases entries rows r' cs' rs'
    → (r ≡ r') × (cs ≡ cs') × (rs ≡ rs')
post_determined f cases entries rows r r' cs cs' rs rs' p q =
    (answers-one _ _ r r' p.0 q.0, p.1 ∙ sym q.1, p.2 ∙ sym q.2)
