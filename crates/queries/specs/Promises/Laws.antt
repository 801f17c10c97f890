-- Any two results that one of these contracts allows are equal, and so are the bytes that it leaves in buffers.
use Rattle.std.specs.Prelude.{◌≡◌, Bool, List, ℕ, Result}
use Rattle.std.proofs.Common.{sym, ◌∙◌}
use Rattle.signals.specs.declared.guard.Tested.{Tested}
use Rattle.meaning.specs.Meaning.{Set}
use Rattle.checks.specs.Refusals.Laws.{answers-one, numbered-one}
use Rattle.checks.specs.declared.refusal.Refusal.{Refusal}
use Rattle.queries.specs.Promises.{CheckSays, FirstSays, StatesSays, InterfaceSays, PlainSays, LackingSays}
use Rattle.queries.specs.declared.file.StateCounts.{StateCounts}
use Rattle.queries.specs.declared.interface.Faces.{Faces}

module _ (f : List ℕ) where
  pub check_determined : (r r' : Result (Unit {0}) Refusal) → CheckSays f r → CheckSays f r' → r ≡ r'
  check_determined r r' h h' = answers-one _ _ r r' h h'

  pub states_determined : (r r' : Result StateCounts Refusal) → StatesSays f r → StatesSays f r' → r ≡ r'
  states_determined r r' h h' = answers-one _ _ r r' h h'

  pub interface_determined : (r r' : Result Faces Refusal) → InterfaceSays f r → InterfaceSays f r' → r ≡ r'
  interface_determined r r' h h' = answers-one _ _ r r' h h'

  pub plain_determined : (r r' : Result Bool Refusal) → PlainSays f r → PlainSays f r' → r ≡ r'
  plain_determined r r' h h' = answers-one _ _ r r' h h'

  pub first_determined : (b : List ℕ) (r r' : Result (Unit {0}) Refusal) (c c' : List ℕ) → FirstSays f b r c
      → FirstSays f b r' c' → (r ≡ r') × (c ≡ c')
  first_determined b r r' c c' h h' = (answers-one _ _ r r' h.0 h'.0, h.1 ∙ sym h'.1)

  pub lacking_determined : (chart place : ℕ) (o : Set) (r r' : Result Tested Refusal) → LackingSays f chart place o r
      → LackingSays f chart place o r' → r ≡ r'
  lacking_determined chart place o r r' h h' = numbered-one r r' (h ∙ sym h')
