-- What the functions that find out what is read leave: what a transition looks for (`asked_by`) and each chart (Asks),
-- and what of each chart's action is read (ReadRow).
use Rattle.std.specs.Prelude.{◌≡◌, cond, List, ℕ, ◌<◌, get_or}
use Rattle.layout.specs.Body.{transitions_of}
use Rattle.layout.specs.declared.body.Shape.{Shape}
use Rattle.layout.specs.declared.record.Transition.{Transition}
use Rattle.signals.specs.Mask.{◌∪◌}
use Rattle.meaning.specs.Meaning.{Set, same}
use Rattle.tables.specs.Narrowing.{asked, read_at}
pub mod Laws

-- what a transition looks for, where its chart is in state q
abbrev pub asked_by : ℕ → Transition → Set
asked_by q t = cond (same t.from q) (t.needed ∪ t.barred) 0

-- asks has what each of the first k charts looks for
abbrev pub Asks : Shape → List ℕ → List ℕ → ℕ → List ℕ → Type 0
Asks n b config k asks = (c : ℕ) → c < k → get_or asks c 0 ≡ asked (transitions_of n b c) (get_or config c 0)

-- reads has what of the action of each of the first k charts is read
abbrev pub ReadRow : Shape → List ℕ → List ℕ → List ℕ → ℕ → List ℕ → Type 0
ReadRow n b config m k reads =
    (c : ℕ) → c < k → get_or reads c 0 ≡ read_at m n.charts (λ d. asked (transitions_of n b d) (get_or config d 0)) c
