-- The table that a walk keeps, and one transition as the walk of 7 meets it. Laws are in Walk/Laws.antt.
use Rattle.std.specs.Prelude.{◌≡◌, Bool, ◌||◌, List, ℕ, ◌+◌, ◌<◌, length, get_or, set}
use Rattle.layout.specs.declared.body.Shape.{Shape}
use Rattle.layout.specs.declared.record.Transition.{Transition}
use Rattle.meaning.specs.Numbers.{most_states, most_from_state}
use Rattle.meaning.specs.Check.{not_below, leaving}
pub mod Laws

-- the table t has f at each of its n places
pub record Table (n : ℕ) (f : ℕ → ℕ) (t : List ℕ) : Type 0 where
  pub long : length t ≡ n
  pub at : (i : ℕ) → i < n → get_or t i 0 ≡ f i

-- one more is counted at place i
abbrev pub one_more : List ℕ → ℕ → List ℕ
one_more t i = set t i (get_or t i 0 + 1)

-- an end is no state of its chart, or `left`, how many left each state before it, has 8 of its own
unfoldable pub next? : Transition → ℕ → List ℕ → Bool
next? t states left =
    not_below t.from states || not_below t.to states || not_below (get_or left t.from 0) most_from_state

-- this one left its state too
unfoldable pub counted : Transition → List ℕ → List ℕ
counted t left = one_more left t.from

-- `left` has how many of the first k transitions of chart c left each state
abbrev pub Counts : Shape → List ℕ → ℕ → List ℕ → ℕ → Type 0
Counts n b c left k = Table most_states (λ s. leaving n b c s k) left
