-- How many idle transitions a chart gets. Laws of all that is counted are in Growth/Laws.antt.
use Rattle.std.specs.Prelude.{cond, ℕ}
use Rattle.meaning.specs.Meaning.{Set, same}
pub mod Laws

-- one for each of `states` in a slave, where the chart has the call signal κ; outside all slaves, where κ is empty,
-- none
unfoldable pub idle_count : Set → ℕ → ℕ
idle_count κ states = cond (same κ 0) 0 states
