-- What `states` answers: how many charts a file has, and how many states each of them has (RULES 2.3).
use Rattle.std.specs.Prelude.{List, ℕ, replicate}
use Rattle.meaning.specs.Numbers.{most_charts}
use Rattle.meaning.specs.File.{file_of}
use Rattle.meaning.specs.Calls.{made, laid_over}
use Rattle.queries.specs.declared.file.StateCounts.{StateCounts}

-- the states of the charts, and 0 past the last chart
unfoldable pub chart_states : List ℕ → List ℕ
chart_states f = laid_over (made (file_of f).charts (λ c. ((file_of f).chart c).states)) (replicate most_charts 0)

unfoldable pub states_of : List ℕ → StateCounts
states_of f = record { charts = (file_of f).charts; states = chart_states f }
