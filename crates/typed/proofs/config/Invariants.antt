-- `typed::config` meets its contract. The loop's invariant: the states at the front are those read, zeros stand behind
-- them, and the parts from `at` on give the others.
use mathlib.Core.Path.{◌≡◌}
use mathlib.Core.List.{List}
use Prim.Native.Nat.{ℕ, ◌≤◌}
use lib.ListN.{length, take, drop, replicate}
use Rattle.line.specs.Line.{dot}
use Rattle.typed.specs.Typed.{split, states_on, config_of}
use Rattle.typed.proofs.config.Given as goal

pub record So-far (w states : List ℕ) (count at : ℕ) : Type 0 where
  pub few : count ≤ 64
  pub within : at ≤ length w
  pub long : length states ≡ 64
  pub behind : drop count states ≡ drop count (replicate 64 0)
  pub whole : config_of w ≡ states_on (take count states) (split dot (drop at w))

abbrev pub invariant-loop-count : goal.invariant-loop-count
invariant-loop-count l = So-far l.word l.states l.count l.at
