-- Which charts of a file can be typed, so that they read again as they are: no more states than have names, and sets of
-- 64 signals (`Fits`).
use Rattle.std.specs.Prelude.{ℕ, ◌≤◌, ◌<◌, ◌^◌}
use Rattle.layout.specs.declared.record.Transition.{Transition as Record}
use Rattle.meaning.specs.Meaning.{Chart as Part}
use Rattle.agreement.specs.Every.{Every}
use Rattle.reading.specs.Numbers.{named_states}

-- a transition between the first n states, with sets of 64 signals
pub record FitsIn (n : ℕ) (t : Record) : Type 0 where
  pub from : t.from < n
  pub to : t.to < n
  pub needed : t.needed < 2 ^ 64
  pub barred : t.barred < 2 ^ 64
  pub action : t.action < 2 ^ 64

pub record Fits (C : Part) : Type 0 where
  pub states : C.states ≤ named_states
  pub initial : C.initial < C.states
  pub feedback : C.feedback < 2 ^ 64
  pub extra : C.extra < 2 ^ 64
  pub transitions : Every (FitsIn C.states) C.transitions
