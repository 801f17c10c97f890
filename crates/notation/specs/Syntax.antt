-- What is typed in the notation of charts, as a tree: each form, and how deep it is. Numbers are of any size here;
-- which of them a file can have is a matter of refusals. Lists grow at their end.
use Rattle.std.specs.Prelude.{cond, ℕ, suc, ltb}
use Rattle.std.proofs.Math.Option.{Option, none, some}

-- a list of one or more
pub data OneOrMore (A : Type 0) : Type 0 where
  one : A → OneOrMore A
  ◌▸◌ : OneOrMore A → A → OneOrMore A

infixl 60 ◌▸◌
-- a set of signals as typed: in the order of the text, and a signal as often as it was typed
abbrev pub Signals : Type 0
Signals = Option (OneOrMore ℕ)

-- a signal in a guard: as it stands it is needed, behind a minus it is barred
pub data Literal : Type 0 where
  needed : ℕ → Literal
  barred : ℕ → Literal

-- a transition; a guard that is left out is always met
pub record Transition : Type 0 where
  pub from : ℕ
  pub to : ℕ
  pub guard : Option (OneOrMore Literal)
  pub action : Signals

-- the fields of a sequential chart before its transitions
pub record Heading : Type 0 where
  pub name : ℕ
  pub states : OneOrMore ℕ
  pub initial : ℕ
  pub feedback : Signals

-- a sequential chart; its last field, the extra set, may be left out
pub record Sequential : Type 0 where
  pub heading : Heading
  pub transitions : Option (OneOrMore Transition)
  pub extra : Option Signals

mutual
  -- a chart that stands in a composition without round brackets: a sequential one, a master with its slaves, or a chart
  -- between two hiding sets, either of which may be left out
  pub data Single : Type 0 where
    sequential : Sequential → Single
    decomposed : Sequential → Slaves → Single
    hidden : Option Signals → Chart → Option Signals → Single

  -- any chart: a single one, or two composed, with the feedback between them
  pub data Chart : Type 0 where
    single : Single → Chart
    composed : Chart → Signals → Chart → Chart

  -- the slaves of a master, each with its state
  pub data Slaves : Type 0 where
    first_slave : ℕ → Chart → Slaves
    more_slaves : Slaves → ℕ → Chart → Slaves

-- ── depth ──

-- the larger of two numbers
abbrev pub larger : ℕ → ℕ → ℕ
larger m n = cond (ltb m n) n m

-- a sequential chart is one deep, and each operator adds one to the deepest of its parts; round brackets add nothing
unfoldable mutual
  pub depth_single : Single → ℕ
  depth_single (sequential s) = 1
  depth_single (decomposed s ps) = suc (depth_slaves ps)
  depth_single (hidden x t y) = suc (depth t)

  pub depth : Chart → ℕ
  depth (single s) = depth_single s
  depth (composed a x b) = suc (larger (depth a) (depth b))

  -- the deepest of the slaves; a master is a sequential chart and never deeper
  pub depth_slaves : Slaves → ℕ
  depth_slaves (first_slave q t) = depth t
  depth_slaves (more_slaves ps q t) = larger (depth_slaves ps) (depth t)
