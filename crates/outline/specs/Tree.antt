-- What the outline of a chart tells, on the tree: whether 52 applies to a sequential chart in it, or to what stands
-- between charts; how many nodes its file has, and how many slaves.
use Rattle.std.specs.Prelude.{Bool, ◌||◌, not, ℕ, ◌+◌}
use Rattle.notation.specs.Syntax.{Sequential, Single, sequential, decomposed, hidden, Chart, single, composed, Slaves}
use Rattle.notation.specs.Syntax.{first_slave, more_slaves, depth, depth_slaves}
use Rattle.reading.specs.Names.{members_of, has, set?, optional?, sequential?}

-- a chart lacks a state
abbrev pub lacking : Sequential → ℕ → Bool
lacking s q = not (has (members_of s.heading.states) q)

unfoldable mutual
  pub refused_single? : Single → Bool
  refused_single? (sequential s) = sequential? s
  refused_single? (decomposed s ps) = sequential? s || refused_slaves? (lacking s) ps
  refused_single? (hidden x t y) = optional? x || (refused? t || optional? y)

  pub refused? : Chart → Bool
  refused? (single s) = refused_single? s
  refused? (composed a x b) = refused? a || (set? x || refused? b)

  -- the slaves of a master that lacks some states
  pub refused_slaves? : (ℕ → Bool) → Slaves → Bool
  refused_slaves? lacks (first_slave q t) = lacks q || refused? t
  refused_slaves? lacks (more_slaves ps q t) = refused_slaves? lacks ps || (lacks q || refused? t)

-- one node for each sequential chart, each hiding and each composition
unfoldable mutual
  pub nodes_in_single : Single → ℕ
  nodes_in_single (sequential s) = 1
  nodes_in_single (decomposed s ps) = nodes_in_slaves ps + 1
  nodes_in_single (hidden x t y) = nodes_in t + 1

  pub nodes_in : Chart → ℕ
  nodes_in (single s) = nodes_in_single s
  nodes_in (composed a x b) = nodes_in a + nodes_in b + 1

  pub nodes_in_slaves : Slaves → ℕ
  nodes_in_slaves (first_slave q t) = nodes_in t
  nodes_in_slaves (more_slaves ps q t) = nodes_in_slaves ps + nodes_in t

unfoldable mutual
  pub slaves_in_single : Single → ℕ
  slaves_in_single (sequential s) = 0
  slaves_in_single (decomposed s ps) = slaves_in_slaves ps
  slaves_in_single (hidden x t y) = slaves_in t

  pub slaves_in : Chart → ℕ
  slaves_in (single s) = slaves_in_single s
  slaves_in (composed a x b) = slaves_in a + slaves_in b

  pub slaves_in_slaves : Slaves → ℕ
  slaves_in_slaves (first_slave q t) = slaves_in t + 1
  slaves_in_slaves (more_slaves ps q t) = slaves_in_slaves ps + (slaves_in t + 1)

-- ── all of it ──

pub record Told : Type 0 where
  pub depth : ℕ
  pub bad : Bool
  pub nodes : ℕ
  pub slaves : ℕ

abbrev pub told : Chart → Told
told t = record { depth = depth t; bad = refused? t; nodes = nodes_in t; slaves = slaves_in t }

abbrev pub told_slaves : (ℕ → Bool) → Slaves → Told
told_slaves lacks ps =
    record {
      depth = depth_slaves ps;
      bad = refused_slaves? lacks ps;
      nodes = nodes_in_slaves ps;
      slaves = slaves_in_slaves ps;
    }
