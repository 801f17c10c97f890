-- `from_start` meets its contract: from every place on, with the levels around it in the ring, the scan is that of the
-- whole text; and the ring has the level that the scan looks for.
use mathlib.Core.Path.{◌≡◌}
use mathlib.Core.List.{[]}
use lib.ListN.{take, drop}
use Rattle.scan.specs.Look.{rev}
use Rattle.scan.specs.Scan.{scan_from, scan}
use Rattle.levels.specs.Ring.{Keeps, MarksIn}
use Rattle.modes.specs.Step.{place_of}
use Rattle.recogniser.proofs.from_start.Given as goal

abbrev pub invariant-loop-i : goal.invariant-loop-i
invariant-loop-i l =
    (Keeps l.text l.ring l.places l.kept (rev (take l.i l.text) []) × MarksIn l.text l.firsts l.lasts l.tops l.kept)
    × (scan_from (drop l.i l.text) (rev (take l.i l.text) []) l.i l.step.mode (place_of l.step.token) ≡ scan l.text)
