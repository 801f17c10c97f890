-- One byte of the recogniser's loop: the level that it looks at is the one that the reading without a stack looks for;
-- and the verdict by the reading without a stack.
use Rattle.std.specs.Prelude.{Result, Ok, Err, ◌≡◌, refl, false, List, ℕ, ◌<◌, get_or}
use Rattle.std.proofs.Common.{sym, ap, ◌∙◌}
use Rattle.std.proofs.Math.Option.{Option, none, some}
use Rattle.notation.specs.Reader.{Reading, spelt, wrong_at, reader}
use Rattle.scan.specs.Look.{look, levels}
use Rattle.scan.specs.Laws.Levels.{look-first}
use Rattle.scan.specs.Scan.{scan}
use Rattle.scan.specs.Laws.Scan.{verdict, scan-reader}
use Rattle.recogniser.specs.declared.Wrong.{Wrong}
use Rattle.recogniser.specs.Verdict.{verdict_of}
use Rattle.levels.specs.Ring.{slot_of, Ring}

-- ── the level ──

-- the innermost level in the ring
pub first-level : (ring : List ℕ) (end held : ℕ) (v : List ℕ) → Ring ring end held (levels v 0 0 false) → 0 < held
    → get_or ring (slot_of end 0) 0 ≡ look v 0 0 false
first-level ring end held v r h = r.entry 0 h ∙ sym (look-first v 0 0 false)

-- ── the verdict ──

abbrev pub verdict_at : Option ℕ → Result (Unit {0}) Wrong
verdict_at none = Ok tt
verdict_at (some k) = Err (record { 0 = k })

pub scan-verdict : (w : List ℕ) → verdict_at (scan w) ≡ verdict_of (reader w)
unfolding verdict
scan-verdict w = ap verdict_at (scan-reader w) ∙ go (reader w)
  where
    go : (r : Reading) → verdict_at (verdict r) ≡ verdict_of r
    go (spelt t) = refl
    go (wrong_at k) = refl
