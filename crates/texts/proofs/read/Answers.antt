-- `read` meets its contract: 50 with its place, or the answer of the chart that the text spells.
use Rattle.std.specs.Prelude.{Result, Ok, Err, is_err}
use mathlib.Core.Path.{◌≡◌, refl, sym, ap, ◌∙◌}
use mathlib.Core.Bool.{true≢false, false≢true}
use mathlib.Core.List.{List}
use Prim.Native.Nat.{ℕ}
use Rattle.notation.specs.Reader.{Reading, spelt, wrong_at, reader}
use Rattle.notation.proofs.Laws.Theorems.{sound}
use Rattle.recogniser.specs.Verdict.{verdict_of}
use Rattle.recogniser.specs.declared.Wrong.{Wrong}
use Rattle.texts.specs.Ready.{Spelt}
use Rattle.texts.specs.Laws.Tests.{says_wrong}
use Rattle.texts.proofs.read.Goals as goal

-- the place of an error
place_of : Result (Unit {0}) Wrong → ℕ
place_of (Ok u) = 0
place_of (Err k) = k.0

module _ (w : List ℕ) where
  spelt_is : (r : Reading) → reader w ≡ r → Ok tt ≡ verdict_of r → Spelt w
  spelt_is (spelt t) e v = record { chart = t; spells = sound w t e }
  spelt_is (wrong_at k) e v = absurd (false≢true (ap is_err v))

  wrong_is : (k : Wrong) (r : Reading) → reader w ≡ r → Err k ≡ verdict_of r → reader w ≡ wrong_at k.0
  unfolding place_of
  wrong_is k (spelt t) e v = absurd (true≢false (ap is_err v))
  wrong_is k (wrong_at j) e v = e ∙ ap wrong_at (sym (ap place_of v))

pub of_chart-requires : goal.of_chart-requires
of_chart-requires c = spelt_is _ _ refl c.in-Ok.ensures

pub returns-in-Err : goal.returns-in-Err
returns-in-Err c = says_wrong _ _ _ (wrong_is _ _ _ refl c.in-Err.ensures)
