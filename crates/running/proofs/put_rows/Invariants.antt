-- `put_rows` meets its contract: before each input the rows written, then those of the inputs that are left from the
-- present configuration, are all rows.
use mathlib.Core.Path.{◌≡◌}
use mathlib.Core.List.{List, ◌++◌}
use Prim.Native.Nat.{ℕ, ◌+◌, ◌*◌}
use lib.ListN.{length, take, drop}
use Rattle.layout.specs.declared.body.Shape.{Shape}
use Rattle.meaning.specs.File.{file_at}
use Rattle.meaning.proofs.Laws.Runs.{Valid, Stand, rows_from, carried_from}
use Rattle.stepping.specs.Step.{Prepared}
use Rattle.running.proofs.put_rows.Given as goal

module _ (n : Shape) (b inputs : List ℕ) (start : Stand) (rows₀ : List ℕ) where
  -- i inputs were taken: their rows stand before `at`, and they led to the stand t
  pub record So-far (rows : List ℕ) (t : Stand) (at i : ℕ) : Type 0 where
    pub place : at ≡ i * (10 + n.charts)
    pub long : length rows ≡ length rows₀
    pub valid : Valid (file_at n b) t.config
    pub before : take at rows ++ rows_from (file_at n b) t (drop i inputs) ≡ rows_from (file_at n b) start inputs
    pub behind : drop at rows ≡ drop at rows₀
    pub carried : carried_from (file_at n b) t (drop i inputs) ≡ carried_from (file_at n b) start inputs

-- where the code stands
abbrev pub stand : Shape → List ℕ → ℕ → Stand
stand n states held = record { config = take n.charts states; carried = held }

abbrev pub invariant-loop-input : goal.invariant-loop-input
invariant-loop-input l =
    So-far l.n l.body l.inputs (stand l.n l.initial.states l.initial.held) l.initial.rows l.rows
    (stand l.n l.states l.held) l.at l.input-index
    × Prepared l.n l.body l.down l.masks l.small × (length l.masks ≡ length l.initial.masks)
