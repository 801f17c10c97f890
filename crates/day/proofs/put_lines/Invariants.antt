-- `put_lines` meets its contract: the lines written, then those of the rows that are left, are all lines.
use mathlib.Core.Path.{◌≡◌}
use mathlib.Core.List.{List, ◌++◌}
use Prim.Native.Nat.{ℕ, ◌+◌, ◌*◌, ◌-◌, ◌≤◌}
use lib.ListN.{length, take, drop}
use Rattle.line.specs.Line.{lines_of}
use Rattle.day.proofs.put_lines.Given as goal

module _ (rows out₀ : List ℕ) (w n : ℕ) where
  -- the lines of i rows stand before `end`
  pub record So-far (out : List ℕ) (at end i : ℕ) : Type 0 where
    pub counted : i ≤ n
    pub place : at ≡ i * w
    pub room : end ≤ 128 * i
    pub long : length out ≡ length out₀
    pub before : take end out ++ lines_of w (i + 1) (n - i) (drop at rows) ≡ lines_of w 1 n rows
    pub behind : drop end out ≡ drop end out₀

abbrev pub invariant-loop-i : goal.invariant-loop-i
invariant-loop-i l = So-far l.rows l.initial.out l.w l.n l.out l.at l.end l.i
