-- `advancing::post_one` meets its contract.
use mathlib.Core.Path.{◌≡◌}
use mathlib.Core.List.{List, ◌++◌}
use Prim.Native.Nat.{ℕ, ◌+◌, ◌-◌, ◌*◌}
use native.Mathlib.Omega.{arith}
use lib.ListN.{take, drop}
use lib.Seq.{drop-drop}
use Rattle.meaning.specs.Calls.{next_in, carried_after}
use Rattle.desk.specs.declared.Case.{Case}
use Rattle.desk.specs.declared.Day.{Day}
use Rattle.desk.specs.Turns.{offered_to, answered, row_bytes, turn_case, turn_row}
use Rattle.advancing.proofs.post_one.Goals as goal

case_is : (f : List ℕ) (c : Case) (d : Day) (k kept : ℕ) (next : List ℕ)
    → kept ≡ carried_after (answered f c d k) (offered_to c d k)
    → next ≡ next_in (answered f c d k) c.config
    → record { carried = kept; last = c.last + 1; length = c.length; config = next } ≡ turn_case f c d k
unfolding turn_case
case_is f c d k kept next h g = rw (h, g)

rows_is : (f : List ℕ) (c : Case) (d : Day) (k charts : ℕ) (rows v : List ℕ)
    → v ≡ row_bytes charts (c.last + 1) (answered f c d k) c.config
    → take (k * (14 + charts)) rows
    ++ (v ++ drop ((k * (14 + charts) + (14 + charts)) - k * (14 + charts)) (drop (k * (14 + charts)) rows))
    ≡ take (k * (14 + charts)) rows ++ (turn_row charts f c d k ++ drop (k * (14 + charts) + (14 + charts)) rows)
unfolding turn_row
rows_is f c d k charts rows v g =
    let x : (k * (14 + charts) + (14 + charts)) - k * (14 + charts) ≡ 14 + charts = omega arith in
    rw (x, drop-drop, g)

pub returns : goal.returns
returns c =
    let a = c.args in let e = c.ask-reply.ensures in (
      case_is a.file.now a.c a.d a.k _ _ (c.kept.ensures _ _ e) (c.after.ensures _ e),
      rows_is a.file.now a.c a.d a.k a.charts a.rows.now _ (c.put_row.ensures _ e),
    )
