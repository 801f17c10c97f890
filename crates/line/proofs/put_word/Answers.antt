-- `line::put_word` meets its contract.
use mathlib.Core.Path.{◌≡◌, refl, sym}
use mathlib.Core.List.{append_assoc}
use Prim.Native.Nat.{◌+◌, ◌-◌}
use native.Mathlib.Omega.{arith}
use lib.ListN.{length}
use lib.Seq.{drop-drop}
use Rattle.std.proofs.lemmas.List.Edits.{sets-eq}
use Rattle.line.proofs.put_word.Goals as goal

pub returns : goal.returns
returns c =
    let a = c.args in
    let e : a.at + length a.word.now - a.at ≡ length a.word.now = omega arith in
    record {
      is = rw (e, c.copy_from_slice.ensures.after, drop-drop, ← append_assoc) (sym (sets-eq a.word.now a.out.now a.at c.requires));
      place = refl;
    }
