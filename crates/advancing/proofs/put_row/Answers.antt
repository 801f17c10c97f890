-- `advancing::put_row` meets its contract: the number's four bytes, then the row of a step given or refused.
use mathlib.Core.Path.{◌≡◌, ◌∙◌}
use mathlib.Core.List.{List, ◌∷◌, ◌++◌, append-nil}
use Prim.Native.Nat.{ℕ, ◌+◌, ◌-◌, ◌≤◌}
use native.Mathlib.Omega.{arith}
use borrow.Author.Rules.{rules}
use lib.ListN.{length, take, drop, length-append}
use lib.Seq.{sets, sets-eq, take_at, drop_at, drop-length}
use Rattle.std.specs.Prelude.{Ok, Err}
use Rattle.layout.specs.Le.{bytes}
use Rattle.layout.specs.Le.Laws.{length-bytes}
use Rattle.meaning.specs.Sums.{one}
use Rattle.meaning.specs.Meaning.{Answer, refused, given}
use Rattle.checks.specs.Refusals.{number}
use Rattle.checks.specs.declared.refusal.Refusal.{Refusal}
use Rattle.desk.specs.declared.Reply.{Reply}
use Rattle.desk.specs.Posting.{width}
use Rattle.desk.specs.Turns.{first_bytes, Replies, row_bytes}
use Rattle.desk.proofs.Turns.Posted.{first-bytes}
use Rattle.advancing.proofs.put_row.Goals as goal

-- a part of a lent buffer written anew: what stands before it and after it is kept
abbrev mid : ℕ → ℕ → List ℕ → List ℕ → List ℕ
mid at k l v = take at l ++ (v ++ drop k (drop at l))

row_is : (row l v next : List ℕ) (charts n o m r : ℕ) → length next ≡ width → charts ≤ width
    → length row ≡ 14 + charts → l ≡ sets row 0 (bytes 4 n) → v ≡ bytes 8 o ++ (m ∷ r ∷ take charts next)
    → mid 4 (length l - 4) l v ≡ bytes 4 n ++ (bytes 8 o ++ (m ∷ r ∷ first_bytes charts next))
row_is row l v next charts n o m r x y w e g =
    let four : 0 + length (bytes 4 n) ≡ 4 = omega (arith, length-bytes 4 n) in
    let q : l ≡ bytes 4 n ++ drop 4 row =
    rw (e, sets-eq (bytes 4 n) row 0 (omega (arith, length-bytes 4 n)), four) in
    let t : take 4 l ≡ bytes 4 n = rw q (take_at (bytes 4 n) (drop 4 row) 4 (length-bytes 4 n)) in
    let u : drop 4 l ≡ drop 4 row = rw q (drop_at (bytes 4 n) (drop 4 row) 4 (length-bytes 4 n)) in
    let k : length l - 4 ≡ length (drop 4 row) = rw (q, length-append, length-bytes 4 n) (omega arith) in
    rw (t, u, k, drop-length (drop 4 row), append-nil, g, first-bytes charts next (omega arith))

given_row : (a : Answer) (charts n m : ℕ) (config : List ℕ) (r : Reply) → Replies a config (Ok r) → m ≡ one r.mark
    → bytes 4 n ++ (bytes 8 r.output ++ (m ∷ 0 ∷ first_bytes charts r.next)) ≡ row_bytes charts n a config
unfolding row_bytes
given_row (given o x y) charts n m config r h e = rw (e, h)
given_row (refused x) charts n m config r h e = absurd h

refused_row : (a : Answer) (charts n m : ℕ) (config : List ℕ) (r : Refusal) → Replies a config (Err r) → m ≡ number r
    → bytes 4 n ++ (bytes 8 0 ++ (0 ∷ m ∷ first_bytes charts config)) ≡ row_bytes charts n a config
unfolding row_bytes
refused_row (given o x y) charts n m config r h e = absurd h
refused_row (refused x) charts n m config r h e = rw (e, h)

pub returns-in-Ok : goal.returns-in-Ok
returns-in-Ok c x h =
    let a = c.args in
    row_is a.row.now c.put32.new.s c.put_fields.new.row _ a.charts a.number _ _ _ (search rules) c.requires.0
    c.requires.1 c.put32.ensures c.put_fields.ensures
    ∙ given_row x a.charts a.number _ a.config c.in-Ok.r (rw c.in-Ok.is at h) c.mark_of-mark.ensures

pub returns-in-Err : goal.returns-in-Err
returns-in-Err c x h =
    let a = c.args in
    row_is a.row.now c.put32.new.s c.put_fields-in-Err.new.row _ a.charts a.number _ _ _ (search rules) c.requires.0
    c.requires.1 c.put32.ensures c.put_fields-in-Err.ensures
    ∙ refused_row x a.charts a.number _ a.config c.in-Err.refusal (rw c.in-Err.is at h) c.number.ensures
