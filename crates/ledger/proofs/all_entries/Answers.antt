-- An entry more is taken, and behind the last one all are.
use Rattle.std.proofs.Common.{◌≡◌, ℕ, ◌+◌, ◌<◌, List, length, get_or, drop, sym, ◌∙◌, arith, add-one, drop-cons}
use Rattle.std.proofs.Math.Seq.{drop-length}
use Rattle.desk.specs.declared.Entry.{Entry}
use Rattle.desk.specs.declared.Day.{Day}
use Rattle.desk.specs.Turns.{taken_of, all_taken}
use Rattle.ledger.proofs.all_entries.Goals as goal

taken_next : (n : ℕ) (d : Day) (es : List Entry) (i : ℕ) (e : Entry) → i < length es
    → all_taken n d (drop i es) ≡ all_taken n (taken_of n d (get_or es i e)) (drop (i + 1) es)
unfolding all_taken
taken_next n d es i e l = rw (drop-cons es i e l, add-one)

taken_last : (n : ℕ) (d : Day) (es : List Entry) (i : ℕ) → i ≡ length es → all_taken n d (drop i es) ≡ d
unfolding all_taken
taken_last n d es i e = rw (e, drop-length es)

pub loop-entry-preserved : goal.loop-entry-preserved
loop-entry-preserved c = rw c.take_one-d.ensures
    (sym (taken_next c.args.n c.loop-entry.d c.args.entries.now c.loop-entry.entry-index _ c.loop-entry-test.true)
    ∙ c.loop-entry.invariant)

pub returns : goal.returns
returns c =
    sym (taken_last c.args.n c.loop-entry.d c.args.entries.now c.loop-entry.entry-index (omega arith)) ∙ c.loop-entry.invariant
