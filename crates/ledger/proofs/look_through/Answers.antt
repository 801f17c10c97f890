-- A case more is looked at, and behind the last one all are.
use Rattle.std.proofs.Common.{◌≡◌, ℕ, ◌+◌, ◌<◌, List, length, get_or, drop, sym, ◌∙◌, arith, add-one, drop-cons}
use Rattle.std.proofs.Math.Seq.{drop-length}
use Rattle.desk.specs.declared.Case.{Case}
use Rattle.desk.specs.declared.Seen.{Seen}
use Rattle.desk.specs.Turns.{seen_of, all_seen}
use Rattle.ledger.proofs.look_through.Goals as goal

seen_next : (s : Seen) (cs : List Case) (i : ℕ) (c : Case) → i < length cs
    → all_seen s (drop i cs) ≡ all_seen (seen_of s (get_or cs i c)) (drop (i + 1) cs)
unfolding all_seen
seen_next s cs i c l = rw (drop-cons cs i c l, add-one)

seen_last : (s : Seen) (cs : List Case) (i : ℕ) → i ≡ length cs → all_seen s (drop i cs) ≡ s
unfolding all_seen
seen_last s cs i e = rw (e, drop-length cs)

pub loop-case-preserved : goal.loop-case-preserved
loop-case-preserved c = rw c.look_at-s.ensures
    (sym (seen_next c.loop-case.s c.args.cases.now c.loop-case.case-index _ c.loop-case-test.true)
    ∙ c.loop-case.invariant)

pub returns : goal.returns
returns c = (
  c.in_ok-s.ensures.0,
  sym (seen_last c.loop-case.s c.args.cases.now c.loop-case.case-index (omega arith)) ∙ c.loop-case.invariant,
)
