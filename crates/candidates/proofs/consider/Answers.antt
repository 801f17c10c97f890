-- `consider` meets its contract. A law for each way through. Assumes nothing.
use mathlib.Core.Path.{sym, ◌∙◌}
use lib.ListN.{drop}
use Rattle.layout.specs.Record.{transition_of}
use Rattle.tables.specs.Narrowing.{narrow}
use Rattle.candidates.specs.Candidates.Laws.{first_byte, left_other, left-fails, left_again, left-put}
use Rattle.candidates.proofs.consider.Goals as goal

pub returns-then-body-at : goal.returns-then-body-at
returns-then-body-at c =
    let a = c.args in
    left_other a.a a.place (narrow a.a.read (transition_of (drop a.at a.body.now))) a.masks.now
    a.small.now a.have _ (first_byte a.body.now a.at) c.if-body-at.true

pub returns-then-not-lasts : goal.returns-then-not-lasts
returns-then-not-lasts c =
    let a = c.args in
    left-fails a.a a.place (narrow a.a.read (transition_of (drop a.at a.body.now))) a.masks.now
    a.small.now a.have _ (first_byte a.body.now a.at) c.if-body-at.false _ c.read_at-r.ensures _
    c.lasts.ensures (c.if-not-lasts.true)

pub returns-then-is_again : goal.returns-then-is_again
returns-then-is_again c =
    let a = c.args in
    left_again a.a a.place (narrow a.a.read (transition_of (drop a.at a.body.now))) a.masks.now
    a.small.now a.have _ (first_byte a.body.now a.at) c.if-body-at.false _ c.read_at-r.ensures _
    c.lasts.ensures (c.if-not-lasts.false) _ c.is_again.ensures c.if-is_again.true

pub put-requires : goal.put-requires
put-requires c =
    (c.requires.1, c.requires.2, c.requires.4 (sym (first_byte c.args.body.now c.args.at) ∙ c.if-body-at.false))

pub returns : goal.returns
returns c =
    let a = c.args in
    left-put a.a a.place (narrow a.a.read (transition_of (drop a.at a.body.now))) a.masks.now
    a.small.now a.have _ (first_byte a.body.now a.at) c.if-body-at.false _ c.read_at-r.ensures _
    c.lasts.ensures (c.if-not-lasts.false) _ c.is_again.ensures c.if-is_again.false _ _
    c.put.ensures
