use mathlib.Core.Path.{refl, sym, ◌∙◌}
use native.Mathlib.Omega.{arith}
use Rattle.tokens.specs.Laws.Steps.{blanks-more, blanks_stop, blanks-end}
use Rattle.tokens.proofs.next_token.Goals as goal

pub returns-then-not-is_blank : goal.returns-then-not-is_blank
returns-then-not-is_blank c =
    let a = c.args in
    let e = blanks_stop a.text.now c.loop-i.i (omega arith) (sym c.is_blank.ensures ∙ c.if-not-is_blank.true) in
    let v = c.loop-i.invariant in
    (omega arith, omega arith)

pub loop-i-preserved : goal.loop-i-preserved
loop-i-preserved c =
    let a = c.args in
    let e = blanks-more a.text.now c.loop-i.i (omega arith) (sym c.is_blank.ensures ∙ c.if-not-is_blank.false) in
    let v = c.loop-i.invariant in
    omega arith

pub returns : goal.returns
returns c =
    let a = c.args in
    let e = blanks-end a.text.now c.loop-i.i c.loop-i-test.false in
    let v = c.loop-i.invariant in
    (omega arith, omega arith)

pub loop-i-init : goal.loop-i-init
loop-i-init c = refl

pub bounds-text-i : goal.bounds-text-i
bounds-text-i c = omega arith
