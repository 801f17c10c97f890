use mathlib.Core.Path.{◌≡◌, sym, ap, ◌∙◌}
use native.Mathlib.Omega.{arith}
use Rattle.layout.specs.Body.{start_of}
use Rattle.layout.specs.Body.Laws.{start_of-none, start_of-next}
use Rattle.layout.specs.declared.record.Head.{Head}
use Rattle.layout.proofs.body.start_of.Goals as goal

pub loop-k-init : goal.loop-k-init
loop-k-init c = (sym (start_of-none _ _), omega arith)

pub loop-k-preserved : goal.loop-k-preserved
loop-k-preserved c =
    let n = start_of-next c.args.n c.args.body.now c.loop-k.k in
    let t = ap (λ (x : Head). x.transitions) c.head_at-head.ensures in
    let e = c.loop-k.invariant.0 in
    (omega (arith, n, t, e), omega arith)

pub returns : goal.returns
returns c =
    let e : c.loop-k.k ≡ c.args.c = omega arith in
    c.loop-k.invariant.0 ∙ ap (start_of c.args.n c.args.body.now) e

pub head_at-head-requires : goal.head_at-head-requires
head_at-head-requires c = (c.requires.0, omega arith)
