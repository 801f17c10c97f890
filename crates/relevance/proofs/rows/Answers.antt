use mathlib.Core.Path.{◌≡◌, refl, ◌∙◌, subst}
use native.Mathlib.Omega.{arith}
use lib.ListN.{length-set}
use Rattle.relevance.specs.Relevance.{ReadRow}
use Rattle.relevance.specs.Relevance.Laws.{read_next}
use Rattle.relevance.proofs.rows.Goals as goal

pub loop-k-init : goal.loop-k-init
loop-k-init c = (refl, λ d l. absurd (omega arith))

pub read_of-requires : goal.read_of-requires
read_of-requires c = (c.requires.1, c.requires.0.sized.charts, c.loop-k-test.true)

pub bounds-reads-k : goal.bounds-reads-k
bounds-reads-k c = omega (
  arith,
  c.loop-k.invariant.0,
  c.loop-k-test.true,
  c.requires.0.sized.charts,
)

pub loop-k-preserved : goal.loop-k-preserved
loop-k-preserved c =
    let r = c.loop-k-test.true in (
      length-set c.loop-k.reads c.loop-k.k c.read_of.result ∙ c.loop-k.invariant.0,
      read_next c.args.n c.args.body.now c.args.config.now c.args.masks.now
          c.asked_all-asks.result
          c.asked_all-asks.ensures c.loop-k.k c.loop-k.reads _ c.loop-k.invariant.1
          (omega (arith, r, c.requires.0.sized.charts, c.loop-k.invariant.0)) c.read_of.ensures,
    )

pub returns : goal.returns
returns c =
    let a = c.args in
    let e : c.loop-k.k ≡ a.n.charts = omega arith in
    subst (λ z. ReadRow a.n a.body.now a.config.now a.masks.now z c.loop-k.reads) e c.loop-k.invariant.1
