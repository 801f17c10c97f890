use mathlib.Core.Path.{◌≡◌, ap, ◌∙◌}
use Prim.Native.Nat.{◌+◌, ◌*◌}
use native.Mathlib.Omega.{arith}
use Rattle.layout.specs.Body.{transition_at}
use Rattle.layout.specs.Body.{from as fromOn}
use Rattle.tables.specs.Narrowing.{asked}
use Rattle.candidates.specs.Candidates.Laws.{record_from_lem, counted-from}
use Rattle.relevance.specs.Relevance.Laws.{asks_none, asks_more, asks_done}
use Rattle.relevance.proofs.asked_of.Goals as goal

pub loop-p-init : goal.loop-p-init
loop-p-init c = (omega arith, asks_none _ _ _ _)

pub loop-p-preserved : goal.loop-p-preserved
loop-p-preserved c =
    let a = c.args in
    let e : c.loop-p.at ≡ 24 * a.n.charts + 28 * a.start + 28 * (0 + c.loop-p.p) = omega (arith, c.loop-p.invariant.0) in (
      omega (arith, c.loop-p.invariant.0),
      asks_more _ _ _ _ _ c.loop-p.u _ c.loop-p.invariant.1 (omega arith) (rw e at c.asked_with-u.ensures),
    )

pub returns : goal.returns
returns c =
    let a = c.args in
    asks_done _ _ _ _ _ _ c.loop-p.invariant.1 (omega arith)
    ∙ ap (λ f. asked (fromOn f 0 a.count) a.state) (record_from_lem a.n a.body.now a.start)
    ∙ ap (λ l. asked l a.state) (counted-from (transition_at a.n a.body.now) a.start a.count)

pub asked_with-u-requires : goal.asked_with-u-requires
asked_with-u-requires c = omega (arith, c.requires.0, c.requires.1, c.loop-p.invariant.0)
