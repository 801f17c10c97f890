-- `store` meets its contract: the entry is made of entries that are right, and storing it changes none of them.
use mathlib.Core.Path.{◌∙◌, ap}
use native.Mathlib.Omega.{arith}
use lib.ListN.{length-set}
use lib.Seq.{get_or-set_other}
use Rattle.layout.specs.declared.record.Head.{Head}
use Rattle.counting.specs.Counting.Laws.{starts_at, config_long, smalls, stores}
use Rattle.counting.proofs.store.Goals as goal

pub overflow_sub-start : goal.overflow_sub-start
overflow_sub-start c =
    let a = c.args in
    let p = c.requires in
    let e = c.wide-count.ensures ∙ ap (λ (h : Head). h.transitions) c.head_at-head.ensures in
    (starts_at a.n a.body.now a.config.now a.masters.now a.states.now p.0 a.k a.end
    c.wide-count.result p.1 p.3 e).0

pub bounds-config-k : goal.bounds-config-k
bounds-config-k c =
    let a = c.args in
    let h = config_long a.n a.body.now a.config.now a.masters.now a.states.now c.requires.0 in
    omega (arith, c.requires.1)

pub entry-sum-requires : goal.entry-sum-requires
entry-sum-requires c =
    let a = c.args in
    let p = c.requires in
    let e = c.wide-count.ensures ∙ ap (λ (h : Head). h.transitions) c.head_at-head.ensures in
    let g = starts_at a.n a.body.now a.config.now a.masters.now a.states.now p.0 a.k a.end
    c.wide-count.result p.1 p.3 e in (
      p.0.sized.holds,
      g.1,
      e,
      g.2,
      record { masters = p.0.masters; states = p.0.states; counts = p.2 },
      smalls a.n a.body.now a.config.now a.masters.now a.states.now p.0 a.k p.1
          a.counts.now (λ d q l. p.4 d (omega arith) l),
      p.5 a.k (omega arith),
    )

pub returns : goal.returns
returns c =
    let a = c.args in
    let p = c.requires in
    let e = c.wide-count.ensures ∙ ap (λ (h : Head). h.transitions) c.head_at-head.ensures in
    let g = starts_at a.n a.body.now a.config.now a.masters.now a.states.now p.0 a.k a.end
    c.wide-count.result p.1 p.3 e in
    record {
      long = length-set a.counts.now a.k c.entry-sum.result;
      below = λ d l. get_or-set_other a.counts.now a.k d c.entry-sum.result 0 (λ z. omega arith);
      starts = g.1;
      right = stores a.n a.body.now a.config.now a.masters.now a.states.now p.0 a.k p.1
          a.counts.now (λ d q l. p.4 d (omega arith) l) p.2 c.wide-count.result e c.entry-sum.result
          c.entry-sum.ensures;
    }
