-- `opened` meets its contract: the file's refusal, then 30, then neither.
use mathlib.Core.Path.{sym, ap, ◌∙◌}
use Prim.Native.Nat.{ℕ, ◌/◌, ◌%◌}
use native.Mathlib.Omega.{arith}
use Rattle.std.proofs.lemmas.Result.{err_from_is_err_and}
use Rattle.checks.specs.Refusals.Laws.{number-some}
use Rattle.day.specs.Day.Laws.{by-file, by_front, by-none, front_is, charts_are, leads-of}
use Rattle.day.proofs.opened.Goals as goal

pub returns-in_err-o : goal.returns-in_err-o
returns-in_err-o c =
    let p = err_from_is_err_and c.from_residual.result c.from_residual.ensures.1 in
    rw (p.1, p.2)
    (by-file _ c.requires _ c.in_err-o.ensures (number-some _))

pub returns-then-o-ne0 : goal.returns-then-o-ne0
returns-then-o-ne0 c =
    let w = c.in_ok-o.ensures in
    by_front _ c.requires w.0 (λ z. c.if-o-ne0.true (ap (λ (k : ℕ). k % 8) (front_is _ w.0 _ w.1) ∙ z))

pub returns : goal.returns
returns c =
    let w = c.in_ok-o.ensures in
    let s = w.1 in
    let q = front_is _ w.0 _ s in (
      sym (by-none _ c.requires w.0 (sym (ap (λ (k : ℕ). k % 8) q) ∙ c.if-o-ne0.false)),
      record {
        accepted =
            record {
              passes = w.0;
              charts_is = charts_are _ _ s;
              few = s.sized.charts;
              within = omega (arith, s.start);
              leads = leads-of _ w.0 _ s;
            };
        stands = s;
        inputs = ap (λ (k : ℕ). k / 8) q;
      },
    )
