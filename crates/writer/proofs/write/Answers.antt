-- `write` meets its contract: the file's refusal, 46 where charts may stay, or the text of its body.
use mathlib.Core.Path.{◌≡◌, sym, ap, ◌∙◌}
use mathlib.Core.List.{List}
use mathlib.Core.Logic.{◌≢◌}
use Prim.Native.Nat.{ℕ}
use Rattle.std.specs.Prelude.{Result}
use Rattle.std.proofs.lemmas.Result.{err_from_is_err_and}
use Rattle.layout.specs.declared.body.Shape.{Shape}
use Rattle.meaning.specs.Numbers.{stay_edition}
use Rattle.meaning.specs.File.{trailer, shape_of, body_of, file_at, file_of}
use Rattle.meaning.specs.Check.{refusal_of}
use Rattle.checks.specs.declared.refusal.Refusal.{Refusal}
use Rattle.writer.specs.Promises.{WriteSays, WritesBody}
use Rattle.writer.specs.Laws.Tests.{says_refused, says_stay, says-body}
use Rattle.writer.specs.Laws.Body.{readable}
use Rattle.writer.proofs.write.Goals as goal

-- the shape that the file was opened with
module _ (f : List ℕ) (n : Shape) (en : n ≡ shape_of (trailer f)) where
  edition_is : (trailer f).edition ≡ n.edition
  unfolding shape_of
  edition_is = sym (ap (λ (s : Shape). s.edition) en)

  by-body : refusal_of f ≡ 0 → n.edition ≢ stay_edition → (b : List ℕ) → b ≡ body_of f
      → (out after : List ℕ) (r : Result ℕ Refusal)
      → WritesBody (file_at n b) out r after → WriteSays f out r after
  unfolding file_of
  by-body h one b eb out after r q =
      says-body f out h (λ e. one (sym edition_is ∙ e)) r after (rw (en, eb) at q)

pub returns-in_err-o : goal.returns-in_err-o
returns-in_err-o c =
    let p = err_from_is_err_and c.from_residual.result c.from_residual.ensures.1 in
    rw (p.1, p.2)
    (says_refused _ c.args.out.now _ c.in_err-o.ensures)

pub returns-then-o : goal.returns-then-o
returns-then-o c =
    let w = c.in_ok-o.ensures in says_stay _ c.args.out.now w.0 (edition_is _ _ w.1.shape ∙ c.if-o.true)

pub of_body-requires : goal.of_body-requires
of_body-requires c =
    let w = c.in_ok-o.ensures in
    let s = w.1 in readable _ _ _ s.shape s.body w.0 s.sized s.summed

pub returns : goal.returns
returns c =
    let w = c.in_ok-o.ensures in
    by-body _ _ w.1.shape w.0 c.if-o.false _ w.1.body c.args.out.now _ _ c.of_body.ensures
