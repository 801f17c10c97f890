-- `lacking::lacking` meets its contract: the file's refusal, or the answer for its body.
use mathlib.Core.Path.{◌≡◌, sym, ap, ◌∙◌}
use mathlib.Core.List.{List}
use Prim.Native.Nat.{ℕ}
use Rattle.std.specs.Prelude.{Err}
use Rattle.std.proofs.lemmas.Result.{err_from_is_err_and}
use Rattle.layout.specs.declared.body.Shape.{Shape}
use Rattle.meaning.specs.Meaning.{Set}
use Rattle.meaning.specs.File.{trailer, shape_of, body_of, file_at, file_of}
use Rattle.meaning.specs.Check.{refusal_of}
use Rattle.checks.specs.Refusals.{number}
use Rattle.checks.specs.Refusals.Laws.{number-some}
use Rattle.checks.specs.declared.refusal.Refusal.{Refusal}
use Rattle.lacks.specs.Lacking.{lacking_of, lacking_in}
use Rattle.lacks.proofs.Laws.{refused_file, in_file}
use Rattle.queries.proofs.lacking.lacking.Goals as goal

module _ (f : List ℕ) (chart place : ℕ) (o : Set) where
  refused : (r : Refusal) → number r ≡ refusal_of f → Err (number r) ≡ lacking_of f chart place o
  refused r e = ap Err e ∙ sym (refused_file f chart place o (λ z. number-some r (e ∙ z)))

  given : refusal_of f ≡ 0 → (n : Shape) → n ≡ shape_of (trailer f) → (b : List ℕ) → b ≡ body_of f
      → lacking_in (file_at n b) chart place o ≡ lacking_of f chart place o
  unfolding file_of
  given h n en b eb = rw (en, eb) (sym (in_file f chart place o h))

pub returns-in_err-o : goal.returns-in_err-o
returns-in_err-o c =
    let p = err_from_is_err_and c.from_residual.result c.from_residual.ensures.1 in
    rw (p.1, p.2)
    (refused _ _ _ _ _ c.in_err-o.ensures)

pub of_body-requires : goal.of_body-requires
of_body-requires c = let w = c.in_ok-o.ensures.1 in (rw w.body w.sized, rw w.body w.summed)

pub returns : goal.returns
returns c =
    let w = c.in_ok-o.ensures in c.of_body.ensures ∙ given _ _ _ _ w.0 _ w.1.shape _ w.1.body
