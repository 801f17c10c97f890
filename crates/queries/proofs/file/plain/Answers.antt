-- `file::plain` meets its contract: the file's refusal, no for another edition than the first, or what its body says.
use mathlib.Core.Path.{◌≡◌, sym, ◌∙◌}
use mathlib.Core.Bool.{false}
use mathlib.Core.List.{List}
use Prim.Native.Nat.{ℕ}
use borrow.Author.Tests.{ne_eqb, eq-eqb}
use Rattle.std.proofs.lemmas.Result.{err_from_is_err_and}
use Rattle.layout.specs.declared.body.Shape.{Shape}
use Rattle.meaning.specs.Numbers.{first_edition}
use Rattle.meaning.specs.Meaning.{same}
use Rattle.meaning.specs.File.{trailer, shape_of, body_of, file_at, file_of}
use Rattle.meaning.specs.Check.{refusal_of}
use Rattle.meaning.specs.Plain.{plain_in, plain_of}
use Rattle.queries.proofs.file.plain.Goals as goal

module _ (f : List ℕ) (h : refusal_of f ≡ 0) (n : Shape) (en : n ≡ shape_of (trailer f)) where
  edition_is : n.edition ≡ (trailer f).edition
  unfolding shape_of
  edition_is = rw en

  second : (n.edition ≡ first_edition → ⊥) → false ≡ plain_of f
  unfolding plain_of same
  second d = rw (h, ne_eqb (trailer f).edition first_edition (λ e. d (edition_is ∙ e)))

  given : n.edition ≡ first_edition → (b : List ℕ) → b ≡ body_of f → plain_in (file_at n b) ≡ plain_of f
  unfolding plain_of same file_of
  given d b eb = rw (h, eq-eqb (trailer f).edition first_edition (sym edition_is ∙ d), en, eb)

pub returns-in_err-opened : goal.returns-in_err-opened
returns-in_err-opened c =
    let p = err_from_is_err_and c.from_residual.result c.from_residual.ensures.1 in
    rw (p.1, p.2) c.in_err-opened.ensures

pub is_plain-requires : goal.is_plain-requires
is_plain-requires c = let w = c.in_ok-opened.ensures.1 in (rw w.body w.sized, rw w.body w.summed)

pub returns-then-opened : goal.returns-then-opened
returns-then-opened c = let w = c.in_ok-opened.ensures in (w.0, second _ w.0 _ w.1.shape c.if-opened.true)

pub returns : goal.returns
returns c =
    let w = c.in_ok-opened.ensures in (w.0, c.is_plain.ensures ∙ given _ w.0 _ w.1.shape c.if-opened.false _ w.1.body)
