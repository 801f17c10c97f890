-- `interface::interface` meets its contract: the file's refusal with empty sets, or the interfaces of its body.
use mathlib.Core.Path.{◌≡◌, ◌∙◌}
use mathlib.Core.List.{List}
use Prim.Native.Nat.{ℕ}
use Rattle.std.proofs.lemmas.Result.{err_from_is_err_and}
use Rattle.layout.specs.declared.body.Shape.{Shape}
use Rattle.meaning.specs.Meaning.{same, in_face, out_face}
use Rattle.meaning.specs.File.{trailer, shape_of, body_of, file_at, file_of, whole_of}
use Rattle.meaning.specs.Check.{refusal_of}
use Rattle.meaning.specs.Check.Laws.{passed}
use Rattle.meaning.specs.Check.Nodes.{Treed, treed}
use Rattle.meaning.specs.Calls.{input_of, output_of}
use Rattle.queries.specs.declared.interface.Faces.{Faces}
use Rattle.queries.proofs.interface.interface.Goals as goal

module _ (f : List ℕ) (h : refusal_of f ≡ 0) (n : Shape) (en : n ≡ shape_of (trailer f)) (b : List ℕ) (eb : b ≡ body_of f) where
  given : ◌≡◌ {A = Faces}
      (record {
        input = in_face (file_at n b).chart (whole_of (file_at n b));
        output = out_face (file_at n b).chart (whole_of (file_at n b));
      })
      (record { input = input_of f; output = output_of f })
  unfolding input_of output_of same file_of
  given = rw (h, en, eb)

  in_order : Treed (file_at n b)
  unfolding file_of
  in_order = let p = passed f h in rw (en, eb) (treed (file_of f) p.slaves p.nodes p.naming)

pub returns-in_err-o : goal.returns-in_err-o
returns-in_err-o c =
    let p = err_from_is_err_and c.from_residual.result c.from_residual.ensures.1 in
    rw (p.1, p.2) c.in_err-o.ensures

pub of_body-requires : goal.of_body-requires
of_body-requires c =
    let w = c.in_ok-o.ensures in
    let s = w.1 in (rw s.body s.sized, (rw s.body s.summed, in_order _ w.0 _ s.shape _ s.body))

pub returns : goal.returns
returns c =
    let w = c.in_ok-o.ensures in (w.0, c.of_body.ensures ∙ given _ w.0 _ w.1.shape _ w.1.body)
