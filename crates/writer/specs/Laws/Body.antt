-- The body of an accepted file can be read: `readable`.
use Rattle.std.specs.Prelude.{◌≡◌, List, ℕ}
use Rattle.std.proofs.Math.Path.{ap₂}
use Rattle.layout.specs.declared.body.Shape.{Shape}
use Rattle.meaning.specs.File.{trailer, shape_of, body_of, file_at, file_of}
use Rattle.meaning.specs.Check.{refusal_of}
use Rattle.meaning.specs.Check.Laws.{passed}
use Rattle.meaning.specs.Laws.Alike.{accepted_treed}
use Rattle.checks.specs.Known.{Sized, Summed}
use Rattle.spelling.specs.Write.{text_of}
use Rattle.spelling.proofs.Laws.Bound.{text_most}
use Rattle.writer.specs.Promises.{Readable}

module _ (f : List ℕ) (n : Shape) (b : List ℕ) (en : n ≡ shape_of (trailer f)) (eb : b ≡ body_of f) where
  file_is : file_at n b ≡ file_of f
  unfolding file_of
  file_is = ap₂ file_at en eb

  pub readable : refusal_of f ≡ 0 → Sized n (body_of f) → Summed n (body_of f) → Readable n b
  unfolding text_of
  readable h z s =
      let p = passed f h in
      record {
        legible =
            record {
              ranged = record { sized = rw eb z; slaves = rw file_is p.slaves; nodes = rw file_is p.nodes };
              summed = rw eb s;
            };
        treed = rw file_is (accepted_treed f h);
        short = rw file_is (text_most f h);
      }
