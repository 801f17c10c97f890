-- What writing a file as text promises: the result, and what the caller's buffer holds after the call, for every file
-- and buffer (docs/NOTATION.md 6). b is what the buffer holds before the call, and c what it holds after it.
use Rattle.std.specs.Prelude.{◌≡◌, cond, List, [], ◌∷◌, ℕ, ◌≤◌, ltb, length, Result}
use Rattle.layout.specs.declared.body.Shape.{Shape}
use Rattle.meaning.specs.Numbers.{short_out}
use Rattle.meaning.specs.Meaning.{same}
use Rattle.meaning.specs.File.{File, file_at}
use Rattle.meaning.specs.Check.{first_of}
use Rattle.meaning.specs.Check.Nodes.{Treed}
use Rattle.meaning.specs.Calls.{laid_over}
use Rattle.checks.specs.Refusals.{Answers}
use Rattle.checks.specs.declared.refusal.Refusal.{Refusal}
use Rattle.spelling.specs.Numbers.{most_text}
use Rattle.spelling.specs.Write.{text_in, deep_test, write_refusal, write_length, write_out}
use Rattle.script.specs.Tree.{Legible}

-- ── the call ──

abbrev pub WriteSays : List ℕ → List ℕ → Result ℕ Refusal → List ℕ → Type 0
WriteSays f b r c = Answers (write_refusal f (length b)) (write_length f (length b)) r × (c ≡ write_out f b)

-- ── a body that passed 1 to 11 and has edition 1 ──

-- what is known of it: its tree is made of lower nodes, and its text is no longer than any
pub record Readable (n : Shape) (b : List ℕ) : Type 0 where
  pub legible : Legible n b
  pub treed : Treed (file_at n b)
  pub short : length (text_in (file_at n b)) ≤ most_text

-- 51 and 45
unfoldable pub write_after : File → ℕ → ℕ
write_after F room =
    first_of (deep_test F ∷ record { number = short_out; applies = ltb room (length (text_in F)) } ∷ [])

abbrev pub WritesBody : File → List ℕ → Result ℕ Refusal → List ℕ → Type 0
WritesBody F b r c =
    Answers (write_after F (length b)) (cond (same (write_after F (length b)) 0) (length (text_in F)) 0) r
    × (c ≡ cond (same (write_after F (length b)) 0) (laid_over (text_in F) b) b)
