-- Bytes written at a place of a buffer: what each function that writes a part of something asks and promises. Laws are
-- in Put/Laws.antt.
use Rattle.std.specs.Prelude.{◌≡◌, List, ℕ, ◌+◌, ◌≤◌, length}
use Rattle.std.proofs.lemmas.List.Edits.{sets}
pub mod Laws

-- a buffer has room for xs at a place
abbrev pub Room : List ℕ → ℕ → List ℕ → Type 0
Room buffer at xs = at + length xs ≤ length buffer

-- xs was written at a place of a buffer, which had `before` and has `after`, and `next` is the place behind it
pub record Put (before : List ℕ) (at : ℕ) (xs after : List ℕ) (next : ℕ) : Type 0 where
  pub is : after ≡ sets before at xs
  pub place : next ≡ at + length xs
