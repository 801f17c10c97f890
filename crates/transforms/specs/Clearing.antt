-- What clearing answers for a body that passed 1 to 11 and has edition 1. Laws are in Clearing/Laws.antt.
use Rattle.std.specs.Prelude.{◌≡◌, cond, List, [], ◌∷◌, ℕ, ltb, length, Result}
use Rattle.meaning.specs.Numbers.{short_out}
use Rattle.meaning.specs.Meaning.{same}
use Rattle.meaning.specs.File.{File}
use Rattle.meaning.specs.Check.{first_of}
use Rattle.meaning.specs.Calls.{laid_over}
use Rattle.meaning.specs.Rewriting.{encode}
use Rattle.clearing.specs.Clearing.{clear}
use Rattle.checks.specs.Refusals.{Answers}
use Rattle.checks.specs.declared.refusal.Refusal.{Refusal}
pub mod Laws

-- 45
unfoldable pub clear_after : File → ℕ → ℕ
clear_after F room = first_of (record { number = short_out; applies = ltb room (length (encode (clear F))) } ∷ [])

-- the same of a body
abbrev pub ClearsBody : File → List ℕ → Result ℕ Refusal → List ℕ → Type 0
ClearsBody F buffer r after =
    Answers (clear_after F (length buffer))
    (cond (same (clear_after F (length buffer)) 0) (length (encode (clear F))) 0) r
    × (after ≡ cond (same (clear_after F (length buffer)) 0) (laid_over (encode (clear F)) buffer) buffer)
