-- What each call that makes a file of a file promises, one definition for each contract (docs/PROMISES.md, "The public
-- calls"). f has the bytes of the file and r is the result; b is what a buffer holds before the call, and c what it
-- holds after it.
use Rattle.std.specs.Prelude.{◌≡◌, List, ℕ, length, Result}
use Rattle.meaning.specs.Rewriting.{rewrite_refusal, rewrite_length, rewrite_out}
use Rattle.clearing.specs.Clearing.{clear_refusal, clear_length, clear_out}
use Rattle.checks.specs.Refusals.{Answers}
use Rattle.checks.specs.declared.refusal.Refusal.{Refusal}
pub mod Laws

-- the rewriting (RULES 9)
abbrev pub RewritingSays : List ℕ → List ℕ → Result ℕ Refusal → List ℕ → Type 0
RewritingSays f b r c =
    Answers (rewrite_refusal f (length b)) (rewrite_length f (length b)) r × (c ≡ rewrite_out f b)

-- clearing (RULES 12)
abbrev pub ClearSays : List ℕ → List ℕ → Result ℕ Refusal → List ℕ → Type 0
ClearSays f b r c = Answers (clear_refusal f (length b)) (clear_length f (length b)) r × (c ≡ clear_out f b)
