-- What the rewriting of a file that passed 1 to 11 answers: what the list of RULES 3.6 goes on with. Laws are in
-- Rewriting/Laws.antt.
use Rattle.std.specs.Prelude.{◌≡◌, cond, List, [], ◌∷◌, ◌++◌, ℕ, ltb, length, Result}
use Rattle.meaning.specs.Numbers.{most_nodes, many_from_state, many_in_chart, many_nodes, short_out}
use Rattle.meaning.specs.Meaning.{same}
use Rattle.meaning.specs.File.{File}
use Rattle.meaning.specs.Check.{Test, first_of}
use Rattle.meaning.specs.Calls.{laid_over}
use Rattle.meaning.specs.Rewriting.{rewrite, from_state?, in_chart?, rewrite_tests, encode}
use Rattle.checks.specs.Refusals.{Answers}
use Rattle.checks.specs.declared.refusal.Refusal.{Refusal}
pub mod Laws

-- 41 to 44
unfoldable pub limit_tests : File → List Test
limit_tests F =
    record { number = many_from_state; applies = from_state? (rewrite F) }
    ∷ record { number = many_in_chart; applies = in_chart? (rewrite F) }
    ∷ record { number = many_nodes; applies = ltb most_nodes (rewrite F).nodes }
    ∷ []

-- 40 to 45
unfoldable pub rewrite_after : File → ℕ → ℕ
rewrite_after F room =
    first_of (rewrite_tests F ++ (record { number = short_out; applies = ltb room (length (encode (rewrite F))) } ∷ []))

unfoldable pub length_after : File → ℕ → ℕ
length_after F room = cond (same (rewrite_after F room) 0) (length (encode (rewrite F))) 0

unfoldable pub out_after : File → List ℕ → List ℕ
out_after F buffer = cond (same (rewrite_after F (length buffer)) 0) (laid_over (encode (rewrite F)) buffer) buffer

-- what such a rewriting answers, and what it leaves of a buffer b
abbrev pub BodyRewrites : File → List ℕ → Result ℕ Refusal → List ℕ → Type 0
BodyRewrites F b r c = Answers (rewrite_after F (length b)) (length_after F (length b)) r × (c ≡ out_after F b)
