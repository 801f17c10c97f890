-- What a transition lacks (RULES 5.13) depends on the charts and their lists alone (`answer-lacking`), so exchanging
-- the two parts of a composed node changes no answer (`same-lacking`). Of both editions, and of refused files too.
use Rattle.std.specs.Prelude.{◌≡◌, List, ◌⊎◌, ℕ, ◌<◌, Err}
use Rattle.std.proofs.Common.{sym, ap, ◌∙◌, inl, inr, arith}
use Rattle.std.proofs.Math.Decide.{dec_lt}
use Rattle.meaning.specs.Meaning.{Set}
use Rattle.meaning.specs.File.{File, file_of}
use Rattle.meaning.specs.Check.{refusal_of}
use Rattle.meaning.specs.Check.Laws.{eq_or-not}
use Rattle.propositions.specs.Exchange.{exchange, HasComposed}
use Rattle.propositions.proofs.Exchange.Answers.{TreesAlike}
use Rattle.propositions.proofs.Exchange.Laws.{same_check, same_trees}
use Rattle.lacks.specs.Lacking.{place_tests, lacking_of, lacking_in}
use Rattle.lacks.proofs.Laws.{refused_file, refused_chart, in_file}

-- over records: the number of charts and the chart are all that counts
lacking_alike : (F G : File) (chart place : ℕ) (o : Set) → G.charts ≡ F.charts → G.chart chart ≡ F.chart chart
    → lacking_in G chart place o ≡ lacking_in F chart place o
unfolding lacking_in place_tests
lacking_alike F G chart place o n e = rw (n, e)

-- over bytes: files with the same refusal of 1 to 11 and, where they are accepted, the same charts
module _ (f f' : List ℕ) (check : refusal_of f' ≡ refusal_of f)
    (alike : refusal_of f ≡ 0 → TreesAlike (file_of f) (file_of f')) (chart place : ℕ) (o : Set) where
  accepted : refusal_of f ≡ 0 → lacking_of f' chart place o ≡ lacking_of f chart place o
  accepted e = go (dec_lt chart (file_of f).charts)
    where
      e' : refusal_of f' ≡ 0
      e' = check ∙ e

      n : (file_of f').charts ≡ (file_of f).charts
      n = (alike e).charts

      go : Dec (chart < (file_of f).charts) → lacking_of f' chart place o ≡ lacking_of f chart place o
      go (yes l) =
          in_file f' chart place o e' ∙ lacking_alike (file_of f) (file_of f') chart place o n ((alike e).chart chart l)
          ∙ sym (in_file f chart place o e)
      go (no l) =
          refused_chart f' chart place o e' (omega (arith, n))
          ∙ sym (refused_chart f chart place o e (omega arith))

  pub answer-lacking : lacking_of f' chart place o ≡ lacking_of f chart place o
  answer-lacking = go (eq_or-not (refusal_of f) 0)
    where
      go : (refusal_of f ≡ 0) ⊎ (refusal_of f ≡ 0 → ⊥) → lacking_of f' chart place o ≡ lacking_of f chart place o
      go (inl e) = accepted e
      go (inr d) =
          refused_file f' chart place o (λ z. d (sym check ∙ z)) ∙ ap Err check
          ∙ sym (refused_file f chart place o d)

pub same-lacking : (j : ℕ) (f : List ℕ) → HasComposed j f → (chart place : ℕ) (o : Set)
    → lacking_of (exchange j f) chart place o ≡ lacking_of f chart place o
same-lacking j f h = answer-lacking f (exchange j f) (same_check j f h) (same_trees j f h)
