-- Laws of the tests of a reading: a refusal, and a file that is written (`tests_refused`, `tests_passed`); the file's
-- own tests (`deliver-..`); those of a chart before them (`chart-..`); what the call says (`says-..`), and that it is
-- one answer (`read_determined`).
use Rattle.std.specs.Prelude.{◌≡◌, refl, Bool, true, false, cond, List, [], ℕ, ◌<◌, ◌≤◌, ltb, length}
use Rattle.std.specs.Prelude.{Result, Ok, Err, IfOk}
use Rattle.std.proofs.Common.{sym, ap, ap₂, ◌∙◌, arith, length-append}
use borrow.Author.Tests.{ne_eqb, lt-ltb, le-ltb}
use Rattle.meaning.specs.Numbers.{most_in_chart, bad_counts, bad_chart, short_out}
use Rattle.meaning.specs.Meaning.{same}
use Rattle.meaning.specs.Check.{Test, first_of, refusal_of, counts?}
use Rattle.meaning.specs.Check.Laws.{first_of_here, first_of-next, first_of_[], call_refused, call-passed}
use Rattle.meaning.specs.Calls.{laid_over}
use Rattle.checks.specs.Refusals.{number}
use Rattle.checks.specs.Refusals.Laws.{number-some, number-one}
use Rattle.checks.specs.declared.refusal.Refusal.{Refusal}
use Rattle.checks.specs.declared.refusal.Refusal.TheVariants.{NotNotation}
use Rattle.notation.specs.Syntax.{Chart, depth}
use Rattle.notation.specs.Grammar.{Spells}
use Rattle.notation.specs.Reader.{wrong_at, reader}
use Rattle.notation.proofs.Laws.Theorems.{complete}
use Rattle.reading.specs.Numbers.{most_depth, not_notation, too_deep, bad_name}
use Rattle.reading.specs.Names.{any, names?}
use Rattle.reading.specs.Meant.{charts_of, transitions_in, trailer_for, file_for}
use Rattle.reading.specs.Read.{chart_tests, refusal_in, read_refusal, place_in, read_place, file_in, read_file}
use Rattle.reading.specs.Read.{read_length}
use Rattle.reading.specs.Read.{read_out}
use Rattle.texts.specs.declared.Refused.{Refused}
use Rattle.texts.specs.Promises.{Reads, ReadSays, Tested, written, deliver_tests, ReadsChart}

-- ── tests ──

module _ (ts : List Test) (f b : List ℕ) where
  -- a refusal leaves the buffer as it was
  pub tests_refused : (e : Refusal) → first_of ts ≡ number e → Tested ts f (Err (record { refusal = e; place = 0 }))
      × (b ≡ written ts f b)
  unfolding Tested written same
  tests_refused e h = ((sym h, refl), rw (h, ne_eqb (number e) 0 (number-some e)) refl)

  pub tests_passed : (k : ℕ) (c : List ℕ) → first_of ts ≡ 0 → k ≡ length f → c ≡ laid_over f b
      → Tested ts f (Ok k) × (c ≡ written ts f b)
  unfolding Tested written same
  tests_passed k c e q h = rw (e, q) ((refl, refl, refl), h)

-- other tests with the same answer
pub tests_same : (ts us : List Test) (f b : List ℕ) (r : Result ℕ Refused) (c : List ℕ) → first_of us ≡ first_of ts
    → Tested ts f r × (c ≡ written ts f b) → Tested us f r × (c ≡ written us f b)
unfolding Tested written
tests_same ts us f b r c e h = rw e h

-- ── the file's own tests ──

module _ (f : List ℕ) (room : ℕ) where
  pub deliver_refused : (refusal_of f ≡ 0 → ⊥) → first_of (deliver_tests f room) ≡ refusal_of f
  deliver_refused h = call_refused f _ h

  pub deliver_short : refusal_of f ≡ 0 → room < length f → first_of (deliver_tests f room) ≡ short_out
  deliver_short h l = call-passed f _ h ∙ first_of_here _ [] (lt-ltb room (length f) l)

  pub deliver_passed : refusal_of f ≡ 0 → length f ≤ room → first_of (deliver_tests f room) ≡ 0
  deliver_passed h l = call-passed f _ h ∙ first_of-next _ [] (le-ltb room (length f) l) ∙ first_of_[]

-- ── a chart's tests before them ──

module _ (t : Chart) (room : ℕ) where
  pub chart-deep : ltb most_depth (depth t) ≡ true → first_of (chart_tests t room) ≡ too_deep
  unfolding chart_tests
  chart-deep e = first_of_here _ _ e

  module _ (d : ltb most_depth (depth t) ≡ false) where
    pub chart-names : names? t ≡ true → first_of (chart_tests t room) ≡ bad_name
    unfolding chart_tests
    chart-names e = first_of-next _ _ d ∙ first_of_here _ _ e

    module _ (n : names? t ≡ false) where
      pub chart-counts : counts? (trailer_for t) ≡ true → first_of (chart_tests t room) ≡ bad_counts
      unfolding chart_tests
      chart-counts e = first_of-next _ _ d ∙ first_of-next _ _ n ∙ first_of_here _ _ e

      module _ (o : counts? (trailer_for t) ≡ false) where
        pub chart-crowded : any (λ s. ltb most_in_chart (length (transitions_in s))) (charts_of t) ≡ true
            → first_of (chart_tests t room) ≡ bad_chart
        unfolding chart_tests
        chart-crowded e = first_of-next _ _ d ∙ first_of-next _ _ n ∙ first_of-next _ _ o ∙ first_of_here _ _ e

        pub chart-file : any (λ s. ltb most_in_chart (length (transitions_in s))) (charts_of t) ≡ false
            → first_of (chart_tests t room) ≡ first_of (deliver_tests (file_for t) room)
        unfolding chart_tests
        chart-file e = first_of-next _ _ d ∙ first_of-next _ _ n ∙ first_of-next _ _ o ∙ first_of-next _ _ e

-- ── what the call says ──

-- of a text that spells a chart, all tests are made on that chart
pub says-chart : (text : List ℕ) (t : Chart) (b : List ℕ) (r : Result ℕ Refused) (c : List ℕ) → Spells text t
    → ReadsChart t b r c
    → ReadSays text b r c
unfolding read_refusal read_length read_place read_out read_file refusal_in place_in file_in Tested written
says-chart text t b r c s h = rw (complete text t s) h

-- of any other, 50 and the place of its first wrong byte
pub says_wrong : (text : List ℕ) (k : ℕ) (b : List ℕ) → reader text ≡ wrong_at k
    → ReadSays text b (Err (record { refusal = NotNotation; place = k })) b
unfolding read_refusal read_length read_place read_out read_file refusal_in place_in file_in same
says_wrong text k b e = rw e ((refl, refl), refl)

-- the file is within the caller's buffer
pub read_within : (text b : List ℕ) (r : Result ℕ Refused) (c : List ℕ) → ReadSays text b r c
    → IfOk r (λ k. k ≤ length c)
unfolding read_length read_out
read_within text b (Ok k) c h = rw (h.0.1, h.1) (go (same (read_refusal text (length b)) 0))
  where
    go : (t : Bool) → cond t (length (read_file text)) 0 ≤ length (cond t (laid_over (read_file text) b) b)
    go true = rw length-append (omega arith)
    go false = omega arith
read_within text b (Err e) c h = tt

-- any two results that the call's contract allows are equal, and so are the bytes that it leaves in the buffer
reads-one : (n k p : ℕ) (r s : Result ℕ Refused) → Reads n k p r → Reads n k p s → r ≡ s
reads-one n k p (Ok x) (Ok y) h g = ap Ok (h.1 ∙ sym g.1)
reads-one n k p (Ok x) (Err e) h g = absurd (number-some e.refusal (g.0 ∙ h.0))
reads-one n k p (Err d) (Ok y) h g = absurd (number-some d.refusal (h.0 ∙ g.0))
reads-one n k p (Err d) (Err e) h g =
    ap₂ (λ (r : Refusal) (p : ℕ). Err (record { refusal = r; place = p }))
    (number-one d.refusal e.refusal (h.0 ∙ sym g.0)) (h.1 ∙ sym g.1)

pub read_determined : (text b : List ℕ) (r r' : Result ℕ Refused) (c c' : List ℕ) → ReadSays text b r c
    → ReadSays text b r' c' → (r ≡ r') × (c ≡ c')
read_determined text b r r' c c' h h' = (reads-one _ _ _ r r' h.0 h'.0, h.1 ∙ sym h'.1)
