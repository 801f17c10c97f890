-- What reading promises: 50 exactly if the text spells no chart, with the place of its first wrong byte (`read_wrong`,
-- `wrong_read`); the file that is read is that of the one chart which the text spells (`read_spells`), and passes 1 to
-- 11 (`read_passes`).
use Rattle.std.specs.Prelude.{◌≡◌, refl, Bool, true, false, cond, List, [], ◌∷◌, ◌++◌, ℕ, length}
use Rattle.std.proofs.Common.{sym, ap, ◌∙◌, arith}
use Rattle.meaning.specs.Check.{Test, first_of, file_tests, refusal_of}
use Rattle.notation.specs.Syntax.{Chart}
use Rattle.notation.specs.Grammar.{Spells, FirstWrong}
use Rattle.notation.specs.Reader.{Reading, spelt, wrong_at, reader}
use Rattle.notation.proofs.Laws.Theorems.{sound, complete, refused, refused_exact}
use Rattle.reading.specs.Numbers.{not_notation}
use Rattle.reading.specs.Meant.{file_for}
use Rattle.reading.specs.Read.{chart_tests, refusal_in, read_refusal, place_in, read_place, file_in, read_file}

-- ── 50 ──

-- a text with a first wrong byte is refused with 50, and its place is that byte's
pub wrong_read : (text : List ℕ) (room k : ℕ) → FirstWrong text k
    → (read_refusal text room ≡ not_notation) × (read_place text ≡ k)
unfolding read_refusal read_place refusal_in place_in
wrong_read text room k w = let e = refused_exact text k w in (ap (λ r. refusal_in r room) e, ap place_in e)

-- ── the file ──

-- of a text that spells a chart, all tests are made on that chart
pub read_spells : (text : List ℕ) (t : Chart) (room : ℕ) → Spells text t
    → (read_refusal text room ≡ first_of (chart_tests t room)) × ((read_place text ≡ 0) × (read_file text ≡ file_for t))
unfolding read_refusal read_place read_file refusal_in place_in file_in
read_spells text t room s =
    let e = complete text t s in (ap (λ r. refusal_in r room) e, (ap place_in e, ap file_in e))

-- where none of a list of tests applies, none of its beginning does
first-append : (a b : List Test) → first_of (a ++ b) ≡ 0 → first_of a ≡ 0
unfolding first_of
first-append [] b e = refl
first-append (t ∷ a) b e = go t.applies e (first-append a b)
  where
    go : (c : Bool) → cond c t.number (first_of (a ++ b)) ≡ 0 → (first_of (a ++ b) ≡ 0 → first_of a ≡ 0)
        → cond c t.number (first_of a) ≡ 0
    go true e ih = e
    go false e ih = ih e

-- where the first of a list of tests has a number that is not 0, and none applies, none of the others does
first_rest : (t : Test) (a : List Test) → (t.number ≡ 0 → ⊥) → first_of (t ∷ a) ≡ 0 → first_of a ≡ 0
unfolding first_of
first_rest t a n e = go t.applies e
  where
    go : (c : Bool) → cond c t.number (first_of a) ≡ 0 → first_of a ≡ 0
    go true e = absurd (n e)
    go false e = e

-- a file that is read passes 1 to 11
pub read_passes : (text : List ℕ) (t : Chart) (room : ℕ) → Spells text t → read_refusal text room ≡ 0
    → refusal_of (read_file text) ≡ 0
unfolding chart_tests refusal_of
read_passes text t room s e =
    let r = read_spells text t room s in
    let z = sym r.0 ∙ e in
    ap (λ f. first_of (file_tests f)) r.1.1
    ∙ first-append (file_tests (file_for t)) _
    (first_rest _ _ (λ n. omega arith) (first_rest _ _ (λ n. omega arith) (first_rest _ _ (λ n. omega arith)
    (first_rest _ _ (λ n. omega arith) z))))
