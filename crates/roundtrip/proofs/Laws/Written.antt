-- Texts and files. What a call of `read` or `write` that is not refused has (`read_passed`, `write-passed`). Reading,
-- writing and reading again gives the same file (`read_again`). What is written can be read (`written_reads`) and is in
-- written form (`written_form`); a text in written form is that of the file read from it (`form_passes`). So a text is
-- in written form exactly if it is the text of a file (`form_exactly`).
use Rattle.std.specs.Prelude.{◌≡◌, refl, false, List, [], ◌∷◌, ◌↔◌, ℕ, ◌≤◌, length}
use Rattle.std.proofs.Common.{sym, ◌∙◌, subst, arith, le-ltb, ltb-false, lit<}
use Rattle.std.proofs.Math.Path.{ap}
use Rattle.layout.specs.Le.{AllBytes}
use Rattle.meaning.specs.Numbers.{first_edition, stay_edition}
use Rattle.meaning.specs.Meaning.{same}
use Rattle.meaning.specs.File.{trailer, file_of}
use Rattle.meaning.specs.Check.{first_of, counts?, refusal_of}
use Rattle.meaning.specs.Check.Laws.{passed, counted, front, in_front_lem, first_of-passes, call-passed, first_of-next}
use Rattle.meaning.specs.Check.Laws.{first_of_[]}
use Rattle.meaning.specs.Laws.Bools.{same_≢}
use Rattle.meaning.proofs.Laws.Editions.{edition_left}
use Rattle.notation.specs.Syntax.{Chart, depth}
use Rattle.notation.specs.Reader.{Reading, spelt, wrong_at, reader}
use Rattle.notation.proofs.Laws.Write.{read_write}
use Rattle.reading.specs.Numbers.{most_depth, not_notation}
use Rattle.reading.specs.Names.{names?}
use Rattle.reading.specs.Meant.{trailer_for, file_for}
use Rattle.reading.specs.Read.{chart_tests, refusal_in, read_refusal, file_in, read_file}
use Rattle.spelling.specs.Write.{chart_in, text_in, text_of, write_refusal}
use Rattle.faithful.specs.Laws.Back.{trailer-back_is}
use Rattle.roundtrip.specs.Written.{InWrittenForm, TextOfFile}
use Rattle.roundtrip.proofs.Laws.Accepted.{written_accepted}
use Rattle.roundtrip.proofs.Laws.Answers.{read_text, same_text}
use Rattle.roundtrip.specs.Laws.Bytes.{file-bytes}
use Rattle.roundtrip.proofs.Laws.Again.{file_again}

-- ── calls that are not refused ──

-- the text w is read as the chart t
pub record ReadPassed (w : List ℕ) (room : ℕ) : Type 0 where
  pub chart : Chart
  pub spelt_so : reader w ≡ spelt chart
  pub shallow : depth chart ≤ most_depth
  pub named : names? chart ≡ false
  pub counts : counts? (trailer_for chart) ≡ false
  pub accepted : refusal_of (file_for chart) ≡ 0
  pub file : read_file w ≡ file_for chart

pub read_passed : (w : List ℕ) (room : ℕ) → read_refusal w room ≡ 0 → ReadPassed w room
unfolding read_refusal read_file refusal_in file_in chart_tests
read_passed w room e = go (reader w) refl
  where
    go : (r : Reading) → reader w ≡ r → ReadPassed w room
    go (wrong_at k) q = absurd (let z : not_notation ≡ 0 = ap (λ r. refusal_in r room) (sym q) ∙ e in omega arith)
    go (spelt t) q =
        let z : first_of (chart_tests t room) ≡ 0 = ap (λ r. refusal_in r room) (sym q) ∙ e in
        let f = front (_ ∷ _ ∷ _ ∷ _ ∷ []) _ (lit< tt, (lit< tt, (lit< tt, (lit< tt, tt)))) z in
        record {
          chart = t;
          spelt_so = q;
          shallow = ltb-false most_depth (depth t) f.0.0;
          named = f.0.1.0;
          counts = f.0.1.1.0;
          accepted = (in_front_lem (file_for t) _ f.1).0;
          file = ap file_in q;
        }

-- the file f is written as text
pub record WritePassed (f : List ℕ) (room : ℕ) : Type 0 where
  pub accepted : refusal_of f ≡ 0
  pub one : (trailer f).edition ≡ first_edition
  pub shallow : depth (chart_in (file_of f)) ≤ most_depth
  pub fits : length (text_of f) ≤ room

pub write-passed : (f : List ℕ) (room : ℕ) → write_refusal f room ≡ 0 → WritePassed f room
unfolding write_refusal
write-passed f room e =
    let p = in_front_lem f _ e in
    let q = first_of-passes _ (lit< tt, (lit< tt, (lit< tt, tt))) p.1 in
    record {
      accepted = p.0;
      one = edition_left f (passed f p.0).edition q.0;
      shallow = ltb-false most_depth (depth (chart_in (file_of f))) q.1.0;
      fits = ltb-false room (length (text_of f)) q.1.1.0;
    }

-- and the other way round
pub write-passes : (f : List ℕ) (room : ℕ) → WritePassed f room → write_refusal f room ≡ 0
unfolding write_refusal
write-passes f room p =
    call-passed f _ p.accepted
    ∙ first_of-next _ _ (ap (λ n. same n stay_edition) p.one ∙ same_≢ first_edition stay_edition (λ e. omega arith))
    ∙ first_of-next _ _ (le-ltb most_depth (depth (chart_in (file_of f))) p.shallow)
    ∙ first_of-next _ _ (le-ltb room (length (text_of f)) p.fits)
    ∙ first_of_[]

-- ── a file that is read ──

module _ (w : List ℕ) (room : ℕ) (e : read_refusal w room ≡ 0) where
  r : ReadPassed w room
  r = read_passed w room e

  -- it is made of bytes, accepted, and of edition 1
  pub read_bytes : AllBytes (read_file w)
  read_bytes = subst AllBytes (sym r.file) (file-bytes r.chart r.named r.counts r.accepted)

  pub read_accepted : refusal_of (read_file w) ≡ 0
  read_accepted = ap refusal_of r.file ∙ r.accepted

  pub read_one : (trailer (read_file w)).edition ≡ first_edition
  unfolding trailer_for
  read_one =
      ap (λ f. (trailer f).edition) r.file
      ∙ ap (λ q. q.edition) (trailer-back_is r.chart (counted (trailer_for r.chart) r.counts))

  -- written and read again it is the same file
  pub read_again : read_file (text_of (read_file w)) ≡ read_file w
  read_again =
      read_text (read_file w)
      ∙ subst (λ f. file_for (chart_in (file_of f)) ≡ f) (sym r.file)
      (file_again r.chart r.named r.counts r.accepted)

-- ── a text that is written ──

module _ (f : List ℕ) (bytes : AllBytes f) (room : ℕ) (e : write_refusal f room ≡ 0) where
  p : WritePassed f room
  p = write-passed f room e

  -- it can be read
  pub written_reads : read_refusal (text_of f) (length (read_file (text_of f))) ≡ 0
  written_reads =
      written_accepted f bytes p.accepted p.one p.shallow (length (read_file (text_of f)))
      (let z = ap length (read_text f) in omega arith)

  pub written_form : InWrittenForm (text_of f)
  written_form = record { read = written_reads; written = same_text f bytes p.accepted p.one }

-- ── a text in written form ──

module _ (w : List ℕ) (h : InWrittenForm w) where
  q : ReadPassed w (length (read_file w))
  q = read_passed w (length (read_file w)) h.read

  -- the chart that was typed is the one that the file holds
  same-chart : chart_in (file_of (read_file w)) ≡ q.chart
  unfolding text_of text_in
  same-chart =
      let a = read_write (chart_in (file_of (read_file w))) in
      let b = ap reader h.written in
      let c = q.spelt_so in
      cc

  pub form_passes : write_refusal (read_file w) (length w) ≡ 0
  form_passes =
      let room = length (read_file w) in
      write-passes (read_file w) (length w)
      (record {
        accepted = read_accepted w room h.read;
        one = read_one w room h.read;
        shallow = subst (λ t. depth t ≤ most_depth) (sym same-chart) q.shallow;
        fits = let z = ap length h.written in omega arith;
      })

-- ── both ──

pub form_exactly : (w : List ℕ) → InWrittenForm w ↔ TextOfFile w
form_exactly w = (
  λ h. record {
    file = read_file w;
    bytes = read_bytes w (length (read_file w)) h.read;
    passes = form_passes w h;
    text = h.written;
  },
  λ r. subst InWrittenForm r.text (written_form r.file r.bytes (length w) r.passes),
)
