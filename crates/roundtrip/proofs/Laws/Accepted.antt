-- The file that is read from the text of an accepted file of edition 1 passes 1 to 11 (`written-passes`). So reading
-- the text is refused only if it is nested too deep or the buffer is too short (`written_accepted`).
use Rattle.std.specs.Prelude.{◌≡◌, false, List, [], ℕ, ◌≤◌, length}
use Rattle.std.proofs.Common.{ap, ap₂, ◌∙◌, le-ltb}
use Rattle.layout.specs.Le.{AllBytes}
use Rattle.meaning.specs.Numbers.{first_edition}
use Rattle.meaning.specs.File.{File, trailer, shape_of, file_at, file_of}
use Rattle.meaning.specs.Laws.Alike.{accepted_treed, accepted_node, accepted_sound}
use Rattle.meaning.specs.Check.{charts?, transitions?, slaves?, nodes?, naming?, inside?, file_tests}
use Rattle.meaning.specs.Check.{refusal_of}
use Rattle.meaning.specs.Check.Laws.{Passed, passed, counted, file-passes, first_of_++, first_of-next, first_of_[]}
use Rattle.agreement.specs.Passed.{passes}
use Rattle.notation.specs.Syntax.{Chart, depth}
use Rattle.notation.proofs.Laws.Write.{write_spells}
use Rattle.reading.specs.Numbers.{most_depth}
use Rattle.reading.specs.Meant.{body_for, trailer_for, file_for}
use Rattle.reading.specs.Read.{chart_tests, read_refusal}
use Rattle.reading.proofs.Laws.Read.{read_spells}
use Rattle.spelling.specs.Write.{chart_in, text_in, text_of}
use Rattle.faithful.specs.Laws.Back.{shape_for, trailer-back_is, body_back}
use Rattle.accepted.proofs.Laws.Shape.{shape_passes}
use Rattle.accepted.proofs.Laws.Nodes.{nodes_pass}
use Rattle.accepted.proofs.Laws.Test10.{naming_passes}
use Rattle.accepted.proofs.Laws.Counts.{names_typed, counts-right, few_lines}
use Rattle.accepted.proofs.Laws.Charts.{charts_pass, transitions_pass}
use Rattle.accepted.proofs.Laws.Inside.{inside-same}
use Rattle.roundtrip.proofs.Laws.Back.{is_body, slaves-right, treed_right, nodes_many, body_same}

module _ (f : List ℕ) (bytes : AllBytes f) (ok : refusal_of f ≡ 0) (first : (trailer f).edition ≡ first_edition) where
  abbrev F : File
  F = file_of f

  abbrev t : Chart
  t = chart_in F

  abbrev g : List ℕ
  g = file_for t

  -- ── 1 to 11 ──

  inside-right : inside? (file_at (shape_for t) (body_for t)) ≡ false
  inside-right =
      let s = body_same f bytes ok first in
      inside-same F (file_at (shape_for t) (body_for t)) (accepted_sound f ok) (accepted_node f ok)
      (accepted_treed f ok)
      (treed_right f bytes ok first) (nodes_many f bytes ok first) s.charts s.slaves s.master
      s.tree
      ∙ (passed f ok).inside

  written-passed : Passed g
  written-passed =
      let c = counted (trailer_for t) (counts-right f bytes ok) in
      let r = trailer-back_is t c in
      let b = body_back t c in
      let n = names_typed f bytes ok in
      let s = shape_passes t (counts-right f bytes ok) in
      let e = is_body f bytes ok first in
      record {
        long = s.long;
        edition = s.edition;
        counts = s.counts;
        distance = s.distance;
        zeros = s.zeros;
        charts = ap₂ (λ u v. charts? (shape_of u) v) r b ∙ charts_pass f bytes ok first;
        transitions = ap₂ (λ u v. transitions? (shape_of u) v) r b ∙ transitions_pass f bytes ok first;
        slaves = ap slaves? e ∙ slaves-right f bytes ok first;
        nodes = ap nodes? e ∙ nodes_pass t n;
        naming = ap naming? e ∙ naming_passes t n;
        inside = ap inside? e ∙ inside-right;
      }

  pub written-passes : refusal_of g ≡ 0
  written-passes = passes g written-passed

  -- ── the text ──

  pub written_accepted : depth t ≤ most_depth → (room : ℕ) → length g ≤ room → read_refusal (text_of f) room ≡ 0
  unfolding text_of text_in chart_tests
  written_accepted d room l =
      (read_spells (text_of f) t room (write_spells t)).0
      ∙ first_of-next _ _ (le-ltb most_depth (depth t) d)
      ∙ first_of-next _ _ (names_typed f bytes ok)
      ∙ first_of-next _ _ (counts-right f bytes ok)
      ∙ first_of-next _ _ (few_lines f bytes ok)
      ∙ first_of_++ (file_tests g) _ (file-passes g written-passes)
      ∙ first_of-next _ _ (le-ltb room (length g) l)
      ∙ first_of_[]
