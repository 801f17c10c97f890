-- The charts of an accepted file fit what can be typed (`chart-fits`); what is typed for such a chart is this chart
-- (`chart-written`).
use Rattle.std.specs.Prelude.{◌≡◌, refl, false, List, [], ◌∷◌, ℕ, ◌<◌}
use Rattle.std.proofs.Common.{sym}
use Rattle.layout.specs.Le.{AllBytes}
use Rattle.layout.specs.Body.{head_at, transitions_of}
use Rattle.layout.specs.Body.Laws.{head_at-fits}
use Rattle.layout.specs.declared.body.Shape.{Shape}
use Rattle.layout.specs.declared.record.Transition.{Transition as Record}
use Rattle.meaning.specs.Meaning.{Chart as Part}
use Rattle.meaning.specs.File.{trailer, body_of, shape_of, chart_of, file_at, file_of}
use Rattle.meaning.specs.Check.{refusal_of}
use Rattle.meaning.specs.Check.Laws.{passed, charted}
use Rattle.agreement.specs.Every.{Every}
use Rattle.agreement.specs.Encoded.{Small}
use Rattle.agreement.specs.Passed.{ended, body_bytes_lem, smalls}
use Rattle.spelling.specs.Typed.{sequential_of}
use Rattle.spelling.specs.Fits.{FitsIn, Fits}
use Rattle.spelling.proofs.Laws.Sets.{set-written, optional_written}
use Rattle.spelling.proofs.Laws.Charts.{states-length, transitions_written}
use Rattle.faithful.specs.Faithful.{ChartIs}

-- between the first m states, with sets of 64 signals
lines_fit : (m : ℕ) (ts : List Record) → Every (λ t. (t.from < m) × (t.to < m)) ts → Every Small ts
    → Every (FitsIn m) ts
lines_fit m [] e s = tt
lines_fit m (t ∷ ts) e s = (
  record { from = e.0.0; to = e.0.1; needed = s.0.0; barred = s.0.1; action = s.0.2 },
  lines_fit m ts e.1 s.1,
)

module _ (f : List ℕ) (bytes : AllBytes f) (ok : refusal_of f ≡ 0) where
  abbrev n : Shape
  n = shape_of (trailer f)

  abbrev b : List ℕ
  b = body_of f

  pub chart-fits : (c : ℕ) → c < (file_of f).charts → Fits ((file_of f).chart c)
  unfolding file_of file_at chart_of
  chart-fits c l =
      let p = passed f ok in
      let h = charted n b p.charts c l in
      let g = head_at-fits n b (body_bytes_lem f p bytes) c in
      record {
        states = h.states;
        initial = h.initial;
        feedback = g.feedback;
        extra = g.extra;
        transitions =
            lines_fit (head_at n b c).states (transitions_of n b c) (ended f p c l) (smalls f p bytes c);
      }

pub chart-written : (c : ℕ) (C : Part) → Fits C → C.stays ≡ false → ChartIs C (sequential_of c C)
unfolding sequential_of
chart-written c C h e =
    record {
      states = sym (states-length C h);
      initial = refl;
      transitions = sym (transitions_written c C h);
      feedback = sym (set-written C.feedback h.feedback);
      extra = sym (optional_written C.extra h.extra);
      stays = e;
    }
