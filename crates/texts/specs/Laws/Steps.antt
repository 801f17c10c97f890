-- The tests of a text that spells a chart, in their order, by what was found of it: 51, 52, 3 and 6 (`says-deep` to
-- `says-crowded`), and a text to which none of them applies (`is_ready`).
use Rattle.std.specs.Prelude.{◌≡◌, refl, true, false, List, ℕ, ltb, length, Result, Ok, Err}
use Rattle.std.proofs.Common.{sym, ◌∙◌, arith}
use Rattle.std.proofs.Math.Path.{ap, ap₂}
use Rattle.std.proofs.Math.Bool.{◌||◌}
use Rattle.layout.specs.declared.body.Shape.{Shape}
use Rattle.meaning.specs.Numbers.{bad_counts, bad_chart}
use Rattle.meaning.specs.Sums.Laws.{or_left}
use Rattle.meaning.specs.Check.{first_of, counts?}
use Rattle.checks.specs.Refusals.{number}
use Rattle.checks.specs.declared.refusal.Refusal.{Refusal}
use Rattle.checks.specs.declared.refusal.Refusal.TheVariants as Refusal
use Rattle.notation.specs.Syntax.{Chart, depth}
use Rattle.notation.specs.Grammar.{Spells}
use Rattle.reading.specs.Numbers.{most_depth, too_deep, bad_name}
use Rattle.reading.specs.Names.{any, names?}
use Rattle.reading.specs.Meant.{charts_of, trailer_for, file_for}
use Rattle.reading.specs.Read.{chart_tests}
use Rattle.tokens.specs.Tokens.{cap}
use Rattle.outline.specs.declared.Outline.{Outline}
use Rattle.outline.specs.declared.TooDeep.{TooDeep}
use Rattle.outline.specs.Outline.{OutlineFor}
use Rattle.outline.specs.Laws.Filed.{nodes_filed, slaves-filed}
use Rattle.roster.specs.declared.Roster.{Roster}
use Rattle.roster.specs.Roster.{crowded?, GivesRoster}
use Rattle.texts.specs.declared.Refused.{Refused}
use Rattle.texts.specs.Promises.{ReadSays}
use Rattle.texts.specs.Shapes.{over?, shape_with}
use Rattle.texts.specs.Ready.{Ready}
use Rattle.texts.specs.Laws.Tests.{tests_refused, says-chart, chart-deep, chart-names, chart-counts}
use Rattle.texts.specs.Laws.Tests.{chart-crowded}
use Rattle.texts.specs.Laws.Counts.{Counted, counts_shape, shape_is}

-- the answer of a refusal
abbrev refusing : Refusal → Result ℕ Refused
refusing e = Err (record { refusal = e; place = 0 })

module _ (w : List ℕ) (t : Chart) (e : Spells w t) (b : List ℕ) where
  says_refused : (e : Refusal) → first_of (chart_tests t (length b)) ≡ number e → ReadSays w b (refusing e) b
  says_refused n f = says-chart w t b (refusing n) b e (tests_refused (chart_tests t (length b)) (file_for t) b n f)

  pub says-deep : (d : TooDeep) → OutlineFor t (Err d) → ReadSays w b (refusing Refusal.TooDeep) b
  says-deep d h = says_refused Refusal.TooDeep (chart-deep t (length b) (sym h.is_deep))

  module _ (o : Outline) (h : OutlineFor t (Ok o)) (s : Roster) (g : GivesRoster w s t) where
    shallow : ltb most_depth (depth t) ≡ false
    shallow = sym h.is_deep

    names_is : (s.bad || o.bad) ≡ names? t
    unfolding names?
    names_is = ap₂ ◌||◌ g.is_bad h.is_bad

    pub says-named : (s.bad || o.bad) ≡ true → ReadSays w b (refusing Refusal.BadName) b
    says-named n = says_refused Refusal.BadName (chart-names t (length b) shallow (sym names_is ∙ n))

    module _ (n : (s.bad || o.bad) ≡ false) where
      named : names? t ≡ false
      named = sym names_is ∙ n

      good : s.bad ≡ false
      good = or_left s.bad o.bad n

      counted : Counted (shape_with s o) t
      unfolding shape_with
      counted =
          record {
            charts = (g.charted good).is_charts;
            transitions = g.is_transitions good;
            slaves = h.is_slaves ∙ ap cap (sym (slaves-filed t named));
            nodes = h.is_nodes ∙ ap cap (sym (nodes_filed t named));
            edition = refl;
          }

      module _ (m : Shape) (em : m ≡ shape_with s o) where
        counts : over? m ≡ counts? (trailer_for t)
        counts = ap over? em ∙ counts_shape (shape_with s o) t counted

        pub says-over : over? m ≡ true → ReadSays w b (refusing Refusal.BadCounts) b
        says-over v = says_refused Refusal.BadCounts (chart-counts t (length b) shallow named (sym counts ∙ v))

        module _ (v : over? m ≡ false) where
          crowds : s.crowded ≡ any crowded? (charts_of t)
          crowds = g.is_crowded good

          pub says-crowded : s.crowded ≡ true → ReadSays w b (refusing Refusal.BadChart) b
          says-crowded c =
              says_refused Refusal.BadChart (chart-crowded t (length b) shallow named (sym counts ∙ v) (sym crowds ∙ c))

          pub is_ready : s.crowded ≡ false → Ready w s m
          is_ready c =
              record {
                chart = t;
                spells = e;
                shallow = shallow;
                named = named;
                counted = sym counts ∙ v;
                sparse = sym crowds ∙ c;
                found = g;
                shape = em ∙ shape_is (shape_with s o) t counted (ap over? (sym em) ∙ v);
              }
