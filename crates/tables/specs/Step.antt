-- A step by tables, for a file that tests 9 to 11 allow: where the wiring is in the tables and the candidates are
-- chosen, a search over them has what is found among all choices, and its places. The candidates are those of charts
-- whose actions are narrowed to what is read, or to more. How many choices are open is not its concern.
use Rattle.std.specs.Prelude.{◌≡◌, refl, List, ℕ, zero, ◌-◌, ◌≤◌, ◌<◌, length, get_or}
use Rattle.std.proofs.Common.{sym, ◌∙◌, arith}
use Rattle.std.proofs.Math.Path.{ap}
use Rattle.signals.specs.Mask.{◌∩◌}
use Rattle.meaning.specs.Numbers.{stay_place}
use Rattle.meaning.specs.Meaning.{Set, Chart, Move, no_move, takes, stay, pick, action_of, moves, outcomes, answer}
use Rattle.meaning.specs.Meaning.{first_places}
use Rattle.meaning.specs.File.{File, whole_of}
use Rattle.meaning.specs.Calls.{all_places, found_in, places_found}
use Rattle.meaning.specs.Laws.Trees.{Ordered, Rule11}
use Rattle.meaning.specs.Laws.Names.{Rule10, kap}
use Rattle.wiring.specs.Reach.{down, Small}
use Rattle.wiring.specs.Permitted.{Stands}
use Rattle.wiring.specs.Stand.{stands}
use Rattle.settling.specs.Trail.{beginning}
use Rattle.settling.specs.Hunt.{over, nothing}
use Rattle.settling.specs.Calm.{hunts_both}
use Rattle.settling.specs.declared.Found.{Found}
use Rattle.tables.specs.Contents.{Rows, Candidates, Stayers, Lows, answer_of}
use Rattle.tables.specs.Narrowing.{Reads, narrowed}
use Rattle.tables.specs.Narrowing.Laws.{narrow_move, length-narrowed, pick-narrowed, back-narrowed, small-narrowed}
use Rattle.tables.specs.Narrowing.Laws.{permitted-narrowed, outcomes-narrowed}
use Rattle.tables.specs.Insertion.{opens_by, keep_at, Chosen, Raised}
use Rattle.tables.specs.Insertion.Laws.{candidates, stayers_last, lows_are}
use Rattle.tables.specs.Simulation.{keeps, Opens, found_is, places_is}

-- a narrowed move goes where the move goes
opens-narrowed : (shut r : Set) (q : ℕ) (M : Move) → opens_by shut q (narrow_move r M) ≡ opens_by shut q M
unfolding opens_by narrow_move
opens-narrowed shut r q no_move = refl
opens-narrowed shut r q (takes t) = refl
opens-narrowed shut r q stay = refl

module _ (F : File) (some_node : 0 < F.nodes) (w : Ordered F) (r : Rule10 F) (r11 : Rule11 F)
    (chart_there : (j : ℕ) → j < F.nodes → F.kind j ≡ 0 → F.a j < F.charts)
    (node-there : (i : ℕ) → i < F.slaves → (F.node i < F.nodes) × (F.master i < F.charts))
    (config : List ℕ) (inp : Set) (si : Small inp)
    (sa : (ch : ℕ → ℕ) (e : ℕ) → Small (action_of (moves F.chart ch e))) (m s g y base lows shuts : List ℕ)
    (few : (c : ℕ) → c < F.charts → length (F.chart c).transitions ≤ stay_place)
    (op : Opens F F.chart (λ c. get_or config c 0) inp shuts)
    (ro : Rows F.chart F.state (λ c. get_or config c 0) F.charts (kap F) F.master (whole_of F) m s)
    (read : ℕ → Set) (rd : Reads F.chart (λ c. get_or config c 0) F.charts (whole_of F) read)
    (ch : Chosen (narrowed read F.chart) (λ c. get_or config c 0) F.charts lows shuts m s)
    (ra : Raised (narrowed read F.chart) (λ c. get_or config c 0) F.charts m s base lows)
    (bs : (c : ℕ) → c < F.charts → get_or base c 0 ≡ inp ∩ down (whole_of F) c)
    (sk : Stayers (narrowed read F.chart) (λ c. get_or config c 0) F.charts
    (keep_at (narrowed read F.chart) (λ c. get_or config c 0) F.charts lows shuts m) g y) where
  abbrev E : ℕ → Chart
  E = narrowed read F.chart

  abbrev cfg : ℕ → ℕ
  cfg c = get_or config c 0

  st : Stands F.charts (kap F) F.master (whole_of F)
  st = stands F w r r11 chart_there node-there (F.nodes - 1) (omega arith)

  -- ── what holds of the charts holds of the narrowed ones ──

  small : (ch : ℕ → ℕ) (e : ℕ) → Small (action_of (moves E ch e))
  small = small-narrowed F.chart F.state cfg F.charts (kap F) F.master (whole_of F) inp read st si sa rd

  short : (c : ℕ) → c < F.charts → length (E c).transitions ≤ stay_place
  short c l = rw (length-narrowed (read c) (F.chart c).transitions) (few c l)

  opens : Opens F E cfg inp shuts
  opens v p c l =
      ap (opens_by (get_or shuts c 0) (cfg c)) (pick-narrowed (read c) (F.chart c) (v c))
      ∙ opens-narrowed (get_or shuts c 0) (read c) (cfg c) (pick (F.chart c) (v c))
      ∙ op v
      (sym
      (permitted-narrowed F.chart F.state cfg F.charts (kap F) F.master (whole_of F) inp read st si sa rd v)
      ∙ p) c l

  rows : Rows E F.state cfg F.charts (kap F) F.master (whole_of F) m s
  rows =
      record {
        few = ro.few;
        back_at_lem = λ c d p q. ro.back_at_lem c d p q ∙ sym (back-narrowed read F.chart (whole_of F) c d);
        up_at_lem = ro.up_at_lem;
        outside = ro.outside;
        inside = ro.inside;
        state_at_lem = ro.state_at_lem;
      }

  lw : Lows E cfg F.charts (kap F) (whole_of F) inp lows
  lw = lows_are E F.state cfg F.charts (kap F) F.master (whole_of F) inp m s base lows st rows bs ra

  ca : Candidates E cfg F.charts (whole_of F) (keeps F E cfg inp shuts) m s
  ca = candidates E F.state cfg F.charts (kap F) F.master (whole_of F) inp m s lows shuts rows lw ch

  sy : Stayers E cfg F.charts (keeps F E cfg inp shuts) g y
  sy = stayers_last E F.state cfg F.charts (kap F) F.master (whole_of F) inp m s lows shuts rows lw sk

  same-outcomes : outcomes E F.state cfg (whole_of F) inp F.charts
      ≡ outcomes F.chart F.state cfg (whole_of F) inp F.charts
  same-outcomes =
      outcomes-narrowed F.chart F.state cfg F.charts (kap F) F.master (whole_of F) inp read st si sa rd

  -- ── what is found ──

  abbrev searched : Found
  searched = over (hunts_both m s g y F.charts zero (beginning lows)) nothing

  pub step_found : answer_of F.charts searched ≡ found_in F config inp
  unfolding found_in
  step_found =
      found_is F E st cfg inp si small m s g y lows shuts short opens rows ca sy lw
      ∙ ap answer same-outcomes

  pub step_places : searched.places ≡ places_found F config inp
  unfolding places_found
  step_places =
      places_is F E st cfg inp si small m s g y lows shuts short opens rows ca sy lw
      ∙ ap (λ o. all_places (first_places o)) same-outcomes
