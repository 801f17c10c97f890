-- The walk from chart to chart: what is known on the way, and what its steps promise each other.
use Rattle.std.specs.Prelude.{◌≡◌, false, ◌||◌, List, [], ◌++◌, map, ℕ, ◌+◌, ◌≤◌, ◌<◌, ltb, length, drop, get_or, set}
use Rattle.meaning.specs.Each.{Each}
use Rattle.meaning.specs.Numbers.{most_in_chart}
use Rattle.notation.specs.Syntax.{Sequential, Chart}
use Rattle.notation.specs.Grammar.{Tokens, Text}
use Rattle.reading.specs.Numbers.{named_charts}
use Rattle.reading.specs.Names.{any, sequential?, sequentials_of, name_of}
use Rattle.reading.specs.Meant.{gathered, transitions_in}
use Rattle.lists.specs.declared.Listed.{Listed}
use Rattle.lists.specs.declared.Sequential.{Sequential as Drawn}
use Rattle.lists.specs.Lists.{gap, Lists, SoFar}
use Rattle.lists.specs.Found.{Found}
use Rattle.roster.specs.declared.Roster.{Roster}
use Rattle.roster.specs.Roster.{cut, crowded?, StandsAt}

-- ── what is known ──

-- r is what is found of the charts `done`, each of which stands at the place that its name has
pub record Holds (w : List ℕ) (r : Roster) (done : List Sequential) : Type 0 where
  pub long : length r.places ≡ 16
  pub so_far : SoFar named_charts r.mask r.bad (map name_of done)
  pub is_charts : r.charts ≡ cut (length done)
  pub is_transitions : r.transitions ≡ cut (length (gathered transitions_in done))
  pub is_crowded : r.crowded ≡ any crowded? done
  pub is_refused : r.refused ≡ any sequential? done
  pub stand : r.bad ≡ false → Each (λ s. StandsAt w (get_or r.places (name_of s) 0) s) done

-- the charts `done` of t are found, and the text goes on behind them with tokens that have the others
pub record Walked (w : List ℕ) (r : Roster) (t : Chart) : Type 0 where
  pub done : List Sequential
  pub rest : List Sequential
  pub all : sequentials_of t ≡ done ++ rest
  pub tokens : Tokens
  pub text : Text tokens (drop r.next w)
  pub found : Found tokens rest
  pub holds : Holds w r done

-- ── the steps ──

-- r is the places with that of the chart n, if there is room for it
abbrev pub Placed : List ℕ → ℕ → ℕ → List ℕ → Type 0
Placed places n at r = (length places ≡ 16 → length r ≡ 16) × (n < 16 → r ≡ set places n at)

-- q is r with the chart s, which stands at a place
pub record Enters (r : Roster) (s : Drawn) (at : ℕ) (q : Roster) : Type 0 where
  pub listed : Listed
  pub lists : Lists named_charts r.mask r.bad s.name listed
  pub is_mask : q.mask ≡ listed.mask
  pub is_bad : q.bad ≡ listed.bad
  pub is_charts : q.charts ≡ cut (r.charts + 1)
  pub is_transitions : q.transitions ≡ cut (r.transitions + s.transitions)
  pub is_crowded : q.crowded ≡ (r.crowded || ltb most_in_chart s.transitions)
  pub is_refused : q.refused ≡ (r.refused || s.bad)
  pub is_places : Placed r.places s.name at q.places
  pub is_next : q.next ≡ s.next

-- nothing is found yet
abbrev pub Begun : Roster → Type 0
Begun r = (r.next ≡ 0) × ((w : List ℕ) → Holds w r [])

-- r with another place behind what is read
unfoldable pub moved : Roster → ℕ → Roster
moved r next =
    record {
      mask = r.mask;
      bad = r.bad;
      charts = r.charts;
      transitions = r.transitions;
      crowded = r.crowded;
      refused = r.refused;
      places = r.places;
      next = next;
    }

-- q is r one chart or one token further
pub record Steps (w : List ℕ) (r q : Roster) : Type 0 where
  pub within : q.next ≤ length w
  pub further : r.next < q.next
  pub walked : (t : Chart) → Walked w r t → Walked w q t

-- q is r at the end of the text
pub record Closes (r q : Roster) : Type 0 where
  pub is_bad : q.bad ≡ (r.bad || gap r.mask)
  pub is_charts : q.charts ≡ r.charts
  pub is_transitions : q.transitions ≡ r.transitions
  pub is_crowded : q.crowded ≡ r.crowded
  pub is_refused : q.refused ≡ r.refused
  pub is_places : q.places ≡ r.places
