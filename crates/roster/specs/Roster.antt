-- What is found of the sequential charts of a text that spells a chart: whether their names are refused, how many
-- charts and transitions there are, and where the chart of each number stands.
use Rattle.std.specs.Prelude.{◌≡◌, Bool, false, cond, List, [], ◌∷◌, ◌++◌, map, ℕ, suc, ◌≤◌, ltb, length, drop}
use Rattle.std.specs.Prelude.{get_or}
use Rattle.meaning.specs.Numbers.{most_in_chart}
use Rattle.notation.specs.Syntax.{Sequential, Chart}
use Rattle.notation.specs.Grammar.{Tokens, of_sequential, of_chart, Text}
use Rattle.reading.specs.Numbers.{named_charts}
use Rattle.reading.specs.Names.{any, not_all?, sequential?, sequentials_of, name_of}
use Rattle.reading.specs.Meant.{transitions_in, charts_of, transitions_of}
use Rattle.roster.specs.declared.Roster.{Roster}

-- a count as far as it matters: 65,535 stands for all from there on
unfoldable pub cut : ℕ → ℕ
cut n = cond (ltb n 65535) n 65535

-- a chart has more transitions than it may have
abbrev pub crowded? : Sequential → Bool
crowded? s = ltb most_in_chart (length (transitions_in s))

-- the sequential chart s stands at a place, and some tokens behind it
pub record StandsAt (w : List ℕ) (at : ℕ) (s : Sequential) : Type 0 where
  pub behind : Tokens
  pub text : Text (of_sequential s ++ behind) (drop at w)

-- the charts ss stand at the places of a list, from the c-th on
unfoldable pub Stand : List ℕ → List ℕ → ℕ → List Sequential → Type 0
Stand w places c [] = Unit {0}
Stand w places c (s ∷ ss) = StandsAt w (get_or places c 0) s × Stand w places (suc c) ss

-- r has the charts ss: how many there are, few enough for the places, and where each stands
pub record Charted (w : List ℕ) (r : Roster) (ss : List Sequential) : Type 0 where
  pub is_charts : r.charts ≡ length ss
  pub few : length ss ≤ 16
  pub stand : Stand w r.places 0 ss

-- r is what is found of the charts of t: whether 52 applies to one of them, and to their names; if not to these, the
-- charts by number, how many transitions they have, and whether one has too many
pub record GivesRoster (w : List ℕ) (r : Roster) (t : Chart) : Type 0 where
  pub is_refused : r.refused ≡ any sequential? (sequentials_of t)
  pub is_bad : r.bad ≡ not_all? named_charts (map name_of (sequentials_of t))
  pub charted : r.bad ≡ false → Charted w r (charts_of t)
  pub is_transitions : r.bad ≡ false → r.transitions ≡ cut (length (transitions_of t))
  pub is_crowded : r.bad ≡ false → r.crowded ≡ any crowded? (charts_of t)

-- r is what is found of a text
abbrev pub RosterAt : List ℕ → Roster → Type 0
RosterAt w r = (t : Chart) → Text (of_chart t) w → GivesRoster w r t
