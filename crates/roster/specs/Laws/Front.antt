-- The front of a file's body, heads and transitions, is laid down by the two calls one after the other: `heads_laid`,
-- `transitions_laid`, `front-laid`.
use Rattle.std.specs.Prelude.{◌≡◌, false, List, ◌++◌, ℕ}
use Rattle.std.proofs.Common.{sym, ◌∙◌}
use Rattle.layout.specs.Put.Laws.{put-append, room_first, room_next}
use Rattle.notation.specs.Syntax.{Chart}
use Rattle.reading.specs.Laws.Body.{heads_for, lines_for}
use Rattle.laying.specs.Room.{Tries}
use Rattle.roster.specs.declared.Roster.{Roster}
use Rattle.roster.specs.Roster.{GivesRoster}
use Rattle.roster.specs.Records.{HeadsPut, TransitionsPut}
use Rattle.roster.specs.Laws.Walk.{none_refused}

-- a roster of t to which neither 52 nor the limit on a chart's transitions applies
module _ (w : List ℕ) (r : Roster) (t : Chart) (g : GivesRoster w r t) (good : r.bad ≡ false)
    (right : r.refused ≡ false)
  where
    pub heads_laid : {before after : List ℕ} {at p : ℕ} → r.crowded ≡ false → HeadsPut w r before at after p
        → Tries before at (heads_for t) after p
    heads_laid few h = h _ (g.charted good) (none_refused w r t g good right) (sym (g.is_crowded good) ∙ few)

    pub transitions_laid : {before after : List ℕ} {at p : ℕ} → TransitionsPut w r before at after p
        → Tries before at (lines_for t) after p
    transitions_laid h = h _ (g.charted good) (none_refused w r t g good right)

    pub front-laid : {before between after : List ℕ} {at p q : ℕ} → r.crowded ≡ false
        → HeadsPut w r before at between p → TransitionsPut w r between p after q
        → Tries before at (heads_for t ++ lines_for t) after q
    front-laid {before} {between} {after} {at} {p} {q} few h k room =
        let x = heads_laid few h (room_first before at (heads_for t) (lines_for t) room) in
        put-append x (transitions_laid k (room_next before at (heads_for t) (lines_for t) room x))
