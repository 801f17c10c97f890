-- The sets of a chart to which 52 does not apply are of 8 bytes: those of a text (`set-small`, `optional_small`), of a
-- transition (`transition-small`), of a sequential chart (`head_small`).
use Rattle.std.specs.Prelude.{◌≡◌, refl, false, ◌||◌, not, List, [], ◌∷◌, map, ℕ, ◌^◌, ◌<◌}
use Rattle.std.proofs.Common.{ap, ◌∙◌, lit<}
use Rattle.std.proofs.Math.Option.{Option, none, some}
use Rattle.signals.specs.Mask.{single}
use Rattle.signals.specs.Mask.Laws.{union_lt}
use Rattle.signals.specs.All.{single_lt}
use Rattle.meaning.specs.Check.{not_below, differ}
use Rattle.meaning.specs.Check.Laws.{below}
use Rattle.meaning.specs.Sums.Laws.{or_left, or_right}
use Rattle.notation.specs.Syntax.{Signals, Literal, needed, barred, Transition, Sequential}
use Rattle.reading.specs.Numbers.{named_signals, named_states}
use Rattle.reading.specs.Names.{members_of, members_or, first, any, has, not_all?, signals?, set?, optional?, signal_of}
use Rattle.reading.specs.Names.{transition?, sequential?}
use Rattle.reading.specs.Meant.{mask_of, set_of, optional_of, needed_in, barred_in, transition_for, transitions_in}
use Rattle.reading.specs.Meant.{head_for}

-- ── sets ──

mask_small : (ns : List ℕ) → signals? ns ≡ false → mask_of ns < 256 ^ 8
unfolding signals? any mask_of
mask_small [] e = lit< tt
mask_small (n ∷ ns) e =
    union_lt 64 (single n) (mask_of ns) (single_lt 64 n (below n named_signals (or_left _ _ e)))
    (mask_small ns (or_right (not_below n named_signals) _ e))

pub set-small : (x : Signals) → set? x ≡ false → set_of x < 256 ^ 8
unfolding set?
set-small x e = mask_small (members_or x) e

pub optional_small : (x : Option Signals) → optional? x ≡ false → optional_of x < 256 ^ 8
unfolding optional? optional_of
optional_small none e = lit< tt
optional_small (some x) e = set-small x e

-- ── transitions ──

needed_fine : (gs : List Literal) → signals? (map signal_of gs) ≡ false → signals? (needed_in gs) ≡ false
unfolding signals? any signal_of needed_in
needed_fine [] e = refl
needed_fine (needed n ∷ gs) e =
    ap (◌|| signals? (needed_in gs)) (or_left (not_below n named_signals) (signals? (map signal_of gs)) e)
    ∙ needed_fine gs (or_right (not_below n named_signals) _ e)
needed_fine (barred n ∷ gs) e = needed_fine gs (or_right (not_below n named_signals) _ e)

barred_fine : (gs : List Literal) → signals? (map signal_of gs) ≡ false → signals? (barred_in gs) ≡ false
unfolding signals? any signal_of barred_in
barred_fine [] e = refl
barred_fine (needed n ∷ gs) e = barred_fine gs (or_right (not_below n named_signals) _ e)
barred_fine (barred n ∷ gs) e =
    ap (◌|| signals? (barred_in gs)) (or_left (not_below n named_signals) (signals? (map signal_of gs)) e)
    ∙ barred_fine gs (or_right (not_below n named_signals) _ e)

pub transition-small : (states : List ℕ) (u : Transition) → transition? states u ≡ false
    → ((transition_for u).needed < 256 ^ 8) × ((transition_for u).barred < 256 ^ 8)
    × ((transition_for u).action < 256 ^ 8)
unfolding transition? transition_for
transition-small states u e =
    let gs = members_or u.guard in
    let g = or_right (not (has states u.to)) _ (or_right (not (has states u.from)) _ e) in
    let n = or_left (signals? (map signal_of gs)) (set? u.action) g in (
      mask_small (needed_in gs) (needed_fine gs n),
      mask_small (barred_in gs) (barred_fine gs n),
      set-small u.action (or_right (signals? (map signal_of gs)) (set? u.action) g),
    )

-- ── sequential charts ──

module _ (s : Sequential) (e : sequential? s ≡ false) where
  behind_initial : (set? s.heading.feedback
      || (any (transition? (members_of s.heading.states)) (transitions_in s) || optional? s.extra)) ≡ false
  unfolding sequential?
  behind_initial =
      or_right (differ s.heading.initial (first s.heading.states)) _
      (or_right (not_all? named_states (members_of s.heading.states)) _ e)

  behind_feedback : (any (transition? (members_of s.heading.states)) (transitions_in s) || optional? s.extra)
      ≡ false
  behind_feedback = or_right (set? s.heading.feedback) _ behind_initial

  pub head_small : ((head_for s).feedback < 256 ^ 8) × ((head_for s).extra < 256 ^ 8)
  unfolding head_for
  head_small = (
    set-small s.heading.feedback (or_left _ _ behind_initial),
    optional_small s.extra
        (or_right (any (transition? (members_of s.heading.states)) (transitions_in s)) _ behind_feedback),
  )

  pub transitions_fine : any (transition? (members_of s.heading.states)) (transitions_in s) ≡ false
  transitions_fine = or_left _ _ behind_feedback
