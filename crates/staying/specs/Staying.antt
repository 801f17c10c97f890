-- What the functions that note triggers ask and leave: one transition (Notes), a chart's (Noting, Tells), all charts'
-- (Telling, Stays).
use Rattle.std.specs.Prelude.{◌≡◌, Bool, ◌&&◌, not, cond, List, ◌≢◌, ℕ, ◌+◌, ◌*◌, ◌≤◌, ◌<◌, length, get_or, set}
use Rattle.signals.specs.Mask.{◌∪◌, bit}
use Rattle.layout.specs.Body.{transitions_of}
use Rattle.layout.specs.Body.{from as fromOn}
use Rattle.layout.specs.declared.body.Shape.{Shape}
use Rattle.layout.specs.declared.record.Transition.{Transition}
use Rattle.meaning.specs.Numbers.{most_charts, most_from_state}
use Rattle.meaning.specs.Sums.{tally, one}
use Rattle.meaning.specs.Meaning.{Set, same, untriggered}
use Rattle.cells.specs.Triggers.{triggers_for, put_trigger, stays_size, some_stay, Guards}
use Rattle.tables.specs.Contents.{Stayers}
use Rattle.tables.specs.Insertion.{others_at, keep_at}
use Rattle.tables.specs.Triggers.{Noted, SameTriggers, Told}
use Rattle.candidates.specs.Candidates.{Mays, read_charts}
pub mod Laws

-- one transition more, of chart c at q, which had k triggers and has k'
pub record Notes (t : Transition) (q c k : ℕ) (g g' : List ℕ) (k' : ℕ) : Type 0 where
  pub table : g' ≡ cond (same t.from q) (put_trigger g c k t) g
  pub count : k' ≡ k + one (same t.from q)

-- the other charts have in g what they had in g₀
pub record Beside (c : ℕ) (g₀ g : List ℕ) : Type 0 where
  pub others : (d : ℕ) → d < most_charts → d ≢ c → SameTriggers g₀ g d most_from_state
  pub size : length g ≡ length g₀

-- of the `count` transitions from `start` on, the first p of which were looked at, k are triggers of chart c
pub record Noting (f : ℕ → Transition) (start count q c p : ℕ) (g₀ g : List ℕ) (k : ℕ) : Type 0 where
  pub noted : Noted g c (fromOn f start count) q p k
  pub counts : k ≡ tally p (λ u. one (same (f (start + u)).from q))
  pub beside : Beside c g₀ g

-- what a search is told of chart c, whose transitions are ts, between bounds on what it is offered, where it must not
-- go to the states of a mask
pub record Tells (ts : List Transition) (q c : ℕ) (low high shut : Set) (g₀ g : List ℕ) (k : ℕ) : Type 0 where
  pub told : Told g c ts q (untriggered ts q low high && not (bit shut q)) k
  pub few : k ≤ most_from_state + 1
  pub beside : Beside c g₀ g

module _ (n : Shape) (b config lows may shuts m : List ℕ) where
  -- chart c is not surely triggered, and its state is not shut
  abbrev pub quiet : ℕ → Bool
  quiet c =
      untriggered (transitions_of n b c) (get_or config c 0) (get_or lows c 0)
      (get_or lows c 0 ∪ others_at m n.charts (λ e. get_or may e 0) c)
      && not (bit (get_or shuts c 0) (get_or config c 0))

  -- what it is told of the first k charts
  pub record Telling (k : ℕ) (g y : List ℕ) : Type 0 where
    pub told : (c : ℕ) → c < k → Told g c (transitions_of n b c) (get_or config c 0) (quiet c) (get_or y c 0)
    pub few : (c : ℕ) → c < most_charts → get_or y c 0 ≤ most_from_state + 1
    pub rest : (c : ℕ) → k ≤ c → c < most_charts → get_or y c 0 ≡ 0
    pub size : triggers_for n.charts ≤ length g
    pub small : length y ≡ stays_size
    pub some_may : some_stay y ≡ 1

-- what it is told of all: g and y are as the search asks for, whatever is read of the actions, if `may` has what each
-- chart might put out of that
pub record Stays (n : Shape) (b config may lows shuts m g y : List ℕ) : Type 0 where
  pub stayers : (reads : List ℕ) → Mays n b config reads n.charts may
      → Stayers (read_charts n b reads) (λ c. get_or config c 0) n.charts
      (keep_at (read_charts n b reads) (λ c. get_or config c 0) n.charts lows shuts m) g y
  pub guards : Guards g y
