-- A beginning of a choice: what is known once the charts below k are settled. It stands in two lent lists (crate cells,
-- Trail).
use Rattle.std.specs.Prelude.{◌≡◌, List, [], ℕ, ◌+◌, ◌<◌, length, get_or}
use Rattle.signals.specs.Mask.{◌∪◌, ◌∩◌}
use Rattle.meaning.specs.Numbers.{most_charts}
use Rattle.meaning.specs.Calls.{made}
use Rattle.cells.specs.Table.{back_at}
use Rattle.cells.specs.Trail.{low_cell, low_in, needed_in, barred_in, next_cell, next_in, awake_in, place_in}
pub mod Laws

pub record Trail : Type 0 where
  -- what each chart is surely offered
  pub low : List ℕ
  -- of each settled chart what it needs and bars, its next state, 1 if it is active, and the place of its transition,
  -- 255 for none
  pub needed : List ℕ
  pub barred : List ℕ
  pub next : List ℕ
  pub awake : List ℕ
  pub places : List ℕ
  -- what comes out of the whole
  pub output : ℕ

-- no chart is settled; low is what each is surely offered
unfoldable pub beginning : List ℕ → Trail
beginning low = record { low = low; needed = []; barred = []; next = []; awake = []; places = []; output = 0 }

-- without what charts are offered
abbrev pub bare : Trail → Trail
bare t =
    record {
      low = [];
      needed = t.needed;
      barred = t.barred;
      next = t.next;
      awake = t.awake;
      places = t.places;
      output = t.output;
    }

-- two that differ at most in what charts from N on are offered, which a search over N charts does not read
pub record Matches (N : ℕ) (t t' : Trail) : Type 0 where
  pub low : (c : ℕ) → c < N → get_or t.low c 0 ≡ get_or t'.low c 0
  pub rest : bare t ≡ bare t'

-- ── where it stands ──

-- the charts below k are settled, and o comes out of them
unfoldable pub trail_in : List ℕ → List ℕ → ℕ → ℕ → Trail
trail_in w b k o =
    record {
      low = made most_charts (low_in w k);
      needed = made k (needed_in w);
      barred = made k (barred_in w);
      next = made k (next_in b);
      awake = made k (awake_in b);
      places = made k (place_in b);
      output = o;
    }

-- ── what stays ──

-- l' is as long as l, and the first n of both are the same
pub record Same (n : ℕ) (l l' : List ℕ) : Type 0 where
  pub long : length l' ≡ length l
  pub at : (i : ℕ) → i < n → get_or l' i 0 ≡ get_or l i 0

-- the beginning of k charts stays as it was
pub record Keeps (k : ℕ) (w b w' b' : List ℕ) : Type 0 where
  pub masks : Same (low_cell k most_charts) w w'
  pub small : Same (next_cell k) b b'

-- chart k has the action a: what each of the N charts is surely offered then stands behind what chart k needs and bars
pub record Lowers (m : List ℕ) (a N k : ℕ) (w w' : List ℕ) : Type 0 where
  pub kept : Same (low_cell (k + 1) 0) w w'
  pub rows : (c : ℕ) → c < N → low_in w' (k + 1) c ≡ low_in w k c ∪ a ∩ back_at m c k
