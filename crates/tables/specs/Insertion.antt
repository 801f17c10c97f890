-- How candidates get into the tables of a search: each transition from a chart's present state, unless it fails alone
-- or is there already; then what later charts may put out. Laws are in Insertion/Laws.antt.
use Rattle.std.specs.Prelude.{◌≡◌, Bool, true, false, ◌&&◌, not, cond, List, ◌≢◌, ℕ, zero, suc, ◌+◌, ◌*◌, ◌-◌, ◌≤◌, ◌<◌}
use Rattle.std.specs.Prelude.{ltb, length, get_or, set}
use Rattle.signals.specs.Mask.{◌∪◌, ◌∩◌, bit}
use Rattle.layout.specs.Row.{RowAt}
use Rattle.layout.specs.declared.record.Transition.{Transition}
use Rattle.meaning.specs.Numbers.{most_charts, most_from_state}
use Rattle.meaning.specs.Sums.{any_up_to}
use Rattle.meaning.specs.Meaning.{Set, same, Chart, Move, no_move, takes, stay, met?, pick, action_of}
use Rattle.meaning.specs.Rewriting.{union_up_to}
use Rattle.wiring.specs.Dropped.{ahead, test}
use Rattle.wiring.specs.Sure.{sure_of, sure_in}
use Rattle.wiring.specs.Pruning.{may_of}
use Rattle.cells.specs.Table.{SameWiring, SameLists, block, needed_at, barred_at, action_at, back_at, ahead_at}
use Rattle.cells.specs.Table.{put_masks}
use Rattle.cells.specs.Table.{place_from, count_cell, small_size, to_at, count_at, master_at, state_at, put_small}
use Rattle.settling.specs.Calm.{stays_at}
use Rattle.tables.specs.Contents.{Listed, may_at}
pub mod Laws

-- ── a move tested alone ──

-- it may begin an open choice: a mask has the states that its chart must not go to; a chart that rests goes nowhere
unfoldable pub opens_by : Set → ℕ → Move → Bool
opens_by shut q no_move = true
opens_by shut q (takes t) = not (bit shut t.to)
opens_by shut q stay = not (bit shut q)

-- low: what its chart is surely offered; own: what of the chart's own action gets back to it; others: all that the
-- others might put in; shut: the states that its chart must not go to
unfoldable pub kept_by : Set → Set → Set → Set → Chart → ℕ → Move → Bool
kept_by low own others shut K q M =
    test K q M (low ∪ action_of M ∩ own) (low ∪ action_of M ∩ own ∪ others) && opens_by shut q M

-- a transition
unfoldable pub lasts_by : Set → Set → Set → Set → Transition → Bool
lasts_by low own others shut t =
    met? t (low ∪ t.action ∩ own ∪ others) (low ∪ t.action ∩ own) && not (bit shut t.to)

-- what the charts other than c might put in for it, each of its `may`
unfoldable pub others_at : List ℕ → ℕ → (ℕ → Set) → ℕ → Set
others_at m N may c = union_up_to N (λ e. cond (same e c) 0 (may e) ∩ back_at m c e)

-- what chart e surely puts out: u, if it stands in no slave; of one that may stay, u is nothing (`sure_in`)
unfoldable pub sure_at : List ℕ → ℕ → Set → Set
sure_at s e u = cond (ltb (master_at s e) most_charts) 0 u

-- ── one transition more ──

-- the tables while chart c is filled, with how many candidates it has so far
pub record Filling : Type 0 where
  pub masks : List ℕ
  pub small : List ℕ
  pub count : ℕ

-- candidate v of chart c is the transition, as a test
unfoldable pub is_at : List ℕ → List ℕ → ℕ → ℕ → Transition → Bool
is_at m s c v t = same (needed_at m c v) t.needed
    && (same (barred_at m c v) t.barred && (same (action_at m c v) t.action && same (to_at s c v) t.to))

unfoldable pub is_again : List ℕ → List ℕ → ℕ → ℕ → Transition → Bool
is_again m s c n t = any_up_to n (λ v. is_at m s c v t)

abbrev pub put : ℕ → ℕ → Transition → Filling → Filling
put c p t f = record {
  masks = put_masks f.masks c f.count t;
  small = put_small f.small c f.count p t;
  count = f.count + 1;
}

abbrev pub pick_filling : Bool → Filling → Filling → Filling
pick_filling true a b = a
pick_filling false a b = b

-- chart c is at q
module _ (c q : ℕ) (low own others shut : Set) where
  -- the transition at place p
  unfoldable pub considered : ℕ → Transition → Filling → Filling
  considered p t f =
      pick_filling (same t.from q)
      (pick_filling (lasts_by low own others shut t)
      (pick_filling (is_again f.masks f.small c f.count t) f (put c p t f)) f)
      f

  -- the first p transitions of g
  unfoldable pub listing : (ℕ → Transition) → ℕ → Filling → Filling
  listing g zero f = f
  listing g (suc p) f = considered p (g p) (listing g p f)

-- ── all charts ──

-- of the places that are kept those whose moves may begin an open choice, by the states that each chart must not go to
abbrev pub opening : (ℕ → Chart) → (ℕ → ℕ) → List ℕ → (ℕ → ℕ → Bool) → ℕ → ℕ → Bool
opening E cfg shuts keep c v = keep c v && opens_by (get_or shuts c 0) (cfg c) (pick (E c) v)

module _ (E : ℕ → Chart) (cfg : ℕ → ℕ) where
  -- lows has what base has, and what the first k charts surely put in
  abbrev pub Raised : ℕ → List ℕ → List ℕ → List ℕ → List ℕ → Type 0
  Raised k m s base lows = (c : ℕ) → c < most_charts → get_or lows c 0 ≡ get_or base c 0
      ∪ union_up_to k (λ e. sure_at s e (sure_in (E e).stays (sure_of (E e).transitions (cfg e))) ∩ back_at m c e)

module _ (E : ℕ → Chart) (cfg : ℕ → ℕ) (N : ℕ) (lows shuts : List ℕ) where
  -- the move of chart c at place v is kept
  unfoldable pub keep_at : List ℕ → ℕ → ℕ → Bool
  keep_at m c v =
      kept_by (get_or lows c 0) (back_at m c c) (others_at m N (λ e. may_of (E e).transitions (cfg e)) c)
      (get_or shuts c 0)
      (E c) (cfg c)
      (pick (E c) v)

  -- the first k charts have their candidates; of the tables m₀ and s₀ the rest is as it was
  pub record Until (m₀ s₀ : List ℕ) (k : ℕ) (m s : List ℕ) : Type 0 where
    pub listed : (c : ℕ) → c < k
        → Listed m s c (E c).transitions (cfg c) (keep_at m₀ c) (length (E c).transitions) (count_at s c)
    pub counts : (c : ℕ) → c < k → count_at s c ≤ most_from_state
    pub wires : SameWiring m₀ m
    pub rest : (i : ℕ) → count_cell k ≤ i → i < place_from → get_or s i 0 ≡ get_or s₀ i 0
    pub masks : length m ≡ length m₀
    pub small : length s ≡ small_size

  -- all of it
  pub record Chosen (m s : List ℕ) : Type 0 where
    pub listed : (c : ℕ) → c < N
        → Listed m s c (E c).transitions (cfg c) (keep_at m c) (length (E c).transitions) (count_at s c)
    pub counts : (c : ℕ) → c < N → count_at s c ≤ most_from_state
    pub ahead-at : (k c : ℕ) → k ≤ N → c < N → ahead_at m k c ≡ ahead (N - k) k (λ e. may_at m s e ∩ back_at m c e)
    pub state_at_lem : (c : ℕ) → c < N → state_at s c ≡ cfg c

-- ── what later charts may put out ──

-- row k of the first n charts is w, the rest as it was
abbrev pub AheadRow : ℕ → (ℕ → Set) → ℕ → List ℕ → List ℕ → Type 0
AheadRow k w n m₀ m = RowAt (block * k) n w m₀ m

-- row k from row k + 1: chart k's candidates put out u
unfoldable pub ahead_by : List ℕ → ℕ → Set → ℕ → Set
ahead_by m k u c = u ∩ back_at m c k ∪ ahead_at m (suc k) c

-- the rows from k on
pub record AheadFrom (N : ℕ) (s : List ℕ) (k : ℕ) (m₀ m : List ℕ) : Type 0 where
  pub rows : (j c : ℕ) → k ≤ j → j ≤ N → c < N → ahead_at m j c ≡ ahead (N - j) j (λ e. may_at m₀ s e ∩ back_at m₀ c e)
  pub wires : SameWiring m₀ m
  pub lists : SameLists m₀ m
  pub masks : length m ≡ length m₀

-- ── no search is needed ──

-- a chart that stands in no slave has no candidate, and cannot stay
unfoldable pub stuck : List ℕ → List ℕ → List ℕ → ℕ → Bool
stuck s g y N = any_up_to N (λ c. same (count_at s c) 0
    && (not (ltb (master_at s c) most_charts) && not (stays_at g y c)))
