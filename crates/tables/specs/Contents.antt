-- What the tables of a search hold for a file, a configuration and an input: the wiring, the present states, and the
-- candidates.
use Rattle.std.specs.Prelude.{◌≡◌, Bool, true, false, ◌&&◌, List, ◌≢◌, ℕ, zero, suc, ◌-◌, ◌≤◌, ◌<◌, length, get_or}
use Rattle.std.specs.Prelude.{take}
use Rattle.std.proofs.Math.Option.{Option, none, some}
use Rattle.signals.specs.Mask.{◌∪◌, ◌∩◌}
use Rattle.layout.specs.declared.record.Transition.{Transition}
use Rattle.meaning.specs.Numbers.{most_charts}
use Rattle.meaning.specs.Meaning.{Set, Chart, Tree, no_move, takes, nth, last_place, untriggered, Answer, refused}
use Rattle.meaning.specs.Meaning.{given}
use Rattle.meaning.specs.Rewriting.{union_up_to}
use Rattle.wiring.specs.Reach.{down, up, back}
use Rattle.wiring.specs.Sure.{surely}
use Rattle.wiring.specs.Dropped.{ahead}
use Rattle.cells.specs.Table.{needed_at, barred_at, action_at, back_at, ahead_at, up_at, to_at, count_at, master_at}
use Rattle.cells.specs.Table.{slave_state_at, state_at, place_at}
use Rattle.settling.specs.Hunt.{answer_in}
use Rattle.settling.specs.Calm.{stays_at, calm}
use Rattle.settling.specs.declared.Found.{Found}

module _ (m s : List ℕ) where
  -- candidate v of chart c is a transition, as far as a step sees it
  pub record Is (c v : ℕ) (t : Transition) : Type 0 where
    pub needed : needed_at m c v ≡ t.needed
    pub barred : barred_at m c v ≡ t.barred
    pub action : action_at m c v ≡ t.action
    pub to : to_at s c v ≡ t.to

  -- The first p of chart c's transitions ts give n candidates, q being the chart's present state: a transition is from
  -- another state, or is not kept (its place is one more), or is an earlier candidate again, or is a candidate of its
  -- own, which has its place.
  pub data Listed (c : ℕ) (ts : List Transition) (q : ℕ) (keep : ℕ → Bool) : ℕ → ℕ → Type 0 where
    start : Listed c ts q keep zero zero
    other : {p n : ℕ} → Listed c ts q keep p n → (t : Transition) → nth no_move ts p ≡ takes t → t.from ≢ q
        → Listed c ts q keep (suc p) n
    fails : {p n : ℕ} → Listed c ts q keep p n → keep (suc p) ≡ false → Listed c ts q keep (suc p) n
    again : {p n : ℕ} → Listed c ts q keep p n → (t : Transition) → nth no_move ts p ≡ takes t → (v : ℕ) → v < n
        → Is c v t → Listed c ts q keep (suc p) n
    fresh : {p n : ℕ} → Listed c ts q keep p n → (t : Transition) → nth no_move ts p ≡ takes t → t.from ≡ q
        → keep (suc p) ≡ true → Is c n t
        → place_at s c n ≡ p → Listed c ts q keep (suc p) (suc n)

  -- what chart c's candidates put out, all together
  unfoldable pub may_at : ℕ → Set
  may_at c = union_up_to (count_at s c) (action_at m c)

module _ (E : ℕ → Chart) (state : ℕ → ℕ) (cfg : ℕ → ℕ) (N : ℕ) (enc : ℕ → Option ℕ) (sc : ℕ → ℕ) (t : Tree) where
  -- the wiring of the tree t of N charts; the masters and states of the nearest enclosing slaves; the present states
  pub record Rows (m s : List ℕ) : Type 0 where
    pub few : N ≤ most_charts
    pub back_at_lem : (c d : ℕ) → c < N → d < N → back_at m c d ≡ back E t c d
    pub up_at_lem : (d : ℕ) → d < N → up_at m d ≡ up t d
    pub outside : (c : ℕ) → c < N → enc c ≡ none → most_charts ≤ master_at s c
    pub inside : (c i : ℕ) → c < N → enc c ≡ some i → (master_at s c ≡ sc i) × (slave_state_at s c ≡ state i)
    pub state_at_lem : (c : ℕ) → c < N → state_at s c ≡ cfg c

module _ (E : ℕ → Chart) (cfg : ℕ → ℕ) (N : ℕ) (t : Tree) where
  -- the candidates, and what those of later charts put out
  pub record Candidates (keep : ℕ → ℕ → Bool) (m s : List ℕ) : Type 0 where
    pub listed : (c : ℕ) → c < N
        → Listed m s c (E c).transitions (cfg c) (keep c) (length (E c).transitions) (count_at s c)
    pub ahead-at : (k c : ℕ) → k ≤ N → c < N → ahead_at m k c ≡ ahead (N - k) k (λ e. may_at m s e ∩ back E t c e)

-- charts that may stay: whose staying is open and kept, and their triggers
module _ (E : ℕ → Chart) (cfg : ℕ → ℕ) (N : ℕ) where
  pub record Stayers (keep : ℕ → ℕ → Bool) (g y : List ℕ) : Type 0 where
    pub open_at : (c : ℕ) → c < N → stays_at g y c ≡ ((E c).stays && keep c (last_place (E c)))
    pub calm-at : (c : ℕ) → c < N → stays_at g y c ≡ true → (lo hi : Set)
        → calm g y c lo hi ≡ untriggered (E c).transitions (cfg c) lo hi

module _ (E : ℕ → Chart) (cfg : ℕ → ℕ) (N : ℕ) (enc : ℕ → Option ℕ) (t : Tree) (inp : Set) where
  -- what each chart is surely offered before any is settled: of the input, and of what charts surely put out
  abbrev pub Lows : List ℕ → Type 0
  Lows lows = (c : ℕ) → c < N → get_or lows c 0
      ≡ inp ∩ down t c ∪ union_up_to N (λ e. surely enc E cfg e ∩ back E t c e)

-- the answer with the states of N charts
unfoldable pub trimmed : ℕ → Answer → Answer
trimmed N (refused r) = refused r
trimmed N (given o n m) = given o (take N n) m

-- what was found, as the answer of a step of N charts
abbrev pub answer_of : ℕ → Found → Answer
answer_of N f = trimmed N (answer_in f)
