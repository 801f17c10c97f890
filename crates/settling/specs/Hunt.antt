-- What a search over tables finds: the outcomes of the choices that it does not drop, in the order of choices, folded
-- into the first of them and whether all agree with it.
use Rattle.std.specs.Prelude.{◌≡◌, Bool, true, false, ◌&&◌, ◌||◌, cond, List, [], ◌∷◌, ◌++◌, ℕ, zero, suc, ◌+◌, ◌-◌}
use Rattle.std.specs.Prelude.{◌*◌, ◌≤◌, ◌<◌, ltb, length, get_or, replicate}
use Rattle.signals.specs.Mask.{◌∪◌, ◌∩◌, within, apart}
use Rattle.layout.specs.Row.{RowAt}
use Rattle.meaning.specs.Numbers.{most_charts, no_step, no_place}
use Rattle.meaning.specs.Meaning.{same, Outcome, eq_list, Answer, refused, given}
use Rattle.meaning.specs.Calls.{made}
use Rattle.meaning.specs.Laws.Bools.{every}
use Rattle.cells.specs.Table.{needed_at, barred_at, action_at, back_at, ahead_at, up_at, to_at, count_at, master_at}
use Rattle.cells.specs.Table.{slave_state_at, state_at, place_at}
use Rattle.cells.specs.Trail.{next_in, place_in}
use Rattle.settling.specs.Trail.{Trail, Matches, trail_in, Keeps}
use Rattle.settling.specs.declared.Found.{Found}
pub mod Laws

-- A guard can still be met that needs n and bars r, where l is surely offered and h may be beside it: what it needs is
-- in what may be offered, and what it bars in nothing that surely is.
abbrev pub may : ℕ → ℕ → ℕ → ℕ → Bool
may n r l h = within n (l ∪ h) && apart r l

module _ (m s : List ℕ) where
  -- settled chart d is active
  abbrev pub is_awake : Trail → ℕ → Bool
  is_awake t d = same (get_or t.awake d 0) 1

  -- Chart k, the next to be settled, is active: it stands in no slave, or the slave's master is active and before or
  -- after at its state. A master has a lower number than the charts in its slaves.
  unfoldable pub wakes : Trail → ℕ → Bool
  wakes t k =
      cond (ltb (master_at s k) k)
      (is_awake t (master_at s k) && (same (state_at s (master_at s k)) (slave_state_at s k)
      || same (get_or t.next (master_at s k) 0) (slave_state_at s k)))
      true

  -- chart k takes its candidate v
  unfoldable pub taken : Trail → ℕ → ℕ → Trail
  taken t k v =
      record {
        low = made most_charts (λ c. get_or t.low c 0 ∪ action_at m k v ∩ back_at m c k);
        needed = t.needed ++ (needed_at m k v ∷ []);
        barred = t.barred ++ (barred_at m k v ∷ []);
        next = t.next ++ (to_at s k v ∷ []);
        awake = t.awake ++ (1 ∷ []);
        places = t.places ++ (place_at s k v ∷ []);
        output = t.output ∪ action_at m k v ∩ up_at m k;
      }

  -- chart k takes no transition: it needs, bars and puts out nothing, and keeps its state; whether it is active, and
  -- what stands for its place
  unfoldable pub idled : ℕ → ℕ → Trail → ℕ → Trail
  idled active place t k =
      record {
        low = t.low;
        needed = t.needed ++ (0 ∷ []);
        barred = t.barred ++ (0 ∷ []);
        next = t.next ++ (state_at s k ∷ []);
        awake = t.awake ++ (active ∷ []);
        places = t.places ++ (place ∷ []);
        output = t.output;
      }

  -- it is inactive
  abbrev pub rested : Trail → ℕ → Trail
  rested t k = idled 0 no_place t k

  -- settled chart d can still be met, charts from k on being left
  unfoldable pub passes_at : Trail → ℕ → ℕ → Bool
  passes_at t k d = may (get_or t.needed d 0) (get_or t.barred d 0) (get_or t.low d 0) (ahead_at m k d)

  -- every chart up to k can still be met
  unfoldable pub fine_at : Trail → ℕ → Bool
  fine_at t k = every (suc k) (passes_at t (suc k))

-- the outcome of N charts that are all settled, o coming out of the whole
abbrev pub outcome_in : List ℕ → ℕ → ℕ → Outcome
outcome_in b N o =
    record {
      output = o;
      next = made N (next_in b) ++ replicate (most_charts - N) 0;
      places = made N (place_in b) ++ replicate (most_charts - N) no_place;
    }

-- ── what is kept of the outcomes ──

abbrev pub pick_found : Bool → Found → Found → Found
pick_found true a b = a
pick_found false a b = b

-- the first outcome
abbrev pub first_found : Outcome → Found
first_found o = record { has = true; agree = true; output = o.output; next = o.next; places = o.places }

-- one outcome more
unfoldable pub settle_of : Outcome → Found → Found
settle_of o f =
    pick_found f.has
    (pick_found (same o.output f.output && eq_list o.next f.next) f
    (record { has = true; agree = false; output = f.output; next = f.next; places = f.places }))
    (first_found o)

unfoldable pub over : List Outcome → Found → Found
over [] f = f
over (o ∷ os) f = over os (settle_of o f)

-- nothing found yet
abbrev pub nothing : Found
nothing = record {
  has = false;
  agree = false;
  output = 0;
  next = replicate most_charts 0;
  places = replicate most_charts no_place;
}

-- what was found, as the step's answer
abbrev pub answer_in : Found → Answer
answer_in f = cond f.has (given f.output f.next f.agree) (refused no_step)

-- ── what is lent ──

-- What was found, where it stands: in bytes the next states, the places, 1 if something was found and 1 if all agree
-- with it; the output beside them.
abbrev pub places_cell : ℕ
places_cell = most_charts

abbrev pub has_cell : ℕ
has_cell = 2 * most_charts

abbrev pub agree_cell : ℕ
agree_cell = 2 * most_charts + 1

abbrev pub found_size : ℕ
found_size = 2 * most_charts + 2

abbrev pub found_in : List ℕ → List ℕ → Found
found_in f g =
    record {
      has = same (get_or f has_cell 0) 1;
      agree = same (get_or f agree_cell 0) 1;
      output = get_or g 0 0;
      next = made most_charts (λ c. get_or f (0 + c) 0);
      places = made most_charts (λ c. get_or f (places_cell + c) 0);
    }

-- the room that is lent for it
pub record Held (f g : List ℕ) : Type 0 where
  pub bytes : length f ≡ found_size
  pub output : length g ≡ 1

-- l' is l with the row r from `at` on
abbrev pub BytesPut : ℕ → List ℕ → List ℕ → List ℕ → Type 0
BytesPut at r l l' = RowAt at most_charts (λ c. get_or r c 0) l l'

-- chart k of N takes its candidate v: the beginning of k charts that stands in w and b stays, and in w' and b' stands
-- that of one chart more
pub record Takes (m s : List ℕ) (N k v : ℕ) (w b w' b' : List ℕ) : Type 0 where
  pub kept : Keeps k w b w' b'
  pub grown : (o : ℕ)
      → Matches N (trail_in w' b' (k + 1) (o ∪ action_at m k v ∩ up_at m k)) (taken m s (trail_in w b k o) k v)

-- the same where chart k takes no transition
pub record Idles (active place : ℕ) (s : List ℕ) (N k : ℕ) (w b w' b' : List ℕ) : Type 0 where
  pub kept : Keeps k w b w' b'
  pub grown : (m : List ℕ) (o : ℕ)
      → Matches N (trail_in w' b' (k + 1) o) (idled m s active place (trail_in w b k o) k)
