-- Which charts are active in a step (RULES 5.3), told by the states before and after it, and what a part puts out in it
-- (RULES 5.4), told by its places. Laws over a tree are in Active/Laws.antt, those over files in Laws/Activity.antt.
use Rattle.std.specs.Prelude.{Bool, true, false, ◌&&◌, ◌||◌, cond, List, ℕ, get_or}
use Rattle.meaning.specs.Numbers.{no_place}
use Rattle.meaning.specs.Meaning.{Set, same, Tree, Slaves, leaf, comp, hide, dec, nil, snoc, no_move, nth, out}
use Rattle.meaning.specs.File.{File, whole_of, Has}

-- state: of each slave, its state; before and next: of each chart, its state before and after the step
module _ (state before next : ℕ → ℕ) where
  unfoldable mutual
    -- chart c is in a part; whether it is active, by whether the part is (RULES 5.3)
    pub active : Tree → Bool → ℕ → Bool
    active (leaf d) a c = a
    -- both parts, if the node is
    active (comp p q x) a c = cond (Has p c) (active p a c) (active q a c)
    -- the part, if the node is
    active (hide p x y) a c = active p a c
    -- the master, if the node is; a slave, if the master is, in the slave's state before the step or after it
    active (dec d ss) a c = cond (same c d) a (actives ss (λ q. a && (same (before d) q || same (next d) q)) c)

    -- the same of slaves, by whether one is active by its state
    pub actives : Slaves → (ℕ → Bool) → ℕ → Bool
    actives nil f c = false
    actives (snoc ss i t) f c = cond (Has t c) (active t (f (state i)) c) (actives ss f c)

-- in a step of a file that leads from config to next
module _ (F : File) (config next : List ℕ) where
  -- chart c is active; the whole always is (RULES 5.3)
  unfoldable pub active_in : ℕ → Bool
  active_in c = active F.state (λ d. get_or config d 0) (λ d. get_or next d 0) (whole_of F) true c

  -- slave i is active (RULES 5.3)
  unfoldable pub slave_active : ℕ → Bool
  slave_active i =
      active_in (F.master i)
      && (same (get_or config (F.master i) 0) (F.state i) || same (get_or next (F.master i) 0) (F.state i))

-- what a part puts out in a step with these places (RULES 5.4, 5.11): a place below 254 is a transition of the chart's
-- list, and 254 and 255 are past its end
unfoldable pub put_out : File → List ℕ → Tree → Set
put_out F places t = out (λ c. nth no_move (F.chart c).transitions (get_or places c no_place)) t
