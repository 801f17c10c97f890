-- `settling::wakes` meets its contract: each way out is decided by the tests that led there.
use mathlib.Core.Path.{◌≡◌, sym, ap, ap₂, ◌∙◌}
use mathlib.Core.Bool.{true, false, ◌&&◌, ◌||◌}
use mathlib.Core.List.{List}
use borrow.Author.Tests.{lt-ltb, le-ltb, eq-eqb, ne_eqb}
use Prim.Native.Nat.{ℕ, ◌<◌, ◌≤◌}
use Rattle.meaning.specs.Meaning.{same}
use Rattle.cells.specs.Table.{master_at, slave_state_at, state_at}
use Rattle.cells.specs.Trail.{next_in, awake_in}
use Rattle.settling.specs.Trail.{trail_in}
use Rattle.meaning.specs.Calls.Laws.{get_or-made}
use Rattle.settling.specs.Hunt.{wakes}
use Rattle.settling.proofs.wakes.Goals as goal
use Rattle.settling.proofs.wakes.Goals.{After-master-master, After-next-after}

module _ (m s w b : List ℕ) (k o : ℕ) where
  outside : k ≤ master_at s k → true ≡ wakes m s (trail_in w b k o) k
  unfolding wakes
  outside h = rw (le-ltb (master_at s k) k h)

  module _ (h : master_at s k < k) where
    inside : wakes m s (trail_in w b k o) k
        ≡ (same (awake_in b (master_at s k)) 1
        && (same (state_at s (master_at s k)) (slave_state_at s k) || same (next_in b (master_at s k)) (slave_state_at s k)))
    unfolding wakes trail_in
    inside = rw
        (lt-ltb (master_at s k) k h, get_or-made k (awake_in b) (master_at s k) h, get_or-made k (next_in b) (master_at s k) h)

    asleep : (awake_in b (master_at s k) ≡ 1 → ⊥) → false ≡ wakes m s (trail_in w b k o) k
    unfolding same
    asleep e = rw (inside, ne_eqb _ _ e)

    before : awake_in b (master_at s k) ≡ 1 → state_at s (master_at s k) ≡ slave_state_at s k
        → true ≡ wakes m s (trail_in w b k o) k
    unfolding same
    before e f = rw (inside, eq-eqb _ _ e, eq-eqb _ _ f)

    after : awake_in b (master_at s k) ≡ 1 → (state_at s (master_at s k) ≡ slave_state_at s k → ⊥) →
        same (next_in b (master_at s k)) (slave_state_at s k) ≡ wakes m s (trail_in w b k o) k
    unfolding same
    after e f = rw (inside, eq-eqb _ _ e, ne_eqb _ _ f)

-- what was read is what stands there
master-is : (c : After-master-master)
    → c.master-master.result ≡ master_at c.args.small.now c.args.k
master-is c = c.master-master.ensures

pub returns-then-awake-ne1 : goal.returns-then-awake-ne1
returns-then-awake-ne1 c m w o =
    let z = master-is (goal.at.returns-then-awake-ne1 c).After-master-master in
    asleep m _ w _ _ o (rw z at c.if-master-k.true)
    (λ e. c.if-awake-ne1.true (c.awake.ensures ∙ ap (awake_in c.args.moves.now) z ∙ e))

-- the master is active, and where it was and is
module _ (c : After-next-after) where
  abbrev tested : After-master-master
  tested = (goal.at.After-next-after c).After-master-master

  abbrev small : List ℕ
  small = tested.before.before.args.small.now

  abbrev moves : List ℕ
  moves = tested.before.before.args.moves.now

  abbrev chart : ℕ
  chart = tested.before.before.args.k

  lower : master_at small chart < chart
  lower = rw (master-is tested) at c.if-master-k.true

  active : awake_in moves (master_at small chart) ≡ 1
  active = ap (awake_in moves) (sym (master-is tested)) ∙ sym c.awake.ensures
      ∙ c.if-awake-ne1.false

  was : c.state-before.result ≡ state_at small (master_at small chart)
  was = c.state-before.ensures ∙ ap (state_at small) (master-is tested)

  is : c.next-after.result ≡ next_in moves (master_at small chart)
  is = c.next-after.ensures ∙ ap (next_in moves) (master-is tested)

pub returns-then-before-state : goal.returns-then-before-state
returns-then-before-state c m w o =
    before m _ w _ _ o (lower (goal.at.returns-then-before-state c).After-next-after) (active (goal.at.returns-then-before-state c).After-next-after) (sym (was (goal.at.returns-then-before-state c).After-next-after) ∙ c.if-before-state.true ∙ c.slave_state-state.ensures)

pub returns-then-master-k : goal.returns-then-master-k
unfolding same
returns-then-master-k c m w o =
    let e = c.slave_state-state.ensures in
    ap₂ same (is (goal.at.returns-then-master-k c).After-next-after) e ∙ after m _ w _ _ o (lower (goal.at.returns-then-master-k c).After-next-after) (active (goal.at.returns-then-master-k c).After-next-after) (λ z. c.if-before-state.false (was (goal.at.returns-then-master-k c).After-next-after ∙ z ∙ sym e))

pub returns : goal.returns
returns c m w o =
    outside m _ w _ _ o (rw (master-is (goal.at.returns c).After-master-master) at c.if-master-k.false)
