-- `put_fields` meets its contract: the ten bytes in front of the configuration, then the configuration, are all of the
-- row. Assumes nothing.
use mathlib.Core.Path.{◌≡◌, ap, ◌∙◌}
use mathlib.Core.List.{List, [], ◌∷◌, ◌++◌, append_assoc, append-nil}
use Prim.Native.Nat.{ℕ, ◌+◌, ◌-◌, ◌≤◌}
use native.Mathlib.Omega.{arith}
use borrow.Author.Rules.{rules}
use lib.ListN.{length, get_or, take, drop, set, length-append, length-set, length-take, length-drop}
use lib.Seq.{sets, sets-eq, length-sets, drop-cons, set_at, take_at, drop_at, take_all, drop-length, length-take-le}
use Rattle.layout.specs.Le.{bytes}
use Rattle.layout.specs.Le.Laws.{length-bytes}
use Rattle.meaning.specs.Calls.{laid_over}
use Rattle.running.specs.Run.Laws.{laid}
use Rattle.running.proofs.put_fields.Goals as goal
use Rattle.running.proofs.put_fields.Goals.{After-slice_known-2-1, After-slice_known-3-1}

-- states laid over all that stands behind ten bytes
laid-states : (l front rest states v : List ℕ) (k : ℕ) → l ≡ front ++ rest → length front ≡ 10 → length rest ≡ k
    → length states ≡ k
    → v ≡ laid_over states (take (length l - 10) (drop 10 l)) → laid l v 10 (length l) ≡ front ++ states
laid-states l front rest states v k e h d s p =
    let t : take 10 l ≡ front = rw e (take_at front rest 10 h) in
    let u : drop 10 l ≡ rest = rw e (drop_at front rest 10 h) in
    let n : length l - 10 ≡ k = rw (e, length-append) (omega arith) in
    let z : drop k rest ≡ [] = rw (← d) (drop-length rest) in
    rw (p, t, u, n, take_all k rest (omega arith), s, z) (simp append-nil)

module _ (row : List ℕ) (x m r k : ℕ) (wide : length row ≡ 10 + k) (l : List ℕ) (e : l ≡ sets row 0 (bytes 8 x)) where
  begun-length : length (set (set l 8 m) 9 r) ≡ 10 + k
  begun-length = simp (length-set, e, length-sets) wide

  output : l ≡ bytes 8 x ++ drop 8 row
  output =
      e ∙ sets-eq (bytes 8 x) row 0 (omega (arith, length-bytes 8 x))
      ∙ ap (λ n. bytes 8 x ++ drop n row) (let q : 0 + length (bytes 8 x) ≡ 8 = omega (arith, length-bytes 8 x) in q)

  marked : set l 8 m ≡ (bytes 8 x ++ (m ∷ [])) ++ drop 9 row
  marked = rw (
    output,
    drop-cons row 8 0 (omega arith),
    set_at (bytes 8 x) (get_or row 8 0) (drop 9 row) m 8 (length-bytes 8 x),
    append_assoc,
  )

  ten : length (bytes 8 x ++ (m ∷ r ∷ [])) ≡ 10
  ten = rw (length-append, length-bytes 8 x)

  begun : set (set l 8 m) 9 r ≡ (bytes 8 x ++ (m ∷ r ∷ [])) ++ drop 10 row
  begun =
      rw (
        marked,
        drop-cons row 9 0 (omega arith),
        set_at (bytes 8 x ++ (m ∷ [])) (get_or row 9 0) (drop 10 row) r 9 (rw (length-append, length-bytes 8 x)),
      )
      (simp append_assoc)

  pub whole : (s v : List ℕ) → k ≤ length s
      → v ≡ laid_over (take k s) (take (length (set (set l 8 m) 9 r) - 10) (drop 10 (set (set l 8 m) 9 r)))
      → laid (set (set l 8 m) 9 r) v 10 (length (set (set l 8 m) 9 r)) ≡ bytes 8 x ++ (m ∷ r ∷ take k s)
  whole s v h p =
      laid-states (set (set l 8 m) 9 r) (bytes 8 x ++ (m ∷ r ∷ [])) (drop 10 row) (take k s) v k begun ten
      (rw length-drop (omega arith)) (length-take-le k s h) p
      ∙ append_assoc (bytes 8 x) (m ∷ r ∷ []) (take k s)

-- the row after its ten first bytes
long : (c : After-slice_known-2-1)
    → length (set (set c.put64.new.s 8 c.args.mark) 9
    c.args.refusal)
    ≡ 10 + c.args.charts
long c =
    begun-length c.args.row.now c.args.output _ _ _ c.requires.1 _ c.put64.ensures

pub put_states-requires : goal.put_states-requires
put_states-requires c =
    let h = long (goal.at.put_states-requires c).After-slice_known-2-1 in
    (c.requires.0, rw (length-take, length-drop) (omega arith))

pub returns : goal.returns
returns c = whole _ _ _ _ _ c.requires.1 _ c.put64.ensures _ _ (search rules) c.put_states.ensures

pub shape_of-row : goal.shape_of-row
shape_of-row c =
    ap length (returns (goal.at.shape_of-row c).After-slice_known-3-1) ∙ rw (
      length-append,
      length-bytes 8 c.args.output,
      length-take-le c.args.charts c.args.states (search rules),
    ) (omega (arith, c.requires.1))

pub bounds-row-9 : goal.bounds-row-9
bounds-row-9 c =
    let h = simp length-set at (long (goal.at.bounds-row-9 c).After-slice_known-2-1) in simp length-set (omega arith)

pub slice_bounds-put_states-count : goal.slice_bounds-put_states-count
slice_bounds-put_states-count c =
    omega (arith, long (goal.at.slice_bounds-put_states-count c).After-slice_known-2-1)

pub slice_bounds-put_states-start : goal.slice_bounds-put_states-start
slice_bounds-put_states-start c =
    omega (arith, long (goal.at.slice_bounds-put_states-start c).After-slice_known-2-1)
