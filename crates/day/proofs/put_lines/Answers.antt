use mathlib.Core.Path.{◌≡◌, refl, sym, ap, ap₂, ◌∙◌}
use mathlib.Core.List.{List, ◌++◌, append-nil}
use Prim.Native.Nat.{ℕ, ◌+◌, ◌*◌, ◌-◌, ◌≤◌, ◌<◌}
use native.Mathlib.Nat.{sub_self}
use native.Mathlib.Omega.{arith}
use lib.ListN.{length, take, drop, length-take, length-drop, take-append-drop}
use lib.Seq.{drop-drop, length-take-le}
use Rattle.meaning.specs.Calls.{laid_over}
use Rattle.line.specs.Line.{line_of, lines_of}
use Rattle.running.specs.Run.Laws.{laid, laid-length, next_row, next-at}
use Rattle.day.specs.Day.Laws.{text_fits, text_before, text_behind, lines_next}
use Rattle.day.proofs.put_lines.Invariants.{So-far}
use Rattle.day.proofs.put_lines.Goals as goal
use Rattle.day.proofs.put_lines.Goals.{After-slice_known-in-loop-i-1, In-loop-i}

module _ (rows out₀ : List ℕ) (w n : ℕ) where
  module _ (out : List ℕ) (at end i : ℕ) (s : So-far rows out₀ w n out at end i) where
    module _ (l : i < n) (fits : end + 128 ≤ length out) (part : List ℕ) (kept : length part ≡ end + 128 - end) where
      -- one line more; its row was lent as the bytes from `at` up to at + w
      turn : (m len : ℕ) → m ≡ w → len ≡ length (line_of (i + 1) (take m (drop at rows)))
          → part ≡ laid_over (line_of (i + 1) (take m (drop at rows))) (take (end + 128 - end) (drop end out))
          → So-far rows out₀ w n (laid out part end (end + 128)) (at + w) (end + len) (i + 1)
      turn m len q k p =
          let text = line_of (i + 1) (take w (drop at rows)) in
          let t : len ≡ length text = rw q at k in
          let d : part ≡ laid_over text (take (end + 128 - end) (drop end out)) = rw q at p in
          record {
            counted = omega arith;
            place = omega (arith, next-at i w, s.place);
            room = omega (arith, s.room, text_fits out text part end (end + 128) (omega arith) fits d kept);
            long = laid-length out part end (end + 128) (omega arith) fits kept ∙ s.long;
            before = rw t (text_before out text part end (end + 128) (omega arith) fits d kept _ _
                (ap (λ (x : List ℕ). take end out ++ x) (sym (lines_next rows w n i at l)) ∙ s.before));
            behind = rw t (text_behind out text part end (end + 128) (omega arith) fits d kept)
                ∙ sym (drop-drop len end out) ∙ ap (drop len) s.behind ∙ drop-drop len end out₀;
          }

    all : n ≤ i → 128 * n ≤ length out₀
        → (end ≡ length (lines_of w 1 n rows)) × (out ≡ laid_over (lines_of w 1 n rows) out₀)
    unfolding lines_of
    all h k =
        let e : i ≡ n = omega (arith, s.counted) in
        let t : take end out ≡ lines_of w 1 n rows = sym (append-nil (take end out)) ∙ rw (e, sub_self) at s.before in
        let z : end ≡ length (lines_of w 1 n rows) =
        sym (length-take-le end out (omega (arith, s.room, s.long))) ∙ ap length t in (
          z,
          sym (take-append-drop end out) ∙ ap₂ (λ (x y : List ℕ). x ++ y) t (s.behind ∙ ap (λ (x : ℕ). drop x out₀) z),
        )

-- the next row lies within the rows, and a line has room
fits : (c : In-loop-i)
    → (c.loop-i.at + c.args.w
    ≤ length c.args.rows.now)
    × (c.loop-i.end + 128 ≤ length c.loop-i.out)
fits c = (
  omega (
    arith,
    c.loop-i.invariant.place,
    next_row c.loop-i.i c.args.n c.args.w (length c.args.rows.now) c.loop-i-test.true c.requires.2,
  ),
  omega (arith, c.loop-i.invariant.room, c.loop-i.invariant.long),
)

pub loop-i-init : goal.loop-i-init
loop-i-init c =
    let a = c.args in
    let e : a.n - 0 ≡ a.n = omega arith in
    record {
      counted = omega arith;
      place = omega arith;
      room = omega arith;
      long = refl;
      before = ap (λ (k : ℕ). lines_of a.w 1 k a.rows.now) e;
      behind = refl;
    }

pub line-end-requires : goal.line-end-requires
line-end-requires c =
    let h = fits (goal.at.line-end-requires c).In-loop-i in
    simp (length-take, length-drop) (omega arith, omega arith, omega arith)

-- the part that was lent keeps its length
kept : (c : After-slice_known-in-loop-i-1)
    → length c.line-end.new.out ≡ c.loop-i.end
    + 128 - c.loop-i.end
kept c =
    let h = fits (goal.at.After-slice_known-in-loop-i-1 c).In-loop-i in
    c.line-end.auto.out ∙ rw (length-take, length-drop) (omega arith)

next : (c : After-slice_known-in-loop-i-1)
    → let a = c.args in
    So-far a.rows.now a.out.now a.w a.n (laid c.loop-i.out c.line-end.new.out c.loop-i.end (c.loop-i.end + 128))
    (c.loop-i.at + a.w) (c.loop-i.end + c.line-end.result) (c.loop-i.i + 1)
next c =
    let a = c.args in
    let q : c.loop-i.at + a.w - c.loop-i.at ≡ a.w = omega arith in
    turn _ _ a.w _ c.loop-i.out c.loop-i.at c.loop-i.end c.loop-i.i c.loop-i.invariant c.loop-i-test.true (fits (goal.at.After-slice_known-in-loop-i-1 c).In-loop-i).1 _ (kept c) _ _ q
    c.line-end.ensures.0 c.line-end.ensures.1

pub overflow_add-e : goal.overflow_add-e
overflow_add-e c = omega (arith, (fits (goal.at.overflow_add-e c).In-loop-i).0)

pub overflow_add-room : goal.overflow_add-room
overflow_add-room c =
    omega (arith, (fits (goal.at.overflow_add-room c).In-loop-i).1, c.loop-i.invariant.long)

pub slice_bounds-line-end : goal.slice_bounds-line-end
slice_bounds-line-end c = (fits (goal.at.slice_bounds-line-end c).In-loop-i).0

pub slice_bounds-line-end-in-loop-i : goal.slice_bounds-line-end-in-loop-i
slice_bounds-line-end-in-loop-i c = (fits (goal.at.slice_bounds-line-end-in-loop-i c).In-loop-i).1

pub overflow_add-end : goal.overflow_add-end
overflow_add-end c =
    omega (arith, (next (goal.at.overflow_add-end c).After-slice_known-in-loop-i-1).room, c.loop-i-test.true, c.requires.3)

pub loop-i-preserved : goal.loop-i-preserved
loop-i-preserved c = next (goal.at.loop-i-preserved c).After-slice_known-in-loop-i-1

pub shape_of-out : goal.shape_of-out
shape_of-out c = c.loop-i.invariant.long

pub returns : goal.returns
returns c =
    all _ _ c.args.w _ c.loop-i.out c.loop-i.at c.loop-i.end c.loop-i.i c.loop-i.invariant c.loop-i-test.false c.requires.3
