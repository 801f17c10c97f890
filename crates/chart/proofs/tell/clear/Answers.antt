-- The result lies within the buffer.
use Rattle.std.proofs.Common.{Bool, true, false, cond, List, ℕ, ◌≤◌, length, sym, arith, length-append, length-take-le}
use Rattle.meaning.specs.Meaning.{same}
use Rattle.meaning.specs.Calls.{laid_over}
use Rattle.clearing.specs.Clearing.{clear_bytes, clear_refusal, clear_length, clear_out}
use Rattle.std.specs.Prelude.{Ok}
use Rattle.transforms.specs.Promises.{ClearSays}
use Rattle.chart.proofs.tell.clear.Goals as goal

-- no more is laid over a buffer than it has
fits : (f buffer : List ℕ) → clear_length f (length buffer) ≤ length (clear_out f buffer)
unfolding clear_length clear_out
fits f buffer = go (same (clear_refusal f (length buffer)) 0)
  where
    go : (t : Bool) → cond t (length (clear_bytes f)) 0 ≤ length (cond t (laid_over (clear_bytes f) buffer) buffer)
    go true = rw length-append (omega arith)
    go false = omega arith

within : (f buffer out : List ℕ) (k : ℕ) → ClearSays f buffer (Ok k) out → k ≤ length out
within f buffer out k p = rw (p.0.1, p.1) (fits f buffer)

pub slice_bounds-out-end : goal.slice_bounds-out-end
slice_bounds-out-end g c = within _ _ _ _ c.in-Ok.ensures

pub slice_bounds-is_saved-end : goal.slice_bounds-is_saved-end
slice_bounds-is_saved-end g c = sym (length-take-le _ _ (within _ _ _ _ c.in-Ok.ensures))

pub slice_bounds-out-end-then-is_saved : goal.slice_bounds-out-end-then-is_saved
slice_bounds-out-end-then-is_saved g c = within _ _ _ _ c.in-Ok.ensures

pub slice_bounds-lost_in_charts-end : goal.slice_bounds-lost_in_charts-end
slice_bounds-lost_in_charts-end g c = sym (length-take-le _ _ (within _ _ _ _ c.in-Ok.ensures))
