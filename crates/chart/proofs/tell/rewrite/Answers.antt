-- The result lies within the buffer.
use Rattle.std.proofs.Common.{Bool, true, false, cond, List, ℕ, ◌≤◌, length, sym, arith, length-append, length-take-le}
use Rattle.meaning.specs.Meaning.{same}
use Rattle.meaning.specs.Calls.{laid_over}
use Rattle.meaning.specs.Rewriting.{rewrite_bytes, rewrite_refusal, rewrite_length, rewrite_out}
use Rattle.std.specs.Prelude.{Ok}
use Rattle.transforms.specs.Promises.{RewritingSays}
use Rattle.chart.proofs.tell.rewrite.Goals as goal

-- no more is laid over a buffer than it has
fits : (f buffer : List ℕ) → rewrite_length f (length buffer) ≤ length (rewrite_out f buffer)
unfolding rewrite_length rewrite_out
fits f buffer = go (same (rewrite_refusal f (length buffer)) 0)
  where
    go : (t : Bool) → cond t (length (rewrite_bytes f)) 0 ≤ length (cond t (laid_over (rewrite_bytes f) buffer) buffer)
    go true = rw length-append (omega arith)
    go false = omega arith

within : (f buffer out : List ℕ) (k : ℕ) → RewritingSays f buffer (Ok k) out → k ≤ length out
within f buffer out k p = rw (p.0.1, p.1) (fits f buffer)

pub slice_bounds-out-end : goal.slice_bounds-out-end
slice_bounds-out-end g c = within _ _ _ _ c.in-Ok.ensures

pub slice_bounds-save-end : goal.slice_bounds-save-end
slice_bounds-save-end g c = sym (length-take-le _ _ (within _ _ _ _ c.in-Ok.ensures))
