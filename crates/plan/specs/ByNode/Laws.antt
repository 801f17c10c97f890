-- New masks are empty.
use Rattle.std.specs.Prelude.{ℕ, ◌<◌, ◌≡◌, get_or, replicate}
use Rattle.std.proofs.Math.Decide.{dec_lt}
use Rattle.std.proofs.Common.{arith}
use Rattle.std.proofs.lemmas.List.{length-replicate, get_or-replicate}
use Rattle.std.proofs.Math.ListN.{get_or-eq_default}
use Rattle.plan.specs.ByNode.{Blank}

pub blank-new : (n : ℕ) → Blank (replicate n 0)
blank-new n k = go (dec_lt k n)
  where
    go : Dec (k < n) → get_or {A = ℕ} (replicate n 0) k 0 ≡ 0
    go (yes p) = get_or-replicate n k 0 0 p
    go (no p) = let e = length-replicate {A = ℕ} n 0 in get_or-eq_default (replicate n 0) 0 (omega arith)
