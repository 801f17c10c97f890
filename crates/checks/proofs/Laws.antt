-- Places that rise by a record's size. Assumes nothing.
use mathlib.Core.Path.{◌≡◌}
use Prim.Native.Nat.{ℕ, ◌+◌, ◌*◌, ◌≤◌, ◌<◌}
use native.Mathlib.Nat.{mul-suc, mul-le-mul_left}
use native.Mathlib.Numerals.{add-one}

pub next-at : (w i : ℕ) → w * (i + 1) ≡ w * i + w
next-at w i = rw (add-one, mul-suc)

pub next_in_lem : (w i n : ℕ) → i < n → w * i + w ≤ w * n
next_in_lem w i n h = rw mul-suc at (mul-le-mul_left w h)
