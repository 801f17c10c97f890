-- `book::moved` is safe and ends.
use Rattle.std.proofs.Common.{◌≡◌, ℕ, ◌+◌, ◌*◌, ◌<◌, ◌≤◌, mul-le-mul, arith}
use Rattle.post.proofs.book.moved.Goals as goal

-- the last of 64 rows ends in the buffer
room : (k charts n : ℕ) → k < 64 → charts ≤ 16 → n ≡ 1920 → k * (14 + charts) + (14 + charts) ≤ n
room k charts n h g e =
    let l : k * (14 + charts) ≤ 63 * 30 = mul-le-mul {n₂ = 63} {m₂ = 30} (omega (arith, h)) (omega (arith, g)) in
    omega (arith, l, g, e)

pub post_one-requires : goal.post_one-requires
post_one-requires c =
    let p = c.requires in
    (p.0, p.1, c.if-c-gt-WIDTH.false, c.if-c-ge-LAST_ROW.false, room _ _ _ p.0 p.1 p.2)
