-- `clear::of_body` meets its contract: 45, or the cleared file over the front of the buffer.
use mathlib.Core.Path.{◌≡◌, ap, ◌∙◌}
use Prim.Native.Nat.{ℕ, ◌+◌}
use native.Mathlib.Omega.{arith}
use lib.ListN.{length}
use Rattle.meaning.specs.File.{File, file_at}
use Rattle.meaning.specs.Rewriting.{encode}
use Rattle.laying.specs.Trailer.{Small}
use Rattle.clearing.specs.Clearing.{clear}
use Rattle.clearing.proofs.LeftLaws.{shape_small}
use Rattle.transforms.specs.Clearing.Laws.{body-short, body-laid, cleared-size}
use Rattle.transforms.proofs.clear.of_body.Goals as goal
use Rattle.transforms.proofs.clear.of_body.Goals.{After-shape-m, After-size-size}

-- the file that was read
abbrev at : After-shape-m → File
at c = file_at c.args.n c.args.body.now

counts : (c : After-shape-m) → Small c.shape-m.result
counts c =
    shape_small c.args.n c.args.body.now _ c.shape-m.ensures c.requires.0 c.requires.1

size_is : (c : After-size-size) → c.size-size.result + 12 ≡ length (encode (clear (at (goal.at.After-size-size c).After-shape-m)))
size_is c = ap (λ (k : ℕ). k + 12) c.size-size.ensures ∙ cleared-size (at (goal.at.After-size-size c).After-shape-m) _ c.shape-m.ensures

pub returns-then-out-size : goal.returns-then-out-size
returns-then-out-size c =
    let l = size_is (goal.at.returns-then-out-size c).After-size-size in
    body-short (at (goal.at.returns-then-out-size c).After-shape-m) c.args.out.now (rw l at c.if-out-size.true)

pub lay-requires : goal.lay-requires
lay-requires c =
    (c.requires.0, c.requires.1, c.shape-m.ensures, rw (size_is (goal.at.lay-requires c).After-size-size) at c.if-out-size.false)

pub returns : goal.returns
returns c =
    body-laid (at (goal.at.returns c).After-shape-m) c.args.out.now _ _ (rw (size_is (goal.at.returns c).After-size-size) at c.if-out-size.false) (size_is (goal.at.returns c).After-size-size) c.lay.ensures

pub size-size-requires : goal.size-size-requires
size-size-requires c = counts (goal.at.size-size-requires c).After-shape-m

pub overflow_add-size : goal.overflow_add-size
overflow_add-size c =
    let e = c.size-size.ensures in let k = counts (goal.at.overflow_add-size c).After-shape-m in omega arith
