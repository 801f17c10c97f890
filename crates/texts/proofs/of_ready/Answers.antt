-- `of_ready` meets its contract: the file that the text means is delivered.
use mathlib.Core.Path.{◌≡◌, sym, ap, ◌∙◌, subst}
use mathlib.Core.List.{List, ◌++◌}
use Prim.Native.Nat.{ℕ, ◌≤◌}
use native.Mathlib.Omega.{arith}
use borrow.Author.Rules.{rules}
use lib.ListN.{length, take, drop}
use lib.Seq.{length-take-le, take-append_seam}
use Rattle.layout.specs.Put.{Put}
use Rattle.layout.specs.Put.Laws.{put-length, put-over}
use Rattle.reading.specs.Read.{read_file}
use Rattle.std.specs.Prelude.{Result}
use Rattle.texts.specs.declared.Refused.{Refused}
use Rattle.texts.specs.Promises.{Delivers}
use Rattle.texts.specs.Laws.Laying.{size, ready_says}
use Rattle.texts.proofs.of_ready.Goals as goal
use Rattle.texts.proofs.of_ready.Goals.{After-lay-n}

-- what is written at the front is within the room, and is the file
module _ (x l m : List ℕ) (n : ℕ) (p : Put l 0 x m n) (h : length x ≤ length l) where
  within : n ≤ length m
  within = omega (arith, p.place, put-length p)

  front : take n m ≡ x
  front =
      let o = put-over p h in
      let rest = drop (length x) l in
      ap (take n) o.1 ∙ ap (λ k. take k (x ++ rest)) o.0 ∙ take-append_seam x rest

delivered : (f g b : List ℕ) (r : Result ℕ Refused) (c : List ℕ) → f ≡ g → Delivers f b r c → Delivers g b r c
delivered f g b r c e h = subst (λ (x : List ℕ). Delivers x b r c) e h

-- the file has room
fits : (c : After-lay-n) → length (read_file c.args.text.now)
    ≤ length c.file_room-file.result
fits c = let s = size _ _ _ c.requires in
    omega (arith, s, c.file_room-file.ensures)

pub slice_bounds-file-end : goal.slice_bounds-file-end
slice_bounds-file-end c =
    within _ _ _ _ c.lay-n.ensures (fits (goal.at.slice_bounds-file-end c).After-lay-n)

pub slice_bounds-deliver-end : goal.slice_bounds-deliver-end
slice_bounds-deliver-end c =
    sym (length-take-le _ _ (within _ _ _ _ c.lay-n.ensures (fits (goal.at.slice_bounds-deliver-end c).After-lay-n)))

pub returns : goal.returns
returns c =
    ready_says _ _ _ c.requires c.args.out.now _ _
    (delivered _ _ c.args.out.now _ _ (front _ _ _ _ c.lay-n.ensures (fits (goal.at.returns c).After-lay-n)) c.deliver.ensures)

pub lay-n-requires : goal.lay-n-requires
lay-n-requires c = (search rules, search rules)
