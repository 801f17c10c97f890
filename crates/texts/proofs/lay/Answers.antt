-- `lay` meets its contract: heads, transitions, slaves, nodes and the trailer, one behind another, are the file that
-- the text means.
use mathlib.Core.Path.{sym}
use Prim.Native.Nat.{◌+◌, ◌≤◌}
use native.Mathlib.Omega.{arith}
use lib.ListN.{length}
use lib.Seq.{length-take-le}
use Rattle.texts.specs.Laws.Laying.{most_file, small, tree_within, room_tree_there, room_end, put-file, end-small}
use Rattle.texts.proofs.lay.Goals as goal
use Rattle.texts.proofs.lay.Goals.{After-heads-behind_heads, After-lay-c, After-put_word-end, After-put_sorted-behind_slaves, After-slave_room-list, After-transitions-behind_lines, Start}

-- the calls before the slaves are put down, and the start
abbrev at-transitions : After-put_sorted-behind_slaves → After-transitions-behind_lines
at-transitions c = (goal.at.After-put_sorted-behind_slaves c).After-transitions-behind_lines

abbrev at-heads : After-put_sorted-behind_slaves → After-heads-behind_heads
at-heads c = (goal.at.After-put_sorted-behind_slaves c).After-heads-behind_heads

abbrev at-walk : After-put_sorted-behind_slaves → After-lay-c
at-walk c = (goal.at.After-put_sorted-behind_slaves c).After-lay-c

abbrev at-slave-room : After-put_sorted-behind_slaves → After-slave_room-list
at-slave-room c = (goal.at.After-put_sorted-behind_slaves c).After-slave_room-list

abbrev at-start : After-put_sorted-behind_slaves → Start
at-start c =
    (goal.at.After-put_sorted-behind_slaves c).Start

abbrev at-sorted : After-put_word-end → After-put_sorted-behind_slaves
at-sorted c = (goal.at.After-put_word-end c).After-put_sorted-behind_slaves

tree-fits : (c : After-put_sorted-behind_slaves) → (at-walk c).lay-c.result.at ≤ length (at-walk c).lay-c.new.out
tree-fits c =
    let l = at-walk c in
    let r = at-slave-room c in
    tree_within _ _ _ (at-start c).requires.0 l.lay-c.ensures (sym r.node_room-tree.ensures)
    (sym r.slave_room-list.ensures)

pub slice_bounds-tree-end : goal.slice_bounds-tree-end
slice_bounds-tree-end c = tree-fits (goal.at.slice_bounds-tree-end c).After-put_sorted-behind_slaves

pub slice_bounds-put_word-end : goal.slice_bounds-put_word-end
slice_bounds-put_word-end c =
    sym (length-take-le _ _ (tree-fits (goal.at.slice_bounds-put_word-end c).After-put_sorted-behind_slaves))

pub put_word-end-requires : goal.put_word-end-requires
put_word-end-requires c =
    let l = at-walk (goal.at.put_word-end-requires c).After-put_sorted-behind_slaves in
    let r = at-slave-room (goal.at.put_word-end-requires c).After-put_sorted-behind_slaves in
    let z = (at-start (goal.at.put_word-end-requires c).After-put_sorted-behind_slaves).requires in
    room_tree_there _ _ _ z.0 l.lay-c.ensures (sym r.node_room-tree.ensures)
    (sym r.slave_room-list.ensures) _ z.1 (at-heads (goal.at.put_word-end-requires c).After-put_sorted-behind_slaves).heads-behind_heads.ensures (at-transitions (goal.at.put_word-end-requires c).After-put_sorted-behind_slaves).transitions-behind_lines.ensures
    c.put_sorted-behind_slaves.ensures

end_fits : (c : After-put_word-end) → c.put_word-end.result + 12 ≤ length c.put_word-end.new.out
end_fits c =
    let p = at-sorted c in
    let l = at-walk p in
    let r = at-slave-room p in
    let z = (at-start p).requires in
    room_end _ _ _ z.0 l.lay-c.ensures (sym r.node_room-tree.ensures)
    (sym r.slave_room-list.ensures) _ z.1 (at-heads p).heads-behind_heads.ensures (at-transitions p).transitions-behind_lines.ensures
    p.put_sorted-behind_slaves.ensures c.put_word-end.ensures

end-small-here : (c : After-put_word-end) → c.put_word-end.result + 12 ≤ most_file
end-small-here c =
    let p = at-sorted c in
    let l = at-walk p in
    let r = at-slave-room p in
    let z = (at-start p).requires in
    end-small _ _ _ z.0 l.lay-c.ensures (sym r.node_room-tree.ensures)
    (sym r.slave_room-list.ensures) _ z.1 (at-heads p).heads-behind_heads.ensures (at-transitions p).transitions-behind_lines.ensures
    p.put_sorted-behind_slaves.ensures c.put_word-end.ensures

pub trailer-requires : goal.trailer-requires
trailer-requires c =
    (small _ _ _ (at-start (at-sorted (goal.at.trailer-requires c).After-put_word-end)).requires.0, end_fits (goal.at.trailer-requires c).After-put_word-end)

pub returns : goal.returns
returns c =
    let p = at-sorted (goal.at.returns c).After-put_word-end in
    let l = at-walk p in
    let r = at-slave-room p in
    let z = (at-start p).requires in
    put-file _ _ _ z.0 l.lay-c.ensures (sym r.node_room-tree.ensures)
    (sym r.slave_room-list.ensures) _ z.1 (at-heads p).heads-behind_heads.ensures (at-transitions p).transitions-behind_lines.ensures
    p.put_sorted-behind_slaves.ensures c.put_word-end.ensures _ c.trailer.ensures

pub overflow_add-result : goal.overflow_add-result
overflow_add-result c =
    let h = end-small-here (goal.at.overflow_add-result c).After-put_word-end in omega (arith, h)
