-- The states of all charts have room.
use Rattle.std.proofs.Common.{List, ℕ, ◌*◌, ◌≤◌, length, sym, arith, length-take-le}
use Rattle.meaning.specs.Numbers.{most_charts}
use Rattle.layout.specs.Le.{AllBytes}
use Rattle.layout.specs.Put.Laws.{put-length}
use Rattle.line.specs.Line.{dotted}
use Rattle.line.specs.Line.Laws.{dotted-le}
use Rattle.chart.proofs.tell.states.Goals as goal

short : (config : List ℕ) → AllBytes config → length config ≤ most_charts → length (dotted config) ≤ 4 * most_charts
short config bytes few = omega (arith, few, dotted-le config bytes)

pub put_states-n-requires : goal.put_states-n-requires
put_states-n-requires g c =
    let bytes : AllBytes c.args.config.now = λ i. omega (arith, c.type_inv.config i) in
    omega (arith, c.text_room-text.ensures, short _ bytes c.requires)

pub slice_bounds-text-end : goal.slice_bounds-text-end
slice_bounds-text-end g c =
    let bytes : AllBytes c.args.config.now = λ i. omega (arith, c.type_inv.config i) in
    let p = c.put_states-n.ensures in
    omega (arith, p.place, put-length p, c.text_room-text.ensures, short _ bytes c.requires)

pub slice_bounds-say-end : goal.slice_bounds-say-end
slice_bounds-say-end g c =
    let bytes : AllBytes c.args.config.now = λ i. omega (arith, c.type_inv.config i) in
    let p = c.put_states-n.ensures in
    sym (length-take-le _ _ (omega (arith, p.place, put-length p, c.text_room-text.ensures, short _ bytes c.requires)))
