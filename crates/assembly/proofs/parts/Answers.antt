use mathlib.Core.Path.{◌≡◌, sym, ap, ◌∙◌}
use mathlib.Core.List.{List}
use Prim.Native.Nat.{ℕ, ◌+◌, ◌≤◌}
use native.Mathlib.Nat.{add-zero}
use native.Mathlib.Omega.{arith}
use lib.ListN.{length}
use Rattle.layout.specs.Record.Laws.{length_node}
use Rattle.meaning.specs.Sums.Laws.{tally-none}
use Rattle.meaning.specs.File.{File, file_at}
use Rattle.layout.specs.Put.Laws.{put-length}
use Rattle.laying.specs.Sequence.{put-start, put-done, room_record}
use Rattle.assembly.specs.Records.{part_bytes}
use Rattle.assembly.proofs.parts.Goals as goal
use Rattle.assembly.proofs.parts.Goals.{Then-s-c, else-s-c, then-s-c}
use Rattle.assembly.proofs.parts.Invariants.{Parted, F, part-own, there, name, parted-own, parted-other}

-- the same at equal places
moved : (F : File) (c x first at i : ℕ) (l m m' : List ℕ) (p p' made made' : ℕ) → m ≡ m' → p ≡ p' → made ≡ made'
    → Parted F c x first at i l m' p' made' → Parted F c x first at i l m p made
moved F c x first at i l m m' p p' made made' e f g h = rw (e, f, g) h

pub loop-i-init : goal.loop-i-init
loop-i-init c =
    let z = tally-none _ in record {
      last = sym (ap (λ (k : ℕ). c.args.first + k) z ∙ add-zero _);
      most = rw z (omega arith);
      puts = put-start _;
    }

room : (c : Then-s-c)
    → c.loop-i.p + 20
    ≤ length c.loop-i.out
room c =
    let a = c.args in
    let e = part-own a.n a.body.now a.c a.x a.first c.loop-i.i _
    c.slave_at-s.ensures c.if-s-c.true in
    room_record (part_bytes (file_at a.n a.body.now) a.c a.first a.x) 20 (ap length e ∙ length_node _)
    c.requires.3
    c.loop-i-test.true
    c.loop-i.invariant.puts

pub loop-i-preserved : goal.loop-i-preserved
loop-i-preserved c =
    let a = c.args in
    let e = c.slave_at-s.ensures in
    let t = c.loop-i-test.true in elim c.if-s-c.branch [
      | then-s-c w ↦ moved _ _ _ _ _ _ _ _ _ _ _ _ _ w.out-is w.p-is w.made-is
          (parted-own a.n a.body.now a.c a.x a.first c.loop-i.i _ e a.at _ _ _ _ c.loop-i.invariant
          w.if-s-c.true _ _ _
          (λ j. record {
            kind = 1;
            a = c.loop-i.invariant.last j;
            b = name a.n a.body.now a.c a.x a.first c.loop-i.i _ e
                c.requires.0 t a.names.now
                c.requires.1 j;
            x = a.x;
            y = 0;
          })
          w.put_node-p.ensures)
      | else-s-c w ↦ moved _ _ _ _ _ _ _ _ _ _ _ _ _ w.out-is w.p-is w.made-is
          (parted-other _ _ _ _ _ _ _ e _ _ _ _ _ c.loop-i.invariant w.if-s-c.false)
    ]

pub returns : goal.returns
returns c = put-done _ (omega arith) c.loop-i.invariant.puts

pub slave_at-s-requires : goal.slave_at-s-requires
slave_at-s-requires c = (c.requires.0.sized.holds, c.loop-i-test.true)

pub bounds-names-node : goal.bounds-names-node
bounds-names-node c =
    let h = c.requires.0.sized.nodes in
    omega (
      arith,
      there _ _ 0 0 0 _ _ c.slave_at-s.ensures
          c.requires.0
          c.loop-i-test.true,
    )

pub put_node-p-requires : goal.put_node-p-requires
put_node-p-requires c = room (goal.at.put_node-p-requires c).Then-s-c

pub overflow_add-made : goal.overflow_add-made
overflow_add-made c =
    let e = c.loop-i.invariant.last in
    let m = c.loop-i.invariant.most in
    let h = c.requires.0.sized.slaves in
    let g =
    c.requires.2 in
    omega arith

pub shape_of-out : goal.shape_of-out
shape_of-out c = put-length c.loop-i.invariant.puts
