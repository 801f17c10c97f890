-- `trailer` meets its contract.
use mathlib.Core.Path.{ap, ◌∙◌}
use Prim.Native.Nat.{ℕ}
use native.Mathlib.Omega.{arith}
use lib.ListN.{length}
use lib.Seq.{sets, length-sets}
use Rattle.layout.specs.Record.{trailer_bytes}
use Rattle.layout.specs.declared.record.Trailer.{Trailer}
use Rattle.laying.specs.Trailer.{trailer_with}
use Rattle.laying.proofs.trailer.Goals as goal
use Rattle.laying.proofs.trailer.Goals.{After-slice_known-2-1}

pub returns : goal.returns
unfolding trailer_with
returns c =
    let a = c.args in
    let with : ℕ → Trailer =
    λ d. record {
      distance = d;
      charts = a.m.charts;
      slaves = a.m.slaves;
      nodes = a.m.nodes;
      edition = a.edition;
      transitions = a.m.transitions;
    } in
    c.write_trailer.ensures
    ∙ ap (λ (d : ℕ). sets a.out.now a.at (trailer_bytes (with d)))
    c.size.ensures

pub size-requires : goal.size-requires
size-requires c = c.requires.0

pub overflow_cast-t : goal.overflow_cast-t
overflow_cast-t c = let p = c.requires.0 in let e = c.size.ensures in omega arith

pub overflow_cast-t-2 : goal.overflow_cast-t-2
overflow_cast-t-2 c = let p = c.requires.0 in omega arith

pub overflow_cast-t-3 : goal.overflow_cast-t-3
overflow_cast-t-3 c = let p = c.requires.0 in omega arith

pub overflow_cast-t-4 : goal.overflow_cast-t-4
overflow_cast-t-4 c = let p = c.requires.0 in omega arith

pub overflow_cast-t-5 : goal.overflow_cast-t-5
overflow_cast-t-5 c = let p = c.requires.0 in omega arith

pub write_trailer-requires : goal.write_trailer-requires
write_trailer-requires c = c.requires.1

pub shape_of-out : goal.shape_of-out
shape_of-out c = ap length (returns (goal.at.shape_of-out c).After-slice_known-2-1) ∙ simp length-sets
