use mathlib.Core.Path.{◌≡◌, refl, sym, ap, ◌∙◌}
use mathlib.Core.List.{List}
use Prim.Native.Nat.{ℕ}
use native.Mathlib.Omega.{arith}
use Rattle.layout.specs.Kind.{byte_of}
use Rattle.layout.specs.Kind.Laws.{byte-one}
use Rattle.layout.specs.declared.record.Kind.TheVariants.{Holds}
use Rattle.layout.specs.declared.body.Shape.{Shape}
use Rattle.layout.specs.declared.record.Node.{Node}
use Rattle.meaning.specs.File.{file_at}
use Rattle.meaning.specs.Laws.Names.{joined}
use Rattle.meaning.specs.Rewriting.{call, call_in}
use Rattle.allocation.specs.Known.{Checked, InnerIn, Upward}
use Rattle.allocation.proofs.inner.Goals as goal
use Rattle.allocation.proofs.inner.Goals.{in-Holds, in_default}
use Rattle.allocation.proofs.inner.Invariants.{Has, call_is, Filled, there, filled_own, filled_other}

-- every chart is held by a node
filled_all : (n : Shape) (b : List ℕ) → Checked n b → Upward (file_at n b) → (j : ℕ) (l : List ℕ) → j ≡ n.nodes
    → Filled (file_at n b) j l
    → InnerIn (file_at n b) l
unfolding file_at
filled_all n b w up j l e h c p =
    let s = w.sound in
    let u = (joined (file_at n b) s.ordered s.rule10 s.chart_there s.node-there).holder c p in
    let q = u.1 in
    let r : Has (file_at n b) l c = rw u.3 at (h.has u.0 (omega arith) u.2) in
    r ∙ ap (call_in (call (file_at n b))) (sym (up c p))

pub loop-j-init : goal.loop-j-init
loop-j-init c = record { long = refl; has = λ k h. absurd (omega arith) }

pub loop-j-preserved : goal.loop-j-preserved
unfolding file_at
loop-j-preserved c =
    let p = c.requires in
    let e = c.node_at-node.ensures in
    let t = c.loop-j-test.true in elim c.match-of.branch [
      | in-Holds w ↦ rw w.inner-is (filled_own _ _ p.0 c.loop-j.j t _ e c.loop-j.inner c.loop-j.invariant _
          (w.call_of.ensures ∙ call_is _ p.0.sound
          c.args.calls.now p.1
          p.0.sized.slaves c.loop-j.j _
          (c.enclosers-near.ensures c.loop-j.j t)) (sym c.of.ensures ∙ ap byte_of w.in-Holds.is))
      | in_default w ↦ rw w.inner-is (filled_other _ _ p.0 c.loop-j.j t _ e c.loop-j.inner c.loop-j.invariant
          (λ z. w.in_default.not-Holds (byte-one _ Holds (c.of.ensures ∙ z))))
    ]

pub returns : goal.returns
returns c =
    filled_all _ _ c.requires.0 c.requires.2
    c.loop-j.j
    c.loop-j.inner (omega arith) c.loop-j.invariant

pub enclosers-near-requires : goal.enclosers-near-requires
enclosers-near-requires c = record { sized = c.requires.0.sized; sound = c.requires.0.sound }

pub node_at-node-requires : goal.node_at-node-requires
node_at-node-requires c = (c.requires.0.sized.holds, c.loop-j-test.true)

pub bounds-inner-c : goal.bounds-inner-c
bounds-inner-c c =
    there _ _ c.requires.0
    c.loop-j.j
    c.loop-j-test.true _
    c.node_at-node.ensures
    c.loop-j.inner
    c.loop-j.invariant (sym c.of.ensures ∙ ap byte_of c.in-Holds.is)

pub of-requires : goal.of-requires
unfolding file_at
of-requires c =
    let t = c.requires.0.sound.ordered.kinds _ c.loop-j-test.true in
    let d = ap (λ (x : Node). x.kind) c.node_at-node.ensures in omega arith
