use mathlib.Core.Path.{◌≡◌, refl, sym, ap, ap₂, ◌∙◌, subst}
use mathlib.Core.Bool.{Bool, true, false, ◌&&◌, ◌||◌}
use mathlib.Core.List.{List}
use Prim.Native.Nat.{ℕ, ◌+◌, ◌<◌}
use native.Mathlib.Numerals.{add-one}
use native.Mathlib.Omega.{arith}
use lib.ListN.{get_or}
use Rattle.signals.specs.Mask.{◌∪◌, bit}
use Rattle.signals.specs.Mask.Laws.{bit_union, bit-none}
use Rattle.layout.specs.declared.record.Slave.{Slave}
use Rattle.meaning.specs.Numbers.{most_nodes}
use Rattle.meaning.specs.Sums.{any_up_to}
use Rattle.meaning.specs.Sums.Laws.{any_none}
use Rattle.meaning.specs.Meaning.{Set, same}
use Rattle.meaning.specs.Laws.Bools.{same_refl, same_≢}
use Rattle.meaning.specs.File.{File, file_at}
use Rattle.nesting.proofs.Records.{IsSlave, is_slave}
use Rattle.plan.specs.ByNode.{inside, Inside}
use Rattle.plan.proofs.inside.Goals as goal
use Rattle.plan.proofs.inside.Goals.{After-slave_at-slave, else-slave-c, then-slave-c}

behind : (a : Bool) → a ≡ (a || false)
behind true = refl
behind false = refl

-- one slave more
module _ (F : File) {i : ℕ} {s : Slave} (e : IsSlave F i s) (d : ℕ) (l : List ℕ) (x : Set) (h : Inside F d l i x) where
  inside_in : s.chart ≡ d → (y : Set) → y ≡ get_or l s.node 0 → Inside F d l (i + 1) (x ∪ y)
  unfolding any_up_to
  inside_in o y r c = rw add-one
      (bit_union c x y
      ∙ ap₂ ◌||◌ (h c) (ap (λ (z : Set). bit z c) (r ∙ ap (λ (k : ℕ). get_or l k 0) e.node)
      ∙ sym (ap (λ (y : Bool). y && bit (get_or l (F.node i) 0) c)
      (ap (λ (k : ℕ). same k d) (sym e.chart ∙ o) ∙ same_refl d))))

  inside_out : (s.chart ≡ d → ⊥) → Inside F d l (i + 1) x
  unfolding any_up_to
  inside_out o c = rw add-one
      (h c ∙ behind _
      ∙ ap (λ (y : Bool). inside F d l i c || y)
      (sym (ap (λ (y : Bool). y && bit (get_or l (F.node i) 0) c) (same_≢ (F.master i) d (λ z. o (e.chart ∙ z))))))

pub loop-i-init : goal.loop-i-init
loop-i-init c = λ k. bit-none k ∙ sym (any_none _)

pub loop-i-preserved : goal.loop-i-preserved
loop-i-preserved c =
    let a = c.args in
    let F = file_at a.n a.body.now in
    let s = is_slave a.n a.body.now c.loop-i.i c.slave_at-slave.ensures in
    let Now : Set → Type 0 = Inside F a.c a.sets.now (c.loop-i.i + 1) in elim c.if-slave-c.branch [
      | then-slave-c w ↦ subst Now (sym w.set-is) (inside_in F s a.c a.sets.now c.loop-i.set c.loop-i.invariant
          w.if-slave-c.true w.wide-set.result w.wide-set.ensures)
      | else-slave-c w ↦ subst Now (sym w.set-is)
          (inside_out F s a.c a.sets.now c.loop-i.set c.loop-i.invariant w.if-slave-c.false)
    ]

-- the node that a slave names is one of the file's
node-there : (c : After-slave_at-slave) → c.slave_at-slave.result.node < most_nodes
unfolding file_at
node-there c =
    let a = c.args in
    let w = c.requires in
    let s = is_slave a.n a.body.now c.loop-i.i c.slave_at-slave.ensures in
    let h = (w.sound.node-there c.loop-i.i c.loop-i-test.true).0 in omega (arith, s.node, w.sized.nodes)

pub returns : goal.returns
unfolding file_at
returns c =
    let e : c.loop-i.i ≡ c.args.n.slaves = omega (arith, c.loop-i.auto.i-end, c.loop-i-test.false) in
    rw e at c.loop-i.invariant

pub offset_bounds-sets-k : goal.offset_bounds-sets-k
offset_bounds-sets-k c = omega (arith, node-there (goal.at.offset_bounds-sets-k c).After-slave_at-slave)

pub bounds-sets-k : goal.bounds-sets-k
bounds-sets-k c = node-there (goal.at.bounds-sets-k c).After-slave_at-slave

pub wide-set-requires : goal.wide-set-requires
wide-set-requires c = tt
