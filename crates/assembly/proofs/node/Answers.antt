-- `node` meets its contract, by the node's kind.
use mathlib.Core.Path.{◌≡◌, refl, sym, ap, ◌∙◌}
use mathlib.Core.List.{List}
use Prim.Native.Nat.{ℕ, zero, suc, ◌≤◌, ◌<◌}
use native.Mathlib.Omega.{arith}
use borrow.Author.Rules.{rules}
use lib.ListN.{get_or}
use Rattle.layout.specs.Record.{node_bytes}
use Rattle.layout.specs.Record.Laws.{length_node}
use Rattle.layout.specs.Body.{node_at}
use Rattle.layout.specs.Kind.{byte_of}
use Rattle.layout.specs.declared.body.Shape.{Shape}
use Rattle.layout.specs.declared.record.Node.{Node}
use Rattle.meaning.specs.File.{File, file_at}
use Rattle.meaning.specs.Rewriting.{count, before, new_name, made_for}
use Rattle.agreement.specs.Laid.{ren_inside}
use Rattle.layout.specs.Put.{Room}
use Rattle.layout.specs.Put.Laws.{put-length}
use Rattle.laying.specs.Sequence.{put_is, room_all}
use Rattle.allocation.specs.Known.{Checked}
use Rattle.assembly.specs.Known.{NamesIn, Holder, Begins}
use Rattle.assembly.specs.Records.{composing, hiding, held_bytes, nodes_bytes}
use Rattle.assembly.specs.Records.Laws.{held_are, comp_are, hide_are}
use Rattle.assembly.proofs.node.Goals as goal

-- the last of a chart's nodes has at least the name of its chart node, counted up by its slaves
before_most : (F : File) (s : ℕ) → s ≤ before F 0 s
before_most F zero = omega arith
before_most F (suc s) = omega arith

-- r is node j
module _ (n : Shape) (b : List ℕ) (j : ℕ) (r : Node) (e : r ≡ node_at n b j) where
  abbrev F : File
  F = file_at n b

  kind_is : (k : ℕ) → r.kind ≡ k → F.kind j ≡ k
  unfolding file_at
  kind_is k h = sym (ap (λ (x : Node). x.kind) e) ∙ h

  a_is : r.a ≡ F.a j
  unfolding file_at
  a_is = ap (λ (x : Node). x.a) e

  b_is : r.b ≡ F.b j
  unfolding file_at
  b_is = ap (λ (x : Node). x.b) e

  module _ (w : Checked n b) (l : j < F.nodes) where
    module _ (first : ℕ) (h : Begins F j first) (k : r.kind ≡ 0) where
      held_bytes_lem : nodes_bytes (made_for F j) ≡ held_bytes F r.a first (count F r.a n.slaves)
      unfolding file_at
      held_bytes_lem = held_are F j (kind_is 0 k) ∙ rw (a_is, h.is)

      room_held : (at : ℕ) (s : List ℕ) → Room s at (nodes_bytes (made_for F j))
          → Room s at (held_bytes F r.a first (count F r.a n.slaves))
      room_held at s m = rw held_bytes_lem at m

      holder : Holder F r.a first
      unfolding new_name
      holder =
          let c = w.sound.chart_there j l (kind_is 0 k) in
          let m = h.named in
          let i = h.is in
          let q = ren_inside F F.nodes j l in
          let d : before F (F.kind j) (count F (F.a j) F.slaves) ≡ before F 0 (count F (F.a j) F.slaves) =
          ap (λ (k : ℕ). before F k (count F (F.a j) F.slaves)) (kind_is 0 k) in
          let f = before_most F (count F (F.a j) F.slaves) in
          record { there = rw a_is c; named = rw a_is (omega arith) }

    both_there : r.kind ≡ 1 → (r.a < F.nodes) × (r.b < F.nodes)
    both_there k = let m = w.sound.ordered.lower₁ j l (kind_is 1 k) in let p = a_is in let q = b_is in
        (omega arith, omega arith)

    both_bytes : r.kind ≡ 1 → (names : List ℕ) → NamesIn F names
        → nodes_bytes (made_for F j) ≡ node_bytes (composing (get_or names r.a 0) (get_or names r.b 0) r.x)
    unfolding file_at
    both_bytes k names h =
        let t = both_there k in
        comp_are F j (kind_is 1 k)
        ∙ ap node_bytes (λ i. composing ((ap (new_name F) (sym a_is) ∙ sym (h r.a t.0)) i)
        ((ap (new_name F) (sym b_is) ∙ sym (h r.b t.1)) i)
        (sym (ap (λ (x : Node). x.x) e) i))

    some_kind : r.kind ≤ 2
    some_kind = let m = w.sound.ordered.kinds j l in let z = kind_is r.kind refl in omega arith

    module _ (k₂ : r.kind ≡ 2) where
      last_kind : F.kind j ≡ 2
      last_kind = kind_is 2 k₂

      hidden_there : r.a < F.nodes
      hidden_there = let m = w.sound.ordered.lower₂ j l last_kind in let p = a_is in omega arith

      hidden_bytes : (names : List ℕ) → NamesIn F names
          → nodes_bytes (made_for F j) ≡ node_bytes (hiding (get_or names r.a 0) r.x r.y)
      unfolding file_at
      hidden_bytes names h =
          hide_are F j last_kind
          ∙ ap node_bytes
          (λ i. hiding ((ap (new_name F) (sym a_is) ∙ sym (h r.a hidden_there)) i) (sym (ap (λ (x : Node). x.x) e) i)
          (sym (ap (λ (x : Node). x.y) e) i))

pub holder-requires : goal.holder-requires
holder-requires c =
    let p = c.requires in
    let a = c.args in
    let e = c.node_at-r.ensures in
    let k = (sym c.of.ensures ∙ ap byte_of c.in-Holds.is) in (
      p.0,
      p.1,
      p.2,
      holder _ _ _ _ e p.0 p.3.there _ p.3 k,
      room_held a.n a.body.now a.j _ e p.0 p.3.there a.first p.3 k a.at a.out.now p.4,
    )

pub returns-in-Holds : goal.returns-in-Holds
returns-in-Holds c =
    let p = c.requires in
    put_is (sym (held_bytes_lem _ _ _ _ c.node_at-r.ensures p.0
    p.3.there _ p.3
    (sym c.of.ensures ∙ ap byte_of c.in-Holds.is))) c.holder.ensures

pub bounds-names-a : goal.bounds-names-a
unfolding file_at
bounds-names-a c =
    let p = c.requires in
    let h = p.0.sized.nodes in
    let t = both_there _ _ _ _ c.node_at-r.ensures p.0 p.3.there
    (sym c.of.ensures ∙ ap byte_of c.in-Composes.is) in omega arith

pub bounds-names-b : goal.bounds-names-b
unfolding file_at
bounds-names-b c =
    let p = c.requires in
    let h = p.0.sized.nodes in
    let t = both_there _ _ _ _ c.node_at-r.ensures p.0 p.3.there
    (sym c.of.ensures ∙ ap byte_of c.in-Composes.is) in
    omega arith

pub put_node-requires : goal.put_node-requires
put_node-requires c =
    let p = c.requires in
    let a = c.args in
    room_all _ _ 20 (both_bytes a.n a.body.now a.j _
    c.node_at-r.ensures p.0
    p.3.there (sym c.of.ensures ∙ ap byte_of c.in-Composes.is) a.names.now p.2) (length_node _) a.at
    a.out.now p.4

pub returns-in-Composes : goal.returns-in-Composes
returns-in-Composes c =
    let p = c.requires in
    let a = c.args in
    put_is (sym (both_bytes a.n a.body.now a.j _
    c.node_at-r.ensures p.0
    p.3.there
    (sym c.of.ensures ∙ ap byte_of c.in-Composes.is) a.names.now p.2))
    c.put_node.ensures

pub bounds-names-a-in-Hides : goal.bounds-names-a-in-Hides
unfolding file_at
bounds-names-a-in-Hides c =
    let p = c.requires in
    let h = p.0.sized.nodes in
    let t = hidden_there _ _ _ _ c.node_at-r.ensures p.0 p.3.there
    (sym c.of.ensures ∙ ap byte_of c.in-Hides.is) in
    omega arith

pub put_node-requires-in-Hides : goal.put_node-requires-in-Hides
put_node-requires-in-Hides c =
    let p = c.requires in
    let a = c.args in
    room_all _ _ 20 (hidden_bytes a.n a.body.now a.j _
    c.node_at-r.ensures p.0
    p.3.there (sym c.of.ensures ∙ ap byte_of c.in-Hides.is) a.names.now p.2)
    (length_node _) a.at a.out.now
    p.4

pub returns-in-Hides : goal.returns-in-Hides
returns-in-Hides c =
    let p = c.requires in
    let a = c.args in
    put_is (sym (hidden_bytes a.n a.body.now a.j _
    c.node_at-r.ensures p.0 p.3.there
    (sym c.of.ensures ∙ ap byte_of c.in-Hides.is) a.names.now p.2))
    c.put_node-in-Hides.ensures

pub node_at-r-requires : goal.node_at-r-requires
unfolding file_at
node_at-r-requires c = (c.requires.0.sized.holds, c.requires.3.there)

pub overflow_cast-a : goal.overflow_cast-a
unfolding file_at
overflow_cast-a c = search rules

pub overflow_cast-b : goal.overflow_cast-b
unfolding file_at
overflow_cast-b c = search rules

pub of-requires : goal.of-requires
of-requires c = let p = c.requires in some_kind _ _ _ _ c.node_at-r.ensures p.0 p.3.there
