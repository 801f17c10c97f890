-- `parts::value` meets its contract: each arm is the value at its kind, and names lower nodes. Assumes nothing.
use mathlib.Core.Path.{◌≡◌, refl, sym, ap, ◌∙◌}
use mathlib.Core.List.{List}
use Prim.Native.Nat.{ℕ, zero, suc}
use lib.ListN.{get_or}
use Rattle.signals.specs.Mask.{◌∪◌, ◌∖◌}
use Rattle.layout.specs.Body.{node_at}
use Rattle.layout.specs.Kind.{byte_of}
use Rattle.layout.specs.declared.body.Shape.{Shape}
use Rattle.layout.specs.declared.record.Node.{Node}
use Rattle.meaning.specs.Meaning.{Set}
use Rattle.meaning.specs.File.{file_at}
use Rattle.meaning.specs.Laws.Folds.{set_by_kind, value_of}
use Rattle.parts.specs.Parts.{off_of, with_slaves, value_at}
use Rattle.parts.specs.declared.Off.{Off}
use Rattle.checks.specs.Known.Node.{kind_is, some_kind, chart₀, lower₁, lower_hidden}
use Rattle.parts.proofs.value.Goals as goal

-- r is node j
module _ (n : Shape) (b : List ℕ) (j : ℕ) (r : Node) (e : r ≡ node_at n b j) where
  module _ (own : List ℕ) (off : Off) (t : List ℕ) where
    value₀ : r.kind ≡ 0
        → with_slaves (file_at n b) t r.a (get_or own r.a 0) n.slaves ≡ value_at (file_at n b) own off t j
    unfolding with_slaves value_at value_of file_at
    value₀ h = rw (kind_is n b j r e 0 h, e)

    value₁ : r.kind ≡ 1 → get_or t r.a 0 ∪ get_or t r.b 0 ≡ value_at (file_at n b) own off t j
    unfolding value_at value_of file_at
    value₁ h = rw (kind_is n b j r e 1 h, e)

    value₂ : r.kind ≡ 2 → get_or t r.a 0 ∖ off_of off r.x r.y ≡ value_at (file_at n b) own off t j
    unfolding value_at value_of file_at
    value₂ h = rw (kind_is n b j r e 2 h, e)

pub of-requires : goal.of-requires
of-requires c =
    let p = c.requires in
    some_kind _ _ _ _ c.node_at-r.ensures p.0 p.1.0 p.1.1

pub bounds-own-a : goal.bounds-own-a
bounds-own-a c =
    let p = c.requires in
    chart₀ _ _ _ _ c.node_at-r.ensures p.0 p.1.0 p.1.1 (sym c.of.ensures ∙ ap byte_of c.in-Holds.is)

pub bounds-table-a : goal.bounds-table-a
bounds-table-a c =
    let p = c.requires in
    (lower₁ _ _ _ _ c.node_at-r.ensures p.0 p.1.0 p.1.1 (sym c.of.ensures ∙ ap byte_of c.in-Composes.is)).0

pub bounds-table-b : goal.bounds-table-b
bounds-table-b c =
    let p = c.requires in
    (lower₁ _ _ _ _ c.node_at-r.ensures p.0 p.1.0 p.1.1 (sym c.of.ensures ∙ ap byte_of c.in-Composes.is)).1

pub bounds-table-a-in-Hides : goal.bounds-table-a-in-Hides
bounds-table-a-in-Hides c =
    let p = c.requires in
    lower_hidden _ _ _ _ c.node_at-r.ensures p.0 p.1.0 p.1.1 (sym c.of.ensures ∙ ap byte_of c.in-Hides.is)

pub returns-in-Holds : goal.returns-in-Holds
returns-in-Holds c = c.with_slaves.ensures ∙ value₀ _ _ _ _ c.node_at-r.ensures _ _ _ (sym c.of.ensures ∙ ap byte_of c.in-Holds.is)

pub returns-in-Composes : goal.returns-in-Composes
returns-in-Composes c = value₁ _ _ _ _ c.node_at-r.ensures _ _ _ (sym c.of.ensures ∙ ap byte_of c.in-Composes.is)

pub returns-in-Hides : goal.returns-in-Hides
returns-in-Hides c =
    c.less.ensures
    ∙ ap (λ (v : Set). get_or c.args.table.now
    c.node_at-r.result.a 0 ∖ v)
    c.taken.ensures
    ∙ value₂ _ _ _ _ c.node_at-r.ensures _ _ _ (sym c.of.ensures ∙ ap byte_of c.in-Hides.is)
