-- `names::bad_naming` meets its contract: it asks the tables for the three parts of the definition in turn. Assumes
-- nothing.
use mathlib.Core.Path.{◌≡◌, sym, ◌∙◌}
use mathlib.Core.Bool.{Bool, true, false, ◌||◌}
use mathlib.Core.List.{List}
use Prim.Native.Nat.{ℕ}
use Rattle.layout.specs.declared.body.Shape.{Shape}
use Rattle.meaning.specs.File.{file_at}
use Rattle.meaning.specs.Check.{naming?}
use Rattle.checks.specs.Known.{Ranged}
use Rattle.naming.specs.Names.{Walked, held_amiss, named_amiss, masters_amiss}
use Rattle.naming.specs.Names.Laws.{walked_none, naming_asked}
use Rattle.naming.proofs.names.bad_naming.Goals as goal

-- with the tables filled
module _ (n : Shape) (b ns hs os : List ℕ) (z : Ranged n b) (w : Walked (file_at n b) n.nodes ns hs os) where
  asked : naming? (file_at n b) ≡ (held_amiss n.charts hs || named_amiss n.nodes ns || masters_amiss (file_at n b) os)
  unfolding file_at
  asked = naming_asked (file_at n b) ns hs os w (z.sized.charts, z.sized.nodes) z.slaves

  first : held_amiss n.charts hs ≡ true → true ≡ naming? (file_at n b)
  first e = sym (asked ∙ rw e)

  second : held_amiss n.charts hs ≡ false → named_amiss n.nodes ns ≡ true → true ≡ naming? (file_at n b)
  second e f = sym (asked ∙ rw (e, f))

  third : held_amiss n.charts hs ≡ false → named_amiss n.nodes ns ≡ false → (r : Bool)
      → r ≡ masters_amiss (file_at n b) os
      → r ≡ naming? (file_at n b)
  third e f r g = g ∙ sym (asked ∙ rw (e, f))

pub walk_nodes-requires : goal.walk_nodes-requires
unfolding file_at
walk_nodes-requires c = let p = c.requires in (p, walked_none _ _ c.named_by_slaves-named.ensures)

pub returns-then-bad_held : goal.returns-then-bad_held
returns-then-bad_held c =
    let p = c.requires in
    first _ _ _ _ _ p c.walk_nodes.ensures (sym c.bad_held.ensures ∙ c.if-bad_held.true)

pub returns-then-bad_named : goal.returns-then-bad_named
returns-then-bad_named c =
    let p = c.requires in
    second _ _ _ _ _ p c.walk_nodes.ensures (sym c.bad_held.ensures ∙ c.if-bad_held.false)
    (sym c.bad_named.ensures ∙ c.if-bad_named.true)

pub returns : goal.returns
returns c =
    let p = c.requires in
    third _ _ _ _ _ p c.walk_nodes.ensures (sym c.bad_held.ensures ∙ c.if-bad_held.false)
    (sym c.bad_named.ensures ∙ c.if-bad_named.false) _ c.bad_masters.ensures
