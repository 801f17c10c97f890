-- Trees with the two parts of compositions exchanged, at any depth and inside slaves too (`Exchanged`). The laws are in
-- proofs/Exchange/Trees.
use Rattle.std.specs.Prelude.{◌≡◌, Bool, ◌&&◌, [], ◌∷◌}
use Rattle.std.proofs.Math.Path.{refl, ap, ap₂, fun_ext}
use Rattle.std.proofs.Common.{◌∙◌, arith}
use Rattle.std.proofs.Math.Bool.{true, and_comm}
use Prim.Native.Nat.{ℕ, zero, suc, ◌+◌, ◌<◌}
use Rattle.signals.specs.Mask.{◌∪◌, ◌∩◌, ◌∖◌}
use Rattle.signals.specs.Decide.{sets, A, B, ◌∪ₑ◌, ◌≐◌}
use Rattle.meaning.specs.Meaning.{Set, Chart, Tree, Slaves, leaf, comp, hide, dec, nil, snoc, Move, pick, last_place}
use Rattle.meaning.specs.Meaning.{action_of, after, in_face_chart, in_face, in_faces, actions, out_face, out_faces, out}
use Rattle.meaning.specs.Meaning.{outs}
use Rattle.meaning.specs.Meaning.{ok_chart, meets, ok, oks, permitted, upd, moves, nexts, place_of, places_from}
use Rattle.meaning.specs.Meaning.{outcome_of}
use Rattle.meaning.specs.Meaning.{upto, outcome, search, outcomes}
use Rattle.meaning.specs.Open.{open_chart, open_tree, open_slaves, is_open, choices, how_many, open_choices}

-- E, E': the charts; s, s': the slaves' states; the same where the tree has them
module _ (E E' : ℕ → Chart) (s s' : ℕ → ℕ) where
  mutual
    -- the second tree is the first with the parts of some compositions exchanged (`turned`)
    pub data Exchanged : Tree → Tree → Type 0 where
      chart : {c : ℕ} → E' c ≡ E c → Exchanged (leaf c) (leaf c)
      parts : {p p' q q' : Tree} {x : Set} → Exchanged p p' → Exchanged q q' → Exchanged (comp p q x) (comp p' q' x)
      turned : {p p' q q' : Tree} {x : Set} → Exchanged p p' → Exchanged q q' → Exchanged (comp p q x) (comp q' p' x)
      inside : {p p' : Tree} {x y : Set} → Exchanged p p' → Exchanged (hide p x y) (hide p' x y)
      master : {c : ℕ} {ss ss' : Slaves} → E' c ≡ E c → Slaved ss ss' → Exchanged (dec c ss) (dec c ss')

    pub data Slaved : Slaves → Slaves → Type 0 where
      none : Slaved nil nil
      more : {ss ss' : Slaves} {i : ℕ} {t t' : Tree} → Slaved ss ss' → s' i ≡ s i → Exchanged t t'
          → Slaved (snoc ss i t) (snoc ss' i t')
