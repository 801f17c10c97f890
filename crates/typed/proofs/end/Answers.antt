use mathlib.Core.Path.{◌≡◌, sym, ap, ◌∙◌, subst}
use mathlib.Core.List.{List, append-nil}
use Prim.Native.Nat.{ℕ, suc, ◌+◌, ◌-◌, ◌≤◌, ◌<◌}
use native.Mathlib.Nat.{sub_self}
use native.Mathlib.Omega.{arith}
use lib.ListN.{length, get_or, take, drop, drop_of_length-le, length-drop}
use lib.Seq.{take-suc, get_or-drop}
use Rattle.typed.specs.Typed.{split}
use Rattle.typed.specs.Typed.Laws.{before, before-none, split_here, split-on}
use Rattle.typed.specs.Parts.{Ends, behind_more, behind-none}
use Rattle.typed.proofs.end.Goals as goal

module _ (separator : ℕ) (w : List ℕ) (at i : ℕ) (order : at ≤ i) (within : i ≤ length w)
    (h : split separator (drop at w) ≡ before (take (i - at) (drop at w)) (split separator (drop i w))) where
  -- one character more
  part-more : i < length w → (get_or w i 0 ≡ separator → ⊥)
      → split separator (drop at w) ≡ before (take (i + 1 - at) (drop at w)) (split separator (drop (i + 1) w))
  part-more l e =
      let p : i + 1 - at ≡ suc (i - at) = omega arith in
      let q : at + (i - at) ≡ i = omega arith in
      h
      ∙ split-on separator w (take (i - at) (drop at w)) i l e
      ∙ ap (λ (x : List ℕ). before x (split separator (drop (i + 1) w)))
      (rw p (sym (take-suc (drop at w) (i - at) 0 (rw length-drop (omega arith)) ∙ rw (get_or-drop, q))))

  ends_here : i < length w → get_or w i 0 ≡ separator → Ends separator w at i
  unfolding before
  ends_here l e =
      record {
        order = order;
        within = within;
        parts = h ∙ rw (split_here separator w i l e, append-nil, behind_more separator w i l);
      }

  ends_all : length w ≤ i → Ends separator w at i
  unfolding before split
  ends_all l =
      record {
        order = order;
        within = within;
        parts = h ∙ rw (drop_of_length-le w l, append-nil, behind-none separator w i l);
      }

pub loop-i-init : goal.loop-i-init
loop-i-init c =
    rw (sub_self, before-none)

pub returns-then-word-i : goal.returns-then-word-i
returns-then-word-i c =
    ends_here _ _ _ c.loop-i.i (omega arith) (omega arith) c.loop-i.invariant c.loop-i-test.true c.if-word-i.true

pub loop-i-preserved : goal.loop-i-preserved
loop-i-preserved c =
    part-more _ _ _ c.loop-i.i (omega arith) (omega arith) c.loop-i.invariant c.loop-i-test.true c.if-word-i.false

pub returns : goal.returns
returns c =
    let e : c.loop-i.i ≡ length c.args.word.now = omega arith in
    subst (Ends c.args.separator c.args.word.now c.args.at) e
    (ends_all _ _ _ c.loop-i.i (omega arith) (omega arith) c.loop-i.invariant c.loop-i-test.false)

pub bounds-word-i : goal.bounds-word-i
bounds-word-i c = omega arith
