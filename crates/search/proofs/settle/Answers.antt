-- `search::settle` meets its contract: a law for each way through the definition. Where the next one differs, the last
-- byte alone is written.
use mathlib.Core.Path.{◌≡◌, sym, ◌∙◌}
use mathlib.Core.Bool.{true, false, and-false}
use mathlib.Core.List.{List}
use Prim.Native.Nat.{ℕ, ◌+◌, ◌<◌}
use native.Mathlib.Omega.{arith}
use borrow.Author.Tests.{eq-eqb, ne_eqb}
use lib.ListN.{length, get_or, set, length-set}
use lib.Seq.{get_or-set_same, get_or-set_other}
use Rattle.meaning.specs.Numbers.{most_charts}
use Rattle.meaning.specs.Meaning.{same, Outcome, eq_list}
use Rattle.meaning.specs.Calls.Laws.{made_cong}
use Rattle.settling.specs.declared.Found.{Found}
use Rattle.settling.specs.Hunt.{places_cell, has_cell, agree_cell, outcome_in, first_found, settle_of, found_in, Held}
use Rattle.search.proofs.settle.Goals as goal
use Rattle.search.proofs.settle.Goals.{else-output-shown, then-output-shown+else-same_states}

module _ (o : Outcome) (acc : Found) where
  first : acc.has ≡ false → first_found o ≡ settle_of o acc
  unfolding settle_of
  first h = rw h

  again : acc.has ≡ true → o.output ≡ acc.output → eq_list o.next acc.next ≡ true → acc ≡ settle_of o acc
  unfolding settle_of same
  again h e q = rw (h, eq-eqb o.output acc.output e, q)

  abbrev Differs : Type 0
  Differs = record { has = acc.has; agree = false; output = acc.output; next = acc.next; places = acc.places }
      ≡ settle_of o acc

  other-next : acc.has ≡ true → eq_list o.next acc.next ≡ false → Differs
  unfolding settle_of same
  other-next h q = rw (h, q, and-false)

  other_output : acc.has ≡ true → (o.output ≡ acc.output → ⊥) → Differs
  unfolding settle_of same
  other_output h e = rw (h, ne_eqb o.output acc.output e)

-- the last byte is written
module _ (f g : List ℕ) (held : Held f g) where
  pub written_held : (x : ℕ) → Held (set f agree_cell x) g
  written_held x = record { bytes = length-set f agree_cell x ∙ held.bytes; output = held.output }

  off : found_in (set f agree_cell 0) g
      ≡ record {
        has = (found_in f g).has;
        agree = false;
        output = (found_in f g).output;
        next = (found_in f g).next;
        places = (found_in f g).places;
      }
  unfolding same
  off = let l : agree_cell < length f = omega (arith, held.bytes) in
      rw (
        get_or-set_same f agree_cell 0 0 l,
        get_or-set_other f agree_cell has_cell 0 0 (λ z. omega arith),
        made_cong most_charts (λ c. get_or (set f agree_cell 0) (0 + c) 0) (λ c. get_or f (0 + c) 0)
            (λ c p. get_or-set_other f agree_cell (0 + c) 0 0 (λ z. omega arith)),
        made_cong most_charts (λ c. get_or (set f agree_cell 0) (places_cell + c) 0) (λ c. get_or f (places_cell + c) 0)
            (λ c p. get_or-set_other f agree_cell (places_cell + c) 0 0 (λ z. omega arith)),
      )

found_none : (x : ℕ) → (x ≡ 1 → ⊥) → same x 1 ≡ false
unfolding same
found_none x h = ne_eqb x 1 h

found_one : (x : ℕ) → x ≡ 1 → same x 1 ≡ true
unfolding same
found_one x h = eq-eqb x 1 h

pub returns-then-best-ne1 : goal.returns-then-best-ne1
returns-then-best-ne1 c =
    let a = c.args in (
      c.keep.ensures.0,
      c.keep.ensures.1
          ∙ first (outcome_in a.moves.now a.charts a.output) (found_in a.best.now a.shown.now)
          (found_none _ c.if-best-ne1.true),
    )

pub returns-then-same_states : goal.returns-then-same_states
returns-then-same_states c =
    let a = c.args in (
      c.requires.0,
      again (outcome_in a.moves.now a.charts a.output) (found_in a.best.now a.shown.now)
          (found_one _ c.if-best-ne1.false) c.if-output-shown.true
          (sym (c.same_states.ensures a.output a.shown.now) ∙ c.if-same_states.true),
    )

pub returns : goal.returns
returns c =
    let a = c.args in
    let o = outcome_in a.moves.now a.charts a.output in
    let acc = found_in a.best.now a.shown.now in (
      written_held a.best.now a.shown.now c.requires.0 _,
      off a.best.now a.shown.now c.requires.0
          ∙ (elim c.if-output-shown.branch [
            | then-output-shown+else-same_states w ↦ other-next o acc (found_one _ c.if-best-ne1.false)
                (sym (w.same_states.ensures a.output a.shown.now) ∙ w.if-same_states.false)
            | else-output-shown w ↦ other_output o acc (found_one _ c.if-best-ne1.false) w.if-output-shown.false
          ]),
    )
