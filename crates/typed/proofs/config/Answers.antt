use mathlib.Core.Path.{◌≡◌, refl, sym, ap, ap₂, ◌∙◌}
use mathlib.Core.List.{List, [], ◌∷◌, ◌++◌}
use Prim.Native.Nat.{ℕ, ◌+◌, ◌-◌, ◌≤◌, ◌<◌}
use native.Mathlib.Numerals.{add-one}
use native.Mathlib.Omega.{arith}
use borrow.Author.Tests.{lt-ltb, le-ltb}
use lib.ListN.{length, take, drop, set, replicate, length-set, take-append-drop}
use lib.Seq.{take-suc-set, drop-set-lt, drop-drop, length-take-le}
use Rattle.meaning.specs.Calls.{laid_over}
use Rattle.line.specs.Line.{dot}
use Rattle.typed.specs.Typed.{number_of, states_on, config_of}
use Rattle.typed.specs.Typed.Laws.{number_most, split_some}
use Rattle.typed.specs.Parts.{Ends, behind_part, behind_more, behind-none}
use Rattle.typed.specs.declared.Configuration.{Configuration}
use Rattle.std.specs.Prelude.{Option}
use Rattle.std.specs.Prelude.{Some, None}
use Rattle.typed.proofs.config.Goals as goal
use Rattle.typed.proofs.config.Goals.{In-Some}
use Rattle.typed.proofs.config.Invariants.{So-far}

-- the answer that a list of states stands for
abbrev of : List ℕ → Configuration
of states = record { count = length states; states = laid_over states (replicate 64 0) }

module _ (w states : List ℕ) (count at : ℕ) (s : So-far w states count at) where
  abbrev done : List ℕ
  done = take count states

  length-done : length done ≡ count
  length-done = length-take-le count states (omega (arith, s.few, s.long))

  -- no more than 64 fit
  full : 64 ≤ count → config_of w ≡ []
  unfolding states_on
  full h = s.whole ∙ split_some dot (drop at w) (λ ps. states_on done ps ≡ [])
      (λ p ps. rw (le-ltb (length done) 64 (rw length-done h)))

  module _ (h : count < 64) (e : ℕ) (p : Ends dot w at e) (r : Option ℕ)
      (q : r ≡ number_of 255 (take (e - at) (drop at w))) where
    wrong : r ≡ None → config_of w ≡ []
    unfolding states_on
    wrong z = s.whole ∙ rw (p.parts, lt-ltb (length done) 64 (rw length-done h), ← q, z)

    module _ (n : ℕ) (z : r ≡ Some n) where
      done_more : take (count + 1) (set states count n) ≡ done ++ (n ∷ [])
      done_more = rw add-one (take-suc-set states count n (rw s.long h))

      behind_more' : drop (count + 1) (set states count n) ≡ drop (count + 1) (replicate 64 0)
      behind_more' = drop-set-lt (count + 1) states count n (omega arith) ∙ sym (drop-drop 1 count states)
          ∙ ap (drop 1) s.behind ∙ drop-drop 1 count (replicate 64 0)

      next : config_of w ≡ states_on (take (count + 1) (set states count n)) (behind_part dot w e)
      unfolding states_on
      next = s.whole ∙ rw (p.parts, lt-ltb (length done) 64 (rw length-done h), ← q, z, done_more)

      last : e ≡ length w → record { count = count + 1; states = set states count n } ≡ of (config_of w)
      unfolding states_on
      last l =
          let T = take (count + 1) (set states count n) in
          let k : config_of w ≡ T = next ∙ ap (states_on T) (behind-none dot w e (omega arith)) in
          let m : length T ≡ count + 1 =
          length-take-le (count + 1) (set states count n) (rw (length-set, s.long) (omega arith)) in
          rw k
          (ap₂ (λ (i : ℕ) (l : List ℕ). record { count = i; states = l }) (sym m)
          (sym (take-append-drop (count + 1) (set states count n))
          ∙ ap (λ (x : List ℕ). T ++ x) (behind_more' ∙ ap (λ (j : ℕ). drop j (replicate 64 0)) (sym m))))

      more : (e ≡ length w → ⊥) → So-far w (set states count n) (count + 1) (e + 1)
      more l =
          record {
            few = omega arith;
            within = omega (arith, p.within);
            long = rw length-set s.long;
            behind = behind_more';
            whole = next ∙ ap (states_on (take (count + 1) (set states count n)))
                (behind_more dot w e (omega (arith, p.within)));
          }

pub loop-count-init : goal.loop-count-init
unfolding config_of
loop-count-init c =
    record { few = omega arith; within = omega arith; long = refl; behind = refl; whole = refl }

pub returns-in_default : goal.returns-in_default
returns-in_default c =
    c.no_states.ensures ∙ sym (ap of (wrong _ _ _ c.loop-count.at c.loop-count.invariant c.loop-count-test.true _ c.end-e.ensures _
    c.number.ensures c.in_default.is))

-- a state is a byte
small : (c : In-Some) → c.in-Some.state ≤ 255
small c = number_most 255 _ _ (sym c.number.ensures ∙ c.in-Some.is)

pub returns-then-e-word : goal.returns-then-e-word
returns-then-e-word c =
    last _ _ _ c.loop-count.at c.loop-count.invariant c.loop-count-test.true _ c.end-e.ensures _ c.number.ensures _
    c.in-Some.is c.if-e-word.true

pub loop-count-preserved : goal.loop-count-preserved
loop-count-preserved c =
    more _ _ _ c.loop-count.at c.loop-count.invariant c.loop-count-test.true _ c.end-e.ensures _ c.number.ensures _
    c.in-Some.is c.if-e-word.false

pub returns : goal.returns
returns c =
    c.no_states-2.ensures ∙ sym (ap of (full _ _ _ c.loop-count.at c.loop-count.invariant c.loop-count-test.false))

pub end-e-requires : goal.end-e-requires
end-e-requires c = c.loop-count.invariant.within

pub overflow_cast-states : goal.overflow_cast-states
overflow_cast-states c = omega (arith, small (goal.at.overflow_cast-states c).In-Some)
