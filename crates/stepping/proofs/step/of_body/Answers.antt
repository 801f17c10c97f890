-- `step::of_body` meets its contract: 20 and 21, then 22, then what was found, which answers the step.
use mathlib.Core.Path.{◌≡◌, refl, sym, ap, ◌∙◌}
use mathlib.Core.Bool.{Bool}
use mathlib.Core.List.{List}
use Prim.Native.Nat.{ℕ, ◌≤◌, ◌<◌}
use native.Mathlib.Omega.{arith}
use lib.ListN.{take}
use Rattle.std.specs.Prelude.{Ok}
use Rattle.std.proofs.lemmas.Result.{err_from_is_err_and}
use Rattle.layout.specs.declared.body.Shape.{Shape}
use Rattle.meaning.specs.Numbers.{short_buffer, many_open}
use Rattle.meaning.specs.Meaning.{Set, Answer, refused, given}
use Rattle.meaning.specs.File.{file_at}
use Rattle.meaning.specs.Check.{first_of}
use Rattle.meaning.specs.Calls.{laid_over, open_for, next_in}
use Rattle.settling.specs.declared.Found.{Found}
use Rattle.checks.specs.Refusals.{number}
use Rattle.checks.specs.Refusals.Laws.{number-some}
use Rattle.checks.specs.declared.refusal.Refusal.{Refusal}
use Rattle.stepping.specs.Answer.{Steps}
use Rattle.stepping.specs.Step.{config_tests_in, step_after, places_after, tried_answer, tried_refusal, Tries}
use Rattle.stepping.specs.Step.Laws.{config_under, config-is, after_config, after_room, after-step, after_places}
use Rattle.stepping.specs.Step.Laws.{tried_refused, tried-given, refuses, says_none}
use Rattle.stepping.specs.declared.step.Tried.{Tried}
use Rattle.stepping.proofs.step.of_body.Goals as goal

-- a step given lays the next configuration over the buffer
gives : (a : Answer) (p p' b b' : List ℕ) (o : Set) (n : List ℕ) (m : Bool) (k k' : ℕ) → a ≡ given o n m
    → p' ≡ p → k ≡ k'
    → b' ≡ laid_over n b
    → Steps a p' (open_for a k') (Ok (record { places = p; output = o; open_choices = k; mark = m }))
    × (b' ≡ next_in a b)
gives a p p' b b' o n m k k' e q w h = rw (e, q, w, h) (refl, refl)

module _ (n : Shape) (b config : List ℕ) (i : Set) (room : ℕ) where
  module _ (r : Refusal) (e : number r ≡ first_of (config_tests_in (file_at n b) config)) where
    by_config : step_after (file_at n b) config i room ≡ refused (number r)
    by_config = rw e (after_config (file_at n b) config i room (λ z. number-some r (e ∙ z)))

    by-under : number r < many_open
    by-under = let l = config_under (file_at n b) config in omega (arith, e)

  -- the configuration is accepted
  module _ (z : 0 ≡ first_of (config_tests_in (file_at n b) config)) where
    by_room : room < n.charts → step_after (file_at n b) config i room ≡ refused short_buffer
    unfolding file_at
    by_room l = after_room (file_at n b) config i room (sym z) l

    module _ (l : n.charts ≤ room) (t : Tried) (h : Tries n b config i t) where
      -- what the step answers
      by-tried : step_after (file_at n b) config i room ≡ tried_answer n.charts t
      unfolding file_at
      by-tried = after-step (file_at n b) config i room (sym z) l ∙ sym h.answers

      by_refusal : (r : Refusal) → number r ≡ tried_refusal t → step_after (file_at n b) config i room ≡ refused (number r)
      by_refusal r q = by-tried ∙ rw q (tried_refused n.charts t (λ y. number-some r (q ∙ y)))

      module _ (f : Found) (q : (tried_refusal t ≡ 0) × (f ≡ t.found)) where
        by-given : step_after (file_at n b) config i room ≡ given f.output (take n.charts f.next) f.agree
        by-given = by-tried ∙ rw q.1 (tried-given n.charts t q.0)

        by_places : places_after (file_at n b) config i room ≡ f.places
        unfolding file_at
        by_places = after_places (file_at n b) config i room (sym z) l ∙ rw q.1 (sym h.places)

pub returns-in_err-test_config : goal.returns-in_err-test_config
returns-in_err-test_config c =
    let p = err_from_is_err_and c.from_residual.result c.from_residual.ensures.1 in
    let e = c.in_err-test_config.ensures in
    rw (p.1, p.2)
    (refuses _ _ _ _ _ (by_config _ _ _ c.args.input _ _ e) (says_none _ _ (by-under _ _ _ c.args.input 0 _ e)))

pub returns-then-next-n : goal.returns-then-next-n
returns-then-next-n c =
    rw c.into.ensures
    (refuses _ _ _ _ _ (by_room _ _ _ _ _ c.in_ok-test_config.ensures c.if-next-n.true) refl)

pub try_new-t-requires : goal.try_new-t-requires
try_new-t-requires c = (c.requires, config-is _ _ (sym c.in_ok-test_config.ensures))

pub returns-in_err-f : goal.returns-in_err-f
returns-in_err-f c =
    let p = err_from_is_err_and c.from_residual-in_err-f.result c.from_residual-in_err-f.ensures.1 in
    let e = c.in_err-f.ensures in
    rw (p.1, p.2)
    (refuses _ _ _ _ _ (by_refusal _ _ _ _ _ c.in_ok-test_config.ensures c.if-next-n.false _ c.try_new-t.ensures _ e.0)
    (e.1 ∙ ap (open_for (refused (number c.in_err-f.field-0.0.refusal))) c.try_new-t.ensures.counts))

pub returns : goal.returns
returns c =
    let e = c.in_ok-f.ensures in
    let k = c.in_ok-test_config.ensures in
    gives _ _ _ _ _ _ _ _ _ _ (by-given _ _ _ _ _ k c.if-next-n.false _ c.try_new-t.ensures _ e)
    (by_places _ _ _ _ _ k c.if-next-n.false _ c.try_new-t.ensures _ e) c.try_new-t.ensures.counts
    c.put_states.ensures
