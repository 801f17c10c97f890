-- `step::test_config` meets its contract: 20, then 21, then neither. Assumes nothing.
use mathlib.Core.Path.{◌≡◌, sym, ap, ◌∙◌}
use mathlib.Core.Bool.{Bool, true, false, not}
use mathlib.Core.List.{List}
use Prim.Native.Nat.{ℕ}
use lib.ListN.{length, get_or}
use Rattle.layout.specs.Body.{head_at}
use Rattle.layout.specs.declared.body.Shape.{Shape}
use Rattle.meaning.specs.Numbers.{wrong_length, bad_state}
use Rattle.meaning.specs.Sums.{any_up_to}
use Rattle.meaning.specs.Laws.Bools.{same_refl, same_≢}
use Rattle.meaning.specs.Meaning.{same}
use Rattle.meaning.specs.File.{chart_of, file_at}
use Rattle.meaning.specs.Check.{first_of, not_below}
use Rattle.meaning.specs.Check.Laws.{first_of_here, first_of-next, first_of_[]}
use Rattle.stepping.specs.Step.{config_tests_in}
use Rattle.stepping.proofs.step.test_config.Goals as goal

module _ (n : Shape) (b config : List ℕ) where
  by_length : (length config ≡ n.charts → ⊥) → wrong_length ≡ first_of (config_tests_in (file_at n b) config)
  unfolding config_tests_in file_at
  by_length h = sym (first_of_here _ _ (ap not (same_≢ (length config) n.charts h)))

  -- the length is right
  module _ (e : length config ≡ n.charts) (r : Bool)
      (is : r ≡ any_up_to n.charts (λ c. not_below (get_or config c 0) (head_at n b c).states)) where
    long : not (same (length config) n.charts) ≡ false
    long = ap not (ap (λ (k : ℕ). same k n.charts) e ∙ same_refl n.charts)

    by_state_lem : r ≡ true → bad_state ≡ first_of (config_tests_in (file_at n b) config)
    unfolding config_tests_in file_at chart_of
    by_state_lem h = sym (first_of-next _ _ long ∙ first_of_here _ _ (sym is ∙ h))

    by-none : r ≡ false → 0 ≡ first_of (config_tests_in (file_at n b) config)
    unfolding config_tests_in file_at chart_of
    by-none h = sym (first_of-next _ _ long ∙ first_of-next _ _ (sym is ∙ h) ∙ first_of_[])

pub returns-then-config-n : goal.returns-then-config-n
returns-then-config-n c = by_length _ _ _ c.if-config-n.true

pub returns-then-bad_states : goal.returns-then-bad_states
returns-then-bad_states c =
    by_state_lem _ _ _ c.if-config-n.false _ c.bad_states.ensures c.if-bad_states.true

pub returns : goal.returns
returns c = by-none _ _ _ c.if-config-n.false _ c.bad_states.ensures c.if-bad_states.false
