-- Two files that step alike are answered alike by every call that makes steps. In this order: `ConfigsAlike` and
-- `StepsAlike`, over records; the rows of a run and what it carries; then over bytes, where both files have the same
-- refusal of 1 to 11: with the same configurations, the refusals of each call and the first configuration
-- (`first_alike`); with the same steps, a step (`step_alike`) and a run (`run_alike`, `run_carried_alike`). What the
-- bytes hold counts only where the file is accepted.
use Rattle.std.specs.Prelude.{◌≡◌, Bool, true, false, cond, ℕ, ◌+◌, ◌*◌, ◌≤◌, ◌<◌, get_or}
use Rattle.std.proofs.Math.Path.{refl, ap, ap₂}
use Rattle.std.proofs.Common.{sym, ◌∙◌, ⊎_elim}
use mathlib.Core.List.{List, [], ◌∷◌, ◌++◌, append_assoc}
use Rattle.std.proofs.Math.Dec.{ltb}
use Rattle.std.proofs.Math.ListN.{length}
use Rattle.signals.specs.Mask.{◌∪◌}
use Rattle.meaning.specs.Numbers.{wrong_length, bad_state, short_buffer, short_rows}
use Rattle.meaning.specs.Sums.{any_up_to}
use Rattle.meaning.specs.Sums.Laws.{any_cong}
use Rattle.meaning.specs.Meaning.{Set, ∅, same, refused}
use Rattle.meaning.specs.File.{File, trailer, shape_of, file_at, file_of}
use Rattle.meaning.specs.Check.{Test, first_of, differ, not_below, file_tests, refusal_of}
use Rattle.meaning.specs.Check.Laws.{eq_or-not, call_refused, call-passed, in_front_lem, passed, counted}
use Rattle.meaning.specs.Check.Nodes.{Treed, treed, Sound, sound}
use Rattle.meaning.specs.Calls.{made, laid_over, first_refusal, initials, first_bytes, config_tests, step_refusal}
use Rattle.meaning.specs.Calls.{step_in, step_of, run_refusal, after_step, carried_after, row_of, rows_of, carried_of}
use Rattle.meaning.specs.Calls.{run_bytes, run_carried}
use Rattle.meaning.specs.Calls.Laws.{made_cong, step_allowed, run_allowed}
use Rattle.meaning.specs.Laws.Bools.{same→≡}

-- ── an accepted file ──

module _ (f : List ℕ) (e : refusal_of f ≡ 0) where
  -- its trees are made of lower nodes and of its own charts
  pub accepted_treed : Treed (file_of f)
  accepted_treed = let p = passed f e in treed (file_of f) p.slaves p.nodes p.naming

  -- and there is a last node, the whole
  pub accepted_sound : Sound (file_of f)
  accepted_sound = let p = passed f e in sound (file_of f) p.slaves p.nodes p.naming p.inside

  pub accepted_node : 1 ≤ (file_of f).nodes
  unfolding file_of file_at shape_of
  accepted_node = (counted (trailer f) (passed f e).counts).some_node

-- ── over records ──

-- G has as many charts as F, with the same number of states and the same initial states
pub record ConfigsAlike (F G : File) : Type 0 where
  pub charts : G.charts ≡ F.charts
  pub states : (c : ℕ) → c < F.charts → (G.chart c).states ≡ (F.chart c).states
  pub initials : (c : ℕ) → c < F.charts → (G.chart c).initial ≡ (F.chart c).initial

-- and steps as F does
pub record StepsAlike (F G : File) : Type 0 where
  pub configs : ConfigsAlike F G
  pub step : (config : List ℕ) (i : Set) → step_in G config i ≡ step_in F config i

module _ (F G : File) (s : StepsAlike F G) where
  pub rows_alike : (inputs : List Set) (config : List ℕ) (carried : Set)
      → rows_of G config carried inputs ≡ rows_of F config carried inputs
  unfolding rows_of
  rows_alike [] config carried = refl
  rows_alike (i ∷ is) config carried =
      let a = step_in F config (carried ∪ i) in
      ap (λ z. row_of z config ++ rows_of G (after_step z config) (carried_after z (carried ∪ i)) is)
      (s.step config (carried ∪ i))
      ∙ ap (λ z. row_of a config ++ z) (rows_alike is (after_step a config) (carried_after a (carried ∪ i)))

  pub carried_alike : (inputs : List Set) (config : List ℕ) (carried : Set)
      → carried_of G config carried inputs ≡ carried_of F config carried inputs
  unfolding carried_of
  carried_alike [] config carried = refl
  carried_alike (i ∷ is) config carried =
      let a = step_in F config (carried ∪ i) in
      ap (λ z. carried_of G (after_step z config) (carried_after z (carried ∪ i)) is) (s.step config (carried ∪ i))
      ∙ carried_alike is (after_step a config) (carried_after a (carried ∪ i))

-- ── over bytes ──

-- what a call answers, by its refusal: the same where the refusal is the same, and, where there is none, what is behind
-- it
pub answer_alike : {A : Type 0} (n n' : ℕ) → n' ≡ n → (x x' : A) (other : ℕ → A) → (n ≡ 0 → x' ≡ x)
    → cond (same n' 0) x' (other n') ≡ cond (same n 0) x (other n)
answer_alike n n' e x x' other h = ap (λ k. cond (same k 0) x' (other k)) e ∙ go (same n 0) refl
  where
    go : (b : Bool) → same n 0 ≡ b → cond b x' (other n) ≡ cond b x (other n)
    go true q = h (same→≡ n 0 q)
    go false q = refl

module _ (f f' : List ℕ) (rs : refusal_of f' ≡ refusal_of f) where
  -- 1 to 11, and then some tests that are only made of an accepted file
  pub tests_alike : (us us' : List Test) → (refusal_of f ≡ 0 → first_of us' ≡ first_of us)
      → first_of (file_tests f' ++ us') ≡ first_of (file_tests f ++ us)
  tests_alike us us' h =
      ⊎_elim
      (λ e. call-passed f' us' (rs ∙ e) ∙ h e ∙ sym (call-passed f us e))
      (λ e. call_refused f' us' (λ z. e (sym rs ∙ z)) ∙ rs ∙ sym (call_refused f us e))
      (eq_or-not (refusal_of f) 0)

  -- the same configurations
  module _ (st : refusal_of f ≡ 0 → ConfigsAlike (file_of f) (file_of f')) where
    -- the first one
    pub first_refusal_alike : (room : ℕ) → first_refusal f' room ≡ first_refusal f room
    unfolding first_refusal
    first_refusal_alike room =
        tests_alike _ _ (λ e. ap (λ n. first_of (record { number = short_buffer; applies = ltb room n } ∷ []))
        (st e).charts)

    pub first_alike : (buffer : List ℕ) → first_bytes f' buffer ≡ first_bytes f buffer
    unfolding first_bytes first_refusal initials
    first_alike buffer =
        answer_alike (first_refusal f (length buffer)) (first_refusal f' (length buffer))
        (first_refusal_alike (length buffer))
        (laid_over (initials f) buffer) (laid_over (initials f') buffer) (λ n. buffer)
        (λ e. let s = st (in_front_lem f _ e).0 in
        ap (λ xs. laid_over xs buffer)
        (ap (λ n. made n (λ c. ((file_of f').chart c).initial)) s.charts
        ∙ made_cong (file_of f).charts _ _ s.initials))

    -- 20, 21 and one test more
    config_alike : (config : List ℕ) → refusal_of f ≡ 0 → config_tests f' config ≡ config_tests f config
    unfolding config_tests
    config_alike config e =
        let s = st e in
        ap₂
        (λ n b. record { number = wrong_length; applies = differ (length config) n }
        ∷ record { number = bad_state; applies = b }
        ∷ [])
        s.charts
        (ap (λ n. any_up_to n (λ c. not_below (get_or config c 0) ((file_of f').chart c).states)) s.charts
        ∙ any_cong (file_of f).charts _ _ (λ c l. ap (not_below (get_or config c 0)) (s.states c l)))

    call_alike : (config : List ℕ) (u : ℕ → Test)
        → first_of ((file_tests f' ++ config_tests f' config) ++ (u (file_of f').charts ∷ []))
        ≡ first_of ((file_tests f ++ config_tests f config) ++ (u (file_of f).charts ∷ []))
    call_alike config u =
        ap first_of (append_assoc (file_tests f') (config_tests f' config) (u (file_of f').charts ∷ []))
        ∙ tests_alike _ _ (λ e. ap₂ (λ ts n. first_of (ts ++ (u n ∷ []))) (config_alike config e) (st e).charts)
        ∙ sym (ap first_of (append_assoc (file_tests f) (config_tests f config) (u (file_of f).charts ∷ [])))

    -- a step's refusal, up to 22, and a run's
    pub step_refusal_alike : (config : List ℕ) (room : ℕ) → step_refusal f' config room ≡ step_refusal f config room
    unfolding step_refusal
    step_refusal_alike config room = call_alike config (λ n. record { number = short_buffer; applies = ltb room n })

    pub run_refusal_alike : (config : List ℕ) (inputs room : ℕ)
        → run_refusal f' config inputs room ≡ run_refusal f config inputs room
    unfolding run_refusal
    run_refusal_alike config inputs room =
        call_alike config (λ n. record { number = short_rows; applies = ltb room (inputs * (10 + n)) })

  -- and the same steps
  module _ (st : refusal_of f ≡ 0 → StepsAlike (file_of f) (file_of f')) where
    abbrev cs : refusal_of f ≡ 0 → ConfigsAlike (file_of f) (file_of f')
    cs e = (st e).configs

    -- a step
    pub step_alike : (config : List ℕ) (i : Set) (room : ℕ) → step_of f' config i room ≡ step_of f config i room
    unfolding step_of
    step_alike config i room =
        answer_alike (step_refusal f config room) (step_refusal f' config room) (step_refusal_alike cs config room)
        (step_in (file_of f) config i) (step_in (file_of f') config i) refused
        (λ e. (st (step_allowed f config room e).0).step config i)

    -- a run
    module _ (config : List ℕ) (carried : Set) (inputs : List Set) where
      pub run_alike : (rows : List ℕ) → run_bytes f' config carried inputs rows ≡ run_bytes f config carried inputs rows
      unfolding run_bytes
      run_alike rows =
          let n = length inputs in
          answer_alike (run_refusal f config n (length rows)) (run_refusal f' config n (length rows))
          (run_refusal_alike cs config n (length rows))
          (laid_over (rows_of (file_of f) config carried inputs) rows)
          (laid_over (rows_of (file_of f') config carried inputs) rows) (λ n. rows)
          (λ e. ap (λ z. laid_over z rows)
          (rows_alike (file_of f) (file_of f') (st (run_allowed f config _ _ e).0) inputs config carried))

      pub run_carried_alike : (room : ℕ)
          → run_carried f' config carried inputs room ≡ run_carried f config carried inputs room
      unfolding run_carried
      run_carried_alike room =
          answer_alike (run_refusal f config (length inputs) room) (run_refusal f' config (length inputs) room)
          (run_refusal_alike cs config (length inputs) room)
          (carried_of (file_of f) config carried inputs) (carried_of (file_of f') config carried inputs) (λ n. ∅)
          (λ e. carried_alike (file_of f) (file_of f') (st (run_allowed f config _ _ e).0) inputs config carried)
