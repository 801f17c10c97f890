-- When a step is refused with 24, when with 23, and what it says of open choices (RULES 3.3, 5.9, 5.15). In this order,
-- of a file in order: the number decides (`step-many`, `step_few`, `many_only`); a step that is not refused with 24 is
-- what is found (`found_or-many`). Then of any bytes, as `step` answers them: 24 exactly where more than 16,777,216
-- choices are open and no test before it applies (`refused_many`, `many_refused`); else a step is what is found
-- (`few_found`), given where some choice is permitted (`given_where`), and 23 says that none is (`none_refused`,
-- `refused_none`), as where none is open (`no_open_refused`); a permitted choice is open (`permitted-opens`), so where
-- a step is given some choice is, and not too many are (`given-opens`); the number in an answer (`open_below`,
-- `open_given`, `open_many`).
use Rattle.std.specs.Prelude.{◌≡◌, Bool, ◌&&◌, ◌≢◌, ◌⊎◌, List, [], ◌∷◌, ℕ, zero, suc, ◌≤◌, ◌<◌, ltb, get_or}
use Rattle.std.proofs.Math.Path.{refl, ap}
use Rattle.std.proofs.Common.{sym, ◌∙◌, inl, inr, arith, lit<}
use Rattle.std.proofs.Math.Bool.{true, false, cond}
use borrow.Author.Tests.{ltb-true, ltb-false, lt-ltb, le-ltb}
use Rattle.meaning.specs.Numbers.{most_open, no_step, many_open}
use Rattle.meaning.specs.Meaning.{Set, same, Outcome, refused, given, answer, moves}
use Rattle.meaning.specs.File.{File, whole_of, file_of}
use Rattle.meaning.specs.Check.{Test, first_of, file_tests}
use Rattle.meaning.specs.Open.{is_open, open_in}
use Rattle.meaning.specs.Calls.{config_tests, step_refusal, outcomes_in, found_in, many_open?, step_in, step_of}
use Rattle.meaning.specs.Calls.{open_for, open_of, places_found, places_of}
use Rattle.meaning.specs.Calls.Laws.{step_by, places_by_lem, step_open, step_allowed, behind_is, Answered, answered}
use Rattle.meaning.specs.Words.{PermittedChoice, Allowed}
use Rattle.meaning.specs.Laws.Bools.{and_l, and_r, same→≡}
use Rattle.meaning.proofs.Laws.Open.{permitted_open, none_open_in}
use Rattle.meaning.proofs.Laws.Demand2.{given_if, refused_if}

-- ── a file in order ──

-- a search gives no 24
found_not : (os : List Outcome) → answer os ≢ refused many_open
unfolding answer
found_not [] e = let z : no_step ≡ many_open = cc in omega arith
found_not (a ∷ as') e = let z : ◌≡◌ {A = ℕ} 0 1 = cc in omega arith

module _ (F : File) (config : List ℕ) (i : Set) where
  -- the test is the number's
  pub many_is : most_open < open_in F config → many_open? F config ≡ true
  unfolding many_open?
  many_is h = lt-ltb most_open (open_in F config) h

  pub few_is : open_in F config ≤ most_open → many_open? F config ≡ false
  unfolding many_open?
  few_is h = le-ltb most_open (open_in F config) h

  pub is_many : many_open? F config ≡ true → most_open < open_in F config
  unfolding many_open?
  is_many e = ltb-true most_open (open_in F config) e

  pub is_few : many_open? F config ≡ false → open_in F config ≤ most_open
  unfolding many_open?
  is_few e = ltb-false most_open (open_in F config) e

  pub step-many : most_open < open_in F config → step_in F config i ≡ refused many_open
  step-many h = step_by F config i true (many_is h)

  pub step_few : open_in F config ≤ most_open → step_in F config i ≡ found_in F config i
  step_few h = step_by F config i false (few_is h)

  -- one or the other
  abbrev pub Decided : Type 0
  Decided =
      ((many_open? F config ≡ true) × (step_in F config i ≡ refused many_open))
      ⊎ ((many_open? F config ≡ false) × (step_in F config i ≡ found_in F config i))

  pub found_or-many : Decided
  found_or-many = go (many_open? F config) refl
    where
      go : (b : Bool) → many_open? F config ≡ b → Decided
      go true e = inl (e, step_by F config i true e)
      go false e = inr (e, step_by F config i false e)

  pub many_only : step_in F config i ≡ refused many_open → most_open < open_in F config
  many_only e = go found_or-many
    where
      go : Decided → most_open < open_in F config
      go (inl q) = is_many q.0
      go (inr q) = absurd (unfold found_in in found_not (outcomes_in F config i) (sym q.1 ∙ e))

-- ── as `step` answers it ──

-- every test of a list is numbered below 23
abbrev pub under? : List Test → Bool
under? [] = true
under? (t ∷ ts) = ltb t.number no_step && under? ts

pub first_under : (ts : List Test) → under? ts ≡ true → first_of ts < no_step
unfolding first_of
first_under [] h = lit< tt
first_under (t ∷ ts) h = go t.applies (first_under ts (and_r (ltb t.number no_step) _ h))
  where
    go : (b : Bool) → first_of ts < no_step → cond b t.number (first_of ts) < no_step
    go true r = ltb-true t.number no_step (and_l _ _ h)
    go false r = r

-- no test before 24 has its number, or 23
pub refusal_under : (f config : List ℕ) (room : ℕ) → step_refusal f config room < no_step
unfolding step_refusal file_tests config_tests
refusal_under f config room = first_under _ refl

module _ (f config : List ℕ) (i : Set) (room : ℕ) where
  abbrev F : File
  F = file_of f

  abbrev cfg : ℕ → ℕ
  cfg c = get_or config c 0

  in_order : Allowed f config room → step_of f config i room ≡ step_in F config i
  unfolding step_of
  in_order h = behind_is (step_refusal f config room) _ _ (step_open f config room h.0 h.1 h.2)

  -- a refusal with 23 or more is none of those tests'
  pub behind_tests : (r : ℕ) → no_step ≤ r → step_of f config i room ≡ refused r
      → Allowed f config room × (step_in F config i ≡ refused r)
  unfolding step_of
  behind_tests r l e = go (same (step_refusal f config room) 0) refl e
    where
      go : (b : Bool) → same (step_refusal f config room) 0 ≡ b
          → cond b (step_in F config i) (refused (step_refusal f config room)) ≡ refused r
          → Allowed f config room × (step_in F config i ≡ refused r)
      go true q h = (step_allowed f config room (same→≡ _ 0 q), h)
      go false q h =
          absurd (let z : step_refusal f config room ≡ r = cc in let u = refusal_under f config room in omega arith)

  -- 24
  pub many_refused : Allowed f config room → most_open < open_in F config → step_of f config i room ≡ refused many_open
  many_refused h l = in_order h ∙ step-many F config i l

  pub refused_many : step_of f config i room ≡ refused many_open
      → Allowed f config room × (most_open < open_in F config)
  refused_many e =
      let h = behind_tests many_open (lit< tt) e in (h.0, many_only F config i h.1)

  -- where no more are open
  module _ (h : Allowed f config room) (l : open_in F config ≤ most_open) where
    -- answer and places are what is found
    pub few_found : (step_of f config i room ≡ found_in F config i)
        × (places_of f config i room ≡ places_found F config i)
    unfolding places_of
    few_found = (
      in_order h ∙ step_few F config i l,
      behind_is (step_refusal f config room) _ _ (step_open f config room h.0 h.1 h.2)
          ∙ places_by_lem F config i false (few_is F config i l),
    )

    pub given_where : (ch : ℕ → ℕ) → PermittedChoice f config i ch
        → (o : Set) × (n : List ℕ) × (m : Bool) × (step_of f config i room ≡ given o n m)
    unfolding found_in
    given_where ch t =
        let g = given_if F.chart F.state cfg (whole_of F) i F.charts ch t.0 t.1 in
        (g.0, g.1, g.2, few_found.0 ∙ g.3)

    pub none_refused : ((ch : ℕ → ℕ) → PermittedChoice f config i ch → ⊥) → step_of f config i room ≡ refused no_step
    unfolding found_in
    none_refused none_there =
        few_found.0
        ∙ refused_if F.chart F.state cfg (whole_of F) i F.charts (λ ch c p. none_there ch (c, p))

  -- 23: no choice is permitted, and no more are open
  pub refused_none : step_of f config i room ≡ refused no_step
      → Allowed f config room × (open_in F config ≤ most_open) × ((ch : ℕ → ℕ) → PermittedChoice f config i ch → ⊥)
  refused_none e = go (found_or-many F config i)
    where
      h : Allowed f config room × (step_in F config i ≡ refused no_step)
      h = behind_tests no_step (omega arith) e

      go : Decided F config i
          → Allowed f config room × (open_in F config ≤ most_open) × ((ch : ℕ → ℕ) → PermittedChoice f config i ch → ⊥)
      go (inl q) = absurd (let y = sym q.1 ∙ h.1 in let z : many_open ≡ no_step = cc in omega arith)
      go (inr q) = (
        h.0,
        is_few F config i q.0,
        λ ch t. let g = given_where h.0 (is_few F config i q.0) ch t in
            let y = sym e ∙ g.3 in
            absurd (let z : ◌≡◌ {A = ℕ} 0 1 = cc in omega arith),
      )

  pub no_open_refused : Allowed f config room → open_in F config ≡ 0 → step_of f config i room ≡ refused no_step
  unfolding found_in answer
  no_open_refused h e = (few_found h (rw e (omega arith))).0 ∙ ap answer (none_open_in F config i e)

  -- a permitted choice is open
  pub permitted-opens : (ch : ℕ → ℕ) → PermittedChoice f config i ch
      → is_open F.chart F.state cfg (moves F.chart ch) (whole_of F) ≡ true
  permitted-opens ch t = permitted_open F.chart F.state cfg (moves F.chart ch) (whole_of F) i t.1

  -- so one is, where a step is given
  pub given-opens : (o : Set) (n : List ℕ) (m : Bool) → step_of f config i room ≡ given o n m
      → (0 < open_in F config) × (open_in F config ≤ most_open)
  given-opens o n m e = (some_open (open_in F config) refl, is_few F config i w.few_open)
    where
      w : Answered f config i room o n m
      w = answered f config i room o n m e

      some_open : (k : ℕ) → open_in F config ≡ k → 0 < k
      some_open (suc k) q = omega arith
      some_open zero q =
          absurd (let h = step_allowed f config room w.passes in
          let y = sym e ∙ no_open_refused h q in
          let z : ◌≡◌ {A = ℕ} 0 1 = cc in omega arith)

  -- ── the number in an answer ──

  -- 0 in every refusal below 24
  pub open_below : (r : ℕ) → r < many_open → step_of f config i room ≡ refused r → open_of f config i room ≡ 0
  unfolding open_of
  open_below r l e =
      ap (λ a. open_for a (open_in F config)) e ∙ ap (λ b. cond b 0 (open_in F config)) (lt-ltb r many_open l)

  -- the true number in a step that is given
  pub open_given : (o : Set) (n : List ℕ) (m : Bool) → step_of f config i room ≡ given o n m
      → open_of f config i room ≡ open_in F config
  unfolding open_of
  open_given o n m e = ap (λ a. open_for a (open_in F config)) e

  -- and in 24, where it is too large
  pub open_many : step_of f config i room ≡ refused many_open
      → (open_of f config i room ≡ open_in F config) × (most_open < open_of f config i room)
  unfolding open_of
  open_many e =
      let q : open_for (step_of f config i room) (open_in F config) ≡ open_in F config =
      ap (λ a. open_for a (open_in F config)) e in
      (q, rw q (refused_many e).1)
