-- Laws of refusals: no refusal has the number 0, no two have the same; what a call answers is determined, and is an
-- equation.
use Rattle.std.specs.Prelude.{◌≡◌, refl, ℕ, zero, suc, Result, Ok, Err}
use Rattle.std.proofs.Common.{sym, ap, ◌∙◌, arith, ne_eqb}
use Rattle.meaning.specs.Meaning.{same}
use Rattle.checks.specs.Refusals.{number, numbered, Answers, answer}
use Rattle.checks.specs.declared.refusal.Refusal.{Refusal}

pub number-some : (r : Refusal) → number r ≡ 0 → ⊥
number-some r h = grind arith

pub number-one : (r s : Refusal) → number r ≡ number s → r ≡ s
number-one r s h = grind arith

pub answers-one : {A : Type 0} → (n : ℕ) (x : A) (r s : Result A Refusal) → Answers n x r → Answers n x s → r ≡ s
answers-one n x (Ok a) (Ok b) h k = ap Ok (h.1 ∙ sym k.1)
answers-one n x (Ok a) (Err e) h k = absurd (number-some e (k ∙ h.0))
answers-one n x (Err d) (Ok b) h k = absurd (number-some d (h ∙ k.0))
answers-one n x (Err d) (Err e) h k = ap Err (number-one d e (h ∙ sym k))

pub numbered-one : {A : Type 0} → (r s : Result A Refusal) → numbered r ≡ numbered s → r ≡ s
numbered-one (Ok a) (Ok b) h = grind arith
numbered-one (Ok a) (Err e) h = grind arith
numbered-one (Err d) (Ok b) h = grind arith
numbered-one (Err d) (Err e) h = ap Err (number-one d e (grind arith))

pub answers-equation : {A : Type 0} → (n : ℕ) (x : A) (r : Result A Refusal) → Answers n x r → numbered r ≡ answer n x
unfolding same
answers-equation n x (Ok y) h = rw (h.0, h.1) refl
answers-equation n x (Err e) h = rw (sym h, ne_eqb (number e) 0 (number-some e)) refl

pub equation-answers : {A : Type 0} → (n : ℕ) (x : A) (r : Result A Refusal) → numbered r ≡ answer n x → Answers n x r
unfolding same
equation-answers zero x (Ok y) h = (refl, grind arith)
equation-answers zero x (Err e) h = grind arith
equation-answers (suc n) x (Ok y) h = grind arith
equation-answers (suc n) x (Err e) h = grind arith
