-- Laws of what a step answers: that the result has what the answer says, and that the answer determines it.
use Rattle.std.specs.Prelude.{◌≡◌, List, ℕ, Result, Ok, Err}
use Rattle.std.proofs.Math.Path.{refl}
use Rattle.std.proofs.Common.{sym, ap, ◌∙◌}
use Rattle.meaning.specs.Meaning.{Answer, refused, given}
use Rattle.meaning.specs.Calls.{refusal_in, output_in, mark_in}
use Rattle.checks.specs.Refusals.{number}
use Rattle.checks.specs.Refusals.Laws.{number-one}
use Rattle.stepping.specs.Answer.{Steps}
use Rattle.stepping.specs.declared.step.Stepped.{Stepped}
use Rattle.stepping.specs.declared.step.Refused.{Refused}

pub steps-given : (a : Answer) (places : List ℕ) (k : ℕ) (s : Stepped) → Steps a places k (Ok s)
    → (refusal_in a ≡ 0) × (s.output ≡ output_in a) × (s.mark ≡ mark_in a) × (s.places ≡ places)
    × (s.open_choices ≡ k)
steps-given (given o next m) places k s h = rw h (refl, refl, refl, refl, refl)
steps-given (refused r) places k s h = absurd h

pub steps-refused : (a : Answer) (places : List ℕ) (k : ℕ) (e : Refused) → Steps a places k (Err e)
    → (a ≡ refused (number e.refusal)) × (e.open_choices ≡ k)
steps-refused (given o next m) places k e h = absurd h
steps-refused (refused r) places k e h = (ap refused (sym h.0), h.1)

pub steps-one : (a : Answer) (places : List ℕ) (k : ℕ) (r s : Result Stepped Refused) → Steps a places k r
    → Steps a places k s → r ≡ s
steps-one (given o next m) places k (Ok x) (Ok y) h w = ap Ok (h ∙ sym w)
steps-one (given o next m) places k (Ok x) (Err e) h w = absurd w
steps-one (given o next m) places k (Err e) s h w = absurd h
steps-one (refused r) places k (Ok x) s h w = absurd h
steps-one (refused r) places k (Err d) (Ok y) h w = absurd w
steps-one (refused r) places k (Err d) (Err e) h w =
    let q : d.refusal ≡ e.refusal = number-one d.refusal e.refusal (h.0 ∙ sym w.0) in
    let o : d.open_choices ≡ e.open_choices = h.1 ∙ sym w.1 in
    ap Err (λ j. record { refusal = q j; open_choices = o j })
