-- `consult::ask` meets its contract, by the step's alone.
use mathlib.Core.Path.{◌≡◌, sym}
use mathlib.Core.List.{List}
use Prim.Native.Nat.{ℕ, ◌≤◌}
use native.Mathlib.Omega.{arith}
use borrow.Author.Rules.{rules}
use lib.ListN.{length, take}
use lib.Seq.{length-take-le}
use Rattle.std.specs.Prelude.{Ok, Err}
use Rattle.meaning.specs.Meaning.{Answer, Set, refused, given}
use Rattle.meaning.specs.Calls.{step_of, next_in}
use Rattle.stepping.specs.Answer.{Steps}
use Rattle.stepping.specs.declared.step.Stepped.{Stepped}
use Rattle.stepping.specs.declared.step.Refused.{Refused}
use Rattle.desk.specs.Posting.{width}
use Rattle.desk.specs.Turns.{asked_of, Replies}
use Rattle.desk.proofs.Turns.Posted.{first-bytes}
use Rattle.consult.proofs.ask.Goals as goal

replies : (a : Answer) (places : List ℕ) (k : ℕ) (s : Stepped) (config next : List ℕ) → Steps a places k (Ok s)
    → next ≡ next_in a config → Replies a config (Ok (record { output = s.output; mark = s.mark; next = next }))
replies (given o n m) places k s config next h e = rw (h, e)
replies (refused r) places k s config next h e = absurd h

refuses : (a : Answer) (places : List ℕ) (k : ℕ) (e : Refused) (config : List ℕ) → Steps a places k (Err e)
    → Replies a config (Err e.refusal)
refuses (given o n m) places k e config h = absurd h
refuses (refused r) places k e config h = h.0

-- the step is asked for with the record's first bytes, and with its room
asks : (f config : List ℕ) (n : ℕ) (i : Set) → length config ≡ width → n ≤ width
    → step_of f (take n config) i (length config) ≡ asked_of f config n i
asks f config n i h l = rw (h, first-bytes n config (omega arith))

pub slice_bounds-step-end : goal.slice_bounds-step-end
slice_bounds-step-end c = sym (length-take-le _ _ (search rules))

pub returns-in-Ok : goal.returns-in-Ok
returns-in-Ok c =
    let a = c.args in
    let e = c.in-Ok.ensures in
    rw (← asks a.file.now a.config a.n a.offered (search rules) c.requires)
    (replies _ _ _ c.in-Ok.s a.config _ e.0 e.1)

pub returns-in-Err : goal.returns-in-Err
returns-in-Err c =
    let a = c.args in
    rw (← asks a.file.now a.config a.n a.offered (search rules) c.requires)
    (refuses _ _ _ c.in-Err.e a.config c.in-Err.ensures.0)
