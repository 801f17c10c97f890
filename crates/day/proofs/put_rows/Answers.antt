-- `put_rows` meets its contract: the run from the first configuration is not refused, and leaves its rows.
use mathlib.Core.Path.{◌≡◌, sym, ap, ◌∙◌}
use mathlib.Core.List.{List, ◌++◌}
use Prim.Native.Nat.{ℕ, ◌+◌, ◌*◌, ◌≤◌}
use native.Mathlib.Omega.{arith}
use lib.ListN.{length, take, drop, length-append}
use lib.Seq.{take_at, length-take-le}
use Rattle.meaning.specs.Meaning.{∅}
use Rattle.layout.specs.declared.body.Shape.{Shape}
use Rattle.meaning.specs.File.{file_at, file_of}
use Rattle.meaning.specs.Calls.{laid_over, initials, rows_of}
use Rattle.stepping.specs.Step.Laws.{file_is}
use Rattle.running.specs.Run.{run_after}
use Rattle.running.specs.Run.Laws.{bytes-passed}
use Rattle.line.specs.Line.{inputs_of}
use Rattle.day.specs.Day.{Accepted, Body}
use Rattle.day.specs.Day.Laws.{initials-valid, starts, runs, length-inputs}
use Rattle.day.proofs.put_rows.Goals as goal
use Rattle.day.proofs.put_rows.Goals.{After-config-3-1, After-inputs-1, Start}

module _ (f : List ℕ) (n : Shape) (b : List ℕ) (k : ℕ) (a : Accepted f n.charts k) (w : Body f n b)
    (config inputs rows rows' : List ℕ) (c : config ≡ initials f) (i : inputs ≡ inputs_of k f)
    (l : k * (10 + n.charts) ≤ length rows) where
  ran : rows' ≡ run_after (file_at n b) config ∅ inputs rows
      → rows' ≡ laid_over (rows_of (file_of f) (initials f) ∅ (inputs_of k f)) rows
  ran p =
      let r : length (inputs_of k f) * (10 + (file_of f).charts) ≤ length rows =
      rw (length-inputs k f, ← a.charts_is) l in
      rw (← file_is f n b w.shape w.body, c, i) at p
      ∙ sym (bytes-passed f (initials f) ∅ (inputs_of k f) rows a.passes)
      ∙ runs f a.passes (initials f) (inputs_of k f) rows (initials-valid f a.passes) r

-- the part of the array that was lent is the inputs
lent : (n m : ℕ) (f part rest : List ℕ) → m ≡ n → part ≡ inputs_of m f → take n (part ++ rest) ≡ inputs_of n f
lent n m f part rest e p = rw (p, e) (take_at (inputs_of n f) rest n (length-inputs n f))

asked : (c : After-inputs-1) → length (take c.args.count c.input_room-inputs.result) ≡ c.args.count
asked c =
    length-take-le c.args.count c.input_room-inputs.result
    (omega (arith, c.requires.2, c.input_room-inputs.ensures))

-- the function's entry, from where the first configuration is lent
abbrev entry : After-config-3-1 → Start
entry c = (goal.at.After-config-3-1 c).Start

config-is : (c : After-config-3-1)
    → take (entry c).args.n.charts c.put_initials.new.config
    ≡ initials (entry c).args.input.now
config-is c =
    let s = entry c in
    starts _ s.requires.0.passes _ _ _ _ s.requires.1 s.requires.0.charts_is c.put_initials.ensures

inputs_are : (c : After-config-3-1)
    → take (entry c).args.count
    (c.read_inputs.new.inputs ++ drop (entry c).args.count c.input_room-inputs.result)
    ≡ inputs_of (entry c).args.count (entry c).args.input.now
inputs_are c = lent _ _ _ _ _ (asked (goal.at.After-config-3-1 c).After-inputs-1) c.read_inputs.ensures

pub put_initials-requires : goal.put_initials-requires
put_initials-requires c = (c.requires.1.checked.sized.holds, c.requires.0.few)

pub read_inputs-requires : goal.read_inputs-requires
read_inputs-requires c =
    omega (arith, asked (goal.at.read_inputs-requires c).After-inputs-1, c.requires.0.within)

pub slice_bounds-of_body-end : goal.slice_bounds-of_body-end
slice_bounds-of_body-end c =
    let s = entry (goal.at.slice_bounds-of_body-end c).After-config-3-1 in
    sym (ap length (config-is (goal.at.slice_bounds-of_body-end c).After-config-3-1) ∙ (initials-valid _ s.requires.0.passes).long ∙ sym s.requires.0.charts_is)

pub slice_bounds-inputs-end-2 : goal.slice_bounds-inputs-end-2
slice_bounds-inputs-end-2 c =
    rw length-append (omega (arith, asked (goal.at.slice_bounds-inputs-end-2 c).After-inputs-1, c.read_inputs.auto.inputs))

pub of_body-requires : goal.of_body-requires
of_body-requires c = (entry (goal.at.of_body-requires c).After-config-3-1).requires.1.checked

pub returns : goal.returns
returns c =
    let s = entry (goal.at.returns c).After-config-3-1 in
    ran _ _ _ _ s.requires.0 s.requires.1 _ _ _ _ (config-is (goal.at.returns c).After-config-3-1) (inputs_are (goal.at.returns c).After-config-3-1) s.requires.3 c.of_body.ensures.1

pub slice_bounds-read_inputs-end : goal.slice_bounds-read_inputs-end
slice_bounds-read_inputs-end c = sym (asked (goal.at.slice_bounds-read_inputs-end c).After-inputs-1)

pub slice_bounds-of_body-end-2 : goal.slice_bounds-of_body-end-2
slice_bounds-of_body-end-2 c =
    sym (ap length (inputs_are (goal.at.slice_bounds-of_body-end-2 c).After-config-3-1) ∙ length-inputs _ _)
