-- What is read of the fields of a chart: if the text goes on at a place with the tokens of a field and then with
-- others, the answer is the field's value, and the others go on behind it.
use Rattle.std.specs.Prelude.{◌≡◌, Bool, false, ◌||◌, List, [], ◌∷◌, ◌++◌, map, ℕ, ◌≤◌, ◌<◌, length, drop}
use Rattle.std.proofs.Math.Option.{Option}
use Rattle.signals.specs.Mask.{◌∪◌, single}
use Rattle.meaning.specs.Check.{not_below}
use Rattle.notation.specs.Syntax.{OneOrMore, Signals, Literal, Transition}
use Rattle.notation.specs.Grammar.{letS, rbrace, slash, sign, Tokens, of_names, of_set, of_literal, of_literals}
use Rattle.notation.specs.Grammar.{of_guard, of_transition, Text}
use Rattle.reading.specs.Numbers.{named_signals}
use Rattle.reading.specs.Names.{members_of, members_or, signals?, set?, signal_of}
use Rattle.reading.specs.Meant.{mask_of, needed_in, barred_in, transition_for}
use Rattle.tokens.specs.Tokens.{cap}
use Rattle.fields.specs.declared.SignalSet.{SignalSet}
use Rattle.fields.specs.declared.Joined.{Joined}
use Rattle.fields.specs.declared.Guard.{Guard}
use Rattle.fields.specs.declared.Passage.{Passage}

-- r is the signals read so far with the signal n: bad if it is out of range, else in the mask
pub record Joins (mask : ℕ) (bad : Bool) (n : ℕ) (r : Joined) : Type 0 where
  pub is_bad : r.bad ≡ (bad || not_below n named_signals)
  pub is_mask : n < named_signals → r.mask ≡ mask ∪ single n

-- r is the signals ns, behind which the tokens ts go on
pub record Gives (w : List ℕ) (r : SignalSet) (ns : List ℕ) (ts : Tokens) : Type 0 where
  pub goes_on : Text ts (drop r.next w)
  pub is_bad : r.bad ≡ signals? ns
  pub is_mask : r.bad ≡ false → r.mask ≡ mask_of ns

-- the set that stands at a place
pub record SetAt (w : List ℕ) (at : ℕ) (r : SignalSet) : Type 0 where
  pub within : r.next ≤ length w
  pub onward : at ≤ r.next
  pub gives : (x : Signals) (ts : Tokens) → Text (of_set x ++ ts) (drop at w) → Gives w r (members_or x) ts

-- the names of a set and its closing brace, which stand at a place
pub record MembersAt (w : List ℕ) (at : ℕ) (r : SignalSet) : Type 0 where
  pub within : r.next ≤ length w
  pub onward : at ≤ r.next
  pub gives : (ks : OneOrMore ℕ) (ts : Tokens) → Text (of_names letS ks ++ (sign rbrace ∷ ts)) (drop at w)
      → Gives w r (members_of ks) ts

-- ── guards ──

-- g is the literals `done`: bad if a signal of theirs is out of range, else their masks
pub record Means (g : Guard) (done : List Literal) : Type 0 where
  pub is_bad : g.bad ≡ signals? (map signal_of done)
  pub is_needed : g.bad ≡ false → g.needed ≡ mask_of (needed_in done)
  pub is_barred : g.bad ≡ false → g.barred ≡ mask_of (barred_in done)

-- r is g with the literal that stands at a place
pub record LiteralAt (w : List ℕ) (at : ℕ) (g r : Guard) : Type 0 where
  pub within : r.next ≤ length w
  pub onward : at ≤ r.next
  pub gives : (l : Literal) (ts : Tokens) (done : List Literal) → Text (of_literal l ++ ts) (drop at w) → Means g done
      → Text ts (drop r.next w) × Means r (done ++ (l ∷ []))

-- the literals and the slash that stand at a place
pub record LiteralsAt (w : List ℕ) (at : ℕ) (r : Guard) : Type 0 where
  pub within : r.next ≤ length w
  pub onward : at ≤ r.next
  pub gives : (ls : OneOrMore Literal) (ts : Tokens) → Text (of_literals ls ++ (sign slash ∷ ts)) (drop at w)
      → Text ts (drop r.next w) × Means r (members_of ls)

-- the same where there may be no literal
pub record GuardAt (w : List ℕ) (at : ℕ) (r : Guard) : Type 0 where
  pub within : r.next ≤ length w
  pub onward : at ≤ r.next
  pub gives : (ls : Option (OneOrMore Literal)) (ts : Tokens) → Text (of_guard ls ++ (sign slash ∷ ts)) (drop at w)
      → Text ts (drop r.next w) × Means r (members_or ls)

-- ── transitions ──

-- r is the transition t, behind which the tokens ts go on: its states cut at 1,000; bad if a signal of its guard or
-- action is out of range, else the masks of the transition that it means
pub record Passes (w : List ℕ) (r : Passage) (t : Transition) (ts : Tokens) : Type 0 where
  pub goes_on : Text ts (drop r.next w)
  pub is_from : r.from ≡ cap t.from
  pub is_to : r.to ≡ cap t.to
  pub is_bad : r.bad ≡ (signals? (map signal_of (members_or t.guard)) || set? t.action)
  pub is_needed : r.bad ≡ false → r.needed ≡ (transition_for t).needed
  pub is_barred : r.bad ≡ false → r.barred ≡ (transition_for t).barred
  pub is_action : r.bad ≡ false → r.action ≡ (transition_for t).action

-- the transition that stands at a place
pub record TransitionAt (w : List ℕ) (at : ℕ) (r : Passage) : Type 0 where
  pub within : r.next ≤ length w
  pub onward : at ≤ r.next
  pub gives : (t : Transition) (ts : Tokens) → Text (of_transition t ++ ts) (drop at w) → Passes w r t ts
