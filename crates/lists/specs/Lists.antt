-- What is read of a sequential chart and its lists: if the text goes on at a place with the tokens of one of them and
-- then with others, the answer is what it means, whether refusal 52 applies to it, and the others go on behind it.
use Rattle.std.specs.Prelude.{◌≡◌, Bool, false, ◌||◌, not, List, [], ◌∷◌, ◌++◌, ℕ, ◌+◌, ◌≤◌, ◌<◌, ◌/◌, length, drop}
use Rattle.std.proofs.Math.Option.{Option}
use Rattle.signals.specs.Mask.{◌∪◌, bit, single, within}
use Rattle.meaning.specs.Check.{not_below, differ}
use Rattle.notation.specs.Syntax.{OneOrMore, Signals, Heading, Transition, Sequential}
use Rattle.notation.specs.Grammar.{letQ, lbrace, rbrace, rpar, comma, sign, Tokens, of_names, of_heading}
use Rattle.notation.specs.Grammar.{of_transition, of_transition_list, of_transitions, of_extra, of_sequential, Text}
use Rattle.reading.specs.Numbers.{named_states}
use Rattle.reading.specs.Names.{members_of, members_or, first, any, twice?, not_all?, set?, optional?}
use Rattle.reading.specs.Names.{transition?, sequential?, name_of}
use Rattle.reading.specs.Meant.{mask_of, set_of, optional_of, head_for}
use Rattle.tokens.specs.Tokens.{cap, blanks}
use Rattle.fields.specs.declared.SignalSet.{SignalSet}
use Rattle.lists.specs.declared.Listed.{Listed}
use Rattle.lists.specs.declared.StateList.{StateList}
use Rattle.lists.specs.declared.Heading.{Heading as Headed}
use Rattle.lists.specs.declared.TransitionList.{TransitionList}
use Rattle.lists.specs.declared.Sequential.{Sequential as Drawn}

-- ── states ──

-- r is the names read so far with the name n, which has to be below a limit: bad if it is out of range or there
-- already, else in the mask
pub record Lists (limit mask : ℕ) (bad : Bool) (n : ℕ) (r : Listed) : Type 0 where
  pub is_bad : r.bad ≡ (bad || (not_below n limit || bit mask n))
  pub is_mask : n < limit → r.mask ≡ mask ∪ single n

-- the mask and the flag of the names `done`, which have to be below a limit
pub record SoFar (limit mask : ℕ) (bad : Bool) (done : List ℕ) : Type 0 where
  pub is_bad : bad ≡ (any (λ n. not_below n limit) done || twice? done)
  pub is_mask : bad ≡ false → mask ≡ mask_of done

-- the mask has a name and not the one before it
abbrev pub gap : ℕ → Bool
gap mask = not (within (mask / 2) mask)

-- r is the list of the states ks, behind which the tokens ts go on: its first state cut at 1,000, how many there are;
-- bad if 52 applies to the list, else their mask
pub record GivesStates (w : List ℕ) (r : StateList) (ks : OneOrMore ℕ) (ts : Tokens) : Type 0 where
  pub goes_on : Text ts (drop r.next w)
  pub is_first : r.first ≡ cap (first ks)
  pub is_count : r.count ≡ length (members_of ks)
  pub is_bad : r.bad ≡ not_all? named_states (members_of ks)
  pub is_mask : r.bad ≡ false → r.mask ≡ mask_of (members_of ks)

-- the names of the states and the closing brace, which stand at a place
pub record StatesFrom (w : List ℕ) (at : ℕ) (r : StateList) : Type 0 where
  pub within : r.next ≤ length w
  pub onward : at ≤ r.next
  pub gives : (ks : OneOrMore ℕ) (ts : Tokens) → Text (of_names letQ ks ++ (sign rbrace ∷ ts)) (drop at w)
      → GivesStates w r ks ts

-- the list of states that stands at a place
pub record StatesAt (w : List ℕ) (at : ℕ) (r : StateList) : Type 0 where
  pub within : r.next ≤ length w
  pub onward : at ≤ r.next
  pub gives : (ks : OneOrMore ℕ) (ts : Tokens)
      → Text (sign lbrace ∷ (of_names letQ ks ++ (sign rbrace ∷ ts))) (drop at w) → GivesStates w r ks ts

-- ── headings ──

-- what 52 asks of a heading, the first three tests of `sequential?`
unfoldable pub heading? : Heading → Bool
heading? h =
    not_all? named_states (members_of h.states) || (differ h.initial (first h.states) || set? h.feedback)

-- r is the heading h, behind which the tokens ts go on: its name and initial state cut at 1,000, how many states there
-- are; bad if 52 applies to it, else their mask and the feedback set
pub record GivesHeading (w : List ℕ) (r : Headed) (h : Heading) (ts : Tokens) : Type 0 where
  pub goes_on : Text ts (drop r.next w)
  pub is_name : r.name ≡ cap h.name
  pub is_initial : r.initial ≡ cap h.initial
  pub is_count : r.count ≡ length (members_of h.states)
  pub is_bad : r.bad ≡ heading? h
  pub is_mask : r.bad ≡ false → r.mask ≡ mask_of (members_of h.states)
  pub is_feedback : r.bad ≡ false → r.feedback ≡ set_of h.feedback

-- the heading that stands at a place
pub record HeadingAt (w : List ℕ) (at : ℕ) (r : Headed) : Type 0 where
  pub within : r.next ≤ length w
  pub onward : at ≤ r.next
  pub further : at + blanks (drop at w) < length w → at < r.next
  pub gives : (h : Heading) (ts : Tokens) → Text (of_heading h ++ ts) (drop at w) → GivesHeading w r h ts

-- ── transitions ──

-- the mask of a chart's states lacks the state n
unfoldable pub lacks : ℕ → ℕ → Bool
lacks mask n = not_below n named_states || not (bit mask n)

-- each transition behind a comma
unfoldable pub more_of : List Transition → Tokens
more_of [] = []
more_of (t ∷ ts) = sign comma ∷ (of_transition t ++ more_of ts)

-- r is the list of the transitions ts, behind which the tokens us go on: how many there are; where the mask is that
-- of a list of states that is not refused, bad if 52 applies to one of them
pub record GivesTransitions (w : List ℕ) (mask : ℕ) (r : TransitionList) (ts : List Transition) (us : Tokens) : Type 0
  where
    pub goes_on : Text us (drop r.next w)
    pub is_count : r.count ≡ length ts
    pub is_bad : (states : List ℕ) → not_all? named_states states ≡ false → mask ≡ mask_of states
        → r.bad ≡ any (transition? states) ts

-- the transitions and the closing brace, which stand at a place
pub record TransitionsFrom (w : List ℕ) (at mask : ℕ) (r : TransitionList) : Type 0 where
  pub within : r.next ≤ length w
  pub onward : at ≤ r.next
  pub gives : (ts : OneOrMore Transition) (us : Tokens)
      → Text (of_transition_list ts ++ (sign rbrace ∷ us)) (drop at w) → GivesTransitions w mask r (members_of ts) us

-- the list of transitions that stands at a place
pub record TransitionsAt (w : List ℕ) (at mask : ℕ) (r : TransitionList) : Type 0 where
  pub within : r.next ≤ length w
  pub onward : at ≤ r.next
  pub gives : (ts : Option (OneOrMore Transition)) (us : Tokens) → Text (of_transitions ts ++ us) (drop at w)
      → GivesTransitions w mask r (members_or ts) us

-- ── sequential charts ──

-- r is the extra set x, behind which the tokens ts go on: bad if a signal is out of range, else its mask
pub record GivesExtra (w : List ℕ) (r : SignalSet) (x : Option Signals) (ts : Tokens) : Type 0 where
  pub goes_on : Text ts (drop r.next w)
  pub is_bad : r.bad ≡ optional? x
  pub is_mask : r.bad ≡ false → r.mask ≡ optional_of x

-- the extra set that stands at a place, before a closing bracket
pub record ExtraAt (w : List ℕ) (at : ℕ) (r : SignalSet) : Type 0 where
  pub within : r.next ≤ length w
  pub onward : at ≤ r.next
  pub gives : (x : Option Signals) (ts : Tokens) → Text (of_extra x ++ (sign rpar ∷ ts)) (drop at w)
      → GivesExtra w r x (sign rpar ∷ ts)

-- r is the sequential chart s, behind which the tokens ts go on: its name cut at 1,000, how many states and transitions
-- there are; bad if 52 applies to it, else the other numbers of its record, and the mask of its states
pub record GivesSequential (w : List ℕ) (r : Drawn) (s : Sequential) (ts : Tokens) : Type 0 where
  pub goes_on : Text ts (drop r.next w)
  pub is_name : r.name ≡ cap (name_of s)
  pub is_states : r.states ≡ (head_for s).states
  pub is_transitions : r.transitions ≡ (head_for s).transitions
  pub is_bad : r.bad ≡ sequential? s
  pub is_initial : r.bad ≡ false → r.initial ≡ (head_for s).initial
  pub is_feedback : r.bad ≡ false → r.feedback ≡ (head_for s).feedback
  pub is_extra : r.bad ≡ false → r.extra ≡ (head_for s).extra
  pub is_mask : r.bad ≡ false → r.mask ≡ mask_of (members_of s.heading.states)

-- the sequential chart that stands at a place; its end is further on if there is a token
pub record SequentialAt (w : List ℕ) (at : ℕ) (r : Drawn) : Type 0 where
  pub within : r.next ≤ length w
  pub onward : at ≤ r.next
  pub further : at + blanks (drop at w) < length w → at < r.next
  pub gives : (s : Sequential) (ts : Tokens) → Text (of_sequential s ++ ts) (drop at w) → GivesSequential w r s ts
