-- Which form a chart has, as a part of a composition; what may stand behind a chart in a text; and what is read of a
-- hiding set, which may be left out.
use Rattle.std.specs.Prelude.{◌≡◌, List, [], ◌∷◌, ◌++◌, ℕ, ◌≤◌, length, drop}
use Rattle.std.proofs.Math.Option.{Option}
use Prim.Native.Char.{code}
use Rattle.notation.specs.Syntax.{Signals, Single, sequential, decomposed, hidden, Chart, single, composed}
use Rattle.notation.specs.Grammar.{letter, sign, name, Tokens, of_optional, of_part, Text}
use Rattle.notation.specs.Reader.{first_byte}
use Rattle.fields.specs.declared.SignalSet.{SignalSet}
use Rattle.lists.specs.Lists.{GivesExtra}
use Rattle.forms.specs.declared.Form.{Form}
use Rattle.forms.specs.declared.Form.TheVariants.{Sequential, Decomposed, Hidden, Bracketed}

-- ── forms ──

unfoldable pub form_of_single : Single → Form
form_of_single (sequential s) = Sequential
form_of_single (decomposed s ps) = Decomposed
form_of_single (hidden x t y) = Hidden

unfoldable pub form_of : Chart → Form
form_of (single s) = form_of_single s
form_of (composed a x b) = Bracketed

-- r is the form of the part that stands at a place
pub record FormAt (w : List ℕ) (at : ℕ) (r : Form) : Type 0 where
  pub is : (t : Chart) (ts : Tokens) → Text (of_part t ++ ts) (drop at w) → r ≡ form_of t

-- ── what stands behind a chart ──

-- the first byte of tokens; 0 if there is none
unfoldable pub next_byte : Tokens → ℕ
next_byte [] = 0
next_byte (sign k ∷ ts) = first_byte k
next_byte (name l n ∷ ts) = letter l

-- behind a part of a composition stands no opening brace, so that the end of a hidden chart is seen
abbrev pub NoBrace : Tokens → Type 0
NoBrace ts = next_byte ts ≡ code "{" → ⊥

-- and behind a chart no bar either, so that the end of a composition is seen
pub record Calm (ts : Tokens) : Type 0 where
  pub no_brace : NoBrace ts
  pub no_bar : next_byte ts ≡ code "|" → ⊥

-- ── hiding sets ──

-- the set that stands at a place, or none, where no opening brace stands behind it
pub record OptionalAt (w : List ℕ) (at : ℕ) (r : SignalSet) : Type 0 where
  pub within : r.next ≤ length w
  pub onward : at ≤ r.next
  pub gives : (x : Option Signals) (ts : Tokens) → NoBrace ts → Text (of_optional x ++ ts) (drop at w)
      → GivesExtra w r x ts
