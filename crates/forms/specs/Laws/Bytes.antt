-- The first byte of tokens is what is seen of them in a text (`next-seen`); the tokens that may stand behind a chart
-- (`calm-..`); the first byte of a part tells its form (`form-..`), and of a hiding set whether it is left out
-- (`optional-..`).
use Rattle.std.specs.Prelude.{◌≡◌, Bool, true, false, List, [], ◌∷◌, ◌++◌, ℕ, ◌≤◌, length, drop, get_or}
use Rattle.std.proofs.Math.Path.{refl, sym, subst}
use Rattle.std.proofs.Common.{ap, ◌∙◌, true≢false, arith}
use Rattle.std.proofs.lemmas.Bool.{false≢true}
use Rattle.std.proofs.Math.Option.{Option, none, some}
use Rattle.notation.specs.Syntax.{Signals, Single, sequential, decomposed, hidden, Chart, single, composed}
use Rattle.notation.specs.Grammar.{lpar, rpar, lsq, rsq, bar, sign, name, Tokens}
use Rattle.notation.specs.Grammar.{of_set, of_optional, of_heading, of_sequential, of_single, of_part, Text}
use Rattle.notation.specs.Reader.{first_byte}
use Rattle.reading.specs.Names.{optional?, set?}
use Rattle.reading.specs.Meant.{optional_of}
use Rattle.tokens.specs.Tokens.{after_blanks}
use Rattle.tokens.specs.Laws.Lists.{peek_sign, peek_name}
use Rattle.fields.specs.declared.SignalSet.{SignalSet}
use Rattle.fields.specs.Fields.{SetAt}
use Rattle.lists.specs.Lists.{GivesExtra}
use Rattle.lists.specs.Found.{named?, begins?, BeginsAt}
use Rattle.lists.specs.Laws.Tokens.{text_none}
use Rattle.lists.specs.Laws.Found.{both_text, part-begins, hidden_text_lem, part_text}
use Rattle.forms.specs.declared.Form.TheVariants.{Sequential, Decomposed, Hidden, Bracketed}
use Rattle.forms.specs.Forms.{form_of, form_of_single, FormAt, next_byte, NoBrace, Calm, OptionalAt}

-- ── what is seen ──

pub next-seen : (ts : Tokens) {w : List ℕ} → Text ts w → get_or (after_blanks w) 0 0 ≡ next_byte ts
unfolding next_byte
next-seen [] t = text_none t
next-seen (sign k ∷ ts) t = peek_sign k t
next-seen (name l n ∷ ts) t = peek_name l n t

-- ── behind a chart ──

pub calm-end : Calm []
unfolding next_byte
calm-end = record { no_brace = λ e. omega arith; no_bar = λ e. omega arith }

pub calm_rpar : (ts : Tokens) → Calm (sign rpar ∷ ts)
unfolding next_byte first_byte
calm_rpar ts = record { no_brace = λ e. omega arith; no_bar = λ e. omega arith }

pub calm_rsq : (ts : Tokens) → Calm (sign rsq ∷ ts)
unfolding next_byte first_byte
calm_rsq ts = record { no_brace = λ e. omega arith; no_bar = λ e. omega arith }

pub no_brace_bar : (ts : Tokens) → NoBrace (sign bar ∷ ts)
unfolding next_byte first_byte
no_brace_bar ts e = omega arith

pub no_brace_lsq : (ts : Tokens) → NoBrace (sign lsq ∷ ts)
unfolding next_byte first_byte
no_brace_lsq ts e = omega arith

-- ── hiding sets ──

set_next : (x : Signals) (ts : Tokens) → next_byte (of_set x ++ ts) ≡ 123
unfolding next_byte of_set first_byte
set_next none ts = refl
set_next (some ks) ts = refl

module _ (w : List ℕ) (at : ℕ) (r : SignalSet) where
  pub optional_none : (get_or (after_blanks (drop at w)) 0 0 ≡ 123 → ⊥) → at ≤ length w → r.mask ≡ 0 → r.bad ≡ false
      → r.next ≡ at → OptionalAt w at r
  unfolding of_optional optional? optional_of
  optional_none p l em eb ex =
      record { within = omega (arith, l, ex); onward = omega (arith, ex); gives = go }
    where
      go : (x : Option Signals) (ts : Tokens) → NoBrace ts → Text (of_optional x ++ ts) (drop at w)
          → GivesExtra w r x ts
      go none ts n t =
          record { goes_on = subst (λ e. Text ts (drop e w)) (sym ex) t; is_bad = eb; is_mask = λ e. em }
      go (some x) ts n t = absurd (p (next-seen (of_set x ++ ts) t ∙ set_next x ts))

  pub optional_some : get_or (after_blanks (drop at w)) 0 0 ≡ 123 → SetAt w at r → OptionalAt w at r
  unfolding of_optional optional? optional_of set?
  optional_some p s = record { within = s.within; onward = s.onward; gives = go }
    where
      go : (x : Option Signals) (ts : Tokens) → NoBrace ts → Text (of_optional x ++ ts) (drop at w)
          → GivesExtra w r x ts
      go none ts n t = absurd (n (sym (next-seen ts t) ∙ p))
      go (some x) ts n t =
          let g = s.gives x ts t in record { goes_on = g.goes_on; is_bad = g.is_bad; is_mask = g.is_mask }

-- ── forms ──

-- the first byte of a hidden chart
hidden_next : (x : Option Signals) (t : Chart) (y : Option Signals) (ts : Tokens)
    → (next_byte (of_single (hidden x t y) ++ ts) ≡ 40 → ⊥) × (next_byte (of_single (hidden x t y) ++ ts) ≡ 68 → ⊥)
unfolding of_single of_optional next_byte first_byte
hidden_next none t y ts = (λ e. omega arith, λ e. omega arith)
hidden_next (some x) t y ts =
    (λ e. omega (arith, z), λ e. omega (arith, z))
  where
    z : next_byte (of_single (hidden (some x) t y) ++ ts) ≡ 123
    z = ap next_byte (hidden_text_lem (some x) t y ts) ∙ set_next x _

dec_next : (s : Single) (ts : Tokens) → next_byte (of_single s ++ ts) ≡ 68 → form_of_single s ≡ Decomposed
unfolding of_single of_sequential of_heading next_byte first_byte form_of_single
dec_next (sequential s) ts e = absurd (omega arith)
dec_next (decomposed s ps) ts e = refl
dec_next (hidden x t y) ts e = absurd ((hidden_next x t y ts).1 e)

other-next : (s : Single) (ts : Tokens) → (next_byte (of_single s ++ ts) ≡ 68 → ⊥)
    → (next_byte (of_single s ++ ts) ≡ 40 → ⊥) → form_of_single s ≡ Hidden
unfolding of_single of_sequential of_heading next_byte first_byte form_of_single
other-next (sequential s) ts p q = absurd (q refl)
other-next (decomposed s ps) ts p q = absurd (p refl)
other-next (hidden x t y) ts p q = refl

module _ (w : List ℕ) (at : ℕ) where
  pub form_dec : get_or (after_blanks (drop at w)) 0 0 ≡ 68 → FormAt w at Decomposed
  unfolding form_of of_part next_byte first_byte
  form_dec p = record { is = go }
    where
      go : (t : Chart) (ts : Tokens) → Text (of_part t ++ ts) (drop at w) → Decomposed ≡ form_of t
      go (single s) ts t = sym (dec_next s ts (sym (next-seen (of_single s ++ ts) t) ∙ p))
      go (composed a x b) ts t =
          absurd (let z = sym (next-seen (of_part (composed a x b) ++ ts) t) ∙ p in omega arith)

  pub form_hidden : (get_or (after_blanks (drop at w)) 0 0 ≡ 68 → ⊥) → (get_or (after_blanks (drop at w)) 0 0 ≡ 40 → ⊥)
      → FormAt w at Hidden
  unfolding form_of of_part next_byte first_byte
  form_hidden p q = record { is = go }
    where
      go : (t : Chart) (ts : Tokens) → Text (of_part t ++ ts) (drop at w) → Hidden ≡ form_of t
      go (single s) ts t =
          let z = next-seen (of_single s ++ ts) t in sym (other-next s ts (λ e. p (z ∙ e)) (λ e. q (z ∙ e)))
      go (composed a x b) ts t = absurd (q (next-seen (of_part (composed a x b) ++ ts) t))

  -- of the two forms that begin with a bracket one begins a sequential chart
  module _ (r : Bool) (p : get_or (after_blanks (drop at w)) 0 0 ≡ 40) (h : BeginsAt w at r) where
    not-single : (x : Option Signals) (u : Chart) (y : Option Signals) (ts : Tokens)
        → Text (of_single (hidden x u y) ++ ts) (drop at w) → ⊥
    not-single x u y ts t = (hidden_next x u y ts).0 (sym (next-seen (of_single (hidden x u y) ++ ts) t) ∙ p)

    pub form_sequential : r ≡ true → FormAt w at Sequential
    unfolding form_of form_of_single of_part of_single begins? next_byte first_byte
    form_sequential e = record { is = go }
      where
        go : (t : Chart) (ts : Tokens) → Text (of_part t ++ ts) (drop at w) → Sequential ≡ form_of t
        go (single (sequential s)) ts t = refl
        go (single (decomposed s ps)) ts t = absurd (let z = sym p ∙ next-seen _ t in omega arith)
        go (single (hidden x u y)) ts t = absurd (not-single x u y ts t)
        go (composed a x b) ts t =
            absurd
            (true≢false
            (sym e
            ∙ (h (sign lpar) (both_text a x b (sign rpar ∷ ts))
            (subst (λ u. Text u (drop at w)) (part_text a x b ts) t)
            ∙ part-begins a _)))

    pub form_bracketed : r ≡ false → FormAt w at Bracketed
    unfolding form_of form_of_single of_part of_single of_sequential of_heading begins? named? next_byte first_byte
    form_bracketed e = record { is = go }
      where
        go : (t : Chart) (ts : Tokens) → Text (of_part t ++ ts) (drop at w) → Bracketed ≡ form_of t
        go (single (sequential s)) ts t = absurd (false≢true (sym e ∙ h (sign lpar) _ t))
        go (single (decomposed s ps)) ts t = absurd (let z = sym p ∙ next-seen _ t in omega arith)
        go (single (hidden x u y)) ts t = absurd (not-single x u y ts t)
        go (composed a x b) ts t = refl
