-- Laws of the forms as they are written, in this order: a list as typed, member by member; no member is without tokens;
-- members from 0 on; a sequential chart in its parts.
use Rattle.std.specs.Prelude.{◌≡◌, ℕ, suc, ◌+◌}
use Rattle.std.proofs.Math.Path.{refl, sym, ap}
use Rattle.std.proofs.Common.{◌∙◌, arith, eq-eqb, ne_eqb}
use mathlib.Core.List.{List, [], ◌∷◌, ◌++◌, map, map-append, append_assoc, append-nil}
use Rattle.layout.specs.Body.{head_at, from}
use Rattle.layout.specs.declared.body.Shape.{Shape}
use Rattle.layout.specs.declared.record.Head.{Head}
use Rattle.layout.specs.declared.record.Transition.{Transition as Record}
use Rattle.layout.specs.Body.Laws.{from_more}
use Rattle.meaning.specs.Meaning.{same}
use Rattle.meaning.specs.File.{file_at, chart_of}
use Rattle.notation.specs.Syntax.{OneOrMore, one, ◌▸◌, Literal, needed, barred, Transition}
use Rattle.notation.specs.Grammar.{Tokens, Sign, Letter, letS, comma, amp, lbrace, rbrace, sign₁, name₁, of_names}
use Rattle.notation.specs.Grammar.{of_set, of_literal, of_literals, of_guard, of_transition, of_transition_list}
use Rattle.notation.specs.Grammar.{rpar, of_transitions, of_heading, of_extra, of_sequential}
use Rattle.spelling.specs.Typed.{followed, listed, from_all, signals_of, or_left_out, transition_of, others}
use Rattle.spelling.specs.Typed.{sequential_of}
use Rattle.printing.specs.Separated.{behind_each, in_turn}
use Rattle.printing.specs.Forms.{heading_of}
use Rattle.printing.specs.Laws.Separated.{Solid}

-- ── a list as typed ──

module _ {A : Type 0} (k : Sign) (f : A → Tokens) (g : OneOrMore A → Tokens)
    (more : (as' : OneOrMore A) (a : A) → g (as' ▸ a) ≡ g as' ++ (sign₁ k ++ f a)) where
  -- what follows stands behind the sign
  followed-turn : (as' : OneOrMore A) (l : List A) → g (followed as' l) ≡ g as' ++ behind_each k f l
  unfolding followed behind_each
  followed-turn as' [] = sym (append-nil (g as'))
  followed-turn as' (a ∷ l) =
      followed-turn (as' ▸ a) l ∙ ap (◌++ behind_each k f l) (more as' a) ∙ append_assoc (g as') (sign₁ k ++ f a) _

pub names-turn : (c : Letter) (n : ℕ) (l : List ℕ) → of_names c (followed (one n) l) ≡ in_turn comma (name₁ c) (n ∷ l)
unfolding of_names in_turn
names-turn c n l = followed-turn comma (name₁ c) (of_names c) (λ ns m. refl) (one n) l

pub set-turn : (l : List ℕ) → of_set (listed l) ≡ sign₁ lbrace ++ (in_turn comma (name₁ letS) l ++ sign₁ rbrace)
unfolding of_set
set-turn [] = unfold in_turn in refl
set-turn (n ∷ l) = ap (λ ts. sign₁ lbrace ++ (ts ++ sign₁ rbrace)) (names-turn letS n l)

pub guard-turn : (l : List Literal) → of_guard (listed l) ≡ in_turn amp of_literal l
unfolding of_guard
guard-turn [] = unfold in_turn in refl
guard-turn (g ∷ l) = unfold of_literals in_turn in followed-turn amp of_literal of_literals (λ gs h. refl) (one g) l

transitions_all : (t : Transition) (l : List Transition)
    → of_transition_list (followed (one t) l) ≡ in_turn comma of_transition (t ∷ l)
unfolding of_transition_list in_turn
transitions_all t l = followed-turn comma of_transition of_transition_list (λ ts u. refl) (one t) l

pub transitions_turn : (l : List Transition)
    → of_transitions (listed l) ≡ sign₁ lbrace ++ (in_turn comma of_transition l ++ sign₁ rbrace)
unfolding of_transitions
transitions_turn [] = unfold in_turn in refl
transitions_turn (t ∷ l) = ap (λ ts. sign₁ lbrace ++ (ts ++ sign₁ rbrace)) (transitions_all t l)

-- ── no member is without tokens ──

pub names_solid : (c : Letter) → Solid (name₁ c)
names_solid c n = omega arith

pub literals_solid : Solid of_literal
unfolding of_literal
literals_solid (needed n) = omega arith
literals_solid (barred n) = omega arith

pub transitions_solid : Solid of_transition
unfolding of_transition
transitions_solid t = omega arith

-- ── members from 0 on ──

pub from_all-none : {A : Type 0} (f : ℕ → List A) → from_all 0 f ≡ []
unfolding from_all
from_all-none f = refl

pub from_all-more : {A : Type 0} (n : ℕ) (f : ℕ → List A) → from_all (suc n) f ≡ from_all n f ++ f n
unfolding from_all
from_all-more n f = refl

-- ── a chart ──

-- no transitions; one more of those from s on
module _ (f : ℕ → Record) (s : ℕ) where
  abbrev pub typed_from : ℕ → List Transition
  typed_from k = map transition_of (from f s k)

  pub typed_from-none : typed_from 0 ≡ []
  unfolding from
  typed_from-none = refl

  pub typed_from-more : (k : ℕ) → typed_from (suc k) ≡ typed_from k ++ (transition_of (f (s + k)) ∷ [])
  typed_from-more k = ap (map transition_of) (from_more f s k) ∙ map-append transition_of (from f s k) (f (s + k) ∷ [])

-- an extra set that is empty, and one that is not
pub extra_none : (x : ℕ) → x ≡ 0 → of_extra (or_left_out x) ≡ []
unfolding of_extra same
extra_none x e = rw (eq-eqb x 0 e)

pub extra_some : (x : ℕ) → (x ≡ 0 → ⊥) → of_extra (or_left_out x) ≡ sign₁ comma ++ of_set (signals_of x)
unfolding of_extra same
extra_some x f = rw (ne_eqb x 0 f)

-- a chart in its parts, by its head
pub sequential_parts : (n : Shape) (b : List ℕ) (c : ℕ) (h : Head) → h ≡ head_at n b c
    → of_sequential (sequential_of c ((file_at n b).chart c))
    ≡ of_heading (heading_of c h)
    ++ (sign₁ comma
    ++ (of_transitions (listed (map transition_of ((file_at n b).chart c).transitions))
    ++ (of_extra (or_left_out h.extra) ++ sign₁ rpar)))
unfolding of_sequential sequential_of others file_at chart_of
sequential_parts n b c h e = rw e
