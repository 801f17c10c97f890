-- A sequential chart is read if its parts are read one after another: the extra set (`extra-..`), all of them
-- (`sequential_right`).
use Rattle.std.specs.Prelude.{◌≡◌, refl, Bool, true, false, ◌||◌, List, [], ◌∷◌, ◌++◌, ℕ, ◌≤◌, eqb, length, drop}
use Rattle.std.specs.Prelude.{get_or}
use Rattle.std.proofs.Common.{sym, ap, ap₂, ◌∙◌, append_assoc, arith, eqb-true}
use Rattle.std.proofs.Math.Path.{subst}
use Rattle.std.proofs.lemmas.Bool.{not-false}
use Rattle.std.proofs.Math.Option.{Option, none, some}
use Rattle.meaning.specs.Meaning.{same}
use Rattle.meaning.specs.Check.{not_below, differ}
use Rattle.meaning.specs.Sums.Laws.{or_left, or_right}
use Rattle.notation.specs.Syntax.{Signals, Heading, Sequential}
use Rattle.notation.specs.Grammar.{comma, rpar, sign, sign_bytes, Tokens, of_heading, of_transitions, of_extra}
use Rattle.notation.specs.Grammar.{of_sequential, Text}
use Rattle.notation.specs.Reader.{first_byte}
use Rattle.reading.specs.Numbers.{named_states}
use Rattle.reading.specs.Names.{members_of, members_or, first, any, not_all?, set?, optional?, transition?, sequential?}
use Rattle.reading.specs.Meant.{optional_of, head_for}
use Rattle.tokens.specs.Tokens.{cap, after_blanks, BehindSign}
use Rattle.tokens.specs.Laws.Text.{behind-right}
use Rattle.tokens.specs.Laws.Lists.{peek_sign}
use Rattle.fields.specs.declared.SignalSet.{SignalSet}
use Rattle.fields.specs.Fields.{SetAt}
use Rattle.lists.specs.declared.Heading.{Heading as Headed}
use Rattle.lists.specs.declared.TransitionList.{TransitionList}
use Rattle.lists.specs.declared.Sequential.{Sequential as Drawn}
use Rattle.lists.specs.Lists.{heading?, HeadingAt, TransitionsAt, GivesExtra, ExtraAt, GivesSequential}
use Rattle.lists.specs.Lists.{SequentialAt}
use Rattle.lists.specs.Laws.States.{cap_in}
use Rattle.lists.specs.Laws.Headings.{first_in_lem}

-- ── the extra set ──

module _ (w : List ℕ) (at : ℕ) (r : SignalSet) where
  pub extra_none : (get_or (after_blanks (drop at w)) 0 0 ≡ 44 → ⊥) → at ≤ length w → r.mask ≡ 0 → r.bad ≡ false
      → r.next ≡ at → ExtraAt w at r
  unfolding of_extra optional? optional_of first_byte
  extra_none p l em eb ex =
      record { within = omega (arith, l, ex); onward = omega (arith, ex); gives = go }
    where
      go : (x : Option Signals) (ts : Tokens) → Text (of_extra x ++ (sign rpar ∷ ts)) (drop at w)
          → GivesExtra w r x (sign rpar ∷ ts)
      go none ts t =
          record {
            goes_on = subst (λ e. Text (sign rpar ∷ ts) (drop e w)) (sym ex) t;
            is_bad = eb;
            is_mask = λ e. em;
          }
      go (some x) ts t = absurd (p (peek_sign comma t))

  pub extra_some : (i : ℕ) → get_or (after_blanks (drop at w)) 0 0 ≡ 44 → BehindSign w at 1 i → SetAt w i r
      → ExtraAt w at r
  unfolding of_extra optional? optional_of set? first_byte sign_bytes
  extra_some i p b s =
      record { within = s.within; onward = omega (arith, b.onward, s.onward); gives = go }
    where
      go : (x : Option Signals) (ts : Tokens) → Text (of_extra x ++ (sign rpar ∷ ts)) (drop at w)
          → GivesExtra w r x (sign rpar ∷ ts)
      go none ts t = absurd (let z = peek_sign rpar t in omega arith)
      go (some x) ts t =
          let g = s.gives x (sign rpar ∷ ts) (behind-right w at comma i t b.behind) in
          record { goes_on = g.goes_on; is_bad = g.is_bad; is_mask = g.is_mask }

-- ── the parts ──

-- the tokens of a chart with others behind them, part by part
unfoldable pub parts : Sequential → Tokens → Tokens
parts s ts =
    of_heading s.heading
    ++ (sign comma ∷ (of_transitions s.transitions ++ (of_extra s.extra ++ (sign rpar ∷ ts))))

pub parts_are : (s : Sequential) (ts : Tokens) → of_sequential s ++ ts ≡ parts s ts
unfolding of_sequential parts
parts_are s ts =
    append_assoc (of_heading s.heading)
    (sign comma ∷ (of_transitions s.transitions ++ (of_extra s.extra ++ (sign rpar ∷ [])))) ts
    ∙ ap (λ u. of_heading s.heading ++ (sign comma ∷ u))
    (append_assoc (of_transitions s.transitions) (of_extra s.extra ++ (sign rpar ∷ [])) ts
    ∙ ap (of_transitions s.transitions ++◌) (append_assoc (of_extra s.extra) (sign rpar ∷ []) ts))

-- the tests of a heading, and then those of the transitions t and of the extra set e
tests : (n d f l t e : Bool) → ((n || (d || f)) ≡ false → l ≡ t)
    → ((n || (d || f)) || (l || e)) ≡ (n || (d || (f || (t || e))))
tests true d f l t e h = refl
tests false true f l t e h = refl
tests false false true l t e h = refl
tests false false false l t e h = ap (◌|| e) (h refl)

-- an initial state that is not refused is not cut
initial_is : (h : Heading) → heading? h ≡ false → cap h.initial ≡ h.initial
unfolding heading? same
initial_is h e =
    let n = or_left (not_all? named_states (members_of h.states))
    (differ h.initial (first h.states) || set? h.feedback) e in
    let d = or_left (differ h.initial (first h.states)) (set? h.feedback)
    (or_right (not_all? named_states (members_of h.states))
    (differ h.initial (first h.states) || set? h.feedback) e) in
    let f = eqb-true h.initial (first h.states) (not-false (eqb h.initial (first h.states)) d) in
    (cap_in named_states (omega arith) h.initial (ap (λ k. not_below k named_states) f ∙ first_in_lem h.states n)).0

module _ (w : List ℕ) (at i : ℕ) (h : Headed) (l : TransitionList) (x : SignalSet) (r : Drawn) where
  pub sequential_right : HeadingAt w at h → BehindSign w h.next 1 i → TransitionsAt w i h.mask l
      → ExtraAt w l.next x → BehindSign w x.next 1 r.next → r.name ≡ h.name → r.states ≡ h.count
      → r.initial ≡ h.initial → r.transitions ≡ l.count → r.feedback ≡ h.feedback → r.extra ≡ x.mask
      → r.mask ≡ h.mask → r.bad ≡ (h.bad || (l.bad || x.bad)) → SequentialAt w at r
  unfolding parts sign_bytes heading? sequential? head_for
  sequential_right o p q u v en es ei et ef ee em eb =
      record {
        within = v.within;
        onward = on;
        further = λ l. omega (arith, o.further l, p.onward, q.onward, u.onward, v.onward);
        gives = go;
      }
    where
      on : at ≤ r.next
      on = omega (arith, o.onward, p.onward, q.onward, u.onward, v.onward)

      not-bad : r.bad ≡ false → h.bad ≡ false
      not-bad e = or_left h.bad (l.bad || x.bad) (sym eb ∙ e)

      go : (s : Sequential) (ts : Tokens) → Text (of_sequential s ++ ts) (drop at w) → GivesSequential w r s ts
      go s ts t =
          let t₀ = subst (λ u. Text u (drop at w)) (parts_are s ts) t in
          let t₁ = o.gives s.heading _ t₀ in
          let t₂ = q.gives s.transitions _ (behind-right w h.next comma i t₁.goes_on p.behind) in
          let t₃ = u.gives s.extra ts t₂.goes_on in
          let states = members_of s.heading.states in
          let n = not_all? named_states states in
          let d = differ s.heading.initial (first s.heading.states) in
          let f = set? s.heading.feedback in
          record {
            goes_on = behind-right w x.next rpar r.next t₃.goes_on v.behind;
            is_name = en ∙ t₁.is_name;
            is_states = es ∙ t₁.is_count;
            is_transitions = et ∙ t₂.is_count;
            is_bad =
                eb ∙ ap₂ (◌||◌) t₁.is_bad (ap (l.bad ||◌) t₃.is_bad)
                ∙ tests n d f l.bad (any (transition? states) (members_or s.transitions)) (optional? s.extra)
                (λ e. t₂.is_bad states (or_left n (d || f) e) (t₁.is_mask (t₁.is_bad ∙ e)));
            is_initial = λ e. ei ∙ t₁.is_initial ∙ initial_is s.heading (sym t₁.is_bad ∙ not-bad e);
            is_feedback = λ e. ef ∙ t₁.is_feedback (not-bad e);
            is_extra =
                λ e. ee
                ∙ t₃.is_mask (or_right l.bad x.bad (or_right h.bad (l.bad || x.bad) (sym eb ∙ e)));
            is_mask = λ e. em ∙ t₁.is_mask (not-bad e);
          }
