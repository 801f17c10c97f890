-- A heading is read if its parts are read one after another: `heading_right`.
use Rattle.std.specs.Prelude.{◌≡◌, refl, Bool, true, false, ◌||◌, not, List, ◌∷◌, ◌++◌, ℕ, ◌≤◌, ◌<◌, eqb}
use Rattle.std.specs.Prelude.{drop}
use Rattle.std.proofs.Common.{sym, ap, ◌∙◌, append_assoc, eqb-true}
use Rattle.std.proofs.Math.Path.{subst}
use Rattle.std.proofs.Math.Decide.{dec_lt}
use native.Mathlib.Omega.{arith}
use Rattle.std.proofs.Math.ListN.{length}
use Rattle.meaning.specs.Meaning.{same}
use Rattle.meaning.specs.Check.{not_below, differ}
use Rattle.meaning.specs.Sums.Laws.{or_left, or_right}
use Rattle.notation.specs.Syntax.{OneOrMore, Heading}
use Rattle.notation.specs.Grammar.{lpar, comma, lbrace, rbrace, letC, letQ, sign, sign_bytes, name, Tokens, of_names}
use Rattle.notation.specs.Grammar.{of_set, of_heading, Text}
use Rattle.reading.specs.Numbers.{named_states}
use Rattle.reading.specs.Names.{members_of, first, any, not_all?, twice?, left_out?, set?}
use Rattle.tokens.specs.declared.Name.{Name}
use Rattle.tokens.specs.Tokens.{cap, BehindSign, NameFrom}
use Rattle.tokens.specs.Laws.Text.{behind-right, named-right}
use Rattle.tokens.specs.Laws.Steps.{cap-below, cap_above}
use Rattle.fields.specs.declared.SignalSet.{SignalSet}
use Rattle.fields.specs.Fields.{SetAt}
use Rattle.fields.specs.Laws.Sets.{members_cons}
use Rattle.lists.specs.declared.StateList.{StateList}
use Rattle.lists.specs.declared.Heading.{Heading as Headed}
use Rattle.lists.specs.Lists.{StatesAt, heading?, GivesHeading, HeadingAt}
use Rattle.lists.specs.Laws.States.{cap_in, first-is}

-- ── the initial state ──

-- the first state of a list that is not refused is in range
pub first_in_lem : (ks : OneOrMore ℕ) → not_all? named_states (members_of ks) ≡ false
    → not_below (first ks) named_states ≡ false
unfolding not_all? any
first_in_lem ks e =
    let a = or_left (any (λ n. not_below n named_states) (members_of ks))
    (twice? (members_of ks) || left_out? (members_of ks)) e in
    let b = sym (ap (any (λ n. not_below n named_states)) (members_cons ks)) ∙ a in
    sym (ap (λ n. not_below n named_states) (first-is ks)) ∙ or_left _ _ b

-- numbers that are cut are the same exactly if the numbers are, where one is in range
cap-same : (m n : ℕ) → n < named_states → eqb (cap m) (cap n) ≡ eqb m n
cap-same m n h = go (dec_lt m 1000)
  where
    go : Dec (m < 1000) → eqb (cap m) (cap n) ≡ eqb m n
    go (yes l) = ap (λ k. eqb k (cap n)) (sym (cap-below m l)) ∙ ap (eqb m) (sym (cap-below n (omega arith)))
    go (no l) = both (eqb (cap m) (cap n)) (eqb m n) refl refl
      where
        both : (a b : Bool) → eqb (cap m) (cap n) ≡ a → eqb m n ≡ b → a ≡ b
        both true true e f = refl
        both false false e f = refl
        both true false e f =
            absurd (let z = eqb-true (cap m) (cap n) e in
            omega (arith, z, cap_above m (omega arith), cap-below n (omega arith)))
        both false true e f = absurd (let z = eqb-true m n f in omega (arith, z))

or-under : (a b c d : Bool) → (a ≡ false → b ≡ c) → (a || (b || d)) ≡ (a || (c || d))
or-under true b c d h = refl
or-under false b c d h = ap (◌|| d) (h refl)

-- ── the parts ──

-- the tokens of a heading with others behind them, part by part
unfoldable parts : Heading → Tokens → Tokens
parts h ts =
    sign lpar ∷ name letC h.name ∷ sign comma ∷ sign lbrace
    ∷ (of_names letQ h.states
    ++ (sign rbrace ∷ sign comma ∷ name letQ h.initial ∷ sign comma ∷ (of_set h.feedback ++ ts)))

parts_are : (h : Heading) (ts : Tokens) → of_heading h ++ ts ≡ parts h ts
unfolding of_heading parts
parts_are h ts =
    ap (λ u. sign lpar ∷ name letC h.name ∷ sign comma ∷ sign lbrace ∷ u)
    (append_assoc (of_names letQ h.states)
    (sign rbrace ∷ sign comma ∷ name letQ h.initial ∷ sign comma ∷ of_set h.feedback) ts)

module _ (w : List ℕ) (at i j k l : ℕ) (c q : Name) (s : StateList) (x : SignalSet) (r : Headed) where
  pub heading_right : BehindSign w at 1 i → NameFrom w i c → BehindSign w c.next 1 j → StatesAt w j s
      → BehindSign w s.next 1 k → NameFrom w k q → BehindSign w q.next 1 l → SetAt w l x
      → r.name ≡ c.value → r.initial ≡ q.value → r.count ≡ s.count → r.mask ≡ s.mask → r.feedback ≡ x.mask
      → r.bad ≡ (s.bad || (differ q.value s.first || x.bad)) → r.next ≡ x.next → HeadingAt w at r
  unfolding parts sign_bytes heading? set? same
  heading_right o p u v y z a b en ei ec em ef eb ex =
      record {
        within = subst (λ e. e ≤ length w) (sym ex) b.within;
        onward = on;
        further =
            λ f.
            omega (
              arith,
              o.further (omega arith) f,
              p.onward,
              u.onward,
              v.onward,
              y.onward,
              z.onward,
              a.onward,
              b.onward,
              ex,
            );
        gives = go;
      }
    where
      on : at ≤ r.next
      on =
          omega
          (arith, o.onward, p.onward, u.onward, v.onward, y.onward, z.onward, a.onward, b.onward, ex)

      go : (h : Heading) (ts : Tokens) → Text (of_heading h ++ ts) (drop at w) → GivesHeading w r h ts
      go h ts t =
          let t₀ = subst (λ u. Text u (drop at w)) (parts_are h ts) t in
          let t₁ = named-right w i letC h.name c (behind-right w at lpar i t₀ o.behind) p.is in
          let t₂ = v.gives h.states _ (behind-right w c.next comma j t₁.1 u.behind) in
          let t₃ =
          named-right w k letQ h.initial q (behind-right w s.next comma k t₂.goes_on y.behind) z.is in
          let t₄ = b.gives h.feedback _ (behind-right w q.next comma l t₃.1 a.behind) in
          record {
            goes_on = subst (λ e. Text ts (drop e w)) (sym ex) t₄.goes_on;
            is_name = en ∙ t₁.0;
            is_initial = ei ∙ t₃.0;
            is_count = ec ∙ t₂.is_count;
            is_bad =
                eb
                ∙ ap (λ n. s.bad || (differ n s.first || x.bad)) t₃.0
                ∙ ap (λ n. s.bad || (differ (cap h.initial) n || x.bad)) t₂.is_first
                ∙ ap (λ n. n || (differ (cap h.initial) (cap (first h.states)) || x.bad)) t₂.is_bad
                ∙ ap (λ n. not_all? named_states (members_of h.states)
                || (differ (cap h.initial) (cap (first h.states)) || n)) t₄.is_bad
                ∙ or-under (not_all? named_states (members_of h.states))
                (differ (cap h.initial) (cap (first h.states))) (differ h.initial (first h.states))
                (set? h.feedback)
                (λ e. ap not (cap-same h.initial (first h.states)
                (cap_in named_states (omega arith) (first h.states) (first_in_lem h.states e)).1));
            is_mask = λ e. em ∙ t₂.is_mask (or_left s.bad (differ q.value s.first || x.bad) (sym eb ∙ e));
            is_feedback =
                λ e. ef
                ∙ t₄.is_mask (or_right (differ q.value s.first) x.bad
                (or_right s.bad (differ q.value s.first || x.bad) (sym eb ∙ e)));
          }
