-- A transition is read if its parts are read one after another: `transition-right`.
use Rattle.std.specs.Prelude.{◌≡◌, ◌||◌, List, [], ◌∷◌, ◌++◌, map, ℕ, ◌≤◌, drop}
use Rattle.std.proofs.Common.{sym, ap, ◌∙◌, subst, append_assoc, arith}
use Rattle.meaning.specs.Sums.Laws.{or_left, or_right}
use Rattle.notation.specs.Syntax.{Transition}
use Rattle.notation.specs.Grammar.{lpar, rpar, comma, slash, letQ, sign, sign_bytes, name, Tokens, of_set, of_guard}
use Rattle.notation.specs.Grammar.{of_transition, Text}
use Rattle.reading.specs.Names.{members_or, signals?, set?, signal_of}
use Rattle.reading.specs.Meant.{transition_for}
use Rattle.tokens.specs.declared.Name.{Name}
use Rattle.tokens.specs.Tokens.{BehindSign, NameFrom}
use Rattle.tokens.specs.Laws.Text.{behind-right, named-right}
use Rattle.fields.specs.declared.SignalSet.{SignalSet}
use Rattle.fields.specs.declared.Guard.{Guard}
use Rattle.fields.specs.declared.Passage.{Passage}
use Rattle.fields.specs.Fields.{SetAt, GuardAt, Passes, TransitionAt}

-- the tokens of a transition with others behind them, part by part
unfoldable parts : Transition → Tokens → Tokens
parts t ts =
    sign lpar ∷ name letQ t.from ∷ sign comma ∷ name letQ t.to ∷ sign comma
    ∷ (of_guard t.guard ++ (sign slash ∷ (of_set t.action ++ (sign rpar ∷ ts))))

parts_are : (t : Transition) (ts : Tokens) → of_transition t ++ ts ≡ parts t ts
unfolding of_transition parts
parts_are t ts =
    ap (λ u. sign lpar ∷ name letQ t.from ∷ sign comma ∷ name letQ t.to ∷ sign comma ∷ u)
    (append_assoc (of_guard t.guard) (sign slash ∷ (of_set t.action ++ (sign rpar ∷ []))) ts
    ∙ ap (λ u. of_guard t.guard ++ (sign slash ∷ u)) (append_assoc (of_set t.action) (sign rpar ∷ []) ts))

module _ (w : List ℕ) (at i j k : ℕ) (a b : Name) (g : Guard) (s : SignalSet) (r : Passage) where
  pub transition-right : BehindSign w at 1 i → NameFrom w i a → BehindSign w a.next 1 j → NameFrom w j b
      → BehindSign w b.next 1 k → GuardAt w k g → SetAt w g.next s → BehindSign w s.next 1 r.next
      → r.from ≡ a.value → r.to ≡ b.value → r.needed ≡ g.needed → r.barred ≡ g.barred → r.action ≡ s.mask
      → r.bad ≡ (g.bad || s.bad) → TransitionAt w at r
  unfolding parts sign_bytes set? transition_for
  transition-right o p q u v x y z ef et en er ea eb = record { within = z.within; onward = on; gives = go }
    where
      on : at ≤ r.next
      on =
          omega
          (arith, o.onward, p.onward, q.onward, u.onward, v.onward, x.onward, y.onward, z.onward)

      go : (t : Transition) (ts : Tokens) → Text (of_transition t ++ ts) (drop at w) → Passes w r t ts
      go t ts h =
          let t₀ = subst (λ u. Text u (drop at w)) (parts_are t ts) h in
          let t₁ = named-right w i letQ t.from a (behind-right w at lpar i t₀ o.behind) p.is in
          let t₂ = named-right w j letQ t.to b (behind-right w a.next comma j t₁.1 q.behind) u.is in
          let t₃ = x.gives t.guard _ (behind-right w b.next comma k t₂.1 v.behind) in
          let t₄ = y.gives t.action _ t₃.0 in
          let m = t₃.1 in
          record {
            goes_on = behind-right w s.next rpar r.next t₄.goes_on z.behind;
            is_from = ef ∙ t₁.0;
            is_to = et ∙ t₂.0;
            is_bad =
                eb ∙ ap (◌|| s.bad) m.is_bad
                ∙ ap (λ c. signals? (map signal_of (members_or t.guard)) || c) t₄.is_bad;
            is_needed = λ e. en ∙ m.is_needed (or_left g.bad s.bad (sym eb ∙ e));
            is_barred = λ e. er ∙ m.is_barred (or_left g.bad s.bad (sym eb ∙ e));
            is_action = λ e. ea ∙ t₄.is_mask (or_right g.bad s.bad (sym eb ∙ e));
          }
