-- Laws of lists that grow by a member, in this order: a list and a member more; a list that begins; none, one, and
-- more members added.
use Rattle.std.specs.Prelude.{◌≡◌, ℕ, ◌<◌, length}
use Rattle.std.proofs.Math.Path.{refl, sym, ap}
use Rattle.std.proofs.Common.{◌∙◌, arith}
use mathlib.Core.List.{List, [], ◌∷◌, ◌++◌, append_assoc, append-nil}
use Rattle.notation.specs.Grammar.{Tokens, Sign, sign₁, sign_bytes, bytes_of_all}
use Rattle.printing.specs.Prints.{Prints}
use Rattle.printing.specs.Separated.{behind_each, in_turn, apart, PrintsApart, Adds}
use Rattle.printing.specs.Laws.Prints.{length-bytes, bytes_some, prints_none, prints_append}

-- no member is without tokens
abbrev pub Solid : {A : Type 0} → (A → Tokens) → Type 0
Solid {A} f = (a : A) → 0 < length (f a)

-- ── a list and a member more ──

module _ {A : Type 0} (k : Sign) (f : A → Tokens) where
  pub behind_each_snoc : (l : List A) (a : A) → behind_each k f (l ++ (a ∷ [])) ≡ behind_each k f l ++ (sign₁ k ++ f a)
  unfolding behind_each
  behind_each_snoc [] a = ap (sign₁ k ++◌) (append-nil (f a))
  behind_each_snoc (b ∷ l) a =
      ap (λ ts. sign₁ k ++ (f b ++ ts)) (behind_each_snoc l a) ∙ ap (sign₁ k ++◌) (sym (append_assoc (f b) _ _))

  apart_some : (ts us : Tokens) → 0 < length ts → apart k (ts ++ us) ≡ sign₁ k
  unfolding apart
  apart_some [] us h = absurd (omega arith)
  apart_some (t ∷ ts) us h = refl

  pub in_turn_snoc : Solid f → (l : List A) (a : A)
      → in_turn k f (l ++ (a ∷ [])) ≡ in_turn k f l ++ (apart k (in_turn k f l) ++ f a)
  unfolding in_turn
  in_turn_snoc s [] a = unfold behind_each apart in append-nil (f a)
  in_turn_snoc s (b ∷ l) a =
      ap (f b ++◌) (behind_each_snoc l a) ∙ sym (append_assoc (f b) _ _)
      ∙ ap (λ ts. (f b ++ behind_each k f l) ++ (ts ++ f a)) (sym (apart_some (f b) (behind_each k f l) (s b)))

  pub in_turn-none : (at : ℕ) (l : List ℕ) → Prints l at (in_turn k f []) l at
  unfolding in_turn
  in_turn-none at l = prints_none at l

  -- a list of one member
  pub in_turn-one : (a : A) → in_turn k f (a ∷ []) ≡ f a
  unfolding in_turn behind_each
  in_turn-one a = append-nil (f a)

-- ── the sign before a member ──

-- nothing stands before it; something does
pub apart_none : {b first at : ℕ} {l : List ℕ} → at ≡ first → PrintsApart b first l at l at
unfolding apart
apart_none e k [] q p = prints_none _ _
apart_none e k (t ∷ ts) q p = absurd (omega (arith, bytes_some t ts))

pub apart_sign : {b first at next : ℕ} {l m : List ℕ} → (at ≡ first → ⊥)
    → ((k : Sign) → sign_bytes k ≡ (b ∷ []) → Prints l at (sign₁ k) m next) → PrintsApart b first l at m next
unfolding apart bytes_of_all
apart_sign h s k [] q p = absurd (h (omega arith))
apart_sign h s k (t ∷ ts) q p = s k q

-- ── members added ──

module _ {A : Type 0} {k : Sign} {f : A → Tokens} {first : ℕ} where
  pub adds_none : {m : List ℕ} {at : ℕ} → Adds k f [] first m at m at
  adds_none = record { adds = λ l as' p. rw (append-nil as') p }

  pub adds_one : {b at j next : ℕ} {m n o : List ℕ} → Solid f → (a : A) → sign_bytes k ≡ (b ∷ [])
      → PrintsApart b first m at n j → Prints n j (f a) o next → Adds k f (a ∷ []) first m at o next
  adds_one s a e w p =
      record {
        adds =
            λ l as' q.
            let ts = in_turn k f as' in
            rw (in_turn_snoc k f s as' a)
            (record {
              writes =
                  record {
                    put =
                        λ h.
                        let g = q.writes.put (omega (arith, length-bytes ts (apart k ts ++ f a))) in
                        (prints_append q (prints_append (w k ts e g.place) p)).writes.put h;
                  };
            });
      }

  pub adds-both : {as' bs : List A} {m n o : List ℕ} {at j next : ℕ} → Adds k f as' first m at n j
      → Adds k f bs first n j o next → Adds k f (as' ++ bs) first m at o next
  adds-both {as'} {bs} p q =
      record { adds = λ l cs w. rw (← append_assoc cs as' bs) (q.adds l (cs ++ as') (p.adds l cs w)) }
