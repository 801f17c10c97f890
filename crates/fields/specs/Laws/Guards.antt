-- Laws of guards read one literal after another: the literals that are read (`means-..`), and the loop over them.
use Rattle.std.specs.Prelude.{◌≡◌, refl, false, ◌||◌, ℕ, drop, get_or}
use Rattle.std.proofs.Math.Path.{sym, ap, subst}
use Rattle.std.proofs.Common.{◌∙◌, arith}
use Rattle.std.proofs.Math.Option.{Option, none, some}
use mathlib.Core.List.{List, [], ◌∷◌, ◌++◌, map, append_assoc, append-nil}
use Rattle.signals.specs.Mask.{◌∪◌, single}
use Rattle.meaning.specs.Check.{not_below}
use Rattle.notation.specs.Syntax.{OneOrMore, one, ◌▸◌, Literal, needed, barred}
use Rattle.notation.specs.Grammar.{amp, minus, slash, letS, letter, sign, sign_bytes, Tokens, of_literal, of_literals}
use Rattle.notation.specs.Grammar.{of_guard, Text}
use Rattle.notation.specs.Reader.{first_byte}
use Rattle.reading.specs.Numbers.{named_signals}
use Rattle.reading.specs.Names.{members_of, members_or, any, signals?, signal_of}
use Rattle.reading.specs.Meant.{mask_of, needed_in, barred_in}
use Rattle.tokens.specs.declared.Name.{Name}
use Rattle.tokens.specs.Tokens.{cap, after_blanks, BehindSign, NameFrom}
use Rattle.tokens.specs.Laws.Text.{behind-right, named-right}
use Rattle.tokens.specs.Laws.Lists.{peek_sign, peek_name}
use Rattle.fields.specs.declared.Joined.{Joined}
use Rattle.fields.specs.declared.Guard.{Guard}
use Rattle.fields.specs.Fields.{Joins, Means, LiteralAt, LiteralsAt, GuardAt}
use Rattle.fields.specs.Laws.Sets.{mask_snoc, joins-bad, joins-before, joins_mask}
use Rattle.reading.specs.Laws.Lists.{any_snoc}

-- ── literals ──

needed_snoc : (done : List Literal) (n : ℕ) → needed_in (done ++ (needed n ∷ [])) ≡ needed_in done ++ (n ∷ [])
unfolding needed_in
needed_snoc [] n = refl
needed_snoc (needed m ∷ done) n = ap (m ∷◌) (needed_snoc done n)
needed_snoc (barred m ∷ done) n = needed_snoc done n

needed_other : (done : List Literal) (n : ℕ) → needed_in (done ++ (barred n ∷ [])) ≡ needed_in done
unfolding needed_in
needed_other [] n = refl
needed_other (needed m ∷ done) n = ap (m ∷◌) (needed_other done n)
needed_other (barred m ∷ done) n = needed_other done n

barred_snoc : (done : List Literal) (n : ℕ) → barred_in (done ++ (barred n ∷ [])) ≡ barred_in done ++ (n ∷ [])
unfolding barred_in
barred_snoc [] n = refl
barred_snoc (needed m ∷ done) n = barred_snoc done n
barred_snoc (barred m ∷ done) n = ap (m ∷◌) (barred_snoc done n)

barred_other : (done : List Literal) (n : ℕ) → barred_in (done ++ (needed n ∷ [])) ≡ barred_in done
unfolding barred_in
barred_other [] n = refl
barred_other (needed m ∷ done) n = barred_other done n
barred_other (barred m ∷ done) n = ap (m ∷◌) (barred_other done n)

signals_snoc : (done : List Literal) (l : Literal)
    → map signal_of (done ++ (l ∷ [])) ≡ map signal_of done ++ (signal_of l ∷ [])
signals_snoc [] l = refl
signals_snoc (m ∷ done) l = ap (signal_of m ∷◌) (signals_snoc done l)

pub means_none : (g : Guard) → g.bad ≡ false → g.needed ≡ 0 → g.barred ≡ 0 → Means g []
unfolding signals? any mask_of needed_in barred_in
means_none g b n r = record { is_bad = b; is_needed = λ e. n; is_barred = λ e. r }

module _ (g : Guard) (done : List Literal) (m : Means g done) (n v : ℕ) (j : Joined) (e : v ≡ cap n) (r : Guard) where
  bad_more : (mask : ℕ) → Joins mask g.bad v j → (l : Literal) → signal_of l ≡ n
      → j.bad ≡ signals? (map signal_of (done ++ (l ∷ [])))
  unfolding signals?
  bad_more mask q l z =
      joins-bad mask g.bad n v j e q ∙ ap (◌|| not_below n named_signals) m.is_bad
      ∙ sym (ap (any (λ k. not_below k named_signals))
      (signals_snoc done l ∙ ap (λ k. map signal_of done ++ (k ∷ [])) z)
      ∙ any_snoc (λ k. not_below k named_signals) (map signal_of done) n)

  pub means_needed : Joins g.needed g.bad v j → r.bad ≡ j.bad → r.needed ≡ j.mask → r.barred ≡ g.barred
      → Means r (done ++ (needed n ∷ []))
  unfolding signal_of
  means_needed q eb en er =
      record {
        is_bad = eb ∙ bad_more g.needed q (needed n) refl;
        is_needed =
            λ f. let h = sym eb ∙ f in
            en ∙ joins_mask g.needed g.bad n v j e q h
            ∙ ap (◌∪ single n) (m.is_needed (joins-before g.needed g.bad n v j e q h))
            ∙ sym (ap mask_of (needed_snoc done n) ∙ mask_snoc (needed_in done) n);
        is_barred =
            λ f. let h = sym eb ∙ f in
            er ∙ m.is_barred (joins-before g.needed g.bad n v j e q h) ∙ sym (ap mask_of (barred_other done n));
      }

  pub means_barred : Joins g.barred g.bad v j → r.bad ≡ j.bad → r.needed ≡ g.needed → r.barred ≡ j.mask
      → Means r (done ++ (barred n ∷ []))
  unfolding signal_of
  means_barred q eb en er =
      record {
        is_bad = eb ∙ bad_more g.barred q (barred n) refl;
        is_needed =
            λ f. let h = sym eb ∙ f in
            en ∙ m.is_needed (joins-before g.barred g.bad n v j e q h) ∙ sym (ap mask_of (needed_other done n));
        is_barred =
            λ f. let h = sym eb ∙ f in
            er ∙ joins_mask g.barred g.bad n v j e q h
            ∙ ap (◌∪ single n) (m.is_barred (joins-before g.barred g.bad n v j e q h))
            ∙ sym (ap mask_of (barred_snoc done n) ∙ mask_snoc (barred_in done) n);
      }

-- ── one literal ──

module _ (w : List ℕ) (at : ℕ) (g r : Guard) (n : Name) (j : Joined) where
  pub literal_barred : (i : ℕ) → get_or (after_blanks (drop at w)) 0 0 ≡ 45 → BehindSign w at 1 i → NameFrom w i n
      → Joins g.barred g.bad n.value j → r.next ≡ n.next → r.bad ≡ j.bad → r.needed ≡ g.needed
      → r.barred ≡ j.mask → LiteralAt w at g r
  unfolding of_literal sign_bytes letter
  literal_barred i p b f q ex eb en er =
      record {
        within = (let z = f.is.within in omega arith);
        onward = (let z = f.onward in let y = b.onward in omega arith);
        gives = go;
      }
    where
      go : (l : Literal) (ts : Tokens) (done : List Literal) → Text (of_literal l ++ ts) (drop at w) → Means g done
          → Text ts (drop r.next w) × Means r (done ++ (l ∷ []))
      go (needed k) ts done t m = absurd (let z = peek_name letS k t in omega arith)
      go (barred k) ts done t m =
          let u = behind-right w at minus i t b.behind in
          let x = named-right w i letS k n u f.is in
          (subst (λ p. Text ts (drop p w)) (sym ex) x.1, means_barred g done m k n.value j x.0 r q eb en er)

  pub literal_needed : (get_or (after_blanks (drop at w)) 0 0 ≡ 45 → ⊥) → NameFrom w at n
      → Joins g.needed g.bad n.value j → r.next ≡ n.next → r.bad ≡ j.bad → r.needed ≡ j.mask
      → r.barred ≡ g.barred → LiteralAt w at g r
  unfolding of_literal first_byte
  literal_needed p f q ex eb en er =
      record {
        within = (let z = f.is.within in omega arith);
        onward = (let z = f.onward in omega arith);
        gives = go;
      }
    where
      go : (l : Literal) (ts : Tokens) (done : List Literal) → Text (of_literal l ++ ts) (drop at w) → Means g done
          → Text ts (drop r.next w) × Means r (done ++ (l ∷ []))
      go (needed k) ts done t m =
          let x = named-right w at letS k n t f.is in
          (subst (λ p. Text ts (drop p w)) (sym ex) x.1, means_needed g done m k n.value j x.0 r q eb en er)
      go (barred k) ts done t m = absurd (p (peek_sign minus t))

-- ── the literals of a guard ──

unfoldable pub first_literal : OneOrMore Literal → Literal
first_literal (one l) = l
first_literal (ls ▸ l) = first_literal ls

unfoldable pub rest_literals : OneOrMore Literal → List Literal
rest_literals (one l) = []
rest_literals (ls ▸ l) = rest_literals ls ++ (l ∷ [])

-- each literal behind an ampersand
unfoldable pub more_literals : List Literal → Tokens
more_literals [] = []
more_literals (l ∷ ls) = sign amp ∷ (of_literal l ++ more_literals ls)

more_snoc : (a : List Literal) (l : Literal)
    → more_literals (a ++ (l ∷ [])) ≡ more_literals a ++ (sign amp ∷ of_literal l)
unfolding more_literals
more_snoc [] l = ap (sign amp ∷◌) (append-nil (of_literal l))
more_snoc (m ∷ a) l =
    ap (sign amp ∷◌)
    (ap (of_literal m ++◌) (more_snoc a l) ∙ sym
    (append_assoc (of_literal m) (more_literals a) (sign amp ∷ of_literal l)))

literals_cons : (ls : OneOrMore Literal)
    → of_literals ls ≡ of_literal (first_literal ls) ++ more_literals (rest_literals ls)
unfolding of_literals first_literal rest_literals
literals_cons (one l) = unfold more_literals in sym (append-nil (of_literal l))
literals_cons (ls ▸ l) =
    ap (◌++ (sign amp ∷ of_literal l)) (literals_cons ls)
    ∙ append_assoc (of_literal (first_literal ls)) (more_literals (rest_literals ls)) (sign amp ∷ of_literal l)
    ∙ ap (of_literal (first_literal ls) ++◌) (sym (more_snoc (rest_literals ls) l))

members-literals : (ls : OneOrMore Literal) → members_of ls ≡ first_literal ls ∷ rest_literals ls
unfolding members_of first_literal rest_literals
members-literals (one l) = refl
members-literals (ls ▸ l) = ap (◌++ (l ∷ [])) (members-literals ls)

-- the literals `done` of ls are read, and the text goes on with the others at i
pub record Through (w : List ℕ) (i : ℕ) (g : Guard) (ls : OneOrMore Literal) (ts : Tokens) : Type 0 where
  pub done : List Literal
  pub rest : List Literal
  pub all : members_of ls ≡ done ++ rest
  pub text : Text (more_literals rest ++ (sign slash ∷ ts)) (drop i w)
  pub means : Means g done

means_same : (g r : Guard) (done : List Literal) → r.bad ≡ g.bad → r.needed ≡ g.needed → r.barred ≡ g.barred
    → Means g done → Means r done
means_same g r done eb en er m =
    record {
      is_bad = eb ∙ m.is_bad;
      is_needed = λ f. en ∙ m.is_needed (sym eb ∙ f);
      is_barred = λ f. er ∙ m.is_barred (sym eb ∙ f);
    }

module _ (w : List ℕ) (ls : OneOrMore Literal) (ts : Tokens) where
  pub through_first : (at : ℕ) (g r : Guard) → Text (of_literals ls ++ (sign slash ∷ ts)) (drop at w)
      → LiteralAt w at g r → Means g [] → Through w r.next r ls ts
  through_first at g r h l m =
      let t =
      subst (λ u. Text u (drop at w))
      (ap (◌++ (sign slash ∷ ts)) (literals_cons ls)
      ∙ append_assoc (of_literal (first_literal ls)) (more_literals (rest_literals ls)) (sign slash ∷ ts)) h in
      let x = l.gives (first_literal ls) _ [] t m in
      record {
        done = first_literal ls ∷ [];
        rest = rest_literals ls;
        all = members-literals ls;
        text = x.0;
        means = x.1;
      }

  module _ (i : ℕ) (g : Guard) where
    pub through_more : (j : ℕ) (r : Guard) → get_or (after_blanks (drop i w)) 0 0 ≡ 38 → BehindSign w i 1 j
        → LiteralAt w j g r → Through w i g ls ts → Through w r.next r ls ts
    unfolding more_literals first_byte sign_bytes
    through_more j r p b l k = go k.rest k.all k.text
      where
        go : (rest : List Literal) → members_of ls ≡ k.done ++ rest
            → Text (more_literals rest ++ (sign slash ∷ ts)) (drop i w) → Through w r.next r ls ts
        go [] a t = absurd (let z = peek_sign slash t in omega arith)
        go (m ∷ rest) a t =
            let u = behind-right w i amp j t b.behind in
            let v =
            subst (λ u. Text u (drop j w)) (append_assoc (of_literal m) (more_literals rest) (sign slash ∷ ts)) u in
            let x = l.gives m _ k.done v k.means in
            record {
              done = k.done ++ (m ∷ []);
              rest = rest;
              all = a ∙ sym (append_assoc k.done (m ∷ []) rest);
              text = x.0;
              means = x.1;
            }

    pub through_end : (r : Guard) → (get_or (after_blanks (drop i w)) 0 0 ≡ 38 → ⊥) → BehindSign w i 1 r.next
        → r.bad ≡ g.bad → r.needed ≡ g.needed → r.barred ≡ g.barred → Through w i g ls ts
        → Text ts (drop r.next w) × Means r (members_of ls)
    unfolding more_literals first_byte sign_bytes
    through_end r p b eb en er k = go k.rest k.all k.text
      where
        go : (rest : List Literal) → members_of ls ≡ k.done ++ rest
            → Text (more_literals rest ++ (sign slash ∷ ts)) (drop i w)
            → Text ts (drop r.next w) × Means r (members_of ls)
        go [] a t = (
          behind-right w i slash r.next t b.behind,
          subst (λ d. Means r d) (sym (a ∙ append-nil k.done)) (means_same g r k.done eb en er k.means),
        )
        go (m ∷ rest) a t = absurd (p (peek_sign amp t))

-- ── a guard that may be left out ──

-- the byte that comes next tells whether there is one
literal_next : (w : List ℕ) (at : ℕ) (l : Literal) (ts : Tokens) → Text (of_literal l ++ ts) (drop at w)
    → get_or (after_blanks (drop at w)) 0 0 ≡ 47 → ⊥
unfolding of_literal letter first_byte
literal_next w at (needed n) ts t e = let z = peek_name letS n t in omega arith
literal_next w at (barred n) ts t e = let z = peek_sign minus t in omega arith

module _ (w : List ℕ) (at : ℕ) (r : Guard) where
  pub guard_none : get_or (after_blanks (drop at w)) 0 0 ≡ 47 → BehindSign w at 1 r.next → r.bad ≡ false
      → r.needed ≡ 0 → r.barred ≡ 0 → GuardAt w at r
  unfolding of_guard members_or sign_bytes
  guard_none p b eb en er = record { within = b.within; onward = b.onward; gives = go }
    where
      go : (ls : Option (OneOrMore Literal)) (ts : Tokens) → Text (of_guard ls ++ (sign slash ∷ ts)) (drop at w)
          → Text ts (drop r.next w) × Means r (members_or ls)
      go none ts t = (behind-right w at slash r.next t b.behind, means_none r eb en er)
      go (some ls) ts t =
          absurd (literal_next w at (first_literal ls) _
          (subst (λ u. Text u (drop at w))
          (ap (◌++ (sign slash ∷ ts)) (literals_cons ls)
          ∙ append_assoc (of_literal (first_literal ls)) (more_literals (rest_literals ls)) (sign slash ∷ ts)) t) p)

  pub guard_some : (get_or (after_blanks (drop at w)) 0 0 ≡ 47 → ⊥) → LiteralsAt w at r → GuardAt w at r
  unfolding of_guard members_or first_byte
  guard_some p l = record { within = l.within; onward = l.onward; gives = go }
    where
      go : (ls : Option (OneOrMore Literal)) (ts : Tokens) → Text (of_guard ls ++ (sign slash ∷ ts)) (drop at w)
          → Text ts (drop r.next w) × Means r (members_or ls)
      go none ts t = absurd (p (peek_sign slash t))
      go (some ls) ts t = l.gives ls ts t
