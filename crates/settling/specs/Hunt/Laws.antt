-- Laws of what a search keeps. In order: `over`, which goes through a list of outcomes; `each`; that `over` gives the
-- answer of the whole list (`answer-over`); lists of outcomes that answer alike (`Alike`), and what may be left out of
-- one.
use Rattle.std.specs.Prelude.{◌≡◌, refl, Bool, true, false, ◌&&◌, ◌⊎◌, List, [], ◌∷◌, ◌++◌}
use Rattle.std.proofs.Common.{sym, ap₂, ◌∙◌, eq-or-lt_of_le}
use Rattle.std.proofs.Math.Path.{ap}
use Rattle.std.proofs.Math.Bool.{and_assoc, and-true}
use Rattle.std.proofs.Math.Logic.{⊎_elim}
use Rattle.std.proofs.Math.Option.{Option, none, some}
use Prim.Native.Nat.{ℕ, zero, suc, ◌+◌, ◌≤◌, ◌<◌}
use Rattle.std.proofs.Math.Numerals.{add-one}
use native.Mathlib.Omega.{arith}
use Rattle.meaning.specs.Meaning.{same, Outcome, eq_list, agree, given, answer, first_places}
use Rattle.meaning.specs.Laws.Bools.{same_refl, same_comm, and_l, and_r}
use Rattle.meaning.proofs.Laws.Choices.{eq_list_refl}
use Rattle.meaning.specs.Rewriting.{in_turn}
use Rattle.settling.specs.Hunt.{pick_found, settle_of, over, nothing, answer_in}
use Rattle.settling.specs.declared.Found.{Found}

-- ── over ──

pub over-append : (os ps : List Outcome) (f : Found) → over (os ++ ps) f ≡ over ps (over os f)
unfolding over
over-append [] ps f = refl
over-append (o ∷ os) ps f = over-append os ps (settle_of o f)

-- two that disagree were found
pub record Stopped (f : Found) : Type 0 where
  pub has : f.has ≡ true
  pub agree : f.agree ≡ false

settle_stopped : (o : Outcome) (f : Found) → Stopped f → settle_of o f ≡ f
unfolding settle_of
settle_stopped o f h =
    ap (λ (b : Bool). pick_found b both
    (record { has = true; agree = true; output = o.output; next = o.next; places = o.places })) h.has
    ∙ either (same o.output f.output && eq_list o.next f.next)
  where
    off : Found
    off = record { has = true; agree = false; output = f.output; next = f.next; places = f.places }

    both : Found
    both = pick_found (same o.output f.output && eq_list o.next f.next) f off

    either : (b : Bool) → pick_found b f off ≡ f
    either true = refl
    either false =
        ap₂ (λ (x y : Bool). record { has = x; agree = y; output = f.output; next = f.next; places = f.places })
        (sym h.has) (sym h.agree)

-- nothing more can change
pub over_stopped : (os : List Outcome) (f : Found) → Stopped f → over os f ≡ f
unfolding over
over_stopped [] f h = refl
over_stopped (o ∷ os) f h = rw (settle_stopped o f h) (over_stopped os f h)

-- ── each ──

pub each_none : (n : ℕ) (f : ℕ → List Outcome) → ((v : ℕ) → v < n → f v ≡ []) → in_turn n f ≡ []
unfolding in_turn
each_none zero f h = refl
each_none (suc n) f h = rw (each_none n f (λ v l. h v (omega arith)), h n (omega arith))

module _ (f : ℕ → List Outcome) (acc : Found) where
  -- one block more, as code counts
  pub over_each : (n : ℕ) → over (in_turn (n + 1) f) acc ≡ over (f n) (over (in_turn n f) acc)
  unfolding in_turn
  over_each n = rw add-one (over-append (in_turn n f) (f n) acc)

  pub over_each_stopped : (n k : ℕ) → k ≤ n → Stopped (over (in_turn k f) acc)
      → over (in_turn n f) acc ≡ over (in_turn k f) acc
  unfolding in_turn
  over_each_stopped zero k l h = let e : k ≡ 0 = omega arith in rw e
  over_each_stopped (suc n) k l h =
      ⊎_elim (λ e. rw e) (λ i. more (over_each_stopped n k (omega arith) h)) (eq-or-lt_of_le l)
    where
      more : over (in_turn n f) acc ≡ over (in_turn k f) acc → over (in_turn n f ++ f n) acc ≡ over (in_turn k f) acc
      more e = over-append (in_turn n f) (f n) acc ∙ ap (over (f n)) e ∙ over_stopped (f n) (over (in_turn k f) acc) h

-- ── the answer of all outcomes ──

-- two outcomes are equal, as a test
abbrev pub equal : Outcome → Outcome → Bool
equal a b = same a.output b.output && eq_list a.next b.next

-- the first outcome found
abbrev pub first_in : Found → Outcome
first_in f = record { output = f.output; next = f.next; places = f.places }

eq_list_comm : (cs ds : List ℕ) → eq_list cs ds ≡ eq_list ds cs
unfolding eq_list
eq_list_comm [] [] = refl
eq_list_comm [] (d ∷ ds) = refl
eq_list_comm (c ∷ cs) [] = refl
eq_list_comm (c ∷ cs) (d ∷ ds) = ap₂ ◌&&◌ (same_comm c d) (eq_list_comm cs ds)

-- the first stays, and the mark falls where the next one differs from it
settle_kept : (o : Outcome) (f : Found) → f.has ≡ true →
    settle_of o f ≡ record {
      has = true;
      agree = f.agree && equal (first_in f) o;
      output = f.output;
      next = f.next;
      places = f.places;
    }
unfolding settle_of
settle_kept o f h =
    ap₂ (λ (b q : Bool). pick_found b (pick_found q f off)
    (record { has = true; agree = true; output = o.output; next = o.next; places = o.places })) h
    (ap₂ ◌&&◌ (same_comm o.output f.output) (eq_list_comm o.next f.next))
    ∙ either (equal (first_in f) o) f.agree refl
  where
    off : Found
    off = record { has = true; agree = false; output = f.output; next = f.next; places = f.places }

    with' : Bool → Bool → Found
    with' b c = record { has = b; agree = c; output = f.output; next = f.next; places = f.places }

    either : (q a : Bool) → f.agree ≡ a → pick_found q f off ≡ with' true (f.agree && q)
    either true a e = ap₂ with' h (sym (and-true f.agree))
    either false true e = ap (λ (b : Bool). with' true (b && false)) (sym e)
    either false false e = ap (λ (b : Bool). with' true (b && false)) (sym e)

over_kept : (os : List Outcome) (f : Found) → f.has ≡ true →
    over os f ≡ record {
      has = true;
      agree = f.agree && agree (first_in f) os;
      output = f.output;
      next = f.next;
      places = f.places;
    }
unfolding over agree
over_kept [] f h =
    ap₂ (λ (b c : Bool). record { has = b; agree = c; output = f.output; next = f.next; places = f.places }) h
    (sym (and-true f.agree))
over_kept (o ∷ os) f h =
    ap (over os) (settle_kept o f h) ∙ over_kept os _ refl
    ∙ ap (λ (b : Bool). record { has = true; agree = b; output = f.output; next = f.next; places = f.places })
    (and_assoc f.agree (equal (first_in f) o) (agree (first_in f) os))

-- from nothing, the first outcome and whether all others agree with it
pub over_first : (o : Outcome) (os : List Outcome) →
    over (o ∷ os) nothing
    ≡ record { has = true; agree = agree o os; output = o.output; next = o.next; places = o.places }
unfolding over settle_of
over_first o os =
    over_kept os (record { has = true; agree = true; output = o.output; next = o.next; places = o.places }) refl

pub over_none : (over [] nothing).has ≡ false
unfolding over
over_none = refl

pub answer-over : (os : List Outcome) → answer_in (over os nothing) ≡ answer os
unfolding answer over
answer-over [] = refl
answer-over (o ∷ os) = ap answer_in (over_first o os)

-- ── lists of outcomes that answer alike ──

-- an outcome, its places aside
abbrev bare : Outcome → Outcome
bare o = record { output = o.output; next = o.next; places = [] }

-- the first outcome, its places aside
unfoldable pub head : List Outcome → Option Outcome
head [] = none
head (o ∷ os) = some (bare o)

-- The same first outcome, and the same outcomes agree with all of either: so they answer alike. Under P the first has
-- the same places too.
pub record Alike (P : Type 0) (xs ys : List Outcome) : Type 0 where
  pub first : head xs ≡ head ys
  pub agrees : (a : Outcome) → agree a xs ≡ agree a ys
  pub places : P → first_places xs ≡ first_places ys

module _ {P : Type 0} where
  pub alike_refl : (xs : List Outcome) → Alike P xs xs
  alike_refl xs = record { first = refl; agrees = λ a. refl; places = λ p. refl }

  pub alike_sym : {xs ys : List Outcome} → Alike P xs ys → Alike P ys xs
  alike_sym p = record { first = sym p.first; agrees = λ a. sym (p.agrees a); places = λ q. sym (p.places q) }

  pub alike_trans : {xs ys zs : List Outcome} → Alike P xs ys → Alike P ys zs → Alike P xs zs
  alike_trans p q = record {
    first = p.first ∙ q.first;
    agrees = λ a. p.agrees a ∙ q.agrees a;
    places = λ r. p.places r ∙ q.places r;
  }

  -- one outcome each
  pub alike_one : (a b : Outcome) → a.output ≡ b.output → a.next ≡ b.next → (P → a.places ≡ b.places)
      → Alike P (a ∷ []) (b ∷ [])
  unfolding head agree first_places
  alike_one a b p q r = record { first = rw (p, q); agrees = λ x. rw (p, q); places = r }

pub alike_fewer : {P Q : Type 0} {xs ys : List Outcome} → (P → Q) → Alike Q xs ys → Alike P xs ys
alike_fewer f h = record { first = h.first; agrees = h.agrees; places = λ p. h.places (f p) }

agree-append : (a : Outcome) (xs ys : List Outcome) → agree a (xs ++ ys) ≡ (agree a xs && agree a ys)
unfolding agree
agree-append a [] ys = refl
agree-append a (x ∷ xs) ys =
    ap (λ (b : Bool). equal a x && b) (agree-append a xs ys) ∙ sym (and_assoc (equal a x) (agree a xs) (agree a ys))

-- the first of two lists, by the first of each
abbrev or_else : Option Outcome → Option Outcome → Option Outcome
or_else none b = b
or_else (some o) b = some o

head-append : (xs ys : List Outcome) → head (xs ++ ys) ≡ or_else (head xs) (head ys)
unfolding head
head-append [] ys = refl
head-append (x ∷ xs) ys = refl

-- the first places of two lists: of lists that are both empty or both not
places_append : (xs ys zs ws : List Outcome) → head xs ≡ head ys → first_places xs ≡ first_places ys
    → first_places zs ≡ first_places ws
    → first_places (xs ++ zs) ≡ first_places (ys ++ ws)
unfolding head first_places
places_append [] [] zs ws h p q = q
places_append [] (y ∷ ys) zs ws h p q = cc
places_append (x ∷ xs) [] zs ws h p q = cc
places_append (x ∷ xs) (y ∷ ys) zs ws h p q = p

pub alike_append : {P : Type 0} {xs ys zs ws : List Outcome} → Alike P xs ys → Alike P zs ws
    → Alike P (xs ++ zs) (ys ++ ws)
alike_append {P} {xs} {ys} {zs} {ws} p q =
    record {
      first = head-append xs zs ∙ ap₂ or_else p.first q.first ∙ sym (head-append ys ws);
      agrees = λ a. agree-append a xs zs ∙ ap₂ ◌&&◌ (p.agrees a) (q.agrees a) ∙ sym (agree-append a ys ws);
      places = λ r. places_append xs ys zs ws p.first (p.places r) (q.places r);
    }

equal_refl : (a : Outcome) → equal a a ≡ true
equal_refl a = rw (same_refl a.output) (eq_list_refl a.next)

-- an answer by its first outcome, which agrees with itself
answer-first : (a : Outcome) (xs : List Outcome) → answer (a ∷ xs) ≡ given a.output a.next (agree a (a ∷ xs))
unfolding answer agree
answer-first a xs = rw (equal_refl a)

-- places do not count
agree-bare : (a b : Outcome) (xs : List Outcome) → a.output ≡ b.output → a.next ≡ b.next → agree a xs ≡ agree b xs
unfolding agree
agree-bare a b [] p q = refl
agree-bare a b (x ∷ xs) p q =
    ap₂ ◌&&◌ (ap₂ (λ (o : ℕ) (n : List ℕ). same o x.output && eq_list n x.next) p q) (agree-bare a b xs p q)

pub alike_answer : {P : Type 0} (xs ys : List Outcome) → Alike P xs ys → answer xs ≡ answer ys
unfolding head
alike_answer [] [] p = refl
alike_answer [] (y ∷ ys) p = cc
alike_answer (x ∷ xs) [] p = cc
alike_answer (x ∷ xs) (y ∷ ys) p =
    let z : bare x ≡ bare y = cc in
    let e : x.output ≡ y.output = ap (λ (o : Outcome). o.output) z in
    let f : x.next ≡ y.next = ap (λ (o : Outcome). o.next) z in
    answer-first x xs
    ∙ ap₂ (λ (o : ℕ) (n : List ℕ). given o n (agree x (x ∷ xs))) e f
    ∙ ap (given y.output y.next) (p.agrees x ∙ agree-bare x y (y ∷ ys) e f) ∙ sym (answer-first y ys)

-- ── what may be left out ──

-- ys says nothing that xs does not say: what agrees with all of xs agrees with all of ys
pub record Among (ys xs : List Outcome) : Type 0 where
  pub first : head xs ≡ none → head ys ≡ none
  pub agrees : (a : Outcome) → agree a xs ≡ true → agree a ys ≡ true

among_refl : (xs : List Outcome) → Among xs xs
among_refl xs = record { first = λ e. e; agrees = λ a e. e }

-- so does what is like ys
pub among_alike : {P : Type 0} {xs ys zs : List Outcome} → Alike P ys zs → Among ys xs → Among zs xs
among_alike p q = record { first = λ e. sym p.first ∙ q.first e; agrees = λ a e. sym (p.agrees a) ∙ q.agrees a e }

none_l : (p q : Option Outcome) → or_else p q ≡ none → p ≡ none
none_l none q e = refl
none_l (some o) q e = e

none_r : (p q : Option Outcome) → or_else p q ≡ none → q ≡ none
none_r none q e = e
none_r (some o) q e = cc

among_left : {zs : List Outcome} (xs ys : List Outcome) → Among zs xs → Among zs (xs ++ ys)
among_left xs ys p =
    record {
      first = λ e. p.first (none_l (head xs) (head ys) (sym (head-append xs ys) ∙ e));
      agrees = λ a e. p.agrees a (and_l (agree a xs) (agree a ys) (sym (agree-append a xs ys) ∙ e));
    }

among_right : {zs : List Outcome} (xs ys : List Outcome) → Among zs ys → Among zs (xs ++ ys)
among_right xs ys p =
    record {
      first = λ e. p.first (none_r (head xs) (head ys) (sym (head-append xs ys) ∙ e));
      agrees = λ a e. p.agrees a (and_r (agree a xs) (agree a ys) (sym (agree-append a xs ys) ∙ e));
    }

-- what an earlier list says may be left out behind it
pub alike_drop : {P : Type 0} (xs ys : List Outcome) → Among ys xs → Alike P (xs ++ ys) xs
unfolding head first_places
alike_drop xs ys p =
    record {
      first = head-append xs ys ∙ fst (head xs) (head ys) p.first;
      agrees = λ a. agree-append a xs ys ∙ snd (agree a xs) (agree a ys) (p.agrees a);
      places = λ q. places xs ys p.first;
    }
  where
    fst : (b c : Option Outcome) → (b ≡ none → c ≡ none) → or_else b c ≡ b
    fst none c h = h refl
    fst (some o) c h = refl

    snd : (b c : Bool) → (b ≡ true → c ≡ true) → (b && c) ≡ b
    snd true c h = h refl
    snd false c h = refl

    places : (xs ys : List Outcome) → (head xs ≡ none → head ys ≡ none) → first_places (xs ++ ys) ≡ first_places xs
    places [] [] h = refl
    places [] (y ∷ ys) h = let z = h refl in cc
    places (x ∷ xs) ys h = refl

-- a block of `each`
pub among_each : (f : ℕ → List Outcome) (n u : ℕ) → u < n → Among (f u) (in_turn n f)
unfolding in_turn
among_each f zero u l = absurd (omega arith)
among_each f (suc n) u l =
    let l' : u ≤ n = omega arith in
    ⊎_elim (λ e. rw e (among_right (in_turn n f) (f n) (among_refl (f n))))
    (λ h. among_left (in_turn n f) (f n) (among_each f n u h))
    (eq-or-lt_of_le l')
