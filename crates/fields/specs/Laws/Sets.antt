-- Laws of sets of signals read one after another: the signals that are read (`..-more`), and the loop over their names
-- (`going-..`).
use Rattle.std.specs.Prelude.{◌≡◌, refl, Bool, true, false, ◌||◌, not, cond, ℕ, ◌<◌, ltb, drop, get_or}
use Rattle.std.proofs.Math.Path.{sym, ap}
use Rattle.std.proofs.Common.{◌∙◌, subst, true≢false, arith, lt-ltb, le-ltb, ltb-true}
use Rattle.std.proofs.Math.Option.{none, some}
use mathlib.Core.List.{List, [], ◌∷◌, ◌++◌, append_assoc, append-nil}
use Rattle.std.proofs.Math.Decide.{dec_lt}
use Rattle.signals.specs.Mask.{◌∪◌, single}
use Rattle.signals.specs.Decide.{sets, A, B, C, ◌∪ₑ◌, ∅ₑ, ◌≐◌}
use Rattle.meaning.specs.Check.{not_below}
use Rattle.meaning.specs.Sums.Laws.{or_left, or_right}
use Rattle.notation.specs.Syntax.{OneOrMore, one, ◌▸◌, Signals}
use Rattle.notation.specs.Grammar.{comma, rbrace, lbrace, letS, letter, sign, sign_bytes, Tokens, of_names, of_set}
use Rattle.notation.specs.Grammar.{Text}
use Rattle.notation.specs.Reader.{first_byte}
use Rattle.reading.specs.Numbers.{named_signals}
use Rattle.reading.specs.Names.{members_of, members_or, any, signals?}
use Rattle.reading.specs.Meant.{mask_of}
use Rattle.reading.specs.Laws.Lists.{any_snoc}
use Rattle.tokens.specs.declared.Name.{Name}
use Rattle.tokens.specs.Tokens.{cap, after_blanks, BehindSign, NameFrom}
use Rattle.tokens.specs.Laws.Text.{behind-right, named-right}
use Rattle.tokens.specs.Laws.Lists.{first_name, rest_names, more_names, names_cons, peek_sign, peek_name}
use Rattle.fields.specs.declared.SignalSet.{SignalSet}
use Rattle.fields.specs.declared.Joined.{Joined}
use Rattle.fields.specs.Fields.{Joins, Gives, SetAt, MembersAt}

-- ── signals ──

-- a number that is cut is in range exactly if the number is, and is the number then
cap_range : (n : ℕ) → not_below (cap n) named_signals ≡ not_below n named_signals
unfolding cap
cap_range n = go (dec_lt n 1000)
  where
    go : Dec (n < 1000) → not_below (cond (ltb n 1000) n 1000) named_signals ≡ not_below n named_signals
    go (yes h) = rw (lt-ltb n 1000 h)
    go (no h) = rw (le-ltb n 1000 (omega arith), le-ltb n 64 (omega arith))

cap_is : (n : ℕ) → cap n < named_signals → cap n ≡ n
unfolding cap
cap_is n = go (dec_lt n 1000)
  where
    go : Dec (n < 1000) → cond (ltb n 1000) n 1000 < named_signals → cond (ltb n 1000) n 1000 ≡ n
    go (yes h) l = rw (lt-ltb n 1000 h)
    go (no h) l =
        absurd (let z : ltb n 1000 ≡ false = le-ltb n 1000 (omega arith) in let k = (rw z at l) in omega arith)

pub mask_snoc : (a : List ℕ) (n : ℕ) → mask_of (a ++ (n ∷ [])) ≡ mask_of a ∪ single n
unfolding mask_of
mask_snoc [] n = sets (single n ∷ []) [] (A ∪ₑ ∅ₑ ≐ ∅ₑ ∪ₑ A) tt
mask_snoc (m ∷ a) n =
    ap (single m ∪◌) (mask_snoc a n)
    ∙ sets (single m ∷ mask_of a ∷ single n ∷ []) [] (A ∪ₑ (B ∪ₑ C) ≐ (A ∪ₑ B) ∪ₑ C) tt

-- the mask and the flag of the signals `done`
pub record SoFar (mask : ℕ) (bad : Bool) (done : List ℕ) : Type 0 where
  pub is_bad : bad ≡ signals? done
  pub is_mask : bad ≡ false → mask ≡ mask_of done

pub so_far_none : SoFar 0 false []
unfolding signals? any mask_of
so_far_none = record { is_bad = refl; is_mask = λ e. refl }

below : (n : ℕ) → not_below n named_signals ≡ false → n < named_signals
below n e = go (ltb n 64) refl e
  where
    go : (c : Bool) → ltb n 64 ≡ c → not c ≡ false → n < 64
    go true h e = ltb-true n 64 h
    go false h e = absurd (true≢false e)

-- one signal more, whose number is cut
module _ (mask : ℕ) (bad : Bool) (n v : ℕ) (r : Joined) (e : v ≡ cap n) (j : Joins mask bad v r) where
  pub joins-bad : r.bad ≡ (bad || not_below n named_signals)
  joins-bad = j.is_bad ∙ ap (bad ||◌) (ap (λ k. not_below k named_signals) e ∙ cap_range n)

  pub joins-before : r.bad ≡ false → bad ≡ false
  joins-before f = or_left bad (not_below v named_signals) (sym j.is_bad ∙ f)

  pub joins_mask : r.bad ≡ false → r.mask ≡ mask ∪ single n
  joins_mask f =
      let l = below v (or_right bad (not_below v named_signals) (sym j.is_bad ∙ f)) in
      j.is_mask l ∙ ap (λ k. mask ∪ single k) (e ∙ cap_is n (subst (λ k. k < named_signals) e l))

pub so_far_more : (mask : ℕ) (bad : Bool) (done : List ℕ) (n v : ℕ) (r : Joined) → v ≡ cap n → SoFar mask bad done
    → Joins mask bad v r → SoFar r.mask r.bad (done ++ (n ∷ []))
unfolding signals?
so_far_more mask bad done n v r e s j =
    record {
      is_bad =
          joins-bad mask bad n v r e j ∙ ap (◌|| not_below n named_signals) s.is_bad
          ∙ sym (any_snoc (λ m. not_below m named_signals) done n);
      is_mask =
          λ f. joins_mask mask bad n v r e j f ∙ ap (◌∪ single n) (s.is_mask (joins-before mask bad n v r e j f))
          ∙ sym (mask_snoc done n);
    }

-- ── names ──

pub members_cons : (ks : OneOrMore ℕ) → members_of ks ≡ first_name ks ∷ rest_names ks
unfolding members_of first_name rest_names
members_cons (one k) = refl
members_cons (ks ▸ k) = ap (◌++ (k ∷ [])) (members_cons ks)

-- the names `done` of ks are read, and the text goes on with the others at i
pub record Going (w : List ℕ) (i mask : ℕ) (bad : Bool) (ks : OneOrMore ℕ) (ts : Tokens) : Type 0 where
  pub done : List ℕ
  pub rest : List ℕ
  pub all : members_of ks ≡ done ++ rest
  pub text : Text (more_names letS rest ++ (sign rbrace ∷ ts)) (drop i w)
  pub so_far : SoFar mask bad done

module _ (w : List ℕ) (ks : OneOrMore ℕ) (ts : Tokens) where
  pub going_first : (at : ℕ) (n : Name) (r : Joined) → Text (of_names letS ks ++ (sign rbrace ∷ ts)) (drop at w)
      → NameFrom w at n → Joins 0 false n.value r → Going w n.next r.mask r.bad ks ts
  going_first at n r h f j =
      let t = subst (λ u. Text (u ++ (sign rbrace ∷ ts)) (drop at w)) (names_cons letS ks) h in
      let m = named-right w at letS (first_name ks) n t f.is in
      record {
        done = first_name ks ∷ [];
        rest = rest_names ks;
        all = members_cons ks;
        text = m.1;
        so_far = so_far_more 0 false [] (first_name ks) n.value r m.0 so_far_none j;
      }

  module _ (i mask : ℕ) (bad : Bool) where
    pub going_more : (j : ℕ) (n : Name) (r : Joined) → get_or (after_blanks (drop i w)) 0 0 ≡ 44 → BehindSign w i 1 j
        → NameFrom w j n → Joins mask bad n.value r → Going w i mask bad ks ts
        → Going w n.next r.mask r.bad ks ts
    unfolding more_names first_byte sign_bytes
    going_more j n r p b f q g = go g.rest g.all g.text
      where
        go : (rest : List ℕ) → members_of ks ≡ g.done ++ rest
            → Text (more_names letS rest ++ (sign rbrace ∷ ts)) (drop i w) → Going w n.next r.mask r.bad ks ts
        go [] a t = absurd (let z = peek_sign rbrace t in omega arith)
        go (k ∷ rest) a t =
            let u = behind-right w i comma j t b.behind in
            let m = named-right w j letS k n u f.is in
            record {
              done = g.done ++ (k ∷ []);
              rest = rest;
              all = a ∙ sym (append_assoc g.done (k ∷ []) rest);
              text = m.1;
              so_far = so_far_more mask bad g.done k n.value r m.0 g.so_far q;
            }

    pub going_end : (r : SignalSet) → (get_or (after_blanks (drop i w)) 0 0 ≡ 44 → ⊥) → BehindSign w i 1 r.next
        → r.mask ≡ mask → r.bad ≡ bad → Going w i mask bad ks ts → Gives w r (members_of ks) ts
    unfolding more_names first_byte sign_bytes
    going_end r p b em eb g = go g.rest g.all g.text
      where
        go : (rest : List ℕ) → members_of ks ≡ g.done ++ rest
            → Text (more_names letS rest ++ (sign rbrace ∷ ts)) (drop i w) → Gives w r (members_of ks) ts
        go [] a t =
            let z = a ∙ append-nil g.done in
            record {
              goes_on = behind-right w i rbrace r.next t b.behind;
              is_bad = eb ∙ g.so_far.is_bad ∙ ap signals? (sym z);
              is_mask = λ e. em ∙ g.so_far.is_mask (sym eb ∙ e) ∙ ap mask_of (sym z);
            }
        go (k ∷ rest) a t = absurd (p (peek_sign comma t))

-- ── a set in braces ──

-- behind the opening brace
none_text : (w : List ℕ) (at i : ℕ) (ts : Tokens) → BehindSign w at 1 i → Text (of_set none ++ ts) (drop at w)
    → Text (sign rbrace ∷ ts) (drop i w)
unfolding of_set sign_bytes
none_text w at i ts b t = behind-right w at lbrace i t b.behind

some_text : (w : List ℕ) (at i : ℕ) (ks : OneOrMore ℕ) (ts : Tokens) → BehindSign w at 1 i
    → Text (of_set (some ks) ++ ts) (drop at w) → Text (of_names letS ks ++ (sign rbrace ∷ ts)) (drop i w)
unfolding of_set sign_bytes
some_text w at i ks ts b t =
    behind-right w at lbrace i
    (subst (λ u. Text (sign lbrace ∷ u) (drop at w)) (append_assoc (of_names letS ks) (sign rbrace ∷ []) ts) t)
    b.behind

-- the byte that comes next tells whether the set is empty
pub none-next : (w : List ℕ) (i : ℕ) (ts : Tokens) → Text (sign rbrace ∷ ts) (drop i w)
    → get_or (after_blanks (drop i w)) 0 0 ≡ 125
unfolding first_byte
none-next w i ts t = peek_sign rbrace t

some_next : (w : List ℕ) (i : ℕ) (ks : OneOrMore ℕ) (ts : Tokens)
    → Text (of_names letS ks ++ (sign rbrace ∷ ts)) (drop i w) → get_or (after_blanks (drop i w)) 0 0 ≡ 115
unfolding letter
some_next w i ks ts t =
    peek_name letS (first_name ks) (subst (λ u. Text (u ++ (sign rbrace ∷ ts)) (drop i w)) (names_cons letS ks) t)

module _ (w : List ℕ) (at i : ℕ) (b : BehindSign w at 1 i) (r : SignalSet) where
  pub set_empty : get_or (after_blanks (drop i w)) 0 0 ≡ 125 → BehindSign w i 1 r.next → r.mask ≡ 0 → r.bad ≡ false
      → SetAt w at r
  unfolding members_or signals? any mask_of sign_bytes
  set_empty p c em eb = record { within = c.within; onward = omega (arith, b.onward, c.onward); gives = go }
    where
      go : (x : Signals) (ts : Tokens) → Text (of_set x ++ ts) (drop at w) → Gives w r (members_or x) ts
      go none ts t =
          record {
            goes_on = behind-right w i rbrace r.next (none_text w at i ts b t) c.behind;
            is_bad = eb;
            is_mask = λ e. em;
          }
      go (some ks) ts t = absurd (let z = some_next w i ks ts (some_text w at i ks ts b t) in omega arith)

  pub set_some : (get_or (after_blanks (drop i w)) 0 0 ≡ 125 → ⊥) → MembersAt w i r → SetAt w at r
  unfolding members_or
  set_some p m = record { within = m.within; onward = omega (arith, b.onward, m.onward); gives = go }
    where
      go : (x : Signals) (ts : Tokens) → Text (of_set x ++ ts) (drop at w) → Gives w r (members_or x) ts
      go none ts t = absurd (p (none-next w i ts (none_text w at i ts b t)))
      go (some ks) ts t = m.gives ks ts (some_text w at i ks ts b t)
