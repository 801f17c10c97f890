-- Laws of names read one after another: those that are read (`so-far-..`), a number left out (`gap_is`), and the loop
-- over their names (`going-..`).
use Rattle.std.specs.Prelude.{◌≡◌, refl, Bool, true, false, ◌||◌, cond, ℕ, zero, suc, ◌+◌, ◌/◌, ◌≤◌, ◌<◌, ltb, eqb}
use Rattle.std.specs.Prelude.{drop, get_or}
use Rattle.std.proofs.Math.Path.{sym, ap}
use Rattle.std.proofs.Common.{◌∙◌, subst, true≢false, arith}
use Rattle.std.proofs.Math.Bool.{not}
use Rattle.std.proofs.lemmas.Bool.{false≢true}
use mathlib.Core.List.{List, [], ◌∷◌, ◌++◌, append_assoc, append-nil}
use Rattle.std.proofs.Math.Decide.{dec_lt}
use borrow.Author.Tests.{lt-ltb, le-ltb, eqb-true, eq-eqb, not-false}
use Rattle.std.proofs.Math.ListN.{length}
use Rattle.signals.specs.Mask.{◌∪◌, bit, single}
use Rattle.signals.specs.Mask.Laws.{bit_suc, within-at, within_of}
use Rattle.meaning.specs.Check.{not_below}
use Rattle.meaning.specs.Sums.Laws.{or_left, or_right}
use Rattle.notation.specs.Syntax.{OneOrMore, one, ◌▸◌}
use Rattle.notation.specs.Grammar.{comma, rbrace, lbrace, letQ, sign, sign_bytes, Tokens, of_names, Text}
use Rattle.notation.specs.Reader.{first_byte}
use Rattle.reading.specs.Numbers.{named_states}
use Rattle.reading.specs.Names.{members_of, first, any, has, twice?, lacks_before, left_out?, not_all?}
use Rattle.reading.specs.Meant.{mask_of}
use Rattle.tokens.specs.declared.Name.{Name}
use Rattle.tokens.specs.Tokens.{cap, after_blanks, BehindSign, NameFrom}
use Rattle.tokens.specs.Laws.Text.{behind-right, named-right}
use Rattle.tokens.specs.Laws.Lists.{first_name, rest_names, more_names, names_cons, peek_sign}
use Rattle.fields.specs.Laws.Sets.{mask_snoc, members_cons}
use Rattle.reading.specs.Laws.Lists.{any_of, any_snoc, bit_mask, twice_snoc}
use Rattle.lists.specs.declared.Listed.{Listed}
use Rattle.lists.specs.declared.StateList.{StateList}
use Rattle.lists.specs.Lists.{Lists, SoFar, gap, GivesStates, StatesFrom, StatesAt}

-- ── left out ──

-- no member passes a test exactly if none that the list has does
pub any_at : (p : ℕ → Bool) (a : List ℕ) (n : ℕ) → any p a ≡ false → has a n ≡ true → p n ≡ false
unfolding any has
any_at p [] n e h = absurd (false≢true h)
any_at p (m ∷ a) n e h = go (eqb m n) refl h (any_at p a n (or_right (p m) (any p a) e))
  where
    go : (c : Bool) → eqb m n ≡ c → (c || has a n) ≡ true → (has a n ≡ true → p n ≡ false) → p n ≡ false
    go true f g k = ap p (sym (eqb-true m n f)) ∙ or_left (p m) (any p a) e
    go false f g k = k g

-- the mask of a list has a gap exactly if a number below the highest is left out
pub gap_is : (ns : List ℕ) → gap (mask_of ns) ≡ left_out? ns
unfolding left_out? lacks_before
gap_is ns = go (gap m) (left_out? ns) refl refl
  where
    m : ℕ
    m = mask_of ns

    closed : any (lacks_before ns) ns ≡ false → (n : ℕ) → bit (m / 2) n ≡ true → bit m n ≡ true
    closed e n h =
        bit_mask ns n
        ∙ not-false (has ns n) (any_at (lacks_before ns) ns (suc n) e (sym (bit_mask ns (suc n)) ∙ bit_suc m n ∙ h))

    before : ((n : ℕ) → bit (m / 2) n ≡ true → bit m n ≡ true) → (n : ℕ) → has ns n ≡ true → lacks_before ns n ≡ false
    before f zero h = refl
    before f (suc n) h =
        ap not (sym (bit_mask ns n) ∙ f n (sym (bit_suc m n) ∙ bit_mask ns (suc n) ∙ h))

    go : (a b : Bool) → gap m ≡ a → left_out? ns ≡ b → a ≡ b
    go true true e f = refl
    go false false e f = refl
    go true false e f =
        absurd (true≢false (sym e ∙ ap not (eq-eqb _ 0 (within_of (m / 2) m (closed f)))))
    go false true e f =
        absurd (true≢false (sym f
        ∙ any_of (lacks_before ns) ns
        (before (within-at (m / 2) m (eqb-true _ 0 (not-false _ e))))))

-- ── names read so far ──

pub so_far_none : (limit : ℕ) → SoFar limit 0 false []
unfolding any twice? mask_of
so_far_none limit = record { is_bad = refl; is_mask = λ e. refl }

module _ (limit : ℕ) (low : limit ≤ 1000) where
  -- a number that is cut is in range and fails a test exactly if the number is and does
  pub cap-test : (f : ℕ → Bool) (n : ℕ) → (not_below (cap n) limit || f (cap n)) ≡ (not_below n limit || f n)
  unfolding cap
  cap-test f n = go (dec_lt n 1000)
    where
      go : Dec (n < 1000) → (not_below (cond (ltb n 1000) n 1000) limit || f (cond (ltb n 1000) n 1000))
          ≡ (not_below n limit || f n)
      go (yes h) = rw (lt-ltb n 1000 h)
      go (no h) = rw (le-ltb n 1000 (omega arith), le-ltb n limit (omega arith), le-ltb 1000 limit (omega arith))

  -- a number that is cut and in range is the number
  pub cap_in : (n : ℕ) → not_below n limit ≡ false → (cap n ≡ n) × (n < limit)
  unfolding cap
  cap_in n e = go (dec_lt n limit)
    where
      go : Dec (n < limit) → (cond (ltb n 1000) n 1000 ≡ n) × (n < limit)
      go (yes h) = (rw (lt-ltb n 1000 (omega arith)), h)
      go (no h) = absurd (true≢false (sym (ap not (le-ltb n limit (omega arith))) ∙ e))

-- what was bad, a and b, and the new member, c out of range and d given before
bad_more : (bad a b c d e : Bool) → bad ≡ (a || b) → (bad ≡ false → e ≡ d)
    → (bad || (c || e)) ≡ ((a || c) || (b || d))
bad_more true true b c d e f g = refl
bad_more true false true true d e f g = refl
bad_more true false true false d e f g = refl
bad_more true false false c d e f g = absurd (true≢false f)
bad_more false true b c d e f g = absurd (false≢true f)
bad_more false false true c d e f g = absurd (false≢true f)
bad_more false false false c d e f g = ap (c ||◌) (g refl)

module _ (limit : ℕ) (low : limit ≤ 1000) (mask : ℕ) (bad : Bool) (done : List ℕ) (n v : ℕ) (r : Listed) where
  pub so_far_more : v ≡ cap n → SoFar limit mask bad done → Lists limit mask bad v r
      → SoFar limit r.mask r.bad (done ++ (n ∷ []))
  so_far_more e s l =
      let is : r.bad ≡ (bad || (not_below n limit || bit mask n)) =
      l.is_bad ∙ ap (λ k. bad || (not_below k limit || bit mask k)) e
      ∙ ap (bad ||◌) (cap-test limit low (bit mask) n) in
      record {
        is_bad =
            is
            ∙ bad_more bad (any (λ k. not_below k limit) done) (twice? done) (not_below n limit) (has done n)
            (bit mask n) s.is_bad (λ f. ap (λ k. bit k n) (s.is_mask f) ∙ bit_mask done n)
            ∙ sym (ap (◌|| twice? (done ++ (n ∷ []))) (any_snoc (λ k. not_below k limit) done n)
            ∙ ap ((any (λ k. not_below k limit) done || not_below n limit) ||◌) (twice_snoc done n));
        is_mask =
            λ f.
            let g = sym is ∙ f in
            let b = or_left bad (not_below n limit || bit mask n) g in
            let c = cap_in limit low n
            (or_left (not_below n limit) (bit mask n) (or_right bad (not_below n limit || bit mask n) g)) in
            l.is_mask (subst (λ k. k < limit) (sym (e ∙ c.0)) c.1)
            ∙ ap (λ k. mask ∪ single k) (e ∙ c.0) ∙ ap (◌∪ single n) (s.is_mask b) ∙ sym (mask_snoc done n);
      }

-- what was bad, a and b, and a number left out, c
pub refused_more : (bad a b c g : Bool) → bad ≡ (a || b) → (bad ≡ false → g ≡ c) → (bad || g) ≡ (a || (b || c))
refused_more true true b c g f h = refl
refused_more true false true c g f h = refl
refused_more true false false c g f h = absurd (true≢false f)
refused_more false true b c g f h = absurd (false≢true f)
refused_more false false true c g f h = absurd (false≢true f)
refused_more false false false c g f h = h refl

-- ── names ──

pub first-is : (ks : OneOrMore ℕ) → first_name ks ≡ first ks
unfolding first_name first
first-is (one k) = refl
first-is (ks ▸ k) = first-is ks

pub length_snoc : {A : Type 0} (a : List A) (n : A) → length (a ++ (n ∷ [])) ≡ suc (length a)
length_snoc [] n = refl
length_snoc (m ∷ a) n = ap suc (length_snoc a n)

-- the names `done` of ks are read, with as many commas between them, and the text goes on with the others at i
pub record Going (w : List ℕ) (f i commas mask : ℕ) (bad : Bool) (ks : OneOrMore ℕ) (ts : Tokens) : Type 0 where
  pub done : List ℕ
  pub rest : List ℕ
  pub all : members_of ks ≡ done ++ rest
  pub text : Text (more_names letQ rest ++ (sign rbrace ∷ ts)) (drop i w)
  pub is_first : f ≡ cap (first ks)
  pub counted : suc commas ≡ length done
  pub so_far : SoFar named_states mask bad done

module _ (w : List ℕ) (ks : OneOrMore ℕ) (ts : Tokens) where
  pub going_first : (at : ℕ) (n : Name) (r : Listed) → Text (of_names letQ ks ++ (sign rbrace ∷ ts)) (drop at w)
      → NameFrom w at n → Lists named_states 0 false n.value r
      → Going w n.value n.next 0 r.mask r.bad ks ts
  going_first at n r h f j =
      let t = subst (λ u. Text (u ++ (sign rbrace ∷ ts)) (drop at w)) (names_cons letQ ks) h in
      let m = named-right w at letQ (first_name ks) n t f.is in
      record {
        done = first_name ks ∷ [];
        rest = rest_names ks;
        all = members_cons ks;
        text = m.1;
        is_first = m.0 ∙ ap cap (first-is ks);
        counted = refl;
        so_far = so_far_more named_states (omega arith) 0 false [] (first_name ks) n.value r m.0
            (so_far_none named_states) j;
      }

  module _ (f i commas mask : ℕ) (bad : Bool) where
    pub going_more : (j : ℕ) (n : Name) (r : Listed) → get_or (after_blanks (drop i w)) 0 0 ≡ 44 → BehindSign w i 1 j
        → NameFrom w j n → Lists named_states mask bad n.value r → Going w f i commas mask bad ks ts
        → Going w f n.next (commas + 1) r.mask r.bad ks ts
    unfolding more_names first_byte sign_bytes
    going_more j n r p b l q g = go g.rest g.all g.text
      where
        go : (rest : List ℕ) → members_of ks ≡ g.done ++ rest
            → Text (more_names letQ rest ++ (sign rbrace ∷ ts)) (drop i w)
            → Going w f n.next (commas + 1) r.mask r.bad ks ts
        go [] a t = absurd (let z = peek_sign rbrace t in omega arith)
        go (k ∷ rest) a t =
            let u = behind-right w i comma j t b.behind in
            let m = named-right w j letQ k n u l.is in
            record {
              done = g.done ++ (k ∷ []);
              rest = rest;
              all = a ∙ sym (append_assoc g.done (k ∷ []) rest);
              text = m.1;
              is_first = g.is_first;
              counted = omega (arith, g.counted, length_snoc g.done k);
              so_far = so_far_more named_states (omega arith) mask bad g.done k n.value r m.0 g.so_far q;
            }

    pub going_end : (r : StateList) → (get_or (after_blanks (drop i w)) 0 0 ≡ 44 → ⊥) → BehindSign w i 1 r.next
        → r.first ≡ f → r.count ≡ commas + 1 → r.mask ≡ mask → r.bad ≡ (bad || gap mask)
        → Going w f i commas mask bad ks ts → GivesStates w r ks ts
    unfolding more_names first_byte sign_bytes not_all?
    going_end r p b ef ec em eb g = go g.rest g.all g.text
      where
        go : (rest : List ℕ) → members_of ks ≡ g.done ++ rest
            → Text (more_names letQ rest ++ (sign rbrace ∷ ts)) (drop i w) → GivesStates w r ks ts
        go [] a t =
            let z = a ∙ append-nil g.done in
            let s = g.so_far in
            record {
              goes_on = behind-right w i rbrace r.next t b.behind;
              is_first = ef ∙ g.is_first;
              is_count = omega (arith, ec, g.counted, ap length z);
              is_bad =
                  eb
                  ∙ refused_more bad (any (λ n. not_below n named_states) g.done) (twice? g.done)
                  (left_out? g.done) (gap mask) s.is_bad (λ f. ap gap (s.is_mask f) ∙ gap_is g.done)
                  ∙ ap (not_all? named_states) (sym z);
              is_mask = λ e. em ∙ s.is_mask (or_left bad (gap mask) (sym eb ∙ e)) ∙ ap mask_of (sym z);
            }
        go (k ∷ rest) a t = absurd (p (peek_sign comma t))

-- ── a list in braces ──

pub states-right : (w : List ℕ) (at i : ℕ) (r : StateList) → BehindSign w at 1 i → StatesFrom w i r → StatesAt w at r
unfolding sign_bytes
states-right w at i r b s =
    record {
      within = s.within;
      onward = omega (arith, b.onward, s.onward);
      gives = λ ks ts t. s.gives ks ts (behind-right w at lbrace i t b.behind);
    }
