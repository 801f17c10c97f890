-- Laws of transitions read one after another: what 52 asks of one (`passage_is`), a list of them as a loop reads it
-- (`list_cons`), the loop (`along-..`), and a list in braces (`transitions-..`).
use Rattle.std.specs.Prelude.{◌≡◌, Bool, ◌||◌, ℕ, suc, ◌+◌, drop, get_or}
use Rattle.std.proofs.Math.Path.{refl, sym, ap, ap₂, subst}
use Rattle.std.proofs.Common.{◌∙◌, arith}
use Rattle.std.proofs.Math.Bool.{true, false, not}
use Rattle.std.proofs.Math.Option.{Option, none, some}
use mathlib.Core.List.{List, [], ◌∷◌, ◌++◌, map, append_assoc, append-nil}
use Rattle.std.proofs.Math.ListN.{length}
use Rattle.signals.specs.Mask.{bit}
use Rattle.meaning.specs.Check.{not_below}
use Rattle.meaning.specs.Sums.Laws.{or_left}
use Rattle.notation.specs.Syntax.{OneOrMore, one, ◌▸◌, Transition}
use Rattle.notation.specs.Grammar.{lpar, comma, lbrace, rbrace, sign, sign_bytes, Tokens, of_transition}
use Rattle.notation.specs.Grammar.{of_transition_list, of_transitions, Text}
use Rattle.notation.specs.Reader.{first_byte}
use Rattle.reading.specs.Numbers.{named_states}
use Rattle.reading.specs.Names.{members_of, members_or, any, has, not_all?, twice?, left_out?, signals?, set?}
use Rattle.reading.specs.Names.{signal_of}
use Rattle.reading.specs.Names.{transition?}
use Rattle.reading.specs.Meant.{mask_of}
use Rattle.tokens.specs.Tokens.{cap, after_blanks, BehindSign}
use Rattle.tokens.specs.Laws.Text.{behind-right}
use Rattle.tokens.specs.Laws.Lists.{peek_sign}
use Rattle.fields.specs.declared.Passage.{Passage}
use Rattle.fields.specs.Fields.{Passes, TransitionAt}
use Rattle.fields.specs.Laws.Sets.{none-next}
use Rattle.lists.specs.declared.TransitionList.{TransitionList}
use Rattle.lists.specs.Lists.{lacks, more_of, GivesTransitions, TransitionsFrom, TransitionsAt}
use Rattle.lists.specs.Laws.States.{any_at, cap-test, length_snoc}
use Rattle.reading.specs.Laws.Lists.{bit_mask}

-- ── what 52 asks of a transition ──

-- the same over the mask of the states
unfoldable pub passage? : ℕ → Transition → Bool
passage? mask t =
    lacks mask t.from
    || (lacks mask t.to || (signals? (map signal_of (members_or t.guard)) || set? t.action))

-- a number that is cut is lacking exactly if the number is
pub cap-lacks : (mask n : ℕ) → lacks mask (cap n) ≡ lacks mask n
unfolding lacks
cap-lacks mask n = cap-test named_states (omega arith) (λ k. not (bit mask k)) n

-- a transition as it is read
pub passage_read : (w : List ℕ) (mask : ℕ) (p : Passage) (t : Transition) (us : Tokens) → Passes w p t us
    → (lacks mask p.from || (lacks mask p.to || p.bad)) ≡ passage? mask t
unfolding passage?
passage_read w mask p t us q =
    ap₂ (◌||◌) (ap (lacks mask) q.is_from ∙ cap-lacks mask t.from)
    (ap₂ (◌||◌) (ap (lacks mask) q.is_to ∙ cap-lacks mask t.to) q.is_bad)

module _ (mask : ℕ) (states : List ℕ) (e : not_all? named_states states ≡ false) (m : mask ≡ mask_of states) where
  -- the mask lacks a state exactly if the list does
  pub lacks_is : (n : ℕ) → lacks mask n ≡ not (has states n)
  unfolding lacks not_all?
  lacks_is n =
      ap (λ b. not_below n named_states || not b) (ap (λ k. bit k n) m ∙ bit_mask states n)
      ∙ go (has states n) (any_at (λ k. not_below k named_states) states n
      (or_left (any (λ k. not_below k named_states) states) (twice? states || left_out? states) e))
    where
      out : (a : Bool) → (a || true) ≡ true
      out true = refl
      out false = refl

      go : (b : Bool) → (b ≡ true → not_below n named_states ≡ false) → (not_below n named_states || not b) ≡ not b
      go true h = ap (◌|| false) (h refl)
      go false h = out (not_below n named_states)

  passage_is : (t : Transition) → passage? mask t ≡ transition? states t
  unfolding passage? transition?
  passage_is t =
      ap₂ (◌||◌) (lacks_is t.from)
      (ap (◌|| (signals? (map signal_of (members_or t.guard)) || set? t.action)) (lacks_is t.to))

  passages_are : (ts : List Transition) → any (passage? mask) ts ≡ any (transition? states) ts
  unfolding any
  passages_are [] = refl
  passages_are (t ∷ ts) = ap₂ (◌||◌) (passage_is t) (passages_are ts)

-- ── a list as a loop reads it ──

unfoldable pub first_in : OneOrMore Transition → Transition
first_in (one t) = t
first_in (ts ▸ t) = first_in ts

unfoldable pub rest_in : OneOrMore Transition → List Transition
rest_in (one t) = []
rest_in (ts ▸ t) = rest_in ts ++ (t ∷ [])

more_snoc : (ts : List Transition) (t : Transition)
    → more_of (ts ++ (t ∷ [])) ≡ more_of ts ++ (sign comma ∷ of_transition t)
unfolding more_of
more_snoc [] t = ap (sign comma ∷◌) (append-nil (of_transition t))
more_snoc (u ∷ ts) t =
    ap (λ v. sign comma ∷ (of_transition u ++ v)) (more_snoc ts t)
    ∙ ap (sign comma ∷◌) (sym (append_assoc (of_transition u) (more_of ts) (sign comma ∷ of_transition t)))

list_cons : (ts : OneOrMore Transition) → of_transition_list ts ≡ of_transition (first_in ts) ++ more_of (rest_in ts)
unfolding of_transition_list first_in rest_in
list_cons (one t) = unfold more_of in sym (append-nil (of_transition t))
list_cons (ts ▸ t) =
    ap (◌++ (sign comma ∷ of_transition t)) (list_cons ts)
    ∙ append_assoc (of_transition (first_in ts)) (more_of (rest_in ts)) (sign comma ∷ of_transition t)
    ∙ ap (of_transition (first_in ts) ++◌) (sym (more_snoc (rest_in ts) t))

pub members_list : (ts : OneOrMore Transition) → members_of ts ≡ first_in ts ∷ rest_in ts
unfolding members_of first_in rest_in
members_list (one t) = refl
members_list (ts ▸ t) = ap (◌++ (t ∷ [])) (members_list ts)

-- the first transition, and then the others
pub first_text : (w : List ℕ) (at : ℕ) (ts : OneOrMore Transition) (us : Tokens)
    → Text (of_transition_list ts ++ (sign rbrace ∷ us)) (drop at w)
    → Text (of_transition (first_in ts) ++ (more_of (rest_in ts) ++ (sign rbrace ∷ us))) (drop at w)
first_text w at ts us h =
    subst (λ u. Text u (drop at w))
    (ap (◌++ (sign rbrace ∷ us)) (list_cons ts)
    ∙ append_assoc (of_transition (first_in ts)) (more_of (rest_in ts)) (sign rbrace ∷ us)) h

pub any-more : {A : Type 0} (p : A → Bool) (a : List A) (t : A) → any p (a ++ (t ∷ [])) ≡ (any p a || p t)
unfolding any
any-more p [] t = go (p t)
  where
    go : (c : Bool) → (c || false) ≡ c
    go true = refl
    go false = refl
any-more p (u ∷ a) t = ap (p u ||◌) (any-more p a t) ∙ go (p u)
  where
    go : (c : Bool) → (c || (any p a || p t)) ≡ ((c || any p a) || p t)
    go true = refl
    go false = refl

-- ── the loop ──

-- the transitions `done` of ts are read, with as many commas between them, and the text goes on with the others at i
pub record Along (w : List ℕ) (mask i commas : ℕ) (bad : Bool) (ts : OneOrMore Transition) (us : Tokens) : Type 0 where
  pub done : List Transition
  pub rest : List Transition
  pub all : members_of ts ≡ done ++ rest
  pub text : Text (more_of rest ++ (sign rbrace ∷ us)) (drop i w)
  pub counted : suc commas ≡ length done
  pub is_bad : bad ≡ any (passage? mask) done

module _ (w : List ℕ) (mask : ℕ) (ts : OneOrMore Transition) (us : Tokens) where
  pub along_first : (at : ℕ) (p : Passage) (bad : Bool) → Text (of_transition_list ts ++ (sign rbrace ∷ us)) (drop at w)
      → TransitionAt w at p → bad ≡ (lacks mask p.from || (lacks mask p.to || p.bad))
      → Along w mask p.next 0 bad ts us
  unfolding any
  along_first at p bad h f e =
      let q = f.gives (first_in ts) _ (first_text w at ts us h) in
      record {
        done = first_in ts ∷ [];
        rest = rest_in ts;
        all = members_list ts;
        text = q.goes_on;
        counted = refl;
        is_bad = e ∙ passage_read w mask p (first_in ts) _ q ∙ sym (any-more (passage? mask) [] (first_in ts));
      }

  module _ (i commas : ℕ) (bad : Bool) where
    pub along_more : (j : ℕ) (p : Passage) (b : Bool) → get_or (after_blanks (drop i w)) 0 0 ≡ 44 → BehindSign w i 1 j
        → TransitionAt w j p → b ≡ (bad || (lacks mask p.from || (lacks mask p.to || p.bad)))
        → Along w mask i commas bad ts us → Along w mask p.next (commas + 1) b ts us
    unfolding more_of first_byte sign_bytes
    along_more j p b s o f e g = go g.rest g.all g.text
      where
        go : (rest : List Transition) → members_of ts ≡ g.done ++ rest
            → Text (more_of rest ++ (sign rbrace ∷ us)) (drop i w) → Along w mask p.next (commas + 1) b ts us
        go [] a t = absurd (let z = peek_sign rbrace t in omega arith)
        go (k ∷ rest) a t =
            let u = behind-right w i comma j t o.behind in
            let v = subst (λ u. Text u (drop j w)) (append_assoc (of_transition k) (more_of rest) (sign rbrace ∷ us)) u
            in
            let q = f.gives k (more_of rest ++ (sign rbrace ∷ us)) v in
            record {
              done = g.done ++ (k ∷ []);
              rest = rest;
              all = a ∙ sym (append_assoc g.done (k ∷ []) rest);
              text = q.goes_on;
              counted = omega (arith, g.counted, length_snoc g.done k);
              is_bad =
                  e
                  ∙ ap₂ (◌||◌) g.is_bad (passage_read w mask p k (more_of rest ++ (sign rbrace ∷ us)) q)
                  ∙ sym (any-more (passage? mask) g.done k);
            }

    pub along_end : (r : TransitionList) → (get_or (after_blanks (drop i w)) 0 0 ≡ 44 → ⊥) → BehindSign w i 1 r.next
        → r.count ≡ commas + 1 → r.bad ≡ bad → Along w mask i commas bad ts us
        → GivesTransitions w mask r (members_of ts) us
    unfolding more_of first_byte sign_bytes
    along_end r p b ec eb g = go g.rest g.all g.text
      where
        go : (rest : List Transition) → members_of ts ≡ g.done ++ rest
            → Text (more_of rest ++ (sign rbrace ∷ us)) (drop i w) → GivesTransitions w mask r (members_of ts) us
        go [] a t =
            let z = a ∙ append-nil g.done in
            record {
              goes_on = behind-right w i rbrace r.next t b.behind;
              is_count = omega (arith, ec, g.counted, ap length z);
              is_bad =
                  λ states e m. eb ∙ g.is_bad ∙ passages_are mask states e m g.done
                  ∙ ap (any (transition? states)) (sym z);
            }
        go (k ∷ rest) a t = absurd (p (peek_sign comma t))

-- ── a list in braces ──

-- behind the opening brace
pub none_text : (w : List ℕ) (at i : ℕ) (us : Tokens) → BehindSign w at 1 i
    → Text (of_transitions none ++ us) (drop at w) → Text (sign rbrace ∷ us) (drop i w)
unfolding of_transitions sign_bytes
none_text w at i us b t = behind-right w at lbrace i t b.behind

pub some_text : (w : List ℕ) (at i : ℕ) (ts : OneOrMore Transition) (us : Tokens) → BehindSign w at 1 i
    → Text (of_transitions (some ts) ++ us) (drop at w) → Text (of_transition_list ts ++ (sign rbrace ∷ us)) (drop i w)
unfolding of_transitions sign_bytes
some_text w at i ts us b t =
    behind-right w at lbrace i
    (subst (λ u. Text (sign lbrace ∷ u) (drop at w)) (append_assoc (of_transition_list ts) (sign rbrace ∷ []) us) t)
    b.behind

pub some_next : (w : List ℕ) (i : ℕ) (ts : OneOrMore Transition) (us : Tokens)
    → Text (of_transition_list ts ++ (sign rbrace ∷ us)) (drop i w) → get_or (after_blanks (drop i w)) 0 0 ≡ 40
unfolding first_byte of_transition
some_next w i ts us t = peek_sign lpar (first_text w i ts us t)

module _ (w : List ℕ) (at i mask : ℕ) (b : BehindSign w at 1 i) (r : TransitionList) where
  pub transitions_none : get_or (after_blanks (drop i w)) 0 0 ≡ 125 → BehindSign w i 1 r.next → r.count ≡ 0
      → r.bad ≡ false → TransitionsAt w at mask r
  unfolding members_or any sign_bytes
  transitions_none p c ec eb =
      record { within = c.within; onward = omega (arith, b.onward, c.onward); gives = go }
    where
      go : (ts : Option (OneOrMore Transition)) (us : Tokens) → Text (of_transitions ts ++ us) (drop at w)
          → GivesTransitions w mask r (members_or ts) us
      go none us t =
          record {
            goes_on = behind-right w i rbrace r.next (none_text w at i us b t) c.behind;
            is_count = ec;
            is_bad = λ states e m. eb;
          }
      go (some ts) us t = absurd (let z = some_next w i ts us (some_text w at i ts us b t) in omega arith)

  pub transitions_some : (get_or (after_blanks (drop i w)) 0 0 ≡ 125 → ⊥) → TransitionsFrom w i mask r
      → TransitionsAt w at mask r
  unfolding members_or
  transitions_some p m =
      record { within = m.within; onward = omega (arith, b.onward, m.onward); gives = go }
    where
      go : (ts : Option (OneOrMore Transition)) (us : Tokens) → Text (of_transitions ts ++ us) (drop at w)
          → GivesTransitions w mask r (members_or ts) us
      go none us t = absurd (p (none-next w i us (none_text w at i us b t)))
      go (some ts) us t = m.gives ts us (some_text w at i ts us b t)
