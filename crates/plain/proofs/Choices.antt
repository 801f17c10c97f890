-- Two permitted choices of a tree take the same moves, if no two transitions of its charts are doubtful (PlainTree). In
-- this order: the moves of all charts (`alike`, `one_choice`); so that the mark is never no (`never_no`).
use Rattle.std.specs.Prelude.{◌≡◌, Bool, false, ◌&&◌, List, [], ◌∷◌, ℕ, zero, ◌<◌}
use Rattle.std.proofs.Math.Path.{refl, sym, ap, fun_ext}
use Rattle.std.proofs.Common.{◌∙◌, arith}
use Rattle.std.proofs.Math.Bool.{true}
use Rattle.std.proofs.lemmas.Bool.{false≢true}
use Rattle.std.proofs.Math.Decide.{dec_lt}
use Rattle.signals.specs.Mask.{◌∪◌, ◌∩◌, ◌∖◌}
use Rattle.signals.specs.Decide.{sets, A, B, C, D, ◌∩ₑ◌, ◌∖ₑ◌, ◌≐◌}
use Rattle.meaning.specs.Meaning.{Set, same, Chart, Tree, Slaves, leaf, comp, hide, dec, nil, snoc, action_of}
use Rattle.meaning.specs.Meaning.{in_face_chart, in_face, out, outs, ok_chart, meets, ok, oks, permitted, moves, pick}
use Rattle.meaning.specs.Meaning.{nexts, outcomes, given, answer}
use Rattle.meaning.specs.File.{Has, HasS}
use Rattle.meaning.specs.Laws.Bools.{or_elim, and_l, and_r, same→≡}
use Rattle.meaning.specs.Words.{Choice, Permitted}
use Rattle.meaning.proofs.Laws.Demand2.{given-first, mark_no}
use Rattle.meaning.proofs.Laws.Editions.{ok-one}
use Rattle.plain.specs.Moves.{same_fed, one_move}
use Rattle.plain.specs.Choices.{PlainChart, PlainTree, PlainSlaves}

-- ── two permitted choices ──

-- sets that differ by feedback alone still do when cut to an interface, or filtered
module _ (f o p : Set) (e : o ∖ f ≡ p ∖ f) where
  same-cut : (i : Set) → (o ∩ i) ∖ f ≡ (p ∩ i) ∖ f
  same-cut i = sets (o ∷ p ∷ i ∷ f ∷ []) (A ∖ₑ D ≐ B ∖ₑ D ∷ []) ((A ∩ₑ C) ∖ₑ D ≐ (B ∩ₑ C) ∖ₑ D) tt e

  same_less : (x : Set) → (o ∖ x) ∖ f ≡ (p ∖ x) ∖ f
  same_less x = sets (o ∷ p ∷ x ∷ f ∷ []) (A ∖ₑ D ≐ B ∖ₑ D ∷ []) ((A ∖ₑ C) ∖ₑ D ≐ (B ∖ₑ C) ∖ₑ D) tt e

module _ (E : ℕ → Chart) (state : ℕ → ℕ) (cfg : ℕ → ℕ) (f : Set) (ch ch₂ : ℕ → ℕ) where
  abbrev Alike : ℕ → Type 0
  Alike c = moves E ch c ≡ moves E ch₂ c

  alike_chart : (d : ℕ) (a : Bool) (o p : Set) → PlainChart E f d → o ∖ f ≡ p ∖ f
      → ok_chart (E d) a o (cfg d) (moves E ch d) ≡ true
      → ok_chart (E d) a p (cfg d) (moves E ch₂ d) ≡ true → Alike d
  unfolding moves
  alike_chart d a o p w e h k = one_move f (E d).feedback w.0 (cfg d) (E d) w.2 w.1 a (ch d) (ch₂ d) o p e
      (sym (ok-one (E d) w.2 a o (cfg d) (pick (E d) (ch d))) ∙ h)
      (sym (ok-one (E d) w.2 a p (cfg d) (pick (E d) (ch₂ d))) ∙ k)

  mutual
    unfolding ok Has

    -- offered sets that differ by feedback alone
    pub alike : (t : Tree) (a : Bool) (o p : Set) → PlainTree E f t → o ∖ f ≡ p ∖ f
        → ok E state cfg (moves E ch) t a o ≡ true
        → ok E state cfg (moves E ch₂) t a p ≡ true → (c : ℕ) → Has t c ≡ true → Alike c
    alike (leaf d) a o p w e h k c q = rw (same→≡ c d q) (alike_chart d a o p w e h k)
    alike (comp l r x) a o p w e h k c q = or_elim (Has l c) (Has r c) (Alike c)
        (λ i. alike l a _ _ w.0 (same-cut f z z₂ fed (in_face E l)) (and_l _ _ h) (and_l _ _ k) c i)
        (λ i. alike r a _ _ w.1 (same-cut f z z₂ fed (in_face E r)) (and_r (ok E state cfg (moves E ch) l a _) _ h)
        (and_r (ok E state cfg (moves E ch₂) l a _) _ k) c i) q
      where
        z : Set
        z = o ∪ (out (moves E ch) l ∪ out (moves E ch) r) ∩ x

        z₂ : Set
        z₂ = p ∪ (out (moves E ch₂) l ∪ out (moves E ch₂) r) ∩ x

        fed : z ∖ f ≡ z₂ ∖ f
        fed = same_fed f o p e (out (moves E ch) l ∪ out (moves E ch) r)
            (out (moves E ch₂) l ∪ out (moves E ch₂) r) x w.2
    alike (hide l x y) a o p w e h k c q = alike l a (o ∖ x) (p ∖ x) w (same_less f o p e x) h k c q
    alike (dec d ss) a o p w e h k c q = or_elim (same c d) (HasS ss c) (Alike c) (λ i. rw (same→≡ c d i) master)
        (λ i. alike_slaves ss (λ s. a && meets (cfg d) (moves E ch d) s) z z₂ w.1 fed
        (and_r (ok_chart (E d) a _ (cfg d) (moves E ch d)) _ h)
        (ap (λ m. oks E state cfg (moves E ch₂) ss (λ s. a && meets (cfg d) m s) z₂) master
        ∙ and_r (ok_chart (E d) a _ (cfg d) (moves E ch₂ d)) _ k) c i) q
      where
        z : Set
        z = o ∪ (action_of (moves E ch d) ∪ outs (moves E ch) ss) ∩ (E d).feedback

        z₂ : Set
        z₂ = p ∪ (action_of (moves E ch₂ d) ∪ outs (moves E ch₂) ss) ∩ (E d).feedback

        fed : z ∖ f ≡ z₂ ∖ f
        fed = same_fed f o p e (action_of (moves E ch d) ∪ outs (moves E ch) ss)
            (action_of (moves E ch₂ d) ∪ outs (moves E ch₂) ss) (E d).feedback
            w.0.0

        master : Alike d
        master = alike_chart d a (z ∩ in_face_chart (E d)) (z₂ ∩ in_face_chart (E d)) w.0
            (same-cut f z z₂ fed (in_face_chart (E d))) (and_l _ _ h)
            (and_l _ _ k)

    alike_slaves : (ss : Slaves) (on : ℕ → Bool) (o p : Set) → PlainSlaves E f ss → o ∖ f ≡ p ∖ f
        → oks E state cfg (moves E ch) ss on o ≡ true
        → oks E state cfg (moves E ch₂) ss on p ≡ true → (c : ℕ) → HasS ss c ≡ true → Alike c
    alike_slaves nil on o p w e h k c q = absurd (false≢true q)
    alike_slaves (snoc ss i t) on o p w e h k c q = or_elim (Has t c) (HasS ss c) (Alike c)
        (λ g. alike t (on (state i)) _ _ w.1 (same-cut f o p e (in_face E t))
        (and_r (oks E state cfg (moves E ch) ss on o) _ h)
        (and_r (oks E state cfg (moves E ch₂) ss on p) _ k) c g)
        (λ g. alike_slaves ss on o p w.0 e (and_l _ _ h) (and_l _ _ k) c g) q

-- ── the mark ──

-- every chart stands in the tree
module _ (E : ℕ → Chart) (state : ℕ → ℕ) (cfg : ℕ → ℕ) (t : Tree) (inp : Set) (N : ℕ) (f : Set) (w : PlainTree E f t)
    (has : (c : ℕ) → c < N → Has t c ≡ true) where
  -- at most one choice is permitted (RULES 8.3): no two differ in a move
  pub one_choice : (ch ch₂ : ℕ → ℕ) → Choice E state cfg t inp N ch → Choice E state cfg t inp N ch₂
      → Permitted E state cfg t inp N ch
      → Permitted E state cfg t inp N ch₂ → moves E ch ≡ moves E ch₂
  unfolding permitted
  one_choice ch ch₂ q q₂ p p₂ = fun_ext (λ c. go c (dec_lt c N))
    where
      go : (c : ℕ) → Dec (c < N) → moves E ch c ≡ moves E ch₂ c
      go c (yes l) = alike E state cfg f ch ch₂ t true (inp ∩ in_face E t) (inp ∩ in_face E t) w refl p p₂ c (has c l)
      go c (no l) = unfold moves in ap (pick (E c)) (q.others c (omega arith) ∙ sym (q₂.others c (omega arith)))

  pub never_no : (o : Set) (n : List ℕ) → answer (outcomes E state cfg t inp N) ≡ given o n false → ⊥
  never_no o n e =
      let g = given-first E state cfg t inp N o n false e in
      let u = mark_no E state cfg t inp N o n e in
      let m : moves E u.0 ≡ moves E g.choice =
      one_choice u.0 g.choice u.1 g.chosen u.2 g.permits in
      u.3 (ap (λ M. out M t) m ∙ sym g.output, ap (λ M. nexts cfg M zero N) m ∙ sym g.next)
