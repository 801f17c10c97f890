-- Laws for choosing candidates. In order: where a transition stands (first_byte to counted-from), what a chart's
-- transitions put out (puts_none to puts-from), what the other charts might (join_more), one transition (left_other to
-- left-put), a filling by one transition more (left-none to left-room), a chart's list (length_from), one chart more
-- (mays-next to chart-tabled), the present states (stated-none, stated-next), all of it (chooses, searchable), and that
-- actions have no signal from 64 on (actions-small).
use Rattle.std.specs.Prelude.{◌≡◌, Bool, ◌≢◌, length, set, drop}
use Rattle.std.proofs.Math.Path.{refl, sym, ap, ap₂, subst, fun_ext}
use Rattle.std.proofs.Common.{◌∙◌, pow-suc, mod-eq_of_lt, add-one, lit<, length-set, get_or-set_same, get_or-set_other}
use Rattle.std.proofs.Common.{get_or-drop}
use Rattle.std.proofs.Math.Bool.{true, false, cond}
use Rattle.std.proofs.lemmas.Bool.{false≢true}
use mathlib.Core.List.{List, [], ◌∷◌}
use Prim.Native.Nat.{ℕ, zero, suc, ◌+◌, ◌*◌, ◌-◌, ◌^◌, ◌≤◌, ◌<◌}
use native.Mathlib.Omega.{arith}
use Rattle.std.proofs.Math.Nat.{one-le-pow}
use Rattle.std.proofs.lemmas.Nat.{and_mask}
use Rattle.std.proofs.Math.ListN.{get_or}
use Rattle.signals.specs.Mask.{◌∪◌, ◌∩◌}
use Rattle.signals.specs.Decide.{sets, A, B, C, D, E as Eₑ, ∅ₑ, ◌∪ₑ◌, ◌∩ₑ◌, ◌≐◌}
use Rattle.layout.specs.Le.{le}
use Rattle.layout.specs.Record.{transition_of}
use Rattle.layout.specs.Row.Laws.{fill_more}
use Rattle.layout.specs.Body.{transitions_from, head_at, transition_at, start_of, transitions_of}
use Rattle.layout.specs.Body.{from as fromOn}
use Rattle.layout.specs.declared.body.Shape.{Shape}
use Rattle.layout.specs.declared.record.Transition.{Transition}
use Rattle.layout.specs.declared.record.Head.{Head}
use Rattle.meaning.specs.Sums.{tally, one}
use Rattle.meaning.specs.Sums.Laws.{tally-more, tally_most}
use Rattle.meaning.specs.Check.{leaving}
use Rattle.meaning.specs.Numbers.{most_charts, most_from_state, stay_edition}
use Rattle.meaning.specs.Meaning.{Set, same, Move, no_move, stay, nth, pick, action_of, moves}
use Rattle.meaning.specs.File.{chart_of, file_at}
use Rattle.meaning.specs.Laws.Bools.{same_refl, same→≡, same_≢}
use Rattle.meaning.proofs.Laws.Choices.{nth-from}
use Rattle.meaning.specs.Rewriting.{union_up_to}
use Rattle.wiring.specs.Reach.{Small, full}
use Rattle.wiring.specs.Dropped.{join_cong}
use Rattle.wiring.specs.Sure.{sure_of, sure_in, sure_small}
use Rattle.wiring.specs.Pruning.{may_of, behind_empty}
use Rattle.cells.specs.Table.{back_at, put_masks, Row, count_cell, state_cell, put_small, Tables}
use Rattle.tables.specs.Narrowing.{narrow, narrow_all}
use Rattle.tables.specs.Narrowing.Laws.{length-narrowed, narrow-from}
use Rattle.tables.specs.Insertion.{Filling, considered, listing, lasts_by, is_again, put, pick_filling, others_at}
use Rattle.tables.specs.Insertion.{sure_at}
use Rattle.tables.specs.Insertion.{Raised, Until, AheadFrom}
use Rattle.tables.specs.Insertion.Laws.{wiring_trans, length_masks, length-small, leave_room, count_few, until_next}
use Rattle.tables.specs.Insertion.Laws.{chosen, chosen-ahead, raised-same}
use Rattle.candidates.specs.declared.Around.{Around}
use Rattle.candidates.specs.declared.Puts.{Puts}
use Rattle.candidates.specs.Candidates.{Ready, Tabled, Left, filling, considered_by, listing_by, read_as, from_start}
use Rattle.candidates.specs.Candidates.{record_from, read_from}
use Rattle.candidates.specs.Candidates.{read_charts, with_one, PutsOf, Mays, Sures, PutsBy, RaisedBy}
use Rattle.candidates.specs.Candidates.{UntilChart, NextChart, Stated, Chooses}

-- ── where transitions stand ──

-- a transition's first byte is the state that it leaves
pub first_byte : (b : List ℕ) (at : ℕ) → get_or b at 0 ≡ (transition_of (drop at b)).from
unfolding transition_of
first_byte b at = sym (get_or-drop at b 0 0 ∙ ap (λ i. get_or b i 0) (let h : at + 0 ≡ at = omega arith in h))

-- the records from where transition `start` begins are the transitions from that one on
pub record_from_lem : (n : Shape) (b : List ℕ) (start : ℕ)
    → record_from b (24 * n.charts + 28 * start) ≡ (λ u. transition_at n b (start + u))
unfolding transition_at
record_from_lem n b start =
    fun_ext (λ u. let e : 24 * n.charts + 28 * start + 28 * u ≡ transitions_from n + 28 * (start + u) = omega arith in
    ap (λ i. transition_of (drop i b)) e)

pub read_from_lem : (n : Shape) (b : List ℕ) (read : Set) (start : ℕ)
    → read_from b read (24 * n.charts + 28 * start) ≡ from_start n b read start
read_from_lem n b read start =
    fun_ext (λ u. ap (λ (f : ℕ → Transition). narrow read (f u)) (record_from_lem n b start))

-- a run of values counted from `start` on, and from 0
counted-on : {A : Type 0} (f : ℕ → A) (start k n : ℕ) → fromOn (λ u. f (start + u)) k n ≡ fromOn f (start + k) n
unfolding fromOn
counted-on f start k zero = refl
counted-on f start k (suc n) =
    let e : start + suc k ≡ suc (start + k) = omega arith in
    ap (f (start + k) ∷◌) (counted-on f start (suc k) n ∙ ap (λ i. fromOn f i n) e)

pub counted-from : {A : Type 0} (f : ℕ → A) (start n : ℕ) → fromOn (λ u. f (start + u)) 0 n ≡ fromOn f start n
counted-from f start n =
    let e : start + 0 ≡ start = omega arith in counted-on f start 0 n ∙ ap (λ i. fromOn f i n) e

-- ── what transitions put out ──

module _ (f : ℕ → Transition) (start count q : ℕ) where
  abbrev left : ℕ → List Transition
  left p = fromOn f (start + p) (count - p)

  -- u is what the first p put out, some and all
  pub record PutsLeft (p : ℕ) (u : Puts) : Type 0 where
    pub may : u.may ∪ may_of (left p) q ≡ may_of (fromOn f start count) q
    pub sure : u.sure ∩ sure_of (left p) q ≡ sure_of (fromOn f start count) q
    pub few : Small u.sure
    pub many : u.count ≡ tally p (λ j. one (same (f (start + j)).from q))

  pub puts_none : PutsLeft 0 (record { may = 0; sure = full; count = 0 })
  unfolding tally
  puts_none = record {
    may = sets (may_of (left 0) q ∷ may_of (fromOn f start count) q ∷ []) (A ≐ B ∷ []) (∅ₑ ∪ₑ A ≐ B) tt
        (ap (λ ts. may_of ts q) all);
    sure = sets (sure_of (left 0) q ∷ sure_of (fromOn f start count) q ∷ full ∷ []) (A ≐ B ∷ B ∩ₑ C ≐ B ∷ [])
        (C ∩ₑ A ≐ B) tt (ap (λ ts. sure_of ts q) all) (sure_small (fromOn f start count) q);
    few = sets (full ∷ []) [] (A ∩ₑ A ≐ A) tt;
    many = refl;
  }
    where
      all : left 0 ≡ fromOn f start count
      all = ap₂ (fromOn f) (let h : start + 0 ≡ start = omega arith in h) (let h : count - 0 ≡ count = omega arith in h)

  pub puts_more : (p : ℕ) (u v : Puts) → PutsLeft p u → p < count
      → v ≡ with_one (same (f (start + p)).from q) (f (start + p)).action u → PutsLeft (p + 1) v
  unfolding may_of sure_of fromOn
  puts_more p u v h l e = subst (λ w. PutsLeft (p + 1) w) (sym e) (go (same (f (start + p)).from q) refl)
    where
      a : Set
      a = (f (start + p)).action

      rest : List Transition
      rest = left (p + 1)

      first : left p ≡ f (start + p) ∷ rest
      first = ap (fromOn f (start + p)) (let x : count - p ≡ suc (count - (p + 1)) = omega arith in x)
          ∙ ap (λ k. f (start + p) ∷ fromOn f k (count - (p + 1)))
          (let x : suc (start + p) ≡ start + (p + 1) = omega arith in x)

      more : (b : Bool) → same (f (start + p)).from q ≡ b
          → tally (p + 1) (λ j. one (same (f (start + j)).from q))
          ≡ one b + tally p (λ j. one (same (f (start + j)).from q))
      more b x = tally-more p _ ∙ ap (λ z. one z + tally p (λ j. one (same (f (start + j)).from q))) x

      go : (b : Bool) → same (f (start + p)).from q ≡ b → PutsLeft (p + 1) (with_one b a u)
      go true x = record {
        may = sets (u.may ∷ a ∷ may_of rest q ∷ may_of (fromOn f start count) q ∷ cond (same (f (start + p)).from q) a 0
            ∷ []) (A ∪ₑ (C ∪ₑ Eₑ) ≐ D ∷ Eₑ ≐ B ∷ []) (A ∪ₑ B ∪ₑ C ≐ D) tt
            (ap (λ ts. u.may ∪ may_of ts q) (sym first) ∙ h.may) (rw x);
        sure = sets (u.sure ∷ a ∷ sure_of rest q ∷ sure_of (fromOn f start count) q ∷ []) (A ∩ₑ (C ∩ₑ B) ≐ D ∷ [])
            (A ∩ₑ B ∩ₑ C ≐ D) tt
            (ap (λ b. u.sure ∩ cond b (sure_of rest q ∩ a) (sure_of rest q)) (sym x)
            ∙ ap (λ ts. u.sure ∩ sure_of ts q) (sym first) ∙ h.sure);
        few = sets (u.sure ∷ a ∷ full ∷ []) (A ∩ₑ C ≐ A ∷ []) (A ∩ₑ B ∩ₑ C ≐ A ∩ₑ B) tt h.few;
        many = let e = more true x in let k = h.many in omega arith;
      }
      go false x = record {
        may = sets (u.may ∷ may_of rest q ∷ may_of (fromOn f start count) q ∷ cond (same (f (start + p)).from q) a 0
            ∷ []) (A ∪ₑ (B ∪ₑ D) ≐ C ∷ D ≐ ∅ₑ ∷ []) (A ∪ₑ B ≐ C) tt
            (ap (λ ts. u.may ∪ may_of ts q) (sym first) ∙ h.may) (rw x);
        sure = ap (λ b. u.sure ∩ cond b (sure_of rest q ∩ a) (sure_of rest q)) (sym x)
            ∙ ap (λ ts. u.sure ∩ sure_of ts q) (sym first) ∙ h.sure;
        few = h.few;
        many = let e = more false x in let k = h.many in omega arith;
      }

  pub puts_few : (p : ℕ) (u : Puts) → PutsLeft p u → u.count ≤ p
  puts_few p u h =
      let m =
      tally_most 1 p (λ j. one (same (f (start + j)).from q)) (λ k l. one_most (same (f (start + k)).from q)) in
      let e = h.many in
      omega arith
    where
      one_most : (x : Bool) → one x ≤ 1
      one_most true = omega arith
      one_most false = omega arith

  pub puts_done : (p : ℕ) (u : Puts) → PutsLeft p u → p ≤ count → count ≤ p → PutsOf f start count q u
  unfolding may_of sure_of fromOn
  puts_done p u h k l = record {
    may = sets (u.may ∷ may_of (fromOn f start count) q ∷ []) (A ∪ₑ ∅ₑ ≐ B ∷ []) (A ≐ B) tt
        (ap (λ n. u.may ∪ may_of (fromOn f (start + p) n) q) none ∙ h.may);
    sure = sym h.few ∙ ap (λ n. u.sure ∩ sure_of (fromOn f (start + p) n) q) none ∙ h.sure;
    many = h.many ∙ ap (λ z. tally z (λ j. one (same (f (start + j)).from q))) all;
  }
    where
      none : 0 ≡ count - p
      none = omega arith

      all : p ≡ count
      all = omega arith

-- what records put out, one behind the other from where transition `start` begins
pub puts_from : (n : Shape) (b : List ℕ) (read : Set) (start count q : ℕ) (u : Puts)
    → PutsOf (read_from b read (24 * n.charts + 28 * start)) 0 count q u → PutsOf (read_as n b read) start count q u
puts_from n b read start count q u h =
    let g = subst (λ f. PutsOf f 0 count q u) (read_from_lem n b read start) h in
    let e = counted-from (read_as n b read) start count in
    record {
      may = g.may ∙ ap (λ l. may_of l q) e;
      sure = g.sure ∙ ap (λ l. sure_of l q) e;
      many = g.many ∙ ap (tally count)
          (fun_ext (λ j. let w : 0 + j ≡ j = omega arith in
          ap (λ i. one (same (read_as n b read (start + i)).from q)) w));
    }

-- ── what the other charts might put in ──

pub join_more : (k : ℕ) (f : ℕ → Set) (u : Set) → u ≡ union_up_to k f → u ∪ f k ≡ union_up_to (k + 1) f
unfolding union_up_to
join_more k f u e = rw (add-one k, e)

-- ── one transition, by the way it goes ──

module _ (a : Around) (w : ℕ) (t : Transition) (m s : List ℕ) (k x : ℕ) (ex : x ≡ t.from) where
  -- the filling by what the three tests say
  ways : Bool → Bool → Bool → Filling
  ways u y z =
      pick_filling u (pick_filling y (pick_filling z (filling m s k) (put a.chart w t (filling m s k))) (filling m s k))
      (filling m s k)

  by-ways : (u y z : Bool) → same t.from a.state ≡ u → lasts_by a.low a.own a.others a.shut t ≡ y
      → is_again m s a.chart k t ≡ z → ways u y z ≡ considered_by a w t (filling m s k)
  unfolding ways considered
  by-ways u y z p q r = sym (λ i. ways (p i) (q i) (r i))

  pub left_other : (x ≡ a.state → ⊥) → Left (considered_by a w t (filling m s k)) m s k
  unfolding ways
  left_other h = subst (λ g. Left g m s k) (by-ways false _ _ (rw (← ex) (same_≢ x a.state h)) refl refl)
      (record { masks = refl; small = refl; count = refl })

  module _ (h : x ≡ a.state) (r : Transition) (er : r ≡ t) (y : Bool)
      (ey : y ≡ lasts_by a.low a.own a.others a.shut r) where
    from_here : same t.from a.state ≡ true
    from_here = rw (← ex, h) (same_refl a.state)

    pub left-fails : y ≡ false → Left (considered_by a w t (filling m s k)) m s k
    unfolding ways
    left-fails f = subst (λ g. Left g m s k) (by-ways true false _ from_here
        (subst (λ q. lasts_by a.low a.own a.others a.shut q ≡ false) er (sym ey ∙ f)) refl)
        (record { masks = refl; small = refl; count = refl })

    module _ (f : y ≡ true) (z : Bool) (ez : z ≡ is_again m s a.chart k r) where
      way : (b : Bool) → z ≡ b → ways true true b ≡ considered_by a w t (filling m s k)
      way b g = by-ways true true b from_here (subst (λ q. lasts_by a.low a.own a.others a.shut q ≡ true) er
          (sym ey ∙ f)) (subst (λ q. is_again m s a.chart k q ≡ b) er (sym ez ∙ g))

      pub left_again : z ≡ true → Left (considered_by a w t (filling m s k)) m s k
      unfolding ways
      left_again g = subst (λ g. Left g m s k) (way true g) (record { masks = refl; small = refl; count = refl })

      pub left-put : z ≡ false → (m' s' : List ℕ) → (m' ≡ put_masks m a.chart k r)
          × (s' ≡ put_small s a.chart k w r) → Left (considered_by a w t (filling m s k)) m' s' (k + 1)
      unfolding ways
      left-put g m' s' p = subst (λ g. Left g m' s' (k + 1)) (way false g) (record {
        masks = p.0 ∙ ap (put_masks m a.chart k) er;
        small = p.1 ∙ ap (put_small s a.chart k w) er;
        count = refl;
      })

-- ── a filling by one transition more ──

module _ (a : Around) (g : ℕ → Transition) (f : Filling) where
  pub left-none : Left (listing_by a g 0 f) f.masks f.small f.count
  unfolding listing
  left-none = record { masks = refl; small = refl; count = refl }

  pub left-next : (p : ℕ) (m s : List ℕ) (k : ℕ) (m' s' : List ℕ) (k' : ℕ) → Left (listing_by a g p f) m s k
      → Left (considered_by a p (g p) (filling m s k)) m' s' k' → Left (listing_by a g (p + 1) f) m' s' k'
  unfolding listing
  left-next p m s k m' s' k' h l = rw (add-one p) (subst (λ z. Left (considered_by a p (g p) z) m' s' k')
      (λ i. record { masks = h.masks i; small = h.small i; count = h.count i }) l)

  -- the tables keep their lengths
  pub left_masks : (p : ℕ) (m s : List ℕ) (k : ℕ) → Left (listing_by a g p f) m s k → length m ≡ length f.masks
  left_masks p m s k h =
      ap length h.masks ∙ length_masks a.chart a.state a.low a.own a.others a.shut g p f

  pub left-small : (p : ℕ) (m s : List ℕ) (k : ℕ) → Left (listing_by a g p f) m s k → length s ≡ length f.small
  left-small p m s k h =
      ap length h.small ∙ length-small a.chart a.state a.low a.own a.others a.shut g p f

  pub left_tabled : (N p : ℕ) (m s : List ℕ) (k : ℕ) → Left (listing_by a g p f) m s k → Tabled N f.masks f.small
      → Tabled N m s
  left_tabled N p m s k h t =
      record { masks = rw (left_masks p m s k h) t.masks; small = left-small p m s k h ∙ t.small }

  module _ (z : f.count ≡ 0) (count : ℕ)
      (few : tally count (λ u. one (same (g u).from a.state)) ≤ most_from_state) where
    pub left_few : (p : ℕ) (m s : List ℕ) (k : ℕ) → Left (listing_by a g p f) m s k → p ≤ count → k ≤ most_from_state
    left_few p m s k h l =
        rw h.count (count_few a.chart a.state a.low a.own a.others a.shut g p count f z l few)

    pub left_room : (p : ℕ) (m s : List ℕ) (k : ℕ) → Left (listing_by a g p f) m s k → p < count → (g p).from ≡ a.state
        → k < most_from_state
    left_room p m s k h l e =
        rw h.count (leave_room a.chart a.state a.low a.own a.others a.shut g p count f z l few e)

-- ── the charts' transitions ──

pub length_from : (f : ℕ → Transition) (k n : ℕ) → length (fromOn f k n) ≡ n
unfolding fromOn
length_from f k zero = refl
length_from f k (suc n) = ap suc (length_from f (suc k) n)

module _ (n : Shape) (b config : List ℕ) where
  module _ (r : Ready n b config) (c start : ℕ) (head : Head) (l : c < n.charts) (es : start ≡ start_of n b c)
      (eh : head ≡ head_at n b c) where
    pub chart_room : tally head.transitions (λ u. one (same (transition_at n b (start + u)).from (get_or config c 0)))
        ≤ most_from_state
    unfolding leaving
    chart_room = rw (es, eh) (r.room c l)

module _ (n : Shape) (b config reads : List ℕ) where
  -- a chart's list, from where its transitions start
  read_list : (c start : ℕ) (head : Head) → start ≡ start_of n b c → head ≡ head_at n b c
      → fromOn (read_as n b (get_or reads c 0)) start head.transitions
      ≡ narrow_all (get_or reads c 0) (transitions_of n b c)
  unfolding transitions_of
  read_list c start head es eh =
      ap₂ (λ x y. fromOn (read_as n b (get_or reads c 0)) x y.transitions) es eh
      ∙ sym (narrow-from (get_or reads c 0) (transition_at n b) (start_of n b c) (head_at n b c).transitions)

  pub mays_next : (c : ℕ) (may : List ℕ) (v start : ℕ) (head : Head) → Mays n b config reads c may → c < length may
      → start ≡ start_of n b c → head ≡ head_at n b c
      → v ≡ may_of (fromOn (read_as n b (get_or reads c 0)) start head.transitions) (get_or config c 0)
      → Mays n b config reads (c + 1) (set may c v)
  mays_next c may v start head h l es eh ev =
      fill_more (λ d. may_of (narrow_all (get_or reads d 0) (transitions_of n b d)) (get_or config d 0)) may c v h
      (ev ∙ ap (λ ts. may_of ts (get_or config c 0)) (read_list c start head es eh)) l

  pub puts_by-none : (may sures counts : List ℕ) → length may ≡ most_charts → length sures ≡ most_charts
      → length counts ≡ most_charts → PutsBy n b config reads 0 may sures counts
  puts_by-none may sures counts k l m =
      record {
        mays = λ c r. absurd (omega arith);
        sure = λ c r. absurd (omega arith);
        many = λ c r. absurd (omega arith);
        may-long = k;
        sures-long = l;
        counts-long = m;
      }

  -- chart c puts in what its transitions do
  pub puts_by-next : (c : ℕ) (may sures counts : List ℕ) (start : ℕ) (head : Head) (v : Puts)
      → PutsBy n b config reads c may sures counts → c < most_charts → start ≡ start_of n b c → head ≡ head_at n b c
      → PutsOf (read_as n b (get_or reads c 0)) start head.transitions (get_or config c 0) v
      → PutsBy n b config reads (c + 1) (set may c v.may) (set sures c v.sure) (set counts c v.count)
  puts_by-next c may sures counts start head v h l es eh e =
      record {
        mays = mays_next c may v.may start head h.mays (rw h.may-long l) es eh e.may;
        sure = fill_more (λ d. sure_of (narrow_all (get_or reads d 0) (transitions_of n b d)) (get_or config d 0)) sures
            c
            v.sure h.sure (e.sure ∙ ap (λ ts. sure_of ts (get_or config c 0)) (read_list c start head es eh))
            (rw h.sures-long l);
        many = fill_more (λ d. leaves d (start_of n b d) (head_at n b d)) counts c v.count h.many
            (e.many ∙ ap₂ (leaves c) es eh) (rw h.counts-long l);
        may-long = length-set may c v.may ∙ h.may-long;
        sures-long = length-set sures c v.sure ∙ h.sures-long;
        counts-long = length-set counts c v.count ∙ h.counts-long;
      }
    where
      leaves : ℕ → ℕ → Head → ℕ
      leaves d k x = tally x.transitions (λ j. one (same (transition_at n b (k + j)).from (get_or config d 0)))

-- ── what charts are surely offered ──

module _ (n : Shape) (m s u base : List ℕ) where
  pub raised-by-none : RaisedBy n m s u 0 base base
  unfolding union_up_to
  raised-by-none c l = sets (get_or base c 0 ∷ []) [] (A ≐ A ∪ₑ ∅ₑ) tt

  pub raised-by-next : (k : ℕ) (x : Set) (lows lows' : List ℕ) → RaisedBy n m s u k base lows
      → x ≡ sure_in (same n.edition stay_edition) (get_or u k 0)
      → Row lows' (λ d. get_or lows d 0 ∪ sure_at s k x ∩ back_at m d k) → RaisedBy n m s u (k + 1) base lows'
  unfolding union_up_to
  raised-by-next k x lows lows' h e f c l = rw (add-one k)
      (f c l ∙ sets (get_or lows c 0 ∷ get_or base c 0 ∷ union_up_to k put ∷ (sure_at s k x ∩ back_at m c k)
      ∷ put k ∷ [])
      (A ≐ B ∪ₑ C ∷ D ≐ Eₑ ∷ []) (A ∪ₑ D ≐ B ∪ₑ (C ∪ₑ Eₑ)) tt (h c l) (ap (λ z. sure_at s k z ∩ back_at m c k) e))
    where
      put : ℕ → Set
      put e = sure_at s e (sure_in (same n.edition stay_edition) (get_or u e 0)) ∩ back_at m c e

-- the row is what the charts of a file surely put out
pub raised_is : (n : Shape) (b config reads m s u base lows : List ℕ) → Sures n b config reads n.charts u
    → RaisedBy n m s u n.charts base lows
    → Raised (read_charts n b reads) (λ c. get_or config c 0) n.charts m s base lows
unfolding chart_of
raised_is n b config reads m s u base lows f h c l =
    h c l ∙ ap (λ z. get_or base c 0 ∪ z) (join_cong n.charts _ _ (λ e r.
    ap (λ z. sure_at s e (sure_in (same n.edition stay_edition) z) ∩ back_at m c e) (f e r)))

module _ (n : Shape) (b config reads : List ℕ) where
  -- the table of chart c's candidates is made by its transitions
  pub chart-next : Ready n b config → (lows may shuts : List ℕ) → Mays n b config reads n.charts may
      → (m s : List ℕ) (c start : ℕ) (head : Head) (own others : Set) (m' s' : List ℕ) (k : ℕ)
      → Tabled n.charts m s → c < n.charts → start ≡ start_of n b c → head ≡ head_at n b c → own ≡ back_at m c c
      → others ≡ others_at m n.charts (λ e. get_or may e 0) c
      → Left (listing c (get_or config c 0) (get_or lows c 0) own others (get_or shuts c 0)
      (from_start n b (get_or reads c 0) start) head.transitions (filling m s 0)) m' s' k
      → NextChart n b config reads lows shuts c m s m' (set s' (count_cell c) k)
  unfolding transitions_of chart_of leaving others_at
  chart-next r lows may shuts my m s c start head own others m' s' k tb l es eh eo et h m₀ s₀ un =
      subst (λ z. UntilChart n b config reads lows shuts m₀ s₀ z m' (set s' (count_cell c) k)) (sym (add-one c))
      (rw (h.masks, h.small, h.count, es, eh) (subst (λ z. Until (read_charts n b reads) (λ d. get_or config d 0)
      n.charts lows shuts m₀ s₀ (suc c) (made z).masks (set (made z).small (count_cell c) (made z).count))
      long
      (until_next (read_charts n b reads) (λ d. get_or config d 0) n.charts lows shuts m₀ s₀ r.sized.charts c l m s
      (get_or lows c 0) own others (get_or shuts c 0) (from_start n b (get_or reads c 0) (start_of n b c)) tb.masks un
      (λ u q. ap (λ ts. nth no_move ts u)
      (narrow-from (get_or reads c 0) (transition_at n b) (start_of n b c) (head_at n b c).transitions)
      ∙ nth-from no_move (read_as n b (get_or reads c 0)) (start_of n b c) (head_at n b c).transitions u
      (subst (λ z. u < z) long q))
      (subst (λ z. tally z (λ u. one (same (transition_at n b (start_of n b c + u)).from (get_or config c 0)))
      ≤ most_from_state) (sym long) (r.room c l))
      refl eo (et ∙ join_cong n.charts _ _ (λ e q. ap (λ z. cond (same e c) 0 z ∩ back_at m c e) (my e q))) refl)))
    where
      made : ℕ → Filling
      made p = listing c (get_or config c 0) (get_or lows c 0) own others (get_or shuts c 0)
          (from_start n b (get_or reads c 0) (start_of n b c)) p (filling m s 0)

      long : length (narrow_all (get_or reads c 0)
          (fromOn (transition_at n b) (start_of n b c) (head_at n b c).transitions))
          ≡ (head_at n b c).transitions
      long = length-narrowed (get_or reads c 0)
          (fromOn (transition_at n b) (start_of n b c) (head_at n b c).transitions)
          ∙ length_from (transition_at n b) (start_of n b c) (head_at n b c).transitions

-- tables that have room for N charts have room for fewer
pub tabled_fewer : {N : ℕ} {m s : List ℕ} (M : ℕ) → Tabled N m s → M ≤ N → Tabled M m s
tabled_fewer M t l = record { masks = (let h = t.masks in omega arith); small = t.small }

pub chart_tabled : (N c q : ℕ) (low own others shut : Set) (g : ℕ → Transition) (p : ℕ) (m s m' s' : List ℕ) (k d : ℕ)
    → Left (listing c q low own others shut g p (filling m s 0)) m' s' k → Tabled N m s → Tabled N m' (set s' d k)
chart_tabled N c q low own others shut g p m s m' s' k d h t =
    record {
      masks = rw (h.masks, length_masks c q low own others shut g p (filling m s 0)) t.masks;
      small = length-set s' d k ∙ ap length h.small
          ∙ length-small c q low own others shut g p (filling m s 0) ∙ t.small;
    }

-- ── states ──

pub stated_none : (config s : List ℕ) → Stated config 0 s s
stated_none config s = record { states = λ c l. absurd (omega arith); below = λ i l. refl; small = refl }

pub stated_next : (config : List ℕ) (c : ℕ) (s₀ s : List ℕ) → Stated config c s₀ s → state_cell c < length s₀
    → Stated config (c + 1) s₀ (set s (state_cell c) (get_or config c 0))
stated_next config c s₀ s h l =
    record {
      states = λ d r. go d r (same d c) refl;
      below = λ i r. get_or-set_other s (state_cell c) i (get_or config c 0) 0 (λ e. omega arith) ∙ h.below i r;
      small = length-set s (state_cell c) (get_or config c 0) ∙ h.small;
    }
  where
    go : (d : ℕ) → d < c + 1 → (x : Bool) → same d c ≡ x
        → get_or (set s (state_cell c) (get_or config c 0)) (state_cell d) 0 ≡ get_or config d 0
    go d r true e =
        rw (same→≡ d c e) (get_or-set_same s (state_cell c) (get_or config c 0) 0 (let k = h.small in omega arith))
    go d r false e = let z : d ≢ c = λ w. false≢true (sym e ∙ rw w (same_refl c)) in
        get_or-set_other s (state_cell c) (state_cell d) (get_or config c 0) 0 (λ w. omega arith)
        ∙ h.states d (omega arith)

-- ── all of it ──

pub chooses : (n : Shape) (b config reads base shuts lows m₀ s₀ s₁ m s m' : List ℕ) → Ready n b config
    → Tabled n.charts m₀ s₀
    → Stated config n.charts s₀ s₁ → Raised (read_charts n b reads) (λ c. get_or config c 0) n.charts m₀ s₁ base lows
    → UntilChart n b config reads lows shuts m₀ s₁ n.charts m s → AheadFrom n.charts s 0 m m'
    → Chooses n b config reads base shuts lows m₀ s₀ m' s
chooses n b config reads base shuts lows m₀ s₀ s₁ m s m' r tb st ra un ah = let few = r.sized.charts in
    record {
      chosen = chosen (read_charts n b reads)
          (λ c. get_or config c 0) n.charts lows shuts m₀ s₁ few m m' s un ah st.states;
      raised = raised-same (read_charts n b reads) (λ c. get_or config c 0) base n.charts m₀ s₁ m' s lows few
          (λ c d p q. ah.wires.backs c d p q ∙ un.wires.backs c d p q)
          (λ i p q. un.rest i (omega arith) (omega arith)) ra;
      wires = wiring_trans un.wires ah.wires;
      masters = λ i p q. un.rest i (omega arith) (omega arith) ∙ st.below i q;
      tabled = record { masks = rw (ah.masks, un.masks) tb.masks; small = un.small };
    }

-- the tables are what a search asks
pub searchable : {n : Shape} {b config reads base shuts lows m₀ s₀ m s : List ℕ}
    → Chooses n b config reads base shuts lows m₀ s₀ m s → Tables n.charts m s
searchable h =
    record {
      masks = h.tabled.masks;
      small = h.tabled.small;
      counts = h.chosen.counts;
      ahead = chosen-ahead h.chosen;
    }

-- ── actions of a file in bytes ──

le-small : (n : ℕ) (s : List ℕ) → ((i : ℕ) → get_or s i 0 < 256) → le n s < 256 ^ n
unfolding le
le-small zero s h = omega arith
le-small (suc n) [] h = one-le-pow (suc n) 256 (lit< tt)
le-small (suc n) (b ∷ s) h = let r = le-small n s (λ i. h (suc i)) in let q = h 0 in rw (pow-suc 256 n) (omega arith)

small-below : (x : Set) → x < 2 ^ 64 → Small x
unfolding full
small-below x l = and_mask x 64 ∙ mod-eq_of_lt l

action-small : (n : Shape) (b : List ℕ) → ((i : ℕ) → get_or b i 0 < 256) → (t : ℕ) → Small (transition_at n b t).action
unfolding transition_at transition_of
action-small n b h t = small-below _ (le-small 8 (drop 20 (drop (transitions_from n + 28 * t) b)) (λ i. rw (
  get_or-drop 20 (drop (transitions_from n + 28 * t) b) i 0,
  get_or-drop (transitions_from n + 28 * t) b (20 + i) 0,
) (h _)))

nth-small : (d : Move) → Small (action_of d) → (f : ℕ → Transition) → ((t : ℕ) → Small (f t).action) → (k n u : ℕ)
    → Small (action_of (nth d (fromOn f k n) u))
unfolding fromOn nth action_of
nth-small d e f g k zero u = e
nth-small d e f g k (suc n) zero = g k
nth-small d e f g k (suc n) (suc u) = nth-small d e f g (suc k) n u

-- no action has a signal from 64 on
pub actions-small : (n : Shape) (b : List ℕ) → ((i : ℕ) → get_or b i 0 < 256) → (ch : ℕ → ℕ) (e : ℕ)
    → Small (action_of (moves (file_at n b).chart ch e))
unfolding moves file_at chart_of transitions_of
actions-small n b h ch e = go (ch e)
  where
    none : (x : Bool) → Small (action_of (cond x stay no_move))
    none x = rw (behind_empty x) (sets (full ∷ []) [] (∅ₑ ∩ₑ A ≐ ∅ₑ) tt)

    go : (v : ℕ) → Small (action_of (pick (chart_of n b e) v))
    go zero = unfold pick action_of in sets (full ∷ []) [] (∅ₑ ∩ₑ A ≐ ∅ₑ) tt
    go (suc u) = unfold pick in nth-small (cond (same n.edition stay_edition) stay no_move)
        (none (same n.edition stay_edition)) (transition_at n b) (action-small n b h) (start_of n b e)
        (head_at n b e).transitions u
