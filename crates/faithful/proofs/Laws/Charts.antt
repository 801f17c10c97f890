-- The charts of the file of a chart are its sequential charts: each at the number of its name (`chart_is`), and no
-- other (`charts_typed`).
use Rattle.std.specs.Prelude.{◌≡◌, Bool, false, ◌||◌, length}
use Rattle.std.proofs.Math.Path.{refl, sym, ap, ap₂, subst}
use Rattle.std.proofs.Common.{◌∙◌, ⊎_elim}
use mathlib.Core.List.Memᴰ
use mathlib.Core.List.{List, [], ◌∷◌, ◌++◌, map, append_assoc, append-nil, Memᴰ}
use mathlib.Core.List.Permᴰ
use mathlib.Core.List.{Permᴰ}
use Prim.Native.Nat.{ℕ, zero, suc, ◌+◌, ◌<◌}
use native.Mathlib.Omega.{arith}
use Rattle.layout.specs.Body.{head_at, transition_at, start_of, from, transitions_of as readTransitions}
use Rattle.meaning.specs.Meaning.{same}
use Rattle.meaning.specs.File.{shape_of, chart_of, file_at, file_of}
use Rattle.meaning.specs.Check.{counts?}
use Rattle.meaning.specs.Check.Laws.{counted}
use Rattle.meaning.specs.Sums.Laws.{or_left, or_right}
use Rattle.notation.specs.Syntax.{Transition, Sequential, Chart}
use Rattle.reading.specs.Numbers.{named_charts}
use Rattle.reading.specs.Names.{members_of, any, not_all?, transition?, sequential?, sequentials_of, parts?, name_of}
use Rattle.reading.specs.Names.{names?}
use Rattle.reading.specs.Meant.{gathered, transition_for, transitions_in, head_for, charts_of, transitions_of, body_for}
use Rattle.reading.specs.Meant.{trailer_for, file_for}
use Rattle.lists.specs.Laws.States.{length_snoc}
use Rattle.reading.specs.Laws.Lists.{any_append}
use Rattle.roster.specs.Laws.Sorted.{InOrder, sorted_same, sorted_order, any_perm, length_perm, gathered_snoc}
use Rattle.faithful.specs.Faithful.{ChartIs, ChartsTyped}
use Rattle.faithful.specs.Laws.Small.{transition-small, transitions_fine}
use Rattle.faithful.specs.Laws.Back.{At, at-below, shape_for, file-back, head_is, transition_is}

-- ── members of lists ──

module _ {A : Type 0} where
  pub mem_perm : {a : A} {l m : List A} → Permᴰ l m → Memᴰ a l → Memᴰ a m
  mem_perm Permᴰ.nil h = h
  mem_perm (Permᴰ.cons e d) h =
      ⊎_elim (λ q. Memᴰ.head (q ∙ e)) (λ w. Memᴰ.tail (mem_perm d w)) (Memᴰ.cases_cons h)
  mem_perm (Permᴰ.swap e f) h =
      ⊎_elim
      (λ q. Memᴰ.tail (Memᴰ.head (q ∙ e)))
      (λ w. ⊎_elim (λ q. Memᴰ.head (q ∙ f)) (λ v. Memᴰ.tail (Memᴰ.tail v)) (Memᴰ.cases_cons w))
      (Memᴰ.cases_cons h)
  mem_perm (Permᴰ.trans d e) h = mem_perm e (mem_perm d h)

  -- a place more in front
  pub at_more : (b : A) (l : List A) (i : ℕ) (a : A) → At l i a → At (b ∷ l) (suc i) a
  at_more b l i a h =
      record { before = b ∷ h.before; after = h.after; is = ap (b ∷◌) h.is; counted = ap suc h.counted }

  pub at_head : (a : A) (l : List A) → At (a ∷ l) 0 a
  at_head a l = record { before = []; after = l; is = refl; counted = refl }

  mem_at : (l : List A) (a : A) → Memᴰ a l → (i : ℕ) × At l i a
  mem_at [] a h = absurd (Memᴰ.not-nil h)
  mem_at (b ∷ l) a h =
      ⊎_elim
      (λ e. (0, subst (At (b ∷ l) 0) (sym e) (at_head b l)))
      (λ w. let r = mem_at l a w in (suc r.0, at_more b l r.0 a r.1))
      (Memᴰ.cases_cons h)

  pub at_place : (l : List A) (i : ℕ) → i < length l → (a : A) × At l i a
  at_place [] i h = absurd (omega arith)
  at_place (a ∷ l) zero h = (a, at_head a l)
  at_place (a ∷ l) (suc i) h = let r = at_place l i (omega arith) in (r.0, at_more a l i r.0 r.1)

  at_mem : (l : List A) (i : ℕ) (a : A) → At l i a → Memᴰ a l
  at_mem l i a h = subst (Memᴰ a) (sym h.is) (Memᴰ.append_right h.before (Memᴰ.head refl))

  pub at-fine : (p : A → Bool) (l : List A) (i : ℕ) (a : A) → any p l ≡ false → At l i a → p a ≡ false
  unfolding any
  at-fine p l i a e h =
      or_left (p a) (any p h.after)
      (or_right (any p h.before) (p a || any p h.after)
      (sym (any_append p h.before (a ∷ h.after)) ∙ ap (any p) (sym h.is) ∙ e))

  -- keys that come in their order
  order_at : (key : A → ℕ) (c : ℕ) (b : List A) (a : A) (l : List A) → InOrder key c (b ++ (a ∷ l))
      → key a ≡ c + length b
  unfolding InOrder
  order_at key c [] a l o = let e = o.0 in omega arith
  order_at key c (x ∷ b) a l o = let e = order_at key (suc c) b a l o.1 in omega arith

  key_at : (key : A → ℕ) (l : List A) (i : ℕ) (a : A) → InOrder key 0 l → At l i a → key a ≡ i
  key_at key l i a o h =
      let e = order_at key 0 h.before a h.after (subst (InOrder key 0) h.is o) in
      let f = h.counted in
      omega arith

  pub gathered-append : {B : Type 0} (f : A → List B) (l m : List A)
      → gathered f (l ++ m) ≡ gathered f l ++ gathered f m
  unfolding gathered
  gathered-append f [] m = refl
  gathered-append f (a ∷ l) m =
      ap (f a ++◌) (gathered-append f l m) ∙ sym (append_assoc (f a) (gathered f l) (gathered f m))

module _ (t : Chart) (n : names? t ≡ false) where
  -- ── what 52 gives ──

  pub named : not_all? named_charts (map name_of (sequentials_of t)) ≡ false
  unfolding names?
  named = or_left _ _ n

  pub same-charts : Permᴰ (charts_of t) (sequentials_of t)
  same-charts = sorted_same name_of named_charts (sequentials_of t) named

  pub in_order : InOrder name_of 0 (charts_of t)
  in_order = sorted_order name_of named_charts (sequentials_of t) named

  pub charts-fine : any sequential? (charts_of t) ≡ false
  unfolding names?
  charts-fine =
      any_perm sequential? same-charts
      ∙ or_left (any sequential? (sequentials_of t)) (parts? t)
      (or_right (not_all? named_charts (map name_of (sequentials_of t))) _ n)

  -- ── a chart's transitions ──

  -- those that stand at k, k + 1, ..
  from_is : (states : List ℕ) (pre mid post : List Transition) (k : ℕ) → transitions_of t ≡ pre ++ (mid ++ post)
      → length pre ≡ k → any (transition? states) mid ≡ false
      → from (transition_at (shape_for t) (body_for t)) k (length mid) ≡ map transition_for mid
  unfolding from any
  from_is states pre [] post k e l f = refl
  from_is states pre (u ∷ mid) post k e l f =
      ap₂ ◌∷◌
      (transition_is t k u (record { before = pre; after = mid ++ post; is = e; counted = l })
      (transition-small states u (or_left (transition? states u) (any (transition? states) mid) f)))
      (from_is states (pre ++ (u ∷ [])) mid post (suc k) (e ∙ sym (append_assoc pre (u ∷ []) (mid ++ post)))
      (length_snoc pre u ∙ ap suc l) (or_right (transition? states u) (any (transition? states) mid) f))

  -- where those behind the charts l begin
  abbrev Starts : List Sequential → Type 0
  Starts l = start_of (shape_for t) (body_for t) (length l) ≡ length (gathered transitions_in l)

  start_is : (done todo rest : List Sequential) → charts_of t ≡ done ++ (todo ++ rest) → Starts done
      → Starts (done ++ todo)
  unfolding start_of head_for
  start_is done [] rest e f = subst Starts (sym (append-nil done)) f
  start_is done (s ∷ todo) rest e f =
      subst Starts (append_assoc done (s ∷ []) todo)
      (start_is (done ++ (s ∷ [])) todo rest (e ∙ sym (append_assoc done (s ∷ []) (todo ++ rest))) next)
    where
      here : At (charts_of t) (length done) s
      here = record { before = done; after = todo ++ rest; is = e; counted = refl }

      head : head_at (shape_for t) (body_for t) (length done) ≡ head_for s
      head = head_is t (length done) s here (at-fine sequential? (charts_of t) (length done) s charts-fine here)

      next : Starts (done ++ (s ∷ []))
      next =
          ap (start_of (shape_for t) (body_for t)) (length_snoc done s)
          ∙ ap₂ ◌+◌ f (ap (λ h. h.transitions) head) ∙ sym (gathered_snoc transitions_in done s)

  -- ── a chart ──

  module _ (c : ℕ) (s : Sequential) (m : At (charts_of t) c s) where
    fine : sequential? s ≡ false
    fine = at-fine sequential? (charts_of t) c s charts-fine m

    head : head_at (shape_for t) (body_for t) c ≡ head_for s
    head = head_is t c s m fine

    start : start_of (shape_for t) (body_for t) c ≡ length (gathered transitions_in m.before)
    unfolding start_of gathered
    start =
        ap (start_of (shape_for t) (body_for t)) (sym m.counted)
        ∙ start_is [] m.before (s ∷ m.after) m.is refl

    lines : readTransitions (shape_for t) (body_for t) c ≡ map transition_for (transitions_in s)
    unfolding readTransitions head_for gathered
    lines =
        ap₂ (λ k h. from (transition_at (shape_for t) (body_for t)) k h.transitions) start head
        ∙ from_is (members_of s.heading.states) (gathered transitions_in m.before) (transitions_in s)
        (gathered transitions_in m.after) _
        (ap (gathered transitions_in) m.is ∙ gathered-append transitions_in m.before (s ∷ m.after)) refl
        (transitions_fine s fine)

    pub chart_is : ChartIs (chart_of (shape_for t) (body_for t) c) s
    unfolding chart_of head_for same shape_of trailer_for
    chart_is =
        record {
          states = ap (λ h. h.states) head;
          initial = ap (λ h. h.initial) head;
          transitions = lines;
          feedback = ap (λ h. h.feedback) head;
          extra = ap (λ h. h.extra) head;
          stays = refl;
        }

  -- ── all of them ──

  pub each_chart : (s : Sequential) → Memᴰ s (sequentials_of t)
      → (name_of s < length (charts_of t)) × ChartIs (chart_of (shape_for t) (body_for t) (name_of s)) s
  each_chart s m =
      let a = mem_at (charts_of t) s (mem_perm (Permᴰ.symm same-charts) m) in
      let k = key_at name_of (charts_of t) a.0 s in_order a.1 in
      subst (λ c. (c < length (charts_of t)) × ChartIs (chart_of (shape_for t) (body_for t) c) s) (sym k)
      (at-below (charts_of t) a.0 s a.1, chart_is a.0 s a.1)

  pub chart_typed : (c : ℕ) → c < length (charts_of t)
      → (s : Sequential) × Memᴰ s (sequentials_of t) × (name_of s ≡ c)
  chart_typed c l =
      let a = at_place (charts_of t) c l in
      let m = mem_perm same-charts (at_mem (charts_of t) c a.0 a.1) in
      (a.0, m, key_at name_of (charts_of t) c a.0 in_order a.1)

  pub charts_typed : counts? (trailer_for t) ≡ false → ChartsTyped (file_of (file_for t)) t
  unfolding file_at shape_of trailer_for
  charts_typed e =
      subst (λ F. ChartsTyped F t) (sym (file-back t (counted (trailer_for t) e)))
      (record { charts = length_perm same-charts; each = each_chart; all = chart_typed })
