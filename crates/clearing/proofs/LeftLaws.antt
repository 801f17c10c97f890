-- A list without its dead transitions, as a loop over records goes through it. In this order: one more transition; what
-- is left of the first k; the bytes; a chart's head and list; all charts.
use Rattle.std.specs.Prelude.{◌≡◌, Bool, true, false, cond}
use Rattle.std.proofs.Math.Path.{refl, sym, ap, ap₂}
use Rattle.std.proofs.Common.{◌∙◌, add-one}
use mathlib.Core.List.{List, [], ◌∷◌, ◌++◌, append-nil}
use Prim.Native.Nat.{ℕ, zero, suc, ◌+◌, ◌≤◌}
use native.Mathlib.Omega.{arith}
use Rattle.std.proofs.Math.ListN.{length, length-append}
use Rattle.signals.specs.Mask.{◌∪◌}
use Rattle.signals.specs.Decide.{sets, A, B, C, ∅ₑ, ◌∪ₑ◌, ◌≐◌}
use Rattle.layout.specs.Record.{transition_bytes}
use Rattle.layout.specs.Record.Laws.{length-transition}
use Rattle.layout.specs.Body.{head_at, transition_at, start_of, from, transitions_of}
use Rattle.layout.specs.Body.Laws.{length_from, from_more}
use Rattle.layout.specs.declared.body.Shape.{Shape}
use Rattle.layout.specs.declared.record.Head.{Head}
use Rattle.layout.specs.declared.record.Transition.{Transition}
use Rattle.meaning.specs.Sums.{tally}
use Rattle.meaning.specs.Meaning.{Set, guards}
use Rattle.meaning.specs.File.{file_at, chart_of}
use Rattle.meaning.specs.Rewriting.{head_for, in_turn, transitions_bytes, transitions_in, shape_in}
use Rattle.agreement.specs.Encoded.{transitions_append}
use Rattle.checks.specs.Known.{Sized, Summed}
use Rattle.laying.specs.Trailer.{Small}
use Rattle.clearing.specs.declared.Left.{Left}
use Rattle.clearing.specs.Clearing.{dead, alive, lost, cleared_chart, clear}
use Rattle.clearing.proofs.Alive.{alive_most}
use Rattle.clearing.specs.Left.{left_of, head_with, kept_bytes}

-- ── one more transition ──

alive-append : (fed : Set) (xs ys : List Transition) → alive fed (xs ++ ys) ≡ alive fed xs ++ alive fed ys
unfolding alive
alive-append fed [] ys = refl
alive-append fed (t ∷ xs) ys = go (dead fed t) (alive-append fed xs ys)
  where
    go : (b : Bool) → alive fed (xs ++ ys) ≡ alive fed xs ++ alive fed ys
        → cond b (alive fed (xs ++ ys)) (t ∷ alive fed (xs ++ ys)) ≡ cond b (alive fed xs) (t ∷ alive fed xs)
        ++ alive fed ys
    go true e = e
    go false e = ap (λ z. t ∷ z) e

guards-append : (xs ys : List Transition) → guards (xs ++ ys) ≡ guards xs ∪ guards ys
unfolding guards
guards-append [] ys = sets (guards ys ∷ []) [] (A ≐ ∅ₑ ∪ₑ A) tt
guards-append (t ∷ xs) ys =
    ap (λ z. (t.needed ∪ t.barred) ∪ z) (guards-append xs ys)
    ∙ sets ((t.needed ∪ t.barred) ∷ guards xs ∷ guards ys ∷ []) [] (A ∪ₑ (B ∪ₑ C) ≐ A ∪ₑ B ∪ₑ C) tt

-- ── what is left of the first k, from s on ──

module _ (fed : Set) (f : ℕ → Transition) (s : ℕ) where
  abbrev pub left_to : ℕ → Left
  left_to k = left_of fed (from f s k)

  alive-more : (k : ℕ) → alive fed (from f s (suc k)) ≡ alive fed (from f s k) ++ alive fed (f (s + k) ∷ [])
  alive-more k = ap (alive fed) (from_more f s k) ∙ alive-append fed (from f s k) (f (s + k) ∷ [])

  pub left-none : left_to 0 ≡ record { count = 0; was = 0; still = 0 }
  unfolding left_of alive from guards
  left-none = refl

  -- with what is left of the next one, a
  module _ (k : ℕ) (a : Left) (e : a ≡ left_of fed (f (s + k) ∷ [])) where
    pub left-count : (left_to k).count + a.count ≡ (left_to (k + 1)).count
    unfolding left_of
    left-count =
        ap (λ (l : Left). (left_to k).count + l.count) e
        ∙ sym (ap (λ z. length (alive fed (from f s z))) (add-one k) ∙ ap length (alive-more k)
        ∙ length-append (alive fed (from f s k)) (alive fed (f (s + k) ∷ [])))

    pub left_was : (left_to k).was ∪ a.was ≡ (left_to (k + 1)).was
    unfolding left_of
    left_was =
        ap (λ (l : Left). (left_to k).was ∪ l.was) e
        ∙ sym (ap (λ z. guards (from f s z)) (add-one k) ∙ ap guards (from_more f s k)
        ∙ guards-append (from f s k) (f (s + k) ∷ []))

    pub left_still : (left_to k).still ∪ a.still ≡ (left_to (k + 1)).still
    unfolding left_of
    left_still =
        ap (λ (l : Left). (left_to k).still ∪ l.still) e
        ∙ sym (ap (λ z. guards (alive fed (from f s z))) (add-one k) ∙ ap guards (alive-more k)
        ∙ guards-append (alive fed (from f s k)) (alive fed (f (s + k) ∷ [])))

  pub left_most : (k : ℕ) → (left_to k).count ≤ k
  unfolding left_of
  left_most k = let l = alive_most fed (from f s k) in let e = length_from f s k in omega arith

  -- ── the bytes ──

  pub kept_turn : (k : ℕ) → transitions_bytes (alive fed (from f s k)) ≡ in_turn k (λ i. kept_bytes fed (f (s + i)))
  unfolding in_turn kept_bytes
  kept_turn zero = unfold alive in unfold from in unfold transitions_bytes in refl
  kept_turn (suc k) =
      ap transitions_bytes (alive-more k)
      ∙ transitions_append (alive fed (from f s k)) (alive fed (f (s + k) ∷ []))
      ∙ ap (λ z. z ++ transitions_bytes (alive fed (f (s + k) ∷ []))) (kept_turn k)

module _ (fed : Set) (t : Transition) where
  -- of one transition
  pub one-dead : dead fed t ≡ true → left_of fed (t ∷ []) ≡ record { count = 0; was = t.needed ∪ t.barred; still = 0 }
  unfolding left_of alive guards
  one-dead e = rw e (ap (λ z. record { count = 0; was = z; still = 0 })
      (sets (t.needed ∷ t.barred ∷ []) [] (A ∪ₑ B ∪ₑ ∅ₑ ≐ A ∪ₑ B) tt))

  pub one_left : dead fed t ≡ false
      → left_of fed (t ∷ []) ≡ record { count = 1; was = t.needed ∪ t.barred; still = t.needed ∪ t.barred }
  unfolding left_of alive guards
  one_left e = rw e (ap (λ z. record { count = 1; was = z; still = z })
      (sets (t.needed ∷ t.barred ∷ []) [] (A ∪ₑ B ∪ₑ ∅ₑ ≐ A ∪ₑ B) tt))

  pub bytes-dead : dead fed t ≡ true → kept_bytes fed t ≡ []
  unfolding kept_bytes alive transitions_bytes
  bytes-dead e = rw e

  pub bytes_left : dead fed t ≡ false → kept_bytes fed t ≡ transition_bytes t
  unfolding kept_bytes alive transitions_bytes
  bytes_left e = rw e (append-nil (transition_bytes t))

  pub room_left : dead fed t ≡ false → length (kept_bytes fed t) ≡ 28
  room_left e = ap length (bytes_left e) ∙ length-transition t

-- ── a chart ──

-- h is the head of chart c, whose transitions begin at s
module _ (n : Shape) (b : List ℕ) (c s : ℕ) (h : Head) (eh : h ≡ head_at n b c) (es : s ≡ start_of n b c) where
  pub head-cleared : (l : Left) → l ≡ left_to h.feedback (transition_at n b) s h.transitions
      → head_with h l ≡ head_for (cleared_chart ((file_at n b).chart c))
  unfolding head_with left_of head_for cleared_chart lost file_at chart_of transitions_of
  head-cleared l e = ap (head_with h) e ∙ ap₂
      (λ (h : Head) (s : ℕ). head_with h (left_to h.feedback (transition_at n b) s h.transitions)) eh es

  pub list_cleared : (cleared_chart ((file_at n b).chart c)).transitions
      ≡ alive h.feedback (from (transition_at n b) s h.transitions)
  unfolding cleared_chart file_at chart_of transitions_of
  list_cleared = sym (ap₂ (λ (h : Head) (s : ℕ). alive h.feedback
      (from (transition_at n b) s h.transitions)) eh es)

  pub count-cleared : (l : Left) → l ≡ left_to h.feedback (transition_at n b) s h.transitions
      → l.count ≡ length (cleared_chart ((file_at n b).chart c)).transitions
  unfolding left_of
  count-cleared l e = ap (λ (l : Left). l.count) e ∙ sym (ap length list_cleared)

-- ── all charts ──

module _ (n : Shape) (b : List ℕ) where
  fewer : (k : ℕ) → tally k (λ c. length ((clear (file_at n b)).chart c).transitions) ≤ start_of n b k
  unfolding tally start_of cleared_chart file_at chart_of transitions_of
  fewer zero = omega arith
  fewer (suc k) =
      let a = fewer k in
      let g = alive_most (head_at n b k).feedback
      (from (transition_at n b) (start_of n b k) (head_at n b k).transitions) in
      let e = length_from (transition_at n b) (start_of n b k) (head_at n b k).transitions in
      omega arith

  -- the cleared file has no more transitions
  pub no_more : start_of n b n.charts ≡ n.transitions → transitions_in (clear (file_at n b)) ≤ n.transitions
  unfolding transitions_in file_at
  no_more e = let a = fewer n.charts in omega arith

  -- so its counts fit their bytes; m is its shape
  pub shape_small : (m : Shape) → m ≡ shape_in (clear (file_at n b)) → Sized n b → Summed n b → Small m
  unfolding shape_in file_at
  shape_small m em w q =
      let t : m.transitions ≡ transitions_in (clear (file_at n b)) = ap (λ (s : Shape). s.transitions) em in
      let c : m.charts ≡ n.charts = ap (λ (s : Shape). s.charts) em in
      let s : m.slaves ≡ n.slaves = ap (λ (s : Shape). s.slaves) em in
      let j : m.nodes ≡ n.nodes = ap (λ (s : Shape). s.nodes) em in
      let l = no_more q in
      let k = w.transitions in
      let c' = w.charts in
      let s' = w.slaves in
      let j' = w.nodes in
      (omega arith, omega arith, omega arith, omega arith)
