-- Laws of what is read. In order: what transitions ask, one after the other (asks_none to asks-done), what charts do
-- (asks-next), and what of a chart's action is read (read_next).
use Rattle.std.specs.Prelude.{◌≡◌, cond, List, [], ◌∷◌, ℕ, suc, ◌+◌, ◌-◌, ◌≤◌, ◌<◌, length, get_or, set}
use Rattle.std.proofs.Common.{sym, ◌∙◌}
use Rattle.std.proofs.Math.Path.{ap, ap₂}
use native.Mathlib.Omega.{arith}
use Rattle.signals.specs.Mask.{◌∪◌, ◌∩◌}
use Rattle.signals.specs.Decide.{sets, A, B, C, D, E as Eₑ, ∅ₑ, ◌∪ₑ◌, ◌≐◌}
use Rattle.layout.specs.Body.{head_at, transition_at, start_of, transitions_of}
use Rattle.layout.specs.Body.{from as fromOn}
use Rattle.layout.specs.declared.body.Shape.{Shape}
use Rattle.layout.specs.declared.record.Transition.{Transition}
use Rattle.layout.specs.declared.record.Head.{Head}
use Rattle.meaning.specs.Meaning.{Set, same}
use Rattle.wiring.specs.Dropped.{join_cong}
use Rattle.cells.specs.Table.{back_at, up_at}
use Rattle.tables.specs.Narrowing.{asked, read_at}
use Rattle.layout.specs.Row.Laws.{fill_more}
use Rattle.relevance.specs.Relevance.{asked_by, Asks, ReadRow}

-- ── what transitions ask ──

module _ (f : ℕ → Transition) (start count q : ℕ) where
  -- u is what the first p ask
  abbrev pub AsksLeft : ℕ → Set → Type 0
  AsksLeft p u = u ∪ asked (fromOn f (start + p) (count - p)) q ≡ asked (fromOn f start count) q

  pub asks_none : AsksLeft 0 0
  asks_none =
      let s : start + 0 ≡ start = omega arith in
      let k : count - 0 ≡ count = omega arith in
      sets (asked (fromOn f (start + 0) (count - 0)) q ∷ asked (fromOn f start count) q ∷ []) (A ≐ B ∷ [])
      (∅ₑ ∪ₑ A ≐ B) tt
      (ap₂ (λ x y. asked (fromOn f x y) q) s k)

  pub asks_more : (p : ℕ) (u v : Set) → AsksLeft p u → p < count
      → v ≡ u ∪ asked_by q (f (start + p)) → AsksLeft (p + 1) v
  unfolding asked fromOn
  asks_more p u v h l e =
      sets (u ∷ v ∷ mine ∷ asked rest q ∷ asked (fromOn f start count) q ∷ []) (B ≐ A ∪ₑ C ∷ A ∪ₑ (D ∪ₑ C) ≐ Eₑ ∷ [])
      (B ∪ₑ D ≐ Eₑ) tt e (ap (λ ts. u ∪ asked ts q) (sym one_more) ∙ h)
    where
      mine : Set
      mine = asked_by q (f (start + p))

      rest : List Transition
      rest = fromOn f (start + (p + 1)) (count - (p + 1))

      one_more : fromOn f (start + p) (count - p) ≡ f (start + p) ∷ rest
      one_more = ap (fromOn f (start + p)) (let x : count - p ≡ suc (count - (p + 1)) = omega arith in x)
          ∙ ap (λ k. f (start + p) ∷ fromOn f k (count - (p + 1)))
          (let x : suc (start + p) ≡ start + (p + 1) = omega arith in x)

  pub asks_done : (p : ℕ) (u : Set) → AsksLeft p u → count ≤ p → u ≡ asked (fromOn f start count) q
  unfolding asked fromOn
  asks_done p u h l = sets (u ∷ asked (fromOn f start count) q ∷ []) (A ∪ₑ ∅ₑ ≐ B ∷ []) (A ≐ B) tt
      (ap (λ k. u ∪ asked (fromOn f (start + p) k) q) (let z : 0 ≡ count - p = omega arith in z) ∙ h)

-- ── charts ──

module _ (n : Shape) (b config : List ℕ) where
  -- what chart c asks
  pub asks_next : (c : ℕ) (asks : List ℕ) (v start : ℕ) (head : Head) → Asks n b config c asks → c < length asks
      → start ≡ start_of n b c → head ≡ head_at n b c
      → v ≡ asked (fromOn (transition_at n b) start head.transitions) (get_or config c 0)
      → Asks n b config (c + 1) (set asks c v)
  unfolding transitions_of
  asks_next c asks v start head h l es eh ev =
      fill_more (λ d. asked (transitions_of n b d) (get_or config d 0)) asks c v h
      (ev ∙ ap₂ (λ x y. asked (fromOn (transition_at n b) x y.transitions) (get_or config c 0)) es eh) l

  -- what of chart k's action is read
  pub read_next : (m asks : List ℕ) → Asks n b config n.charts asks → (k : ℕ) (reads : List ℕ) (v : ℕ)
      → ReadRow n b config m k reads → k < length reads → v ≡ read_at m n.charts (λ c. get_or asks c 0) k
      → ReadRow n b config m (k + 1) (set reads k v)
  unfolding read_at
  read_next m asks h k reads v w l e =
      fill_more (read_at m n.charts (λ d. asked (transitions_of n b d) (get_or config d 0))) reads k v w
      (e ∙ ap (λ z. up_at m k ∪ z) (join_cong n.charts _ _ (λ c q. ap (λ z. back_at m c k ∩ z) (h c q)))) l
