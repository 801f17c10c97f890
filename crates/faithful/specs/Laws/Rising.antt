-- In a file to which 8 does not apply, the slaves of one chart come by rising state: `slaves_rise`.
use Rattle.std.specs.Prelude.{◌≡◌, Bool, true, false, ◌&&◌, not, cond, ◌⊎◌, ℕ, suc, ◌<◌, eqb}
use Rattle.std.proofs.Math.Path.{refl, sym, ap, subst}
use Rattle.std.proofs.Common.{◌∙◌, arith}
use mathlib.Core.List.{List, [], ◌∷◌, ◌++◌, append_assoc}
use Rattle.std.proofs.Math.Logic.{inl, inr}
use borrow.Author.Tests.{ltb-true, eqb-true, not-false}
use Rattle.std.proofs.Math.Dec.{ltb}
use Rattle.std.proofs.Math.ListN.{length, length-append}
use Rattle.layout.specs.declared.record.Slave.{Slave}
use Rattle.meaning.specs.Each.Laws.{each_of, each_both}
use Rattle.meaning.specs.Sums.Laws.{or_four, any-never}
use Rattle.meaning.specs.Meaning.{same}
use Rattle.meaning.specs.Laws.Bools.{and_l, and_r, or_elim, same→≡}
use Rattle.meaning.specs.File.{File}
use Rattle.meaning.specs.Check.{not_below, rising, in_order_at, slave?, slaves?}
use Rattle.agreement.specs.Encoded.{slave_in}
use Rattle.reading.specs.Meant.{with_key}
use Rattle.lists.specs.Laws.States.{length_snoc}
use Rattle.outline.specs.Laws.Sorted.{Each, none, more, each_with}
use Rattle.faithful.specs.Faithful.{Rising}
use Rattle.faithful.specs.Laws.Back.{At}
use Rattle.faithful.specs.Laws.Order.{keys_with}
use Rattle.faithful.specs.Laws.Parts.{chart_of, state_of}

-- ── records, one after another ──

-- s has a higher chart than r, or the same and a higher state
abbrev Above : Slave → Slave → Type 0
Above r s = (r.chart < s.chart) ⊎ ((r.chart ≡ s.chart) × (r.state < s.state))

above_trans : (r s u : Slave) → Above r s → Above s u → Above r u
above_trans r s u (inl a) (inl b) = inl (omega arith)
above_trans r s u (inl a) (inr b) = inl (let e = b.0 in omega arith)
above_trans r s u (inr a) (inl b) = inl (let e = a.0 in omega arith)
above_trans r s u (inr a) (inr b) = inr (a.0 ∙ b.0, (let e = a.1 in let f = b.1 in omega arith))

above_state : (r s : Slave) → r.chart ≡ s.chart → Above r s → r.state < s.state
above_state r s e (inl a) = absurd (omega arith)
above_state r s e (inr a) = a.1

-- each is above the one before it
unfoldable Steps : List Slave → Type 0
Steps [] = Unit {0}
Steps (r ∷ []) = Unit {0}
Steps (r ∷ (s ∷ l)) = Above r s × Steps (s ∷ l)

steps_all : (r : Slave) (l : List Slave) → Steps (r ∷ l) → Each (Above r) l
unfolding Steps
steps_all r [] h = none
steps_all r (s ∷ l) h = more h.0 (each_of (λ u a. above_trans r s u h.0 a) (steps_all s l h.1))

steps-rest : (r : Slave) (l : List Slave) → Steps (r ∷ l) → Steps l
unfolding Steps
steps-rest r [] h = tt
steps-rest r (s ∷ l) h = h.1

steps_rise : (c : ℕ) (l : List Slave) → Steps l → Rising state_of (with_key chart_of c l)
unfolding with_key Rising
steps_rise c [] h = tt
steps_rise c (r ∷ l) h = go (eqb r.chart c) refl (steps_rise c l (steps-rest r l h))
  where
    above : Each (λ s. Above r s × (s.chart ≡ c)) (with_key chart_of c l)
    above =
        each_both (with_key chart_of c l) (each_with chart_of c l (steps_all r l h)) (keys_with chart_of c l)

    go : (b : Bool) → eqb r.chart c ≡ b → Rising state_of (with_key chart_of c l)
        → Rising state_of (cond b (r ∷ with_key chart_of c l) (with_key chart_of c l))
    go true e i =
        let z = eqb-true r.chart c e in
        (each_of (λ s a. above_state r s (z ∙ sym a.1) a.0) above, i)
    go false e i = i

-- ── those of a file ──

module _ (F : File) (l : List Slave) (slaves : F.slaves ≡ length l)
    (slave : (i : ℕ) (r : Slave) → At l i r → slave_in F i ≡ r) (h : slaves? F ≡ false) where
  in_order : (i : ℕ) → suc i < F.slaves → rising F i (suc i) ≡ true
  unfolding slaves? slave?
  in_order i b =
      let q = or_four (not_below (F.master (suc i)) F.charts)
      (not_below (F.state (suc i)) (F.chart (F.master (suc i))).states) (not_below (F.node (suc i)) F.nodes)
      (not (in_order_at F (suc i))) (any-never F.slaves (slave? F) h (suc i) b) in
      not-false (rising F i (suc i)) q.3

  next_above : (i : ℕ) (r s : Slave) → suc i < F.slaves → slave_in F i ≡ r → slave_in F (suc i) ≡ s → Above r s
  unfolding rising
  next_above i r s b e f =
      subst (λ x. Above x s) e (subst (Above (slave_in F i)) f
      (or_elim (ltb (F.master i) (F.master (suc i)))
      (same (F.master i) (F.master (suc i)) && ltb (F.state i) (F.state (suc i)))
      (Above (slave_in F i) (slave_in F (suc i)))
      (λ u. inl (ltb-true (F.master i) (F.master (suc i)) u))
      (λ u. inr (
        same→≡ (F.master i) (F.master (suc i)) (and_l _ _ u),
        ltb-true (F.state i) (F.state (suc i)) (and_r (same (F.master i) (F.master (suc i))) _ u),
      ))
      (in_order i b)))

  steps : (done rest : List Slave) → l ≡ done ++ rest → Steps rest
  unfolding Steps
  steps done [] e = tt
  steps done (r ∷ []) e = tt
  steps done (r ∷ (s ∷ rest)) e = (
    next_above (length done) r s
        (omega (arith, slaves, ap length e, length-append done (r ∷ (s ∷ rest))))
        (slave (length done) r (record { before = done; after = s ∷ rest; is = e; counted = refl }))
        (slave (suc (length done)) s
        (record { before = done ++ (r ∷ []); after = rest; is = split; counted = length_snoc done r })),
    steps (done ++ (r ∷ [])) (s ∷ rest) split,
  )
    where
      split : l ≡ (done ++ (r ∷ [])) ++ (s ∷ rest)
      split = e ∙ sym (append_assoc done (r ∷ []) (s ∷ rest))

  pub slaves_rise : (c : ℕ) → Rising state_of (with_key chart_of c l)
  slaves_rise c = steps_rise c l (steps [] l refl)
