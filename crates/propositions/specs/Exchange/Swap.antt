-- Laws of two neighbouring bytes exchanged. In this order: which byte is where; parts of the bytes; that numbers and
-- records whose own bytes are the same are the same.
use Rattle.std.specs.Prelude.{◌≡◌, refl, List, [], ◌∷◌, length, get_or, take}
use Rattle.std.proofs.Common.{sym, ◌∙◌, add-suc, zero-mul, arith, get_or-drop, get_or-take}
use Rattle.std.proofs.Math.Path.{ap, ap₂}
use Prim.Native.Nat.{ℕ, zero, suc, ◌+◌, ◌*◌, ◌<◌}
use Rattle.std.proofs.Math.ListN.{drop, set, length-set}
use Rattle.std.proofs.Math.Seq.{get_or-set_same, get_or-set_other, drop-set-lt, drop-set-add, take-set-lt}
use Rattle.layout.specs.Le.{le}
use Rattle.layout.specs.Le.Laws.{le_nil}
use Rattle.layout.specs.Record.{head_of, transition_of, slave_of, node_of}
use Rattle.propositions.specs.Exchange.{swap_at}

-- ── which byte is where ──

module _ (p : ℕ) (b : List ℕ) where
  pub length_swap : length (swap_at p b) ≡ length b
  unfolding swap_at
  length_swap = length-set (set b p (get_or b (suc p) 0)) (suc p) (get_or b p 0) ∙ length-set b p (get_or b (suc p) 0)

  pub swap_other : (i : ℕ) → (i ≡ p → ⊥) → (i ≡ suc p → ⊥) → get_or (swap_at p b) i 0 ≡ get_or b i 0
  unfolding swap_at
  swap_other i g h = get_or-set_other (set b p (get_or b (suc p) 0)) (suc p) i (get_or b p 0) 0 h
      ∙ get_or-set_other b p i (get_or b (suc p) 0) 0 g

  pub swap_first : suc p < length b → get_or (swap_at p b) p 0 ≡ get_or b (suc p) 0
  unfolding swap_at
  swap_first l = get_or-set_other (set b p (get_or b (suc p) 0)) (suc p) p (get_or b p 0) 0 (λ e. omega arith)
      ∙ get_or-set_same b p (get_or b (suc p) 0) 0 (omega arith)

  pub swap_second : suc p < length b → get_or (swap_at p b) (suc p) 0 ≡ get_or b p 0
  unfolding swap_at
  swap_second l = get_or-set_same (set b p (get_or b (suc p) 0)) (suc p) (get_or b p 0) 0
      (let e = length-set b p (get_or b (suc p) 0) in omega arith)

  -- ── parts ──

  pub drop-behind : (n : ℕ) → suc p < n → drop n (swap_at p b) ≡ drop n b
  unfolding swap_at
  drop-behind n l = drop-set-lt n (set b p (get_or b (suc p) 0)) (suc p) (get_or b p 0) l
      ∙ drop-set-lt n b p (get_or b (suc p) 0) (omega arith)

  pub take_swap : (n : ℕ) → suc p < n → take n (swap_at p b) ≡ swap_at p (take n b)
  unfolding swap_at
  take_swap n l = take-set-lt n (set b p (get_or b (suc p) 0)) (suc p) (get_or b p 0) l
      ∙ ap (λ z. set z (suc p) (get_or b p 0)) (take-set-lt n b p (get_or b (suc p) 0) (omega arith))
      ∙ ap₂ (λ u v. set (set (take n b) p u) (suc p) v) (sym (get_or-take n b (suc p) 0 l))
      (sym (get_or-take n b p 0 (omega arith)))

  pub drop_swap : (n : ℕ) → drop n (swap_at (n + p) b) ≡ swap_at p (drop n b)
  unfolding swap_at
  drop_swap n =
      ap (λ k. drop n (set (set b (n + p) (get_or b k 0)) k (get_or b (n + p) 0))) (sym (add-suc n p))
      ∙ drop-set-add n (set b (n + p) (get_or b (n + suc p) 0)) (suc p) (get_or b (n + p) 0)
      ∙ ap (λ z. set z (suc p) (get_or b (n + p) 0)) (drop-set-add n b p (get_or b (n + suc p) 0))
      ∙ ap₂ (λ u v. set (set (drop n b) p u) (suc p) v) (sym (get_or-drop n b (suc p) 0)) (sym (get_or-drop n b p 0))

-- ── numbers and records whose own bytes are the same ──

-- s and t have the same first w bytes
abbrev pub Agrees : ℕ → List ℕ → List ℕ → Type 0
Agrees w s t = (i : ℕ) → i < w → get_or s i 0 ≡ get_or t i 0

le_cons : (n : ℕ) (s : List ℕ) → le (suc n) s ≡ get_or s 0 0 + le n (drop 1 s) * 256
unfolding le
le_cons n [] = rw (le_nil n) (sym (zero-mul 256))
le_cons n (b ∷ s) = refl

pub le-agrees : (n : ℕ) (s t : List ℕ) → Agrees n s t → le n s ≡ le n t
unfolding le
le-agrees zero s t h = refl
le-agrees (suc n) s t h = le_cons n s
    ∙ ap₂ (λ x y. x + y * 256) (h 0 (omega arith))
    (le-agrees n (drop 1 s) (drop 1 t) (λ i l. get_or-drop 1 s i 0 ∙ h (1 + i) (omega arith)
    ∙ sym (get_or-drop 1 t i 0)))
    ∙ sym (le_cons n t)

module _ (s t : List ℕ) where
  later : (w k n : ℕ) → k + n < suc w → Agrees w s t → le n (drop k s) ≡ le n (drop k t)
  later w k n l h = le-agrees n (drop k s) (drop k t)
      (λ i m. get_or-drop k s i 0 ∙ h (k + i) (omega arith) ∙ sym (get_or-drop k t i 0))

  pub head-agrees : Agrees 24 s t → head_of s ≡ head_of t
  unfolding head_of
  head-agrees h = λ i. record {
    states = h 0 (omega arith) i;
    initial = h 1 (omega arith) i;
    transitions = h 2 (omega arith) i;
    feedback = later 24 8 8 (omega arith) h i;
    extra = later 24 16 8 (omega arith) h i;
  }

  pub transition-agrees : Agrees 28 s t → transition_of s ≡ transition_of t
  unfolding transition_of
  transition-agrees h = λ i. record {
    from = h 0 (omega arith) i;
    to = h 1 (omega arith) i;
    needed = later 28 4 8 (omega arith) h i;
    barred = later 28 12 8 (omega arith) h i;
    action = later 28 20 8 (omega arith) h i;
  }

  pub slave-agrees : Agrees 4 s t → slave_of s ≡ slave_of t
  unfolding slave_of
  slave-agrees h = λ i. record { chart = h 0 (omega arith) i; state = h 1 (omega arith) i; node = h 2 (omega arith) i }

  pub node_agrees : Agrees 20 s t → node_of s ≡ node_of t
  unfolding node_of
  node_agrees h = λ i. record {
    kind = h 0 (omega arith) i;
    a = h 1 (omega arith) i;
    b = h 2 (omega arith) i;
    x = later 20 4 8 (omega arith) h i;
    y = later 20 12 8 (omega arith) h i;
  }
