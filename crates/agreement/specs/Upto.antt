-- Lists made one after another (`upto`), where some of them are empty: what becomes of a chart's outcomes when its idle
-- transitions stand behind its own (`merge`).
use Rattle.std.specs.Prelude.{◌≡◌, Bool, ◌≢◌, List, [], ◌++◌}
use Rattle.std.proofs.Math.Path.{refl, ap}
use Rattle.std.proofs.Common.{sym, ◌∙◌, append-nil, add-suc, add-zero, arith}
use Rattle.std.proofs.Math.Bool.{true, false}
use Prim.Native.Nat.{ℕ, zero, suc, ◌+◌, ◌<◌}
use Rattle.meaning.specs.Meaning.{same, upto}
use Rattle.meaning.specs.Laws.Bools.{same→≡, same→≢}
use Rattle.meaning.proofs.Laws.Choices.{upto_cong, upto-first}

module _ {A : Type 0} where
  none_left : (m k : ℕ) (f : ℕ → List A) → ((q : ℕ) → q < k → f (suc (m + q)) ≡ []) → upto (m + k) f ≡ upto m f
  unfolding upto
  none_left m zero f h = ap (λ n. upto n f) (add-zero m)
  none_left m (suc k) f h = ap (λ n. upto n f) (add-suc m k)
      ∙ rw (none_left m k f (λ q l. h q (omega arith)), h k (omega arith)) (append-nil (upto m f))

  one_left : (m k s : ℕ) (f : ℕ → List A) → s < k → ((q : ℕ) → q < k → q ≢ s → f (suc (m + q)) ≡ [])
      → upto (m + k) f ≡ upto m f ++ f (suc (m + s))
  unfolding upto
  one_left m zero s f l h = absurd (omega arith)
  one_left m (suc k) s f l h =
      ap (λ n. upto n f) (add-suc m k) ∙ go (same s k) refl (λ l'. one_left m k s f l' (λ q p. h q (omega arith)))
    where
      go : (b : Bool) → same s k ≡ b → (s < k → upto (m + k) f ≡ upto m f ++ f (suc (m + s)))
          → upto (m + k) f ++ f (suc (m + k)) ≡ upto m f ++ f (suc (m + s))
      go true e rec = let p : s ≡ k = same→≡ s k e in
          rw (p, none_left m k f (λ q l. h q (omega arith) (λ e. omega arith)))
      go false e rec = let p : s ≢ k = same→≢ s k e in
          rw (rec (omega arith), h k (omega arith) (λ e. p (sym e))) (append-nil (upto m f ++ f (suc (m + s))))

  -- the first of f moves behind the others: no matter, if either it or they are empty
  pub merge : (m k s : ℕ) (f f' : ℕ → List A) → s < k → f' zero ≡ [] → ((j : ℕ) → j < m → f' (suc j) ≡ f (suc j))
      → f' (suc (m + s)) ≡ f zero
      → ((q : ℕ) → q < k → q ≢ s → f' (suc (m + q)) ≡ []) → (b : Bool) → (b ≡ true → f zero ≡ [])
      → (b ≡ false → (j : ℕ) → j < m → f (suc j) ≡ [])
      → upto (m + k) f' ≡ upto m f
  merge m k s f f' l z own idl off true ht hf = one_left m k s f' l off
      ∙ rw (idl, ht refl) (append-nil (upto m f')
      ∙ upto_cong m f' f (elim [ zero ↦ λ h. z ∙ sym (ht refl) | suc j ↦ λ h. own j (omega arith) ]))
  merge m k s f f' l z own idl off false ht hf = one_left m k s f' l off
      ∙ rw (
        idl,
        upto_cong m f' (λ v. []) (elim [ zero ↦ λ h. z | suc j ↦ λ h. own j (omega arith) ∙ hf refl j (omega arith) ]),
        upto-first m (λ v. []) (λ j h. refl),
        upto-first m f (hf refl),
      )
