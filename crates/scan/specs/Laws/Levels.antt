-- Laws of the levels around the end of the bytes: the first of them is what `look` finds (`look-first`); how they
-- change with one byte more (`levels-..`).
use Rattle.std.specs.Prelude.{◌≡◌, Bool, cond, ◌||◌, List, [], ◌∷◌, eqb, ltb, length, get_or}
use Rattle.std.proofs.Math.Path.{refl, sym, ap}
use Rattle.std.proofs.Common.{◌∙◌, arith, eqb-true}
use Rattle.std.proofs.Math.Bool.{true, false}
use Rattle.std.proofs.lemmas.Bool.{false≢true}
use Prim.Native.Nat.{ℕ, zero, suc, ◌+◌, ◌-◌, ◌*◌, ◌/◌, ◌<◌}
use Rattle.notation.specs.Grammar.{blank}
use Rattle.scan.specs.Look.{opener, closer, around, level, back_to, look, levels}
use Rattle.scan.specs.Levels.{below, second_of, on_first, fresh, slave_of}

true_false : {c : Bool} → c ≡ false → c ≡ true → ⊥
true_false e f = false≢true (sym e ∙ f)

-- ── the first level ──

pub look-first : (v : List ℕ) (n s : ℕ) (q : Bool) → look v n s q ≡ get_or (levels v n s q) 0 0
unfolding look levels back_to
look-first [] n s q = refl
look-first (b ∷ v) n s q = go (closer b) (opener b) (eqb b 124) (blank b) n (λ n s q. look-first v n s q)
  where
    go : (x y z u : Bool) (n : ℕ) → ((n s : ℕ) (q : Bool) → look v n s q ≡ get_or (levels v n s q) 0 0)
        → cond x (look v (suc n) s false)
        (cond y (level n (around b s q) (λ m. look v m s false))
        (cond z (level n (look v n 1 false) (λ m. look v n s false)) (cond u (look v n s q) (look v n s (eqb b 113)))))
        ≡ get_or (cond x (levels v (suc n) s false)
        (cond y (level n (around b s q ∷ levels v 0 0 false) (λ m. levels v m s false))
        (cond z (level n (levels v n 1 false) (λ m. levels v n s false))
        (cond u (levels v n s q) (levels v n s (eqb b 113)))))) 0 0
    go true y z u n ih = ih (suc n) s false
    go false true z u zero ih = refl
    go false true z u (suc n) ih = ih n s false
    go false false true u zero ih = ih zero 1 false
    go false false true u (suc n) ih = ih (suc n) s false
    go false false false true n ih = ih n s q
    go false false false false n ih = ih n s (eqb b 113)

pub levels_some : (v : List ℕ) (n s : ℕ) (q : Bool) → 0 < length (levels v n s q)
unfolding levels back_to
levels_some [] n s q = omega arith
levels_some (b ∷ v) n s q = go (closer b) (opener b) (eqb b 124) (blank b) n (λ n s q. levels_some v n s q)
  where
    go : (x y z u : Bool) (n : ℕ) → ((n s : ℕ) (q : Bool) → 0 < length (levels v n s q))
        → 0 < length (cond x (levels v (suc n) s false)
        (cond y (level n (around b s q ∷ levels v 0 0 false) (λ m. levels v m s false))
        (cond z (level n (levels v n 1 false) (λ m. levels v n s false))
        (cond u (levels v n s q) (levels v n s (eqb b 113))))))
    go true y z u n ih = ih (suc n) s false
    go false true z u zero ih = omega arith
    go false true z u (suc n) ih = ih n s false
    go false false true u zero ih = ih zero 1 false
    go false false true u (suc n) ih = ih (suc n) s false
    go false false false true n ih = ih n s q
    go false false false false n ih = ih n s (eqb b 113)

-- ── a bracket is closed: the other levels stay ──

pub below_none : (l : List ℕ) → 0 < length l → below 0 l ≡ l
unfolding below
below_none [] h = absurd (omega arith)
below_none (a ∷ l) h = refl

pub below-below : (n : ℕ) (l : List ℕ) → below n (below 1 l) ≡ below (suc n) l
unfolding below
below-below zero [] = refl
below-below (suc n) [] = refl
below-below zero (a ∷ []) = refl
below-below (suc n) (a ∷ []) = refl
below-below zero (a ∷ b ∷ l) = refl
below-below (suc n) (a ∷ b ∷ l) = refl

pub below_one : (n : ℕ) (l : List ℕ) → below 1 (below n l) ≡ below (suc n) l
unfolding below
below_one zero [] = refl
below_one (suc n) [] = refl
below_one zero (a ∷ l) = refl
below_one (suc n) (a ∷ l) = below_one n l

pub below_at : (l : List ℕ) (j : ℕ) → get_or (below 1 l) j 0 ≡ get_or l (suc j) 0
unfolding below
below_at [] zero = refl
below_at [] (suc j) = refl
below_at (a ∷ []) zero = refl
below_at (a ∷ []) (suc j) = refl
below_at (a ∷ b ∷ l) j = refl

pub below-head : (n : ℕ) (l : List ℕ) → get_or (below n l) 0 0 ≡ get_or l n 0
unfolding below
below-head zero [] = refl
below-head (suc n) [] = refl
below-head zero (a ∷ l) = refl
below-head (suc n) (a ∷ l) = below-head n l

pub below_some : (n : ℕ) (l : List ℕ) → 0 < length (below n l)
unfolding below
below_some zero [] = omega arith
below_some (suc n) [] = omega arith
below_some zero (a ∷ l) = omega arith
below_some (suc n) (a ∷ l) = below_some n l

pub below-first : (g : ℕ → ℕ) (n : ℕ) (l : List ℕ) → below (suc n) l ≡ below (suc n) (on_first g l)
unfolding below on_first
below-first g n [] = refl
below-first g n (a ∷ l) = refl

shuts : (v : List ℕ) (n s : ℕ) (q p : Bool) → levels v (suc n) 0 p ≡ below 1 (levels v n s q)
unfolding levels back_to
shuts [] n s q p = unfold below in refl
shuts (b ∷ v) n s q p = go (closer b) (opener b) (eqb b 124) (blank b) n (λ n s q p. shuts v n s q p)
  where
    go : (x y z u : Bool) (n : ℕ) → ((n s : ℕ) (q p : Bool) → levels v (suc n) 0 p ≡ below 1 (levels v n s q))
        → cond x (levels v (suc (suc n)) 0 false)
        (cond y (levels v n 0 false) (cond z (levels v (suc n) 0 false)
        (cond u (levels v (suc n) 0 p) (levels v (suc n) 0 (eqb b 113)))))
        ≡ below 1 (cond x (levels v (suc n) s false)
        (cond y (level n (around b s q ∷ levels v 0 0 false) (λ m. levels v m s false))
        (cond z (level n (levels v n 1 false) (λ m. levels v n s false))
        (cond u (levels v n s q) (levels v n s (eqb b 113))))))
    go true y z u n ih = ih (suc n) s false false
    go false true z u zero ih = unfold below in sym (below_none (levels v 0 0 false) (levels_some v 0 0 false))
    go false true z u (suc n) ih = ih n s false false
    go false false true u zero ih = ih zero 1 false false
    go false false true u (suc n) ih = ih (suc n) s false false
    go false false false true n ih = ih n s q p
    go false false false false n ih = ih n s (eqb b 113) (eqb b 113)

pub levels-closer : (b : ℕ) (v : List ℕ) → closer b ≡ true → levels (b ∷ v) 0 0 false ≡ below 1 (levels v 0 0 false)
unfolding levels back_to
levels-closer b v h = rw h (shuts v 0 0 false false)

-- ── a bracket is opened: one level more ──

-- the kinds of bytes do not overlap
pub opener-closer : (b : ℕ) → opener b ≡ true → closer b ≡ false
unfolding opener
opener-closer b h = go (eqb b 40) refl (eqb b 91) refl (eqb b 123) refl h
  where
    go : (x : Bool) → eqb b 40 ≡ x → (y : Bool) → eqb b 91 ≡ y → (z : Bool) → eqb b 123 ≡ z → (x || (y || z)) ≡ true
        → closer b ≡ false
    go true e y f z g h = ap closer (eqb-true b 40 e) ∙ (unfold closer in refl)
    go false e true f z g h = ap closer (eqb-true b 91 f) ∙ (unfold closer in refl)
    go false e false f true g h = ap closer (eqb-true b 123 g) ∙ (unfold closer in refl)
    go false e false f false g h = absurd (false≢true h)

pub levels-opener : (b : ℕ) (v : List ℕ) → closer b ≡ false → opener b ≡ true
    → levels (b ∷ v) 0 0 false ≡ around b 0 false ∷ levels v 0 0 false
unfolding levels back_to
levels-opener b v h k = rw (h, k)

-- ── a bar: what follows is a second part ──

second_twice : (l : List ℕ) → on_first second_of (on_first second_of l) ≡ on_first second_of l
unfolding on_first second_of
second_twice [] = refl
second_twice (a ∷ l) = ap (◌∷ l) (let z : (a / 2 * 2 + 1) / 2 * 2 + 1 ≡ a / 2 * 2 + 1 = omega arith in z)

around-second : (b : ℕ) (q : Bool) → around b 1 q ≡ second_of (around b 0 q)
unfolding around second_of
around-second b q = go (eqb b 91) q
  where
    go : (x y : Bool) → cond x (4 + 1) (cond y (2 + 1) (6 + 1)) ≡ cond x (4 + 0) (cond y (2 + 0) (6 + 0)) / 2 * 2 + 1
    go true y = refl
    go false true = refl
    go false false = refl

pub second : (v : List ℕ) (n : ℕ) (q : Bool) → levels v n 1 q ≡ on_first second_of (levels v n 0 q)
unfolding levels back_to
second [] n q = unfold on_first second_of in refl
second (b ∷ v) n q = go (closer b) (opener b) (eqb b 124) (blank b) n (λ n q. second v n q)
  where
    go : (x y z u : Bool) (n : ℕ) → ((n : ℕ) (q : Bool) → levels v n 1 q ≡ on_first second_of (levels v n 0 q))
        → cond x (levels v (suc n) 1 false)
        (cond y (level n (around b 1 q ∷ levels v 0 0 false) (λ m. levels v m 1 false))
        (cond z (level n (levels v n 1 false) (λ m. levels v n 1 false))
        (cond u (levels v n 1 q) (levels v n 1 (eqb b 113)))))
        ≡ on_first second_of (cond x (levels v (suc n) 0 false)
        (cond y (level n (around b 0 q ∷ levels v 0 0 false) (λ m. levels v m 0 false))
        (cond z (level n (levels v n 1 false) (λ m. levels v n 0 false))
        (cond u (levels v n 0 q) (levels v n 0 (eqb b 113))))))
    go true y z u n ih = ih (suc n) false
    go false true z u zero ih = unfold on_first in ap (◌∷ levels v 0 0 false) (around-second b q)
    go false true z u (suc n) ih = ih n false
    go false false true u zero ih =
        ih zero false ∙ sym (ap (on_first second_of) (ih zero false) ∙ second_twice (levels v zero 0 false))
    go false false true u (suc n) ih = ih (suc n) false
    go false false false true n ih = ih n q
    go false false false false n ih = ih n (eqb b 113)

pub levels_bar : (b : ℕ) (v : List ℕ) → closer b ≡ false → opener b ≡ false → eqb b 124 ≡ true
    → levels (b ∷ v) 0 0 false ≡ on_first second_of (levels v 0 0 false)
unfolding levels back_to
levels_bar b v h k e = rw (h, k, e) (second v 0 false)

-- ── a state's name right behind an open bracket: the level is a slave's pair ──

around-slave : (b : ℕ) → around b 0 true ≡ slave_of (around b 0 false)
unfolding around slave_of
around-slave b = go (eqb b 91)
  where
    go : (x : Bool)
        → cond x (4 + 0) (2 + 0)
        ≡ cond (ltb (cond x (4 + 0) (6 + 0)) 6) (cond x (4 + 0) (6 + 0)) (cond x (4 + 0) (6 + 0) - 4)
    go true = refl
    go false = refl

-- a blank is no bracket and no bar
blank-other : (b : ℕ) → blank b ≡ true → (closer b ≡ false) × ((opener b ≡ false) × (eqb b 124 ≡ false))
unfolding blank
blank-other b h = go (eqb b 32) refl (eqb b 10) refl (eqb b 13) refl h
  where
    at : (c : ℕ) → b ≡ c → (closer c ≡ false) × ((opener c ≡ false) × (eqb c 124 ≡ false))
        → (closer b ≡ false) × ((opener b ≡ false) × (eqb b 124 ≡ false))
    at c e p = rw e p

    go : (x : Bool) → eqb b 32 ≡ x → (y : Bool) → eqb b 10 ≡ y → (z : Bool) → eqb b 13 ≡ z → (x || (y || z)) ≡ true
        → (closer b ≡ false) × ((opener b ≡ false) × (eqb b 124 ≡ false))
    go true e y f z g h = at 32 (eqb-true b 32 e) (unfold closer opener in (refl, (refl, refl)))
    go false e true f z g h = at 10 (eqb-true b 10 f) (unfold closer opener in (refl, (refl, refl)))
    go false e false f true g h = at 13 (eqb-true b 13 g) (unfold closer opener in (refl, (refl, refl)))
    go false e false f false g h = absurd (false≢true h)

behind : (v : List ℕ) → levels v 0 0 true ≡ cond (fresh v) (on_first slave_of (levels v 0 0 false)) (levels v 0 0 false)
unfolding levels back_to fresh
behind [] = refl
behind (b ∷ v) = go (blank b) refl (closer b) refl (opener b) refl (eqb b 124) refl (behind v)
  where
    go : (u : Bool) → blank b ≡ u → (x : Bool) → closer b ≡ x → (y : Bool) → opener b ≡ y → (z : Bool) → eqb b 124 ≡ z
        → levels v 0 0 true ≡ cond (fresh v) (on_first slave_of (levels v 0 0 false)) (levels v 0 0 false)
        → cond x (levels v 1 0 false)
        (cond y (around b 0 true ∷ levels v 0 0 false)
        (cond z (levels v 0 1 false) (cond u (levels v 0 0 true) (levels v 0 0 (eqb b 113)))))
        ≡ cond (cond u (fresh v) y)
        (on_first slave_of (cond x (levels v 1 0 false)
        (cond y (around b 0 false ∷ levels v 0 0 false)
        (cond z (levels v 0 1 false) (cond u (levels v 0 0 false) (levels v 0 0 (eqb b 113)))))))
        (cond x (levels v 1 0 false)
        (cond y (around b 0 false ∷ levels v 0 0 false)
        (cond z (levels v 0 1 false) (cond u (levels v 0 0 false) (levels v 0 0 (eqb b 113))))))
    go true e true f y g z d ih = absurd (true_false (blank-other b e).0 f)
    go true e false f true g z d ih = absurd (true_false (blank-other b e).1.0 g)
    go true e false f false g true d ih = absurd (true_false (blank-other b e).1.1 d)
    go true e false f false g false d ih = ih
    go false e true f true g z d ih = absurd (true_false (opener-closer b g) f)
    go false e true f false g z d ih = refl
    go false e false f true g z d ih = unfold on_first in ap (◌∷ levels v 0 0 false) (around-slave b)
    go false e false f false g true d ih = refl
    go false e false f false g false d ih = refl

pub levels-q : (v : List ℕ)
    → levels (113 ∷ v) 0 0 false ≡ cond (fresh v) (on_first slave_of (levels v 0 0 false)) (levels v 0 0 false)
unfolding levels back_to closer opener blank
levels-q v = behind v

-- ── any other byte ──

pub levels-blank : (b : ℕ) (v : List ℕ) → blank b ≡ true → levels (b ∷ v) 0 0 false ≡ levels v 0 0 false
unfolding levels back_to
levels-blank b v h = let p = blank-other b h in rw (p.0, p.1.0, p.1.1, h)

pub levels_else : (b : ℕ) (v : List ℕ) → closer b ≡ false → opener b ≡ false → eqb b 124 ≡ false → blank b ≡ false
    → eqb b 113 ≡ false → levels (b ∷ v) 0 0 false ≡ levels v 0 0 false
unfolding levels back_to
levels_else b v h k e u q = rw (h, k, e, u, q)

-- what the last byte that is no blank is
pub fresh-blank : (b : ℕ) (v : List ℕ) → blank b ≡ true → fresh (b ∷ v) ≡ fresh v
unfolding fresh
fresh-blank b v h = rw h

pub fresh-opener : (b : ℕ) (v : List ℕ) → opener b ≡ true → fresh (b ∷ v) ≡ true
unfolding fresh
fresh-opener b v h = go (blank b) refl
  where
    go : (u : Bool) → blank b ≡ u → cond u (fresh v) (opener b) ≡ true
    go true e = absurd (true_false (blank-other b e).1.0 h)
    go false e = h

pub fresh-other : (b : ℕ) (v : List ℕ) → blank b ≡ false → opener b ≡ false → fresh (b ∷ v) ≡ false
unfolding fresh
fresh-other b v h k = rw h k
