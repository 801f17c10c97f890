-- Test 10 (RULES 3.2): each node has one name, except the last, which has none. So each node has one place in the
-- whole.
use Rattle.std.proofs.Math.Path.{◌≡◌, refl, ap, ap₂}
use Rattle.std.proofs.Common.{sym, ◌∙◌, true≢false}
use Rattle.std.specs.Prelude.{Bool, ◌&&◌, cond, ◌≢◌}
use Rattle.std.proofs.Math.Bool.{true, false, not, false≢true}
use Rattle.std.proofs.Math.Option.{Option, none, some}
use Prim.Native.Nat.{ℕ, zero, suc, ◌+◌, ◌≤◌, ◌<◌}
use native.Mathlib.Omega.{arith}
use Rattle.meaning.specs.Sums.{tally, one}
use Rattle.meaning.specs.Sums.Laws.{tally_ge, tally-two, tally-find}
use Rattle.meaning.specs.Check.{names, named, held}
use Rattle.meaning.specs.Meaning.{same}
use Rattle.meaning.specs.Laws.Bools.{same_refl, same→≡, same_≢, same→≢, and_l, and_r, and_i}
use Rattle.meaning.specs.File.{File}
use Rattle.meaning.specs.Laws.Trees.{Ordered, Placed, Joined, Namer, left, right, inside, slave}

-- a slave, if there is one; else what r says of a node, if there is one
abbrev pub up : Option ℕ → Option ℕ → (ℕ → Option ℕ) → Option ℕ
up (some i) b r = some i
up none (some k) r = r k
up none none r = none

-- the last number below n that p holds of
unfoldable pub find : ℕ → (ℕ → Bool) → Option ℕ
find zero p = none
find (suc n) p = cond (p n) (some n) (find n p)

pub find_none : (n : ℕ) (p : ℕ → Bool) → ((i : ℕ) → i < n → p i ≡ false) → find n p ≡ none
unfolding find
find_none zero p h = refl
find_none (suc n) p h = rw (h n (omega arith)) (find_none n p (λ i l. h i (omega arith)))

pub find-one : (n : ℕ) (p : ℕ → Bool) (i : ℕ) → i < n → p i ≡ true → ((k : ℕ) → k < n → p k ≡ true → k ≡ i)
    → find n p ≡ some i
unfolding find
find-one zero p i l e u = absurd (omega arith)
find-one (suc n) p i l e u = go (p n) refl (λ h. find-one n p i h e (λ k m. u k (omega arith)))
  where
    go : (b : Bool) → p n ≡ b → (i < n → find n p ≡ some i) → cond b (some n) (find n p) ≡ some i
    go true q r = ap some (u n (omega arith) q)
    go false q r = r (let z : i ≢ n = λ w. true≢false (sym e ∙ ap p w ∙ q) in omega arith)

pub find_some : (n : ℕ) (p : ℕ → Bool) (i : ℕ) → find n p ≡ some i → (i < n) × (p i ≡ true)
unfolding find
find_some zero p i e = absurd (let z : ◌≡◌ {A = ℕ} 0 1 = cc in omega arith)
find_some (suc n) p i e = go (p n) refl e (λ h. find_some n p i h)
  where
    go : (b : Bool) → p n ≡ b → cond b (some n) (find n p) ≡ some i → (find n p ≡ some i → (i < n) × (p i ≡ true))
        → (i < suc n) × (p i ≡ true)
    go true q e r = let z : n ≡ i = cc in (omega arith, rw (sym z) q)
    go false q e r = let u = r e in (let h = u.0 in omega arith, u.1)

-- ── naming ──
module _ (F : File) where
  -- test 10, as sums say it
  pub record Rule10 : Type 0 where
    pub once : (c : ℕ) → c < F.charts → held F c ≡ 1
    pub named_once : (j : ℕ) → suc j < F.nodes → named F j ≡ 1
    pub named-last : (j : ℕ) → suc j ≡ F.nodes → named F j ≡ 0
    pub master_higher : (i j : ℕ) → i < F.slaves → j < F.nodes → F.kind j ≡ 0 → F.a j ≡ F.master i → F.node i < j

  -- what names node j: a slave, or a node
  abbrev pub by_slave : ℕ → Option ℕ
  by_slave j = find F.slaves (λ i. same (F.node i) j)

  abbrev pub by_node : ℕ → Option ℕ
  by_node j = find F.nodes (λ k. not (same (names F k j) 0))

  -- the nearest enclosing slave of node j, looking at most f nodes up
  unfoldable pub nearest : ℕ → ℕ → Option ℕ
  nearest zero j = none
  nearest (suc f) j = up (by_slave j) (by_node j) (nearest f)

  unfoldable pub enc : ℕ → Option ℕ
  enc j = nearest F.nodes j

  -- of a chart: that of the node that holds it
  unfoldable pub kap : ℕ → Option ℕ
  kap c = up none (find F.nodes (λ k. same (F.kind k) 0 && same (F.a k) c)) enc

  -- the nearest enclosing slave of a node is one of the file's
  nearest-below : (f j i : ℕ) → nearest f j ≡ some i → i < F.slaves
  unfolding nearest
  nearest-below zero j i e = absurd (let z : ◌≡◌ {A = ℕ} 0 1 = cc in omega arith)
  nearest-below (suc f) j i e = go (by_slave j) refl (by_node j) e (λ k. nearest-below f k i)
    where
      go : (a : Option ℕ) → by_slave j ≡ a → (b : Option ℕ) → up a b (nearest f) ≡ some i
          → ((k : ℕ) → nearest f k ≡ some i → i < F.slaves)
          → i < F.slaves
      go (some h) p b e r = let z : h ≡ i = cc in let u = find_some F.slaves (λ i. same (F.node i) j) h p in
          let v = u.0 in omega arith
      go none p (some k) e r = r k e
      go none p none e r = absurd (let z : ◌≡◌ {A = ℕ} 0 1 = cc in omega arith)

  pub enc-below : (j i : ℕ) → enc j ≡ some i → i < F.slaves
  unfolding enc
  enc-below j i e = nearest-below F.nodes j i e

module _ (F : File) (w : Ordered F) (r : Rule10 F) where
  pub at_most : (j : ℕ) → j < F.nodes → named F j ≤ 1
  at_most j l = go (same (suc j) F.nodes) refl
    where
      go : (b : Bool) → same (suc j) F.nodes ≡ b → named F j ≤ 1
      go true e = let h = r.named-last j (same→≡ _ _ e) in omega arith
      go false e = let z : suc j ≢ F.nodes = same→≢ (suc j) F.nodes e in
          let h = r.named_once j (omega arith) in omega arith

  pub by-slave : (i j : ℕ) → j < F.nodes → i < F.slaves → F.node i ≡ j → by_slave F j ≡ some i
  unfolding named
  by-slave i j l m e =
      find-one F.slaves (λ i. same (F.node i) j) i m (rw e (same_refl j)) (λ k n q. go k n q (same k i) refl)
    where
      go : (k : ℕ) → k < F.slaves → same (F.node k) j ≡ true → (b : Bool) → same k i ≡ b → k ≡ i
      go k n q true h = same→≡ k i h
      go k n q false h = let z : k ≢ i = same→≢ k i h in
          let t = tally-two F.slaves (λ i. one (same (F.node i) j)) k i n m z in
          let a : one (same (F.node k) j) ≡ 1 = rw q in
          let b : one (same (F.node i) j) ≡ 1 = ap one (ap (λ z. same z j) e ∙ same_refl j) in
          let c = at_most j l in absurd (omega arith)

  pub by_node_lem : (k j : ℕ) → j < F.nodes → k < F.nodes → 0 < names F k j
      → (by_slave F j ≡ none) × (by_node F j ≡ some k)
  unfolding named
  by_node_lem k j l m p = (
    find_none F.slaves (λ i. same (F.node i) j) (λ i n. no_slave i n (same (F.node i) j) refl),
    find-one F.nodes (λ k. not (same (names F k j) 0)) k m (ap not (same_≢ (names F k j) 0 (λ q. omega arith)))
        (λ k' n q. one k' n q (same k' k) refl),
  )
    where
      no_slave : (i : ℕ) → i < F.slaves → (b : Bool) → same (F.node i) j ≡ b → b ≡ false
      no_slave i n false e = refl
      no_slave i n true e = let t = tally_ge F.slaves (λ i. one (same (F.node i) j)) i n in
          let t' = tally_ge F.nodes (λ k. names F k j) k m in
          let a : one (same (F.node i) j) ≡ 1 = rw e in let c = at_most j l in absurd (omega arith)

      one : (k' : ℕ) → k' < F.nodes → not (same (names F k' j) 0) ≡ true → (b : Bool) → same k' k ≡ b → k' ≡ k
      one k' n q true h = same→≡ k' k h
      one k' n q false h = let z : k' ≢ k = same→≢ k' k h in
          let t = tally-two F.nodes (λ k. names F k j) k' k n m z in let c = at_most j l in
          let y : names F k' j ≢ 0 = λ u. false≢true (sym (ap not (ap (λ v. same v 0) u ∙ same_refl 0)) ∙ q) in
          absurd (omega arith)

  -- a node that names j is above j
  pub higher : (k j : ℕ) → k < F.nodes → 0 < names F k j → j < k
  unfolding names
  higher k j l p =
      go (same (F.kind k) 1) refl (same (F.kind k) 2) refl (same (F.a k) j) refl (same (F.b k) j) refl p
    where
      go : (a : Bool) → same (F.kind k) 1 ≡ a → (b : Bool) → same (F.kind k) 2 ≡ b → (c : Bool) → same (F.a k) j ≡ c
          → (d : Bool)
          → same (F.b k) j ≡ d
          → 0 < one (a && c) + one (a && d) + one (b && c) → j < k
      go true ea b eb true ec d ed h = rw (same→≡ (F.a k) j ec) at (w.lower₁ k l (same→≡ (F.kind k) 1 ea)).0
      go true ea b eb false ec true ed h = rw (same→≡ (F.b k) j ed) at (w.lower₁ k l (same→≡ (F.kind k) 1 ea)).1
      go true ea true eb false ec false ed h = absurd (omega arith)
      go true ea false eb false ec false ed h = absurd (omega arith)
      go false ea true eb true ec d ed h = rw (same→≡ (F.a k) j ec) at (w.lower₂ k l (same→≡ (F.kind k) 2 eb))
      go false ea true eb false ec d ed h = absurd (omega arith)
      go false ea false eb c ec d ed h = absurd (omega arith)

  -- enough fuel is enough
  near_fuel : (f g j : ℕ) → j < F.nodes → F.nodes ≤ j + f → F.nodes ≤ j + g → nearest F f j ≡ nearest F g j
  unfolding nearest
  near_fuel zero g j l p q = absurd (omega arith)
  near_fuel (suc f) zero j l p q = absurd (omega arith)
  near_fuel (suc f) (suc g) j l p q =
      go (by_slave F j) (by_node F j) refl (λ k m h. near_fuel f g k m (omega arith) (omega arith))
    where
      go : (a b : Option ℕ) → by_node F j ≡ b → ((k : ℕ) → k < F.nodes → j < k → nearest F f k ≡ nearest F g k)
          → up a b (nearest F f) ≡ up a b (nearest F g)
      go (some i) b e ih = refl
      go none none e ih = refl
      go none (some k) e ih = let u = find_some F.nodes (λ k. not (same (names F k j) 0)) k e in
          ih k u.0 (higher k j u.0
          (let y : names F k j ≢ 0 = λ z. false≢true (sym (ap not (ap (λ v. same v 0) z ∙ same_refl 0)) ∙ u.1) in
          omega arith))

  pub enc-slave : (i : ℕ) → i < F.slaves → F.node i < F.nodes → enc F (F.node i) ≡ some i
  unfolding enc nearest
  enc-slave i m l = near_fuel F.nodes (suc F.nodes) (F.node i) l (omega arith) (omega arith) ∙ step
    where
      step : nearest F (suc F.nodes) (F.node i) ≡ some i
      step = ap (λ a. up a (by_node F (F.node i)) (nearest F F.nodes)) (by-slave i (F.node i) l m refl)

  pub enc_node : (k j : ℕ) → j < F.nodes → k < F.nodes → 0 < names F k j → enc F j ≡ enc F k
  unfolding enc nearest
  enc_node k j l m p = near_fuel F.nodes (suc F.nodes) j l (omega arith) (omega arith) ∙ step
    where
      step : nearest F (suc F.nodes) j ≡ nearest F F.nodes k
      step = let u = by_node_lem k j l m p in ap₂ (λ a b. up a b (nearest F F.nodes)) u.0 u.1

  -- the last is in no slave
  pub enc-last : (j : ℕ) → suc j ≡ F.nodes → enc F j ≡ none
  unfolding enc nearest named
  enc-last j e = near_fuel F.nodes (suc F.nodes) j (omega arith) (omega arith) (omega arith)
      ∙ ap₂ (λ a b. up a b (nearest F F.nodes))
      (find_none F.slaves (λ i. same (F.node i) j) (λ i n. no_slave i n (same (F.node i) j) refl))
      (find_none F.nodes (λ k. not (same (names F k j) 0)) (λ k n. no_node k n))
    where
      none-at : named F j ≡ 0
      none-at = r.named-last j e

      no_slave : (i : ℕ) → i < F.slaves → (b : Bool) → same (F.node i) j ≡ b → b ≡ false
      no_slave i n false q = refl
      no_slave i n true q = let t = tally_ge F.slaves (λ i. one (same (F.node i) j)) i n in
          let a : one (same (F.node i) j) ≡ 1 = ap one q in
          let z = none-at in absurd (omega arith)

      no_node : (k : ℕ) → k < F.nodes → not (same (names F k j) 0) ≡ false
      no_node k n = let t = tally_ge F.nodes (λ k. names F k j) k n in let z = none-at in
          let y : names F k j ≡ 0 = omega arith in
          ap not (ap (λ v. same v 0) y ∙ same_refl 0)

  near_under : (f j i : ℕ) → j < F.nodes → nearest F f j ≡ some i → j ≤ F.node i
  unfolding nearest
  near_under zero j i l e = absurd (let z : ◌≡◌ {A = ℕ} 0 1 = cc in omega arith)
  near_under (suc f) j i l e = go (by_slave F j) refl (by_node F j) refl e (λ k m q. near_under f k i m q)
    where
      go : (a : Option ℕ) → by_slave F j ≡ a → (b : Option ℕ) → by_node F j ≡ b → up a b (nearest F f) ≡ some i
          → ((k : ℕ) → k < F.nodes → nearest F f k ≡ some i → k ≤ F.node i) → j ≤ F.node i
      go (some i') p b q e ih = let z : i' ≡ i = cc in let u = find_some F.slaves (λ i. same (F.node i) j) i' p in
          let v : F.node i ≡ j = ap F.node (sym z) ∙ same→≡ (F.node i') j u.1 in omega arith
      go none p (some k) q e ih = let u = find_some F.nodes (λ k. not (same (names F k j) 0)) k q in
          let h = higher k j u.0
          (let y : names F k j ≢ 0 = λ z. false≢true (sym (ap not (ap (λ v. same v 0) z ∙ same_refl 0)) ∙ u.1) in
          omega arith) in
          let v = ih k u.0 e in omega arith
      go none p none q e ih = absurd (let z : ◌≡◌ {A = ℕ} 0 1 = cc in omega arith)

  pub hold_one : (j : ℕ) → j < F.nodes → F.kind j ≡ 0 → F.a j < F.charts
      → find F.nodes (λ k. same (F.kind k) 0 && same (F.a k) (F.a j)) ≡ some j
  unfolding held
  hold_one j l e c = find-one F.nodes (λ k. same (F.kind k) 0 && same (F.a k) (F.a j)) j l own
      (λ k n q. go k n q (same k j) refl)
    where
      own : (same (F.kind j) 0 && same (F.a j) (F.a j)) ≡ true
      own = and_i (ap (λ z. same z 0) e ∙ same_refl 0) (same_refl (F.a j))

      go : (k : ℕ) → k < F.nodes → (same (F.kind k) 0 && same (F.a k) (F.a j)) ≡ true → (b : Bool)
          → same k j ≡ b → k ≡ j
      go k n q true h = same→≡ k j h
      go k n q false h = let z : k ≢ j = same→≢ k j h in
          let t = tally-two F.nodes (λ k. one (same (F.kind k) 0 && same (F.a k) (F.a j))) k j n l z in
          let a : one (same (F.kind k) 0 && same (F.a k) (F.a j)) ≡ 1 = ap one q in
          let b : one (same (F.kind j) 0 && same (F.a j) (F.a j)) ≡ 1 = ap one own in
          let d = r.once (F.a j) c in absurd (omega arith)

  pub kap_is : (j : ℕ) → j < F.nodes → F.kind j ≡ 0 → F.a j < F.charts → kap F (F.a j) ≡ enc F j
  unfolding kap
  kap_is j l e c = ap (λ b. up none b (enc F)) (hold_one j l e c)

  pub names_a₁ : (k : ℕ) → F.kind k ≡ 1 → 0 < names F k (F.a k)
  unfolding names
  names_a₁ k e = let a : one (same (F.kind k) 1 && same (F.a k) (F.a k)) ≡ 1 =
      ap one (and_i (ap (λ z. same z 1) e ∙ same_refl 1) (same_refl (F.a k))) in omega arith

  pub names_b₁ : (k : ℕ) → F.kind k ≡ 1 → 0 < names F k (F.b k)
  unfolding names
  names_b₁ k e = let a : one (same (F.kind k) 1 && same (F.b k) (F.b k)) ≡ 1 =
      ap one (and_i (ap (λ z. same z 1) e ∙ same_refl 1) (same_refl (F.b k))) in omega arith

  pub names_a₂ : (k : ℕ) → F.kind k ≡ 2 → 0 < names F k (F.a k)
  unfolding names
  names_a₂ k e = let a : one (same (F.kind k) 2 && same (F.a k) (F.a k)) ≡ 1 =
      ap one (and_i (ap (λ z. same z 2) e ∙ same_refl 2) (same_refl (F.a k))) in omega arith

  module _ (chart_there : (j : ℕ) → j < F.nodes → F.kind j ≡ 0 → F.a j < F.charts)
      (node-there : (i : ℕ) → i < F.slaves → (F.node i < F.nodes) × (F.master i < F.charts)) where
    pub placed : Placed F (enc F) (kap F)
    unfolding enc
    placed = record {
      in₁ = λ j l e. let h = w.lower₁ j l e in
          (enc_node j (F.a j) (omega arith) l (names_a₁ j e), enc_node j (F.b j) (omega arith) l (names_b₁ j e));
      in₂ = λ j l e. let h = w.lower₂ j l e in enc_node j (F.a j) (omega arith) l (names_a₂ j e);
      in₀ = λ j l e i m q. enc-slave i m (node-there i m).0;
      hold = λ j l e. (chart_there j l e, kap_is j l e (chart_there j l e));
      under = λ j i l e. near_under F.nodes j i l e;
    }

    pub who : (k j : ℕ) → k < F.nodes → 0 < names F k j → Namer F j
    unfolding names
    who k j l p = go (same (F.kind k) 1) refl (same (F.kind k) 2) refl (same (F.a k) j) refl (same (F.b k) j) refl p
      where
        go : (a : Bool) → same (F.kind k) 1 ≡ a → (b : Bool) → same (F.kind k) 2 ≡ b → (c : Bool)
            → same (F.a k) j ≡ c → (d : Bool)
            → same (F.b k) j ≡ d
            → 0 < one (a && c) + one (a && d) + one (b && c) → Namer F j
        go true ea b eb true ec d ed h = left k l (same→≡ (F.kind k) 1 ea) (same→≡ (F.a k) j ec)
        go true ea b eb false ec true ed h = right k l (same→≡ (F.kind k) 1 ea) (same→≡ (F.b k) j ed)
        go true ea true eb false ec false ed h = absurd (omega arith)
        go true ea false eb false ec false ed h = absurd (omega arith)
        go false ea true eb true ec d ed h = inside k l (same→≡ (F.kind k) 2 eb) (same→≡ (F.a k) j ec)
        go false ea true eb false ec d ed h = absurd (omega arith)
        go false ea false eb c ec d ed h = absurd (omega arith)

    pub joined : Joined F
    unfolding held named
    joined = record {
      holder = λ c l. let h = r.once c l in
          let u = tally-find F.nodes (λ k. one (same (F.kind k) 0 && same (F.a k) c)) (omega arith) in (
            u.0,
            u.1,
            same→≡ (F.kind u.0) 0 (and_l _ _ (pos (same (F.kind u.0) 0 && same (F.a u.0) c) u.2)),
            same→≡ (F.a u.0) c
                (and_r (same (F.kind u.0) 0) _ (pos (same (F.kind u.0) 0 && same (F.a u.0) c) u.2)),
          );
      named = λ j l. go j (tally F.slaves (λ i. one (same (F.node i) j))) refl (r.named_once j l);
      master = λ i l. (node-there i l).1;
    }
      where
        pos : (b : Bool) → 0 < one b → b ≡ true
        pos true h = refl
        pos false h = absurd (omega arith)

        go : (j x : ℕ) → tally F.slaves (λ i. one (same (F.node i) j)) ≡ x
            → x + tally F.nodes (λ k. names F k j) ≡ 1 → Namer F j
        go j zero e h = let u = tally-find F.nodes (λ k. names F k j) (omega arith) in who u.0 j u.1 u.2
        go j (suc x) e h = let u = tally-find F.slaves (λ i. one (same (F.node i) j)) (omega arith) in
            slave u.0 u.1 (same→≡ (F.node u.0) j (pos (same (F.node u.0) j) u.2))
