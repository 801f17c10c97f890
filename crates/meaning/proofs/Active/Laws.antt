-- Laws of activity and of what parts put out. In this order: a permitted choice moves the charts that are active, and
-- no others (`ok_active`); in it the part of a slave keeps to the rules by whether the slave is active (`slave-part`);
-- a chart moves exactly if its nearest slave is active (`near`); what a part puts out hangs on its charts' actions
-- alone (`out_cong`), and is nothing if they take none (`out_none`); a place of a step says what its chart puts out
-- (`place-action`), and that it moves (`place_some`).
use Rattle.std.specs.Prelude.{◌≡◌, Bool, ◌&&◌, ◌||◌, cond, List, [], ◌∷◌, ◌≢◌}
use Rattle.std.proofs.Math.Path.{refl, ap}
use Rattle.std.proofs.Common.{sym, ◌∙◌, ap₂}
use Rattle.std.proofs.Math.Bool.{true, false, false≢true}
use Rattle.std.proofs.Math.Option.{Option, none, some}
use Prim.Native.Nat.{ℕ, zero, suc, ◌+◌, ◌≤◌, ◌<◌}
use Rattle.std.proofs.Math.Decide.{dec_lt}
use native.Mathlib.Omega.{arith}
use Rattle.std.proofs.Math.ListN.{length}
use Rattle.signals.specs.Mask.{◌∪◌, ◌∩◌, ◌∖◌}
use Rattle.signals.specs.Decide.{sets, A, ∅ₑ, ◌∪ₑ◌, ◌∖ₑ◌, ◌≐◌}
use Rattle.layout.specs.declared.record.Transition.{Transition}
use Rattle.meaning.specs.Numbers.{most_in_chart, no_place, stay_place}
use Rattle.meaning.specs.Meaning.{Set, ∅, same, Chart, Tree, Slaves, leaf, comp, hide, dec, nil, snoc, Move}
use Rattle.meaning.specs.Meaning.{no_move, takes, stay, nth, behind, pick, action_of, after, in_face, out, outs}
use Rattle.meaning.specs.Meaning.{ok_chart, meets, ok, oks, place_of}
use Rattle.meaning.specs.File.{File, whole, gather, tree_of, Has, HasS}
use Rattle.meaning.specs.Rewriting.{nearest_in, nearest_among}
use Rattle.meaning.specs.Active.{active, actives}
use Rattle.meaning.specs.Laws.Bools.{and_l, and_r, same→≡, same→≢, same_refl}
use Rattle.meaning.proofs.Laws.Choices.{place-own}
use Rattle.meaning.specs.Laws.Folds.{fold, folds, fold_own}
use Rattle.meaning.specs.Laws.Trees.{Ordered, Joined, Namer, left, right, inside, slave, tree₀, tree₁, tree₂}

-- ── the charts that are active are those that move ──

-- a move is an active chart's: it takes a transition, or stays
unfoldable pub some? : Move → Bool
some? no_move = false
some? (takes t) = true
some? stay = true

pub some_none : (m : Move) → some? m ≡ false → m ≡ no_move
unfolding some?
some_none no_move e = refl
some_none (takes t) e = absurd (false≢true (sym e))
some_none stay e = absurd (false≢true (sym e))

pub ok_chart_some : (K : Chart) (a : Bool) (o : Set) (s : ℕ) (m : Move) → ok_chart K a o s m ≡ true → some? m ≡ a
unfolding ok_chart some?
ok_chart_some K false o s no_move e = refl
ok_chart_some K false o s (takes t) e = absurd (false≢true e)
ok_chart_some K false o s stay e = absurd (false≢true e)
ok_chart_some K true o s no_move e = absurd (false≢true e)
ok_chart_some K true o s (takes t) e = refl
ok_chart_some K true o s stay e = refl

-- activity in a choice: the states after it are where its moves lead
abbrev pub active_by : (ℕ → ℕ) → (ℕ → ℕ) → (ℕ → Move) → Tree → Bool → ℕ → Bool
active_by state cfg M = active state cfg (λ d. after (cfg d) (M d))

either : (b b' x y z : Bool) → (b ≡ true → x ≡ y) → (b' ≡ true → x ≡ z) → (b || b') ≡ true → x ≡ cond b y z
either true b' x y z f g h = f refl
either false b' x y z f g h = g h

module _ (E : ℕ → Chart) (state : ℕ → ℕ) (cfg : ℕ → ℕ) (M : ℕ → Move) where
  mutual
    unfolding ok Has active meets

    -- a chart takes a transition, or stays, exactly if it is active
    pub ok_active : (t : Tree) (a : Bool) (o : Set) (c : ℕ) → Has t c ≡ true → ok E state cfg M t a o ≡ true
        → some? (M c) ≡ active_by state cfg M t a c
    ok_active (leaf d) a o c h k = rw (same→≡ c d h) (ok_chart_some (E d) a o (cfg d) (M d) k)
    ok_active (comp p q x) a o c h k =
        either (Has p c) (Has q c) _ _ _ (λ e. ok_active p a _ c e (and_l _ _ k))
        (λ e. ok_active q a _ c e (and_r (ok E state cfg M p a _) _ k)) h
    ok_active (hide p x y) a o c h k = ok_active p a (o ∖ x) c h k
    ok_active (dec d ss) a o c h k =
        either (same c d) (HasS ss c) _ _ _
        (λ e. rw (same→≡ c d e) (ok_chart_some (E d) a _ (cfg d) (M d) (and_l _ _ k)))
        (λ e. oks_active ss _ _ c e (and_r (ok_chart (E d) a _ (cfg d) (M d)) _ k)) h

    oks_active : (ss : Slaves) (f : ℕ → Bool) (z : Set) (c : ℕ) → HasS ss c ≡ true → oks E state cfg M ss f z ≡ true
        → some? (M c) ≡ actives state cfg (λ d. after (cfg d) (M d)) ss f c
    oks_active nil f z c h k = absurd (false≢true h)
    oks_active (snoc ss i t) f z c h k =
        either (Has t c) (HasS ss c) _ _ _ (λ e. ok_active t (f (state i)) _ c e (and_r (oks E state cfg M ss f z) _ k))
        (λ e. oks_active ss f z c e (and_l _ _ k)) h

-- ── the part of a node, and of a slave ──

-- in what is permitted, a part of some activity is offered some set
abbrev Part : (ℕ → Chart) → (ℕ → ℕ) → (ℕ → ℕ) → (ℕ → Move) → Tree → Bool → Type 0
Part E state cfg M t a = (o : Set) × (ok E state cfg M t a o ≡ true)

module _ (E : ℕ → Chart) (state : ℕ → ℕ) (cfg : ℕ → ℕ) (M : ℕ → Move) where
  -- one of the slaves that are gathered
  gather-ok : (sc : ℕ → ℕ) (g : ℕ → Tree) (c k i : ℕ) (f : ℕ → Bool) (z : Set) → i < k → sc i ≡ c
      → oks E state cfg M (gather sc g c k) f z ≡ true → Part E state cfg M (g i) (f (state i))
  unfolding gather ok
  gather-ok sc g c zero i f z l e h = absurd (omega arith)
  gather-ok sc g c (suc k) i f z l e h = go (same i k) refl (same (sc k) c) refl h (λ m. gather-ok sc g c k i f z m e)
    where
      rest : Slaves
      rest = gather sc g c k

      go : (b : Bool) → same i k ≡ b → (a : Bool) → same (sc k) c ≡ a
          → oks E state cfg M (cond a (snoc rest k (g k)) rest) f z ≡ true
          → (i < k → oks E state cfg M rest f z ≡ true → Part E state cfg M (g i) (f (state i)))
          → Part E state cfg M (g i) (f (state i))
      go true p true q h r =
          rw (same→≡ i k p) (z ∩ in_face E (g k), and_r (oks E state cfg M rest f z) _ h)
      go true p false q h r = absurd (false≢true (sym q ∙ rw (sym (ap sc (same→≡ i k p)) ∙ e) (same_refl c)))
      go false p true q h r = let z' : i ≢ k = same→≢ i k p in r (omega arith) (and_l _ _ h)
      go false p false q h r = let z' : i ≢ k = same→≢ i k p in r (omega arith) h

  -- a chart and its slaves: these are active by its states, if it is active
  whole-ok : (c : ℕ) (ss : Slaves) (a : Bool) (o : Set) → ok E state cfg M (whole c ss) a o ≡ true
      → (z : Set) × (oks E state cfg M ss (λ q. some? (M c) && meets (cfg c) (M c) q) z ≡ true)
  unfolding ok
  whole-ok c nil a o h = (∅, refl)
  whole-ok c (snoc ss i t) a o h =
      rw (ok_chart_some (E c) a _ (cfg c) (M c) (and_l _ _ h)) (_, and_r (ok_chart (E c) a _ (cfg c) (M c)) _ h)

module _ (F : File) (w : Ordered F) (jn : Joined F) (cfg : ℕ → ℕ) (M : ℕ → Move) where
  abbrev PartOf : ℕ → Bool → Type 0
  PartOf j a = Part F.chart F.state cfg M (tree_of F j) a

  -- slave i, by its master's move
  abbrev woken : ℕ → Bool
  woken i = some? (M (F.master i)) && meets (cfg (F.master i)) (M (F.master i)) (F.state i)

  by_master : (i j : ℕ) (a : Bool) → i < F.slaves → j < F.nodes → F.kind j ≡ 0 → F.a j ≡ F.master i → PartOf j a
      → PartOf (F.node i) (woken i)
  by_master i j a l m e p u =
      let v = whole-ok F.chart F.state cfg M (F.a j) _ a u.0 (rw (tree₀ F w j m e) at u.1) in
      rw (← p) (gather-ok F.chart F.state cfg M F.master (λ i. tree_of F (F.node i)) (F.a j) F.slaves i _
      v.0 l (sym p) v.1)

  -- a node's part, from that of what names the node
  named-part : (j : ℕ) → Namer F j → ((k : ℕ) → j < k → k < F.nodes → (a : Bool) × PartOf k a)
      → (a : Bool) × PartOf j a
  unfolding ok
  named-part j (left k l e p) ih =
      let u = ih k (rw p at (w.lower₁ k l e).0) l in
      (u.0, (_, and_l _ _ (rw (tree₁ F w k l e, p) at u.1.1)))
  named-part j (right k l e p) ih =
      let u = ih k (rw p at (w.lower₁ k l e).1) l in
      let v = ok F.chart F.state cfg M (tree_of F (F.a k)) u.0 _ in
      (u.0, (_, and_r v _ (rw (tree₁ F w k l e, p) at u.1.1)))
  named-part j (inside k l e p) ih =
      let u = ih k (rw p at (w.lower₂ k l e)) l in
      (u.0, (_, rw (tree₂ F w k l e, p) at u.1.1))
  named-part j (slave i l p) ih =
      let m = jn.holder (F.master i) (jn.master i l) in
      let u = ih m.0 (rw p at (w.lower₀ m.0 m.1 m.2 i l (sym m.3))) m.1 in
      rw (← p) (woken i, by_master i m.0 u.0 l m.1 m.2 m.3 u.1)

  module _ (last : ℕ) (e : suc last ≡ F.nodes) (whole_part : PartOf last true) where
    parts : (f j : ℕ) → F.nodes ≤ j + f → j < F.nodes → (a : Bool) × PartOf j a
    parts zero j b l = absurd (omega arith)
    parts (suc f) j b l = go (same j last) refl (λ k p q. parts f k (omega arith) q)
      where
        go : (x : Bool) → same j last ≡ x → ((k : ℕ) → j < k → k < F.nodes → (a : Bool) × PartOf k a)
            → (a : Bool) × PartOf j a
        go true p ih = rw (same→≡ j last p) (true, whole_part)
        go false p ih = let z : j ≢ last = same→≢ j last p in named-part j (jn.named j (omega arith)) ih

    pub slave-part : (i : ℕ) → i < F.slaves → PartOf (F.node i) (woken i)
    slave-part i l =
        let m = jn.holder (F.master i) (jn.master i l) in
        let u = parts F.nodes m.0 (omega arith) m.1 in
        by_master i m.0 u.0 l m.1 m.2 m.3 u.1

-- ── activity by nearest slaves ──

module _ (F : File) (w : Ordered F) (cfg : ℕ → ℕ) (M : ℕ → Move) where
  abbrev Ok : Tree → Bool → Set → Bool
  Ok = ok F.chart F.state cfg M

  -- what stands in a slave is active by that slave, and what stands in none is active
  abbrev pub within : Option ℕ → Bool
  within none = true
  within (some s) = some? (M (F.master s)) && meets (cfg (F.master s)) (M (F.master s)) (F.state s)

  -- it is one of the file's
  abbrev pub Its : Option ℕ → Type 0
  Its none = Unit {0}
  Its (some s) = s < F.slaves

  -- the chart in question
  module _ (c : ℕ) where
    -- it moves exactly if the slave says so
    abbrev pub By : Option ℕ → Type 0
    By κ = (some? (M c) ≡ within κ) × Its κ

    -- its nearest slave does, in a part that stands in the slave κ
    abbrev Near : Tree → Option ℕ → Type 0
    Near t κ = Has t c ≡ true → By (nearest_in t κ c)

    abbrev Among : Slaves → Type 0
    Among ss = HasS ss c ≡ true → By (nearest_among ss c)

    one_of : (b b' : Bool) (p q : Option ℕ) → (b ≡ true → By p) → (b' ≡ true → By q) → (b || b') ≡ true
        → By (cond b p q)
    one_of true b' p q f g h = f refl
    one_of false b' p q f g h = g h

    near_whole : (d : ℕ) (ss : Slaves) (κ : Option ℕ) (o : Set) → Its κ → Among ss → Ok (whole d ss) (within κ) o ≡ true
        → Near (whole d ss) κ
    unfolding ok Has nearest_in
    near_whole d nil κ o y g k h = (rw (same→≡ c d h) (ok_chart_some (F.chart d) (within κ) o (cfg d) (M d) k), y)
    near_whole d (snoc ss i t) κ o y g k h =
        one_of (same c d) (HasS (snoc ss i t) c) κ _
        (λ e. (rw (same→≡ c d e) (ok_chart_some (F.chart d) (within κ) _ (cfg d) (M d) (and_l _ _ k)), y)) g h

    near_gather : (d k : ℕ) (z : Set) → k ≤ F.slaves
        → ((s : ℕ) → s < k → F.master s ≡ d → (o : Set) → Ok (tree_of F (F.node s)) (within (some s)) o ≡ true
        → Near (tree_of F (F.node s)) (some s))
        → oks F.chart F.state cfg M (gather F.master (λ s. tree_of F (F.node s)) d k)
        (λ q. some? (M d) && meets (cfg d) (M d) q) z ≡ true
        → Among (gather F.master (λ s. tree_of F (F.node s)) d k)
    unfolding gather ok Has nearest_in
    near_gather d zero z l ih k h = absurd (false≢true h)
    near_gather d (suc n) z l ih k h =
        go (same (F.master n) d) refl k h (near_gather d n z (omega arith) (λ s m. ih s (omega arith)))
      where
        rest : Slaves
        rest = gather F.master (λ s. tree_of F (F.node s)) d n

        f : ℕ → Bool
        f q = some? (M d) && meets (cfg d) (M d) q

        go : (b : Bool) → same (F.master n) d ≡ b
            → oks F.chart F.state cfg M (cond b (snoc rest n (tree_of F (F.node n))) rest) f z ≡ true
            → HasS (cond b (snoc rest n (tree_of F (F.node n))) rest) c ≡ true
            → (oks F.chart F.state cfg M rest f z ≡ true → Among rest)
            → By (nearest_among (cond b (snoc rest n (tree_of F (F.node n))) rest) c)
        go true e k h r =
            let q = same→≡ (F.master n) d e in
            one_of (Has (tree_of F (F.node n)) c) (HasS rest c) _ _
            (ih n (omega arith) q (z ∩ in_face F.chart (tree_of F (F.node n)))
            (rw q (and_r (oks F.chart F.state cfg M rest f z) _ k)))
            (r (and_l _ _ k)) h
        go false e k h r = r k h

    near_node : (n j : ℕ) → j < n → j < F.nodes → (κ : Option ℕ) (o : Set) → Its κ
        → Ok (tree_of F j) (within κ) o ≡ true → Near (tree_of F j) κ
    unfolding ok Has nearest_in
    near_node zero j q l κ o y k h = absurd (omega arith)
    near_node (suc n) j q l κ o y k h = go (F.kind j) refl (λ i m. near_node n i (omega arith) (omega arith))
      where
        go : (b : ℕ) → F.kind j ≡ b
            → ((i : ℕ) → i < j → (κ : Option ℕ) (o : Set) → Its κ → Ok (tree_of F i) (within κ) o ≡ true
            → Near (tree_of F i) κ)
            → By (nearest_in (tree_of F j) κ c)
        go zero e ih =
            let ss = gather F.master (λ s. tree_of F (F.node s)) (F.a j) F.slaves in
            let k₀ : Ok (whole (F.a j) ss) (within κ) o ≡ true = rw (tree₀ F w j l e) at k in
            let v = whole-ok F.chart F.state cfg M (F.a j) ss (within κ) o k₀ in
            rw (tree₀ F w j l e) (near_whole (F.a j) ss κ o y
            (near_gather (F.a j) F.slaves v.0 (omega arith)
            (λ s m p z. ih (F.node s) (w.lower₀ j l e s m p) (some s) z m) v.1)
            k₀ (rw (tree₀ F w j l e) at h))
        go (suc zero) e ih =
            let u = w.lower₁ j l e in
            let p = tree_of F (F.a j) in
            let q = tree_of F (F.b j) in
            let k₁ : Ok (comp p q (F.x j)) (within κ) o ≡ true = rw (tree₁ F w j l e) at k in
            rw (tree₁ F w j l e) (one_of (Has p c) (Has q c) _ _ (ih (F.a j) u.0 κ _ y (and_l _ _ k₁))
            (ih (F.b j) u.1 κ _ y (and_r (Ok p (within κ) _) _ k₁)) (rw (tree₁ F w j l e) at h))
        go (suc (suc b)) e ih =
            let e₂ : F.kind j ≡ 2 = (let m = w.kinds j l in omega arith) in
            rw (tree₂ F w j l e₂) (ih (F.a j) (w.lower₂ j l e₂) κ (o ∖ F.x j) y (rw (tree₂ F w j l e₂) at k)
            (rw (tree₂ F w j l e₂) at h))

    pub near : (j : ℕ) → j < F.nodes → (o : Set) → Ok (tree_of F j) true o ≡ true → Near (tree_of F j) none
    near j l o k = near_node (suc j) j (omega arith) l none o tt k

-- ── what a part puts out ──

module _ (M : ℕ → Move) where
  mutual
    unfolding out fold

    out_is : (t : Tree) → out M t ≡ fold (λ c. action_of (M c)) (λ x y. y) t
    out_is (leaf c) = refl
    out_is (comp p q x) = ap₂ ◌∪◌ (out_is p) (out_is q)
    out_is (hide p x y) = ap (λ z. z ∖ y) (out_is p)
    out_is (dec c ss) = ap (λ z. action_of (M c) ∪ z) (outs_are ss)

    outs_are : (ss : Slaves) → outs M ss ≡ folds (λ c. action_of (M c)) (λ x y. y) ss
    outs_are nil = refl
    outs_are (snoc ss i t) = ap₂ ◌∪◌ (outs_are ss) (out_is t)

mutual
  unfolding fold

  fold_none : (t : Tree) → fold (λ c. ∅) (λ x y. y) t ≡ ∅
  fold_none (leaf c) = refl
  fold_none (comp p q x) = rw (fold_none p, fold_none q) (sets [] [] (∅ₑ ∪ₑ ∅ₑ ≐ ∅ₑ) tt)
  fold_none (hide p x y) = rw (fold_none p) (sets (y ∷ []) [] (∅ₑ ∖ₑ A ≐ ∅ₑ) tt)
  fold_none (dec c ss) = rw (folds_none ss) (sets [] [] (∅ₑ ∪ₑ ∅ₑ ≐ ∅ₑ) tt)

  folds_none : (ss : Slaves) → folds (λ c. ∅) (λ x y. y) ss ≡ ∅
  folds_none nil = refl
  folds_none (snoc ss i t) = rw (folds_none ss, fold_none t) (sets [] [] (∅ₑ ∪ₑ ∅ₑ ≐ ∅ₑ) tt)

pub out_cong : (M M₂ : ℕ → Move) (t : Tree) → ((c : ℕ) → Has t c ≡ true → action_of (M c) ≡ action_of (M₂ c))
    → out M t ≡ out M₂ t
out_cong M M₂ t h =
    out_is M t ∙ fold_own (λ c. action_of (M c)) (λ c. action_of (M₂ c)) (λ x y. y) t h ∙ sym (out_is M₂ t)

pub out_none : (M : ℕ → Move) (t : Tree) → ((c : ℕ) → Has t c ≡ true → M c ≡ no_move) → out M t ≡ ∅
unfolding action_of
out_none M t h =
    out_is M t ∙ fold_own (λ c. action_of (M c)) (λ c. ∅) (λ x y. y) t (λ c e. ap action_of (h c e)) ∙ fold_none t

-- ── the places of a step ──

pub nth-behind : (m : Move) (ts : List Transition) (k : ℕ) → length ts ≤ k → nth m ts k ≡ m
unfolding nth
nth-behind m [] k l = refl
nth-behind m (t ∷ ts) zero l = absurd (omega arith)
nth-behind m (t ∷ ts) (suc k) l = nth-behind m ts k (omega arith)

pub nth_near : (m m₂ : Move) (ts : List Transition) (k : ℕ) → k < length ts → nth m ts k ≡ nth m₂ ts k
unfolding nth
nth_near m m₂ [] k l = absurd (omega arith)
nth_near m m₂ (t ∷ ts) zero l = refl
nth_near m m₂ (t ∷ ts) (suc k) l = nth_near m m₂ ts k (omega arith)

-- C: a chart that is not too long
module _ (C : Chart) (few : length C.transitions ≤ most_in_chart) where
  behind-action : (b : Bool) (v : ℕ)
      → action_of (nth no_move C.transitions (place_of (cond b stay no_move) v)) ≡ action_of (cond b stay no_move)
  unfolding place_of action_of
  behind-action true v = ap action_of (nth-behind no_move C.transitions stay_place (omega arith))
  behind-action false v = ap action_of (nth-behind no_move C.transitions no_place (omega arith))

  -- a place says what is put out
  pub place-action : (v : ℕ) → action_of (nth no_move C.transitions (place_of (pick C v) v)) ≡ action_of (pick C v)
  unfolding pick
  place-action zero = behind-action false zero
  place-action (suc k) = go (dec_lt k (length C.transitions))
    where
      go : Dec (k < length C.transitions)
          → action_of (nth no_move C.transitions (place_of (pick C (suc k)) (suc k))) ≡ action_of (pick C (suc k))
      go (yes l) = rw (place-own C k l) (ap action_of (nth_near no_move (behind C) C.transitions k l))
      go (no l) = rw (nth-behind (behind C) C.transitions k (omega arith)) (behind-action C.stays (suc k))

  -- and whether the chart moved
  pub place_some : (v : ℕ) → some? (pick C v) ≡ true → place_of (pick C v) v ≢ no_place
  unfolding pick some? place_of
  place_some zero e q = false≢true e
  place_some (suc k) e q = go (dec_lt k (length C.transitions))
    where
      stays : (b : Bool) → some? (cond b stay no_move) ≡ true → place_of (cond b stay no_move) (suc k) ≡ no_place → ⊥
      stays true h p = omega arith
      stays false h p = false≢true h

      go : Dec (k < length C.transitions) → ⊥
      go (yes l) = let p = place-own C k l in omega arith
      go (no l) =
          let p = nth-behind (behind C) C.transitions k (omega arith) in
          stays C.stays (rw p at e) (rw p at q)
