-- Which charts are active is settled by the masters, which have lower numbers (`active_agree`); in a rewritten tree
-- every chart moves (`live`).
use Rattle.std.specs.Prelude.{◌≡◌, refl, Bool, true, false, ◌&&◌, ◌||◌, cond, ℕ, ◌<◌}
use Rattle.std.proofs.lemmas.Bool.{false≢true}
use Rattle.meaning.specs.Meaning.{Set, same, Chart, Tree, Slaves, leaf, comp, hide, dec, nil, snoc, Move, no_move}
use Rattle.meaning.specs.Meaning.{takes}
use Rattle.meaning.specs.Meaning.{stay, after, in_face, out, ok_chart, ok}
use Rattle.signals.specs.Mask.{◌∪◌, ◌∩◌, ◌∖◌}
use Rattle.meaning.specs.Laws.Bools.{or_elim, same→≡, and_l, and_r}
use Rattle.meaning.specs.File.{Has, HasS}
use Rattle.meaning.specs.Active.{active, actives}
use Rattle.meaning.proofs.Active.Laws.{active_by}
use Rattle.meaning.specs.Laws.Above.{Above, AboveS}
use Rattle.agreement.specs.Tree.{tree, nest, calls}

both_ways : (b b' y y' z z' : Bool) → (b ≡ true → y ≡ y') → (b' ≡ true → z ≡ z') → (b || b') ≡ true
    → cond b y z ≡ cond b y' z'
both_ways true b' y y' z z' f g h = f refl
both_ways false b' y y' z z' f g h = g h

module _ (state : ℕ → ℕ) (cfg : ℕ → ℕ) (M M₂ : ℕ → Move) (c : ℕ) (agree : (d : ℕ) → d < c → M d ≡ M₂ d) where
  mutual
    unfolding Has active

    -- whether chart c is active is settled by the charts below it
    pub active_agree : (t : Tree) (a : Bool) → Above t → Has t c ≡ true
        → active_by state cfg M t a c ≡ active_by state cfg M₂ t a c
    active_agree (leaf d) a v h = refl
    active_agree (comp p q x) a v h =
        both_ways (Has p c) (Has q c) _ _ _ _ (λ e. active_agree p a v.0 e) (λ e. active_agree q a v.1 e) h
    active_agree (hide p x y) a v h = active_agree p a v h
    active_agree (dec d ss) a v h = both_ways (same c d) (HasS ss c) _ _ _ _ (λ e. refl)
        (λ e. rw (agree d (v.0 c e))
        (actives_agree ss (λ q. a && (same (cfg d) q || same (after (cfg d) (M₂ d)) q)) v.1 e)) h

    actives_agree : (ss : Slaves) (f : ℕ → Bool) → AboveS ss → HasS ss c ≡ true
        → actives state cfg (λ d. after (cfg d) (M d)) ss f c ≡ actives state cfg (λ d. after (cfg d) (M₂ d)) ss f c
    actives_agree nil f v h = refl
    actives_agree (snoc ss i t) f v h =
        both_ways (Has t c) (HasS ss c) _ _ _ _ (λ e. active_agree t (f (state i)) v.1 e)
        (λ e. actives_agree ss f v.0 e) h

-- in a tree without decomposed charts, every chart takes a transition from its state, or stays
abbrev pub Live : ℕ → Move → Type 0
Live s no_move = ⊥
Live s (takes t) = t.from ≡ s
Live s stay = Unit {0}

ok_chart_live : (K : Chart) (o : Set) (s : ℕ) (m : Move) → ok_chart K true o s m ≡ true → Live s m
unfolding ok_chart
ok_chart_live K o s no_move k = false≢true k
ok_chart_live K o s (takes t) k = same→≡ t.from s (and_l _ _ k)
ok_chart_live K o s stay k = tt

module _ (sig : ℕ → ℕ) (fbOf : ℕ → Set) (E : ℕ → Chart) (state : ℕ → ℕ) (cfg : ℕ → ℕ) (M : ℕ → Move) (c : ℕ) where
  mutual
    unfolding ok Has tree

    pub live : (t : Tree) (o : Set) → Has t c ≡ true → ok E state cfg M (tree sig fbOf t) true o ≡ true
        → Live (cfg c) (M c)
    live (leaf d) o h k = rw (same→≡ c d h) (ok_chart_live (E d) o (cfg d) (M d) k)
    live (comp p q x) o h k =
        or_elim (Has p c) (Has q c) _ (λ e. live p (z ∩ in_face E (tree sig fbOf p)) e (and_l _ _ k))
        (λ e. live q (z ∩ in_face E (tree sig fbOf q)) e
        (and_r (ok E state cfg M (tree sig fbOf p) true (z ∩ in_face E (tree sig fbOf p))) _ k)) h
      where
        z : Set
        z = o ∪ (out M (tree sig fbOf p) ∪ out M (tree sig fbOf q)) ∩ x
    live (hide p x y) o h k = live p (o ∖ x) h k
    live (dec d ss) o h k = live_s ss d (fbOf d ∪ calls sig ss) (o ∖ calls sig ss) h k

    live_s : (ss : Slaves) (d : ℕ) (x o : Set) → (same c d || HasS ss c) ≡ true
        → ok E state cfg M (nest sig fbOf ss d x) true o ≡ true
        → Live (cfg c) (M c)
    live_s nil d x o h k = or_elim (same c d) false _ (λ e. rw (same→≡ c d e) (ok_chart_live (E d) o (cfg d) (M d) k))
        (λ e. absurd (false≢true e)) h
    live_s (snoc ss i t) d x o h k = or_elim (Has t c) (same c d || HasS ss c) _
        (λ e. live t (z ∩ in_face E (tree sig fbOf t)) e
        (and_r (ok E state cfg M (nest sig fbOf ss d x) true (z ∩ in_face E (nest sig fbOf ss d x))) _ k))
        (λ e. live_s ss d x (z ∩ in_face E (nest sig fbOf ss d x)) e (and_l _ _ k))
        (turn (same c d) (Has t c) (HasS ss c) h)
      where
        z : Set
        z = o ∪ (out M (nest sig fbOf ss d x) ∪ out M (tree sig fbOf t)) ∩ x

        turn : (a b g : Bool) → (a || (b || g)) ≡ true → (b || (a || g)) ≡ true
        turn true true g e = refl
        turn true false g e = refl
        turn false b g e = e
