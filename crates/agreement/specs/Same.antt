-- A tree and its rewriting: the same is offered, put out and permitted. In this order: sets without calls; the rule of
-- a chart; interfaces; outputs; choices permitted (`ok-t`).
use Rattle.std.specs.Prelude.{◌≡◌, Bool, ◌||◌, ℕ, eqb}
use Rattle.std.proofs.Math.Path.{refl, sym, ap, ap₂}
use Rattle.std.proofs.Common.{◌∙◌}
use Rattle.std.proofs.Math.Bool.{true, false, ◌&&◌, cond, and-true, and_assoc, and-false, or-false}
use Rattle.std.proofs.lemmas.Bool.{false≢true}
use Rattle.std.proofs.Math.Option.{Option, none, some}
use mathlib.Core.List.{[], ◌∷◌}
use Rattle.signals.specs.Mask.{◌∪◌, ◌∩◌, ◌∖◌, single, bit, within, apart}
use Rattle.signals.specs.Mask.Laws.{bit-single, bit-none, single-apart}
use Rattle.signals.specs.Decide.{sets, A, B, C, D, E as Eₑ, F as Fₑ, G as Gₑ, H as Hₑ, ∅ₑ, ◌∪ₑ◌, ◌∩ₑ◌, ◌∖ₑ◌, ◌≐◌, ◌⊑◌}
use Rattle.signals.specs.Decide.{◌⊥ₑ◌}
use Rattle.layout.specs.declared.record.Transition.{Transition}
use Rattle.meaning.specs.Meaning.{Set, ∅, same, Chart, Tree, Slaves, leaf, comp, hide, dec, nil, snoc, Move, no_move}
use Rattle.meaning.specs.Meaning.{takes, stay, action_of, after, in_face_chart, in_face, in_faces, out, outs, ok_chart}
use Rattle.meaning.specs.Meaning.{meets}
use Rattle.meaning.specs.Meaning.{ok, oks}
use Rattle.meaning.specs.Rewriting.{call_in, called, idle}
use Rattle.meaning.specs.Laws.Bools.{or_l, or_r, same_refl, same→≡, same→≢, same_≢, and_l, and_i, and_cong, not-true}
use Rattle.meaning.proofs.Laws.Editions.{ok_one, ok-one}
use Rattle.agreement.specs.Tree.{calls, on, tree, nest, touch, move_r}

-- ── sets without calls ──

module _ (sig : ℕ → ℕ) where
  -- a set of the file: no call signal is in it
  abbrev pub Old : Set → Type 0
  Old s = (i : ℕ) → single (sig i) ∩ s ≡ ∅

  -- a move of edition 1 whose sets have no call signal
  abbrev pub OldMove : Move → Type 0
  OldMove no_move = Unit {0}
  OldMove (takes t) = Old t.needed × Old t.barred × Old t.action
  OldMove stay = ⊥

  -- the enclosing slave is not i
  abbrev pub Apart : Option ℕ → ℕ → Type 0
  Apart none i = Unit {0}
  Apart (some j) i = j ≡ i → ⊥

  -- outside all slaves everything is active
  abbrev pub Awake : Option ℕ → Bool → Type 0
  Awake none a = a ≡ true
  Awake (some i) a = Unit {0}

  pub old-none : Old ∅
  old-none i = sets (single (sig i) ∷ []) [] (A ∩ₑ ∅ₑ ≐ ∅ₑ) tt

  pub old-cut : (a b : Set) → Old b → Old (a ∩ b)
  old-cut a b o i = sets (single (sig i) ∷ a ∷ b ∷ []) (A ⊥ₑ C ∷ []) (A ⊥ₑ B ∩ₑ C) tt (o i)

  pub old_join : (a b : Set) → Old a → Old b → Old (a ∪ b)
  old_join a b o p i = sets (single (sig i) ∷ a ∷ b ∷ []) (A ⊥ₑ B ∷ A ⊥ₑ C ∷ []) (A ⊥ₑ B ∪ₑ C) tt (o i) (p i)

  pub old_less : (a b : Set) → Old a → Old (a ∖ b)
  old_less a b o i = sets (single (sig i) ∷ a ∷ b ∷ []) (A ⊥ₑ B ∷ []) (A ⊥ₑ B ∖ₑ C) tt (o i)

  pub call-old : (κ : Option ℕ) (b : Set) → Old b → call_in sig κ ∩ b ≡ ∅
  unfolding call_in
  call-old none b o = sets (b ∷ []) [] (∅ₑ ∩ₑ A ≐ ∅ₑ) tt
  call-old (some i) b o = o i

  pub calls-old : (ss : Slaves) (b : Set) → Old b → calls sig ss ∩ b ≡ ∅
  unfolding calls
  calls-old nil b o = sets (b ∷ []) [] (∅ₑ ∩ₑ A ≐ ∅ₑ) tt
  calls-old (snoc ss i t) b o =
      sets (calls sig ss ∷ single (sig i) ∷ b ∷ []) (A ⊥ₑ C ∷ B ⊥ₑ C ∷ []) (A ∪ₑ B ⊥ₑ C) tt (calls-old ss b o) (o i)

  -- what is on is the call signal of the nearest slave, or nothing
  pub on_in : (κ : Option ℕ) (a : Bool) → on sig κ a ∖ call_in sig κ ≡ ∅
  unfolding on
  on_in κ true = sets (call_in sig κ ∷ []) [] (A ⊑ A) tt
  on_in κ false = sets (call_in sig κ ∷ []) [] (∅ₑ ⊑ A) tt

  pub call_some : (i : ℕ) → call_in sig (some i) ≡ single (sig i)
  unfolding call_in
  call_some i = refl

  pub on_some : (i : ℕ) (b : Bool) → cond b (single (sig i)) ∅ ≡ on sig (some i) b
  unfolding on call_in
  on_some i b = refl

  -- two call signals differ
  module _ (inj : (i j : ℕ) → sig i ≡ sig j → i ≡ j) where
    pub sig_apart : (i j : ℕ) → (j ≡ i → ⊥) → single (sig i) ∩ single (sig j) ≡ ∅
    unfolding same
    sig_apart i j h =
        single-apart (single (sig j)) (sig i) (bit-single (sig j) (sig i) ∙ same_≢ (sig j) (sig i) (λ e. h (inj j i e)))

    pub sig_call : (κ : Option ℕ) (i : ℕ) → Apart κ i → single (sig i) ∩ call_in sig κ ≡ ∅
    unfolding call_in
    sig_call none i r = sets (single (sig i) ∷ []) [] (A ∩ₑ ∅ₑ ≐ ∅ₑ) tt
    sig_call (some j) i r = sig_apart i j r

-- the call signals that a transition outputs are those of its chart's slaves
module _ (sig state : ℕ → ℕ) where
  pub touch-calls : (ss : Slaves) (t : Transition) → touch sig state ss t ∖ calls sig ss ≡ ∅
  unfolding touch calls
  touch-calls nil t = sets [] [] (∅ₑ ⊑ ∅ₑ) tt
  touch-calls (snoc ss i u) t = go (same t.from (state i) || same t.to (state i)) (touch-calls ss t)
    where
      go : (b : Bool) → touch sig state ss t ∖ calls sig ss ≡ ∅
          → (touch sig state ss t ∪ cond b (single (sig i)) ∅) ∖ (calls sig ss ∪ single (sig i)) ≡ ∅
      go true h = sets (touch sig state ss t ∷ calls sig ss ∷ single (sig i) ∷ []) (A ⊑ B ∷ []) (A ∪ₑ C ⊑ B ∪ₑ C) tt h
      go false h = sets (touch sig state ss t ∷ calls sig ss ∷ single (sig i) ∷ []) (A ⊑ B ∷ []) (A ∪ₑ ∅ₑ ⊑ B ∪ₑ C) tt h

-- a chart with its move, and its rewriting
pub record At (sig state : ℕ → ℕ) (cfg : ℕ → ℕ) (E E' : ℕ → Chart) (M M' : ℕ → Move) (κ : Option ℕ) (c : ℕ)
    (ss : Slaves) : Type 0 where
  pub moved : M' c ≡ move_r sig κ (touch sig state ss) (cfg c) (M c)
  pub fed : (E' c).feedback ≡ (E c).feedback
  pub faced : in_face_chart (E' c) ≡ in_face_chart (E c) ∪ call_in sig κ
  pub old_feedback : Old sig (E c).feedback
  pub old-face : Old sig (in_face_chart (E c))
  pub old_move : OldMove sig (M c)
  pub one : (E c).stays ≡ false
  pub one' : (E' c).stays ≡ false

-- there is a slave
abbrev pub Some : Slaves → Type 0
Some nil = ⊥
Some (snoc ss i t) = Unit {0}

module _ (sig state : ℕ → ℕ) (cfg : ℕ → ℕ) (E E' : ℕ → Chart) (M M' : ℕ → Move) where
  abbrev mutual
    pub Rw : Tree → Option ℕ → Type 0
    Rw (leaf c) κ = At sig state cfg E E' M M' κ c nil
    Rw (comp a b x) κ = Rw a κ × Rw b κ
    Rw (hide a x y) κ = Old sig x × Rw a κ
    Rw (dec c ss) κ = At sig state cfg E E' M M' κ c ss × Some ss × Rws ss κ

    pub Rws : Slaves → Option ℕ → Type 0
    Rws nil κ = Unit {0}
    Rws (snoc ss i t) κ = Rws ss κ × Apart sig κ i × Rw t (some i)

-- ── the rule of a chart ──

none_zero : (s : Set) → s ≡ ∅ → eqb s 0 ≡ true
unfolding same
none_zero s e = ap (λ z. same z 0) e ∙ same_refl 0

-- a signal is in the set
hit_zero : (n : ℕ) (s : Set) → single n ∖ s ≡ ∅ → eqb s 0 ≡ false
unfolding same
hit_zero n s h = not-true (λ e.
    false≢true (sym (bit-none n) ∙ ap (λ z. bit z n) (sym (same→≡ s 0 e) ∙ s_is e) ∙ bit-single n n ∙ same_refl n))
  where
    s_is : same s 0 ≡ true → s ≡ single n
    s_is e = sets (single n ∷ s ∷ []) (A ⊑ B ∷ B ≐ ∅ₑ ∷ []) (B ≐ A) tt h (same→≡ s 0 e)

-- an own transition of an active chart
own : (sig : ℕ → ℕ) (κ : Option ℕ) (o F T : Set) (t : Transition) → OldMove sig (takes t) → T ∩ F ≡ ∅
    → (within (t.needed ∪ call_in sig κ) ((o ∪ call_in sig κ) ∪ ((t.action ∪ T) ∩ F))
    && apart t.barred ((o ∪ call_in sig κ) ∪ ((t.action ∪ T) ∩ F)))
    ≡ (within t.needed (o ∪ (t.action ∩ F)) && apart t.barred (o ∪ (t.action ∩ F)))
own sig κ o F T t om tf = ap₂ (λ p q. eqb p 0 && eqb q 0)
    (sets (t.needed ∷ call_in sig κ ∷ o ∷ t.action ∷ T ∷ F ∷ []) (B ⊥ₑ A ∷ Eₑ ⊥ₑ Fₑ ∷ [])
    ((A ∪ₑ B) ∖ₑ (C ∪ₑ B ∪ₑ (D ∪ₑ Eₑ) ∩ₑ Fₑ) ≐ A ∖ₑ (C ∪ₑ D ∩ₑ Fₑ)) tt (call-old sig κ t.needed om.0) tf)
    (sets (t.barred ∷ call_in sig κ ∷ o ∷ t.action ∷ T ∷ F ∷ []) (B ⊥ₑ A ∷ Eₑ ⊥ₑ Fₑ ∷ [])
    (A ∩ₑ (C ∪ₑ B ∪ₑ (D ∪ₑ Eₑ) ∩ₑ Fₑ) ≐ A ∩ₑ (C ∪ₑ D ∩ₑ Fₑ)) tt
    (call-old sig κ t.barred om.1) tf)

ok_chart-R : (sig : ℕ → ℕ) (κ : Option ℕ) (a : Bool) (o F : Set) (T : Transition → Set) (s : ℕ) (m : Move)
    → OldMove sig m → Old sig o → Old sig F
    → ((t : Transition) → T t ∩ F ≡ ∅) → Awake sig κ a
    → ok_one F true (o ∪ on sig κ a) s (move_r sig κ T s m) ≡ ok_one F a o s m
unfolding ok_one move_r called idle on call_in
ok_chart-R sig none false o F T s m om oo oF tf w = absurd (false≢true w)
ok_chart-R sig none true o F T s no_move om oo oF tf w = refl
ok_chart-R sig none true o F T s (takes t) om oo oF tf w =
    ap (λ b. same t.from s && b) (own sig none o F (T t) t om (tf t))
ok_chart-R sig (some i) true o F T s (takes t) om oo oF tf w =
    ap (λ b. same t.from s && b) (own sig (some i) o F (T t) t om (tf t))
ok_chart-R sig (some i) false o F T s (takes t) om oo oF tf w =
    ap (λ b. same t.from s && (b && apart t.barred ((o ∪ ∅) ∪ ((t.action ∪ T t) ∩ F)))) lacks
    ∙ and-false (same t.from s)
  where
    lacks : within (t.needed ∪ call_in sig (some i)) ((o ∪ ∅) ∪ ((t.action ∪ T t) ∩ F)) ≡ false
    lacks =
        hit_zero (sig i) _ (sets (single (sig i) ∷ t.needed ∷ o ∷ (t.action ∪ T t) ∷ F ∷ []) (A ⊥ₑ C ∷ A ⊥ₑ Eₑ ∷ [])
        (A ⊑ (B ∪ₑ A) ∖ₑ (C ∪ₑ ∅ₑ ∪ₑ D ∩ₑ Eₑ)) tt (oo i) (oF i))
ok_chart-R sig (some i) true o F T s no_move om oo oF tf w =
    ap (λ b. same s s && (within ∅ ((o ∪ call_in sig (some i)) ∪ (∅ ∩ F)) && b)) hits
    ∙ law (same s s) (within ∅ ((o ∪ call_in sig (some i)) ∪ (∅ ∩ F)))
  where
    hits : apart (single (sig i)) ((o ∪ call_in sig (some i)) ∪ (∅ ∩ F)) ≡ false
    hits = hit_zero (sig i) _ (sets (single (sig i) ∷ o ∷ F ∷ []) [] (A ⊑ A ∩ₑ (B ∪ₑ A ∪ₑ ∅ₑ ∩ₑ C)) tt)

    law : (a b : Bool) → (a && (b && false)) ≡ false
    law true b = and-false b
    law false b = refl
ok_chart-R sig (some i) false o F T s no_move om oo oF tf w =
    and_i (same_refl s) (and_i (none_zero _ (sets (o ∷ F ∷ []) [] (∅ₑ ⊑ A ∪ₑ ∅ₑ ∪ₑ ∅ₑ ∩ₑ B) tt))
    (none_zero _ (sets (single (sig i) ∷ o ∷ F ∷ []) (A ⊥ₑ B ∷ []) (A ⊥ₑ B ∪ₑ ∅ₑ ∪ₑ ∅ₑ ∩ₑ C) tt (oo i))))
ok_chart-R sig none true o F T s stay om oo oF tf w = absurd om
ok_chart-R sig (some i) a o F T s stay om oo oF tf w = absurd om

-- ── interfaces ──

-- slave j is among them
In : ℕ → Slaves → Bool
In j nil = false
In j (snoc ss i t) = In j ss || same j i

-- the call signals that a move outputs
made : (sig state : ℕ → ℕ) → Slaves → Move → Set
made sig state ss no_move = ∅
made sig state ss (takes t) = touch sig state ss t
made sig state ss stay = ∅

module _ (sig state : ℕ → ℕ) (inj : (i j : ℕ) → sig i ≡ sig j → i ≡ j) (cfg : ℕ → ℕ) (E E' : ℕ → Chart)
    (M M' : ℕ → Move) where
  abbrev RwT : Tree → Option ℕ → Type 0
  RwT t κ = Rw sig state cfg E E' M M' t κ

  abbrev RwS : Slaves → Option ℕ → Type 0
  RwS t κ = Rws sig state cfg E E' M M' t κ

  abbrev AtC : Option ℕ → ℕ → Slaves → Type 0
  AtC κ c ss = At sig state cfg E E' M M' κ c ss

  abbrev fbs : ℕ → Set
  fbs c = (E c).feedback

  calls-call : (ss : Slaves) (κ : Option ℕ) → RwS ss κ → calls sig ss ∩ call_in sig κ ≡ ∅
  unfolding calls
  calls-call nil κ r = sets (call_in sig κ ∷ []) [] (∅ₑ ∩ₑ A ≐ ∅ₑ) tt
  calls-call (snoc ss i t) κ r =
      sets (calls sig ss ∷ single (sig i) ∷ call_in sig κ ∷ []) (A ⊥ₑ C ∷ B ⊥ₑ C ∷ []) (A ∪ₑ B ⊥ₑ C) tt
      (calls-call ss κ r.0)
      (sig_call sig inj κ i r.1)

  mutual
    unfolding in_face

    pub face-old : (t : Tree) (κ : Option ℕ) → RwT t κ → Old sig (in_face E t)
    face-old (leaf c) κ r = r.old-face
    face-old (comp a b x) κ r = old_join sig (in_face E a) (in_face E b) (face-old a κ r.0) (face-old b κ r.1)
    face-old (hide a x y) κ r = old_less sig (in_face E a) x (face-old a κ r.1)
    face-old (dec c ss) κ r = old_join sig (in_face_chart (E c)) (in_faces E ss) r.0.old-face (faces_old ss κ r.2)

    faces_old : (ss : Slaves) (κ : Option ℕ) → RwS ss κ → Old sig (in_faces E ss)
    faces_old nil κ r = old-none sig
    faces_old (snoc ss i t) κ r =
        old_join sig (in_faces E ss) (in_face E t) (faces_old ss κ r.0) (face-old t (some i) r.2)

  mutual
    unfolding in_face tree calls call_in

    -- the rewritten tree has the call signal of the nearest slave besides
    pub face-t : (t : Tree) (κ : Option ℕ) → RwT t κ → in_face E' (tree sig fbs t) ≡ in_face E t ∪ call_in sig κ
    face-t (leaf c) κ r = r.faced
    face-t (comp a b x) κ r = ap₂ ◌∪◌ (face-t a κ r.0) (face-t b κ r.1)
        ∙ sets (in_face E a ∷ in_face E b ∷ call_in sig κ ∷ []) [] ((A ∪ₑ C) ∪ₑ (B ∪ₑ C) ≐ (A ∪ₑ B) ∪ₑ C) tt
    face-t (hide a x y) κ r = ap (λ z. z ∖ x) (face-t a κ r.1)
        ∙ sets (in_face E a ∷ call_in sig κ ∷ x ∷ []) (B ⊥ₑ C ∷ []) ((A ∪ₑ B) ∖ₑ C ≐ (A ∖ₑ C) ∪ₑ B) tt
        (call-old sig κ x r.0)
    face-t (dec c ss) κ r = ap (λ z. z ∖ calls sig ss) (face-s ss κ r.2 c (fbs c ∪ calls sig ss) r.0.faced)
        ∙ sets (in_face_chart (E c) ∷ in_faces E ss ∷ call_in sig κ ∷ calls sig ss ∷ []) (D ⊥ₑ A ∷ D ⊥ₑ B ∷ D ⊥ₑ C ∷ [])
        (((A ∪ₑ B) ∪ₑ (C ∪ₑ D)) ∖ₑ D ≐ (A ∪ₑ B) ∪ₑ C) tt
        (calls-old sig ss (in_face_chart (E c)) r.0.old-face)
        (calls-old sig ss (in_faces E ss) (faces_old ss κ r.2)) (calls-call ss κ r.2)

    face-s : (ss : Slaves) (κ : Option ℕ) → RwS ss κ → (c : ℕ) (x : Set)
        → in_face_chart (E' c) ≡ in_face_chart (E c) ∪ call_in sig κ
        → in_face E' (nest sig fbs ss c x) ≡ (in_face_chart (E c) ∪ in_faces E ss) ∪ (call_in sig κ ∪ calls sig ss)
    face-s nil κ r c x h = h ∙ sets (in_face_chart (E c) ∷ call_in sig κ ∷ []) [] (A ∪ₑ B ≐ (A ∪ₑ ∅ₑ) ∪ₑ (B ∪ₑ ∅ₑ)) tt
    face-s (snoc ss i t) κ r c x h = ap₂ ◌∪◌ (face-s ss κ r.0 c x h) (face-t t (some i) r.2)
        ∙ sets (in_face_chart (E c) ∷ in_faces E ss ∷ call_in sig κ ∷ calls sig ss ∷ in_face E t ∷ single (sig i) ∷ [])
        []
        (((A ∪ₑ B) ∪ₑ (C ∪ₑ D)) ∪ₑ (Eₑ ∪ₑ Fₑ) ≐ (A ∪ₑ (B ∪ₑ Eₑ)) ∪ₑ (C ∪ₑ (D ∪ₑ Fₑ))) tt

  -- ── outputs ──

  action-old : (m : Move) → OldMove sig m → Old sig (action_of m)
  unfolding action_of
  action-old no_move o = old-none sig
  action-old (takes t) o = o.2
  action-old stay o = absurd o

  mutual
    unfolding out

    out_old : (t : Tree) (κ : Option ℕ) → RwT t κ → Old sig (out M t)
    out_old (leaf c) κ r = action-old (M c) r.old_move
    out_old (comp a b x) κ r = old_join sig (out M a) (out M b) (out_old a κ r.0) (out_old b κ r.1)
    out_old (hide a x y) κ r = old_less sig (out M a) y (out_old a κ r.1)
    out_old (dec c ss) κ r =
        old_join sig (action_of (M c)) (outs M ss) (action-old (M c) r.0.old_move) (outs_old ss κ r.2)

    outs_old : (ss : Slaves) (κ : Option ℕ) → RwS ss κ → Old sig (outs M ss)
    outs_old nil κ r = old-none sig
    outs_old (snoc ss i t) κ r = old_join sig (outs M ss) (out M t) (outs_old ss κ r.0) (out_old t (some i) r.2)

  -- the action of a rewritten move
  action-moved : (κ : Option ℕ) (ss : Slaves) (s : ℕ) (m : Move)
      → action_of (move_r sig κ (touch sig state ss) s m) ≡ action_of m ∪ made sig state ss m
  unfolding action_of move_r called made idle
  action-moved κ ss s (takes t) = refl
  action-moved κ ss s stay = sets [] [] (∅ₑ ≐ ∅ₑ ∪ₑ ∅ₑ) tt
  action-moved none ss s no_move = sets [] [] (∅ₑ ≐ ∅ₑ ∪ₑ ∅ₑ) tt
  action-moved (some i) ss s no_move = sets [] [] (∅ₑ ≐ ∅ₑ ∪ₑ ∅ₑ) tt

  action-at : (κ : Option ℕ) (c : ℕ) (ss : Slaves) → AtC κ c ss
      → action_of (M' c) ≡ action_of (M c) ∪ made sig state ss (M c)
  action-at κ c ss at = ap action_of at.moved ∙ action-moved κ ss (cfg c) (M c)

  made_nil : (m : Move) → made sig state nil m ≡ ∅
  unfolding made touch
  made_nil no_move = refl
  made_nil (takes t) = refl
  made_nil stay = refl

  made-calls : (ss : Slaves) (m : Move) → made sig state ss m ∖ calls sig ss ≡ ∅
  unfolding made
  made-calls ss no_move = sets (calls sig ss ∷ []) [] (∅ₑ ⊑ A) tt
  made-calls ss (takes t) = touch-calls sig state ss t
  made-calls ss stay = sets (calls sig ss ∷ []) [] (∅ₑ ⊑ A) tt

  mutual
    unfolding out tree

    pub out_t : (t : Tree) (κ : Option ℕ) → RwT t κ → out M' (tree sig fbs t) ≡ out M t
    out_t (leaf c) κ r = action-at κ c nil r ∙ ap (λ z. action_of (M c) ∪ z) (made_nil (M c))
        ∙ sets (action_of (M c) ∷ []) [] (A ∪ₑ ∅ₑ ≐ A) tt
    out_t (comp a b x) κ r = ap₂ ◌∪◌ (out_t a κ r.0) (out_t b κ r.1)
    out_t (hide a x y) κ r = ap (λ z. z ∖ y) (out_t a κ r.1)
    out_t (dec c ss) κ r = ap (λ z. z ∖ calls sig ss)
        (out_s ss κ r.2 c (fbs c ∪ calls sig ss) ∙ ap (λ z. z ∪ outs M ss) (action-at κ c ss r.0))
        ∙ sets (action_of (M c) ∷ made sig state ss (M c) ∷ outs M ss ∷ calls sig ss ∷ [])
        (D ⊥ₑ A ∷ D ⊥ₑ C ∷ B ⊑ D ∷ [])
        (((A ∪ₑ B) ∪ₑ C) ∖ₑ D ≐ A ∪ₑ C) tt
        (calls-old sig ss (action_of (M c)) (action-old (M c) r.0.old_move))
        (calls-old sig ss (outs M ss) (outs_old ss κ r.2))
        (made-calls ss (M c))

    out_s : (ss : Slaves) (κ : Option ℕ) → RwS ss κ → (c : ℕ) (x : Set)
        → out M' (nest sig fbs ss c x) ≡ action_of (M' c) ∪ outs M ss
    out_s nil κ r c x = sets (action_of (M' c) ∷ []) [] (A ≐ A ∪ₑ ∅ₑ) tt
    out_s (snoc ss i t) κ r c x = ap₂ ◌∪◌ (out_s ss κ r.0 c x) (out_t t (some i) r.2)
        ∙ sets (action_of (M' c) ∷ outs M ss ∷ out M t ∷ []) [] ((A ∪ₑ B) ∪ₑ C ≐ A ∪ₑ (B ∪ₑ C)) tt

  -- ── choices permitted ──

  abbrev ok_r : Tree → Set → Bool
  ok_r t o = ok E' state cfg M' t true o

  -- every slave's tree, offered what all are offered, z, cut to its interface
  parts : Slaves → Set → Bool
  parts nil z = true
  parts (snoc ss i t) z = parts ss z && ok_r (tree sig fbs t) (z ∩ in_face E' (tree sig fbs t))

  nest_ok : (ss : Slaves) (c : ℕ) (x z : Set) → (out M' (nest sig fbs ss c x) ∩ x) ∖ z ≡ ∅
      → ok_r (nest sig fbs ss c x) (z ∩ in_face E' (nest sig fbs ss c x))
      ≡ (ok_chart (E' c) true (z ∩ in_face_chart (E' c)) (cfg c) (M' c) && parts ss z)
  unfolding ok parts tree in_face out
  nest_ok nil c x z h = sym (and-true (ok_chart (E' c) true (z ∩ in_face_chart (E' c)) (cfg c) (M' c)))
  nest_ok (snoc ss i t) c x z h =
      ap₂ ◌&&◌
      (ap (ok_r (nest sig fbs ss c x)) (sets (z ∷ IN ∷ IT ∷ ON ∷ OT ∷ x ∷ []) ((D ∪ₑ Eₑ) ∩ₑ Fₑ ⊑ A ∷ [])
      ((A ∩ₑ (B ∪ₑ C) ∪ₑ (D ∪ₑ Eₑ) ∩ₑ Fₑ) ∩ₑ B ≐ A ∩ₑ B) tt h)
      ∙ nest_ok ss c x z (sets (z ∷ ON ∷ OT ∷ x ∷ []) ((B ∪ₑ C) ∩ₑ D ⊑ A ∷ []) (B ∩ₑ D ⊑ A) tt h))
      (ap (ok_r (tree sig fbs t)) (sets (z ∷ IN ∷ IT ∷ ON ∷ OT ∷ x ∷ []) ((D ∪ₑ Eₑ) ∩ₑ Fₑ ⊑ A ∷ [])
      ((A ∩ₑ (B ∪ₑ C) ∪ₑ (D ∪ₑ Eₑ) ∩ₑ Fₑ) ∩ₑ C ≐ A ∩ₑ C) tt h))
      ∙ and_assoc (ok_chart (E' c) true (z ∩ in_face_chart (E' c)) (cfg c) (M' c)) (parts ss z)
      (ok_r (tree sig fbs t) (z ∩ IT))
    where
      IN : Set
      IN = in_face E' (nest sig fbs ss c x)

      IT : Set
      IT = in_face E' (tree sig fbs t)

      ON : Set
      ON = out M' (nest sig fbs ss c x)

      OT : Set
      OT = out M' (tree sig fbs t)

  nest_top : (ss : Slaves) → Some ss → (c : ℕ) (x o : Set)
      → ok_r (nest sig fbs ss c x) o
      ≡ (ok_chart (E' c) true ((o ∪ (out M' (nest sig fbs ss c x) ∩ x)) ∩ in_face_chart (E' c)) (cfg c) (M' c)
      && parts ss (o ∪ (out M' (nest sig fbs ss c x) ∩ x)))
  unfolding ok parts tree in_face out
  nest_top nil e c x o = absurd e
  nest_top (snoc ss i t) e c x o =
      ap (λ b. b && ok_r (tree sig fbs t) (Z ∩ in_face E' (tree sig fbs t)))
      (nest_ok ss c x Z (sets (o ∷ ON ∷ OT ∷ x ∷ []) [] (B ∩ₑ D ⊑ A ∪ₑ (B ∪ₑ C) ∩ₑ D) tt))
      ∙ and_assoc (ok_chart (E' c) true (Z ∩ in_face_chart (E' c)) (cfg c) (M' c)) (parts ss Z)
      (ok_r (tree sig fbs t) (Z ∩ in_face E' (tree sig fbs t)))
    where
      ON : Set
      ON = out M' (nest sig fbs ss c x)

      OT : Set
      OT = out M' (tree sig fbs t)

      Z : Set
      Z = o ∪ ((ON ∪ OT) ∩ x)

  made-old : (ss : Slaves) (m : Move) (b : Set) → Old sig b → made sig state ss m ∩ b ≡ ∅
  made-old ss m b o = sets (made sig state ss m ∷ calls sig ss ∷ b ∷ []) (A ⊑ B ∷ B ⊥ₑ C ∷ []) (A ⊥ₑ C) tt
      (made-calls ss m) (calls-old sig ss b o)

  made-call : (ss : Slaves) (κ : Option ℕ) → RwS ss κ → (m : Move) → made sig state ss m ∩ call_in sig κ ≡ ∅
  made-call ss κ r m =
      sets (made sig state ss m ∷ calls sig ss ∷ call_in sig κ ∷ []) (A ⊑ B ∷ B ⊥ₑ C ∷ []) (A ⊥ₑ C) tt (made-calls ss m)
      (calls-call ss κ r)

  -- a move outputs a slave's call signal exactly if it touches the slave's state
  hits : Transition → ℕ → Bool
  hits t j = same t.from (state j) || same t.to (state j)

  touch-at : (ss : Slaves) (t : Transition) (j : ℕ)
      → single (sig j) ∩ touch sig state ss t ≡ cond (In j ss && hits t j) (single (sig j)) ∅
  unfolding touch In hits
  touch-at nil t j = sets (single (sig j) ∷ []) [] (A ∩ₑ ∅ₑ ≐ ∅ₑ) tt
  touch-at (snoc ss i u) t j = go (same j i) refl (touch-at ss t j)
    where
      T : Set
      T = touch sig state ss t

      own-call : (n h : Bool) → single (sig i) ∩ T ≡ cond (n && h) (single (sig i)) ∅
          → single (sig i) ∩ (T ∪ cond h (single (sig i)) ∅) ≡ cond ((n || true) && h) (single (sig i)) ∅
      own-call true true r = sets (single (sig i) ∷ T ∷ []) [] (A ∩ₑ (B ∪ₑ A) ≐ A) tt
      own-call true false r = sets (single (sig i) ∷ T ∷ []) (A ⊥ₑ B ∷ []) (A ∩ₑ (B ∪ₑ ∅ₑ) ≐ ∅ₑ) tt r
      own-call false true r = sets (single (sig i) ∷ T ∷ []) [] (A ∩ₑ (B ∪ₑ A) ≐ A) tt
      own-call false false r = sets (single (sig i) ∷ T ∷ []) (A ⊥ₑ B ∷ []) (A ∩ₑ (B ∪ₑ ∅ₑ) ≐ ∅ₑ) tt r

      other-call : (g : Bool) → single (sig j) ∩ single (sig i) ≡ ∅
          → single (sig j) ∩ (T ∪ cond g (single (sig i)) ∅) ≡ single (sig j) ∩ T
      other-call true d = sets (single (sig j) ∷ T ∷ single (sig i) ∷ []) (A ⊥ₑ C ∷ []) (A ∩ₑ (B ∪ₑ C) ≐ A ∩ₑ B) tt d
      other-call false d = sets (single (sig j) ∷ T ∷ []) [] (A ∩ₑ (B ∪ₑ ∅ₑ) ≐ A ∩ₑ B) tt

      go : (b : Bool) → same j i ≡ b → single (sig j) ∩ T ≡ cond (In j ss && hits t j) (single (sig j)) ∅
          → single (sig j) ∩ (T ∪ cond (hits t i) (single (sig i)) ∅)
          ≡ cond ((In j ss || b) && hits t j) (single (sig j)) ∅
      go true e r = let q = same→≡ j i e in rw q (own-call (In i ss) (hits t i) (rw q at r))
      go false e r = other-call (hits t i) (sig_apart sig inj j i (λ q. same→≢ j i e (sym q))) ∙ r
          ∙ ap (λ n. cond (n && hits t j) (single (sig j)) ∅) (sym (or-false (In j ss)))

  -- a permitted move outputs a slave's call signal exactly if the slave is active
  made_at : (ss : Slaves) (F : Set) (a : Bool) (o : Set) (s : ℕ) (m : Move) → ok_one F a o s m ≡ true → (j : ℕ)
      → In j ss ≡ true
      → single (sig j) ∩ made sig state ss m ≡ cond (a && meets s m (state j)) (single (sig j)) ∅
  unfolding ok_one made meets after hits
  made_at ss F false o s no_move k j h = sets (single (sig j) ∷ []) [] (A ∩ₑ ∅ₑ ≐ ∅ₑ) tt
  made_at ss F false o s (takes t) k j h = absurd (false≢true k)
  made_at ss F false o s stay k j h = absurd (false≢true k)
  made_at ss F true o s no_move k j h = absurd (false≢true k)
  made_at ss F true o s stay k j h = absurd (false≢true k)
  made_at ss F true o s (takes t) k j h = touch-at ss t j
      ∙ ap₂ (λ n q. cond (n && (same q (state j) || same t.to (state j))) (single (sig j)) ∅) h
      (same→≡ t.from s (and_l _ _ k))

  -- what the parts of a decomposed chart are offered before the cut, in the original
  abbrev zone : ℕ → Slaves → Set → Set
  zone c ss o = o ∪ ((action_of (M c) ∪ outs M ss) ∩ (E c).feedback)

  zone-old : (c : ℕ) (ss : Slaves) (κ : Option ℕ) (o : Set) → AtC κ c ss → Old sig o → Old sig (zone c ss o)
  zone-old c ss κ o at oo =
      old_join sig o ((action_of (M c) ∪ outs M ss) ∩ (E c).feedback) oo
      (old-cut sig (action_of (M c) ∪ outs M ss) (E c).feedback at.old_feedback)

  zone_is : (c : ℕ) (ss : Slaves) (κ : Option ℕ) (a : Bool) (o : Set) → AtC κ c ss → RwS ss κ → Old sig o
      → ((o ∪ on sig κ a) ∖ calls sig ss) ∪ (out M' (nest sig fbs ss c (fbs c ∪ calls sig ss)) ∩ (fbs c ∪ calls sig ss))
      ≡ (zone c ss o ∪ on sig κ a) ∪ made sig state ss (M c)
  zone_is c ss κ a o at r oo =
      ap (λ z. ((o ∪ on sig κ a) ∖ calls sig ss) ∪ (z ∩ (fbs c ∪ calls sig ss)))
      (out_s ss κ r c (fbs c ∪ calls sig ss) ∙ ap (λ z. z ∪ outs M ss) (action-at κ c ss at))
      ∙ sets (o ∷ on sig κ a ∷ calls sig ss ∷ action_of (M c) ∷ made sig state ss (M c) ∷ outs M ss ∷ fbs c
      ∷ call_in sig κ ∷ [])
      (C ⊥ₑ A ∷ B ⊑ Hₑ ∷ C ⊥ₑ Hₑ ∷ C ⊥ₑ D ∷ C ⊥ₑ Fₑ ∷ C ⊥ₑ Gₑ ∷ Eₑ ⊑ C ∷ [])
      (((A ∪ₑ B) ∖ₑ C) ∪ₑ (((D ∪ₑ Eₑ) ∪ₑ Fₑ) ∩ₑ (Gₑ ∪ₑ C)) ≐ ((A ∪ₑ ((D ∪ₑ Fₑ) ∩ₑ Gₑ)) ∪ₑ B) ∪ₑ Eₑ) tt
      (calls-old sig ss o oo) (on_in sig κ a) (calls-call ss κ r)
      (calls-old sig ss (action_of (M c)) (action-old (M c) at.old_move))
      (calls-old sig ss (outs M ss) (outs_old ss κ r)) (calls-old sig ss (fbs c) at.old_feedback)
      (made-calls ss (M c))

  master_ok : (c : ℕ) (ss : Slaves) (κ : Option ℕ) (a : Bool) (o z : Set) → AtC κ c ss → RwS ss κ → Old sig o
      → Awake sig κ a
      → z ≡ (zone c ss o ∪ on sig κ a) ∪ made sig state ss (M c)
      → ok_chart (E' c) true (z ∩ in_face_chart (E' c)) (cfg c) (M' c)
      ≡ ok_chart (E c) a (zone c ss o ∩ in_face_chart (E c)) (cfg c) (M c)
  unfolding made
  master_ok c ss κ a o z at r oo w ez =
      ok-one (E' c) at.one' true _ (cfg c) (M' c)
      ∙ rw (cut, at.fed, at.moved)
      (ok_chart-R sig κ a (zone c ss o ∩ in_face_chart (E c)) (E c).feedback (touch sig state ss) (cfg c) (M c)
      at.old_move
      (old-cut sig (zone c ss o) (in_face_chart (E c)) at.old-face) at.old_feedback
      (λ t. made-old ss (takes t) (E c).feedback at.old_feedback) w)
      ∙ sym (ok-one (E c) at.one a _ (cfg c) (M c))
    where
      cut : z ∩ in_face_chart (E' c) ≡ (zone c ss o ∩ in_face_chart (E c)) ∪ on sig κ a
      cut = ap₂ ◌∩◌ ez at.faced
          ∙ sets (zone c ss o ∷ on sig κ a ∷ made sig state ss (M c) ∷ in_face_chart (E c) ∷ call_in sig κ ∷ [])
          (B ⊑ Eₑ ∷ Eₑ ⊥ₑ A ∷ Eₑ ⊥ₑ D ∷ C ⊥ₑ D ∷ C ⊥ₑ Eₑ ∷ [])
          (((A ∪ₑ B) ∪ₑ C) ∩ₑ (D ∪ₑ Eₑ) ≐ (A ∩ₑ D) ∪ₑ B) tt
          (on_in sig κ a) (call-old sig κ (zone c ss o) (zone-old c ss κ o at oo))
          (call-old sig κ (in_face_chart (E c)) at.old-face)
          (made-old ss (M c) (in_face_chart (E c)) at.old-face) (made-call ss κ r (M c))

  -- what a part of a composed node is offered
  offer : (o u u' x i i' : Set) (κ : Option ℕ) (a : Bool) → u' ≡ u → i' ≡ i ∪ call_in sig κ → Old sig o
      → Old sig u → Old sig i
      → ((o ∪ on sig κ a) ∪ (u' ∩ x)) ∩ i' ≡ ((o ∪ (u ∩ x)) ∩ i) ∪ on sig κ a
  offer o u u' x i i' κ a p q oo ou oi = ap₂ (λ u i. ((o ∪ on sig κ a) ∪ (u ∩ x)) ∩ i) p q
      ∙ sets (o ∷ on sig κ a ∷ u ∷ x ∷ i ∷ call_in sig κ ∷ []) (B ⊑ Fₑ ∷ Fₑ ⊥ₑ A ∷ Fₑ ⊥ₑ C ∷ Fₑ ⊥ₑ Eₑ ∷ [])
      (((A ∪ₑ B) ∪ₑ (C ∩ₑ D)) ∩ₑ (Eₑ ∪ₑ Fₑ) ≐ ((A ∪ₑ (C ∩ₑ D)) ∩ₑ Eₑ) ∪ₑ B) tt
      (on_in sig κ a) (call-old sig κ o oo) (call-old sig κ u ou) (call-old sig κ i oi)

  mutual
    unfolding ok tree parts In in_face out touch

    -- offered the call signal of its nearest slave exactly if it is active, the rewritten tree permits what the tree
    -- does
    pub ok-t : (t : Tree) (κ : Option ℕ) (a : Bool) (o : Set) → RwT t κ → Old sig o → Awake sig κ a
        → ok_r (tree sig fbs t) (o ∪ on sig κ a) ≡ ok E state cfg M t a o
    ok-t (leaf c) κ a o r oo w = ok-one (E' c) r.one' true _ (cfg c) (M' c)
        ∙ rw (r.moved, r.fed)
        (ok_chart-R sig κ a o (E c).feedback (touch sig state nil) (cfg c) (M c) r.old_move oo r.old_feedback
        (λ t. sets ((E c).feedback ∷ []) [] (∅ₑ ∩ₑ A ≐ ∅ₑ) tt) w)
        ∙ sym (ok-one (E c) r.one a o (cfg c) (M c))
    ok-t (comp p q x) κ a o r oo w =
        ap₂ ◌&&◌
        (ap (ok_r (tree sig fbs p))
        (offer o U U' x (in_face E p) (in_face E' (tree sig fbs p)) κ a same_out (face-t p κ r.0) oo old_out
        (face-old p κ r.0))
        ∙ ok-t p κ a ((o ∪ (U ∩ x)) ∩ in_face E p) r.0
        (old-cut sig (o ∪ (U ∩ x)) (in_face E p) (face-old p κ r.0)) w)
        (ap (ok_r (tree sig fbs q))
        (offer o U U' x (in_face E q) (in_face E' (tree sig fbs q)) κ a same_out (face-t q κ r.1) oo old_out
        (face-old q κ r.1))
        ∙ ok-t q κ a ((o ∪ (U ∩ x)) ∩ in_face E q) r.1
        (old-cut sig (o ∪ (U ∩ x)) (in_face E q) (face-old q κ r.1)) w)
      where
        U : Set
        U = out M p ∪ out M q

        U' : Set
        U' = out M' (tree sig fbs p) ∪ out M' (tree sig fbs q)

        same_out : U' ≡ U
        same_out = ap₂ ◌∪◌ (out_t p κ r.0) (out_t q κ r.1)

        old_out : Old sig U
        old_out = old_join sig (out M p) (out M q) (out_old p κ r.0) (out_old q κ r.1)
    ok-t (hide p x y) κ a o r oo w =
        ap (ok_r (tree sig fbs p))
        (sets (o ∷ on sig κ a ∷ x ∷ call_in sig κ ∷ []) (B ⊑ D ∷ D ⊥ₑ C ∷ []) ((A ∪ₑ B) ∖ₑ C ≐ (A ∖ₑ C) ∪ₑ B) tt
        (on_in sig κ a)
        (call-old sig κ x r.0))
        ∙ ok-t p κ a (o ∖ x) r.1 (old_less sig o x oo) w
    ok-t (dec c ss) κ a o r oo w =
        nest_top ss r.1 c (fbs c ∪ calls sig ss) ((o ∪ on sig κ a) ∖ calls sig ss)
        ∙ and_cong _ _ _ _ (master_ok c ss κ a o Z r.0 r.2 oo w (zone_is c ss κ a o r.0 r.2 oo))
        (λ k. parts-ok ss κ a Z (zone c ss o) (made sig state ss (M c))
        (λ q. a && meets (cfg c) (M c) q) r.2 (zone-old c ss κ o r.0 oo)
        (zone_is c ss κ a o r.0 r.2 oo) (made-old ss (M c))
        (made_at ss (E c).feedback a (zone c ss o ∩ in_face_chart (E c)) (cfg c) (M c)
        (sym (ok-one (E c) r.0.one a _ (cfg c) (M c)) ∙ k)))
      where
        Z : Set
        Z = ((o ∪ on sig κ a) ∖ calls sig ss)
            ∪ (out M' (nest sig fbs ss c (fbs c ∪ calls sig ss)) ∩ (fbs c ∪ calls sig ss))

    -- z: what is offered before the cut; T: the call signals that are output; f: which states are active
    parts-ok : (ss : Slaves) (κ : Option ℕ) (a : Bool) (z zo T : Set) (f : ℕ → Bool) → RwS ss κ → Old sig zo
        → z ≡ (zo ∪ on sig κ a) ∪ T → ((b : Set) → Old sig b → T ∩ b ≡ ∅)
        → ((j : ℕ) → In j ss ≡ true → single (sig j) ∩ T ≡ cond (f (state j)) (single (sig j)) ∅)
        → parts ss z ≡ oks E state cfg M ss f zo
    parts-ok nil κ a z zo T f r oz ez tb th = refl
    parts-ok (snoc ss i t) κ a z zo T f r oz ez tb th =
        ap₂ ◌&&◌ (parts-ok ss κ a z zo T f r.0 oz ez tb (λ j e. th j (or_l (In j ss) (same j i) e)))
        (ap (ok_r (tree sig fbs t)) cut
        ∙ ok-t t (some i) (f (state i)) (zo ∩ in_face E t) r.2
        (old-cut sig zo (in_face E t) (face-old t (some i) r.2)) tt)
      where
        oi : Old sig (in_face E t)
        oi = face-old t (some i) r.2

        is_on : (b : Bool) → cond b (single (sig i)) ∅ ≡ on sig (some i) b
        is_on b = on_some sig i b

        cut : z ∩ in_face E' (tree sig fbs t) ≡ (zo ∩ in_face E t) ∪ on sig (some i) (f (state i))
        cut = ap₂ ◌∩◌ ez (face-t t (some i) r.2 ∙ ap (λ z. in_face E t ∪ z) (call_some sig i))
            ∙ sets (zo ∷ on sig κ a ∷ T ∷ in_face E t ∷ single (sig i) ∷ call_in sig κ
            ∷ on sig (some i) (f (state i)) ∷ [])
            (B ⊑ Fₑ ∷ Eₑ ⊥ₑ A ∷ Eₑ ⊥ₑ D ∷ Eₑ ⊥ₑ Fₑ ∷ Fₑ ⊥ₑ D ∷ C ⊥ₑ D ∷ Eₑ ∩ₑ C ≐ Gₑ ∷ [])
            (((A ∪ₑ B) ∪ₑ C) ∩ₑ (D ∪ₑ Eₑ) ≐ (A ∩ₑ D) ∪ₑ Gₑ) tt
            (on_in sig κ a) (oz i) (oi i) (sig_call sig inj κ i r.1) (call-old sig κ (in_face E t) oi)
            (tb (in_face E t) oi)
            (th i (or_r (In i ss) (same i i) (same_refl i)) ∙ is_on (f (state i)))
