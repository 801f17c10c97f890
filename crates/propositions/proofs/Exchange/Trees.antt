-- Over a tree: with the two parts of compositions exchanged, at any depth and inside slaves too (`Exchanged`), it has
-- the interfaces, the output and the permitted choices that it had, and so the same outcomes; and as many open choices
-- (`open_exchanged`). Last, Proposition 4 of the paper: one composition with its parts exchanged (`symmetric`).
use Rattle.std.specs.Prelude.{◌≡◌, Bool, ◌&&◌, [], ◌∷◌}
use Rattle.std.proofs.Math.Path.{refl, ap, ap₂, fun_ext}
use Rattle.std.proofs.Common.{◌∙◌, arith}
use Rattle.std.proofs.Math.Bool.{true, and_comm}
use Prim.Native.Nat.{ℕ, zero, suc, ◌+◌, ◌<◌}
use Rattle.signals.specs.Mask.{◌∪◌, ◌∩◌, ◌∖◌}
use Rattle.signals.specs.Decide.{sets, A, B, ◌∪ₑ◌, ◌≐◌}
use Rattle.meaning.specs.Meaning.{Set, Chart, Tree, Slaves, leaf, comp, hide, dec, nil, snoc, Move, pick, last_place}
use Rattle.meaning.specs.Meaning.{action_of, after, in_face_chart, in_face, in_faces, actions, out_face, out_faces, out}
use Rattle.meaning.specs.Meaning.{outs}
use Rattle.meaning.specs.Meaning.{ok_chart, meets, ok, oks, permitted, upd, moves, nexts, place_of, places_from}
use Rattle.meaning.specs.Meaning.{outcome_of}
use Rattle.meaning.specs.Meaning.{upto, outcome, search, outcomes}
use Rattle.meaning.specs.Open.{open_chart, open_tree, open_slaves, is_open, choices, how_many, open_choices}
use Rattle.propositions.specs.Exchange.Trees.{Exchanged, Slaved, chart, parts, turned, inside, master, none, more}

module _ (E E' : ℕ → Chart) (s s' : ℕ → ℕ) where
  joined : (a b : Set) → a ∪ b ≡ b ∪ a
  joined a b = sets (a ∷ b ∷ []) [] (A ∪ₑ B ≐ B ∪ₑ A) tt

  -- ── interfaces ──

  mutual
    unfolding in_face

    pub in_exchanged : {t t' : Tree} → Exchanged E E' s s' t t' → in_face E' t' ≡ in_face E t
    in_exchanged (chart e) = ap in_face_chart e
    in_exchanged (parts r u) = ap₂ ◌∪◌ (in_exchanged r) (in_exchanged u)
    in_exchanged (turned {p = p} {q = q} r u) = ap₂ ◌∪◌ (in_exchanged u) (in_exchanged r)
        ∙ joined (in_face E q) (in_face E p)
    in_exchanged (inside {x = x} r) = ap (λ z. z ∖ x) (in_exchanged r)
    in_exchanged (master e r) = ap₂ ◌∪◌ (ap in_face_chart e) (ins_exchanged r)

    ins_exchanged : {ss ss' : Slaves} → Slaved E E' s s' ss ss' → in_faces E' ss' ≡ in_faces E ss
    ins_exchanged none = refl
    ins_exchanged (more r e u) = ap₂ ◌∪◌ (ins_exchanged r) (in_exchanged u)

  mutual
    unfolding out_face

    pub out_face-exchanged : {t t' : Tree} → Exchanged E E' s s' t t' → out_face E' t' ≡ out_face E t
    out_face-exchanged (chart e) = ap (λ C. actions C.transitions) e
    out_face-exchanged (parts r u) = ap₂ ◌∪◌ (out_face-exchanged r) (out_face-exchanged u)
    out_face-exchanged (turned {p = p} {q = q} r u) = ap₂ ◌∪◌ (out_face-exchanged u) (out_face-exchanged r)
        ∙ joined (out_face E q) (out_face E p)
    out_face-exchanged (inside {y = y} r) = ap (λ z. z ∖ y) (out_face-exchanged r)
    out_face-exchanged (master e r) = ap₂ ◌∪◌ (ap (λ C. actions C.transitions) e) (out_faces_exchanged r)

    out_faces_exchanged : {ss ss' : Slaves} → Slaved E E' s s' ss ss' → out_faces E' ss' ≡ out_faces E ss
    out_faces_exchanged none = refl
    out_faces_exchanged (more r e u) = ap₂ ◌∪◌ (out_faces_exchanged r) (out_face-exchanged u)

  -- ── a choice ──

  module _ (M M' : ℕ → Move) (m : (c : ℕ) → E' c ≡ E c → M' c ≡ M c) where
    mutual
      unfolding out

      pub out_exchanged : {t t' : Tree} → Exchanged E E' s s' t t' → out M' t' ≡ out M t
      out_exchanged (chart {c} e) = ap action_of (m c e)
      out_exchanged (parts r u) = ap₂ ◌∪◌ (out_exchanged r) (out_exchanged u)
      out_exchanged (turned {p = p} {q = q} r u) = ap₂ ◌∪◌ (out_exchanged u) (out_exchanged r)
          ∙ joined (out M q) (out M p)
      out_exchanged (inside {y = y} r) = ap (λ z. z ∖ y) (out_exchanged r)
      out_exchanged (master {c} e r) = ap₂ ◌∪◌ (ap action_of (m c e)) (outs_exchanged r)

      outs_exchanged : {ss ss' : Slaves} → Slaved E E' s s' ss ss' → outs M' ss' ≡ outs M ss
      outs_exchanged none = refl
      outs_exchanged (more r e u) = ap₂ ◌∪◌ (outs_exchanged r) (out_exchanged u)

    module _ (cfg : ℕ → ℕ) where
      -- what a part of a composition is offered
      offered : (o x : Set) {w w' f f' : Set} → w' ≡ w → f' ≡ f → (o ∪ (w' ∩ x)) ∩ f' ≡ (o ∪ (w ∩ x)) ∩ f
      offered o x p q = ap₂ (λ w f. (o ∪ (w ∩ x)) ∩ f) p q

      mutual
        unfolding ok

        pub ok-exchanged : {t t' : Tree} → Exchanged E E' s s' t t' → (a : Bool) (o : Set)
            → ok E' s' cfg M' t' a o ≡ ok E s cfg M t a o
        ok-exchanged (chart {c} e) a o = ap₂ (λ C k. ok_chart C a o (cfg c) k) e (m c e)
        ok-exchanged (parts {p} {p'} {q} {q'} {x} r u) a o =
            let w = ap₂ ◌∪◌ (out_exchanged r) (out_exchanged u) in
            ap₂ ◌&&◌ (ap (λ z. ok E' s' cfg M' p' a z) (offered o x w (in_exchanged r)) ∙ ok-exchanged r a _)
            (ap (λ z. ok E' s' cfg M' q' a z) (offered o x w (in_exchanged u)) ∙ ok-exchanged u a _)
        ok-exchanged (turned {p} {p'} {q} {q'} {x} r u) a o =
            let w = ap₂ ◌∪◌ (out_exchanged u) (out_exchanged r) ∙ joined (out M q) (out M p) in
            ap₂ ◌&&◌ (ap (λ z. ok E' s' cfg M' q' a z) (offered o x w (in_exchanged u)) ∙ ok-exchanged u a _)
            (ap (λ z. ok E' s' cfg M' p' a z) (offered o x w (in_exchanged r)) ∙ ok-exchanged r a _)
            ∙ and_comm (ok E s cfg M q a ((o ∪ ((out M p ∪ out M q) ∩ x)) ∩ in_face E q))
            (ok E s cfg M p a ((o ∪ ((out M p ∪ out M q) ∩ x)) ∩ in_face E p))
        ok-exchanged (inside {x = x} r) a o = ok-exchanged r a (o ∖ x)
        ok-exchanged (master {c} {ss} {ss'} e r) a o =
            ap (λ z. ok_chart (E' c) a ((o ∪ ((action_of (M' c) ∪ outs M' ss') ∩ (E' c).feedback))
            ∩ in_face_chart (E' c))
            (cfg c) (M' c) && z)
            (oks_exchanged r (λ q. a && meets (cfg c) (M' c) q)
            (o ∪ ((action_of (M' c) ∪ outs M' ss') ∩ (E' c).feedback)))
            ∙ rw (e, m c e, outs_exchanged r)

        oks_exchanged : {ss ss' : Slaves} → Slaved E E' s s' ss ss' → (f : ℕ → Bool) (z : Set)
            → oks E' s' cfg M' ss' f z ≡ oks E s cfg M ss f z
        oks_exchanged none f z = refl
        oks_exchanged (more {ss} {ss'} {i} {t} {t'} r e u) f z =
            ap₂ ◌&&◌ (oks_exchanged r f z)
            (ap₂ (λ k y. ok E' s' cfg M' t' (f k) (z ∩ y)) e (in_exchanged u)
            ∙ ok-exchanged u (f (s i)) (z ∩ in_face E t))

      pub permitted-exchanged : {t t' : Tree} → Exchanged E E' s s' t t' → (i : Set)
          → permitted E' s' cfg M' t' i ≡ permitted E s cfg M t i
      unfolding permitted
      permitted-exchanged {t} {t'} r i = ap (λ f. ok E' s' cfg M' t' true (i ∩ f)) (in_exchanged r)
          ∙ ok-exchanged r true (i ∩ in_face E t)

      -- guards aside
      mutual
        unfolding open_tree

        pub opens-exchanged : {t t' : Tree} → Exchanged E E' s s' t t' → (a : Bool)
            → open_tree E' s' cfg M' t' a ≡ open_tree E s cfg M t a
        opens-exchanged (chart {c} e) a = ap₂ (λ C k. open_chart C a (cfg c) k) e (m c e)
        opens-exchanged (parts r u) a = ap₂ ◌&&◌ (opens-exchanged r a) (opens-exchanged u a)
        opens-exchanged (turned {p = p} {q = q} r u) a =
            ap₂ ◌&&◌ (opens-exchanged u a) (opens-exchanged r a)
            ∙ and_comm (open_tree E s cfg M q a) (open_tree E s cfg M p a)
        opens-exchanged (inside r) a = opens-exchanged r a
        opens-exchanged (master {c} {ss} {ss'} e r) a =
            ap (λ z. open_chart (E' c) a (cfg c) (M' c) && z)
            (open_slaves-exchanged r (λ q. a && meets (cfg c) (M' c) q))
            ∙ rw (e, m c e)

        open_slaves-exchanged : {ss ss' : Slaves} → Slaved E E' s s' ss ss' → (f : ℕ → Bool)
            → open_slaves E' s' cfg M' ss' f ≡ open_slaves E s cfg M ss f
        open_slaves-exchanged none f = refl
        open_slaves-exchanged (more {ss} {ss'} {i} {t} {t'} r e u) f =
            ap₂ ◌&&◌ (open_slaves-exchanged r f)
            (ap (λ k. open_tree E' s' cfg M' t' (f k)) e ∙ opens-exchanged u (f (s i)))

  -- ── all choices ──

  moved : (ch : ℕ → ℕ) (c : ℕ) → E' c ≡ E c → moves E' ch c ≡ moves E ch c
  unfolding moves
  moved ch c e = ap (λ C. pick C (ch c)) e

  module _ (N : ℕ) (cs : (c : ℕ) → c < N → E' c ≡ E c) (cfg : ℕ → ℕ) where
    nexts-exchanged : (ch : ℕ → ℕ) (c n : ℕ) → c + n ≡ N → nexts cfg (moves E' ch) c n ≡ nexts cfg (moves E ch) c n
    unfolding nexts
    nexts-exchanged ch c zero l = refl
    nexts-exchanged ch c (suc n) l =
        ap₂ (λ v vs. after (cfg c) v ∷ vs) (moved ch c (cs c (omega arith)))
        (nexts-exchanged ch (suc c) n (omega arith))

    places_exchanged : (ch : ℕ → ℕ) (c n : ℕ) → c + n ≡ N → places_from E' ch c n ≡ places_from E ch c n
    unfolding places_from
    places_exchanged ch c zero l = refl
    places_exchanged ch c (suc n) l =
        ap₂ (λ C vs. place_of (pick C (ch c)) (ch c) ∷ vs) (cs c (omega arith))
        (places_exchanged ch (suc c) n (omega arith))

    module _ {t t' : Tree} (r : Exchanged E E' s s' t t') (i : Set) where
      outcome-exchanged : (ch : ℕ → ℕ) → outcome E' s' cfg t' i N ch ≡ outcome E s cfg t i N ch
      unfolding outcome outcome_of
      outcome-exchanged ch = rw (
        permitted-exchanged (moves E ch) (moves E' ch) (moved ch) cfg r i,
        out_exchanged (moves E ch) (moves E' ch) (moved ch) r,
        nexts-exchanged ch zero N (omega arith),
        places_exchanged ch zero N (omega arith),
      )

      search-exchanged : (n c : ℕ) (ch : ℕ → ℕ) → c + n ≡ N
          → search E' s' cfg t' i N n c ch ≡ search E s cfg t i N n c ch
      unfolding search
      search-exchanged zero c ch l = outcome-exchanged ch
      search-exchanged (suc n) c ch l =
          ap₂ (λ C g. upto (last_place C) g) (cs c (omega arith))
          (fun_ext (λ v. search-exchanged n (suc c) (upd ch c v) (omega arith)))

      pub outcomes-exchanged : outcomes E' s' cfg t' i N ≡ outcomes E s cfg t i N
      unfolding outcomes
      outcomes-exchanged = search-exchanged N zero (λ c. zero) (omega arith)

    -- the choices are the same, and as many are open
    choices-exchanged : (n c : ℕ) (ch : ℕ → ℕ) → c + n ≡ N → choices E' n c ch ≡ choices E n c ch
    unfolding choices
    choices-exchanged zero c ch l = refl
    choices-exchanged (suc n) c ch l =
        ap₂ (λ C g. upto (last_place C) g) (cs c (omega arith))
        (fun_ext (λ v. choices-exchanged n (suc c) (upd ch c v) (omega arith)))

    pub open_exchanged : {t t' : Tree} → Exchanged E E' s s' t t'
        → open_choices E' s' cfg t' N ≡ open_choices E s cfg t N
    unfolding open_choices is_open
    open_exchanged r =
        ap₂ how_many (fun_ext (λ ch. opens-exchanged (moves E ch) (moves E' ch) (moved ch) cfg r true))
        (choices-exchanged N zero (λ c. zero) (omega arith))

-- ── nothing exchanged, and one composition exchanged ──

module _ (E : ℕ → Chart) (s : ℕ → ℕ) where
  mutual
    pub as_it_is : (t : Tree) → Exchanged E E s s t t
    as_it_is (leaf c) = chart refl
    as_it_is (comp p q x) = parts (as_it_is p) (as_it_is q)
    as_it_is (hide p x y) = inside (as_it_is p)
    as_it_is (dec c ss) = master refl (as_they_are ss)

    as_they_are : (ss : Slaves) → Slaved E E s s ss ss
    as_they_are nil = none
    as_they_are (snoc ss i t) = more (as_they_are ss) refl (as_it_is t)

  -- Proposition 4: both orders of two parts permit the same
  module _ (cfg : ℕ → ℕ) (M : ℕ → Move) (p q : Tree) (x : Set) where
    pub symmetric : (a : Bool) (o : Set) → ok E s cfg M (comp q p x) a o ≡ ok E s cfg M (comp p q x) a o
    symmetric a o = ok-exchanged E E s s M M (λ c e. refl) cfg (turned (as_it_is p) (as_it_is q)) a o
