-- The step in words (RULES 5.9, 5.10): a step is given exactly if a permitted choice exists (`given_if`, `refused_if`);
-- it is the first in the order (`given-first`); the mark is yes exactly if all permitted choices agree on output and
-- next configuration (`mark_yes`, `mark_no`). Then: an inactive part takes none (`inactive`); a signal outside the
-- interface changes nothing (`outside-outcomes`, `outside`); the next configuration is valid (`valid-next`). All of it
-- over a tree: of files, what is outside and what is valid is in Files, what is inactive in Activity.
use Rattle.std.proofs.Math.Path.{◌≡◌, refl, sym, ap, subst, fun_ext}
use Rattle.std.proofs.Common.{◌∙◌, true≢false, inl, inr, zero-add}
use Rattle.std.specs.Prelude.{Bool, ◌&&◌, cond, ◌⊎◌, length, get_or}
use Rattle.std.proofs.Math.Bool.{true, false}
use Rattle.std.proofs.lemmas.Bool.{false≢true}
use mathlib.Core.List.Memᴰ
use mathlib.Core.List.{List, [], ◌∷◌, ◌++◌, Memᴰ}
use Prim.Native.Nat.{ℕ, zero, suc, ◌+◌, ◌≤◌, ◌<◌}
use Rattle.std.proofs.Math.Decide.{dec_lt}
use native.Mathlib.Omega.{arith}
use Rattle.layout.specs.declared.record.Transition.{Transition}
use Rattle.signals.specs.Mask.{◌∩◌, ◌∖◌}
use Rattle.meaning.specs.Numbers.{no_step}
use Rattle.meaning.specs.Meaning.{Set, same, Chart, Tree, Slaves, leaf, comp, hide, dec, nil, snoc, Move, no_move}
use Rattle.meaning.specs.Meaning.{takes, stay, nth, pick, behind, last_place, after, out, ok_chart, ok, oks}
use Rattle.meaning.specs.Meaning.{permitted, in_face, upd, moves, nexts, places_from, Outcome, outcome_of}
use Rattle.meaning.specs.Meaning.{first_places, upto, outcome, search, outcomes, Answer, refused, given, eq_list}
use Rattle.meaning.specs.Meaning.{agree, answer}
use Rattle.meaning.specs.File.{Has, HasS}
use Rattle.meaning.specs.Words.{Before, output_by, next_by, places_by, Given}
use Rattle.meaning.specs.Words as words
use Rattle.meaning.specs.Laws.Bools.{or_elim, same_refl, same→≡, and_l, and_r}
use Rattle.meaning.proofs.Laws.Choices.{upd-at, upd_other, upd_off, Below, length-nexts, get_or-nexts, eq_list→≡}
use Rattle.meaning.proofs.Laws.Choices.{eq_list_refl}

-- ── lists one behind another ──
module _ {A : Type 0} where
  upto_in : (m v : ℕ) (f : ℕ → List A) (x : A) → v ≤ m → Memᴰ x (f v) → Memᴰ x (upto m f)
  unfolding upto
  upto_in zero v f x l h = subst (λ z. Memᴰ x (f z)) (let e : v ≡ 0 = omega arith in e) h
  upto_in (suc m) v f x l h = go (dec_lt v (suc m)) (λ l'. upto_in m v f x l' h)
    where
      go : Dec (v < suc m) → (v ≤ m → Memᴰ x (upto m f)) → Memᴰ x (upto m f ++ f (suc m))
      go (yes b) r = Memᴰ.append_left (f (suc m)) (r (omega arith))
      go (no b) r =
          Memᴰ.append_right (upto m f) (subst (λ z. Memᴰ x (f z)) (let e : v ≡ suc m = omega arith in e) h)

  -- an element stands in one of the lists
  In-one : ℕ → (ℕ → List A) → A → Type 0
  In-one m f x = (v : ℕ) × (v ≤ m) × Memᴰ x (f v)

  upto_out : (m : ℕ) (f : ℕ → List A) (x : A) → Memᴰ x (upto m f) → In-one m f x
  unfolding upto In-one
  upto_out zero f x h = (zero, omega arith, h)
  upto_out (suc m) f x h = go (Memᴰ.append_cases (upto m f) h) (upto_out m f x)
    where
      go : Memᴰ x (upto m f) ⊎ Memᴰ x (f (suc m)) → (Memᴰ x (upto m f) → In-one m f x)
          → In-one (suc m) f x
      go (inl a) r = let u = r a in (u.0, (let l = u.1 in omega arith), u.2)
      go (inr b) r = (suc m, omega arith, b)

  nil_left : (a b : List A) → a ++ b ≡ [] → a ≡ []
  nil_left [] b e = refl
  nil_left (x ∷ a) b e = absurd (let z : ◌≡◌ {A = ℕ} 0 1 = cc in omega arith)

  nil_right : (a b : List A) → a ++ b ≡ [] → b ≡ []
  nil_right [] b e = e
  nil_right (x ∷ a) b e = absurd (let z : ◌≡◌ {A = ℕ} 0 1 = cc in omega arith)

  upto_empty : (m : ℕ) (f : ℕ → List A) → upto m f ≡ [] → (u : ℕ) → u ≤ m → f u ≡ []
  unfolding upto
  upto_empty zero f e u l = ap f (let z : u ≡ 0 = omega arith in z) ∙ e
  upto_empty (suc m) f e u l = go (dec_lt u (suc m)) (upto_empty m f (nil_left (upto m f) (f (suc m)) e) u)
    where
      go : Dec (u < suc m) → (u ≤ m → f u ≡ []) → f u ≡ []
      go (yes b) r = r (omega arith)
      go (no b) r = ap f (let z : u ≡ suc m = omega arith in z) ∙ nil_right (upto m f) (f (suc m)) e

  -- the first list that is not empty, and what it begins with
  pub record Heads (m : ℕ) (f : ℕ → List A) (x : A) : Type 0 where
    pub place : ℕ
    pub most : place ≤ m
    pub rest : List A
    pub begins : f place ≡ x ∷ rest
    pub before : (u : ℕ) → u < place → f u ≡ []

  upto-head : (m : ℕ) (f : ℕ → List A) (x : A) (xs : List A) → upto m f ≡ x ∷ xs → Heads m f x
  unfolding upto
  upto-head zero f x xs e =
      record { place = 0; most = omega arith; rest = xs; begins = e; before = λ u l. absurd (omega arith) }
  upto-head (suc m) f x xs e = go (upto m f) refl e (λ ys q. upto-head m f x ys q)
    where
      go : (l : List A) → upto m f ≡ l → l ++ f (suc m) ≡ x ∷ xs → ((ys : List A) → upto m f ≡ x ∷ ys → Heads m f x)
          → Heads (suc m) f x
      go [] p q r = record {
        place = suc m;
        most = omega arith;
        rest = xs;
        begins = q;
        before = λ u l. upto_empty m f p u (omega arith);
      }
      go (y ∷ ys) p q r =
          let h = r ys (p ∙ ap (λ z. z ∷ ys) (let z : y ≡ x = cc in z)) in
          record {
            place = h.place;
            most = (let l = h.most in omega arith);
            rest = h.rest;
            begins = h.begins;
            before = h.before;
          }

-- ── choices ──

module _ (E : ℕ → Chart) (state : ℕ → ℕ) (cfg : ℕ → ℕ) (t : Tree) (inp : Set) (N : ℕ) where
  abbrev Choice : (ℕ → ℕ) → Type 0
  Choice = words.Choice E state cfg t inp N

  abbrev Permitted : (ℕ → ℕ) → Type 0
  Permitted = words.Permitted E state cfg t inp N

  -- a choice's outcome
  abbrev by : (ℕ → ℕ) → Outcome
  by ch =
      record {
        output = output_by E state cfg t inp N ch;
        next = next_by E state cfg t inp N ch;
        places = places_by E state cfg t inp N ch;
      }

  -- ch settles the charts below k alone
  abbrev Begun : ℕ → (ℕ → ℕ) → Type 0
  Begun k ch = ((c : ℕ) → c < k → ch c ≤ last_place (E c)) × ((c : ℕ) → k ≤ c → ch c ≡ 0)

  begun_more : (k v : ℕ) (ch : ℕ → ℕ) → Begun k ch → v ≤ last_place (E k) → Begun (suc k) (upd ch k v)
  begun_more k v ch b l =
      (λ c m. go c m (dec_lt c k), λ c m. upd_other ch k v c (λ e. omega arith) ∙ b.1 c (omega arith))
    where
      go : (c : ℕ) → c < suc k → Dec (c < k) → upd ch k v c ≤ last_place (E c)
      go c m (yes d) = rw (upd_off ch k v c d) (b.0 c d)
      go c m (no d) = let e : c ≡ k = omega arith in rw (e, upd-at) l

  goes-on-more : (k : ℕ) (ch ch₂ : ℕ → ℕ) → Below k ch ch₂ → Below (suc k) (upd ch k (ch₂ k)) ch₂
  goes-on-more k ch ch₂ g c m = go (dec_lt c k)
    where
      go : Dec (c < k) → ch₂ c ≡ upd ch k (ch₂ k) c
      go (yes d) = g c d ∙ sym (upd_off ch k (ch₂ k) c d)
      go (no d) = let e : c ≡ k = omega arith in rw (e, upd-at)

  goes-on_less : (k v : ℕ) (ch ch₂ : ℕ → ℕ) → Below (suc k) (upd ch k v) ch₂ → Below k ch ch₂
  goes-on_less k v ch ch₂ g c m = g c (omega arith) ∙ upd_off ch k v c m

  -- all settled: there is but one choice
  settled : (k : ℕ) (ch ch₂ : ℕ → ℕ) → k ≡ N → Begun k ch → Choice ch₂ → Below k ch ch₂ → ch₂ ≡ ch
  settled k ch ch₂ e b q g = fun_ext (λ c. go c (dec_lt c k))
    where
      go : (c : ℕ) → Dec (c < k) → ch₂ c ≡ ch c
      go c (yes d) = g c d
      go c (no d) = q.others c (omega arith) ∙ sym (b.1 c (omega arith))

  begun_all : (k : ℕ) (ch : ℕ → ℕ) → k ≡ N → Begun k ch → Choice ch
  begun_all k ch e b = record { places = λ c l. b.0 c (omega arith); others = λ c l. b.1 c (omega arith) }

  -- ── each permitted choice has its outcome in the list ──
  has : (n k : ℕ) (ch ch₂ : ℕ → ℕ) → n + k ≡ N → Begun k ch → Choice ch₂ → Below k ch ch₂ → Permitted ch₂
      → Memᴰ (by ch₂) (search E state cfg t inp N n k ch)
  unfolding search outcome outcome_of
  has zero k ch ch₂ e b q g p =
      subst (λ z. Memᴰ (by ch₂) (outcome E state cfg t inp N z)) (settled k ch ch₂ (omega arith) b q g)
      (rw p (Memᴰ.head refl))
  has (suc n) k ch ch₂ e b q g p =
      upto_in (last_place (E k)) (ch₂ k)
      (λ v. search E state cfg t inp N n (suc k) (upd ch k v)) (by ch₂) (q.places k (omega arith))
      (has n (suc k) (upd ch k (ch₂ k)) ch₂ (omega arith) (begun_more k (ch₂ k) ch b (q.places k (omega arith))) q
      (goes-on-more k ch ch₂ g) p)

  -- ── each outcome in the list is that of a permitted choice ──
  pub record From (k : ℕ) (ch : ℕ → ℕ) (x : Outcome) : Type 0 where
    pub choice : ℕ → ℕ
    pub chosen : Choice choice
    pub goes_on : Below k ch choice
    pub permits : Permitted choice
    pub is : x ≡ by choice

  one-outcome : (k : ℕ) (ch : ℕ → ℕ) (x : Outcome) (p : Bool) → permitted E state cfg (moves E ch) t inp ≡ p → k ≡ N
      → Begun k ch
      → Memᴰ x (cond p (by ch ∷ []) []) → From k ch x
  one-outcome k ch x true e f b h =
      record {
        choice = ch;
        chosen = begun_all k ch f b;
        goes_on = λ c l. refl;
        permits = e;
        is = only_one (Memᴰ.cases_cons h);
      }
    where
      only_one : (x ≡ by ch) ⊎ Memᴰ x [] → x ≡ by ch
      only_one (inl q) = q
      only_one (inr m) = absurd (Memᴰ.not-nil m)
  one-outcome k ch x false e f b h = absurd (Memᴰ.not-nil h)

  only : (n k : ℕ) (ch : ℕ → ℕ) (x : Outcome) → n + k ≡ N → Begun k ch → Memᴰ x (search E state cfg t inp N n k ch)
      → From k ch x
  unfolding search outcome outcome_of In-one
  only zero k ch x e b h = one-outcome k ch x (permitted E state cfg (moves E ch) t inp) refl (omega arith) b h
  only (suc n) k ch x e b h =
      let u = upto_out (last_place (E k)) (λ v. search E state cfg t inp N n (suc k) (upd ch k v)) x h in
      let r = only n (suc k) (upd ch k u.0) x (omega arith) (begun_more k u.0 ch b u.1) u.2 in
      record {
        choice = r.choice;
        chosen = r.chosen;
        goes_on = goes-on_less k u.0 ch r.choice r.goes_on;
        permits = r.permits;
        is = r.is;
      }

  -- ── the list begins with the first ──
  pub record First (k : ℕ) (ch : ℕ → ℕ) (x : Outcome) : Type 0 where
    pub from : From k ch x
    pub first : (ch₂ : ℕ → ℕ) → Choice ch₂ → Permitted ch₂ → Below k ch ch₂ → Before ch₂ from.choice → ⊥

  first_of : (n k : ℕ) (ch : ℕ → ℕ) (x : Outcome) (xs : List Outcome) → n + k ≡ N → Begun k ch
      → search E state cfg t inp N n k ch ≡ x ∷ xs
      → First k ch x
  unfolding search
  first_of zero k ch x xs e b h =
      let r = only zero k ch x e b (unfold search in subst (λ l. Memᴰ x l) (sym h) (Memᴰ.head refl)) in
      record {
        from = r;
        first = λ ch₂ q p g w. let s = settled k ch ch₂ (omega arith) b q g in
            let s₂ = settled k ch r.choice (omega arith) b r.chosen r.goes_on in
            (let z : ch₂ w.at ≡ r.choice w.at = ap (λ f. f w.at) (s ∙ sym s₂) in let l = w.lower in
            omega arith);
      }
  first_of (suc n) k ch x xs e b h =
      let u = upto-head (last_place (E k)) (λ v. search E state cfg t inp N n (suc k) (upd ch k v)) x xs h in
      let b₂ = begun_more k u.place ch b u.most in
      let r = first_of n (suc k) (upd ch k u.place) x u.rest (omega arith) b₂ u.begins in
      earlier u r (λ ch₂ q p g l. absurd (Memᴰ.not-nil (subst (λ z. Memᴰ (by ch₂) z) (u.before (ch₂ k) l)
      (has n (suc k) (upd ch k (ch₂ k)) ch₂ (omega arith) (begun_more k (ch₂ k) ch b (q.places k (omega arith))) q
      (goes-on-more k ch ch₂ g) p))))
    where
      earlier : (u : Heads (last_place (E k)) (λ v. search E state cfg t inp N n (suc k) (upd ch k v)) x)
          → First (suc k) (upd ch k u.place) x
          → ((ch₂ : ℕ → ℕ) → Choice ch₂ → Permitted ch₂ → Below k ch ch₂ → ch₂ k < u.place → ⊥) → First k ch x
      earlier u r not_lower = record {
        from = f;
        first = λ ch₂ q p g w. go ch₂ q p g w (dec_lt (ch₂ k) u.place) (dec_lt u.place (ch₂ k));
      }
        where
          f : From k ch x
          f = record {
            choice = r.from.choice;
            chosen = r.from.chosen;
            goes_on = goes-on_less k u.place ch r.from.choice r.from.goes_on;
            permits = r.from.permits;
            is = r.from.is;
          }

          mine : r.from.choice k ≡ u.place
          mine = r.from.goes_on k (omega arith) ∙ upd-at ch k u.place

          go : (ch₂ : ℕ → ℕ) → Choice ch₂ → Permitted ch₂ → Below k ch ch₂ → Before ch₂ r.from.choice
              → Dec (ch₂ k < u.place)
              → Dec (u.place < ch₂ k) → ⊥
          go ch₂ q p g w (yes l) m = not_lower ch₂ q p g l
          go ch₂ q p g w (no l) (no m) = let z : ch₂ k ≡ u.place = omega arith in
              r.first ch₂ q p (subst (λ v. Below (suc k) (upd ch k v) ch₂) z (goes-on-more k ch ch₂ g)) w
          go ch₂ q p g w (no l) (yes m) = apart (dec_lt k w.at) (dec_lt w.at k)
            where
              apart : Dec (k < w.at) → Dec (w.at < k) → ⊥
              apart (yes a) c = let z = w.equal k a in let y = mine in omega arith
              apart (no a) (yes c) = let z = g w.at c in let y = f.goes_on w.at c in
                  let l₂ = w.lower in omega arith
              apart (no a) (no c) = let z : w.at ≡ k = omega arith in
                  let l₂ = subst (λ v. ch₂ v < r.from.choice v) z w.lower in let y = mine in
                  omega arith

  nowhere : Begun zero (λ c. zero)
  nowhere = (λ c l. absurd (omega arith), λ c l. refl)

  -- the answer, by the list of outcomes
  abbrev the_answer : Answer
  the_answer = answer (outcomes E state cfg t inp N)

  -- ── a step is given exactly if a permitted choice exists ──
  pub given_if : (ch : ℕ → ℕ) → Choice ch → Permitted ch
      → (o : Set) × (n : List ℕ) × (m : Bool) × (the_answer ≡ given o n m)
  unfolding outcomes answer
  given_if ch q p = go (outcomes E state cfg t inp N) refl
      (has N zero (λ c. zero) ch (omega arith) nowhere q (λ c l. absurd (omega arith)) p)
    where
      go : (l : List Outcome) → outcomes E state cfg t inp N ≡ l → Memᴰ (by ch) (outcomes E state cfg t inp N)
          → (o : Set) × (n : List ℕ) × (m : Bool) × (the_answer ≡ given o n m)
      go [] e h = absurd (Memᴰ.not-nil (subst (λ z. Memᴰ (by ch) z) e h))
      go (x ∷ xs) e h = (x.output, x.next, agree x xs, ap answer e)

  pub refused_if : ((ch : ℕ → ℕ) → Choice ch → Permitted ch → ⊥) → the_answer ≡ refused no_step
  unfolding outcomes answer
  refused_if none_there = go (outcomes E state cfg t inp N) refl
    where
      go : (l : List Outcome) → outcomes E state cfg t inp N ≡ l → answer l ≡ refused no_step
      go [] e = refl
      go (x ∷ xs) e =
          let r =
          only N zero (λ c. zero) x (omega arith) nowhere (subst (λ z. Memᴰ x z) (sym e) (Memᴰ.head refl)) in
          absurd (none_there r.choice r.chosen r.permits)

  -- ── it is the first in the order ──

  -- an answer that gives a step, as the list of outcomes that it stands for
  pub record Listed (l : List Outcome) (o : Set) (n : List ℕ) (m : Bool) : Type 0 where
    pub head : Outcome
    pub rest : List Outcome
    pub is : l ≡ head ∷ rest
    pub output : head.output ≡ o
    pub next : head.next ≡ n
    pub mark : agree head rest ≡ m

  listed : (l : List Outcome) (o : Set) (n : List ℕ) (m : Bool) → answer l ≡ given o n m → Listed l o n m
  unfolding answer
  listed [] o n m e = absurd (let z : ◌≡◌ {A = ℕ} 0 1 = cc in omega arith)
  listed (x ∷ xs) o n m e = record { head = x; rest = xs; is = refl; output = cc; next = cc; mark = cc }

  pub given-first : (o : Set) (n : List ℕ) (m : Bool) → the_answer ≡ given o n m → Given E state cfg t inp N o n
  unfolding outcomes first_places
  given-first o n m e =
      let l = listed (outcomes E state cfg t inp N) o n m e in
      let r = first_of N zero (λ c. zero) l.head l.rest (omega arith) nowhere l.is in
      record {
        choice = r.from.choice;
        chosen = r.from.chosen;
        permits = r.from.permits;
        output = sym l.output ∙ ap (λ x. x.output) r.from.is;
        next = sym l.next ∙ ap (λ x. x.next) r.from.is;
        places = ap first_places l.is ∙ ap (λ x. x.places) r.from.is;
        first = λ ch q p w. r.first ch q p (λ c b. absurd (omega arith)) w;
      }

-- ── the mark ──

-- two outcomes agree
abbrev agrees : Outcome → Outcome → Bool
agrees a b = same a.output b.output && eq_list a.next b.next

agrees_eq : (a b : Outcome) → agrees a b ≡ true → (b.output ≡ a.output) × (b.next ≡ a.next)
agrees_eq a b e = (
  sym (same→≡ a.output b.output (and_l _ _ e)),
  sym (eq_list→≡ a.next b.next (and_r (same a.output b.output) _ e)),
)

agrees_self : (a b : Outcome) → b.output ≡ a.output → b.next ≡ a.next → agrees a b ≡ true
agrees_self a b p q = rw (p, q, same_refl a.output) (eq_list_refl a.next)

-- b is as a is
abbrev Alike : Outcome → Outcome → Type 0
Alike a b = (b.output ≡ a.output) × (b.next ≡ a.next)

alike_self : (a b : Outcome) → b ≡ a → Alike a b
alike_self a b q = (ap (λ x. x.output) q, ap (λ x. x.next) q)

agree_in : (a : Outcome) (l : List Outcome) → agree a l ≡ true → (b : Outcome) → Memᴰ b l → Alike a b
unfolding agree
agree_in a [] e b h = absurd (Memᴰ.not-nil h)
agree_in a (x ∷ xs) e b h = go (Memᴰ.cases_cons h) (agree_in a xs (and_r (agrees a x) _ e) b)
  where
    go : (b ≡ x) ⊎ Memᴰ b xs → (Memᴰ b xs → Alike a b) → Alike a b
    go (inl q) r = subst (λ z. Alike a z) (sym q) (agrees_eq a x (and_l _ _ e))
    go (inr m) r = r m

agree-all : (a : Outcome) (l : List Outcome) → agree a l ≡ true → (b : Outcome) → Memᴰ b (a ∷ l) → Alike a b
agree-all a l e b h = go (Memᴰ.cases_cons h)
  where
    go : (b ≡ a) ⊎ Memᴰ b l → Alike a b
    go (inl q) = alike_self a b q
    go (inr m) = agree_in a l e b m

-- one of the list differs from a
abbrev Odd : Outcome → List Outcome → Type 0
Odd a l = (b : Outcome) × Memᴰ b l × ((b.output ≡ a.output) × (b.next ≡ a.next) → ⊥)

agree-odd : (a : Outcome) (l : List Outcome) → agree a l ≡ false → Odd a l
unfolding agree
agree-odd a [] e = absurd (true≢false e)
agree-odd a (x ∷ xs) e = go (agrees a x) refl e (agree-odd a xs)
  where
    go : (b : Bool) → agrees a x ≡ b → (b && agree a xs) ≡ false → (agree a xs ≡ false → Odd a xs) → Odd a (x ∷ xs)
    go true q h r = let u = r h in (u.0, Memᴰ.tail u.1, u.2)
    go false q h r = (x, Memᴰ.head refl, λ w. false≢true (sym q ∙ agrees_self a x w.0 w.1))

module _ (E : ℕ → Chart) (state : ℕ → ℕ) (cfg : ℕ → ℕ) (t : Tree) (inp : Set) (N : ℕ) (o : Set) (n : List ℕ) where
  -- yes: all permitted choices agree on output and next configuration
  pub mark_yes : answer (outcomes E state cfg t inp N) ≡ given o n true → (ch : ℕ → ℕ) → Choice E state cfg t inp N ch
      → Permitted E state cfg t inp N ch
      → (output_by E state cfg t inp N ch ≡ o) × (next_by E state cfg t inp N ch ≡ n)
  unfolding outcomes
  mark_yes e ch q p =
      let l = listed E state cfg t inp N (outcomes E state cfg t inp N) o n true e in
      let a = agree-all l.head l.rest l.mark (by E state cfg t inp N ch)
      (subst (λ z. Memᴰ (by E state cfg t inp N ch) z) l.is
      (has E state cfg t inp N N zero (λ c. zero) ch (omega arith) (nowhere E state cfg t inp N) q
      (λ c l. absurd (omega arith)) p)) in
      (a.0 ∙ l.output, a.1 ∙ l.next)

  -- no: some permitted choice has another output or next configuration
  pub mark_no : answer (outcomes E state cfg t inp N) ≡ given o n false
      → (ch : ℕ → ℕ) × Choice E state cfg t inp N ch × Permitted E state cfg t inp N ch
      × ((output_by E state cfg t inp N ch ≡ o) × (next_by E state cfg t inp N ch ≡ n) → ⊥)
  unfolding outcomes
  mark_no e =
      let l = listed E state cfg t inp N (outcomes E state cfg t inp N) o n false e in
      let u = agree-odd l.head l.rest l.mark in
      let r = only E state cfg t inp N N zero (λ c. zero) u.0 (omega arith) (nowhere E state cfg t inp N)
      (subst (λ z. Memᴰ u.0 z) (sym l.is) (Memᴰ.tail u.1)) in (
        r.choice,
        r.chosen,
        r.permits,
        λ w. u.2
            (ap (λ x. x.output) r.is ∙ w.0 ∙ sym l.output, ap (λ x. x.next) r.is ∙ w.1 ∙ sym l.next),
      )

-- ── a part that is inactive takes none, so that its charts stay in their states and put out nothing ──
module _ (E : ℕ → Chart) (state : ℕ → ℕ) (cfg : ℕ → ℕ) (M : ℕ → Move) where
  chart_inactive : (C : Chart) (o : Set) (s : ℕ) (m : Move) → ok_chart C false o s m ≡ true → m ≡ no_move
  unfolding ok_chart
  chart_inactive C o s no_move h = refl
  chart_inactive C o s (takes u) h = absurd (false≢true h)
  chart_inactive C o s stay h = absurd (false≢true h)

  mutual
    unfolding ok Has

    pub inactive : (t : Tree) (o : Set) → ok E state cfg M t false o ≡ true → (c : ℕ) → Has t c ≡ true → M c ≡ no_move
    inactive (leaf d) o h c k = ap M (same→≡ c d k) ∙ chart_inactive (E d) o (cfg d) (M d) h
    inactive (comp l r x) o h c k =
        or_elim (Has l c) (Has r c) _ (λ e. inactive l _ (and_l _ _ h) c e)
        (λ e. inactive r _ (and_r (ok E state cfg M l false _) _ h) c e) k
    inactive (hide l x y) o h c k = inactive l (o ∖ x) h c k
    inactive (dec d ss) o h c k =
        or_elim (same c d) (HasS ss c) _ (λ e. ap M (same→≡ c d e) ∙ chart_inactive (E d) _ (cfg d) (M d) (and_l _ _ h))
        (λ e. inactive_slaves ss _ (and_r (ok_chart (E d) false _ (cfg d) (M d)) _ h) c e) k

    pub inactive_slaves : (ss : Slaves) (z : Set) → oks E state cfg M ss (λ q. false) z ≡ true → (c : ℕ)
        → HasS ss c ≡ true → M c ≡ no_move
    inactive_slaves nil z h c k = absurd (false≢true k)
    inactive_slaves (snoc ss i t) z h c k =
        or_elim (Has t c) (HasS ss c) _ (λ e. inactive t _ (and_r (oks E state cfg M ss (λ q. false) z) _ h) c e)
        (λ e. inactive_slaves ss z (and_l _ _ h) c e) k

-- ── a signal outside the interface changes nothing ──
module _ (E : ℕ → Chart) (state : ℕ → ℕ) (cfg : ℕ → ℕ) (t : Tree) (i j : Set) (N : ℕ)
    (alike : i ∩ in_face E t ≡ j ∩ in_face E t) where
  outside-search : (n c : ℕ) (ch : ℕ → ℕ) → search E state cfg t i N n c ch ≡ search E state cfg t j N n c ch
  unfolding search outcome permitted
  outside-search zero c ch = rw alike
  outside-search (suc n) c ch = ap (upto (last_place (E c))) (fun_ext (λ v. outside-search n (suc c) (upd ch c v)))

  -- all that a step may give is the same, places too
  pub outside-outcomes : outcomes E state cfg t i N ≡ outcomes E state cfg t j N
  unfolding outcomes
  outside-outcomes = outside-search N zero (λ c. zero)

  pub outside : answer (outcomes E state cfg t i N) ≡ answer (outcomes E state cfg t j N)
  outside = ap answer outside-outcomes

-- ── the next configuration is valid again ──
nth_in : (m : Move) (ts : List Transition) (k s w : ℕ) → ((u : Transition) → Memᴰ u ts → u.to < w) → after s m < w
    → after s (nth m ts k) < w
unfolding nth after
nth_in m [] k s w h l = l
nth_in m (u ∷ ts) zero s w h l = h u (Memᴰ.head refl)
nth_in m (u ∷ ts) (suc k) s w h l = nth_in m ts k s w (λ v i. h v (Memᴰ.tail i)) l

-- what comes behind the transitions keeps the state
behind_in : (b : Bool) (s w : ℕ) → s < w → after s (cond b stay no_move) < w
unfolding after
behind_in true s w l = l
behind_in false s w l = l

module _ (E : ℕ → Chart) (state : ℕ → ℕ) (cfg : ℕ → ℕ) (t : Tree) (inp : Set) (N : ℕ)
    (leads : (c : ℕ) → c < N → (u : Transition) → Memᴰ u (E c).transitions → u.to < (E c).states)
    (valid : (c : ℕ) → c < N → cfg c < (E c).states) where
  after_in : (c v : ℕ) → c < N → after (cfg c) (pick (E c) v) < (E c).states
  unfolding pick after
  after_in c zero l = valid c l
  after_in c (suc k) l = nth_in (behind (E c)) (E c).transitions k (cfg c) (E c).states (leads c l)
      (behind_in (E c).stays (cfg c) (E c).states (valid c l))

  pub valid-next : (o : Set) (n : List ℕ) (m : Bool) → answer (outcomes E state cfg t inp N) ≡ given o n m
      → (length n ≡ N) × ((c : ℕ) → c < N → get_or n c 0 < (E c).states)
  unfolding moves
  valid-next o n m e =
      let g = given-first E state cfg t inp N o n m e in (
        rw g.next (length-nexts cfg (moves E g.choice) zero N),
        λ c l. rw (g.next, get_or-nexts cfg (moves E g.choice) zero N c l, zero-add) (after_in c (g.choice c) l),
      )
