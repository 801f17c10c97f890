-- Choices in order. In this order: lists one behind another (`upto`); a choice with one place more (`upd`), and which
-- go on from it (`Below`); a beginning that has no permitted choice (`search_empty`); the states after a choice
-- (`nexts`), and equal ones (`eq_list`); its places; and the transition at a place of a list that is read from a body
-- (`nth-from`).
use Rattle.std.specs.Prelude.{◌≡◌, true, false, length, get_or, drop}
use Rattle.std.proofs.Math.Path.{refl, ap, ap₂}
use Rattle.std.proofs.Common.{sym, ◌∙◌, add-zero, add-one, drop_of_length-le}
use Rattle.std.proofs.lemmas.Bool.{false≢true}
use mathlib.Core.List.{List, [], ◌∷◌, ◌++◌, append-nil}
use Prim.Native.Nat.{ℕ, zero, suc, ◌+◌, ◌-◌, ◌≤◌, ◌<◌}
use native.Mathlib.Omega.{arith}
use Rattle.std.proofs.Math.Seq.{drop-cons}
use Rattle.layout.specs.Body.{from}
use Rattle.layout.specs.declared.record.Transition.{Transition}
use Rattle.meaning.specs.Numbers.{no_place}
use Rattle.meaning.specs.Meaning.{Set, same, Chart, Tree, Move, takes, nth, behind, pick, last_place, after}
use Rattle.meaning.specs.Meaning.{permitted, upd, moves, nexts, place_of, places_from, upto, outcome, search}
use Rattle.meaning.specs.Meaning.{eq_list}
use Rattle.meaning.specs.Laws.Bools.{and_l, and_r, same_refl, same→≡, same_≢}

-- ── upto ──

module _ {A : Type 0} where
  pub upto_cong : (m : ℕ) (f g : ℕ → List A) → ((v : ℕ) → v ≤ m → f v ≡ g v) → upto m f ≡ upto m g
  unfolding upto
  upto_cong zero f g h = h zero (omega arith)
  upto_cong (suc m) f g h = ap₂ ◌++◌ (upto_cong m f g (λ v l. h v (omega arith))) (h (suc m) (omega arith))

  -- all but the first are empty
  pub upto-first : (m : ℕ) (f : ℕ → List A) → ((k : ℕ) → k < m → f (suc k) ≡ []) → upto m f ≡ f zero
  unfolding upto
  upto-first zero f h = refl
  upto-first (suc m) f h = rw (upto-first m f (λ k l. h k (omega arith)), h m (omega arith)) (append-nil (f zero))

-- ── upd ──

pub upd-at : (ch : ℕ → ℕ) (c v : ℕ) → upd ch c v c ≡ v
unfolding upd
upd-at ch c v = rw (same_refl c)

pub upd_other : (ch : ℕ → ℕ) (c v i : ℕ) → (i ≡ c → ⊥) → upd ch c v i ≡ ch i
unfolding upd
upd_other ch c v i h = rw (same_≢ i c h)

-- a chart that was settled before
pub upd_off : (ch : ℕ → ℕ) (c v i : ℕ) → i < c → upd ch c v i ≡ ch i
upd_off ch c v i l = upd_other ch c v i (λ e. omega arith)

-- ch₂ goes on from what ch gives the charts below c
abbrev pub Below : ℕ → (ℕ → ℕ) → (ℕ → ℕ) → Type 0
Below c ch ch₂ = (i : ℕ) → i < c → ch₂ i ≡ ch i

-- ── search ──

module _ (E : ℕ → Chart) (state : ℕ → ℕ) (cfg : ℕ → ℕ) (t : Tree) (inp : Set) (N : ℕ) where
  pub search_empty : (n c : ℕ) (ch : ℕ → ℕ)
      → ((ch₂ : ℕ → ℕ) → Below c ch ch₂ → permitted E state cfg (moves E ch₂) t inp ≡ false)
      → search E state cfg t inp N n c ch ≡ []
  unfolding search outcome
  search_empty zero c ch h = rw (h ch (λ i l. refl))
  search_empty (suc n) c ch h = upto_cong (last_place (E c)) _ (λ v. []) (λ v l. search_empty n (suc c) (upd ch c v)
      (λ ch₂ b. h ch₂ (λ i l. b i (omega arith) ∙ upd_off ch c v i l))) ∙ upto-first (last_place (E c)) (λ v. [])
      (λ k l. refl)

-- ── nexts ──

pub length-nexts : (cfg : ℕ → ℕ) (M : ℕ → Move) (c n : ℕ) → length (nexts cfg M c n) ≡ n
unfolding nexts
length-nexts cfg M c zero = refl
length-nexts cfg M c (suc n) = ap suc (length-nexts cfg M (suc c) n)

pub get_or-nexts : (cfg : ℕ → ℕ) (M : ℕ → Move) (c n i : ℕ) → i < n
    → get_or (nexts cfg M c n) i 0 ≡ after (cfg (c + i)) (M (c + i))
unfolding nexts
get_or-nexts cfg M c zero i l = absurd (omega arith)
get_or-nexts cfg M c (suc n) zero l = ap (λ z. after (cfg z) (M z)) (sym (add-zero c))
get_or-nexts cfg M c (suc n) (suc i) l =
    get_or-nexts cfg M (suc c) n i (omega arith)
    ∙ ap (λ z. after (cfg z) (M z)) (let e : suc c + i ≡ c + suc i = omega arith in e)

-- ── eq_list ──

pub eq_list→≡ : (l m : List ℕ) → eq_list l m ≡ true → l ≡ m
unfolding eq_list
eq_list→≡ [] [] e = refl
eq_list→≡ [] (y ∷ ys) e = absurd (false≢true e)
eq_list→≡ (x ∷ xs) [] e = absurd (false≢true e)
eq_list→≡ (x ∷ xs) (y ∷ ys) e = ap₂ (λ a l. a ∷ l) (same→≡ x y (and_l _ _ e)) (eq_list→≡ xs ys (and_r (same x y) _ e))

pub eq_list_refl : (l : List ℕ) → eq_list l l ≡ true
unfolding eq_list
eq_list_refl [] = refl
eq_list_refl (x ∷ xs) = rw (same_refl x) (eq_list_refl xs)

-- what is left of two lists, from i on, as a loop compares them: one more is equal, one is not, none is left
module _ (a b : List ℕ) (i : ℕ) (p : i < length a) (q : i < length b) where
  pub eq_list-more : get_or a i 0 ≡ get_or b i 0
      → eq_list (drop i a) (drop i b) ≡ eq_list (drop (i + 1) a) (drop (i + 1) b)
  unfolding eq_list
  eq_list-more e = rw (add-one, drop-cons a i 0 p, drop-cons b i 0 q, e, same_refl)

  pub eq_list-differ : (get_or a i 0 ≡ get_or b i 0 → ⊥) → eq_list (drop i a) (drop i b) ≡ false
  unfolding eq_list
  eq_list-differ e = rw (drop-cons a i 0 p, drop-cons b i 0 q, same_≢ (get_or a i 0) (get_or b i 0) e)

pub eq_list-end : (a b : List ℕ) (i : ℕ) → length a ≤ i → length b ≤ i → eq_list (drop i a) (drop i b) ≡ true
unfolding eq_list
eq_list-end a b i p q = rw (drop_of_length-le a p, drop_of_length-le b q)

-- ── place_of ──

nth-place : (m : Move) (ts : List Transition) (k v : ℕ) → k < length ts → place_of (nth m ts k) v ≡ v - 1
unfolding nth place_of
nth-place m [] k v l = absurd (omega arith)
nth-place m (t ∷ ts) zero v l = refl
nth-place m (t ∷ ts) (suc k) v l = nth-place m ts k v (omega arith)

-- a transition's place is its place in the chart's list, in both editions
pub place-own : (C : Chart) (k : ℕ) → k < length C.transitions → place_of (pick C (suc k)) (suc k) ≡ k
unfolding pick
place-own C k l = nth-place (behind C) C.transitions k (suc k) l ∙ omega arith

-- ── placesFrom ──

module _ (E : ℕ → Chart) where
  -- of chart c at place v
  abbrev place_at : ℕ → ℕ → ℕ
  place_at c v = place_of (pick (E c) v) v

  pub length_places : (ch : ℕ → ℕ) (c n : ℕ) → length (places_from E ch c n) ≡ n
  unfolding places_from
  length_places ch c zero = refl
  length_places ch c (suc n) = ap suc (length_places ch (suc c) n)

  pub get_or_places : (ch : ℕ → ℕ) (k n c : ℕ) → c < n
      → get_or (places_from E ch k n) c no_place ≡ place_at (k + c) (ch (k + c))
  unfolding places_from
  get_or_places ch k zero c l = absurd (omega arith)
  get_or_places ch k (suc n) zero l = ap (λ z. place_at z (ch z)) (let e : k ≡ k + 0 = omega arith in e)
  get_or_places ch k (suc n) (suc c) l =
      get_or_places ch (suc k) n c (omega arith)
      ∙ ap (λ z. place_at z (ch z)) (let e : suc k + c ≡ k + suc c = omega arith in e)

  pub places_cong : (ch ch₂ : ℕ → ℕ) (c n : ℕ) → ((i : ℕ) → c ≤ i → i < c + n → ch₂ i ≡ ch i)
      → places_from E ch₂ c n ≡ places_from E ch c n
  unfolding places_from
  places_cong ch ch₂ c zero h = refl
  places_cong ch ch₂ c (suc n) h =
      ap₂ ◌∷◌ (ap (place_at c) (h c (omega arith) (omega arith)))
      (places_cong ch ch₂ (suc c) n (λ i l m. h i (omega arith) (omega arith)))

  places_more : (ch : ℕ → ℕ) (c n : ℕ)
      → places_from E ch c (suc n) ≡ places_from E ch c n ++ (place_at (c + n) (ch (c + n)) ∷ [])
  unfolding places_from
  places_more ch c zero = ap (λ z. place_at z (ch z) ∷ []) (sym (add-zero c))
  places_more ch c (suc n) = ap (λ l. place_at c (ch c) ∷ l)
      (places_more ch (suc c) n
      ∙ ap (λ z. places_from E ch (suc c) n ++ (place_at z (ch z) ∷ []))
      (let e : suc c + n ≡ c + suc n = omega arith in e))

  -- one chart more is settled
  pub places_upd : (ch : ℕ → ℕ) (k v : ℕ)
      → places_from E (upd ch k v) zero (suc k) ≡ places_from E ch zero k ++ (place_of (pick (E k) v) v ∷ [])
  places_upd ch k v = places_more (upd ch k v) zero k
      ∙ ap₂ (λ l x. l ++ (x ∷ [])) (places_cong ch (upd ch k v) zero k (λ i l m. upd_off ch k v i (omega arith)))
      (ap (λ z. place_at z (upd ch k v z)) (let e : zero + k ≡ k = omega arith in e) ∙ ap (place_at k) (upd-at ch k v))

-- ── a list that is read from a body ──

pub nth-from : (m : Move) (f : ℕ → Transition) (k n u : ℕ) → u < n → nth m (from f k n) u ≡ takes (f (k + u))
unfolding from nth
nth-from m f k zero u l = absurd (omega arith)
nth-from m f k (suc n) zero l = ap (λ z. takes (f z)) (let h : k ≡ k + 0 = omega arith in h)
nth-from m f k (suc n) (suc u) l =
    nth-from m f (suc k) n u (omega arith) ∙ ap (λ z. takes (f z)) (let h : suc k + u ≡ k + suc u = omega arith in h)
