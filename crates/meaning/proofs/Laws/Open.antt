-- Open choices, in both editions. In this order: a permitted choice is open (`permitted_open`); open are those that
-- would be permitted, whatever the input, if no guard stood against them (`open_unguarded`); a step searches the very
-- choices that are counted (`outcomes-choices`); how many are open, as sums over the places of one chart after another
-- (`how_many-next`), and one of them where there are any (`how_many-find`); where none is open, none is permitted
-- (`none_open`); and a small file counted by the definition (`open_one`, `open_two`).
use Rattle.std.specs.Prelude.{◌≡◌, Bool, ◌&&◌, get_or}
use Rattle.std.proofs.Math.Path.{refl, sym, ap}
use Rattle.std.proofs.Common.{◌∙◌, ap₂, eq-eqb}
use Rattle.std.proofs.Math.Bool.{true, false, cond, and-true}
use Rattle.std.proofs.lemmas.Bool.{false≢true}
use mathlib.Core.List.{List, [], ◌∷◌, ◌++◌, append_assoc, append-nil}
use Prim.Native.Nat.{ℕ, zero, suc, ◌+◌, ◌<◌}
use native.Mathlib.Omega.{arith}
use Rattle.signals.specs.Mask.{◌∩◌, ◌∖◌, within, apart}
use Rattle.signals.specs.Decide.{sets, A, ∅ₑ, ◌∩ₑ◌, ◌≐◌, ◌⊑◌}
use Rattle.layout.specs.declared.record.Transition.{Transition}
use Rattle.meaning.specs.Sums.{tally, one}
use Rattle.meaning.specs.Sums.Laws.{tally-find}
use Rattle.meaning.specs.Meaning.{Set, ∅, same, Chart, Tree, Slaves, leaf, comp, hide, dec, nil, snoc, Move}
use Rattle.meaning.specs.Meaning.{no_move, takes, stay, nth, pick, last_place, after, met?, untriggered, ok_chart}
use Rattle.meaning.specs.Meaning.{meets, ok}
use Rattle.meaning.specs.Meaning.{oks, permitted, upd, moves, upto, outcome_of, outcome, search, outcomes}
use Rattle.meaning.specs.File.{File}
use Rattle.meaning.specs.Calls.{outcomes_in}
use Rattle.meaning.specs.Open.{open_chart, open_tree, open_slaves, is_open, choices, how_many, open_choices, open_in}
use Rattle.meaning.specs.Laws.Bools.{and_l, and_r, and_i}
use Rattle.meaning.specs.Laws.Guards.{met_is}
use Rattle.meaning.proofs.Laws.Choices.{upto_cong, upd_off, Below}

-- ── a permitted choice is open ──

pub ok_chart_open : (C : Chart) (a : Bool) (o : Set) (s : ℕ) (m : Move) → ok_chart C a o s m ≡ true
    → open_chart C a s m ≡ true
unfolding ok_chart open_chart
ok_chart_open C false o s no_move h = refl
ok_chart_open C false o s (takes t) h = absurd (false≢true h)
ok_chart_open C false o s stay h = absurd (false≢true h)
ok_chart_open C true o s no_move h = absurd (false≢true h)
ok_chart_open C true o s (takes t) h = and_l (same t.from s) _ h
ok_chart_open C true o s stay h = and_l C.stays _ h

module _ (E : ℕ → Chart) (state : ℕ → ℕ) (cfg : ℕ → ℕ) (M : ℕ → Move) where
  mutual
    unfolding ok open_tree

    ok_open : (t : Tree) (a : Bool) (o : Set) → ok E state cfg M t a o ≡ true → open_tree E state cfg M t a ≡ true
    ok_open (leaf c) a o h = ok_chart_open (E c) a o (cfg c) (M c) h
    ok_open (comp l r x) a o h =
        and_i (ok_open l a _ (and_l _ _ h)) (ok_open r a _ (and_r (ok E state cfg M l a _) _ h))
    ok_open (hide l x y) a o h = ok_open l a _ h
    ok_open (dec c ss) a o h =
        and_i (ok_chart_open (E c) a _ (cfg c) (M c) (and_l _ _ h))
        (oks_open ss (λ q. a && meets (cfg c) (M c) q) _ (and_r (ok_chart (E c) a _ (cfg c) (M c)) _ h))

    oks_open : (ss : Slaves) (f : ℕ → Bool) (z : Set) → oks E state cfg M ss f z ≡ true
        → open_slaves E state cfg M ss f ≡ true
    oks_open nil f z h = refl
    oks_open (snoc ss i t) f z h =
        and_i (oks_open ss f z (and_l _ _ h)) (ok_open t (f (state i)) _ (and_r (oks E state cfg M ss f z) _ h))

  pub permitted_open : (t : Tree) (i : Set) → permitted E state cfg M t i ≡ true → is_open E state cfg M t ≡ true
  unfolding permitted is_open
  permitted_open t i h = ok_open t true _ h

-- ── guards aside ──

-- a transition without its guard
abbrev pub unguarded : Move → Move
unguarded no_move = no_move
unguarded (takes t) = takes (record { from = t.from; to = t.to; needed = ∅; barred = ∅; action = t.action })
unguarded stay = stay

-- a chart without the transitions that could trigger it while it stays
abbrev pub calm : Chart → Chart
calm C =
    record {
      states = C.states;
      initial = C.initial;
      transitions = [];
      feedback = C.feedback;
      extra = C.extra;
      stays = C.stays;
    }

-- no guard is met by every set
met-unguarded : (t : Transition) (i j : Set) → t.needed ≡ ∅ → t.barred ≡ ∅ → met? t i j ≡ true
met-unguarded t i j p q = rw (met_is, p, q)
    (and_i {a = within ∅ i} {b = apart ∅ j} (eq-eqb (∅ ∖ i) 0 (sets (i ∷ []) [] (∅ₑ ⊑ A) tt))
    (eq-eqb (∅ ∩ j) 0 (sets (j ∷ []) [] (∅ₑ ∩ₑ A ≐ ∅ₑ) tt)))

ok_chart-unguarded : (C : Chart) (a : Bool) (o : Set) (s : ℕ) (m : Move)
    → ok_chart (calm C) a o s (unguarded m) ≡ open_chart C a s m
unfolding ok_chart open_chart untriggered
ok_chart-unguarded C false o s no_move = refl
ok_chart-unguarded C false o s (takes t) = refl
ok_chart-unguarded C false o s stay = refl
ok_chart-unguarded C true o s no_move = refl
ok_chart-unguarded C true o s (takes t) =
    ap (λ b. same t.from s && b) (met-unguarded _ _ _ refl refl) ∙ and-true (same t.from s)
ok_chart-unguarded C true o s stay = and-true C.stays

meets-unguarded : (s : ℕ) (m : Move) (q : ℕ) → meets s (unguarded m) q ≡ meets s m q
unfolding meets after
meets-unguarded s no_move q = refl
meets-unguarded s (takes t) q = refl
meets-unguarded s stay q = refl

module _ (E : ℕ → Chart) (state : ℕ → ℕ) (cfg : ℕ → ℕ) (M : ℕ → Move) where
  abbrev calms : ℕ → Chart
  calms c = calm (E c)

  abbrev frees : ℕ → Move
  frees c = unguarded (M c)

  mutual
    unfolding ok open_tree

    ok-unguarded : (t : Tree) (a : Bool) (o : Set) → ok calms state cfg frees t a o ≡ open_tree E state cfg M t a
    ok-unguarded (leaf c) a o = ok_chart-unguarded (E c) a o (cfg c) (M c)
    ok-unguarded (comp l r x) a o = ap₂ ◌&&◌ (ok-unguarded l a _) (ok-unguarded r a _)
    ok-unguarded (hide l x y) a o = ok-unguarded l a _
    ok-unguarded (dec c ss) a o =
        ap₂ ◌&&◌ (ok_chart-unguarded (E c) a _ (cfg c) (M c))
        (oks_unguarded ss _ (λ q. a && meets (cfg c) (M c) q)
        (λ q. ap (λ b. a && b) (meets-unguarded (cfg c) (M c) q)) _)

    oks_unguarded : (ss : Slaves) (f g : ℕ → Bool) → ((q : ℕ) → f q ≡ g q) → (z : Set)
        → oks calms state cfg frees ss f z ≡ open_slaves E state cfg M ss g
    oks_unguarded nil f g e z = refl
    oks_unguarded (snoc ss i t) f g e z =
        ap₂ ◌&&◌ (oks_unguarded ss f g e z)
        (ok-unguarded t (f (state i)) _ ∙ ap (open_tree E state cfg M t) (e (state i)))

  -- open is permitted, whatever the input, once the transitions taken have no guard and nothing can trigger a chart
  -- that stays
  pub open_unguarded : (t : Tree) (i : Set) → permitted calms state cfg frees t i ≡ is_open E state cfg M t
  unfolding permitted is_open
  open_unguarded t i = ok-unguarded t true _

-- ── a step searches the choices that are counted ──

module _ {A B : Type 0} where
  -- f of each, one behind another
  unfoldable pub flat : (A → List B) → List A → List B
  flat f [] = []
  flat f (a ∷ as') = f a ++ flat f as'

  flat_++ : (f : A → List B) (as' bs : List A) → flat f (as' ++ bs) ≡ flat f as' ++ flat f bs
  unfolding flat
  flat_++ f [] bs = refl
  flat_++ f (a ∷ as') bs = ap (λ l. f a ++ l) (flat_++ f as' bs) ∙ sym (append_assoc (f a) (flat f as') (flat f bs))

  flat-upto : (f : A → List B) (m : ℕ) (g : ℕ → List A) → flat f (upto m g) ≡ upto m (λ v. flat f (g v))
  unfolding upto
  flat-upto f zero g = refl
  flat-upto f (suc m) g =
      flat_++ f (upto m g) (g (suc m)) ∙ ap (λ l. l ++ flat f (g (suc m))) (flat-upto f m g)

module _ (E : ℕ → Chart) (state : ℕ → ℕ) (cfg : ℕ → ℕ) (t : Tree) (i : Set) (N : ℕ) where
  pub search-choices : (n c : ℕ) (ch : ℕ → ℕ)
      → search E state cfg t i N n c ch ≡ flat (outcome E state cfg t i N) (choices E n c ch)
  unfolding search choices flat
  search-choices zero c ch = sym (append-nil (outcome E state cfg t i N ch))
  search-choices (suc n) c ch =
      upto_cong (last_place (E c)) _ _ (λ v l. search-choices n (suc c) (upd ch c v))
      ∙ sym (flat-upto (outcome E state cfg t i N) (last_place (E c)) (λ v. choices E n (suc c) (upd ch c v)))

  pub outcomes-choices : outcomes E state cfg t i N ≡ flat (outcome E state cfg t i N) (choices E N zero (λ c. zero))
  unfolding outcomes
  outcomes-choices = search-choices N zero (λ c. zero)

-- ── howMany ──

module _ {A : Type 0} (p : A → Bool) where
  how_many_++ : (as' bs : List A) → how_many p (as' ++ bs) ≡ how_many p as' + how_many p bs
  unfolding how_many
  how_many_++ [] bs = omega arith
  how_many_++ (a ∷ as') bs = let h = how_many_++ as' bs in omega arith

  how_many-upto : (m : ℕ) (g : ℕ → List A) → how_many p (upto m g) ≡ tally (suc m) (λ v. how_many p (g v))
  unfolding upto tally
  how_many-upto zero g = omega arith
  how_many-upto (suc m) g = let h = how_many-upto m g in let k = how_many_++ (upto m g) (g (suc m)) in omega arith

module _ (E : ℕ → Chart) (p : (ℕ → ℕ) → Bool) where
  -- over the places of the next chart
  pub how_many-next : (n c : ℕ) (ch : ℕ → ℕ)
      → how_many p (choices E (suc n) c ch)
      ≡ tally (suc (last_place (E c))) (λ v. how_many p (choices E n (suc c) (upd ch c v)))
  unfolding choices
  how_many-next n c ch = how_many-upto p (last_place (E c)) (λ v. choices E n (suc c) (upd ch c v))

  pub how_many-last : (c : ℕ) (ch : ℕ → ℕ) → how_many p (choices E zero c ch) ≡ one (p ch)
  unfolding choices how_many
  how_many-last c ch = omega arith

  -- if there are any, one goes on from the beginning
  pub how_many-find : (n c : ℕ) (ch : ℕ → ℕ) → 0 < how_many p (choices E n c ch)
      → (ch₂ : ℕ → ℕ) × Below c ch ch₂ × (p ch₂ ≡ true)
  how_many-find zero c ch h = (ch, λ i l. refl, go (p ch) refl (rw how_many-last at h))
    where
      go : (b : Bool) → p ch ≡ b → 0 < one b → b ≡ true
      go true e l = refl
      go false e l = absurd (omega arith)
  how_many-find (suc n) c ch h =
      let f : ℕ → ℕ = λ v. how_many p (choices E n (suc c) (upd ch c v)) in
      let u = tally-find (suc (last_place (E c))) f (rw how_many-next at h) in
      let w = how_many-find n (suc c) (upd ch c u.0) u.2 in
      (w.0, λ i l. w.1 i (omega arith) ∙ upd_off ch c u.0 i l, w.2)

-- ── where none is open, none is permitted ──

module _ (E : ℕ → Chart) (state : ℕ → ℕ) (cfg : ℕ → ℕ) (t : Tree) (i : Set) (N : ℕ) where
  abbrev open_at : (ℕ → ℕ) → Bool
  open_at ch = is_open E state cfg (moves E ch) t

  none_here : (cs : List (ℕ → ℕ)) → how_many open_at cs ≡ 0 → flat (outcome E state cfg t i N) cs ≡ []
  unfolding how_many flat outcome
  none_here [] h = refl
  none_here (ch ∷ cs) h = go (open_at ch) refl (permitted E state cfg (moves E ch) t i) refl h (none_here cs)
    where
      go : (a : Bool) → open_at ch ≡ a → (b : Bool) → permitted E state cfg (moves E ch) t i ≡ b
          → one a + how_many open_at cs ≡ 0 → (how_many open_at cs ≡ 0 → flat (outcome E state cfg t i N) cs ≡ [])
          → cond b (outcome_of E cfg t N ch ∷ []) [] ++ flat (outcome E state cfg t i N) cs ≡ []
      go true p b q z r = absurd (omega arith)
      go false p true q z r = absurd (false≢true (sym p ∙ permitted_open E state cfg (moves E ch) t i q))
      go false p false q z r = r (omega arith)

  pub none_open : open_choices E state cfg t N ≡ 0 → outcomes E state cfg t i N ≡ []
  unfolding open_choices
  none_open h = outcomes-choices E state cfg t i N ∙ none_here (choices E N zero (λ c. zero)) h

-- a file from whose configuration no choice is open has no step from it
pub none_open_in : (F : File) (config : List ℕ) (i : Set) → open_in F config ≡ 0 → outcomes_in F config i ≡ []
none_open_in F config i h = none_open F.chart F.state (λ c. get_or config c 0) _ i F.charts h

-- ── an example, counted by the definition ──

-- a master with two transitions from state 0 and one from state 1, and a slave of state 1 that has one from each of 0
-- and 1, and none from 2
abbrev between : ℕ → ℕ → Transition
between s u = record { from = s; to = u; needed = 0; barred = 0; action = 0 }

abbrev listed : ℕ → List Transition
listed zero = between 0 1 ∷ between 0 0 ∷ between 1 0 ∷ []
listed (suc c) = between 0 1 ∷ between 1 1 ∷ []

abbrev charted : Bool → ℕ → Chart
charted b c = record { states = 3; initial = 0; transitions = listed c; feedback = 0; extra = 0; stays = b }

abbrev standing : ℕ → ℕ → ℕ → ℕ
standing a b zero = a
standing a b (suc c) = b

abbrev open_from : Bool → ℕ → ℕ → ℕ
open_from b s u = open_choices (charted b) (λ i. 1) (standing s u) (dec 0 (snoc nil 0 (leaf 1))) 2

-- from four configurations
abbrev open_here : Bool → List ℕ
open_here b = open_from b 0 0 ∷ open_from b 1 1 ∷ open_from b 1 2 ∷ open_from b 0 2 ∷ []

-- edition 1: entering state 1 lets the slave take its transition, staying away does not; none where the active slave
-- has no transition
pub open_one : open_here false ≡ (2 ∷ 1 ∷ 0 ∷ 1 ∷ [])
unfolding same nth pick last_place after meets open_chart open_tree is_open upd moves upto choices how_many open_choices
open_one = refl

-- edition 2: either may also stay while it is active
pub open_two : open_here true ≡ (4 ∷ 4 ∷ 2 ∷ 3 ∷ [])
unfolding same nth pick last_place after meets open_chart open_tree is_open upd moves upto choices how_many open_choices
open_two = refl
