-- A search over tables finds what a step means, in both editions: chart by chart (simulate), and for a file (found-is).
use Rattle.std.specs.Prelude.{◌≡◌, Bool, ◌&&◌, ◌≢◌, length, get_or}
use Rattle.std.proofs.Math.Path.{refl, ap, ap₂, subst}
use Rattle.std.proofs.Common.{sym, ◌∙◌}
use Rattle.std.proofs.Math.Bool.{true, false, cond}
use Rattle.std.proofs.lemmas.Bool.{false≢true}
use Rattle.std.proofs.Math.Option.{Option, none, some}
use mathlib.Core.List.{List, [], ◌∷◌, ◌++◌, append-nil}
use Prim.Native.Nat.{ℕ, zero, suc, ◌+◌, ◌-◌, ◌≤◌, ◌<◌}
use native.Mathlib.Omega.{arith}
use Rattle.std.proofs.Math.Decide.{dec_lt}
use Rattle.std.proofs.Math.ListN.{replicate}
use Rattle.signals.specs.Mask.{◌∪◌, ◌∩◌, Within}
use Rattle.signals.specs.Decide.{sets, A, B, C, ∅ₑ, ◌∪ₑ◌, ◌≐◌, ◌⊑◌}
use Rattle.layout.specs.declared.record.Transition.{Transition}
use Rattle.meaning.specs.Meaning.{Set, same, Chart, Tree, Move, no_move, takes, stay, nth, behind, pick, last_place}
use Rattle.meaning.specs.Meaning.{action_of, permitted, upd, moves, places_from, upto, Outcome, outcome_of, outcome}
use Rattle.meaning.specs.Meaning.{search, outcomes, answer, first_places}
use Rattle.meaning.specs.Laws.Bools.{same_refl, same→≡, same_≢, every, and_i}
use Rattle.meaning.specs.Numbers.{most_charts, no_place, stay_place}
use Rattle.meaning.proofs.Laws.Editions.{places_one, places_two, stay_last}
use Rattle.meaning.specs.Calls.{all_places}
use Rattle.meaning.specs.File.{File, whole_of}
use Rattle.meaning.specs.Laws.Names.{kap}
use Rattle.meaning.proofs.Laws.Choices.{upto-first, length-nexts, length_places}
use Rattle.meaning.specs.Rewriting.{union_up_to}
use Rattle.wiring.specs.Reach.{down, back, offered, Small}
use Rattle.wiring.specs.Permitted.{awake, Stands, offer}
use Rattle.wiring.specs.Sure.{surely, open?}
use Rattle.wiring.specs.Total.{nth_near, nth-behind}
use Rattle.wiring.specs.Dropped.{test, may_bounds, permitted_open, Bounds, sures, low, passes}
use Rattle.wiring.specs.Pruning.{opens, fine, hunt, hunted_all, may_of, may_of_lem, behind_empty}
use Rattle.wiring.specs.Filter.{lasts, kept}
use Rattle.cells.specs.Table.{action_at, count_at, place_at}
use Rattle.settling.specs.Trail.{Trail, beginning}
use Rattle.meaning.specs.Rewriting.{in_turn}
use Rattle.settling.specs.Hunt.{wakes, taken, rested, fine_at, over, nothing}
use Rattle.settling.specs.Calm.{stays_at, stayed, quiet_at, hunts_both}
use Rattle.settling.specs.Hunt.Laws.{among_each}
use Rattle.tables.specs.Contents.{Is, Listed, start, other, fails, again, fresh, may_at, Rows, Candidates, Stayers}
use Rattle.tables.specs.Contents.{Lows, answer_of}
use Rattle.tables.specs.Narrowing.Laws.{join_at}
use Rattle.tables.specs.Insertion.{opens_by, opening}
use Rattle.tables.specs.Padded.{Padded, padded_fewer, padded_none, padded_one, padded_append, padded_nothing}
use Rattle.tables.specs.Padded.{padded_again, Sizes, found, found_places}
use Rattle.tables.specs.Follow.{Follows, Placed, taken_placed, rested_placed, stayed_placed, moves-on, wakes_is}
use Rattle.tables.specs.Follow.{taken-follows, rested-follows, stayed-follows, fine_is, output_is, next_is}

upto-last : (f : ℕ → List Outcome) (n v : ℕ) → v ≡ suc n → upto v f ≡ upto n f ++ f v
unfolding upto
upto-last f n v e = rw e

-- ── a chart's list, with what comes behind it ──

pub nth_takes : (d : Move) (ts : List Transition) (p : ℕ) (t : Transition) → nth no_move ts p ≡ takes t
    → nth d ts p ≡ takes t
unfolding nth
nth_takes d [] p t e = absurd (let z : ◌≡◌ {A = ℕ} 0 1 = cc in omega arith)
nth_takes d (u ∷ ts) zero t e = e
nth_takes d (u ∷ ts) (suc p) t e = nth_takes d ts p t e

nth_there : (ts : List Transition) (p : ℕ) (t : Transition) → nth no_move ts p ≡ takes t → p < length ts
unfolding nth
nth_there [] p t e = absurd (let z : ◌≡◌ {A = ℕ} 0 1 = cc in omega arith)
nth_there (u ∷ ts) zero t e = omega arith
nth_there (u ∷ ts) (suc p) t e = let h = nth_there ts p t e in omega arith

taking_nth : (b : Bool) (q : ℕ) (d : Move) (ts : List Transition) (p : ℕ) → p < length ts
    → open? b false q (nth d ts p) ≡ false
unfolding open? nth
taking_nth b q d [] p l = absurd (omega arith)
taking_nth b q d (t ∷ ts) zero l = refl
taking_nth b q d (t ∷ ts) (suc p) l = taking_nth b q d ts p (omega arith)

-- an inactive chart neither takes a transition nor stays
taking : (q : ℕ) (K : Chart) (p : ℕ) → p < last_place K → open? K.stays false q (pick K (suc p)) ≡ false
unfolding open? pick last_place
taking q K p l = go K.stays l
  where
    staying : Dec (p < length K.transitions) → open? true false q (nth stay K.transitions p) ≡ false
    staying (yes m) = taking_nth true q stay K.transitions p m
    staying (no m) = ap (open? true false q) (nth-behind stay K.transitions p (omega arith))

    go : (b : Bool) → p < cond b (suc (length K.transitions)) (length K.transitions)
        → open? b false q (nth (cond b stay no_move) K.transitions p) ≡ false
    go true l = staying (dec_lt p (length K.transitions))
    go false l = taking_nth false q no_move K.transitions p l

-- a transition that is open and kept puts out no more than the candidates
module _ (m s : List ℕ) (c : ℕ) (ts : List Transition) (q : ℕ) (keep : ℕ → Bool) (b₀ a : Bool) (u : ℕ)
    (o : open? b₀ a q (nth no_move ts u) ≡ true) (kp : keep (suc u) ≡ true) where
  -- it is the last of the first p + 1, or earlier
  or_earlier : (p : ℕ) (P : Type 0) → u < suc p → (u ≡ p → P) → (u < p → P) → P
  or_earlier p P l f g = go (same u p) refl
    where
      go : (b : Bool) → same u p ≡ b → P
      go true e = f (same→≡ u p e)
      go false e = g (let z : u ≢ p = λ w. false≢true (sym e ∙ rw w (same_refl p)) in omega arith)

  is_in : (p : ℕ) (tr : Transition) → nth no_move ts p ≡ takes tr → u ≡ p → (v n : ℕ) → v < n → Is m s c v tr
      → Within (action_of (nth no_move ts u)) (union_up_to n (action_at m c))
  unfolding action_of
  is_in p tr e z v n l i = rw (z, e, ← i.action) (join_at n (action_at m c) v l)

  from_there : (b : Bool) (x : ℕ) (tr : Transition) → open? b₀ b x (takes tr) ≡ true → tr.from ≡ x
  unfolding open?
  from_there true x tr h = same→≡ tr.from x h
  from_there false x tr h = absurd (false≢true h)

  listed_in : {p n : ℕ} → Listed m s c ts q keep p n → u < p
      → Within (action_of (nth no_move ts u)) (union_up_to n (action_at m c))
  unfolding union_up_to
  listed_in start l = absurd (omega arith)
  listed_in (other {p = p} {n = n} r tr e h) l =
      or_earlier p _ l (λ z. absurd (h (from_there a q tr (rw (z, e) at o)))) (λ w. listed_in r w)
  listed_in (fails {p = p} {n = n} r h) l =
      or_earlier p _ l (λ z. absurd (false≢true (sym h ∙ ap (λ y. keep (suc y)) (sym z) ∙ kp))) (λ w. listed_in r w)
  listed_in (again {p = p} {n = n} r tr e v b i) l = or_earlier p _ l (λ z. is_in p tr e z v n b i) (λ w. listed_in r w)
  listed_in (fresh {p = p} {n = n} r tr e h b i o) l = or_earlier p _ l (λ z. is_in p tr e z n (suc n) (omega arith) i)
      (λ w. sets (action_of (nth no_move ts u) ∷ union_up_to n (action_at m c) ∷ action_at m c n ∷ []) (A ⊑ B ∷ [])
      (A ⊑ B ∪ₑ C) tt (listed_in r w))

-- the place of a candidate is one of the transitions that were passed
listed-place : (m s : List ℕ) (c : ℕ) (ts : List Transition) (q : ℕ) (keep : ℕ → Bool) {p n : ℕ}
    → Listed m s c ts q keep p n → (v : ℕ) → v < n → place_at s c v < p
listed-place m s c ts q keep start v l = absurd (omega arith)
listed-place m s c ts q keep (other r t e f) v l = let h = listed-place m s c ts q keep r v l in omega arith
listed-place m s c ts q keep (fails r e) v l = let h = listed-place m s c ts q keep r v l in omega arith
listed-place m s c ts q keep (again r t e u b i) v l = let h = listed-place m s c ts q keep r v l in omega arith
listed-place m s c ts q keep (fresh {p = p} {n = n} r t e f k i o) v l =
    go (dec_lt v n) (λ d. listed-place m s c ts q keep r v d)
  where
    go : Dec (v < n) → (v < n → place_at s c v < p) → place_at s c v < suc p
    go (yes d) ih = let h = ih d in omega arith
    go (no d) ih = let z : v ≡ n = omega arith in let y : place_at s c v ≡ p = ap (place_at s c) z ∙ o in omega arith

module _ (E : ℕ → Chart) (state : ℕ → ℕ) (cfg : ℕ → ℕ) (N : ℕ) (enc : ℕ → Option ℕ) (sc : ℕ → ℕ) (tree : Tree)
    (inp : Set) (m s g₀ y : List ℕ) (keep : ℕ → ℕ → Bool)
    (st : Stands N enc sc tree) (ro : Rows E state cfg N enc sc tree m s) (ca : Candidates E cfg N tree keep m s)
    (sy : Stayers E cfg N keep g₀ y)
    (few : (c : ℕ) → c < N → length (E c).transitions ≤ stay_place) (sa : (ch : ℕ → ℕ) (e : ℕ)
    → Small (action_of (moves E ch e))) (idle : (c : ℕ) → keep c zero ≡ true) where
  abbrev hunt_of : ℕ → ℕ → (ℕ → ℕ) → List Outcome
  hunt_of n k ch = hunt E state cfg N enc sc tree inp (may_at m s) keep n k ch

  -- what is found with chart k at place v, and with its candidate v
  abbrev at_place : ℕ → ℕ → (ℕ → ℕ) → ℕ → List Outcome
  at_place n k ch v = cond (keep k v && fine E state cfg N enc sc tree inp (may_at m s) keep (upd ch k v) n k)
      (hunt_of n (suc k) (upd ch k v)) []

  abbrev at_trail : ℕ → ℕ → Trail → List Outcome
  at_trail n k t = cond (fine_at m s t k && quiet_at m s g₀ y t k) (hunts_both m s g₀ y n (suc k) t) []

  abbrev Follow : Trail → ℕ → (ℕ → ℕ) → Type 0
  Follow t k ch = Follows E state cfg N enc sc tree inp m s g₀ y t k ch

  -- its places are the choice's: so the outcomes that both lead to have the same
  abbrev Place : Trail → ℕ → (ℕ → ℕ) → Type 0
  Place t k ch = Placed E state cfg N enc sc tree inp m s g₀ y t k ch

  -- no chart is left that is open and kept
  shut : (n k : ℕ) (ch : ℕ → ℕ) (v : ℕ)
      → open? (E k).stays (awake enc sc state cfg (moves E (upd ch k v)) k) (cfg k) (pick (E k) v) ≡ false
      → at_place n k ch v ≡ []
  unfolding fine opens
  shut n k ch v e = rw (moves-on E ch k v, e) (off (keep k v))
    where
      off : (b : Bool) → cond (b && false) (hunt_of n (suc k) (upd ch k v)) [] ≡ []
      off true = refl
      off false = refl

  unkept : (n k : ℕ) (ch : ℕ → ℕ) (v : ℕ) → keep k v ≡ false → at_place n k ch v ≡ []
  unkept n k ch v e = rw e

  -- a trail that follows the choice finds the same
  block : (n k : ℕ) (ch : ℕ → ℕ) (v : ℕ) (t : Trail) → n + suc k ≡ N → Follow t (suc k) (upd ch k v) → keep k v ≡ true
      → open? (E k).stays (awake enc sc state cfg (moves E (upd ch k v)) k) (cfg k) (pick (E k) v) ≡ true
      → {P : Type 0} → Padded N P (hunts_both m s g₀ y n (suc k) t) (hunt_of n (suc k) (upd ch k v))
      → Padded N P (at_trail n k t) (at_place n k ch v)
  unfolding fine opens
  block n k ch v t e f kp o {P} p = rw
      (kp, moves-on E ch k v, o, fine_is E state cfg N enc sc tree inp m s g₀ y st ro keep ca sy t n k (upd ch k v) f e)
      (go (every (suc k) (passes E state cfg N enc sc tree inp (may_at m s) (upd ch k v) n (suc k))))
    where
      go : (b : Bool)
          → Padded N P (cond b (hunts_both m s g₀ y n (suc k) t) []) (cond b (hunt_of n (suc k) (upd ch k v)) [])
      go true = p
      go false = padded_none N

  -- ── one chart: its candidates against its places ──

  module _ (n k : ℕ) (t : Trail) (ch : ℕ → ℕ) (e : n + suc k ≡ N) (f : Follow t k ch)
      (ih : (t' : Trail) (ch' : ℕ → ℕ) → Follow t' (suc k) ch'
      → Padded N (Place t' (suc k) ch') (hunts_both m s g₀ y n (suc k) t') (hunt_of n (suc k) ch')) where
    abbrev ts : List Transition
    ts = (E k).transitions

    here : k < N
    here = omega arith

    -- the candidates of an active chart
    module _ (w : wakes m s t k ≡ true) where
      opened : (v : ℕ) (b : Bool) → open? (E k).stays true (cfg k) (pick (E k) v) ≡ b
          → open? (E k).stays (awake enc sc state cfg (moves E (upd ch k v)) k) (cfg k) (pick (E k) v) ≡ b
      opened v b h = ap (λ a. open? (E k).stays a (cfg k) (pick (E k) v))
          (sym (wakes_is E state cfg N enc sc tree inp m s g₀ y st ro t k ch v f here) ∙ w) ∙ h

      at_list : (p : ℕ) (tr : Transition) → nth no_move ts p ≡ takes tr → pick (E k) (suc p) ≡ takes tr
      unfolding pick
      at_list p tr q = nth_takes (behind (E k)) ts p tr q

      from_here : (p : ℕ) (tr : Transition) → nth no_move ts p ≡ takes tr → (b : Bool) → same tr.from (cfg k) ≡ b
          → open? (E k).stays true (cfg k) (pick (E k) (suc p)) ≡ b
      unfolding open?
      from_here p tr q b h = rw (at_list p tr q) h

      of : (v p : ℕ) (tr : Transition) → nth no_move ts p ≡ takes tr → Is m s k v tr → tr.from ≡ cfg k
          → keep k (suc p) ≡ true → place_at s k v < stay_place
          → Padded N (Place (taken m s t k v) (suc k) (upd ch k (suc p))) (at_trail n k (taken m s t k v))
          (at_place n k ch (suc p))
      of v p tr q i h kp sp = block n k ch (suc p) (taken m s t k v) e g kp (opened (suc p) true
          (from_here p tr q true (rw h (same_refl (cfg k))))) (ih (taken m s t k v) (upd ch k (suc p)) g)
        where
          g : Follow (taken m s t k v) (suc k) (upd ch k (suc p))
          g = taken-follows E state cfg N enc sc tree inp m s g₀ y st ro t k ch v p tr f here w (at_list p tr q) i
              (same_≢ (place_at s k v) stay_place (λ z. omega arith))

      walk : {p c : ℕ} → Listed m s k ts (cfg k) (keep k) p c
          → Padded N (Place t k ch) (in_turn c (λ v. at_trail n k (taken m s t k v))) (upto p (at_place n k ch))
      unfolding in_turn upto open? pick
      walk start = rw (shut n k ch zero (opened zero false refl)) (padded_none N)
      walk (other {p = p} {n = c} r tr q h) = padded_nothing N _ _ _ (walk r)
          (shut n k ch (suc p) (opened (suc p) false (from_here p tr q false (same_≢ tr.from (cfg k) h))))
      walk (fails {p = p} {n = c} r h) = padded_nothing N _ _ _ (walk r) (unkept n k ch (suc p) h)
      walk (again {p = p} {n = c} r tr q v l i) = go (walk r) (keep k (suc p)) refl (same tr.from (cfg k)) refl
        where
          go : Padded N (Place t k ch) (in_turn c (λ v. at_trail n k (taken m s t k v))) (upto p (at_place n k ch))
              → (a : Bool) → keep k (suc p) ≡ a → (b : Bool) → same tr.from (cfg k) ≡ b
              → Padded N (Place t k ch) (in_turn c (λ v. at_trail n k (taken m s t k v)))
              (upto p (at_place n k ch) ++ at_place n k ch (suc p))
          go x false y b z = padded_nothing N _ _ _ x (unkept n k ch (suc p) y)
          go x true y false z =
              padded_nothing N _ _ _ x (shut n k ch (suc p) (opened (suc p) false (from_here p tr q false z)))
          go x true y true z = padded_again N _ _ (at_trail n k (taken m s t k v)) (at_place n k ch (suc p)) x
              (of v p tr q i (same→≡ tr.from (cfg k) z) y (let a = listed-place m s k ts (cfg k)
              (keep k) r v l in let b = nth_there ts p tr q in let c = few k here in omega arith))
              (among_each (λ v. at_trail n k (taken m s t k v)) c v l)
      walk (fresh {p = p} {n = c} r tr q h kp i o) =
          padded_append N _ _ (at_trail n k (taken m s t k c)) (at_place n k ch (suc p)) (walk r)
          (padded_fewer N
          (λ w. taken_placed E state cfg N enc sc tree inp m s g₀ y t k ch c p (nth_there ts p tr q) w o)
          (of c p tr q i h kp (let b = nth_there ts p tr q in let z = few k here in omega arith)))

      -- ── its staying, which comes last ──

      stay_trail : List Outcome
      stay_trail = cond (stays_at g₀ y k) (at_trail n k (stayed m s t k)) []

      abbrev Candidated : ℕ → Type 0
      Candidated c = Padded N (Place t k ch) (in_turn c (λ v. at_trail n k (taken m s t k v)) ++ stay_trail)
          (upto (last_place (E k)) (at_place n k ch))

      last : (c : ℕ) → Listed m s k ts (cfg k) (keep k) (length ts) c → Candidated c
      unfolding stay_trail
      last c r = go (E k).stays refl
        where
          now_at : (x : Bool) → (E k).stays ≡ x → stays_at g₀ y k ≡ (x && keep k (last_place (E k)))
          now_at x q = sy.open_at k here ∙ ap (λ z. z && keep k (last_place (E k))) q

          stays_on : (E k).stays ≡ true → (x : Bool) → keep k (last_place (E k)) ≡ x → Padded N (Place t k ch)
              (cond (stays_at g₀ y k) (at_trail n k (stayed m s t k)) []) (at_place n k ch (last_place (E k)))
          stays_on q false z = rw (now_at true q, z) (padded_none N)
          stays_on q true z = rw (now_at true q ∙ z)
              (padded_fewer N (stayed_placed E state cfg N enc sc tree inp m s g₀ y t k ch q)
              (block n k ch (last_place (E k)) (stayed m s t k) e fs z (opened (last_place (E k)) true
              (unfold open? in rw (stay_last (E k) q) q)) (ih (stayed m s t k) (upd ch k (last_place (E k))) fs)))
            where
              fs : Follow (stayed m s t k) (suc k) (upd ch k (last_place (E k)))
              fs = stayed-follows E state cfg N enc sc tree inp m s g₀ y st ro t k ch f here w q (now_at true q ∙ z)

          one_more : (E k).stays ≡ true → upto (last_place (E k)) (at_place n k ch)
              ≡ upto (length ts) (at_place n k ch) ++ at_place n k ch (last_place (E k))
          one_more q = upto-last (at_place n k ch) (length ts) (last_place (E k)) (places_two (E k) q)

          go : (x : Bool) → (E k).stays ≡ x → Candidated c
          go false q = rw
              (now_at false q, append-nil (in_turn c (λ v. at_trail n k (taken m s t k v))), places_one (E k) q)
              (walk r)
          go true q = subst (Padded N (Place t k ch) (in_turn c (λ v. at_trail n k (taken m s t k v)) ++ stay_trail))
              (sym (one_more q))
              (padded_append N _ _ stay_trail (at_place n k ch (last_place (E k))) (walk r)
              (stays_on q (keep k (last_place (E k))) refl))

    -- an inactive chart takes none
    rest : wakes m s t k ≡ false → keep k zero ≡ true
        → Padded N (Place t k ch) (at_trail n k (rested m s t k)) (upto (last_place (E k)) (at_place n k ch))
    unfolding open? pick
    rest w kp = rw (upto-first (last_place (E k)) (at_place n k ch)
        (λ p l. shut n k ch (suc p) (asleep (suc p) ∙ taking (cfg k) (E k) p l)))
        (padded_fewer N (rested_placed E state cfg N enc sc tree inp m s g₀ y t k ch)
        (block n k ch zero (rested m s t k) e fs kp (asleep zero) (ih (rested m s t k) (upd ch k zero) fs)))
      where
        fs : Follow (rested m s t k) (suc k) (upd ch k zero)
        fs = rested-follows E state cfg N enc sc tree inp m s g₀ y st ro t k ch f here w

        asleep : (v : ℕ) → open? (E k).stays (awake enc sc state cfg (moves E (upd ch k v)) k) (cfg k) (pick (E k) v)
            ≡ open? (E k).stays false (cfg k) (pick (E k) v)
        asleep v = ap (λ a. open? (E k).stays a (cfg k) (pick (E k) v))
            (sym (wakes_is E state cfg N enc sc tree inp m s g₀ y st ro t k ch v f here) ∙ w)

  -- ── the whole search ──

  simulate : (n k : ℕ) (t : Trail) (ch : ℕ → ℕ) → n + k ≡ N → Follow t k ch
      → Padded N (Place t k ch) (hunts_both m s g₀ y n k t) (hunt_of n k ch)
  unfolding hunts_both hunt outcome_of
  simulate zero k t ch e f = let q : k ≡ N = omega arith in let g : Follow t N ch = subst (λ z. Follow t z ch) q f in
      padded_one N _ _ (output_is E state cfg N enc sc tree inp m s g₀ y st ro t ch g (sa ch))
      (ap₂ (λ (x : List ℕ) (z : ℕ). x ++ replicate (most_charts - z) 0)
      (next_is E state cfg N enc sc tree inp m s g₀ y st ro t ch g) q)
      (λ h. ap₂ (λ (x : List ℕ) (z : ℕ). x ++ replicate (most_charts - z) no_place)
      (h ∙ ap (places_from E ch zero) q) q)
  simulate (suc n) k t ch e f = go (wakes m s t k) refl (simulate n (suc k))
    where
      e' : n + suc k ≡ N
      e' = omega arith

      go : (b : Bool) → wakes m s t k ≡ b → ((t' : Trail) (ch' : ℕ → ℕ) → n + suc k ≡ N → Follow t' (suc k) ch'
          → Padded N (Place t' (suc k) ch') (hunts_both m s g₀ y n (suc k) t') (hunt_of n (suc k) ch'))
          → Padded N (Place t k ch) (cond (wakes m s t k) (in_turn (count_at s k) (λ v. at_trail n k (taken m s t k v))
          ++ cond (stays_at g₀ y k) (at_trail n k (stayed m s t k)) []) (at_trail n k (rested m s t k)))
          (upto (last_place (E k)) (at_place n k ch))
      go true w ih = unfold stay_trail in rw w
          (last n k t ch e' f (λ t' ch'. ih t' ch' e') w (count_at s k) (ca.listed k (omega arith)))
      go false w ih = rw w (rest n k t ch e' f (λ t' ch'. ih t' ch' e') w (idle k))

  begins : (lows : List ℕ) → Lows E cfg N enc tree inp lows → Follow (beginning lows) zero (λ c. zero)
  unfolding beginning low sures offer offered
  begins lows h =
      record {
        lows = λ c l. h c l ∙ sets ((inp ∩ down tree c) ∷ union_up_to N (λ e. surely enc E cfg e ∩ back E tree c e)
            ∷ union_up_to zero (λ e. action_of (moves E (λ c. zero) e) ∩ back E tree c e) ∷ [])
            (C ≐ ∅ₑ ∷ []) (A ∪ₑ B ≐ B ∪ₑ (A ∪ₑ C)) tt (unfold union_up_to in refl);
        shows = λ d l. absurd (omega arith);
        active = λ d l. absurd (omega arith);
        output = unfold union_up_to in refl;
        all_needed = refl;
        all_barred = refl;
        all-next = refl;
        all-awake = refl;
        all_places_lem = refl;
        stays = λ d l. absurd (omega arith);
      }

  module _ (si : Small inp) (kept : (ch : ℕ → ℕ) → permitted E state cfg (moves E ch) tree inp ≡ true → (c : ℕ) → c < N
      → keep c (ch c) ≡ true) where
    -- no permitted choice puts out more than the candidates do
    bounds : Bounds E state cfg N tree inp (may_at m s)
    unfolding moves may_at pick action_of
    bounds ch p e l = go (ch e) (kept ch p e l) (permitted_open E state cfg N enc sc tree inp st si sa ch p e l)
      where
        all : Set
        all = union_up_to (count_at s e) (action_at m e)

        go : (v : ℕ) → keep e v ≡ true
            → open? (E e).stays (awake enc sc state cfg (moves E ch) e) (cfg e) (pick (E e) v) ≡ true
            → Within (action_of (pick (E e) v)) all
        go zero kp o = sets (all ∷ []) [] (∅ₑ ⊑ A) tt
        go (suc u) kp o = near (dec_lt u (length (E e).transitions))
          where
            near : Dec (u < length (E e).transitions) → Within (action_of (nth (behind (E e)) (E e).transitions u)) all
            near (yes r) = let q = nth_near (behind (E e)) no_move (E e).transitions u r in
                rw q (listed_in m s e (E e).transitions (cfg e) (keep e) (E e).stays
                (awake enc sc state cfg (moves E ch) e) u (rw q at o) kp (ca.listed e l) r)
            near (no r) = rw (nth-behind (behind (E e)) (E e).transitions u (omega arith), behind_empty (E e).stays)
                (sets (all ∷ []) [] (∅ₑ ⊑ A) tt)

    sizes_append : (xs ys : List Outcome) → Sizes N xs → Sizes N ys → Sizes N (xs ++ ys)
    sizes_append [] ys p q = q
    sizes_append (x ∷ xs) ys p q = (p.0, p.1, sizes_append xs ys p.2 q)

    sizes_upto : (k : ℕ) (f : ℕ → List Outcome) → ((v : ℕ) → Sizes N (f v)) → Sizes N (upto k f)
    unfolding upto
    sizes_upto zero f h = h zero
    sizes_upto (suc k) f h = sizes_append (upto k f) (f (suc k)) (sizes_upto k f h) (h (suc k))

    sizes : (n c : ℕ) (ch : ℕ → ℕ) → Sizes N (search E state cfg tree inp N n c ch)
    unfolding search outcome outcome_of
    sizes zero c ch = go (permitted E state cfg (moves E ch) tree inp)
      where
        go : (b : Bool) → Sizes N (cond b (outcome_of E cfg tree N ch ∷ []) [])
        go true = (length-nexts cfg (moves E ch) zero N, length_places E ch zero N, tt)
        go false = tt
    sizes (suc n) c ch = sizes_upto (last_place (E c)) _ (λ v. sizes n (suc c) (upd ch c v))

    finds : (lows : List ℕ) → Lows E cfg N enc tree inp lows
        → Padded N (Place (beginning lows) zero (λ c. zero)) (hunts_both m s g₀ y N zero (beginning lows))
        (search E state cfg tree inp N N zero (λ c. zero))
    finds lows h =
        subst (Padded N (Place (beginning lows) zero (λ c. zero)) (hunts_both m s g₀ y N zero (beginning lows)))
        (hunted_all E state cfg N enc sc tree inp (may_at m s) keep st bounds si sa kept)
        (simulate N zero (beginning lows) (λ c. zero) (omega arith) (begins lows h))

    -- what a search over the tables finds, as the step's answer
    pub found_all : (lows : List ℕ) → Lows E cfg N enc tree inp lows
        → answer_of N (over (hunts_both m s g₀ y N zero (beginning lows)) nothing)
        ≡ answer (outcomes E state cfg tree inp N)
    unfolding outcomes
    found_all lows h = found N _ _ (finds lows h) (sizes N zero (λ c. zero))

    -- and its first choice's places
    pub places_all : (lows : List ℕ) → Lows E cfg N enc tree inp lows
        → (over (hunts_both m s g₀ y N zero (beginning lows)) nothing).places
        ≡ all_places (first_places (outcomes E state cfg tree inp N))
    unfolding outcomes beginning places_from
    places_all lows h = found_places N refl _ _ (finds lows h) (sizes N zero (λ c. zero))

-- ── for a file that tests 9 to 11 allow, with charts E in its tree ──

-- a move is kept: it may be met between what its chart is surely offered and what all the others might put in, and it
-- goes to none of the states that its chart must not go to
abbrev pub keeps : File → (ℕ → Chart) → (ℕ → ℕ) → Set → List ℕ → ℕ → ℕ → Bool
keeps F E cfg inp shuts =
    opening E cfg shuts
    (lasts E F.state cfg F.charts (kap F) (whole_of F) inp (λ c. may_of (E c).transitions (cfg c)))

-- no permitted choice goes there
abbrev pub Opens : File → (ℕ → Chart) → (ℕ → ℕ) → Set → List ℕ → Type 0
Opens F E cfg inp shuts =
    (ch : ℕ → ℕ) → permitted E F.state cfg (moves E ch) (whole_of F) inp ≡ true
    → (c : ℕ) → c < F.charts → opens_by (get_or shuts c 0) (cfg c) (pick (E c) (ch c)) ≡ true

module _ (F : File) (E : ℕ → Chart) (st : Stands F.charts (kap F) F.master (whole_of F)) (cfg : ℕ → ℕ) (inp : Set)
    (si : Small inp) (sa : (ch : ℕ → ℕ) (e : ℕ) → Small (action_of (moves E ch e))) (m s g y lows shuts : List ℕ)
    (few : (c : ℕ) → c < F.charts → length (E c).transitions ≤ stay_place) (op : Opens F E cfg inp shuts)
    (ro : Rows E F.state cfg F.charts (kap F) F.master (whole_of F) m s)
    (ca : Candidates E cfg F.charts (whole_of F) (keeps F E cfg inp shuts) m s)
    (sy : Stayers E cfg F.charts (keeps F E cfg inp shuts) g y)
    (lw : Lows E cfg F.charts (kap F) (whole_of F) inp lows) where
  abbrev may₀ : ℕ → Set
  may₀ c = may_of (E c).transitions (cfg c)

  bound : Bounds E F.state cfg F.charts (whole_of F) inp may₀
  bound = may_bounds E F.state cfg F.charts (kap F) F.master (whole_of F) inp may₀ st (may_of_lem E cfg) si sa

  kept_open : (ch : ℕ → ℕ) → permitted E F.state cfg (moves E ch) (whole_of F) inp ≡ true
      → (c : ℕ) → c < F.charts → keeps F E cfg inp shuts c (ch c) ≡ true
  kept_open ch p c l =
      and_i (kept E F.state cfg F.charts (kap F) (whole_of F) inp may₀ F.master st bound si sa ch p c l)
      (op ch p c l)

  -- what the search over the tables finds is what the step answers
  pub found_is : answer_of F.charts (over (hunts_both m s g y F.charts zero (beginning lows)) nothing)
      ≡ answer (outcomes E F.state cfg (whole_of F) inp F.charts)
  unfolding lasts test pick opens_by
  found_is =
      found_all E F.state cfg F.charts (kap F) F.master (whole_of F) inp m s g y (keeps F E cfg inp shuts)
      st ro ca sy few sa (λ c. refl) si kept_open lows lw

  -- and its places are those of the first permitted choice
  pub places_is : (over (hunts_both m s g y F.charts zero (beginning lows)) nothing).places
      ≡ all_places (first_places (outcomes E F.state cfg (whole_of F) inp F.charts))
  unfolding lasts test pick opens_by
  places_is =
      places_all E F.state cfg F.charts (kap F) F.master (whole_of F) inp m s g y (keeps F E cfg inp shuts)
      st ro ca sy few sa (λ c. refl) si kept_open lows lw
