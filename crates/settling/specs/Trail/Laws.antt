-- Laws of a beginning of a choice where it stands. In order: lists that are made entry by entry (`made`); what stays
-- (`Keeps`); one chart more (`take_in`, `idle_in`); no chart yet.
use Rattle.std.specs.Prelude.{◌≡◌, List, [], ◌∷◌, ◌++◌, ◌≢◌, ℕ, suc, ◌+◌, ◌-◌, ◌*◌, ◌≤◌, ◌<◌, length, set, replicate}
use Rattle.std.proofs.Math.Path.{refl, sym, ap}
use Rattle.std.proofs.Common.{ap₂, ◌∙◌, append_assoc, add-zero, add-one, arith, length-set, length-append}
use Rattle.std.proofs.Common.{get_or-append-add, get_or-set_same, get_or-set_other, lt-length-set, ext_get_or}
use Rattle.std.proofs.Math.ListN.{get_or, get_or-append}
use Rattle.std.proofs.lemmas.List.{length-replicate, get_or-replicate, set_at}
use Rattle.std.proofs.Math.Seq.{get_or-append_seam}
use Rattle.signals.specs.Mask.{◌∪◌, ◌∩◌}
use Rattle.signals.specs.Decide.{sets, A, B, ∅ₑ, ◌∪ₑ◌, ◌∩ₑ◌, ◌≐◌}
use Rattle.meaning.specs.Numbers.{most_charts}
use Rattle.meaning.specs.Calls.{made}
use Rattle.meaning.specs.Calls.Laws.{length-made, get_or-made, made_cong}
use Rattle.cells.specs.Table.{needed_at, barred_at, action_at, back_at, up_at, to_at, state_at, place_at}
use Rattle.cells.specs.Trail.{low_cell, needs_cell, bars_cell, next_cell, awake_cell, taken_cell, low_in, needed_in}
use Rattle.cells.specs.Trail.{barred_in}
use Rattle.cells.specs.Trail.{next_in, awake_in, place_in, column_in, put_asked, put_move, Room}
use Rattle.settling.specs.Trail.{Trail, bare, Matches, beginning, trail_in, Same, Keeps, Lowers}
use Rattle.settling.specs.Hunt.{taken, idled}
use Rattle.settling.specs.Calm.{stayed}

-- ── made ──

-- the entries of a list that is one longer: those before, and the last
pub get_or-before : (n : ℕ) (f : ℕ → ℕ) (x i : ℕ) → i < n → get_or (made n f ++ (x ∷ [])) i 0 ≡ get_or (made n f) i 0
get_or-before n f x i l = let h = length-made n f in get_or-append (made n f) (x ∷ []) 0 i (omega arith)

pub get_or-last : (n : ℕ) (f : ℕ → ℕ) (x : ℕ) → get_or (made n f ++ (x ∷ [])) n 0 ≡ x
get_or-last n f x =
    ap (λ (i : ℕ). get_or (made n f ++ (x ∷ [])) i 0) (sym (length-made n f)) ∙ get_or-append_seam (made n f) x [] 0

-- one more, as code counts
made_more : (n : ℕ) (f g : ℕ → ℕ) (x : ℕ) → ((i : ℕ) → i < n → f i ≡ g i) → f n ≡ x
    → made (n + 1) f ≡ made n g ++ (x ∷ [])
unfolding made
made_more n f g x h e = rw add-one (ap₂ (λ (l : List ℕ) (y : ℕ). l ++ (y ∷ [])) (made_cong n f g h) e)

-- one more in an array of N that is x behind
pub made_filled : (N x : ℕ) (f : ℕ → ℕ) (d : ℕ) (l : List ℕ) → d < N → l ≡ made d f ++ replicate (N - d) x
    → set l d (f d) ≡ made (d + 1) f ++ replicate (N - (d + 1)) x
unfolding made
made_filled N x f d l h e =
    let n : length (made d f) ≡ d = length-made d f in
    let z : N - d ≡ suc (N - (d + 1)) = omega arith in
    let q : l ≡ made d f ++ x ∷ replicate (N - (d + 1)) x = e ∙ rw z in
    rw (q, set_at (made d f) x (replicate (N - (d + 1)) x) (f d) d n, add-one, append_assoc)

-- a number for each chart, those below n made and x behind them: how many, and an entry of either kind
module _ (n : ℕ) (f : ℕ → ℕ) (x : ℕ) where
  pub length_filled : n ≤ most_charts → length (made n f ++ replicate (most_charts - n) x) ≡ most_charts
  length_filled l = length-append (made n f) (replicate (most_charts - n) x)
      ∙ rw (length-made n f, length-replicate (most_charts - n) x) (omega arith)

  pub filled_made : (c : ℕ) → c < n → get_or (made n f ++ replicate (most_charts - n) x) c 0 ≡ f c
  filled_made c l = let h = length-made n f in
      get_or-append (made n f) (replicate (most_charts - n) x) 0 c (omega arith) ∙ get_or-made n f c l

  pub filled_behind : (c : ℕ) → n ≤ c → c < most_charts → get_or (made n f ++ replicate (most_charts - n) x) c 0 ≡ x
  filled_behind c l h =
      let e : c ≡ length (made n f) + (c - n) = omega (arith, length-made n f) in
      ap (λ (i : ℕ). get_or (made n f ++ replicate (most_charts - n) x) i 0) e
      ∙ get_or-append-add (made n f) (replicate (most_charts - n) x) (c - n) 0
      ∙ get_or-replicate (most_charts - n) (c - n) x 0 (omega arith)

-- the first of a chart's small numbers is its next state
pub column_next : (b : List ℕ) (n x : ℕ) → column_in b n 0 x ≡ made n (next_in b) ++ replicate (most_charts - n) x
column_next b n x = simp add-zero

pub made_list : (n : ℕ) (l : List ℕ) → length l ≡ n → made n (λ i. get_or l i 0) ≡ l
made_list n l e =
    ext_get_or 0 (made n (λ i. get_or l i 0)) l (length-made n (λ i. get_or l i 0) ∙ sym e)
    (λ i h. get_or-made n (λ j. get_or l j 0) i (let p = length-made n (λ j. get_or l j 0) in omega arith))

-- ── what stays ──

pub same_refl : (n : ℕ) (l : List ℕ) → Same n l l
same_refl n l = record { long = refl; at = λ i h. refl }

pub same_trans : {n : ℕ} {l l' l'' : List ℕ} → Same n l l' → Same n l' l'' → Same n l l''
same_trans p q = record { long = q.long ∙ p.long; at = λ i h. q.at i h ∙ p.at i h }

pub same_fewer : {n : ℕ} {l l' : List ℕ} (j : ℕ) → n ≤ j → Same j l l' → Same n l l'
same_fewer j e p = record { long = p.long; at = λ i h. p.at i (omega arith) }

-- a number is written behind them
pub same_set : (n : ℕ) (l : List ℕ) (i x : ℕ) → n ≤ i → Same n l (set l i x)
same_set n l i x h = record { long = length-set l i x; at = λ j r. get_or-set_other l i j x 0 (λ e. omega arith) }

pub keeps_refl : (k : ℕ) (w b : List ℕ) → Keeps k w b w b
keeps_refl k w b = record { masks = same_refl _ w; small = same_refl _ b }

pub keeps_trans : {k : ℕ} {w b w' b' w'' b'' : List ℕ} → Keeps k w b w' b' → Keeps k w' b' w'' b'' → Keeps k w b w'' b''
keeps_trans p q = record { masks = same_trans p.masks q.masks; small = same_trans p.small q.small }

-- what stays of one chart more
pub keeps_fewer : {k : ℕ} {w b w' b' : List ℕ} (j : ℕ) → j ≡ k + 1 → Keeps j w b w' b' → Keeps k w b w' b'
keeps_fewer j e p =
    record { masks = same_fewer _ (omega arith) p.masks; small = same_fewer _ (omega arith) p.small }

pub keeps_room : {k N : ℕ} {w b w' b' : List ℕ} → Keeps k w b w' b' → Room N w b → Room N w' b'
keeps_room p r = record { masks = rw p.masks.long r.masks; small = p.small.long ∙ r.small }

-- fewer charts need no more
pub room_fewer : {N : ℕ} {w b : List ℕ} (M : ℕ) → M ≤ N → Room N w b → Room M w b
room_fewer M l r = record { masks = omega (arith, r.masks); small = r.small }

-- ── one chart more ──

trail_eq : {l l' n n' r r' x x' a a' t t' : List ℕ} (o : ℕ) → l ≡ l' → n ≡ n' → r ≡ r' → x ≡ x' → a ≡ a' → t ≡ t' →
    ◌≡◌ {A = Trail} (record { low = l; needed = n; barred = r; next = x; awake = a; places = t; output = o })
    (record { low = l'; needed = n'; barred = r'; next = x'; awake = a'; places = t'; output = o })
trail_eq o p q u v w z = rw (p, q, u, v, w, z)

module _ {k : ℕ} {w b w' b' : List ℕ} (h : Keeps k w b w' b') where
  pub trail_kept : (o : ℕ) → trail_in w' b' k o ≡ trail_in w b k o
  unfolding trail_in
  trail_kept o =
      trail_eq o (made_cong most_charts (low_in w' k) (low_in w k) (λ i l. h.masks.at (low_cell k i) (omega arith)))
      (made_cong k (needed_in w') (needed_in w) (λ i l. h.masks.at (needs_cell i) (omega arith)))
      (made_cong k (barred_in w') (barred_in w) (λ i l. h.masks.at (bars_cell i) (omega arith)))
      (made_cong k (next_in b') (next_in b) (λ i l. h.small.at (next_cell i) (omega arith)))
      (made_cong k (awake_in b') (awake_in b) (λ i l. h.small.at (awake_cell i) (omega arith)))
      (made_cong k (place_in b') (place_in b) (λ i l. h.small.at (taken_cell i) (omega arith)))

  -- chart k needs n and bars r, goes to x, is active or not, and takes the transition at t
  grown : {n r x a t : ℕ} (o : ℕ) →
      needed_in w' k ≡ n → barred_in w' k ≡ r → next_in b' k ≡ x → awake_in b' k ≡ a → place_in b' k ≡ t →
      bare (trail_in w' b' (k + 1) o)
      ≡ record {
        low = [];
        needed = (trail_in w b k o).needed ++ (n ∷ []);
        barred = (trail_in w b k o).barred ++ (r ∷ []);
        next = (trail_in w b k o).next ++ (x ∷ []);
        awake = (trail_in w b k o).awake ++ (a ∷ []);
        places = (trail_in w b k o).places ++ (t ∷ []);
        output = o;
      }
  unfolding trail_in
  grown o e₁ e₂ e₃ e₄ e₅ =
      trail_eq o refl (made_more k (needed_in w') (needed_in w) _ (λ i l. h.masks.at (needs_cell i) (omega arith)) e₁)
      (made_more k (barred_in w') (barred_in w) _ (λ i l. h.masks.at (bars_cell i) (omega arith)) e₂)
      (made_more k (next_in b') (next_in b) _ (λ i l. h.small.at (next_cell i) (omega arith)) e₃)
      (made_more k (awake_in b') (awake_in b) _ (λ i l. h.small.at (awake_cell i) (omega arith)) e₄)
      (made_more k (place_in b') (place_in b) _ (λ i l. h.small.at (taken_cell i) (omega arith)) e₅)

  -- N is how many charts there are
  module _ (N : ℕ) (few : N ≤ most_charts) where
    taken_in : (m s : List ℕ) (v o : ℕ)
        → ((c : ℕ) → c < N → low_in w' (k + 1) c ≡ low_in w k c ∪ action_at m k v ∩ back_at m c k) →
        needed_in w' k ≡ needed_at m k v → barred_in w' k ≡ barred_at m k v → next_in b' k ≡ to_at s k v
        → awake_in b' k ≡ 1
        → place_in b' k ≡ place_at s k v →
        Matches N (trail_in w' b' (k + 1) (o ∪ action_at m k v ∩ up_at m k)) (taken m s (trail_in w b k o) k v)
    unfolding trail_in taken
    taken_in m s v o l e₁ e₂ e₃ e₄ e₅ =
        record {
          low = λ c p. get_or-made most_charts (low_in w' (k + 1)) c (omega arith) ∙ l c p
              ∙ ap (λ (x : ℕ). x ∪ action_at m k v ∩ back_at m c k)
              (sym (get_or-made most_charts (low_in w k) c (omega arith)))
              ∙ sym (get_or-made most_charts
              (λ d. get_or (made most_charts (low_in w k)) d 0 ∪ action_at m k v ∩ back_at m d k) c (omega arith));
          rest = grown (o ∪ action_at m k v ∩ up_at m k) e₁ e₂ e₃ e₄ e₅;
        }

    idled_in : (m s : List ℕ) (z t o : ℕ) → ((c : ℕ) → c < N → low_in w' (k + 1) c ≡ low_in w k c) →
        needed_in w' k ≡ 0 → barred_in w' k ≡ 0 → next_in b' k ≡ state_at s k → awake_in b' k ≡ z → place_in b' k ≡ t →
        Matches N (trail_in w' b' (k + 1) o) (idled m s z t (trail_in w b k o) k)
    unfolding trail_in idled
    idled_in m s z t o l e₁ e₂ e₃ e₄ e₅ =
        record {
          low = λ c p. get_or-made most_charts (low_in w' (k + 1)) c (omega arith) ∙ l c p
              ∙ sym (get_or-made most_charts (low_in w k) c (omega arith));
          rest = grown o e₁ e₂ e₃ e₄ e₅;
        }

-- two numbers are written
module _ (l : List ℕ) (i j x y : ℕ) (apart : j ≢ i) where
  first-written : i < length l → get_or (set (set l i x) j y) i 0 ≡ x
  first-written h = get_or-set_other (set l i x) j i y 0 (λ e. apart (sym e)) ∙ get_or-set_same l i x 0 h

  second-written : j < length l → get_or (set (set l i x) j y) j 0 ≡ y
  second-written h = get_or-set_same (set l i x) j y 0 (lt-length-set l i x h)

-- chart k needs n and bars r, its action is a; it goes to x, z is 1 if it is active, and it takes the transition at t
module _ (m w b w' : List ℕ) (N k n r x z t a : ℕ) (room : Room (k + 1) w b) (few : N ≤ most_charts)
    (one : k < most_charts) (h : Lowers m a N k (put_asked w k n r) w') where
  abbrev moved : List ℕ
  moved = put_move b k x z t

  rows : (c : ℕ) → c < N → low_in w' (k + 1) c ≡ low_in w k c ∪ a ∩ back_at m c k
  rows c l =
      h.rows c l
      ∙ ap (λ (y : ℕ). y ∪ a ∩ back_at m c k)
      (get_or-set_other (set w (needs_cell k) n) (bars_cell k) (low_cell k c) r 0 (λ e. omega arith)
      ∙ get_or-set_other w (needs_cell k) (low_cell k c) n 0 (λ e. omega arith))

  needs : needed_in w' k ≡ n
  needs =
      let q = room.masks in
      h.kept.at (needs_cell k) (omega arith)
      ∙ first-written w (needs_cell k) (bars_cell k) n r (λ e. omega arith) (omega arith)

  bars : barred_in w' k ≡ r
  bars =
      let q = room.masks in
      h.kept.at (bars_cell k) (omega arith)
      ∙ second-written w (needs_cell k) (bars_cell k) n r (λ e. omega arith) (omega arith)

  goes : next_in moved k ≡ x
  goes = let q = room.small in
      get_or-set_other (set (set b (next_cell k) x) (awake_cell k) z) (taken_cell k) (next_cell k) t 0
      (λ e. omega arith)
      ∙ first-written b (next_cell k) (awake_cell k) x z (λ e. omega arith) (omega arith)

  wakes : awake_in moved k ≡ z
  wakes = let q = room.small in
      get_or-set_other (set (set b (next_cell k) x) (awake_cell k) z) (taken_cell k) (awake_cell k) t 0
      (λ e. omega arith)
      ∙ second-written b (next_cell k) (awake_cell k) x z (λ e. omega arith) (omega arith)

  takes : place_in moved k ≡ t
  takes = let q = room.small in
      get_or-set_same (set (set b (next_cell k) x) (awake_cell k) z) (taken_cell k) t 0
      (lt-length-set (set b (next_cell k) x) (awake_cell k) z (lt-length-set b (next_cell k) x (omega arith)))

  pub written_keeps : Keeps k w b w' moved
  written_keeps =
      record {
        masks =
            same_trans
            (same_trans (same_set _ w (needs_cell k) n (omega arith)) (same_set _ _ (bars_cell k) r (omega arith)))
            (same_fewer _ (omega arith) h.kept);
        small =
            same_trans
            (same_trans (same_set _ b (next_cell k) x (omega arith)) (same_set _ _ (awake_cell k) z (omega arith)))
            (same_set _ _ (taken_cell k) t (omega arith));
      }

-- chart k takes its candidate v
module _ (m s w b w' : List ℕ) (N k v : ℕ) (room : Room (k + 1) w b) (few : N ≤ most_charts)
    (one : k < most_charts) (h : Lowers m (action_at m k v) N k (put_asked w k (needed_at m k v) (barred_at m k v)) w')
  where
    pub take_in : (o : ℕ) →
        Matches N (trail_in w' (put_move b k (to_at s k v) 1 (place_at s k v)) (k + 1)
        (o ∪ action_at m k v ∩ up_at m k))
        (taken m s (trail_in w b k o) k v)
    take_in o =
        taken_in (written_keeps m w b w' N k n r x 1 t a room few one h) N few m s v o
        (rows m w b w' N k n r x 1 t a room few one h) (needs m w b w' N k n r x 1 t a room few one h)
        (bars m w b w' N k n r x 1 t a room few one h) (goes m w b w' N k n r x 1 t a room few one h)
        (wakes m w b w' N k n r x 1 t a room few one h) (takes m w b w' N k n r x 1 t a room few one h)
      where
        n : ℕ
        n = needed_at m k v

        r : ℕ
        r = barred_at m k v

        x : ℕ
        x = to_at s k v

        t : ℕ
        t = place_at s k v

        a : ℕ
        a = action_at m k v

-- chart k takes no transition: z is 1 if it is active, and t stands for its place
module _ (m s w b w' : List ℕ) (N k z t : ℕ) (room : Room (k + 1) w b) (few : N ≤ most_charts)
    (one : k < most_charts) (h : Lowers m 0 N k (put_asked w k 0 0) w') where
  pub idle_in : (n : List ℕ) (o : ℕ) →
      Matches N (trail_in w' (put_move b k (state_at s k) z t) (k + 1) o) (idled n s z t (trail_in w b k o) k)
  idle_in n o =
      idled_in (written_keeps m w b w' N k 0 0 x z t 0 room few one h) N few n s z t o
      (λ c l. rows m w b w' N k 0 0 x z t 0 room few one h c l
      ∙ sets (low_in w k c ∷ back_at m c k ∷ []) [] (A ∪ₑ ∅ₑ ∩ₑ B ≐ A) tt)
      (needs m w b w' N k 0 0 x z t 0 room few one h) (bars m w b w' N k 0 0 x z t 0 room few one h)
      (goes m w b w' N k 0 0 x z t 0 room few one h) (wakes m w b w' N k 0 0 x z t 0 room few one h)
      (takes m w b w' N k 0 0 x z t 0 room few one h)
    where
      x : ℕ
      x = state_at s k

-- ── no chart yet ──

pub begun : (w b low : List ℕ) → length low ≡ most_charts → ((c : ℕ) → c < most_charts → low_in w 0 c ≡ get_or low c 0)
    → trail_in w b 0 0 ≡ beginning low
unfolding trail_in beginning made
begun w b low h e = trail_eq 0
    (made_cong most_charts (low_in w 0) (λ c. get_or low c 0) e ∙ made_list most_charts low h) refl refl refl refl refl
