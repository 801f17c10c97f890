-- Laws of filling. In order: a transition that is put down (put), one more transition (considered, listing), one more
-- chart (until-next), the rows ahead (row-value, from_last, from_next), that what is chosen by the tables is what a
-- file's candidates are (candidates), and what charts are surely offered (raised-same, lows-are).
use Rattle.std.specs.Prelude.{◌≡◌, Bool, ◌&&◌, ◌||◌, not, ◌≢◌, ltb, set}
use Rattle.std.proofs.Math.Path.{refl, ap, ap₂, fun_ext}
use Rattle.std.proofs.Common.{sym, ◌∙◌, subst, add-one, lt-ltb, le-ltb, ltb-false}
use Rattle.std.proofs.Math.Bool.{true, false, cond}
use Rattle.std.proofs.lemmas.Bool.{false≢true, not-true as tests-not-true}
use Rattle.std.proofs.Math.Option.{Option, none, some}
use mathlib.Core.List.{List, [], ◌∷◌, ◌++◌}
use Prim.Native.Nat.{ℕ, zero, suc, ◌+◌, ◌*◌, ◌-◌, ◌≤◌, ◌<◌}
use native.Mathlib.Omega.{arith}
use Rattle.std.proofs.Math.ListN.{length, get_or, length-set}
use Rattle.std.proofs.Math.Seq.{get_or-set_same, get_or-set_other}
use Rattle.signals.specs.Mask.{◌∪◌, ◌∩◌, ◌∖◌, bit}
use Rattle.signals.specs.Decide.{sets, A, B, C, D, E as Eₑ, F as Fₑ, ∅ₑ, ◌∪ₑ◌, ◌∩ₑ◌, ◌≐◌, ◌⊑◌}
use Rattle.layout.specs.Row.Laws.{row-rest}
use Rattle.layout.specs.declared.record.Transition.{Transition}
use Rattle.meaning.specs.Numbers.{most_charts, most_from_state}
use Rattle.meaning.specs.Sums.{any_up_to, tally, one}
use Rattle.meaning.specs.Sums.Laws.{tally_plus, tally_mono}
use Rattle.meaning.specs.Meaning.{Set, same, Chart, Tree, no_move, takes, nth, behind, pick, last_place, action_of}
use Rattle.meaning.specs.Meaning.{untriggered, Outcome}
use Rattle.meaning.specs.Laws.Bools.{same_refl, same→≡, same_≢, and_l, and_r}
use Rattle.meaning.proofs.Laws.Editions.{stay_last}
use Rattle.meaning.specs.Rewriting.{union_up_to}
use Rattle.wiring.specs.Reach.{down, back, offered}
use Rattle.wiring.specs.Permitted.{Stands}
use Rattle.wiring.specs.Dropped.{ahead, test, join_cong}
use Rattle.wiring.specs.Pruning.{may_of}
use Rattle.wiring.specs.Filter.{lasts}
use Rattle.wiring.specs.Sure.{sure_of, sure_in, surely, outside}
use Rattle.cells.specs.Table.{SameWiring, SameLists, block, up_cell, back_cell, ahead_cell, needed_cell, barred_cell}
use Rattle.cells.specs.Table.{action_cell, masks_for, needed_at, barred_at, action_at, back_at, ahead_at, put_masks}
use Rattle.cells.specs.Table.{count_from}
use Rattle.cells.specs.Table.{master_from, state_from, place_from, to_cell, count_cell, master_cell, state_cell}
use Rattle.cells.specs.Table.{place_cell}
use Rattle.cells.specs.Table.{Covered, small_size, to_at, count_at, master_at, state_at, place_at, put_small}
use Rattle.settling.specs.Trail.{Trail}
use Rattle.meaning.specs.Rewriting.{in_turn}
use Rattle.settling.specs.Hunt.{wakes, taken, rested, fine_at}
use Rattle.settling.specs.Calm.{stays_at, stayed, quiet_at, hunts_both}
use Rattle.settling.specs.Hunt.Laws.{each_none}
use Rattle.tables.specs.Contents.{Is, Listed, start, other, fails, again, fresh, may_at, Rows, Candidates, Stayers}
use Rattle.tables.specs.Contents.{Lows}
use Rattle.tables.specs.Simulation.{nth_takes}
use Rattle.tables.specs.Insertion.{opens_by, opening, kept_by, lasts_by, others_at, sure_at, Raised, Filling, is_at}
use Rattle.tables.specs.Insertion.{is_again}
use Rattle.tables.specs.Insertion.{put, pick_filling, considered, listing, keep_at, Until, Chosen, AheadRow}
use Rattle.tables.specs.Insertion.{ahead_by}
use Rattle.tables.specs.Insertion.{AheadFrom, stuck}

-- ── candidates that stay ──

-- candidate v of chart d is in the tables m and s what it was in m₀ and s₀
pub record Stays (m₀ s₀ m s : List ℕ) (d v : ℕ) : Type 0 where
  needed : needed_at m d v ≡ needed_at m₀ d v
  barred : barred_at m d v ≡ barred_at m₀ d v
  action : action_at m d v ≡ action_at m₀ d v
  to : to_at s d v ≡ to_at s₀ d v
  place : place_at s d v ≡ place_at s₀ d v

is_stays : (m₀ s₀ m s : List ℕ) (d v : ℕ) (t : Transition) → Stays m₀ s₀ m s d v → Is m₀ s₀ d v t → Is m s d v t
is_stays m₀ s₀ m s d v t h i = record {
  needed = h.needed ∙ i.needed;
  barred = h.barred ∙ i.barred;
  action = h.action ∙ i.action;
  to = h.to ∙ i.to;
}

listed_stays : (m₀ s₀ m s : List ℕ) (d : ℕ) (ts : List Transition) (q : ℕ) (keep : ℕ → Bool) {p n : ℕ}
    → Listed m₀ s₀ d ts q keep p n → ((v : ℕ) → v < n → Stays m₀ s₀ m s d v)
    → Listed m s d ts q keep p n
listed_stays m₀ s₀ m s d ts q keep start h = start
listed_stays m₀ s₀ m s d ts q keep (other r t e f) h = other (listed_stays m₀ s₀ m s d ts q keep r h) t e f
listed_stays m₀ s₀ m s d ts q keep (fails r e) h = fails (listed_stays m₀ s₀ m s d ts q keep r h) e
listed_stays m₀ s₀ m s d ts q keep (again r t e v l i) h =
    again (listed_stays m₀ s₀ m s d ts q keep r h) t e v l (is_stays m₀ s₀ m s d v t (h v l) i)
listed_stays m₀ s₀ m s d ts q keep (fresh {n = n} r t e f k i o) h =
    fresh (listed_stays m₀ s₀ m s d ts q keep r (λ v l. h v (omega arith))) t e f k
    (is_stays m₀ s₀ m s d n t (h n (omega arith)) i) ((h n (omega arith)).place ∙ o)

stays_refl : (m s : List ℕ) (d v : ℕ) → Stays m s m s d v
stays_refl m s d v = record { needed = refl; barred = refl; action = refl; to = refl; place = refl }

stays_trans : (m₀ s₀ m₁ s₁ m s : List ℕ) (d v : ℕ) → Stays m₀ s₀ m₁ s₁ d v → Stays m₁ s₁ m s d v → Stays m₀ s₀ m s d v
stays_trans m₀ s₀ m₁ s₁ m s d v a b = record {
  needed = b.needed ∙ a.needed;
  barred = b.barred ∙ a.barred;
  action = b.action ∙ a.action;
  to = b.to ∙ a.to;
  place = b.place ∙ a.place;
}

-- ── put ──

-- at other places of the masks nothing changes
wiring_refl : (m : List ℕ) → SameWiring m m
wiring_refl m = record { backs = λ c d p q. refl; ups = λ d p. refl }

pub wiring_trans : {m₀ m₁ m₂ : List ℕ} → SameWiring m₀ m₁ → SameWiring m₁ m₂ → SameWiring m₀ m₂
wiring_trans a b =
    record { backs = λ c d p q. b.backs c d p q ∙ a.backs c d p q; ups = λ d p. b.ups d p ∙ a.ups d p }

lists_trans : {m₀ m₁ m₂ : List ℕ} → SameLists m₀ m₁ → SameLists m₁ m₂ → SameLists m₀ m₂
lists_trans a b =
    record {
      needed = λ c v p q. b.needed c v p q ∙ a.needed c v p q;
      barred = λ c v p q. b.barred c v p q ∙ a.barred c v p q;
      action = λ c v p q. b.action c v p q ∙ a.action c v p q;
    }

put_masks_off : (m : List ℕ) (c v : ℕ) (t : Transition) (i : ℕ) → i ≢ needed_cell c v → i ≢ barred_cell c v
    → i ≢ action_cell c v → get_or (put_masks m c v t) i 0 ≡ get_or m i 0
unfolding put_masks
put_masks_off m c v t i a b d = get_or-set_other (set (set m (needed_cell c v) t.needed) (barred_cell c v) t.barred)
    (action_cell c v) i t.action 0 d
    ∙ get_or-set_other (set m (needed_cell c v) t.needed) (barred_cell c v) i t.barred 0 b
    ∙ get_or-set_other m (needed_cell c v) i t.needed 0 a

put-small_off : (s : List ℕ) (c v p : ℕ) (t : Transition) (i : ℕ) → i ≢ to_cell c v → i ≢ place_cell c v
    → get_or (put_small s c v p t) i 0 ≡ get_or s i 0
unfolding put_small
put-small_off s c v p t i a b =
    get_or-set_other (set s (to_cell c v) t.to) (place_cell c v) i p 0 b ∙ get_or-set_other s (to_cell c v) i t.to 0 a

pub length-put_masks : (m : List ℕ) (c v : ℕ) (t : Transition) → length (put_masks m c v t) ≡ length m
unfolding put_masks
length-put_masks m c v t = simp length-set

pub length-put-small : (s : List ℕ) (c v p : ℕ) (t : Transition) → length (put_small s c v p t) ≡ length s
unfolding put_small
length-put-small s c v p t = simp length-set

module _ (m s : List ℕ) (c v p : ℕ) (t : Transition) (lc : c < most_charts) (lv : v < most_from_state) where
  put_stays : (d u : ℕ) → d < most_charts → u < most_from_state → (d ≢ c)
      → Stays m s (put_masks m c v t) (put_small s c v p t) d u
  put_stays d u ld lu n =
      record {
        needed = put_masks_off m c v t (needed_cell d u) (λ e. n (omega arith)) (λ e. omega arith) (λ e. omega arith);
        barred = put_masks_off m c v t (barred_cell d u) (λ e. omega arith) (λ e. n (omega arith)) (λ e. omega arith);
        action = put_masks_off m c v t (action_cell d u) (λ e. omega arith) (λ e. omega arith) (λ e. n (omega arith));
        to = put-small_off s c v p t (to_cell d u) (λ e. n (omega arith)) (λ e. omega arith);
        place = put-small_off s c v p t (place_cell d u) (λ e. omega arith) (λ e. n (omega arith));
      }

  put_earlier : (u : ℕ) → u < v → Stays m s (put_masks m c v t) (put_small s c v p t) c u
  put_earlier u l =
      record {
        needed = put_masks_off m c v t (needed_cell c u) (λ e. omega arith) (λ e. omega arith) (λ e. omega arith);
        barred = put_masks_off m c v t (barred_cell c u) (λ e. omega arith) (λ e. omega arith) (λ e. omega arith);
        action = put_masks_off m c v t (action_cell c u) (λ e. omega arith) (λ e. omega arith) (λ e. omega arith);
        to = put-small_off s c v p t (to_cell c u) (λ e. omega arith) (λ e. omega arith);
        place = put-small_off s c v p t (place_cell c u) (λ e. omega arith) (λ e. omega arith);
      }

  put_is : masks_for (c + 1) ≤ length m → length s ≡ small_size → Is (put_masks m c v t) (put_small s c v p t) c v t
  unfolding put_masks put_small
  put_is lm ls =
      record {
        needed = get_or-set_other (set (set m (needed_cell c v) t.needed) (barred_cell c v) t.barred) (action_cell c v)
            (needed_cell c v) t.action 0 (λ e. omega arith)
            ∙ get_or-set_other (set m (needed_cell c v) t.needed) (barred_cell c v) (needed_cell c v) t.barred 0
            (λ e. omega arith) ∙ get_or-set_same m (needed_cell c v) t.needed 0 (omega arith);
        barred = get_or-set_other (set (set m (needed_cell c v) t.needed) (barred_cell c v) t.barred) (action_cell c v)
            (barred_cell c v) t.action 0 (λ e. omega arith)
            ∙ get_or-set_same (set m (needed_cell c v) t.needed) (barred_cell c v) t.barred 0
            (simp length-set (omega arith));
        action = get_or-set_same (set (set m (needed_cell c v) t.needed) (barred_cell c v) t.barred) (action_cell c v)
            t.action 0 (simp length-set (omega arith));
        to = get_or-set_other (set s (to_cell c v) t.to) (place_cell c v) (to_cell c v) p 0 (λ e. omega arith)
            ∙ get_or-set_same s (to_cell c v) t.to 0 (omega arith);
      }

  put-place : length s ≡ small_size → place_at (put_small s c v p t) c v ≡ p
  unfolding put_small
  put-place ls = get_or-set_same (set s (to_cell c v) t.to) (place_cell c v) p 0 (simp length-set (omega arith))

-- ── the same transition again ──

at_is : (m s : List ℕ) (c v : ℕ) (t : Transition) → is_at m s c v t ≡ true → Is m s c v t
unfolding is_at
at_is m s c v t h =
    let r = and_r (same (needed_at m c v) t.needed) _ h in
    let r' = and_r (same (barred_at m c v) t.barred) _ r in
    record {
      needed = same→≡ (needed_at m c v) t.needed (and_l _ _ h);
      barred = same→≡ (barred_at m c v) t.barred (and_l _ _ r);
      action = same→≡ (action_at m c v) t.action (and_l _ _ r');
      to = same→≡ (to_at s c v) t.to (and_r (same (action_at m c v) t.action) _ r');
    }

any-one : (n : ℕ) (p : ℕ → Bool) → any_up_to n p ≡ true → (v : ℕ) × (v < n) × (p v ≡ true)
unfolding any_up_to
any-one zero p h = absurd (false≢true h)
any-one (suc n) p h = go (any_up_to n p) refl h (any-one n p)
  where
    go : (b : Bool) → any_up_to n p ≡ b → (b || p n) ≡ true → (any_up_to n p ≡ true → (v : ℕ) × (v < n) × (p v ≡ true))
        → (v : ℕ) × (v < suc n) × (p v ≡ true)
    go true e h r = let u = r e in (u.0, (let l = u.1 in omega arith), u.2)
    go false e h r = (n, omega arith, h)

-- ── one transition more ──

module _ (c q : ℕ) (low own others shut : Set) where
  abbrev step : ℕ → Transition → Filling → Filling
  step p t f = considered c q low own others shut p t f

  -- whatever holds of a filling and of one with a candidate more holds after a transition was considered
  by_cases : (P : Filling → Type 0) (p : ℕ) (t : Transition) (f : Filling) → (same t.from q ≡ false → P f)
      → (same t.from q ≡ true → lasts_by low own others shut t ≡ false → P f)
      → (is_again f.masks f.small c f.count t ≡ true → P f)
      → (same t.from q ≡ true → lasts_by low own others shut t ≡ true → P (put c p t f)) → P (step p t f)
  unfolding considered
  by_cases P p t f a b d e = go₁ (same t.from q) refl
    where
      go₃ : same t.from q ≡ true → lasts_by low own others shut t ≡ true → (x : Bool)
          → is_again f.masks f.small c f.count t ≡ x → P (pick_filling x f (put c p t f))
      go₃ h k true g = d g
      go₃ h k false g = e h k

      go₂ : same t.from q ≡ true → (x : Bool) → lasts_by low own others shut t ≡ x
          → P (pick_filling x (pick_filling (is_again f.masks f.small c f.count t) f (put c p t f)) f)
      go₂ h true k = go₃ h k (is_again f.masks f.small c f.count t) refl
      go₂ h false k = b h k

      go₁ : (x : Bool) → same t.from q ≡ x
          → P (pick_filling x (pick_filling (lasts_by low own others shut t)
          (pick_filling (is_again f.masks f.small c f.count t) f (put c p t f)) f) f)
      go₁ true h = go₂ h (lasts_by low own others shut t) refl
      go₁ false h = a h

  pub length_masks : (g : ℕ → Transition) (p : ℕ) (f : Filling)
      → length (listing c q low own others shut g p f).masks ≡ length f.masks
  unfolding listing
  length_masks g zero f = refl
  length_masks g (suc p) f = let l = listing c q low own others shut g p f in
      by_cases (λ h. length h.masks ≡ length l.masks) p (g p) l (λ e. refl) (λ e k. refl) (λ e. refl)
      (λ e k. length-put_masks l.masks c l.count (g p)) ∙ length_masks g p f

  pub length-small : (g : ℕ → Transition) (p : ℕ) (f : Filling)
      → length (listing c q low own others shut g p f).small ≡ length f.small
  unfolding listing
  length-small g zero f = refl
  length-small g (suc p) f = let l = listing c q low own others shut g p f in
      by_cases (λ h. length h.small ≡ length l.small) p (g p) l (λ e. refl) (λ e k. refl) (λ e. refl)
      (λ e k. length-put-small l.small c l.count p (g p)) ∙ length-small g p f

  -- a chart has no more candidates than transitions from its state
  abbrev pub leave : (ℕ → Transition) → ℕ → ℕ
  leave g p = tally p (λ u. one (same (g u).from q))

  pub count-leave : (g : ℕ → Transition) (p : ℕ) (f : Filling)
      → (listing c q low own others shut g p f).count ≤ f.count + leave g p
  unfolding listing tally
  count-leave g zero f = omega arith
  count-leave g (suc p) f = let l = listing c q low own others shut g p f in let r = count-leave g p f in
      by_cases (λ h. h.count ≤ f.count + (one (same (g p).from q) + leave g p)) p (g p) l (λ e. omega arith)
      (λ e k. omega arith) (λ e. omega arith)
      (λ e k. rw e (omega arith))

  -- there is room for one more
  pub leave_room : (g : ℕ → Transition) (p k : ℕ) (f : Filling) → f.count ≡ 0 → p < k → leave g k ≤ most_from_state
      → (g p).from ≡ q → (listing c q low own others shut g p f).count < most_from_state
  leave_room g p k f z l few e = let r = count-leave g p f in
      let x : one (same (g p).from q) ≡ 1 = rw (e, same_refl q) in
      let h = tally_plus k (λ u. one (same (g u).from q)) p l in omega arith

  pub count_few : (g : ℕ → Transition) (p k : ℕ) (f : Filling) → f.count ≡ 0 → p ≤ k → leave g k ≤ most_from_state
      → (listing c q low own others shut g p f).count ≤ most_from_state
  count_few g p k f z l few = let r = count-leave g p f in
      let h = tally_mono p k (λ u. one (same (g u).from q)) l in omega arith

  module _ (lc : c < most_charts) (ts : List Transition) (keep : ℕ → Bool) (f₀ : Filling) where
    -- the filling f after p transitions
    pub record Lists (p : ℕ) (f : Filling) : Type 0 where
      pub listed : Listed f.masks f.small c ts q keep p f.count
      pub stays : (d u : ℕ) → d < most_charts → u < most_from_state → d ≢ c
          → Stays f₀.masks f₀.small f.masks f.small d u
      pub wires : SameWiring f₀.masks f.masks
      pub rest : (i : ℕ) → count_from ≤ i → i < place_from → get_or f.small i 0 ≡ get_or f₀.small i 0

    lists_next : (p : ℕ) (t : Transition) (f : Filling) → nth no_move ts p ≡ takes t → keep (suc p)
        ≡ lasts_by low own others shut t → masks_for (c + 1) ≤ length f.masks → length f.small ≡ small_size
        → (t.from ≡ q → f.count < most_from_state) → Lists p f → Lists (suc p) (step p t f)
    lists_next p t f e k lm ls room l = by_cases (λ h. Lists (suc p) h) p t f
        (λ a. same_but (other l.listed t e (λ w. false≢true (sym a ∙ rw w (same_refl q)))))
        (λ a b. same_but (fails l.listed (k ∙ b)))
        (λ a. let u = again_one a in
        same_but (again l.listed t e u.0 u.1 (at_is f.masks f.small c u.0 t u.2)))
        (λ a b. fresh-one (same→≡ t.from q a) (k ∙ b))
      where
        same_but : Listed f.masks f.small c ts q keep (suc p) f.count → Lists (suc p) f
        same_but h = record { listed = h; stays = l.stays; wires = l.wires; rest = l.rest }

        again_one : is_again f.masks f.small c f.count t ≡ true
            → (v : ℕ) × (v < f.count) × (is_at f.masks f.small c v t ≡ true)
        again_one a = any-one f.count (λ v. is_at f.masks f.small c v t) (unfold is_again in a)

        fresh-one : t.from ≡ q → keep (suc p) ≡ true → Lists (suc p) (put c p t f)
        fresh-one h b = let lv = room h in
            record {
              listed = rw (add-one f.count) (fresh (listed_stays f.masks f.small
                  (put_masks f.masks c f.count t) (put_small f.small c f.count p t) c ts q keep l.listed
                  (λ v r. put_earlier f.masks f.small c f.count p t lc lv v r)) t e h b
                  (put_is f.masks f.small c f.count p t lc lv lm ls)
                  (put-place f.masks f.small c f.count p t lc lv ls));
              stays = λ d u ld lu n. stays_trans f₀.masks f₀.small f.masks f.small _ _ d u
                  (l.stays d u ld lu n) (put_stays f.masks f.small c f.count p t lc lv d u ld lu n);
              wires = record {
                backs = λ a d p r. put_masks_off f.masks c f.count t (back_cell a d) (λ x. omega arith)
                    (λ x. omega arith) (λ x. omega arith) ∙ l.wires.backs a d p r;
                ups = λ d r. put_masks_off f.masks c f.count t (up_cell d) (λ x. omega arith) (λ x. omega arith)
                    (λ x. omega arith) ∙ l.wires.ups d r;
              };
              rest = λ i r r₂. put-small_off f.small c f.count p t i (λ x. omega arith) (λ x. omega arith)
                  ∙ l.rest i r r₂;
            }

    pub listing_lists : (g : ℕ → Transition) (k p : ℕ) → p ≤ k → leave g k ≤ most_from_state
        → ((u : ℕ) → u < k → nth no_move ts u ≡ takes (g u))
        → ((u : ℕ) → u < k → keep (suc u) ≡ lasts_by low own others shut (g u))
        → masks_for (c + 1) ≤ length f₀.masks → length f₀.small ≡ small_size → f₀.count ≡ 0
        → Lists p (listing c q low own others shut g p f₀)
    unfolding listing
    listing_lists g k zero l few at kp lm ls z = record {
      listed = rw z start;
      stays = λ d u ld lu n. stays_refl f₀.masks f₀.small d u;
      wires = wiring_refl f₀.masks;
      rest = λ i r r₂. refl;
    }
    listing_lists g k (suc p) l few at kp lm ls z = lists_next p (g p) (listing c q low own others shut g p f₀) (at p l)
        (kp p l) (let e = length_masks g p f₀ in omega arith) (length-small g p f₀ ∙ ls)
        (λ e. leave_room g p k f₀ z l few e) (listing_lists g k p (omega arith) few at kp lm ls z)

-- ── the wiring stays ──

abbrev Backs : List ℕ → List ℕ → Type 0
Backs m m₁ = (c d : ℕ) → c < most_charts → d < most_charts → back_at m c d ≡ back_at m₁ c d

-- ── one chart more ──

module _ (E : ℕ → Chart) (cfg : ℕ → ℕ) (N : ℕ) (lows shuts m₀ s₀ : List ℕ) (few : N ≤ most_charts) where
  -- the wiring of chart c is the same in tables that agree on it
  others_same : (m m₁ : List ℕ) (may : ℕ → Set) (c : ℕ) → c < N → Backs m m₁
      → others_at m N may c ≡ others_at m₁ N may c
  unfolding others_at
  others_same m m₁ may c l h =
      join_cong N _ _ (λ e r. ap (λ z. cond (same e c) 0 (may e) ∩ z) (h c e (omega arith) (omega arith)))

  keep_same : (m m₁ : List ℕ) (c v : ℕ) → c < N → Backs m m₁
      → keep_at E cfg N lows shuts m c v ≡ keep_at E cfg N lows shuts m₁ c v
  unfolding keep_at
  keep_same m m₁ c v l h = ap₂ (λ a b. kept_by (get_or lows c 0) a b (get_or shuts c 0) (E c) (cfg c) (pick (E c) v))
      (h c c (omega arith) (omega arith)) (others_same m m₁ _ c l h)

  keep-by : (m : List ℕ) (c : ℕ) (low own others shut : Set) (u : ℕ) (t : Transition) → low ≡ get_or lows c 0
      → own ≡ back_at m c c → others ≡ others_at m N (λ e. may_of (E e).transitions (cfg e)) c → shut ≡ get_or shuts c 0
      → nth no_move (E c).transitions u ≡ takes t
      → keep_at E cfg N lows shuts m c (suc u) ≡ lasts_by low own others shut t
  unfolding keep_at kept_by lasts_by pick test action_of opens_by
  keep-by m c low own others shut u t el eo es ez e =
      rw (el, eo, es, ez, nth_takes (behind (E c)) (E c).transitions u t e)

  pub until_none : length s₀ ≡ small_size → Until E cfg N lows shuts m₀ s₀ 0 m₀ s₀
  until_none ls = record {
    listed = λ c l. absurd (omega arith);
    counts = λ c l. absurd (omega arith);
    wires = wiring_refl m₀;
    rest = λ i l b. refl;
    masks = refl;
    small = ls;
  }

  module _ (k : ℕ) (lk : k < N) (m s : List ℕ) (low own others shut : Set) (g : ℕ → Transition) where
    abbrev done : Filling
    done =
        listing k (cfg k) low own others shut g (length (E k).transitions) (record { masks = m; small = s; count = 0 })

    abbrev counted : List ℕ
    counted = set done.small (count_cell k) done.count

    -- chart k gets its candidates
    pub until_next : masks_for N ≤ length m → Until E cfg N lows shuts m₀ s₀ k m s
        → ((u : ℕ) → u < length (E k).transitions → nth no_move (E k).transitions u ≡ takes (g u))
        → tally (length (E k).transitions) (λ u. one (same (g u).from (cfg k))) ≤ most_from_state
        → low ≡ get_or lows k 0 → own ≡ back_at m k k → others ≡ others_at m N (λ e. may_of (E e).transitions (cfg e)) k
        → shut ≡ get_or shuts k 0 → Until E cfg N lows shuts m₀ s₀ (suc k) done.masks counted
    until_next lm un at room el eo es ez =
        record {
          listed = λ c l. go c l (same c k) refl;
          counts = λ c l. go' c l (same c k) refl;
          wires = wiring_trans un.wires li.wires;
          rest = λ i l b. get_or-set_other done.small (count_cell k) i done.count 0 (λ e. omega arith)
              ∙ li.rest i (omega arith) b ∙ un.rest i (omega arith) b;
          masks = length_masks k (cfg k) low own others shut g (length (E k).transitions) f₀ ∙ un.masks;
          small = length-set done.small (count_cell k) done.count ∙ ls;
        }
      where
        f₀ : Filling
        f₀ = record { masks = m; small = s; count = 0 }

        ls : length done.small ≡ small_size
        ls = length-small k (cfg k) low own others shut g (length (E k).transitions) f₀ ∙ un.small

        kept : (u : ℕ) → u < length (E k).transitions
            → keep_at E cfg N lows shuts m₀ k (suc u) ≡ lasts_by low own others shut (g u)
        kept u l = keep_same m₀ m k (suc u) lk (λ a d p r. sym (un.wires.backs a d p r))
            ∙ keep-by m k low own others shut u (g u) el eo es ez (at u l)

        li : Lists k (cfg k) low own others shut (let h = few in omega arith) (E k).transitions
            (keep_at E cfg N lows shuts m₀ k) f₀ (length (E k).transitions) done
        li = listing_lists k (cfg k) low own others shut (let h = few in omega arith) (E k).transitions
            (keep_at E cfg N lows shuts m₀ k) f₀ g (length (E k).transitions) (length (E k).transitions)
            (omega arith) room at kept (omega arith) un.small refl

        full : done.count ≤ most_from_state
        full = let h = count-leave k (cfg k) low own others shut g (length (E k).transitions) f₀ in omega arith

        to_stays : (c v : ℕ) → c < most_charts → v < most_from_state
            → Stays done.masks done.small done.masks counted c v
        to_stays c v l r = record {
          needed = refl;
          barred = refl;
          action = refl;
          to = get_or-set_other done.small (count_cell k) (to_cell c v) done.count 0 (λ e. omega arith);
          place = get_or-set_other done.small (count_cell k) (place_cell c v) done.count 0
              (λ e. let h = few in omega arith);
        }

        count_at_lem : count_at counted k ≡ done.count
        count_at_lem = get_or-set_same done.small (count_cell k) done.count 0 (let h = ls in omega arith)

        count_off : (c : ℕ) → c < suc k → c ≢ k → count_at counted c ≡ count_at s c
        count_off c l n = get_or-set_other done.small (count_cell k) (count_cell c) done.count 0
            (λ e. n (omega arith)) ∙ li.rest (count_cell c) (omega arith) (omega arith)

        apart? : (c : ℕ) → same c k ≡ false → c ≢ k
        apart? c e w = false≢true (sym e ∙ rw w (same_refl k))

        go : (c : ℕ) → c < suc k → (b : Bool) → same c k ≡ b → Listed done.masks counted c (E c).transitions (cfg c)
            (keep_at E cfg N lows shuts m₀ c) (length (E c).transitions) (count_at counted c)
        go c l true e = rw (same→≡ c k e, count_at_lem) (listed_stays done.masks done.small done.masks counted k
            (E k).transitions (cfg k) (keep_at E cfg N lows shuts m₀ k) li.listed
            (λ v r. to_stays k v (omega arith) (let h = full in omega arith)))
        go c l false e = let n = apart? c e in let h = un.counts c (omega arith) in rw (count_off c l n)
            (listed_stays m s done.masks counted c (E c).transitions (cfg c) (keep_at E cfg N lows shuts m₀ c)
            (un.listed c (omega arith))
            (λ v r. stays_trans m s done.masks done.small done.masks counted c v
            (li.stays c v (omega arith) (omega arith) n) (to_stays c v (omega arith) (omega arith))))

        go' : (c : ℕ) → c < suc k → (b : Bool) → same c k ≡ b → count_at counted c ≤ most_from_state
        go' c l true e = rw (same→≡ c k e, count_at_lem) full
        go' c l false e = rw (count_off c l (apart? c e)) (un.counts c (let n = apart? c e in omega arith))

-- ── the rows ahead ──

-- a row ahead leaves the wiring and the candidates
module _ (k : ℕ) (w : ℕ → Set) (n : ℕ) (m₀ m : List ℕ) (lk : k ≤ most_charts) (ln : n ≤ most_charts)
    (a : AheadRow k w n m₀ m) where
  row_wiring : SameWiring m₀ m
  row_wiring = record {
    backs = λ c d p q. row-rest a (back_cell c d) (λ e r x. omega arith);
    ups = λ d p. row-rest a (up_cell d) (λ e r x. omega arith);
  }

  row_lists : SameLists m₀ m
  row_lists =
      record {
        needed = λ c v p q. row-rest a (needed_cell c v) (λ e r x. omega arith);
        barred = λ c v p q. row-rest a (barred_cell c v) (λ e r x. omega arith);
        action = λ c v p q. row-rest a (action_cell c v) (λ e r x. omega arith);
      }

-- what row k is made from is still there
pub row-value : (k : ℕ) (w : ℕ → Set) (c : ℕ) (m₀ m : List ℕ) (u : Set) → AheadRow k w c m₀ m → c < most_charts
    → k < most_charts → u ∩ back_at m c k ∪ ahead_at m (k + 1) c ≡ ahead_by m₀ k u c
unfolding ahead_by
row-value k w c m₀ m u a l r = ap₂ (λ x y. u ∩ x ∪ y) (row-rest a (back_cell c k) (λ d p e. omega arith))
    (ap (λ z. ahead_at m z c) (add-one k) ∙ row-rest a (ahead_cell (suc k) c) (λ d p e. omega arith))

module _ (N : ℕ) (few : N ≤ most_charts) (s m₀ : List ℕ) where
  -- nothing is left after the last chart
  pub from_last : (m : List ℕ) → AheadRow N (λ c. 0) most_charts m₀ m → AheadFrom N s N m₀ m
  unfolding ahead
  from_last m a =
      record {
        rows = λ j c p q l.
            let e : j ≡ N = omega arith in
            let z : N - N ≡ 0 = omega arith in rw (e, z) (a.in_row c (omega arith));
        wires = row_wiring N (λ c. 0) most_charts m₀ m few (omega arith) a;
        lists = row_lists N (λ c. 0) most_charts m₀ m few (omega arith) a;
        masks = a.long;
      }

  may-same : (m : List ℕ) (c : ℕ) → c < N → count_at s c ≤ most_from_state → SameLists m₀ m
      → may_at m s c ≡ may_at m₀ s c
  unfolding may_at
  may-same m c l f h = join_cong (count_at s c) _ _ (λ v r. h.action c v (omega arith) (omega arith))

  pub from_next : (k : ℕ) (m m' : List ℕ) (u : Set) → suc k ≤ N → count_at s k ≤ most_from_state → u ≡ may_at m s k
      → AheadFrom N s (suc k) m₀ m → AheadRow k (ahead_by m k u) N m m' → AheadFrom N s k m₀ m'
  unfolding ahead ahead_by
  from_next k m m' u l f e a r =
      record {
        rows = λ j c p q x. go j c p q x (same j k) refl;
        wires = wiring_trans a.wires (row_wiring k _ N m m' (omega arith) few r);
        lists = lists_trans a.lists (row_lists k _ N m m' (omega arith) few r);
        masks = r.long ∙ a.masks;
      }
    where
      part : ℕ → ℕ → Set
      part c e = may_at m₀ s e ∩ back_at m₀ c e

      go : (j c : ℕ) → k ≤ j → j ≤ N → c < N → (b : Bool) → same j k ≡ b → ahead_at m' j c ≡ ahead (N - j) j (part c)
      go j c p q x true y =
          rw (same→≡ j k y) (r.in_row c x ∙ ap₂ ◌∪◌ (ap₂ ◌∩◌ (e ∙ may-same m k (omega arith) f a.lists)
          (a.wires.backs c k (omega arith) (omega arith))) (a.rows (suc k) c (omega arith) (omega arith) x)
          ∙ sym (ap (λ n. ahead n k (part c)) (let h : N - k ≡ suc (N - suc k) = omega arith in h)))
      go j c p q x false y = let z : j ≢ k = λ o. false≢true (sym y ∙ rw o (same_refl k)) in
          row-rest r (ahead_cell j c) (λ d o w. omega arith) ∙ a.rows j c (omega arith) q x

pub chosen-ahead : {E : ℕ → Chart} {cfg : ℕ → ℕ} {N : ℕ} {lows shuts m s : List ℕ} → Chosen E cfg N lows shuts m s
    → (k c : ℕ) → k < N → c < N → Covered m k c
unfolding ahead
chosen-ahead {E} {cfg} {N} {lows} {shuts} {m} {s} h k c p q =
    ap₂ (λ (x y : ℕ). x ∖ (y ∪ back_at m c k))
    (h.ahead-at k c (omega arith) q
    ∙ ap (λ (n : ℕ). ahead n k part) (let e : N - k ≡ suc (N - suc k) = omega arith in e))
    (h.ahead-at (k + 1) c (omega arith) q ∙ ap (λ (j : ℕ). ahead (N - j) j part) (add-one k))
    ∙ sets (may_at m s k ∷ back_at m c k ∷ ahead (N - suc k) (suc k) part ∷ []) [] (A ∩ₑ B ∪ₑ C ⊑ C ∪ₑ B) tt
  where
    part : ℕ → Set
    part e = may_at m s e ∩ back_at m c e

-- ── all of it ──

ahead_cong : (n k : ℕ) (f g : ℕ → Set) → ((e : ℕ) → e < n + k → f e ≡ g e) → ahead n k f ≡ ahead n k g
unfolding ahead
ahead_cong zero k f g h = refl
ahead_cong (suc n) k f g h = ap₂ ◌∪◌ (h k (omega arith)) (ahead_cong n (suc k) f g (λ e l. h e (omega arith)))

listed_kept : (m s : List ℕ) (c : ℕ) (ts : List Transition) (q : ℕ) (keep keep' : ℕ → Bool)
    → ((v : ℕ) → keep v ≡ keep' v) → {p n : ℕ} → Listed m s c ts q keep p n → Listed m s c ts q keep' p n
listed_kept m s c ts q keep keep' h {p} {n} l = subst (λ f. Listed m s c ts q f p n) (fun_ext h) l

module _ (E : ℕ → Chart) (cfg : ℕ → ℕ) (N : ℕ) (lows shuts m₀ s₀ : List ℕ) (few : N ≤ most_charts) where
  pub chosen : (m m' s : List ℕ) → Until E cfg N lows shuts m₀ s₀ N m s → AheadFrom N s 0 m m'
      → ((c : ℕ) → c < N → state_at s₀ c ≡ cfg c) → Chosen E cfg N lows shuts m' s
  chosen m m' s un a st =
      record {
        listed = λ c l. listed_kept m' s c (E c).transitions (cfg c) (keep_at E cfg N lows shuts m₀ c)
            (keep_at E cfg N lows shuts m' c)
            (λ v. keep_same E cfg N lows shuts m₀ s₀ few m₀ m' c v l
            (λ d e p q. sym (a.wires.backs d e p q ∙ un.wires.backs d e p q)))
            (listed_stays m s m' s c (E c).transitions (cfg c) (keep_at E cfg N lows shuts m₀ c) (un.listed c l)
            (λ v r. let h = un.counts c l in
            record {
              needed = a.lists.needed c v (omega arith) (omega arith);
              barred = a.lists.barred c v (omega arith) (omega arith);
              action = a.lists.action c v (omega arith) (omega arith);
              to = refl;
              place = refl;
            }));
        counts = un.counts;
        ahead-at = λ k c p q. a.rows k c (omega arith) p q ∙ ahead_cong (N - k) k _ _
            (λ e x. ap₂ ◌∩◌ (sym (may-same N few s m m' e (omega arith) (un.counts e (omega arith)) a.lists))
            (sym (a.wires.backs c e (omega arith) (omega arith))));
        state_at_lem = λ c l. un.rest (state_cell c) (omega arith) (omega arith) ∙ st c l;
      }

-- ── what is chosen by the tables is what the file's candidates are ──

-- chart c's own part of what it is offered, apart
join_apart : (N c : ℕ) (a : Set) (f b : ℕ → Set) → c < N
    → union_up_to N (λ e. cond (same e c) a (f e) ∩ b e) ≡ a ∩ b c ∪ union_up_to N (λ e. cond (same e c) 0 (f e) ∩ b e)
unfolding union_up_to
join_apart zero c a f b l = absurd (omega arith)
join_apart (suc N) c a f b l = go (same c N) refl (join_apart N c a f b)
  where
    with-own : Set → ℕ → Set
    with-own z e = cond (same e c) z (f e) ∩ b e

    elsewhere : (z z' : Set) (e : ℕ) → e ≢ c → with-own z e ≡ with-own z' e
    elsewhere z z' e n = rw (same_≢ e c n)

    here : (z : Set) → with-own z c ≡ z ∩ b c
    here z = rw (same_refl c)

    go : (x : Bool) → same c N ≡ x → (c < N → union_up_to N (with-own a) ≡ a ∩ b c ∪ union_up_to N (with-own 0))
        → union_up_to N (with-own a) ∪ with-own a N ≡ a ∩ b c ∪ (union_up_to N (with-own 0) ∪ with-own 0 N)
    go true x r = let e = same→≡ c N x in
        sets (union_up_to N (with-own a) ∷ union_up_to N (with-own 0) ∷ with-own a N ∷ with-own 0 N ∷ (a ∩ b c)
        ∷ b c ∷ [])
        (A ≐ B ∷ C ≐ Eₑ ∷ D ≐ ∅ₑ ∩ₑ Fₑ ∷ []) (A ∪ₑ C ≐ Eₑ ∪ₑ (B ∪ₑ D)) tt
        (join_cong N (with-own a) (with-own 0) (λ i l. elsewhere a 0 i (λ y. omega arith))) (ap (with-own a) (sym e)
        ∙ here a) (ap (with-own 0) (sym e) ∙ here 0)
    go false x r = let z : c ≢ N = λ o. false≢true (sym x ∙ rw o (same_refl N)) in
        sets (union_up_to N (with-own a) ∷ (a ∩ b c) ∷ union_up_to N (with-own 0) ∷ with-own a N ∷ with-own 0 N ∷ [])
        (A ≐ B ∪ₑ C ∷ D ≐ Eₑ ∷ []) (A ∪ₑ D ≐ B ∪ₑ (C ∪ₑ Eₑ)) tt (r (omega arith))
        (elsewhere a 0 N (λ y. z (sym y)))

join_off : (N c : ℕ) (b : ℕ → Set) → union_up_to N (λ e. cond (same e c) 0 0 ∩ b e) ≡ 0
unfolding union_up_to
join_off zero c b = refl
join_off (suc N) c b = sets (union_up_to N (λ e. cond (same e c) 0 0 ∩ b e) ∷ cond (same N c) 0 0 ∷ b N ∷ [])
    (A ≐ ∅ₑ ∷ B ≐ ∅ₑ ∷ []) (A ∪ₑ B ∩ₑ C ≐ ∅ₑ) tt (join_off N c b) (either (same N c))
  where
    either : (x : Bool) → cond {A = Set} x 0 0 ≡ 0
    either true = refl
    either false = refl

-- two lists of actions, by one row
join_both : (N : ℕ) (f g b : ℕ → Set)
    → union_up_to N (λ e. (f e ∪ g e) ∩ b e) ≡ union_up_to N (λ e. f e ∩ b e) ∪ union_up_to N (λ e. g e ∩ b e)
unfolding union_up_to
join_both zero f g b = sets [] [] (∅ₑ ≐ ∅ₑ ∪ₑ ∅ₑ) tt
join_both (suc N) f g b = sets (union_up_to N (λ e. (f e ∪ g e) ∩ b e) ∷ union_up_to N (λ e. f e ∩ b e)
    ∷ union_up_to N (λ e. g e ∩ b e) ∷ f N ∷ g N ∷ b N ∷ [])
    (A ≐ B ∪ₑ C ∷ []) (A ∪ₑ (D ∪ₑ Eₑ) ∩ₑ Fₑ ≐ B ∪ₑ D ∩ₑ Fₑ ∪ₑ (C ∪ₑ Eₑ ∩ₑ Fₑ)) tt (join_both N f g b)

module _ (E : ℕ → Chart) (state : ℕ → ℕ) (cfg : ℕ → ℕ) (N : ℕ) (enc : ℕ → Option ℕ) (sc : ℕ → ℕ) (t : Tree) (inp : Set)
    (m s lows shuts : List ℕ)
    (ro : Rows E state cfg N enc sc t m s) (lw : Lows E cfg N enc t inp lows) where
  abbrev may₀ : ℕ → Set
  may₀ c = may_of (E c).transitions (cfg c)

  -- what chart c is offered, its own action a and the others' f with what is sure
  offered-apart : (c : ℕ) (a : Set) (f : ℕ → Set) → c < N
      → offered N (λ e. cond (same e c) a (f e) ∪ surely enc E cfg e) inp (down t c) (back E t c)
      ≡ get_or lows c 0 ∪ a ∩ back_at m c c ∪ union_up_to N (λ e. cond (same e c) 0 (f e) ∩ back_at m c e)
  unfolding offered
  offered-apart c a f l = sets ((inp ∩ down t c) ∷ union_up_to N
      (λ e. (cond (same e c) a (f e) ∪ surely enc E cfg e) ∩ back E t c e) ∷ get_or lows c 0 ∷ (a ∩ back_at m c c)
      ∷ union_up_to N (λ e. cond (same e c) 0 (f e) ∩ back_at m c e)
      ∷ union_up_to N (λ e. surely enc E cfg e ∩ back E t c e) ∷ [])
      (C ≐ A ∪ₑ Fₑ ∷ B ≐ D ∪ₑ Eₑ ∪ₑ Fₑ ∷ []) (A ∪ₑ B ≐ C ∪ₑ D ∪ₑ Eₑ) tt (lw c l)
      (join_both N (λ e. cond (same e c) a (f e)) (surely enc E cfg) (back E t c)
      ∙ ap (λ z. z ∪ union_up_to N (λ e. surely enc E cfg e ∩ back E t c e))
      (join_cong N _ _ (λ e r. ap (λ z. cond (same e c) a (f e) ∩ z) (sym (ro.back_at_lem c e l r)))
      ∙ join_apart N c a f (back_at m c) l))

  -- the places that are kept: what may be met, and may begin an open choice
  abbrev keeps₀ : ℕ → ℕ → Bool
  keeps₀ = opening E cfg shuts (lasts E state cfg N enc t inp may₀)

  keep-lasts : (c v : ℕ) → c < N → keep_at E cfg N lows shuts m c v ≡ keeps₀ c v
  unfolding keep_at kept_by lasts others_at
  keep-lasts c v l =
      ap₂ (λ lo hi. test (E c) (cfg c) (pick (E c) v) lo hi && opens_by (get_or shuts c 0) (cfg c) (pick (E c) v))
      (sym (offered-apart c (action_of (pick (E c) v)) (λ e. 0) l
      ∙ sets ((get_or lows c 0 ∪ action_of (pick (E c) v) ∩ back_at m c c) ∷ union_up_to N
      (λ e. cond (same e c) 0 0 ∩ back_at m c e) ∷ []) (B ≐ ∅ₑ ∷ []) (A ∪ₑ B ≐ A) tt (join_off N c (back_at m c))))
      (sym (offered-apart c (action_of (pick (E c) v)) may₀ l))

  pub candidates : Chosen E cfg N lows shuts m s → Candidates E cfg N t keeps₀ m s
  candidates ch =
      record {
        listed = λ c l. listed_kept m s c (E c).transitions (cfg c) (keep_at E cfg N lows shuts m c) (keeps₀ c)
            (λ v. keep-lasts c v l) (ch.listed c l);
        ahead-at = λ k c p q. ch.ahead-at k c p q
            ∙ ahead_cong (N - k) k _ _ (λ e x. ap (λ z. may_at m s e ∩ z) (ro.back_at_lem c e q (omega arith)));
      }

  -- charts that may stay, likewise
  pub stayers_last : {g y : List ℕ} → Stayers E cfg N (keep_at E cfg N lows shuts m) g y → Stayers E cfg N keeps₀ g y
  stayers_last sy =
      record {
        open_at = λ c l. sy.open_at c l ∙ ap (λ b. (E c).stays && b) (keep-lasts c (last_place (E c)) l);
        calm-at = sy.calm-at;
      }

-- staying is kept unless a trigger surely holds, or the present state is shut
pub keep_stay : (E : ℕ → Chart) (cfg : ℕ → ℕ) (N : ℕ) (lows shuts m : List ℕ) (c : ℕ) → (E c).stays ≡ true
    → keep_at E cfg N lows shuts m c (last_place (E c))
    ≡ (untriggered (E c).transitions (cfg c) (get_or lows c 0)
    (get_or lows c 0 ∪ others_at m N (λ e. may_of (E e).transitions (cfg e)) c)
    && not (bit (get_or shuts c 0) (cfg c)))
unfolding keep_at kept_by test action_of opens_by
keep_stay E cfg N lows shuts m c two = let h : get_or lows c 0 ∪ 0 ∩ back_at m c c ≡ get_or lows c 0 =
    sets (get_or lows c 0 ∷ back_at m c c ∷ []) [] (A ∪ₑ (∅ₑ ∩ₑ B) ≐ A) tt in
    ap (λ M. kept_by (get_or lows c 0) (back_at m c c) (others_at m N (λ e. may_of (E e).transitions (cfg e)) c)
    (get_or shuts c 0) (E c) (cfg c) M) (stay_last (E c) two)
    ∙ ap (λ z. untriggered (E c).transitions (cfg c) z (z ∪ others_at m N (λ e. may_of (E e).transitions (cfg e)) c)
    && not (bit (get_or shuts c 0) (cfg c))) h

-- ── what is surely offered ──

module _ (E : ℕ → Chart) (cfg : ℕ → ℕ) (base : List ℕ) where
  -- by tables with the same wiring and the same masters
  pub raised-same : (k : ℕ) (m s m' s' lows : List ℕ) → k ≤ most_charts → Backs m' m
      → ((i : ℕ) → master_from ≤ i → i < state_from → get_or s' i 0 ≡ get_or s i 0)
      → Raised E cfg k m s base lows → Raised E cfg k m' s' base lows
  unfolding sure_at
  raised-same k m s m' s' lows few f g h c l = h c l ∙ ap (λ z. get_or base c 0 ∪ z) (join_cong k _ _ (λ e r.
      ap₂ (λ x y. cond (ltb x most_charts) 0 (sure_in (E e).stays (sure_of (E e).transitions (cfg e))) ∩ y)
      (sym (g (master_cell e) (omega arith) (omega arith))) (sym (f c e (omega arith) (omega arith)))))

module _ (E : ℕ → Chart) (state : ℕ → ℕ) (cfg : ℕ → ℕ) (N : ℕ) (enc : ℕ → Option ℕ) (sc : ℕ → ℕ) (t : Tree) (inp : Set)
    (m s base lows : List ℕ)
    (st : Stands N enc sc t) (ro : Rows E state cfg N enc sc t m s) where
  sure_is : (e : ℕ) → e < N → sure_at s e (sure_in (E e).stays (sure_of (E e).transitions (cfg e))) ≡ surely enc E cfg e
  unfolding sure_at surely
  sure_is e l = go (enc e) refl
    where
      go : (κ : Option ℕ) → enc e ≡ κ
          → cond (ltb (master_at s e) most_charts) 0 (sure_in (E e).stays (sure_of (E e).transitions (cfg e)))
          ≡ outside κ (sure_in (E e).stays (sure_of (E e).transitions (cfg e)))
      go none x = rw (le-ltb (master_at s e) most_charts (ro.outside e l x))
      go (some i) x = rw (lt-ltb (master_at s e) most_charts
          (let a = ro.few in let b = st.lower e i l x in let d = (ro.inside e i l x).0 in omega arith))

  pub lows_are : ((c : ℕ) → c < N → get_or base c 0 ≡ inp ∩ down t c) → Raised E cfg N m s base lows
      → Lows E cfg N enc t inp lows
  lows_are f h c l = h c (let a = ro.few in omega arith)
      ∙ ap₂ ◌∪◌ (f c l) (join_cong N _ _ (λ e r. ap₂ ◌∩◌ (sure_is e r) (ro.back_at_lem c e l r)))

-- ── no search is needed ──

module _ (m s g y : List ℕ) (c : ℕ) (z : count_at s c ≡ 0) (o : c ≤ master_at s c) (n₀ : stays_at g y c ≡ false) where
  -- a chart that is surely active, has no candidate and cannot stay: nothing is found
  hunts_none : (n k : ℕ) (t : Trail) → k ≤ c → c < n + k → hunts_both m s g y n k t ≡ []
  unfolding hunts_both in_turn wakes
  hunts_none zero k t p q = absurd (omega arith)
  hunts_none (suc n) k t p q = go (same k c) refl (hunts_none n (suc k))
    where
      block : Trail → List Outcome
      block t' = cond (fine_at m s t' k && quiet_at m s g y t' k) (hunts_both m s g y n (suc k) t') []

      both : (b : Bool) (x : List Outcome) → x ≡ [] → cond b x [] ≡ []
      both true x e = e
      both false x e = refl

      either : (b : Bool) (x y : List Outcome) → x ≡ [] → y ≡ [] → cond b x y ≡ []
      either true x y e f = e
      either false x y e f = f

      go : (b : Bool) → same k c ≡ b → ((t' : Trail) → suc k ≤ c → c < n + suc k → hunts_both m s g y n (suc k) t' ≡ [])
          → cond (wakes m s t k) (in_turn (count_at s k) (λ v. block (taken m s t k v))
          ++ cond (stays_at g y k) (block (stayed m s t k)) []) (block (rested m s t k)) ≡ []
      go true e ih = rw (same→≡ k c e, le-ltb (master_at s c) c o, z, n₀)
      go false e ih = let w : k ≢ c = λ x. false≢true (sym e ∙ rw x (same_refl c)) in
          let end : (t' : Trail) → block t' ≡ [] = λ t'. both (fine_at m s t' k && quiet_at m s g y t' k)
          (hunts_both m s g y n (suc k) t') (ih t' (omega arith) (omega arith)) in
          either (wakes m s t k) _ _ (ap₂ ◌++◌ (each_none (count_at s k) _ (λ v l. end (taken m s t k v)))
          (both (stays_at g y k) (block (stayed m s t k)) (end (stayed m s t k)))) (end (rested m s t k))

pub hunts_stuck : (m s g y : List ℕ) (N : ℕ) (t : Trail) → N ≤ most_charts → stuck s g y N ≡ true
    → hunts_both m s g y N 0 t ≡ []
unfolding stuck
hunts_stuck m s g y N t few h =
    let u = any-one N (λ c. same (count_at s c) 0 && (not (ltb (master_at s c) most_charts) && not (stays_at g y c))) h
    in
    let l = u.1 in
    let r = and_r (same (count_at s u.0) 0) _ u.2 in
    let o =
    ltb-false (master_at s u.0) most_charts (tests-not-true (ltb (master_at s u.0) most_charts) (and_l _ _ r)) in
    hunts_none m s g y u.0 (same→≡ (count_at s u.0) 0 (and_l _ _ u.2)) (omega arith)
    (tests-not-true (stays_at g y u.0) (and_r (not (ltb (master_at s u.0) most_charts)) _ r)) N 0 t (omega arith)
    (omega arith)
