-- Laws of noting triggers. In order: a trigger that is put down (put-needed, put-barred, put_other), what stands beside
-- it (beside_none, beside-put), a chart's records one behind the other (records-few, noting-from), one transition more
-- (noting-none, noting-next, noting-room, noting-few), what a search is told of a chart (tells-shut, tells-open), of
-- all charts (telling-none, telling-next), and that this is as the search asks for (stays-told, stays-none).
use Rattle.std.specs.Prelude.{◌≡◌, refl, Bool, true, ◌&&◌, not, cond, List, ◌≢◌, ℕ, suc, ◌+◌, ◌*◌, ◌≤◌, ◌<◌, set}
use Rattle.std.specs.Prelude.{replicate}
use Rattle.std.proofs.Common.{sym, ◌∙◌, ap, ap₂, add-one}
use Rattle.std.proofs.Math.Path.{subst, fun_ext}
use Rattle.std.proofs.Math.Bool.{false, false≢true}
use native.Mathlib.Omega.{arith}
use Rattle.std.proofs.Math.Decide.{dec_lt}
use Rattle.std.proofs.Math.ListN.{length, get_or, length-set, length-replicate, get_or-replicate}
use Rattle.std.proofs.Math.Seq.{get_or-set_same, get_or-set_other}
use Rattle.signals.specs.Mask.{◌∪◌, ◌∩◌, bit}
use Rattle.layout.specs.Body.{head_at, start_of, transition_at, transitions_of}
use Rattle.layout.specs.Body.{from as fromOn}
use Rattle.layout.specs.declared.body.Shape.{Shape}
use Rattle.layout.specs.declared.record.Transition.{Transition}
use Rattle.layout.specs.declared.record.Head.{Head}
use Rattle.meaning.specs.Numbers.{most_charts, most_from_state, stay_edition}
use Rattle.meaning.specs.Sums.{tally, one}
use Rattle.meaning.specs.Sums.Laws.{tally-none, tally-more, tally_plus, tally_mono}
use Rattle.meaning.specs.Meaning.{Set, same, Chart, no_move, last_place, untriggered}
use Rattle.meaning.specs.File.{chart_of}
use Rattle.meaning.specs.Laws.Bools.{same_refl, same→≡, same_≢}
use Rattle.wiring.specs.Dropped.{join_cong}
use Rattle.cells.specs.Table.{back_at}
use Rattle.cells.specs.Triggers.{trigger_needed_cell, trigger_barred_cell, triggers_for, trigger_needed, trigger_barred}
use Rattle.cells.specs.Triggers.{put_trigger, stays_size}
use Rattle.settling.specs.Calm.{trips}
use Rattle.tables.specs.Narrowing.Laws.{quiet-narrowed}
use Rattle.tables.specs.Insertion.{others_at, keep_at}
use Rattle.tables.specs.Insertion.Laws.{keep_stay}
use Rattle.tables.specs.Triggers.{Noted, begun, passed, noted, SameTriggers, noted_kept, noted_trips, Told, shut}
use Rattle.tables.specs.Triggers.{listed, told_kept, told_narrowed, stayers}
use Rattle.candidates.specs.Candidates.{Mays, read_charts, record_from}
use Rattle.meaning.proofs.Laws.Choices.{nth-from}
use Rattle.candidates.specs.Candidates.Laws.{record_from_lem, counted-from, length_from}
use Rattle.staying.specs.Staying.{Notes, Beside, Noting, Tells, quiet, Telling, Stays}

-- ── a trigger that is put down ──

module _ (g : List ℕ) (c k : ℕ) (t : Transition) (l : c < most_charts) (r : k < most_from_state)
    (z : triggers_for (c + 1) ≤ length g) where
  put_needed : trigger_needed (put_trigger g c k t) c k ≡ t.needed
  unfolding put_trigger
  put_needed = get_or-set_other (set g (trigger_needed_cell c k) t.needed) (trigger_barred_cell c k)
      (trigger_needed_cell c k) t.barred 0 (λ e. omega arith)
      ∙ get_or-set_same g (trigger_needed_cell c k) t.needed 0 (omega arith)

  put_barred : trigger_barred (put_trigger g c k t) c k ≡ t.barred
  unfolding put_trigger
  put_barred = get_or-set_same (set g (trigger_needed_cell c k) t.needed) (trigger_barred_cell c k) t.barred 0
      (rw (length-set g (trigger_needed_cell c k) t.needed) (omega arith))

  -- at any other place
  put_other : (i : ℕ) → i ≢ trigger_needed_cell c k → i ≢ trigger_barred_cell c k
      → get_or (put_trigger g c k t) i 0 ≡ get_or g i 0
  unfolding put_trigger
  put_other i p q = get_or-set_other (set g (trigger_needed_cell c k) t.needed) (trigger_barred_cell c k) i t.barred 0 q
      ∙ get_or-set_other g (trigger_needed_cell c k) i t.needed 0 p

  put_earlier : SameTriggers g (put_trigger g c k t) c k
  put_earlier v h = (
    put_other (trigger_needed_cell c v) (λ e. omega arith) (λ e. omega arith),
    put_other (trigger_barred_cell c v) (λ e. omega arith) (λ e. omega arith),
  )

  put-size : length (put_trigger g c k t) ≡ length g
  unfolding put_trigger
  put-size = length-set (set g (trigger_needed_cell c k) t.needed) (trigger_barred_cell c k) t.barred
      ∙ length-set g (trigger_needed_cell c k) t.needed

  beside-put : (g₀ : List ℕ) → Beside c g₀ g → Beside c g₀ (put_trigger g c k t)
  beside-put g₀ b =
      record {
        others = λ d m n v h. let o = b.others d m n v h in (
          put_other (trigger_needed_cell d v) (λ e. n (omega arith)) (λ e. n (omega arith)) ∙ o.0,
          put_other (trigger_barred_cell d v) (λ e. n (omega arith)) (λ e. n (omega arith)) ∙ o.1,
        );
        size = put-size ∙ b.size;
      }

beside_none : (c : ℕ) (g : List ℕ) → Beside c g g
beside_none c g = record { others = λ d m n v h. (refl, refl); size = refl }

-- ── the records of a chart ──

-- a chart's records, one behind the other from where its first transition begins
module _ (n : Shape) (b : List ℕ) (start count q : ℕ) where
  abbrev records : ℕ → Transition
  records = record_from b (24 * n.charts + 28 * start)

  same-tally : tally count (λ u. one (same (transition_at n b (start + u)).from q))
      ≡ tally count (λ u. one (same (records (0 + u)).from q))
  same-tally = ap (tally count) (fun_ext (λ u.
      let e : u ≡ 0 + u = omega arith in
      ap (λ (f : ℕ → Transition). one (same (f u).from q)) (sym (record_from_lem n b start))
      ∙ ap (λ (i : ℕ). one (same (records i).from q)) e))

  pub records_few : tally count (λ u. one (same (transition_at n b (start + u)).from q)) ≤ most_from_state
      → tally count (λ u. one (same (records (0 + u)).from q)) ≤ most_from_state
  records_few few = rw same-tally at few

  pub noting_from : (c : ℕ) (g₀ g : List ℕ) (k : ℕ) → Noting records 0 count q c count g₀ g k
      → Noting (transition_at n b) start count q c count g₀ g k
  noting_from c g₀ g k h =
      record {
        noted = subst (λ l. Noted g c l q count k)
            (ap (λ (f : ℕ → Transition). fromOn f 0 count) (record_from_lem n b start)
            ∙ counted-from (transition_at n b) start count) h.noted;
        counts = h.counts ∙ sym same-tally;
        beside = h.beside;
      }

-- ── a chart's transitions ──

module _ (f : ℕ → Transition) (start count q c : ℕ) (g₀ : List ℕ) where
  pub noting_none : Noting f start count q c 0 g₀ g₀ 0
  noting_none = record { noted = begun; counts = sym (tally-none _); beside = beside_none c g₀ }

  abbrev from_state : ℕ → ℕ
  from_state u = one (same (f (start + u)).from q)

  module _ (few : tally count from_state ≤ most_from_state) (p : ℕ) (g : List ℕ) (k : ℕ)
      (h : Noting f start count q c p g₀ g k) where
    pub noting_few : p ≤ count → k ≤ most_from_state
    noting_few l = let a = tally_mono p count from_state l in let b = h.counts in omega arith

    pub noting_room : p < count → (f (start + p)).from ≡ q → k < most_from_state
    noting_room l e = let a = tally_plus count from_state p l in let b = h.counts in
        let x : same (f (start + p)).from q ≡ true = rw e (same_refl q) in
        let d : from_state p ≡ 1 = ap one x in omega arith

    pub noting_next : p < count → c < most_charts → triggers_for (c + 1) ≤ length g₀ → (g' : List ℕ) (k' : ℕ)
        → Notes (f (start + p)) q c k g g' k' → Noting f start count q c (p + 1) g₀ g' k'
    noting_next l m z g' k' o = go (same (f (start + p)).from q) refl
      where
        t : Transition
        t = f (start + p)

        counted : {x : Bool} → same t.from q ≡ x → k + one x ≡ tally (p + 1) from_state
        counted e = let a = tally-more p from_state in let b = h.counts in let d = ap one e in omega arith

        go : (x : Bool) → same t.from q ≡ x → Noting f start count q c (p + 1) g₀ g' k'
        go true e = let r = noting_room l (same→≡ t.from q e) in
            let z' : triggers_for (c + 1) ≤ length g = rw h.beside.size z in
            rw (o.table ∙ ap (λ x. cond x (put_trigger g c k t) g) e, o.count ∙ ap (λ x. k + one x) e) (record {
              noted = rw (add-one p, add-one k) (noted (noted_kept g (put_trigger g c k t) c (fromOn f start count) q
                  (put_earlier g c k t m r z') h.noted) t (nth-from no_move f start count p l)
                  (same→≡ t.from q e) (put_needed g c k t m r z') (put_barred g c k t m r z'));
              counts = counted e;
              beside = beside-put g c k t m r z' g₀ h.beside;
            })
        go false e =
            rw (o.table ∙ ap (λ x. cond x (put_trigger g c k t) g) e, o.count ∙ ap (λ x. k + one x) e) (record {
              noted = rw (add-one p)
                  (subst (λ j. Noted g c (fromOn f start count) q (suc p) j) (let w : k ≡ k + 0 = omega arith in w)
                  (passed h.noted t (nth-from no_move f start count p l)
                  (λ w. false≢true (sym e ∙ rw w (same_refl q)))));
              counts = counted e;
              beside = h.beside;
            })

  -- ── what a search is told of the chart ──

  module _ (g : List ℕ) (k : ℕ) (h : Noting f start count q c count g₀ g k) (few : k ≤ most_from_state)
      (low high closed : Set) where
    abbrev ts : List Transition
    ts = fromOn f start count

    all : Noted g c ts q (length ts) k
    all = subst (λ j. Noted g c ts q j k) (sym (length_from f start count)) h.noted

    -- it stays unless it is surely triggered, or its state is shut
    may_stay_lem : (a b : Bool) → trips g c k low high ≡ a → bit closed q ≡ b
        → (untriggered ts q low high && not (bit closed q)) ≡ (not a && not b)
    may_stay_lem a b e f = ap₂ (λ x y. x && not y) (noted_trips g c ts q low high k all ∙ ap not e) f

    pub tells_shut : trips g c k low high ≡ true → Tells ts q c low high closed g₀ g 0
    tells_shut e = record { told = shut (may_stay_lem true _ e refl) refl; few = omega arith; beside = h.beside }

    pub tells_closed : trips g c k low high ≡ false → bit closed q ≡ true → Tells ts q c low high closed g₀ g 0
    tells_closed e f = record { told = shut (may_stay_lem false true e f) refl; few = omega arith; beside = h.beside }

    pub tells_open : trips g c k low high ≡ false → bit closed q ≡ false → Tells ts q c low high closed g₀ g (k + 1)
    tells_open e f =
        record { told = listed (may_stay_lem false false e f) k (add-one k) all; few = omega arith; beside = h.beside }

-- ── all charts ──

module _ (n : Shape) (b config lows may shuts m : List ℕ) where
  pub telling_none : (g : List ℕ) → triggers_for n.charts ≤ length g
      → Telling n b config lows may shuts m 0 g (set (replicate stays_size 0) most_charts 1)
  telling_none g z = record {
    told = λ c l. absurd (omega arith);
    few = λ c l. let z = none c l in omega arith;
    rest = λ c k l. none c l;
    size = z;
    small = refl;
    some_may = refl;
  }
    where
      none : (c : ℕ) → c < most_charts → get_or {A = ℕ} (set (replicate stays_size 0) most_charts 1) c 0 ≡ 0
      none c l = get_or-set_other (replicate stays_size 0) most_charts c 1 0 (λ e. omega arith)
          ∙ get_or-replicate {A = ℕ} stays_size c 0 0 (omega arith)

  pub telling_next : (c : ℕ) (g y g' : List ℕ) (start k : ℕ) (head : Head) (others : Set)
      → Telling n b config lows may shuts m c g y → c < most_charts → start ≡ start_of n b c → head ≡ head_at n b c
      → others ≡ others_at m n.charts (λ e. get_or may e 0) c
      → Tells (fromOn (transition_at n b) start head.transitions) (get_or config c 0) c (get_or lows c 0)
      (get_or lows c 0 ∪ others) (get_or shuts c 0) g g' k
      → Telling n b config lows may shuts m (c + 1) g' (set y c k)
  unfolding transitions_of
  telling_next c g y g' start k head others h l es eh eo t =
      record {
        told = λ d r. go d r (same d c) refl;
        few = λ d r. less d r (same d c) refl;
        rest = λ d p r. get_or-set_other y c d k 0 (λ e. omega arith) ∙ h.rest d (omega arith) r;
        size = rw t.beside.size h.size;
        small = length-set y c k ∙ h.small;
        some_may = get_or-set_other y c most_charts k 0 (λ e. omega arith) ∙ h.some_may;
      }
    where
      apart? : (d : ℕ) → same d c ≡ false → d ≢ c
      apart? d e w = false≢true (sym e ∙ rw w (same_refl c))

      at : get_or (set y c k) c 0 ≡ k
      at = get_or-set_same y c k 0 (let z = h.small in omega arith)

      off : (d : ℕ) → same d c ≡ false → get_or (set y c k) d 0 ≡ get_or y d 0
      off d e = get_or-set_other y c d k 0 (apart? d e)

      go : (d : ℕ) → d < c + 1 → (x : Bool) → same d c ≡ x → Told g' d (fromOn (transition_at n b) (start_of n b d)
          (head_at n b d).transitions) (get_or config d 0) (quiet n b config lows may shuts m d)
          (get_or (set y c k) d 0)
      go d r true e = rw (same→≡ d c e, at, ← eo, ← es, ← eh) t.told
      go d r false e = let w = apart? d e in rw (off d e)
          (told_kept g g' d _ (get_or config d 0) _ (get_or y d 0) (h.few d (omega arith))
          (t.beside.others d (omega arith) w) (h.told d (omega arith)))

      less : (d : ℕ) → d < most_charts → (x : Bool) → same d c ≡ x → get_or (set y c k) d 0 ≤ most_from_state + 1
      less d r true e = rw (same→≡ d c e, at) t.few
      less d r false e = rw (off d e) (h.few d r)

  -- ── as the search asks for ──

  abbrev E : List ℕ → ℕ → Chart
  E reads = read_charts n b reads

  abbrev cfg : ℕ → ℕ
  cfg c = get_or config c 0

  abbrev keep : List ℕ → ℕ → ℕ → Bool
  keep reads = keep_at (E reads) cfg n.charts lows shuts m

  pub stays_told : (g y : List ℕ) → n.edition ≡ stay_edition → Telling n b config lows may shuts m n.charts g y
      → Stays n b config may lows shuts m g y
  unfolding chart_of others_at
  stays_told g y two h =
      record {
        stayers = λ reads my. stayers (E reads) cfg n.charts (keep reads) g y
            (λ c l. subst (λ x. Told g c (E reads c).transitions (cfg c) x (get_or y c 0)) (sym (kept reads my c))
            (told_narrowed g c (get_or reads c 0) (transitions_of n b c) (cfg c) (quiet n b config lows may shuts m c)
            (get_or y c 0) (h.told c l)));
        guards = record {
          masks = room;
          small = h.small;
          counts = h.few;
          none-may = λ e. absurd (let z = h.some_may in omega arith);
        };
      }
    where
      room : (c : ℕ) → c < most_charts → get_or y c 0 ≢ 0 → triggers_for (c + 1) ≤ length g
      room c l w = go (dec_lt c n.charts)
        where
          go : Dec (c < n.charts) → triggers_for (c + 1) ≤ length g
          go (yes p) = let z = h.size in omega arith
          go (no p) = absurd (w (h.rest c (omega arith) l))

      stays : (reads : List ℕ) (c : ℕ) → (E reads c).stays ≡ true
      stays reads c = rw two (same_refl stay_edition)

      kept : (reads : List ℕ) → Mays n b config reads n.charts may → (c : ℕ)
          → ((E reads c).stays && keep reads c (last_place (E reads c))) ≡ quiet n b config lows may shuts m c
      kept reads my c = ap (λ x. x && keep reads c (last_place (E reads c))) (stays reads c)
          ∙ keep_stay (E reads) cfg n.charts lows shuts m c (stays reads c)
          ∙ ap (λ x. x && not (bit (get_or shuts c 0) (cfg c)))
          (quiet-narrowed (get_or reads c 0) (transitions_of n b c) (cfg c) _ _
          ∙ ap (λ z. untriggered (transitions_of n b c) (cfg c) (get_or lows c 0) (get_or lows c 0 ∪ z))
          (join_cong n.charts _ _ (λ e l. ap (λ z. cond (same e c) 0 z ∩ back_at m c e) (sym (my e l)))))

  -- no chart may stay
  pub stays_none : (g : List ℕ) → n.charts ≤ most_charts → n.edition ≢ stay_edition
      → Stays n b config may lows shuts m g (replicate stays_size 0)
  unfolding chart_of
  stays_none g few one =
      record {
        stayers = λ reads my. stayers (E reads) cfg n.charts (keep reads) g (replicate stays_size 0)
            (λ c l. shut (ap (λ x. x && keep reads c (last_place (E reads c))) (same_≢ n.edition stay_edition one))
            (none c (omega arith)));
        guards = record {
          masks = λ c l w. absurd (w (none c l));
          small = length-replicate {A = ℕ} stays_size 0;
          counts = λ c l. let z = none c l in omega arith;
          none-may = λ e. none;
        };
      }
    where
      none : (c : ℕ) → c < most_charts → get_or {A = ℕ} (replicate stays_size 0) c 0 ≡ 0
      none c l = get_or-replicate stays_size c 0 0 (omega arith)
