-- Laws of the walk from chart to chart, in this order: counts that are cut (`cut-..`); one chart more (`holds_more`);
-- one step (`walked_found`, `walked_passed`); the end of the text (`walked_end`) and its beginning (`walked_begun`);
-- and 52 by number (`none_refused`).
use Rattle.std.specs.Prelude.{◌≡◌, refl, Bool, true, false, ℕ, suc, ◌+◌, ◌≤◌, ◌<◌, ltb, eqb, length, drop, get_or, set}
use Rattle.std.proofs.Math.Path.{sym, ap, ap₂}
use Rattle.std.proofs.Common.{◌∙◌, subst, true≢false, add-one, arith, lt-ltb, le-ltb, eq-eqb, get_or-set_same}
use Rattle.std.proofs.Common.{get_or-set_other}
use Rattle.std.proofs.Math.Bool.{◌||◌}
use mathlib.Core.List.{List, [], ◌∷◌, ◌++◌, map, append-nil, append_assoc, Permᴰ}
use Rattle.std.proofs.Math.Decide.{dec_lt}
use Rattle.signals.specs.Mask.{bit}
use Rattle.meaning.specs.Each.{Each, none, more}
use Rattle.meaning.specs.Each.Laws.{each_append}
use Rattle.meaning.specs.Check.{not_below}
use Rattle.meaning.specs.Numbers.{most_in_chart}
use Rattle.meaning.specs.Sums.Laws.{or_left, or_right}
use Rattle.notation.specs.Syntax.{Sequential, Chart}
use Rattle.notation.specs.Grammar.{Token, Tokens, of_heading, of_sequential, of_chart, Text}
use Rattle.reading.specs.Numbers.{named_charts}
use Rattle.reading.specs.Names.{any, has, twice?, left_out?, not_all?, sequential?, sequentials_of, name_of}
use Rattle.reading.specs.Meant.{mask_of, head_for, gathered, transitions_in, charts_of}
use Rattle.tokens.specs.Tokens.{cap, blanks}
use Rattle.lists.specs.declared.Sequential.{Sequential as Drawn}
use Rattle.lists.specs.Lists.{gap, SoFar, GivesSequential, SequentialAt}
use Rattle.lists.specs.Found.{Found, nothing, passed, found, begins?, named?, TokenAt, BeginsAt}
use Rattle.lists.specs.Laws.Found.{found_all}
use Rattle.lists.specs.Laws.States.{so_far_more, gap_is}
use Rattle.reading.specs.Laws.Lists.{bit_mask}
use Rattle.reading.specs.Laws.Sorted.{each_sorted}
use Rattle.lists.specs.Laws.States.{refused_more, cap-test, cap_in, length_snoc}
use Rattle.lists.specs.Laws.Tokens.{text_end, text_some}
use Rattle.lists.specs.Laws.Transitions.{any-more}
use Rattle.roster.specs.declared.Roster.{Roster}
use Rattle.roster.specs.Roster.{cut, crowded?, StandsAt, Stand, GivesRoster}
use Rattle.roster.specs.Walk.{Holds, Walked, Enters, moved, Steps, Closes}
use Rattle.roster.specs.Laws.Sorted.{any_perm, length_perm, gathered_perm}
use Rattle.roster.specs.Laws.Sorted.{gathered_snoc, InOrder, sorted_same, sorted_order, few_names}

-- ── counts ──

pub cut_below : (n : ℕ) → n < 65535 → cut n ≡ n
unfolding cut
cut_below n h = rw (lt-ltb n 65535 h)

pub cut_above : (n : ℕ) → 65535 ≤ n → cut n ≡ 65535
unfolding cut
cut_above n h = rw (le-ltb n 65535 h)

pub cut-more : (a b : ℕ) → cut (cut a + b) ≡ cut (a + b)
cut-more a b = go (dec_lt a 65535)
  where
    go : Dec (a < 65535) → cut (cut a + b) ≡ cut (a + b)
    go (yes h) = ap (λ n. cut (n + b)) (cut_below a h)
    go (no h) =
        ap (λ n. cut (n + b)) (cut_above a (omega arith)) ∙ cut_above (65535 + b) (omega arith)
        ∙ sym (cut_above (a + b) (omega arith))

-- ── one chart more ──

map_snoc : {A B : Type 0} (f : A → B) (l : List A) (a : A) → map f (l ++ (a ∷ [])) ≡ map f l ++ (f a ∷ [])
map_snoc f [] a = refl
map_snoc f (b ∷ l) a = ap (f b ∷◌) (map_snoc f l a)

-- the places of the other charts stay
stand-other : (w places : List ℕ) (n at : ℕ) (l : List Sequential) → has (map name_of l) n ≡ false
    → Each (λ s. StandsAt w (get_or places (name_of s) 0) s) l
    → Each (λ s. StandsAt w (get_or (set places n at) (name_of s) 0) s) l
unfolding has any
stand-other w places n at [] e p = none
stand-other w places n at (s ∷ l) e (more p ps) =
    more (subst (λ k. StandsAt w k s) (sym (get_or-set_other places n (name_of s) at 0 differs)) p)
    (stand-other w places n at l (or_right (eqb (name_of s) n) (has (map name_of l) n) e) ps)
  where
    differs : name_of s ≡ n → ⊥
    differs q = true≢false (sym (eq-eqb (name_of s) n q) ∙ or_left (eqb (name_of s) n) (has (map name_of l) n) e)

module _ (w : List ℕ) (r : Roster) (v : Drawn) (q : Roster) (done : List Sequential) (s : Sequential) (ts : Tokens)
  where
    pub holds_more : Text (of_sequential s ++ ts) (drop r.next w) → GivesSequential w v s ts
        → Enters r v r.next q → Holds w r done → Holds w q (done ++ (s ∷ []))
    unfolding head_for
    holds_more t g e h =
        record {
          long = e.is_places.0 h.long;
          so_far = so_far;
          is_charts =
              e.is_charts ∙ ap (λ n. cut (n + 1)) h.is_charts ∙ cut-more (length done) 1
              ∙ ap cut (add-one (length done) ∙ sym (length_snoc done s));
          is_transitions =
              e.is_transitions ∙ ap₂ (λ m n. cut (m + n)) h.is_transitions g.is_transitions
              ∙ cut-more (length (gathered transitions_in done)) (length (transitions_in s))
              ∙ ap cut (sym (gathered_snoc transitions_in done s));
          is_crowded =
              e.is_crowded ∙ ap₂ ◌||◌ h.is_crowded (ap (ltb most_in_chart) g.is_transitions)
              ∙ sym (any-more crowded? done s);
          is_refused = e.is_refused ∙ ap₂ ◌||◌ h.is_refused g.is_bad ∙ sym (any-more sequential? done s);
          stand = stand;
        }
      where
        -- the names
        so_far : SoFar named_charts q.mask q.bad (map name_of (done ++ (s ∷ [])))
        so_far =
            let z = so_far_more named_charts (omega arith) r.mask r.bad (map name_of done) (name_of s) v.name
            e.listed g.is_name h.so_far e.lists in
            record {
              is_bad = e.is_bad ∙ z.is_bad
                  ∙ ap (λ l. any (λ n. not_below n named_charts) l || twice? l) (sym (map_snoc name_of done s));
              is_mask = λ f. e.is_mask ∙ z.is_mask (sym e.is_bad ∙ f) ∙ ap mask_of (sym (map_snoc name_of done s));
            }

        stand : q.bad ≡ false → Each (λ s. StandsAt w (get_or q.places (name_of s) 0) s) (done ++ (s ∷ []))
        stand f =
            subst (λ l. Each (λ u. StandsAt w (get_or l (name_of u) 0) u) (done ++ (s ∷ []))) (sym noted)
            (each_append (stand-other w r.places n r.next done free (h.stand good)) (more here none))
          where
            n : ℕ
            n = name_of s

            is : q.bad ≡ (r.bad || (not_below n named_charts || bit r.mask n))
            is =
                e.is_bad ∙ e.lists.is_bad
                ∙ ap (λ k. r.bad || (not_below k named_charts || bit r.mask k)) g.is_name
                ∙ ap (r.bad ||◌) (cap-test named_charts (omega arith) (bit r.mask) n)

            good : r.bad ≡ false
            good = or_left r.bad (not_below n named_charts || bit r.mask n) (sym is ∙ f)

            new : (not_below n named_charts || bit r.mask n) ≡ false
            new = or_right r.bad (not_below n named_charts || bit r.mask n) (sym is ∙ f)

            in_range : (cap n ≡ n) × (n < named_charts)
            in_range = cap_in named_charts (omega arith) n (or_left (not_below n named_charts) (bit r.mask n) new)

            named : v.name ≡ n
            named = g.is_name ∙ in_range.0

            free : has (map name_of done) n ≡ false
            free =
                sym (bit_mask (map name_of done) n) ∙ ap (λ k. bit k n) (sym (h.so_far.is_mask good))
                ∙ or_right (not_below n named_charts) (bit r.mask n) new

            noted : q.places ≡ set r.places n r.next
            noted =
                let l = in_range.1 in
                e.is_places.1 (omega (arith, named, l)) ∙ ap (λ k. set r.places k r.next) named

            here : StandsAt w (get_or (set r.places n r.next) n 0) s
            here =
                let l = in_range.1 in
                subst (λ k. StandsAt w k s)
                (sym (get_or-set_same r.places n r.next 0 (omega (arith, h.long, l))))
                (record { behind = ts; text = t })

-- ── one step ──

sequential_begins : (s : Sequential) (ts : Tokens) → (u : Token) × (us : Tokens) × ((of_sequential s ++ ts) ≡ u ∷ us)
    × (begins? u us ≡ true)
unfolding of_sequential of_heading begins? named?
sequential_begins s ts = (_, _, refl, refl)

-- the place alone moves on
holds-moved : (w : List ℕ) (r : Roster) (next : ℕ) (done : List Sequential) → Holds w r done
    → Holds w (moved r next) done
unfolding moved
holds-moved w r next done h =
    record {
      long = h.long;
      so_far = h.so_far;
      is_charts = h.is_charts;
      is_transitions = h.is_transitions;
      is_crowded = h.is_crowded;
      is_refused = h.is_refused;
      stand = h.stand;
    }

module _ (w : List ℕ) (r : Roster) (some : r.next + blanks (drop r.next w) < length w) where
  -- no token is left, which cannot be
  nothing_left : Text [] (drop r.next w) → ⊥
  nothing_left x = omega (arith, some, text_end w r.next (omega arith) x)

  module _ (b : Bool) (f : BeginsAt w r.next b) where
    pub walked_found : b ≡ true → (v : Drawn) (q : Roster) → SequentialAt w r.next v → Enters r v r.next q
        → Steps w r q
    walked_found y v q a e =
        record {
          within = subst (λ n. n ≤ length w) (sym e.is_next) a.within;
          further = subst (λ n. r.next < n) (sym e.is_next) (a.further some);
          walked = λ t k. go t k k.tokens k.rest k.all k.text k.found;
        }
      where
        go : (t : Chart) → (k : Walked w r t) (ts : Tokens) (ss : List Sequential) → sequentials_of t ≡ k.done ++ ss
            → Text ts (drop r.next w) → Found ts ss → Walked w q t
        go t k ts ss i x nothing = absurd (nothing_left x)
        go t k ts ss i x (passed {ts = us} u n g) = absurd (true≢false (sym y ∙ f u us x ∙ n))
        go t k ts ss i x (found {ts = us} {ss = rest} s g) =
            let z = a.gives s us x in
            record {
              done = k.done ++ (s ∷ []);
              rest = rest;
              all = i ∙ sym (append_assoc k.done (s ∷ []) rest);
              tokens = us;
              text = subst (λ n. Text us (drop n w)) (sym e.is_next) z.goes_on;
              found = g;
              holds = holds_more w r v q k.done s us x z e k.holds;
            }

    pub walked_passed : b ≡ false → (next : ℕ) → TokenAt w r.next next → Steps w r (moved r next)
    unfolding moved
    walked_passed y next a =
        record {
          within = a.within;
          further = a.further some;
          walked = λ t k. go t k k.tokens k.rest k.all k.text k.found;
        }
      where
        go : (t : Chart) → (k : Walked w r t) (ts : Tokens) (ss : List Sequential) → sequentials_of t ≡ k.done ++ ss
            → Text ts (drop r.next w) → Found ts ss → Walked w (moved r next) t
        go t k ts ss i x nothing = absurd (nothing_left x)
        go t k ts ss i x (passed {ts = us} {ss = rest} u n g) =
            record {
              done = k.done;
              rest = rest;
              all = i;
              tokens = us;
              text = a.gives u us x;
              found = g;
              holds = holds-moved w r next k.done k.holds;
            }
        go t k ts ss i x (found {ts = us} s g) =
            let z = sequential_begins s us in
            absurd (true≢false (sym z.3
            ∙ sym (f z.0 z.1 (subst (λ l. Text l (drop r.next w)) z.2 x)) ∙ y))

-- ── the end of the text ──

-- charts that have their places by name, in the order of their names
stand_of : (w places : List ℕ) (c : ℕ) (ss : List Sequential) → InOrder name_of c ss
    → Each (λ s. StandsAt w (get_or places (name_of s) 0) s) ss → Stand w places c ss
unfolding InOrder Stand
stand_of w places c [] o e = tt
stand_of w places c (s ∷ ss) o (more p e) =
    (subst (λ n. StandsAt w (get_or places n 0) s) o.0 p, stand_of w places (suc c) ss o.1 e)

gives_all : (w : List ℕ) (r q : Roster) (t : Chart) (done : List Sequential) → sequentials_of t ≡ done → Holds w r done
    → Closes r q → GivesRoster w q t
unfolding not_all?
gives_all w r q t done i h k =
    record {
      is_refused = k.is_refused ∙ h.is_refused ∙ ap (any sequential?) (sym i);
      is_bad = bad;
      charted =
          λ f.
          let m = few_names name_of named_charts (sequentials_of t) (sym bad ∙ f) in
          let n = length_perm (same f) in
          record {
            is_charts =
                k.is_charts ∙ h.is_charts ∙ ap (λ l. cut (length l)) (sym i)
                ∙ cut_below (length (sequentials_of t)) (omega arith) ∙ sym n;
            few = omega (arith, m, n);
            stand =
                subst (λ l. Stand w l 0 (charts_of t)) (sym k.is_places)
                (stand_of w r.places 0 (charts_of t)
                (sorted_order name_of named_charts (sequentials_of t) (sym bad ∙ f))
                (each_sorted name_of named_charts (sequentials_of t)
                (subst (Each (λ s. StandsAt w (get_or r.places (name_of s) 0) s)) (sym i)
                (h.stand (or_left r.bad (gap r.mask) (sym k.is_bad ∙ f))))));
          };
      is_transitions =
          λ f. k.is_transitions ∙ h.is_transitions ∙ ap (λ l. cut (length (gathered transitions_in l))) (sym i)
          ∙ ap cut (sym (gathered_perm transitions_in (same f)));
      is_crowded =
          λ f. k.is_crowded ∙ h.is_crowded ∙ ap (any crowded?) (sym i) ∙ sym (any_perm crowded? (same f));
    }
  where
    bad : q.bad ≡ not_all? named_charts (map name_of (sequentials_of t))
    bad =
        let names = map name_of done in
        k.is_bad
        ∙ refused_more r.bad (any (λ n. not_below n named_charts) names) (twice? names) (left_out? names)
        (gap r.mask) h.so_far.is_bad (λ f. ap gap (h.so_far.is_mask f) ∙ gap_is names)
        ∙ ap (λ l. not_all? named_charts (map name_of l)) (sym i)

    same : q.bad ≡ false → Permᴰ (charts_of t) (sequentials_of t)
    same f = sorted_same name_of named_charts (sequentials_of t) (sym bad ∙ f)

pub walked_end : (w : List ℕ) (r q : Roster) (t : Chart) → length w ≤ r.next + blanks (drop r.next w)
    → Walked w r t → Closes r q → GivesRoster w q t
walked_end w r q t e k c = go k.tokens k.rest k.all k.text k.found
  where
    go : (ts : Tokens) (ss : List Sequential) → sequentials_of t ≡ k.done ++ ss → Text ts (drop r.next w)
        → Found ts ss → GivesRoster w q t
    go ts ss i x nothing = gives_all w r q t k.done (i ∙ append-nil k.done) k.holds c
    go ts ss i x (passed {ts = us} u n g) = absurd (let z = text_some w r.next u us x in omega arith)
    go ts ss i x (found {ts = us} s g) =
        let z = sequential_begins s us in
        absurd (let y = text_some w r.next z.0 z.1 (subst (λ l. Text l (drop r.next w)) z.2 x) in
        omega arith)

-- before the first token
pub walked_begun : (w : List ℕ) (r : Roster) (t : Chart) → r.next ≡ 0 → Holds w r [] → Text (of_chart t) w
    → Walked w r t
walked_begun w r t e h x =
    record {
      done = [];
      rest = sequentials_of t;
      all = refl;
      tokens = of_chart t;
      text = subst (λ n. Text (of_chart t) (drop n w)) (sym e) x;
      found = found_all t;
      holds = h;
    }

-- 52 applies to none of the charts, in whatever order
pub none_refused : (w : List ℕ) (r : Roster) (t : Chart) → GivesRoster w r t → r.bad ≡ false → r.refused ≡ false
    → any sequential? (charts_of t) ≡ false
none_refused w r t g e f =
    any_perm sequential? (sorted_same name_of named_charts (sequentials_of t) (sym g.is_bad ∙ e))
    ∙ sym g.is_refused ∙ f
