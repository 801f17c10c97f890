-- Open choices of a file's tree, by the count (Completions), in both editions. In this order: a choice is open exactly
-- if each chart keeps activity and state (`open_every`); what a chart may do, as the count takes it (`acts`, `rules`);
-- a sum over a chart's places is one over its transitions, and staying (`places_sum`, `count_transitions`); how many
-- choices are open is the count's total (`open_total`); a bound (`open_most`).
use Rattle.std.specs.Prelude.{◌≡◌, Bool, ◌&&◌, cond, List, [], ◌∷◌, length}
use Rattle.std.proofs.Math.Path.{refl, sym, ap, ap₂}
use Rattle.std.proofs.Common.{◌∙◌, mul-one, zero-mul, zero-add}
use Rattle.std.proofs.Math.Bool.{true, false}
use Rattle.std.proofs.lemmas.Bool.{false≢true}
use Rattle.std.proofs.Math.Option.{Option, none, some}
use Prim.Native.Nat.{ℕ, zero, suc, ◌+◌, ◌*◌, ◌^◌, ◌≤◌, ◌<◌}
use Rattle.std.proofs.Math.Nat.{one-mul, mul_comm, mul_assoc}
use Rattle.std.proofs.Math.Decide.{dec_lt}
use native.Mathlib.Omega.{arith}
use Rattle.layout.specs.declared.record.Transition.{Transition}
use Rattle.meaning.specs.Sums.{tally, one}
use Rattle.meaning.specs.Sums.Laws.{tally_cong, tally_zero, tally-front, tally_scale}
use Rattle.meaning.specs.Meaning.{Chart, Tree, Slaves, leaf, comp, hide, dec, nil, snoc, Move, no_move, takes}
use Rattle.meaning.specs.Meaning.{stay, nth, behind, pick, last_place, meets, upd, moves}
use Rattle.meaning.specs.Open.{open_chart, open_tree, open_slaves, is_open, choices, how_many, open_choices}
use Rattle.meaning.specs.Laws.Bools.{every}
use Rattle.meaning.proofs.Laws.Choices.{upd_off}
use Rattle.meaning.proofs.Laws.Editions.{places_one, places_two, stay_last}
use Rattle.meaning.proofs.Laws.Open.{how_many-next, how_many-last}
pub use Rattle.meaning.proofs.Active.Laws.{nth_near, nth-behind}
use Rattle.wiring.specs.Reach.{each, eachs, Held, Helds, Enc, Encs, awake_by}
use Rattle.wiring.specs.Permitted.{awake, awake-by, each_every, Stands}
use Rattle.wiring.specs.Sure.{open?}
use Rattle.wiring.specs.Pruning.{every_cong, awake-below}
use Rattle.wiring.specs.Completions.{one-and, Acts, Alike, Rules, branch, count_by, Counts, total_of, local}
use Rattle.wiring.specs.Completions.{completions, local-below, completions-total, completions_most}

-- the test that the search makes (Sure) is the rule of an open choice
pub open?_is : (C : Chart) (a : Bool) (s : ℕ) (m : Move) → open? C.stays a s m ≡ open_chart C a s m
unfolding open? open_chart
open?_is C false s no_move = refl
open?_is C false s (takes t) = refl
open?_is C false s stay = refl
open?_is C true s no_move = refl
open?_is C true s (takes t) = refl
open?_is C true s stay = refl

-- ── an open choice, chart by chart ──

module _ (E : ℕ → Chart) (state : ℕ → ℕ) (cfg : ℕ → ℕ) (M : ℕ → Move) (N : ℕ) (enc : ℕ → Option ℕ) (sc : ℕ → ℕ)
    (act : ℕ → Bool) (by : (c : ℕ) → c < N → act c ≡ awake_by sc state cfg M act (enc c)) where
  abbrev keeps_at : ℕ → Bool
  keeps_at c = open_chart (E c) (act c) (cfg c) (M c)

  mutual
    unfolding open_tree each

    open_each : (t : Tree) (κ : Option ℕ) (a : Bool) → Held N t → Enc enc sc t κ → a ≡ awake_by sc state cfg M act κ
        → open_tree E state cfg M t a ≡ each t keeps_at
    open_each (leaf d) κ a h k e =
        ap (λ b. open_chart (E d) b (cfg d) (M d)) (e ∙ ap (awake_by sc state cfg M act) (sym k) ∙ sym (by d h))
    open_each (comp l r x) κ a h k e = ap₂ ◌&&◌ (open_each l κ a h.0 k.0 e) (open_each r κ a h.1 k.1 e)
    open_each (hide l x y) κ a h k e = open_each l κ a h k e
    open_each (dec d ss) κ a h k e =
        let am : a ≡ act d = e ∙ ap (awake_by sc state cfg M act) (sym k.0) ∙ sym (by d h.0) in
        ap₂ ◌&&◌ (ap (λ b. open_chart (E d) b (cfg d) (M d)) am)
        (open_eachs ss d (λ q. a && meets (cfg d) (M d) q) h.1 k.1
        (λ q. ap (λ b. b && meets (cfg d) (M d) q) am))

    open_eachs : (ss : Slaves) (d : ℕ) (f : ℕ → Bool) → Helds N ss → Encs enc sc ss d
        → ((q : ℕ) → f q ≡ (act d && meets (cfg d) (M d) q)) → open_slaves E state cfg M ss f ≡ eachs ss keeps_at
    open_eachs nil d f h k e = refl
    open_eachs (snoc ss i t) d f h k e =
        ap₂ ◌&&◌ (open_eachs ss d f h.0 k.0 e)
        (open_each t (some i) (f (state i)) h.1 k.2
        (e (state i) ∙ ap (λ c. act c && meets (cfg c) (M c) (state i)) (sym k.1)))

-- ── a place of a list, and one behind its end ──

-- ── what a chart may do ──

-- the places that an active chart in state s may take, or an inactive one
unfoldable pub rule_in : Chart → ℕ → Bool → ℕ → Bool
rule_in C s a v = open_chart C a s (pick C v)

-- an inactive chart takes none
idle-nth : (C : Chart) (m : Move) (ts : List Transition) (s k : ℕ)
    → (length ts ≤ k → open_chart C false s m ≡ false) → open_chart C false s (nth m ts k) ≡ false
unfolding nth open_chart
idle-nth C m [] s k h = h (omega arith)
idle-nth C m (t ∷ ts) s zero h = refl
idle-nth C m (t ∷ ts) s (suc k) h = idle-nth C m ts s k (λ l. h (omega arith))

pub idle-pick : (C : Chart) (s k : ℕ) → k < last_place C → open_chart C false s (pick C (suc k)) ≡ false
unfolding pick last_place open_chart
idle-pick C s k l = idle-nth C (behind C) C.transitions s k (λ m. go C.stays l m)
  where
    go : (b : Bool) → k < cond b (suc (length C.transitions)) (length C.transitions)
        → length C.transitions ≤ k → open_chart C false s (cond b stay no_move) ≡ false
    go true l m = refl
    go false l m = absurd (omega arith)

apart_move : (C : Chart) (s : ℕ) (m : Move) → open_chart C true s m ≡ true → open_chart C false s m ≡ false
unfolding open_chart
apart_move C s no_move h = absurd (false≢true h)
apart_move C s (takes t) h = refl
apart_move C s stay h = refl

pick-behind : (C : Chart) (k : ℕ) → length C.transitions ≤ k → pick C (suc k) ≡ behind C
unfolding pick
pick-behind C k l = nth-behind (behind C) C.transitions k l

none_shut : (C : Chart) (s : ℕ) (m : Move) → m ≡ no_move → open_chart C true s m ≡ false
unfolding open_chart
none_shut C s m e = ap (open_chart C true s) e

-- what an active chart may do is at a place up to its last: every place behind that is the same as the last
reach_pick : (C : Chart) (s v : ℕ) → open_chart C true s (pick C v) ≡ true
    → (w : ℕ) × (w ≤ last_place C) × (pick C w ≡ pick C v)
reach_pick C s zero h = (zero, omega arith, refl)
reach_pick C s (suc k) h = near (dec_lt k (length C.transitions))
  where
    long : (b : Bool) → C.stays ≡ b → length C.transitions ≤ last_place C
    long true e = let z = places_two C e in omega arith
    long false e = let z = places_one C e in omega arith

    far : length C.transitions ≤ k → (b : Bool) → C.stays ≡ b
        → (w : ℕ) × (w ≤ last_place C) × (pick C w ≡ pick C (suc k))
    far l true e = (
      last_place C,
      omega arith,
      stay_last C e
          ∙ sym (pick-behind C k l ∙ ap (λ b. cond b stay no_move) e),
    )
    far l false e =
        absurd (false≢true (sym (none_shut C s (pick C (suc k)) (pick-behind C k l ∙ ap (λ b. cond b stay no_move) e))
        ∙ h))

    near : Dec (k < length C.transitions) → (w : ℕ) × (w ≤ last_place C) × (pick C w ≡ pick C (suc k))
    near (yes l) = (suc k, (let z = long C.stays refl in omega arith), refl)
    near (no l) = far (omega arith) C.stays refl

-- a sum over the places of an active chart: one over its transitions, and staying, if it may
pub places_sum : (C : Chart) (s : ℕ) (g : ℕ → ℕ)
    → tally (suc (last_place C)) (λ v. one (rule_in C s true v) * g v)
    ≡ cond C.stays (g (last_place C)) 0
    + tally (length C.transitions) (λ k. one (open_chart C true s (nth no_move C.transitions k)) * g (suc k))
unfolding rule_in pick open_chart
places_sum C s g =
    tally-front (last_place C) (λ v. one (open_chart C true s (pick C v)) * g v)
    ∙ ap (λ z. z + tally (last_place C) term) (zero-mul (g zero)) ∙ zero-add (tally (last_place C) term)
    ∙ split C.stays refl
  where
    size : ℕ
    size = length C.transitions

    term : ℕ → ℕ
    term k = one (open_chart C true s (pick C (suc k))) * g (suc k)

    taken : ℕ → ℕ
    taken k = one (open_chart C true s (nth no_move C.transitions k)) * g (suc k)

    near : tally (length C.transitions) term ≡ tally (length C.transitions) taken
    near = tally_cong (length C.transitions) term taken (λ k l.
        ap (λ m. one (open_chart C true s m) * g (suc k)) (nth_near (behind C) no_move C.transitions k l))

    split : (b : Bool) → C.stays ≡ b
        → tally (last_place C) term ≡ cond b (g (last_place C)) 0 + tally (length C.transitions) taken
    split false e = ap (λ z. tally z term) (places_one C e) ∙ near ∙ sym (zero-add (tally size taken))
    split true e = ap (λ z. tally z term) (places_two C e) ∙ unfold tally in (ap₂ ◌+◌ last near)
      where
        last : term (length C.transitions) ≡ g (last_place C)
        last =
            ap₂ (λ m x. one (open_chart C true s m) * g x)
            (ap (pick C) (sym (places_two C e)) ∙ stay_last C e) (sym (places_two C e))
            ∙ ap (λ b. one b * g (last_place C)) e ∙ one-mul (g (last_place C))

-- a chart's last place
abbrev pub last_of : (ℕ → Chart) → ℕ → ℕ
last_of E c = last_place (E c)

module _ (E : ℕ → Chart) (cfg : ℕ → ℕ) where
  abbrev pub rule_of : Bool → ℕ → ℕ → Bool
  rule_of a c v = rule_in (E c) (cfg c) a v

  -- the count's sum has a term for each transition from the present state, and one for staying
  pub count_transitions : (N : ℕ) (enc : ℕ → Option ℕ) (sc : ℕ → ℕ) (hits : ℕ → ℕ → Bool) (count : ℕ → ℕ) (c : ℕ)
      → count_by N enc sc hits count (last_of E) rule_of c
      ≡ cond (E c).stays (branch N enc sc hits count c (last_place (E c))) 0
      + tally (length (E c).transitions) (λ k.
      one (open_chart (E c) true (cfg c) (nth no_move (E c).transitions k)) * branch N enc sc hits count c (suc k))
  unfolding count_by
  count_transitions N enc sc hits count c = places_sum (E c) (cfg c) (branch N enc sc hits count c)

  module _ (state : ℕ → ℕ) (sc : ℕ → ℕ) where
    -- the master's place v activates slave i
    unfoldable pub hits_of : ℕ → ℕ → Bool
    hits_of i v = meets (cfg (sc i)) (pick (E (sc i)) v) (state i)

    pub rules : (N : ℕ) → Rules N (last_of E) sc rule_of hits_of
    unfolding rule_in hits_of
    rules N =
        record {
          idle = λ c l. idle_once c;
          reach = λ c v l h. reached c v h (reach_pick (E c) (cfg c) v h);
          apart = λ c v h. apart_move (E c) (cfg c) (pick (E c) v) h;
        }
      where
        idle_once : (c : ℕ)
            → tally (suc (last_place (E c))) (λ v. one (open_chart (E c) false (cfg c) (pick (E c) v))) ≡ 1
        idle_once c =
            tally-front (last_place (E c)) (λ v. one (open_chart (E c) false (cfg c) (pick (E c) v)))
            ∙ unfold pick open_chart in (ap (λ z. 1 + z) (tally_zero (last_place (E c)) _
            (λ k m. ap one (idle-pick (E c) (cfg c) k m))))

        reached : (c v : ℕ) → open_chart (E c) true (cfg c) (pick (E c) v) ≡ true
            → ((w : ℕ) × (w ≤ last_place (E c)) × (pick (E c) w ≡ pick (E c) v))
            → Alike c (last_place (E c)) sc (λ v. open_chart (E c) true (cfg c) (pick (E c) v))
            (λ i v. meets (cfg (sc i)) (pick (E (sc i)) v) (state i)) v
        reached c v h u =
            record {
              place = u.0;
              within = u.1;
              ruled = ap (open_chart (E c) true (cfg c)) u.2 ∙ h;
              same-hits = λ i e. ap (λ d. meets (cfg d) (pick (E d) u.0) (state i)) e
                  ∙ ap (λ m. meets (cfg c) m (state i)) u.2
                  ∙ ap (λ d. meets (cfg d) (pick (E d) v) (state i)) (sym e);
            }

  module _ (state : ℕ → ℕ) (enc : ℕ → Option ℕ) (sc : ℕ → ℕ) where
    abbrev pub act_of : (ℕ → ℕ) → ℕ → Bool
    act_of ch c = awake enc sc state cfg (moves E ch) c

    pub acts : (N : ℕ) → ((c i : ℕ) → c < N → enc c ≡ some i → sc i < c) → Acts N enc sc (hits_of state sc) act_of
    unfolding hits_of moves
    acts N lower =
        record {
          lower = lower;
          outside = λ ch c l e. awake-by enc sc state cfg (moves E ch) N lower c l
              ∙ ap (awake_by sc state cfg (moves E ch) (act_of ch)) e;
          inside = λ ch c i l e. awake-by enc sc state cfg (moves E ch) N lower c l
              ∙ ap (awake_by sc state cfg (moves E ch) (act_of ch)) e;
          settled = λ ch ch₂ c l b. awake-below enc sc state cfg N lower (moves E ch) (moves E ch₂) c l
              (λ d q. ap (pick (E d)) (b d q));
        }

-- ── how many are open ──

module _ (E : ℕ → Chart) (state : ℕ → ℕ) (cfg : ℕ → ℕ) (N : ℕ) (enc : ℕ → Option ℕ) (sc : ℕ → ℕ) (t : Tree)
    (s : Stands N enc sc t) where
  abbrev pub open_at : (ℕ → ℕ) → Bool
  open_at ch = is_open E state cfg (moves E ch) t

  -- chart c keeps activity and state in ch
  abbrev pub keeps_in : (ℕ → ℕ) → ℕ → Bool
  keeps_in = local (last_of E) (rule_of E cfg) (act_of E cfg state enc sc)

  -- how many ways all charts left can keep theirs
  abbrev pub goes_on : ℕ → ℕ → (ℕ → ℕ) → ℕ
  goes_on = completions (last_of E) (rule_of E cfg) (act_of E cfg state enc sc)

  abbrev hits : ℕ → ℕ → Bool
  hits = hits_of E cfg state sc

  pub ac : Acts N enc sc (hits_of E cfg state sc) (act_of E cfg state enc sc)
  ac = acts E cfg state enc sc N s.lower

  pub ru : Rules N (last_of E) sc (rule_of E cfg) (hits_of E cfg state sc)
  ru = rules E cfg state sc N

  -- a choice is open exactly if each chart keeps activity and state
  pub open_every : (ch : ℕ → ℕ) → open_at ch ≡ every N (keeps_in ch)
  unfolding local rule_in moves is_open
  open_every ch =
      open_each E state cfg (moves E ch) N enc sc (act_of E cfg state enc sc ch)
      (awake-by enc sc state cfg (moves E ch) N s.lower) t none true s.held s.encs refl
      ∙ each_every N t _ s.held s.has

  -- a settled chart's rule, whatever comes after it
  pub keeps_below : (ch : ℕ → ℕ) (k v c : ℕ) → c < k → k < N → keeps_in (upd ch k v) c ≡ keeps_in ch c
  keeps_below ch k v c m l =
      local-below N (last_of E) enc sc (rule_of E cfg) hits (act_of E cfg state enc sc) ac ru ch (upd ch k v) c
      (omega arith) (λ i q. upd_off ch k v i (omega arith))

  -- settling one more chart
  every-upd : (k v : ℕ) (ch : ℕ → ℕ) → k < N
      → every (suc k) (keeps_in (upd ch k v)) ≡ (keeps_in (upd ch k v) k && every k (keeps_in ch))
  unfolding every
  every-upd k v ch l =
      ap (λ b. keeps_in (upd ch k v) k && b)
      (every_cong k (keeps_in (upd ch k v)) (keeps_in ch) (λ c m. keeps_below ch k v c m l))

  -- the open choices that go on from a beginning
  pub open_completions : (n k : ℕ) (ch : ℕ → ℕ) → n + k ≡ N
      → how_many open_at (choices E n k ch) ≡ one (every k (keeps_in ch)) * goes_on n k ch
  unfolding completions
  open_completions zero k ch e =
      let q : k ≡ N = omega arith in
      how_many-last E open_at k ch ∙ ap one (open_every ch) ∙ ap (λ z. one (every z (keeps_in ch))) (sym q)
      ∙ sym (mul-one (one (every k (keeps_in ch))))
  open_completions (suc n) k ch e =
      how_many-next E open_at n k ch
      ∙ tally_cong (suc (last_of E k)) _
      (λ v. one (every k (keeps_in ch)) * (one (keeps_in (upd ch k v) k) * goes_on n (suc k) (upd ch k v)))
      (λ v l. open_completions n (suc k) (upd ch k v) (omega arith)
      ∙ ap (λ z. one z * goes_on n (suc k) (upd ch k v)) (every-upd k v ch (omega arith))
      ∙ ap (λ z. z * goes_on n (suc k) (upd ch k v)) (one-and (keeps_in (upd ch k v) k) (every k (keeps_in ch))
      ∙ mul_comm (one (keeps_in (upd ch k v) k)) (one (every k (keeps_in ch))))
      ∙ mul_assoc (one (every k (keeps_in ch))) (one (keeps_in (upd ch k v) k)) (goes_on n (suc k) (upd ch k v)))
      ∙ tally_scale (suc (last_of E k)) (one (every k (keeps_in ch)))
      (λ v. one (keeps_in (upd ch k v) k) * goes_on n (suc k) (upd ch k v))

  pub open_all : open_choices E state cfg t N ≡ goes_on N zero (λ c. zero)
  unfolding open_choices every
  open_all = open_completions N zero (λ c. zero) (omega arith) ∙ one-mul (goes_on N zero (λ c. zero))

  -- no more than B for each chart, where no active one may do more than B things
  pub open_most : (B : ℕ) → 0 < B
      → ((c : ℕ) → c < N → tally (suc (last_of E c)) (λ v. one (rule_of E cfg true c v)) ≤ B)
      → open_choices E state cfg t N ≤ B ^ N
  open_most B pos h =
      rw open_all (completions_most N (last_of E) enc sc (rule_of E cfg) hits (act_of E cfg state enc sc) ac ru B
      each_chart N zero (λ c. zero) (omega arith))
    where
      each_chart : (a : Bool) (c : ℕ) → c < N → tally (suc (last_of E c)) (λ v. one (rule_of E cfg a c v)) ≤ B
      each_chart true c l = h c l
      each_chart false c l = rw (ru.idle c l) pos

  -- the number that a table gives
  pub open_total : (count : ℕ → ℕ) → Counts N enc sc (hits_of E cfg state sc) count (last_of E) (rule_of E cfg)
      → open_choices E state cfg t N ≡ total_of N enc count
  open_total count cs =
      open_all
      ∙ completions-total N (last_of E) enc sc (rule_of E cfg) hits (act_of E cfg state enc sc) ac ru count cs
      (λ c. zero)
