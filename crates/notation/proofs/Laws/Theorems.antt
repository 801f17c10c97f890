-- The reader is right: it answers a chart exactly if the text spells it (`sound`, `complete`), so a text spells at most
-- one chart (`unique`); and the place that it answers otherwise is that of refusal 50 (`refused`, `refused_exact`).
use Rattle.std.specs.Prelude.{◌≡◌, refl, List, [], ◌∷◌, ◌++◌, ℕ, suc, ◌+◌, ◌≤◌, ◌<◌, length, take, drop}
use Rattle.std.proofs.Common.{sym, ap, ◌∙◌, append_assoc, append-nil, add-zero, arith, take-append-drop, take-take}
use Rattle.std.proofs.Math.Path.{subst}
use Rattle.std.proofs.Math.Option.{Option, none, some}
use Rattle.notation.specs.Grammar.{Spells, Begins, FirstWrong}
use Rattle.notation.specs.Laws.Backward.{Laid, nothing, put_single, tokens_of, LaidAs, spells_laid, laid_spells}
use Rattle.notation.specs.Syntax.{Chart}
use Rattle.notation.specs.Reader.{whole, in_slave, in_hiding, in_brackets, first_in, second_in, State, part, opened}
use Rattle.notation.specs.Reader.{ended, boxed, joined, with_x, dec_of, dec_open, dec_by, dec_brace, pair_open}
use Rattle.notation.specs.Reader.{pair_state, pair_comma, pair_done, named, states_open, states_next, states_more}
use Rattle.notation.specs.Reader.{states_done, initial_next, initial_done, head_done, lines_open, lines_first}
use Rattle.notation.specs.Reader.{lines_next, line_done, lines_done, extra_done, from_next, from_done, to_next, to_done}
use Rattle.notation.specs.Reader.{guard_first, guard_next, guard_barred, guard_done, action_done, set_next, set_first}
use Rattle.notation.specs.Reader.{set_more, set_comma, final, Position, gap, inside, letter_read, number, step}
use Rattle.notation.specs.Reader.{ending, Reading, spelt, wrong_at, at_end, on_to, read_from, reader}
use Rattle.notation.proofs.Laws.Before.{before, before_enclosure}
use Rattle.notation.specs.Laws.Reads.{tokens_read, final-end}
use Rattle.notation.proofs.Laws.Led.{Led, Holds, whole_name, step_led}
use Rattle.notation.proofs.Laws.Fed.{bound, feed, laid_fed}
use Rattle.notation.proofs.Laws.Begun.{BeginsLaid, led_begins}

-- ── the end of the text ──

-- a final state has read the tokens of its chart
final-right : (p : State) → Holds (λ t. before p ≡ tokens_of t) (final p)
unfolding Holds final before before_enclosure tokens_of put_single
final-right (part g) = tt
final-right (opened g) = tt
final-right (ended (first_in whole) s) = refl
final-right (ended (first_in (in_slave m ps q g)) s) = tt
final-right (ended (first_in (in_hiding x g)) s) = tt
final-right (ended (first_in (in_brackets g)) s) = tt
final-right (ended (second_in a x whole) s) = refl
final-right (ended (second_in a x (in_slave m ps q g)) s) = tt
final-right (ended (second_in a x (in_hiding y g)) s) = tt
final-right (ended (second_in a x (in_brackets g)) s) = tt
final-right (boxed (first_in h) a x b) = tt
final-right (boxed (second_in c y whole) a x b) = refl
final-right (boxed (second_in c y (in_slave m ps q g)) a x b) = tt
final-right (boxed (second_in c y (in_hiding z g)) a x b) = tt
final-right (boxed (second_in c y (in_brackets g)) a x b) = tt
final-right (joined h a x) = tt
final-right (with_x g x) = tt
final-right (dec_of g) = tt
final-right (dec_open g) = tt
final-right (dec_by g s) = tt
final-right (dec_brace g s) = tt
final-right (pair_open g s ps) = tt
final-right (pair_state g s ps) = tt
final-right (pair_comma g s ps q) = tt
final-right (pair_done g s ps) = tt
final-right (named m c) = tt
final-right (states_open m c) = tt
final-right (states_next m c qs) = tt
final-right (states_more m c qs) = tt
final-right (states_done m c qs) = tt
final-right (initial_next m c qs) = tt
final-right (initial_done m c qs i) = tt
final-right (head_done m h) = tt
final-right (lines_open m h) = tt
final-right (lines_first m h) = tt
final-right (lines_next m h ts) = tt
final-right (line_done m h ts) = tt
final-right (lines_done m h ts) = tt
final-right (extra_done m h ts x) = tt
final-right (from_next m h ts) = tt
final-right (from_done m h ts p) = tt
final-right (to_next m h ts p) = tt
final-right (to_done m h ts p q) = tt
final-right (guard_first m h ts p q) = tt
final-right (guard_next m h ts p q g) = tt
final-right (guard_barred m h ts p q g) = tt
final-right (guard_done m h ts p q g) = tt
final-right (action_done m h ts p q g x) = tt
final-right (set_next w) = tt
final-right (set_first w) = tt
final-right (set_more w ns) = tt
final-right (set_comma w ns) = tt

ending-right : (s : Position) (w : List ℕ) → Led s w → Holds (λ t. LaidAs w t) (ending s)
unfolding ending Led
ending-right (gap p) w d = go (final p) (final-right p)
  where
    go : (o : Option Chart) → Holds (λ t. before p ≡ tokens_of t) o → Holds (λ t. LaidAs w t) o
    go none h = unfold Holds in tt
    go (some t) h = unfold Holds in subst (λ r. Laid r w) h d
ending-right (inside c cs p) w d = unfold Holds in tt
ending-right (letter_read l f) w d = unfold Holds in tt
ending-right (number l n f) w d = go (final (f n)) (final-right (f n))
  where
    go : (o : Option Chart) → Holds (λ t. before (f n) ≡ tokens_of t) o → Holds (λ t. LaidAs w t) o
    go none h = unfold Holds in tt
    go (some t) h = unfold Holds in subst (λ r. Laid r w) h (whole_name n d.1)

-- ── what an answer says, of bytes w that come behind the bytes u, the first at place n ──

unfoldable Told : List ℕ → List ℕ → ℕ → Position → Reading → Type 0
Told u w n s (spelt t) = LaidAs (u ++ w) t
Told u w n s (wrong_at k) =
    (j : ℕ) × (k ≡ n + j) × (j ≤ length w) × BeginsLaid (u ++ take j w) × (j < length w → (v : List ℕ)
    → read_from (take (suc j) w ++ v) n s ≡ wrong_at k)

told : (w u : List ℕ) (n : ℕ) (s : Position) → Led s u → Told u w n s (read_from w n s)
unfolding read_from Told at_end on_to Holds
told [] u n s d = go (ending s) (ending-right s u d)
  where
    go : (o : Option Chart) → Holds (λ t. LaidAs u t) o → Told u [] n s (at_end n o)
    go none h = (
      0,
      sym (add-zero n),
      omega arith,
      subst (λ x. BeginsLaid x) (sym (append-nil u)) (led_begins s u d),
      λ l v. absurd (omega arith),
    )
    go (some t) h = rw (append-nil u) h
told (b ∷ w) u n s d = go (step s b) refl (step_led b u s d) (λ s' d'. told w (u ++ (b ∷ [])) (suc n) s' d')
  where
    later : (s' : Position) (a : Reading) → step s b ≡ some s' → Told (u ++ (b ∷ [])) w (suc n) s' a
        → Told u (b ∷ w) n s a
    later s' (spelt t) e h = subst (λ x. LaidAs x t) (append_assoc u (b ∷ []) w) h
    later s' (wrong_at k) e (j, q, l, g, z) = (
      suc j,
      omega arith,
      omega arith,
      subst (λ x. BeginsLaid x) (append_assoc u (b ∷ []) (take j w)) g,
      λ m v. rw e (z (omega arith) v),
    )

    go : (o : Option Position) → step s b ≡ o → Holds (λ s'. Led s' (u ++ (b ∷ []))) o
        → ((s' : Position) → Led s' (u ++ (b ∷ [])) → Told (u ++ (b ∷ [])) w (suc n) s' (read_from w (suc n) s'))
        → Told u (b ∷ w) n s (on_to n (read_from w (suc n)) o)
    go none e h ih = (
      0,
      sym (add-zero n),
      omega arith,
      subst (λ x. BeginsLaid x) (sym (append-nil u)) (led_begins s u d),
      λ l v. rw e,
    )
    go (some s') e h ih = later s' (read_from w (suc n) s') e (ih s' h)

start_led : Led (gap (part (first_in whole))) []
unfolding Led before before_enclosure
start_led = nothing

reader-told : (w : List ℕ) → Told [] w 0 (gap (part (first_in whole))) (reader w)
unfolding reader
reader-told w = told w [] 0 (gap (part (first_in whole))) start_led

-- ── what is read is spelt, and what is spelt is read ──

-- if the reader answers a chart, the text spells it
pub sound : (w : List ℕ) (t : Chart) → reader w ≡ spelt t → Spells w t
unfolding Told
sound w t e = laid_spells w t (subst (λ a. Told [] w 0 (gap (part (first_in whole))) a) e (reader-told w))

fed_read : (w : List ℕ) (n : ℕ) (s s' : Position) → feed s w ≡ some s'
    → read_from w n s ≡ at_end (n + length w) (ending s')
unfolding feed bound read_from on_to
fed_read [] n s s' e = let z : s ≡ s' = cc in let y : n ≡ n + 0 = omega arith in rw (z, ← y)
fed_read (b ∷ w) n s s' e = go (step s b) e (λ s'' h. fed_read w (suc n) s'' s' h)
  where
    go : (o : Option Position) → bound o (λ x. feed x w) ≡ some s'
        → ((s'' : Position) → feed s'' w ≡ some s' → read_from w (suc n) s'' ≡ at_end (suc n + length w) (ending s'))
        → on_to n (read_from w (suc n)) o ≡ at_end (n + suc (length w)) (ending s')
    go none e ih = absurd (let z : ◌≡◌ {A = ℕ} 0 1 = cc in omega arith)
    go (some s'') e ih =
        ih s'' e ∙ ap (λ x. at_end x (ending s')) (let z : suc n + length w ≡ n + suc (length w) = omega arith in z)

-- if the text spells a chart, the reader answers it
pub complete : (w : List ℕ) (t : Chart) → Spells w t → reader w ≡ spelt t
unfolding reader at_end
complete w t d =
    let m = laid_fed (spells_laid w t d) (tokens_read t) in
    fed_read w 0 (gap (part (first_in whole))) m.0 m.1 ∙ ap (at_end (0 + length w)) (m.2.ends ∙ final-end t)

-- so a text spells one chart at most
pub unique : (w : List ℕ) (t t' : Chart) → Spells w t → Spells w t' → t ≡ t'
unique w t t' d d' = let p = complete w t d in let q = complete w t' d' in cc

-- ── the place of refusal 50 ──

begins_spells : (w : List ℕ) → BeginsLaid w → Begins w
begins_spells w (rest, t, d) = (rest, t, laid_spells (w ++ rest) t d)

-- if the reader answers a place, it is that of the first wrong byte
pub refused : (w : List ℕ) (k : ℕ) → reader w ≡ wrong_at k → FirstWrong w k
unfolding Told reader
refused w k e =
    let h = subst (λ a. Told [] w 0 (gap (part (first_in whole))) a) e (reader-told w) in
    let q = h.1 in
    let z : k ≡ h.0 = omega arith in
    record {
      within = (let l = h.2 in omega arith);
      begins = rw z (begins_spells (take h.0 w) h.3);
      never = λ l v t d. (let a = complete (take (suc k) w ++ v) t d in
          let b = subst (λ i. read_from (take (suc i) w ++ v) 0 (gap (part (first_in whole))) ≡ wrong_at k) (sym z)
          (h.4 (omega arith) v) in
          let y : ◌≡◌ {A = ℕ} 0 1 = cc in omega arith);
      no_chart = λ t d. (let a = complete w t d in let y : ◌≡◌ {A = ℕ} 0 1 = cc in omega arith);
    }

-- bytes that begin some text have no wrong byte before their end
not-before : (w : List ℕ) (k j : ℕ) → FirstWrong w k → FirstWrong w j → k < j → ⊥
not-before w k j p q l =
    let b = q.begins in
    let m = q.within in
    let e : take j w ≡ take (suc k) w ++ drop (suc k) (take j w) =
    sym (take-append-drop (suc k) (take j w))
    ∙ ap (◌++ drop (suc k) (take j w)) (take-take (suc k) j w (omega arith)) in
    p.never (omega arith) (drop (suc k) (take j w) ++ b.0) b.1
    (subst (λ x. Spells x b.1)
    (ap (◌++ b.0) e ∙ append_assoc (take (suc k) w) (drop (suc k) (take j w)) b.0) b.2)

-- a text has one such place at most
pub first_wrong_unique : (w : List ℕ) (k j : ℕ) → FirstWrong w k → FirstWrong w j → k ≡ j
first_wrong_unique w k j p q =
    let a : ¬ (k < j) = not-before w k j p q in let b : ¬ (j < k) = not-before w j k q p in omega arith

-- and the reader answers it
pub refused_exact : (w : List ℕ) (k : ℕ) → FirstWrong w k → reader w ≡ wrong_at k
refused_exact w k p = go (reader w) refl
  where
    go : (a : Reading) → reader w ≡ a → a ≡ wrong_at k
    go (spelt t) e = absurd (p.no_chart t (sound w t e))
    go (wrong_at j) e = ap wrong_at (first_wrong_unique w j k (refused w j e) p)
