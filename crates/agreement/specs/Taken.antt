-- Which transitions a step of the rewritten file takes (RULES 9.8): the places of what is found in the two files agree
-- (`found_agree`), and so do those of the two steps, unless one is refused with 24 (`taken-agree`).
use Rattle.std.proofs.Math.Path.{◌≡◌, refl, sym, ap, subst}
use Rattle.std.proofs.Common.{◌∙◌, inl, inr, ⊎_elim, zero-add, length-append}
use Rattle.std.proofs.Math.Bool.{true}
use Rattle.std.specs.Prelude.{false, ◌⊎◌, ◌≢◌}
use Rattle.std.proofs.Math.Option.{Option, none, some}
use mathlib.Core.List.{List, [], ◌∷◌}
use Prim.Native.Nat.{ℕ, zero, suc, ◌+◌, ◌≤◌, ◌<◌}
use native.Mathlib.Omega.{arith}
use Rattle.std.proofs.Math.Decide.{dec_lt}
use Rattle.std.proofs.Math.ListN.{length, get_or, get_or-eq_default}
use Rattle.signals.specs.Mask.{◌∩◌}
use Rattle.layout.specs.declared.record.Transition.{Transition}
use Rattle.meaning.specs.Numbers.{no_place, many_open}
use Rattle.meaning.specs.Meaning.{Set, Outcome, refused, no_move, takes, nth, pick, last_place, in_face, ok, permitted}
use Rattle.meaning.specs.Meaning.{moves, place_of, first_places, agree, answer}
use Rattle.meaning.specs.File.{File, whole_of}
use Rattle.meaning.specs.Calls.{outcomes_in, found_in, step_in, places_found, places_in, refusal_in}
use Rattle.meaning.specs.Calls.Laws.{get_or-all, places_by_lem}
use Rattle.meaning.specs.Rewriting.{call, chart_with, idle}
use Rattle.meaning.specs.Words.{IdleStands, PlacesAgree}
use Rattle.meaning.proofs.Laws.Choices.{place-own, length_places, get_or_places}
use Rattle.meaning.proofs.Laws.Editions.{places_one}
use Rattle.meaning.specs.Laws.Names.{kap}
use Rattle.meaning.proofs.Laws.Runs.{Valid}
use Rattle.meaning.proofs.Laws.Demand2.{given-first}
use Rattle.meaning.proofs.Laws.Many.{Decided, found_or-many}
use Rattle.agreement.specs.Tree.{touch}
use Rattle.agreement.specs.Fit.{slaves_of}
use Rattle.agreement.specs.Charts.{nth-idle, places, places_none}
use Rattle.agreement.specs.Active.{Live, live}
use Rattle.agreement.specs.Places.{turned_place, turned-or-idle, turned_places, length-turned}
use Rattle.agreement.specs.Step.{Ready, Rewritten, has, whole_is, chart_is, found_is, places_are}

-- ── places, one by one ──

module _ (F F' : File) (rd : Ready F) (rw' : Rewritten F F') (config : List ℕ) (v : Valid F config) (inp : Set) where
  abbrev os : List Outcome
  os = outcomes_in F config inp

  abbrev own : ℕ → ℕ
  own c = length (F.chart c).transitions

  abbrev cfg : ℕ → ℕ
  cfg c = get_or config c 0

  get_or-turned : (k : ℕ) (ps : List ℕ) (c : ℕ) → c < length ps
      → get_or (turned_places (kap F) own cfg k ps) c no_place
      ≡ turned_place (kap F (k + c)) (own (k + c)) (cfg (k + c)) (get_or ps c no_place)
  unfolding turned_places
  get_or-turned k [] c l = absurd (omega arith)
  get_or-turned k (p ∷ ps) zero l =
      ap (λ z. turned_place (kap F z) (own z) (cfg z) p) (let e : k ≡ k + 0 = omega arith in e)
  get_or-turned k (p ∷ ps) (suc c) l = get_or-turned (suc k) ps c (omega arith)
      ∙ ap (λ z. turned_place (kap F z) (own z) (cfg z) (get_or ps c no_place))
      (let e : suc k + c ≡ k + suc c = omega arith in e)

  -- places are there only where a step is given, one for each chart
  some_given : (c : ℕ) → c < length (first_places os) → (refusal_in (found_in F config inp) ≡ 0) × (c < F.charts)
  unfolding found_in first_places answer
  some_given c l = go os refl l
    where
      go : (l : List Outcome) → os ≡ l → c < length (first_places l) → (refusal_in (answer os) ≡ 0) × (c < F.charts)
      go [] e b = absurd (omega arith)
      go (x ∷ xs) e b = (
        ap (λ l. refusal_in (answer l)) e,
        let g = given-first F.chart F.state cfg (whole_of F) inp F.charts x.output x.next (agree x xs)
            (ap answer e) in
            let z : length (first_places os) ≡ F.charts =
            ap length g.places ∙ length_places F.chart g.choice zero F.charts in
            let y : length (first_places os) ≡ length x.places = ap (λ l. length (first_places l)) e in
            omega arith,
      )

  abbrev turns : List ℕ
  turns = turned_places (kap F) own cfg zero (first_places os)

  are : first_places (outcomes_in F' config inp) ≡ turns
  are = places_are F rd F' rw' config v inp

  -- the place in the rewritten file, and in the file
  new-place : (c : ℕ) → get_or (places_found F' config inp) c no_place ≡ get_or turns c no_place
  unfolding places_found
  new-place c = get_or-all (first_places (outcomes_in F' config inp)) c ∙ ap (λ l. get_or l c no_place) are

  old-place : (c : ℕ) → get_or (places_found F config inp) c no_place ≡ get_or (first_places os) c no_place
  unfolding places_found
  old-place c = get_or-all (first_places os) c

  -- chart c's idle transition for its present state
  idle_there : (c i : ℕ) → c < F.charts → kap F c ≡ some i
      → nth no_move (F'.chart c).transitions (own c + cfg c) ≡ takes (idle (call F) i (cfg c))
  idle_there c i l e = ap (λ C. nth no_move C.transitions (own c + cfg c)) (chart_is F rd F' rw' c l)
      ∙ subst (λ κ. nth no_move (chart_with (call F) κ (touch (call F) F.state (slaves_of F c))
      (F.chart c)).transitions (own c + cfg c) ≡ takes (idle (call F) i (cfg c)))
      (sym e)
      (nth-idle (call F) no_move i (touch (call F) F.state (slaves_of F c)) (F.chart c) (cfg c) (v.states c l))

  abbrev Idles : ℕ → Type 0
  Idles c = IdleStands F F' config (found_in F config inp) (places_found F config inp) (places_found F' config inp) c

  one_place : (c : ℕ) → Dec (c < length (first_places os))
      → (get_or (places_found F' config inp) c no_place ≡ get_or (places_found F config inp) c no_place) ⊎ Idles c
  one_place c (no l) = inl (new-place c ∙ none_there turns (length-turned (kap F) own cfg zero (first_places os))
      ∙ sym (none_there (first_places os) refl)
      ∙ sym (old-place c))
    where
      none_there : (ps : List ℕ) → length ps ≡ length (first_places os) → get_or ps c no_place ≡ no_place
      none_there ps e = get_or-eq_default ps no_place {n = c} (omega arith)
  one_place c (yes l) = ⊎_elim (λ e. inl (new-place c ∙ there ∙ e ∙ sym (old-place c)))
      (λ w. inr (record {
        is_given = (some_given c l).0;
        one-of_its = (some_given c l).1;
        none-taken = old-place c ∙ w.2;
        slave = w.0;
        is_idle = ap (nth no_move (F'.chart c).transitions) (new-place c ∙ there ∙ w.3)
            ∙ idle_there c w.0 (some_given c l).1 w.1;
      }))
      (turned-or-idle (kap F c) (own c) (cfg c) (get_or (first_places os) c no_place))
    where
      there : get_or turns c no_place ≡ turned_place (kap F c) (own c) (cfg c) (get_or (first_places os) c no_place)
      there = get_or-turned zero (first_places os) c l
          ∙ ap (λ z. turned_place (kap F z) (own z) (cfg z) (get_or (first_places os) c no_place)) (zero-add c)

  -- ── a chart of the rewritten file takes a transition in each step given ──

  new-length : (c : ℕ) → c < F.charts → length (F'.chart c).transitions ≤ own c + (F.chart c).states
  new-length c l =
      subst (λ C. length C.transitions ≤ own c + (F.chart c).states) (sym (chart_is F rd F' rw' c l)) (go (kap F c))
    where
      T : Transition → Set
      T = touch (call F) F.state (slaves_of F c)

      go : (κ : Option ℕ) → length (chart_with (call F) κ T (F.chart c)).transitions ≤ own c + (F.chart c).states
      go none = let e = places_none (call F) T (F.chart c) in omega arith
      go (some i) = let e = places (call F) i T (F.chart c) in omega arith

  one' : (c : ℕ) → c < F.charts → (F'.chart c).stays ≡ false
  unfolding chart_with
  one' c l = ap (λ C. C.stays) (chart_is F rd F' rw' c l) ∙ rd.one c l

  -- a choice that gives a chart a transition from its state has its place
  has-place : (c w : ℕ) → w ≤ last_place (F'.chart c) → c < F.charts → Live (cfg c) (pick (F'.chart c) w)
      → place_of (pick (F'.chart c) w) w ≢ no_place
  has-place c zero b l h e = unfold pick in h
  has-place c (suc k) b l h e =
      let n = places_one (F'.chart c) (one' c l) in
      let p = place-own (F'.chart c) k (omega arith) in
      let a = new-length c l in let f = rd.few c l in omega arith

  always : refusal_in (found_in F config inp) ≡ 0 → (c : ℕ) → c < F.charts
      → get_or (places_found F' config inp) c no_place ≢ no_place
  unfolding found_in answer permitted moves places_found
  always z c l q = go (outcomes_in F' config inp) refl (ap refusal_in (found_is F rd F' rw' config v inp) ∙ z)
    where
      go : (os' : List Outcome) → outcomes_in F' config inp ≡ os'
          → refusal_in (answer (outcomes_in F' config inp)) ≡ 0 → ⊥
      go [] e r = absurd (let y : ◌≡◌ {A = ℕ} 23 0 = sym (ap (λ os. refusal_in (answer os)) e) ∙ r in omega arith)
      go (x ∷ xs) e r =
          let g = given-first F'.chart F'.state cfg (whole_of F') inp F'.charts x.output x.next
          (agree x xs) (ap answer e) in
          let l' : c < F'.charts = subst (λ n. c < n) (sym rw'.charts) l in
          let k = subst (λ t.
          ok F'.chart F'.state cfg (moves F'.chart g.choice) t true (inp ∩ in_face F'.chart t) ≡ true)
          (whole_is F rd F' rw') g.permits in
          has-place c (g.choice c) (g.chosen.places c l') l
          (live (call F) (λ c. (F.chart c).feedback) F'.chart F'.state cfg (moves F'.chart g.choice) c
          (whole_of F) _ (has F rd c l) k)
          (sym (get_or-all (first_places (outcomes_in F' config inp)) c ∙ ap (λ ps. get_or ps c no_place) g.places
          ∙ get_or_places F'.chart g.choice zero F'.charts c l'
          ∙ ap (λ z. place_of (pick (F'.chart z) (g.choice z)) (g.choice z)) (zero-add c)) ∙ q)

  pub found_agree : PlacesAgree F F' config (found_in F config inp) (places_found F config inp)
      (places_found F' config inp)
  unfolding places_found
  found_agree = record { long = long; each = λ c. one_place c (dec_lt c (length (first_places os))); taken = always }
    where
      same_length : length (first_places (outcomes_in F' config inp)) ≡ length (first_places os)
      same_length = ap length are ∙ length-turned (kap F) own cfg zero (first_places os)

      long : length (places_found F' config inp) ≡ length (places_found F config inp)
      long = length-append (first_places (outcomes_in F' config inp)) _
          ∙ rw (same_length) (sym (length-append (first_places os) _))

  -- neither is refused with 24
  pub taken-agree : step_in F config inp ≢ refused many_open → step_in F' config inp ≢ refused many_open
      → PlacesAgree F F' config (step_in F config inp) (places_in F config inp) (places_in F' config inp)
  taken-agree p q = go (found_or-many F config inp) (found_or-many F' config inp)
    where
      go : Decided F config inp → Decided F' config inp
          → PlacesAgree F F' config (step_in F config inp) (places_in F config inp) (places_in F' config inp)
      go (inl a) b = absurd (p a.1)
      go (inr a) (inl b) = absurd (q b.1)
      go (inr a) (inr b) =
          rw (a.1, places_by_lem F config inp false a.0, places_by_lem F' config inp false b.0) found_agree
