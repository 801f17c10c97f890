-- What the rewriting promises (RULES 9.8), over the calls: where it is not refused, its bytes are a file that passes 1
-- to 11, has no slaves, and is answered like the file by every other call, for every configuration, input and buffer,
-- up to the first step at which either is refused with 24.
use Rattle.std.specs.Prelude.{◌≡◌, Bool, true, false, ◌↔◌, ◌≢◌, List, [], ◌∷◌, length, take, drop}
use Rattle.std.proofs.Math.Path.{refl, sym, ap, ap₂}
use Rattle.std.proofs.Common.{◌∙◌, inl, append_assoc, ltb-false, lit<}
use Rattle.std.proofs.Math.Bool.{cond}
use Rattle.std.proofs.lemmas.Bool.{false≢true}
use Prim.Native.Nat.{ℕ, ◌+◌, ◌*◌, ◌-◌, ◌≤◌, ◌<◌}
use native.Mathlib.Omega.{arith}
use Rattle.layout.specs.Le.{AllBytes}
use Rattle.layout.specs.Body.{size_of}
use Rattle.layout.specs.Body.Laws.{head_at-fits, node_at-fits}
use Rattle.meaning.specs.Meaning.{Set, ∅, same, refused, given}
use Rattle.meaning.specs.File.{end_of, trailer, body_of, shape_of, chart_of, file_at, file_of}
use Rattle.meaning.specs.Numbers.{first_edition, most_nodes, many_open}
use Rattle.meaning.specs.Check.Laws.{first_of-passes, Passed, passed, in_front_lem, counted, charted}
use Rattle.meaning.specs.Check.{first_of, file_tests, refusal_of}
use Rattle.meaning.specs.Calls.{first_refusal, first_bytes, input_of, output_of, step_refusal, step_in, step_of}
use Rattle.meaning.specs.Calls.{all_places}
use Rattle.meaning.specs.Calls.{places_in, places_of, run_refusal, run_bytes, run_carried}
use Rattle.meaning.specs.Calls.Laws.{step_allowed}
use Rattle.meaning.specs.Rewriting.{free, call, LowestLeft, no_free?, chart_with, rewritten_chart, rewrite_tests}
use Rattle.meaning.specs.Rewriting.{rewrite_bytes, stay_test, rewrite_refusal, rewrite, rewrite_length, shape_in}
use Rattle.meaning.specs.Words.{AgreeUnless, Until, PlacesAgree}
use Rattle.meaning.specs.Laws.Bools.{same_refl, same→≡}
use Rattle.meaning.specs.Laws.Alike.{ConfigsAlike, first_refusal_alike, first_alike, step_refusal_alike}
use Rattle.meaning.specs.Laws.Alike.{run_refusal_alike}
use Rattle.meaning.proofs.Laws.Until.{StepsAgreeUnless, same-step_until, same_rows_until, same_run_until}
use Rattle.meaning.proofs.Laws.Until.{same_carried_until}
use Rattle.meaning.proofs.Laws.Editions.{edition_left}
use Rattle.agreement.specs.Step.{Rewritten, steps-agree}
use Rattle.agreement.specs.Taken.{taken-agree}
use Rattle.agreement.specs.Faces.{input_is, output_is}
use Rattle.agreement.specs.Passed.{ended, smalls, body_bytes_lem, ready}
use Rattle.agreement.specs.New.{Regular}
use Rattle.agreement.specs.Free.{call_is}
use Rattle.agreement.specs.Slaveless.{slaveless_same}
use Rattle.agreement.specs.Reproduced.{encode_again}
use Rattle.agreement.specs.Again.{Given, fits, new-passes, new_reads, new-slaves}
use Rattle.agreement.specs.Bytes.{new-bytes as bytes-new}
use Rattle.agreement.specs.Encoded.{length-encode, end_is, trailer_is}

-- ── what a call that is not refused has ──

-- the file passes, it is of edition 1, 40 to 44 do not apply, and the result has room
pub record Allowed (f : List ℕ) (room : ℕ) : Type 0 where
  pub checked : refusal_of f ≡ 0
  pub one : (trailer f).edition ≡ first_edition
  pub given : Given (file_of f)
  pub fits : length (rewrite_bytes f) ≤ room

pub allowed : (f : List ℕ) (room : ℕ) → rewrite_refusal f room ≡ 0 → Allowed f room
unfolding rewrite_refusal rewrite_tests
allowed f room e =
    let p = in_front_lem f _ (ap first_of (sym
    (append_assoc (file_tests f) (stay_test f ∷ rewrite_tests (file_of f)) _)) ∙ e) in
    let q = first_of-passes _ (lit< tt, (lit< tt, (lit< tt, (lit< tt, (lit< tt, (lit< tt, tt)))))) p.1 in
    record {
      checked = p.0;
      one = edition_left f (passed f p.0).edition q.0;
      given = record {
        room = q.1.0;
        leaving = q.1.1.0;
        lists = q.1.1.1.0;
        nodes = ltb-false most_nodes _ q.1.1.1.1.0;
      };
      fits = ltb-false room _ q.1.1.1.1.1.0;
    }

pub regular : (f : List ℕ) → AllBytes f → Passed f → (trailer f).edition ≡ first_edition → Regular (file_of f)
unfolding file_of file_at chart_of shape_of
regular f ab p one = record {
  ready = ready f p ab one;
  some_chart = (counted (trailer f) p.counts).some_chart;
  charts = (counted (trailer f) p.counts).charts;
  most_states_lem = λ c l. (charted (shape_of (trailer f)) (body_of f) p.charts c l).states;
  initials = λ c l. (charted (shape_of (trailer f)) (body_of f) p.charts c l).initial;
  feedbacks =
      λ c l. let h = head_at-fits (shape_of (trailer f)) (body_of f) (body_bytes_lem f p ab) c in (h.feedback, h.extra);
  lists = λ c l. smalls f p ab c;
  states = λ c l. ended f p c l;
  sets = λ j l. let h = node_at-fits (shape_of (trailer f)) (body_of f) (body_bytes_lem f p ab) j in (h.x, h.y);
}

-- ── the promises ──

module _ (f : List ℕ) (ab : AllBytes f) (room : ℕ) (ok : rewrite_refusal f room ≡ 0) where
  abbrev f' : List ℕ
  f' = rewrite_bytes f

  h : refusal_of f ≡ 0
  h = (allowed f room ok).checked

  rg : Regular (file_of f)
  rg = regular f ab (passed f h) (allowed f room ok).one

  r : Rewritten (file_of f) (file_of f')
  unfolding rewrite_bytes
  r = new_reads (file_of f) rg (allowed f room ok).given

  -- `check`: it is a file
  pub same_check : refusal_of f' ≡ 0
  unfolding rewrite_bytes
  same_check = new-passes (file_of f) rg (allowed f room ok).given

  -- it has no slaves (RULES 9.5)
  pub no_slaves : (file_of f').slaves ≡ 0
  unfolding rewrite_bytes
  no_slaves = new-slaves (file_of f) rg (allowed f room ok).given

  -- it is made of bytes, as many as the layout has
  pub new-bytes : AllBytes f'
  unfolding rewrite_bytes
  new-bytes = bytes-new (file_of f) rg (allowed f room ok).given

  pub length-is : rewrite_length f room ≡ size_of (shape_in (rewrite (file_of f))) + 12
  unfolding rewrite_length rewrite_bytes
  length-is = ap (λ n. cond (same n 0) (length f') 0) ok ∙ ap (λ b. cond b (length f') 0) (same_refl 0)
      ∙ length-encode (rewrite (file_of f))

  -- of edition 1
  pub new_edition : (trailer f').edition ≡ first_edition
  unfolding rewrite_bytes
  new_edition = ap (λ t. t.edition) (trailer_is (rewrite (file_of f)) (fits (file_of f) rg (allowed f room ok).given))

  no_front : end_of f' - (trailer f').distance ≡ 0
  unfolding rewrite_bytes
  no_front = let ft = fits (file_of f) rg (allowed f room ok).given in
      ap₂ ◌-◌ (end_is (rewrite (file_of f))) (ap (λ t. t.distance) (trailer_is (rewrite (file_of f)) ft))
      ∙ omega arith

  alike : ConfigsAlike (file_of f) (file_of f')
  unfolding rewritten_chart chart_with
  alike = record {
    charts = r.charts;
    states = λ c l. ap (λ C. C.states) (r.chart c l);
    initials = λ c l. ap (λ C. C.initial) (r.chart c l);
  }

  rs : refusal_of f' ≡ refusal_of f
  rs = same_check ∙ sym h

  agree : StepsAgreeUnless many_open (file_of f) (file_of f')
  agree = steps-agree (file_of f) rg.ready (file_of f') r

  -- the first configuration
  pub same-first_refusal : (left : ℕ) → first_refusal f' left ≡ first_refusal f left
  same-first_refusal = first_refusal_alike f f' rs (λ e. alike)

  pub same_first : (buffer : List ℕ) → first_bytes f' buffer ≡ first_bytes f buffer
  same_first = first_alike f f' rs (λ e. alike)

  -- the interface
  pub same_input : input_of f' ≡ input_of f
  unfolding input_of
  same_input = ap₂ (λ n s. cond (same n 0) s ∅) (same_check ∙ sym h) (input_is (file_of f) rg.ready (file_of f') r)

  pub same_output : output_of f' ≡ output_of f
  unfolding output_of
  same_output = ap₂ (λ n s. cond (same n 0) s ∅) (same_check ∙ sym h) (output_is (file_of f) rg.ready (file_of f') r)

  -- a step, unless one of the two is refused with 24; its tests before 24
  pub same-step_refusal : (config : List ℕ) (left : ℕ) → step_refusal f' config left ≡ step_refusal f config left
  same-step_refusal = step_refusal_alike f f' rs (λ e. alike)

  pub same_step : (config : List ℕ) (i : Set) (left : ℕ)
      → AgreeUnless many_open (step_of f config i left) (step_of f' config i left)
  same_step config i left =
      same-step_until many_open f f' agree config i left (same-step_refusal config left)

  -- the places of its transitions
  pub same_places : (config : List ℕ) (i : Set) (left : ℕ) → step_of f config i left ≢ refused many_open
      → step_of f' config i left ≢ refused many_open
      → PlacesAgree (file_of f) (file_of f') config (step_of f config i left) (places_of f config i left)
      (places_of f' config i left)
  unfolding step_of places_of
  same_places config i left p q =
      let e = same-step_refusal config left in
      rw e (go (same n 0) refl p (λ z. q (ap (λ k. cond (same k 0) (step_in (file_of f') config i) (refused k)) e ∙ z)))
    where
      n : ℕ
      n = step_refusal f config left

      go : (b : Bool) → same n 0 ≡ b → cond b (step_in (file_of f) config i) (refused n) ≢ refused many_open
          → cond b (step_in (file_of f') config i) (refused n) ≢ refused many_open
          → PlacesAgree (file_of f) (file_of f') config (cond b (step_in (file_of f) config i) (refused n))
          (cond b (places_in (file_of f) config i) (all_places []))
          (cond b (places_in (file_of f') config i) (all_places []))
      go true e p q =
          taken-agree (file_of f) (file_of f') rg.ready r config (step_allowed f config left (same→≡ n 0 e)).1 i p q
      go false e p q = record {
        long = refl;
        each = λ c. inl refl;
        taken = λ z. absurd (false≢true (sym e ∙ ap (λ n. same n 0) z ∙ same_refl 0));
      }

  -- a run: its refusal; its rows, all or the first k of them, and what it carries, as long as no step of either run is
  -- refused with 24
  pub same_refusal : (config : List ℕ) (inputs left : ℕ)
      → run_refusal f' config inputs left ≡ run_refusal f config inputs left
  same_refusal = run_refusal_alike f f' rs (λ e. alike)

  module _ (config : List ℕ) (carried : Set) (inputs : List Set) (rows : List ℕ) where
    pub same_rows : (k : ℕ) → k ≤ length inputs → Until many_open f config carried inputs rows k
        → Until many_open f' config carried inputs rows k
        → take (k * (10 + (file_of f).charts)) (run_bytes f' config carried inputs rows)
        ≡ take (k * (10 + (file_of f).charts)) (run_bytes f config carried inputs rows)
    same_rows =
        same_rows_until many_open f f' agree config carried inputs rows
        (same_refusal config (length inputs) (length rows))

    pub same_run : Until many_open f config carried inputs rows (length inputs)
        → Until many_open f' config carried inputs rows (length inputs)
        → run_bytes f' config carried inputs rows ≡ run_bytes f config carried inputs rows
    same_run =
        same_run_until many_open f f' agree config carried inputs rows
        (same_refusal config (length inputs) (length rows))

    pub same_carried : Until many_open f config carried inputs rows (length inputs)
        → Until many_open f' config carried inputs rows (length inputs)
        → run_carried f' config carried inputs (length rows) ≡ run_carried f config carried inputs (length rows)
    same_carried =
        same_carried_until many_open f f' agree config carried inputs rows
        (same_refusal config (length inputs) (length rows))

-- the call signal of a slave is the lowest number that is left for it, and no other number is
pub call_exactly : (f : List ℕ) (room : ℕ) → rewrite_refusal f room ≡ 0 → (i : ℕ) → i < (file_of f).slaves
    → (m : ℕ) → (m ≡ call (file_of f) i) ↔ LowestLeft (file_of f) i m
unfolding no_free?
call_exactly f room ok i l m =
    let h = ltb-false (length (free (file_of f))) (file_of f).slaves (allowed f room ok).given.room in
    call_is (file_of f) i (omega arith) m

-- a file of edition 1 without slaves rewrites to itself, without its front
pub slaveless_rewrites : (f : List ℕ) → AllBytes f → refusal_of f ≡ 0 → (trailer f).edition ≡ first_edition
    → (file_of f).slaves ≡ 0
    → rewrite_bytes f ≡ drop (end_of f - (trailer f).distance) f
unfolding rewrite_bytes file_of
slaveless_rewrites f ab e one none_there =
    let p = passed f e in slaveless_same (file_of f) (ready f p ab one) p.nodes none_there ∙ encode_again f p ab one

-- rewritten again, a rewritten file stays as it is
pub twice : (f : List ℕ) → AllBytes f → (room : ℕ) → rewrite_refusal f room ≡ 0
    → rewrite_bytes (rewrite_bytes f) ≡ rewrite_bytes f
twice f ab room ok =
    slaveless_rewrites (rewrite_bytes f) (new-bytes f ab room ok) (same_check f ab room ok) (new_edition f ab room ok)
    (no_slaves f ab room ok)
    ∙ ap (λ k. drop k (rewrite_bytes f)) (no_front f ab room ok)
