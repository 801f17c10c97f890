-- What else clearing keeps. In this order: a file with nothing to clear is written as it is, without its front
-- (`nothing-dead`); a plain file stays plain (`plain_stays`). Of its rewriting: Rewrites.
use Rattle.std.specs.Prelude.{◌≡◌, Bool, ◌&&◌, ◌||◌, not, cond, ℕ, ◌-◌, ◌<◌, drop}
use Rattle.std.proofs.Math.Path.{refl, ap}
use Rattle.std.proofs.Common.{sym, ◌∙◌}
use Rattle.std.proofs.Math.Bool.{true, false}
use mathlib.Core.List.{List, [], ◌∷◌}
use Rattle.std.proofs.lemmas.Bool.{not-true}
use Rattle.signals.specs.Mask.{◌∪◌, ◌∖◌}
use Rattle.signals.specs.Decide.{sets, A, B, ◌∪ₑ◌, ◌∖ₑ◌, ◌≐◌}
use Rattle.layout.specs.Le.{AllBytes}
use Rattle.layout.specs.declared.record.Transition.{Transition}
use Rattle.meaning.specs.Numbers.{first_edition}
use Rattle.meaning.specs.Sums.Laws.{or_left, or_right, any-never, any-all}
use Rattle.meaning.specs.Meaning.{Set, same, Chart, guards}
use Rattle.meaning.specs.File.{File, end_of, trailer, file_of}
use Rattle.meaning.specs.Check.{refusal_of}
use Rattle.meaning.specs.Check.Laws.{passed}
use Rattle.meaning.specs.Plain.{fed_back, doubtful, doubtful_with, any_doubtful, plain_in, plain_of}
use Rattle.meaning.specs.Laws.Bools.{same_refl, and_r}
use Rattle.agreement.specs.Slaveless.{encode_same}
use Rattle.agreement.specs.Reproduced.{encode_again}
use Rattle.propositions.proofs.Exchange.Answers.{plain_alike}
use Rattle.clearing.specs.Clearing.{dead, alive, lost, cleared_chart, clear, clear_bytes, clear_refusal}
use Rattle.clearing.proofs.Calls.{allowed, same_check, new_edition, alike}

-- ── nothing to clear ──

-- a chart none of whose transitions is dead
kept_chart : (C : Chart) → alive C.feedback C.transitions ≡ C.transitions → cleared_chart C ≡ C
unfolding cleared_chart lost
kept_chart C e = λ i. record {
  states = C.states;
  initial = C.initial;
  transitions = e i;
  feedback = C.feedback;
  extra = (ap (λ z. C.extra ∪ (guards C.transitions ∖ guards z)) e
      ∙ sets (C.extra ∷ guards C.transitions ∷ []) [] (A ∪ₑ B ∖ₑ B ≐ A) tt) i;
  stays = C.stays;
}

pub nothing-dead : (f : List ℕ) → AllBytes f → refusal_of f ≡ 0 → (trailer f).edition ≡ first_edition
    → ((c : ℕ) → c < (file_of f).charts
    → alive ((file_of f).chart c).feedback ((file_of f).chart c).transitions ≡ ((file_of f).chart c).transitions)
    → clear_bytes f ≡ drop (end_of f - (trailer f).distance) f
unfolding clear_bytes
nothing-dead f ab e one h =
    encode_same (file_of f) (clear (file_of f))
    (record {
      charts = refl;
      chart = λ c l. kept_chart ((file_of f).chart c) (h c l);
      slaves = refl;
      slave = λ i l. refl;
      nodes = refl;
      node = λ j l. refl;
    })
    ∙ encode_again f (passed f e) ab one

-- ── a plain file stays plain ──

module _ (f : Set) (fed : Set) where
  with-alive : (t : Transition) (ts : List Transition) → doubtful_with f t ts ≡ false
      → doubtful_with f t (alive fed ts) ≡ false
  unfolding doubtful_with alive
  with-alive t [] h = refl
  with-alive t (u ∷ us) h = go (dead fed u) (with-alive t us (or_right (doubtful f t u) (doubtful_with f t us) h))
    where
      go : (b : Bool) → doubtful_with f t (alive fed us) ≡ false
          → doubtful_with f t (cond b (alive fed us) (u ∷ alive fed us)) ≡ false
      go true q = q
      go false q = ap (λ b. b || doubtful_with f t (alive fed us)) (or_left (doubtful f t u) (doubtful_with f t us) h)
          ∙ q

  any-alive : (ts : List Transition) → any_doubtful f ts ≡ false → any_doubtful f (alive fed ts) ≡ false
  unfolding any_doubtful alive
  any-alive [] h = refl
  any-alive (t ∷ ts) h = go (dead fed t) (any-alive ts (or_right (doubtful_with f t ts) (any_doubtful f ts) h))
    where
      go : (b : Bool) → any_doubtful f (alive fed ts) ≡ false
          → any_doubtful f (cond b (alive fed ts) (t ∷ alive fed ts)) ≡ false
      go true q = q
      go false q =
          ap (λ b. b || any_doubtful f (alive fed ts))
          (with-alive t ts (or_left (doubtful_with f t ts) (any_doubtful f ts) h)) ∙ q

plain_in_lem : (F : File) → plain_in F ≡ true → plain_in (clear F) ≡ true
unfolding plain_in fed_back cleared_chart
plain_in_lem F h =
    ap not (any-all F.charts _ (λ c l. any-alive (fed_back F) (F.chart c).feedback (F.chart c).transitions
    (any-never F.charts (λ c. any_doubtful (fed_back F) (F.chart c).transitions) (not-true _ h) c l)))

pub plain_stays : (f : List ℕ) → AllBytes f → (room : ℕ) → clear_refusal f room ≡ 0 → plain_of f ≡ true
    → plain_of (clear_bytes f) ≡ true
unfolding plain_of clear_bytes
plain_stays f ab room ok h =
    let a = allowed f room ok in
    let p = and_r (same (trailer f).edition first_edition) _
    (sym (ap (λ n. cond (same n 0) (same (trailer f).edition first_edition && plain_in (file_of f)) false) a.checked
    ∙ ap (λ b. cond b (same (trailer f).edition first_edition && plain_in (file_of f)) false) (same_refl 0)) ∙ h) in
    rw (same_check f ab room ok, same_refl 0, new_edition f ab room ok, same_refl first_edition)
    (plain_alike (clear (file_of f)) (file_of (clear_bytes f)) (alike f ab room ok) ∙ plain_in_lem (file_of f) p)
