-- Laws of the check's groups: how the groups make `refusal_of`, and what a trailer that passes says of the body.
use Rattle.std.specs.Prelude.{◌≡◌, List, ◌∷◌, ◌++◌, ℕ, ◌-◌, ◌≤◌, ◌<◌, length, take, drop}
use Rattle.std.proofs.Common.{sym, ap, ap₂, ◌∙◌, lt-ltb, le-ltb, ltb-false, lit<, length-take-le}
use native.Mathlib.Omega.{arith}
use Rattle.std.proofs.Math.ListN.{length-drop}
use Rattle.layout.specs.Body.{size_of}
use Rattle.layout.specs.declared.body.Shape.{Shape}
use Rattle.layout.specs.declared.record.Trailer.{Trailer}
use Rattle.meaning.specs.Numbers.{too_short}
use Rattle.meaning.specs.Sums.Laws.{or_left, or_right}
use Rattle.meaning.specs.File.{end_of, trailer, body_of, shape_of}
use Rattle.meaning.specs.Check.{first_of, differ, distance?, body_tests, file_tests, refusal_of}
use Rattle.meaning.specs.Check.Laws.{alike, first_of_here, first_of-next, Passes, first_of-passes, first_of_++}
use Rattle.meaning.specs.Check.Laws.{first_of-before, passed, counted, summed}
use Rattle.checks.specs.Known.{Sized}
use Rattle.checks.specs.Trailer.{trailer_tests}
use Rattle.opening.specs.Opening.{zero_test, Stands}
use Rattle.opening.specs.declared.Opening.{Opening}

-- ── refusalOf ──

pub refused_short : (f : List ℕ) → length f < 12 → refusal_of f ≡ too_short
unfolding refusal_of file_tests
refused_short f h = first_of_here _ _ (lt-ltb (length f) 12 h)

-- the trailer is read, and its tests come next
module _ (f : List ℕ) (t : Trailer) (is : t ≡ trailer f) (long : 12 ≤ length f) where
  tests : refusal_of f ≡ first_of (trailer_tests t (end_of f)
      ++ (zero_test f (end_of f) (shape_of t) (body_of f) ∷ body_tests (shape_of t) (body_of f)))
  unfolding refusal_of file_tests distance?
  tests = first_of-next _ _ (le-ltb (length f) 12 long) ∙ rw is

  pub refused_trailer : (first_of (trailer_tests t (end_of f)) ≡ 0 → ⊥)
      → refusal_of f ≡ first_of (trailer_tests t (end_of f))
  refused_trailer h = tests ∙ first_of-before (trailer_tests t (end_of f)) _ h

  module _ (h : first_of (trailer_tests t (end_of f)) ≡ 0) where
    passes : Passes (trailer_tests t (end_of f))
    passes = first_of-passes (trailer_tests t (end_of f)) (lit< tt, (lit< tt, (lit< tt, tt))) h

    pub refused_rest : refusal_of f
        ≡ first_of (zero_test f (end_of f) (shape_of t) (body_of f) ∷ body_tests (shape_of t) (body_of f))
    refused_rest = tests ∙ first_of_++ (trailer_tests t (end_of f)) _ passes

    -- ── the body ──

    pub within : t.distance ≤ end_of f
    within =
        ltb-false (end_of f) t.distance (or_right (differ t.distance (size_of (shape_of t))) _ passes.1.1.0)

    distance_is : t.distance ≡ size_of (shape_of t)
    distance_is = alike _ _ (or_left (differ t.distance (size_of (shape_of t))) _ passes.1.1.0)

    pub body_is : take (end_of f - (end_of f - t.distance)) (drop (end_of f - t.distance) f) ≡ body_of f
    unfolding body_of
    body_is =
        let l = within in
        let e : end_of f - (end_of f - t.distance) ≡ t.distance = omega arith in rw (e, is)

    body-length : length (body_of f) ≡ t.distance
    unfolding body_of
    body-length = let l = within in
        rw (← is) (length-take-le t.distance (drop (end_of f - t.distance) f) (rw length-drop (omega arith)))

    pub sized : Sized (shape_of t) (body_of f)
    unfolding shape_of
    sized =
        let k = counted t passes.1.0 in
        record {
          holds = body-length ∙ distance_is;
          some_chart = k.some_chart;
          charts = k.charts;
          transitions = k.transitions;
          slaves = k.slaves;
          some_node = k.some_node;
          nodes = k.nodes;
        }

    -- the part that the code picks is the body
    module _ (n : Shape) (e : n ≡ shape_of t) where
      abbrev part : List ℕ
      part = take (end_of f - (end_of f - t.distance)) (drop (end_of f - t.distance) f)

      pub sized_part : Sized n part
      sized_part = rw (e, body_is) sized

      tested : first_of (zero_test f (end_of f) n part ∷ body_tests n part) ≡ refusal_of f
      tested =
          ap₂ (λ (m : Shape) (b : List ℕ). first_of (zero_test f (end_of f) m b ∷ body_tests m b)) e body_is
          ∙ sym refused_rest

      -- a refusal of the body is the file's
      pub refused_body : {r : ℕ} → r ≡ first_of (zero_test f (end_of f) n part ∷ body_tests n part) → r ≡ refusal_of f
      refused_body q = q ∙ tested

      -- a body with no refusal is opened
      pub opens : (o : Opening) → o.shape ≡ n → o.start ≡ end_of f - t.distance → o.body.now ≡ part
          → 0 ≡ first_of (zero_test f (end_of f) n part ∷ body_tests n part)
          → (refusal_of f ≡ 0) × Stands f o
      opens o es et eb q =
          let passes : refusal_of f ≡ 0 = sym (refused_body q) in
          let w : o.shape ≡ shape_of (trailer f) = es ∙ e ∙ ap shape_of is in
          let l = within in
          let k = body-length in (
            passes,
            record {
              shape = w;
              start = omega (arith, et, k, l);
              body = eb ∙ body_is;
              sized = rw (es, e) sized;
              summed = rw w (summed _ _ (passed f passes).charts);
            },
          )
