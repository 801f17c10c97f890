-- The file of a chart has the form of a file: 1 to 5 do not apply to it, if 3 does not apply to its counts
-- (`shape_passes`).
use Rattle.std.specs.Prelude.{◌≡◌, refl, false, ℕ, ◌+◌, ◌*◌, ◌≤◌, ◌<◌, length}
use Rattle.std.proofs.Math.Path.{sym, ap}
use Rattle.std.proofs.Common.{ap₂, ◌∙◌, arith, le-ltb, drop_at}
use mathlib.Core.List.{[], append-nil}
use Rattle.std.proofs.Math.ListN.{length-append}
use Rattle.layout.specs.Record.{trailer_bytes, head_bytes, transition_bytes, slave_bytes, node_bytes}
use Rattle.layout.specs.Record.Laws.{length-trailer, length-head, length-transition, length-slave, length_node}
use Rattle.layout.specs.Body.{size_of, transitions_from, slaves_from, nodes_from}
use Rattle.meaning.specs.Numbers.{first_edition}
use Rattle.meaning.specs.Sums.Laws.{any-all}
use Rattle.meaning.specs.File.{end_of, trailer, shape_of}
use Rattle.meaning.specs.Check.{edition?, counts?, distance?, nonzero, zeros?}
use Rattle.meaning.specs.Check.Laws.{counted, neither}
use Rattle.agreement.specs.Again.{equal, head_zero, transition_zero, slave_zero, node_zero, trailer_zero}
use Rattle.agreement.specs.Again.{zeros-at}
use Rattle.notation.specs.Syntax.{Chart}
use Rattle.reading.specs.Meant.{head_for, transition_for, charts_of, transitions_of, slaves_of, nodes_of, body_for}
use Rattle.reading.specs.Meant.{trailer_for, file_for}
use Rattle.reading.specs.Laws.Body.{length-body}
use Rattle.faithful.specs.Laws.Back.{shape_for, end_is, trailer-back_is, body_back, head_there, transition_there}
use Rattle.faithful.specs.Laws.Back.{slave_there, node-there}
use Rattle.faithful.proofs.Laws.Charts.{at_place}
use Rattle.accepted.specs.Parts.{Shaped}

module _ (t : Chart) where
  -- ── zero bytes ──

  heads_zero : (c : ℕ) → c < length (charts_of t) → nonzero (body_for t) (24 * c + 3) 5 ≡ false
  heads_zero c l =
      let a = at_place (charts_of t) c l in
      let u = head_there t c a.0 a.1 in
      zeros-at (body_for t) (head_bytes (head_for a.0)) u.0 (24 * c) 3 5 u.1
      (omega (arith, length-head (head_for a.0))) (head_zero (head_for a.0))

  lines_zero : (k : ℕ) → k < length (transitions_of t)
      → nonzero (body_for t) (transitions_from (shape_for t) + 28 * k + 2) 2 ≡ false
  lines_zero k l =
      let a = at_place (transitions_of t) k l in
      let u = transition_there t k a.0 a.1 in
      zeros-at (body_for t) (transition_bytes (transition_for a.0)) u.0 (transitions_from (shape_for t) + 28 * k) 2 2
      u.1 (omega (arith, length-transition (transition_for a.0))) (transition_zero (transition_for a.0))

  slaves_zero : (i : ℕ) → i < length (slaves_of t)
      → nonzero (body_for t) (slaves_from (shape_for t) + 4 * i + 3) 1 ≡ false
  slaves_zero i l =
      let a = at_place (slaves_of t) i l in
      let u = slave_there t i a.0 a.1 in
      zeros-at (body_for t) (slave_bytes a.0) u.0 (slaves_from (shape_for t) + 4 * i) 3 1 u.1
      (omega (arith, length-slave a.0)) (slave_zero a.0)

  nodes_zero : (j : ℕ) → j < length (nodes_of t)
      → nonzero (body_for t) (nodes_from (shape_for t) + 20 * j + 3) 1 ≡ false
  nodes_zero j l =
      let a = at_place (nodes_of t) j l in
      let u = node-there t j a.0 a.1 in
      zeros-at (body_for t) (node_bytes a.0) u.0 (nodes_from (shape_for t) + 20 * j) 3 1 u.1
      (omega (arith, length_node a.0)) (node_zero a.0)

  body-zeros : zeros? (shape_for t) (body_for t) ≡ false
  unfolding zeros? shape_of trailer_for
  body-zeros =
      neither _ _
      (neither _ _
      (neither _ _ (any-all (length (charts_of t)) _ heads_zero) (any-all (length (transitions_of t)) _ lines_zero))
      (any-all (length (slaves_of t)) _ slaves_zero))
      (any-all (length (nodes_of t)) _ nodes_zero)

  trailer-zeros : nonzero (file_for t) (end_of (file_for t) + 10) 2 ≡ false
  unfolding file_for
  trailer-zeros =
      let s = trailer_bytes (trailer_for t) in
      zeros-at (file_for t) s [] (end_of (file_for t)) 10 2
      (drop_at (body_for t) s (end_of (file_for t)) (sym (end_is t)) ∙ sym (append-nil s))
      (omega (arith, length-trailer (trailer_for t))) (trailer_zero (trailer_for t))

  -- ── all of it ──

  long_enough : 12 ≤ length (file_for t)
  unfolding file_for
  long_enough = omega (
    arith,
    length-append (body_for t) (trailer_bytes (trailer_for t)),
    length-trailer (trailer_for t),
  )

  first_edition_lem : edition? (trailer_for t) ≡ false
  unfolding edition? trailer_for
  first_edition_lem = rw (equal first_edition first_edition refl)

  module _ (c : counts? (trailer_for t) ≡ false) where
    abbrev back : trailer (file_for t) ≡ trailer_for t
    back = trailer-back_is t (counted (trailer_for t) c)

    distance_is : (trailer (file_for t)).distance ≡ length (body_for t)
    unfolding trailer_for
    distance_is = ap (λ r. r.distance) back

    distance_fits : distance? (file_for t) ≡ false
    unfolding distance?
    distance_fits =
        neither _ _ (equal _ _ (distance_is ∙ length-body t ∙ ap (λ r. size_of (shape_of r)) (sym back)))
        (le-ltb (end_of (file_for t)) (trailer (file_for t)).distance (omega (arith, end_is t, distance_is)))

    pub shape_passes : Shaped (file_for t)
    shape_passes =
        record {
          long = long_enough;
          edition = ap edition? back ∙ first_edition_lem;
          counts = ap counts? back ∙ c;
          distance = distance_fits;
          zeros =
              neither _ _ trailer-zeros
              (ap₂ (λ r b. zeros? (shape_of r) b) back (body_back t (counted (trailer_for t) c)) ∙ body-zeros);
        }
