-- What a file is that passes 1 to 11, as far as the rewriting assumes it: that it passes (`passes`); transitions
-- between states; sets of 64 signals; all that the theorem on steps assumes (`ready`).
use Rattle.std.specs.Prelude.{◌≡◌, ℕ, ◌+◌, ◌-◌, ◌^◌, ◌<◌, length, get_or, take}
use Rattle.std.proofs.Common.{sym, subst, arith, le-ltb, length-take, get_or-take}
use Rattle.std.proofs.Math.Bool.{false}
use mathlib.Core.List.{List, [], ◌∷◌}
use Rattle.std.proofs.Math.Decide.{dec_lt}
use Rattle.std.proofs.Math.Dec.{lit<}
use Rattle.std.proofs.Math.ListN.{get_or-eq_default}
use Rattle.signals.specs.Mask.{◌∪◌}
use Rattle.signals.specs.Mask.Laws.{union_lt}
use Rattle.layout.specs.Le.{AllBytes}
use Rattle.layout.specs.Le.Laws.{bytes_drop}
use Rattle.layout.specs.Body.{head_at, transition_at, start_of, transitions_of}
use Rattle.layout.specs.Body.Laws.{length_from, head_at-fits, transition_at-fits, node_at-fits}
use Rattle.layout.specs.declared.body.Shape.{Shape}
use Rattle.layout.specs.declared.record.Transition.{Transition}
use Rattle.meaning.specs.Sums.{any_up_to}
use Rattle.meaning.specs.Sums.Laws.{or_left, or_right, any-never}
use Rattle.meaning.specs.Meaning.{guards, actions}
use Rattle.meaning.specs.File.{end_of, trailer, body_of, shape_of, chart_of, file_at, file_of}
use Rattle.meaning.specs.Check.{not_below, ends?, transitions?, file_tests, refusal_of}
use Rattle.meaning.specs.Check.Nodes.{sound}
use Rattle.meaning.specs.Check.Laws.{below, all_pass, Passed, counted, charted}
use Rattle.meaning.specs.Numbers.{first_edition}
use Rattle.meaning.specs.Rewriting.{used}
use Rattle.meaning.proofs.Laws.Editions.{one_stays}
use Rattle.agreement.specs.Every.{Every, every-from, every_imp}
use Rattle.agreement.specs.Encoded.{Small}
use Rattle.agreement.specs.Free.{union_small}
use Rattle.agreement.specs.Step.{Ready}

-- the converse of `passed`
pub passes : (f : List ℕ) → Passed f → refusal_of f ≡ 0
unfolding refusal_of file_tests file_of
passes f p = all_pass (file_tests f) (
  le-ltb (length f) 12 p.long,
  (
    p.edition,
    (
      p.counts,
      (p.distance, (p.zeros, (p.charts, (p.transitions, (p.slaves, (p.nodes, (p.naming, (p.inside, tt)))))))),
    ),
  ),
)

module _ (f : List ℕ) (p : Passed f) where
  abbrev n : Shape
  n = shape_of (trailer f)

  abbrev b : List ℕ
  b = body_of f

  -- ── transitions ──

  -- from and to are the chart's states
  pub ended : (c : ℕ) → c < n.charts
      → Every (λ t. (t.from < (head_at n b c).states) × (t.to < (head_at n b c).states)) (transitions_of n b c)
  unfolding transitions? ends? transitions_of
  ended c l = every-from (λ t. (t.from < (head_at n b c).states) × (t.to < (head_at n b c).states)) (transition_at n b)
      (start_of n b c)
      (head_at n b c).transitions
      (λ k m. let q = any-never (head_at n b c).transitions (ends? n b c) all k m in (
        below _ _ (or_left _ _ q),
        below _ _ (or_right (not_below (transition_at n b (start_of n b c + k)).from (head_at n b c).states) _ q),
      ))
    where
      all : any_up_to (head_at n b c).transitions (ends? n b c) ≡ false
      all = or_left (any_up_to (head_at n b c).transitions (ends? n b c)) _ (any-never n.charts _ p.transitions c l)

  -- ── sets ──

  module _ (ab : AllBytes f) where
    bytes_take : (k : ℕ) (s : List ℕ) → AllBytes s → AllBytes (take k s)
    bytes_take k s h i = go (dec_lt i k)
      where
        go : Dec (i < k) → get_or (take k s) i 0 < 256
        go (yes l) = subst (λ z. z < 256) (sym (get_or-take k s i 0 l)) (h i)
        go (no l) = subst (λ z. z < 256)
            (sym (get_or-eq_default (take k s) 0 {n = i} (let e = length-take k s in omega arith))) (lit< tt)

    pub body_bytes_lem : AllBytes (body_of f)
    unfolding body_of
    body_bytes_lem = bytes_take (trailer f).distance _ (bytes_drop (end_of f - (trailer f).distance) f ab)

    pub smalls : (c : ℕ) → Every Small (transitions_of n b c)
    unfolding transitions_of
    smalls c = every-from Small (transition_at n b) (start_of n b c) (head_at n b c).transitions
        (λ k m. let h = transition_at-fits n b body_bytes_lem (start_of n b c + k) in (h.needed, h.barred, h.action))

    guards-small : (ts : List Transition) → Every Small ts → guards ts < 2 ^ 64
    unfolding guards
    guards-small [] h = lit< tt
    guards-small (t ∷ ts) h =
        union_lt 64 (t.needed ∪ t.barred) (guards ts) (union_lt 64 t.needed t.barred h.0.0 h.0.1)
        (guards-small ts h.1)

    actions-small : (ts : List Transition) → Every Small ts → actions ts < 2 ^ 64
    unfolding actions
    actions-small [] h = lit< tt
    actions-small (t ∷ ts) h = union_lt 64 t.action (actions ts) h.0.2 (actions-small ts h.1)

    pub used-small : used (file_of f) < 2 ^ 64
    unfolding used file_of file_at chart_of
    used-small = union_lt 64 _ _
        (union_small n.charts _ (λ c l. let h = head_at-fits n b body_bytes_lem c in
        union_lt 64 _ _ (union_lt 64 _ _ (union_lt 64 _ _ (guards-small _ (smalls c)) (actions-small _ (smalls c)))
        h.feedback) h.extra))
        (union_small n.nodes _ (λ j l. let h = node_at-fits n b body_bytes_lem j in union_lt 64 _ _ h.x h.y))

    -- ── all of it ──

    -- of an edition 1 file
    pub ready : (trailer f).edition ≡ first_edition → Ready (file_of f)
    unfolding file_of file_at chart_of shape_of transitions_of
    ready one = record {
      sound = sound (file_of f) p.slaves p.nodes p.naming p.inside;
      some_node = (counted (trailer f) p.counts).some_node;
      some_state = λ c l. (charted n b p.charts c l).some_state;
      ends = λ c l. every_imp (λ t. (t.from < (head_at n b c).states) × (t.to < (head_at n b c).states))
          (λ t. t.to < (head_at n b c).states)
          (λ t h. h.1) (transitions_of n b c) (ended c l);
      few = λ c l. let h = (charted n b p.charts c l).transitions in
          let g = (charted n b p.charts c l).states in
          let e = length_from (transition_at n b) (start_of n b c) (head_at n b c).transitions in omega arith;
      small = used-small;
      one = λ c l. one_stays f one c;
    }
