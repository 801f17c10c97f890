-- The bytes of a file that passes 1 to 11, read and written again, are its body and trailer. In this order: numbers;
-- records; records in turn; the body; the file.
use Rattle.std.specs.Prelude.{◌≡◌, false, ◌||◌, length}
use Rattle.std.proofs.Math.Path.{refl, sym, ap, ap₂}
use Rattle.std.proofs.Common.{◌∙◌, add-zero, mul-zero, mul-suc, take-add, drop-drop, ext_get_or, get_or-take}
use mathlib.Core.List.{List, [], ◌∷◌, ◌++◌}
use Prim.Native.Nat.{ℕ, zero, suc, ◌+◌, ◌*◌, ◌-◌, ◌/◌, ◌%◌, ◌≤◌, ◌<◌}
use native.Mathlib.Omega.{arith}
use borrow.Author.Tests.{ltb-false}
use Rattle.std.proofs.Math.Arith.{digits_mod, digits_div}
use Rattle.std.proofs.Math.ListN.{get_or, take, drop, length-drop, take-append-drop}
use Rattle.std.proofs.Math.Seq.{get_or-drop, length-take-le, take_all}
use Rattle.layout.specs.Le.{le, bytes, AllBytes}
use Rattle.layout.specs.Le.Laws.{bytes_drop}
use Rattle.layout.specs.Record.{trailer_of, head_of, transition_of, slave_of, node_of, trailer_bytes, head_bytes}
use Rattle.layout.specs.Record.{transition_bytes, slave_bytes, node_bytes}
use Rattle.layout.specs.Body.{transitions_from, slaves_from, nodes_from, size_of, head_at, transition_at, slave_at}
use Rattle.layout.specs.Body.{node_at}
use Rattle.layout.specs.Body.{start_of, from, transitions_of}
use Rattle.layout.specs.Body.Laws.{length_from, get_or-from, start_of_mono}
use Rattle.layout.specs.declared.body.Shape.{Shape}
use Rattle.layout.specs.declared.record.Transition.{Transition}
use Rattle.meaning.specs.Numbers.{first_edition}
use Rattle.meaning.specs.Sums.{any_up_to, tally}
use Rattle.meaning.specs.Sums.Laws.{or_left, or_right, any-never}
use Rattle.meaning.specs.File.{File, end_of, trailer, body_of, shape_of, chart_of, file_at, file_of}
use Rattle.meaning.specs.Check.{differ, nonzero, zeros?, distance?}
use Rattle.meaning.specs.Rewriting.{in_turn, head_for, transitions_bytes, transitions_in, shape_in, body_bytes, encode}
use Rattle.meaning.specs.Check.Laws.{alike, Passed, summed}
use Rattle.agreement.specs.Passed.{body_bytes_lem}

-- ── numbers ──

bytes_le : (n : ℕ) (s : List ℕ) → n ≤ length s → AllBytes s → bytes n (le n s) ≡ take n s
unfolding bytes le
bytes_le zero s l h = refl
bytes_le (suc n) [] l h = absurd (omega arith)
bytes_le (suc n) (x ∷ s) l h =
    ap₂ (λ a b. a ∷ bytes n b) (ap (λ z. z % 256) turn ∙ digits_mod (le n s) (h 0))
    (ap (λ z. z / 256) turn ∙ digits_div (le n s) (h 0))
    ∙ ap (λ z. x ∷ z) (bytes_le n s (omega arith) (λ i. h (suc i)))
  where
    turn : x + le n s * 256 ≡ le n s * 256 + x
    turn = omega arith

-- n bytes from place k on
bytes-at : (n k : ℕ) (s : List ℕ) → k + n ≤ length s → AllBytes s → bytes n (le n (drop k s)) ≡ take n (drop k s)
bytes-at n k s l h = bytes_le n (drop k s) (let e = length-drop k s in omega arith) (bytes_drop k s h)

-- ── records ──

take-from : (n : ℕ) (s : List ℕ) → n ≤ length s → take n s ≡ from (λ i. get_or s i 0) 0 n
take-from n s l =
    ext_get_or 0 (take n s) (from (λ i. get_or s i 0) 0 n)
    (length-take-le n s l ∙ sym (length_from (λ i. get_or s i 0) 0 n))
    (λ i m. let m' : i < n = (let e = length-take-le n s l in omega arith) in get_or-take n s i 0 m'
    ∙ sym (get_or-from (λ i. get_or s i 0) 0 n i 0 m' ∙ ap (λ z. get_or s z 0) (let e : 0 + i ≡ i = omega arith in e)))

module _ (s : List ℕ) (h : AllBytes s) where
  head_again : 24 ≤ length s → ((i : ℕ) → i < 5 → get_or s (3 + i) 0 ≡ 0) → head_bytes (head_of s) ≡ take 24 s
  unfolding head_bytes head_of from
  head_again l z = ap₂ ◌++◌
      (ap₂ ◌++◌ (front ∙ sym (take-from 8 s (omega arith))) (bytes-at 8 8 s (omega arith) h) ∙ sym (take-add 8 8 s))
      (bytes-at 8 16 s (omega arith) h) ∙ sym (take-add 16 8 s)
    where
      front : (get_or s 0 0 ∷ get_or s 1 0 ∷ get_or s 2 0 ∷ 0 ∷ 0 ∷ 0 ∷ 0 ∷ 0 ∷ []) ≡ from (λ i. get_or s i 0) 0 8
      front = λ i. get_or s 0 0 ∷ get_or s 1 0 ∷ get_or s 2 0 ∷ sym (z 0 (omega arith)) i ∷ sym (z 1 (omega arith)) i
          ∷ sym (z 2 (omega arith)) i
          ∷ sym (z 3 (omega arith)) i ∷ sym (z 4 (omega arith)) i ∷ []

  transition_again : 28 ≤ length s → ((i : ℕ) → i < 2 → get_or s (2 + i) 0 ≡ 0)
      → transition_bytes (transition_of s) ≡ take 28 s
  unfolding transition_bytes transition_of from
  transition_again l z =
      ap₂ ◌++◌ (ap₂ ◌++◌ (ap₂ ◌++◌ (front ∙ sym (take-from 4 s (omega arith))) (bytes-at 8 4 s (omega arith) h)
      ∙ sym (take-add 4 8 s)) (bytes-at 8 12 s (omega arith) h) ∙ sym (take-add 12 8 s))
      (bytes-at 8 20 s (omega arith) h) ∙ sym (take-add 20 8 s)
    where
      front : (get_or s 0 0 ∷ get_or s 1 0 ∷ 0 ∷ 0 ∷ []) ≡ from (λ i. get_or s i 0) 0 4
      front = λ i. get_or s 0 0 ∷ get_or s 1 0 ∷ sym (z 0 (omega arith)) i ∷ sym (z 1 (omega arith)) i ∷ []

  slave_again : 4 ≤ length s → ((i : ℕ) → i < 1 → get_or s (3 + i) 0 ≡ 0) → slave_bytes (slave_of s) ≡ take 4 s
  unfolding slave_bytes slave_of from
  slave_again l z = front ∙ sym (take-from 4 s l)
    where
      front : (get_or s 0 0 ∷ get_or s 1 0 ∷ get_or s 2 0 ∷ 0 ∷ []) ≡ from (λ i. get_or s i 0) 0 4
      front = λ i. get_or s 0 0 ∷ get_or s 1 0 ∷ get_or s 2 0 ∷ sym (z 0 (omega arith)) i ∷ []

  node_again : 20 ≤ length s → ((i : ℕ) → i < 1 → get_or s (3 + i) 0 ≡ 0) → node_bytes (node_of s) ≡ take 20 s
  unfolding node_bytes node_of from
  node_again l z = ap₂ ◌++◌
      (ap₂ ◌++◌ (front ∙ sym (take-from 4 s (omega arith))) (bytes-at 8 4 s (omega arith) h) ∙ sym (take-add 4 8 s))
      (bytes-at 8 12 s (omega arith) h) ∙ sym (take-add 12 8 s)
    where
      front : (get_or s 0 0 ∷ get_or s 1 0 ∷ get_or s 2 0 ∷ 0 ∷ []) ≡ from (λ i. get_or s i 0) 0 4
      front = λ i. get_or s 0 0 ∷ get_or s 1 0 ∷ get_or s 2 0 ∷ sym (z 0 (omega arith)) i ∷ []

  trailer_again : length s ≡ 12 → ((i : ℕ) → i < 2 → get_or s (10 + i) 0 ≡ 0) → trailer_bytes (trailer_of s) ≡ s
  unfolding trailer_bytes trailer_of from
  trailer_again l z =
      ap₂ ◌++◌ (ap₂ (λ a c. a ++ (get_or s 4 0 ∷ get_or s 5 0 ∷ get_or s 6 0 ∷ get_or s 7 0 ∷ c))
      (bytes_le 4 s (omega arith) h)
      (bytes-at 2 8 s (omega arith) h) ∙ middle)
      (back ∙ sym (take-from 2 (drop 10 s) (let e = length-drop 10 s in omega arith)))
      ∙ sym (take-add 10 2 s) ∙ take_all 12 s (omega arith)
    where
      four : take 4 (drop 4 s) ≡ (get_or s 4 0 ∷ get_or s 5 0 ∷ get_or s 6 0 ∷ get_or s 7 0 ∷ [])
      four = take-from 4 (drop 4 s) (let e = length-drop 4 s in omega arith)
          ∙ (λ i. get_or-drop 4 s 0 0 i ∷ get_or-drop 4 s 1 0 i ∷ get_or-drop 4 s 2 0 i ∷ get_or-drop 4 s 3 0 i ∷ [])

      middle : take 4 s ++ (get_or s 4 0 ∷ get_or s 5 0 ∷ get_or s 6 0 ∷ get_or s 7 0 ∷ take 2 (drop 8 s)) ≡ take 10 s
      middle = ap (λ z. take 4 s ++ (z ++ take 2 (drop 8 s))) (sym four)
          ∙ ap (λ z. take 4 s ++ (take 4 (drop 4 s) ++ take 2 z)) (sym (drop-drop 4 4 s))
          ∙ ap (λ z. take 4 s ++ z) (sym (take-add 4 2 (drop 4 s)))
          ∙ sym (take-add 4 6 s)

      back : (0 ∷ 0 ∷ []) ≡ from (λ i. get_or (drop 10 s) i 0) 0 2
      back = λ i. sym (get_or-drop 10 s 0 0 ∙ z 0 (omega arith)) i
          ∷ sym (get_or-drop 10 s 1 0 ∙ z 1 (omega arith)) i ∷ []

-- ── records in turn ──

turn_again : (w at : ℕ) (s : List ℕ) (f : ℕ → List ℕ) (n : ℕ) → ((i : ℕ) → i < n → f i ≡ take w (drop (at + w * i) s))
    → in_turn n f ≡ take (w * n) (drop at s)
unfolding in_turn
turn_again w at s f zero h = ap (λ z. take z (drop at s)) (sym (mul-zero w))
turn_again w at s f (suc n) h =
    ap₂ ◌++◌ (turn_again w at s f n (λ i l. h i (omega arith)))
    (h n (omega arith) ∙ ap (take w) (sym (drop-drop (w * n) at s)))
    ∙ sym (take-add (w * n) w (drop at s)) ∙ ap (λ z. take z (drop at s)) (sym (mul-suc w n))

list_again : (at : ℕ) (s : List ℕ) (f : ℕ → Transition) (k n : ℕ)
    → ((i : ℕ) → i < n → transition_bytes (f (k + i)) ≡ take 28 (drop (at + 28 * (k + i)) s))
    → transitions_bytes (from f k n) ≡ take (28 * n) (drop (at + 28 * k) s)
unfolding transitions_bytes from
list_again at s f k zero h = refl
list_again at s f k (suc n) h = ap₂ ◌++◌
    (ap (λ z. transition_bytes (f z)) (sym (add-zero k)) ∙ h 0 (omega arith)
    ∙ ap (λ z. take 28 (drop (at + 28 * z) s)) (add-zero k))
    (list_again at s f (suc k) n
    (λ i l. ap (λ z. transition_bytes (f z)) (let e : suc k + i ≡ k + suc i = omega arith in e)
    ∙ h (suc i) (omega arith)
    ∙ ap (λ z. take 28 (drop (at + 28 * z) s)) (let e : k + suc i ≡ suc k + i = omega arith in e))
    ∙ ap (take (28 * n)) (ap (λ z. drop z s) (let e : at + 28 * suc k ≡ (at + 28 * k) + 28 = omega arith in e)
    ∙ sym (drop-drop 28 (at + 28 * k) s)))
    ∙ sym (take-add 28 (28 * n) (drop (at + 28 * k) s))
    ∙ ap (λ z. take z (drop (at + 28 * k) s)) (let e : 28 + 28 * n ≡ 28 * suc n = omega arith in e)

-- ── the body ──

zero_of : (s : List ℕ) (at k m : ℕ) → nonzero s (at + k) m ≡ false → (i : ℕ) → i < m → get_or (drop at s) (k + i) 0 ≡ 0
unfolding nonzero
zero_of s at k m h i l =
    get_or-drop at s (k + i) 0 ∙ ap (λ z. get_or s z 0) (let e : at + (k + i) ≡ at + k + i = omega arith in e)
    ∙ alike (get_or s (at + k + i) 0) 0 (any-never m (λ i. differ (get_or s (at + k + i) 0) 0) h i l)

module _ (f : List ℕ) (p : Passed f) (ab : AllBytes f) (one : (trailer f).edition ≡ first_edition) where
  abbrev n : Shape
  n = shape_of (trailer f)

  abbrev b : List ℕ
  b = body_of f

  abbrev F : File
  F = file_at n b

  bb : AllBytes b
  bb = body_bytes_lem f p ab

  distance_is : (trailer f).distance ≡ size_of n
  unfolding distance?
  distance_is = alike _ _ (or_left _ _ p.distance)

  distance_most : (trailer f).distance ≤ end_of f
  unfolding distance?
  distance_most =
      ltb-false (end_of f) (trailer f).distance (or_right (differ (trailer f).distance (size_of n)) _ p.distance)

  long : 12 ≤ length f
  long = p.long

  length-b : length b ≡ size_of n
  unfolding body_of
  length-b = length-take-le (trailer f).distance (drop (end_of f - (trailer f).distance) f)
      (let e = length-drop (end_of f - (trailer f).distance) f in let m = distance_most in let l = long in omega arith)
      ∙ distance_is

  -- the four parts of 5
  abbrev zeros : zeros? n b ≡ false
  zeros = or_right (nonzero f (end_of f + 10) 2) (zeros? n b) p.zeros

  pub list_length : (c : ℕ) → length (transitions_of n b c) ≡ (head_at n b c).transitions
  unfolding transitions_of
  list_length c = length_from (transition_at n b) (start_of n b c) (head_at n b c).transitions

  total : start_of n b n.charts ≡ n.transitions
  total = summed n b p.charts

  count_is : (k : ℕ) → tally k (λ c. length (transitions_of n b c)) ≡ start_of n b k
  unfolding tally start_of
  count_is zero = refl
  count_is (suc k) = let a = count_is k in let e = list_length k in omega arith

  transitions_are : transitions_in F ≡ n.transitions
  unfolding transitions_in file_at chart_of
  transitions_are = count_is n.charts ∙ total

  heads_again : in_turn n.charts (λ c. head_bytes (head_for (chart_of n b c))) ≡ take (24 * n.charts) (drop 0 b)
  unfolding head_for chart_of head_at zeros?
  heads_again = turn_again 24 0 b (λ c. head_bytes (head_for (chart_of n b c))) n.charts (λ c l.
      ap (λ k. head_bytes (record {
        states = (head_at n b c).states;
        initial = (head_at n b c).initial;
        transitions = k;
        feedback = (head_at n b c).feedback;
        extra = (head_at n b c).extra;
      })) (list_length c)
      ∙ head_again (drop (24 * c) b) (bytes_drop (24 * c) b bb)
      (let e = length-drop (24 * c) b in let g = length-b in omega arith)
      (zero_of b (24 * c) 3 5
      (any-never n.charts (λ c. nonzero b (24 * c + 3) 5) (or_left _ _ (or_left _ _ (or_left _ _ zeros))) c l))
      ∙ ap (λ z. take 24 (drop z b)) (let e : 24 * c ≡ 0 + 24 * c = omega arith in e))

  transition-at : (k : ℕ) → k < n.transitions
      → transition_bytes (transition_at n b k) ≡ take 28 (drop (transitions_from n + 28 * k) b)
  unfolding transition_at zeros?
  transition-at k l =
      transition_again (drop (transitions_from n + 28 * k) b) (bytes_drop (transitions_from n + 28 * k) b bb)
      (let e = length-drop (transitions_from n + 28 * k) b in let g = length-b in omega arith)
      (zero_of b (transitions_from n + 28 * k) 2 2
      (any-never n.transitions (λ t. nonzero b (transitions_from n + 28 * t + 2) 2)
      (or_right (any_up_to n.charts (λ c. nonzero b (24 * c + 3) 5)) _ (or_left _ _ (or_left _ _ zeros))) k l))

  runs_again : (k : ℕ) → k ≤ n.charts
      → in_turn k (λ c. transitions_bytes (transitions_of n b c))
      ≡ take (28 * start_of n b k) (drop (transitions_from n) b)
  unfolding in_turn start_of transitions_of
  runs_again zero l = refl
  runs_again (suc k) l = ap₂ ◌++◌ (runs_again k (omega arith))
      (list_again (transitions_from n) b (transition_at n b) (start_of n b k) (head_at n b k).transitions
      (λ i m. transition-at (start_of n b k + i)
      (let a = start_of_mono n b k n.charts l in let t = total in omega arith))
      ∙ ap (take (28 * (head_at n b k).transitions)) (sym (drop-drop (28 * start_of n b k) (transitions_from n) b)))
      ∙ sym (take-add (28 * start_of n b k) (28 * (head_at n b k).transitions) (drop (transitions_from n) b))
      ∙ ap (λ z. take z (drop (transitions_from n) b))
      (let e : 28 * start_of n b k + 28 * (head_at n b k).transitions
      ≡ 28 * (start_of n b k + (head_at n b k).transitions) =
      omega arith in e)

  slaves_again : in_turn n.slaves (λ i. slave_bytes (slave_at n b i)) ≡ take (4 * n.slaves) (drop (slaves_from n) b)
  unfolding slave_at zeros?
  slaves_again = turn_again 4 (slaves_from n) b (λ i. slave_bytes (slave_at n b i)) n.slaves (λ i l.
      slave_again (drop (slaves_from n + 4 * i) b) (bytes_drop (slaves_from n + 4 * i) b bb)
      (let e = length-drop (slaves_from n + 4 * i) b in let g = length-b in omega arith)
      (zero_of b (slaves_from n + 4 * i) 3 1 (any-never n.slaves (λ i. nonzero b (slaves_from n + 4 * i + 3) 1)
      (or_right (any_up_to n.charts (λ c. nonzero b (24 * c + 3) 5)
      || any_up_to n.transitions (λ t. nonzero b (transitions_from n + 28 * t + 2) 2)) _ (or_left _ _ zeros)) i l)))

  nodes_again : in_turn n.nodes (λ j. node_bytes (node_at n b j)) ≡ take (20 * n.nodes) (drop (nodes_from n) b)
  unfolding node_at zeros?
  nodes_again = turn_again 20 (nodes_from n) b (λ j. node_bytes (node_at n b j)) n.nodes (λ j l.
      node_again (drop (nodes_from n + 20 * j) b) (bytes_drop (nodes_from n + 20 * j) b bb)
      (let e = length-drop (nodes_from n + 20 * j) b in let g = length-b in omega arith)
      (zero_of b (nodes_from n + 20 * j) 3 1 (any-never n.nodes (λ j. nonzero b (nodes_from n + 20 * j + 3) 1)
      (or_right (any_up_to n.charts (λ c. nonzero b (24 * c + 3) 5)
      || any_up_to n.transitions (λ t. nonzero b (transitions_from n + 28 * t + 2) 2)
      || any_up_to n.slaves (λ i. nonzero b (slaves_from n + 4 * i + 3) 1)) _ zeros) j l)))

  body_again : body_bytes F ≡ b
  unfolding body_bytes file_at chart_of
  body_again = ap₂ ◌++◌ (ap₂ ◌++◌ (ap₂ ◌++◌ heads_again
      (runs_again n.charts (omega arith) ∙ ap (λ z. take (28 * z) (drop (transitions_from n) b)) total)
      ∙ sym (take-add (24 * n.charts) (28 * n.transitions) b))
      slaves_again ∙ sym (take-add (slaves_from n) (4 * n.slaves) b))
      nodes_again ∙ sym (take-add (nodes_from n) (20 * n.nodes) b)
      ∙ take_all (size_of n) b (let e = length-b in omega arith)

  -- ── the file ──

  shape_again : shape_in F ≡ n
  unfolding shape_in file_at shape_of
  shape_again = λ i. record {
    charts = n.charts;
    transitions = transitions_are i;
    slaves = n.slaves;
    nodes = n.nodes;
    edition = sym one i;
  }

  trailer_here : trailer_bytes (trailer f) ≡ drop (end_of f) f
  unfolding trailer
  trailer_here = trailer_again (drop (end_of f) f) (bytes_drop (end_of f) f ab)
      (let e = length-drop (end_of f) f in let l = long in omega arith)
      (zero_of f (end_of f) 10 2 (or_left _ _ p.zeros))

  trailer-same : record {
    distance = size_of n;
    charts = n.charts;
    slaves = n.slaves;
    nodes = n.nodes;
    edition = first_edition;
    transitions = n.transitions;
  } ≡ trailer f
  unfolding shape_of
  trailer-same = λ i. record {
    distance = sym distance_is i;
    charts = (trailer f).charts;
    slaves = (trailer f).slaves;
    nodes = (trailer f).nodes;
    edition = sym one i;
    transitions = (trailer f).transitions;
  }

  front : b ++ drop (end_of f) f ≡ drop (end_of f - (trailer f).distance) f
  unfolding body_of
  front = ap (λ z. b ++ drop z f)
      (let m =
      distance_most in let e : end_of f ≡ (end_of f - (trailer f).distance) + (trailer f).distance = omega arith in e)
      ∙ ap (λ z. b ++ z) (sym (drop-drop (trailer f).distance (end_of f - (trailer f).distance) f))
      ∙ take-append-drop (trailer f).distance (drop (end_of f - (trailer f).distance) f)

  -- the body and the trailer, without the front
  pub encode_again : encode (file_of f) ≡ drop (end_of f - (trailer f).distance) f
  unfolding encode file_of shape_in
  encode_again = ap₂ (λ s x. x ++ trailer_bytes (record {
    distance = size_of s;
    charts = s.charts;
    slaves = s.slaves;
    nodes = s.nodes;
    edition = first_edition;
    transitions = s.transitions;
  })) shape_again body_again
      ∙ ap (λ t. b ++ trailer_bytes t) trailer-same ∙ ap (λ z. b ++ z) trailer_here ∙ front
