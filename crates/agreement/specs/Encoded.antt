-- A file written into bytes reads back, on all that is read. In this order: records in turn; transitions in turn; the
-- body's parts; the trailer; the file.
use Rattle.std.specs.Prelude.{◌≡◌, false}
use Rattle.std.proofs.Math.Path.{refl, sym, ap, ap₂, subst}
use Rattle.std.proofs.Common.{◌∙◌, mul-zero}
use Rattle.std.proofs.Math.Logic.{⊎_elim}
use mathlib.Core.List.{List, [], ◌∷◌, ◌++◌, append_assoc, append-nil}
use Prim.Native.Nat.{ℕ, zero, suc, ◌+◌, ◌*◌, ◌-◌, ◌^◌, ◌≤◌, ◌<◌}
use Rattle.std.proofs.Math.Nat.{mul-suc}
use native.Mathlib.Omega.{arith}
use Rattle.std.proofs.Math.ListN.{length, get_or, take, drop, length-append, get_or-append}
use Rattle.std.proofs.Math.Seq.{drop_at, take_at, drop-append-add, get_or-append-add, ext_get_or}
use Rattle.layout.specs.Record.{trailer_of, head_of, transition_of, slave_of, node_of, trailer_bytes, head_bytes}
use Rattle.layout.specs.Record.{transition_bytes, slave_bytes, node_bytes}
use Rattle.layout.specs.Record.Laws.{length-trailer, length-head, length-transition, length-slave, length_node}
use Rattle.layout.specs.Record.Laws.{trailer-back, head-back, transition-back, slave-back, node_back}
use Rattle.layout.specs.Body.{transitions_from, slaves_from, nodes_from, size_of, head_at, transition_at, slave_at}
use Rattle.layout.specs.Body.{node_at}
use Rattle.layout.specs.Body.{start_of, from, transitions_of}
use Rattle.layout.specs.Body.Laws.{length_from, get_or-from}
use Rattle.layout.specs.declared.body.Shape.{Shape}
use Rattle.layout.specs.declared.record.Trailer.{Trailer}
use Rattle.layout.specs.declared.record.Head.{Head}
use Rattle.layout.specs.declared.record.Transition.{Transition}
use Rattle.layout.specs.declared.record.Slave.{Slave}
use Rattle.layout.specs.declared.record.Node.{Node}
use Rattle.agreement.specs.Every.{Every, every-at}
use Rattle.meaning.specs.Numbers.{first_edition, stay_edition}
use Rattle.meaning.specs.Sums.{tally}
use Rattle.meaning.specs.Sums.Laws.{below_suc}
use Rattle.meaning.specs.Meaning.{∅, same}
use Rattle.meaning.specs.Laws.Bools.{same_≢}
use Rattle.meaning.specs.File.{File, end_of, trailer, body_of, shape_of, chart_of, file_at, file_of}
use Rattle.meaning.specs.Rewriting.{in_turn, head_for, transitions_bytes, transitions_in, shape_in, body_bytes, encode}

-- ── records in turn ──

module _ (w : ℕ) (f : ℕ → List ℕ) (h : (i : ℕ) → length (f i) ≡ w) where
  pub length-turn : (n : ℕ) → length (in_turn n f) ≡ w * n
  unfolding in_turn
  length-turn zero = sym (mul-zero w)
  length-turn (suc n) = length-append (in_turn n f) (f n) ∙ omega (arith, length-turn n, h n, mul-suc w n)

  -- record i stands at w * i
  pub turn_at : (n i : ℕ) (rest : List ℕ) → i < n → (r : List ℕ) × (drop (w * i) (in_turn n f ++ rest) ≡ f i ++ r)
  unfolding in_turn
  turn_at zero i rest l = absurd (omega arith)
  turn_at (suc n) i rest l = ⊎_elim
      (λ e. (
        rest,
        ap (drop (w * i)) (append_assoc (in_turn n f) (f n) rest)
            ∙ drop_at (in_turn n f) (f n ++ rest) (w * i) (length-turn n ∙ ap (λ z. w * z) (sym e))
            ∙ ap (λ z. f z ++ rest) (sym e),
      ))
      (λ m. let u = turn_at n i (f n ++ rest) m in
      (u.0, ap (drop (w * i)) (append_assoc (in_turn n f) (f n) rest) ∙ u.1)) (below_suc i n l)

-- ── transitions in turn ──

-- what stands past the last transition of a list
abbrev pub no_transition : Transition
no_transition = record { from = 0; to = 0; needed = ∅; barred = ∅; action = ∅ }

length_transitions : (ts : List Transition) → length (transitions_bytes ts) ≡ 28 * length ts
unfolding transitions_bytes
length_transitions [] = refl
length_transitions (t ∷ ts) =
    length-append (transition_bytes t) (transitions_bytes ts)
    ∙ omega (arith, length-transition t, length_transitions ts)

pub transitions_append : (a b : List Transition)
    → transitions_bytes (a ++ b) ≡ transitions_bytes a ++ transitions_bytes b
unfolding transitions_bytes
transitions_append [] b = refl
transitions_append (t ∷ a) b = ap (λ z. transition_bytes t ++ z) (transitions_append a b)
    ∙ sym (append_assoc (transition_bytes t) (transitions_bytes a) (transitions_bytes b))

-- transition k stands at 28 * k
transitions_at : (ts : List Transition) (k : ℕ) (rest : List ℕ) → k < length ts
    → (r : List ℕ) × (drop (28 * k) (transitions_bytes ts ++ rest) ≡ transition_bytes (get_or ts k no_transition) ++ r)
unfolding transitions_bytes
transitions_at [] k rest l = absurd (omega arith)
transitions_at (t ∷ ts) zero rest l =
    (transitions_bytes ts ++ rest, append_assoc (transition_bytes t) (transitions_bytes ts) rest)
transitions_at (t ∷ ts) (suc k) rest l = let u = transitions_at ts k rest (omega arith) in (
  u.0,
  ap (drop (28 * suc k)) (append_assoc (transition_bytes t) (transitions_bytes ts) rest)
      ∙ ap (λ n. drop n (transition_bytes t ++ (transitions_bytes ts ++ rest)))
      (let e : 28 * suc k ≡ length (transition_bytes t) + 28 * k = omega (arith, length-transition t) in e)
      ∙ drop-append-add (transition_bytes t) (transitions_bytes ts ++ rest) (28 * k) ∙ u.1,
)

module _ (ts : ℕ → List Transition) where
  -- those of all charts
  all : ℕ → List Transition
  all zero = []
  all (suc n) = all n ++ ts n

  length-all : (n : ℕ) → length (all n) ≡ tally n (λ c. length (ts c))
  unfolding all tally
  length-all zero = refl
  length-all (suc n) = length-append (all n) (ts n) ∙ omega (arith, length-all n)

  all-bytes : (n : ℕ) → in_turn n (λ c. transitions_bytes (ts c)) ≡ transitions_bytes (all n)
  unfolding in_turn all transitions_bytes
  all-bytes zero = refl
  all-bytes (suc n) = ap (λ z. z ++ transitions_bytes (ts n)) (all-bytes n) ∙ sym (transitions_append (all n) (ts n))

  -- those of chart c begin behind those of the charts before it
  all-at : (n c k : ℕ) → c < n → k < length (ts c)
      → (tally c (λ c. length (ts c)) + k < length (all n))
      × (get_or (all n) (tally c (λ c. length (ts c)) + k) no_transition ≡ get_or (ts c) k no_transition)
  unfolding all
  all-at zero c k l m = absurd (omega arith)
  all-at (suc n) c k l m = ⊎_elim
      (λ e. here c e k m)
      (λ m'. let u = all-at n c k m' m in (
        (let a = length-append (all n) (ts n) in let h = u.0 in omega arith),
        get_or-append (all n) (ts n) no_transition (tally c (λ c. length (ts c)) + k) u.0 ∙ u.1,
      )) (below_suc c n l)
    where
      here : (c : ℕ) → c ≡ n → (k : ℕ) → k < length (ts c)
          → (tally c (λ c. length (ts c)) + k < length (all n ++ ts n))
          × (get_or (all n ++ ts n) (tally c (λ c. length (ts c)) + k) no_transition ≡ get_or (ts c) k no_transition)
      here c e k m = rw e (
        (let a = length-append (all n) (ts n) in let b = length-all n in
            let m' : k < length (ts n) = subst (λ c. k < length (ts c)) e m in
            omega arith),
        ap (λ z. get_or (all n ++ ts n) (z + k) no_transition) (sym (length-all n))
            ∙ get_or-append-add (all n) (ts n) k no_transition,
      )

-- ── the body ──

-- k past the first of two lists
pub past : (p q : List ℕ) (m k : ℕ) → length p ≡ m → drop (m + k) (p ++ q) ≡ drop k q
past p q m k e = ap (λ z. drop (z + k) (p ++ q)) (sym e) ∙ drop-append-add p q k

-- a transition's sets are of 8 bytes
abbrev pub Small : Transition → Type 0
Small t = (t.needed < 256 ^ 8) × (t.barred < 256 ^ 8) × (t.action < 256 ^ 8)

-- what a file written into bytes is asked for: numbers and sets within their widths, and edition 1
pub record Fits (F : File) : Type 0 where
  pub heads : (c : ℕ) → c < F.charts → ((F.chart c).feedback < 256 ^ 8) × ((F.chart c).extra < 256 ^ 8)
  pub lists : (c : ℕ) → c < F.charts → Every Small (F.chart c).transitions
  pub sets : (j : ℕ) → j < F.nodes → (F.x j < 256 ^ 8) × (F.y j < 256 ^ 8)
  pub size : size_of (shape_in F) < 256 ^ 4
  pub total : transitions_in F < 256 ^ 2
  pub one : (c : ℕ) → c < F.charts → (F.chart c).stays ≡ false

module _ (F : File) where
  -- records by number, and a chart's transitions
  abbrev pub slave_in : ℕ → Slave
  slave_in i = record { chart = F.master i; state = F.state i; node = F.node i }

  abbrev pub node_in : ℕ → Node
  node_in j = record { kind = F.kind j; a = F.a j; b = F.b j; x = F.x j; y = F.y j }

  abbrev list_of : ℕ → List Transition
  list_of c = (F.chart c).transitions

  -- the four parts
  abbrev hs : List ℕ
  hs = in_turn F.charts (λ c. head_bytes (head_for (F.chart c)))

  abbrev rs : List ℕ
  rs = in_turn F.charts (λ c. transitions_bytes (F.chart c).transitions)

  abbrev ss : List ℕ
  ss = in_turn F.slaves (λ i. slave_bytes (slave_in i))

  abbrev ns : List ℕ
  ns = in_turn F.nodes (λ j. node_bytes (node_in j))

  length-hs : length hs ≡ 24 * F.charts
  length-hs =
      length-turn 24 (λ c. head_bytes (head_for (F.chart c))) (λ c. length-head (head_for (F.chart c))) F.charts

  length-rs : length rs ≡ 28 * transitions_in F
  unfolding transitions_in
  length-rs = ap length (all-bytes list_of F.charts) ∙ length_transitions (all list_of F.charts)
      ∙ ap (λ z. 28 * z) (length-all list_of F.charts)

  length-ss : length ss ≡ 4 * F.slaves
  length-ss = length-turn 4 (λ i. slave_bytes (slave_in i)) (λ i. length-slave (slave_in i)) F.slaves

  length-ns : length ns ≡ 20 * F.nodes
  length-ns = length-turn 20 (λ j. node_bytes (node_in j)) (λ j. length_node (node_in j)) F.nodes

  pub length-body : length (body_bytes F) ≡ size_of (shape_in F)
  unfolding body_bytes shape_in
  length-body = length-append ((hs ++ rs) ++ ss) ns
      ∙ omega (arith, length-append (hs ++ rs) ss, length-append hs rs, length-hs, length-rs, length-ss, length-ns)

  -- what stands at a place of each part
  pub head_there : (c : ℕ) → c < F.charts
      → (r : List ℕ) × (drop (24 * c) (body_bytes F) ≡ head_bytes (head_for (F.chart c)) ++ r)
  unfolding body_bytes
  head_there c l =
      let u = turn_at 24 (λ c. head_bytes (head_for (F.chart c))) (λ c. length-head (head_for (F.chart c))) F.charts c
      (rs ++ (ss ++ ns)) l in
      (u.0, ap (drop (24 * c)) (append_assoc (hs ++ rs) ss ns ∙ append_assoc hs rs (ss ++ ns)) ∙ u.1)

  -- transition t, counted through all charts
  place_there : (t : ℕ) → t < length (all list_of F.charts)
      → (r : List ℕ) × (drop (transitions_from (shape_in F) + 28 * t) (body_bytes F)
      ≡ transition_bytes (get_or (all list_of F.charts) t no_transition) ++ r)
  unfolding body_bytes shape_in
  place_there t l = let u = transitions_at (all list_of F.charts) t (ss ++ ns) l in (
    u.0,
    ap (drop (24 * F.charts + 28 * t)) (append_assoc (hs ++ rs) ss ns ∙ append_assoc hs rs (ss ++ ns))
        ∙ past hs (rs ++ (ss ++ ns)) (24 * F.charts) (28 * t) length-hs
        ∙ ap (λ z. drop (28 * t) (z ++ (ss ++ ns))) (all-bytes list_of F.charts) ∙ u.1,
  )

  pub some_transition_there : (t : ℕ) → t < transitions_in F
      → (u : Transition) × (r : List ℕ)
      × (drop (transitions_from (shape_in F) + 28 * t) (body_bytes F) ≡ transition_bytes u ++ r)
  unfolding transitions_in
  some_transition_there t l = let u = place_there t (let e = length-all list_of F.charts in omega arith) in
      (get_or (all list_of F.charts) t no_transition, u.0, u.1)

  pub transition_there : (c k : ℕ) → c < F.charts → k < length (F.chart c).transitions
      → (r : List ℕ)
      × (drop (transitions_from (shape_in F) + 28 * (tally c (λ c. length (F.chart c).transitions) + k)) (body_bytes F)
      ≡ transition_bytes (get_or (F.chart c).transitions k no_transition) ++ r)
  transition_there c k l m = let v = all-at list_of F.charts c k l m in
      let u = place_there (tally c (λ c. length (F.chart c).transitions) + k) v.0 in
      (u.0, u.1 ∙ ap (λ z. transition_bytes z ++ u.0) v.1)

  pub slave_there : (i : ℕ) → i < F.slaves
      → (r : List ℕ) × (drop (slaves_from (shape_in F) + 4 * i) (body_bytes F) ≡ slave_bytes (slave_in i) ++ r)
  unfolding body_bytes shape_in
  slave_there i l =
      let u = turn_at 4 (λ i. slave_bytes (slave_in i)) (λ i. length-slave (slave_in i)) F.slaves i ns l in (
        u.0,
        ap (drop (24 * F.charts + 28 * transitions_in F + 4 * i)) (append_assoc (hs ++ rs) ss ns)
            ∙ past (hs ++ rs) (ss ++ ns) (24 * F.charts + 28 * transitions_in F) (4 * i)
            (length-append hs rs ∙ omega (arith, length-hs, length-rs))
            ∙ u.1,
      )

  pub node-there : (j : ℕ) → j < F.nodes
      → (r : List ℕ) × (drop (nodes_from (shape_in F) + 20 * j) (body_bytes F) ≡ node_bytes (node_in j) ++ r)
  unfolding body_bytes shape_in
  node-there j l = let u = turn_at 20 (λ j. node_bytes (node_in j)) (λ j. length_node (node_in j)) F.nodes j [] l in (
    u.0,
    past ((hs ++ rs) ++ ss) ns (24 * F.charts + 28 * transitions_in F + 4 * F.slaves) (20 * j)
        (length-append (hs ++ rs) ss ∙ omega (arith, length-append hs rs, length-hs, length-rs, length-ss))
        ∙ ap (drop (20 * j)) (sym (append-nil ns))
        ∙ u.1,
  )

  -- the trailer behind the body
  abbrev pub trailer_for : Trailer
  trailer_for = record {
    distance = size_of (shape_in F);
    charts = F.charts;
    slaves = F.slaves;
    nodes = F.nodes;
    edition = first_edition;
    transitions = transitions_in F;
  }

  pub length-encode : length (encode F) ≡ size_of (shape_in F) + 12
  unfolding encode
  length-encode =
      length-append (body_bytes F) (trailer_bytes trailer_for) ∙ omega (arith, length-body, length-trailer trailer_for)

  pub end_is : end_of (encode F) ≡ size_of (shape_in F)
  end_is = omega (arith, length-encode)

  pub trailer_there : drop (end_of (encode F)) (encode F) ≡ trailer_bytes trailer_for
  unfolding encode
  trailer_there = drop_at (body_bytes F) (trailer_bytes trailer_for) (end_of (encode F)) (length-body ∙ sym end_is)

module _ (F : File) (ft : Fits F) where
  abbrev n : Shape
  n = shape_in F

  abbrev b : List ℕ
  b = body_bytes F

  pub head_is : (c : ℕ) → c < F.charts → head_at n b c ≡ head_for (F.chart c)
  unfolding head_at head_for
  head_is c l = let u = head_there F c l in
      ap head_of u.1 ∙ head-back (head_for (F.chart c)) u.0 (ft.heads c l).0 (ft.heads c l).1

  pub start_is : (c : ℕ) → c ≤ F.charts → start_of n b c ≡ tally c (λ c. length (F.chart c).transitions)
  unfolding start_of tally head_for
  start_is zero l = refl
  start_is (suc c) l = let h = ap (λ z. z.transitions) (head_is c (omega arith)) in
      let g = start_is c (omega arith) in omega arith

  pub transition_is : (c k : ℕ) → c < F.charts → k < length (F.chart c).transitions
      → transition_at n b (start_of n b c + k) ≡ get_or (F.chart c).transitions k no_transition
  unfolding transition_at
  transition_is c k l m = let u = transition_there F c k l m in
      let f = every-at Small (F.chart c).transitions k no_transition m (ft.lists c l) in
      ap (λ z. transition_of (drop (transitions_from n + 28 * (z + k)) b)) (start_is c (omega arith))
      ∙ ap transition_of u.1
      ∙ transition-back (get_or (F.chart c).transitions k no_transition) u.0 f.0 f.1 f.2

  pub list_is : (c : ℕ) → c < F.charts → transitions_of n b c ≡ (F.chart c).transitions
  unfolding transitions_of head_for
  list_is c l = ap (λ z. from (transition_at n b) (start_of n b c) z.transitions) (head_is c l)
      ∙ ext_get_or no_transition (from (transition_at n b) (start_of n b c) (length ts)) ts
      (length_from (transition_at n b) (start_of n b c) (length ts))
      (λ k m.
      let m' : k < length ts = subst (λ z. k < z) (length_from (transition_at n b) (start_of n b c) (length ts)) m in
      get_or-from (transition_at n b) (start_of n b c) (length ts) k no_transition m' ∙ transition_is c k l m')
    where
      ts : List Transition
      ts = (F.chart c).transitions

  pub slave_is : (i : ℕ) → i < F.slaves → slave_at n b i ≡ slave_in F i
  unfolding slave_at
  slave_is i l = let u = slave_there F i l in ap slave_of u.1 ∙ slave-back (slave_in F i) u.0

  pub node_is : (j : ℕ) → j < F.nodes → node_at n b j ≡ node_in F j
  unfolding node_at
  node_is j l = let u = node-there F j l in
      ap node_of u.1 ∙ node_back (node_in F j) u.0 (ft.sets j l).0 (ft.sets j l).1

  pub chart-back : (c : ℕ) → c < F.charts → chart_of n b c ≡ F.chart c
  unfolding chart_of head_for shape_in
  chart-back c l = ap₂ (λ (h : Head) (ts : List Transition).
      record {
        states = h.states;
        initial = h.initial;
        transitions = ts;
        feedback = h.feedback;
        extra = h.extra;
        stays = same first_edition stay_edition;
      })
      (head_is c l) (list_is c l)
      ∙ ap (λ x. record {
        states = (F.chart c).states;
        initial = (F.chart c).initial;
        transitions = (F.chart c).transitions;
        feedback = (F.chart c).feedback;
        extra = (F.chart c).extra;
        stays = x;
      }) (same_≢ first_edition stay_edition (λ z. omega arith) ∙ sym (ft.one c l))

  -- ── the trailer and the file ──

  pub trailer_is : trailer (encode F) ≡ trailer_for F
  unfolding trailer
  trailer_is = ap trailer_of (trailer_there F ∙ sym (append-nil (trailer_bytes (trailer_for F))))
      ∙ trailer-back (trailer_for F) [] ft.size ft.total

  pub body_is : body_of (encode F) ≡ body_bytes F
  unfolding body_of encode
  body_is = ap (λ t. take t.distance (drop (end_of (encode F) - t.distance) (encode F))) trailer_is
      ∙ ap (λ z. take (size_of (shape_in F)) (drop z (encode F)))
      (let e = end_is F in let z : end_of (encode F) - size_of (shape_in F) ≡ 0 = omega arith in z)
      ∙ take_at (body_bytes F) (trailer_bytes (trailer_for F)) (size_of (shape_in F)) (length-body F)

  pub shape_is : shape_of (trailer (encode F)) ≡ shape_in F
  unfolding shape_of shape_in
  shape_is = ap shape_of trailer_is

  pub file_is : file_of (encode F) ≡ file_at (shape_in F) (body_bytes F)
  unfolding file_of
  file_is = ap₂ file_at shape_is body_is
