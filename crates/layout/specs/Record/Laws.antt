-- Laws of the records of a chart file, in this order: how long each is in bytes; what is written reads back, whatever
-- comes after it; the same in a slice; a file has the edition that it was given; the fields of a record that is read
-- from bytes are below their widths.
use Rattle.std.specs.Prelude.{◌≡◌, refl, List, ◌++◌, ℕ, ◌+◌, ◌-◌, ◌^◌, ◌≤◌, ◌<◌, length, drop, get_or, set}
use Rattle.std.proofs.Common.{ap, ◌∙◌, arith, length-set, get_or-drop, get_or-set_same}
use Rattle.std.proofs.lemmas.List.Edits.{sets}
use Rattle.layout.specs.Le.{le, bytes, AllBytes}
use Rattle.layout.specs.Le.Laws.{le_lt, le-bytes-append, bytes_drop, drop-sets}
use Rattle.layout.specs.Record.{trailer_of, head_of, transition_of, slave_of, node_of}
use Rattle.layout.specs.Record.{trailer_bytes, head_bytes, transition_bytes, slave_bytes, node_bytes, with_edition}
use Rattle.layout.specs.declared.record.Trailer.{Trailer}
use Rattle.layout.specs.declared.record.Head.{Head}
use Rattle.layout.specs.declared.record.Transition.{Transition}
use Rattle.layout.specs.declared.record.Slave.{Slave}
use Rattle.layout.specs.declared.record.Node.{Node}

-- ---- length

pub length-trailer : (r : Trailer) → length (trailer_bytes r) ≡ 12
unfolding bytes trailer_bytes
length-trailer r = refl

pub length-head : (r : Head) → length (head_bytes r) ≡ 24
unfolding bytes head_bytes
length-head r = refl

pub length-transition : (r : Transition) → length (transition_bytes r) ≡ 28
unfolding bytes transition_bytes
length-transition r = refl

pub length-slave : (r : Slave) → length (slave_bytes r) ≡ 4
unfolding slave_bytes
length-slave r = refl

pub length_node : (r : Node) → length (node_bytes r) ≡ 20
unfolding bytes node_bytes
length_node r = refl

-- ---- what is written reads back: of a byte by computing, of a longer number by `le-bytes-append`

pub trailer-back : (r : Trailer) (rest : List ℕ) → r.distance < 256 ^ 4 → r.transitions < 256 ^ 2
    → trailer_of (trailer_bytes r ++ rest) ≡ r
unfolding bytes trailer_of trailer_bytes
trailer-back r rest d t =
    let past : ℕ → List ℕ = λ k. drop k (trailer_bytes r ++ rest) in
    λ i. record {
      distance = le-bytes-append 4 r.distance (past 4) d i;
      charts = r.charts;
      slaves = r.slaves;
      nodes = r.nodes;
      edition = r.edition;
      transitions = le-bytes-append 2 r.transitions (past 10) t i;
    }

pub head-back : (r : Head) (rest : List ℕ) → r.feedback < 256 ^ 8 → r.extra < 256 ^ 8
    → head_of (head_bytes r ++ rest) ≡ r
unfolding bytes head_of head_bytes
head-back r rest f e =
    let past : ℕ → List ℕ = λ k. drop k (head_bytes r ++ rest) in
    λ i. record {
      states = r.states;
      initial = r.initial;
      transitions = r.transitions;
      feedback = le-bytes-append 8 r.feedback (past 16) f i;
      extra = le-bytes-append 8 r.extra (past 24) e i;
    }

pub transition-back : (r : Transition) (rest : List ℕ) → r.needed < 256 ^ 8 → r.barred < 256 ^ 8 → r.action < 256 ^ 8
    → transition_of (transition_bytes r ++ rest) ≡ r
unfolding bytes transition_of transition_bytes
transition-back r rest n b a =
    let past : ℕ → List ℕ = λ k. drop k (transition_bytes r ++ rest) in
    λ i. record {
      from = r.from;
      to = r.to;
      needed = le-bytes-append 8 r.needed (past 12) n i;
      barred = le-bytes-append 8 r.barred (past 20) b i;
      action = le-bytes-append 8 r.action (past 28) a i;
    }

pub slave-back : (r : Slave) (rest : List ℕ) → slave_of (slave_bytes r ++ rest) ≡ r
unfolding slave_of slave_bytes
slave-back r rest = refl

pub node_back : (r : Node) (rest : List ℕ) → r.x < 256 ^ 8 → r.y < 256 ^ 8 → node_of (node_bytes r ++ rest) ≡ r
unfolding bytes node_of node_bytes
node_back r rest x y =
    let past : ℕ → List ℕ = λ k. drop k (node_bytes r ++ rest) in
    λ i. record {
      kind = r.kind;
      a = r.a;
      b = r.b;
      x = le-bytes-append 8 r.x (past 12) x i;
      y = le-bytes-append 8 r.y (past 20) y i;
    }

-- ---- the same of a record that is written into a slice, for any kind of record
pub put_back : {A : Type 0} (of : List ℕ → A) (r : A) (xs : List ℕ) → ((rest : List ℕ) → of (xs ++ rest) ≡ r)
    → (s : List ℕ) (at : ℕ) → at + length xs ≤ length s → of (drop at (sets s at xs)) ≡ r
put_back of r xs back s at h = ap of (drop-sets s at xs h) ∙ back (drop (at + length xs) s)

-- ---- a file has the edition that it was given
pub edition_is : (e : ℕ) (f : List ℕ) → 12 ≤ length f
    → (let g = with_edition e f in (trailer_of (drop (length g - 12) g)).edition ≡ e)
unfolding trailer_of with_edition
edition_is e f long =
    let at = (length f - 12) + 7 in
    let g = set f at e in
    get_or-drop (length g - 12) g 7 0
    ∙ ap (λ k. get_or g ((k - 12) + 7) 0) (length-set f at e)
    ∙ get_or-set_same f at e 0 (omega arith)

-- ---- a record's fields are below their widths
pub record TrailerFits (r : Trailer) : Type 0 where
  pub distance : r.distance < 256 ^ 4
  pub charts : r.charts < 256
  pub slaves : r.slaves < 256
  pub nodes : r.nodes < 256
  pub edition : r.edition < 256
  pub transitions : r.transitions < 256 ^ 2

pub record HeadFits (r : Head) : Type 0 where
  pub states : r.states < 256
  pub initial : r.initial < 256
  pub transitions : r.transitions < 256
  pub feedback : r.feedback < 256 ^ 8
  pub extra : r.extra < 256 ^ 8

pub record TransitionFits (r : Transition) : Type 0 where
  pub from : r.from < 256
  pub to : r.to < 256
  pub needed : r.needed < 256 ^ 8
  pub barred : r.barred < 256 ^ 8
  pub action : r.action < 256 ^ 8

pub record SlaveFits (r : Slave) : Type 0 where
  pub chart : r.chart < 256
  pub state : r.state < 256
  pub node : r.node < 256

pub record NodeFits (r : Node) : Type 0 where
  pub kind : r.kind < 256
  pub a : r.a < 256
  pub b : r.b < 256
  pub x : r.x < 256 ^ 8
  pub y : r.y < 256 ^ 8

-- ---- those of a record that is read from bytes are
module _ (s : List ℕ) (h : AllBytes s) where
  -- a number of n bytes from place k on
  le-fits : (n k : ℕ) → le n (drop k s) < 256 ^ n
  le-fits n k = le_lt n (drop k s) (bytes_drop k s h)

  pub trailer-fits : TrailerFits (trailer_of s)
  unfolding trailer_of
  trailer-fits =
      record {
        distance = le-fits 4 0;
        charts = h 4;
        slaves = h 5;
        nodes = h 6;
        edition = h 7;
        transitions = le-fits 2 8;
      }

  pub head-fits : HeadFits (head_of s)
  unfolding head_of
  head-fits = record { states = h 0; initial = h 1; transitions = h 2; feedback = le-fits 8 8; extra = le-fits 8 16 }

  pub transition-fits : TransitionFits (transition_of s)
  unfolding transition_of
  transition-fits =
      record { from = h 0; to = h 1; needed = le-fits 8 4; barred = le-fits 8 12; action = le-fits 8 20 }

  pub slave-fits : SlaveFits (slave_of s)
  unfolding slave_of
  slave-fits = record { chart = h 0; state = h 1; node = h 2 }

  pub node_fits : NodeFits (node_of s)
  unfolding node_of
  node_fits = record { kind = h 0; a = h 1; b = h 2; x = le-fits 8 4; y = le-fits 8 12 }
