-- A chart file (RULES 2): its records by number, the tree of its nodes, and the file that bytes hold.
use Rattle.std.specs.Prelude.{Bool, false, ◌||◌, cond, List, ℕ, zero, suc, ◌-◌, length, take, drop}
use Rattle.layout.specs.Record.{trailer_of}
use Rattle.layout.specs.Body.{head_at, transitions_of, slave_at, node_at}
use Rattle.layout.specs.declared.body.Shape.{Shape}
use Rattle.layout.specs.declared.record.Trailer.{Trailer}
use Rattle.meaning.specs.Numbers.{stay_edition}
use Rattle.meaning.specs.Meaning.{Set, same, Chart, Tree, Slaves, leaf, comp, hide, dec, nil, snoc}

-- ── records by number ──

-- the fields of charts, slaves and nodes, by the number of the record (RULES 2.3 to 2.6)
pub record File : Type 0 where
  pub charts : ℕ
  pub chart : ℕ → Chart
  pub slaves : ℕ
  pub master : ℕ → ℕ  -- a slave's chart
  pub state : ℕ → ℕ  -- its state
  pub node : ℕ → ℕ  -- its node
  pub nodes : ℕ
  pub kind : ℕ → ℕ
  pub a : ℕ → ℕ
  pub b : ℕ → ℕ
  pub x : ℕ → Set
  pub y : ℕ → Set

-- ── the tree ──

-- one of three trees, by a node's kind (RULES 2.6)
abbrev pub by_kind : ℕ → Tree → Tree → Tree → Tree
by_kind zero p q r = p
by_kind (suc zero) p q r = q
by_kind (suc (suc k)) p q r = r

-- the tree of a node that holds chart c: decomposed if c is a master, a leaf if it has no slaves (RULES 2.7)
abbrev pub whole : ℕ → Slaves → Tree
whole c nil = leaf c
whole c (snoc ss i t) = dec c (snoc ss i t)

-- the slaves of chart c among the first k records, with their trees (RULES 2.5)
unfoldable pub gather : (ℕ → ℕ) → (ℕ → Tree) → ℕ → ℕ → Slaves
gather master g c zero = nil
gather master g c (suc i) = cond (same (master i) c) (snoc (gather master g c i) i (g i)) (gather master g c i)

module _ (F : File) where
  -- the tree of node j (RULES 2.7), down to a depth; each node names lower ones, so a depth of j + 1 is all of it
  unfoldable pub build : ℕ → ℕ → Tree
  build zero j = leaf zero
  build (suc f) j =
      by_kind (F.kind j) (whole (F.a j) (gather F.master (λ i. build f (F.node i)) (F.a j) F.slaves))
      (comp (build f (F.a j)) (build f (F.b j)) (F.x j)) (hide (build f (F.a j)) (F.x j) (F.y j))

  -- all of the tree of node j
  unfoldable pub tree_of : ℕ → Tree
  tree_of j = build (suc j) j

  -- the whole: the tree of the node with the highest number (RULES 2.7)
  abbrev pub whole_of : Tree
  whole_of = tree_of (F.nodes - 1)

-- chart c is in the tree, at any depth, also inside slaves (RULES 2.7)
unfoldable mutual
  pub Has : Tree → ℕ → Bool
  Has (leaf d) c = same c d
  Has (comp p q x) c = Has p c || Has q c
  Has (hide p x y) c = Has p c
  Has (dec d ss) c = same c d || HasS ss c

  pub HasS : Slaves → ℕ → Bool
  HasS nil c = false
  HasS (snoc ss i t) c = Has t c || HasS ss c

-- ── the file that bytes hold ──

-- where the trailer begins, 12 bytes before the end (RULES 2.1)
abbrev pub end_of : List ℕ → ℕ
end_of f = length f - 12

-- the trailer (RULES 2.2)
unfoldable pub trailer : List ℕ → Trailer
trailer f = trailer_of (drop (end_of f) f)

-- the body: directly before the trailer, as long as the distance (RULES 2.1, 2.2)
unfoldable pub body_of : List ℕ → List ℕ
body_of f = take (trailer f).distance (drop (end_of f - (trailer f).distance) f)

-- a body's counts and edition, from the trailer (RULES 2.2)
unfoldable pub shape_of : Trailer → Shape
shape_of t = record {
  charts = t.charts;
  transitions = t.transitions;
  slaves = t.slaves;
  nodes = t.nodes;
  edition = t.edition;
}

-- chart c of a body: its record (RULES 2.3), its transitions (RULES 2.4), and whether its edition lets it stay (RULES
-- 7.1)
unfoldable pub chart_of : Shape → List ℕ → ℕ → Chart
chart_of n b c =
    record {
      states = (head_at n b c).states;
      initial = (head_at n b c).initial;
      transitions = transitions_of n b c;
      feedback = (head_at n b c).feedback;
      extra = (head_at n b c).extra;
      stays = same n.edition stay_edition;
    }

-- the file that a body holds (RULES 2.3 to 2.6)
unfoldable pub file_at : Shape → List ℕ → File
file_at n b =
    record {
      charts = n.charts;
      chart = chart_of n b;
      slaves = n.slaves;
      master = λ i. (slave_at n b i).chart;
      state = λ i. (slave_at n b i).state;
      node = λ i. (slave_at n b i).node;
      nodes = n.nodes;
      kind = λ j. (node_at n b j).kind;
      a = λ j. (node_at n b j).a;
      b = λ j. (node_at n b j).b;
      x = λ j. (node_at n b j).x;
      y = λ j. (node_at n b j).y;
    }

-- the file that bytes hold; the front is not read (RULES 2.1)
unfoldable pub file_of : List ℕ → File
file_of f = file_at (shape_of (trailer f)) (body_of f)
