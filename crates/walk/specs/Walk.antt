-- The nodes and slaves of a chart that stands at a place of a text, laid down: what is written where there is room,
-- and where the text goes on. The meaning is `lay_chart` of the crate reading.
use Rattle.std.specs.Prelude.{◌≡◌, false, List, [], ◌∷◌, ◌++◌, ℕ, ◌+◌, ◌≤◌, ◌<◌, length, drop}
use Rattle.std.proofs.Math.Option.{Option}
use Rattle.layout.specs.Record.{slave_bytes, node_bytes}
use Rattle.layout.specs.declared.record.Slave.{Slave}
use Rattle.layout.specs.declared.record.Node.{Node}
use Rattle.layout.specs.Put.{Room, Put}
use Rattle.meaning.specs.Numbers.{most_nodes}
use Rattle.notation.specs.Syntax.{Signals, Sequential, Single, sequential, decomposed, hidden, Chart, single, composed}
use Rattle.notation.specs.Syntax.{Slaves, first_slave, more_slaves, depth, depth_slaves}
use Rattle.notation.specs.Grammar.{lpar, rpar, rbrace, sign, Tokens, of_sequential, of_chart, of_part, of_slaves, Text}
use Rattle.notation.specs.Grammar.{Spells}
use Rattle.reading.specs.Numbers.{most_depth, named_charts, named_states}
use Rattle.reading.specs.Names.{set?, optional?, name_of, names?}
use Rattle.reading.specs.Meant.{with_key, sorted_by, all, Laid, lay_slaves, chart_node, lay_single, lay_chart}
use Rattle.reading.specs.Meant.{placed, nodes_of}
use Rattle.tokens.specs.Tokens.{cap}
use Rattle.lists.specs.Laws.Found.{master_text, hidden_text, pair_text}
use Rattle.forms.specs.Forms.{NoBrace, Calm}
use Rattle.outline.specs.Outline.{part_depth}
use Rattle.walk.specs.declared.Cursor.{Cursor}

-- ── what is written ──

-- the number of the next node, the places of the next records of a node and of a slave, and the two buffers
pub record Sheet : Type 0 where
  pub node : ℕ
  pub at : ℕ
  pub slaves : ℕ
  pub out : List ℕ
  pub list : List ℕ

abbrev pub sheet : Cursor → List ℕ → List ℕ → Sheet
sheet c o l = record { node = c.node; at = c.at; slaves = c.slaves; out = o; list = l }

-- there is room for the nodes and slaves of p, and the nodes have numbers
pub record Fits (a : Sheet) (p : Laid) : Type 0 where
  pub few : a.node + length p.nodes ≤ most_nodes
  pub nodes : Room a.out a.at (all node_bytes p.nodes)
  pub slaves : Room a.list a.slaves (all slave_bytes p.slaves)

-- the nodes and slaves of p are written
pub record Adds (a b : Sheet) (p : Laid) : Type 0 where
  pub nodes : Put a.out a.at (all node_bytes p.nodes) b.out b.at
  pub slaves : Put a.list a.slaves (all slave_bytes p.slaves) b.list b.slaves
  pub counted : b.node ≡ a.node + length p.nodes

-- one node, one slave
abbrev pub one_node : Node → Laid
one_node n = record { nodes = n ∷ []; slaves = [] }

abbrev pub one_slave : Slave → Laid
one_slave s = record { nodes = []; slaves = s ∷ [] }

-- p is written where there is room for it, and the place in the text stays
pub record Writes (i j : ℕ) (a b : Sheet) (p : Laid) : Type 0 where
  pub stays : j ≡ i
  pub adds : Fits a p → Adds a b p

-- the node of a chart whose name as read is known
pub record WritesChart (i j name : ℕ) (a b : Sheet) : Type 0 where
  pub stays : j ≡ i
  pub adds : (s : Sequential) → name_of s < named_charts → name ≡ cap (name_of s) → Fits a (one_node (chart_node s))
      → Adds a b (one_node (chart_node s))

-- ── charts to which 52 does not apply, as far as their nodes ask it ──

unfoldable mutual
  pub DrawableSingle : Single → Type 0
  DrawableSingle (sequential s) = name_of s < named_charts
  DrawableSingle (decomposed s ps) = (name_of s < named_charts) × DrawableSlaves ps
  DrawableSingle (hidden x t y) = (optional? x ≡ false) × Drawable t × (optional? y ≡ false)

  pub Drawable : Chart → Type 0
  Drawable (single s) = DrawableSingle s
  Drawable (composed a x b) = Drawable a × (set? x ≡ false) × Drawable b

  pub DrawableSlaves : Slaves → Type 0
  DrawableSlaves (first_slave q t) = Drawable t
  DrawableSlaves (more_slaves ps q t) = DrawableSlaves ps × Drawable t

-- ── what stands at a place and is laid down ──

-- if the text goes on at i with the tokens us, and there is room for p, then p is written, and at j go on the tokens ts
abbrev pub Lays : List ℕ → ℕ → ℕ → Sheet → Sheet → Tokens → Tokens → Laid → Type 0
Lays w i j a b us ts p = Text us (drop i w) → Fits a p → Text ts (drop j w) × Adds a b p

module _ (w : List ℕ) where
  pub record SequentialAt (i j : ℕ) (a b : Sheet) : Type 0 where
    pub within : j ≤ length w
    pub gives : (s : Sequential) (ts : Tokens) → name_of s < named_charts
        → Lays w i j a b (of_sequential s ++ ts) ts (lay_single (sequential s) a.node)

  pub record ChartAt (left i j : ℕ) (a b : Sheet) : Type 0 where
    pub within : j ≤ length w
    pub gives : (t : Chart) (ts : Tokens) → Calm ts → depth t ≤ left → Drawable t
        → Lays w i j a b (of_chart t ++ ts) ts (lay_chart t a.node)

  -- a part of a composition
  pub record PartAt (left i j : ℕ) (a b : Sheet) : Type 0 where
    pub within : j ≤ length w
    pub gives : (t : Chart) (ts : Tokens) → NoBrace ts → part_depth t ≤ left → Drawable t
        → Lays w i j a b (of_part t ++ ts) ts (lay_chart t a.node)

  pub record HiddenAt (left i j : ℕ) (a b : Sheet) : Type 0 where
    pub within : j ≤ length w
    pub gives : (x : Option Signals) (t : Chart) (y : Option Signals) (ts : Tokens) → NoBrace ts → depth t ≤ left
        → DrawableSingle (hidden x t y) → Lays w i j a b (hidden_text x t y ts) ts (lay_single (hidden x t y) a.node)

  pub record BracketedAt (left i j : ℕ) (a b : Sheet) : Type 0 where
    pub within : j ≤ length w
    pub gives : (t : Chart) (ts : Tokens) → depth t ≤ left → Drawable t
        → Lays w i j a b (sign lpar ∷ (of_chart t ++ (sign rpar ∷ ts))) ts (lay_chart t a.node)

  pub record MasterAt (left i j : ℕ) (a b : Sheet) : Type 0 where
    pub within : j ≤ length w
    pub gives : (s : Sequential) (ps : Slaves) (ts : Tokens) → depth_slaves ps ≤ left
        → DrawableSingle (decomposed s ps)
        → Lays w i j a b (master_text s ps ts) ts (lay_single (decomposed s ps) a.node)

  -- the slaves of chart c, by state; those of one state; one of them, if it is of that state
  pub record SlavesAt (c left i j : ℕ) (a b : Sheet) : Type 0 where
    pub within : j ≤ length w
    pub gives : (ps : Slaves) (ts : Tokens) → depth_slaves ps ≤ left → DrawableSlaves ps
        → Lays w i j a b (of_slaves ps ++ (sign rbrace ∷ ts)) (sign rbrace ∷ ts)
        (lay_slaves c (sorted_by (λ p. p.at) named_states (placed ps)) a.node)

  pub record StateAt (c q left i j : ℕ) (a b : Sheet) : Type 0 where
    pub within : j ≤ length w
    pub gives : (ps : Slaves) (ts : Tokens) → depth_slaves ps ≤ left → DrawableSlaves ps
        → Lays w i j a b (of_slaves ps ++ (sign rbrace ∷ ts)) (sign rbrace ∷ ts)
        (lay_slaves c (with_key (λ p. p.at) q (placed ps)) a.node)

  pub record PairAt (c q left i j : ℕ) (a b : Sheet) : Type 0 where
    pub within : j ≤ length w
    pub onward : i ≤ j
    pub gives : (n : ℕ) (t : Chart) (ts : Tokens) → depth t ≤ left → Drawable t
        → Lays w i j a b (pair_text n t ts) ts
        (lay_slaves c (with_key (λ p. p.at) q (record { at = n; part = λ k. lay_chart t k } ∷ [])) a.node)

-- ── a text ──

-- where the text spells t, which is not too deep, to which 52 does not apply, and whose nodes can have numbers: if
-- there is room, its nodes are written at a place of one buffer, and its slaves, as they are met, at the beginning of
-- another
pub record TextLaid (w : List ℕ) (at : ℕ) (o l o' l' : List ℕ) (r : Cursor) : Type 0 where
  pub gives : (t : Chart) → Spells w t → depth t ≤ most_depth → names? t ≡ false → length (nodes_of t) ≤ most_nodes
      → Room o at (all node_bytes (nodes_of t)) → Room l 0 (all slave_bytes (lay_chart t 0).slaves)
      → Put o at (all node_bytes (nodes_of t)) o' r.at × Put l 0 (all slave_bytes (lay_chart t 0).slaves) l' r.slaves
