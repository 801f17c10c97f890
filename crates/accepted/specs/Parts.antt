-- What is shown of the file of a chart: its length, trailer and zero bytes (`Shaped`), its nodes one by one (`Formed`),
-- and what a run of nodes and slaves names and holds (`Whole`).
use Rattle.std.specs.Prelude.{◌≡◌, false, ◌&&◌, ◌||◌, List, [], ◌∷◌, ℕ, suc, ◌+◌, ◌^◌, ◌≤◌, ◌<◌, ltb, length}
use Rattle.layout.specs.declared.record.Slave.{Slave}
use Rattle.layout.specs.declared.record.Node.{Node}
use Rattle.meaning.specs.Sums.{one}
use Rattle.meaning.specs.Meaning.{Set, ∅, same}
use Rattle.meaning.specs.File.{end_of, trailer, body_of, shape_of}
use Rattle.meaning.specs.Check.{edition?, counts?, distance?, nonzero, zeros?}
use Rattle.reading.specs.Meant.{Laid, last_of}
use Rattle.outline.specs.Laws.Sorted.{Each, total}
use Rattle.faithful.specs.Laws.Back.{At}

-- ── 1 to 5 ──

-- what a file meets that 1 to 5 do not apply to
pub record Shaped (f : List ℕ) : Type 0 where
  pub long : 12 ≤ length f
  pub edition : edition? (trailer f) ≡ false
  pub counts : counts? (trailer f) ≡ false
  pub distance : distance? f ≡ false
  pub zeros : (nonzero f (end_of f + 10) 2 || zeros? (shape_of (trailer f)) (body_of f)) ≡ false

-- ── 9 ──

-- a node with the number j passes 9 in a file of n charts, and its sets are of 8 bytes
pub data Formed (n j : ℕ) : Node → Type 0 where
  holding : (c : ℕ) → c < n → Formed n j (record { kind = 0; a = c; b = 0; x = ∅; y = ∅ })
  joining : (a b : ℕ) (x : Set) → a < j → b < j → x < 256 ^ 8
      → Formed n j (record { kind = 1; a = a; b = b; x = x; y = ∅ })
  hiding : (a : ℕ) (x y : Set) → a < j → x < 256 ^ 8 → y < 256 ^ 8
      → Formed n j (record { kind = 2; a = a; b = 0; x = x; y = y })

-- each node does, and the first has the number k
unfoldable pub FormedFrom : ℕ → ℕ → List Node → Type 0
FormedFrom n k [] = Unit {0}
FormedFrom n k (r ∷ l) = Formed n k r × FormedFrom n (suc k) l

-- ── 10 ──

-- how often a node names node j
unfoldable pub names_by : ℕ → Node → ℕ
names_by j r =
    one (same r.kind 1 && same r.a j)
    + one (same r.kind 1 && same r.b j)
    + one (same r.kind 2 && same r.a j)

-- a node holds chart c
unfoldable pub holds_by : ℕ → Node → ℕ
holds_by c r = one (same r.kind 0 && same r.a c)

-- how often node j is named in a part
abbrev pub named_in : ℕ → Laid → ℕ
named_in j p = total (λ s. one (same s.node j)) p.slaves + total (names_by j) p.nodes

-- how many nodes of a part hold chart c
abbrev pub held_in : ℕ → Laid → ℕ
held_in c p = total (holds_by c) p.nodes

-- j is one of the first m numbers
abbrev pub under : ℕ → ℕ → ℕ
under m j = one (ltb j m)

-- some node that holds the slave's chart stands above its node, where the first has the number k
pub record Mastered (k : ℕ) (l : List Node) (s : Slave) : Type 0 where
  pub place : ℕ
  pub node : Node
  pub at : At l place node
  pub kind : node.kind ≡ 0
  pub chart : node.a ≡ s.chart
  pub lower : s.node < k + place

-- a part, where the first of its nodes has the number k, and f counts how often a chart is typed in it: each node but
-- the last is named once, and no other node is; each chart is held as often as it is typed; each slave has a master
pub record Whole (f : ℕ → ℕ) (k : ℕ) (p : Laid) : Type 0 where
  pub some : 0 < length p.nodes
  pub named : (j : ℕ) → named_in j p + under k j ≡ under (last_of k p) j
  pub held : (c : ℕ) → held_in c p ≡ f c
  pub mastered : Each (Mastered k p.nodes) p.slaves
