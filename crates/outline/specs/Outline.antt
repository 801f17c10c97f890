-- What is read of the outline of a chart: if the text goes on at a place with the tokens of a chart and then with
-- others, the answer says whether the chart is deeper than it may be; if not, it is what is told of the chart, and the
-- others go on behind it. Where nothing says so, the tokens behind a chart may be any that may stand there.
use Rattle.std.specs.Prelude.{◌≡◌, Bool, ◌||◌, not, List, ◌∷◌, ◌++◌, ℕ, suc, ◌+◌, ◌≤◌, ltb, length, drop}
use Rattle.std.specs.Prelude.{Result, is_err, IfOk}
use Rattle.notation.specs.Syntax.{Chart, single, composed, Slaves, first_slave, larger, depth, depth_slaves}
use Rattle.notation.specs.Grammar.{rbrace, sign, Tokens, of_chart, of_part, of_slaves, Text, Spells}
use Rattle.reading.specs.Numbers.{most_depth}
use Rattle.reading.specs.Names.{any, sequential?, sequentials_of, parts?}
use Rattle.tokens.specs.Tokens.{cap}
use Rattle.lists.specs.Lists.{lacks}
use Rattle.lists.specs.Laws.Found.{pair_text}
use Rattle.forms.specs.declared.Form.{Form}
use Rattle.forms.specs.Forms.{form_of, NoBrace, Calm}
use Rattle.outline.specs.declared.Outline.{Outline}
use Rattle.outline.specs.declared.TooDeep.{TooDeep}
use Rattle.outline.specs.Tree.{Told, told, told_slaves, nodes_in, slaves_in}

-- ── outlines joined ──

-- r is p and q, which stand side by side; b tells whether what joins them is bad
pub record Joins (p : Outline) (b : Bool) (q r : Outline) : Type 0 where
  pub is_depth : r.depth ≡ larger p.depth q.depth
  pub is_bad : r.bad ≡ (p.bad || (b || q.bad))
  pub is_nodes : r.nodes ≡ cap (p.nodes + q.nodes)
  pub is_slaves : r.slaves ≡ cap (p.slaves + q.slaves)
  pub is_next : r.next ≡ q.next

-- o is the composition of p and q, and not too deep
pub record Composed (left : ℕ) (p : Outline) (b : Bool) (q o : Outline) : Type 0 where
  pub small : o.depth ≤ left
  pub is_next : o.next ≡ q.next
  pub is_depth : o.depth ≡ larger p.depth q.depth + 1
  pub is_bad : o.bad ≡ (p.bad || (b || q.bad))
  pub is_nodes : o.nodes ≡ cap (cap (p.nodes + q.nodes) + 1)
  pub is_slaves : o.slaves ≡ cap (p.slaves + q.slaves)

-- r is the composition of p and q, unless that is too deep
pub record Composes (left : ℕ) (p : Outline) (b : Bool) (q : Outline) (r : Result Outline TooDeep) : Type 0 where
  pub is_deep : is_err r ≡ not (ltb (larger p.depth q.depth) left)
  pub is : IfOk r (Composed left p b q)

-- ── what is read ──

-- r is s, behind which the tokens ts go on
pub record Reads (w : List ℕ) (r : Outline) (s : Told) (ts : Tokens) : Type 0 where
  pub goes_on : Text ts (drop r.next w)
  pub is_depth : r.depth ≡ s.depth
  pub is_bad : r.bad ≡ s.bad
  pub is_nodes : r.nodes ≡ cap s.nodes
  pub is_slaves : r.slaves ≡ cap s.slaves

-- r says whether d is more than `left`, and is s if not
pub record Gives (w : List ℕ) (left d : ℕ) (r : Result Outline TooDeep) (s : Told) (ts : Tokens) : Type 0 where
  pub is_deep : is_err r ≡ ltb left d
  pub reads : IfOk r (λ o. Reads w o s ts)

-- o ends within the text, not before `at`, and is no deeper than `left`
pub record Within (w : List ℕ) (at left : ℕ) (o : Outline) : Type 0 where
  pub within : o.next ≤ length w
  pub onward : at ≤ o.next
  pub small : o.depth ≤ left

-- the chart that stands at a place, where it may be `left` deep
pub record ChartAt (w : List ℕ) (at left : ℕ) (r : Result Outline TooDeep) : Type 0 where
  pub inside : IfOk r (Within w at left)
  pub gives : (t : Chart) (ts : Tokens) → Calm ts → Text (of_chart t ++ ts) (drop at w)
      → Gives w left (depth t) r (told t) ts

-- how deep a chart is as a part: a composition only is a part of another, which is one deeper
unfoldable pub part_depth : Chart → ℕ
part_depth (single s) = depth (single s)
part_depth (composed a x b) = suc (depth (composed a x b))

pub record PartAt (w : List ℕ) (at left : ℕ) (r : Result Outline TooDeep) : Type 0 where
  pub inside : IfOk r (Within w at left)
  pub gives : (t : Chart) (ts : Tokens) → NoBrace ts → Text (of_part t ++ ts) (drop at w)
      → Gives w left (part_depth t) r (told t) ts

-- the part of a form that stands at a place
pub record FormedAt (f : Form) (w : List ℕ) (at left : ℕ) (r : Result Outline TooDeep) : Type 0 where
  pub inside : IfOk r (Within w at left)
  pub gives : (t : Chart) (ts : Tokens) → f ≡ form_of t → NoBrace ts → Text (of_part t ++ ts) (drop at w)
      → Gives w left (part_depth t) r (told t) ts

-- the slave that stands with its state at a place, of a master with the states of a mask
pub record PairAt (w : List ℕ) (at mask left : ℕ) (r : Result Outline TooDeep) : Type 0 where
  pub inside : IfOk r (Within w at left)
  pub gives : (q : ℕ) (t : Chart) (us : Tokens) → Text (pair_text q t us) (drop at w)
      → Gives w left (depth t) r (told_slaves (lacks mask) (first_slave q t)) us

-- the slaves that stand at a place, and the closing brace
pub record SlavesAt (w : List ℕ) (at mask left : ℕ) (r : Result Outline TooDeep) : Type 0 where
  pub inside : IfOk r (Within w at left)
  pub gives : (ps : Slaves) (us : Tokens) → Text (of_slaves ps ++ (sign rbrace ∷ us)) (drop at w)
      → Gives w left (depth_slaves ps) r (told_slaves (lacks mask) ps) us

-- ── a text ──

-- r is the outline of the chart t: whether 51 applies; and if not, how deep it is, whether 52 applies but for the names
-- of its charts, and how many nodes and slaves it has, where 1,000 stands for all numbers from there on
pub record OutlineFor (t : Chart) (r : Result Outline TooDeep) : Type 0 where
  pub is_deep : is_err r ≡ ltb most_depth (depth t)
  pub is_depth : IfOk r (λ o. o.depth ≡ depth t)
  pub is_bad : IfOk r (λ o. o.bad ≡ (any sequential? (sequentials_of t) || parts? t))
  pub is_nodes : IfOk r (λ o. o.nodes ≡ cap (nodes_in t))
  pub is_slaves : IfOk r (λ o. o.slaves ≡ cap (slaves_in t))

pub record OutlineOf (w : List ℕ) (r : Result Outline TooDeep) : Type 0 where
  pub gives : (t : Chart) → Spells w t → OutlineFor t r
