-- `parts` meets its contract. The loop's invariant: the nodes for the slaves passed are written, and `made` is the last
-- one's name.
use mathlib.Core.Path.{◌≡◌, sym, ap, ◌∙◌}
use mathlib.Core.List.{List, []}
use Prim.Native.Nat.{ℕ, ◌+◌, ◌≤◌, ◌<◌}
use native.Mathlib.Omega.{arith}
use lib.ListN.{get_or}
use Rattle.layout.specs.Record.{node_bytes}
use Rattle.layout.specs.Body.{slave_at}
use Rattle.layout.specs.declared.body.Shape.{Shape}
use Rattle.layout.specs.declared.record.Slave.{Slave}
use Rattle.layout.specs.declared.record.Node.{Node}
use Rattle.meaning.specs.File.{File, file_at}
use Rattle.meaning.specs.Rewriting.{count, new_name, in_turn}
use Rattle.layout.specs.Put.{Put}
use Rattle.layout.specs.Put.Laws.{put-none}
use Rattle.laying.specs.Sequence.{put_is, put_next}
use Rattle.allocation.specs.Known.{Checked}
use Rattle.allocation.specs.Known.Laws.{is_of_lem, is_not}
use Rattle.growth.specs.Growth.Laws.{count-own, count-other}
use Rattle.assembly.specs.Known.{NamesIn}
use Rattle.assembly.specs.Records.{composing, part_bytes}
use Rattle.assembly.proofs.parts.Given as goal

pub record Parted (F : File) (c x first at i : ℕ) (l m : List ℕ) (p made : ℕ) : Type 0 where
  pub last : made ≡ first + count F c i
  pub most : count F c i ≤ i
  pub puts : Put l at (in_turn i (part_bytes F c first x)) m p

-- r is slave i
module _ (n : Shape) (b : List ℕ) (c x first i : ℕ) (r : Slave) (e : r ≡ slave_at n b i) where
  abbrev pub F : File
  F = file_at n b

  pub part-own : r.chart ≡ c
      → part_bytes F c first x i ≡ node_bytes (composing (first + count F c i) (new_name F (F.node i)) x)
  unfolding part_bytes
  part-own h = rw (is_of_lem n b c i e h)

  pub part-other : (r.chart ≡ c → ⊥) → part_bytes F c first x i ≡ []
  unfolding part_bytes
  part-other h = rw (is_not n b c i e h)

  module _ (w : Checked n b) (l : i < n.slaves) where
    pub there : r.node < n.nodes
    unfolding file_at
    there = let h = (w.sound.node-there i l).0 in let q = ap (λ (s : Slave). s.node) e in omega arith

    pub name : (names : List ℕ) → NamesIn F names → get_or names r.node 0 ≡ new_name F (F.node i)
    unfolding file_at
    name names h = h r.node there ∙ ap (λ (s : Slave). new_name (file_at n b) s.node) e

  module _ (at : ℕ) (l m : List ℕ) (p made : ℕ) (h : Parted F c x first at i l m p made) where
    pub parted-own : r.chart ≡ c → (d : Node) (o : List ℕ) (q : ℕ)
        → d ≡ composing (first + count F c i) (new_name F (F.node i)) x
        → Put m p (node_bytes d) o q
        → Parted F c x first at (i + 1) l o q (made + 1)
    parted-own g d o q z u =
        let k = count-own n b c i e g in
        let j = h.most in
        record {
          last = ap (λ (y : ℕ). y + 1) h.last
              ∙ omega arith;
          most = omega arith;
          puts = put_next _ h.puts (put_is (ap node_bytes z ∙ sym (part-own g)) u);
        }

    pub parted-other : (r.chart ≡ c → ⊥) → Parted F c x first at (i + 1) l m p made
    parted-other g =
        let k = count-other n b c i e g in
        let j = h.most in
        record {
          last = h.last ∙ ap (λ (y : ℕ). first + y) k;
          most = omega arith;
          puts = put_next _ h.puts (put_is (sym (part-other g)) (put-none p m));
        }

abbrev pub invariant-loop-i : goal.invariant-loop-i
invariant-loop-i l = Parted (file_at l.n l.body) l.c l.x l.first l.at l.i l.initial.out l.out l.p l.made
