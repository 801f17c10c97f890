-- Exchanging the two parts of a composed node (RULES 2.6) in the bytes of a file. `Laws` says that every answer stays
-- as it was; the paper on mu-Charts has it of charts, as Proposition 4. What leads to it, in this order: over a tree
-- (Trees), and of any two files with such trees (Answers); over records (Records); two bytes exchanged (Swap), and
-- those of a node (Bytes).
use Rattle.std.specs.Prelude.{◌≡◌, false, List, ℕ, suc, ◌+◌, ◌-◌, ◌*◌, ◌≤◌, ◌<◌, length, get_or, set}
use Rattle.layout.specs.Body.{nodes_from}
use Rattle.layout.specs.declared.body.Shape.{Shape}
use Rattle.meaning.specs.File.{end_of, trailer, shape_of, file_of}
use Rattle.meaning.specs.Check.{distance?}
pub mod Swap
pub mod Trees

-- the byte at p exchanged with the one behind it
unfoldable pub swap_at : ℕ → List ℕ → List ℕ
swap_at p b = set (set b p (get_or b (suc p) 0)) (suc p) (get_or b p 0)

-- where a body has the a of node j; its b is the next byte (RULES 2.6)
abbrev pub parts_in : Shape → ℕ → ℕ
parts_in n j = nodes_from n + 20 * j + 1

-- the file with a and b of node j exchanged; all other bytes stay, those of its front too
unfoldable pub exchange : ℕ → List ℕ → List ℕ
exchange j f = swap_at ((end_of f - (trailer f).distance) + parts_in (shape_of (trailer f)) j) f

-- the bytes have a node j, and it is composed; the file may still be refused with 2, 3 or 5 to 11 (RULES 3.2)
pub record HasComposed (j : ℕ) (f : List ℕ) : Type 0 where
  pub long : 12 ≤ length f
  pub distance : distance? f ≡ false
  pub there : j < (trailer f).nodes
  pub composed : (file_of f).kind j ≡ 1
