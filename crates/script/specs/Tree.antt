-- The text of a file's tree, of which each node is read down to a depth (crate meaning, File: build).
use Rattle.std.specs.Prelude.{Bool, true, false, cond, List, [], ◌∷◌, ◌++◌, ℕ}
use Rattle.layout.specs.declared.body.Shape.{Shape}
use Rattle.layout.specs.declared.record.Node.{Node}
use Rattle.meaning.specs.Sums.{any_up_to}
use Rattle.meaning.specs.Meaning.{Tree, leaf, comp, hide, dec, Slaves, nil, snoc, same}
use Rattle.meaning.specs.File.{File, build, gather, whole}
use Rattle.notation.specs.Grammar.{Tokens, lpar, rpar, comma, letQ, sign₁, name₁, of_chart, of_part}
use Rattle.spelling.specs.Typed.{typed_of}
use Rattle.checks.specs.Known.{Ranged, Summed}

-- what is known of a body that is written: its nodes, its slaves and its charts' transitions are there
pub record Legible (n : Shape) (b : List ℕ) : Type 0 where
  pub ranged : Ranged n b
  pub summed : Summed n b

-- the tree is a composition
unfoldable pub composes : Tree → Bool
composes (leaf c) = false
composes (comp p q x) = true
composes (hide p x y) = false
composes (dec c ss) = false

module _ (F : File) where
  -- a tree by itself, and as a part of a composition
  abbrev pub text_by : Tree → Tokens
  text_by t = of_chart (typed_of F t)

  abbrev pub part_by : Tree → Tokens
  part_by t = of_part (typed_of F t)

  -- two composed, and one between two sets, by a node
  abbrev pub composed_by : ℕ → Node → Tree
  composed_by left v = comp (build F left v.a) (build F left v.b) v.x

  abbrev pub hidden_by : ℕ → Node → Tree
  hidden_by left v = hide (build F left v.a) v.x v.y

  -- the slaves of chart c among the first k, and chart c with all of its slaves
  abbrev pub held_by : ℕ → ℕ → ℕ → Slaves
  held_by left c k = gather F.master (λ i. build F left (F.node i)) c k

  abbrev pub master_by : ℕ → ℕ → Tree
  master_by left c = whole c (held_by left c F.slaves)

  -- chart c has slaves
  abbrev pub decomposes : ℕ → Bool
  decomposes c = any_up_to F.slaves (λ i. same (F.master i) c)

  -- a slave by its number and its tree
  abbrev pub slave_text : ℕ × Tree → Tokens
  slave_text s = sign₁ lpar ++ (name₁ letQ (F.state s.0) ++ (sign₁ comma ++ (text_by s.1 ++ sign₁ rpar)))

  -- slave i, if it is of chart c
  abbrev pub slave_if : ℕ → ℕ → ℕ → List (ℕ × Tree)
  slave_if left c i = cond (same (F.master i) c) ((i, build F left (F.node i)) ∷ []) []

-- slaves as a list
unfoldable pub slaves_in : Slaves → List (ℕ × Tree)
slaves_in nil = []
slaves_in (snoc ss i t) = slaves_in ss ++ ((i, t) ∷ [])
