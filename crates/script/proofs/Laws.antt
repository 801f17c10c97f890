-- Laws of the text of a file's tree, in this order: what is typed, by an equation; a composition as a part; a
-- composition and a chart between two sets; slaves; a master; a node, by its record; a slave, by its record.
use Rattle.std.specs.Prelude.{◌≡◌, Bool, true, false, cond, ◌||◌, List, [], ◌∷◌, ◌++◌, eqb, length}
use Rattle.std.proofs.Math.Path.{refl, sym, ap}
use Rattle.std.proofs.Common.{◌∙◌, true≢false, append_assoc, append-nil}
use Rattle.std.proofs.lemmas.Bool.{false≢true}
use Prim.Native.Nat.{ℕ, zero, suc, ◌-◌, ◌≤◌, ◌<◌}
use native.Mathlib.Omega.{arith}
use borrow.Author.Tests.{eq-eqb, ne_eqb}
use Rattle.layout.specs.Body.{node_at, slave_at}
use Rattle.layout.specs.Put.{Put}
use Rattle.layout.specs.declared.body.Shape.{Shape}
use Rattle.layout.specs.declared.record.Node.{Node}
use Rattle.layout.specs.declared.record.Slave.{Slave}
use Rattle.meaning.specs.Sums.{any_up_to}
use Rattle.meaning.specs.Sums.Laws.{or_left, or_right}
use Rattle.meaning.specs.Meaning.{Tree, leaf, comp, hide, dec, nil, snoc, same}
use Rattle.meaning.specs.Meaning.{Slaves as Held}
use Rattle.meaning.specs.File.{File, file_at, build, tree_of, gather, whole, by_kind}
use Rattle.meaning.specs.Check.{node_of_kind?}
use Rattle.meaning.specs.Check.Nodes.{slaves_there, kind_at_most, kind₀, kind₁, kind₂, node_passes}
use Rattle.notation.specs.Grammar.{Tokens, Sign, bytes_of_all, write}
use Rattle.notation.specs.Grammar.{lpar, rpar, bar, comma, lbrace, rbrace, lsq, rsq, wordDec, wordBy, letQ, sign₁}
use Rattle.notation.specs.Grammar.{name₁, of_set, of_optional, of_sequential, of_single, of_chart, of_part, of_slaves}
use Rattle.spelling.specs.Typed.{signals_of, sequential_of, typed_of, master_of, slaves_of}
use Rattle.spelling.specs.Numbers.{most_text}
use Rattle.spelling.specs.Write.{text_in}
use Rattle.printing.specs.Prints.{Prints}
use Rattle.printing.specs.Separated.{in_turn, Adds}
use Rattle.printing.specs.Laws.Prints.{prints_put}
use Rattle.printing.specs.Laws.Separated.{Solid, behind_each_snoc, in_turn-one}
use Rattle.script.specs.Tree.{composes, text_by, part_by, composed_by, hidden_by, held_by, master_by, decomposes}
use Rattle.script.specs.Tree.{slave_text, slave_if, slaves_in, Legible}

-- ── what is typed, by an equation ──

module _ {l m : List ℕ} {at k : ℕ} where
  pub prints_by : {ts us : Tokens} → ts ≡ us → Prints l at us m k → Prints l at ts m k
  prints_by e p = rw e p

  pub adds-by : {A : Type 0} {g : Sign} {f : A → Tokens} {as' bs : List A} {first : ℕ} → as' ≡ bs
      → Adds g f bs first l at m k → Adds g f as' first l at m k
  adds-by e p = rw e p

module _ (F : File) where
  -- ── a composition as a part ──

  pub part-composed : (t : Tree) → composes t ≡ true → part_by F t ≡ sign₁ lpar ++ (text_by F t ++ sign₁ rpar)
  unfolding composes typed_of of_chart of_part
  part-composed (leaf c) e = absurd (false≢true e)
  part-composed (comp p q x) e =
      ap (λ ts. sign₁ lpar ++ ts)
      (sym (append_assoc (part_by F p) (sign₁ bar ++ (of_set (signals_of x) ++ (sign₁ bar ++ part_by F q))) (sign₁ rpar)
      ∙ ap (λ ts. part_by F p ++ (sign₁ bar ++ ts))
      (append_assoc (of_set (signals_of x)) (sign₁ bar ++ part_by F q) (sign₁ rpar))))
  part-composed (hide p x y) e = absurd (false≢true e)
  part-composed (dec c ss) e = absurd (false≢true e)

  pub part-single : (t : Tree) → composes t ≡ false → part_by F t ≡ text_by F t
  unfolding composes typed_of of_chart of_part
  part-single (leaf c) e = refl
  part-single (comp p q x) e = absurd (true≢false e)
  part-single (hide p x y) e = refl
  part-single (dec c ss) e = refl

  -- ── a composition, and a chart between two sets ──

  pub composed_text : (p q : Tree) (x : ℕ)
      → text_by F (comp p q x) ≡ part_by F p ++ (sign₁ bar ++ (of_set (signals_of x) ++ (sign₁ bar ++ part_by F q)))
  unfolding typed_of of_chart
  composed_text p q x = refl

  pub hidden_text_lem : (p : Tree) (x y : ℕ)
      → text_by F (hide p x y) ≡ of_set (signals_of x)
      ++ (sign₁ lsq ++ (text_by F p ++ (sign₁ rsq ++ of_set (signals_of y))))
  unfolding typed_of of_chart of_single of_optional
  hidden_text_lem p x y = refl

  -- ── slaves ──

  pub slaves_solid : Solid (slave_text F)
  slaves_solid s = omega arith

  -- none of them, and one more
  pub slaves-none : (left c : ℕ) → slaves_in (held_by F left c 0) ≡ []
  unfolding gather slaves_in
  slaves-none left c = refl

  pub slaves-more : (left c i : ℕ)
      → slaves_in (held_by F left c (suc i)) ≡ slaves_in (held_by F left c i) ++ slave_if F left c i
  unfolding gather slaves_in
  slaves-more left c i = go (same (F.master i) c)
    where
      ss : Held
      ss = held_by F left c i

      t : Tree
      t = build F left (F.node i)

      go : (b : Bool) → slaves_in (cond b (snoc ss i t) ss) ≡ slaves_in ss ++ cond b ((i, t) ∷ []) []
      go true = refl
      go false = sym (append-nil (slaves_in ss))

  -- behind a list that is not empty
  turn_cons : (p s : ℕ × Tree) (l : List (ℕ × Tree))
      → in_turn comma (slave_text F) ((p ∷ l) ++ (s ∷ []))
      ≡ in_turn comma (slave_text F) (p ∷ l) ++ (sign₁ comma ++ slave_text F s)
  unfolding in_turn
  turn_cons p s l =
      ap (slave_text F p ++◌) (behind_each_snoc comma (slave_text F) l s) ∙ sym (append_assoc (slave_text F p) _ _)

  turn_snoc : (l : List (ℕ × Tree)) (p s : ℕ × Tree)
      → in_turn comma (slave_text F) ((l ++ (p ∷ [])) ++ (s ∷ []))
      ≡ in_turn comma (slave_text F) (l ++ (p ∷ [])) ++ (sign₁ comma ++ slave_text F s)
  turn_snoc [] p s = turn_cons p s []
  turn_snoc (q ∷ l) p s = turn_cons q s (l ++ (p ∷ []))

  slaves_text : (ss : Held) (i : ℕ) (t : Tree)
      → of_slaves (slaves_of F ss (F.state i) (typed_of F t)) ≡ in_turn comma (slave_text F) (slaves_in (snoc ss i t))
  unfolding slaves_of of_slaves slaves_in
  slaves_text nil i t = sym (in_turn-one comma (slave_text F) (i, t))
  slaves_text (snoc ss h u) i t =
      ap (◌++ (sign₁ comma ++ slave_text F (i, t))) (slaves_text ss h u) ∙ sym (turn_snoc (slaves_in ss) (h, u) (i, t))

  -- ── a master ──

  -- Dec, a master, by, slaves in braces
  abbrev dec_by : ℕ → Tokens → Tokens
  dec_by c ts =
      sign₁ wordDec
      ++ (of_sequential (sequential_of c (F.chart c)) ++ (sign₁ wordBy ++ (sign₁ lbrace ++ (ts ++ sign₁ rbrace))))

  abbrev dec_text : ℕ → Held → Tokens
  dec_text c ss = dec_by c (in_turn comma (slave_text F) (slaves_in ss))

  dec_text_lem : (c : ℕ) (ss : Held) (i : ℕ) (t : Tree) → text_by F (dec c (snoc ss i t)) ≡ dec_text c (snoc ss i t)
  unfolding typed_of master_of of_chart of_single
  dec_text_lem c ss i t = ap (dec_by c) (slaves_text ss i t)

  module _ (left c : ℕ) where
    pub master_some : (k : ℕ) → any_up_to k (λ i. same (F.master i) c) ≡ true
        → text_by F (whole c (held_by F left c k)) ≡ dec_text c (held_by F left c k)
    unfolding any_up_to gather
    master_some zero h = absurd (false≢true h)
    master_some (suc k) h = go (same (F.master k) c) (any_up_to k (λ i. same (F.master i) c)) h (master_some k)
      where
        ss : Held
        ss = held_by F left c k

        t : Tree
        t = build F left (F.node k)

        go : (b a : Bool) → (a || b) ≡ true → (a ≡ true → text_by F (whole c ss) ≡ dec_text c ss)
            → text_by F (whole c (cond b (snoc ss k t) ss)) ≡ dec_text c (cond b (snoc ss k t) ss)
        go true a e r = dec_text_lem c ss k t
        go false true e r = r refl
        go false false e r = absurd (false≢true e)

    held_none : (k : ℕ) → any_up_to k (λ i. same (F.master i) c) ≡ false → held_by F left c k ≡ nil
    unfolding any_up_to gather
    held_none zero h = refl
    held_none (suc k) h =
        rw (or_right (any_up_to k (λ i. same (F.master i) c)) _ h) (held_none k (or_left _ (same (F.master k) c) h))

    pub master_none : decomposes F c ≡ false
        → text_by F (master_by F left c) ≡ of_sequential (sequential_of c (F.chart c))
    unfolding typed_of of_chart of_single
    master_none h = rw (held_none F.slaves h)

  -- ── a node ──

  pub chart-none : (left j : ℕ) → left ≡ 0 → text_by F (build F left j) ≡ of_sequential (sequential_of 0 (F.chart 0))
  unfolding build typed_of of_chart of_single
  chart-none left j e = rw e

  pub composes-none : (left j : ℕ) → left ≡ 0 → false ≡ composes (build F left j)
  unfolding composes build
  composes-none left j e = rw e

  -- the whole, of which all nodes are read
  text_whole : 0 < F.nodes → text_in F ≡ bytes_of_all (text_by F (build F F.nodes (F.nodes - 1)))
  unfolding text_in write tree_of
  text_whole h = let e : suc (F.nodes - 1) ≡ F.nodes = omega arith in rw e

module _ (n : Shape) (b : List ℕ) (some_node : 0 < n.nodes) where
  whole_is : text_in (file_at n b) ≡ bytes_of_all (text_by (file_at n b) (build (file_at n b) n.nodes (n.nodes - 1)))
  unfolding file_at
  whole_is = text_whole (file_at n b) some_node

  pub text_put : {l m : List ℕ} {k : ℕ} → length (text_in (file_at n b)) ≤ most_text
      → Prints l 0 (text_by (file_at n b) (build (file_at n b) n.nodes (n.nodes - 1))) m k
      → Put l 0 (text_in (file_at n b)) m k
  text_put h p = rw whole_is (prints_put p (rw whole_is at h))

whole_alone : (c : ℕ) (ss : Held) → composes (whole c ss) ≡ false
unfolding composes
whole_alone c nil = refl
whole_alone c (snoc ss i t) = refl

kind_composes : (k : ℕ) (p q r : Tree) → composes p ≡ false → composes q ≡ true → composes r ≡ false
    → composes (by_kind k p q r) ≡ eqb k 1
kind_composes zero p q r d e f = d
kind_composes (suc zero) p q r d e f = e
kind_composes (suc (suc k)) p q r d e f = f ∙ sym (ne_eqb (suc (suc k)) 1 (λ e. omega arith))

-- node j, which has the record v
module _ (n : Shape) (b : List ℕ) (j : ℕ) (v : Node) (is : v ≡ node_at n b j) where
  abbrev file : File
  file = file_at n b

  module _ (left : ℕ) (some_left : left ≡ 0 → ⊥) where
    -- one level of the tree
    level : build file left j ≡ by_kind v.kind (master_by file (left - 1) v.a) (composed_by file (left - 1) v)
        (hidden_by file (left - 1) v)
    unfolding file_at build
    level = rw is (go left some_left)
      where
        w : Node
        w = node_at n b j

        go : (l : ℕ) → (l ≡ 0 → ⊥) → build file l j
            ≡ by_kind w.kind (master_by file (l - 1) w.a) (composed_by file (l - 1) w) (hidden_by file (l - 1) w)
        go zero f = absurd (f refl)
        go (suc l) f = let e : suc l - 1 ≡ l = omega arith in rw e

    pub composes_kind : eqb v.kind 1 ≡ composes (build file left j)
    unfolding composes
    composes_kind =
        sym (ap composes level
        ∙ kind_composes v.kind (master_by file (left - 1) v.a) (composed_by file (left - 1) v)
        (hidden_by file (left - 1) v) (whole_alone v.a (held_by file (left - 1) v.a file.slaves)) refl refl)

    pub node_chart : v.kind ≡ 0 → build file left j ≡ master_by file (left - 1) v.a
    node_chart e = level ∙ rw e

    pub node_composed : v.kind ≡ 1 → build file left j ≡ composed_by file (left - 1) v
    node_composed e = level ∙ rw e

    pub node_hidden : v.kind ≡ 2 → build file left j ≡ hidden_by file (left - 1) v
    node_hidden e = level ∙ rw e

  -- what the node names is there
  module _ (h : Legible n b) (l : j < n.nodes) where
    passes : node_of_kind? file v.kind j ≡ false
    unfolding file_at
    passes = rw is (node_passes file h.ranged.nodes j l)

    pub chart_there : v.kind ≡ 0 → v.a < n.charts
    unfolding file_at
    chart_there e = let p = kind₀ file v.kind j e passes in let q = ap (λ (w : Node). w.a) is in omega (arith, p, q)

    pub both_there : v.kind ≡ 1 → (v.a < n.nodes) × (v.b < n.nodes)
    unfolding file_at
    both_there e =
        let p = kind₁ file v.kind j e passes in
        let q = ap (λ (w : Node). w.a) is in
        let r = ap (λ (w : Node). w.b) is in (omega (arith, p.0, q), omega (arith, p.1, r))

    pub some_kind : v.kind ≤ 2
    some_kind = kind_at_most file v.kind j passes

    pub inside_there : v.kind ≡ 2 → v.a < n.nodes
    unfolding file_at
    inside_there e = let p = kind₂ file v.kind j e passes in let q = ap (λ (w : Node). w.a) is in omega (arith, p, q)

-- slave i, which has the record s
module _ (n : Shape) (b : List ℕ) (i : ℕ) (s : Slave) (is : s ≡ slave_at n b i) where
  pub slave-other : (left c : ℕ) → (s.chart ≡ c → ⊥) → slave_if (file_at n b) left c i ≡ []
  unfolding file_at same
  slave-other left c f = rw (ne_eqb _ _ (rw is at f))

  pub slave-own : (left c : ℕ) → s.chart ≡ c
      → slave_if (file_at n b) left c i ≡ (i, build (file_at n b) left s.node) ∷ []
  unfolding file_at same
  slave-own left c e = rw (is, eq-eqb _ _ (rw is at e))

  pub slave_text_lem : (t : Tree) → slave_text (file_at n b) (i, t)
      ≡ sign₁ lpar ++ (name₁ letQ s.state ++ (sign₁ comma ++ (text_by (file_at n b) t ++ sign₁ rpar)))
  unfolding file_at
  slave_text_lem t = rw is

  pub node-there : Legible n b → i < n.slaves → s.node < n.nodes
  unfolding file_at
  node-there h l =
      let p = (slaves_there (file_at n b) h.ranged.slaves i l).0 in
      let q = ap (λ (w : Slave). w.node) is in omega (arith, p, q)
