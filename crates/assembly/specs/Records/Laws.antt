-- What code makes are the records of the rewriting. In this order: a chart's transitions in bytes; nodes in bytes;
-- those for one node, by its kind; the file, and its shape.
use Rattle.std.specs.Prelude.{◌≡◌, Bool, true, false, cond, length, get_or}
use Rattle.std.proofs.Math.Path.{refl, sym, ap, ap₂}
use Rattle.std.proofs.Common.{◌∙◌, add-zero, zero-add}
use Rattle.std.proofs.Math.Option.{Option, none, some}
use mathlib.Core.List.{List, [], ◌∷◌, ◌++◌, map, append_assoc, append-nil}
use Prim.Native.Nat.{ℕ, zero, suc, ◌+◌, ◌≤◌}
use native.Mathlib.Omega.{arith}
use Rattle.signals.specs.Mask.{◌∪◌, single}
use Rattle.layout.specs.Record.{trailer_bytes, head_bytes, transition_bytes, node_bytes}
use Rattle.layout.specs.Body.{from}
use Rattle.layout.specs.declared.body.Shape.{Shape}
use Rattle.layout.specs.declared.record.Transition.{Transition}
use Rattle.layout.specs.declared.record.Node.{Node}
use Rattle.meaning.specs.Numbers.{first_edition, most_charts}
use Rattle.meaning.specs.Meaning.{Set}
use Rattle.meaning.specs.File.{File}
use Rattle.meaning.specs.Rewriting.{call, call_in, called, idle, idles, chart_with, nearest_slave, calls_by}
use Rattle.meaning.specs.Rewriting.{rewritten_chart}
use Rattle.meaning.specs.Rewriting.{is_of, count, start, new_name, calls_of, composed, made_by, made_for, laid}
use Rattle.meaning.specs.Rewriting.{new_node}
use Rattle.meaning.specs.Rewriting.{rewrite, in_turn, head_for, transitions_bytes, shape_in, body_bytes, encode}
use Rattle.meaning.proofs.Rewriting.Laws.{sum_most}
use Rattle.agreement.specs.Laid.{no_node, laid-length}
use Rattle.laying.specs.Trailer.{Small, trailer_with}
use Rattle.laying.specs.Sequence.{turn-front, turn_cong}
use Rattle.growth.specs.Growth.{idle_count}
use Rattle.growth.specs.Growth.Laws.{count_none, count_some}
use Rattle.assembly.specs.Known.{Fits}
use Rattle.assembly.specs.Records.{called_with, idle_with, holding, composing, hiding, nodes_bytes, part_bytes}
use Rattle.assembly.specs.Records.{master_bytes, held_bytes}

-- ── a chart's transitions in bytes ──

module _ (sig : ℕ → ℕ) where
  idles-bytes : (i b n : ℕ)
      → transitions_bytes (idles sig (some i) b n)
      ≡ in_turn n (λ s. transition_bytes (idle_with (single (sig i)) (b + s)))
  unfolding idles transitions_bytes in_turn idle idle_with
  idles-bytes i b zero = refl
  idles-bytes i b (suc n) =
      ap₂ ◌++◌ (ap (λ (s : ℕ). transition_bytes (idle_with (single (sig i)) s)) (sym (add-zero b)))
      (idles-bytes i (suc b) n
      ∙ turn_cong _ _ n (λ k l. ap (λ (s : ℕ). transition_bytes (idle_with (single (sig i)) s)) (omega arith)))
      ∙ sym (turn-front (λ s. transition_bytes (idle_with (single (sig i)) (b + s))) n)

  idles-with : (κ : Option ℕ) (m : ℕ)
      → transitions_bytes (idles sig κ 0 m)
      ≡ in_turn (idle_count (call_in sig κ) m) (λ s. transition_bytes (idle_with (call_in sig κ) s))
  unfolding idles transitions_bytes in_turn call_in
  idles-with none m =
      ap (λ (k : ℕ). in_turn k (λ s. transition_bytes (idle_with (call_in sig none) s))) (sym (count_none sig m))
  idles-with (some i) m =
      idles-bytes i 0 m
      ∙ turn_cong _ _ m (λ k l. ap (λ (s : ℕ). transition_bytes (idle_with (single (sig i)) s)) (zero-add k))
      ∙ ap (λ (k : ℕ). in_turn k (λ s. transition_bytes (idle_with (call_in sig (some i)) s)))
      (sym (count_some sig i m))

own-bytes : (g : Transition → Transition) (f : ℕ → Transition) (k n : ℕ) (r : List Transition)
    → transitions_bytes (map g (from f k n) ++ r)
    ≡ in_turn n (λ i. transition_bytes (g (f (k + i)))) ++ transitions_bytes r
unfolding from transitions_bytes in_turn
own-bytes g f k zero r = refl
own-bytes g f k (suc n) r =
    ap₂ ◌++◌ (ap (λ (i : ℕ). transition_bytes (g (f i))) (sym (add-zero k)))
    (own-bytes g f (suc k) n r
    ∙ ap (λ (l : List ℕ). l ++ transitions_bytes r)
    (turn_cong _ _ n (λ i l. ap (λ (j : ℕ). transition_bytes (g (f j))) (omega arith))))
    ∙ sym (append_assoc (transition_bytes (g (f (k + 0)))) (in_turn n (λ i. transition_bytes (g (f (k + suc i)))))
    (transitions_bytes r))
    ∙ ap (λ (l : List ℕ). l ++ transitions_bytes r) (sym (turn-front (λ i. transition_bytes (g (f (k + i)))) n))

-- the own transitions are n from k on
pub chart-bytes : (F : File) (c : ℕ) (κ : Set) → κ ≡ call_in (call F) (nearest_slave F c)
    → (f : ℕ → Transition) (k n : ℕ)
    → (F.chart c).transitions ≡ from f k n
    → transitions_bytes (rewritten_chart F c).transitions
    ≡ in_turn n (λ i. transition_bytes (called_with κ (calls_by F c (f (k + i))) (f (k + i))))
    ++ in_turn (idle_count κ (F.chart c).states) (λ s. transition_bytes (idle_with κ s))
unfolding rewritten_chart chart_with called called_with
chart-bytes F c κ is f k n e =
    rw (e, is)
    (own-bytes (called (call F) (nearest_slave F c) (calls_by F c)) f k n
    (idles (call F) (nearest_slave F c) 0 (F.chart c).states)
    ∙ ap (λ (l : List ℕ).
    in_turn n (λ i. transition_bytes (called (call F) (nearest_slave F c) (calls_by F c) (f (k + i)))) ++ l)
    (idles-with (call F) (nearest_slave F c) (F.chart c).states))

-- ── nodes in bytes ──

pub nodes_append : (p q : List Node) → nodes_bytes (p ++ q) ≡ nodes_bytes p ++ nodes_bytes q
unfolding nodes_bytes
nodes_append [] q = refl
nodes_append (d ∷ p) q = ap (λ (l : List ℕ). node_bytes d ++ l) (nodes_append p q)
    ∙ sym (append_assoc (node_bytes d) (nodes_bytes p) (nodes_bytes q))

pub nodes_one : (d : Node) → nodes_bytes (d ∷ []) ≡ node_bytes d
unfolding nodes_bytes
nodes_one d = append-nil (node_bytes d)

-- by their numbers
nodes_turn : (ds : List Node) → in_turn (length ds) (λ p. node_bytes (get_or ds p no_node)) ≡ nodes_bytes ds
unfolding nodes_bytes in_turn
nodes_turn [] = refl
nodes_turn (d ∷ ds) = turn-front (λ p. node_bytes (get_or (d ∷ ds) p no_node)) (length ds)
    ∙ ap (λ (l : List ℕ). node_bytes d ++ l) (nodes_turn ds)

module _ (F : File) where
  laid-turn : (n : ℕ) → nodes_bytes (laid F n) ≡ in_turn n (λ j. nodes_bytes (made_for F j))
  unfolding laid nodes_bytes in_turn
  laid-turn zero = refl
  laid-turn (suc n) =
      nodes_append (laid F n) (made_for F n) ∙ ap (λ (l : List ℕ). l ++ nodes_bytes (made_for F n)) (laid-turn n)

  -- all of the rewritten file's
  pub nodes_are : in_turn (start F F.nodes) (λ p. node_bytes (new_node F p))
      ≡ in_turn F.nodes (λ j. nodes_bytes (made_for F j))
  nodes_are = ap (λ (n : ℕ). in_turn n (λ p. node_bytes (new_node F p))) (sym (laid-length F F.nodes))
      ∙ nodes_turn (laid F F.nodes)
      ∙ laid-turn F.nodes

  -- those of a master's slaves
  pub parts_are : (c at k : ℕ)
      → nodes_bytes (composed F c at k) ≡ in_turn k (part_bytes F c at ((F.chart c).feedback ∪ calls_of F c))
  unfolding composed nodes_bytes in_turn part_bytes
  parts_are c at zero = refl
  parts_are c at (suc i) = go (is_of F c i) (parts_are c at i)
    where
      nd : Node
      nd = composing (at + count F c i) (new_name F (F.node i)) ((F.chart c).feedback ∪ calls_of F c)

      before : List ℕ
      before = in_turn i (part_bytes F c at ((F.chart c).feedback ∪ calls_of F c))

      go : (b : Bool) → nodes_bytes (composed F c at i) ≡ before
          → nodes_bytes (cond b (composed F c at i ++ (nd ∷ [])) (composed F c at i))
          ≡ before ++ cond b (node_bytes nd) []
      go true h = nodes_append (composed F c at i) (nd ∷ []) ∙ ap₂ ◌++◌ h (nodes_one nd)
      go false h = h ∙ sym (append-nil before)

  -- ── those for one node, by its kind ──

  pub held_none : (c at s : ℕ) → s ≡ 0 → held_bytes F c at s ≡ node_bytes (holding c)
  unfolding held_bytes
  held_none c at zero e = refl
  held_none c at (suc s) e = absurd (omega arith)

  pub held_some : (c at s : ℕ) → (s ≡ 0 → ⊥) → held_bytes F c at s ≡ master_bytes F c at s
  unfolding held_bytes
  held_some c at zero e = absurd (e refl)
  held_some c at (suc s) e = refl

  held_by : (j s : ℕ) → nodes_bytes (made_by F 0 s j) ≡ held_bytes F (F.a j) (start F j) s
  unfolding held_bytes master_bytes nodes_bytes
  held_by j zero = append-nil (node_bytes (holding (F.a j)))
  held_by j (suc s) =
      ap (λ (l : List ℕ). node_bytes (holding (F.a j)) ++ l)
      (nodes_append (composed F (F.a j) (start F j) F.slaves)
      (hiding (start F j + suc s) (calls_of F (F.a j)) (calls_of F (F.a j)) ∷ [])
      ∙ ap₂ ◌++◌ (parts_are (F.a j) (start F j) F.slaves)
      (nodes_one (hiding (start F j + suc s) (calls_of F (F.a j)) (calls_of F (F.a j)))))

  pub held_are : (j : ℕ) → F.kind j ≡ 0
      → nodes_bytes (made_for F j) ≡ held_bytes F (F.a j) (start F j) (count F (F.a j) F.slaves)
  unfolding made_for
  held_are j e = ap (λ (k : ℕ). nodes_bytes (made_by F k (count F (F.a j) F.slaves) j)) e
      ∙ held_by j (count F (F.a j) F.slaves)

  pub comp_are : (j : ℕ) → F.kind j ≡ 1
      → nodes_bytes (made_for F j) ≡ node_bytes (composing (new_name F (F.a j)) (new_name F (F.b j)) (F.x j))
  unfolding made_for
  comp_are j e =
      ap (λ (k : ℕ). nodes_bytes (made_by F k (count F (F.a j) F.slaves) j)) e
      ∙ nodes_one (composing (new_name F (F.a j)) (new_name F (F.b j)) (F.x j))

  pub hide_are : (j : ℕ) → F.kind j ≡ 2
      → nodes_bytes (made_for F j) ≡ node_bytes (hiding (new_name F (F.a j)) (F.x j) (F.y j))
  unfolding made_for
  hide_are j e = ap (λ (k : ℕ). nodes_bytes (made_by F k (count F (F.a j) F.slaves) j)) e
      ∙ nodes_one (hiding (new_name F (F.a j)) (F.x j) (F.y j))

  -- ── the file ──

  -- all bytes of the rewritten file, in the order in which they are written
  pub encode_is : encode (rewrite F)
      ≡ in_turn F.charts (λ c. head_bytes (head_for (rewritten_chart F c)))
      ++ (in_turn F.charts (λ c. transitions_bytes (rewritten_chart F c).transitions)
      ++ (in_turn F.nodes (λ j. nodes_bytes (made_for F j))
      ++ trailer_bytes (trailer_with (shape_in (rewrite F)) first_edition)))
  unfolding encode body_bytes in_turn shape_in trailer_with
  encode_is =
      append_assoc ((hs ++ ts) ++ []) ns t
      ∙ ap (λ (l : List ℕ). l ++ (ns ++ t)) (append-nil (hs ++ ts))
      ∙ append_assoc hs ts (ns ++ t)
      ∙ ap (λ (l : List ℕ). hs ++ (ts ++ (l ++ t))) nodes_are
    where
      hs : List ℕ
      hs = in_turn F.charts (λ c. head_bytes (head_for (rewritten_chart F c)))

      ts : List ℕ
      ts = in_turn F.charts (λ c. transitions_bytes (rewritten_chart F c).transitions)

      ns : List ℕ
      ns = in_turn (start F F.nodes) (λ p. node_bytes (new_node F p))

      t : List ℕ
      t = trailer_bytes (trailer_with (shape_in (rewrite F)) first_edition)

  -- a shape within the limits
  pub shape_small : Fits F → F.charts ≤ most_charts → (m : Shape) → m ≡ shape_in (rewrite F) → Small m
  unfolding shape_in
  shape_small h l m e = let t = sum_most (rewrite F) l h.lists in let k = h.nodes in
      rw e (omega arith, omega arith, omega arith, omega arith)
