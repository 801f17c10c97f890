-- 9 does not apply to the file of a chart: the nodes that a part lays down are in order wherever they stand
-- (`chart_formed`), so those of the file are what the chart lays down (`nodes_are`) and pass (`nodes_pass`).
use Rattle.std.specs.Prelude.{◌≡◌, refl, Bool, false, ◌||◌, ℕ, suc, ◌+◌, ◌^◌, ◌<◌}
use Rattle.std.proofs.Common.{ap, subst, arith, lit<, length-append}
use mathlib.Core.List.Memᴰ
use mathlib.Core.List.{List, [], ◌∷◌, ◌++◌, Memᴰ}
use Rattle.std.proofs.Math.ListN.{length}
use Rattle.layout.specs.Body.{node_at}
use Rattle.layout.specs.declared.record.Node.{Node}
use Rattle.meaning.specs.Sums.Laws.{any-all, or_left, or_right}
use Rattle.meaning.specs.File.{File, shape_of, file_at}
use Rattle.meaning.specs.Check.{not_below, node_of_kind?, nodes?}
use Rattle.meaning.specs.Check.Laws.{neither, is_below}
use Rattle.agreement.specs.Again.{equal}
use Rattle.notation.specs.Syntax.{Sequential, Single, sequential, decomposed, hidden, Chart, single, composed, Slaves}
use Rattle.notation.specs.Syntax.{first_slave, more_slaves}
use Rattle.reading.specs.Numbers.{named_states}
use Rattle.reading.specs.Names.{set?, optional?, sequential?, name_of, sequentials_in, sequentials_of}
use Rattle.reading.specs.Names.{sequentials_of_slaves}
use Rattle.reading.specs.Names.{names?}
use Rattle.reading.specs.Meant.{sorted_by, optional_of, set_of, Laid, last_of, Placed, lay_slaves, with_node, beside}
use Rattle.reading.specs.Meant.{lay_hidden, lay_both, lay_single, lay_chart, placed, charts_of, nodes_of, body_for}
use Rattle.reading.specs.Meant.{trailer_for}
use Rattle.outline.specs.Tree.{lacking, refused_single?, refused?, refused_slaves?}
use Rattle.outline.specs.Laws.Sorted.{Each, none, more, each_append, each_sorted}
use Rattle.outline.specs.Laws.Laid.{nodes_some, laid}
use Rattle.outline.specs.Laws.Filed.{not_refused}
use Rattle.faithful.specs.Laws.Small.{set-small, optional_small}
use Rattle.faithful.specs.Laws.Back.{At, shape_for, node_is}
use Rattle.faithful.proofs.Laws.Charts.{at_place, each_chart}
use Rattle.accepted.specs.Parts.{Formed, holding, joining, hiding, FormedFrom}

-- ── nodes in order ──

pub formed_small : (n j : ℕ) (r : Node) → Formed n j r → (r.x < 256 ^ 8) × (r.y < 256 ^ 8)
formed_small n j r (holding c l) = (lit< tt, lit< tt)
formed_small n j r (joining a b x k l s) = (s, lit< tt)
formed_small n j r (hiding a x y l s u) = (s, u)

formed_append : (n k : ℕ) (l m : List Node) → FormedFrom n k l → FormedFrom n (k + length l) m → FormedFrom n k (l ++ m)
unfolding FormedFrom
formed_append n k [] m f g = subst (λ i. FormedFrom n i m) (let z : k + 0 ≡ k = omega arith in z) g
formed_append n k (r ∷ l) m f g =
    let z : k + suc (length l) ≡ suc k + length l = omega arith in
    (f.0, formed_append n (suc k) l m f.1 (subst (λ i. FormedFrom n i m) z g))

formed_then : (n k : ℕ) (l : List Node) (r : Node) (m : List Node) → FormedFrom n k (l ++ (r ∷ m))
    → Formed n (k + length l) r
unfolding FormedFrom
formed_then n k [] r m f = subst (λ i. Formed n i r) (let z : k ≡ k + 0 = omega arith in z) f.0
formed_then n k (s ∷ l) r m f =
    subst (λ i. Formed n i r) (let z : suc k + length l ≡ k + suc (length l) = omega arith in z)
    (formed_then n (suc k) l r m f.1)

formed_at : (n : ℕ) (l : List Node) (j : ℕ) (r : Node) → FormedFrom n 0 l → At l j r → Formed n j r
formed_at n l j r f m =
    subst (λ i. Formed n i r) (let z : 0 + length m.before ≡ j = omega (arith, m.counted) in z)
    (formed_then n 0 m.before r m.after (subst (FormedFrom n 0) m.is f))

-- ── those of a part ──

-- the node of a part is one of its nodes
last-below : (k : ℕ) (t : Chart) → refused? t ≡ false → last_of k (lay_chart t k) < k + length (lay_chart t k).nodes
last-below k t e = omega (arith, (laid t e k).nodes, nodes_some t)

module _ (n : ℕ) where
  -- the nodes of a part are in order, wherever they stand
  abbrev Right : (ℕ → Laid) → Type 0
  Right p = (k : ℕ) → FormedFrom n k (p k).nodes

  -- charts have a number below n
  abbrev Numbered : List Sequential → Type 0
  Numbered l = (s : Sequential) → Memᴰ s l → name_of s < n

  with_formed : (k : ℕ) (p : Laid) (r : Node) → FormedFrom n k p.nodes → Formed n (k + length p.nodes) r
      → FormedFrom n k (with_node p r).nodes
  unfolding with_node FormedFrom
  with_formed k p r f g = formed_append n k p.nodes (r ∷ []) f (g, tt)

  lay_formed : (c : ℕ) (l : List Placed) → Each (λ p. Right p.part) l → (k : ℕ)
      → FormedFrom n k (lay_slaves c l k).nodes
  unfolding lay_slaves FormedFrom
  lay_formed c [] e k = tt
  lay_formed c (s ∷ l) (more f e) k =
      formed_append n k (s.part k).nodes _ (f k) (lay_formed c l e (k + length (s.part k).nodes))

  mutual
    unfolding lay_single lay_hidden lay_both beside refused_single? sequentials_in FormedFrom

    single_formed : (s : Single) → refused_single? s ≡ false → Numbered (sequentials_in s) → Right (lay_single s)
    single_formed (sequential s) e h k = (holding (name_of s) (h s (Memᴰ.head refl)), tt)
    single_formed (decomposed s ps) e h k =
        let g = or_right (sequential? s) (refused_slaves? (lacking s) ps) e in
        let l = sorted_by (λ p. p.at) named_states (placed ps) in
        with_formed k (lay_slaves (name_of s) l k) _
        (lay_formed (name_of s) l (each_sorted (λ p. p.at) named_states (placed ps)
        (slaves_formed (lacking s) ps g (λ u m. h u (Memᴰ.tail m)))) k)
        (holding (name_of s) (h s (Memᴰ.head refl)))
    single_formed (hidden x t y) e h k =
        let f = or_right (optional? x) (refused? t || optional? y) e in
        let g = or_left (refused? t) (optional? y) f in
        with_formed k (lay_chart t k) _ (chart_formed t g h k)
        (hiding (last_of k (lay_chart t k)) (optional_of x) (optional_of y) (last-below k t g)
        (optional_small x (or_left (optional? x) (refused? t || optional? y) e))
        (optional_small y (or_right (refused? t) (optional? y) f)))

    pub chart_formed : (t : Chart) → refused? t ≡ false → Numbered (sequentials_of t) → Right (lay_chart t)
    chart_formed (single s) e h k = single_formed s e h k
    chart_formed (composed a x b) e h k =
        let f = or_left (refused? a) (set? x || refused? b) e in
        let g = or_right (refused? a) (set? x || refused? b) e in
        let i = or_right (set? x) (refused? b) g in
        let p = lay_chart a k in
        let j = k + length p.nodes in
        let q = lay_chart b j in
        let z = length-append p.nodes q.nodes in
        with_formed k (beside p q) _
        (formed_append n k p.nodes q.nodes
        (chart_formed a f (λ s m. h s (Memᴰ.append_left (sequentials_of b) m)) k)
        (chart_formed b i (λ s m. h s (Memᴰ.append_right (sequentials_of a) m)) j))
        (joining (last_of k p) (last_of j q) (set_of x) (omega (arith, last-below k a f, z))
        (omega (arith, last-below j b i, z)) (set-small x (or_left (set? x) (refused? b) g)))

    slaves_formed : (lacks : ℕ → Bool) (ps : Slaves) → refused_slaves? lacks ps ≡ false
        → Numbered (sequentials_of_slaves ps) → Each (λ p. Right p.part) (placed ps)
    slaves_formed lacks (first_slave q t) e h =
        more (λ k. chart_formed t (or_right (lacks q) (refused? t) e) h k) none
    slaves_formed lacks (more_slaves ps q t) e h =
        let f = or_right (refused_slaves? lacks ps) (lacks q || refused? t) e in
        each_append
        (slaves_formed lacks ps (or_left (refused_slaves? lacks ps) (lacks q || refused? t) e)
        (λ s m. h s (Memᴰ.append_left (sequentials_of t) m)))
        (more (λ k. chart_formed t (or_right (lacks q) (refused? t) f)
        (λ s m. h s (Memᴰ.append_right (sequentials_of_slaves ps) m)) k) none)

-- ── those of the file ──

lower_is : (m c k : ℕ) → m ≡ c → c < k → not_below m k ≡ false
lower_is m c k e l = is_below m k (omega arith)

module _ (t : Chart) (e : names? t ≡ false) where
  pub all_formed : FormedFrom (length (charts_of t)) 0 (nodes_of t)
  all_formed = chart_formed (length (charts_of t)) t (not_refused t e) (λ s m. (each_chart t e s m).0) 0

  pub node_formed : (j : ℕ) (r : Node) → At (nodes_of t) j r → Formed (length (charts_of t)) j r
  node_formed j r m = formed_at (length (charts_of t)) (nodes_of t) j r all_formed m

  pub nodes_are : (j : ℕ) (r : Node) → At (nodes_of t) j r → node_at (shape_for t) (body_for t) j ≡ r
  nodes_are j r m =
      let s = formed_small (length (charts_of t)) j r (node_formed j r m) in
      node_is t j r m s.0 s.1

  abbrev F : File
  F = file_at (shape_for t) (body_for t)

  node_passes : (j : ℕ) (r : Node) → Formed (length (charts_of t)) j r → node_at (shape_for t) (body_for t) j ≡ r
      → node_of_kind? F (F.kind j) j ≡ false
  unfolding node_of_kind? file_at shape_of trailer_for
  node_passes j r (holding c l) q =
      rw (ap (λ d. d.kind) q)
      (neither _ _
      (neither _ _ (neither _ _ (lower_is _ c _ (ap (λ d. d.a) q) l) (equal _ _ (ap (λ d. d.b) q)))
      (equal _ _ (ap (λ d. d.x) q)))
      (equal _ _ (ap (λ d. d.y) q)))
  node_passes j r (joining a b x k l s) q =
      rw (ap (λ d. d.kind) q)
      (neither _ _ (neither _ _ (lower_is _ a j (ap (λ d. d.a) q) k) (lower_is _ b j (ap (λ d. d.b) q) l))
      (equal _ _ (ap (λ d. d.y) q)))
  node_passes j r (hiding a x y l s u) q =
      rw (ap (λ d. d.kind) q) (neither _ _ (lower_is _ a j (ap (λ d. d.a) q) l) (equal _ _ (ap (λ d. d.b) q)))

  pub nodes_pass : nodes? F ≡ false
  unfolding nodes? file_at shape_of trailer_for
  nodes_pass =
      any-all (length (nodes_of t)) _
      (λ j l. let a = at_place (nodes_of t) j l in
      node_passes j a.0 (node_formed j a.0 a.1) (nodes_are j a.0 a.1))
