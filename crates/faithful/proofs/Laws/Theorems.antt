-- The file that is read from a text holds the chart typed: its charts (`charts_typed`, in Charts), its tree
-- (`tree_typed`); both of a text that is not refused (`read_typed`), which spells a chart (`read_holds`).
use Rattle.std.specs.Prelude.{◌≡◌, false, ◌||◌, ℕ, ◌+◌, ◌-◌, ◌≤◌}
use Rattle.std.proofs.Math.Path.{refl, sym, subst}
use Rattle.std.proofs.Common.{ap, ◌∙◌, lit<}
use mathlib.Core.List.{List, [], ◌∷◌, map, append-nil}
use native.Mathlib.Omega.{arith}
use Rattle.std.proofs.Math.ListN.{length}
use Rattle.meaning.specs.Check.{not_below, counts?, slaves?, refusal_of}
use Rattle.meaning.specs.Check.Laws.{counted, passed, front, in_front_lem}
use Rattle.meaning.specs.Check.Nodes.{Treed, treed}
use Rattle.meaning.specs.File.{File, tree_of, whole_of, shape_of, file_at, file_of}
use Rattle.meaning.specs.Sums.Laws.{or_left, or_right}
use Rattle.notation.specs.Syntax.{Chart}
use Rattle.notation.specs.Grammar.{Spells}
use Rattle.notation.specs.Reader.{Reading, spelt, wrong_at, reader}
use Rattle.notation.proofs.Laws.Theorems.{sound}
use Rattle.reading.specs.Numbers.{named_charts, not_notation}
use Rattle.reading.specs.Names.{any, twice?, left_out?, not_all?, sequentials_of, name_of, names?}
use Rattle.reading.specs.Meant.{charts_of, lay_chart, nodes_of, body_for, trailer_for, file_for}
use Rattle.reading.specs.Read.{chart_tests, refusal_in, read_refusal, read_file}
use Rattle.reading.proofs.Laws.Read.{read_spells}
use Rattle.outline.specs.Laws.Filed.{not_refused}
use Rattle.roster.specs.Laws.Sorted.{few_names, length_perm}
use Rattle.faithful.specs.Faithful.{Means, Faithful}
use Rattle.faithful.specs.Laws.Back.{shape_for, file-back, slave_is, node_is}
use Rattle.faithful.proofs.Laws.Charts.{named, same-charts, charts_typed}
use Rattle.faithful.specs.Laws.Parts.{once_typed}
use Rattle.faithful.proofs.Laws.Tree.{Reads, chart_means}

-- ── what 52 gives ──

module _ (t : Chart) (n : names? t ≡ false) where
  pub few_charts : length (charts_of t) ≤ named_charts
  few_charts =
      let f = few_names name_of named_charts (sequentials_of t) (named t n) in
      let e = length_perm (same-charts t n) in
      omega arith

  pub once : twice? (map name_of (sequentials_of t)) ≡ false
  unfolding not_all?
  once =
      let ns = map name_of (sequentials_of t) in
      or_left (twice? ns) (left_out? ns)
      (or_right (any (λ k. not_below k named_charts) ns) (twice? ns || left_out? ns) (named t n))

-- ── the tree ──

module _ (t : Chart) (n : names? t ≡ false) where
  -- the file that its body holds
  abbrev body : File
  body = file_at (shape_for t) (body_for t)

  module _ (w : Treed body) (e : slaves? body ≡ false) where
    body_reads : Reads body (nodes_of t) (lay_chart t 0).slaves
    unfolding file_at shape_of trailer_for
    body_reads =
        record {
          nodes = refl;
          node = λ j r m x y. node_is t j r m x y;
          slaves = refl;
          slave = λ i r m. slave_is t i r m;
          ordered = w.ordered;
          rise = e;
          few = λ j l k. let a = w.chart_there j l k in let f = few_charts t n in omega arith;
        }

    pub body_means : Means body (whole_of body) t
    unfolding file_at shape_of trailer_for
    body_means =
        let z : 0 + length (nodes_of t) - 1 ≡ length (nodes_of t) - 1 = omega arith in
        subst (λ j. Means body (tree_of body j) t) z
        (chart_means body (nodes_of t) (lay_chart t 0).slaves body_reads t (not_refused t n) 0
        (once_typed (sequentials_of t) (once t n))
        (record { before = []; after = []; is = sym (append-nil (nodes_of t)); counted = refl }) (λ c i. refl))

  module _ (c : counts? (trailer_for t) ≡ false) (p : refusal_of (file_for t) ≡ 0) where
    back : file_of (file_for t) ≡ body
    back = file-back t (counted (trailer_for t) c)

    pub tree_typed : Means (file_of (file_for t)) (whole_of (file_of (file_for t))) t
    tree_typed =
        let q = passed (file_for t) p in
        subst (λ F. Means F (whole_of F) t) (sym back)
        (body_means (subst Treed back (treed (file_of (file_for t)) q.slaves q.nodes q.naming))
        (ap slaves? (sym back) ∙ q.slaves))

-- ── texts ──

pub read_typed : (text : List ℕ) (t : Chart) (room : ℕ) → Spells text t → read_refusal text room ≡ 0
    → Faithful (file_of (read_file text)) t
unfolding chart_tests
read_typed text t room s e =
    let r = read_spells text t room s in
    let f = front (_ ∷ _ ∷ _ ∷ _ ∷ []) _ (lit< tt, (lit< tt, (lit< tt, (lit< tt, tt)))) (sym r.0 ∙ e) in
    let n = f.0.1.0 in
    let c = f.0.1.1.0 in
    subst (λ b. Faithful (file_of b) t) (sym r.1.1)
    (record { charts = charts_typed t n c; tree = tree_typed t n c (in_front_lem (file_for t) _ f.1).0 })

-- a text that is not refused spells a chart, and its file holds it
pub read_holds : (text : List ℕ) (room : ℕ) → read_refusal text room ≡ 0
    → (t : Chart) × Spells text t × Faithful (file_of (read_file text)) t
unfolding read_refusal refusal_in
read_holds text room e = go (reader text) refl
  where
    go : (r : Reading) → reader text ≡ r → (t : Chart) × Spells text t × Faithful (file_of (read_file text)) t
    go (wrong_at k) q = absurd (let z : not_notation ≡ 0 = ap (λ r. refusal_in r room) (sym q) ∙ e in omega arith)
    go (spelt t) q = let s = sound text t q in (t, s, read_typed text t room s e)
