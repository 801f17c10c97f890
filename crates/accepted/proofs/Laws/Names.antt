-- 52 does not apply to the chart that a file holds as typed, if its charts fit and 8 to 11 do not apply: the charts of
-- a tree, summed (`sums`) and typed (`typed_charts`); the whole has charts and slaves of its file alone
-- (`whole-within`); each chart stands once in the whole (`charts_there`); names (`names-right`).
use Rattle.std.specs.Prelude.{◌≡◌, Bool, true, false, not, ℕ, ◌+◌, ◌-◌, ◌≤◌, ◌<◌, ltb, eqb}
use Rattle.std.proofs.Math.Path.{refl, ap, ap₂}
use Rattle.std.proofs.Common.{sym, ◌∙◌, subst, arith}
use Rattle.std.proofs.Math.Bool.{◌||◌}
use mathlib.Core.List.{List, [], ◌∷◌, ◌++◌, map, map-append}
use Rattle.std.proofs.Math.Decide.{dec_lt}
use borrow.Author.Tests.{lt-ltb, le-ltb, ltb-true}
use Rattle.meaning.specs.Sums.{one}
use Rattle.meaning.specs.Meaning.{same, Tree, leaf, comp, hide, dec, nil, snoc}
use Rattle.meaning.specs.Meaning.{Slaves as Held}
use Rattle.meaning.specs.Laws.Bools.{same_refl}
use Rattle.meaning.specs.File.{File, whole_of}
use Rattle.meaning.specs.Check.Nodes.{Sound}
use Rattle.whole.specs.Weigh.{weight, weights, of_charts, of_slaves, charts_sum, times_chart, times_slave, Owned}
use Rattle.whole.specs.Weigh.{OwnedBy}
use Rattle.whole.proofs.Laws.Whole.{whole-chart, whole_no_chart, whole_no_slave, whole_master}
use Rattle.notation.specs.Syntax.{Sequential, Chart}
use Rattle.reading.specs.Numbers.{named_charts}
use Rattle.reading.specs.Names.{members_of, any, has, twice?, not_all?, optional?, sequential?, sequentials_in}
use Rattle.reading.specs.Names.{sequentials_of, sequentials_of_slaves, single_parts?, parts?, slave_parts?, name_of}
use Rattle.reading.specs.Names.{names?}
use Rattle.reading.specs.Laws.Lists.{any_of}
use Rattle.outline.specs.Laws.Sorted.{total, total-append}
use Rattle.spelling.specs.Typed.{sequential_of, typed_of, master_of, slaves_of}
use Rattle.spelling.specs.Write.{chart_in}
use Rattle.spelling.proofs.Laws.Lists.{numbers-named}
use Rattle.spelling.proofs.Laws.Sets.{set-named}
use Rattle.spelling.specs.Fits.{Fits}
use Rattle.spelling.proofs.Laws.Charts.{states-has, name_written, sequential_named}
use Rattle.accepted.specs.Tree.{charts_in, charts_in_all, Within, WithinBy}

-- ── the charts of a tree ──

-- a sum that is taken chart by chart
module _ (h : List ℕ → ℕ) (g : ℕ → ℕ) (none : h [] ≡ 0) (each : (c : ℕ) → h (c ∷ []) ≡ g c)
    (both : (l m : List ℕ) → h (l ++ m) ≡ h l + h m) where
  mutual
    unfolding charts_in weight

    pub sums : (p : Tree) → h (charts_in p) ≡ charts_sum g p
    sums (leaf c) = each c
    sums (comp p q x) = both (charts_in p) (charts_in q) ∙ omega (arith, sums p, sums q)
    sums (hide p x y) = omega (arith, sums p)
    sums (dec c ss) = both (c ∷ []) (charts_in_all ss) ∙ omega (arith, each c, sums_all ss)

    sums_all : (ss : Held) → h (charts_in_all ss) ≡ weights (of_charts g) ss
    sums_all nil = none
    sums_all (snoc ss i t) = both (charts_in_all ss) (charts_in t) ∙ omega (arith, sums t, sums_all ss)

-- how often a number stands in a list
abbrev times : ℕ → List ℕ → ℕ
times c l = total (λ d. one (same d c)) l

times-has : (c : ℕ) (l : List ℕ) → has l c ≡ ltb 0 (times c l)
unfolding has any total same
times-has c [] = sym (le-ltb 0 0 (omega arith))
times-has c (d ∷ l) = go (eqb d c) (times-has c l)
  where
    go : (b : Bool) → has l c ≡ ltb 0 (times c l) → (b || has l c) ≡ ltb 0 (one b + times c l)
    go true e = sym (lt-ltb 0 (1 + times c l) (omega arith))
    go false e = e ∙ ap (ltb 0) (let z : times c l ≡ 0 + times c l = omega arith in z)

once_has : (l : List ℕ) → ((c : ℕ) → times c l ≤ 1) → twice? l ≡ false
unfolding twice? total
once_has [] h = refl
once_has (d ∷ l) h =
    ap₂ ◌||◌
    (times-has d l
    ∙ le-ltb 0 (times d l) (let z = h d in let e : one (same d d) ≡ 1 = ap one (same_refl d) in omega arith))
    (once_has l (λ c. let z = h c in omega arith))

-- ── the charts as typed ──

module _ (F : File) where
  abbrev pub drawn : ℕ → Sequential
  drawn c = sequential_of c (F.chart c)

  mutual
    unfolding typed_of sequentials_in charts_in

    pub typed_charts : (p : Tree) → sequentials_of (typed_of F p) ≡ map drawn (charts_in p)
    typed_charts (leaf c) = refl
    typed_charts (comp p q x) =
        ap₂ ◌++◌ (typed_charts p) (typed_charts q) ∙ sym (map-append drawn (charts_in p) (charts_in q))
    typed_charts (hide p x y) = typed_charts p
    typed_charts (dec c ss) = typed_master c ss

    typed_master : (c : ℕ) (ss : Held)
        → sequentials_in (master_of F (drawn c) ss) ≡ drawn c ∷ map drawn (charts_in_all ss)
    typed_master c nil = refl
    typed_master c (snoc ss i t) =
        ap (drawn c ∷◌) (typed_slaves ss (F.state i) (typed_of F t) (charts_in t) (typed_charts t))

    typed_slaves : (ss : Held) (q : ℕ) (u : Chart) (l : List ℕ) → sequentials_of u ≡ map drawn l
        → sequentials_of_slaves (slaves_of F ss q u) ≡ map drawn (charts_in_all ss ++ l)
    typed_slaves nil q u l e = e
    typed_slaves (snoc ss i t) q u l e =
        ap₂ ◌++◌ (typed_slaves ss (F.state i) (typed_of F t) (charts_in t) (typed_charts t)) e
        ∙ sym (map-append drawn (charts_in_all ss ++ charts_in t) l)

  pub drawn-names : (l : List ℕ) → map name_of (map drawn l) ≡ l
  drawn-names [] = refl
  drawn-names (c ∷ l) = ap₂ ◌∷◌ (name_written c (F.chart c)) (drawn-names l)

  pub any-drawn : (p : Sequential → Bool) (l : List ℕ) → any p (map drawn l) ≡ any (λ c. p (drawn c)) l
  unfolding any
  any-drawn p [] = refl
  any-drawn p (c ∷ l) = ap (p (drawn c) ||◌) (any-drawn p l)

-- ── charts and slaves of the file ──

module _ (F : File) where
  -- no chart and no slave beyond those of the file
  abbrev Few : Tree → Type 0
  Few p = ((d : ℕ) → F.charts ≤ d → times_chart d p ≡ 0) × ((j : ℕ) → F.slaves ≤ j → times_slave j p ≡ 0)

  abbrev FewAll : Held → Type 0
  FewAll ss =
      ((d : ℕ) → F.charts ≤ d → weights (of_charts (λ e. one (same e d))) ss ≡ 0)
      × ((j : ℕ) → F.slaves ≤ j → weights (of_slaves (λ e. one (same e j))) ss ≡ 0)

  -- a number that stands nowhere from n on is below n
  lower : (n c : ℕ) (rest : ℕ → ℕ) → ((d : ℕ) → n ≤ d → one (same c d) + rest d ≡ 0) → c < n
  lower n c rest h = go (dec_lt c n)
    where
      go : Dec (c < n) → c < n
      go (yes l) = l
      go (no l) =
          absurd (let e = h c (omega arith) in let z : one (same c c) ≡ 1 = ap one (same_refl c) in omega arith)

  mutual
    unfolding weight

    within : (p : Tree) → Owned F.master p → Few p → Within F p
    within (leaf c) o h = lower F.charts c (λ d. 0) (λ d l. let e = h.0 d l in omega arith)
    within (comp p q x) o h = (
      within p o.0 (λ d l. let e = h.0 d l in omega arith, λ j l. let e = h.1 j l in omega arith),
      within q o.1 (λ d l. let e = h.0 d l in omega arith, λ j l. let e = h.1 j l in omega arith),
    )
    within (hide p x y) o h =
        within p o (λ d l. let e = h.0 d l in omega arith, λ j l. let e = h.1 j l in omega arith)
    within (dec c ss) o h = (
      lower F.charts c (λ d. weights (of_charts (λ e. one (same e d))) ss) h.0,
      within_by c ss o (λ d l. let e = h.0 d l in omega arith, λ j l. let e = h.1 j l in omega arith),
    )

    within_by : (c : ℕ) (ss : Held) → OwnedBy F.master c ss → FewAll ss → WithinBy F c ss
    within_by c nil o h = tt
    within_by c (snoc ss i t) o h = (
      within_by c ss o.0 (λ d l. let e = h.0 d l in omega arith, λ j l. let e = h.1 j l in omega arith),
      lower F.slaves i
          (λ j. weight (of_slaves (λ e. one (same e j))) t + weights (of_slaves (λ e. one (same e j))) ss)
          (λ j l. let e = h.1 j l in omega arith),
      o.1,
      within t o.2 (λ d l. let e = h.0 d l in omega arith, λ j l. let e = h.1 j l in omega arith),
    )

-- ── each chart once ──

module _ (F : File) (s : Sound F) (some : 0 < F.nodes) where
  abbrev charts : List ℕ
  charts = charts_in (whole_of F)

  times_is : (c : ℕ) → times c charts ≡ times_chart c (whole_of F)
  unfolding total
  times_is c =
      sums (times c) (λ d. one (same d c)) refl (λ d. omega arith) (total-append (λ d. one (same d c))) (whole_of F)

  pub charts_there : (c : ℕ) → has charts c ≡ ltb c F.charts
  charts_there c = times-has c charts ∙ ap (ltb 0) (times_is c) ∙ go (dec_lt c F.charts)
    where
      go : Dec (c < F.charts) → ltb 0 (times_chart c (whole_of F)) ≡ ltb c F.charts
      go (yes l) =
          lt-ltb 0 (times_chart c (whole_of F)) (let e = whole-chart F s some c l in omega arith)
          ∙ sym (lt-ltb c F.charts l)
      go (no l) =
          le-ltb 0 (times_chart c (whole_of F)) (let e = whole_no_chart F s some c (omega arith) in omega arith)
          ∙ sym (le-ltb c F.charts (omega arith))

  charts_once : twice? charts ≡ false
  charts_once = once_has charts (λ c. go c (dec_lt c F.charts))
    where
      go : (c : ℕ) → Dec (c < F.charts) → times c charts ≤ 1
      go c (yes l) = let e = whole-chart F s some c l in let z = times_is c in omega arith
      go c (no l) = let e = whole_no_chart F s some c (omega arith) in let z = times_is c in omega arith

  pub whole-within : Within F (whole_of F)
  whole-within =
      within F (whole_of F) (whole_master F (F.nodes - 1)) (whole_no_chart F s some, whole_no_slave F s some)

  -- ── names ──

  pub charts_are : sequentials_of (chart_in F) ≡ map (drawn F) charts
  charts_are = typed_charts F (whole_of F)

  module _ (few : F.charts ≤ named_charts) (fits : (c : ℕ) → c < F.charts → Fits (F.chart c))
      (states : (i : ℕ) → i < F.slaves → F.state i < (F.chart (F.master i)).states) where
    charts-named : not_all? named_charts (map name_of (sequentials_of (chart_in F))) ≡ false
    charts-named =
        ap (not_all? named_charts) (ap (map name_of) charts_are ∙ drawn-names F charts)
        ∙ numbers-named named_charts F.charts charts few charts_once charts_there

    -- what does not apply to a chart of the file applies to none of them as typed
    pub any_typed : (p : Sequential → Bool) → ((c : ℕ) → c < F.charts → p (drawn F c) ≡ false)
        → any p (sequentials_of (chart_in F)) ≡ false
    any_typed p h =
        ap (any p) charts_are ∙ any-drawn F p charts
        ∙ any_of (λ c. p (drawn F c)) charts (λ c e. h c (ltb-true c F.charts (sym (charts_there c) ∙ e)))

    abbrev states_for : ℕ → List ℕ
    states_for c = members_of (drawn F c).heading.states

    -- the state of a slave is one of its master
    state_there : (c i : ℕ) → c < F.charts → F.master i ≡ c → i < F.slaves → has (states_for c) (F.state i) ≡ true
    unfolding sequential_of
    state_there c i l e m =
        states-has (F.chart c) (fits c l) (F.state i)
        ∙ lt-ltb (F.state i) (F.chart c).states (subst (λ d. F.state i < (F.chart d).states) e (states i m))

    mutual
      unfolding typed_of single_parts? optional?

      parts-named : (p : Tree) → Within F p → parts? (typed_of F p) ≡ false
      parts-named (leaf c) h = refl
      parts-named (comp p q x) h = ap₂ ◌||◌ (parts-named p h.0) (ap₂ ◌||◌ (set-named x) (parts-named q h.1))
      parts-named (hide p x y) h = ap₂ ◌||◌ (set-named x) (ap₂ ◌||◌ (parts-named p h) (set-named y))
      parts-named (dec c ss) h = master_named c ss h.0 h.1

      master_named : (c : ℕ) (ss : Held) → c < F.charts → WithinBy F c ss
          → single_parts? (master_of F (drawn F c) ss) ≡ false
      master_named c nil l h = refl
      master_named c (snoc ss i t) l h =
          slaves-named c ss (F.state i) (typed_of F t) l h.0 (state_there c i l h.2 h.1)
          (parts-named t h.3)

      slaves-named : (c : ℕ) (ss : Held) (q : ℕ) (u : Chart) → c < F.charts → WithinBy F c ss
          → has (states_for c) q ≡ true → parts? u ≡ false → slave_parts? (states_for c) (slaves_of F ss q u) ≡ false
      slaves-named c nil q u l h e f = ap₂ ◌||◌ (ap not e) f
      slaves-named c (snoc ss i t) q u l h e f =
          ap₂ ◌||◌
          (slaves-named c ss (F.state i) (typed_of F t) l h.0 (state_there c i l h.2 h.1)
          (parts-named t h.3))
          (ap₂ ◌||◌ (ap not e) f)

    pub names-right : names? (chart_in F) ≡ false
    unfolding names?
    names-right =
        ap₂ ◌||◌ charts-named
        (ap₂ ◌||◌ (any_typed sequential? (λ c l. sequential_named c (F.chart c) (fits c l)))
        (parts-named (whole_of F) whole-within))
