-- Which slaves a part has: a chart that is not typed in it has none there (`chart-none`, `lay_none`), and a master's
-- own come by their states (`own_is`, `own-level`); how often a chart is typed in a part (`times_of`, `once_typed`).
use Rattle.std.specs.Prelude.{◌≡◌, refl, Bool, true, false, ◌||◌, ℕ, ◌+◌, ◌≤◌, ◌<◌, eqb, length}
use Rattle.std.proofs.Common.{sym, ap, ap₂, ◌∙◌, subst, arith, eq-eqb, eqb-true}
use mathlib.Core.List.{List, [], ◌∷◌, ◌++◌, map, map-append, Permᴰ}
use Rattle.layout.specs.declared.record.Slave.{Slave}
use Rattle.meaning.specs.Each.Laws.{each_head, each_tail}
use Rattle.meaning.specs.Sums.{one}
use Rattle.meaning.specs.Sums.Laws.{or_left, or_right}
use Rattle.notation.specs.Syntax.{Sequential, Single, sequential, decomposed, hidden, Chart, single, composed, Slaves}
use Rattle.notation.specs.Syntax.{first_slave, more_slaves}
use Rattle.reading.specs.Numbers.{named_states}
use Rattle.reading.specs.Names.{any, has, twice?, name_of, sequentials_in, sequentials_of, sequentials_of_slaves}
use Rattle.reading.specs.Meant.{with_key, sorted_by, last_of, Placed, lay_slaves, with_node, beside, lay_hidden}
use Rattle.reading.specs.Meant.{lay_both, lay_single, lay_chart, placed}
use Rattle.forms.specs.Laws.Slaves.{Pair}
use Rattle.outline.specs.Tree.{refused?, refused_slaves?}
use Rattle.outline.specs.Laws.Sorted.{Each, none, more, each_append, each_sorted, total, total-append, total_sorted}
use Rattle.walk.specs.Laws.Order.{key_append}
use Rattle.roster.specs.Laws.Sorted.{sorted_perm}
use Rattle.faithful.specs.Faithful.{pairs_of, Rising}
use Rattle.faithful.specs.Laws.Order.{with_here, with-not, NotFalling, map_sorted}

-- ── slaves as pairs ──

abbrev pub placed_of : Pair → Placed
placed_of p = record { at = p.state; part = λ k. lay_chart p.chart k }

pairs_placed : (ps : Slaves) → placed ps ≡ map placed_of (pairs_of ps)
unfolding placed pairs_of
pairs_placed (first_slave q t) = refl
pairs_placed (more_slaves ps q t) =
    ap (◌++ (record { at = q; part = λ k. lay_chart t k } ∷ [])) (pairs_placed ps)
    ∙ sym (map-append placed_of (pairs_of ps) _)

-- by rising state
abbrev pub by_state : Slaves → List Pair
by_state ps = sorted_by (λ p. p.state) named_states (pairs_of ps)

pub typed_pairs : (ps : Slaves) → Each (λ p. p.state < named_states) (pairs_of ps) → Permᴰ (by_state ps) (pairs_of ps)
typed_pairs ps e = sorted_perm (λ p. p.state) named_states (pairs_of ps) e

pub by_state_lem : (ps : Slaves) → sorted_by (λ p. p.at) named_states (placed ps) ≡ map placed_of (by_state ps)
by_state_lem ps =
    ap (sorted_by (λ p. p.at) named_states) (pairs_placed ps)
    ∙ map_sorted placed_of (λ p. p.at) named_states (pairs_of ps)

-- states that have a name
pub states-below : (lacks : ℕ → Bool) → ((q : ℕ) → lacks q ≡ false → q < named_states) → (ps : Slaves)
    → refused_slaves? lacks ps ≡ false → Each (λ p. p.state < named_states) (pairs_of ps)
unfolding refused_slaves? pairs_of
states-below lacks h (first_slave q t) e = more (h q (or_left (lacks q) (refused? t) e)) none
states-below lacks h (more_slaves ps q t) e =
    each_append (states-below lacks h ps (or_left (refused_slaves? lacks ps) (lacks q || refused? t) e))
    (more (h q (or_left (lacks q) (refused? t) (or_right (refused_slaves? lacks ps) (lacks q || refused? t) e))) none)

-- ── how often a chart is typed ──

abbrev pub times_in : ℕ → List Sequential → ℕ
times_in c l = total (λ s. one (eqb (name_of s) c)) l

abbrev pub times_of : ℕ → Chart → ℕ
times_of c t = times_in c (sequentials_of t)

abbrev pub times_all : ℕ → List Pair → ℕ
times_all c l = total (λ p. times_of c p.chart) l

pairs_times : (c : ℕ) (ps : Slaves) → times_all c (pairs_of ps) ≡ times_in c (sequentials_of_slaves ps)
unfolding total pairs_of sequentials_of_slaves
pairs_times c (first_slave q t) = omega arith
pairs_times c (more_slaves ps q t) =
    total-append (λ p. times_of c p.chart) (pairs_of ps) _
    ∙ omega (
      arith,
      pairs_times c ps,
      total-append (λ s. one (eqb (name_of s) c)) (sequentials_of_slaves ps) (sequentials_of t),
    )

pub state_times : (c : ℕ) (ps : Slaves) → Each (λ p. p.state < named_states) (pairs_of ps)
    → times_all c (by_state ps) ≡ times_in c (sequentials_of_slaves ps)
state_times c ps e =
    total_sorted (λ p. p.state) (λ p. times_of c p.chart) named_states (pairs_of ps) e ∙ pairs_times c ps

-- no name stands twice
lacks-times : (c : ℕ) (l : List Sequential) → has (map name_of l) c ≡ false → times_in c l ≡ 0
unfolding has any total
lacks-times c [] e = refl
lacks-times c (s ∷ l) e =
    rw (or_left (eqb (name_of s) c) (has (map name_of l) c) e)
    (let i = lacks-times c l (or_right (eqb (name_of s) c) (has (map name_of l) c) e) in omega arith)

pub once_typed : (l : List Sequential) → twice? (map name_of l) ≡ false → (c : ℕ) → times_in c l ≤ 1
unfolding twice? total
once_typed [] e c = omega arith
once_typed (s ∷ l) e c = go (eqb (name_of s) c) refl (once_typed l (or_right (has (map name_of l) (name_of s)) _ e) c)
  where
    go : (b : Bool) → eqb (name_of s) c ≡ b → times_in c l ≤ 1 → one b + times_in c l ≤ 1
    go true q i =
        let z = lacks-times c l (subst (λ k. has (map name_of l) k ≡ false) (eqb-true (name_of s) c q) (or_left _ _ e))
        in
        omega arith
    go false q i = omega arith

pub not_named : (c d : ℕ) → one (eqb d c) ≡ 0 → d ≡ c → ⊥
not_named c d e q = let z : one (eqb d c) ≡ 1 = rw (eq-eqb d c q) in omega arith

pub named_so : (c : ℕ) → one (eqb c c) ≡ 1
named_so c = rw (eq-eqb c c refl)

-- ── charts that are not typed in a part ──

abbrev pub chart_of : Slave → ℕ
chart_of r = r.chart

-- the slave of the master m that a pair is, where the first node of its part has the number k; and the number behind
abbrev pub slave_for : ℕ → Pair → ℕ → Slave
slave_for m p k = record { chart = m; state = p.state; node = last_of k (lay_chart p.chart k) }

abbrev pub behind : Pair → ℕ → ℕ
behind p k = k + length (lay_chart p.chart k).nodes

with_nil : (c : ℕ) → with_key chart_of c [] ≡ []
unfolding with_key
with_nil c = refl

-- chart c has no slave in the part of a pair
abbrev pub Without : ℕ → Pair → Type 0
Without c p = (k : ℕ) → with_key chart_of c (lay_chart p.chart k).slaves ≡ []

pub lay_none : (c m : ℕ) → (m ≡ c → ⊥) → (l : List Pair) → Each (Without c) l → (k : ℕ)
    → with_key chart_of c (lay_slaves m (map placed_of l) k).slaves ≡ []
unfolding lay_slaves with_key
lay_none c m n [] e k = refl
lay_none c m n (p ∷ l) (more h e) k =
    let rest = (lay_slaves m (map placed_of l) (behind p k)).slaves in
    key_append chart_of c (lay_chart p.chart k).slaves (slave_for m p k ∷ rest)
    ∙ ap₂ ◌++◌ (h k) (with-not chart_of c (slave_for m p k) rest n ∙ lay_none c m n l e (behind p k))

mutual
  unfolding lay_single lay_hidden lay_both with_node beside sequentials_in pairs_of total

  single-none : (c : ℕ) (s : Single) → times_in c (sequentials_in s) ≡ 0 → (k : ℕ)
      → with_key chart_of c (lay_single s k).slaves ≡ []
  single-none c (sequential s) e k = with_nil c
  single-none c (decomposed s ps) e k =
      ap (λ l. with_key chart_of c (lay_slaves (name_of s) l k).slaves) (by_state_lem ps)
      ∙ lay_none c (name_of s) (not_named c (name_of s) (omega arith)) (by_state ps)
      (each_sorted (λ p. p.state) named_states (pairs_of ps) (slaves-none c ps (omega arith))) k
  single-none c (hidden x t y) e k = chart-none c t e k

  pub chart-none : (c : ℕ) (t : Chart) → times_of c t ≡ 0 → (k : ℕ) → with_key chart_of c (lay_chart t k).slaves ≡ []
  chart-none c (single s) e k = single-none c s e k
  chart-none c (composed a x b) e k =
      let f = total-append (λ s. one (eqb (name_of s) c)) (sequentials_of a) (sequentials_of b) in
      key_append chart_of c (lay_chart a k).slaves (lay_chart b (k + length (lay_chart a k).nodes)).slaves
      ∙ ap₂ ◌++◌ (chart-none c a (omega arith) k) (chart-none c b (omega arith) (k + length (lay_chart a k).nodes))

  slaves-none : (c : ℕ) (ps : Slaves) → times_in c (sequentials_of_slaves ps) ≡ 0 → Each (Without c) (pairs_of ps)
  slaves-none c (first_slave q t) e = more (λ k. chart-none c t e k) none
  slaves-none c (more_slaves ps q t) e =
      let f = total-append (λ s. one (eqb (name_of s) c)) (sequentials_of_slaves ps) (sequentials_of t) in
      each_append (slaves-none c ps (omega arith)) (more (λ k. chart-none c t (omega arith) k) none)

pub all_none : (c : ℕ) (l : List Pair) → times_all c l ≡ 0 → Each (Without c) l
unfolding total
all_none c [] e = none
all_none c (p ∷ l) e = more (λ k. chart-none c p.chart (omega arith) k) (all_none c l (omega arith))

-- ── the slaves of a master ──

-- those of the master m, where the first of their nodes has the number k
unfoldable pub own : ℕ → List Pair → ℕ → List Slave
own m [] k = []
own m (p ∷ l) k = slave_for m p k ∷ own m l (behind p k)

pub own_is : (m : ℕ) (l : List Pair) → Each (Without m) l → (k : ℕ)
    → with_key chart_of m (lay_slaves m (map placed_of l) k).slaves ≡ own m l k
unfolding lay_slaves with_key own
own_is m [] e k = refl
own_is m (p ∷ l) (more h e) k =
    let rest = (lay_slaves m (map placed_of l) (behind p k)).slaves in
    key_append chart_of m (lay_chart p.chart k).slaves (slave_for m p k ∷ rest)
    ∙ ap₂ ◌++◌ (h k) (with_here chart_of m (slave_for m p k) rest refl
    ∙ ap (slave_for m p k ∷◌) (own_is m l e (behind p k)))

abbrev pub state_of : Slave → ℕ
state_of r = r.state

pub own_each : (P : ℕ → Type 0) (m : ℕ) (l : List Pair) (k : ℕ) → Each (λ p. P p.state) l
    → Each (λ r. P r.state) (own m l k)
unfolding own
own_each P m [] k e = none
own_each P m (p ∷ l) k (more h e) = more h (own_each P m l (behind p k) e)

pub own-level : (m : ℕ) (l : List Pair) (k : ℕ) → NotFalling (λ p. p.state) l → NotFalling state_of (own m l k)
unfolding own NotFalling
own-level m [] k r = tt
own-level m (p ∷ l) k r =
    (own_each (λ q. p.state ≤ q) m l (behind p k) r.0, own-level m l (behind p k) r.1)

-- and back: the pairs rise if the slaves do
each_own : (P : ℕ → Type 0) (m : ℕ) (l : List Pair) (k : ℕ) → Each (λ r. P r.state) (own m l k)
    → Each (λ p. P p.state) l
unfolding own
each_own P m [] k e = none
each_own P m (p ∷ l) k e = more (each_head e) (each_own P m l (behind p k) (each_tail e))

pub pairs_rise : (m : ℕ) (l : List Pair) (k : ℕ) → Rising state_of (own m l k) → Rising (λ p. p.state) l
unfolding own Rising
pairs_rise m [] k r = tt
pairs_rise m (p ∷ l) k r =
    (each_own (λ q. p.state < q) m l (behind p k) r.0, pairs_rise m l (behind p k) r.1)
