-- What the rewritten file has, counted. In this order: idle transitions; a chart's transitions; its slaves; the nodes
-- that are made for nodes.
use Rattle.std.specs.Prelude.{◌≡◌, Bool, true, false, cond}
use Rattle.std.proofs.Math.Path.{refl, sym, ap, ap₂}
use Rattle.std.proofs.Common.{◌∙◌, zero-add, add-one, arith, ne_eqb, lit<}
use Rattle.std.proofs.Math.Option.{Option, none, some}
use mathlib.Core.List.{List, [], ◌∷◌, ◌++◌, map}
use Rattle.std.proofs.Math.Logic.{⊎_elim}
use Prim.Native.Nat.{ℕ, zero, suc, ◌+◌, ◌^◌, ◌≤◌, ◌<◌}
use Rattle.std.proofs.Math.Nat.{one-le-pow}
use Rattle.std.proofs.Math.ListN.{length}
use Rattle.signals.specs.Mask.{single}
use Rattle.layout.specs.Body.{head_at, slave_at, transitions_of}
use Rattle.layout.specs.Body.Laws.{length_from}
use Rattle.layout.specs.declared.body.Shape.{Shape}
use Rattle.layout.specs.declared.record.Head.{Head}
use Rattle.layout.specs.declared.record.Slave.{Slave}
use Rattle.layout.specs.declared.record.Transition.{Transition}
use Rattle.meaning.specs.Sums.{one}
use Rattle.meaning.specs.Sums.Laws.{tally-more}
use Rattle.meaning.specs.Meaning.{Set, same, Chart}
use Rattle.meaning.specs.File.{File, file_at, chart_of}
use Rattle.meaning.specs.Check.Laws.{eq_or-not}
use Rattle.meaning.specs.Laws.Bools.{same_refl, same_≢}
use Rattle.meaning.specs.Rewriting.{call, call_in, called, idle, idles, chart_with, nearest_slave, calls_by}
use Rattle.meaning.specs.Rewriting.{rewritten_chart}
use Rattle.meaning.specs.Rewriting.{is_of, count, before_last, start, leaving_in}
use Rattle.agreement.specs.Charts.{places, places_none}
use Rattle.agreement.specs.Laid.{start_suc}
use Rattle.allocation.specs.Known.Laws.{is_of_lem, is_not}
use Rattle.growth.specs.Growth.{idle_count}

-- ── idle transitions ──

single_some : (i : ℕ) → same (single i) 0 ≡ false
unfolding single same
single_some i = ne_eqb (2 ^ i) 0 (λ (e : 2 ^ i ≡ 0). omega (arith, e, one-le-pow i 2 (lit< tt)))

pub count_most : (κ : Set) (m : ℕ) → idle_count κ m ≤ m
unfolding idle_count
count_most κ m = go (same κ 0)
  where
    go : (b : Bool) → cond b 0 m ≤ m
    go true = omega arith
    go false = omega arith

module _ (sig : ℕ → ℕ) where
  pub count_none : (m : ℕ) → idle_count (call_in sig none) m ≡ 0
  unfolding idle_count call_in same
  count_none m = refl

  pub count_some : (i m : ℕ) → idle_count (call_in sig (some i)) m ≡ m
  unfolding idle_count call_in
  count_some i m = rw (single_some (sig i))

  -- from a state below or in their range
  idles-before : (i b n s : ℕ) → s < b → leaving_in (idles sig (some i) b n) s ≡ 0
  unfolding idles leaving_in idle
  idles-before i b zero s h = refl
  idles-before i b (suc n) s h =
      ap₂ ◌+◌ (ap one (same_≢ b s (λ e. omega arith))) (idles-before i (suc b) n s (omega arith))

  idles_once : (i b n s : ℕ) → b ≤ s → s < b + n → leaving_in (idles sig (some i) b n) s ≡ 1
  unfolding idles leaving_in idle
  idles_once i b zero s h l = absurd (omega arith)
  idles_once i b (suc n) s h l =
      ⊎_elim
      (λ e. ap₂ ◌+◌ (ap one (ap (λ (k : ℕ). same b k) (sym e) ∙ same_refl b))
      (idles-before i (suc b) n s (omega arith)))
      (λ e. ap₂ ◌+◌ (ap one (same_≢ b s e)) (idles_once i (suc b) n s (omega arith) (omega arith)))
      (eq_or-not b s)

  -- ── a chart's transitions ──

  leaving-own : (κ : Option ℕ) (T : Transition → Set) (ts r : List Transition) (s : ℕ)
      → leaving_in (map (called sig κ T) ts ++ r) s ≡ leaving_in ts s + leaving_in r s
  unfolding leaving_in called
  leaving-own κ T [] r s = sym (zero-add (leaving_in r s))
  leaving-own κ T (t ∷ ts) r s = omega (arith, leaving-own κ T ts r s)

  leaving-with : (κ : Option ℕ) (T : Transition → Set) (C : Chart) (s : ℕ) → s < C.states
      → leaving_in (chart_with sig κ T C).transitions s ≡ leaving_in C.transitions s + idle_count (call_in sig κ) 1
  unfolding chart_with idles leaving_in
  leaving-with none T C s l =
      leaving-own none T C.transitions [] s ∙ ap (λ (k : ℕ). leaving_in C.transitions s + k) (sym (count_none 1))
  leaving-with (some i) T C s l =
      leaving-own (some i) T C.transitions (idles sig (some i) 0 C.states) s
      ∙ ap (λ (k : ℕ). leaving_in C.transitions s + k)
      (idles_once i 0 C.states s (omega arith) (omega arith) ∙ sym (count_some i 1))

  length-with : (κ : Option ℕ) (T : Transition → Set) (C : Chart)
      → length (chart_with sig κ T C).transitions ≡ length C.transitions + idle_count (call_in sig κ) C.states
  length-with none T C = places_none sig T C ∙ omega (arith, count_none C.states)
  length-with (some i) T C = places sig i T C ∙ omega (arith, count_some i C.states)

-- κ is the call signal of the nearest slave of chart c
module _ (F : File) (c : ℕ) (κ : Set) (is : κ ≡ call_in (call F) (nearest_slave F c)) where
  pub leaving_is : (s : ℕ) → s < (F.chart c).states
      → leaving_in (rewritten_chart F c).transitions s ≡ leaving_in (F.chart c).transitions s + idle_count κ 1
  unfolding rewritten_chart
  leaving_is s l = leaving-with (call F) (nearest_slave F c) (calls_by F c) (F.chart c) s l
      ∙ ap (λ (k : Set). leaving_in (F.chart c).transitions s + idle_count k 1) (sym is)

  length-is : length (rewritten_chart F c).transitions
      ≡ length (F.chart c).transitions + idle_count κ (F.chart c).states
  unfolding rewritten_chart
  length-is = length-with (call F) (nearest_slave F c) (calls_by F c) (F.chart c)
      ∙ ap (λ (k : Set). length (F.chart c).transitions + idle_count k (F.chart c).states) (sym is)

-- the same by its head, as it is read
pub length_rewritten : (n : Shape) (b : List ℕ) (c : ℕ) {h : Head} {κ : Set} → h ≡ head_at n b c
    → κ ≡ call_in (call (file_at n b)) (nearest_slave (file_at n b) c)
    → length (rewritten_chart (file_at n b) c).transitions ≡ h.transitions + idle_count κ h.states
unfolding file_at chart_of transitions_of
length_rewritten n b c {h} {κ} e k = length-is (file_at n b) c κ k ∙ rw (length_from, e)

-- ── a chart's slaves ──

-- r is slave i
module _ (n : Shape) (b : List ℕ) (c i : ℕ) {r : Slave} (e : r ≡ slave_at n b i) where
  pub count-own : r.chart ≡ c → count (file_at n b) c i + 1 ≡ count (file_at n b) c (i + 1)
  count-own h =
      let q : one (is_of (file_at n b) c i) ≡ 1 = ap one (is_of_lem n b c i e h) in
      omega (arith, tally-more i (λ i. one (is_of (file_at n b) c i)))

  pub count-other : (r.chart ≡ c → ⊥) → count (file_at n b) c i ≡ count (file_at n b) c (i + 1)
  count-other h =
      let q : one (is_of (file_at n b) c i) ≡ 0 = ap one (is_not n b c i e h) in
      omega (arith, tally-more i (λ i. one (is_of (file_at n b) c i)))

-- ── the nodes made for nodes ──

pub nodes_none : (F : File) → 0 ≡ start F 0
unfolding start
nodes_none F = refl

pub nodes_more : (F : File) (j : ℕ) {s : ℕ} → s ≡ start F j → s + (before_last F j + 1) ≡ start F (j + 1)
nodes_more F j {s} e = ap₂ ◌+◌ e (add-one (before_last F j)) ∙ sym (start_suc F j) ∙ ap (start F) (sym (add-one j))
