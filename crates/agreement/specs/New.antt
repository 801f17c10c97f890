-- What the records of a rewritten file are, if F passes 1 to 11 and 40 does not apply: sets of 64 signals, transitions
-- between states, nodes with unused fields zero. In this order: calls; the nearest slave; charts; nodes.
use Rattle.std.specs.Prelude.{◌≡◌, Bool, ◌&&◌, cond, List, [], ◌∷◌, ◌++◌, map, length, get_or}
use Rattle.std.proofs.Math.Path.{refl}
use Rattle.std.proofs.Common.{sym}
use Rattle.std.proofs.Math.Bool.{true, false}
use Rattle.std.proofs.Math.Option.{Option, none, some}
use Prim.Native.Nat.{ℕ, zero, suc, ◌+◌, ◌^◌, ◌≤◌, ◌<◌}
use native.Mathlib.Omega.{arith}
use borrow.Author.Tests.{ltb-false}
use Rattle.std.proofs.Math.Dec.{lit<}
use Rattle.signals.specs.Mask.{◌∪◌, single}
use Rattle.signals.specs.Mask.Laws.{union_lt}
use Rattle.signals.specs.All.{single_lt}
use Rattle.layout.specs.declared.record.Transition.{Transition}
use Rattle.layout.specs.declared.record.Node.{Node}
use Rattle.meaning.specs.Numbers.{most_charts, most_states}
use Rattle.meaning.specs.Meaning.{Set, ∅, same}
use Rattle.meaning.specs.File.{File}
use Rattle.meaning.specs.Rewriting.{free, call, call_in, called, idle, idles, chart_with, nearest_slave, is_of, touches}
use Rattle.meaning.specs.Rewriting.{calls_by, calls_of, rewritten_chart, no_free?, count, start, new_name, composed}
use Rattle.meaning.specs.Rewriting.{made_by}
use Rattle.meaning.specs.Rewriting.{made_for, laid, new_node, rewrite}
use Rattle.meaning.specs.Laws.Names.{up, find, find_some, by_slave, by_node, nearest, enc, kap}
use Rattle.agreement.specs.Every.{Every, every_append, every_map}
use Rattle.agreement.specs.Encoded.{Small}
use Rattle.agreement.specs.Free.{union_small, call-small}
use Rattle.agreement.specs.Laid.{no_node, laid-length}
use Rattle.agreement.specs.Step.{Ready, nearest_is}

-- a file that passes 1 to 11, as far as its records count here
pub record Regular (F : File) : Type 0 where
  pub ready : Ready F
  pub some_chart : 0 < F.charts
  pub charts : F.charts ≤ most_charts
  pub most_states_lem : (c : ℕ) → c < F.charts → (F.chart c).states ≤ most_states
  pub initials : (c : ℕ) → c < F.charts → (F.chart c).initial < (F.chart c).states
  pub feedbacks : (c : ℕ) → c < F.charts → ((F.chart c).feedback < 2 ^ 64) × ((F.chart c).extra < 2 ^ 64)
  pub lists : (c : ℕ) → c < F.charts → Every Small (F.chart c).transitions
  pub states : (c : ℕ) → c < F.charts
      → Every (λ t. (t.from < (F.chart c).states) × (t.to < (F.chart c).states)) (F.chart c).transitions
  pub sets : (j : ℕ) → j < F.nodes → (F.x j < 2 ^ 64) × (F.y j < 2 ^ 64)

-- ── the nearest slave ──

nearest-below : (F : File) (f j i : ℕ) → nearest F f j ≡ some i → i < F.slaves
unfolding nearest
nearest-below F zero j i e = absurd (let z : ◌≡◌ {A = ℕ} 0 1 = cc in omega arith)
nearest-below F (suc f) j i e = go (by_slave F j) refl (by_node F j) e (λ k q. nearest-below F f k i q)
  where
    go : (a : Option ℕ) → by_slave F j ≡ a → (b : Option ℕ) → up a b (nearest F f) ≡ some i
        → ((k : ℕ) → nearest F f k ≡ some i → i < F.slaves)
        → i < F.slaves
    go (some i') p b e ih = let z : i' ≡ i = cc in let u = find_some F.slaves (λ i. same (F.node i) j) i' p in
        let v = u.0 in omega arith
    go none p (some k) e ih = ih k e
    go none p none e ih = absurd (let z : ◌≡◌ {A = ℕ} 0 1 = cc in omega arith)

pub kap-below : (F : File) (c i : ℕ) → kap F c ≡ some i → i < F.slaves
unfolding kap enc
kap-below F c i e = go (find F.nodes (λ k. same (F.kind k) 0 && same (F.a k) c)) e
  where
    go : (b : Option ℕ) → up none b (enc F) ≡ some i → i < F.slaves
    go (some k) e = nearest-below F F.nodes k i e
    go none e = absurd (let z : ◌≡◌ {A = ℕ} 0 1 = cc in omega arith)

module _ (F : File) (rg : Regular F) (room : no_free? F ≡ false) where
  -- ── calls ──

  -- a slave, if any, that is one of the file's
  abbrev pub Inside : Option ℕ → Type 0
  Inside none = Unit {0}
  Inside (some i) = i < F.slaves

  pub call_lt : (i : ℕ) → i < F.slaves → single (call F i) < 2 ^ 64
  unfolding no_free?
  call_lt i l =
      single_lt 64 (call F i) (call-small F i (let h = ltb-false (length (free F)) F.slaves room in omega arith))

  pub inside : (c : ℕ) → c < F.charts → Inside (nearest_slave F c)
  inside c l = go (nearest_slave F c) (sym (nearest_is F rg.ready c l))
    where
      go : (κ : Option ℕ) → kap F c ≡ κ → Inside κ
      go none e = tt
      go (some i) e = kap-below F c i e

  in_lt : (κ : Option ℕ) → Inside κ → call_in (call F) κ < 2 ^ 64
  unfolding call_in
  in_lt none h = lit< tt
  in_lt (some i) h = call_lt i h

  cond_lt : (b : Bool) (s : Set) → s < 2 ^ 64 → cond b s ∅ < 2 ^ 64
  cond_lt true s h = h
  cond_lt false s h = lit< tt

  by_lt : (c : ℕ) (t : Transition) → calls_by F c t < 2 ^ 64
  unfolding calls_by
  by_lt c t = union_small F.slaves _ (λ i l. cond_lt (is_of F c i && touches F t i) (single (call F i)) (call_lt i l))

  pub of_lt : (c : ℕ) → calls_of F c < 2 ^ 64
  unfolding calls_of
  of_lt c = union_small F.slaves _ (λ i l. cond_lt (is_of F c i) (single (call F i)) (call_lt i l))

  -- ── charts ──

  -- of the idle transitions: those of the states from s on, n of them
  every-idle : (P : Transition → Type 0) (κ : Option ℕ) → Inside κ → (s n : ℕ)
      → ((i q : ℕ) → i < F.slaves → s ≤ q → q < s + n → P (idle (call F) i q)) → Every P (idles (call F) κ s n)
  unfolding idles
  every-idle P none k s n h = tt
  every-idle P (some i) k s zero h = tt
  every-idle P (some i) k s (suc n) h = (
    h i s k (omega arith) (omega arith),
    every-idle P (some i) k (suc s) n (λ i q l a b. h i q l (omega arith) (omega arith)),
  )

  pub new_smalls : (c : ℕ) → c < F.charts → Every Small (rewritten_chart F c).transitions
  unfolding rewritten_chart chart_with called idle
  new_smalls c l = every_append Small (map (called (call F) κ (calls_by F c)) (F.chart c).transitions)
      (idles (call F) κ 0 (F.chart c).states)
      (every_map Small Small (called (call F) κ (calls_by F c))
      (λ t h. (
        union_lt 64 t.needed (call_in (call F) κ) h.0 (in_lt κ (inside c l)),
        h.1,
        union_lt 64 t.action (calls_by F c t) h.2 (by_lt c t),
      ))
      (F.chart c).transitions (rg.lists c l))
      (every-idle Small κ (inside c l) 0 (F.chart c).states (λ i q m a b. (lit< tt, call_lt i m, lit< tt)))
    where
      κ : Option ℕ
      κ = nearest_slave F c

  pub new-states : (c : ℕ) → c < F.charts
      → Every (λ t. (t.from < (F.chart c).states) × (t.to < (F.chart c).states)) (rewritten_chart F c).transitions
  unfolding rewritten_chart chart_with called idle
  new-states c l = every_append P (map (called (call F) κ (calls_by F c)) (F.chart c).transitions)
      (idles (call F) κ 0 (F.chart c).states)
      (every_map P P (called (call F) κ (calls_by F c)) (λ t h. h) (F.chart c).transitions (rg.states c l))
      (every-idle P κ (inside c l) 0 (F.chart c).states (λ i q m a b. (omega arith, omega arith)))
    where
      κ : Option ℕ
      κ = nearest_slave F c

      P : Transition → Type 0
      P t = (t.from < (F.chart c).states) × (t.to < (F.chart c).states)

  -- ── nodes ──

  -- by its kind: a chart that is there and unused fields zero; sets of 64 signals
  pub record Formed (d : Node) : Type 0 where
    pub x-small : d.x < 2 ^ 64
    pub y_small : d.y < 2 ^ 64
    pub kind : d.kind ≤ 2
    pub held : d.kind ≡ 0 → (d.a < F.charts) × (d.b ≡ 0) × (d.x ≡ ∅) × (d.y ≡ ∅)
    pub both : d.kind ≡ 1 → d.y ≡ ∅
    pub hidden : d.kind ≡ 2 → d.b ≡ 0

  abbrev AllFormed : List Node → Type 0
  AllFormed [] = Unit {0}
  AllFormed (d ∷ ds) = Formed d × AllFormed ds

  formed_append : (p q : List Node) → AllFormed p → AllFormed q → AllFormed (p ++ q)
  formed_append [] q h k = k
  formed_append (d ∷ p) q h k = (h.0, formed_append p q h.1 k)

  formed_at : (ds : List Node) (p : ℕ) → p < length ds → AllFormed ds → Formed (get_or ds p no_node)
  formed_at [] p l h = absurd (omega arith)
  formed_at (d ∷ ds) zero l h = h.0
  formed_at (d ∷ ds) (suc p) l h = formed_at ds p (omega arith) h.1

  chart_node_lem : (c : ℕ) → c < F.charts → Formed (record { kind = 0; a = c; b = 0; x = ∅; y = ∅ })
  chart_node_lem c l = record {
    x-small = lit< tt;
    y_small = lit< tt;
    kind = omega arith;
    held = λ e. (l, refl, refl, refl);
    both = λ e. refl;
    hidden = λ e. refl;
  }

  comp_node : (p q : ℕ) (x : Set) → x < 2 ^ 64 → Formed (record { kind = 1; a = p; b = q; x = x; y = ∅ })
  comp_node p q x l = record {
    x-small = l;
    y_small = lit< tt;
    kind = omega arith;
    held = λ e. absurd (omega arith);
    both = λ e. refl;
    hidden = λ e. absurd (omega arith);
  }

  hide_node : (p : ℕ) (x y : Set) → x < 2 ^ 64 → y < 2 ^ 64 → Formed (record { kind = 2; a = p; b = 0; x = x; y = y })
  hide_node p x y l m = record {
    x-small = l;
    y_small = m;
    kind = omega arith;
    held = λ e. absurd (omega arith);
    both = λ e. absurd (omega arith);
    hidden = λ e. refl;
  }

  formed_composed : (c at k : ℕ) → c < F.charts → AllFormed (composed F c at k)
  unfolding composed
  formed_composed c at zero l = tt
  formed_composed c at (suc i) l = go (is_of F c i) (formed_composed c at i l)
    where
      go : (d : Bool) → AllFormed (composed F c at i)
          → AllFormed (cond d (composed F c at i ++ (record {
            kind = 1;
            a = at + count F c i;
            b = new_name F (F.node i);
            x = (F.chart c).feedback ∪ calls_of F c;
            y = ∅;
          } ∷ [])) (composed F c at i))
      go true h = formed_append (composed F c at i) _ h (
        comp_node (at + count F c i) (new_name F (F.node i)) ((F.chart c).feedback ∪ calls_of F c)
            (union_lt 64 (F.chart c).feedback (calls_of F c) (rg.feedbacks c l).0 (of_lt c)),
        tt,
      )
      go false h = h

  formed_made : (j : ℕ) → j < F.nodes → AllFormed (made_for F j)
  unfolding made_for
  formed_made j l = go (F.kind j) (count F (F.a j) F.slaves) refl
    where
      go : (k s : ℕ) → F.kind j ≡ k → AllFormed (made_by F k s j)
      go zero zero e = (chart_node_lem (F.a j) (rg.ready.sound.chart_there j l e), tt)
      go zero (suc s) e = (
        chart_node_lem (F.a j) (rg.ready.sound.chart_there j l e),
        formed_append (composed F (F.a j) (start F j) F.slaves) _
            (formed_composed (F.a j) (start F j) F.slaves (rg.ready.sound.chart_there j l e)) (
              hide_node (start F j + suc s) (calls_of F (F.a j)) (calls_of F (F.a j)) (of_lt (F.a j)) (of_lt (F.a j)),
              tt,
            ),
      )
      go (suc zero) s e = (comp_node (new_name F (F.a j)) (new_name F (F.b j)) (F.x j) (rg.sets j l).0, tt)
      go (suc (suc k)) s e = (hide_node (new_name F (F.a j)) (F.x j) (F.y j) (rg.sets j l).0 (rg.sets j l).1, tt)

  formed_laid : (n : ℕ) → n ≤ F.nodes → AllFormed (laid F n)
  unfolding laid
  formed_laid zero l = tt
  formed_laid (suc n) l = formed_append (laid F n) (made_for F n) (formed_laid n (omega arith)) (formed_made n l)

  pub formed : (p : ℕ) → p < (rewrite F).nodes → Formed (new_node F p)
  formed p l = formed_at (laid F F.nodes) p (let e = laid-length F F.nodes in omega arith)
      (formed_laid F.nodes (omega arith))
