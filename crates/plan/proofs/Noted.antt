-- The charts' nearest enclosing slaves, noted in a search's small numbers. In order: a node's chart; the charts of the
-- nodes passed; a file without slaves (nearest-none). Assumes nothing.
use mathlib.Core.Path.{◌≡◌, refl, sym, ap, ◌∙◌}
use mathlib.Core.Bool.{◌&&◌}
use mathlib.Core.List.{List}
use mathlib.Core.Logic.{◌≢◌, ⊎_elim}
use mathlib.Core.Option.{Option, none, some}
use Prim.Native.Nat.{ℕ, ◌+◌, ◌≤◌, ◌<◌}
use native.Mathlib.Omega.{arith}
use borrow.Author.Count.{below_more}
use lib.ListN.{length, get_or, set, length-set}
use lib.Seq.{get_or-set_same, get_or-set_other}
use Rattle.layout.specs.declared.record.Node.{Node}
use Rattle.meaning.specs.Numbers.{most_charts}
use Rattle.meaning.specs.Meaning.{same}
use Rattle.meaning.specs.File.{File}
use Rattle.meaning.specs.Check.Nodes.{Sound}
use Rattle.meaning.specs.Check.Laws.{eq_or-not}
use Rattle.meaning.specs.Laws.Names.{up, find, enc, kap, enc-below, placed, joined}
use Rattle.cells.specs.Table.{master_cell, slave_state_cell, small_size, master_at, slave_state_at, put_nearest}
use Rattle.nesting.specs.Nearest.{master_by, state_by}
use Rattle.nesting.proofs.Records.{Is}
use Rattle.plan.specs.Noted.{Noted, NearestIn, Notes, NotedNone}

module _ (F : File) (s : Sound F) where
  -- ── the chart of node j ──

  module _ {j : ℕ} (p : j < F.nodes) {n : Node} (is : Is F j n) {l : List ℕ} where
    pub notes_none : (n.kind ≡ 0 → ⊥) → Notes F j l l
    notes_none k = record { noted = λ e. absurd (k (is.kind ∙ e)); stays = λ c u h. h }

    pub notes_chart : n.kind ≡ 0 → F.charts ≤ most_charts → length l ≡ small_size → {x y : ℕ}
        → x ≡ master_by F (enc F j)
        → y ≡ state_by F (enc F j) → Notes F j l (put_nearest l n.a x y)
    notes_chart e₀ u v {x} {y} ex ey =
        record {
          noted = λ e. here (F.a j) (sym is.a);
          stays = λ c t h. ⊎_elim (here c)
              (λ z. (
                get_or-set_other l' (slave_state_cell n.a) (master_cell c) y 0 (λ w. apart c t w)
                    ∙ get_or-set_other l (master_cell n.a) (master_cell c) x 0 (λ w. z (omega arith)) ∙ h.0,
                get_or-set_other l' (slave_state_cell n.a) (slave_state_cell c) y 0 (λ w. z (omega arith))
                    ∙ get_or-set_other l (master_cell n.a) (slave_state_cell c) x 0 (λ w. apart' c w) ∙ h.1,
              )) (eq_or-not c n.a);
        }
      where
        k : F.kind j ≡ 0
        k = sym is.kind ∙ e₀

        b : n.a < F.charts
        b = let z = is.a in let t = s.chart_there j p k in omega arith

        l' : List ℕ
        l' = set l (master_cell n.a) x

        apart : (c : ℕ) → c < F.charts → master_cell c ≡ slave_state_cell n.a → ⊥
        apart c t w = omega arith

        apart' : (c : ℕ) → slave_state_cell c ≡ master_cell n.a → ⊥
        apart' c w = let z = b in omega arith

        here : (c : ℕ) → c ≡ n.a → Noted F (set l' (slave_state_cell n.a) y) c
        here c z =
            let t = b in
            let o : kap F c ≡ enc F j = ap (kap F) (z ∙ is.a)
            ∙ ((placed F s.ordered s.rule10 s.chart_there s.node-there).hold j p k).1 in (
              get_or-set_other l' (slave_state_cell n.a) (master_cell c) y 0 (λ w. omega arith)
                  ∙ ap (λ (i : ℕ). get_or l' (master_cell i) 0) z
                  ∙ get_or-set_same l (master_cell n.a) x 0 (omega arith) ∙ ex
                  ∙ ap (master_by F) (sym o),
              ap (λ (i : ℕ). get_or (set l' (slave_state_cell n.a) y) (slave_state_cell i) 0) z ∙ get_or-set_same l'
                  (slave_state_cell n.a) y 0 (simp length-set (omega arith)) ∙ ey ∙ ap (state_by F) (sym o),
            )

  -- ── the charts of the first j nodes ──

  abbrev pub NotedTo : ℕ → List ℕ → Type 0
  NotedTo j m = (k : ℕ) → k < j → F.kind k ≡ 0 → Noted F m (F.a k)

  pub noted_more : (j : ℕ) (m m' : List ℕ) → j < F.nodes → NotedTo j m → Notes F j m m' → NotedTo (j + 1) m'
  noted_more j m m' p h f =
      below_more (λ (k : ℕ). F.kind k ≡ 0 → Noted F m' (F.a k)) j
      (λ k u e. f.stays (F.a k) (s.chart_there k (omega arith) e) (h k u e)) f.noted

  pub noted_done : (j : ℕ) (m : List ℕ) → F.nodes ≤ j → NotedTo j m → NearestIn F m
  noted_done j m q h c p = let u = (joined F s.ordered s.rule10 s.chart_there s.node-there).holder c p in
      let z : F.a u.0 ≡ c = u.3 in let t = u.1 in
      let r : Noted F m (F.a u.0) = h u.0 (omega arith) u.2 in rw z at r

-- ── no slave at all ──

module _ (F : File) (z : F.slaves ≡ 0) where
  enc-none : (j : ℕ) → enc F j ≡ none
  enc-none j = go (enc F j) refl
    where
      go : (κ : Option ℕ) → enc F j ≡ κ → κ ≡ none
      go none e = refl
      go (some i) e = absurd (let h = enc-below F j i e in omega arith)

  kap-none : (c : ℕ) → kap F c ≡ none
  unfolding kap
  kap-none c = go (find F.nodes (λ k. same (F.kind k) 0 && same (F.a k) c))
    where
      go : (κ : Option ℕ) → up none κ (enc F) ≡ none
      go none = refl
      go (some k) = enc-none k

  pub nearest-none : F.charts ≤ most_charts → (l : List ℕ) → NotedNone most_charts l → NearestIn F l
  unfolding master_by state_by
  nearest-none few l h c p = let g = h c (omega arith) in rw (kap-none c) g

pub noted_none-more : (c : ℕ) (l : List ℕ) → c < most_charts → length l ≡ small_size → NotedNone c l
    → NotedNone (c + 1) (put_nearest l c 255 0)
noted_none-more c l p n h =
    below_more (λ (k : ℕ). (master_at (put_nearest l c 255 0) k ≡ 255) × (slave_state_at (put_nearest l c 255 0) k ≡ 0))
    c
    (λ k q. let g = h k q in (
      off (master_cell k) (λ e. omega arith) (λ e. omega arith) ∙ g.0,
      off (slave_state_cell k) (λ e. omega arith) (λ e. omega arith) ∙ g.1,
    )) (
      get_or-set_other (set l (master_cell c) 255) (slave_state_cell c) (master_cell c) 0 0 (λ e. omega arith)
          ∙ get_or-set_same l (master_cell c) 255 0 (omega arith),
      get_or-set_same (set l (master_cell c) 255) (slave_state_cell c) 0 0
          (rw (length-set l (master_cell c) 255) (omega arith)),
    )
  where
    off : (i : ℕ) → i ≢ master_cell c → i ≢ slave_state_cell c → get_or (put_nearest l c 255 0) i 0 ≡ get_or l i 0
    off i a b =
        get_or-set_other (set l (master_cell c) 255) (slave_state_cell c) i 0 0 b
        ∙ get_or-set_other l (master_cell c) i 255 0 a
