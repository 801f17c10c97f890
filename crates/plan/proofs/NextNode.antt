-- One node more is wired, by its kind. In order: new tables; tests, masks that are put; what a chart
-- has once node j is wired (latest-by); a hiding; feedback over a part whose rows are there (Ready); a composition; a
-- chart and its slaves; the sets of charts; the whole.
use mathlib.Core.Path.{◌≡◌, refl, sym, ap, ap₂, subst, ◌∙◌}
use mathlib.Core.Bool.{Bool, true, false, ◌&&◌, ◌||◌, cond, or_comm}
use mathlib.Core.List.{List, [], ◌∷◌}
use Prim.Native.Nat.{ℕ, zero, suc, ◌+◌, ◌-◌, ◌^◌, ◌≤◌, ◌<◌}
use native.Mathlib.Omega.{arith}
use borrow.Author.Count.{below_more}
use lib.ListN.{length, get_or, set, length-set, replicate, length-replicate, get_or-replicate}
use lib.Seq.{get_or-set_same, get_or-set_other}
use Rattle.signals.specs.Mask.{◌∪◌, ◌∩◌, ◌∖◌, bit}
use Rattle.signals.specs.Mask.Laws.{bit_union, below_bits}
use Rattle.signals.specs.Decide.{sets, A, B, C, D, ∅ₑ, ◌∪ₑ◌, ◌∩ₑ◌, ◌≐◌}
use Rattle.meaning.specs.Numbers.{most_charts}
use Rattle.meaning.specs.Sums.{any_up_to}
use Rattle.meaning.specs.Sums.Laws.{or_left}
use Rattle.meaning.specs.Meaning.{Set, Tree, Slaves, nil, snoc, same}
use Rattle.meaning.specs.File.{File, Has, HasS, whole, gather, tree_of, whole_of}
use Rattle.meaning.specs.Check.Nodes.{Treed, Sound, has-below}
use Rattle.meaning.specs.Laws.Bools.{not-true, same→≡, same→≢}
use Rattle.meaning.specs.Laws.Trees.{tree₀, tree₁, tree₂}
use Rattle.cells.specs.Table.{back_cell, up_cell, back_at, up_at, masks_for}
use Rattle.wiring.specs.Reach.{full, down, up, back, up_off}
use Rattle.wiring.specs.ByKind.{some_of}
use Rattle.wiring.specs.Stand.{Parted, parted, stands}
use Rattle.wiring.specs.Latest.{latest, down_to, up_to, back_to, latest_in, latest_out}
use Rattle.wiring.specs.Latest.{down₀_made, up₀_made, back₀_made, down₁_made, up₁_made, back₁_made, down₂_made}
use Rattle.wiring.specs.Latest.{up₂_made, back₂_made}
use Rattle.plan.specs.Noted.{NearestIn}
use Rattle.plan.specs.Plan.{Wired}
use Rattle.plan.specs.ByNode.{Blank, fed_at, Feeds, Hides, inside, Charted, ChartsOf, Sets, WiredTo}

-- ── new tables ──

pub wired_none : (F : File) (l : List ℕ) → F.charts ≤ most_charts → Blank l → WiredTo F 0 (replicate most_charts 0) l
unfolding latest
wired_none F l few b =
    record {
      down_is = λ c p. get_or-replicate most_charts c 0 0 (omega arith);
      up_is = λ d p. b (up_cell d);
      back_is = λ c d p q. b (back_cell c d);
      long = length-replicate {A = ℕ} most_charts 0;
    }

-- ── tests, masks that are put ──

by_bit : (b : Bool) (u v w : Set) → (b ≡ true → u ≡ w) → (b ≡ false → v ≡ w) → cond b u v ≡ w
by_bit true u v w f g = f refl
by_bit false u v w f g = g refl

pub or-false : (a : Bool) → (a || false) ≡ a
or-false true = refl
or-false false = refl

whole_has : (d : ℕ) (ss : Slaves) (c : ℕ) → Has (whole d ss) c ≡ (same c d || HasS ss c)
unfolding Has
whole_has d nil c = sym (or-false (same c d))
whole_has d (snoc ss i t) c = refl

-- a mask put at the place of number d, places being different for different numbers
set-by : (l : List ℕ) (cell : ℕ → ℕ) → ((c d : ℕ) → cell c ≡ cell d → c ≡ d) → (d v : ℕ) → cell d < length l → (c : ℕ)
    → get_or (set l (cell d) v) (cell c) 0 ≡ cond (same c d) v (get_or l (cell c) 0)
set-by l cell one d v p c = go (same c d) refl
  where
    go : (b : Bool) → same c d ≡ b → get_or (set l (cell d) v) (cell c) 0 ≡ cond b v (get_or l (cell c) 0)
    go true e = ap (λ (k : ℕ). get_or (set l (cell d) v) (cell k) 0) (same→≡ c d e) ∙ get_or-set_same l (cell d) v 0 p
    go false e = let z = same→≢ c d e in get_or-set_other l (cell d) (cell c) v 0 (λ y. z (one c d y))

module _ (F : File) (s : Sound F) (j : ℕ) (l : j < F.nodes) where
  abbrev t : Tree
  t = tree_of F j

  parts : Parted F
  parts = parted F s.ordered s.rule10 s.rule11 s.chart_there s.node-there

  -- what a chart has once node j is wired, by whether node j has it
  latest-by : (c : ℕ) (f : Tree → Set) (v : Set) → (Has t c ≡ true → v ≡ f t) → (Has t c ≡ false → v ≡ latest F c f j)
      → v ≡ latest F c f (suc j)
  latest-by c f v i o = go (Has t c) refl
    where
      go : (b : Bool) → Has t c ≡ b → v ≡ latest F c f (suc j)
      go true e = i e ∙ sym (latest_in F c f j e)
      go false e = o e ∙ sym (latest_out F c f j e)

  -- ── a hiding ──

  pub wired_hide : (x y : Set) {z : Set} {r q m m' : List ℕ} → F.kind j ≡ 2 → ChartsOf z t → x ≡ F.x j → y ≡ F.y j
      → WiredTo F j r m
      → Hides F.charts z x y r q m m' → WiredTo F (suc j) q m'
  wired_hide x y {z} {r} {q} {m} {m'} e ch ex ey h g =
      record {
        down_is = λ c p. latest-by c (λ t. down t c) (get_or q c 0)
            (λ i. g.down_is c p ∙ ap (λ (b : Bool). cond b (get_or r c 0 ∖ x) (get_or r c 0)) (ch c ∙ i)
            ∙ ap₂ ◌∖◌ (h.down_is c p) ex
            ∙ down₂_made F s.ordered parts j l c i e)
            (λ o. g.down_is c p ∙ ap (λ (b : Bool). cond b (get_or r c 0 ∖ x) (get_or r c 0)) (ch c ∙ o)
            ∙ h.down_is c p);
        up_is = λ c p. latest-by c (λ t. up t c) (up_at m' c)
            (λ i. g.up_is c p ∙ ap (λ (b : Bool). cond b (up_at m c ∖ y) (up_at m c)) (ch c ∙ i)
            ∙ ap₂ ◌∖◌ (h.up_is c p) ey
            ∙ up₂_made F s.ordered parts j l c i e)
            (λ o. g.up_is c p ∙ ap (λ (b : Bool). cond b (up_at m c ∖ y) (up_at m c)) (ch c ∙ o) ∙ h.up_is c p);
        back_is = λ c d p p'. latest-by c (λ t. back F.chart t c d) (back_at m' c d)
            (λ i. g.back_is c d p p' ∙ h.back_is c d p p' ∙ back₂_made F s.ordered parts j l c i e d)
            (λ o. g.back_is c d p p' ∙ h.back_is c d p p');
        long = g.long ∙ h.long;
      }

  -- ── feedback over the part ──

  -- the row and what gets up are those of the part; its feedback is not fed yet
  record Ready (r m : List ℕ) : Type 0 where
    down_is : (c : ℕ) → c < F.charts → get_or r c 0 ≡ down_to F (suc j) c
    up_is : (d : ℕ) → d < F.charts → up_at m d ≡ up_to F (suc j) d
    back_is : (c d : ℕ) → c < F.charts → d < F.charts → back_at m c d ≡ back_to F j c d
    long : length r ≡ most_charts

  wired_fed : (x : Set) {z : Set} {r m m' : List ℕ} → ChartsOf z t
      → ((c d : ℕ) → Has t c ≡ true → back_to F j c d ∪ down t c ∩ up t d ∩ x ≡ back F.chart t c d)
      → Ready r m → Feeds F.charts z x r m m' → WiredTo F (suc j) r m'
  wired_fed x {z} {r} {m} {m'} ch made h g =
      record {
        down_is = h.down_is;
        up_is = λ d p. g.up_is d p ∙ h.up_is d p;
        back_is = λ c d p q. latest-by c (λ t. back F.chart t c d) (back_at m' c d)
            (λ i. g.back_is c d p q ∙ fed c d p q i)
            (λ o. g.back_is c d p q ∙ unfed c d p q o);
        long = h.long;
      }
    where
      fed : (c d : ℕ) → c < F.charts → d < F.charts → Has t c ≡ true → fed_at z x r m c d ≡ back F.chart t c d
      fed c d p q i = by_bit (bit z d) _ _ (back F.chart t c d)
          (λ b. ap (λ (b : Bool). cond b (back_at m c d ∪ (up_at m d ∩ x ∩ get_or r c 0)) (back_at m c d)) (ch c ∙ i)
          ∙ sets (back_at m c d ∷ up_at m d ∷ x ∷ get_or r c 0 ∷ []) [] (A ∪ₑ (B ∩ₑ C ∩ₑ D) ≐ A ∪ₑ D ∩ₑ B ∩ₑ C) tt
          ∙ ap₂ (λ (v w : Set). v ∪ w ∩ up_at m d ∩ x) (h.back_is c d p q)
          (h.down_is c p ∙ latest_in F c (λ t. down t c) j i)
          ∙ ap (λ (w : Set). back_to F j c d ∪ down t c ∩ w ∩ x)
          (h.up_is d q ∙ latest_in F d (λ t. up t d) j (sym (ch d) ∙ b))
          ∙ made c d i)
          (λ b. h.back_is c d p q
          ∙ sets (back_to F j c d ∷ down t c ∷ up t d ∷ x ∷ []) (C ≐ ∅ₑ ∷ []) (A ≐ A ∪ₑ B ∩ₑ C ∩ₑ D) tt
          (up_off t d (sym (ch d) ∙ b)) ∙ made c d i)

      unfed : (c d : ℕ) → c < F.charts → d < F.charts → Has t c ≡ false → fed_at z x r m c d ≡ back_to F j c d
      unfed c d p q o = by_bit (bit z d) _ _ (back_to F j c d)
          (λ b. ap (λ (b : Bool). cond b (back_at m c d ∪ (up_at m d ∩ x ∩ get_or r c 0)) (back_at m c d)) (ch c ∙ o)
          ∙ h.back_is c d p q)
          (λ b. h.back_is c d p q)

  -- ── a composition ──

  pub wired_comp : (x : Set) {z : Set} {r m m' : List ℕ} → F.kind j ≡ 1 → ChartsOf z t → x ≡ F.x j → WiredTo F j r m
      → Feeds F.charts z x r m m'
      → WiredTo F (suc j) r m'
  wired_comp x {z} {r} {m} e ch ex h g =
      wired_fed x ch (λ c d i. ap (λ (x : Set). back_to F j c d ∪ down t c ∩ up t d ∩ x) ex
      ∙ back₁_made F s.ordered parts j l c i e d)
      (record {
        down_is = λ c p. latest-by c (λ t. down t c) (get_or r c 0)
            (λ i. h.down_is c p ∙ down₁_made F s.ordered parts j l c i e) (λ o. h.down_is c p);
        up_is = λ d p. latest-by d (λ t. up t d) (up_at m d)
            (λ i. h.up_is d p ∙ up₁_made F s.ordered parts j l d i e) (λ o. h.up_is d p);
        back_is = h.back_is;
        long = h.long;
      })
      g

  -- ── a chart and its slaves ──

  module _ (e : F.kind j ≡ 0) where
    abbrev d : ℕ
    d = F.a j

    abbrev slaves : ℕ → Slaves
    slaves = some_of F s.ordered d

    inside-has : (q : List ℕ) → Sets F j q → (c k : ℕ) → k ≤ F.slaves → inside F d q k c ≡ HasS (slaves k) c
    unfolding any_up_to gather Has
    inside-has q h c zero m = refl
    inside-has q h c (suc k) m = go (same (F.master k) d) refl (inside-has q h c k (omega arith))
      where
        go : (b : Bool) → same (F.master k) d ≡ b → inside F d q k c ≡ HasS (slaves k) c
            → (inside F d q k c || (b && bit (get_or q (F.node k) 0) c))
            ≡ HasS (cond b (snoc (slaves k) k (tree_of F (F.node k))) (slaves k)) c
        go true u r = ap₂ ◌||◌ r (h (F.node k) (s.ordered.lower₀ j l e k (omega arith) (same→≡ (F.master k) d u)) c)
            ∙ or_comm (HasS (slaves k) c) (Has (tree_of F (F.node k)) c)
        go false u r = or-false (inside F d q k c) ∙ r

    chart-has : (c : ℕ) → Has t c ≡ (same c d || HasS (slaves F.slaves) c)
    chart-has c = ap (λ (t : Tree). Has t c) (tree₀ F s.ordered j l e) ∙ whole_has d (slaves F.slaves) c

    -- a mask put at the chart's own place
    put_in : (f : Tree → Set) (c : ℕ) (v w : Set) → v ≡ cond (same c d) full w → w ≡ latest F c f j
        → (Has t c ≡ true → cond (same c d) full (latest F c f j) ≡ f t)
        → v ≡ latest F c f (suc j)
    put_in f c v w q h made =
        latest-by c f v (λ i. q ∙ ap (cond (same c d) full) h ∙ made i)
        (λ o. q ∙ ap (λ (b : Bool). cond b full w) (or_left (same c d) _ (sym (chart-has c) ∙ o)) ∙ h)

    pub wired_chart : (k : ℕ) {z : Set} {q r r' m m' : List ℕ} → k ≡ d → F.charts ≤ most_charts
        → masks_for F.charts ≤ length m → Sets F j q
        → WiredTo F j r m → Charted F k q z r r' m m' → ChartsOf z t × WiredTo F (suc j) r' m'
    wired_chart k {z} {q} {r} {r'} {m} {m'} is-d few room st h g₀ = (
      here,
      wired_fed (F.chart d).feedback here (λ c k i. back₀_made F s.ordered parts j l c i e k)
          (record {
            down_is = λ c p. put_in (λ t. down t c) c (get_or r' c 0) (get_or r c 0)
                (ap (λ (r : List ℕ). get_or r c 0) g.down_is
                ∙ set-by r (λ k. k) (λ a b y. y) d full (omega (arith, h.long, there)) c) (h.down_is c p)
                (λ i. down₀_made F s.ordered parts j l c i e);
            up_is = λ c p. put_in (λ t. up t c) c (up_at (set m (up_cell d) full) c) (up_at m c)
                (set-by m up_cell (λ a b y. omega arith) d full (omega (arith, there)) c) (h.up_is c p)
                (λ i. up₀_made F s.ordered parts j l c i e);
            back_is =
                λ c k p p'. get_or-set_other m (up_cell d) (back_cell c k) full 0 (λ z. omega arith)
                ∙ h.back_is c k p p';
            long = ap length g.down_is ∙ length-set r d full ∙ h.long;
          })
          g.fed,
    )
      where
        g : Charted F d q z r r' m m'
        g = subst (λ (d : ℕ). Charted F d q z r r' m m') is-d g₀

        there : d < F.charts
        there = s.chart_there j l e

        here : ChartsOf z t
        here c = g.set_is c ∙ ap (λ (b : Bool). same c d || b) (inside-has q st c F.slaves (omega arith))
            ∙ sym (chart-has c)

  -- ── the sets of charts ──

  pub charts_comp : F.kind j ≡ 1 → (q : List ℕ) (x y : Set) → Sets F j q → x ≡ get_or q (F.a j) 0
      → y ≡ get_or q (F.b j) 0 → ChartsOf (x ∪ y) t
  unfolding Has
  charts_comp e q x y h ex ey c = let u = s.ordered.lower₁ j l e in
      bit_union c x y ∙ ap₂ ◌||◌ (ap (λ (z : Set). bit z c) ex ∙ h (F.a j) u.0 c)
      (ap (λ (z : Set). bit z c) ey ∙ h (F.b j) u.1 c)
      ∙ sym (ap (λ (t : Tree). Has t c) (tree₁ F s.ordered j l e))

  pub charts_hide : F.kind j ≡ 2 → (q : List ℕ) (x : Set) → Sets F j q → x ≡ get_or q (F.a j) 0 → ChartsOf x t
  unfolding Has
  charts_hide e q x h ex c =
      ap (λ (z : Set). bit z c) ex ∙ h (F.a j) (s.ordered.lower₂ j l e) c
      ∙ sym (ap (λ (t : Tree). Has t c) (tree₂ F s.ordered j l e))

  -- each has a bit, and there are no more bits than charts
  pub charts_few : (z : Set) → F.charts ≤ most_charts → ChartsOf z t → z < 2 ^ most_charts
  charts_few z few h =
      below_bits most_charts z (λ c m. h c ∙ not-true (λ i. let b = has-below F treed j c l i in omega arith))
    where
      treed : Treed F
      treed = record { ordered = s.ordered; chart_there = s.chart_there; node-there = s.node-there }

pub sets_more : (F : File) (j : ℕ) (q : List ℕ) (z : Set) → j < length q → Sets F j q → ChartsOf z (tree_of F j)
    → Sets F (j + 1) (set q j z)
sets_more F j q z p h g = below_more (λ (i : ℕ). ChartsOf (get_or (set q j z) i 0) (tree_of F i)) j
    (λ i k c. ap (λ (x : Set). bit x c) (get_or-set_other q j i z 0 (λ y. omega arith)) ∙ h i k c)
    (λ c. ap (λ (x : Set). bit x c) (get_or-set_same q j z 0 p) ∙ g c)

-- ── the whole ──

pub wired_whole : (F : File) → Sound F → 0 < F.nodes → (r m n : List ℕ) → WiredTo F F.nodes r m → NearestIn F n
    → Wired F r m n
wired_whole F s some r m n h near =
    record {
      down_is = λ c p. h.down_is c p ∙ all c p (λ t. down t c);
      up_is = λ d p. h.up_is d p ∙ all d p (λ t. up t d);
      back_is = λ c d p q. h.back_is c d p q ∙ all c p (λ t. back F.chart t c d);
      nearest_is = near;
    }
  where
    last : suc (F.nodes - 1) ≡ F.nodes
    last = omega arith

    all : (c : ℕ) → c < F.charts → (f : Tree → Set) → latest F c f F.nodes ≡ f (whole_of F)
    all c p f = ap (latest F c f) (sym last)
        ∙ latest_in F c f (F.nodes - 1)
        ((stands F s.ordered s.rule10 s.rule11 s.chart_there s.node-there (F.nodes - 1) last).has c p)
