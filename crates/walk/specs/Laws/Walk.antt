-- What each function of the walk lays down, if those that it calls lay down theirs: one record (`node-..`, `slave-..`,
-- `chart-..`), a sequential chart and a chart by itself (`sequential_laid`, `alone`, `both-laid`), a part by its form
-- (`part-..`), hidden, bracketed, a master (`hidden_laid`, `bracketed_laid`, `master_laid`).
use Rattle.std.proofs.Math.Path.{◌≡◌, refl, sym}
use Rattle.std.proofs.Common.{ap, ap₂, ◌∙◌, subst, append-nil, arith}
use Rattle.std.specs.Prelude.{false, List, ◌∷◌, ◌++◌, ℕ, ◌+◌, ◌-◌, ◌≤◌, ◌<◌, length, drop, get_or}
use Rattle.std.proofs.Math.Option.{Option}
use Rattle.layout.specs.Record.{slave_bytes, node_bytes}
use Rattle.layout.specs.declared.record.Slave.{Slave}
use Rattle.layout.specs.declared.record.Node.{Node}
use Rattle.layout.specs.Put.{Room}
use Rattle.layout.specs.Put.Laws.{put-none}
use Rattle.notation.specs.Syntax.{Signals, Sequential, Single, sequential, decomposed, hidden, Chart, single, composed}
use Rattle.notation.specs.Syntax.{depth, depth_single}
use Rattle.notation.specs.Grammar.{lpar, rpar, lsq, rsq, bar, sign, sign_bytes}
use Rattle.notation.specs.Grammar.{Tokens, of_set, of_optional, of_chart, of_part, Text}
use Rattle.notation.specs.Reader.{first_byte}
use Rattle.reading.specs.Numbers.{named_charts}
use Rattle.reading.specs.Names.{members_or, signals?, set?, optional?, name_of}
use Rattle.reading.specs.Meant.{all, set_of, optional_of, Laid, last_of}
use Rattle.reading.specs.Meant.{beside, chart_node, lay_hidden, lay_both, lay_single, lay_chart}
use Rattle.laying.specs.Sequence.{put_is}
use Rattle.tokens.specs.Tokens.{cap, after_blanks, BehindSign}
use Rattle.tokens.specs.Laws.Text.{behind-right}
use Rattle.tokens.specs.Laws.Lists.{peek_sign}
use Rattle.tokens.specs.Laws.Steps.{cap-below}
use Rattle.fields.specs.declared.SignalSet.{SignalSet}
use Rattle.fields.specs.Fields.{Gives, SetAt}
use Rattle.lists.specs.declared.Sequential.{Sequential as Drawn}
use Rattle.lists.specs.Lists.{GivesExtra, SequentialAt as ReadsAt}
use Rattle.lists.specs.Laws.Found.{hidden_text, both_text, master_text_lem, hidden_text_lem, both_text_lem, part_text}
use Rattle.forms.specs.declared.Form.{Form}
use Rattle.forms.specs.declared.Form.TheVariants as form
use Rattle.forms.specs.Forms.{form_of, form_of_single, FormAt, NoBrace, Calm, OptionalAt}
use Rattle.forms.specs.Laws.Bytes.{next-seen, calm_rpar, calm_rsq, no_brace_bar, no_brace_lsq}
use Rattle.outline.specs.Outline.{part_depth}
use Rattle.outline.specs.Laws.Forms.{larger-left, larger-right, part_some, part-at_most}
use Rattle.laying.specs.Room.{Tries}
use Rattle.walk.specs.Walk.{Sheet, Fits, Adds, one_node, one_slave, Writes, WritesChart, DrawableSingle, Drawable}
use Rattle.walk.specs.Walk.{Lays, SequentialAt, ChartAt, PartAt, HiddenAt}
use Rattle.walk.specs.Walk.{BracketedAt, MasterAt}
use Rattle.walk.specs.Laws.Laid.{laid_node, fits_is, fits-first, fits_then, adds_is, adds_then}

-- ── one record ──

module _ (i k at q : ℕ) (o l : List ℕ) where
  pub node_written : (m next : ℕ) (o' : List ℕ) (n : Node) → (k < 255 → m ≡ k + 1) → Tries o at (node_bytes n) o' next
      → Writes i i (record { node = k; at = at; slaves = q; out = o; list = l })
      (record { node = m; at = next; slaves = q; out = o'; list = l }) (one_node n)
  unfolding all
  node_written m next o' n e t =
      record {
        stays = refl;
        adds =
            λ f. record {
              nodes =
                  put_is (sym (append-nil (node_bytes n)))
                  (t (subst (Room o at) (append-nil (node_bytes n)) f.nodes));
              slaves = put-none q l;
              counted = e (omega (arith, f.few));
            };
      }

  pub slave-written : (next : ℕ) (l' : List ℕ) (s : Slave) → Tries l q (slave_bytes s) l' next
      → Writes i i (record { node = k; at = at; slaves = q; out = o; list = l })
      (record { node = k; at = at; slaves = next; out = o; list = l' }) (one_slave s)
  unfolding all
  slave-written next l' s t =
      record {
        stays = refl;
        adds =
            λ f. record {
              nodes = put-none at o;
              slaves =
                  put_is (sym (append-nil (slave_bytes s)))
                  (t (subst (Room l q) (append-nil (slave_bytes s)) f.slaves));
              counted = omega arith;
            };
      }

-- a name as read is the name, where it is in range
pub name_is : (n m : ℕ) → n < named_charts → m ≡ cap n → m ≡ n
name_is n m h e = e ∙ sym (cap-below n (omega arith))

pub chart-written : (i j name m : ℕ) (a b : Sheet)
    → Writes i j a b (one_node (record { kind = 0; a = m; b = 0; x = 0; y = 0 })) → (name < 256 → m ≡ name)
    → WritesChart i j name a b
chart-written i j name m a b w e = record { stays = w.stays; adds = go }
  where
    go : (s : Sequential) → name_of s < named_charts → name ≡ cap (name_of s) → Fits a (one_node (chart_node s))
        → Adds a b (one_node (chart_node s))
    go s h f g =
        let z = name_is (name_of s) name h f in
        let y : one_node (chart_node s) ≡ one_node (record { kind = 0; a = m; b = 0; x = 0; y = 0 }) =
        ap (λ k. one_node (record { kind = 0; a = k; b = 0; x = 0; y = 0 })) (sym (e (omega (arith, z)) ∙ z)) in
        adds_is y (w.adds (fits_is y g))

-- ── a sign of one byte is passed ──

module _ (w : List ℕ) (i : ℕ) where
  behind_bar : {ts : Tokens} {r : ℕ} → BehindSign w i 1 r → Text (sign bar ∷ ts) (drop i w) → Text ts (drop r w)
  unfolding sign_bytes
  behind_bar {ts} {r} b t = behind-right w i bar r t b.behind

  behind_lpar : {ts : Tokens} {r : ℕ} → BehindSign w i 1 r → Text (sign lpar ∷ ts) (drop i w) → Text ts (drop r w)
  unfolding sign_bytes
  behind_lpar {ts} {r} b t = behind-right w i lpar r t b.behind

  behind_rpar : {ts : Tokens} {r : ℕ} → BehindSign w i 1 r → Text (sign rpar ∷ ts) (drop i w) → Text ts (drop r w)
  unfolding sign_bytes
  behind_rpar {ts} {r} b t = behind-right w i rpar r t b.behind

  behind_lsq : {ts : Tokens} {r : ℕ} → BehindSign w i 1 r → Text (sign lsq ∷ ts) (drop i w) → Text ts (drop r w)
  unfolding sign_bytes
  behind_lsq {ts} {r} b t = behind-right w i lsq r t b.behind

  behind_rsq : {ts : Tokens} {r : ℕ} → BehindSign w i 1 r → Text (sign rsq ∷ ts) (drop i w) → Text ts (drop r w)
  unfolding sign_bytes
  behind_rsq {ts} {r} b t = behind-right w i rsq r t b.behind

-- ── a sequential chart ──

pub sequential_laid : (w : List ℕ) (i j : ℕ) (a b : Sheet) (s : Drawn) → ReadsAt w i s
    → WritesChart s.next j s.name a b → SequentialAt w i j a b
unfolding lay_single
sequential_laid w i j a b s r h =
    record {
      within = subst (λ k. k ≤ length w) (sym h.stays) r.within;
      gives =
          λ c ts n t f. let g = r.gives c ts t in
          (subst (λ k. Text ts (drop k w)) (sym h.stays) g.goes_on, h.adds c n g.is_name f);
    }

-- ── a chart by itself ──

second-deep : (t : Chart) (x : Signals) (u : Chart) {n : ℕ} → depth (composed t x u) ≤ n → part_depth u ≤ n
unfolding depth
second-deep t x u d = omega (arith, d, part-at_most u, larger-right (depth t) (depth u))

second-fine : (t : Chart) (x : Signals) (u : Chart) → Drawable (composed t x u) → (set? x ≡ false) × Drawable u
unfolding Drawable
second-fine t x u h = (h.1, h.2)

-- a set that is not refused
fault : (x : Signals) → set? x ≡ false → signals? (members_or x) ≡ false
unfolding set?
fault x e = e

three : {a a' b b' x x' : ℕ} → a ≡ a' → b ≡ b' → x ≡ x'
    → ◌≡◌ {A = Node} (record { kind = 1; a = a; b = b; x = x; y = 0 })
    (record { kind = 1; a = a'; b = b'; x = x'; y = 0 })
three {a} {a'} {b} {b'} {x} {x'} p q r =
    ap₂ (λ m n. record { kind = 1; a = m; b = n; x = x; y = 0 }) p q
    ∙ ap (λ m. record { kind = 1; a = a'; b = b'; x = m; y = 0 }) r

-- what two parts composed come to: the first, the second behind it, and the node of both
abbrev second : Chart → Chart → ℕ → Laid
second t u k = lay_chart u (k + length (lay_chart t k).nodes)

abbrev node_of_both : Chart → Signals → Chart → ℕ → Node
node_of_both t x u k =
    record {
      kind = 1;
      a = last_of k (lay_chart t k);
      b = last_of (k + length (lay_chart t k).nodes) (second t u k);
      x = set_of x;
      y = 0;
    }

both_is : (t : Chart) (x : Signals) (u : Chart) (k : ℕ)
    → lay_chart (composed t x u) k ≡ beside (beside (lay_chart t k) (second t u k)) (one_node (node_of_both t x u k))
unfolding lay_chart lay_both
both_is t x u k = laid_node _ _

module _ (w : List ℕ) (left i j : ℕ) (a b : Sheet) (p : PartAt w left i j a b) where
  -- the text of a chart as that of a part, if it is single
  alone_single : (s : Single) (ts : Tokens) → Calm ts → depth (single s) ≤ left → Drawable (single s)
      → Lays w i j a b (of_chart (single s) ++ ts) ts (lay_chart (single s) a.node)
  unfolding of_chart part_depth depth
  alone_single s ts c d h = p.gives (single s) ts c.no_brace d h

  -- the first part of a composition, and the bar behind it
  first_part : (t : Chart) (x : Signals) (u : Chart) (ts : Tokens) → depth (composed t x u) ≤ left
      → Drawable (composed t x u) → Text (of_chart (composed t x u) ++ ts) (drop i w) → Fits a (lay_chart t a.node)
      → Text (sign bar ∷ (of_set x ++ (sign bar ∷ (of_part u ++ ts)))) (drop j w) × Adds a b (lay_chart t a.node)
  unfolding of_chart depth Drawable
  first_part t x u ts d h e f =
      p.gives t _ (no_brace_bar _) (omega (arith, d, part-at_most t, larger-left (depth t) (depth u))) h.0
      (subst (λ v. Text v (drop i w)) (both_text_lem t x u ts) e) f

  -- no bar: a single chart
  pub alone : (get_or (after_blanks (drop j w)) 0 0 ≡ 124 → ⊥) → ChartAt w left i j a b
  alone h = record { within = p.within; gives = go }
    where
      go : (t : Chart) (ts : Tokens) → Calm ts → depth t ≤ left → Drawable t
          → Lays w i j a b (of_chart t ++ ts) ts (lay_chart t a.node)
      go (single s) ts c d v e f = alone_single s ts c d v e f
      go (composed t x u) ts c d v e f =
          absurd (h (bar_seen (first_part t x u ts d v e
          (fits-first _ (fits-first _ (fits_is (both_is t x u a.node) f)))).0))
        where
          bar_seen : {us : Tokens} → Text (sign bar ∷ us) (drop j w) → get_or (after_blanks (drop j w)) 0 0 ≡ 124
          bar_seen t = peek_sign bar t ∙ unfold first_byte in refl

  -- a bar: two charts, with the feedback between them
  module _ (h : get_or (after_blanks (drop j w)) 0 0 ≡ 124) (k l m n : ℕ) (x : SignalSet) (c d : Sheet) where
    pub both-laid : BehindSign w j 1 k → SetAt w k x → BehindSign w x.next 1 l → PartAt w left l m b c
        → (y z : ℕ) → y ≡ b.node - 1 → z ≡ c.node - 1
        → Writes m n c d (one_node (record { kind = 1; a = y; b = z; x = x.mask; y = 0 })) → ChartAt w left i n a d
    both-laid o s q r y z ey ez v =
        record { within = subst (λ e. e ≤ length w) (sym v.stays) r.within; gives = go }
      where
        go : (t : Chart) (ts : Tokens) → Calm ts → depth t ≤ left → Drawable t
            → Lays w i n a d (of_chart t ++ ts) ts (lay_chart t a.node)
        go (single u) ts calm deep fine e f =
            absurd (calm.no_bar (sym (next-seen ts (alone_single u ts calm deep fine e f).0) ∙ h))
        go (composed t g u) ts calm deep fine e f = (subst (λ e. Text ts (drop e w)) (sym v.stays) two.0, whole)
          where
            fits : Fits a (beside (beside (lay_chart t a.node) (second t u a.node))
                (one_node (node_of_both t g u a.node)))
            fits = fits_is (both_is t g u a.node) f

            one : Text (sign bar ∷ (of_set g ++ (sign bar ∷ (of_part u ++ ts)))) (drop j w)
                × Adds a b (lay_chart t a.node)
            one = first_part t g u ts deep fine e (fits-first _ (fits-first _ fits))

            set : Gives w x (members_or g) (sign bar ∷ (of_part u ++ ts))
            set = s.gives g _ (behind_bar w j o one.0)

            same : a.node + length (lay_chart t a.node).nodes ≡ b.node
            same = sym one.1.counted

            two : Text ts (drop m w) × Adds b c (lay_chart u b.node)
            two =
                r.gives u ts calm.no_brace (second-deep t g u deep) (second-fine t g u fine).1
                (behind_bar w x.next q set.goes_on)
                (fits_is (ap (lay_chart u) same) (fits_then (fits-first _ fits) one.1))

            parts : Adds a c (beside (lay_chart t a.node) (second t u a.node))
            parts = adds_then one.1 (adds_is (ap (lay_chart u) same) two.1)

            node : node_of_both t g u a.node ≡ record { kind = 1; a = y; b = z; x = x.mask; y = 0 }
            node =
                let ea : last_of a.node (lay_chart t a.node) ≡ y = ap (◌- 1) same ∙ sym ey in
                let eb : last_of (a.node + length (lay_chart t a.node).nodes) (second t u a.node) ≡ z =
                ap (λ e. last_of e (lay_chart u e)) same ∙ ap (◌- 1) (sym two.1.counted) ∙ sym ez in
                let ex : set_of g ≡ x.mask = sym (set.is_mask (set.is_bad ∙ fault g (second-fine t g u fine).0)) in
                three ea eb ex

            whole : Adds a d (lay_chart (composed t g u) a.node)
            whole =
                adds_is (both_is t g u a.node
                ∙ ap (λ e. beside (beside (lay_chart t a.node) (second t u a.node)) (one_node e)) node)
                (adds_then parts (v.adds (fits_is (ap one_node node) (fits_then fits parts))))

-- ── hidden, and in round brackets ──

abbrev node_of_hidden : Option Signals → Chart → Option Signals → ℕ → Node
node_of_hidden x t y k =
    record { kind = 2; a = last_of k (lay_chart t k); b = 0; x = optional_of x; y = optional_of y }

hidden_is : (x : Option Signals) (t : Chart) (y : Option Signals) (k : ℕ)
    → lay_single (hidden x t y) k ≡ beside (lay_chart t k) (one_node (node_of_hidden x t y k))
unfolding lay_single lay_hidden
hidden_is x t y k = laid_node _ _

hides : (f : Option Signals) (t : Chart) (g : Option Signals) (k : ℕ) {m x y : ℕ} → last_of k (lay_chart t k) ≡ m
    → optional_of f ≡ x → optional_of g ≡ y
    → node_of_hidden f t g k ≡ record { kind = 2; a = m; b = 0; x = x; y = y }
hides f t g k {m} {x} {y} p q r =
    ap₂ (λ e z. record { kind = 2; a = e; b = 0; x = z; y = optional_of g }) p q
    ∙ ap (λ e. record { kind = 2; a = m; b = 0; x = x; y = e }) r

hidden_fine : (x : Option Signals) (t : Chart) (y : Option Signals) → DrawableSingle (hidden x t y)
    → (optional? x ≡ false) × Drawable t × (optional? y ≡ false)
unfolding DrawableSingle
hidden_fine x t y h = h

module _ (w : List ℕ) (left i j k l m n : ℕ) (x y : SignalSet) (a b c : Sheet) where
  pub hidden_laid : OptionalAt w i x → BehindSign w x.next 1 j → ChartAt w left j k a b → BehindSign w k 1 l
      → OptionalAt w l y → m ≡ b.node - 1
      → Writes y.next n b c (one_node (record { kind = 2; a = m; b = 0; x = x.mask; y = y.mask }))
      → HiddenAt w left i n a c
  hidden_laid o p q r s em v =
      record { within = subst (λ e. e ≤ length w) (sym v.stays) s.within; gives = go }
    where
      go : (f : Option Signals) (t : Chart) (g : Option Signals) (ts : Tokens) → NoBrace ts → depth t ≤ left
          → DrawableSingle (hidden f t g) → Lays w i n a c (hidden_text f t g ts) ts (lay_single (hidden f t g) a.node)
      go f t g ts calm deep fine e h = (subst (λ e. Text ts (drop e w)) (sym v.stays) after.goes_on, whole)
        where
          ok : (optional? f ≡ false) × Drawable t × (optional? g ≡ false)
          ok = hidden_fine f t g fine

          fits : Fits a (beside (lay_chart t a.node) (one_node (node_of_hidden f t g a.node)))
          fits = fits_is (hidden_is f t g a.node) h

          before : GivesExtra w x f (sign lsq ∷ (of_chart t ++ (sign rsq ∷ (of_optional g ++ ts))))
          before = o.gives f _ (no_brace_lsq _) e

          one : Text (sign rsq ∷ (of_optional g ++ ts)) (drop k w) × Adds a b (lay_chart t a.node)
          one =
              q.gives t _ (calm_rsq _) deep ok.1 (behind_lsq w x.next p before.goes_on) (fits-first _ fits)

          after : GivesExtra w y g ts
          after = s.gives g ts calm (behind_rsq w k r one.0)

          node : node_of_hidden f t g a.node ≡ record { kind = 2; a = m; b = 0; x = x.mask; y = y.mask }
          node =
              let ea : last_of a.node (lay_chart t a.node) ≡ m = ap (◌- 1) (sym one.1.counted) ∙ sym em in
              let ex : optional_of f ≡ x.mask = sym (before.is_mask (before.is_bad ∙ ok.0)) in
              let ey : optional_of g ≡ y.mask = sym (after.is_mask (after.is_bad ∙ ok.2)) in
              hides f t g a.node ea ex ey

          whole : Adds a c (lay_single (hidden f t g) a.node)
          whole =
              adds_is (hidden_is f t g a.node ∙ ap (λ e. beside (lay_chart t a.node) (one_node e)) node)
              (adds_then one.1 (v.adds (fits_is (ap one_node node) (fits_then fits one.1))))

module _ (w : List ℕ) (left i j k l : ℕ) (a b : Sheet) where
  pub bracketed_laid : BehindSign w i 1 j → ChartAt w left j k a b → BehindSign w k 1 l → BracketedAt w left i l a b
  bracketed_laid p q r =
      record {
        within = r.within;
        gives =
            λ t ts deep fine e f. let g = q.gives t _ (calm_rpar ts) deep fine (behind_lpar w i p e) f in
            (behind_rpar w k r g.0, g.1);
      }

-- ── a part, by its form ──

bracketed_text : (t : Chart) (x : Signals) (u : Chart) (ts : Tokens)
    → sign lpar ∷ (of_chart (composed t x u) ++ (sign rpar ∷ ts)) ≡ sign lpar ∷ both_text t x u (sign rpar ∷ ts)
unfolding of_chart
bracketed_text t x u ts = ap (sign lpar ∷◌) (both_text_lem t x u (sign rpar ∷ ts))

pub part_none : (w : List ℕ) (left i : ℕ) (a : Sheet) → left ≡ 0 → i ≤ length w → PartAt w left i i a a
part_none w left i a z h =
    record { within = h; gives = λ t ts n d v e f. absurd (omega (arith, d, z, part_some t)) }

module _ (w : List ℕ) (left i j : ℕ) (a b : Sheet) (f : Form) (h : FormAt w i f) where
  pub part_sequential : f ≡ form.Sequential → SequentialAt w i j a b → PartAt w left i j a b
  part_sequential e p = record { within = p.within; gives = go }
    where
      go : (t : Chart) (ts : Tokens) → NoBrace ts → part_depth t ≤ left → Drawable t
          → Lays w i j a b (of_part t ++ ts) ts (lay_chart t a.node)
      go (single (sequential s)) ts n d v x g = unfold of_part lay_chart Drawable in p.gives s ts v x g
      go (single (decomposed s ps)) ts n d v x g =
          absurd (let y = h.is _ ts x in unfold form_of form_of_single in let z : ◌≡◌ {A = ℕ} 0 1 = cc in omega arith)
      go (single (hidden o t u)) ts n d v x g =
          absurd (let y = h.is _ ts x in unfold form_of form_of_single in let z : ◌≡◌ {A = ℕ} 0 1 = cc in omega arith)
      go (composed t o u) ts n d v x g =
          absurd (let y = h.is _ ts x in unfold form_of form_of_single in let z : ◌≡◌ {A = ℕ} 0 1 = cc in omega arith)

  pub part_decomposed : f ≡ form.Decomposed → MasterAt w (left - 1) i j a b → PartAt w left i j a b
  part_decomposed e p = record { within = p.within; gives = go }
    where
      go : (t : Chart) (ts : Tokens) → NoBrace ts → part_depth t ≤ left → Drawable t
          → Lays w i j a b (of_part t ++ ts) ts (lay_chart t a.node)
      go (single (sequential s)) ts n d v x g =
          absurd (let y = h.is _ ts x in unfold form_of form_of_single in let z : ◌≡◌ {A = ℕ} 0 1 = cc in omega arith)
      go (single (decomposed s ps)) ts n d v x g =
          unfold of_part lay_chart Drawable part_depth depth_single in
          p.gives s ps ts (omega (arith, d)) v (subst (λ z. Text z (drop i w)) (master_text_lem s ps ts) x) g
      go (single (hidden o t u)) ts n d v x g =
          absurd (let y = h.is _ ts x in unfold form_of form_of_single in let z : ◌≡◌ {A = ℕ} 0 1 = cc in omega arith)
      go (composed t o u) ts n d v x g =
          absurd (let y = h.is _ ts x in unfold form_of form_of_single in let z : ◌≡◌ {A = ℕ} 0 1 = cc in omega arith)

  pub part_hidden : f ≡ form.Hidden → HiddenAt w (left - 1) i j a b → PartAt w left i j a b
  part_hidden e p = record { within = p.within; gives = go }
    where
      go : (t : Chart) (ts : Tokens) → NoBrace ts → part_depth t ≤ left → Drawable t
          → Lays w i j a b (of_part t ++ ts) ts (lay_chart t a.node)
      go (single (sequential s)) ts n d v x g =
          absurd (let y = h.is _ ts x in unfold form_of form_of_single in let z : ◌≡◌ {A = ℕ} 0 1 = cc in omega arith)
      go (single (decomposed s ps)) ts n d v x g =
          absurd (let y = h.is _ ts x in unfold form_of form_of_single in let z : ◌≡◌ {A = ℕ} 0 1 = cc in omega arith)
      go (single (hidden o t u)) ts n d v x g =
          unfold of_part lay_chart Drawable part_depth depth_single in
          p.gives o t u ts n (omega (arith, d)) (unfold DrawableSingle in v)
          (subst (λ z. Text z (drop i w)) (hidden_text_lem o t u ts) x) g
      go (composed t o u) ts n d v x g =
          absurd (let y = h.is _ ts x in unfold form_of form_of_single in let z : ◌≡◌ {A = ℕ} 0 1 = cc in omega arith)

  pub part_bracketed : f ≡ form.Bracketed → BracketedAt w (left - 1) i j a b → PartAt w left i j a b
  part_bracketed e p = record { within = p.within; gives = go }
    where
      go : (t : Chart) (ts : Tokens) → NoBrace ts → part_depth t ≤ left → Drawable t
          → Lays w i j a b (of_part t ++ ts) ts (lay_chart t a.node)
      go (single (sequential s)) ts n d v x g =
          absurd (let y = h.is _ ts x in unfold form_of form_of_single in let z : ◌≡◌ {A = ℕ} 0 1 = cc in omega arith)
      go (single (decomposed s ps)) ts n d v x g =
          absurd (let y = h.is _ ts x in unfold form_of form_of_single in let z : ◌≡◌ {A = ℕ} 0 1 = cc in omega arith)
      go (single (hidden o t u)) ts n d v x g =
          absurd (let y = h.is _ ts x in unfold form_of form_of_single in let z : ◌≡◌ {A = ℕ} 0 1 = cc in omega arith)
      go (composed t o u) ts n d v x g =
          p.gives (composed t o u) ts (unfold part_depth in omega (arith, d)) v
          (subst (λ z. Text z (drop i w)) (part_text t o u ts ∙ sym (bracketed_text t o u ts)) x) g
