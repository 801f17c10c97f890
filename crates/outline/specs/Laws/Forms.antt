-- The outline of a chart is read if its parts are read one after another, and too deep if one of them is: a composition
-- (`composes-..`), a chart (`chart-..`, `second-deep`), a part of one (`part-..`), each form of a part
-- (`sequential_right`, `bracketed_..`, `hidden_..`, `decomposed_..`), a slave with its state (`pair_..`), and a text
-- (`text_right`).
use Rattle.std.proofs.Math.Path.{◌≡◌, sym, ap, ap₂, subst}
use Rattle.std.specs.Prelude.{refl, Bool, true, false, ◌||◌, not, cond, List, [], ◌∷◌, ◌++◌, ℕ, suc, ◌+◌, ◌-◌, ◌≤◌, ◌<◌}
use Rattle.std.specs.Prelude.{ltb, max, drop, get_or, Result, Ok, Err}
use Rattle.std.proofs.Common.{◌∙◌, append-nil, arith}
use Rattle.std.proofs.Math.Option.{Option}
use Rattle.std.proofs.lemmas.Result.{IfOk-weaker}
use Rattle.std.proofs.Math.Decide.{dec_lt}
use borrow.Author.Tests.{lt-ltb, le-ltb, ltb-true}
use Rattle.meaning.specs.Sums.Laws.{or_left}
use Rattle.notation.specs.Syntax.{Signals, Sequential as Tree, sequential, decomposed, hidden, Chart, single, composed}
use Rattle.notation.specs.Syntax.{Single, Slaves, larger, depth, depth_slaves}
use Rattle.notation.specs.Grammar.{lpar, rpar, lbrace, lsq, rsq, comma, bar, wordDec, wordBy, letQ, sign}
use Rattle.notation.specs.Grammar.{sign_bytes, Tokens, of_set, of_optional, of_chart, of_part, Text}
use Rattle.notation.specs.Grammar.{Spells}
use Rattle.notation.specs.Reader.{first_byte}
use Rattle.reading.specs.Numbers.{named_states, most_depth}
use Rattle.reading.specs.Names.{members_of, not_all?, set?, optional?, sequential?}
use Rattle.reading.specs.Meant.{mask_of}
use Rattle.tokens.specs.declared.Name.{Name}
use Rattle.tokens.specs.Tokens.{cap, after_blanks, BehindSign, NameFrom}
use Rattle.tokens.specs.Laws.Text.{behind-right, named-right}
use Rattle.tokens.specs.Laws.Lists.{peek_sign}
use Rattle.fields.specs.declared.SignalSet.{SignalSet}
use Rattle.fields.specs.Fields.{SetAt}
use Rattle.lists.specs.declared.Sequential.{Sequential as Drawn}
use Rattle.lists.specs.Lists.{lacks, SequentialAt}
use Rattle.lists.specs.Laws.Transitions.{cap-lacks, lacks_is}
use Rattle.lists.specs.Laws.Found.{pair_text, master_text_lem, hidden_text_lem, both_text_lem, part_text}
use Rattle.forms.specs.declared.Form.{Form}
use Rattle.forms.specs.declared.Form.TheVariants.{Sequential, Decomposed, Hidden, Bracketed}
use Rattle.forms.specs.Forms.{form_of, form_of_single, FormAt, Calm, OptionalAt}
use Rattle.forms.specs.Laws.Bytes.{next-seen, calm-end, calm_rpar, calm_rsq, no_brace_bar, no_brace_lsq}
use Rattle.outline.specs.declared.Outline.{Outline}
use Rattle.outline.specs.declared.TooDeep.{TooDeep}
use Rattle.outline.specs.Tree.{lacking, refused_slaves?, refused?, nodes_in, nodes_in_slaves, slaves_in}
use Rattle.outline.specs.Tree.{slaves_in_slaves, told, told_slaves}
use Rattle.outline.specs.Outline.{Joins, Composed, Composes, Reads, Gives, Within, ChartAt, part_depth, PartAt}
use Rattle.outline.specs.Outline.{FormedAt, PairAt, SlavesAt, OutlineFor, OutlineOf}
use Rattle.outline.specs.Laws.Trees.{depth_some, refused_is, slaves-same}
use Rattle.outline.specs.Laws.Counts.{cap_plus, cap_suc, cap-one, cap-none}

-- ── depths ──

-- one level further in, one less is left
ltb_step : (left n : ℕ) → 0 < left → ltb (left - 1) n ≡ ltb left (suc n)
ltb_step left n p = go (dec_lt (left - 1) n)
  where
    go : Dec (left - 1 < n) → ltb (left - 1) n ≡ ltb left (suc n)
    go (yes l) = lt-ltb (left - 1) n l ∙ sym (lt-ltb left (suc n) (omega arith))
    go (no l) = le-ltb (left - 1) n (omega arith) ∙ sym (le-ltb left (suc n) (omega arith))

not_ltb : (m n : ℕ) → not (ltb m n) ≡ ltb n (suc m)
not_ltb m n = go (dec_lt m n)
  where
    go : Dec (m < n) → not (ltb m n) ≡ ltb n (suc m)
    go (yes l) = ap not (lt-ltb m n l) ∙ sym (le-ltb n (suc m) (omega arith))
    go (no l) = ap not (le-ltb m n (omega arith)) ∙ sym (lt-ltb n (suc m) (omega arith))

pub larger-max : (m n : ℕ) → max m n ≡ larger m n
larger-max m n = go (dec_lt m n)
  where
    go : Dec (m < n) → max m n ≡ larger m n
    go (yes l) = let z = ap (λ b. cond b n m) (lt-ltb m n l) in omega arith
    go (no l) = let z = ap (λ b. cond b n m) (le-ltb m n (omega arith)) in omega arith

pub larger-left : (m n : ℕ) → m ≤ larger m n
larger-left m n = omega (arith, larger-max m n)

pub larger-right : (m n : ℕ) → n ≤ larger m n
larger-right m n = omega (arith, larger-max m n)

pub part_some : (t : Chart) → 0 < part_depth t
unfolding part_depth
part_some (single s) = depth_some (single s)
part_some (composed a x b) = omega arith

pub part-at_most : (t : Chart) → part_depth t ≤ suc (depth t)
unfolding part_depth
part-at_most (single s) = omega arith
part-at_most (composed a x b) = omega arith

-- ── a composition ──

module _ (left : ℕ) (p : Outline) (b : Bool) (q : Outline) where
  pub composes-deep : (e : TooDeep) → not (ltb (larger p.depth q.depth) left) ≡ true → Composes left p b q (Err e)
  composes-deep e d = record { is_deep = sym d; is = tt }

  module _ (j : Outline) (o : Joins p b q j) where
    pub too_deep-by : left ≤ j.depth → not (ltb (larger p.depth q.depth) left) ≡ true
    too_deep-by l = ap (λ n. not (ltb n left)) (sym o.is_depth) ∙ ap not (le-ltb j.depth left l)

    pub composes-fine : (r : Outline) → j.depth < left → r.depth ≡ j.depth + 1 → r.bad ≡ j.bad
        → r.nodes ≡ cap (j.nodes + 1) → r.slaves ≡ j.slaves → r.next ≡ j.next → Composes left p b q (Ok r)
    composes-fine r l eh eb en es ex =
        record {
          is_deep = sym (ap (λ n. not (ltb n left)) (sym o.is_depth) ∙ ap not (lt-ltb j.depth left l));
          is = record {
            small = omega (arith, eh);
            is_next = ex ∙ o.is_next;
            is_depth = eh ∙ ap (◌+ 1) o.is_depth;
            is_bad = eb ∙ o.is_bad;
            is_nodes = en ∙ ap (λ n. cap (n + 1)) o.is_nodes;
            is_slaves = es ∙ o.is_slaves;
          };
        }

-- ── a chart ──

-- what stands behind the first part of a composition
abbrev behind_first : Signals → Chart → Tokens → Tokens
behind_first x b ts = sign bar ∷ (of_set x ++ (sign bar ∷ (of_part b ++ ts)))

module _ (w : List ℕ) (at left : ℕ) where
  first_part : (p : Result Outline TooDeep) → PartAt w at left p → (a : Chart) (x : Signals) (b : Chart) (ts : Tokens)
      → Text (of_chart (composed a x b) ++ ts) (drop at w)
      → Gives w left (part_depth a) p (told a) (behind_first x b ts)
  unfolding of_chart
  first_part p o a x b ts t =
      o.gives a (behind_first x b ts) (no_brace_bar _) (subst (λ u. Text u (drop at w)) (both_text_lem a x b ts) t)

  -- left < depth of a part, so the composition is deeper still
  deeper_left : (a : Chart) (x : Signals) (b : Chart) → ltb left (part_depth a) ≡ true
      → ltb left (depth (composed a x b)) ≡ true
  unfolding depth
  deeper_left a x b e =
      lt-ltb left (depth (composed a x b))
      (omega (arith, ltb-true left (part_depth a) e, part-at_most a, larger-left (depth a) (depth b)))

  deeper_right : (a : Chart) (x : Signals) (b : Chart) → ltb left (part_depth b) ≡ true
      → ltb left (depth (composed a x b)) ≡ true
  unfolding depth
  deeper_right a x b e =
      lt-ltb left (depth (composed a x b))
      (omega (arith, ltb-true left (part_depth b) e, part-at_most b, larger-right (depth a) (depth b)))

  pub chart-deep : (e : TooDeep) → PartAt w at left (Err e) → ChartAt w at left (Err e)
  unfolding part_depth of_chart
  chart-deep e o = record { inside = tt; gives = go }
    where
      go : (t : Chart) (ts : Tokens) → Calm ts → Text (of_chart t ++ ts) (drop at w)
          → Gives w left (depth t) (Err e) (told t) ts
      go (single s) ts c t = o.gives (single s) ts c.no_brace t
      go (composed a x b) ts c t =
          record { is_deep = sym (deeper_left a x b (sym (first_part (Err e) o a x b ts t).is_deep)); reads = tt }

  module _ (p : Outline) (o : PartAt w at left (Ok p)) where
    -- no bar follows: a chart by itself
    pub chart-single : (get_or (after_blanks (drop p.next w)) 0 0 ≡ 124 → ⊥) → ChartAt w at left (Ok p)
    unfolding part_depth of_chart first_byte
    chart-single m = record { inside = o.inside; gives = go }
      where
        go : (t : Chart) (ts : Tokens) → Calm ts → Text (of_chart t ++ ts) (drop at w)
            → Gives w left (depth t) (Ok p) (told t) ts
        go (single s) ts c t = o.gives (single s) ts c.no_brace t
        go (composed a x b) ts c t = absurd (m (peek_sign bar (first_part (Ok p) o a x b ts t).reads.goes_on))

    module _ (m : get_or (after_blanks (drop p.next w)) 0 0 ≡ 124) (i j : ℕ) (x : SignalSet)
        (b₁ : BehindSign w p.next 1 i) (y : SetAt w i x) (b₂ : BehindSign w x.next 1 j) where
      -- a bar follows, so the chart is a composition
      no_single : (s : Single) (ts : Tokens) → Calm ts → Text (of_chart (single s) ++ ts) (drop at w) → ⊥
      unfolding of_chart
      no_single s ts c t = c.no_bar (sym (next-seen ts (o.gives (single s) ts c.no_brace t).reads.goes_on) ∙ m)

      -- its set and its second part stand there
      second_part : (q : Result Outline TooDeep) → PartAt w j left q → (a : Chart) (u : Signals) (b : Chart)
          (ts : Tokens) → Calm ts → Text (of_chart (composed a u b) ++ ts) (drop at w)
          → (x.bad ≡ set? u) × Gives w left (part_depth b) q (told b) ts
      unfolding sign_bytes set?
      second_part q z a u b ts c t =
          let h = (first_part (Ok p) o a u b ts t).reads in
          let k = y.gives u _ (behind-right w p.next bar i h.goes_on b₁.behind) in
          (k.is_bad, z.gives b ts c.no_brace (behind-right w x.next bar j k.goes_on b₂.behind))

      pub second-deep : (e : TooDeep) → PartAt w j left (Err e) → ChartAt w at left (Err e)
      second-deep e z = record { inside = tt; gives = go }
        where
          go : (t : Chart) (ts : Tokens) → Calm ts → Text (of_chart t ++ ts) (drop at w)
              → Gives w left (depth t) (Err e) (told t) ts
          go (single s) ts c t = absurd (no_single s ts c t)
          go (composed a u b) ts c t =
              let g = second_part (Err e) z a u b ts c t in
              record { is_deep = sym (deeper_right a u b (sym g.1.is_deep)); reads = tt }

      pub chart-composed : (q : Outline) (r : Result Outline TooDeep) → PartAt w j left (Ok q)
          → Composes left p x.bad q r → ChartAt w at left r
      unfolding depth refused? nodes_in slaves_in
      chart-composed q r z c =
          record { inside = IfOk-weaker r (Composed left p x.bad q) (Within w at left) within c.is; gives = go }
        where
          within : (o : Outline) → Composed left p x.bad q o → Within w at left o
          within k d =
              record {
                within = omega (arith, d.is_next, z.inside.within);
                onward =
                    omega (arith, o.inside.onward, b₁.onward, y.onward, b₂.onward, z.inside.onward, d.is_next);
                small = d.small;
              }

          go : (t : Chart) (ts : Tokens) → Calm ts → Text (of_chart t ++ ts) (drop at w)
              → Gives w left (depth t) r (told t) ts
          go (single s) ts n t = absurd (no_single s ts n t)
          go (composed a u b) ts n t =
              let h = (first_part (Ok p) o a u b ts t).reads in
              let g = second_part (Ok q) z a u b ts n t in
              let v = g.1.reads in
              let l = ap₂ larger h.is_depth v.is_depth in
              record {
                is_deep = c.is_deep ∙ ap (λ n. not (ltb n left)) l ∙ not_ltb (larger (depth a) (depth b)) left;
                reads = IfOk-weaker r (Composed left p x.bad q) (λ o. Reads w o (told (composed a u b)) ts)
                    (λ k d. record {
                      goes_on = subst (λ k. Text ts (drop k w)) (sym d.is_next) v.goes_on;
                      is_depth = omega (arith, d.is_depth, l);
                      is_bad = d.is_bad ∙ ap₂ (◌||◌) h.is_bad (ap₂ (◌||◌) g.0 v.is_bad);
                      is_nodes =
                          d.is_nodes ∙ ap₂ (λ k l. cap (cap (k + l) + 1)) h.is_nodes v.is_nodes
                          ∙ ap (λ k. cap (k + 1)) (cap_plus (nodes_in a) (nodes_in b))
                          ∙ cap_suc (nodes_in a + nodes_in b);
                      is_slaves =
                          d.is_slaves ∙ ap₂ (λ k l. cap (k + l)) h.is_slaves v.is_slaves
                          ∙ cap_plus (slaves_in a) (slaves_in b);
                    }) c.is;
              }

-- ── a part ──

-- the mask of a master's states is right where the master is not refused
pub states-fine : (u : Tree) → sequential? u ≡ false → not_all? named_states (members_of u.heading.states) ≡ false
unfolding sequential?
states-fine u e = or_left (not_all? named_states (members_of u.heading.states)) _ e

master_bad : (mask : ℕ) (u : Tree) (ps : Slaves)
    → (sequential? u ≡ false → mask ≡ mask_of (members_of u.heading.states))
    → (sequential? u || refused_slaves? (lacks mask) ps) ≡ (sequential? u || refused_slaves? (lacking u) ps)
master_bad mask u ps m = go (sequential? u) refl
  where
    go : (b : Bool) → sequential? u ≡ b → (b || refused_slaves? (lacks mask) ps) ≡ (b || refused_slaves? (lacking u) ps)
    go true e = refl
    go false e =
        slaves-same (lacks mask) (lacking u)
        (λ n. lacks_is mask (members_of u.heading.states) (states-fine u e) (m e) n) ps

-- what is shown for the one form that a part has, is shown for the part
sequential_only : (P : Chart → Type 0) → ((u : Tree) → P (single (sequential u))) → (t : Chart)
    → Sequential ≡ form_of t → P t
unfolding form_of form_of_single
sequential_only P h (single (sequential u)) f = h u
sequential_only P h (single (decomposed u ps)) f = absurd (let z : ◌≡◌ {A = ℕ} 0 1 = cc in omega arith)
sequential_only P h (single (hidden x u y)) f = absurd (let z : ◌≡◌ {A = ℕ} 0 1 = cc in omega arith)
sequential_only P h (composed a x b) f = absurd (let z : ◌≡◌ {A = ℕ} 0 1 = cc in omega arith)

bracketed_only : (P : Chart → Type 0) → ((a : Chart) (x : Signals) (b : Chart) → P (composed a x b)) → (t : Chart)
    → Bracketed ≡ form_of t → P t
unfolding form_of form_of_single
bracketed_only P h (composed a x b) f = h a x b
bracketed_only P h (single (sequential u)) f = absurd (let z : ◌≡◌ {A = ℕ} 0 1 = cc in omega arith)
bracketed_only P h (single (decomposed u ps)) f = absurd (let z : ◌≡◌ {A = ℕ} 0 1 = cc in omega arith)
bracketed_only P h (single (hidden x u y)) f = absurd (let z : ◌≡◌ {A = ℕ} 0 1 = cc in omega arith)

hidden_only : (P : Chart → Type 0) → ((x : Option Signals) (t : Chart) (y : Option Signals) → P (single (hidden x t y)))
    → (t : Chart) → Hidden ≡ form_of t → P t
unfolding form_of form_of_single
hidden_only P h (single (hidden x t y)) f = h x t y
hidden_only P h (single (sequential u)) f = absurd (let z : ◌≡◌ {A = ℕ} 0 1 = cc in omega arith)
hidden_only P h (single (decomposed u ps)) f = absurd (let z : ◌≡◌ {A = ℕ} 0 1 = cc in omega arith)
hidden_only P h (composed a x b) f = absurd (let z : ◌≡◌ {A = ℕ} 0 1 = cc in omega arith)

decomposed_only : (P : Chart → Type 0) → ((u : Tree) (ps : Slaves) → P (single (decomposed u ps))) → (t : Chart)
    → Decomposed ≡ form_of t → P t
unfolding form_of form_of_single
decomposed_only P h (single (decomposed u ps)) f = h u ps
decomposed_only P h (single (sequential u)) f = absurd (let z : ◌≡◌ {A = ℕ} 0 1 = cc in omega arith)
decomposed_only P h (single (hidden x u y)) f = absurd (let z : ◌≡◌ {A = ℕ} 0 1 = cc in omega arith)
decomposed_only P h (composed a x b) f = absurd (let z : ◌≡◌ {A = ℕ} 0 1 = cc in omega arith)

module _ (w : List ℕ) (at left : ℕ) where
  pub part_none : (e : TooDeep) → left ≡ 0 → PartAt w at left (Err e)
  part_none e z =
      record {
        inside = tt;
        gives = λ t ts n h.
            record { is_deep = sym (lt-ltb left (part_depth t) (omega (arith, part_some t, z))); reads = tt };
      }

  pub part_right : (f g : Form) (r : Result Outline TooDeep) → FormAt w at f → g ≡ f → FormedAt g w at left r
      → PartAt w at left r
  part_right f g r o e m =
      record { inside = m.inside; gives = λ t ts n h. m.gives t ts (e ∙ o.is t ts h) n h }

  module _ (p : 0 < left) where
    pub sequential_right : (r : Outline) (s : Drawn) → SequentialAt w at s → r.depth ≡ 1 → r.bad ≡ s.bad
        → r.nodes ≡ 1 → r.slaves ≡ 0 → r.next ≡ s.next → FormedAt Sequential w at left (Ok r)
    unfolding part_depth depth refused? nodes_in slaves_in of_part
    sequential_right r s o eh eb en es ex =
        record {
          inside = record {
            within = omega (arith, o.within, ex);
            onward = omega (arith, o.onward, ex);
            small = omega (arith, eh);
          };
          gives = λ t ts f n. sequential_only
              (λ t. Text (of_part t ++ ts) (drop at w) → Gives w left (part_depth t) (Ok r) (told t) ts)
              (λ u t. let g = o.gives u ts t in
              record {
                is_deep = sym (le-ltb left 1 (omega arith));
                reads = record {
                  goes_on = subst (λ k. Text ts (drop k w)) (sym ex) g.goes_on;
                  is_depth = eh;
                  is_bad = eb ∙ g.is_bad;
                  is_nodes = en ∙ sym cap-one;
                  is_slaves = es ∙ sym cap-none;
                };
              }) t f;
        }

    module _ (i : ℕ) (b₁ : BehindSign w at 1 i) where
      -- the composition in the brackets
      in_brackets : (c : Result Outline TooDeep) → ChartAt w i (left - 1) c → (a : Chart) (x : Signals) (b : Chart)
          (ts : Tokens) → Text (of_part (composed a x b) ++ ts) (drop at w)
          → Gives w (left - 1) (depth (composed a x b)) c (told (composed a x b)) (sign rpar ∷ ts)
      unfolding of_chart of_part sign_bytes
      in_brackets c o a x b ts t =
          let t₀ = subst (λ u. Text u (drop at w)) (part_text a x b ts) t in
          let t₁ = subst (λ u. Text u (drop i w)) (sym (both_text_lem a x b (sign rpar ∷ ts)))
          (behind-right w at lpar i t₀ b₁.behind) in
          o.gives (composed a x b) (sign rpar ∷ ts) (calm_rpar ts) t₁

      pub bracketed_deep : (e : TooDeep) → ChartAt w i (left - 1) (Err e) → FormedAt Bracketed w at left (Err e)
      unfolding part_depth
      bracketed_deep e o =
          record {
            inside = tt;
            gives = λ t ts f n. bracketed_only
                (λ t. Text (of_part t ++ ts) (drop at w) → Gives w left (part_depth t) (Err e) (told t) ts)
                (λ a x b t. record {
                  is_deep = (in_brackets (Err e) o a x b ts t).is_deep ∙ ltb_step left (depth (composed a x b)) p;
                  reads = tt;
                }) t f;
          }

      pub bracketed_right : (c r : Outline) → ChartAt w i (left - 1) (Ok c) → BehindSign w c.next 1 r.next
          → r.depth ≡ c.depth → r.bad ≡ c.bad → r.nodes ≡ c.nodes → r.slaves ≡ c.slaves
          → FormedAt Bracketed w at left (Ok r)
      unfolding part_depth sign_bytes
      bracketed_right c r o v eh eb en es =
          record {
            inside = record {
              within = v.within;
              onward = omega (arith, o.inside.onward, b₁.onward, v.onward);
              small = omega (arith, o.inside.small, eh);
            };
            gives = λ t ts f n. bracketed_only
                (λ t. Text (of_part t ++ ts) (drop at w) → Gives w left (part_depth t) (Ok r) (told t) ts)
                (λ a x b t. let g = in_brackets (Ok c) o a x b ts t in
                let h = g.reads in
                record {
                  is_deep = g.is_deep ∙ ltb_step left (depth (composed a x b)) p;
                  reads = record {
                    goes_on = behind-right w c.next rpar r.next h.goes_on v.behind;
                    is_depth = eh ∙ h.is_depth;
                    is_bad = eb ∙ h.is_bad;
                    is_nodes = en ∙ h.is_nodes;
                    is_slaves = es ∙ h.is_slaves;
                  };
                }) t f;
          }

    module _ (i : ℕ) (x : SignalSet) (o : OptionalAt w at x) (b₁ : BehindSign w x.next 1 i) where
      -- the first set, and the chart between the brackets
      in_hiding : (c : Result Outline TooDeep) → ChartAt w i (left - 1) c → (u : Option Signals) (t : Chart)
          (v : Option Signals) (ts : Tokens) → Text (of_part (single (hidden u t v)) ++ ts) (drop at w)
          → (x.bad ≡ optional? u) × Gives w (left - 1) (depth t) c (told t) (sign rsq ∷ (of_optional v ++ ts))
      unfolding of_part sign_bytes
      in_hiding c m u t v ts k =
          let g = o.gives u _ (no_brace_lsq _) (subst (λ u. Text u (drop at w)) (hidden_text_lem u t v ts) k) in
          (g.is_bad, m.gives t _ (calm_rsq _) (behind-right w x.next lsq i g.goes_on b₁.behind))

      pub hidden_deep : (e : TooDeep) → ChartAt w i (left - 1) (Err e) → FormedAt Hidden w at left (Err e)
      unfolding part_depth depth
      hidden_deep e m =
          record {
            inside = tt;
            gives = λ t ts f n. hidden_only
                (λ t. Text (of_part t ++ ts) (drop at w) → Gives w left (part_depth t) (Err e) (told t) ts)
                (λ u t v k. record {
                  is_deep = (in_hiding (Err e) m u t v ts k).1.is_deep ∙ ltb_step left (depth t) p;
                  reads = tt;
                }) t f;
          }

      pub hidden_right : (j : ℕ) (y : SignalSet) (c r : Outline) → ChartAt w i (left - 1) (Ok c)
          → BehindSign w c.next 1 j → OptionalAt w j y → r.depth ≡ c.depth + 1 → r.bad ≡ (x.bad || (c.bad || y.bad))
          → r.nodes ≡ cap (c.nodes + 1) → r.slaves ≡ c.slaves → r.next ≡ y.next → FormedAt Hidden w at left (Ok r)
      unfolding part_depth depth refused? nodes_in slaves_in sign_bytes
      hidden_right j y c r m b₂ q eh eb en es ex =
          record {
            inside = record {
              within = omega (arith, q.within, ex);
              onward = omega (arith, o.onward, b₁.onward, m.inside.onward, b₂.onward, q.onward, ex);
              small = omega (arith, m.inside.small, eh);
            };
            gives = λ t ts f n. hidden_only
                (λ t. Text (of_part t ++ ts) (drop at w) → Gives w left (part_depth t) (Ok r) (told t) ts)
                (λ u t v k. let g = in_hiding (Ok c) m u t v ts k in
                let h = g.1.reads in
                let g₁ = q.gives v ts n (behind-right w c.next rsq j h.goes_on b₂.behind) in
                record {
                  is_deep = g.1.is_deep ∙ ltb_step left (depth t) p;
                  reads = record {
                    goes_on = subst (λ k. Text ts (drop k w)) (sym ex) g₁.goes_on;
                    is_depth = omega (arith, eh, h.is_depth);
                    is_bad = eb ∙ ap₂ (◌||◌) g.0 (ap₂ (◌||◌) h.is_bad g₁.is_bad);
                    is_nodes = en ∙ ap (λ k. cap (k + 1)) h.is_nodes ∙ cap_suc (nodes_in t);
                    is_slaves = es ∙ h.is_slaves;
                  };
                }) t f;
          }

    module _ (i j k : ℕ) (s : Drawn) (b₁ : BehindSign w at 3 i) (o : SequentialAt w i s) (b₂ : BehindSign w s.next 2 j)
        (b₃ : BehindSign w j 1 k) where
      -- the master, and its slaves
      in_braces : (c : Result Outline TooDeep) → SlavesAt w k s.mask (left - 1) c → (u : Tree) (ps : Slaves)
          (ts : Tokens) → Text (of_part (single (decomposed u ps)) ++ ts) (drop at w)
          → (s.bad ≡ sequential? u) × (sequential? u ≡ false → s.mask ≡ mask_of (members_of u.heading.states))
          × Gives w (left - 1) (depth_slaves ps) c (told_slaves (lacks s.mask) ps) ts
      unfolding of_part sign_bytes
      in_braces c m u ps ts t =
          let t₀ = subst (λ u. Text u (drop at w)) (master_text_lem u ps ts) t in
          let q = o.gives u _ (behind-right w at wordDec i t₀ b₁.behind) in
          let t₁ = behind-right w s.next wordBy j q.goes_on b₂.behind in (
            q.is_bad,
            (λ z. q.is_mask (q.is_bad ∙ z)),
            m.gives ps ts (behind-right w j lbrace k t₁ b₃.behind),
          )

      pub decomposed_deep : (e : TooDeep) → SlavesAt w k s.mask (left - 1) (Err e)
          → FormedAt Decomposed w at left (Err e)
      unfolding part_depth depth
      decomposed_deep e m =
          record {
            inside = tt;
            gives = λ t ts f n. decomposed_only
                (λ t. Text (of_part t ++ ts) (drop at w) → Gives w left (part_depth t) (Err e) (told t) ts)
                (λ u ps t. record {
                  is_deep = (in_braces (Err e) m u ps ts t).2.is_deep ∙ ltb_step left (depth_slaves ps) p;
                  reads = tt;
                }) t f;
          }

      pub decomposed_right : (c r : Outline) → SlavesAt w k s.mask (left - 1) (Ok c) → r.depth ≡ c.depth + 1
          → r.bad ≡ (s.bad || c.bad) → r.nodes ≡ cap (c.nodes + 1) → r.slaves ≡ c.slaves → r.next ≡ c.next
          → FormedAt Decomposed w at left (Ok r)
      unfolding part_depth depth refused? nodes_in slaves_in
      decomposed_right c r m eh eb en es ex =
          record {
            inside = record {
              within = omega (arith, m.inside.within, ex);
              onward = omega (arith, b₁.onward, o.onward, b₂.onward, b₃.onward, m.inside.onward, ex);
              small = omega (arith, m.inside.small, eh);
            };
            gives = λ t ts f n. decomposed_only
                (λ t. Text (of_part t ++ ts) (drop at w) → Gives w left (part_depth t) (Ok r) (told t) ts)
                (λ u ps t. let q = in_braces (Ok c) m u ps ts t in
                let g = q.2 in
                let h = g.reads in
                record {
                  is_deep = g.is_deep ∙ ltb_step left (depth_slaves ps) p;
                  reads = record {
                    goes_on = subst (λ k. Text ts (drop k w)) (sym ex) h.goes_on;
                    is_depth = omega (arith, eh, h.is_depth);
                    is_bad = eb ∙ ap₂ (◌||◌) q.0 h.is_bad ∙ master_bad s.mask u ps q.1;
                    is_nodes = en ∙ ap (λ k. cap (k + 1)) h.is_nodes ∙ cap_suc (nodes_in_slaves ps);
                    is_slaves = es ∙ h.is_slaves;
                  };
                }) t f;
          }

-- ── a slave with its state ──

module _ (w : List ℕ) (at mask left i j : ℕ) (q : Name) (b₁ : BehindSign w at 1 i) (n : NameFrom w i q)
    (b₂ : BehindSign w q.next 1 j) where
  -- the state, and the chart
  in_pair : (c : Result Outline TooDeep) → ChartAt w j left c → (k : ℕ) (t : Chart) (us : Tokens)
      → Text (pair_text k t us) (drop at w) → (q.value ≡ cap k) × Gives w left (depth t) c (told t) (sign rpar ∷ us)
  unfolding sign_bytes
  in_pair c m k t us h =
      let t₁ = named-right w i letQ k q (behind-right w at lpar i h b₁.behind) n.is in
      (t₁.0, m.gives t _ (calm_rpar us) (behind-right w q.next comma j t₁.1 b₂.behind))

  pub pair_deep : (e : TooDeep) → ChartAt w j left (Err e) → PairAt w at mask left (Err e)
  pair_deep e m =
      record {
        inside = tt;
        gives = λ k t us h. record { is_deep = (in_pair (Err e) m k t us h).1.is_deep; reads = tt };
      }

  pub pair_right : (c r : Outline) → ChartAt w j left (Ok c) → BehindSign w c.next 1 r.next → r.depth ≡ c.depth
      → r.bad ≡ (lacks mask q.value || c.bad) → r.nodes ≡ c.nodes → r.slaves ≡ cap (c.slaves + 1)
      → PairAt w at mask left (Ok r)
  unfolding depth_slaves refused_slaves? nodes_in_slaves slaves_in_slaves sign_bytes
  pair_right c r m v eh eb en es =
      record {
        inside = record {
          within = v.within;
          onward = omega (arith, b₁.onward, n.onward, b₂.onward, m.inside.onward, v.onward);
          small = omega (arith, m.inside.small, eh);
        };
        gives = λ k t us h. let g = in_pair (Ok c) m k t us h in
            let h = g.1.reads in
            record {
              is_deep = g.1.is_deep;
              reads = record {
                goes_on = behind-right w c.next rpar r.next h.goes_on v.behind;
                is_depth = eh ∙ h.is_depth;
                is_bad = eb ∙ ap₂ (◌||◌) (ap (lacks mask) g.0 ∙ cap-lacks mask k) h.is_bad;
                is_nodes = en ∙ h.is_nodes;
                is_slaves = es ∙ ap (λ k. cap (k + 1)) h.is_slaves ∙ cap_suc (slaves_in t);
              };
            };
      }

-- ── a text ──

pub text_right : (w : List ℕ) (r : Result Outline TooDeep) → ChartAt w 0 most_depth r → OutlineOf w r
text_right w r o = record { gives = go }
  where
    go : (t : Chart) → Spells w t → OutlineFor t r
    go t h =
        let g = o.gives t [] calm-end (subst (λ u. Text u w) (sym (append-nil (of_chart t))) h) in
        record {
          is_deep = g.is_deep;
          is_depth = IfOk-weaker r _ _ (λ o k. k.is_depth) g.reads;
          is_bad = IfOk-weaker r _ _ (λ o k. k.is_bad ∙ refused_is t) g.reads;
          is_nodes = IfOk-weaker r _ _ (λ o k. k.is_nodes) g.reads;
          is_slaves = IfOk-weaker r _ _ (λ o k. k.is_slaves) g.reads;
        }
