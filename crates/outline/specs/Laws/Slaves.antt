-- The slaves of a master as a loop reads them: the first of them (`along_first`), each further one (`along_more`), and
-- the end (`along_end`); one that is too deep is the end as well (`first-deep`, `more-deep`).
use Rattle.std.specs.Prelude.{◌≡◌, true, false, ◌||◌, ℕ, ◌+◌, ◌≤◌, ltb, drop, get_or, Result, Ok, Err}
use Rattle.std.proofs.Math.Path.{sym, ap₂, subst}
use Rattle.std.proofs.Common.{◌∙◌}
use mathlib.Core.List.{List, [], ◌∷◌, ◌++◌}
use native.Mathlib.Omega.{arith}
use borrow.Author.Tests.{lt-ltb, le-ltb, ltb-true, ltb-false}
use Rattle.notation.specs.Syntax.{Chart, Slaves, first_slave, more_slaves, larger, depth, depth_slaves}
use Rattle.notation.specs.Grammar.{comma, rbrace, sign, sign_bytes, Tokens, of_slaves, Text}
use Rattle.notation.specs.Reader.{first_byte}
use Rattle.tokens.specs.Tokens.{cap, after_blanks, BehindSign}
use Rattle.tokens.specs.Laws.Text.{behind-right}
use Rattle.tokens.specs.Laws.Lists.{peek_sign}
use Rattle.lists.specs.Lists.{lacks}
use Rattle.forms.specs.Laws.Slaves.{Pair, pairs_text, and_more, Front, front}
use Rattle.outline.specs.declared.Outline.{Outline}
use Rattle.outline.specs.declared.TooDeep.{TooDeep}
use Rattle.outline.specs.Tree.{refused_slaves?, nodes_in_slaves, slaves_in_slaves, told_slaves}
use Rattle.outline.specs.Tree.{nodes_in, slaves_in}
use Rattle.outline.specs.Outline.{Joins, Gives, PairAt}
use Rattle.outline.specs.Laws.Counts.{cap_plus}
use Rattle.outline.specs.Laws.Forms.{larger-max, larger-left, larger-right}

-- ── depths ──

-- more slaves are no less deep
more-deep-at-least : (ps : Slaves) (rest : List Pair) → depth_slaves ps ≤ depth_slaves (and_more ps rest)
unfolding and_more depth_slaves
more-deep-at-least ps [] = omega arith
more-deep-at-least ps (p ∷ rest) =
    omega (
      arith,
      more-deep-at-least (more_slaves ps p.state p.chart) rest,
      larger-left (depth_slaves ps) (depth p.chart),
    )

-- the larger of two that are not too deep is not
pub larger-at_most : (m n left : ℕ) → m ≤ left → n ≤ left → larger m n ≤ left
larger-at_most m n left l k = omega (arith, larger-max m n)

-- ── the loop ──

-- the slaves `done` of ps are read, none of them too deep, and the text goes on with the others at i
pub record Along (w : List ℕ) (mask left i : ℕ) (r : Outline) (ps : Slaves) (us : Tokens) : Type 0 where
  pub done : Slaves
  pub rest : List Pair
  pub all : ps ≡ and_more done rest
  pub text : Text (pairs_text rest (sign rbrace ∷ us)) (drop i w)
  pub fits : depth_slaves done ≤ left
  pub is_depth : r.depth ≡ depth_slaves done
  pub is_bad : r.bad ≡ refused_slaves? (lacks mask) done
  pub is_nodes : r.nodes ≡ cap (nodes_in_slaves done)
  pub is_slaves : r.slaves ≡ cap (slaves_in_slaves done)

module _ (w : List ℕ) (mask left : ℕ) (ps : Slaves) (us : Tokens) where
  -- a slave that is too deep
  deep-right : (e : TooDeep) (d : ℕ) → true ≡ ltb left d → d ≤ depth_slaves ps
      → Gives w left (depth_slaves ps) (Err e) (told_slaves (lacks mask) ps) us
  deep-right e d h l =
      record {
        is_deep = sym (lt-ltb left (depth_slaves ps) (omega (arith, ltb-true left d (sym h), l)));
        reads = tt;
      }

  module _ (at : ℕ) (h : Text (of_slaves ps ++ (sign rbrace ∷ us)) (drop at w)) where
    abbrev f : Front ps
    f = front ps

    first_pair : (r : Result Outline TooDeep) → PairAt w at mask left r
        → Gives w left (depth f.chart) r (told_slaves (lacks mask) (first_slave f.state f.chart))
        (pairs_text f.rest (sign rbrace ∷ us))
    first_pair r o =
        o.gives f.state f.chart _ (subst (λ u. Text u (drop at w)) (f.text (sign rbrace ∷ us)) h)

    pub first-deep : (e : TooDeep) → PairAt w at mask left (Err e)
        → Gives w left (depth_slaves ps) (Err e) (told_slaves (lacks mask) ps) us
    unfolding depth_slaves
    first-deep e o =
        deep-right e (depth f.chart) (first_pair (Err e) o).is_deep
        (subst (λ s. depth f.chart ≤ depth_slaves s) (sym f.all)
        (more-deep-at-least (first_slave f.state f.chart) f.rest))

    pub along_first : (r : Outline) → PairAt w at mask left (Ok r) → Along w mask left r.next r ps us
    unfolding depth_slaves
    along_first r o =
        let p = first_pair (Ok r) o in
        let g = p.reads in
        record {
          done = first_slave f.state f.chart;
          rest = f.rest;
          all = f.all;
          text = g.goes_on;
          fits = ltb-false left (depth f.chart) (sym p.is_deep);
          is_depth = g.is_depth;
          is_bad = g.is_bad;
          is_nodes = g.is_nodes;
          is_slaves = g.is_slaves;
        }

  module _ (i : ℕ) (r : Outline) (a : Along w mask left i r ps us) where
    -- behind a comma stands one more
    module _ (j : ℕ) (p : Result Outline TooDeep) (s : get_or (after_blanks (drop i w)) 0 0 ≡ 44)
        (b : BehindSign w i 1 j) (o : PairAt w j mask left p) where
      pub record Next : Type 0 where
        pub state : ℕ
        pub chart : Chart
        pub rest : List Pair
        pub all : ps ≡ and_more (more_slaves a.done state chart) rest
        pub gives : Gives w left (depth chart) p (told_slaves (lacks mask) (first_slave state chart))
            (pairs_text rest (sign rbrace ∷ us))

      next_pair : Next
      unfolding pairs_text and_more first_byte sign_bytes
      next_pair = go a.rest a.all a.text
        where
          go : (rest : List Pair) → ps ≡ and_more a.done rest
              → Text (pairs_text rest (sign rbrace ∷ us)) (drop i w) → Next
          go [] e t = absurd (let z = peek_sign rbrace t in omega arith)
          go (k ∷ rest) e t =
              record {
                state = k.state;
                chart = k.chart;
                rest = rest;
                all = e;
                gives = o.gives k.state k.chart _ (behind-right w i comma j t b.behind);
              }

    module _ (j : ℕ) (s : get_or (after_blanks (drop i w)) 0 0 ≡ 44) (b : BehindSign w i 1 j) where
      pub more-deep : (e : TooDeep) → PairAt w j mask left (Err e)
          → Gives w left (depth_slaves ps) (Err e) (told_slaves (lacks mask) ps) us
      unfolding depth_slaves
      more-deep e o =
          let n = next_pair j (Err e) s b o in
          deep-right e (depth n.chart) n.gives.is_deep
          (subst (λ s. depth n.chart ≤ depth_slaves s) (sym n.all)
          (omega (
            arith,
            more-deep-at-least (more_slaves a.done n.state n.chart) n.rest,
            larger-right (depth_slaves a.done) (depth n.chart),
          )))

      pub along_more : (p q : Outline) → PairAt w j mask left (Ok p) → Joins r false p q
          → Along w mask left p.next q ps us
      unfolding depth_slaves refused_slaves? nodes_in_slaves slaves_in_slaves
      along_more p q o c =
          let n = next_pair j (Ok p) s b o in
          let g = n.gives.reads in
          let d = depth_slaves a.done in
          record {
            done = more_slaves a.done n.state n.chart;
            rest = n.rest;
            all = n.all;
            text = g.goes_on;
            fits =
                larger-at_most d (depth n.chart) left a.fits
                (ltb-false left (depth n.chart) (sym n.gives.is_deep));
            is_depth = c.is_depth ∙ ap₂ larger a.is_depth g.is_depth;
            is_bad = c.is_bad ∙ ap₂ (◌||◌) a.is_bad g.is_bad;
            is_nodes =
                c.is_nodes ∙ ap₂ (λ k l. cap (k + l)) a.is_nodes g.is_nodes
                ∙ cap_plus (nodes_in_slaves a.done) (nodes_in n.chart);
            is_slaves =
                c.is_slaves ∙ ap₂ (λ k l. cap (k + l)) a.is_slaves g.is_slaves
                ∙ cap_plus (slaves_in_slaves a.done) (slaves_in n.chart + 1);
          }

    pub along_end : (q : Outline) → (get_or (after_blanks (drop i w)) 0 0 ≡ 44 → ⊥) → BehindSign w i 1 q.next
        → q.depth ≡ r.depth → q.bad ≡ r.bad → q.nodes ≡ r.nodes → q.slaves ≡ r.slaves
        → Gives w left (depth_slaves ps) (Ok q) (told_slaves (lacks mask) ps) us
    unfolding pairs_text and_more first_byte sign_bytes
    along_end q s b eh eb en es = go a.rest a.all a.text
      where
        go : (rest : List Pair) → ps ≡ and_more a.done rest
            → Text (pairs_text rest (sign rbrace ∷ us)) (drop i w)
            → Gives w left (depth_slaves ps) (Ok q) (told_slaves (lacks mask) ps) us
        go [] e t =
            subst (λ s. Gives w left (depth_slaves s) (Ok q) (told_slaves (lacks mask) s) us) (sym e)
            (record {
              is_deep = sym (le-ltb left (depth_slaves a.done) a.fits);
              reads = record {
                goes_on = behind-right w i rbrace q.next t b.behind;
                is_depth = eh ∙ a.is_depth;
                is_bad = eb ∙ a.is_bad;
                is_nodes = en ∙ a.is_nodes;
                is_slaves = es ∙ a.is_slaves;
              };
            })
        go (k ∷ rest) e t = absurd (s (peek_sign comma t))
