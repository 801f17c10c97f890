-- What the walk lays down of a master and its slaves: one pair (`pair-..`), the loop over the pairs of a state
-- (`along-..`), the loop over the states (`states-..`), a master behind its slaves (`master_laid`).
use Rattle.std.specs.Prelude.{◌≡◌, ℕ, suc, ◌+◌, ◌-◌, ◌≤◌, ◌<◌, length, drop, get_or}
use Rattle.std.proofs.Math.Path.{refl, sym}
use Rattle.std.proofs.Common.{ap, ap₂, ◌∙◌, subst, add-one, arith, eq-eqb, ne_eqb}
use mathlib.Core.List.{List, [], ◌∷◌, ◌++◌, append_assoc, append-nil, map}
use Rattle.std.proofs.Math.Decide.{dec_lt}
use Rattle.layout.specs.declared.record.Slave.{Slave}
use Rattle.notation.specs.Syntax.{Sequential, decomposed, Chart}
use Rattle.notation.specs.Syntax.{Slaves, first_slave, more_slaves, depth, depth_slaves}
use Rattle.notation.specs.Grammar.{lpar, rpar, lbrace, rbrace, comma, wordDec, wordBy, letQ, sign, sign_bytes}
use Rattle.notation.specs.Grammar.{Tokens, of_chart, of_slaves, Text}
use Rattle.notation.specs.Reader.{first_byte}
use Rattle.reading.specs.Numbers.{named_charts, named_states}
use Rattle.reading.specs.Names.{name_of}
use Rattle.reading.specs.Meant.{with_key, sorted_by, last_of, Placed, lay_slaves, beside, chart_node}
use Rattle.reading.specs.Meant.{lay_single, lay_chart, placed}
use Rattle.tokens.specs.declared.Name.{Name}
use Rattle.tokens.specs.Tokens.{cap, after_blanks, BehindSign, NameFrom}
use Rattle.tokens.specs.Laws.Text.{behind-right, named-right}
use Rattle.tokens.specs.Laws.Lists.{peek_sign}
use Rattle.tokens.specs.Laws.Steps.{cap-below, cap_above}
use Rattle.lists.specs.declared.Sequential.{Sequential as Drawn}
use Rattle.lists.specs.Lists.{GivesSequential, SequentialAt as ReadsAt}
use Rattle.lists.specs.Laws.Found.{master_text, pair_text}
use Rattle.forms.specs.Laws.Bytes.{calm_rpar}
use Rattle.forms.specs.Laws.Slaves.{Pair, pairs_text, and_more, Front, front}
use Rattle.outline.specs.Laws.Forms.{larger-left, larger-right}
use Rattle.walk.specs.Brackets.{ClosesAt}
use Rattle.walk.specs.Laws.Brackets.{even_chart, even_slaves, close_par, close_brace}
use Rattle.walk.specs.Walk.{Sheet, Fits, Adds, one_node, one_slave, Writes, WritesChart, DrawableSingle, Drawable}
use Rattle.walk.specs.Walk.{DrawableSlaves, Lays, ChartAt, MasterAt, SlavesAt, StateAt, PairAt}
use Rattle.walk.specs.Laws.Order.{key_append, sorted_split}
use Rattle.walk.specs.Laws.Laid.{laid_node, laid-slave, fits_is, fits-first, fits_then, adds_is, adds_then}
use Rattle.walk.specs.Laws.Laid.{adds_none, slaves-append, slaves_room, slaves_then}
use Rattle.walk.specs.Laws.Walk.{name_is}

abbrev at_of : Placed → ℕ
at_of p = p.at

abbrev placed_of : Pair → Placed
placed_of p = record { at = p.state; part = λ k. lay_chart p.chart k }

-- ── one pair ──

-- a state as read is the state, where it is in range
state_is : (n v q : ℕ) → q < named_states → v ≡ cap n → v ≡ q → n ≡ q
state_is n v q h e f = go (dec_lt n 1000)
  where
    go : Dec (n < 1000) → n ≡ q
    go (yes l) = omega (arith, e, f, cap-below n l)
    go (no l) = absurd (omega (arith, e, f, cap_above n (omega arith)))

state_not : (n v q : ℕ) → q < named_states → v ≡ cap n → (v ≡ q → ⊥) → n ≡ q → ⊥
state_not n v q h e f g = f (omega (arith, e, g, cap-below n (omega arith)))

key_is : (p : Placed) (q : ℕ) → p.at ≡ q → with_key at_of q (p ∷ []) ≡ p ∷ []
unfolding with_key
key_is p q e = rw (eq-eqb p.at q e)

key_not : (p : Placed) (q : ℕ) → (p.at ≡ q → ⊥) → with_key at_of q (p ∷ []) ≡ []
unfolding with_key
key_not p q e = rw (ne_eqb p.at q e)

no_slaves : (c k : ℕ) → lay_slaves c [] k ≡ record { nodes = []; slaves = [] }
unfolding lay_slaves
no_slaves c k = refl

module _ (w : List ℕ) (c q left i j k l m : ℕ) (s : q < named_states) (n : Name) (o : BehindSign w i 1 j)
    (p : NameFrom w j n) (r : BehindSign w n.next 1 k) (u : ClosesAt w k l) (v : BehindSign w l 1 m) where
  onward-all : i ≤ m
  onward-all = omega (arith, o.onward, p.onward, r.onward, u.onward, v.onward)

  -- the state, the text of the chart, and the text behind the pair
  pair_text_of : (d : ℕ) (t : Chart) (ts : Tokens) → Text (pair_text d t ts) (drop i w)
      → (n.value ≡ cap d) × Text (of_chart t ++ (sign rpar ∷ ts)) (drop k w) × Text ts (drop m w)
  unfolding sign_bytes
  pair_text_of d t ts e =
      let a = behind-right w i lpar j e o.behind in
      let b = named-right w j letQ d n a p.is in
      let x = behind-right w n.next comma k b.1 r.behind in
      let y = close_par (of_chart t) ts (even_chart t) w k l u x in
      (b.0, x, behind-right w l rpar m y v.behind)

  -- it is of another state
  pub pair_other : (a : Sheet) → (n.value ≡ q → ⊥) → PairAt w c q left i m a a
  pair_other a h =
      record {
        within = v.within;
        onward = onward-all;
        gives =
            λ d t ts deep fine e f. let g = pair_text_of d t ts e in (
              g.2,
              adds_is (ap (λ x. lay_slaves c x a.node) (key_not _ q (state_not d n.value q s g.0 h))
                  ∙ no_slaves c a.node) (adds_none a),
            );
      }

  -- it is of the state
  pub pair_own : (a b d : Sheet) (x y z : ℕ) → n.value ≡ q → ChartAt w left k x a b → y ≡ b.node - 1
      → Writes m z b d (one_slave (record { chart = c; state = q; node = y })) → PairAt w c q left i z a d
  pair_own a b d x y z h g ey v' =
      record {
        within = subst (λ e. e ≤ length w) (sym v'.stays) v.within;
        onward = subst (λ e. i ≤ e) (sym v'.stays) onward-all;
        gives = go;
      }
    where
      go : (e : ℕ) (t : Chart) (ts : Tokens) → depth t ≤ left → Drawable t
          → Lays w i z a d (pair_text e t ts) ts
          (lay_slaves c (with_key at_of q (record { at = e; part = λ k. lay_chart t k } ∷ [])) a.node)
      go e t ts deep fine f h' = (subst (λ e. Text ts (drop e w)) (sym v'.stays) read.2, whole)
        where
          read : (n.value ≡ cap e) × Text (of_chart t ++ (sign rpar ∷ ts)) (drop k w) × Text ts (drop m w)
          read = pair_text_of e t ts f

          own : e ≡ q
          own = state_is e n.value q s read.0 h

          one : Placed
          one = record { at = e; part = λ k. lay_chart t k }

          slave : Slave
          slave = record { chart = c; state = e; node = last_of a.node (lay_chart t a.node) }

          is : lay_slaves c (with_key at_of q (one ∷ [])) a.node ≡ beside (lay_chart t a.node) (one_slave slave)
          is = ap (λ x. lay_slaves c x a.node) (key_is one q own) ∙ laid-slave c one a.node

          fits : Fits a (beside (lay_chart t a.node) (one_slave slave))
          fits = fits_is is h'

          chart : Text (sign rpar ∷ ts) (drop x w) × Adds a b (lay_chart t a.node)
          chart = g.gives t _ (calm_rpar ts) deep fine read.1 (fits-first _ fits)

          node : slave ≡ record { chart = c; state = q; node = y }
          node =
              ap₂ (λ f r. record { chart = c; state = f; node = r }) own
              (ap (◌- 1) (sym chart.1.counted) ∙ sym ey)

          whole : Adds a d (lay_slaves c (with_key at_of q (one ∷ [])) a.node)
          whole =
              adds_is (is ∙ ap (λ e. beside (lay_chart t a.node) (one_slave e)) node)
              (adds_then chart.1 (v'.adds (fits_is (ap one_slave node) (fits_then fits chart.1))))

-- ── the pairs of a state ──

-- pairs that are not too deep, and to which 52 does not apply
unfoldable pub Fine : ℕ → List Pair → Type 0
Fine left [] = Unit {0}
Fine left (p ∷ ps) = (depth p.chart ≤ left) × Drawable p.chart × Fine left ps

fine_more : (left : ℕ) (ps : Slaves) (rest : List Pair) → depth_slaves (and_more ps rest) ≤ left
    → DrawableSlaves (and_more ps rest) → (depth_slaves ps ≤ left) × DrawableSlaves ps × Fine left rest
unfolding and_more Fine depth_slaves DrawableSlaves
fine_more left ps [] d h = (d, h, tt)
fine_more left ps (p ∷ rest) d h =
    let g = fine_more left (more_slaves ps p.state p.chart) rest d h in (
      omega (arith, g.0, larger-left (depth_slaves ps) (depth p.chart)),
      g.1.0,
      (omega (arith, g.0, larger-right (depth_slaves ps) (depth p.chart)), g.1.1, g.2),
    )

placed_more : (ps : Slaves) (rest : List Pair) → placed (and_more ps rest) ≡ placed ps ++ map placed_of rest
unfolding and_more placed
placed_more ps [] = sym (append-nil (placed ps))
placed_more ps (p ∷ rest) =
    placed_more (more_slaves ps p.state p.chart) rest
    ∙ append_assoc (placed ps) (placed_of p ∷ []) (map placed_of rest)

next_pair : (w : List ℕ) (i j : ℕ) (x : Pair) (rest : List Pair) (ts : Tokens) → BehindSign w i 1 j
    → Text (pairs_text (x ∷ rest) ts) (drop i w) → Text (pair_text x.state x.chart (pairs_text rest ts)) (drop j w)
unfolding pairs_text sign_bytes
next_pair w i j x rest ts o t = behind-right w i comma j t o.behind

-- of the pairs l, each behind a comma, `done` are passed, and the text goes on with the others at i
pub record Along (w : List ℕ) (c q left i : ℕ) (a b : Sheet) (l : List Pair) (ts : Tokens) : Type 0 where
  pub done : List Placed
  pub rest : List Pair
  pub all : map placed_of l ≡ done ++ map placed_of rest
  pub fine : Fine left rest
  pub text : Text (pairs_text rest (sign rbrace ∷ ts)) (drop i w)
  pub adds : Adds a b (lay_slaves c (with_key at_of q done) a.node)

-- where the pairs l stand at i, with a brace behind them, and there is room for those of the state
abbrev pub Ready : List ℕ → ℕ → ℕ → ℕ → ℕ → Sheet → List Pair → Tokens → Type 0
Ready w c q left i a l ts =
    Fine left l × Text (pairs_text l (sign rbrace ∷ ts)) (drop i w)
    × Fits a (lay_slaves c (with_key at_of q (map placed_of l)) a.node)

module _ (w : List ℕ) (c q left : ℕ) (a : Sheet) (l : List Pair) (ts : Tokens) where
  pub along_none : (i : ℕ) → Ready w c q left i a l ts → Along w c q left i a a l ts
  along_none i r =
      record {
        done = [];
        rest = l;
        all = refl;
        fine = r.0;
        text = r.1;
        adds = unfold with_key in adds_is (no_slaves c a.node) (adds_none a);
      }

  pub along_more : (i j k : ℕ) (b d : Sheet) → get_or (after_blanks (drop i w)) 0 0 ≡ 44 → BehindSign w i 1 j
      → PairAt w c q left j k b d → Fits a (lay_slaves c (with_key at_of q (map placed_of l)) a.node)
      → Along w c q left i a b l ts → Along w c q left k a d l ts
  along_more i j k b d e o p f g = go g.rest g.all g.fine g.text
    where
      go : (rest : List Pair) → map placed_of l ≡ g.done ++ map placed_of rest → Fine left rest
          → Text (pairs_text rest (sign rbrace ∷ ts)) (drop i w) → Along w c q left k a d l ts
      go [] z v t = absurd (unfold pairs_text first_byte in let y = peek_sign rbrace t in omega arith)
      go (x ∷ rest) z v t =
          record {
            done = g.done ++ (placed_of x ∷ []);
            rest = rest;
            all = z ∙ sym (append_assoc g.done (placed_of x ∷ []) (map placed_of rest));
            fine = ok.2;
            text = got.0;
            adds =
                adds_is (ap (λ y. lay_slaves c y a.node) (key_append at_of q g.done (placed_of x ∷ [])))
                (slaves_then c (with_key at_of q g.done) (with_key at_of q (placed_of x ∷ [])) g.adds got.1);
          }
        where
          ok : (depth x.chart ≤ left) × Drawable x.chart × Fine left rest
          ok = unfold Fine in v

          split : with_key at_of q (map placed_of l)
              ≡ with_key at_of q g.done
              ++ (with_key at_of q (placed_of x ∷ []) ++ with_key at_of q (map placed_of rest))
          split =
              ap (with_key at_of q) z ∙ key_append at_of q g.done (placed_of x ∷ map placed_of rest)
              ∙ ap (with_key at_of q g.done ++◌) (key_append at_of q (placed_of x ∷ []) (map placed_of rest))

          got : Text (pairs_text rest (sign rbrace ∷ ts)) (drop k w)
              × Adds b d (lay_slaves c (with_key at_of q (placed_of x ∷ [])) b.node)
          got =
              p.gives x.state x.chart _ ok.0 ok.1 (next_pair w i j x rest (sign rbrace ∷ ts) o t)
              (slaves_room c (with_key at_of q g.done) (with_key at_of q (placed_of x ∷ [])) g.adds
              (with_key at_of q (map placed_of rest)) (fits_is (ap (λ y. lay_slaves c y a.node) split) f))

  pub along_end : (i : ℕ) (b : Sheet) → (get_or (after_blanks (drop i w)) 0 0 ≡ 44 → ⊥) → Along w c q left i a b l ts
      → Text (sign rbrace ∷ ts) (drop i w) × Adds a b (lay_slaves c (with_key at_of q (map placed_of l)) a.node)
  along_end i b h g = go g.rest g.all g.text
    where
      go : (rest : List Pair) → map placed_of l ≡ g.done ++ map placed_of rest
          → Text (pairs_text rest (sign rbrace ∷ ts)) (drop i w)
          → Text (sign rbrace ∷ ts) (drop i w) × Adds a b (lay_slaves c (with_key at_of q (map placed_of l)) a.node)
      go [] e t = (
        unfold pairs_text in t,
        adds_is (ap (λ x. lay_slaves c (with_key at_of q x) a.node) (e ∙ append-nil g.done)) g.adds,
      )
      go (x ∷ rest) e t = absurd (unfold pairs_text first_byte in h (peek_sign comma t))

-- the first pair, and those behind commas
pub state_laid : (w : List ℕ) (c q left i j k : ℕ) (a b d : Sheet) → PairAt w c q left i j a b
    → ((l : List Pair) (ts : Tokens) → Ready w c q left j b l ts → Along w c q left k b d l ts)
    → (get_or (after_blanks (drop k w)) 0 0 ≡ 44 → ⊥) → k ≤ length w → StateAt w c q left i k a d
state_laid w c q left i j k a b d p g stop within = record { within = within; gives = λ ps. go ps (front ps) }
  where
    go : (ps : Slaves) → Front ps → (ts : Tokens) → depth_slaves ps ≤ left → DrawableSlaves ps
        → Lays w i k a d (of_slaves ps ++ (sign rbrace ∷ ts)) (sign rbrace ∷ ts)
        (lay_slaves c (with_key at_of q (placed ps)) a.node)
    go ps x ts deep fine e f = (
      end.0,
      adds_is (ap (λ y. lay_slaves c y a.node) split)
          (slaves_then c (with_key at_of q (one ∷ [])) (with_key at_of q (map placed_of x.rest)) first.1 end.1),
    )
      where
        one : Placed
        one = record { at = x.state; part = λ k. lay_chart x.chart k }

        shape : placed ps ≡ (one ∷ []) ++ map placed_of x.rest
        shape = ap placed x.all ∙ placed_more (first_slave x.state x.chart) x.rest ∙ unfold placed in refl

        ok : (depth_slaves (first_slave x.state x.chart) ≤ left) × DrawableSlaves (first_slave x.state x.chart)
            × Fine left x.rest
        ok =
            fine_more left (first_slave x.state x.chart) x.rest
            (subst (λ y. depth_slaves y ≤ left) x.all deep) (subst DrawableSlaves x.all fine)

        split : with_key at_of q (placed ps) ≡ with_key at_of q (one ∷ []) ++ with_key at_of q (map placed_of x.rest)
        split = ap (with_key at_of q) shape ∙ key_append at_of q (one ∷ []) (map placed_of x.rest)

        fits : Fits a (beside (lay_slaves c (with_key at_of q (one ∷ [])) a.node)
            (lay_slaves c (with_key at_of q (map placed_of x.rest))
            (a.node + length (lay_slaves c (with_key at_of q (one ∷ [])) a.node).nodes)))
        fits =
            fits_is (ap (λ y. lay_slaves c y a.node) split
            ∙ slaves-append c (with_key at_of q (one ∷ [])) (with_key at_of q (map placed_of x.rest)) a.node) f

        first : Text (pairs_text x.rest (sign rbrace ∷ ts)) (drop j w)
            × Adds a b (lay_slaves c (with_key at_of q (one ∷ [])) a.node)
        first =
            p.gives x.state x.chart _ (unfold depth_slaves in ok.0) (unfold DrawableSlaves in ok.1)
            (subst (λ y. Text y (drop i w)) (x.text (sign rbrace ∷ ts)) e) (fits-first _ fits)

        end : Text (sign rbrace ∷ ts) (drop k w)
            × Adds b d (lay_slaves c (with_key at_of q (map placed_of x.rest)) b.node)
        end =
            along_end w c q left b x.rest ts k d stop
            (g x.rest ts (
              ok.2,
              first.0,
              fits_is (ap (lay_slaves c (with_key at_of q (map placed_of x.rest)))
                  (sym first.1.counted)) (fits_then fits first.1),
            ))

-- ── the states ──

sorted_more : (q : ℕ) (l : List Placed) → sorted_by at_of (suc q) l ≡ sorted_by at_of q l ++ with_key at_of q l
unfolding sorted_by
sorted_more q l = refl

-- the slaves of the states below q are written
pub record Below (w : List ℕ) (c left i q : ℕ) (a b : Sheet) : Type 0 where
  pub adds : (ps : Slaves) (ts : Tokens) → depth_slaves ps ≤ left → DrawableSlaves ps
      → Text (of_slaves ps ++ (sign rbrace ∷ ts)) (drop i w)
      → Fits a (lay_slaves c (sorted_by at_of named_states (placed ps)) a.node)
      → Adds a b (lay_slaves c (sorted_by at_of q (placed ps)) a.node)

module _ (w : List ℕ) (c left i : ℕ) (a : Sheet) where
  pub states-none : Below w c left i 0 a a
  unfolding sorted_by
  states-none = record { adds = λ ps ts d h e f. adds_is (no_slaves c a.node) (adds_none a) }

  pub states-more : (q j : ℕ) (b d : Sheet) → q < named_states → StateAt w c q left i j b d → Below w c left i q a b
      → Below w c left i (q + 1) a d
  states-more q j b d l s g =
      record {
        adds =
            λ ps ts deep fine e f. let x = sorted_split at_of named_states q l (placed ps) in
            let y = g.adds ps ts deep fine e f in
            adds_is (ap (λ k. lay_slaves c (sorted_by at_of k (placed ps)) a.node) (add-one q)
            ∙ ap (λ k. lay_slaves c k a.node) (sorted_more q (placed ps)))
            (slaves_then c (sorted_by at_of q (placed ps)) (with_key at_of q (placed ps)) y
            (s.gives ps ts deep fine e (slaves_room c (sorted_by at_of q (placed ps)) (with_key at_of q (placed ps)) y
            x.0 (fits_is (ap (λ k. lay_slaves c k a.node) x.1) f))).1);
      }

  pub slaves-laid : (q j : ℕ) (b : Sheet) → q ≡ named_states → ClosesAt w i j → Below w c left i q a b
      → SlavesAt w c left i j a b
  slaves-laid q j b z u g =
      record {
        within = u.within;
        gives =
            λ ps ts deep fine e f. (
              close_brace (of_slaves ps) ts (even_slaves ps) w i j u e,
              subst (λ k. Adds a b (lay_slaves c (sorted_by at_of k (placed ps)) a.node)) z
                  (g.adds ps ts deep fine e f),
            );
      }

-- ── a master ──

master-is : (s : Sequential) (ps : Slaves) (k : ℕ)
    → lay_single (decomposed s ps) k
    ≡ beside (lay_slaves (name_of s) (sorted_by at_of named_states (placed ps)) k) (one_node (chart_node s))
unfolding lay_single
master-is s ps k = laid_node _ _

master_fine : (s : Sequential) (ps : Slaves) → DrawableSingle (decomposed s ps)
    → (name_of s < named_charts) × DrawableSlaves ps
unfolding DrawableSingle
master_fine s ps h = h

module _ (w : List ℕ) (left c i j k l m n o : ℕ) (r : Drawn) (a b d : Sheet) where
  pub master_laid : BehindSign w i 3 j → ReadsAt w j r → BehindSign w r.next 2 k → BehindSign w k 1 l
      → (r.name < 256 → c ≡ r.name) → SlavesAt w c left l m a b → BehindSign w m 1 n
      → WritesChart n o r.name b d → MasterAt w left i o a d
  master_laid p q s u ec v x y =
      record { within = subst (λ e. e ≤ length w) (sym y.stays) x.within; gives = go }
    where
      go : (t : Sequential) (ps : Slaves) (ts : Tokens) → depth_slaves ps ≤ left → DrawableSingle (decomposed t ps)
          → Lays w i o a d (master_text t ps ts) ts (lay_single (decomposed t ps) a.node)
      go t ps ts deep fine e f = (subst (λ e. Text ts (drop e w)) (sym y.stays) end.0, whole)
        where
          ok : (name_of t < named_charts) × DrawableSlaves ps
          ok = master_fine t ps fine

          read : GivesSequential w r t (sign wordBy ∷ sign lbrace ∷ (of_slaves ps ++ (sign rbrace ∷ ts)))
          read = q.gives t _ (unfold sign_bytes in behind-right w i wordDec j e p.behind)

          named : c ≡ name_of t
          named =
              let z = name_is (name_of t) r.name ok.0 read.is_name in
              ec (omega (arith, z, ok.0)) ∙ z

          inside : Text (of_slaves ps ++ (sign rbrace ∷ ts)) (drop l w)
          inside =
              unfold sign_bytes in
              behind-right w k lbrace l (behind-right w r.next wordBy k read.goes_on s.behind) u.behind

          fits : Fits a (beside (lay_slaves c (sorted_by at_of named_states (placed ps)) a.node)
              (one_node (chart_node t)))
          fits =
              fits_is (master-is t ps a.node
              ∙ ap (λ g. beside (lay_slaves g (sorted_by at_of named_states (placed ps)) a.node)
              (one_node (chart_node t)))
              (sym named)) f

          slaves : Text (sign rbrace ∷ ts) (drop m w)
              × Adds a b (lay_slaves c (sorted_by at_of named_states (placed ps)) a.node)
          slaves = v.gives ps ts deep ok.1 inside (fits-first _ fits)

          end : Text ts (drop n w) × Adds b d (one_node (chart_node t))
          end = (
            unfold sign_bytes in behind-right w m rbrace n slaves.0 x.behind,
            y.adds t ok.0 read.is_name (fits_then fits slaves.1),
          )

          whole : Adds a d (lay_single (decomposed t ps) a.node)
          whole =
              adds_is (master-is t ps a.node
              ∙ ap (λ g. beside (lay_slaves g (sorted_by at_of named_states (placed ps)) a.node)
              (one_node (chart_node t)))
              (sym named)) (adds_then slaves.1 end.1)
