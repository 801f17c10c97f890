-- The slaves of a master from the front, as a loop reads them: the first pair, and then each pair behind a comma.
-- `front` takes them apart so.
use Rattle.std.specs.Prelude.{◌≡◌, refl, List, [], ◌∷◌, ◌++◌, ℕ}
use Rattle.std.proofs.Common.{ap, ◌∙◌}
use Rattle.notation.specs.Syntax.{Chart, Slaves, first_slave, more_slaves}
use Rattle.notation.specs.Grammar.{comma, sign, Tokens, of_slaves}
use Rattle.lists.specs.Laws.Found.{pair_text, pair_text_lem, pairs_text_lem}

-- a slave with its state
pub record Pair : Type 0 where
  pub state : ℕ
  pub chart : Chart

-- each pair behind a comma, and behind them the tokens us
unfoldable pub pairs_text : List Pair → Tokens → Tokens
pairs_text [] us = us
pairs_text (p ∷ rest) us = sign comma ∷ pair_text p.state p.chart (pairs_text rest us)

-- slaves with more pairs behind them
unfoldable pub and_more : Slaves → List Pair → Slaves
and_more ps [] = ps
and_more ps (p ∷ rest) = and_more (more_slaves ps p.state p.chart) rest

-- the first pair of slaves, the others, and the tokens of all of them
pub record Front (ps : Slaves) : Type 0 where
  pub state : ℕ
  pub chart : Chart
  pub rest : List Pair
  pub all : ps ≡ and_more (first_slave state chart) rest
  pub text : (us : Tokens) → of_slaves ps ++ us ≡ pair_text state chart (pairs_text rest us)

more_snoc : (ps : Slaves) (rest : List Pair) (q : ℕ) (t : Chart)
    → more_slaves (and_more ps rest) q t ≡ and_more ps (rest ++ (record { state = q; chart = t } ∷ []))
unfolding and_more
more_snoc ps [] q t = refl
more_snoc ps (p ∷ rest) q t = more_snoc (more_slaves ps p.state p.chart) rest q t

pairs_snoc : (rest : List Pair) (q : ℕ) (t : Chart) (us : Tokens)
    → pairs_text rest (sign comma ∷ pair_text q t us)
    ≡ pairs_text (rest ++ (record { state = q; chart = t } ∷ [])) us
unfolding pairs_text
pairs_snoc [] q t us = refl
pairs_snoc (p ∷ rest) q t us = ap (λ u. sign comma ∷ pair_text p.state p.chart u) (pairs_snoc rest q t us)

pub front : (ps : Slaves) → Front ps
unfolding and_more pairs_text
front (first_slave q t) =
    record { state = q; chart = t; rest = []; all = refl; text = λ us. pair_text_lem q t us }
front (more_slaves ps q t) =
    let f = front ps in
    record {
      state = f.state;
      chart = f.chart;
      rest = f.rest ++ (record { state = q; chart = t } ∷ []);
      all = ap (λ s. more_slaves s q t) f.all ∙ more_snoc (first_slave f.state f.chart) f.rest q t;
      text =
          λ us. pairs_text_lem ps q t us
          ∙ (f.text (sign comma ∷ pair_text q t us)
          ∙ ap (pair_text f.state f.chart) (pairs_snoc f.rest q t us));
    }
