-- In the tokens of a chart its sequential charts are found, from left to right: `found_chart`, `found_all`.
use Rattle.std.specs.Prelude.{◌≡◌, false, List, [], ◌∷◌, ◌++◌, ℕ}
use Rattle.std.proofs.Math.Path.{refl}
use Rattle.std.proofs.Common.{sym, ap, ◌∙◌, subst, append_assoc, append-nil}
use Rattle.std.proofs.Math.Option.{Option, none, some}
use Rattle.notation.specs.Syntax.{OneOrMore, one, ◌▸◌, Signals, Sequential, Single, sequential, decomposed, hidden}
use Rattle.notation.specs.Syntax.{Chart, single, composed, Slaves, first_slave, more_slaves}
use Rattle.notation.specs.Grammar.{lpar, rpar, lbrace, rbrace, lsq, rsq, comma, bar, wordDec, wordBy, letQ, letS}
use Rattle.notation.specs.Grammar.{sign, name, Tokens, of_names, of_set, of_optional, of_heading, of_sequential}
use Rattle.notation.specs.Grammar.{of_single}
use Rattle.notation.specs.Grammar.{of_chart, of_part, of_slaves}
use Rattle.reading.specs.Names.{sequentials_in, sequentials_of, sequentials_of_slaves}
use Rattle.lists.specs.Found.{named?, begins?, Found, nothing, passed, found}

-- ── sets are passed ──

module _ {us : Tokens} {ss : List Sequential} where
  pass_sign_comma : Found us ss → Found (sign comma ∷ us) ss
  unfolding begins?
  pass_sign_comma f = passed (sign comma) refl f

  pass_name : (n : ℕ) → Found us ss → Found (name letS n ∷ us) ss
  unfolding begins?
  pass_name n f = passed (name letS n) refl f

  pass_rbrace : Found us ss → Found (sign rbrace ∷ us) ss
  unfolding begins?
  pass_rbrace f = passed (sign rbrace) refl f

  pass_lbrace : Found us ss → Found (sign lbrace ∷ us) ss
  unfolding begins?
  pass_lbrace f = passed (sign lbrace) refl f

  pass_bar : Found us ss → Found (sign bar ∷ us) ss
  unfolding begins?
  pass_bar f = passed (sign bar) refl f

  pass_rpar : Found us ss → Found (sign rpar ∷ us) ss
  unfolding begins?
  pass_rpar f = passed (sign rpar) refl f

  pass_lsq : Found us ss → Found (sign lsq ∷ us) ss
  unfolding begins?
  pass_lsq f = passed (sign lsq) refl f

  pass_rsq : Found us ss → Found (sign rsq ∷ us) ss
  unfolding begins?
  pass_rsq f = passed (sign rsq) refl f

  pass_dec : Found us ss → Found (sign wordDec ∷ us) ss
  unfolding begins?
  pass_dec f = passed (sign wordDec) refl f

  pass_by : Found us ss → Found (sign wordBy ∷ us) ss
  unfolding begins?
  pass_by f = passed (sign wordBy) refl f

  -- a bracket before something that is not a chart's name
  pass_lpar : named? us ≡ false → Found us ss → Found (sign lpar ∷ us) ss
  unfolding begins?
  pass_lpar e f = passed (sign lpar) e f

  -- the beginning of a slave's pair
  pass_pair : (q : ℕ) → Found us ss → Found (sign lpar ∷ name letQ q ∷ sign comma ∷ us) ss
  unfolding begins? named?
  pass_pair q f = passed (sign lpar) refl (passed (name letQ q) refl (passed (sign comma) refl f))

pass_names : (ks : OneOrMore ℕ) (us : Tokens) (ss : List Sequential) → Found us ss → Found (of_names letS ks ++ us) ss
unfolding of_names
pass_names (one k) us ss f = pass_name k f
pass_names (ks ▸ k) us ss f =
    subst (λ u. Found u ss) (sym (append_assoc (of_names letS ks) (sign comma ∷ name letS k ∷ []) us))
    (pass_names ks (sign comma ∷ name letS k ∷ us) ss (pass_sign_comma (pass_name k f)))

pass_set : (x : Signals) (us : Tokens) (ss : List Sequential) → Found us ss → Found (of_set x ++ us) ss
unfolding of_set
pass_set none us ss f = pass_lbrace (pass_rbrace f)
pass_set (some ks) us ss f =
    subst (λ u. Found (sign lbrace ∷ u) ss) (sym (append_assoc (of_names letS ks) (sign rbrace ∷ []) us))
    (pass_lbrace (pass_names ks (sign rbrace ∷ us) ss (pass_rbrace f)))

pass_optional : (x : Option Signals) (us : Tokens) (ss : List Sequential) → Found us ss → Found (of_optional x ++ us) ss
unfolding of_optional
pass_optional none us ss f = f
pass_optional (some x) us ss f = pass_set x us ss f

-- ── no part begins with a chart's name ──

set-begins : (x : Signals) (us : Tokens) → named? (of_set x ++ us) ≡ false
unfolding of_set named?
set-begins none us = refl
set-begins (some ks) us = refl

single-begins : (s : Single) (us : Tokens) → named? (of_single s ++ us) ≡ false
unfolding of_single of_sequential of_heading of_optional named?
single-begins (sequential s) us = refl
single-begins (decomposed s ps) us = refl
single-begins (hidden none t y) us = refl
single-begins (hidden (some x) t y) us =
    ap named? (append_assoc (of_set x) _ us) ∙ set-begins x _

pub part-begins : (t : Chart) (us : Tokens) → named? (of_part t ++ us) ≡ false
unfolding of_part named?
part-begins (single s) us = single-begins s us
part-begins (composed a x b) us = refl

-- ── a chart ──

-- the tokens of each form with others behind them
abbrev pub master_text : Sequential → Slaves → Tokens → Tokens
master_text s ps us =
    sign wordDec ∷ (of_sequential s ++ (sign wordBy ∷ sign lbrace ∷ (of_slaves ps ++ (sign rbrace ∷ us))))

abbrev pub hidden_text : Option Signals → Chart → Option Signals → Tokens → Tokens
hidden_text x t y us = of_optional x ++ (sign lsq ∷ (of_chart t ++ (sign rsq ∷ (of_optional y ++ us))))

abbrev pub both_text : Chart → Signals → Chart → Tokens → Tokens
both_text a x b us = of_part a ++ (sign bar ∷ (of_set x ++ (sign bar ∷ (of_part b ++ us))))

abbrev pub pair_text : ℕ → Chart → Tokens → Tokens
pair_text q t us = sign lpar ∷ name letQ q ∷ sign comma ∷ (of_chart t ++ (sign rpar ∷ us))

pub master_text_lem : (s : Sequential) (ps : Slaves) (us : Tokens)
    → of_single (decomposed s ps) ++ us ≡ master_text s ps us
unfolding of_single
master_text_lem s ps us =
    ap (sign wordDec ∷◌)
    (append_assoc (of_sequential s) (sign wordBy ∷ sign lbrace ∷ (of_slaves ps ++ (sign rbrace ∷ []))) us
    ∙ ap (λ u. of_sequential s ++ (sign wordBy ∷ sign lbrace ∷ u)) (append_assoc (of_slaves ps) (sign rbrace ∷ []) us))

pub hidden_text_lem : (x : Option Signals) (t : Chart) (y : Option Signals) (us : Tokens)
    → of_single (hidden x t y) ++ us ≡ hidden_text x t y us
unfolding of_single
hidden_text_lem x t y us =
    append_assoc (of_optional x) (sign lsq ∷ (of_chart t ++ (sign rsq ∷ of_optional y))) us
    ∙ ap (λ u. of_optional x ++ (sign lsq ∷ u)) (append_assoc (of_chart t) (sign rsq ∷ of_optional y) us)

pub both_text_lem : (a : Chart) (x : Signals) (b : Chart) (us : Tokens)
    → (of_part a ++ (sign bar ∷ (of_set x ++ (sign bar ∷ of_part b)))) ++ us ≡ both_text a x b us
both_text_lem a x b us =
    append_assoc (of_part a) (sign bar ∷ (of_set x ++ (sign bar ∷ of_part b))) us
    ∙ ap (λ u. of_part a ++ (sign bar ∷ u)) (append_assoc (of_set x) (sign bar ∷ of_part b) us)

pub part_text : (a : Chart) (x : Signals) (b : Chart) (us : Tokens)
    → of_part (composed a x b) ++ us ≡ sign lpar ∷ both_text a x b (sign rpar ∷ us)
unfolding of_part
part_text a x b us =
    ap (sign lpar ∷◌)
    (append_assoc (of_part a) (sign bar ∷ (of_set x ++ (sign bar ∷ (of_part b ++ (sign rpar ∷ []))))) us
    ∙ ap (λ u. of_part a ++ (sign bar ∷ u))
    (append_assoc (of_set x) (sign bar ∷ (of_part b ++ (sign rpar ∷ []))) us
    ∙ ap (λ u. of_set x ++ (sign bar ∷ u)) (append_assoc (of_part b) (sign rpar ∷ []) us)))

pub pair_text_lem : (q : ℕ) (t : Chart) (us : Tokens) → of_slaves (first_slave q t) ++ us ≡ pair_text q t us
unfolding of_slaves
pair_text_lem q t us =
    ap (λ u. sign lpar ∷ name letQ q ∷ sign comma ∷ u) (append_assoc (of_chart t) (sign rpar ∷ []) us)

pub pairs_text_lem : (ps : Slaves) (q : ℕ) (t : Chart) (us : Tokens)
    → of_slaves (more_slaves ps q t) ++ us ≡ of_slaves ps ++ (sign comma ∷ pair_text q t us)
unfolding of_slaves
pairs_text_lem ps q t us =
    append_assoc (of_slaves ps) (sign comma ∷ sign lpar ∷ name letQ q ∷ sign comma ∷ (of_chart t ++ (sign rpar ∷ [])))
    us
    ∙ ap (λ u. of_slaves ps ++ (sign comma ∷ sign lpar ∷ name letQ q ∷ sign comma ∷ u))
    (append_assoc (of_chart t) (sign rpar ∷ []) us)

mutual
  unfolding of_single sequentials_in

  found_single : (t : Single) (us : Tokens) (ss : List Sequential) → Found us ss
      → Found (of_single t ++ us) (sequentials_in t ++ ss)
  found_single (sequential s) us ss f = found s f
  found_single (decomposed s ps) us ss f =
      subst (λ u. Found u (s ∷ (sequentials_of_slaves ps ++ ss))) (sym (master_text_lem s ps us))
      (pass_dec (found s (pass_by (pass_lbrace (found_slaves ps (sign rbrace ∷ us) ss (pass_rbrace f))))))
  found_single (hidden x t y) us ss f =
      subst (λ u. Found u (sequentials_of t ++ ss)) (sym (hidden_text_lem x t y us))
      (pass_optional x _ _ (pass_lsq (found_chart t _ ss (pass_rsq (pass_optional y us ss f)))))

  pub found_chart : (t : Chart) (us : Tokens) (ss : List Sequential) → Found us ss
      → Found (of_chart t ++ us) (sequentials_of t ++ ss)
  found_chart (single s) us ss f = found_single s us ss f
  found_chart (composed a x b) us ss f =
      subst (λ u. Found u ((sequentials_of a ++ sequentials_of b) ++ ss)) (sym (both_text_lem a x b us))
      (subst (λ l. Found (both_text a x b us) l) (sym (append_assoc (sequentials_of a) (sequentials_of b) ss))
      (found_part a _ _ (pass_bar (pass_set x _ _ (pass_bar (found_part b us ss f))))))

  found_part : (t : Chart) (us : Tokens) (ss : List Sequential) → Found us ss
      → Found (of_part t ++ us) (sequentials_of t ++ ss)
  found_part (single s) us ss f = found_single s us ss f
  found_part (composed a x b) us ss f =
      subst (λ u. Found u ((sequentials_of a ++ sequentials_of b) ++ ss)) (sym (part_text a x b us))
      (subst (λ l. Found (sign lpar ∷ both_text a x b (sign rpar ∷ us)) l)
      (sym (append_assoc (sequentials_of a) (sequentials_of b) ss))
      (pass_lpar (part-begins a _)
      (found_part a _ _ (pass_bar (pass_set x _ _ (pass_bar (found_part b (sign rpar ∷ us) ss (pass_rpar f))))))))

  found_slaves : (ps : Slaves) (us : Tokens) (ss : List Sequential) → Found us ss
      → Found (of_slaves ps ++ us) (sequentials_of_slaves ps ++ ss)
  found_slaves (first_slave q t) us ss f =
      subst (λ u. Found u (sequentials_of t ++ ss)) (sym (pair_text_lem q t us))
      (pass_pair q (found_chart t (sign rpar ∷ us) ss (pass_rpar f)))
  found_slaves (more_slaves ps q t) us ss f =
      subst (λ u. Found u ((sequentials_of_slaves ps ++ sequentials_of t) ++ ss)) (sym (pairs_text_lem ps q t us))
      (subst (λ l. Found (of_slaves ps ++ (sign comma ∷ pair_text q t us)) l)
      (sym (append_assoc (sequentials_of_slaves ps) (sequentials_of t) ss))
      (found_slaves ps _ _ (pass_sign_comma (pass_pair q (found_chart t (sign rpar ∷ us) ss (pass_rpar f))))))

-- in the tokens of a chart, those that it has
pub found_all : (t : Chart) → Found (of_chart t) (sequentials_of t)
found_all t =
    subst (λ u. Found u (sequentials_of t)) (append-nil (of_chart t))
    (subst (λ l. Found (of_chart t ++ []) l) (append-nil (sequentials_of t)) (found_chart t [] [] nothing))
