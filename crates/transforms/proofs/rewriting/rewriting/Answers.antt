-- `rewriting::rewriting` meets its contract: the file's refusal, 46 where charts may stay, or the rewriting of its
-- body.
use mathlib.Core.Path.{◌≡◌, sym, ap, ◌∙◌}
use mathlib.Core.List.{List}
use mathlib.Core.Logic.{◌≢◌}
use Prim.Native.Nat.{ℕ}
use borrow.Author.Tests.{ne_eqb}
use lib.ListN.{length}
use Rattle.std.specs.Prelude.{Result, Err}
use Rattle.std.proofs.lemmas.Result.{err_from_is_err_and}
use Rattle.layout.specs.Le.{AllBytes}
use Rattle.layout.specs.declared.body.Shape.{Shape}
use Rattle.meaning.specs.Numbers.{stay_edition}
use Rattle.meaning.specs.Meaning.{same}
use Rattle.meaning.specs.Laws.Bools.{same_≢}
use Rattle.meaning.proofs.Laws.Editions.{edition_left}
use Rattle.meaning.specs.File.{trailer, shape_of, body_of, file_at, file_of}
use Rattle.meaning.specs.Check.{refusal_of}
use Rattle.meaning.specs.Check.Laws.{passed}
use Rattle.meaning.specs.Check.Nodes.{sound}
use Rattle.meaning.specs.Rewriting.{rewrite_refusal, rewrite_out}
use Rattle.agreement.specs.Passed.{ready}
use Rattle.agreement.specs.Step.{nearest_is}
use Rattle.checks.specs.Known.{Sized, Summed}
use Rattle.checks.specs.Refusals.{number}
use Rattle.checks.specs.Refusals.Laws.{number-some}
use Rattle.checks.specs.declared.refusal.Refusal.{Refusal}
use Rattle.checks.specs.declared.refusal.Refusal.TheVariants.{MayStay}
use Rattle.allocation.specs.Known.{Checked, Upward}
use Rattle.transforms.specs.Promises.{RewritingSays}
use Rattle.transforms.specs.Rewriting.{BodyRewrites}
use Rattle.transforms.specs.Rewriting.Laws.{file_refused_lem, stay_refused, refusal_is, length-is, out_is}
use Rattle.transforms.proofs.rewriting.rewriting.Goals as goal

-- a refusal leaves the buffer as it was
kept : (f out : List ℕ) (r : Refusal) → number r ≡ rewrite_refusal f (length out) → RewritingSays f out (Err r) out
unfolding rewrite_out same
kept f out r e = (e, rw (← e, ne_eqb (number r) 0 (number-some r)))

by-file : (f out : List ℕ) (r : Refusal) → number r ≡ refusal_of f → RewritingSays f out (Err r) out
by-file f out r e = kept f out r (e ∙ sym (file_refused_lem f (λ z. number-some r (e ∙ z)) (length out)))

edition_is : (f : List ℕ) (n : Shape) → n ≡ shape_of (trailer f) → (trailer f).edition ≡ n.edition
unfolding shape_of
edition_is f n en = sym (ap (λ (s : Shape). s.edition) en)

-- the body that the file is opened to
module _ (f : List ℕ) (h : refusal_of f ≡ 0) (n : Shape) (en : n ≡ shape_of (trailer f)) (one : n.edition ≢ stay_edition)
    (b : List ℕ) (eb : b ≡ body_of f) where
  not-two : (trailer f).edition ≢ stay_edition
  not-two e = one (sym (edition_is f n en) ∙ e)

  by-body : (out out' : List ℕ) (r : Result ℕ Refusal)
      → BodyRewrites (file_at n b) out r out' → RewritingSays f out r out'
  unfolding file_of
  by-body out out' r q =
      rw (refusal_is f h not-two (length out), length-is f h not-two (length out), out_is f h not-two out)
      (rw (en, eb) at q)

  body_checked : Sized n b → Summed n b → Checked n b
  unfolding file_of
  body_checked sz sm =
      let p = passed f h in
      record {
        sized = sz;
        summed = sm;
        sound = rw (en, eb) (sound (file_of f) p.slaves p.nodes p.naming p.inside);
      }

  upward : AllBytes f → Upward (file_at n b)
  unfolding file_of
  upward ab =
      let e = edition_left f (passed f h).edition (same_≢ (trailer f).edition stay_edition not-two) in
      rw (en, eb) (nearest_is (file_of f) (ready f (passed f h) ab e))

pub returns-in_err-o : goal.returns-in_err-o
returns-in_err-o c =
    let p = err_from_is_err_and c.from_residual.result c.from_residual.ensures.1 in
    rw (p.1, p.2)
    (by-file _ c.args.out.now _ c.in_err-o.ensures)

pub returns-then-o : goal.returns-then-o
returns-then-o c =
    let w = c.in_ok-o.ensures in
    kept _ c.args.out.now MayStay
    (sym (stay_refused _ w.0 (edition_is _ _ w.1.shape ∙ c.if-o.true) (length c.args.out.now)))

pub of_body-requires : goal.of_body-requires
of_body-requires c =
    let w = c.in_ok-o.ensures in
    let s = w.1 in (
      body_checked _ w.0 _ s.shape c.if-o.false _ s.body (rw s.body s.sized) (rw s.body s.summed),
      upward _ w.0 _ s.shape c.if-o.false _ s.body (λ i. (c.type_inv.file i).fits),
    )

pub returns : goal.returns
returns c =
    let w = c.in_ok-o.ensures in
    by-body _ w.0 _ w.1.shape c.if-o.false _ w.1.body c.args.out.now _ _ c.of_body.ensures
