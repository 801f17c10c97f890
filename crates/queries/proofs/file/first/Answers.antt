-- `file::first` meets its contract: the file's refusal, then 22, then the initial states over the front of the buffer.
use mathlib.Core.Path.{◌≡◌, refl, sym, ap, ◌∙◌}
use mathlib.Core.List.{List}
use Prim.Native.Nat.{ℕ, ◌≤◌, ◌<◌}
use borrow.Author.Tests.{lt-ltb, le-ltb, ne_eqb}
use lib.ListN.{length}
use Rattle.std.proofs.lemmas.Result.{err_from_is_err_and}
use Rattle.layout.specs.Body.{head_at}
use Rattle.layout.specs.declared.body.Shape.{Shape}
use Rattle.meaning.specs.Numbers.{short_buffer}
use Rattle.meaning.specs.Meaning.{same}
use Rattle.meaning.specs.File.{trailer, shape_of, body_of, chart_of, file_at, file_of}
use Rattle.meaning.specs.Check.{refusal_of}
use Rattle.meaning.specs.Check.Laws.{first_of_here, first_of-next, first_of_[], call_refused, call-passed}
use Rattle.meaning.specs.Calls.{made, laid_over, first_refusal, initials, first_bytes}
use Rattle.checks.specs.Refusals.{number}
use Rattle.checks.specs.Refusals.Laws.{number-some}
use Rattle.checks.specs.declared.refusal.Refusal.{Refusal}
use Rattle.checks.specs.declared.refusal.Refusal.TheVariants.{ShortBuffer}
use Rattle.queries.proofs.file.first.Goals as goal

-- a refusal leaves the buffer as it was
kept : (f config : List ℕ) (r : Refusal) → number r ≡ first_refusal f (length config)
    → (number r ≡ first_refusal f (length config)) × (config ≡ first_bytes f config)
unfolding first_bytes same
kept f config r e = (e, rw (← e, ne_eqb (number r) 0 (number-some r)))

by-file : (f : List ℕ) (room : ℕ) (r : Refusal) → number r ≡ refusal_of f → number r ≡ first_refusal f room
unfolding first_refusal
by-file f room r e = e ∙ sym (call_refused f _ (λ z. number-some r (e ∙ z)))

-- the file is accepted
module _ (f : List ℕ) (h : refusal_of f ≡ 0) (n : Shape) (is : n ≡ shape_of (trailer f)) where
  charts_is : (file_of f).charts ≡ n.charts
  unfolding file_of file_at
  charts_is = ap (λ (m : Shape). m.charts) (sym is)

  by_room : (room : ℕ) → room < n.charts → short_buffer ≡ first_refusal f room
  unfolding first_refusal
  by_room room l = sym (call-passed f _ h ∙ first_of_here _ _ (rw charts_is (lt-ltb room n.charts l)))

  given : (room : ℕ) → n.charts ≤ room → first_refusal f room ≡ 0
  unfolding first_refusal
  given room l = call-passed f _ h ∙ first_of-next _ _ (rw charts_is (le-ltb room n.charts l)) ∙ first_of_[]

  laid : (config : List ℕ) → n.charts ≤ length config
      → laid_over (made n.charts (λ c. (head_at n (body_of f) c).initial)) config ≡ first_bytes f config
  unfolding first_bytes initials file_of file_at chart_of same
  laid config l = rw (given (length config) l, is)

pub returns-in_err-o : goal.returns-in_err-o
returns-in_err-o c =
    let p = err_from_is_err_and c.from_residual.result c.from_residual.ensures.1 in
    rw (p.1, p.2)
    (kept _ _ _ (by-file _ _ _ c.in_err-o.ensures))

pub returns-then-config-o : goal.returns-then-config-o
returns-then-config-o c =
    let w = c.in_ok-o.ensures in kept _ _ ShortBuffer (by_room _ w.0 _ w.1.shape _ c.if-config-o.true)

pub put_initials-requires : goal.put_initials-requires
put_initials-requires c = let w = c.in_ok-o.ensures.1 in (rw w.body w.sized.holds, c.if-config-o.false)

pub returns : goal.returns
returns c =
    let w = c.in_ok-o.ensures in
    let s = w.1 in (
      (given _ w.0 _ s.shape _ c.if-config-o.false, refl),
      c.put_initials.ensures ∙ rw s.body (laid _ w.0 _ s.shape _ c.if-config-o.false),
    )
