-- The tests of writing in their order: a file that is refused, one whose charts may stay, and one that passed
-- (`says-..`); 51, 45, and the text (`body-..`); that the promise determines the answer (`write_determined`); and that
-- the text is within the buffer (`write-within`).
use Rattle.std.specs.Prelude.{◌≡◌, refl, Bool, true, false, cond, ◌≢◌, ℕ, ◌≤◌, ◌<◌, ltb, length, Result, Ok, Err}
use Rattle.std.proofs.Common.{sym, ◌∙◌, arith, length-append}
use mathlib.Core.List.{List, []}
use borrow.Author.Tests.{ne_eqb, lt-ltb, le-ltb}
use Rattle.meaning.specs.Numbers.{stay_edition, short_out, may_stay}
use Rattle.meaning.specs.Meaning.{same}
use Rattle.meaning.specs.Laws.Bools.{same_refl, same_≢}
use Rattle.meaning.specs.File.{File, trailer, file_of}
use Rattle.meaning.specs.Check.{refusal_of}
use Rattle.meaning.specs.Check.Laws.{first_of_here, first_of-next, first_of_[], call_refused, call-passed}
use Rattle.meaning.specs.Calls.{laid_over}
use Rattle.meaning.specs.Rewriting.{stay_test}
use Rattle.checks.specs.Refusals.{number}
use Rattle.checks.specs.Refusals.Laws.{number-some, answers-one}
use Rattle.checks.specs.declared.refusal.Refusal.{Refusal}
use Rattle.checks.specs.declared.refusal.Refusal.TheVariants.{ShortOut, MayStay, TooDeep}
use Rattle.notation.specs.Syntax.{depth}
use Rattle.reading.specs.Numbers.{most_depth, too_deep}
use Rattle.spelling.specs.Write.{chart_in, text_in, text_of, deep_test, write_refusal, write_length, write_out}
use Rattle.writer.specs.Promises.{WriteSays, write_after, WritesBody}

-- ── a file that is refused, and one that passed ──

module _ (f : List ℕ) where
  file_refused_lem : (refusal_of f ≡ 0 → ⊥) → (room : ℕ) → write_refusal f room ≡ refusal_of f
  unfolding write_refusal
  file_refused_lem h room = call_refused f _ h

  stay_refused : refusal_of f ≡ 0 → (trailer f).edition ≡ stay_edition → (room : ℕ) → write_refusal f room ≡ may_stay
  unfolding write_refusal
  stay_refused h two room = call-passed f _ h ∙ first_of_here (stay_test f) _ (rw two (same_refl stay_edition))

  refusal_is : refusal_of f ≡ 0 → (trailer f).edition ≢ stay_edition → (room : ℕ)
      → write_refusal f room ≡ write_after (file_of f) room
  unfolding write_refusal write_after text_of
  refusal_is h one room = call-passed f _ h
      ∙ first_of-next (stay_test f) _ (same_≢ (trailer f).edition stay_edition one)

  module _ (b : List ℕ) where
    -- a refusal leaves the buffer as it was
    kept : (r : Refusal) → number r ≡ write_refusal f (length b) → WriteSays f b (Err r) b
    unfolding write_out same
    kept r e = (e, rw (← e, ne_eqb (number r) 0 (number-some r)))

    pub says_refused : (r : Refusal) → number r ≡ refusal_of f → WriteSays f b (Err r) b
    says_refused r e = kept r (e ∙ sym (file_refused_lem (λ z. number-some r (e ∙ z)) (length b)))

    pub says_stay : refusal_of f ≡ 0 → (trailer f).edition ≡ stay_edition → WriteSays f b (Err MayStay) b
    says_stay h two = kept MayStay (sym (stay_refused h two (length b)))

    pub says-body : refusal_of f ≡ 0 → (trailer f).edition ≢ stay_edition → (r : Result ℕ Refusal) (c : List ℕ)
        → WritesBody (file_of f) b r c → WriteSays f b r c
    unfolding write_length write_out text_of
    says-body h one r c q = rw (refusal_is h one (length b)) q

-- ── 51, 45, and the text ──

module _ (F : File) (b : List ℕ) where
  abbrev deep : Bool
  deep = ltb most_depth (depth (chart_in F))

  after-deep : deep ≡ true → write_after F (length b) ≡ too_deep
  unfolding write_after
  after-deep d = first_of_here (deep_test F) _ d

  after-short : deep ≡ false → length b < length (text_in F) → write_after F (length b) ≡ short_out
  unfolding write_after
  after-short d l = first_of-next (deep_test F) _ d ∙ first_of_here _ [] (lt-ltb (length b) (length (text_in F)) l)

  after-all : deep ≡ false → length (text_in F) ≤ length b → write_after F (length b) ≡ 0
  unfolding write_after
  after-all d l =
      first_of-next (deep_test F) _ d ∙ first_of-next _ [] (le-ltb (length b) (length (text_in F)) l) ∙ first_of_[]

  pub body-deep : deep ≡ true → WritesBody F b (Err TooDeep) b
  unfolding same
  body-deep d = rw (after-deep d) (refl, refl)

  pub body-short : deep ≡ false → length b < length (text_in F) → WritesBody F b (Err ShortOut) b
  unfolding same
  body-short d l = rw (after-short d l) (refl, refl)

  pub body-written : (k : ℕ) (c : List ℕ) → deep ≡ false → length (text_in F) ≤ length b → k ≡ length (text_in F)
      → c ≡ laid_over (text_in F) b → WritesBody F b (Ok k) c
  unfolding same
  body-written k c d l q h = rw (after-all d l) ((refl, q), h)

-- ── one answer ──

pub write_determined : (f b : List ℕ) (r s : Result ℕ Refusal) (c d : List ℕ) → WriteSays f b r c → WriteSays f b s d
    → (r ≡ s) × (c ≡ d)
write_determined f b r s c d p q = (answers-one _ _ r s p.0 q.0, p.1 ∙ sym q.1)

-- ── within the buffer ──

pub write-within : (f b : List ℕ) (k : ℕ) (c : List ℕ) → WriteSays f b (Ok k) c → k ≤ length c
unfolding write_length write_out
write-within f b k c h = rw (h.0.1, h.1) (go (same (write_refusal f (length b)) 0))
  where
    go : (t : Bool) → cond t (length (text_of f)) 0 ≤ length (cond t (laid_over (text_of f) b) b)
    go true = rw length-append (omega arith)
    go false = omega arith
