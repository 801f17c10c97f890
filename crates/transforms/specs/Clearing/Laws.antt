-- Laws of clearing behind 1 to 11, in this order: a file that is refused, one whose charts may stay, and one that
-- passed; 45 and the result's size; what the call answers.
use Rattle.std.specs.Prelude.{◌≡◌, refl, ◌≢◌, ℕ, ◌+◌, ◌≤◌, ◌<◌, length, Result, Ok, Err}
use Rattle.std.proofs.Common.{sym, ap, ◌∙◌}
use mathlib.Core.List.{List, []}
use borrow.Author.Tests.{ne_eqb, lt-ltb, le-ltb}
use Rattle.layout.specs.Body.{size_of}
use Rattle.layout.specs.declared.body.Shape.{Shape}
use Rattle.meaning.specs.Numbers.{stay_edition, short_out, may_stay}
use Rattle.meaning.specs.Meaning.{same}
use Rattle.meaning.specs.Laws.Bools.{same_refl, same_≢}
use Rattle.meaning.specs.File.{File, trailer, file_of}
use Rattle.meaning.specs.Check.{refusal_of}
use Rattle.meaning.specs.Check.Laws.{first_of_here, first_of-next, first_of_[], call_refused, call-passed}
use Rattle.meaning.specs.Calls.{laid_over}
use Rattle.meaning.specs.Rewriting.{shape_in, encode, stay_test}
use Rattle.agreement.specs.Encoded.{length-encode}
use Rattle.checks.specs.Refusals.{number}
use Rattle.checks.specs.Refusals.Laws.{number-some}
use Rattle.checks.specs.declared.refusal.Refusal.{Refusal}
use Rattle.checks.specs.declared.refusal.Refusal.TheVariants.{ShortOut, MayStay}
use Rattle.clearing.specs.Clearing.{clear, clear_bytes, clear_refusal, clear_length, clear_out}
use Rattle.transforms.specs.Promises.{ClearSays}
use Rattle.transforms.specs.Clearing.{clear_after, ClearsBody}

-- ── a file that is refused, and one that passed ──

module _ (f : List ℕ) where
  file_refused_lem : (refusal_of f ≡ 0 → ⊥) → (room : ℕ) → clear_refusal f room ≡ refusal_of f
  unfolding clear_refusal
  file_refused_lem h room = call_refused f _ h

  stay_refused : refusal_of f ≡ 0 → (trailer f).edition ≡ stay_edition → (room : ℕ) → clear_refusal f room ≡ may_stay
  unfolding clear_refusal
  stay_refused h two room = call-passed f _ h ∙ first_of_here (stay_test f) _ (rw two (same_refl stay_edition))

  refusal_is : refusal_of f ≡ 0 → (trailer f).edition ≢ stay_edition → (room : ℕ)
      → clear_refusal f room ≡ clear_after (file_of f) room
  unfolding clear_refusal clear_after clear_bytes
  refusal_is h one room = call-passed f _ h
      ∙ first_of-next (stay_test f) _ (same_≢ (trailer f).edition stay_edition one)

  module _ (buffer : List ℕ) where
    -- a refusal leaves the buffer as it was
    kept : (r : Refusal) → number r ≡ clear_refusal f (length buffer) → ClearSays f buffer (Err r) buffer
    unfolding clear_out same
    kept r e = (e, rw (← e, ne_eqb (number r) 0 (number-some r)))

    -- a file that is refused
    pub says_refused : (r : Refusal) → number r ≡ refusal_of f → ClearSays f buffer (Err r) buffer
    says_refused r e = kept r (e ∙ sym (file_refused_lem (λ z. number-some r (e ∙ z)) (length buffer)))

    -- one whose charts may stay
    pub says_stay : refusal_of f ≡ 0 → (trailer f).edition ≡ stay_edition → ClearSays f buffer (Err MayStay) buffer
    says_stay h two = kept MayStay (sym (stay_refused h two (length buffer)))

    -- any other is answered by its body
    pub says-body : refusal_of f ≡ 0 → (trailer f).edition ≢ stay_edition → (r : Result ℕ Refusal) (after : List ℕ)
        → ClearsBody (file_of f) buffer r after → ClearSays f buffer r after
    unfolding clear_length clear_out clear_bytes
    says-body h one r after q = rw (refusal_is h one (length buffer)) q

-- ── 45 ──

module _ (F : File) (buffer : List ℕ) where
  after-short : length buffer < length (encode (clear F)) → clear_after F (length buffer) ≡ short_out
  unfolding clear_after
  after-short l = first_of_here _ [] (lt-ltb (length buffer) (length (encode (clear F))) l)

  after-all : length (encode (clear F)) ≤ length buffer → clear_after F (length buffer) ≡ 0
  unfolding clear_after
  after-all l = first_of-next _ [] (le-ltb (length buffer) (length (encode (clear F))) l) ∙ first_of_[]

  pub body-short : length buffer < length (encode (clear F)) → ClearsBody F buffer (Err ShortOut) buffer
  unfolding same
  body-short l = rw (after-short l) (refl, refl)

  pub body-laid : (k : ℕ) (after : List ℕ) → length (encode (clear F)) ≤ length buffer → k ≡ length (encode (clear F))
      → after ≡ laid_over (encode (clear F)) buffer → ClearsBody F buffer (Ok k) after
  unfolding same
  body-laid k after l q h = rw (after-all l) ((refl, q), h)

-- the result's size
pub cleared-size : (F : File) (m : Shape) → m ≡ shape_in (clear F) → size_of m + 12 ≡ length (encode (clear F))
cleared-size F m e = ap (λ (s : Shape). size_of s + 12) e ∙ sym (length-encode (clear F))
