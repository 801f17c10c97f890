-- Laws of the rewriting behind 1 to 11, in this order: a file that is refused, one whose charts may stay, and one that
-- passed; a refusal of 40 to 45; what 41 to 44 give; the result's size; what the call answers.
use Rattle.std.specs.Prelude.{◌≡◌, true, false, List, [], ◌∷◌, ◌++◌, ◌≢◌, ℕ, ◌+◌, ◌≤◌, ◌<◌, ltb, length, Ok, Err}
use Rattle.std.proofs.Math.Path.{refl, ap}
use Rattle.std.proofs.Common.{sym, ◌∙◌, append_assoc, lit<}
use borrow.Author.Tests.{ne_eqb, lt-ltb, le-ltb, ltb-false}
use Rattle.layout.specs.Body.{size_of}
use Rattle.layout.specs.declared.body.Shape.{Shape}
use Rattle.meaning.specs.Numbers.{stay_edition, most_nodes, no_free_signal, short_out, may_stay}
use Rattle.meaning.specs.Meaning.{same}
use Rattle.meaning.specs.Laws.Bools.{same_refl, same_≢}
use Rattle.meaning.specs.File.{File, trailer, file_of}
use Rattle.meaning.specs.Check.{Test, first_of, file_tests, refusal_of}
use Rattle.meaning.specs.Check.Laws.{first_of_here, first_of-next, first_of_[], first_of_++, first_of-before, Passes}
use Rattle.meaning.specs.Check.Laws.{first_of-passes, call_refused, call-passed}
use Rattle.meaning.specs.Calls.{laid_over}
use Rattle.meaning.specs.Rewriting.{free, start, rewrite, no_free?, rewrite_tests, shape_in}
use Rattle.meaning.specs.Rewriting.{encode, rewrite_bytes, stay_test, rewrite_refusal, rewrite_length, rewrite_out}
use Rattle.meaning.proofs.Rewriting.Laws.{list_most}
use Rattle.checks.specs.Refusals.{number}
use Rattle.checks.specs.Refusals.Laws.{number-some}
use Rattle.checks.specs.declared.refusal.Refusal.{Refusal}
use Rattle.agreement.specs.Encoded.{length-encode}
use Rattle.assembly.specs.Known.{Fits}
use Rattle.transforms.specs.Rewriting.{limit_tests, rewrite_after, length_after, out_after, BodyRewrites}

-- ── a file that is refused, and one that passed ──

module _ (f : List ℕ) where
  behind : (room : ℕ) → rewrite_refusal f room ≡ first_of
      (file_tests f ++ (stay_test f ∷ rewrite_tests (file_of f) ++ (record {
        number = short_out;
        applies = ltb room (length (rewrite_bytes f));
      } ∷ [])))
  unfolding rewrite_refusal
  behind room = ap first_of (append_assoc (file_tests f) (stay_test f ∷ rewrite_tests (file_of f)) _)

  pub file_refused_lem : (refusal_of f ≡ 0 → ⊥) → (room : ℕ) → rewrite_refusal f room ≡ refusal_of f
  file_refused_lem h room = behind room ∙ call_refused f _ h

  -- 46
  pub stay_refused : refusal_of f ≡ 0 → (trailer f).edition ≡ stay_edition → (room : ℕ)
      → rewrite_refusal f room ≡ may_stay
  stay_refused h two room =
      behind room ∙ call-passed f _ h ∙ first_of_here (stay_test f) _ (rw two (same_refl stay_edition))

  module _ (h : refusal_of f ≡ 0) (one : (trailer f).edition ≢ stay_edition) where
    pub refusal_is : (room : ℕ) → rewrite_refusal f room ≡ rewrite_after (file_of f) room
    unfolding rewrite_after rewrite_bytes
    refusal_is room =
        behind room ∙ call-passed f _ h ∙ first_of-next (stay_test f) _ (same_≢ (trailer f).edition stay_edition one)

    pub length-is : (room : ℕ) → rewrite_length f room ≡ length_after (file_of f) room
    unfolding rewrite_length length_after rewrite_bytes
    length-is room = rw (refusal_is room) refl

    pub out_is : (buffer : List ℕ) → rewrite_out f buffer ≡ out_after (file_of f) buffer
    unfolding rewrite_out out_after rewrite_bytes
    out_is buffer = rw (refusal_is (length buffer)) refl

-- ── a refusal of 40 to 45 ──

module _ (F : File) (room : ℕ) where
  abbrev room_test : Test
  room_test = record { number = short_out; applies = ltb room (length (encode (rewrite F))) }

  pub after-calls : ltb (length (free F)) F.slaves ≡ true → rewrite_after F room ≡ no_free_signal
  unfolding rewrite_after rewrite_tests no_free?
  after-calls h = first_of_here _ _ h

  module _ (h : ltb (length (free F)) F.slaves ≡ false) where
    limits_next : rewrite_after F room ≡ first_of (limit_tests F ++ (room_test ∷ []))
    unfolding rewrite_after rewrite_tests no_free? limit_tests
    limits_next = first_of-next _ _ h

    pub after_limits : (first_of (limit_tests F) ≡ 0 → ⊥) → rewrite_after F room ≡ first_of (limit_tests F)
    after_limits g = limits_next ∙ first_of-before (limit_tests F) (room_test ∷ []) g

    module _ (g : first_of (limit_tests F) ≡ 0) where
      passes : Passes (limit_tests F)
      unfolding limit_tests
      passes = first_of-passes (limit_tests F) (lit< tt, (lit< tt, (lit< tt, tt))) g

      room_next : rewrite_after F room ≡ first_of (room_test ∷ [])
      room_next = limits_next ∙ first_of_++ (limit_tests F) (room_test ∷ []) passes

      pub after_room : room < length (encode (rewrite F)) → rewrite_after F room ≡ short_out
      after_room l = room_next ∙ first_of_here room_test [] (lt-ltb room (length (encode (rewrite F))) l)

      pub after-all : length (encode (rewrite F)) ≤ room → rewrite_after F room ≡ 0
      after-all l = room_next ∙ first_of-next room_test [] (le-ltb room (length (encode (rewrite F))) l) ∙ first_of_[]

      -- ── what 41 to 44 give ──

      pub fits : Fits F
      unfolding limit_tests
      fits =
          record {
            lists = list_most (rewrite F) passes.1.0;
            nodes = ltb-false most_nodes (start F F.nodes) passes.1.1.0;
          }

-- ── the result's size ──

pub size_is : (F : File) (m : Shape) → m ≡ shape_in (rewrite F) → size_of m + 12 ≡ length (encode (rewrite F))
size_is F m e = ap (λ (s : Shape). size_of s + 12) e ∙ sym (length-encode (rewrite F))

-- ── what the call answers ──

module _ (F : File) (buffer : List ℕ) where
  pub refuses : (r : Refusal) → number r ≡ rewrite_after F (length buffer) → BodyRewrites F buffer (Err r) buffer
  unfolding out_after same
  refuses r e = (e, rw (← e, ne_eqb (number r) 0 (number-some r)))

  pub gives : (k : ℕ) (out : List ℕ) → rewrite_after F (length buffer) ≡ 0 → k ≡ length (encode (rewrite F))
      → out ≡ laid_over (encode (rewrite F)) buffer → BodyRewrites F buffer (Ok k) out
  unfolding length_after out_after same
  gives k out e q h = rw e ((refl, q), h)
