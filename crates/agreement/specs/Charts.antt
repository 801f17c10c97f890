-- A rewritten chart: where its transitions stand, how many they are, its interface; a chart whose sets have no call
-- signal.
use Rattle.std.specs.Prelude.{◌≡◌, false, cond, length}
use Rattle.std.proofs.Math.Path.{refl, ap, subst}
use Rattle.std.proofs.Common.{sym, ◌∙◌, suc-add, zero-add, add-zero, arith}
use Rattle.std.proofs.Math.Option.{Option, none, some}
use mathlib.Core.List.{List, [], ◌∷◌, ◌++◌, map, append-nil}
use Prim.Native.Nat.{ℕ, zero, suc, ◌+◌, ◌≤◌, ◌<◌}
use Rattle.std.proofs.Math.ListN.{length-append, length-map}
use Rattle.signals.specs.Mask.{◌∪◌, single}
use Rattle.signals.specs.Decide.{sets, A, B, C as Cₑ, D, ∅ₑ, ◌∪ₑ◌, ◌≐◌}
use Rattle.layout.specs.declared.record.Transition.{Transition}
use Rattle.meaning.specs.Meaning.{Set, ∅, Chart, Move, no_move, takes, stay, nth, behind, pick, guards, in_face_chart}
use Rattle.meaning.specs.Rewriting.{call_in, idle, idles, called, chart_with}
use Rattle.agreement.specs.Every.{Every}
use Rattle.agreement.specs.Tree.{move_r}
use Rattle.agreement.specs.Same.{Old, OldMove, old-none, old_join}

-- the place of a choice after the rewriting: m own transitions, present state s
unfoldable pub place : Option ℕ → ℕ → ℕ → ℕ → ℕ
place none m s v = v
place (some i) m s zero = suc (m + s)
place (some i) m s (suc k) = suc k

module _ (sig : ℕ → ℕ) where
  nth-own : (κ : Option ℕ) (T : Transition → Set) (s : ℕ) (d d' : Move) (ts r : List Transition) (k : ℕ) → k < length ts
      → nth d' (map (called sig κ T) ts ++ r) k ≡ move_r sig κ T s (nth d ts k)
  unfolding nth move_r
  nth-own κ T s d d' [] r k l = absurd (omega arith)
  nth-own κ T s d d' (t ∷ ts) r zero l = refl
  nth-own κ T s d d' (t ∷ ts) r (suc k) l = nth-own κ T s d d' ts r k (omega arith)

  nth_past : (κ : Option ℕ) (T : Transition → Set) (d : Move) (ts r : List Transition) (k : ℕ)
      → nth d (map (called sig κ T) ts ++ r) (length ts + k) ≡ nth d r k
  unfolding nth
  nth_past κ T d [] r k = rw (zero-add k)
  nth_past κ T d (t ∷ ts) r k = rw (suc-add (length ts) k) (nth_past κ T d ts r k)

  nth-idles : (d : Move) (i b n q : ℕ) → q < n → nth d (idles sig (some i) b n) q ≡ takes (idle sig i (b + q))
  unfolding nth idles
  nth-idles d i b zero q l = absurd (omega arith)
  nth-idles d i b (suc n) zero l = ap (λ z. takes (idle sig i z)) (sym (add-zero b))
  nth-idles d i b (suc n) (suc q) l =
      nth-idles d i (suc b) n q (omega arith) ∙ ap (λ z. takes (idle sig i z)) (omega arith)

  pub nth-idle : (d : Move) (i : ℕ) (T : Transition → Set) (C : Chart) (q : ℕ) → q < C.states
      → nth d (chart_with sig (some i) T C).transitions (length C.transitions + q) ≡ takes (idle sig i q)
  unfolding chart_with
  nth-idle d i T C q l = nth_past (some i) T d C.transitions (idles sig (some i) zero C.states) q
      ∙ nth-idles d i zero C.states q l
      ∙ ap (λ z. takes (idle sig i z)) (zero-add q)

  pub idle-at : (i : ℕ) (T : Transition → Set) (C : Chart) (q : ℕ) → q < C.states
      → pick (chart_with sig (some i) T C) (suc (length C.transitions + q)) ≡ takes (idle sig i q)
  unfolding pick chart_with
  idle-at i T C q l = nth-idle (behind C) i T C q l

  pub pick-moved : (κ : Option ℕ) (T : Transition → Set) (C : Chart) (s v : ℕ) → v ≤ length C.transitions
      → s < C.states
      → pick (chart_with sig κ T C) (place κ (length C.transitions) s v) ≡ move_r sig κ T s (pick C v)
  unfolding pick place move_r chart_with
  pick-moved none T C s zero l b = refl
  pick-moved none T C s (suc k) l b =
      nth-own none T s (behind C) (behind C) C.transitions (idles sig none zero C.states) k (omega arith)
  pick-moved (some i) T C s zero l b = idle-at i T C s b
  pick-moved (some i) T C s (suc k) l b =
      nth-own (some i) T s (behind C) (behind C) C.transitions (idles sig (some i) zero C.states) k (omega arith)

  pub idles-length : (i b n : ℕ) → length (idles sig (some i) b n) ≡ n
  unfolding idles
  idles-length i b zero = refl
  idles-length i b (suc n) = ap suc (idles-length i (suc b) n)

  pub places : (i : ℕ) (T : Transition → Set) (C : Chart)
      → length (chart_with sig (some i) T C).transitions ≡ length C.transitions + C.states
  unfolding chart_with
  places i T C = rw (
    length-append (map (called sig (some i) T) C.transitions) (idles sig (some i) zero C.states),
    length-map C.transitions (called sig (some i) T),
    idles-length i zero C.states,
  )

  pub places_none : (T : Transition → Set) (C : Chart)
      → length (chart_with sig none T C).transitions ≡ length C.transitions
  unfolding chart_with idles
  places_none T C =
      rw (append-nil (map (called sig none T) C.transitions), length-map C.transitions (called sig none T))

  pub guards-idles : (κ : Option ℕ) (b n : ℕ) → guards (idles sig κ b (suc n)) ≡ call_in sig κ
  unfolding guards idles call_in idle
  guards-idles none b n = refl
  guards-idles (some i) b zero = sets (single (sig i) ∷ []) [] ((∅ₑ ∪ₑ A) ∪ₑ ∅ₑ ≐ A) tt
  guards-idles (some i) b (suc n) = ap (λ z. (∅ ∪ single (sig i)) ∪ z) (guards-idles (some i) (suc b) n)
      ∙ sets (single (sig i) ∷ []) [] ((∅ₑ ∪ₑ A) ∪ₑ A ≐ A) tt

  pub guards-own : (κ : Option ℕ) (T : Transition → Set) (ts r : List Transition) → guards r ≡ call_in sig κ
      → guards (map (called sig κ T) ts ++ r) ≡ guards ts ∪ call_in sig κ
  unfolding guards called
  guards-own κ T [] r h = h ∙ sets (call_in sig κ ∷ []) [] (A ≐ ∅ₑ ∪ₑ A) tt
  guards-own κ T (t ∷ ts) r h = ap (λ z. ((t.needed ∪ call_in sig κ) ∪ t.barred) ∪ z) (guards-own κ T ts r h)
      ∙ sets (t.needed ∷ t.barred ∷ guards ts ∷ call_in sig κ ∷ []) []
      (((A ∪ₑ D) ∪ₑ B) ∪ₑ (Cₑ ∪ₑ D) ≐ ((A ∪ₑ B) ∪ₑ Cₑ) ∪ₑ D) tt

  -- the interface has the call signal of the nearest slave besides
  pub face_is : (κ : Option ℕ) (T : Transition → Set) (C : Chart) → zero < C.states
      → in_face_chart (chart_with sig κ T C) ≡ in_face_chart C ∪ call_in sig κ
  unfolding in_face_chart chart_with
  face_is κ T C l = go C.states l
    where
      go : (m : ℕ) → zero < m → guards (map (called sig κ T) C.transitions ++ idles sig κ zero m) ∪ C.extra
          ≡ (guards C.transitions ∪ C.extra) ∪ call_in sig κ
      go zero l = absurd (omega arith)
      go (suc m) l =
          ap (λ z. z ∪ C.extra) (guards-own κ T C.transitions (idles sig κ zero (suc m)) (guards-idles κ zero m))
          ∙ sets (guards C.transitions ∷ call_in sig κ ∷ C.extra ∷ []) [] ((A ∪ₑ B) ∪ₑ Cₑ ≐ (A ∪ₑ Cₑ) ∪ₑ B) tt

  -- transitions, and a chart, whose sets have no call signal
  abbrev pub OldTs : List Transition → Type 0
  OldTs = Every (λ t. OldMove sig (takes t))

  old-nth : (ts : List Transition) (k : ℕ) → OldTs ts → OldMove sig (nth no_move ts k)
  unfolding nth
  old-nth [] k o = tt
  old-nth (t ∷ ts) zero o = o.0
  old-nth (t ∷ ts) (suc k) o = old-nth ts k o.1

  -- of an edition 1 chart
  pub old-pick : (C : Chart) (v : ℕ) → C.stays ≡ false → OldTs C.transitions → OldMove sig (pick C v)
  unfolding pick
  old-pick C zero e o = tt
  old-pick C (suc k) e o =
      subst (OldMove sig) (sym (ap (λ b. nth (cond b stay no_move) C.transitions k) e)) (old-nth C.transitions k o)

  pub old-guards : (ts : List Transition) → OldTs ts → Old sig (guards ts)
  unfolding guards
  old-guards [] o = old-none sig
  old-guards (t ∷ ts) o =
      old_join sig (t.needed ∪ t.barred) (guards ts) (old_join sig t.needed t.barred o.0.0 o.0.1)
      (old-guards ts o.1)

  -- of edition 1
  pub record OldChart (C : Chart) : Type 0 where
    pub one : C.stays ≡ false
    pub old_transitions : OldTs C.transitions
    pub old_feedback : Old sig C.feedback
    pub old_extra : Old sig C.extra

  pub old_face_chart : (C : Chart) → OldChart C → Old sig (in_face_chart C)
  unfolding in_face_chart
  old_face_chart C o = old_join sig (guards C.transitions) C.extra
      (old-guards C.transitions o.old_transitions) o.old_extra
