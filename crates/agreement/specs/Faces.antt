-- The rewriting keeps both interfaces of the whole. (Inside, a rewritten part has the call signal of the nearest slave
-- besides: `face-t` of Same.)
use Rattle.std.specs.Prelude.{◌≡◌}
use Rattle.std.proofs.Math.Path.{refl, ap, subst₂}
use Rattle.std.proofs.Common.{◌∙◌, ap₂}
use Rattle.std.proofs.Math.Option.{Option, none, some}
use mathlib.Core.List.{List, [], ◌∷◌, ◌++◌, map}
use Prim.Native.Nat.{ℕ, zero, suc, ◌<◌}
use Rattle.signals.specs.Mask.{◌∪◌, ◌∖◌}
use Rattle.signals.specs.Decide.{sets, A, B, C, D, ∅ₑ, ◌∪ₑ◌, ◌∖ₑ◌, ◌≐◌, ◌⊑◌, ◌⊥ₑ◌}
use Rattle.layout.specs.declared.record.Transition.{Transition}
use Rattle.meaning.specs.Meaning.{Set, ∅, Chart, Tree, Slaves, leaf, comp, hide, dec, nil, snoc, Move, no_move, actions}
use Rattle.meaning.specs.Meaning.{in_face_chart, in_face, out_face, out_faces}
use Rattle.meaning.specs.File.{File, whole_of}
use Rattle.meaning.specs.Rewriting.{call, call_in, idle, idles, called, chart_with}
use Rattle.meaning.specs.Laws.Names.{kap}
use Rattle.agreement.specs.Tree.{calls, tree, nest, touch, move_r}
use Rattle.agreement.specs.Same.{Old, At, Rw, Rws, old-none, old_join, old_less, calls-old, touch-calls, face-t}
use Rattle.agreement.specs.Charts.{OldTs, OldChart, face_is, old_face_chart}
use Rattle.agreement.specs.Fit.{Fit, FitS}
use Rattle.agreement.specs.Free.{call_inj, old-chart}
use Rattle.agreement.specs.Fit.{slaves_of}
use Rattle.agreement.specs.Step.{Ready, Rewritten, whole_is, fits, chart_is}

-- ── actions ──

-- what the call signals add to the actions
added : (Transition → Set) → List Transition → Set
added T [] = ∅
added T (t ∷ ts) = T t ∪ added T ts

module _ (sig state : ℕ → ℕ) where
  actions-idles : (κ : Option ℕ) (b m : ℕ) → actions (idles sig κ b m) ≡ ∅
  unfolding actions idles idle
  actions-idles none b m = refl
  actions-idles (some i) b zero = refl
  actions-idles (some i) b (suc m) = ap (λ z. ∅ ∪ z) (actions-idles (some i) (suc b) m) ∙ sets [] [] (∅ₑ ∪ₑ ∅ₑ ≐ ∅ₑ) tt

  actions-own : (κ : Option ℕ) (T : Transition → Set) (ts r : List Transition) → actions r ≡ ∅
      → actions (map (called sig κ T) ts ++ r) ≡ actions ts ∪ added T ts
  unfolding actions called added
  actions-own κ T [] r h = h ∙ sets [] [] (∅ₑ ≐ ∅ₑ ∪ₑ ∅ₑ) tt
  actions-own κ T (t ∷ ts) r h = ap (λ z. (t.action ∪ T t) ∪ z) (actions-own κ T ts r h)
      ∙ sets (t.action ∷ T t ∷ actions ts ∷ added T ts ∷ []) [] ((A ∪ₑ B) ∪ₑ (C ∪ₑ D) ≐ (A ∪ₑ C) ∪ₑ (B ∪ₑ D)) tt

  added_calls : (ss : Slaves) (ts : List Transition) → added (touch sig state ss) ts ∖ calls sig ss ≡ ∅
  unfolding added
  added_calls ss [] = sets (calls sig ss ∷ []) [] (∅ₑ ⊑ A) tt
  added_calls ss (t ∷ ts) =
      sets (touch sig state ss t ∷ added (touch sig state ss) ts ∷ calls sig ss ∷ []) (A ⊑ C ∷ B ⊑ C ∷ [])
      (A ∪ₑ B ⊑ C) tt
      (touch-calls sig state ss t) (added_calls ss ts)

  added_nil : (ts : List Transition) → added (touch sig state nil) ts ≡ ∅
  unfolding added touch
  added_nil [] = refl
  added_nil (t ∷ ts) = ap (λ z. ∅ ∪ z) (added_nil ts) ∙ sets [] [] (∅ₑ ∪ₑ ∅ₑ ≐ ∅ₑ) tt

  actions-old : (ts : List Transition) → OldTs sig ts → Old sig (actions ts)
  unfolding actions
  actions-old [] o = old-none sig
  actions-old (t ∷ ts) o = old_join sig t.action (actions ts) o.0.2 (actions-old ts o.1)

  -- ── outputs of a tree ──

  module _ (kap : ℕ → Option ℕ) (slv : ℕ → Slaves) (N : ℕ) (E E' : ℕ → Chart)
      (old : (c : ℕ) → c < N → OldChart sig (E c))
      (same-chart : (c : ℕ) → c < N → E' c ≡ chart_with sig (kap c) (touch sig state (slv c)) (E c)) where
    abbrev fbs : ℕ → Set
    fbs c = (E c).feedback

    actions-R : (c : ℕ) → c < N
        → actions (E' c).transitions ≡ actions (E c).transitions ∪ added (touch sig state (slv c)) (E c).transitions
    unfolding chart_with
    actions-R c l = ap (λ C. actions C.transitions) (same-chart c l)
        ∙ actions-own (kap c) (touch sig state (slv c)) (E c).transitions (idles sig (kap c) zero (E c).states)
        (actions-idles (kap c) zero (E c).states)

    mutual
      unfolding out_face

      out_old : (t : Tree) (κ : Option ℕ) → Fit sig kap slv N t κ → Old sig (out_face E t)
      out_old (leaf c) κ f = actions-old (E c).transitions (old c f.0).old_transitions
      out_old (comp a b x) κ f = old_join sig (out_face E a) (out_face E b) (out_old a κ f.0) (out_old b κ f.1)
      out_old (hide a x y) κ f = old_less sig (out_face E a) y (out_old a κ f.1)
      out_old (dec c ss) κ f = old_join sig (actions (E c).transitions) (out_faces E ss)
          (actions-old (E c).transitions (old c f.0).old_transitions) (outs_old ss κ f.4)

      outs_old : (ss : Slaves) (κ : Option ℕ) → FitS sig kap slv N ss κ → Old sig (out_faces E ss)
      outs_old nil κ f = old-none sig
      outs_old (snoc ss i t) κ f =
          old_join sig (out_faces E ss) (out_face E t) (outs_old ss κ f.0) (out_old t (some i) f.2)

    mutual
      unfolding out_face tree

      pub out_t : (t : Tree) (κ : Option ℕ) → Fit sig kap slv N t κ → out_face E' (tree sig fbs t) ≡ out_face E t
      out_t (leaf c) κ f = actions-R c f.0
          ∙ ap (λ z. actions (E c).transitions ∪ z)
          (ap (λ ss. added (touch sig state ss) (E c).transitions) f.2 ∙ added_nil (E c).transitions)
          ∙ sets (actions (E c).transitions ∷ []) [] (A ∪ₑ ∅ₑ ≐ A) tt
      out_t (comp a b x) κ f = ap₂ ◌∪◌ (out_t a κ f.0) (out_t b κ f.1)
      out_t (hide a x y) κ f = ap (λ z. z ∖ y) (out_t a κ f.1)
      out_t (dec c ss) κ f = ap (λ z. z ∖ calls sig ss) (out_s ss κ f.4 c (fbs c ∪ calls sig ss)
          ∙ ap (λ z. z ∪ out_faces E ss) (actions-R c f.0
          ∙ ap (λ z. actions (E c).transitions ∪ added (touch sig state z) (E c).transitions) f.2))
          ∙ sets (actions (E c).transitions ∷ added (touch sig state ss) (E c).transitions ∷ out_faces E ss
          ∷ calls sig ss ∷ [])
          (D ⊥ₑ A ∷ D ⊥ₑ C ∷ B ⊑ D ∷ []) (((A ∪ₑ B) ∪ₑ C) ∖ₑ D ≐ A ∪ₑ C) tt
          (calls-old sig ss (actions (E c).transitions)
          (actions-old (E c).transitions (old c f.0).old_transitions))
          (calls-old sig ss (out_faces E ss) (outs_old ss κ f.4)) (added_calls ss (E c).transitions)

      out_s : (ss : Slaves) (κ : Option ℕ) → FitS sig kap slv N ss κ → (c : ℕ) (x : Set)
          → out_face E' (nest sig fbs ss c x) ≡ actions (E' c).transitions ∪ out_faces E ss
      out_s nil κ f c x = sets (actions (E' c).transitions ∷ []) [] (A ≐ A ∪ₑ ∅ₑ) tt
      out_s (snoc ss i t) κ f c x = ap₂ ◌∪◌ (out_s ss κ f.0 c x) (out_t t (some i) f.2)
          ∙ sets (actions (E' c).transitions ∷ out_faces E ss ∷ out_face E t ∷ []) [] ((A ∪ₑ B) ∪ₑ C ≐ A ∪ₑ (B ∪ₑ C)) tt

    -- ── inputs: `face-t`, for the choice in which no chart moves ──

    module _ (some_state : (c : ℕ) → c < N → 0 < (E c).states) where
      abbrev rest : ℕ → Move
      rest c = no_move

      abbrev rested : ℕ → Move
      rested c = move_r sig (kap c) (touch sig state (slv c)) 0 no_move

      at : (c : ℕ) (κ : Option ℕ) (ss : Slaves) → c < N → kap c ≡ κ → slv c ≡ ss
          → At sig state (λ c. 0) E E' rest rested κ c ss
      unfolding chart_with
      at c κ ss l p q = subst₂ (λ κ ss. At sig state (λ c. 0) E E' rest rested κ c ss) p q (record {
        moved = refl;
        fed = ap (λ C. C.feedback) (same-chart c l);
        faced = ap in_face_chart (same-chart c l)
            ∙ face_is sig (kap c) (touch sig state (slv c)) (E c) (some_state c l);
        old_feedback = (old c l).old_feedback;
        old-face = old_face_chart sig (E c) (old c l);
        old_move = tt;
        one = (old c l).one;
        one' = ap (λ C. C.stays) (same-chart c l) ∙ (old c l).one;
      })

      mutual
        rw_t : (t : Tree) (κ : Option ℕ) → Fit sig kap slv N t κ → Rw sig state (λ c. 0) E E' rest rested t κ
        rw_t (leaf c) κ f = at c κ nil f.0 f.1 f.2
        rw_t (comp p q x) κ f = (rw_t p κ f.0, rw_t q κ f.1)
        rw_t (hide p x y) κ f = (f.0, rw_t p κ f.1)
        rw_t (dec c ss) κ f = (at c κ ss f.0 f.1 f.2, f.3, rw_s ss κ f.4)

        rw_s : (ss : Slaves) (κ : Option ℕ) → FitS sig kap slv N ss κ → Rws sig state (λ c. 0) E E' rest rested ss κ
        rw_s nil κ f = tt
        rw_s (snoc ss i t) κ f = (rw_s ss κ f.0, f.1, rw_t t (some i) f.2)

      pub in_t : ((i j : ℕ) → sig i ≡ sig j → i ≡ j) → (t : Tree) → Fit sig kap slv N t none
          → in_face E' (tree sig fbs t) ≡ in_face E t
      unfolding call_in
      in_t inj t f = face-t sig state inj (λ c. 0) E E' rest rested t none (rw_t t none f)
          ∙ sets (in_face E t ∷ []) [] (A ∪ₑ ∅ₑ ≐ A) tt

-- ── the whole of a file ──

module _ (F : File) (rd : Ready F) (F' : File) (r : Rewritten F F') where
  pub input_is : in_face F'.chart (whole_of F') ≡ in_face F.chart (whole_of F)
  input_is = ap (in_face F'.chart) (whole_is F rd F' r)
      ∙ in_t (call F) F.state (kap F) (slaves_of F) F.charts F.chart F'.chart
      (old-chart F rd.small rd.one) (chart_is F rd F' r)
      rd.some_state (call_inj F) (whole_of F) (fits F rd)

  pub output_is : out_face F'.chart (whole_of F') ≡ out_face F.chart (whole_of F)
  output_is = ap (out_face F'.chart) (whole_is F rd F' r)
      ∙ out_t (call F) F.state (kap F) (slaves_of F) F.charts F.chart F'.chart
      (old-chart F rd.small rd.one) (chart_is F rd F' r)
      (whole_of F) none (fits F rd)
