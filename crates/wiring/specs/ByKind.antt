-- The wiring by the node records: what the code computes at a node.
use Rattle.std.specs.Prelude.{◌≡◌, refl, ℕ, suc, ◌<◌, [], ◌∷◌}
use Rattle.std.proofs.Common.{◌∙◌}
use Rattle.std.proofs.Math.Path.{ap}
use Rattle.std.proofs.Math.Bool.{cond}
use Rattle.signals.specs.Mask.{◌∪◌, ◌∩◌, ◌∖◌}
use Rattle.signals.specs.Decide.{sets, A, B, C, ∅ₑ, ◌∪ₑ◌, ◌∩ₑ◌, ◌≐◌}
use Rattle.meaning.specs.Meaning.{same, Chart, Slaves, nil, snoc}
use Rattle.meaning.specs.File.{File, whole, gather, tree_of}
use Rattle.meaning.specs.Laws.Bools.{same_refl, same_≢}
use Rattle.meaning.specs.Laws.Trees.{Ordered, tree₀, tree₁, tree₂}
use Rattle.wiring.specs.Reach.{own, down, downs, up, ups, back, backs}

down_whole : (d : ℕ) (ss : Slaves) (c : ℕ) → down (whole d ss) c ≡ own d c ∪ downs ss c
unfolding down
down_whole d nil c = sets (own d c ∷ []) [] (A ≐ A ∪ₑ ∅ₑ) tt
down_whole d (snoc ss i t) c = refl

up-whole : (d : ℕ) (ss : Slaves) (e : ℕ) → up (whole d ss) e ≡ own d e ∪ ups ss e
unfolding up
up-whole d nil e = sets (own d e ∷ []) [] (A ≐ A ∪ₑ ∅ₑ) tt
up-whole d (snoc ss i t) e = refl

back_whole : (E : ℕ → Chart) (d : ℕ) (ss : Slaves) (c e : ℕ)
    → back E (whole d ss) c e ≡ backs E ss c e ∪ (own d c ∪ downs ss c) ∩ (own d e ∪ ups ss e) ∩ (E d).feedback
unfolding down up back
back_whole E d nil c e =
    sets (own d c ∷ own d e ∷ (E d).feedback ∷ []) [] (A ∩ₑ B ∩ₑ C ≐ ∅ₑ ∪ₑ (A ∪ₑ ∅ₑ) ∩ₑ (B ∪ₑ ∅ₑ) ∩ₑ C) tt
back_whole E d (snoc ss i t) c e = refl

module _ (F : File) (w : Ordered F) where
  -- the slaves of chart d among the first k
  abbrev pub some_of : ℕ → ℕ → Slaves
  some_of d k = gather F.master (λ i. tree_of F (F.node i)) d k

  pub down₀ : (j c : ℕ) → j < F.nodes → F.kind j ≡ 0
      → down (tree_of F j) c ≡ own (F.a j) c ∪ downs (some_of (F.a j) F.slaves) c
  down₀ j c l e = rw (tree₀ F w j l e) (down_whole (F.a j) _ c)

  pub up₀ : (j c : ℕ) → j < F.nodes → F.kind j ≡ 0
      → up (tree_of F j) c ≡ own (F.a j) c ∪ ups (some_of (F.a j) F.slaves) c
  up₀ j c l e = rw (tree₀ F w j l e) (up-whole (F.a j) _ c)

  pub back₀ : (j c e : ℕ) → j < F.nodes → F.kind j ≡ 0
      → back F.chart (tree_of F j) c e ≡ backs F.chart (some_of (F.a j) F.slaves) c e
      ∪ down (tree_of F j) c ∩ up (tree_of F j) e ∩ (F.chart (F.a j)).feedback
  back₀ j c e l k = rw (down₀ j c l k, up₀ j e l k, tree₀ F w j l k) (back_whole F.chart (F.a j) _ c e)

  pub down₁ : (j c : ℕ) → j < F.nodes → F.kind j ≡ 1
      → down (tree_of F j) c ≡ down (tree_of F (F.a j)) c ∪ down (tree_of F (F.b j)) c
  unfolding down
  down₁ j c l e = rw (tree₁ F w j l e)

  pub up₁ : (j c : ℕ) → j < F.nodes → F.kind j ≡ 1
      → up (tree_of F j) c ≡ up (tree_of F (F.a j)) c ∪ up (tree_of F (F.b j)) c
  unfolding up
  up₁ j c l e = rw (tree₁ F w j l e)

  pub back₁ : (j c e : ℕ) → j < F.nodes → F.kind j ≡ 1 → back F.chart (tree_of F j) c e
      ≡ (back F.chart (tree_of F (F.a j)) c e ∪ back F.chart (tree_of F (F.b j)) c e)
      ∪ down (tree_of F j) c ∩ up (tree_of F j) e ∩ F.x j
  unfolding back
  back₁ j c e l k = rw (down₁ j c l k, up₁ j e l k, tree₁ F w j l k)

  pub down₂ : (j c : ℕ) → j < F.nodes → F.kind j ≡ 2 → down (tree_of F j) c ≡ down (tree_of F (F.a j)) c ∖ F.x j
  unfolding down
  down₂ j c l e = rw (tree₂ F w j l e)

  pub up₂ : (j c : ℕ) → j < F.nodes → F.kind j ≡ 2 → up (tree_of F j) c ≡ up (tree_of F (F.a j)) c ∖ F.y j
  unfolding up
  up₂ j c l e = rw (tree₂ F w j l e)

  pub back₂ : (j c e : ℕ) → j < F.nodes → F.kind j ≡ 2
      → back F.chart (tree_of F j) c e ≡ back F.chart (tree_of F (F.a j)) c e
  unfolding back
  back₂ j c e l k = rw (tree₂ F w j l k)

  -- ── the loop over the slaves ──

  -- slave k is one of chart d's, or not
  pub slaves_in_lem : (d k : ℕ) → F.master k ≡ d → some_of d (suc k) ≡ snoc (some_of d k) k (tree_of F (F.node k))
  unfolding gather
  slaves_in_lem d k e =
      ap (λ b. cond b (snoc (some_of d k) k (tree_of F (F.node k))) (some_of d k)) (ap (λ m. same m d) e ∙ same_refl d)

  pub slaves_out : (d k : ℕ) → (F.master k ≡ d → ⊥) → some_of d (suc k) ≡ some_of d k
  unfolding gather
  slaves_out d k h =
      ap (λ b. cond b (snoc (some_of d k) k (tree_of F (F.node k))) (some_of d k)) (same_≢ (F.master k) d h)

  pub downs_step : (d k c : ℕ) → F.master k ≡ d
      → downs (some_of d (suc k)) c ≡ downs (some_of d k) c ∪ down (tree_of F (F.node k)) c
  unfolding down
  downs_step d k c e = ap (λ ss. downs ss c) (slaves_in_lem d k e)

  pub ups_step : (d k e : ℕ) → F.master k ≡ d
      → ups (some_of d (suc k)) e ≡ ups (some_of d k) e ∪ up (tree_of F (F.node k)) e
  unfolding up
  ups_step d k e q = ap (λ ss. ups ss e) (slaves_in_lem d k q)

  pub backs_step : (d k c e : ℕ) → F.master k ≡ d
      → backs F.chart (some_of d (suc k)) c e
      ≡ backs F.chart (some_of d k) c e ∪ back F.chart (tree_of F (F.node k)) c e
  unfolding back
  backs_step d k c e q = ap (λ ss. backs F.chart ss c e) (slaves_in_lem d k q)
