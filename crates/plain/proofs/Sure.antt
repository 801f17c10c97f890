-- A step of a plain file (RULES 8.3), from a valid configuration and with room for the next, has the mark yes or is
-- refused with 23 or 24 (`plain_sure`), and so is every step of a run (`row_sure`). In this order: an answer that is
-- sure; the tree of a plain file is plain, and so its steps are sure (`step_sure`); the same of bytes.
use Rattle.std.specs.Prelude.{◌≡◌, Bool, ◌&&◌, List, [], ◌∷◌, ◌++◌, length}
use Rattle.std.proofs.Math.Path.{refl}
use Rattle.std.proofs.Common.{◌∙◌, ap, inl, ⊎_elim, arith, get_or-append-add}
use Rattle.std.proofs.Math.Bool.{true, false, cond}
use Rattle.std.proofs.lemmas.Bool.{false≢true, not-true}
use Rattle.std.proofs.Math.Logic.{inr}
use Prim.Native.Nat.{ℕ, zero, suc, ◌+◌, ◌-◌, ◌≤◌, ◌<◌}
use Rattle.std.proofs.Math.ListN.{get_or}
use Rattle.signals.specs.Mask.{◌∪◌, Within}
use Rattle.signals.specs.Decide.{sets, A, B, C, ◌∪ₑ◌, ◌⊑◌}
use Rattle.layout.specs.Le.{bytes}
use Rattle.layout.specs.Le.Laws.{length-bytes}
use Rattle.meaning.specs.Numbers.{first_edition, no_step, many_open}
use Rattle.meaning.specs.Sums.{one}
use Rattle.meaning.specs.Sums.Laws.{any-never}
use Rattle.meaning.specs.Meaning.{Set, ∅, same, Tree, Slaves, nil, snoc, Outcome, Answer, refused, given, agree, answer}
use Rattle.meaning.specs.File.{File, whole, gather, tree_of, whole_of, trailer, shape_of, file_at, file_of}
use Rattle.meaning.specs.Check.{refusal_of}
use Rattle.meaning.specs.Check.Laws.{passed, counted}
use Rattle.meaning.specs.Check.Nodes.{Sound, sound}
use Rattle.meaning.specs.Calls.{step_refusal, outcomes_in, found_in, many_open?, step_in, step_of, run_refusal, row_of}
use Rattle.meaning.specs.Calls.{run_bytes}
use Rattle.meaning.specs.Calls.{row_at, config_at, carried_at, step_at}
use Rattle.meaning.specs.Calls.Laws.{step_open}
use Rattle.meaning.specs.Rewriting.{union_up_to}
use Rattle.meaning.proofs.Rewriting.Laws.{union_in}
use Rattle.meaning.specs.Plain.{fed_back, any_doubtful, plain_in, plain_of}
use Rattle.meaning.specs.Words.{Sure, SureRow}
use Rattle.meaning.specs.Laws.Bools.{and_l, and_r, same_refl, same→≡}
use Rattle.meaning.proofs.Laws.Editions.{one_stays}
use Rattle.meaning.specs.Laws.Names.{joined}
use Rattle.meaning.specs.Laws.Trees.{tree₀, tree₁, tree₂, all_there}
use Rattle.meaning.proofs.Laws.Runs.{Valid}
use Rattle.meaning.proofs.Laws.Files.{run_valid, run_row}
use Rattle.plain.specs.Choices.{PlainChart, PlainTree, PlainSlaves}
use Rattle.plain.proofs.Choices.{never_no}

-- an answer that never is a step with mark no
sure_answer : (l : List Outcome) → ((o : Set) (n : List ℕ) → answer l ≡ given o n false → ⊥) → Sure (answer l)
unfolding answer
sure_answer [] h = inl refl
sure_answer (x ∷ xs) h = go (agree x xs) refl
  where
    go : (m : Bool) → agree x xs ≡ m → m ≡ true
    go true e = refl
    go false e = absurd (h x.output x.next (ap (given x.output x.next) e))

-- ── a file ──

module _ (F : File) (p : plain_in F ≡ true) (one-edition : (c : ℕ) → c < F.charts → (F.chart c).stays ≡ false) where
  abbrev PlainIn : Tree → Type 0
  PlainIn t = PlainTree F.chart (fed_back F) t

  abbrev PlainsIn : Slaves → Type 0
  PlainsIn ss = PlainSlaves F.chart (fed_back F) ss

  chart_plain : (c : ℕ) → c < F.charts → PlainChart F.chart (fed_back F) c
  unfolding fed_back plain_in
  chart_plain c l = (
    sets ((F.chart c).feedback ∷ union_up_to F.charts (λ c. (F.chart c).feedback)
        ∷ union_up_to F.nodes (λ j. cond (same (F.kind j) 1) (F.x j) ∅) ∷ [])
        (A ⊑ B ∷ []) (A ⊑ B ∪ₑ C) tt (union_in F.charts (λ c. (F.chart c).feedback) c l),
    any-never F.charts (λ c. any_doubtful (fed_back F) (F.chart c).transitions) (not-true _ p) c l,
    one-edition c l,
  )

  x_plain : (j : ℕ) → j < F.nodes → F.kind j ≡ 1 → Within (F.x j) (fed_back F)
  unfolding fed_back
  x_plain j l e =
      sets (F.x j ∷ union_up_to F.charts (λ c. (F.chart c).feedback)
      ∷ union_up_to F.nodes (λ j. cond (same (F.kind j) 1) (F.x j) ∅) ∷ [])
      (A ⊑ C ∷ []) (A ⊑ B ∪ₑ C) tt
      (rw (ap (λ k. same k 1) e ∙ same_refl 1) at (union_in F.nodes (λ j. cond (same (F.kind j) 1) (F.x j) ∅) j l))

  module _ (s : Sound F) where
    plain_whole : (c : ℕ) (ss : Slaves) → c < F.charts → PlainsIn ss → PlainIn (whole c ss)
    plain_whole c nil l h = chart_plain c l
    plain_whole c (snoc ss i t) l h = (chart_plain c l, h)

    plain_gather : (c k : ℕ) → k ≤ F.slaves
        → ((i : ℕ) → i < F.slaves → F.master i ≡ c → PlainIn (tree_of F (F.node i)))
        → PlainsIn (gather F.master (λ i. tree_of F (F.node i)) c k)
    unfolding gather
    plain_gather c zero l h = tt
    plain_gather c (suc k) l h = go (same (F.master k) c) refl (plain_gather c k (omega arith) h)
      where
        rest : Slaves
        rest = gather F.master (λ i. tree_of F (F.node i)) c k

        go : (b : Bool) → same (F.master k) c ≡ b → PlainsIn rest
            → PlainsIn (cond b (snoc rest k (tree_of F (F.node k))) rest)
        go true e r = (r, h k (omega arith) (same→≡ (F.master k) c e))
        go false e r = r

    plain_node : (n j : ℕ) → j < n → j < F.nodes → PlainIn (tree_of F j)
    plain_node zero j q l = absurd (omega arith)
    plain_node (suc n) j q l = go (F.kind j) refl (λ i m. plain_node n i (omega arith) (omega arith))
      where
        go : (k : ℕ) → F.kind j ≡ k → ((i : ℕ) → i < j → PlainIn (tree_of F i)) → PlainIn (tree_of F j)
        go zero e ih = rw (tree₀ F s.ordered j l e)
            (plain_whole (F.a j) (gather F.master (λ i. tree_of F (F.node i)) (F.a j) F.slaves)
            (s.chart_there j l e)
            (plain_gather (F.a j) F.slaves (omega arith)
            (λ i a b. ih (F.node i) (s.ordered.lower₀ j l e i a b))))
        go (suc zero) e ih = let h = s.ordered.lower₁ j l e in
            rw (tree₁ F s.ordered j l e) (ih (F.a j) h.0, ih (F.b j) h.1, x_plain j l e)
        go (suc (suc k)) e ih = let e₂ : F.kind j ≡ 2 = (let h = s.ordered.kinds j l in omega arith) in
            rw (tree₂ F s.ordered j l e₂) (ih (F.a j) (s.ordered.lower₂ j l e₂))

    pub step_sure : 0 < F.nodes → (config : List ℕ) (i : Set) → Sure (step_in F config i)
    unfolding step_in found_in
    step_sure z config i = limited (many_open? F config)
        (sure_answer (outcomes_in F config i) (never_no F.chart F.state (λ c. get_or config c 0) (whole_of F) i
        F.charts (fed_back F) (plain_node F.nodes (F.nodes - 1) (omega arith) (omega arith))
        (λ c l. all_there F s.ordered (joined F s.ordered s.rule10 s.chart_there s.node-there)
        (F.nodes - 1) c (omega arith) l)))
      where
        limited : (b : Bool) → Sure (answer (outcomes_in F config i))
            → Sure (cond b (refused many_open) (answer (outcomes_in F config i)))
        limited true h = inr refl
        limited false h = h

-- ── bytes ──

-- a plain file passes 1 to 11 (RULES 8.2)
pub plain_passes : (f : List ℕ) → plain_of f ≡ true
    → (refusal_of f ≡ 0) × (plain_in (file_of f) ≡ true) × ((trailer f).edition ≡ first_edition)
unfolding plain_of
plain_passes f p = go (same (refusal_of f) 0) refl p
  where
    go : (b : Bool) → same (refusal_of f) 0 ≡ b
        → cond b (same (trailer f).edition first_edition && plain_in (file_of f)) false ≡ true
        → (refusal_of f ≡ 0) × (plain_in (file_of f) ≡ true) × ((trailer f).edition ≡ first_edition)
    go true e h =
        (same→≡ (refusal_of f) 0 e, and_r (same (trailer f).edition first_edition) _ h, same→≡ _ _ (and_l _ _ h))
    go false e h = absurd (false≢true h)

module _ (f : List ℕ) (p : plain_of f ≡ true) where
  -- whatever the configuration
  pub every_sure : (config : List ℕ) (i : Set) → Sure (step_in (file_of f) config i)
  unfolding file_of file_at shape_of
  every_sure =
      let h = passed f (plain_passes f p).0 in
      step_sure (file_of f) (plain_passes f p).1 (λ c l. one_stays f (plain_passes f p).2 c)
      (sound (file_of f) h.slaves h.nodes h.naming h.inside) (counted (trailer f) h.counts).some_node

  -- a step that 1 to 11 and 20 to 22 do not refuse
  pub unrefused_sure : (config : List ℕ) (i : Set) (room : ℕ) → step_refusal f config room ≡ 0
      → Sure (step_of f config i room)
  unfolding step_of
  unrefused_sure config i room e = rw (ap (λ r. same r 0) e ∙ same_refl 0) (every_sure config i)

  -- from every valid configuration, with room for the next
  pub plain_sure : (config : List ℕ) (i : Set) (room : ℕ) → Valid (file_of f) config → (file_of f).charts ≤ room
      → Sure (step_of f config i room)
  plain_sure config i room v l = unrefused_sure config i room (step_open f config room (plain_passes f p).0 v l)

-- ── the run ──

-- behind the output
behind : (o : Set) (l : List ℕ) (n : ℕ) → get_or (bytes 8 o ++ l) (8 + n) 0 ≡ get_or l n 0
behind o l n = rw (length-bytes 8 o) at (get_or-append-add (bytes 8 o) l n 0)

sure_row : (r : Answer) (config : List ℕ) → Sure r → SureRow (row_of r config)
unfolding row_of
sure_row (refused r) config h = inr (
  behind ∅ _ 0,
  ⊎_elim (λ (e : r ≡ no_step). inl (behind ∅ _ 1 ∙ e)) (λ (e : r ≡ many_open). inr (behind ∅ _ 1 ∙ e)) h,
)
sure_row (given o n m) config h = inl (behind o _ 0 ∙ ap one h, behind o _ 1)

-- in a run that is not refused, whatever is carried into it
pub row_sure : (f : List ℕ) → plain_of f ≡ true → (config : List ℕ) (carried : Set) (inputs : List Set) (rows : List ℕ)
    → run_refusal f config (length inputs) (length rows) ≡ 0
    → (k : ℕ) → k < length inputs → SureRow (row_at f (run_bytes f config carried inputs rows) k)
unfolding step_at
row_sure f p config carried inputs rows h k l =
    rw (run_row f config carried inputs rows h k l)
    (sure_row (step_at f config carried inputs rows k) _
    (plain_sure f p (config_at f config (run_bytes f config carried inputs rows) k)
    (carried_at f config carried inputs (length rows) k ∪ get_or inputs k 0) (file_of f).charts
    (run_valid f config carried inputs rows h k (omega arith)) (omega arith)))
