-- What clearing promises, where it is not refused: the result passes 1 to 11 and has edition 1; no more choices are
-- open than before; the first configuration is the same, and so is every step that was not refused with 24, in output,
-- next configuration, mark and refusal, with the places of the new lists, and every run up to the first 24; the input
-- interface is the same, the output interface within the old one; clearing twice is clearing once.
use Rattle.std.specs.Prelude.{◌≡◌, Bool, ◌≢◌, ltb, take, replicate}
use Rattle.std.proofs.Math.Path.{refl, ap, ap₂}
use Rattle.std.proofs.Common.{sym, ◌∙◌, subst, inl, inr, add-zero, ltb-true, ltb-false, le-ltb, lit<}
use Rattle.std.proofs.Math.Bool.{true, false, cond}
use mathlib.Core.List.{List, [], ◌∷◌, ◌++◌}
use Prim.Native.Nat.{ℕ, zero, suc, ◌+◌, ◌-◌, ◌*◌, ◌≤◌, ◌<◌}
use native.Mathlib.Omega.{arith}
use Rattle.std.proofs.Math.ListN.{length}
use Rattle.signals.specs.Mask.{◌∖◌, Within}
use Rattle.layout.specs.Le.{AllBytes}
use Rattle.layout.specs.Body.{size_of}
use Rattle.meaning.specs.Numbers.{first_edition, stay_edition, most_charts, most_open, no_place, many_open}
use Rattle.meaning.specs.Meaning.{Set, ∅, same, Chart, in_face, out_face, Answer, refused, given, first_places}
use Rattle.meaning.specs.File.{File, trailer, file_of, whole_of}
use Rattle.meaning.specs.Check.{refusal_of}
use Rattle.meaning.specs.Check.Laws.{Passed, passed, first_of-next, first_of_[], first_of-passes, call-passed}
use Rattle.meaning.specs.Check.Nodes.{Treed, treed}
use Rattle.meaning.specs.Open.{open_in}
use Rattle.meaning.specs.Calls.{first_bytes, input_of, output_of, step_refusal, outcomes_in, found_in, many_open?}
use Rattle.meaning.specs.Calls.{step_in}
use Rattle.meaning.specs.Calls.{step_of}
use Rattle.meaning.specs.Calls.{open_for, open_of, all_places, places_found, places_in, places_of, run_refusal}
use Rattle.meaning.specs.Calls.{run_bytes}
use Rattle.meaning.specs.Calls.{run_carried}
use Rattle.meaning.specs.Calls.Laws.{places_by_lem, step_open, behind_is}
use Rattle.meaning.specs.Words.{Until}
use Rattle.meaning.specs.Rewriting.{stay_test, shape_in, encode}
use Rattle.clearing.specs.Clearing.{cleared_chart, clear, new_place, new_places, clear_bytes, clear_refusal}
use Rattle.clearing.specs.Clearing.{clear_length}
use Rattle.meaning.specs.Laws.Bools.{same_refl, same_≢}
use Rattle.meaning.proofs.Laws.Editions.{edition_left}
use Rattle.meaning.specs.Check.Laws.{in_front_lem}
use Rattle.agreement.specs.Encoded.{length-encode, trailer_is}
use Rattle.agreement.specs.Recovered.{Reads}
use Rattle.agreement.specs.Slaveless.{encode_same}
use Rattle.meaning.specs.Laws.Alike.{ConfigsAlike, answer_alike, step_refusal_alike, first_alike, run_refusal_alike}
use Rattle.meaning.proofs.Laws.Many.{Decided, found_or-many, few_is, is_few, step_few, refused_many}
use Rattle.meaning.proofs.Laws.Until.{StepsAgreeWhere, same-step_where, same_rows_where, same_run_where}
use Rattle.meaning.proofs.Laws.Until.{same_carried_where}
use Rattle.propositions.proofs.Exchange.Answers.{TreesAlike, in_alike, out_alike, open_alike, found_alike}
use Rattle.propositions.proofs.Exchange.Answers.{steps_in_alike, places_found_alike, configs_alike}
use Rattle.propositions.proofs.Exchange.Records.{turned_alike}
use Rattle.clearing.proofs.Result.{Clearable, found_is, places_are, open_is, step_is, configs_cleared, in_is}
use Rattle.clearing.proofs.Result.{out_in, clear_twice}
use Rattle.clearing.specs.InOrder.{InOrder, reads, reads_so, encoded_passes, encoded_bytes}
use Rattle.clearing.proofs.New.{in_order, clearable, not_longer as size-most}

-- ── what a call that is not refused has ──

pub record Allowed (f : List ℕ) (room : ℕ) : Type 0 where
  pub checked : refusal_of f ≡ 0
  pub one : (trailer f).edition ≡ first_edition
  pub fits : length (clear_bytes f) ≤ room

pub allowed : (f : List ℕ) (room : ℕ) → clear_refusal f room ≡ 0 → Allowed f room
unfolding clear_refusal
allowed f room e =
    let p = in_front_lem f _ e in
    let q = first_of-passes _ (lit< tt, (lit< tt, tt)) p.1 in
    record { checked = p.0; one = edition_left f (passed f p.0).edition q.0; fits = ltb-false room _ q.1.0 }

-- a file that passes, of edition 1, is cleared into a buffer of its own length
pub has_room : (f : List ℕ) → AllBytes f → refusal_of f ≡ 0 → (trailer f).edition ≡ first_edition
    → clear_refusal f (length f) ≡ 0
unfolding clear_refusal clear_bytes
has_room f ab e one = call-passed f _ e
    ∙ first_of-next (stay_test f) _
    (ap (λ n. same n stay_edition) one ∙ same_≢ first_edition stay_edition (λ z. omega arith))
    ∙ first_of-next _ [] (le-ltb (length f) _ (let o = in_order f ab (passed f e) one in
    let g = length-encode (clear (file_of f)) in let l = size-most f ab (passed f e) one in omega arith))
    ∙ first_of_[]

-- ── two files with the configurations of a third ──

configs_join : (F G H : File) → ConfigsAlike F G → ConfigsAlike G H → ConfigsAlike F H
configs_join F G H s t = record {
  charts = t.charts ∙ s.charts;
  states = λ c l. t.states c (subst (λ n. c < n) (sym s.charts) l) ∙ s.states c l;
  initials = λ c l. t.initials c (subst (λ n. c < n) (sym s.charts) l) ∙ s.initials c l;
}

-- ── places of all that are allowed ──

module _ (E : ℕ → Chart) where
  new-append : (c : ℕ) (ps qs : List ℕ) → new_places E c (ps ++ qs)
      ≡ new_places E c ps ++ new_places E (c + length ps) qs
  unfolding new_places
  new-append c [] qs = ap (λ z. new_places E z qs) (sym (add-zero c))
  new-append c (p ∷ ps) qs = ap (λ z. new_place (E c) p ∷ z) (new-append (suc c) ps qs
      ∙ ap (λ z. new_places E (suc c) ps ++ new_places E z qs)
      (let e : suc c + length ps ≡ c + suc (length ps) = omega arith in e))

  new-length : (c : ℕ) (ps : List ℕ) → length (new_places E c ps) ≡ length ps
  unfolding new_places
  new-length c [] = refl
  new-length c (p ∷ ps) = ap suc (new-length (suc c) ps)

  -- 255 stays
  new_none : (c k : ℕ) → new_places E c (replicate k no_place) ≡ replicate k no_place
  unfolding new_places new_place
  new_none c zero = refl
  new_none c (suc k) = ap₂ ◌∷◌ (rw (same_refl no_place)) (new_none (suc c) k)

  new-all : (ps : List ℕ) → all_places (new_places E zero ps) ≡ new_places E zero (all_places ps)
  new-all ps = ap (λ k. new_places E zero ps ++ replicate (most_charts - k) no_place) (new-length zero ps)
      ∙ sym (new-append zero ps (replicate (most_charts - length ps) no_place)
      ∙ ap (λ z. new_places E zero ps ++ z) (new_none (zero + length ps) (most_charts - length ps)))

-- ── the promises ──

module _ (f : List ℕ) (ab : AllBytes f) (room : ℕ) (ok : clear_refusal f room ≡ 0) where
  abbrev f' : List ℕ
  f' = clear_bytes f

  abbrev F : File
  F = file_of f

  checked : refusal_of f ≡ 0
  checked = (allowed f room ok).checked

  p : Passed f
  p = passed f checked

  order : InOrder (clear F)
  order = in_order f ab p (allowed f room ok).one

  -- it is a file, of edition 1
  pub same_check : refusal_of f' ≡ 0
  unfolding clear_bytes
  same_check = encoded_passes (clear F) order

  pub new_edition : (trailer f').edition ≡ first_edition
  unfolding clear_bytes
  new_edition = ap (λ t. t.edition) (trailer_is (clear F) order.fits)

  pub length-is : clear_length f room ≡ size_of (shape_in (clear F)) + 12
  unfolding clear_length clear_bytes
  length-is = ap (λ n. cond (same n 0) (length f') 0) ok ∙ ap (λ b. cond b (length f') 0) (same_refl 0)
      ∙ length-encode (clear F)

  -- a buffer of the file's length has room for it
  pub not_longer : length f' ≤ length f
  unfolding clear_bytes
  not_longer = let e = length-encode (clear F) in let l = size-most f ab p (allowed f room ok).one in
      omega arith

  -- made of bytes
  pub new-bytes : AllBytes f'
  unfolding clear_bytes
  new-bytes = encoded_bytes (clear F) order

  rs : refusal_of f' ≡ refusal_of f
  rs = same_check ∙ sym checked

  trees : Treed (clear F)
  trees = treed (clear F) order.eight order.nine order.ten

  can : Clearable F
  can = clearable f ab p (allowed f room ok).one

  -- the records read back are the cleared ones, but for the order of parts
  pub alike : TreesAlike (clear F) (file_of f')
  unfolding clear_bytes
  alike = turned_alike (clear F) (file_of f') (reads_so (clear F) order) trees order.some_node

  configs : ConfigsAlike F (file_of f')
  configs =
      configs_join F (clear F) (file_of f') (configs_cleared F)
      (configs_alike (clear F) (file_of f') alike)

  -- ── open choices: there are no more of them ──

  pub never-more : (config : List ℕ) → open_in (file_of f') config ≤ open_in F config
  never-more config =
      rw (open_alike (clear F) (file_of f') alike config) (open_is F can config)

  few_too : (config : List ℕ) → many_open? F config ≡ false → many_open? (file_of f') config ≡ false
  few_too config e =
      let l = is_few F config 0 e in let m = never-more config in few_is (file_of f') config 0 (omega arith)

  -- the same is found
  found_same : (config : List ℕ) (i : Set) → found_in (file_of f') config i ≡ found_in F config i
  found_same config i =
      found_alike (clear F) (file_of f') alike config i ∙ found_is F can config i

  steps : StepsAgreeWhere many_open F (file_of f')
  steps config v i q =
      steps_in_alike (clear F) (file_of f') alike config i ∙ step_is F can config i q

  -- the first configuration
  pub same_first : (buffer : List ℕ) → first_bytes f' buffer ≡ first_bytes f buffer
  same_first = first_alike f f' rs (λ e. configs)

  -- ── a step ──

  step_tests : (config : List ℕ) (left : ℕ) → step_refusal f' config left ≡ step_refusal f config left
  step_tests = step_refusal_alike f f' rs (λ e. configs)

  module _ (config : List ℕ) (i : Set) (left : ℕ) where
    -- output, next configuration, mark, and each refusal, unless it was 24
    pub same_step : step_of f config i left ≢ refused many_open → step_of f' config i left ≡ step_of f config i left
    same_step = same-step_where many_open f f' steps config i left (step_tests config left)

    -- what was refused with 24 is answered where no longer too many are open, by what is found in the file
    pub answered_then : step_of f config i left ≡ refused many_open → open_in (file_of f') config ≤ most_open
        → step_of f' config i left ≡ found_in F config i
    unfolding step_of
    answered_then e l =
        let h = (refused_many f config i left e).0 in
        behind_is (step_refusal f' config left) _ _
        (step_tests config left ∙ step_open f config left h.0 h.1 h.2)
        ∙ step_few (file_of f') config i l ∙ found_same config i

    -- the number that a step says does not rise either
    pub never-more_said : open_of f' config i left ≤ open_of f config i left
    unfolding open_of
    never-more_said = go (step_of f config i left) refl
      where
        most : (a : Answer) → open_for a (open_in (file_of f') config) ≤ open_in F config
        most (given o n m) = never-more config
        most (refused r) = cut (ltb r many_open)
          where
            cut : (b : Bool) → cond b 0 (open_in (file_of f') config) ≤ open_in F config
            cut true = omega arith
            cut false = never-more config

        go : (a : Answer) → step_of f config i left ≡ a
            → open_for (step_of f' config i left) (open_in (file_of f') config) ≤ open_for a (open_in F config)
        go (given o n m) e = most (step_of f' config i left)
        go (refused r) e = below (ltb r many_open) refl
          where
            below : (b : Bool) → ltb r many_open ≡ b
                → open_for (step_of f' config i left) (open_in (file_of f') config) ≤ cond b 0 (open_in F config)
            below false q = most (step_of f' config i left)
            below true q =
                let l = ltb-true r many_open q in
                let s = same_step (λ z. let y : r ≡ many_open = cc in omega arith) ∙ e in
                let k = ap (λ a. open_for a (open_in (file_of f') config)) s
                ∙ ap (λ b. cond b 0 (open_in (file_of f') config)) q in omega arith

    -- the places, in the new lists
    pub new_places_lem : step_of f config i left ≢ refused many_open
        → places_of f' config i left ≡ new_places F.chart zero (places_of f config i left)
    unfolding step_of places_of
    new_places_lem q =
        rw (step_tests config left) (go (same (step_refusal f config left) 0) q)
      where
        renewed_places : places_found (file_of f') config i ≡ new_places F.chart zero (places_found F config i)
        renewed_places =
            places_found_alike (clear F) (file_of f') alike config i
            ∙ places_are F can config i
            ∙ unfold places_found in new-all F.chart (first_places (outcomes_in F config i))

        found : Decided F config i → step_in F config i ≢ refused many_open
            → places_in (file_of f') config i ≡ new_places F.chart zero (places_in F config i)
        found (inl d) q = absurd (q d.1)
        found (inr d) q =
            places_by_lem (file_of f') config i false (few_too config d.0) ∙ renewed_places
            ∙ ap (new_places F.chart zero) (sym (places_by_lem F config i false d.0))

        go : (b : Bool) → cond b (step_in F config i) (refused (step_refusal f config left)) ≢ refused many_open
            → cond b (places_in (file_of f') config i) (all_places [])
            ≡ new_places F.chart zero (cond b (places_in F config i) (all_places []))
        go true q = found (found_or-many F config i) q
        go false q = sym (new_none F.chart zero most_charts)

  -- ── a run: its rows, all or the first k of them, and what is carried, as long as no step was refused with 24 ──

  run_tests : (config : List ℕ) (inputs left : ℕ) → run_refusal f' config inputs left ≡ run_refusal f config inputs left
  run_tests = run_refusal_alike f f' rs (λ e. configs)

  module _ (config : List ℕ) (carried : Set) (inputs : List Set) (rows : List ℕ) where
    pub same_rows : (k : ℕ) → k ≤ length inputs → Until many_open f config carried inputs rows k
        → take (k * (10 + F.charts)) (run_bytes f' config carried inputs rows)
        ≡ take (k * (10 + F.charts)) (run_bytes f config carried inputs rows)
    same_rows =
        same_rows_where many_open f f' steps config carried inputs rows (run_tests config (length inputs) (length rows))

    pub same_run : Until many_open f config carried inputs rows (length inputs)
        → run_bytes f' config carried inputs rows ≡ run_bytes f config carried inputs rows
    same_run =
        same_run_where many_open f f' steps config carried inputs rows (run_tests config (length inputs) (length rows))

    pub same_carried : Until many_open f config carried inputs rows (length inputs)
        → run_carried f' config carried inputs (length rows) ≡ run_carried f config carried inputs (length rows)
    same_carried =
        same_carried_where many_open f f' steps config carried inputs rows
        (run_tests config (length inputs) (length rows))

  -- the interface
  pub same_input : input_of f' ≡ input_of f
  unfolding input_of
  same_input = answer_alike (refusal_of f) (refusal_of f') rs (in_face F.chart (whole_of F))
      (in_face (file_of f').chart (whole_of (file_of f'))) (λ n. ∅)
      (λ e. in_alike (clear F) (file_of f') alike ∙ in_is F)

  -- the output interface is within the old one
  pub output_within : Within (output_of f') (output_of f)
  unfolding output_of
  output_within = ap₂ (λ a b. cond (same a 0) (out_face (file_of f').chart (whole_of (file_of f'))) ∅ ∖ cond (same b 0)
      (out_face F.chart (whole_of F)) ∅) same_check checked
      ∙ ap (λ t. cond t (out_face (file_of f').chart (whole_of (file_of f'))) ∅ ∖ cond t
      (out_face F.chart (whole_of F)) ∅) (same_refl 0)
      ∙ ap (λ z. z ∖ out_face F.chart (whole_of F))
      (out_alike (clear F) (file_of f') alike) ∙ out_in F

  -- clearing twice is clearing once
  pub twice : clear_bytes f' ≡ f'
  unfolding clear_bytes
  twice = encode_same (clear (clear F)) (clear (file_of f')) (again (reads (clear F) order)) ∙ ap encode (clear_twice F)
    where
      again : Reads (clear F) (file_of f') → Reads (clear (clear F)) (clear (file_of f'))
      again r = record {
        charts = r.charts;
        chart = λ c l. ap cleared_chart (r.chart c l);
        slaves = r.slaves;
        slave = r.slave;
        nodes = r.nodes;
        node = r.node;
      }

  -- and the call clears the result again
  pub clears_again : clear_refusal f' (length f') ≡ 0
  clears_again = has_room f' new-bytes same_check new_edition
