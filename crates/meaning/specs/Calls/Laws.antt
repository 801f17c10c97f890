-- Laws of what calls answer. In this order: of `made`, its length, an entry of it, equal entries, and one entry more
-- stored over a buffer; a place among all (`get_or-all`); that a step is what is found unless too many choices are open
-- (`step_by`, `places_by_lem`, `given_found`); that all places of a refused step are 255 (`in_refused`, `of_refused`);
-- what
-- a step and a run that are not refused have (`step_allowed`, `run_allowed`), and that with it they are not
-- (`step_open`, `run_open`); answers behind tests (`behind_cong`, `behind_is`); what a step that is given has
-- (`answered`).
use Rattle.std.proofs.Math.Path.{◌≡◌, refl, ap}
use Rattle.std.proofs.Common.{sym, ap₂, ◌∙◌, add-one, arith, lt-ltb, le-ltb, ltb-false, lit<, length-append, drop-cons}
use Rattle.std.specs.Prelude.{Bool, true, ℕ, zero, suc, ◌+◌, ◌-◌, ◌*◌, ◌≤◌, ◌<◌, ltb, length, get_or, drop, replicate}
use Rattle.std.specs.Prelude.{set}
use Rattle.std.proofs.Math.Bool.{false, not, cond}
use mathlib.Core.List.{List, [], ◌∷◌, ◌++◌, append_assoc}
use Rattle.std.proofs.Math.Decide.{dec_lt}
use Rattle.std.proofs.Math.ListN.{get_or-append}
use Rattle.std.proofs.lemmas.List.{set_at, get_or_at}
use Rattle.meaning.specs.Numbers.{most_charts, no_place, short_buffer, many_open, short_rows}
use Rattle.meaning.specs.Sums.Laws.{any-never, any-all}
use Rattle.meaning.specs.Meaning.{Set, same, Outcome, refused, given, answer, first_places}
use Rattle.meaning.specs.File.{File, file_of}
use Rattle.meaning.specs.Check.{Test, first_of, file_tests, refusal_of}
use Rattle.meaning.specs.Check.Laws.{below, alike, Passes, first_of-passes, first_of_++, all_pass, front}
use Rattle.meaning.specs.Check.Laws.{call-passed, in_front_lem}
use Rattle.meaning.specs.Calls.{made, outcomes_in, config_tests, Valid, step_refusal, found_in, many_open?, step_in}
use Rattle.meaning.specs.Calls.{step_of, all_places}
use Rattle.meaning.specs.Calls.{places_found, places_in, places_of, run_refusal}
use Rattle.meaning.specs.Laws.Bools.{agrees, same_refl, same→≡}

pub length-made : (n : ℕ) (f : ℕ → ℕ) → length (made n f) ≡ n
unfolding made
length-made zero f = refl
length-made (suc n) f = rw (length-append, length-made n f) (omega arith)

pub get_or-made : (n : ℕ) (f : ℕ → ℕ) (i : ℕ) → i < n → get_or (made n f) i 0 ≡ f i
unfolding made
get_or-made zero f i l = absurd (omega arith)
get_or-made (suc n) f i l = go (dec_lt i n) (get_or-made n f i)
  where
    go : Dec (i < n) → (i < n → get_or (made n f) i 0 ≡ f i) → get_or (made n f ++ (f n ∷ [])) i 0 ≡ f i
    go (yes b) r = get_or-append (made n f) (f n ∷ []) 0 i (rw (length-made n f) b) ∙ r b
    go (no b) r = let e : i ≡ n = omega arith in rw e (get_or_at (made n f) (f n) [] 0 n (length-made n f))

pub made_cong : (n : ℕ) (f g : ℕ → ℕ) → ((i : ℕ) → i < n → f i ≡ g i) → made n f ≡ made n g
unfolding made
made_cong zero f g e = refl
made_cong (suc n) f g e = ap₂ (λ xs x. xs ++ (x ∷ [])) (made_cong n f g (λ i l. e i (omega arith))) (e n (omega arith))

-- one more byte stored over a buffer
pub made_store : (b : List ℕ) (f : ℕ → ℕ) (i : ℕ) → i < length b
    → set (made i f ++ drop i b) i (f i) ≡ made (i + 1) f ++ drop (i + 1) b
unfolding made
made_store b f i h =
    rw (
      drop-cons b i 0,
      set_at (made i f) (get_or b i 0) (drop (suc i) b) (f i) i (length-made i f),
      add-one,
      append_assoc,
    )

-- ── places ──

get_or_alike : (n i d : ℕ) → get_or (replicate n d) i d ≡ d
get_or_alike zero i d = refl
get_or_alike (suc n) zero d = refl
get_or_alike (suc n) (suc i) d = get_or_alike n i d

get_or-behind : (xs : List ℕ) (n i d : ℕ) → get_or (xs ++ replicate n d) i d ≡ get_or xs i d
get_or-behind [] n i d = get_or_alike n i d
get_or-behind (x ∷ xs) n zero d = refl
get_or-behind (x ∷ xs) n (suc i) d = get_or-behind xs n i d

-- what stands behind the places says nothing
pub get_or-all : (ps : List ℕ) (c : ℕ) → get_or (all_places ps) c no_place ≡ get_or ps c no_place
get_or-all ps c = get_or-behind ps (most_charts - length ps) c no_place

-- ── found, or 24 ──

module _ (F : File) (config : List ℕ) (i : Set) where
  -- whether too many choices are open decides answer and places
  pub step_by : (b : Bool) → many_open? F config ≡ b
      → step_in F config i ≡ cond b (refused many_open) (found_in F config i)
  unfolding step_in
  step_by b e = ap (λ z. cond z (refused many_open) (found_in F config i)) e

  pub places_by_lem : (b : Bool) → many_open? F config ≡ b
      → places_in F config i ≡ cond b (all_places []) (places_found F config i)
  unfolding places_in
  places_by_lem b e = ap (λ z. cond z (all_places []) (places_found F config i)) e

  -- a step that is given is found
  pub given_found : (o : Set) (n : List ℕ) (m : Bool) → step_in F config i ≡ given o n m
      → (many_open? F config ≡ false) × (found_in F config i ≡ given o n m)
  given_found o n m e = go (many_open? F config) refl
    where
      go : (b : Bool) → many_open? F config ≡ b → (many_open? F config ≡ false) × (found_in F config i ≡ given o n m)
      go true q = absurd (let h = sym (step_by true q) ∙ e in let z : ◌≡◌ {A = ℕ} 0 1 = cc in omega arith)
      go false q = (q, sym (step_by false q) ∙ e)

module _ (r : ℕ) where
  none_first : (os : List Outcome) → answer os ≡ refused r → first_places os ≡ []
  unfolding answer first_places
  none_first [] e = refl
  none_first (o ∷ os) e = absurd (let z : ◌≡◌ {A = ℕ} 0 1 = cc in omega arith)

  pub in_refused : (F : File) (config : List ℕ) (i : Set) → step_in F config i ≡ refused r
      → places_in F config i ≡ all_places []
  in_refused F config i e = go (many_open? F config) refl
    where
      go : (b : Bool) → many_open? F config ≡ b → places_in F config i ≡ all_places []
      go true q = places_by_lem F config i true q
      go false q =
          places_by_lem F config i false q
          ∙ unfold found_in places_found in
          ap all_places (none_first (outcomes_in F config i) (sym (step_by F config i false q) ∙ e))

  -- the same of a step behind other tests, whose number is n
  pub behind_refused : (n : ℕ) (F : File) (config : List ℕ) (i : Set)
      → cond (same n 0) (step_in F config i) (refused n) ≡ refused r
      → cond (same n 0) (places_in F config i) (all_places []) ≡ all_places []
  behind_refused n F config i e = go (same n 0) e
    where
      go : (b : Bool) → cond b (step_in F config i) (refused n) ≡ refused r
          → cond b (places_in F config i) (all_places []) ≡ all_places []
      go true h = in_refused F config i h
      go false h = refl

  pub of_refused : (f config : List ℕ) (i : Set) (room : ℕ) → step_of f config i room ≡ refused r
      → places_of f config i room ≡ all_places []
  unfolding step_of places_of
  of_refused f config i room e = behind_refused (step_refusal f config room) (file_of f) config i e

-- ── what a call that is not refused has ──

module _ (f config : List ℕ) where
  -- 20 and 21
  config_passes : Valid (file_of f) config → Passes (config_tests f config)
  unfolding config_tests
  config_passes v = (
    agrees (length config) (file_of f).charts v.long,
    (
      any-all (file_of f).charts _
          (λ c m. ap not (lt-ltb (get_or config c 0) ((file_of f).chart c).states (v.states c m))),
      tt,
    ),
  )

  config_valid : Passes (config_tests f config) → Valid (file_of f) config
  unfolding config_tests
  config_valid p =
      record { long = alike _ _ p.0; states = λ c l. below _ _ (any-never (file_of f).charts _ p.1.0 c l) }

  -- a call whose tests are 1 to 11, 20, 21 and some more
  module _ (us : List Test) where
    tests : first_of (file_tests f ++ config_tests f config ++ us)
        ≡ first_of (file_tests f ++ (config_tests f config ++ us))
    tests = ap first_of (append_assoc (file_tests f) (config_tests f config) us)

    pub call_open : refusal_of f ≡ 0 → Valid (file_of f) config
        → first_of (file_tests f ++ config_tests f config ++ us) ≡ first_of us
    call_open h v = tests ∙ call-passed f _ h ∙ first_of_++ (config_tests f config) us (config_passes v)

    pub call_allowed : first_of (file_tests f ++ config_tests f config ++ us) ≡ 0
        → (refusal_of f ≡ 0) × Valid (file_of f) config × (first_of us ≡ 0)
    unfolding config_tests
    call_allowed e =
        let p = in_front_lem f _ (sym tests ∙ e) in
        let q = front (config_tests f config) us (lit< tt, (lit< tt, tt)) p.1 in
        (p.0, config_valid q.0, q.1)

  -- 22, or 27: a buffer has room for so many bytes
  module _ (number : ℕ) (n : 0 < number) (need room : ℕ) where
    abbrev short : Test
    short = record { number = number; applies = ltb room need }

    room_open : need ≤ room → first_of (short ∷ []) ≡ 0
    room_open l = all_pass (short ∷ []) (le-ltb room need l, tt)

    room_left : first_of (short ∷ []) ≡ 0 → need ≤ room
    room_left e = ltb-false room need (first_of-passes (short ∷ []) (n, tt) e).0

  pub step_open : (room : ℕ) → refusal_of f ≡ 0 → Valid (file_of f) config → (file_of f).charts ≤ room
      → step_refusal f config room ≡ 0
  unfolding step_refusal
  step_open room h v l = call_open _ h v ∙ room_open short_buffer (lit< tt) _ room l

  pub step_allowed : (room : ℕ) → step_refusal f config room ≡ 0
      → (refusal_of f ≡ 0) × Valid (file_of f) config × ((file_of f).charts ≤ room)
  unfolding step_refusal
  step_allowed room e = let q = call_allowed _ e in (q.0, q.1, room_left short_buffer (lit< tt) _ room q.2)

  pub run_open : (inputs room : ℕ) → refusal_of f ≡ 0 → Valid (file_of f) config
      → inputs * (10 + (file_of f).charts) ≤ room
      → run_refusal f config inputs room ≡ 0
  unfolding run_refusal
  run_open inputs room h v l = call_open _ h v ∙ room_open short_rows (lit< tt) _ room l

  pub run_allowed : (inputs room : ℕ) → run_refusal f config inputs room ≡ 0
      → (refusal_of f ≡ 0) × Valid (file_of f) config × (inputs * (10 + (file_of f).charts) ≤ room)
  unfolding run_refusal
  run_allowed inputs room e = let q = call_allowed _ e in (q.0, q.1, room_left short_rows (lit< tt) _ room q.2)

-- ── answers behind tests ──

-- what stands where no test applies is all that may differ
pub behind_cong : {A : Type 0} (n : ℕ) (x y z : A) → (n ≡ 0 → x ≡ y) → cond (same n 0) x z ≡ cond (same n 0) y z
behind_cong {A} n x y z h = go (same n 0) refl
  where
    go : (b : Bool) → same n 0 ≡ b → cond b x z ≡ cond b y z
    go true e = h (same→≡ n 0 e)
    go false e = refl

-- where none does, it is what is answered
pub behind_is : {A : Type 0} (n : ℕ) (x z : A) → n ≡ 0 → cond (same n 0) x z ≡ x
behind_is n x z e = ap (λ b. cond b x z) (ap (λ k. same k 0) e ∙ same_refl 0)

-- ── a step that is given ──

-- none of its tests applies, its file is accepted, its configuration valid, and answer and places are what is found by
-- the file's records
pub record Answered (f config : List ℕ) (i : Set) (room : ℕ) (o : Set) (n : List ℕ) (m : Bool) : Type 0 where
  pub passes : step_refusal f config room ≡ 0
  pub accepted : refusal_of f ≡ 0
  pub valid : Valid (file_of f) config
  pub answer_is : step_in (file_of f) config i ≡ given o n m
  pub few_open : many_open? (file_of f) config ≡ false
  pub found_is : found_in (file_of f) config i ≡ given o n m
  pub places_are : places_of f config i room ≡ places_found (file_of f) config i

pub answered : (f config : List ℕ) (i : Set) (room : ℕ) (o : Set) (n : List ℕ) (m : Bool)
    → step_of f config i room ≡ given o n m → Answered f config i room o n m
unfolding step_of places_of
answered f config i room o n m e =
    record {
      passes = passes;
      accepted = (step_allowed f config room passes).0;
      valid = (step_allowed f config room passes).1;
      answer_is = is;
      few_open = found.0;
      found_is = found.1;
      places_are = behind_is (step_refusal f config room) _ _ passes ∙ places_by_lem (file_of f) config i false found.0;
    }
  where
    go : (b : Bool) → same (step_refusal f config room) 0 ≡ b
        → cond b (step_in (file_of f) config i) (refused (step_refusal f config room)) ≡ given o n m
        → step_refusal f config room ≡ 0
    go true q h = same→≡ (step_refusal f config room) 0 q
    go false q h = absurd (let z : ◌≡◌ {A = ℕ} 0 1 = cc in omega arith)

    passes : step_refusal f config room ≡ 0
    passes = go (same (step_refusal f config room) 0) refl e

    is : step_in (file_of f) config i ≡ given o n m
    is = sym (behind_is (step_refusal f config room) _ _ passes) ∙ e

    found : (many_open? (file_of f) config ≡ false) × (found_in (file_of f) config i ≡ given o n m)
    found = given_found (file_of f) config i o n m is
