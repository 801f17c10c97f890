-- Laws of bytes of the members of a list, one after another: the bytes of a list (`all-..`), with room for the next
-- member (`room_of`) and one member more (`put_of`); tests that no member passes (`each_false`); and the charts of a
-- roster (`laid-..`).
use Rattle.std.specs.Prelude.{◌≡◌, refl, Bool, false}
use Rattle.std.proofs.Math.Path.{sym, ap, subst}
use Rattle.std.proofs.Common.{◌∙◌, add-one, arith, length-append}
use mathlib.Core.List.{List, [], ◌∷◌, ◌++◌, append-nil, append_assoc}
use Prim.Native.Nat.{ℕ, suc, ◌+◌, ◌≤◌, ◌<◌}
use Rattle.std.proofs.Math.ListN.{length}
use Rattle.layout.specs.Put.{Room, Put}
use Rattle.layout.specs.Put.Laws.{put-none, put-append, room_first, room_next}
use Rattle.meaning.specs.Each.{Each, none, more}
use Rattle.meaning.specs.Sums.Laws.{or_left, or_right}
use Rattle.notation.specs.Syntax.{Sequential}
use Rattle.notation.specs.Grammar.{of_sequential, Text}
use Rattle.reading.specs.Names.{any}
use Rattle.reading.specs.Meant.{all, gathered}
use Rattle.reading.specs.Laws.Lists.{all_append}
use Rattle.lists.specs.Laws.States.{length_snoc}
use Rattle.laying.specs.Room.{Tries}
use Rattle.roster.specs.declared.Roster.{Roster}
use Rattle.roster.specs.Roster.{StandsAt, Stand, Charted}
use Rattle.roster.specs.Records.{PlaceOf}

-- ── the bytes of a list ──

module _ {A : Type 0} (g : A → List ℕ) where
  pub all_snoc : (l : List A) (a : A) → all g (l ++ (a ∷ [])) ≡ all g l ++ g a
  all_snoc l a = all_append g l (a ∷ []) ∙ ap (all g l ++◌) (unfold all in append-nil (g a))

  module _ {before after : List ℕ} {at p : ℕ} (done : List A) where
    pub room_of : {ss : List A} (s : A) (rest : List A) → ss ≡ done ++ (s ∷ rest) → Room before at (all g ss)
        → Put before at (all g done) after p → Room after p (g s)
    unfolding all
    room_of {ss} s rest e r h =
        room_first after p (g s) (all g rest)
        (room_next before at (all g done) (g s ++ all g rest)
        (subst (Room before at) (ap (all g) e ∙ all_append g done (s ∷ rest)) r) h)

    pub put_of : {later : List ℕ} {q : ℕ} (s : A) → Put before at (all g done) after p → Put after p (g s) later q
        → Put before at (all g (done ++ (s ∷ []))) later q
    put_of {later} {q} s h k =
        subst (λ l. Put before at l later q) (sym (all_snoc done s)) (put-append h k)

-- the bytes of the lists of a list
pub all-gathered : {A B : Type 0} (g : B → List ℕ) (f : A → List B) (l : List A)
    → all (λ a. all g (f a)) l ≡ all g (gathered f l)
unfolding all gathered
all-gathered g f [] = refl
all-gathered g f (a ∷ l) =
    ap (all g (f a) ++◌) (all-gathered g f l) ∙ sym (all_append g (f a) (gathered f l))

-- ── tests that no member passes ──

pub each_false : {A : Type 0} (p : A → Bool) (l : List A) → any p l ≡ false → Each (λ a. p a ≡ false) l
unfolding any
each_false p [] e = none
each_false p (a ∷ l) e = more (or_left (p a) (any p l) e) (each_false p l (or_right (p a) (any p l) e))

-- ── the charts of a roster ──

-- the c first of the charts ss are written, and the others stand at the places from c on
pub record Laid (g : Sequential → List ℕ) (Good : Sequential → Type 0) (w : List ℕ) (r : Roster)
    (ss : List Sequential) (before : List ℕ) (at c : ℕ) (after : List ℕ) (p : ℕ) : Type 0
  where
    pub done : List Sequential
    pub rest : List Sequential
    pub all_of : ss ≡ done ++ rest
    pub counted : length done ≡ c
    pub stand : Stand w r.places c rest
    pub good : Each Good rest
    pub put : Put before at (all g done) after p

module _ (g : Sequential → List ℕ) (Good : Sequential → Type 0) (w : List ℕ) (r : Roster) (ss : List Sequential)
    (before : List ℕ) (at : ℕ)
  where
    pub laid-first : Charted w r ss → Each Good ss → Laid g Good w r ss before at 0 before at
    unfolding all
    laid-first h e =
        record {
          done = [];
          rest = ss;
          all_of = refl;
          counted = refl;
          stand = h.stand;
          good = e;
          put = put-none at before;
        }

    pub laid_more : (c place : ℕ) (after later : List ℕ) (p q : ℕ) → Charted w r ss → c < r.charts
        → PlaceOf w r c place → ((s : Sequential) → StandsAt w place s → Good s → Tries after p (g s) later q)
        → Room before at (all g ss) → Laid g Good w r ss before at c after p
        → Laid g Good w r ss before at (c + 1) later q
    unfolding Stand
    laid_more c place after later p q h l o f room k =
        go k.rest k.all_of k.stand k.good
      where
        go : (rest : List Sequential) → ss ≡ k.done ++ rest → Stand w r.places c rest → Each Good rest
            → Laid g Good w r ss before at (c + 1) later q
        go [] e s i =
            absurd (omega (arith, ap length (e ∙ append-nil k.done), k.counted, h.is_charts, l))
        go (u ∷ rest) e s (more i is) =
            let few = h.few in
            let here : StandsAt w place u =
            record {
              behind = s.0.behind;
              text =
                  subst (λ v. Text (of_sequential u ++ s.0.behind) v)
                  (sym (o.1 (omega (arith, l, h.is_charts, few)))) s.0.text;
            } in
            record {
              done = k.done ++ (u ∷ []);
              rest = rest;
              all_of = e ∙ sym (append_assoc k.done (u ∷ []) rest);
              counted = length_snoc k.done u ∙ ap suc k.counted ∙ sym (add-one c);
              stand = subst (λ n. Stand w r.places n rest) (sym (add-one c)) s.1;
              good = is;
              put = put_of g k.done u k.put (f u here i (room_of g k.done u rest e room k.put));
            }

    pub laid_end : (c p : ℕ) (after : List ℕ) → Charted w r ss → r.charts ≤ c → Laid g Good w r ss before at c after p
        → Put before at (all g ss) after p
    laid_end c p after h l k = go k.rest k.all_of
      where
        go : (rest : List Sequential) → ss ≡ k.done ++ rest → Put before at (all g ss) after p
        go [] e = subst (λ m. Put before at (all g m) after p) (sym (e ∙ append-nil k.done)) k.put
        go (u ∷ rest) e =
            absurd (omega (arith, ap length e, length-append k.done (u ∷ rest), k.counted, h.is_charts, l))
