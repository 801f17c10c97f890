-- Laws of the transitions of a chart, written as they are read: those behind commas (`lines-..`), with the first one
-- (`lines_all`), and those of a chart (`chart-..`).
use Rattle.std.specs.Prelude.{◌≡◌, refl, ℕ, drop, get_or}
use Rattle.std.proofs.Math.Path.{sym, subst}
use Rattle.std.proofs.Common.{ap, ◌∙◌, arith}
use Rattle.std.proofs.Math.Option.{Option, none, some}
use mathlib.Core.List.{List, [], ◌∷◌, ◌++◌, append-nil, append_assoc}
use Rattle.layout.specs.Record.{transition_bytes}
use Rattle.layout.specs.declared.record.Transition.{Transition as Record}
use Rattle.layout.specs.Put.{Room, Put}
use Rattle.layout.specs.Put.Laws.{put-none, put-append, room_first, room_next}
use Rattle.meaning.specs.Each.{Each}
use Rattle.meaning.specs.Each.Laws.{each_head, each_tail}
use Rattle.notation.specs.Syntax.{OneOrMore, Transition, Sequential}
use Rattle.notation.specs.Grammar.{comma, rbrace, sign, sign_bytes, Tokens, of_transition}
use Rattle.notation.specs.Grammar.{of_transitions, Text}
use Rattle.notation.specs.Reader.{first_byte}
use Rattle.reading.specs.Names.{members_or}
use Rattle.reading.specs.Meant.{all, gathered, transition_for, transitions_in}
use Rattle.tokens.specs.Tokens.{after_blanks, BehindSign}
use Rattle.tokens.specs.Laws.Text.{behind-right}
use Rattle.tokens.specs.Laws.Lists.{peek_sign}
use Rattle.fields.specs.declared.Passage.{Passage}
use Rattle.fields.specs.Fields.{Passes, TransitionAt}
use Rattle.fields.specs.Laws.Sets.{none-next}
use Rattle.lists.specs.declared.Heading.{Heading as Headed}
use Rattle.lists.specs.Lists.{more_of, HeadingAt}
use Rattle.lists.specs.Laws.Transitions.{first_in, rest_in, first_text, members_list, none_text, some_text}
use Rattle.lists.specs.Laws.Transitions.{some_next}
use Rattle.lists.specs.Laws.Sequentials.{parts, parts_are}
use Rattle.laying.specs.Room.{Tries}
use Rattle.roster.specs.Roster.{StandsAt}
use Rattle.roster.specs.Records.{line_of, lines_of, record_of, InRange, LinesMore, LinesFrom}
use Rattle.roster.specs.Records.{LinesAt}
use Rattle.roster.specs.Laws.Laid.{room_of, put_of, all-gathered}
use Rattle.roster.specs.Laws.Right.{lines_in_range, record_right}

-- ── the transitions behind commas ──

-- the transitions `done` of ts are written, and the text goes on with the others at i
pub record Going (w : List ℕ) (i : ℕ) (ts : List Transition) (us : Tokens) (before : List ℕ) (to : ℕ)
    (after : List ℕ) (p : ℕ) : Type 0
  where
    pub done : List Transition
    pub rest : List Transition
    pub all_of : ts ≡ done ++ rest
    pub text : Text (more_of rest ++ (sign rbrace ∷ us)) (drop i w)
    pub in_range : Each InRange rest
    pub put : Put before to (all line_of done) after p

-- one transition, written as it is read
line-put : (w : List ℕ) (u : Passage) (m : Record) (t : Transition) (us : Tokens) (after later : List ℕ) (p q : ℕ)
    → m ≡ record_of u → Passes w u t us → InRange t → Tries after p (transition_bytes m) later q
    → Tries after p (line_of t) later q
unfolding line_of
line-put w u m t us after later p q e g i f =
    subst (λ r. Tries after p (transition_bytes r) later q) (e ∙ record_right w u t us g i) f

module _ (w : List ℕ) (ts : List Transition) (us : Tokens) (before : List ℕ) (to : ℕ) where
  pub lines_start : (i : ℕ) → Text (more_of ts ++ (sign rbrace ∷ us)) (drop i w) → Each InRange ts
      → Going w i ts us before to before to
  unfolding all
  lines_start i x e =
      record { done = []; rest = ts; all_of = refl; text = x; in_range = e; put = put-none to before }

  pub lines_next : (i j : ℕ) (u : Passage) (m : Record) (after later : List ℕ) (p q : ℕ)
      → get_or (after_blanks (drop i w)) 0 0 ≡ 44 → BehindSign w i 1 j → TransitionAt w j u → m ≡ record_of u
      → Tries after p (transition_bytes m) later q → Room before to (all line_of ts)
      → Going w i ts us before to after p → Going w u.next ts us before to later q
  unfolding more_of first_byte sign_bytes
  lines_next i j u m after later p q s o a n f room g = go g.rest g.all_of g.text g.in_range
    where
      go : (rest : List Transition) → ts ≡ g.done ++ rest → Text (more_of rest ++ (sign rbrace ∷ us)) (drop i w)
          → Each InRange rest → Going w u.next ts us before to later q
      go [] e x k = absurd (let z = peek_sign rbrace x in omega arith)
      go (t ∷ rest) e x k =
          let y = behind-right w i comma j x o.behind in
          let z = a.gives t (more_of rest ++ (sign rbrace ∷ us))
          (subst (λ l. Text l (drop j w)) (append_assoc (of_transition t) (more_of rest) (sign rbrace ∷ us)) y) in
          record {
            done = g.done ++ (t ∷ []);
            rest = rest;
            all_of = e ∙ sym (append_assoc g.done (t ∷ []) rest);
            text = z.goes_on;
            in_range = each_tail k;
            put =
                put_of line_of g.done t g.put
                (line-put w u m t _ after later p q n z (each_head k) f
                (room_of line_of g.done t rest e room g.put));
          }

  pub lines_end : (i p : ℕ) (after : List ℕ) → (get_or (after_blanks (drop i w)) 0 0 ≡ 44 → ⊥)
      → Going w i ts us before to after p → Put before to (all line_of ts) after p
  unfolding more_of first_byte
  lines_end i p after s g = go g.rest g.all_of g.text
    where
      go : (rest : List Transition) → ts ≡ g.done ++ rest → Text (more_of rest ++ (sign rbrace ∷ us)) (drop i w)
          → Put before to (all line_of ts) after p
      go [] e x = subst (λ l. Put before to (all line_of l) after p) (sym (e ∙ append-nil g.done)) g.put
      go (t ∷ rest) e x = absurd (s (peek_sign comma x))

-- ── the first one ──

pub lines_all : (w : List ℕ) (at : ℕ) (u : Passage) (m : Record) (before after later : List ℕ) (to p q : ℕ)
    → TransitionAt w at u → m ≡ record_of u → Tries before to (transition_bytes m) after p
    → LinesMore w u.next after p later q → LinesFrom w at before to later q
unfolding all
lines_all w at u m before after later to p q a n f more ts us x i room =
    let z = a.gives (first_in ts) _ (first_text w at ts us x) in
    let j = subst (Each InRange) (members_list ts) i in
    let e = ap (all line_of) (members_list ts) in
    let r = subst (Room before to) e room in
    let h = line-put w u m (first_in ts) _ before after to p n z (each_head j) f
    (room_first before to (line_of (first_in ts)) (all line_of (rest_in ts)) r) in
    let k = more (rest_in ts) us z.goes_on (each_tail j)
    (room_next before to (line_of (first_in ts)) (all line_of (rest_in ts)) r h) in
    subst (λ l. Put before to l later q) (sym e) (put-append h k)

-- ── a chart ──

module _ (w : List ℕ) (at i j : ℕ) (h : Headed) (o : HeadingAt w at h) (b : BehindSign w h.next 1 i)
    (c : BehindSign w i 1 j)
  where
    -- behind the heading and a comma stands the list
    behind_heading : (s : Sequential) → StandsAt w at s
        → (us : Tokens) × Text (of_transitions s.transitions ++ us) (drop i w)
    unfolding parts sign_bytes
    behind_heading s x =
        let t = subst (λ u. Text u (drop at w)) (parts_are s x.behind) x.text in
        (_, behind-right w h.next comma i (o.gives s.heading _ t).goes_on b.behind)

    pub chart-none : (before : List ℕ) (to : ℕ) → get_or (after_blanks (drop j w)) 0 0 ≡ 125
        → LinesAt w at before to before to
    unfolding lines_of members_or all
    chart-none before to p s x e room = go s.transitions (behind_heading s x).1
      where
        us : Tokens
        us = (behind_heading s x).0

        go : (ts : Option (OneOrMore Transition)) → Text (of_transitions ts ++ us) (drop i w)
            → Put before to (all line_of (members_or ts)) before to
        go none t = put-none to before
        go (some ts) t = absurd (let z = some_next w j ts us (some_text w i j ts us c t) in omega arith)

    pub chart_some : (before after : List ℕ) (to q : ℕ) → (get_or (after_blanks (drop j w)) 0 0 ≡ 125 → ⊥)
        → LinesFrom w j before to after q → LinesAt w at before to after q
    unfolding lines_of members_or
    chart_some before after to q p f s x e room =
        go s.transitions (behind_heading s x).1 (lines_in_range s e) room
      where
        us : Tokens
        us = (behind_heading s x).0

        go : (ts : Option (OneOrMore Transition)) → Text (of_transitions ts ++ us) (drop i w)
            → Each InRange (members_or ts) → Room before to (all line_of (members_or ts))
            → Put before to (all line_of (members_or ts)) after q
        go none t k room = absurd (p (none-next w j us (none_text w i j us c t)))
        go (some ts) t k room = f ts us (some_text w i j ts us c t) k room

-- ── all charts ──

-- the transitions of each chart are all of them
pub lines_gathered : (ss : List Sequential)
    → all lines_of ss ≡ all (λ u. transition_bytes (transition_for u)) (gathered transitions_in ss)
unfolding lines_of line_of
lines_gathered ss = all-gathered line_of transitions_in ss
