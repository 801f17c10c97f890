-- What the functions of the posting compute, one entry and one case at a time, in the order of the code. No public
-- contract uses these definitions; Turns/Posted.antt proves that together they are the posting.
use Rattle.std.specs.Prelude.{◌≡◌, Bool, false, cond, ◌||◌, List, [], ◌∷◌, ◌++◌, ℕ, zero, suc, ◌+◌, ◌*◌, ◌≤◌, ◌<◌, ltb}
use Rattle.std.specs.Prelude.{leb, length, get_or, set, replicate, Result, Ok, Err}
use Rattle.std.specs.Result.{result_and}
use Rattle.signals.specs.Mask.{◌∪◌}
use Rattle.layout.specs.Le.{bytes}
use Rattle.meaning.specs.Numbers.{most_charts}
use Rattle.meaning.specs.Sums.{one, any_up_to}
use Rattle.meaning.specs.Meaning.{Set, same, Answer, refused, given}
use Rattle.meaning.specs.Check.{differ, not_below}
use Rattle.meaning.specs.Calls.{made, laid_over, step_of, refusal_in, output_in, mark_in, next_in, carried_after}
use Rattle.checks.specs.Refusals.{number, told}
use Rattle.checks.specs.declared.refusal.Refusal.{Refusal}
use Rattle.checks.specs.declared.refusal.Refusal.TheVariants as refusal
use Rattle.queries.specs.States.{states_of}
use Rattle.desk.specs.declared.Case.{Case}
use Rattle.desk.specs.declared.Entry.{Entry}
use Rattle.desk.specs.declared.Day.{Day}
use Rattle.desk.specs.declared.Seen.{Seen}
use Rattle.desk.specs.declared.Reply.{Reply}
use Rattle.desk.specs.Posting.{last_row, most_cases, width, bad_book, no_such_case, rows_end, short_book}

-- the first n bytes of a record
abbrev pub first_bytes : ℕ → List ℕ → List ℕ
first_bytes n l = made n (λ k. get_or l k 0)

-- ── the entries ──

-- a set joined to a case's; past the cases that a book may have nothing is kept
unfoldable pub joined_at : List Set → ℕ → Set → List Set
joined_at sets k i = cond (ltb k most_cases) (set sets k (get_or sets k 0 ∪ i)) sets

-- one entry more
unfoldable pub taken_of : ℕ → Day → Entry → Day
taken_of n d e = record { sets = joined_at d.sets e.number e.signals; outside = d.outside || leb n e.number }

unfoldable pub no_day : Day
no_day = record { sets = replicate most_cases 0; outside = false }

unfoldable pub all_taken : ℕ → Day → List Entry → Day
all_taken n d [] = d
all_taken n d (e ∷ es) = all_taken n (taken_of n d e) es

-- ── the file and the cases looked at ──

-- 20 and 21 of a case, by the file's charts and their states
unfoldable pub bad_of : Seen → Case → Result (Unit {0}) Refusal
bad_of s c =
    cond (ltb most_charts c.length) (Err refusal.WrongLength)
    (cond (differ c.length s.charts) (Err refusal.WrongLength)
    (cond (any_up_to c.length (λ k. not_below (get_or c.config k 0) (get_or s.states k 0))) (Err refusal.BadState)
    (Ok tt)))

-- one case more
unfoldable pub seen_of : Seen → Case → Seen
seen_of s c = record {
  tested = result_and s.tested (bad_of s c);
  charts = s.charts;
  states = s.states;
  ended = s.ended || leb last_row c.last;
}

-- what an accepted file says, before any case is looked at
unfoldable pub unseen_of : List ℕ → Seen
unseen_of f =
    record { tested = Ok tt; charts = (states_of f).charts; states = (states_of f).states; ended = false }

unfoldable pub all_seen : Seen → List Case → Seen
all_seen s [] = s
all_seen s (c ∷ cs) = all_seen (seen_of s c) cs

-- ── what is decided ──

-- 60 to 63
unfoldable pub verdict_of : Seen → Bool → ℕ → ℕ → ℕ
verdict_of s outside n room =
    cond (same n 0 || ltb most_cases n) bad_book
    (cond outside no_such_case
    (cond s.ended rows_end
    (cond (ltb room (n * (14 + s.charts))) short_book 0)))

-- 20 or 21 of the first bad case goes before them
unfoldable pub decided_of : Seen → Bool → ℕ → ℕ → ℕ
decided_of s outside n room = cond (same (told s.tested) 0) (verdict_of s outside n room) (told s.tested)

-- ── the cases posted ──

-- what a step from the first n of a record's bytes answers
abbrev pub asked_of : List ℕ → List ℕ → ℕ → Set → Answer
asked_of f config n i = step_of f (first_bytes n config) i width

-- an answer in the types of the code, from a record's bytes
abbrev pub Replies : Answer → List ℕ → Result Reply Refusal → Type 0
Replies (given o n m) config (Ok r) = r ≡ record { output = o; mark = m; next = laid_over n config }
Replies (given o n m) config (Err e) = ⊥
Replies (refused r) config (Ok y) = ⊥
Replies (refused r) config (Err e) = number e ≡ r

-- what a case is offered: what it carries, and what the day has for case k
abbrev pub offered_to : Case → Day → ℕ → Set
offered_to c d k = c.carried ∪ get_or d.sets k 0

abbrev pub answered : List ℕ → Case → Day → ℕ → Answer
answered f c d k = asked_of f c.config c.length (offered_to c d k)

unfoldable pub turn_case : List ℕ → Case → Day → ℕ → Case
turn_case f c d k = record {
  carried = carried_after (answered f c d k) (offered_to c d k);
  last = c.last + 1;
  length = c.length;
  config = next_in (answered f c d k) c.config;
}

-- the bytes of a row, its number in front, for an answer from a record's bytes
unfoldable pub row_bytes : ℕ → ℕ → Answer → List ℕ → List ℕ
row_bytes charts number a config =
    bytes 4 number
    ++ (bytes 8 (output_in a) ++ (one (mark_in a) ∷ refusal_in a ∷ first_bytes charts (next_in a config)))

unfoldable pub turn_row : ℕ → List ℕ → Case → Day → ℕ → List ℕ
turn_row charts f c d k = row_bytes charts (c.last + 1) (answered f c d k) c.config

-- the cases from number k on, of which the first n are still to be posted
unfoldable pub turn_cases : List ℕ → Day → ℕ → ℕ → List Case → List Case
turn_cases f d zero k cs = cs
turn_cases f d (suc n) k [] = []
turn_cases f d (suc n) k (c ∷ cs) = turn_case f c d k ∷ turn_cases f d n (suc k) cs

unfoldable pub turn_rows : List ℕ → Day → ℕ → ℕ → ℕ → List Case → List ℕ
turn_rows f d charts zero k cs = []
turn_rows f d charts (suc n) k [] = []
turn_rows f d charts (suc n) k (c ∷ cs) = turn_row charts f c d k ++ turn_rows f d charts n (suc k) cs

-- what the posting of the first n cases asks: there are n, each row number has a next one, and there is room for n rows
pub record Postable (cs : List Case) (n charts room : ℕ) : Type 0 where
  pub few : n ≤ most_cases
  pub there : n ≤ length cs
  pub narrow : charts ≤ width
  pub fits : n * (14 + charts) ≤ room
  pub known : (k : ℕ) (c : Case) → k < n → (get_or cs k c).length ≤ width
  pub rising : (k : ℕ) (c : Case) → k < n → (get_or cs k c).last < last_row
