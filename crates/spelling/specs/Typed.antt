-- The chart that a file holds, as it is typed in its written form: signals rising, a needed signal before the same one
-- barred, transitions in the file's order, the initial state first and the others rising, slaves in the order of their
-- records, which is by state, an empty extra set left out, both hiding sets given.
use Rattle.std.specs.Prelude.{Bool, cond, List, [], ◌∷◌, ◌++◌, map, ℕ, zero, suc}
use Rattle.std.proofs.Math.Option.{Option, none, some}
use Rattle.signals.specs.Mask.{bit}
use Rattle.layout.specs.declared.record.Transition.{Transition as Record}
use Rattle.meaning.specs.Numbers.{most_signals}
use Rattle.meaning.specs.Meaning.{Set, ∅, same, Tree, leaf, comp, hide, dec, nil, snoc}
use Rattle.meaning.specs.Meaning.{Chart as Part, Slaves as Held}
use Rattle.meaning.specs.File.{File}
use Rattle.notation.specs.Syntax.{OneOrMore, one, ◌▸◌, Signals, Literal, needed, barred, Transition, Sequential}
use Rattle.notation.specs.Syntax.{Single, sequential, decomposed, hidden, Chart, single, composed}
use Rattle.notation.specs.Syntax.{Slaves, first_slave, more_slaves}

-- ── lists ──

-- what f has for 0, 1, .. n - 1, one after another
unfoldable pub from_all : {A : Type 0} → ℕ → (ℕ → List A) → List A
from_all zero f = []
from_all (suc n) f = from_all n f ++ f n

-- a, if the test holds
abbrev pub if_so : {A : Type 0} → Bool → A → List A
if_so b a = cond b (a ∷ []) []

-- members behind those of a list of one or more
unfoldable pub followed : {A : Type 0} → OneOrMore A → List A → OneOrMore A
followed as' [] = as'
followed as' (a ∷ l) = followed (as' ▸ a) l

-- a list as typed: it may be empty
abbrev pub listed : {A : Type 0} → List A → Option (OneOrMore A)
listed [] = none
listed (a ∷ l) = some (followed (one a) l)

-- ── sets and guards ──

-- the signals of a set, rising
unfoldable pub members : Set → List ℕ
members x = from_all most_signals (λ n. if_so (bit x n) n)

abbrev pub signals_of : Set → Signals
signals_of x = listed (members x)

-- an empty set is left out
abbrev pub or_left_out : Set → Option Signals
or_left_out x = cond (same x ∅) none (some (signals_of x))

-- what a guard says of signal n: that it is needed, that it is barred, or both, in this order
abbrev pub said_of : Set → Set → ℕ → List Literal
said_of x y n = if_so (bit x n) (needed n) ++ if_so (bit y n) (barred n)

-- a guard that needs x and bars y
unfoldable pub literals : Set → Set → List Literal
literals x y = from_all most_signals (said_of x y)

-- ── a sequential chart ──

unfoldable pub transition_of : Record → Transition
transition_of t =
    record {
      from = t.from;
      to = t.to;
      guard = listed (literals t.needed t.barred);
      action = signals_of t.action;
    }

-- the states but the initial one, rising
unfoldable pub others : Part → List ℕ
others C = from_all C.states (λ q. cond (same q C.initial) [] (q ∷ []))

abbrev pub states_of : Part → OneOrMore ℕ
states_of C = followed (one C.initial) (others C)

-- chart c, whose records are C
unfoldable pub sequential_of : ℕ → Part → Sequential
sequential_of c C =
    record {
      heading =
          record {
            name = c;
            states = states_of C;
            initial = C.initial;
            feedback = signals_of C.feedback;
          };
      transitions = listed (map transition_of C.transitions);
      extra = or_left_out C.extra;
    }

-- ── the tree ──

module _ (F : File) where
  unfoldable mutual
    pub typed_of : Tree → Chart
    typed_of (leaf c) = single (sequential (sequential_of c (F.chart c)))
    typed_of (comp p q x) = composed (typed_of p) (signals_of x) (typed_of q)
    typed_of (hide p x y) = single (hidden (some (signals_of x)) (typed_of p) (some (signals_of y)))
    typed_of (dec c ss) = single (master_of (sequential_of c (F.chart c)) ss)

    -- a master with its slaves; without any it is a sequential chart
    pub master_of : Sequential → Held → Single
    master_of s nil = sequential s
    master_of s (snoc ss i t) = decomposed s (slaves_of ss (F.state i) (typed_of t))

    -- slaves in the order of their records, and one more
    pub slaves_of : Held → ℕ → Chart → Slaves
    slaves_of nil q u = first_slave q u
    slaves_of (snoc ss i t) q u = more_slaves (slaves_of ss (F.state i) (typed_of t)) q u
