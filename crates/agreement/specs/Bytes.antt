-- The rewritten file is a list of bytes. In this order: lists; records; the file.
use Rattle.std.specs.Prelude.{◌≡◌, refl, List, [], ◌∷◌, ◌++◌, ℕ, zero, suc, ◌/◌, ◌<◌}
use Rattle.std.proofs.Common.{mod-lt, arith, lit<}
use Rattle.layout.specs.Le.{bytes, AllBytes}
use Rattle.layout.specs.Record.{trailer_bytes, head_bytes, transition_bytes, node_bytes}
use Rattle.layout.specs.declared.record.Trailer.{Trailer}
use Rattle.layout.specs.declared.record.Head.{Head}
use Rattle.layout.specs.declared.record.Transition.{Transition}
use Rattle.layout.specs.declared.record.Node.{Node}
use Rattle.meaning.specs.File.{File}
use Rattle.meaning.specs.Rewriting.{chart_with, rewritten_chart, rewrite, in_turn, head_for, transitions_bytes}
use Rattle.meaning.specs.Rewriting.{body_bytes}
use Rattle.meaning.specs.Rewriting.{encode}
use Rattle.meaning.proofs.Rewriting.Laws.{list_most}
use Rattle.agreement.specs.Every.{Every, every_imp}
use Rattle.agreement.specs.Laid.{ordered_r}
use Rattle.agreement.specs.Encoded.{node_in, trailer_for}
use Rattle.agreement.specs.New.{Regular, new-states, formed}
use Rattle.agreement.specs.Again.{Given}

-- ── lists ──

-- a list of bytes, byte by byte
pub data Bytes : List ℕ → Type 0 where
  end : Bytes []
  byte : {x : ℕ} {s : List ℕ} → x < 256 → Bytes s → Bytes (x ∷ s)

pub all-bytes : {s : List ℕ} → Bytes s → AllBytes s
all-bytes end i = lit< tt
all-bytes (byte l h) zero = l
all-bytes (byte l h) (suc i) = all-bytes h i

pub and : {a b : List ℕ} → Bytes a → Bytes b → Bytes (a ++ b)
and end k = k
and (byte l h) k = byte l (and h k)

pub number : (n x : ℕ) → Bytes (bytes n x)
unfolding bytes
number zero x = end
number (suc n) x = byte (mod-lt x (lit< tt)) (number n (x / 256))

-- a zero byte
pub nought : {s : List ℕ} → Bytes s → Bytes (0 ∷ s)
nought h = byte (lit< tt) h

pub in_turn_lem : (n : ℕ) (f : ℕ → List ℕ) → ((i : ℕ) → i < n → Bytes (f i)) → Bytes (in_turn n f)
unfolding in_turn
in_turn_lem zero f h = end
in_turn_lem (suc n) f h = and (in_turn_lem n f (λ i l. h i (omega arith))) (h n (omega arith))

-- ── records ──

pub head_bytes_lem : (r : Head) → r.states < 256 → r.initial < 256 → r.transitions < 256 → Bytes (head_bytes r)
unfolding head_bytes
head_bytes_lem r s i t =
    and (and (byte s (byte i (byte t (nought (nought (nought (nought (nought end)))))))) (number 8 r.feedback))
    (number 8 r.extra)

pub transition-bytes : (r : Transition) → r.from < 256 → r.to < 256 → Bytes (transition_bytes r)
unfolding transition_bytes
transition-bytes r f t =
    and (and (and (byte f (byte t (nought (nought end)))) (number 8 r.needed)) (number 8 r.barred))
    (number 8 r.action)

pub transitions_bytes_lem : (ts : List Transition) → Every (λ t. (t.from < 256) × (t.to < 256)) ts
    → Bytes (transitions_bytes ts)
unfolding transitions_bytes
transitions_bytes_lem [] h = end
transitions_bytes_lem (t ∷ ts) h = and (transition-bytes t h.0.0 h.0.1) (transitions_bytes_lem ts h.1)

pub node_bytes_lem : (r : Node) → r.kind < 256 → r.a < 256 → r.b < 256 → Bytes (node_bytes r)
unfolding node_bytes
node_bytes_lem r k a b = and (and (byte k (byte a (byte b (nought end)))) (number 8 r.x)) (number 8 r.y)

pub trailer-bytes : (r : Trailer) → r.charts < 256 → r.slaves < 256 → r.nodes < 256 → r.edition < 256
    → Bytes (trailer_bytes r)
unfolding trailer_bytes
trailer-bytes r c s n e = and
    (and (number 4 r.distance) (byte c (byte s (byte n (byte e (number 2 r.transitions)))))) (nought (nought end))

-- ── the file ──

module _ (F : File) (rg : Regular F) (gv : Given F) where
  abbrev R : File
  R = rewrite F

  heads : (c : ℕ) → c < F.charts → Bytes (head_bytes (head_for (R.chart c)))
  unfolding head_for rewritten_chart chart_with
  heads c l = head_bytes_lem (head_for (R.chart c)) (let h = rg.most_states_lem c l in omega arith)
      (let h = rg.most_states_lem c l in let g = rg.initials c l in omega arith)
      (let h = list_most R gv.lists c l in omega arith)

  lists : (c : ℕ) → c < F.charts → Bytes (transitions_bytes (R.chart c).transitions)
  lists c l = transitions_bytes_lem (R.chart c).transitions
      (every_imp (λ t. (t.from < (F.chart c).states) × (t.to < (F.chart c).states))
      (λ t. (t.from < 256) × (t.to < 256))
      (λ t h. (
        let g = rg.most_states_lem c l in let a = h.0 in omega arith,
        let g = rg.most_states_lem c l in let a = h.1 in omega arith,
      ))
      (R.chart c).transitions (new-states F rg gv.room c l))

  nodes : (j : ℕ) → j < R.nodes → Bytes (node_bytes (node_in R j))
  nodes j l = go (R.kind j) refl
    where
      go : (k : ℕ) → R.kind j ≡ k → Bytes (node_bytes (node_in R j))
      go zero e = let h = (formed F rg gv.room j l).held e in let a = h.0 in let c = rg.charts in let b = h.1 in
          node_bytes_lem (node_in R j) (omega arith) (omega arith) (omega arith)
      go (suc zero) e = let h = (ordered_r F rg.ready.sound.ordered).lower₁ j l e in let a = h.0 in let b = h.1 in
          let n = gv.nodes in
          node_bytes_lem (node_in R j) (omega arith) (omega arith) (omega arith)
      go (suc (suc k)) e = let w = (formed F rg gv.room j l).kind in let e₂ : R.kind j ≡ 2 = omega arith in
          let a = (ordered_r F rg.ready.sound.ordered).lower₂ j l e₂ in
          let b = (formed F rg gv.room j l).hidden e₂ in let n = gv.nodes in
          node_bytes_lem (node_in R j) (omega arith) (omega arith) (omega arith)

  pub new-bytes : AllBytes (encode R)
  unfolding encode body_bytes
  new-bytes = all-bytes (and (and (and (and (in_turn_lem R.charts _ heads) (in_turn_lem R.charts _ lists))
      (in_turn_lem 0 _ (λ i l. absurd (omega arith))))
      (in_turn_lem R.nodes _ nodes))
      (trailer-bytes t (let c = rg.charts in omega arith) (lit< tt) (let n = gv.nodes in omega arith) (lit< tt)))
    where
      t : Trailer
      t = trailer_for R
