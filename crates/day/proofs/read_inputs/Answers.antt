use mathlib.Core.Path.{◌≡◌, refl, sym, ap, ◌∙◌}
use mathlib.Core.List.{List, [], ◌∷◌, ◌++◌, append_assoc, append-nil}
use Prim.Native.Nat.{ℕ, suc, ◌+◌, ◌*◌, ◌-◌, ◌<◌}
use native.Mathlib.Nat.{sub_self}
use native.Mathlib.Numerals.{add-one}
use native.Mathlib.Omega.{arith}
use lib.ListN.{length, take, drop, set, length-set}
use lib.Seq.{take-suc-set, take-length, drop-drop}
use Rattle.layout.specs.Le.{le}
use Rattle.line.specs.Line.{inputs_of}
use Rattle.day.proofs.read_inputs.Goals as goal

none_yet : (s : List ℕ) (n : ℕ) → inputs_of (n - 0) s ≡ inputs_of n s
none_yet s n = ap (λ (k : ℕ). inputs_of k s) (let e : n - 0 ≡ n = omega arith in e)

inputs-next : (s : List ℕ) (n i : ℕ) → i < n
    → inputs_of (n - i) (drop (8 * i) s) ≡ le 8 (drop (8 * i) s) ∷ inputs_of (n - (i + 1)) (drop (8 * (i + 1)) s)
unfolding inputs_of
inputs-next s n i l =
    let e : n - i ≡ suc (n - (i + 1)) = omega arith in
    let q : 8 * (i + 1) ≡ 8 * i + 8 = omega arith in
    rw (e, q, ← drop-drop 8 (8 * i) s)

one_more : (s l out : List ℕ) (n i v : ℕ) → i < n → i < length l → v ≡ le 8 (drop (8 * i) s)
    → take i l ++ inputs_of (n - i) (drop (8 * i) s) ≡ out
    → take (i + 1) (set l i v) ++ inputs_of (n - (i + 1)) (drop (8 * (i + 1)) s) ≡ out
one_more s l out n i v h k e p =
    let t : take (i + 1) (set l i v) ≡ take i l ++ (v ∷ []) = rw add-one (take-suc-set l i v k) in
    rw (t, append_assoc, e, ← inputs-next s n i h) p

all : (s l out : List ℕ) (n i : ℕ) → i ≡ n → length l ≡ n
    → take i l ++ inputs_of (n - i) (drop (8 * i) s) ≡ out → l ≡ out
unfolding inputs_of
all s l out n i e h p = sym (take-length l) ∙ rw h (sym (append-nil (take n l))) ∙ rw (e, sub_self) at p

pub loop-i-init : goal.loop-i-init
loop-i-init c = (refl, none_yet _ _)

pub loop-i-preserved : goal.loop-i-preserved
loop-i-preserved c = (
  simp length-set c.loop-i.invariant.0,
  one_more _ c.loop-i.inputs _ _ c.loop-i.i _ c.loop-i-test.true (omega arith) c.le64.ensures c.loop-i.invariant.1,
)

pub returns : goal.returns
returns c = all _ c.loop-i.inputs _ _ c.loop-i.i (omega arith) c.loop-i.invariant.0 c.loop-i.invariant.1

pub overflow_mul-i : goal.overflow_mul-i
overflow_mul-i c = omega arith

pub le64-requires : goal.le64-requires
le64-requires c = omega arith

pub offset_bounds-inputs-i : goal.offset_bounds-inputs-i
offset_bounds-inputs-i c = omega arith

pub bounds-inputs-i : goal.bounds-inputs-i
bounds-inputs-i c = omega arith

pub shape_of-inputs : goal.shape_of-inputs
shape_of-inputs c = c.loop-i.invariant.0
