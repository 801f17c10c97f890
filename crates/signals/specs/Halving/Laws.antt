-- Passing over signals keeps what is known of the rest (`halved`, `kept`), and the search by halves ends at the lowest
-- signal (`led`).
use Rattle.std.specs.Prelude.{◌≡◌, refl, false, ◌&&◌, ℕ, zero, suc, ◌+◌, ◌-◌, ◌*◌, ◌/◌, ◌%◌, ◌^◌, ◌<◌, eqb}
use Rattle.std.proofs.Common.{sym, ap, ◌∙◌, suc-le-suc, zero-le, add-zero, div-add-mod', mod-lt, mul_assoc}
use Rattle.std.proofs.Common.{mod-eq_of_lt, div-one, arith, pow-add, eq-eqb}
use Rattle.std.proofs.Math.Bool.{and-true}
use Rattle.std.proofs.Math.Nat.{div-div-eq-div-mul, mul-mod_left}
use Rattle.std.proofs.Math.Decide.{dec_lt}
use Rattle.std.proofs.lemmas.Nat.{and_mask}
use Rattle.signals.specs.Mask.{bit}
use Rattle.signals.specs.Mask.Laws.{bit_cut, bit-none}
use Rattle.signals.specs.All.{bit-all}
use Rattle.signals.specs.Guard.{lowest}
use Rattle.signals.specs.Guard.Laws.{lowest_is}
use Rattle.signals.specs.Halving.{Leads}
use Rattle.signals.specs.declared.guard.Rest.{Rest}

-- signal i of what is left behind p signals is signal p + i
bit_past : (s p i : ℕ) → bit (s / 2 ^ p) i ≡ bit s (p + i)
unfolding bit
bit_past s p i = ap (λ x. eqb (x % 2) 1) (div-div-eq-div-mul s (2 ^ p) (2 ^ i) ∙ ap (λ x. s / x) (sym (pow-add 2 p i)))

-- none of the first k signals is there
none_below : (s k i : ℕ) → s % 2 ^ k ≡ 0 → i < k → bit s i ≡ false
none_below s k i h l =
    sym (bit_cut i s (2 ^ k - 1) ∙ ap (λ b. bit s i && b) (bit-all k i l) ∙ and-true (bit s i))
    ∙ ap (λ x. bit x i) (and_mask s k ∙ h) ∙ bit-none i

-- none of the first k, and none of the k behind them
none-of-both : (s k : ℕ) → s % 2 ^ k ≡ 0 → s / 2 ^ k % 2 ^ k ≡ 0 → s % 2 ^ (k + k) ≡ 0
none-of-both s k h e =
    let q : s / 2 ^ k ≡ s / 2 ^ k / 2 ^ k * 2 ^ k =
    sym (div-add-mod' (s / 2 ^ k) (2 ^ k)) ∙ ap (λ x. s / 2 ^ k / 2 ^ k * 2 ^ k + x) e ∙ add-zero _ in
    let p : s ≡ s / 2 ^ k * 2 ^ k = sym (div-add-mod' s (2 ^ k)) ∙ ap (λ x. s / 2 ^ k * 2 ^ k + x) h ∙ add-zero _ in
    ap (λ x. x % 2 ^ (k + k))
    (p ∙ ap (λ x. x * 2 ^ k) q ∙ mul_assoc (s / 2 ^ k / 2 ^ k) (2 ^ k) (2 ^ k)
    ∙ ap (λ x. s / 2 ^ k / 2 ^ k * x) (sym (pow-add 2 k k)))
    ∙ mul-mod_left (s / 2 ^ k / 2 ^ k) (2 ^ (k + k))

-- k signals are passed over, if none of them is in the set; else one of them is
pub halved : (s k : ℕ) (r : Rest) → r.left % 2 ^ k ≡ 0 → Leads s (k + k) r
    → Leads s k (record { left = r.left / 2 ^ k; passed = r.passed + k })
halved s k r h (e, (some, none)) = (
  ap (λ x. x / 2 ^ k) e ∙ div-div-eq-div-mul s (2 ^ r.passed) (2 ^ k)
      ∙ ap (λ x. s / x) (sym (pow-add 2 r.passed k)),
  ((λ z. some (none-of-both r.left k h z)), (λ j l. go j l (dec_lt j r.passed))),
)
  where
    go : (j : ℕ) → j < r.passed + k → Dec (j < r.passed) → bit s j ≡ false
    go j l (yes d) = none j d
    go j l (no d) =
        let z : r.passed + (j - r.passed) ≡ j = omega arith in
        ap (bit s) (sym z) ∙ sym (bit_past s r.passed (j - r.passed)) ∙ ap (λ x. bit x (j - r.passed)) (sym e)
        ∙ none_below r.left k (j - r.passed) h (omega arith)

pub kept : (s k : ℕ) (r : Rest) → (r.left % 2 ^ k ≡ 0 → ⊥) → Leads s (k + k) r → Leads s k r
kept s k r h (e, (some, none)) = (e, (h, none))

-- at first nothing is passed
pub all_left : (s : ℕ) → s < 2 ^ 64 → 0 < s → Leads s 64 (record { left = s; passed = 0 })
all_left s l h =
    (sym (div-one s), ((λ z. let e = sym (mod-eq_of_lt l) ∙ z in omega arith), (λ j d. absurd (omega arith))))

-- at last one signal is left
one_left : (x : ℕ) → (x % 2 ≡ 0 → ⊥) → x % 2 ≡ 1
one_left x h = let l = mod-lt x (suc-le-suc (zero-le {n = 1})) in go (x % 2) h l
  where
    go : (y : ℕ) → (y ≡ 0 → ⊥) → y < 2 → y ≡ 1
    go zero h l = absurd (h refl)
    go (suc zero) h l = refl
    go (suc (suc y)) h l = absurd (omega arith)

pub led : (s : ℕ) (r : Rest) → r.passed < 64 → Leads s 1 r → r.passed ≡ lowest s
unfolding bit
led s r l (e, (some, none)) =
    sym (lowest_is r.passed s l
    (ap (λ x. eqb (x % 2) 1) (sym e) ∙ eq-eqb (r.left % 2) 1 (one_left r.left some)) none)
