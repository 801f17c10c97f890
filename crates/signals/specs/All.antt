-- What `sets` gives at once: the ways in which code writes a removal, and the set of all signals.
use Rattle.std.specs.Prelude.{◌≡◌, [], ◌∷◌, ℕ, ◌+◌, ◌-◌, ◌^◌, ◌<◌, true}
use Rattle.std.proofs.Common.{sym, ap, ◌∙◌, mod-eq_of_lt, arith}
use Rattle.std.proofs.lemmas.Nat.{or_disjoint, and_mask, and_comm}
use Rattle.std.proofs.Math.Pow.{pow-lt}
use Rattle.signals.specs.Mask.{◌∩◌, ◌∖◌, bit, single}
use Rattle.signals.specs.Mask.Laws.{within-single}
use Rattle.signals.specs.Decide.{sets, A, B, C, ∅ₑ, ◌∪ₑ◌, ◌∩ₑ◌, ◌∖ₑ◌, ◌≐◌, ◌⊑◌}

pub less_sum : (a b : ℕ) → a ∖ b + a ∩ b ≡ a
less_sum a b =
    sym (or_disjoint (a ∖ b) (a ∩ b) (sets (a ∷ b ∷ []) [] ((A ∖ₑ B) ∩ₑ (A ∩ₑ B) ≐ ∅ₑ) tt))
    ∙ sets (a ∷ b ∷ []) [] (A ∖ₑ B ∪ₑ A ∩ₑ B ≐ A) tt

-- `a - (a & b)`
pub less_sub : (a b : ℕ) → a - a ∩ b ≡ a ∖ b
less_sub a b = omega (arith, less_sum a b)

-- all k signals
pub cut_all : (k b : ℕ) → b < 2 ^ k → b ∩ (2 ^ k - 1) ≡ b
cut_all k b h = and_mask b k ∙ mod-eq_of_lt h

-- `!b`
pub all_less : (k b : ℕ) → b < 2 ^ k → (2 ^ k - 1) - b ≡ (2 ^ k - 1) ∖ b
all_less k b h = ap (λ (x : ℕ). (2 ^ k - 1) - x) (sym (and_comm (2 ^ k - 1) b ∙ cut_all k b h)) ∙ less_sub (2 ^ k - 1) b

-- `a & !b`
pub cut-not : (k a b : ℕ) → a < 2 ^ k → b < 2 ^ k → a ∩ ((2 ^ k - 1) - b) ≡ a ∖ b
cut-not k a b ha hb =
    ap (λ (x : ℕ). a ∩ x) (all_less k b hb)
    ∙ sets (a ∷ b ∷ (2 ^ k - 1) ∷ []) (A ∩ₑ C ≐ A ∷ []) (A ∩ₑ (C ∖ₑ B) ≐ A ∖ₑ B) tt (cut_all k a ha)

pub single_lt : (k n : ℕ) → n < k → single n < 2 ^ k
unfolding single
single_lt k n h = pow-lt h

pub bit-all : (k n : ℕ) → n < k → bit (2 ^ k - 1) n ≡ true
bit-all k n h =
    within-single (2 ^ k - 1) n
    (sets (single n ∷ (2 ^ k - 1) ∷ []) (A ∩ₑ B ≐ A ∷ []) (A ⊑ B) tt (cut_all k (single n) (single_lt k n h)))
