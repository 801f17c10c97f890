-- Claims on sets, decided by computation. A claim is an equation of two expressions over variables; it follows from
-- other claims if it does at each way for one signal to be in the variables or not, which `valid` tries. `sets` makes
-- the theorem of it.
use Rattle.std.specs.Prelude.{◌≡◌, refl, Bool, true, false, not, ◌&&◌, ◌||◌, List, [], ◌∷◌, map, ℕ, T, get_or}
use Rattle.std.proofs.Common.{sym, ap, ap₂, ◌∙◌}
use Rattle.std.specs.Bool.{beq}
use Rattle.std.proofs.Math.ListN.{get_or-map}
use Rattle.signals.specs.Mask.{◌∪◌, ◌∩◌, ◌∖◌, bit}
use Rattle.signals.specs.Mask.Laws.{bit_union, bit_cut, bit_less, bit-none, ext}

infixl 80 ◌∪ₑ◌
infixl 85 ◌∩ₑ◌
infixl 85 ◌∖ₑ◌
infix 75 ◌≐◌
infix 75 ◌⊑◌
infix 75 ◌⊥ₑ◌
pub data Ex : Type 0 where
  v : ℕ → Ex
  ∅ₑ : Ex
  ◌∪ₑ◌ ◌∩ₑ◌ ◌∖ₑ◌ : Ex → Ex → Ex

pub data Claim : Type 0 where
  ◌≐◌ : Ex → Ex → Claim

-- a is in b; a and b have nothing in common
abbrev pub ◌⊑◌ : Ex → Ex → Claim
a ⊑ b = a ∖ₑ b ≐ ∅ₑ

abbrev pub ◌⊥ₑ◌ : Ex → Ex → Claim
a ⊥ₑ b = a ∩ₑ b ≐ ∅ₑ

-- the variables by letters
abbrev pub A : Ex
A = v 0

abbrev pub B : Ex
B = v 1

abbrev pub C : Ex
C = v 2

abbrev pub D : Ex
D = v 3

abbrev pub E : Ex
E = v 4

abbrev pub F : Ex
F = v 5

abbrev pub G : Ex
G = v 6

abbrev pub H : Ex
H = v 7

-- what an expression and a claim say of the masks ρ
abbrev pub value : List ℕ → Ex → ℕ
value ρ (v i) = get_or ρ i 0
value ρ ∅ₑ = 0
value ρ (a ∪ₑ b) = value ρ a ∪ value ρ b
value ρ (a ∩ₑ b) = value ρ a ∩ value ρ b
value ρ (a ∖ₑ b) = value ρ a ∖ value ρ b

abbrev pub Says : List ℕ → Claim → Type 0
Says ρ (a ≐ b) = value ρ a ≡ value ρ b

abbrev pub Follows : List ℕ → List Claim → Claim → Type 0
Follows ρ [] c = Says ρ c
Follows ρ (h ∷ hs) c = Says ρ h → Follows ρ hs c

-- the same of one signal, which is in the variables or not
abbrev pub holds : List Bool → Ex → Bool
holds σ (v i) = get_or σ i false
holds σ ∅ₑ = false
holds σ (a ∪ₑ b) = holds σ a || holds σ b
holds σ (a ∩ₑ b) = holds σ a && holds σ b
holds σ (a ∖ₑ b) = holds σ a && not (holds σ b)

abbrev pub agrees : List Bool → Claim → Bool
agrees σ (a ≐ b) = beq (holds σ a) (holds σ b)

abbrev pub follows : List Bool → List Claim → Claim → Bool
follows σ [] c = agrees σ c
follows σ (h ∷ hs) c = not (agrees σ h) || follows σ hs c

abbrev pub every : List ℕ → (List Bool → Bool) → Bool
every [] p = p []
every (x ∷ xs) p = every xs (λ σ. p (true ∷ σ)) && every xs (λ σ. p (false ∷ σ))

abbrev pub valid : List ℕ → List Claim → Claim → Bool
valid ρ hs c = every ρ (λ σ. follows σ hs c)

-- ---- it is sound
and_left : (a b : Bool) → T (a && b) → T a
and_left true b t = tt
and_left false b t = t

and_right : (a b : Bool) → T (a && b) → T b
and_right true b t = t
and_right false b t = absurd t

pick : (P : Bool → Type 0) → P true → P false → (b : Bool) → P b
pick P p q true = p
pick P p q false = q

every-at : (f : ℕ → Bool) (ρ : List ℕ) (p : List Bool → Bool) → T (every ρ p) → T (p (map f ρ))
every-at f [] p t = t
every-at f (x ∷ xs) p t =
    pick (λ (b : Bool). T (p (b ∷ map f xs)))
    (every-at f xs (λ σ. p (true ∷ σ)) (and_left (every xs (λ σ. p (true ∷ σ))) (every xs (λ σ. p (false ∷ σ))) t))
    (every-at f xs (λ σ. p (false ∷ σ)) (and_right (every xs (λ σ. p (true ∷ σ))) (every xs (λ σ. p (false ∷ σ))) t))
    (f x)

module _ (ρ : List ℕ) (n : ℕ) where
  abbrev row : List Bool
  row = map (λ (x : ℕ). bit x n) ρ

  bit-value : (e : Ex) → bit (value ρ e) n ≡ holds row e
  bit-value (v i) = sym (get_or-map (λ (x : ℕ). bit x n) ρ i 0) ∙ ap (get_or row i) (bit-none n)
  bit-value ∅ₑ = bit-none n
  bit-value (a ∪ₑ b) = bit_union n (value ρ a) (value ρ b) ∙ ap₂ ◌||◌ (bit-value a) (bit-value b)
  bit-value (a ∩ₑ b) = bit_cut n (value ρ a) (value ρ b) ∙ ap₂ ◌&&◌ (bit-value a) (bit-value b)
  bit-value (a ∖ₑ b) = bit_less n (value ρ a) (value ρ b) ∙ ap₂ (λ (x y : Bool). x && not y) (bit-value a) (bit-value b)

beq_eq : (a b : Bool) → T (beq a b) → a ≡ b
beq_eq true true t = refl
beq_eq true false t = absurd t
beq_eq false true t = absurd t
beq_eq false false t = refl

eq_beq : (a : Bool) → beq a a ≡ true
eq_beq true = refl
eq_beq false = refl

agrees-of : (ρ : List ℕ) (n : ℕ) (h : Claim) → Says ρ h → agrees (row ρ n) h ≡ true
agrees-of ρ n (a ≐ b) e = ap (λ (x : Bool). beq x (holds (row ρ n) b))
    (sym (bit-value ρ n a) ∙ ap (λ (x : ℕ). bit x n) e ∙ bit-value ρ n b)
    ∙ eq_beq (holds (row ρ n) b)

pass : (a b : Bool) → a ≡ true → T (not a || b) → T b
pass a b e t = rw e at t

sound : (ρ : List ℕ) (hs : List Claim) (c : Claim) → ((n : ℕ) → T (follows (row ρ n) hs c)) → Follows ρ hs c
sound ρ [] (a ≐ b) t = ext (value ρ a) (value ρ b) (λ n. bit-value ρ n a ∙ beq_eq _ _ (t n) ∙ sym (bit-value ρ n b))
sound ρ (h ∷ hs) c t =
    λ e. sound ρ hs c (λ n. pass (agrees (row ρ n) h) (follows (row ρ n) hs c) (agrees-of ρ n h e) (t n))

-- the masks that stand for A, B, ..; the claims that are known; the claim; `tt`; a proof of each claim that is known
pub sets : (ρ : List ℕ) (hs : List Claim) (c : Claim) → T (valid ρ hs c) → Follows ρ hs c
sets ρ hs c t = sound ρ hs c (λ n. every-at (λ (x : ℕ). bit x n) ρ (λ σ. follows σ hs c) t)
