-- What is told of a tree is what the reading of a text says of it: `refused_is`; every chart is at least one deep
-- (`depth_some`).
use Rattle.std.specs.Prelude.{◌≡◌, refl, Bool, true, false, ◌||◌, ℕ, ◌<◌}
use Rattle.std.proofs.Common.{sym, ap, ap₂, ◌∙◌, arith}
use Rattle.meaning.specs.Laws.Bools.{or_swap}
use Rattle.notation.specs.Syntax.{Sequential, Single, sequential, decomposed, hidden, Chart, single, composed, Slaves}
use Rattle.notation.specs.Syntax.{first_slave, more_slaves, depth_single, depth}
use Rattle.reading.specs.Names.{members_of, any, set?, optional?, sequential?, sequentials_in, sequentials_of}
use Rattle.reading.specs.Names.{sequentials_of_slaves, single_parts?, parts?, slave_parts?}
use Rattle.reading.specs.Laws.Lists.{any_append}
use Rattle.outline.specs.Tree.{lacking, refused_single?, refused?, refused_slaves?}

-- ── depth ──

single_some : (s : Single) → 0 < depth_single s
unfolding depth_single
single_some (sequential s) = omega arith
single_some (decomposed s ps) = omega arith
single_some (hidden x t y) = omega arith

pub depth_some : (t : Chart) → 0 < depth t
unfolding depth
depth_some (single s) = single_some s
depth_some (composed a x b) = omega arith

-- ── what 52 asks ──

-- tests are made in one order or in another
regroup : (s p x t q : Bool) → ((s || p) || (x || (t || q))) ≡ ((s || t) || (p || (x || q)))
regroup true p x t q = refl
regroup false true x true q = refl
regroup false true x false q = refl
regroup false false true true q = refl
regroup false false true false q = refl
regroup false false false t q = refl

inside : (x s p y : Bool) → (x || ((s || p) || y)) ≡ (s || (x || (p || y)))
inside true true p y = refl
inside true false p y = refl
inside false true p y = refl
inside false false p y = refl

beyond : (m s p : Bool) → (m || (s || p)) ≡ ((m || s) || p)
beyond true s p = refl
beyond false s p = refl

none_more : (a : Bool) → a ≡ ((a || false) || false)
none_more true = refl
none_more false = refl

mutual
  unfolding refused_single? sequentials_in single_parts? any

  single_is : (s : Single) → refused_single? s ≡ (any sequential? (sequentials_in s) || single_parts? s)
  single_is (sequential s) = none_more (sequential? s)
  single_is (decomposed s ps) =
      ap (sequential? s ||◌) (slaves_are s ps)
      ∙ beyond (sequential? s) (any sequential? (sequentials_of_slaves ps))
      (slave_parts? (members_of s.heading.states) ps)
  single_is (hidden x t y) =
      ap (λ b. optional? x || (b || optional? y)) (refused_is t)
      ∙ inside (optional? x) (any sequential? (sequentials_of t)) (parts? t) (optional? y)

  pub refused_is : (t : Chart) → refused? t ≡ (any sequential? (sequentials_of t) || parts? t)
  refused_is (single s) = single_is s
  refused_is (composed a x b) =
      ap₂ (λ p q. p || (set? x || q)) (refused_is a) (refused_is b)
      ∙ regroup (any sequential? (sequentials_of a)) (parts? a) (set? x) (any sequential? (sequentials_of b)) (parts? b)
      ∙ ap (◌|| (parts? a || (set? x || parts? b))) (sym (any_append sequential? (sequentials_of a) (sequentials_of b)))

  slaves_are : (s : Sequential) (ps : Slaves) → refused_slaves? (lacking s) ps
      ≡ (any sequential? (sequentials_of_slaves ps) || slave_parts? (members_of s.heading.states) ps)
  slaves_are s (first_slave q t) =
      ap (lacking s q ||◌) (refused_is t) ∙ or_swap (lacking s q) (any sequential? (sequentials_of t)) (parts? t)
  slaves_are s (more_slaves ps q t) =
      ap₂ (λ a b. a || (lacking s q || b)) (slaves_are s ps) (refused_is t)
      ∙ regroup (any sequential? (sequentials_of_slaves ps)) (slave_parts? (members_of s.heading.states) ps)
      (lacking s q) (any sequential? (sequentials_of t)) (parts? t)
      ∙ ap (◌|| (slave_parts? (members_of s.heading.states) ps || (lacking s q || parts? t)))
      (sym (any_append sequential? (sequentials_of_slaves ps) (sequentials_of t)))

-- ── a mask of states ──

-- two masters that lack the same states
pub slaves-same : (p q : ℕ → Bool) → ((n : ℕ) → p n ≡ q n) → (ps : Slaves) → refused_slaves? p ps ≡ refused_slaves? q ps
unfolding refused_slaves?
slaves-same p q h (first_slave n t) = ap (◌|| refused? t) (h n)
slaves-same p q h (more_slaves ps n t) = ap₂ (λ a b. a || (b || refused? t)) (slaves-same p q h ps) (h n)
