use mathlib.Core.Path.{◌≡◌, refl, ap, ◌∙◌}
use mathlib.Core.List.{List}
use Prim.Native.Nat.{ℕ, ◌+◌}
use native.Mathlib.Nat.{zero-add}
use native.Mathlib.Numerals.{add-one}
use native.Mathlib.Omega.{arith}
use borrow.Author.Tests.{eq-eqb, ne_eqb}
use lib.ListN.{length}
use Rattle.meaning.specs.Meaning.{same}
use Rattle.line.specs.Ascii.{ascii}
use Rattle.line.specs.Line.{joined}
use Rattle.layout.specs.Put.{Put}
use Rattle.layout.specs.Put.Laws.{put-append, put-length, put-over}
use Rattle.typed.specs.Parts.{next_signal}
use Rattle.typed.specs.Typed.{members_to, shown}
use Rattle.typed.specs.Typed.Laws.{listed, listed_next, listed_le, next_le}
use Rattle.typed.proofs.show.Goals as goal

shown-none : (s : ℕ) → s ≡ 0 → shown s ≡ ascii "-"
unfolding shown same
shown-none s e = rw (eq-eqb _ _ e)

shown_some : (s : ℕ) → (s ≡ 0 → ⊥) → shown s ≡ listed (members_to 64 s)
unfolding shown same
shown_some s e = rw (ne_eqb _ _ e)

-- one signal more
put-more : (s n : ℕ) (out₀ out out' : List ℕ) (end next : ℕ)
    → Put out₀ 0 (listed (members_to n s)) out end → Put out end (next_signal end s n) out' next
    → Put out₀ 0 (listed (members_to (n + 1) s)) out' next
put-more s n out₀ out out' end next p q =
    let e : end ≡ length (listed (members_to n s)) = p.place ∙ zero-add _ in
    rw (add-one, listed_next s n) (put-append p (rw (ap (λ (k : ℕ). next_signal k s n) e) at q))

pub returns-then-set-eq0 : goal.returns-then-set-eq0
returns-then-set-eq0 c =
    rw (shown-none c.args.set c.if-set-eq0.true)
    (put-over c.put_byte.ensures (omega arith))

pub loop-n-init : goal.loop-n-init
unfolding members_to joined
loop-n-init c = record { is = refl; place = refl }

pub put_next-end-requires : goal.put_next-end-requires
put_next-end-requires c =
    let set = c.args.set in (
      omega arith,
      omega (
        arith,
        put-length c.loop-n.invariant,
        c.loop-n.invariant.place,
        listed_le set c.loop-n.n (omega arith),
        next_le c.loop-n.end set c.loop-n.n (omega arith),
      ),
    )

pub loop-n-preserved : goal.loop-n-preserved
loop-n-preserved c = put-more c.args.set c.loop-n.n _ _ _ c.loop-n.end _ c.loop-n.invariant
    c.put_next-end.ensures

pub shape_of-out : goal.shape_of-out
shape_of-out c = put-length c.loop-n.invariant

pub returns : goal.returns
returns c =
    let set = c.args.set in
    let e : c.loop-n.n ≡ 64 = omega arith in
    rw (shown_some set c.if-set-eq0.false) (put-over (rw e at c.loop-n.invariant) (omega (arith, listed_le set 64 (omega arith))))
