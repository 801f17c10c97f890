use mathlib.Core.Path.{◌≡◌, refl, ap₂, ◌∙◌}
use mathlib.Core.List.{List}
use Prim.Native.Nat.{ℕ, ◌+◌, ◌<◌}
use native.Mathlib.Omega.{arith}
use borrow.Author.Count.{below_more}
use lib.ListN.{get_or, set, length-set}
use lib.Seq.{get_or-set_same, get_or-set_other}
use Rattle.meaning.specs.File.{File, file_at}
use Rattle.meaning.specs.Rewriting.{before_last, start, new_name}
use Rattle.agreement.specs.Laid.{ren_inside}
use Rattle.growth.specs.Growth.Laws.{nodes_none, nodes_more}
use Rattle.assembly.proofs.names.Goals as goal
use Rattle.assembly.proofs.names.Goals.{After-before_last}
use Rattle.assembly.proofs.names.Invariants.{Named}

-- node j's name, from where those made for it begin
name_is : (F : File) (j first b : ℕ) → first ≡ start F j → b ≡ before_last F j → first + b ≡ new_name F j
unfolding new_name
name_is F j first b e g = ap₂ ◌+◌ e g

named_more : (F : File) (j first b : ℕ) (l : List ℕ) → j < 64 → b ≡ before_last F j → Named F j first l
    → Named F (j + 1) (first + b + 1) (set l j (first + b))
named_more F j first b l m e h =
    record {
      long = simp length-set h.long;
      next = let q : first + b + 1 ≡ first + (before_last F j + 1) = omega arith in q ∙ nodes_more F j h.next;
      names =
          below_more (λ (k : ℕ). get_or (set l j (first + b)) k 0 ≡ new_name F k) j
          (λ k q. get_or-set_other l j k (first + b) 0 (λ z. omega arith) ∙ h.names k q)
          (get_or-set_same l j (first + b) 0 (rw h.long m) ∙ name_is F j first b h.next e);
    }

pub loop-j-init : goal.loop-j-init
loop-j-init c =
    record { long = refl; next = nodes_none _; names = λ k h. absurd (omega arith) }

small : (c : After-before_last) → c.loop-j.first + c.before_last.result < 64
unfolding file_at
small c =
    let a = c.args in
    let F = file_at a.n a.body.now in
    let e =
    name_is F c.loop-j.j _ _ c.loop-j.invariant.next c.before_last.ensures.0 in
    let h = c.requires.1.nodes in
    omega (arith, ren_inside F a.n.nodes c.loop-j.j c.loop-j-test.true)

pub loop-j-preserved : goal.loop-j-preserved
loop-j-preserved c =
    let h = c.requires.0.sized.nodes in
    named_more _ c.loop-j.j _ _ _ (omega arith) c.before_last.ensures.0 c.loop-j.invariant

pub returns : goal.returns
unfolding file_at
returns c = λ j l. c.loop-j.invariant.names j (omega arith)

pub before_last-requires : goal.before_last-requires
before_last-requires c = (c.requires.0, c.loop-j-test.true)

pub overflow_add-name : goal.overflow_add-name
overflow_add-name c = let s = small (goal.at.overflow_add-name c).After-before_last in omega arith

pub overflow_cast-names : goal.overflow_cast-names
overflow_cast-names c = let s = small (goal.at.overflow_cast-names c).After-before_last in omega arith

pub overflow_add-first : goal.overflow_add-first
overflow_add-first c = let s = small (goal.at.overflow_add-first c).After-before_last in omega arith
