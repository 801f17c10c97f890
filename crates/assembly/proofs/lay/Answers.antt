-- `lay` meets its contract: heads, transitions, nodes and the trailer, one behind another, are all bytes of the
-- rewritten file.
use mathlib.Core.Path.{◌≡◌, sym, ap, ap₂, ◌∙◌}
use mathlib.Core.List.{List, ◌++◌}
use Prim.Native.Nat.{ℕ, ◌+◌, ◌≤◌}
use native.Mathlib.Omega.{arith}
use lib.ListN.{length}
use lib.Seq.{sets, length-sets}
use Rattle.layout.specs.Record.{head_bytes, trailer_bytes}
use Rattle.layout.specs.Record.Laws.{length-trailer}
use Rattle.layout.specs.declared.body.Shape.{Shape}
use Rattle.meaning.specs.Numbers.{first_edition}
use Rattle.meaning.specs.Calls.{laid_over}
use Rattle.meaning.specs.File.{File, file_at}
use Rattle.meaning.specs.Rewriting.{rewritten_chart, made_for, rewrite, in_turn, head_for, transitions_bytes, shape_in}
use Rattle.meaning.specs.Rewriting.{encode}
use Rattle.laying.specs.Trailer.{Small, trailer_with}
use Rattle.layout.specs.Put.{Room, Put}
use Rattle.layout.specs.Put.Laws.{put-append, put-over, put-length, room_first, room_next}
use Rattle.laying.specs.Sequence.{put_one, put_is, room_last}
use Rattle.allocation.specs.Known.{Checked}
use Rattle.assembly.specs.Known.{Fits}
use Rattle.assembly.specs.Records.{nodes_bytes}
use Rattle.assembly.specs.Records.Laws.{encode_is, shape_small}
use Rattle.assembly.proofs.lay.Goals as goal

-- the four parts
abbrev hs : File → List ℕ
hs F = in_turn F.charts (λ c. head_bytes (head_for (rewritten_chart F c)))

abbrev ts : File → List ℕ
ts F = in_turn F.charts (λ c. transitions_bytes (rewritten_chart F c).transitions)

abbrev ns : File → List ℕ
ns F = in_turn F.nodes (λ j. nodes_bytes (made_for F j))

abbrev end : Shape → ℕ → List ℕ
end m edition = trailer_bytes (trailer_with m edition)

-- m is the rewritten file's shape
module _ (n : Shape) (b : List ℕ) (m : Shape) (edition : ℕ) (em : m ≡ shape_in (rewrite (file_at n b)))
    (ee : edition ≡ first_edition) where
  abbrev F : File
  F = file_at n b

  all_is : encode (rewrite F) ≡ hs F ++ (ts F ++ (ns F ++ end m edition))
  all_is = encode_is F ∙ ap (λ (l : List ℕ). hs F ++ (ts F ++ (ns F ++ l))) (sym (ap₂ end em ee))

  small : Checked n b → Fits F → Small m
  unfolding file_at
  small w f = shape_small F f w.sized.charts m em

  module _ (out : List ℕ) (r : length (encode (rewrite F)) ≤ length out) where
    room_all : Room out 0 (hs F ++ (ts F ++ (ns F ++ end m edition)))
    room_all = let e = ap length all_is in omega arith

    module _ (m₁ : List ℕ) (p₁ : ℕ) (h₁ : Put out 0 (hs F) m₁ p₁) where
      room₁ : Room m₁ p₁ (ts F ++ (ns F ++ end m edition))
      room₁ = room_next _ _ _ (ts F ++ (ns F ++ end m edition)) room_all h₁

      module _ (m₂ : List ℕ) (p₂ : ℕ) (h₂ : Put m₁ p₁ (ts F) m₂ p₂) where
        room₂ : Room m₂ p₂ (ns F ++ end m edition)
        room₂ = room_next _ _ _ (ns F ++ end m edition) room₁ h₂

        module _ (m₃ : List ℕ) (p₃ : ℕ) (h₃ : Put m₂ p₂ (ns F) m₃ p₃) where
          room₃ : p₃ + 12 ≤ length m₃
          room₃ = room_last (end m edition) 12 (length-trailer (trailer_with m edition)) h₃ room₂

          laid : (m₄ : List ℕ) → m₄ ≡ sets m₃ p₃ (end m edition) → m₄ ≡ laid_over (encode (rewrite F)) out
          laid m₄ h₄ =
              (put-over (put_is (sym all_is) (put-append h₁
              (put-append h₂
              (put-append h₃ (put_one (end m edition) 12 p₃ m₃ m₄ (length-trailer (trailer_with m edition)) h₄))))) r).1

          same : (m₄ : List ℕ) → m₄ ≡ sets m₃ p₃ (end m edition) → length m₄ ≡ length out
          same m₄ h₄ = ap length h₄ ∙ length-sets m₃ p₃ (end m edition) ∙ put-length h₃ ∙ put-length h₂ ∙ put-length h₁

pub heads-behind_heads-requires : goal.heads-behind_heads-requires
unfolding file_at
heads-behind_heads-requires c =
    let p = c.requires in
    let a = c.args in
    let F = file_at a.n a.body.now in (
      p.0,
      p.2,
      p.3,
      room_first a.out.now 0 (hs F) (ts F ++ (ns F ++ end a.m a.edition))
          (room_all a.n a.body.now a.m a.edition p.4 p.5 a.out.now p.6),
    )

pub transitions-behind_transitions-requires : goal.transitions-behind_transitions-requires
unfolding file_at
transitions-behind_transitions-requires c =
    let p = c.requires in
    let a = c.args in
    let F = file_at a.n a.body.now in (
      p.0,
      p.1,
      p.2,
      room_first c.heads-behind_heads.new.out _ (ts F) (ns F ++ end a.m a.edition)
          (room₁ a.n a.body.now a.m a.edition p.4 p.5 a.out.now p.6
          c.heads-behind_heads.new.out _
          c.heads-behind_heads.ensures),
    )

pub nodes-end-requires : goal.nodes-end-requires
unfolding file_at
nodes-end-requires c =
    let p = c.requires in
    let a = c.args in
    let F = file_at a.n a.body.now in (
      p.0,
      p.1,
      c.names-names.ensures,
      p.3,
      room_first c.transitions-behind_transitions.new.out _ (ns F)
          (end a.m a.edition)
          (room₂ a.n a.body.now a.m a.edition p.4 p.5 a.out.now p.6
          c.heads-behind_heads.new.out _
          c.heads-behind_heads.ensures
          c.transitions-behind_transitions.new.out _
          c.transitions-behind_transitions.ensures),
    )

pub trailer-requires : goal.trailer-requires
unfolding file_at
trailer-requires c =
    let p = c.requires in
    let a = c.args in (
      small a.n a.body.now a.m a.edition p.4 p.5 p.0 p.3,
      room₃ a.n a.body.now a.m a.edition p.4 p.5 a.out.now p.6
          c.heads-behind_heads.new.out _
          c.heads-behind_heads.ensures
          c.transitions-behind_transitions.new.out _
          c.transitions-behind_transitions.ensures
          c.nodes-end.new.out _ c.nodes-end.ensures,
    )

pub returns : goal.returns
unfolding file_at
returns c =
    let p = c.requires in
    let a = c.args in
    laid a.n a.body.now a.m a.edition p.4 p.5 a.out.now p.6 c.heads-behind_heads.new.out _
    c.heads-behind_heads.ensures
    c.transitions-behind_transitions.new.out _
    c.transitions-behind_transitions.ensures
    c.nodes-end.new.out _
    c.nodes-end.ensures _ c.trailer.ensures

pub shape_of-out : goal.shape_of-out
unfolding file_at
shape_of-out c =
    let p = c.requires in
    let a = c.args in
    same a.n a.body.now a.m a.edition p.4 p.5 a.out.now p.6 c.heads-behind_heads.new.out _
    c.heads-behind_heads.ensures
    c.transitions-behind_transitions.new.out _
    c.transitions-behind_transitions.ensures
    c.nodes-end.new.out _
    c.nodes-end.ensures c.trailer.new.out
    c.trailer.ensures

pub names-names-requires : goal.names-names-requires
names-names-requires c = (c.requires.0, c.requires.3)
