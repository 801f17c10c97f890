-- `lay` meets its contract: heads, transitions, slaves, nodes and the trailer, one behind another, are all bytes of the
-- cleared file.
use mathlib.Core.Path.{◌≡◌, sym, ap, ◌∙◌}
use mathlib.Core.List.{List, ◌++◌, append_assoc}
use Prim.Native.Nat.{ℕ, ◌+◌, ◌≤◌}
use native.Mathlib.Omega.{arith}
use lib.ListN.{length}
use lib.Seq.{sets, length-sets}
use Rattle.layout.specs.Record.{head_bytes, slave_bytes, node_bytes, trailer_bytes}
use Rattle.layout.specs.Record.Laws.{length-trailer}
use Rattle.layout.specs.Body.{slave_at, node_at}
use Rattle.layout.specs.declared.body.Shape.{Shape}
use Rattle.layout.specs.Put.{Room, Put}
use Rattle.layout.specs.Put.Laws.{put-append, put-over, put-length, room_first, room_next}
use Rattle.meaning.specs.Calls.{laid_over}
use Rattle.meaning.specs.File.{File, file_at}
use Rattle.meaning.specs.Rewriting.{head_for, in_turn, transitions_bytes, shape_in, body_bytes, encode}
use Rattle.laying.specs.Trailer.{trailer_with}
use Rattle.laying.specs.Sequence.{put_one, put_is, room_last}
use Rattle.clearing.specs.Clearing.{cleared_chart, clear}
use Rattle.clearing.proofs.LeftLaws.{shape_small}
use Rattle.clearing.proofs.lay.Goals as goal

-- m is the cleared file's shape
module _ (n : Shape) (b : List ℕ) (m : Shape) (em : m ≡ shape_in (clear (file_at n b))) where
  abbrev F : File
  F = file_at n b

  -- the five parts
  abbrev hs : List ℕ
  hs = in_turn n.charts (λ c. head_bytes (head_for (cleared_chart (F.chart c))))

  abbrev ts : List ℕ
  ts = in_turn n.charts (λ c. transitions_bytes (cleared_chart (F.chart c)).transitions)

  abbrev ss : List ℕ
  ss = in_turn n.slaves (λ i. slave_bytes (slave_at n b i))

  abbrev ns : List ℕ
  ns = in_turn n.nodes (λ j. node_bytes (node_at n b j))

  abbrev end : List ℕ
  end = trailer_bytes (trailer_with m 1)

  all_is : encode (clear F) ≡ hs ++ (ts ++ (ss ++ (ns ++ end)))
  unfolding encode body_bytes file_at shape_in trailer_with
  all_is = simp append_assoc
      (ap (λ (s : Shape). hs ++ (ts ++ (ss ++ (ns ++ trailer_bytes (trailer_with s 1))))) (sym em))

  module _ (out : List ℕ) (r : length (encode (clear F)) ≤ length out) where
    room₀ : Room out 0 (hs ++ (ts ++ (ss ++ (ns ++ end))))
    room₀ = let e = ap length all_is in omega arith

    for_heads : Room out 0 hs
    for_heads = room_first out 0 hs (ts ++ (ss ++ (ns ++ end))) room₀

    module _ {m₁ : List ℕ} {p₁ : ℕ} (h₁ : Put out 0 hs m₁ p₁) where
      room₁ : Room m₁ p₁ (ts ++ (ss ++ (ns ++ end)))
      room₁ = room_next _ _ _ (ts ++ (ss ++ (ns ++ end))) room₀ h₁

      for_transitions : Room m₁ p₁ ts
      for_transitions = room_first m₁ p₁ ts (ss ++ (ns ++ end)) room₁

      module _ {m₂ : List ℕ} {p₂ : ℕ} (h₂ : Put m₁ p₁ ts m₂ p₂) where
        room₂ : Room m₂ p₂ (ss ++ (ns ++ end))
        room₂ = room_next _ _ _ (ss ++ (ns ++ end)) room₁ h₂

        for_slaves : Room m₂ p₂ ss
        for_slaves = room_first m₂ p₂ ss (ns ++ end) room₂

        module _ {m₃ : List ℕ} {p₃ : ℕ} (h₃ : Put m₂ p₂ ss m₃ p₃) where
          room₃ : Room m₃ p₃ (ns ++ end)
          room₃ = room_next _ _ _ (ns ++ end) room₂ h₃

          for_nodes : Room m₃ p₃ ns
          for_nodes = room_first m₃ p₃ ns end room₃

          module _ {m₄ : List ℕ} {p₄ : ℕ} (h₄ : Put m₃ p₃ ns m₄ p₄) where
            room₄ : p₄ + 12 ≤ length m₄
            room₄ = room_last end 12 (length-trailer (trailer_with m 1)) h₄ room₃

            laid : (m₅ : List ℕ) → m₅ ≡ sets m₄ p₄ end → m₅ ≡ laid_over (encode (clear F)) out
            laid m₅ h₅ =
                let last = put_one end 12 p₄ m₄ m₅ (length-trailer (trailer_with m 1)) h₅ in
                (put-over (put_is (sym all_is) (put-append h₁ (put-append h₂ (put-append h₃ (put-append h₄ last))))) r).1

            same : (m₅ : List ℕ) → m₅ ≡ sets m₄ p₄ end → length m₅ ≡ length out
            same m₅ h₅ =
                ap length h₅ ∙ length-sets m₄ p₄ end ∙ put-length h₄ ∙ put-length h₃ ∙ put-length h₂ ∙ put-length h₁

pub heads-behind_heads-requires : goal.heads-behind_heads-requires
unfolding file_at
heads-behind_heads-requires c =
    let a = c.args in
    (c.requires.0, c.requires.1, for_heads a.n a.body.now a.m c.requires.2 a.out.now c.requires.3)

pub transitions-behind_transitions-requires : goal.transitions-behind_transitions-requires
unfolding file_at
transitions-behind_transitions-requires c =
    let a = c.args in (
      c.requires.0,
      c.requires.1,
      for_transitions a.n a.body.now a.m c.requires.2 a.out.now c.requires.3 c.heads-behind_heads.ensures,
    )

pub slaves-behind_slaves-requires : goal.slaves-behind_slaves-requires
unfolding file_at
slaves-behind_slaves-requires c =
    let a = c.args in (
      c.requires.0,
      for_slaves a.n a.body.now a.m c.requires.2 a.out.now c.requires.3 c.heads-behind_heads.ensures
          c.transitions-behind_transitions.ensures,
    )

pub nodes-end-requires : goal.nodes-end-requires
unfolding file_at
nodes-end-requires c =
    let a = c.args in (
      c.requires.0,
      for_nodes a.n a.body.now a.m c.requires.2 a.out.now c.requires.3 c.heads-behind_heads.ensures
          c.transitions-behind_transitions.ensures c.slaves-behind_slaves.ensures,
    )

pub trailer-requires : goal.trailer-requires
unfolding file_at
trailer-requires c =
    let a = c.args in (
      shape_small a.n a.body.now a.m c.requires.2 c.requires.0 c.requires.1,
      room₄ a.n a.body.now a.m c.requires.2 a.out.now c.requires.3 c.heads-behind_heads.ensures
          c.transitions-behind_transitions.ensures
          c.slaves-behind_slaves.ensures c.nodes-end.ensures,
    )

pub returns : goal.returns
unfolding file_at
returns c =
    let a = c.args in
    laid a.n a.body.now a.m c.requires.2 a.out.now c.requires.3 c.heads-behind_heads.ensures
    c.transitions-behind_transitions.ensures
    c.slaves-behind_slaves.ensures c.nodes-end.ensures _ c.trailer.ensures

pub shape_of-out : goal.shape_of-out
unfolding file_at
shape_of-out c =
    let a = c.args in
    same a.n a.body.now a.m c.requires.2 a.out.now c.requires.3 c.heads-behind_heads.ensures
    c.transitions-behind_transitions.ensures
    c.slaves-behind_slaves.ensures c.nodes-end.ensures _ c.trailer.ensures
