-- The rewriting of a cleared file is refused for nothing new. Of every file of bytes that passes 1 to 11 and has
-- edition 1, in this order: each limit, 40 (`free-left`, `slaves_stay`), 41 (`state_left`), 42 (`list_left`), 44
-- (`nodes_stay`) and 45 (`rewritten_no_longer`); 40 to 44 together (`rewrites_still`); the call (`never_earlier`,
-- `call_still`).
use Rattle.std.specs.Prelude.{◌≡◌, refl, false, ◌≢◌, List, [], ◌∷◌, ◌++◌, ℕ, ◌≤◌, ◌<◌, ltb, length}
use Rattle.std.proofs.Common.{sym, ◌∙◌, ap, ⊎_elim, append-nil, append_assoc, arith, ltb-false, le-ltb, lit<}
use Rattle.layout.specs.Le.{AllBytes}
use Rattle.meaning.specs.Numbers.{first_edition, stay_edition, short_out}
use Rattle.meaning.specs.Meaning.{same}
use Rattle.meaning.specs.File.{File, trailer, file_of}
use Rattle.meaning.specs.Check.{Test, first_of, file_tests, refusal_of}
use Rattle.meaning.specs.Check.Laws.{eq_or-not, first_of-next, call-passed, passed}
use Rattle.meaning.specs.Check.Nodes.{treed}
use Rattle.meaning.specs.Laws.Bools.{same_≢}
use Rattle.meaning.specs.Laws.Trees.{Ordered}
use Rattle.meaning.specs.Rewriting.{free, rewrite, leaving_in, rewrite_tests, rewrite_bytes, stay_test, rewrite_refusal}
use Rattle.agreement.specs.Calls.{allowed}
use Rattle.agreement.specs.Recovered.{Reads}
use Rattle.clearing.specs.Clearing.{clear, clear_bytes}
use Rattle.clearing.specs.InOrder.{InOrder, reads}
use Rattle.clearing.proofs.New.{in_order}
use Rattle.clearing.proofs.Limits.{free_more, leaving_fewer, list_shorter, nodes_same, written_shorter}
use Rattle.clearing.proofs.Limits.{later}
use Rattle.clearing.proofs.Calls.{has_room, same_check, new_edition}

-- the test of 45
abbrev room_test : List ℕ → ℕ → Test
room_test f room = record { number = short_out; applies = ltb room (length (rewrite_bytes f)) }

behind_check : (f : List ℕ) → refusal_of f ≡ 0 → (trailer f).edition ≡ first_edition → (room : ℕ)
    → rewrite_refusal f room ≡ first_of (rewrite_tests (file_of f) ++ (room_test f room ∷ []))
unfolding rewrite_refusal
behind_check f e one room =
    ap first_of (append_assoc (file_tests f) (stay_test f ∷ rewrite_tests (file_of f)) (room_test f room ∷ []))
    ∙ call-passed f _ e
    ∙ first_of-next (stay_test f) _
    (ap (λ n. same n stay_edition) one ∙ same_≢ first_edition stay_edition (λ z. omega arith))

module _ (f : List ℕ) (ab : AllBytes f) (e : refusal_of f ≡ 0) (one : (trailer f).edition ≡ first_edition) where
  abbrev f' : List ℕ
  f' = clear_bytes f

  abbrev old : File
  old = file_of f

  abbrev new : File
  new = file_of f'

  order : InOrder (clear old)
  order = in_order f ab (passed f e) one

  rd : Reads (clear old) new
  unfolding clear_bytes
  rd = reads (clear old) order

  od : Ordered (clear old)
  od = (treed (clear old) order.eight order.nine order.ten).ordered

  -- 40: no fewer signals are free, for as many slaves
  pub free-left : length (free old) ≤ length (free new)
  free-left = free_more old new rd od order.some_node

  pub slaves_stay : new.slaves ≡ old.slaves
  slaves_stay = rd.slaves

  -- 41: from no state do more transitions lead
  pub state_left : (c s : ℕ) → c < old.charts
      → leaving_in ((rewrite new).chart c).transitions s ≤ leaving_in ((rewrite old).chart c).transitions s
  state_left = leaving_fewer old new rd od order.some_node

  -- 42: no list is longer
  pub list_left : (c : ℕ) → c < old.charts
      → length ((rewrite new).chart c).transitions ≤ length ((rewrite old).chart c).transitions
  list_left = list_shorter old new rd od order.some_node

  -- 44: there are as many nodes, so it applies after clearing exactly if it applied before
  pub nodes_stay : (rewrite new).nodes ≡ (rewrite old).nodes
  nodes_stay = nodes_same old new rd od order.some_node

  -- 45: what had room has room
  pub rewritten_no_longer : length (rewrite_bytes f') ≤ length (rewrite_bytes f)
  unfolding rewrite_bytes
  rewritten_no_longer = written_shorter old new rd od order.some_node

  -- if none of 40 to 44 applied to the file, none applies to the cleared one
  pub rewrites_still : first_of (rewrite_tests old) ≡ 0 → first_of (rewrite_tests new) ≡ 0
  rewrites_still h = ⊎_elim (λ z. z)
      (λ z. absurd (let p = (later old new rd od order.some_node [] [] tt
      (λ y. z (ap first_of (sym (append-nil (rewrite_tests new))) ∙ y))).0 in
      let q = ap first_of (append-nil (rewrite_tests old)) ∙ h in omega arith))
      (eq_or-not (first_of (rewrite_tests new)) 0)

  -- where the rewriting of the cleared file is refused, that of the file was, with the same number or a lower one
  pub never_earlier : (room : ℕ) → rewrite_refusal f' room ≢ 0
      → (rewrite_refusal f room ≢ 0) × (rewrite_refusal f room ≤ rewrite_refusal f' room)
  never_earlier room n =
      let ok = has_room f ab e one in
      let a = behind_check f e one room in
      let b = behind_check f' (same_check f ab (length f) ok) (new_edition f ab (length f) ok) room in
      let p = later old new rd od order.some_node (room_test f room ∷ []) (room_test f' room ∷ [])
      (refl, lit< tt, fits, tt) (λ z. n (b ∙ z)) in
      let l = p.0 in let m = p.1 in (λ z. omega arith, omega arith)
    where
      fits : ltb room (length (rewrite_bytes f)) ≡ false → ltb room (length (rewrite_bytes f')) ≡ false
      fits h = le-ltb room (length (rewrite_bytes f'))
          (let a = ltb-false room (length (rewrite_bytes f)) h in let b = rewritten_no_longer in omega arith)

-- so a file whose rewriting is not refused can be cleared and then rewritten, into a buffer of the same length
pub call_still : (f : List ℕ) → AllBytes f → (room : ℕ) → rewrite_refusal f room ≡ 0
    → rewrite_refusal (clear_bytes f) room ≡ 0
call_still f ab room h =
    let a = allowed f room h in
    ⊎_elim (λ z. z) (λ z. absurd ((never_earlier f ab a.checked a.one room z).0 h))
    (eq_or-not (rewrite_refusal (clear_bytes f) room) 0)
