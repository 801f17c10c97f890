-- Laws of one byte's step, for the code.
use Rattle.std.specs.Prelude.{◌≡◌, Bool, ℕ, ◌+◌, ◌*◌, ◌/◌, ◌%◌, ◌≤◌, ◌<◌, eqb, length, take, drop, get_or}
use Rattle.std.proofs.Math.Path.{refl, ap}
use Rattle.std.proofs.Common.{sym, ◌∙◌, add-one, drop_of_length-le, drop-cons, take_all}
use Rattle.std.proofs.Math.Bool.{true, false, cond}
use Rattle.std.proofs.Math.Option.{none, some}
use mathlib.Core.List.{List, [], ◌∷◌}
use native.Mathlib.Omega.{arith}
use borrow.Author.Tests.{eq-eqb, ne_eqb}
use Rattle.notation.specs.Grammar.{blank}
use Rattle.scan.specs.Look.{look, rev}
use Rattle.scan.specs.Laws.Back.{rev-take}
use Rattle.scan.specs.Table.{table, lookup, refine}
use Rattle.scan.specs.Scan.{nowhere, pack, token_after, landed, advance_between, advance, accepts}
use Rattle.scan.specs.Scan.{advanced, scan_from}

pub pack_is : (m x : ℕ) → m * 8 + x ≡ pack m x
pack_is m x = unfold pack in refl

pub pack_zero : (m : ℕ) → m * 8 ≡ pack m 0
pack_zero m = unfold pack in (let z : m * 8 ≡ m * 8 + 0 = omega arith in z)

pub token_after-le : (b : ℕ) → token_after b ≤ 4
token_after-le b = unfold token_after in go (eqb b 68) (eqb b 98) (eqb b 99) (eqb b 113) (eqb b 115)
  where
    go : (p q r s t : Bool) → cond p 1 (cond q 3 (cond r 4 (cond s 4 (cond t 4 0)))) ≤ 4
    go true q r s t = omega arith
    go false true r s t = omega arith
    go false false true s t = omega arith
    go false false false true t = omega arith
    go false false false false true = omega arith
    go false false false false false = omega arith

module _ (m b a t : ℕ) (n : blank b ≡ false) (e : t ≡ lookup table (refine m a) b) where
  pub gap_wrong : t ≡ 255 → advance_between m b a ≡ nowhere
  unfolding advance_between landed
  gap_wrong h = rw (n, ← e, eq-eqb t 255 h)

  pub gap_lands : (t ≡ 255 → ⊥) → advance_between m b a ≡ t * 8 + token_after b
  unfolding advance_between landed
  gap_lands h = rw (n, ← e, ne_eqb t 255 h) (sym (pack_is t (token_after b)))

module _ (w : List ℕ) (i m x : ℕ) where
  -- the byte at i
  scan_byte : i < length w → scan_from (drop i w) (rev (take i w) []) i m x
      ≡ advanced (advance m x (get_or w i 0) (look (rev (take i w) []) 0 0 false)) i
      (scan_from (drop (i + 1) w) (rev (take (i + 1) w) []) (i + 1))
  unfolding scan_from
  scan_byte l = ap (λ v. scan_from v (rev (take i w) []) i m x) (drop-cons w i 0 l)
      ∙ ap (λ k. advanced (advance m x (get_or w i 0) (look (rev (take i w) []) 0 0 false)) i
      (scan_from (drop k w) (get_or w i 0 ∷ rev (take i w) []) k)) (sym (add-one i))
      ∙ ap (λ v. advanced (advance m x (get_or w i 0) (look (rev (take i w) []) 0 0 false)) i
      (scan_from (drop (i + 1) w) v (i + 1))) (sym (rev-take w i l))

  module _ (l : i < length w) (h : ℕ) (e : h ≡ advance m x (get_or w i 0) (look (rev (take i w) []) 0 0 false)) where
    pub scan_stops : h ≡ nowhere → scan_from (drop i w) (rev (take i w) []) i m x ≡ some i
    unfolding advanced
    scan_stops z = scan_byte l ∙ rw (← e, eq-eqb h nowhere z)

    pub scan-goes : (h ≡ nowhere → ⊥)
        → scan_from (drop i w) (rev (take i w) []) i m x ≡ scan_from (drop (i + 1) w) (rev (take (i + 1) w) []) (i + 1)
        (h / 8) (h % 8)
    unfolding advanced
    scan-goes z = scan_byte l ∙ rw (← e, ne_eqb h nowhere z)

  pub scan_ends : length w ≤ i
      → scan_from (drop i w) (rev (take i w) []) i m x ≡ cond (accepts m x (look (rev w []) 0 0 false)) none (some i)
  unfolding scan_from
  scan_ends l = ap (λ v. scan_from v (rev (take i w) []) i m x) (drop_of_length-le w {i = i} l)
      ∙ ap (λ v. scan_from [] (rev v []) i m x) (take_all i w l)
