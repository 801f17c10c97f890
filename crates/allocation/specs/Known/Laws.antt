-- Whether a slave, as it is read, is one of chart c.
use Rattle.std.specs.Prelude.{◌≡◌, true, false, List, ℕ}
use Rattle.std.proofs.Common.{sym, ◌∙◌}
use Rattle.std.proofs.Math.Path.{ap}
use Rattle.layout.specs.Body.{slave_at}
use Rattle.layout.specs.declared.body.Shape.{Shape}
use Rattle.layout.specs.declared.record.Slave.{Slave}
use Rattle.meaning.specs.Meaning.{same}
use Rattle.meaning.specs.File.{file_at}
use Rattle.meaning.specs.Laws.Bools.{same_refl, same_≢}
use Rattle.meaning.specs.Rewriting.{is_of}

-- r is slave i
module _ (n : Shape) (b : List ℕ) (c i : ℕ) {r : Slave} (e : r ≡ slave_at n b i) where
  pub is_of_lem : r.chart ≡ c → is_of (file_at n b) c i ≡ true
  unfolding file_at
  is_of_lem h = ap (λ (k : ℕ). same k c) (sym (ap (λ (s : Slave). s.chart) e) ∙ h) ∙ same_refl c

  pub is_not : (r.chart ≡ c → ⊥) → is_of (file_at n b) c i ≡ false
  unfolding file_at
  is_not h = same_≢ _ c (λ q. h (ap (λ (s : Slave). s.chart) e ∙ q))
