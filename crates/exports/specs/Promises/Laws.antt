-- Any two results that one of these contracts allows are equal, behind every pointer too.
use Rattle.std.specs.Prelude.{◌≡◌, List, ℕ}
use Rattle.std.proofs.Common.{sym, ◌∙◌}
use Rattle.meaning.specs.Meaning.{Set}
use Rattle.exports.specs.Promises.{CheckReturns, FirstReturns, InterfaceReturns, PlainReturns, StepReturns}
use Rattle.exports.specs.Promises.{RunReturns, RewriteReturns, ClearReturns, LackingReturns, ReadReturns}
use Rattle.exports.specs.Promises.{PostReturns, WriteReturns}
use Rattle.desk.specs.declared.Case.{Case}
use Rattle.desk.specs.declared.Entry.{Entry}

-- what is equal to the same is equal; so are both of a pair
module _ {A : Type 0} where
  pub one : {d : A} (x y : A) → x ≡ d → y ≡ d → x ≡ y
  one x y p q = p ∙ sym q

module _ {A B : Type 0} where
  pub both : {d : A} {e : B} (x y : A) (u v : B) → (x ≡ d) × (u ≡ e) → (y ≡ d) × (v ≡ e) → (x ≡ y) × (u ≡ v)
  both x y u v p q = (one x y p.0 q.0, one u v p.1 q.1)

-- three answers of a call
three : {A B C : Type 0} {a : A} {b : B} {d : C} (r r' : A) (c c' : B) (n n' : C) → (r ≡ a) × (c ≡ b) × (n ≡ d)
    → (r' ≡ a) × (c' ≡ b) × (n' ≡ d) → (r ≡ r') × (c ≡ c') × (n ≡ n')
three r r' c c' n n' p q = (one r r' p.0 q.0, one c c' p.1 q.1, one n n' p.2 q.2)

module _ (f : List ℕ) where
  pub check_determined : (r r' : ℕ) → CheckReturns f r → CheckReturns f r' → r ≡ r'
  check_determined = one

  pub first_determined : (b : List ℕ) (r r' : ℕ) (c c' : List ℕ) → FirstReturns f b r c → FirstReturns f b r' c'
      → (r ≡ r') × (c ≡ c')
  first_determined b = both

  pub interface_determined : (r r' : ℕ) (i i' o o' : Set) → InterfaceReturns f r i o → InterfaceReturns f r' i' o'
      → (r ≡ r') × (i ≡ i') × (o ≡ o')
  interface_determined = three

  pub plain_determined : (r r' y y' : ℕ) → PlainReturns f r y → PlainReturns f r' y' → (r ≡ r') × (y ≡ y')
  plain_determined = both

  pub step_determined : (config : List ℕ) (i : Set) (b : List ℕ) (r r' : ℕ) (c c' : List ℕ) (o o' : Set) (m m' : ℕ)
      (p p' : List ℕ) (n n' : ℕ)
      → StepReturns f config i b r c o m p n → StepReturns f config i b r' c' o' m' p' n'
      → (r ≡ r') × (c ≡ c') × (o ≡ o') × (m ≡ m') × (p ≡ p') × (n ≡ n')
  step_determined config i b r r' c c' o o' m m' p p' n n' x y = (
    one r r' x.0 y.0,
    one c c' x.1 y.1,
    one o o' x.2 y.2,
    one m m' x.3 y.3,
    one p p' x.4 y.4,
    one n n' x.5 y.5,
  )

  pub run_determined : (config : List ℕ) (x : Set) (inputs : List Set) (b : List ℕ) (r r' : ℕ) (c c' : List ℕ)
      (l l' : Set)
      → RunReturns f config x inputs b r c l → RunReturns f config x inputs b r' c' l' → (r ≡ r') × (c ≡ c') × (l ≡ l')
  run_determined config x inputs b = three

  pub rewrite_determined : (b : List ℕ) (r r' : ℕ) (c c' : List ℕ) (n n' : ℕ) → RewriteReturns f b r c n
      → RewriteReturns f b r' c' n' → (r ≡ r') × (c ≡ c') × (n ≡ n')
  rewrite_determined b = three

  pub post_determined : (cases : List Case) (entries : List Entry) (rows : List ℕ) (r r' : ℕ) (cs cs' : List Case)
      (rs rs' : List ℕ) → PostReturns f cases entries rows r cs rs → PostReturns f cases entries rows r' cs' rs'
      → (r ≡ r') × (cs ≡ cs') × (rs ≡ rs')
  post_determined cases entries rows = three

  pub clear_determined : (b : List ℕ) (r r' : ℕ) (c c' : List ℕ) (n n' : ℕ) → ClearReturns f b r c n
      → ClearReturns f b r' c' n'
      → (r ≡ r') × (c ≡ c') × (n ≡ n')
  clear_determined b = three

  pub write_determined : (b : List ℕ) (r r' : ℕ) (c c' : List ℕ) (n n' : ℕ) → WriteReturns f b r c n
      → WriteReturns f b r' c' n'
      → (r ≡ r') × (c ≡ c') × (n ≡ n')
  write_determined b = three

  pub lacking_determined : (chart place : ℕ) (o : Set) (r r' a a' s s' : ℕ) → LackingReturns f chart place o r a s
      → LackingReturns f chart place o r' a' s' → (r ≡ r') × (a ≡ a') × (s ≡ s')
  lacking_determined chart place o = three

pub read_determined : (text b : List ℕ) (r r' : ℕ) (c c' : List ℕ) (n n' k k' : ℕ) → ReadReturns text b r c n k
    → ReadReturns text b r' c' n' k' → (r ≡ r') × (c ≡ c') × (n ≡ n') × (k ≡ k')
read_determined text b r r' c c' n n' k k' p q =
    (one r r' p.0 q.0, one c c' p.1 q.1, one n n' p.2 q.2, one k k' p.3 q.3)
