-- A list of names as a loop reads it, the first and then a comma and a name each time, and the byte that tells which
-- token is next: `names_cons`, `peek_sign`, `peek_name`.
use Rattle.std.specs.Prelude.{◌≡◌, refl, List, [], ◌∷◌, ◌++◌, ℕ, drop, get_or}
use Rattle.std.proofs.Common.{sym, ap, ◌∙◌}
use Rattle.notation.specs.Syntax.{OneOrMore, one, ◌▸◌}
use Rattle.notation.specs.Grammar.{Sign, comma, Letter, sign, name, Tokens, letter, bytes_of, of_names, Text}
use Rattle.notation.specs.Reader.{first_byte}
use Rattle.notation.specs.Laws.Signs.{sign_bytes_lem}
use Rattle.tokens.specs.Tokens.{blanks}
use Rattle.tokens.specs.Laws.Text.{text_token}

unfoldable pub first_name : OneOrMore ℕ → ℕ
first_name (one k) = k
first_name (ks ▸ k) = first_name ks

unfoldable pub rest_names : OneOrMore ℕ → List ℕ
rest_names (one k) = []
rest_names (ks ▸ k) = rest_names ks ++ (k ∷ [])

unfoldable pub more_names : Letter → List ℕ → Tokens
more_names l [] = []
more_names l (k ∷ ks) = sign comma ∷ name l k ∷ more_names l ks

more_names-append : (l : Letter) (a b : List ℕ) → more_names l (a ++ b) ≡ more_names l a ++ more_names l b
unfolding more_names
more_names-append l [] b = refl
more_names-append l (k ∷ a) b = ap (λ r. sign comma ∷ name l k ∷ r) (more_names-append l a b)

pub names_cons : (l : Letter) (ks : OneOrMore ℕ) → of_names l ks ≡ name l (first_name ks) ∷ more_names l (rest_names ks)
unfolding of_names first_name rest_names more_names
names_cons l (one k) = refl
names_cons l (ks ▸ k) = ap (◌++ (sign comma ∷ name l k ∷ [])) (names_cons l ks)
    ∙ ap (name l (first_name ks) ∷◌) (sym (more_names-append l (rest_names ks) (k ∷ [])))

pub peek_sign : {ts : Tokens} {w : List ℕ} (k : Sign) → Text (sign k ∷ ts) w
    → get_or (drop (blanks w) w) 0 0 ≡ first_byte k
unfolding bytes_of
peek_sign k h = let m = text_token h in ap (λ u. get_or u 0 0) m.1 ∙ ap (λ u. get_or (u ++ m.0) 0 0) (sign_bytes_lem k)

pub peek_name : {ts : Tokens} {w : List ℕ} (l : Letter) (n : ℕ) → Text (name l n ∷ ts) w
    → get_or (drop (blanks w) w) 0 0 ≡ letter l
unfolding bytes_of
peek_name l n h = let m = text_token h in ap (λ u. get_or u 0 0) m.1
