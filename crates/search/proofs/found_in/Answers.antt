-- `search::found_in` meets its contract: each field is read from where it stands.
use mathlib.Core.Path.{◌≡◌}
use mathlib.Core.List.{List}
use Prim.Native.Nat.{ℕ, ◌+◌}
use lib.ListN.{get_or}
use Rattle.meaning.specs.Numbers.{most_charts}
use Rattle.meaning.specs.Meaning.{same}
use Rattle.meaning.specs.Calls.{made}
use Rattle.settling.specs.declared.Found.{Found}
use Rattle.settling.specs.Hunt.{places_cell, has_cell, agree_cell, found_in}
use Rattle.search.proofs.found_in.Goals as goal

read : (f g n p : List ℕ) → n ≡ made most_charts (λ c. get_or f (0 + c) 0)
    → p ≡ made most_charts (λ c. get_or f (places_cell + c) 0)
    → ◌≡◌ {A = Found} (record {
      has = same (get_or f has_cell 0) 1;
      agree = same (get_or f agree_cell 0) 1;
      output = get_or g 0 0;
      next = n;
      places = p;
    }) (found_in f g)
read f g n p e q = rw (e, q)

pub returns : goal.returns
unfolding same
returns c =
    read c.args.best.now c.args.shown.now _ _ c.bytes_at-next.ensures
    c.bytes_at-taken.ensures
