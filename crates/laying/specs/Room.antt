-- Bytes that are written where there is room for them.
use Rattle.std.specs.Prelude.{List, ℕ}
use Rattle.layout.specs.Put.{Room, Put}

abbrev pub Tries : List ℕ → ℕ → List ℕ → List ℕ → ℕ → Type 0
Tries before at xs after next = Room before at xs → Put before at xs after next
