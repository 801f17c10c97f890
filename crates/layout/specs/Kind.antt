-- The kinds of a node and the bytes that say them (RULES 2.6).
use Rattle.std.specs.Prelude.{◌≡◌, ℕ, ◌<◌, Result, MatchResult}
use Rattle.layout.specs.declared.record.Kind.{Kind}
use Rattle.layout.specs.declared.record.Kind.TheVariants.{Holds, Composes, Hides}
use Rattle.layout.specs.declared.record.NoKind.{NoKind}
pub mod Laws

abbrev pub byte_of : Kind → ℕ
byte_of Holds = 0
byte_of Composes = 1
byte_of Hides = 2

-- what reading a byte as a kind gives: the kind that it says, or the byte itself, which says none
abbrev pub Decodes : ℕ → Result Kind NoKind → Type 0
Decodes byte r = MatchResult r (λ kind. byte_of kind ≡ byte) (λ e. (e.0 ≡ byte) × (2 < byte))
