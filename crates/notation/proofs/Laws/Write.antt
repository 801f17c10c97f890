-- The text of a chart without blanks (`write`) spells it (`write_spells`). The reader answers the chart again
-- (`read_write`), so two charts with one text are one chart (`write_injective`).
use Rattle.std.specs.Prelude.{◌≡◌, List, [], ◌∷◌, ℕ}
use Rattle.std.proofs.Common.{ap}
use Rattle.notation.specs.Syntax.{Chart}
use Rattle.notation.specs.Grammar.{Tokens, bytes_of_all, write, of_chart, Text, end, token_then, Spells}
use Rattle.notation.specs.Reader.{spelt, reader}
use Rattle.notation.proofs.Laws.Theorems.{complete}

text_all : (ts : Tokens) → Text ts (bytes_of_all ts)
unfolding bytes_of_all
text_all [] = end
text_all (t ∷ ts) = token_then t (text_all ts)

pub write_spells : (t : Chart) → Spells (write t) t
unfolding write
write_spells t = text_all (of_chart t)

pub read_write : (t : Chart) → reader (write t) ≡ spelt t
read_write t = complete (write t) t (write_spells t)

pub write_injective : (t u : Chart) → write t ≡ write u → t ≡ u
write_injective t u e = let p = read_write t in let q = read_write u in let z = ap reader e in cc
