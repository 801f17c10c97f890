-- Reading without a stack. All that is kept is a mode, the number of the reader's state, and where a token is broken
-- off: 0 between tokens, 1 and 2 inside Dec, 3 inside by, 4 behind a name's letter, 5 in its number. What encloses a
-- part that has ended is found by looking back over the bytes that are read.
use Rattle.std.specs.Prelude.{Bool, false, cond, ◌&&◌, ◌||◌, List, [], ◌∷◌, ℕ, suc, ◌+◌, ◌*◌, ◌/◌, ◌%◌, eqb}
use Rattle.std.proofs.Math.Option.{Option, none, some}
use Prim.Native.Char.{code}
use Rattle.notation.specs.Grammar.{blank}
use Rattle.notation.specs.Reader.{is_digit}
use Rattle.scan.specs.Look.{look}
use Rattle.scan.specs.Table.{table, lookup, refine}

-- no text has the byte there
abbrev pub nowhere : ℕ
nowhere = 4095

-- mode and place in a token as one number
unfoldable pub pack : ℕ → ℕ → ℕ
pack m x = m * 8 + x

-- where a token that begins with the byte b goes on
unfoldable pub token_after : ℕ → ℕ
token_after b =
    cond (eqb b (code "D")) 1
    (cond (eqb b (code "b")) 3
    (cond (eqb b (code "c")) 4 (cond (eqb b (code "q")) 4 (cond (eqb b (code "s")) 4 0))))

-- the mode t of the table, 255 for none, behind the byte b
unfoldable pub landed : ℕ → ℕ → ℕ
landed t b = cond (eqb t 255) nowhere (pack t (token_after b))

-- a byte between tokens; a is what encloses the part that has ended
unfoldable pub advance_between : ℕ → ℕ → ℕ → ℕ
advance_between m b a = cond (blank b) (pack m 0) (landed (lookup table (refine m a) b) b)

-- the byte c must come; then the token goes on at x
unfoldable pub expect : ℕ → ℕ → ℕ → ℕ → ℕ
expect m x b c = cond (eqb b c) (pack m x) nowhere

-- a byte behind the letter of a name
unfoldable pub advance_letter : ℕ → ℕ → ℕ
advance_letter m b = cond (eqb b 48) (pack m 0) (cond (is_digit b) (pack m 5) nowhere)

-- a byte in the number of a name, or behind it
unfoldable pub advance_number : ℕ → ℕ → ℕ → ℕ
advance_number m b a = cond (is_digit b) (pack m 5) (advance_between m b a)

-- any byte
unfoldable pub advance : ℕ → ℕ → ℕ → ℕ → ℕ
advance m x b a =
    cond (eqb x 1) (expect m 2 b (code "e"))
    (cond (eqb x 2) (expect m 0 b (code "c"))
    (cond (eqb x 3) (expect m 0 b (code "y")) (cond (eqb x 4) (advance_letter m b)
    (cond (eqb x 5) (advance_number m b a) (advance_between m b a)))))

-- a mode in which the text may end: the whole chart is read
unfoldable pub is_whole : ℕ → Bool
is_whole m = eqb m 97 || (eqb m 98 || (eqb m 105 || (eqb m 106 || eqb m 114)))

-- whether the text may end
unfoldable pub accepts : ℕ → ℕ → ℕ → Bool
accepts m x a = (eqb x 0 || eqb x 5) && is_whole (refine m a)

-- goes on with f, or stops at the place k
unfoldable pub advanced : ℕ → ℕ → (ℕ → ℕ → Option ℕ) → Option ℕ
advanced h k f = cond (eqb h nowhere) (some k) (f (h / 8) (h % 8))

-- the place of the first wrong byte of w, whose first is at place k; none if there is no such byte. The bytes v are
-- read, last first
unfoldable pub scan_from : List ℕ → List ℕ → ℕ → ℕ → ℕ → Option ℕ
scan_from [] v k m x = cond (accepts m x (look v 0 0 false)) none (some k)
scan_from (b ∷ w) v k m x = advanced (advance m x b (look v 0 0 false)) k (scan_from w (b ∷ v) (suc k))

unfoldable pub scan : List ℕ → Option ℕ
scan w = scan_from w [] 0 0 0
