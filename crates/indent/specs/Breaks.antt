-- A written text laid out for a person (docs/NOTATION.md 7): behind some of its signs a line ends, and the next line is
-- indented by two blanks a level.
use Rattle.std.specs.Prelude.{Bool, true, false, ◌&&◌, ◌||◌, not, cond, List, [], ◌∷◌, ◌++◌, ℕ, ◌+◌, ◌-◌, ◌*◌, eqb, ltb}
use Rattle.std.specs.Prelude.{replicate}
use Prim.Native.Char.{code}
use Rattle.indent.specs.declared.Place.{Place}

-- ── brackets that are open ──

abbrev pub raised : ℕ → ℕ
raised n = cond (ltb n 255) (n + 1) n

abbrev pub lowered : ℕ → ℕ
lowered n = cond (eqb n 0) n (n - 1)

-- ── places ──

abbrev pub start : Place
start = record { level = 0; inner = 0; second = false; breaks = false }

-- no break, and a break
abbrev pub quiet : Place → Place
quiet s = record { level = s.level; inner = s.inner; second = s.second; breaks = false }

abbrev pub broken : Place → Place
broken s = record { level = s.level; inner = s.inner; second = s.second; breaks = true }

-- a break behind a bracket that opens, and one before a bracket that closes
abbrev pub opened : Place → Place
opened s = record { level = raised s.level; inner = s.inner; second = s.second; breaks = true }

abbrev pub ended : Place → Place
ended s = record { level = lowered s.level; inner = s.inner; second = s.second; breaks = true }

-- ── behind a byte ──

-- a round bracket counts unless it is that of a chart, which has c right behind it, or stands within a chart
unfoldable pub counted : ℕ → ℕ → Bool
counted inner next = eqb inner 0 && not (eqb next (code "c"))

unfoldable pub round_opened : Place → ℕ → Place
round_opened s next =
    cond (counted s.inner next)
    (record { level = raised s.level; inner = s.inner; second = s.second; breaks = false })
    (record { level = s.level; inner = raised s.inner; second = s.second; breaks = false })

unfoldable pub round_closed : Place → Place
round_closed s =
    cond (eqb s.inner 0)
    (record { level = lowered s.level; inner = s.inner; second = s.second; breaks = false })
    (record { level = s.level; inner = lowered s.inner; second = s.second; breaks = false })

-- and one with a closing brace right behind it, which stands on a line of its own
unfoldable pub round_ended : Place → ℕ → Place
round_ended s next = cond (eqb next (code "}")) (ended (round_closed s)) (round_closed s)

-- braces around round brackets count
unfoldable pub brace_opened : Place → ℕ → Place
brace_opened s next = cond (eqb next (code "(")) (opened s) (quiet s)

-- a break between round brackets
unfoldable pub parted : Place → ℕ → Place
parted s next = cond (eqb next (code "(")) (broken s) (quiet s)

-- a break behind the second bar of a pair
abbrev pub at_bar : Place → Place
at_bar s = record { level = s.level; inner = s.inner; second = not s.second; breaks = s.second }

-- behind the byte b, which next follows
unfoldable pub of_byte : Place → ℕ → ℕ → Place
of_byte s b next =
    cond (eqb b (code "(")) (round_opened s next)
    (cond (eqb b (code ")")) (round_ended s next)
    (cond (eqb b (code "[")) (opened s)
    (cond (eqb b (code "{")) (brace_opened s next)
    (cond (eqb b (code ",")) (parted s next)
    (cond (eqb b (code "|")) (at_bar s) (quiet s))))))

-- a written chart ends with one of these
unfoldable pub closes : ℕ → Bool
closes b = eqb b (code ")") || eqb b (code "}")

-- the same, with a break before a square bracket that closes
unfoldable pub behind : Place → ℕ → ℕ → Place
behind s b next = cond (closes b && eqb next (code "]")) (ended (of_byte s b next)) (of_byte s b next)

-- ── the text laid out ──

-- a line end, and two blanks for each level
unfoldable pub break_at : Place → List ℕ
break_at s = cond s.breaks (10 ∷ replicate (2 * s.level) 32) []

-- the byte that follows; behind the last one it is none of the signs
abbrev pub next_of : List ℕ → ℕ
next_of [] = 0
next_of (b ∷ w) = b

-- from a place on; a line end follows the last byte
unfoldable pub shown_from : Place → List ℕ → List ℕ
shown_from s [] = 10 ∷ []
shown_from s (b ∷ w) = let p = behind s b (next_of w) in b ∷ break_at p ++ shown_from p w

abbrev pub shown : List ℕ → List ℕ
shown w = shown_from start w
