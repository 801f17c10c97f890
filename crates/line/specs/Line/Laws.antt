-- Laws of lines, in this order: digits; how many digits a number has; states one after another; a line in its parts;
-- the line of a row that a run writes; how long a line is.
use Rattle.std.specs.Prelude.{◌≡◌, refl, Bool, true, false, cond, List, [], ◌∷◌, ◌++◌, map, ◌⊎◌, ℕ, zero, suc, ◌+◌, ◌*◌}
use Rattle.std.specs.Prelude.{◌/◌, ◌^◌, ◌≤◌, ◌<◌, length, get_or, drop}
use Rattle.std.proofs.Common.{ap, append_assoc, append-nil, inl, inr, ⊎_elim, pow-suc, add-one, arith, lt-ltb, le-ltb}
use Rattle.std.proofs.Common.{eq-eqb, ne_eqb, length-append, length-drop, drop-cons}
use Prim.Native.Char.{code}
use Rattle.std.proofs.Math.Decide.{dec_lt}
use Rattle.layout.specs.Le.{le, bytes, AllBytes}
use Rattle.layout.specs.Le.Laws.{le-bytes-append, bytes_drop}
use Rattle.meaning.specs.Meaning.{same, refused, given}
use Rattle.meaning.specs.Calls.{row_of}
use Rattle.line.specs.Ascii.{ascii}
use Rattle.line.specs.Line.{digits, width_to, width, decimal, hex, behind, joined, space, dot, newline, fields}
use Rattle.line.specs.Line.{closing, dotted, letter, output_part, mark_part, given_fields, refused_fields, row_fields}
use Rattle.line.specs.Line.{line_of}

-- ---- digits

pub length_digits : (base n x : ℕ) → length (digits base n x) ≡ n
unfolding digits
length_digits base zero x = refl
length_digits base (suc n) x = rw (length-append, length_digits base n (x / base)) (add-one n)

-- ---- how many digits

small-or-not : (x : ℕ) → Dec (x < 10) → (x < 10) ⊎ (10 ≤ x)
small-or-not x (yes h) = inl h
small-or-not x (no h) = inr (omega arith)

-- a limit above the number is no limit
width_to-more : (m n x : ℕ) → x < m → x < n → width_to m x ≡ width_to n x
unfolding width_to
width_to-more zero n x h k = absurd (omega arith)
width_to-more (suc m) zero x h k = absurd (omega arith)
width_to-more (suc m) (suc n) x h k =
    ⊎_elim (λ small. rw (lt-ltb x 10 small))
    (λ large. rw (le-ltb x 10 large) (ap suc (width_to-more m n (x / 10) (omega arith) (omega arith))))
    (small-or-not x (dec_lt x 10))

pub width_one : (x : ℕ) → x < 10 → width x ≡ 1
unfolding width width_to
width_one x h = simp (lt-ltb x 10 h)

pub width_suc : (x : ℕ) → 10 ≤ x → width x ≡ suc (width (x / 10))
unfolding width width_to
width_suc x h = rw (le-ltb x 10 h) (ap suc (width_to-more x (suc (x / 10)) (x / 10) (omega arith) (omega arith)))

-- a number below 10 ^ n has no more than n digits, and 0 has one
pub width-le : (n x : ℕ) → x < 10 ^ suc n → width x ≤ suc n
width-le zero x h = rw (width_one x h) (omega arith)
width-le (suc n) x h =
    ⊎_elim (λ small. rw (width_one x small) (omega arith))
    (λ large. rw (width_suc x large) (omega (arith, width-le n (x / 10) (omega (arith, pow-suc 10 (suc n))))))
    (small-or-not x (dec_lt x 10))

pub length-decimal : (x : ℕ) → length (decimal x) ≡ width x
unfolding decimal
length-decimal x = length_digits 10 (width x) x

-- ---- states

pub dotted_cons : (s : List ℕ) → 0 < length s → dotted s ≡ decimal (get_or s 0 0) ++ behind dot (map decimal (drop 1 s))
unfolding dotted joined
dotted_cons [] h = absurd (omega arith)
dotted_cons (x ∷ xs) h = refl

-- the states from i on, each behind a dot: the first of them, and the others
pub behind_cons : (s : List ℕ) (i : ℕ) → i < length s
    → behind dot (map decimal (drop i s)) ≡ (dot ∷ decimal (get_or s i 0)) ++ behind dot (map decimal (drop (suc i) s))
unfolding behind
behind_cons s i h = rw (drop-cons s i 0 h)

-- ---- a line in its parts

pub fields_cons : (p : List ℕ) (ps : List (List ℕ)) → fields (p ∷ ps) ≡ p ++ closing ps
unfolding fields joined
fields_cons p ps = append_assoc p (behind space ps) (newline ∷ [])

-- a row with a step, and one with a refusal
pub line-given : (n : ℕ) (row : List ℕ) → get_or row 9 0 ≡ 0 → line_of n row ≡ decimal n ++ closing (given_fields row)
unfolding line_of row_fields same
line-given n row e = rw (eq-eqb _ _ e) (fields_cons (decimal n) (given_fields row))

pub line_refused : (n : ℕ) (row : List ℕ) → (get_or row 9 0 ≡ 0 → ⊥)
    → line_of n row ≡ decimal n ++ closing (refused_fields (get_or row 9 0))
unfolding line_of row_fields same
line_refused n row f = rw (ne_eqb _ _ f) (fields_cons (decimal n) (refused_fields (get_or row 9 0)))

pub closing_refused : (r : ℕ) → closing (refused_fields r) ≡ ascii " refused " ++ (decimal r ++ (newline ∷ []))
unfolding behind
closing_refused r = ap (λ (d : List ℕ). ascii " refused " ++ (d ++ (newline ∷ []))) (append-nil (decimal r))

pub closing-given : (row : List ℕ)
    → closing (given_fields row) ≡ output_part (le 8 row) ++ (dotted (drop 10 row) ++ mark_part (get_or row 8 0))
unfolding behind
closing-given row = simp append_assoc

-- ---- the line of a row that a run writes

pub line-row-given : (n o : ℕ) (next config : List ℕ) (m : Bool) → o < 2 ^ 64
    → line_of n (row_of (given o next m) config)
    ≡ fields (decimal n ∷ hex 16 o ∷ dotted next ∷ (cond m (code "y") (code "n") ∷ []) ∷ [])
unfolding line_of row_fields letter same bytes row_of
line-row-given n o next config false h =
    ap (λ (x : ℕ). fields (decimal n ∷ hex 16 x ∷ dotted next ∷ (code "n" ∷ []) ∷ [])) (le-bytes-append 8 o _ h)
line-row-given n o next config true h =
    ap (λ (x : ℕ). fields (decimal n ∷ hex 16 x ∷ dotted next ∷ (code "y" ∷ []) ∷ [])) (le-bytes-append 8 o _ h)

pub line-row_refused : (n r : ℕ) (config : List ℕ) → (r ≡ 0 → ⊥)
    → line_of n (row_of (refused r) config) ≡ fields (decimal n ∷ ascii "refused" ∷ decimal r ∷ [])
unfolding line_of row_fields same bytes row_of
line-row_refused n r config f = rw (ne_eqb r 0 f)

-- ---- how long a line is

-- a byte has at most three digits
byte_le : (b : ℕ) → b < 256 → length (decimal b) ≤ 3
byte_le b h = rw length-decimal (width-le 2 b (omega arith))

pub length_refused : (r : ℕ) → length (closing (refused_fields r)) ≡ 10 + length (decimal r)
length_refused r = simp (closing_refused, length-append) (omega arith)

pub refused_le : (r : ℕ) → r < 256 → length (closing (refused_fields r)) ≤ 13
refused_le r h = rw length_refused (omega (arith, byte_le r h))

behind-le : (s : List ℕ) → AllBytes s → length (behind dot (map decimal s)) ≤ 4 * length s
unfolding behind
behind-le [] h = omega arith
behind-le (x ∷ xs) h = rw length-append (omega (arith, byte_le x (h 0), behind-le xs (λ i. h (suc i))))

pub dotted-le : (s : List ℕ) → AllBytes s → length (dotted s) ≤ 4 * length s
unfolding dotted joined
dotted-le [] h = omega arith
dotted-le (x ∷ xs) h = rw length-append (omega (arith, byte_le x (h 0), behind-le xs (λ i. h (suc i))))

pub length_output : (o : ℕ) → length (output_part o) ≡ 18
length_output o = rw (length-append, length_digits)

pub length-given : (row : List ℕ) → length (closing (given_fields row)) ≡ 21 + length (dotted (drop 10 row))
length-given row = simp (closing-given, length-append) (omega (arith, length_digits 16 16 (le 8 row)))

-- 16 states at most
pub given-le : (row : List ℕ) → AllBytes row → length row ≤ 26 → length (closing (given_fields row)) ≤ 85
given-le row h k = rw length-given (omega (arith, dotted-le (drop 10 row) (bytes_drop 10 row h), length-drop 10 row))

-- a u64 has at most 20 digits
pub number_le : (n : ℕ) → n < 2 ^ 64 → length (decimal n) ≤ 20
number_le n h = rw length-decimal (width-le 19 n (omega arith))
