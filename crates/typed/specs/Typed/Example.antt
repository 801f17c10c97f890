-- Words that are typed right and wrong, and sets as they are shown, by computation.
use Rattle.std.specs.Prelude.{◌≡◌, refl, [], ◌∷◌, map, ℕ, ◌-◌, ◌^◌, length, replicate}
use Rattle.signals.specs.Mask.{bit, single}
use Rattle.meaning.specs.Meaning.{same, eq_list}
use Rattle.line.specs.Ascii.{ascii}
use Rattle.line.specs.Line.{digit, digits, width_to, width, decimal, behind, joined, dotted}
use Rattle.typed.specs.Typed.{between, value_of, digit_on, digits_on, begun, number_of, hex_of, in_front, split}
use Rattle.typed.specs.Typed.{signal_of, signals_on, set_of, states_on, config_of, members_to, shown_signal, shown}
use Rattle.std.specs.Prelude.{Some, None}

-- the three forms of a set; signals in any order, and twice; hex digits in lower and upper case, one or sixteen of them
pub sets-right : map set_of
    (ascii "s0,s3" ∷ ascii "0x9" ∷ ascii "-" ∷ ascii "s63" ∷ ascii "s9,s10,s9" ∷ ascii "0xaF"
    ∷ ascii "0x0000000000000001" ∷ ascii "0xFFFFFFFFFFFFFFFF" ∷ [])
    ≡ (Some 9 ∷ Some 9 ∷ Some 0 ∷ Some (2 ^ 63) ∷ Some 1536 ∷ Some 175 ∷ Some 1 ∷ Some (2 ^ 64 - 1) ∷ [])
unfolding set_of eq_list same hex_of between value_of digit_on digits_on begun number_of in_front split signal_of
    signals_on bit single
sets-right = refl

-- no word; no such signal; a zero in front; no digits; seventeen; no digit; a comma at the end, at the beginning,
-- twice; no `s`; no number; a space; more behind `-`
pub sets_wrong : map set_of
    (ascii "" ∷ ascii "s64" ∷ ascii "s007" ∷ ascii "0x" ∷ ascii "0x00000000000000001" ∷ ascii "0xg" ∷ ascii "s0,"
    ∷ ascii ",s0" ∷ ascii "s0,,s1" ∷ ascii "0" ∷ ascii "s" ∷ ascii "s0, s1" ∷ ascii "--" ∷ [])
    ≡ replicate 13 None
unfolding set_of eq_list same hex_of between value_of digit_on digits_on begun number_of in_front split signal_of
    signals_on bit single
sets_wrong = refl

-- one state, several, the highest; more than eight are read
pub configs_right : map config_of (ascii "0" ∷ ascii "0.1" ∷ ascii "255.0.16" ∷ ascii "1.2.3.4.5.6.7.8.9" ∷ [])
    ≡ ((0 ∷ []) ∷ (0 ∷ 1 ∷ []) ∷ (255 ∷ 0 ∷ 16 ∷ []) ∷ (1 ∷ 2 ∷ 3 ∷ 4 ∷ 5 ∷ 6 ∷ 7 ∷ 8 ∷ 9 ∷ []) ∷ [])
unfolding config_of states_on same between value_of digit_on digits_on begun number_of in_front split
configs_right = refl

-- 64 states are as many as can be typed
pub configs_long : map (λ (n : ℕ). length (config_of (dotted (replicate n 1)))) (64 ∷ 65 ∷ []) ≡ (64 ∷ 0 ∷ [])
unfolding config_of states_on same between value_of digit_on digits_on begun number_of in_front split digit digits
    width_to width decimal behind joined dotted
configs_long = refl

-- no word; a state over 255; a zero in front; a dot at the end, at the beginning, twice; a letter; a comma
pub configs_wrong : map config_of (ascii "" ∷ ascii "256" ∷ ascii "00" ∷ ascii "0." ∷ ascii ".0" ∷ ascii "0..1"
    ∷ ascii "0.a" ∷ ascii "0,1" ∷ []) ≡ replicate 8 []
unfolding config_of states_on same between value_of digit_on digits_on begun number_of in_front split
configs_wrong = refl

pub sets-shown : map shown (0 ∷ 9 ∷ 2 ^ 63 ∷ 1536 ∷ [])
    ≡ (ascii "-" ∷ ascii "s0,s3" ∷ ascii "s63" ∷ ascii "s9,s10" ∷ [])
unfolding shown same members_to shown_signal bit digit digits width_to width decimal behind joined
sets-shown = refl
