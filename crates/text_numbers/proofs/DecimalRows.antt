-- Examples of decimals read and printed, as antt computes them. Assumes nothing.
use Rattle.std.specs.Prelude.{None, Some}
use mathlib.Core.Path.{◌≡◌, refl}
use mathlib.Core.List.{[], ◌∷◌}
use lib.IntN.{pos, negsuc}
use Rattle.text_numbers.specs.Digit.{is_between, digit_of, digits, spelt}
use Rattle.text_numbers.specs.Decimal.{plain, up_to, decimal, positive, negative, signed, digits_of, dec_text}

-- `0`, nothing, `00`, `07`, `+1`, `-1`, `1A`, 4294967295, 4294967296; at 8 bits 255 and 256.
pub decimal_rows
    : (decimal 4294967295 (48 ∷ []) ≡ Some 0)
    × (decimal 4294967295 [] ≡ None)
    × (decimal 4294967295 (48 ∷ 48 ∷ []) ≡ None)
    × (decimal 4294967295 (48 ∷ 55 ∷ []) ≡ None)
    × (decimal 4294967295 (43 ∷ 49 ∷ []) ≡ None)
    × (decimal 4294967295 (45 ∷ 49 ∷ []) ≡ None)
    × (decimal 4294967295 (49 ∷ 65 ∷ []) ≡ None)
    × (decimal 4294967295 (52 ∷ 50 ∷ 57 ∷ 52 ∷ 57 ∷ 54 ∷ 55 ∷ 50 ∷ 57 ∷ 53 ∷ []) ≡ Some 4294967295)
    × (decimal 4294967295 (52 ∷ 50 ∷ 57 ∷ 52 ∷ 57 ∷ 54 ∷ 55 ∷ 50 ∷ 57 ∷ 54 ∷ []) ≡ None)
    × (decimal 255 (50 ∷ 53 ∷ 53 ∷ []) ≡ Some 255)
    × (decimal 255 (50 ∷ 53 ∷ 54 ∷ []) ≡ None)
unfolding is_between digit_of digits spelt plain up_to decimal
decimal_rows = (refl, refl, refl, refl, refl, refl, refl, refl, refl, refl, refl)

-- `0`, `-0`, `-`, `-1`, `-01`, then the ends of 32 bits and one past each.
pub signed_rows
    : (signed (48 ∷ []) ≡ Some (pos 0))
    × (signed (45 ∷ 48 ∷ []) ≡ None)
    × (signed (45 ∷ []) ≡ None)
    × (signed (45 ∷ 49 ∷ []) ≡ Some (negsuc 0))
    × (signed (45 ∷ 48 ∷ 49 ∷ []) ≡ None)
    × (signed (50 ∷ 49 ∷ 52 ∷ 55 ∷ 52 ∷ 56 ∷ 51 ∷ 54 ∷ 52 ∷ 55 ∷ []) ≡ Some (pos 2147483647))
    × (signed (50 ∷ 49 ∷ 52 ∷ 55 ∷ 52 ∷ 56 ∷ 51 ∷ 54 ∷ 52 ∷ 56 ∷ []) ≡ None)
    × (signed (45 ∷ 50 ∷ 49 ∷ 52 ∷ 55 ∷ 52 ∷ 56 ∷ 51 ∷ 54 ∷ 52 ∷ 56 ∷ []) ≡ Some (negsuc 2147483647))
    × (signed (45 ∷ 50 ∷ 49 ∷ 52 ∷ 55 ∷ 52 ∷ 56 ∷ 51 ∷ 54 ∷ 52 ∷ 57 ∷ []) ≡ None)
unfolding is_between digit_of digits spelt plain up_to decimal positive negative signed
signed_rows = (refl, refl, refl, refl, refl, refl, refl, refl, refl)

-- 0, 255 and the largest number of 64 bits.
pub text_rows_lem
    : (dec_text 0 ≡ 48 ∷ [])
    × (dec_text 255 ≡ 50 ∷ 53 ∷ 53 ∷ [])
    × (dec_text 18446744073709551615 ≡ 49 ∷ 56 ∷ 52 ∷ 52 ∷ 54 ∷ 55 ∷ 52 ∷ 52 ∷ 48 ∷ 55 ∷ 51 ∷ 55 ∷ 48 ∷ 57 ∷ 53 ∷ 53 ∷ 49 ∷ 54 ∷ 49 ∷ 53 ∷ [])
unfolding digits_of dec_text
text_rows_lem = (refl, refl, refl)
