-- Examples of hex read and printed, as antt computes them. Assumes nothing.
use mathlib.Core.Path.{◌≡◌, refl}
use mathlib.Core.Bool.{true, false}
use mathlib.Core.List.{[], ◌∷◌}
use Rattle.text_numbers.specs.Digit.{is_between, digit_of, digits}
use Rattle.text_numbers.specs.Hex.{grouped, hex_field, pairs, unhex, capital, to_hex, hex_text}

-- `-`, nothing, `8`, `8001`; bytes 80 AC, and none.
pub hex_rows
    : (hex_field (45 ∷ []) ≡ true)
    × (hex_field [] ≡ false)
    × (hex_field (56 ∷ []) ≡ false)
    × (unhex (56 ∷ 48 ∷ 48 ∷ 49 ∷ []) ≡ 0x80 ∷ 0x01 ∷ [])
    × (hex_text (0x80 ∷ 0xAC ∷ []) ≡ 56 ∷ 48 ∷ 65 ∷ 67 ∷ [])
    × (hex_text [] ≡ 45 ∷ [])
unfolding is_between digit_of digits grouped hex_field pairs unhex capital to_hex hex_text
hex_rows = (refl, refl, refl, refl, refl, refl)
