-- Examples of codes read, as antt computes them. Assumes nothing.
use Rattle.std.proofs.Common.{Some, None}
use mathlib.Core.Path.{◌≡◌, refl}
use mathlib.Core.Bool.{true, false}
use mathlib.Core.List.{[], ◌∷◌}
use Rattle.text_numbers.specs.Digit.{is_between, digit_of, digits, spelt}
use Rattle.text_numbers.specs.Hex.{grouped, pairs, unhex}
use Rattle.text_numbers.specs.Codes.{hex16, codes_field, codes_of}

-- `104b`, `104B`, `104`, `104G`.
pub hex16_rows
    : (hex16 (49 ∷ 48 ∷ 52 ∷ 98 ∷ []) ≡ Some 0x104B)
    × (hex16 (49 ∷ 48 ∷ 52 ∷ 66 ∷ []) ≡ Some 0x104B)
    × (hex16 (49 ∷ 48 ∷ 52 ∷ []) ≡ None)
    × (hex16 (49 ∷ 48 ∷ 52 ∷ 71 ∷ []) ≡ None)
unfolding is_between digit_of digits spelt hex16
hex16_rows = (refl, refl, refl, refl)

-- Joined codes: `-`, nothing, `104B`, `104B10`; none, and those of `104B1049`.
pub code_rows
    : (codes_field (45 ∷ []) ≡ true)
    × (codes_field [] ≡ false)
    × (codes_field (49 ∷ 48 ∷ 52 ∷ 66 ∷ []) ≡ true)
    × (codes_field (49 ∷ 48 ∷ 52 ∷ 66 ∷ 49 ∷ 48 ∷ []) ≡ false)
    × (codes_of (45 ∷ []) ≡ [])
    × (codes_of (49 ∷ 48 ∷ 52 ∷ 66 ∷ 49 ∷ 48 ∷ 52 ∷ 57 ∷ []) ≡ 0x104B ∷ 0x1049 ∷ [])
unfolding is_between digit_of digits grouped pairs unhex codes_field codes_of
code_rows = (refl, refl, refl, refl, refl, refl)
