-- Examples of fields, as antt computes them. Assumes nothing.
use mathlib.Core.Path.{◌≡◌, refl}
use mathlib.Core.List.{[], ◌∷◌}
use Rattle.text_numbers.specs.Hex.{capital, to_hex, hex_text}
use Rattle.text_print.specs.Print.{closed, high_first, four_digits}

-- `-` for no number, `0FA9` and `0FA900FF`, each ended by LF.
pub number_rows
    : (closed 10 (four_digits []) ≡ 45 ∷ 10 ∷ [])
    × (closed 10 (four_digits (0x0fa9 ∷ [])) ≡ 48 ∷ 70 ∷ 65 ∷ 57 ∷ 10 ∷ [])
    × (closed 10 (four_digits (0x0fa9 ∷ 0xff ∷ [])) ≡ 48 ∷ 70 ∷ 65 ∷ 57 ∷ 48 ∷ 48 ∷ 70 ∷ 70 ∷ 10 ∷ [])
unfolding high_first hex_text to_hex capital
number_rows = (refl, refl, refl)
