-- Examples of request lines, as antt computes them. Assumes nothing.
use Rattle.std.proofs.Common.{Some, None}
use mathlib.Core.Path.{◌≡◌, refl}
use mathlib.Core.Bool.{true, false}
use mathlib.Core.List.{[], ◌∷◌}
use Rattle.text_fields.specs.Field.{split}
use Rattle.text_numbers.specs.Digit.{is_between, digit_of, digits, spelt}
use Rattle.text_numbers.specs.Hex.{grouped, hex_field}
use Rattle.text_numbers.specs.Codes.{codes_field}
use Rattle.text_numbers.specs.Decimal.{plain, up_to, decimal}
use Rattle.line_request.specs.declared.Ask.TheVariants.{Read, Write}
use Rattle.line_request.specs.Ask.{is_letter, is_either, shaped, is_write, ask_of}

-- `R O 104B 1 8001`, `W S - 0 - -`, two codes and the largest count; then a count too large, a field more, no kind, half a code, no data
-- and a small letter.
pub ask_rows
    : (ask_of (82 ∷ 9 ∷ 79 ∷ 9 ∷ 49 ∷ 48 ∷ 52 ∷ 66 ∷ 9 ∷ 49 ∷ 9 ∷ 56 ∷ 48 ∷ 48 ∷ 49 ∷ []) ≡ Some (Read true 1))
    × (ask_of (87 ∷ 9 ∷ 83 ∷ 9 ∷ 45 ∷ 9 ∷ 48 ∷ 9 ∷ 45 ∷ 9 ∷ 45 ∷ []) ≡ Some (Write false 0))
    × (ask_of (82 ∷ 9 ∷ 79 ∷ 9 ∷ 49 ∷ 48 ∷ 52 ∷ 98 ∷ 49 ∷ 48 ∷ 52 ∷ 66 ∷ 9 ∷ 52 ∷ 50 ∷ 57 ∷ 52 ∷ 57 ∷ 54 ∷ 55 ∷ 50 ∷ 57 ∷ 53 ∷ 9 ∷ 45 ∷ []) ≡ Some (Read true 4294967295))
    × (ask_of (82 ∷ 9 ∷ 79 ∷ 9 ∷ 49 ∷ 48 ∷ 52 ∷ 66 ∷ 9 ∷ 52 ∷ 50 ∷ 57 ∷ 52 ∷ 57 ∷ 54 ∷ 55 ∷ 50 ∷ 57 ∷ 54 ∷ 9 ∷ 56 ∷ 48 ∷ 48 ∷ 49 ∷ []) ≡ None)
    × (ask_of (82 ∷ 9 ∷ 79 ∷ 9 ∷ 49 ∷ 48 ∷ 52 ∷ 66 ∷ 9 ∷ 49 ∷ 9 ∷ 56 ∷ 48 ∷ 48 ∷ 49 ∷ 9 ∷ []) ≡ None)
    × (ask_of (82 ∷ 9 ∷ 88 ∷ 9 ∷ 49 ∷ 48 ∷ 52 ∷ 66 ∷ 9 ∷ 49 ∷ 9 ∷ 56 ∷ 48 ∷ 48 ∷ 49 ∷ []) ≡ None)
    × (ask_of (82 ∷ 9 ∷ 79 ∷ 9 ∷ 49 ∷ 48 ∷ 52 ∷ 9 ∷ 49 ∷ 9 ∷ 56 ∷ 48 ∷ 48 ∷ 49 ∷ []) ≡ None)
    × (ask_of (87 ∷ 9 ∷ 79 ∷ 9 ∷ 49 ∷ 48 ∷ 52 ∷ 66 ∷ 9 ∷ 49 ∷ 9 ∷ 56 ∷ 48 ∷ 48 ∷ 49 ∷ []) ≡ None)
    × (ask_of (114 ∷ 9 ∷ 79 ∷ 9 ∷ 49 ∷ 48 ∷ 52 ∷ 66 ∷ 9 ∷ 49 ∷ 9 ∷ 56 ∷ 48 ∷ 48 ∷ 49 ∷ []) ≡ None)
unfolding ask_of shaped is_write is_either is_letter split decimal plain up_to spelt codes_field hex_field grouped digits digit_of is_between
ask_rows = (refl, refl, refl, refl, refl, refl, refl, refl, refl)
