-- Worked image lines, as antt computes them. Assumes nothing.
use Rattle.std.proofs.Common.{Some, None}
use mathlib.Core.Path.{◌≡◌, refl}
use mathlib.Core.Bool.{true, false}
use mathlib.Core.List.{[], ◌∷◌}
use lib.IntN.{pos, negsuc}
use Rattle.byte_parts.specs.Part.{same_bytes}
use Rattle.card_build.specs.Card.{system_of}
use Rattle.text_fields.specs.Field.{split}
use Rattle.text_numbers.specs.Digit.{is_between, digit_of, digits, spelt}
use Rattle.text_numbers.specs.Hex.{grouped, hex_field}
use Rattle.text_numbers.specs.Codes.{hex16}
use Rattle.text_numbers.specs.Decimal.{plain, up_to, decimal, positive, negative, signed}
use Rattle.line_image.specs.declared.line.Line.TheVariants.{Card, Area, Service, Limit, Block}
use Rattle.line_fields.specs.Fields.{named, form}
use Rattle.line_image.specs.Line.{card_line, heading_of, area_line, service_line, limit_line, hex32, block_line, joins, first_line, later_line, image_line}

-- `card 0001 0000 join`, `card 0001 0000`, `svc 1 1049 2 0000` and `svc 1 104B 5 0000`, with a tab for each blank.
pub whole_case
    : (image_line true (99 ∷ 97 ∷ 114 ∷ 100 ∷ 9 ∷ 48 ∷ 48 ∷ 48 ∷ 49 ∷ 9 ∷ 48 ∷ 48 ∷ 48 ∷ 48 ∷ 9 ∷ 106 ∷ 111 ∷ 105 ∷ 110 ∷ []) ≡ Some (Card (system_of 1 0 true)))
    × (image_line true (99 ∷ 97 ∷ 114 ∷ 100 ∷ 9 ∷ 48 ∷ 48 ∷ 48 ∷ 49 ∷ 9 ∷ 48 ∷ 48 ∷ 48 ∷ 48 ∷ []) ≡ Some (Card (system_of 1 0 false)))
    × (image_line false (115 ∷ 118 ∷ 99 ∷ 9 ∷ 49 ∷ 9 ∷ 49 ∷ 48 ∷ 52 ∷ 57 ∷ 9 ∷ 50 ∷ 9 ∷ 48 ∷ 48 ∷ 48 ∷ 48 ∷ []) ≡ Some (Service 1 0x1049 2 0))
    × (image_line false (115 ∷ 118 ∷ 99 ∷ 9 ∷ 49 ∷ 9 ∷ 49 ∷ 48 ∷ 52 ∷ 66 ∷ 9 ∷ 53 ∷ 9 ∷ 48 ∷ 48 ∷ 48 ∷ 48 ∷ []) ≡ Some (Service 1 0x104B 5 0))
unfolding is_between digit_of digits spelt plain up_to decimal positive negative signed grouped hex_field hex16 split same_bytes named form joins hex32 card_line heading_of area_line service_line limit_line block_line first_line later_line image_line
whole_case = (refl, refl, refl, refl)

-- `area 1 0000 fffe 0A0b`; `lim 200 -50 255`; `blk 1049 1` with 32 digits; the largest depth.
pub accepted
    : (image_line false (97 ∷ 114 ∷ 101 ∷ 97 ∷ 9 ∷ 49 ∷ 9 ∷ 48 ∷ 48 ∷ 48 ∷ 48 ∷ 9 ∷ 102 ∷ 102 ∷ 102 ∷ 101 ∷ 9 ∷ 48 ∷ 65 ∷ 48 ∷ 98 ∷ []) ≡ Some (Area 1 0 0xFFFE 0x0A0B))
    × (image_line false (108 ∷ 105 ∷ 109 ∷ 9 ∷ 50 ∷ 48 ∷ 48 ∷ 9 ∷ 45 ∷ 53 ∷ 48 ∷ 9 ∷ 50 ∷ 53 ∷ 53 ∷ []) ≡ Some (Limit (pos 200) (negsuc 49) 255))
    × (image_line false (98 ∷ 108 ∷ 107 ∷ 9 ∷ 49 ∷ 48 ∷ 52 ∷ 57 ∷ 9 ∷ 49 ∷ 9 ∷ 48 ∷ 102 ∷ 48 ∷ 102 ∷ 48 ∷ 102 ∷ 48 ∷ 102 ∷ 48 ∷ 102 ∷ 48 ∷ 102 ∷ 48 ∷ 102 ∷ 48 ∷ 102 ∷ 48 ∷ 102 ∷ 48 ∷ 102 ∷ 48 ∷ 102 ∷ 48 ∷ 102 ∷ 48 ∷ 102 ∷ 48 ∷ 102 ∷ 48 ∷ 102 ∷ 48 ∷ 102 ∷ []) ≡ Some (Block 0x1049 1))
    × (image_line false (97 ∷ 114 ∷ 101 ∷ 97 ∷ 9 ∷ 52 ∷ 50 ∷ 57 ∷ 52 ∷ 57 ∷ 54 ∷ 55 ∷ 50 ∷ 57 ∷ 53 ∷ 9 ∷ 48 ∷ 48 ∷ 48 ∷ 48 ∷ 9 ∷ 70 ∷ 70 ∷ 70 ∷ 69 ∷ 9 ∷ 48 ∷ 48 ∷ 48 ∷ 48 ∷ []) ≡ Some (Area 4294967295 0 0xFFFE 0))
unfolding is_between digit_of digits spelt plain up_to decimal positive negative signed grouped hex_field hex16 split same_bytes named form joins hex32 card_line heading_of area_line service_line limit_line block_line first_line later_line image_line
accepted = (refl, refl, refl, refl)

-- Malformed: nothing; `svc` on line 1; `card` on a later line; a tab too many; a capital; a field too few; a leading zero; a depth that 32 bits cannot hold; -0; a generation that 8 bits cannot hold; 30 digits; no digits; `JOIN`; `joint`; `joi`; a field after `join`; `join` in place of the version; `join` after `svc`.
pub malformed
    : (image_line true ([]) ≡ None)
    × (image_line true (115 ∷ 118 ∷ 99 ∷ 9 ∷ 49 ∷ 9 ∷ 49 ∷ 48 ∷ 52 ∷ 57 ∷ 9 ∷ 50 ∷ 9 ∷ 48 ∷ 48 ∷ 48 ∷ 48 ∷ []) ≡ None)
    × (image_line false (99 ∷ 97 ∷ 114 ∷ 100 ∷ 9 ∷ 48 ∷ 48 ∷ 48 ∷ 49 ∷ 9 ∷ 48 ∷ 48 ∷ 48 ∷ 48 ∷ []) ≡ None)
    × (image_line true (99 ∷ 97 ∷ 114 ∷ 100 ∷ 9 ∷ 48 ∷ 48 ∷ 48 ∷ 49 ∷ 9 ∷ 48 ∷ 48 ∷ 48 ∷ 48 ∷ 9 ∷ []) ≡ None)
    × (image_line true (67 ∷ 97 ∷ 114 ∷ 100 ∷ 9 ∷ 48 ∷ 48 ∷ 48 ∷ 49 ∷ 9 ∷ 48 ∷ 48 ∷ 48 ∷ 48 ∷ []) ≡ None)
    × (image_line false (115 ∷ 118 ∷ 99 ∷ 9 ∷ 49 ∷ 9 ∷ 49 ∷ 48 ∷ 52 ∷ 57 ∷ 9 ∷ 50 ∷ []) ≡ None)
    × (image_line false (115 ∷ 118 ∷ 99 ∷ 9 ∷ 48 ∷ 49 ∷ 9 ∷ 49 ∷ 48 ∷ 52 ∷ 57 ∷ 9 ∷ 50 ∷ 9 ∷ 48 ∷ 48 ∷ 48 ∷ 48 ∷ []) ≡ None)
    × (image_line false (97 ∷ 114 ∷ 101 ∷ 97 ∷ 9 ∷ 52 ∷ 50 ∷ 57 ∷ 52 ∷ 57 ∷ 54 ∷ 55 ∷ 50 ∷ 57 ∷ 54 ∷ 9 ∷ 48 ∷ 48 ∷ 48 ∷ 48 ∷ 9 ∷ 70 ∷ 70 ∷ 70 ∷ 69 ∷ 9 ∷ 48 ∷ 48 ∷ 48 ∷ 48 ∷ []) ≡ None)
    × (image_line false (108 ∷ 105 ∷ 109 ∷ 9 ∷ 50 ∷ 48 ∷ 48 ∷ 9 ∷ 45 ∷ 48 ∷ 9 ∷ 48 ∷ []) ≡ None)
    × (image_line false (108 ∷ 105 ∷ 109 ∷ 9 ∷ 50 ∷ 48 ∷ 48 ∷ 9 ∷ 45 ∷ 53 ∷ 48 ∷ 9 ∷ 50 ∷ 53 ∷ 54 ∷ []) ≡ None)
    × (image_line false (98 ∷ 108 ∷ 107 ∷ 9 ∷ 49 ∷ 48 ∷ 52 ∷ 57 ∷ 9 ∷ 49 ∷ 9 ∷ 48 ∷ 102 ∷ 48 ∷ 102 ∷ 48 ∷ 102 ∷ 48 ∷ 102 ∷ 48 ∷ 102 ∷ 48 ∷ 102 ∷ 48 ∷ 102 ∷ 48 ∷ 102 ∷ 48 ∷ 102 ∷ 48 ∷ 102 ∷ 48 ∷ 102 ∷ 48 ∷ 102 ∷ 48 ∷ 102 ∷ 48 ∷ 102 ∷ 48 ∷ 102 ∷ []) ≡ None)
    × (image_line false (98 ∷ 108 ∷ 107 ∷ 9 ∷ 49 ∷ 48 ∷ 52 ∷ 57 ∷ 9 ∷ 49 ∷ 9 ∷ 45 ∷ []) ≡ None)
    × (image_line true (99 ∷ 97 ∷ 114 ∷ 100 ∷ 9 ∷ 48 ∷ 48 ∷ 48 ∷ 49 ∷ 9 ∷ 48 ∷ 48 ∷ 48 ∷ 48 ∷ 9 ∷ 74 ∷ 79 ∷ 73 ∷ 78 ∷ []) ≡ None)
    × (image_line true (99 ∷ 97 ∷ 114 ∷ 100 ∷ 9 ∷ 48 ∷ 48 ∷ 48 ∷ 49 ∷ 9 ∷ 48 ∷ 48 ∷ 48 ∷ 48 ∷ 9 ∷ 106 ∷ 111 ∷ 105 ∷ 110 ∷ 116 ∷ []) ≡ None)
    × (image_line true (99 ∷ 97 ∷ 114 ∷ 100 ∷ 9 ∷ 48 ∷ 48 ∷ 48 ∷ 49 ∷ 9 ∷ 48 ∷ 48 ∷ 48 ∷ 48 ∷ 9 ∷ 106 ∷ 111 ∷ 105 ∷ []) ≡ None)
    × (image_line true (99 ∷ 97 ∷ 114 ∷ 100 ∷ 9 ∷ 48 ∷ 48 ∷ 48 ∷ 49 ∷ 9 ∷ 48 ∷ 48 ∷ 48 ∷ 48 ∷ 9 ∷ 106 ∷ 111 ∷ 105 ∷ 110 ∷ 9 ∷ []) ≡ None)
    × (image_line true (99 ∷ 97 ∷ 114 ∷ 100 ∷ 9 ∷ 48 ∷ 48 ∷ 48 ∷ 49 ∷ 9 ∷ 106 ∷ 111 ∷ 105 ∷ 110 ∷ []) ≡ None)
    × (image_line false (115 ∷ 118 ∷ 99 ∷ 9 ∷ 49 ∷ 9 ∷ 49 ∷ 48 ∷ 52 ∷ 57 ∷ 9 ∷ 50 ∷ 9 ∷ 48 ∷ 48 ∷ 48 ∷ 48 ∷ 9 ∷ 106 ∷ 111 ∷ 105 ∷ 110 ∷ []) ≡ None)
unfolding is_between digit_of digits spelt plain up_to decimal positive negative signed grouped hex_field hex16 split same_bytes named form joins hex32 card_line heading_of area_line service_line limit_line block_line first_line later_line image_line
malformed = (refl, refl, refl, refl, refl, refl, refl, refl, refl, refl, refl, refl, refl, refl, refl, refl, refl, refl)
