-- Examples of what a code says, and of what a message reads as, as antt computes them. Assumes nothing.
use mathlib.Core.Path.{◌≡◌, refl}
use mathlib.Core.List.{[], ◌∷◌}
use Rattle.byte_parts.specs.Half.{half_at}
use Rattle.byte_parts.specs.Part.{padded}
use Rattle.service_code.specs.Code.{number_of, attributes_of, table_of, decoded_of, attribute_of, requires_key}
use Rattle.text_numbers.specs.Decimal.{digits_of, dec_text}
use Rattle.text_numbers.specs.Hex.{capital, to_hex, hex_text}
use Rattle.text_print.specs.Print.{high_first}
use Rattle.node_messages.specs.Numbers.{numbers_in}
use Rattle.node_messages.specs.CodeList.{is_counted, is_code_list, read_code_list}
use Rattle.node_messages.specs.Information.{is_information, read_information}
use Rattle.inspect_fields.specs.Attribute.{attribute_fields}
use Rattle.inspect_fields.specs.Fields.{refusal_told, read_list_fields, read_info_fields}

-- `1 random read-write key` and `free`, `1 random read-only free`, `1 cyclic read-write key`, `1 cyclic read-only free`, `1 purse direct key`,
-- `cashback`, `decrement` and `read-only free`; and `1 - - -`, where the attribute is undefined.
pub attribute_rows
    : (attribute_fields 0x0048 ≡ 49 ∷ 9 ∷ 114 ∷ 97 ∷ 110 ∷ 100 ∷ 111 ∷ 109 ∷ 9 ∷ 114 ∷ 101 ∷ 97 ∷ 100 ∷ 45 ∷ 119 ∷ 114 ∷ 105 ∷ 116 ∷ 101 ∷ 9 ∷ 107 ∷ 101 ∷ 121 ∷ 10 ∷ [])
    × (attribute_fields 0x0049 ≡ 49 ∷ 9 ∷ 114 ∷ 97 ∷ 110 ∷ 100 ∷ 111 ∷ 109 ∷ 9 ∷ 114 ∷ 101 ∷ 97 ∷ 100 ∷ 45 ∷ 119 ∷ 114 ∷ 105 ∷ 116 ∷ 101 ∷ 9 ∷ 102 ∷ 114 ∷ 101 ∷ 101 ∷ 10 ∷ [])
    × (attribute_fields 0x004b ≡ 49 ∷ 9 ∷ 114 ∷ 97 ∷ 110 ∷ 100 ∷ 111 ∷ 109 ∷ 9 ∷ 114 ∷ 101 ∷ 97 ∷ 100 ∷ 45 ∷ 111 ∷ 110 ∷ 108 ∷ 121 ∷ 9 ∷ 102 ∷ 114 ∷ 101 ∷ 101 ∷ 10 ∷ [])
    × (attribute_fields 0x004c ≡ 49 ∷ 9 ∷ 99 ∷ 121 ∷ 99 ∷ 108 ∷ 105 ∷ 99 ∷ 9 ∷ 114 ∷ 101 ∷ 97 ∷ 100 ∷ 45 ∷ 119 ∷ 114 ∷ 105 ∷ 116 ∷ 101 ∷ 9 ∷ 107 ∷ 101 ∷ 121 ∷ 10 ∷ [])
    × (attribute_fields 0x004f ≡ 49 ∷ 9 ∷ 99 ∷ 121 ∷ 99 ∷ 108 ∷ 105 ∷ 99 ∷ 9 ∷ 114 ∷ 101 ∷ 97 ∷ 100 ∷ 45 ∷ 111 ∷ 110 ∷ 108 ∷ 121 ∷ 9 ∷ 102 ∷ 114 ∷ 101 ∷ 101 ∷ 10 ∷ [])
    × (attribute_fields 0x0050 ≡ 49 ∷ 9 ∷ 112 ∷ 117 ∷ 114 ∷ 115 ∷ 101 ∷ 9 ∷ 100 ∷ 105 ∷ 114 ∷ 101 ∷ 99 ∷ 116 ∷ 9 ∷ 107 ∷ 101 ∷ 121 ∷ 10 ∷ [])
    × (attribute_fields 0x0052 ≡ 49 ∷ 9 ∷ 112 ∷ 117 ∷ 114 ∷ 115 ∷ 101 ∷ 9 ∷ 99 ∷ 97 ∷ 115 ∷ 104 ∷ 98 ∷ 97 ∷ 99 ∷ 107 ∷ 9 ∷ 107 ∷ 101 ∷ 121 ∷ 10 ∷ [])
    × (attribute_fields 0x0054 ≡ 49 ∷ 9 ∷ 112 ∷ 117 ∷ 114 ∷ 115 ∷ 101 ∷ 9 ∷ 100 ∷ 101 ∷ 99 ∷ 114 ∷ 101 ∷ 109 ∷ 101 ∷ 110 ∷ 116 ∷ 9 ∷ 107 ∷ 101 ∷ 121 ∷ 10 ∷ [])
    × (attribute_fields 0x0057 ≡ 49 ∷ 9 ∷ 112 ∷ 117 ∷ 114 ∷ 115 ∷ 101 ∷ 9 ∷ 114 ∷ 101 ∷ 97 ∷ 100 ∷ 45 ∷ 111 ∷ 110 ∷ 108 ∷ 121 ∷ 9 ∷ 102 ∷ 114 ∷ 101 ∷ 101 ∷ 10 ∷ [])
    × (attribute_fields 0x0040 ≡ 49 ∷ 9 ∷ 45 ∷ 9 ∷ 45 ∷ 9 ∷ 45 ∷ 10 ∷ [])
unfolding number_of attributes_of table_of decoded_of attribute_of requires_key attribute_fields dec_text digits_of
attribute_rows = (refl, refl, refl, refl, refl, refl, refl, refl, refl, refl)

-- A code list of one area, 1000 to 10FF, and one service, 104B, after which more follow, `1 100010FF 104B`; an empty one, `0 - -`; flag 2
-- and a byte too few, `! 47`.
pub list_rows
    : (read_list_fields (0x01 ∷ 0x01 ∷ 0x00 ∷ 0x10 ∷ 0xff ∷ 0x10 ∷ 0x01 ∷ 0x4b ∷ 0x10 ∷ []) ≡ 49 ∷ 9 ∷ 49 ∷ 48 ∷ 48 ∷ 48 ∷ 49 ∷ 48 ∷ 70 ∷ 70 ∷ 9 ∷ 49 ∷ 48 ∷ 52 ∷ 66 ∷ 10 ∷ [])
    × (read_list_fields (0x00 ∷ 0x00 ∷ 0x00 ∷ []) ≡ 48 ∷ 9 ∷ 45 ∷ 9 ∷ 45 ∷ 10 ∷ [])
    × (read_list_fields (0x02 ∷ 0x00 ∷ 0x00 ∷ []) ≡ 33 ∷ 9 ∷ 52 ∷ 55 ∷ 10 ∷ [])
    × (read_list_fields (0x00 ∷ 0x00 ∷ []) ≡ 33 ∷ 9 ∷ 52 ∷ 55 ∷ 10 ∷ [])
unfolding read_list_fields refusal_told read_code_list is_code_list is_counted numbers_in half_at padded high_first hex_text to_hex capital dec_text digits_of
list_rows = (refl, refl, refl, refl)

-- Information on two nodes, 8 blocks and none assigned, 4096 and none free; on no node, `- -`; a byte left over and 33 nodes, `! 47`.
pub information_rows
    : (read_info_fields (0x02 ∷ 0x08 ∷ 0x00 ∷ 0x00 ∷ 0x00 ∷ 0x00 ∷ 0x10 ∷ 0x00 ∷ 0x00 ∷ []) ≡ 48 ∷ 48 ∷ 48 ∷ 56 ∷ 48 ∷ 48 ∷ 48 ∷ 48 ∷ 9 ∷ 49 ∷ 48 ∷ 48 ∷ 48 ∷ 48 ∷ 48 ∷ 48 ∷ 48 ∷ 10 ∷ [])
    × (read_info_fields (0x00 ∷ []) ≡ 45 ∷ 9 ∷ 45 ∷ 10 ∷ [])
    × (read_info_fields (0x00 ∷ 0x00 ∷ []) ≡ 33 ∷ 9 ∷ 52 ∷ 55 ∷ 10 ∷ [])
    × (read_info_fields (0x21 ∷ 0x00 ∷ 0x00 ∷ 0x00 ∷ 0x00 ∷ []) ≡ 33 ∷ 9 ∷ 52 ∷ 55 ∷ 10 ∷ [])
unfolding read_info_fields refusal_told read_information is_information numbers_in half_at padded high_first hex_text to_hex capital dec_text digits_of
information_rows = (refl, refl, refl, refl)
