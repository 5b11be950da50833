-- Examples of what lines ask, as antt computes them. Assumes nothing.
use Rattle.std.proofs.Common.{Some, None}
use mathlib.Core.Path.{◌≡◌, refl}
use mathlib.Core.List.{[], ◌∷◌}
use Rattle.byte_parts.specs.Part.{same_bytes}
use Rattle.text_fields.specs.Field.{split}
use Rattle.text_numbers.specs.Digit.{is_between, digit_of, digits, spelt}
use Rattle.text_numbers.specs.Hex.{grouped, hex_field}
use Rattle.text_numbers.specs.Codes.{hex16, codes_field}
use Rattle.text_numbers.specs.Decimal.{plain, up_to, decimal}
use Rattle.line_fields.specs.Fields.{named, form}
use Rattle.inspect_ask.specs.declared.Asked.TheVariants as asks
use Rattle.inspect_ask.specs.declared.Question.TheVariants.{Of, Room, Arena}
use Rattle.inspect_ask.specs.Question.{list_line, block_question, code_line, codes_line, bytes_line, room_line, arena_line, lent_asked, stored_asked, lists_asked, card_asked, bytes_asked, message_asked, question_of}

-- `list 1000` and a packet number: 0, and those at 8, 16 and 32 bits.
pub packet_rows
    : (question_of (108 ∷ 105 ∷ 115 ∷ 116 ∷ 9 ∷ 49 ∷ 48 ∷ 48 ∷ 48 ∷ 9 ∷ 48 ∷ []) ≡ Some (Of (asks.List 0x1000 0)))
    × (question_of (108 ∷ 105 ∷ 115 ∷ 116 ∷ 9 ∷ 49 ∷ 48 ∷ 48 ∷ 48 ∷ 9 ∷ 50 ∷ 53 ∷ 53 ∷ []) ≡ Some (Of (asks.List 0x1000 255)))
    × (question_of (108 ∷ 105 ∷ 115 ∷ 116 ∷ 9 ∷ 49 ∷ 48 ∷ 48 ∷ 48 ∷ 9 ∷ 50 ∷ 53 ∷ 54 ∷ []) ≡ Some (Of (asks.List 0x1000 256)))
    × (question_of (108 ∷ 105 ∷ 115 ∷ 116 ∷ 9 ∷ 49 ∷ 48 ∷ 48 ∷ 48 ∷ 9 ∷ 54 ∷ 53 ∷ 53 ∷ 51 ∷ 53 ∷ []) ≡ Some (Of (asks.List 0x1000 65535)))
    × (question_of (108 ∷ 105 ∷ 115 ∷ 116 ∷ 9 ∷ 49 ∷ 48 ∷ 48 ∷ 48 ∷ 9 ∷ 54 ∷ 53 ∷ 53 ∷ 51 ∷ 54 ∷ []) ≡ Some (Of (asks.List 0x1000 65536)))
    × (question_of (108 ∷ 105 ∷ 115 ∷ 116 ∷ 9 ∷ 49 ∷ 48 ∷ 48 ∷ 48 ∷ 9 ∷ 52 ∷ 50 ∷ 57 ∷ 52 ∷ 57 ∷ 54 ∷ 55 ∷ 50 ∷ 57 ∷ 53 ∷ []) ≡ Some (Of (asks.List 0x1000 4294967295)))
unfolding question_of message_asked bytes_asked card_asked lists_asked stored_asked lent_asked list_line block_question code_line codes_line bytes_line room_line arena_line form named same_bytes split hex16 codes_field hex_field grouped decimal plain up_to spelt digits digit_of is_between
packet_rows = (refl, refl, refl, refl, refl, refl)

-- What is no `list`: a packet number of over 32 bits, no packet, a tab more, half a code, a sign.
pub no_list_rows
    : (question_of (108 ∷ 105 ∷ 115 ∷ 116 ∷ 9 ∷ 49 ∷ 48 ∷ 48 ∷ 48 ∷ 9 ∷ 52 ∷ 50 ∷ 57 ∷ 52 ∷ 57 ∷ 54 ∷ 55 ∷ 50 ∷ 57 ∷ 54 ∷ []) ≡ None)
    × (question_of (108 ∷ 105 ∷ 115 ∷ 116 ∷ 9 ∷ 49 ∷ 48 ∷ 48 ∷ 48 ∷ []) ≡ None)
    × (question_of (108 ∷ 105 ∷ 115 ∷ 116 ∷ 9 ∷ 49 ∷ 48 ∷ 48 ∷ 48 ∷ 9 ∷ 48 ∷ 9 ∷ []) ≡ None)
    × (question_of (108 ∷ 105 ∷ 115 ∷ 116 ∷ 9 ∷ 49 ∷ 48 ∷ 48 ∷ 9 ∷ 48 ∷ []) ≡ None)
    × (question_of (108 ∷ 105 ∷ 115 ∷ 116 ∷ 9 ∷ 49 ∷ 48 ∷ 48 ∷ 48 ∷ 9 ∷ 45 ∷ 49 ∷ []) ≡ None)
unfolding question_of message_asked bytes_asked card_asked lists_asked stored_asked lent_asked list_line block_question code_line codes_line bytes_line room_line arena_line form named same_bytes split hex16 codes_field hex_field grouped decimal plain up_to spelt digits digit_of is_between
no_list_rows = (refl, refl, refl, refl, refl)

-- Every other question: `info 1000104B`, `info -`, `readlist 000000`, `readinfo 00`, `total 1000`, `ver FFFF`, `dir`, `areas 0000FFFF`,
-- `svcs 104B`, `block 104b 0`, `block 104B 4294967295`, `used`, `attr 104B`, `room 4096`, `arena 65536`.
pub question_rows
    : (question_of (105 ∷ 110 ∷ 102 ∷ 111 ∷ 9 ∷ 49 ∷ 48 ∷ 48 ∷ 48 ∷ 49 ∷ 48 ∷ 52 ∷ 66 ∷ []) ≡ Some (Of asks.Info))
    × (question_of (105 ∷ 110 ∷ 102 ∷ 111 ∷ 9 ∷ 45 ∷ []) ≡ Some (Of asks.Info))
    × (question_of (114 ∷ 101 ∷ 97 ∷ 100 ∷ 108 ∷ 105 ∷ 115 ∷ 116 ∷ 9 ∷ 48 ∷ 48 ∷ 48 ∷ 48 ∷ 48 ∷ 48 ∷ []) ≡ Some (Of asks.ReadList))
    × (question_of (114 ∷ 101 ∷ 97 ∷ 100 ∷ 105 ∷ 110 ∷ 102 ∷ 111 ∷ 9 ∷ 48 ∷ 48 ∷ []) ≡ Some (Of asks.ReadInfo))
    × (question_of (116 ∷ 111 ∷ 116 ∷ 97 ∷ 108 ∷ 9 ∷ 49 ∷ 48 ∷ 48 ∷ 48 ∷ []) ≡ Some (Of (asks.Total 0x1000)))
    × (question_of (118 ∷ 101 ∷ 114 ∷ 9 ∷ 70 ∷ 70 ∷ 70 ∷ 70 ∷ []) ≡ Some (Of (asks.Version 0xffff)))
    × (question_of (100 ∷ 105 ∷ 114 ∷ []) ≡ Some (Of asks.Directory))
    × (question_of (97 ∷ 114 ∷ 101 ∷ 97 ∷ 115 ∷ 9 ∷ 48 ∷ 48 ∷ 48 ∷ 48 ∷ 70 ∷ 70 ∷ 70 ∷ 70 ∷ []) ≡ Some (Of asks.Areas))
    × (question_of (115 ∷ 118 ∷ 99 ∷ 115 ∷ 9 ∷ 49 ∷ 48 ∷ 52 ∷ 66 ∷ []) ≡ Some (Of asks.Services))
    × (question_of (98 ∷ 108 ∷ 111 ∷ 99 ∷ 107 ∷ 9 ∷ 49 ∷ 48 ∷ 52 ∷ 98 ∷ 9 ∷ 48 ∷ []) ≡ Some (Of (asks.Block 0x104b 0)))
    × (question_of (98 ∷ 108 ∷ 111 ∷ 99 ∷ 107 ∷ 9 ∷ 49 ∷ 48 ∷ 52 ∷ 66 ∷ 9 ∷ 52 ∷ 50 ∷ 57 ∷ 52 ∷ 57 ∷ 54 ∷ 55 ∷ 50 ∷ 57 ∷ 53 ∷ []) ≡ Some (Of (asks.Block 0x104b 4294967295)))
    × (question_of (117 ∷ 115 ∷ 101 ∷ 100 ∷ []) ≡ Some (Of asks.Used))
    × (question_of (97 ∷ 116 ∷ 116 ∷ 114 ∷ 9 ∷ 49 ∷ 48 ∷ 52 ∷ 66 ∷ []) ≡ Some (Of (asks.Attribute 0x104b)))
    × (question_of (114 ∷ 111 ∷ 111 ∷ 109 ∷ 9 ∷ 52 ∷ 48 ∷ 57 ∷ 54 ∷ []) ≡ Some (Room 4096))
    × (question_of (97 ∷ 114 ∷ 101 ∷ 110 ∷ 97 ∷ 9 ∷ 54 ∷ 53 ∷ 53 ∷ 51 ∷ 54 ∷ []) ≡ Some (Arena 65536))
unfolding question_of message_asked bytes_asked card_asked lists_asked stored_asked lent_asked list_line block_question code_line codes_line bytes_line room_line arena_line form named same_bytes split hex16 codes_field hex_field grouped decimal plain up_to spelt digits digit_of is_between
question_rows = (refl, refl, refl, refl, refl, refl, refl, refl, refl, refl, refl, refl, refl, refl, refl)

-- Messages, codes and lists with a malformed field, and with a field too few or too many.
pub unknown_rows
    : (question_of (105 ∷ 110 ∷ 102 ∷ 111 ∷ 9 ∷ 49 ∷ 48 ∷ 48 ∷ 48 ∷ 49 ∷ 48 ∷ 52 ∷ []) ≡ None)
    × (question_of (105 ∷ 110 ∷ 102 ∷ 111 ∷ []) ≡ None)
    × (question_of (114 ∷ 101 ∷ 97 ∷ 100 ∷ 108 ∷ 105 ∷ 115 ∷ 116 ∷ 9 ∷ 48 ∷ []) ≡ None)
    × (question_of (114 ∷ 101 ∷ 97 ∷ 100 ∷ 108 ∷ 105 ∷ 115 ∷ 116 ∷ []) ≡ None)
    × (question_of (114 ∷ 101 ∷ 97 ∷ 100 ∷ 105 ∷ 110 ∷ 102 ∷ 111 ∷ 9 ∷ 48 ∷ 71 ∷ []) ≡ None)
    × (question_of (114 ∷ 101 ∷ 97 ∷ 100 ∷ 105 ∷ 110 ∷ 102 ∷ 111 ∷ 9 ∷ 48 ∷ 48 ∷ 9 ∷ []) ≡ None)
    × (question_of (116 ∷ 111 ∷ 116 ∷ 97 ∷ 108 ∷ 9 ∷ 49 ∷ 48 ∷ 48 ∷ 48 ∷ 32 ∷ []) ≡ None)
    × (question_of (116 ∷ 111 ∷ 116 ∷ 97 ∷ 108 ∷ []) ≡ None)
    × (question_of (118 ∷ 101 ∷ 114 ∷ 9 ∷ 102 ∷ 102 ∷ 102 ∷ 102 ∷ 70 ∷ []) ≡ None)
    × (question_of (118 ∷ 101 ∷ 114 ∷ 9 ∷ 70 ∷ 70 ∷ 70 ∷ 70 ∷ 9 ∷ []) ≡ None)
    × (question_of (100 ∷ 105 ∷ 114 ∷ 9 ∷ []) ≡ None)
    × (question_of (97 ∷ 114 ∷ 101 ∷ 97 ∷ 115 ∷ 9 ∷ 48 ∷ 48 ∷ 48 ∷ []) ≡ None)
    × (question_of (97 ∷ 114 ∷ 101 ∷ 97 ∷ 115 ∷ []) ≡ None)
    × (question_of (115 ∷ 118 ∷ 99 ∷ 115 ∷ 9 ∷ 49 ∷ 48 ∷ 52 ∷ 66 ∷ 9 ∷ []) ≡ None)
    × (question_of (115 ∷ 118 ∷ 99 ∷ 115 ∷ 9 ∷ 49 ∷ 48 ∷ 45 ∷ 66 ∷ []) ≡ None)
unfolding question_of message_asked bytes_asked card_asked lists_asked stored_asked lent_asked list_line block_question code_line codes_line bytes_line room_line arena_line form named same_bytes split hex16 codes_field hex_field grouped decimal plain up_to spelt digits digit_of is_between
unknown_rows = (refl, refl, refl, refl, refl, refl, refl, refl, refl, refl, refl, refl, refl, refl, refl)

-- Blocks, attributes and lengths likewise; a capital; and an empty line.
pub unknown_block_rows
    : (question_of (98 ∷ 108 ∷ 111 ∷ 99 ∷ 107 ∷ 9 ∷ 49 ∷ 48 ∷ 52 ∷ 66 ∷ []) ≡ None)
    × (question_of (98 ∷ 108 ∷ 111 ∷ 99 ∷ 107 ∷ 9 ∷ 49 ∷ 48 ∷ 52 ∷ 66 ∷ 9 ∷ 52 ∷ 50 ∷ 57 ∷ 52 ∷ 57 ∷ 54 ∷ 55 ∷ 50 ∷ 57 ∷ 54 ∷ []) ≡ None)
    × (question_of (98 ∷ 108 ∷ 111 ∷ 99 ∷ 107 ∷ 9 ∷ 49 ∷ 48 ∷ 52 ∷ 66 ∷ 9 ∷ 48 ∷ 48 ∷ []) ≡ None)
    × (question_of (117 ∷ 115 ∷ 101 ∷ 100 ∷ 9 ∷ []) ≡ None)
    × (question_of (97 ∷ 116 ∷ 116 ∷ 114 ∷ 9 ∷ 49 ∷ 48 ∷ 52 ∷ []) ≡ None)
    × (question_of (97 ∷ 116 ∷ 116 ∷ 114 ∷ []) ≡ None)
    × (question_of (114 ∷ 111 ∷ 111 ∷ 109 ∷ 9 ∷ 52 ∷ 48 ∷ 57 ∷ 55 ∷ []) ≡ None)
    × (question_of (114 ∷ 111 ∷ 111 ∷ 109 ∷ []) ≡ None)
    × (question_of (97 ∷ 114 ∷ 101 ∷ 110 ∷ 97 ∷ 9 ∷ 54 ∷ 53 ∷ 53 ∷ 51 ∷ 55 ∷ []) ≡ None)
    × (question_of (97 ∷ 114 ∷ 101 ∷ 110 ∷ 97 ∷ 9 ∷ 49 ∷ 9 ∷ 49 ∷ []) ≡ None)
    × (question_of (76 ∷ 105 ∷ 115 ∷ 116 ∷ 9 ∷ 49 ∷ 48 ∷ 48 ∷ 48 ∷ 9 ∷ 48 ∷ []) ≡ None)
    × (question_of [] ≡ None)
unfolding question_of message_asked bytes_asked card_asked lists_asked stored_asked lent_asked list_line block_question code_line codes_line bytes_line room_line arena_line form named same_bytes split hex16 codes_field hex_field grouped decimal plain up_to spelt digits digit_of is_between
unknown_block_rows = (refl, refl, refl, refl, refl, refl, refl, refl, refl, refl, refl, refl)
