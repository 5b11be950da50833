-- Examples of what lines are taken for, as antt computes them. Assumes nothing.
use Rattle.std.proofs.Common.{Some, None}
use mathlib.Core.Path.{◌≡◌, refl}
use mathlib.Core.Bool.{true, false}
use mathlib.Core.List.{[], ◌∷◌}
use Rattle.byte_parts.specs.Part.{same_bytes}
use Rattle.text_fields.specs.Field.{split}
use Rattle.text_numbers.specs.Digit.{is_between, digit_of, digits, spelt}
use Rattle.text_numbers.specs.Hex.{grouped}
use Rattle.text_numbers.specs.Codes.{codes_field}
use Rattle.text_numbers.specs.Decimal.{plain, up_to, decimal}
use Rattle.line_fields.specs.Fields.{named, form}
use Rattle.line_image.specs.Line.{image_named}
use Rattle.line_request.specs.Ask.{is_letter, is_either, request_line}
use Rattle.board_line.specs.Line.{board_line}
use Rattle.replay_state.specs.declared.Phase.TheVariants.{First, Image, Requests, Ended}
use Rattle.replay_kind.specs.declared.Kind.TheVariants as kinds
use Rattle.inspect_ask.specs.declared.Asked.TheVariants as asks
use Rattle.inspect_ask.specs.declared.Question.TheVariants.{Of, Room, Arena}
use Rattle.inspect_ask.specs.Question.{codes_line, room_line, arena_line, lent_asked, stored_asked, lists_asked, card_asked, bytes_asked, message_asked, question_of}
use Rattle.inspect_sort.specs.declared.Sort.TheVariants as sorts
use Rattle.inspect_sort.specs.Sort.{later_sort, sort_of}

-- Line 1, whatever it says; each later line by its first field, ahead of the first request and after it alike: image lines, requests, a
-- refresh, questions, a field too many and an empty line; and a line after the end of the run.
pub sort_rows_lem
    : (sort_of First (117 ∷ 115 ∷ 101 ∷ 100 ∷ []) ≡ Some (sorts.Replayed (kinds.Image true)))
    × (sort_of First (82 ∷ []) ≡ Some (sorts.Replayed (kinds.Image true)))
    × (sort_of Image (99 ∷ 97 ∷ 114 ∷ 100 ∷ 9 ∷ 48 ∷ 48 ∷ 48 ∷ 49 ∷ 9 ∷ 48 ∷ 48 ∷ 48 ∷ 48 ∷ []) ≡ Some (sorts.Replayed (kinds.Image false)))
    × (sort_of Image (97 ∷ 114 ∷ 101 ∷ 97 ∷ []) ≡ Some (sorts.Replayed (kinds.Image false)))
    × (sort_of Image (115 ∷ 118 ∷ 99 ∷ []) ≡ Some (sorts.Replayed (kinds.Image false)))
    × (sort_of Image (108 ∷ 105 ∷ 109 ∷ []) ≡ Some (sorts.Replayed (kinds.Image false)))
    × (sort_of Image (98 ∷ 108 ∷ 107 ∷ []) ≡ Some (sorts.Replayed (kinds.Image false)))
    × (sort_of Image (82 ∷ []) ≡ Some (sorts.Replayed kinds.Request))
    × (sort_of Image (87 ∷ 9 ∷ 79 ∷ []) ≡ Some (sorts.Replayed kinds.Request))
    × (sort_of Image (76 ∷ []) ≡ Some (sorts.Replayed kinds.Board))
    × (sort_of Image (117 ∷ 115 ∷ 101 ∷ 100 ∷ []) ≡ Some (sorts.Asked (Some (Of asks.Used))))
    × (sort_of Image (115 ∷ 118 ∷ 99 ∷ 115 ∷ 9 ∷ 49 ∷ 48 ∷ 52 ∷ 57 ∷ []) ≡ Some (sorts.Asked (Some (Of asks.Services))))
    × (sort_of Requests (115 ∷ 118 ∷ 99 ∷ []) ≡ Some (sorts.Replayed (kinds.Image false)))
    × (sort_of Requests (82 ∷ []) ≡ Some (sorts.Replayed kinds.Request))
    × (sort_of Requests (76 ∷ []) ≡ Some (sorts.Replayed kinds.Board))
    × (sort_of Requests (114 ∷ 111 ∷ 111 ∷ 109 ∷ 9 ∷ 49 ∷ 54 ∷ []) ≡ Some (sorts.Asked (Some (Room 16))))
    × (sort_of Requests (97 ∷ 114 ∷ 101 ∷ 110 ∷ 97 ∷ 9 ∷ 51 ∷ 50 ∷ []) ≡ Some (sorts.Asked (Some (Arena 32))))
    × (sort_of Requests (117 ∷ 115 ∷ 101 ∷ 100 ∷ 9 ∷ []) ≡ Some (sorts.Asked None))
    × (sort_of Requests [] ≡ Some (sorts.Asked None))
    × (sort_of Ended (117 ∷ 115 ∷ 101 ∷ 100 ∷ []) ≡ None)
    × (sort_of Ended (82 ∷ []) ≡ None)
unfolding sort_of later_sort image_named request_line is_either is_letter board_line question_of message_asked bytes_asked card_asked lists_asked stored_asked lent_asked codes_line room_line arena_line form named same_bytes split codes_field grouped decimal plain up_to spelt digits digit_of is_between
sort_rows_lem = (refl, refl, refl, refl, refl, refl, refl, refl, refl, refl, refl, refl, refl, refl, refl, refl, refl, refl, refl, refl, refl)
