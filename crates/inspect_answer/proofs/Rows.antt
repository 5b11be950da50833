-- What is answered to each question, as antt computes it. Assumes nothing.
use Prim.Native.Nat.{ℕ}
use mathlib.Core.Path.{◌≡◌, refl}
use mathlib.Core.Bool.{false}
use mathlib.Core.List.{List, [], ◌∷◌, ◌++◌}
use lib.ListN.{replicate}
use Rattle.service_code.specs.Code.{number_of, attributes_of, table_of, decoded_of, attribute_of, code_kind_of, requires_key}
use Rattle.byte_parts.specs.Half.{half_bytes, half_at}
use Rattle.byte_parts.specs.Part.{part, padded}
use Rattle.text_fields.specs.Field.{split}
use Rattle.text_numbers.specs.Digit.{is_between, digit_of, digits, spelt}
use Rattle.text_numbers.specs.Hex.{grouped, pairs, unhex, capital, to_hex, hex_text}
use Rattle.text_numbers.specs.Codes.{codes_of}
use Rattle.text_numbers.specs.Decimal.{digits_of, dec_text}
use Rattle.text_print.specs.Print.{high_first}
use Rattle.node_messages.specs.Numbers.{numbers_bytes, numbers_in}
use Rattle.node_messages.specs.Message.{message_put}
use Rattle.node_messages.specs.CodeList.{code_list_bytes, is_counted, is_code_list, read_code_list}
use Rattle.node_messages.specs.Information.{information_bytes, is_information, read_information}
use Rattle.card_nodes.specs.Find.{first_from, open_at, parent_from}
use Rattle.card_admit.specs.Admit.{is_depth, parent_at, root_misfit, outside, out_of_range, codes_misfit, range_under, area_under, area_judged, service_under, same_kind, joined_to, usable, new_store, may_join, placed_of}
use Rattle.card_sound.specs.Sound.{is_root, all_roots, step_of, steps_from, steps_of, sound_of}
use Rattle.card_build.specs.declared.card.Card.{Card}
use Rattle.card_build.specs.Card.{system_of, new_card}
use Rattle.card_build.specs.Grow.{add_area, add_service}
use Rattle.card_laws.specs.Under.{span_under, sum_under}
use Rattle.card_laws.specs.Children.{area_named, children_under}
use Rattle.card_questions.specs.Directory.{pairs_under, directory_of, listed_of, listing_of, directory_answer}
use Rattle.card_questions.specs.ListingWorded.{pairs_of}
use Rattle.card_questions.specs.Keys.{version_of, area_or_system, all_areas, area_list_of, list_node_of, all_known, any_keyed, in_order, service_list_of, version_answer, area_list_answer, service_list_answer}
use Rattle.card_questions.specs.Total.{total_of, total_answer}
use Rattle.card_lists.specs.Packet as packets
use Rattle.card_lists.specs.Packet.{past_end, more_after, packet_told, code_list_of, code_list_put}
use Rattle.card_lists.specs.Information.{blocks_told, blocks_put}
use Rattle.request_check.specs.Row.{row_of}
use Rattle.request_block.specs.Block.{block_judged, stored_block}
use Rattle.inspect_ask.specs.declared.Asked.{Asked}
use Rattle.inspect_ask.specs.declared.Asked.TheVariants as asks
use Rattle.inspect_fields.specs.Attribute.{attribute_fields}
use Rattle.inspect_fields.specs.Fields.{refusal_told, read_list_fields, read_info_fields}
use Rattle.inspect_answer.specs.Fields.{list_fields, info_fields, directory_fields}
use Rattle.inspect_answer.specs.Answer.{told_text, unknown_text}

-- area 1040 to 10BF, version 0034, on a card of version 0012, with lanes of two blocks, 1049, and their read-only service, 104B
abbrev lanes : Card
lanes = (add_service (add_area (new_card (system_of 1 0x12 false)) 1 0x1040 0x10bf 0x34).card 48 2 0x1049 2 0).card

abbrev card : Card
card = (add_service lanes 48 2 0x104b 2 0).card

-- a card that was not built: it counts no node
abbrev unbuilt : Card
unbuilt = record { nodes = card.nodes; count = 0; used = 0; system = card.system }

-- three blocks, the second of them `LANE 2`
abbrev arena : List ℕ
arena = replicate 16 0 ++ (76 ∷ 65 ∷ 78 ∷ 69 ∷ 32 ∷ 50 ∷ []) ++ replicate 26 0

-- The answers: two packets, information on three nodes, messages read, totals, versions, pairs, whether lists are well formed, a block and
-- one that is not there, the blocks in use, an attribute.
abbrev Answers : Type 0
Answers =
    (told_text card arena 48 4096 [] (asks.List 0 0) ≡ 108 ∷ 105 ∷ 115 ∷ 116 ∷ 9 ∷ 48 ∷ 48 ∷ 48 ∷ 49 ∷ 52 ∷ 48 ∷ 49 ∷ 48 ∷ 66 ∷ 70 ∷ 49 ∷ 48 ∷ 48 ∷ 48 ∷ 10 ∷ [])
    × (told_text card arena 48 4096 [] (asks.List 0x1040 0) ≡ 108 ∷ 105 ∷ 115 ∷ 116 ∷ 9 ∷ 48 ∷ 48 ∷ 48 ∷ 48 ∷ 48 ∷ 50 ∷ 52 ∷ 57 ∷ 49 ∷ 48 ∷ 52 ∷ 66 ∷ 49 ∷ 48 ∷ 10 ∷ [])
    × (told_text card arena 48 4096 (105 ∷ 110 ∷ 102 ∷ 111 ∷ 9 ∷ 49 ∷ 48 ∷ 52 ∷ 48 ∷ 49 ∷ 48 ∷ 52 ∷ 57 ∷ 70 ∷ 70 ∷ 70 ∷ 70 ∷ []) asks.Info ≡ 105 ∷ 110 ∷ 102 ∷ 111 ∷ 9 ∷ 48 ∷ 51 ∷ 48 ∷ 52 ∷ 48 ∷ 48 ∷ 48 ∷ 50 ∷ 48 ∷ 48 ∷ 48 ∷ 48 ∷ 48 ∷ 48 ∷ 48 ∷ 49 ∷ 48 ∷ 48 ∷ 48 ∷ 48 ∷ 48 ∷ 48 ∷ 48 ∷ 48 ∷ 48 ∷ 48 ∷ 10 ∷ [])
    × (told_text card arena 48 4096 (114 ∷ 101 ∷ 97 ∷ 100 ∷ 108 ∷ 105 ∷ 115 ∷ 116 ∷ 9 ∷ 48 ∷ 48 ∷ 48 ∷ 48 ∷ 48 ∷ 50 ∷ 52 ∷ 57 ∷ 49 ∷ 48 ∷ 52 ∷ 66 ∷ 49 ∷ 48 ∷ []) asks.ReadList ≡ 114 ∷ 101 ∷ 97 ∷ 100 ∷ 108 ∷ 105 ∷ 115 ∷ 116 ∷ 9 ∷ 48 ∷ 9 ∷ 45 ∷ 9 ∷ 49 ∷ 48 ∷ 52 ∷ 57 ∷ 49 ∷ 48 ∷ 52 ∷ 66 ∷ 10 ∷ [])
    × (told_text card arena 48 4096 (114 ∷ 101 ∷ 97 ∷ 100 ∷ 105 ∷ 110 ∷ 102 ∷ 111 ∷ 9 ∷ 48 ∷ 49 ∷ 48 ∷ 52 ∷ 48 ∷ 48 ∷ 48 ∷ 49 ∷ 48 ∷ 48 ∷ []) asks.ReadInfo ≡ 114 ∷ 101 ∷ 97 ∷ 100 ∷ 105 ∷ 110 ∷ 102 ∷ 111 ∷ 9 ∷ 48 ∷ 48 ∷ 48 ∷ 52 ∷ 9 ∷ 48 ∷ 48 ∷ 48 ∷ 49 ∷ 10 ∷ [])
    × (told_text card arena 48 4096 [] (asks.Total 0x1040) ≡ 116 ∷ 111 ∷ 116 ∷ 97 ∷ 108 ∷ 9 ∷ 52 ∷ 10 ∷ [])
    × (told_text card arena 48 4096 [] (asks.Total 0x2000) ≡ 116 ∷ 111 ∷ 116 ∷ 97 ∷ 108 ∷ 9 ∷ 48 ∷ 10 ∷ [])
    × (told_text card arena 48 4096 [] (asks.Version 0x1040) ≡ 118 ∷ 101 ∷ 114 ∷ 9 ∷ 48 ∷ 48 ∷ 51 ∷ 52 ∷ 10 ∷ [])
    × (told_text card arena 48 4096 [] (asks.Version 0xffff) ≡ 118 ∷ 101 ∷ 114 ∷ 9 ∷ 48 ∷ 48 ∷ 49 ∷ 50 ∷ 10 ∷ [])
    × (told_text card arena 48 4096 [] (asks.Version 0x2000) ≡ 118 ∷ 101 ∷ 114 ∷ 9 ∷ 70 ∷ 70 ∷ 70 ∷ 70 ∷ 10 ∷ [])
    × (told_text card arena 48 4096 [] asks.Directory ≡ 100 ∷ 105 ∷ 114 ∷ 9 ∷ 48 ∷ 48 ∷ 48 ∷ 48 ∷ 70 ∷ 70 ∷ 70 ∷ 69 ∷ 49 ∷ 48 ∷ 52 ∷ 48 ∷ 49 ∷ 48 ∷ 66 ∷ 70 ∷ 49 ∷ 48 ∷ 52 ∷ 57 ∷ 70 ∷ 70 ∷ 70 ∷ 70 ∷ 49 ∷ 48 ∷ 52 ∷ 66 ∷ 70 ∷ 70 ∷ 70 ∷ 70 ∷ 10 ∷ [])
    × (told_text card arena 48 4096 (97 ∷ 114 ∷ 101 ∷ 97 ∷ 115 ∷ 9 ∷ 49 ∷ 48 ∷ 52 ∷ 48 ∷ 70 ∷ 70 ∷ 70 ∷ 70 ∷ []) asks.Areas ≡ 97 ∷ 114 ∷ 101 ∷ 97 ∷ 115 ∷ 9 ∷ 121 ∷ 101 ∷ 115 ∷ 10 ∷ [])
    × (told_text card arena 48 4096 (97 ∷ 114 ∷ 101 ∷ 97 ∷ 115 ∷ 9 ∷ 70 ∷ 70 ∷ 70 ∷ 70 ∷ []) asks.Areas ≡ 97 ∷ 114 ∷ 101 ∷ 97 ∷ 115 ∷ 9 ∷ 110 ∷ 111 ∷ 10 ∷ [])
    × (told_text card arena 48 4096 (115 ∷ 118 ∷ 99 ∷ 115 ∷ 9 ∷ 49 ∷ 48 ∷ 52 ∷ 48 ∷ 49 ∷ 48 ∷ 52 ∷ 57 ∷ []) asks.Services ≡ 115 ∷ 118 ∷ 99 ∷ 115 ∷ 9 ∷ 121 ∷ 101 ∷ 115 ∷ 10 ∷ [])
    × (told_text card arena 48 4096 (115 ∷ 118 ∷ 99 ∷ 115 ∷ 9 ∷ 49 ∷ 48 ∷ 52 ∷ 57 ∷ []) asks.Services ≡ 115 ∷ 118 ∷ 99 ∷ 115 ∷ 9 ∷ 110 ∷ 111 ∷ 10 ∷ [])
    × (told_text card arena 48 4096 [] (asks.Block 0x1049 1) ≡ 98 ∷ 108 ∷ 111 ∷ 99 ∷ 107 ∷ 9 ∷ 52 ∷ 67 ∷ 52 ∷ 49 ∷ 52 ∷ 69 ∷ 52 ∷ 53 ∷ 50 ∷ 48 ∷ 51 ∷ 50 ∷ 48 ∷ 48 ∷ 48 ∷ 48 ∷ 48 ∷ 48 ∷ 48 ∷ 48 ∷ 48 ∷ 48 ∷ 48 ∷ 48 ∷ 48 ∷ 48 ∷ 48 ∷ 48 ∷ 48 ∷ 48 ∷ 48 ∷ 48 ∷ 10 ∷ [])
    × (told_text card arena 48 4096 [] (asks.Block 0x1049 2) ≡ 98 ∷ 108 ∷ 111 ∷ 99 ∷ 107 ∷ 9 ∷ 45 ∷ 10 ∷ [])
    × (told_text card arena 48 4096 [] asks.Used ≡ 117 ∷ 115 ∷ 101 ∷ 100 ∷ 9 ∷ 50 ∷ 10 ∷ [])
    × (told_text card arena 48 4096 [] (asks.Attribute 0x1049) ≡ 97 ∷ 116 ∷ 116 ∷ 114 ∷ 9 ∷ 54 ∷ 53 ∷ 9 ∷ 114 ∷ 97 ∷ 110 ∷ 100 ∷ 111 ∷ 109 ∷ 9 ∷ 114 ∷ 101 ∷ 97 ∷ 100 ∷ 45 ∷ 119 ∷ 114 ∷ 105 ∷ 116 ∷ 101 ∷ 9 ∷ 102 ∷ 114 ∷ 101 ∷ 101 ∷ 10 ∷ [])

-- What is refused: packets past the end, however large their number, with 45; a service and FFFF as parents with 44; outputs that are a
-- byte too short with 5, and those that just do; a short arena with 7, 33 nodes with 46, and 7 ahead of 46; no message with 47; and no block.
abbrev Refusals : Type 0
Refusals =
    (told_text card arena 48 4096 [] (asks.List 0x1040 1) ≡ 108 ∷ 105 ∷ 115 ∷ 116 ∷ 9 ∷ 33 ∷ 9 ∷ 52 ∷ 53 ∷ 10 ∷ [])
    × (told_text card arena 48 4096 [] (asks.List 0x1040 256) ≡ 108 ∷ 105 ∷ 115 ∷ 116 ∷ 9 ∷ 33 ∷ 9 ∷ 52 ∷ 53 ∷ 10 ∷ [])
    × (told_text card arena 48 4096 [] (asks.List 0x1040 65536) ≡ 108 ∷ 105 ∷ 115 ∷ 116 ∷ 9 ∷ 33 ∷ 9 ∷ 52 ∷ 53 ∷ 10 ∷ [])
    × (told_text card arena 48 4096 [] (asks.List 0x1040 4294967295) ≡ 108 ∷ 105 ∷ 115 ∷ 116 ∷ 9 ∷ 33 ∷ 9 ∷ 52 ∷ 53 ∷ 10 ∷ [])
    × (told_text card arena 48 4096 [] (asks.List 0x1049 0) ≡ 108 ∷ 105 ∷ 115 ∷ 116 ∷ 9 ∷ 33 ∷ 9 ∷ 52 ∷ 52 ∷ 10 ∷ [])
    × (told_text card arena 48 4096 [] (asks.List 0xffff 0) ≡ 108 ∷ 105 ∷ 115 ∷ 116 ∷ 9 ∷ 33 ∷ 9 ∷ 52 ∷ 52 ∷ 10 ∷ [])
    × (told_text card arena 48 6 [] (asks.List 0x1040 0) ≡ 108 ∷ 105 ∷ 115 ∷ 116 ∷ 9 ∷ 33 ∷ 9 ∷ 53 ∷ 10 ∷ [])
    × (told_text card arena 48 7 [] (asks.List 0x1040 0) ≡ 108 ∷ 105 ∷ 115 ∷ 116 ∷ 9 ∷ 48 ∷ 48 ∷ 48 ∷ 48 ∷ 48 ∷ 50 ∷ 52 ∷ 57 ∷ 49 ∷ 48 ∷ 52 ∷ 66 ∷ 49 ∷ 48 ∷ 10 ∷ [])
    × (told_text card arena 31 4096 (105 ∷ 110 ∷ 102 ∷ 111 ∷ 9 ∷ 49 ∷ 48 ∷ 52 ∷ 48 ∷ []) asks.Info ≡ 105 ∷ 110 ∷ 102 ∷ 111 ∷ 9 ∷ 33 ∷ 9 ∷ 55 ∷ 10 ∷ [])
    × (told_text card arena 48 4096 (105 ∷ 110 ∷ 102 ∷ 111 ∷ 9 ∷ replicate 132 48) asks.Info ≡ 105 ∷ 110 ∷ 102 ∷ 111 ∷ 9 ∷ 33 ∷ 9 ∷ 52 ∷ 54 ∷ 10 ∷ [])
    × (told_text card arena 31 4096 (105 ∷ 110 ∷ 102 ∷ 111 ∷ 9 ∷ replicate 132 48) asks.Info ≡ 105 ∷ 110 ∷ 102 ∷ 111 ∷ 9 ∷ 33 ∷ 9 ∷ 55 ∷ 10 ∷ [])
    × (told_text card arena 48 4 (105 ∷ 110 ∷ 102 ∷ 111 ∷ 9 ∷ 49 ∷ 48 ∷ 52 ∷ 48 ∷ []) asks.Info ≡ 105 ∷ 110 ∷ 102 ∷ 111 ∷ 9 ∷ 33 ∷ 9 ∷ 53 ∷ 10 ∷ [])
    × (told_text card arena 48 15 [] asks.Directory ≡ 100 ∷ 105 ∷ 114 ∷ 9 ∷ 33 ∷ 9 ∷ 53 ∷ 10 ∷ [])
    × (told_text card arena 48 16 [] asks.Directory ≡ 100 ∷ 105 ∷ 114 ∷ 9 ∷ 48 ∷ 48 ∷ 48 ∷ 48 ∷ 70 ∷ 70 ∷ 70 ∷ 69 ∷ 49 ∷ 48 ∷ 52 ∷ 48 ∷ 49 ∷ 48 ∷ 66 ∷ 70 ∷ 49 ∷ 48 ∷ 52 ∷ 57 ∷ 70 ∷ 70 ∷ 70 ∷ 70 ∷ 49 ∷ 48 ∷ 52 ∷ 66 ∷ 70 ∷ 70 ∷ 70 ∷ 70 ∷ 10 ∷ [])
    × (told_text card arena 48 4096 (114 ∷ 101 ∷ 97 ∷ 100 ∷ 108 ∷ 105 ∷ 115 ∷ 116 ∷ 9 ∷ 48 ∷ 50 ∷ []) asks.ReadList ≡ 114 ∷ 101 ∷ 97 ∷ 100 ∷ 108 ∷ 105 ∷ 115 ∷ 116 ∷ 9 ∷ 33 ∷ 9 ∷ 52 ∷ 55 ∷ 10 ∷ [])
    × (told_text card arena 48 4096 (114 ∷ 101 ∷ 97 ∷ 100 ∷ 105 ∷ 110 ∷ 102 ∷ 111 ∷ 9 ∷ 45 ∷ []) asks.ReadInfo ≡ 114 ∷ 101 ∷ 97 ∷ 100 ∷ 105 ∷ 110 ∷ 102 ∷ 111 ∷ 9 ∷ 33 ∷ 9 ∷ 52 ∷ 55 ∷ 10 ∷ [])
    × (told_text card arena 31 4096 [] (asks.Block 0x1049 1) ≡ 98 ∷ 108 ∷ 111 ∷ 99 ∷ 107 ∷ 9 ∷ 45 ∷ 10 ∷ [])

-- Of a card that was not built, 8.
abbrev Unbuilt : Type 0
Unbuilt =
    (told_text unbuilt arena 48 4096 [] (asks.List 0 0) ≡ 108 ∷ 105 ∷ 115 ∷ 116 ∷ 9 ∷ 33 ∷ 9 ∷ 56 ∷ 10 ∷ [])
    × (told_text unbuilt arena 48 4096 (105 ∷ 110 ∷ 102 ∷ 111 ∷ 9 ∷ 49 ∷ 48 ∷ 52 ∷ 48 ∷ []) asks.Info ≡ 105 ∷ 110 ∷ 102 ∷ 111 ∷ 9 ∷ 33 ∷ 9 ∷ 56 ∷ 10 ∷ [])
    × (told_text unbuilt arena 48 4096 [] (asks.Total 0x1040) ≡ 116 ∷ 111 ∷ 116 ∷ 97 ∷ 108 ∷ 9 ∷ 33 ∷ 9 ∷ 56 ∷ 10 ∷ [])
    × (told_text unbuilt arena 48 4096 [] (asks.Version 0x1040) ≡ 118 ∷ 101 ∷ 114 ∷ 9 ∷ 33 ∷ 9 ∷ 56 ∷ 10 ∷ [])
    × (told_text unbuilt arena 48 4096 [] asks.Directory ≡ 100 ∷ 105 ∷ 114 ∷ 9 ∷ 33 ∷ 9 ∷ 56 ∷ 10 ∷ [])
    × (told_text unbuilt arena 48 4096 (97 ∷ 114 ∷ 101 ∷ 97 ∷ 115 ∷ 9 ∷ 48 ∷ 48 ∷ 48 ∷ 48 ∷ []) asks.Areas ≡ 97 ∷ 114 ∷ 101 ∷ 97 ∷ 115 ∷ 9 ∷ 33 ∷ 9 ∷ 56 ∷ 10 ∷ [])
    × (told_text unbuilt arena 48 4096 (115 ∷ 118 ∷ 99 ∷ 115 ∷ 9 ∷ 48 ∷ 48 ∷ 48 ∷ 48 ∷ []) asks.Services ≡ 115 ∷ 118 ∷ 99 ∷ 115 ∷ 9 ∷ 33 ∷ 9 ∷ 56 ∷ 10 ∷ [])
    × (told_text unbuilt arena 48 4096 [] (asks.Block 0x1049 0) ≡ 98 ∷ 108 ∷ 111 ∷ 99 ∷ 107 ∷ 9 ∷ 45 ∷ 10 ∷ [])
    × (told_text unbuilt arena 48 4096 [] asks.Used ≡ 117 ∷ 115 ∷ 101 ∷ 100 ∷ 9 ∷ 48 ∷ 10 ∷ [])

pub rows : Answers × Refusals × Unbuilt
unfolding told_text list_fields info_fields directory_fields refusal_told read_list_fields read_info_fields attribute_fields number_of attributes_of table_of decoded_of attribute_of code_kind_of requires_key half_bytes half_at part padded split is_between digit_of digits spelt grouped pairs unhex capital to_hex hex_text codes_of digits_of dec_text high_first numbers_bytes numbers_in message_put code_list_bytes is_counted is_code_list read_code_list information_bytes is_information read_information first_from open_at parent_from is_depth parent_at root_misfit outside out_of_range codes_misfit range_under area_under area_judged service_under same_kind joined_to usable new_store may_join placed_of is_root all_roots step_of steps_from steps_of sound_of add_area add_service span_under sum_under area_named children_under pairs_under directory_of listed_of listing_of directory_answer pairs_of version_of area_or_system all_areas area_list_of list_node_of all_known any_keyed in_order service_list_of version_answer area_list_answer service_list_answer total_of total_answer packets.among past_end more_after packet_told code_list_of code_list_put blocks_told blocks_put row_of block_judged stored_block
rows = (
  (refl, refl, refl, refl, refl, refl, refl, refl, refl, refl, refl, refl, refl, refl, refl, refl, refl, refl, refl),
  (refl, refl, refl, refl, refl, refl, refl, refl, refl, refl, refl, refl, refl, refl, refl, refl, refl),
  (refl, refl, refl, refl, refl, refl, refl, refl, refl),
)

-- And a line that asks nothing that is known, with its number.
pub unknown_rows : (unknown_text 7 ≡ 63 ∷ 9 ∷ 55 ∷ 10 ∷ []) × (unknown_text 65536 ≡ 63 ∷ 9 ∷ 54 ∷ 53 ∷ 53 ∷ 51 ∷ 54 ∷ 10 ∷ [])
unfolding unknown_text dec_text digits_of
unknown_rows = (refl, refl)
