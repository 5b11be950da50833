-- A `blk` line, a service that is added, a refresh and the board: computed by the definitions, and by the law. Assumes nothing.
use Prim.Native.Nat.{ℕ}
use native.Mathlib.Omega.{arith}
use mathlib.Core.Path.{◌≡◌, refl}
use mathlib.Core.List.{List, [], ◌∷◌, ◌++◌}
use lib.ListN.{replicate}
use Rattle.service_code.specs.Code.{number_of, attributes_of, table_of, decoded_of, attribute_of, code_kind_of, requires_key}
use Rattle.block_list.specs.Element.{unpack_at, ends_from, ends_after, elements_from}
use Rattle.byte_parts.specs.Part.{part, put, same_bytes}
use Rattle.text_fields.specs.Field.{split}
use Rattle.text_numbers.specs.Digit.{is_between, digit_of, digits, spelt}
use Rattle.text_numbers.specs.Hex.{grouped, hex_field, pairs, unhex}
use Rattle.text_numbers.specs.Codes.{hex16}
use Rattle.text_numbers.specs.Decimal.{plain, up_to, decimal, digits_of, dec_text}
use Rattle.card_nodes.specs.Find.{first_from, open_at, parent_from}
use Rattle.card_admit.specs.Admit.{is_depth, parent_at, outside, service_under, same_kind, joined_to, usable, new_store, may_join, placed_of}
use Rattle.card_sound.specs.Sound.{is_root, all_roots, step_of, steps_from, steps_of, sound_of}
use Rattle.card_build.specs.Grow.{add_service}
use Rattle.card_build.specs.Build.{service_added, arena_added}
use Rattle.card_laws.proofs.Laid.{sized}
use Rattle.request_check.specs.Row.{row_of}
use Rattle.request_check.specs.Check.{mode_allowed, attribute_check, service_check, row_check, element_check, checked_from}
use Rattle.request_plan.specs.Plan.{read_judged, judged_with, plan_of}
use Rattle.request_plan.specs.Serve.{blocks_read, carried, serve}
use Rattle.request_block.specs.Block.{block_judged, arena_set}
use Rattle.line_fields.specs.Fields.{named, form}
use Rattle.line_image.specs.Line.{heading_of, service_line, hex32, block_line, image_named, later_line, image_line}
use Rattle.line_build.specs.Image.{image_step}
use Rattle.line_request.specs.Ask.{is_letter, is_either, request_line}
use Rattle.board_lanes.specs.Board.{is_empty, are_crew, filled_judged, lane_judged, lanes_judged, same_race, of_race, one_race, races_judged, board_judged, crew_length, lane_of, lanes_from}
use Rattle.board_line.specs.Text.{lanes_text}
use Rattle.board_read.specs.Refresh.{refreshed}
use Rattle.board_line.specs.Line.{board_line, board_code, board_line_text}
use Rattle.replay_state.specs.declared.Phase.TheVariants.{Image}
use Rattle.replay_state.specs.Phases.{one_more}
use Rattle.inspect_sort.specs.Sort.{later_sort, sort_of}
use Rattle.inspect_line.specs.Inspect.{Seen, seen, line_seen, line_said}
use Rattle.law_board.proofs.Example.{card, built, thames, arena, refresh, first, second}
use Rattle.law_inspect.specs.Looks.{line_deed, seen_after, LaneSaid}
use Rattle.law_inspect.proofs.Shows.{inspect-shows}

-- `blk` of lane 3, by 1049; and `svc` at depth 1, 1089, a store of one block
abbrev setting : List ℕ
setting = (98 ∷ 108 ∷ 107 ∷ 9 ∷ 49 ∷ 48 ∷ 52 ∷ 57 ∷ 9 ∷ 50 ∷ 9 ∷ 48 ∷ 51 ∷ 48 ∷ 55 ∷ 48 ∷ 48 ∷ 53 ∷ 52 ∷ 52 ∷ 56 ∷ 52 ∷ 49 ∷ 52 ∷ 68 ∷ 52 ∷ 53 ∷ 53 ∷ 51 ∷ 50 ∷ 48 ∷ 50 ∷ 48 ∷ 50 ∷ 48 ∷ 50 ∷ 48 ∷ 50 ∷ 48 ∷ 50 ∷ 48 ∷ 48 ∷ 48 ∷ [])

abbrev adding : List ℕ
adding = (115 ∷ 118 ∷ 99 ∷ 9 ∷ 49 ∷ 9 ∷ 49 ∷ 48 ∷ 56 ∷ 57 ∷ 9 ∷ 49 ∷ 9 ∷ 48 ∷ 48 ∷ 48 ∷ 48 ∷ [])

-- the state that takes the lines, with room for a block more
abbrev start : Seen
start = seen (record { replay = record { card = card; phase = Image; lines = 3; asked = 0 }; room = 4096; lent = 65536 }) (arena ++ replicate 16 0)

-- the board; and the board after the block was set, the service added and a refresh
abbrev Printed : Type 0
Printed = (line_said start refresh ≡ first) × (line_said (seen_after start (setting ∷ adding ∷ refresh ∷ [])) refresh ≡ second)

computed : Printed × LaneSaid (seen_after start (setting ∷ adding ∷ refresh ∷ [])) refresh 0x104b 2 thames
unfolding number_of attributes_of table_of decoded_of attribute_of code_kind_of requires_key unpack_at ends_from ends_after elements_from part put same_bytes split is_between digit_of digits spelt grouped hex_field pairs unhex hex16 plain up_to decimal digits_of dec_text first_from open_at parent_from is_depth parent_at outside service_under same_kind joined_to usable new_store may_join placed_of is_root all_roots step_of steps_from steps_of sound_of add_service service_added arena_added row_of mode_allowed attribute_check service_check row_check element_check checked_from read_judged judged_with plan_of blocks_read carried serve block_judged arena_set named form heading_of service_line hex32 block_line image_named later_line image_line image_step is_letter is_either request_line is_empty are_crew filled_judged lane_judged lanes_judged same_race of_race one_race races_judged board_judged crew_length lane_of lanes_from lanes_text refreshed board_line board_code board_line_text one_more later_sort sort_of line_seen line_said line_deed seen_after
computed = (
  (refl, refl),
  inspect-shows start (sized built).long 0x41 2 thames setting (adding ∷ refresh ∷ []) refresh 0x104b tt refl (refl, refl, refl, refl, refl)
      (λ e m. m, (λ e m. m, tt)) refl (omega arith) refl tt refl,
)
