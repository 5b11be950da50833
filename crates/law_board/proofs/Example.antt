-- A board, a late redraw of lane 3, and the board again: computed by the definitions, and by the laws. Assumes nothing.
use Prim.Native.Nat.{ℕ}
use native.Mathlib.Omega.{arith}
use mathlib.Core.Path.{◌≡◌, refl}
use mathlib.Core.Bool.{false, false≢true}
use mathlib.Core.List.{List, [], ◌∷◌, ◌++◌, map}
use lib.ListN.{replicate}
use Rattle.service_code.specs.Code.{number_of, attributes_of, table_of, decoded_of, attribute_of, code_kind_of, requires_key}
use Rattle.block_list.specs.Element.{unpack_at, ends_from, ends_after, elements_from}
use Rattle.byte_parts.specs.Part.{part, put}
use Rattle.text_fields.specs.Field.{split}
use Rattle.text_numbers.specs.Digit.{is_between, digit_of, digits, spelt}
use Rattle.text_numbers.specs.Hex.{grouped, hex_field, pairs, unhex}
use Rattle.text_numbers.specs.Codes.{hex16, codes_field, codes_of}
use Rattle.text_numbers.specs.Decimal.{plain, up_to, decimal, digits_of, dec_text}
use Rattle.card_nodes.specs.Find.{first_from, open_at, parent_from}
use Rattle.card_admit.specs.Admit.{is_depth, parent_at, outside, service_under, same_kind, joined_to, usable, new_store, may_join, placed_of}
use Rattle.card_sound.specs.Sound.{is_root, all_roots, step_of, steps_from, steps_of, sound_of}
use Rattle.card_build.specs.declared.card.Card.{Card}
use Rattle.card_build.specs.Card.{system_of, new_card}
use Rattle.card_build.specs.Grow.{add_service}
use Rattle.card_laws.specs.Built.{Built, new, service}
use Rattle.card_laws.proofs.Laid.{sized}
use Rattle.request_check.specs.Row.{row_of}
use Rattle.request_check.specs.Check.{mode_allowed, attribute_check, service_check, row_check, element_check, checked_from}
use Rattle.request_rules.specs.Lens.{back, within}
use Rattle.request_rules.specs.Rules.{element_by, end_by, on_store}
use Rattle.request_runs.specs.Runs.{then, push, runs_of, scan, walk}
use Rattle.request_runs.specs.Staged.{staged}
use Rattle.request_plan.specs.Plan.{write_judged, read_judged, judged_with, plan_of}
use Rattle.request_plan.specs.Serve.{blocks_read, committed, carried, serve}
use Rattle.line_request.specs.Ask.{is_letter, is_either, request_line, shaped, is_write, ask_of}
use Rattle.line_serve.specs.Line.{line_served}
use Rattle.law_terminals.specs.Orders.{after}
use Rattle.law_terminals.specs.Last.{Redrawn}
use Rattle.board_lanes.specs.Board.{is_empty, are_crew, filled_judged, lane_judged, lanes_judged, same_race, of_race, one_race, races_judged, board_judged, crew_length, lane_of, lanes_from}
use Rattle.board_line.specs.Text.{lanes_text}
use Rattle.board_read.specs.Refresh.{board_request, refreshed}
use Rattle.board_line.specs.Line.{board_line, board_code, board_line_text}
use Rattle.replay_state.specs.declared.Phase.TheVariants.{Requests}
use Rattle.replay_state.specs.Phases.{one_more}
use Rattle.replay_kind.specs.Kind.{image_kind, request_kind, taken_for}
use Rattle.replay_line.specs.Replay.{Held, held, line_held, line_text}
use Rattle.law_lines.specs.Lines.{Without, none, kept, dropped, held_after, NoPart}
use Rattle.law_board.specs.Redraw.{request_in, Prints}
use Rattle.law_lines.proofs.Lines.{no_earlier_part}
use Rattle.law_board.proofs.Redraw.{line-shows}

-- lanes, a random store of eight blocks, number 41h, with the tower's read-only service
abbrev marshals : Card
marshals = (add_service (new_card (system_of 1 0 false)) 128 1 0x1049 8 0).card

abbrev pub card : Card
card = (add_service marshals 128 1 0x104b 8 0).card

pub built : Built card
unfolding add_service placed_of is_depth parent_at parent_from open_at first_from service_under outside same_kind joined_to usable new_store may_join number_of attributes_of table_of decoded_of attribute_of code_kind_of
built = service {c = marshals} 128 1 0x104b 8 0 (service {c = new_card (system_of 1 0 false)} 128 1 0x1049 8 0 (new (system_of 1 0 false)) refl) refl

-- race 7: `LEANDER` in lane 1, `MOLESEY` in lane 3 and, redrawn, `THAMES`
abbrev leander : List ℕ
leander = (1 ∷ 7 ∷ 0 ∷ 76 ∷ 69 ∷ 65 ∷ 78 ∷ 68 ∷ 69 ∷ 82 ∷ 32 ∷ 32 ∷ 32 ∷ 32 ∷ 32 ∷ 0 ∷ [])

abbrev molesey : List ℕ
molesey = (3 ∷ 7 ∷ 0 ∷ 77 ∷ 79 ∷ 76 ∷ 69 ∷ 83 ∷ 69 ∷ 89 ∷ 32 ∷ 32 ∷ 32 ∷ 32 ∷ 32 ∷ 0 ∷ [])

abbrev pub thames : List ℕ
thames = (3 ∷ 7 ∷ 0 ∷ 84 ∷ 72 ∷ 65 ∷ 77 ∷ 69 ∷ 83 ∷ 32 ∷ 32 ∷ 32 ∷ 32 ∷ 32 ∷ 32 ∷ 0 ∷ [])

abbrev pub arena : List ℕ
arena = leander ++ replicate 16 0 ++ molesey ++ replicate 80 0

-- the lines: `L` 104B; `W` to lane 3, open, by 1049; `R` of lane 3, open, by 104B
abbrev pub refresh : List ℕ
refresh = (76 ∷ 9 ∷ 49 ∷ 48 ∷ 52 ∷ 66 ∷ [])

abbrev redraw : List ℕ
redraw =
    (87 ∷ 9 ∷ 79 ∷ 9 ∷ 49 ∷ 48 ∷ 52 ∷ 57 ∷ 9 ∷ 49 ∷ 9 ∷ 56 ∷ 48 ∷ 48 ∷ 50 ∷ 9 ∷ 48 ∷ 51 ∷ 48 ∷ 55 ∷ 48 ∷ 48 ∷ 53 ∷ 52 ∷ 52 ∷ 56 ∷ 52 ∷ 49 ∷ 52 ∷ 68 ∷ 52 ∷ 53 ∷ 53 ∷ 51 ∷ 50 ∷ 48 ∷ 50 ∷ 48 ∷ 50 ∷ 48 ∷ 50 ∷ 48 ∷ 50 ∷ 48 ∷ 50 ∷ 48 ∷ 48 ∷ 48 ∷ [])

abbrev look : List ℕ
look = (82 ∷ 9 ∷ 79 ∷ 9 ∷ 49 ∷ 48 ∷ 52 ∷ 66 ∷ 9 ∷ 49 ∷ 9 ∷ 56 ∷ 48 ∷ 48 ∷ 50 ∷ [])

-- the boards: lanes 1 and 3 are filled, and lane 3 is `MOLESEY`; then it is `THAMES`
abbrev pub first : List ℕ
first =
    (49 ∷ 9 ∷ 55 ∷ 9 ∷ 76 ∷ 69 ∷ 65 ∷ 78 ∷ 68 ∷ 69 ∷ 82 ∷ 10 ∷ 50 ∷ 9 ∷ 45 ∷ 9 ∷ 45 ∷ 10 ∷ 51 ∷ 9 ∷ 55 ∷ 9 ∷ 77 ∷ 79 ∷ 76 ∷ 69 ∷ 83 ∷ 69 ∷ 89 ∷ 10 ∷ 52 ∷ 9 ∷ 45 ∷ 9 ∷ 45 ∷ 10 ∷ 53 ∷ 9 ∷ 45 ∷ 9 ∷ 45 ∷ 10 ∷ 54 ∷ 9 ∷ 45 ∷ 9 ∷ 45 ∷ 10 ∷ 55 ∷ 9 ∷ 45 ∷ 9 ∷ 45 ∷ 10 ∷ 56 ∷ 9 ∷ 45 ∷ 9 ∷ 45 ∷ 10 ∷ [])

abbrev pub second : List ℕ
second =
    (49 ∷ 9 ∷ 55 ∷ 9 ∷ 76 ∷ 69 ∷ 65 ∷ 78 ∷ 68 ∷ 69 ∷ 82 ∷ 10 ∷ 50 ∷ 9 ∷ 45 ∷ 9 ∷ 45 ∷ 10 ∷ 51 ∷ 9 ∷ 55 ∷ 9 ∷ 84 ∷ 72 ∷ 65 ∷ 77 ∷ 69 ∷ 83 ∷ 10 ∷ 52 ∷ 9 ∷ 45 ∷ 9 ∷ 45 ∷ 10 ∷ 53 ∷ 9 ∷ 45 ∷ 9 ∷ 45 ∷ 10 ∷ 54 ∷ 9 ∷ 45 ∷ 9 ∷ 45 ∷ 10 ∷ 55 ∷ 9 ∷ 45 ∷ 9 ∷ 45 ∷ 10 ∷ 56 ∷ 9 ∷ 45 ∷ 9 ∷ 45 ∷ 10 ∷ [])

-- the state that takes the lines
abbrev start : Held
start = held (record { card = card; phase = Requests; lines = 3; asked = 0 }) arena

-- the board; the board after the redraw and a read; and once more after that
abbrev Printed : Type 0
Printed =
    (line_text start refresh ≡ first)
    × (line_text (held_after start (refresh ∷ redraw ∷ look ∷ [])) refresh ≡ second)
    × (line_text (held_after start (refresh ∷ redraw ∷ look ∷ refresh ∷ [])) refresh ≡ second)

-- without the refreshes ahead of it the last one prints the same; without the write it does not
abbrev Lighter : Type 0
Lighter =
    (line_text (held_after start (redraw ∷ look ∷ [])) refresh ≡ second)
    × (line_text (held_after start (refresh ∷ look ∷ refresh ∷ [])) refresh ≡ first)

-- these lines are ones of the law
abbrev IsRedrawn : Type 0
IsRedrawn = Redrawn card 0x41 2 thames arena (request_in redraw) (map request_in (look ∷ refresh ∷ [])) (board_request 0x104b 128)

computed : Printed × Lighter × IsRedrawn
unfolding add_service placed_of is_depth parent_at parent_from open_at first_from service_under outside same_kind joined_to usable new_store may_join number_of attributes_of table_of decoded_of attribute_of code_kind_of requires_key unpack_at ends_from ends_after elements_from part put is_root all_roots step_of steps_from steps_of sound_of row_of mode_allowed attribute_check service_check row_check element_check checked_from then push runs_of scan walk back within element_by end_by on_store staged write_judged read_judged judged_with plan_of blocks_read committed carried serve split hex16 codes_field codes_of plain up_to decimal digits_of dec_text is_between digit_of digits spelt grouped hex_field pairs unhex is_letter is_either request_line shaped is_write ask_of line_served after is_empty are_crew filled_judged lane_judged lanes_judged same_race of_race one_race races_judged board_judged crew_length lane_of lanes_from lanes_text refreshed board_line board_code board_line_text image_kind request_kind taken_for line_held line_text one_more held_after request_in
computed = (
  (refl, refl, refl),
  (refl, refl),
  record {
    write = refl;
    written = refl;
    brings = record {
      place = 0;
      names = record { listed = omega arith; number = refl; block = refl };
      last = λ j l m. let h = m.listed in omega arith;
      random = refl;
      bytes = refl;
    };
    quiet = (λ t e i n. absurd (false≢true t), (λ t e i n. absurd (false≢true t), tt));
    read = refl;
    answered = refl;
  },
)

-- so by the law the last refresh shows in lane 3 what the redraw brought
shown : Prints (held_after start (redraw ∷ look ∷ refresh ∷ [])) refresh 0x104b 2 thames
unfolding number_of split is_between digit_of digits spelt hex16 is_letter board_line board_code
shown =
    line-shows start (sized built).long 0x41 2 thames redraw (look ∷ refresh ∷ []) refresh 0x104b tt refl (omega arith) refl
    computed.2

-- the lines with two refreshes left out; a write is not left out
without : Without (refresh ∷ redraw ∷ look ∷ refresh ∷ []) (redraw ∷ look ∷ []) × (Without (redraw ∷ []) [] → ⊥)
unfolding split is_letter board_line
without = (dropped refresh refl (kept redraw (kept look (dropped refresh refl none))), only-board)
  where
    only-board : Without (redraw ∷ []) [] → ⊥
    only-board (dropped line b w) = false≢true b

-- so by the law they leave the card and the arena the same, and the next refresh shows the same
unmoved : NoPart (held_after start (refresh ∷ redraw ∷ look ∷ refresh ∷ [])) (held_after start (redraw ∷ look ∷ []))
unmoved = no_earlier_part start _ _ tt tt without.0
