-- The board as it is printed: eight lines.
use Rattle.std.specs.Prelude.{ℕ, ◌+◌, List, [], ◌∷◌, ◌++◌}
use Rattle.byte_parts.specs.Letters.{dash, lf, tab}
use Rattle.text_numbers.specs.Decimal.{dec_text}
use Rattle.text_print.specs.Print.{closed}
use Rattle.board_lanes.specs.Board.{Lane, empty, filled}

-- lane, race and crew, parted by tabs (9) and ended by LF (10); an empty lane has `-` (45) twice
-- RULES 17.5
abbrev pub lane_text : ℕ → Lane → List ℕ
lane_text number empty = closed tab (dec_text number) ++ closed tab (dash ∷ []) ++ closed lf (dash ∷ [])
lane_text number (filled race crew) = closed tab (dec_text number) ++ closed tab (dec_text race) ++ closed lf crew

-- lane after lane, from a number on
-- RULES 17.5
unfoldable pub lanes_text : ℕ → List Lane → List ℕ
lanes_text number [] = []
lanes_text number (l ∷ ls) = lane_text number l ++ lanes_text (number + 1) ls

-- room for a board: eight lines of at most 21 bytes (lane, race of five digits, crew of twelve bytes, two tabs and LF), and in the last of
-- them two bytes more, since a number is put only where any number has room
abbrev pub most_board : ℕ
most_board = 170
