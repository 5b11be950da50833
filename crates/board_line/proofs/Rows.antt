-- Examples of a board's lines, as antt computes them. Assumes nothing.
use mathlib.Core.Path.{◌≡◌, refl}
use mathlib.Core.List.{List, [], ◌∷◌, ◌++◌}
use lib.ListN.{replicate}
use Rattle.byte_parts.specs.Part.{part}
use Rattle.text_numbers.specs.Decimal.{digits_of, dec_text}
use Rattle.board_lanes.specs.Board.{is_empty, crew_length, lane_of}
use Rattle.board_line.specs.Text.{lanes_text}

-- `1 261 ABC`, where spaces follow the crew, `-` twice for lane 2, and `3 65535 ABCDEFGHIJKL`, a crew of twelve bytes.
pub line_rows
    : lanes_text 1 (lane_of (1 ∷ 5 ∷ 1 ∷ 65 ∷ 66 ∷ 67 ∷ replicate 9 32 ++ (0 ∷ [])) ∷ lane_of (replicate 16 0) ∷ [])
    ++ lanes_text 3 (lane_of (3 ∷ 255 ∷ 255 ∷ 65 ∷ 66 ∷ 67 ∷ 68 ∷ 69 ∷ 70 ∷ 71 ∷ 72 ∷ 73 ∷ 74 ∷ 75 ∷ 76 ∷ 0 ∷ []) ∷ [])
    ≡ 49 ∷ 9 ∷ 50 ∷ 54 ∷ 49 ∷ 9 ∷ 65 ∷ 66 ∷ 67 ∷ 10 ∷ 50 ∷ 9 ∷ 45 ∷ 9 ∷ 45 ∷ 10
    ∷ 51 ∷ 9 ∷ 54 ∷ 53 ∷ 53 ∷ 51 ∷ 53 ∷ 9 ∷ 65 ∷ 66 ∷ 67 ∷ 68 ∷ 69 ∷ 70 ∷ 71 ∷ 72 ∷ 73 ∷ 74 ∷ 75 ∷ 76 ∷ 10 ∷ []
unfolding part is_empty crew_length lane_of lanes_text dec_text digits_of
line_rows = refl
