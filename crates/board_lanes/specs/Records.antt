-- The board as records for a program.
use Rattle.std.specs.Prelude.{ℕ, ◌/◌, ◌%◌, List, [], ◌∷◌, ◌++◌, length, replicate}
use Rattle.byte_parts.specs.Part.{padded}
use Rattle.board_lanes.specs.Board.{Lane, empty, filled}

-- a filled lane's first four bytes: 1, the crew's length, the race low byte first
abbrev pub lane_head : ℕ → List ℕ → List ℕ
lane_head race crew = 1 ∷ length crew ∷ (race % 256) ∷ (race / 256) ∷ []

-- a lane's record: then the crew and zeros; an empty lane's is zero
-- RULES 15.5
abbrev pub lane_record : Lane → List ℕ
lane_record empty = replicate 16 0
lane_record (filled race crew) = lane_head race crew ++ padded 12 crew

-- record after record
unfoldable pub lanes_records : List Lane → List ℕ
lanes_records [] = []
lanes_records (l ∷ ls) = lane_record l ++ lanes_records ls
