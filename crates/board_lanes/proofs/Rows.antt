-- Examples of boards, as antt computes them. Assumes nothing.
use Rattle.std.proofs.Common.{Ok, Err}
use Prim.Native.Nat.{ℕ}
use mathlib.Core.Path.{◌≡◌, refl}
use mathlib.Core.List.{List, [], ◌∷◌, ◌++◌}
use lib.ListN.{replicate}
use Rattle.byte_parts.specs.Part.{part, padded}
use Rattle.board_lanes.specs.declared.refusal.BoardRefusal.TheVariants.{RacesDiffer, WrongLane, BadCrew, TailNotZero}
use Rattle.board_lanes.specs.Board.{board_number, is_empty, are_crew, filled_judged, lane_judged, lanes_judged, of_race, same_race, one_race, races_judged, board_judged, crew_length, lane_of, lanes_from}
use Rattle.board_lanes.specs.Records.{lanes_records}

-- a block of a lane and a race, its crew AB, a byte and spaces, and a last byte
abbrev block : ℕ → ℕ → ℕ → ℕ → List ℕ
block lane race last tail = lane ∷ race ∷ 1 ∷ 65 ∷ 66 ∷ last ∷ replicate 9 32 ++ (tail ∷ [])

-- one that is empty
abbrev none : List ℕ
none = replicate 16 0

-- two lanes, and six empty ones
abbrev two : List ℕ → List ℕ → List ℕ
two a b = a ++ b ++ replicate 96 0

-- Two lanes of one race are a board, and so are lanes 2 and 3 where lane 1 is empty. A wrong lane byte is 41, ahead of the crew's 42, which
-- is ahead of the last byte's 43; lane 1's 42 and 43 are ahead of lane 2's 41; a block with only its last byte set is filled, so 41, and a
-- crew of zeros 42; races that differ, 40, come last.
pub judged_rows
    : (board_judged (two (block 1 5 67 0) (block 2 5 0x7e 0)) ≡ Ok tt)
    × (board_judged (two none (block 2 5 67 0)) ≡ Ok tt)
    × (board_judged (two (block 2 5 0x7f 1) none) ≡ Err WrongLane)
    × (board_judged (two (block 1 5 0x7f 1) (block 1 5 67 0)) ≡ Err BadCrew)
    × (board_judged (two (block 1 5 67 1) (block 1 5 67 0)) ≡ Err TailNotZero)
    × (board_judged (two (replicate 15 0 ++ (1 ∷ [])) none) ≡ Err WrongLane)
    × (board_judged (two (1 ∷ replicate 15 0) none) ≡ Err BadCrew)
    × (board_judged (two (block 1 5 67 0) (block 2 6 0x1f 0)) ≡ Err BadCrew)
    × (board_judged (two (block 1 5 67 0) (block 2 6 67 0)) ≡ Err RacesDiffer)
unfolding part is_empty are_crew filled_judged lane_judged lanes_judged of_race same_race one_race races_judged board_judged
judged_rows = (refl, refl, refl, refl, refl, refl, refl, refl, refl)

-- The records of the first two of such lanes, the second one empty.
pub record_rows
    : lanes_records (lanes_from (two (block 1 5 67 0) none) 2 0)
    ≡ 1 ∷ 3 ∷ 5 ∷ 1 ∷ 65 ∷ 66 ∷ 67 ∷ replicate 9 0 ++ replicate 16 0
unfolding part padded is_empty crew_length lane_of lanes_from lanes_records
record_rows = refl

-- lane 1 with a crew of twelve letters, A to K and one more
abbrev full : ℕ → List ℕ
full last = 1 ∷ 5 ∷ 1 ∷ 65 ∷ 66 ∷ 67 ∷ 68 ∷ 69 ∷ 70 ∷ 71 ∷ 72 ∷ 73 ∷ 74 ∷ 75 ∷ last ∷ 0 ∷ []

-- A crew has twelve bytes: the twelfth is judged, and is in the record.
pub crew_rows
    : (board_judged (two (full 0x7f) none) ≡ Err BadCrew)
    × (board_judged (two (full 76) none) ≡ Ok tt)
    × (lanes_records (lane_of (full 76) ∷ []) ≡ 1 ∷ 12 ∷ 5 ∷ 1 ∷ 65 ∷ 66 ∷ 67 ∷ 68 ∷ 69 ∷ 70 ∷ 71 ∷ 72 ∷ 73 ∷ 74 ∷ 75 ∷ 76 ∷ [])
unfolding part padded is_empty are_crew filled_judged lane_judged lanes_judged of_race same_race one_race races_judged board_judged crew_length lane_of lanes_records
crew_rows = (refl, refl, refl)

-- The numbers of the board's own refusals.
pub number_rows : (board_number RacesDiffer ≡ 40) × (board_number WrongLane ≡ 41) × (board_number BadCrew ≡ 42) × (board_number TailNotZero ≡ 43)
number_rows = (refl, refl, refl, refl)
