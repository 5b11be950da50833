-- The lane board, worked out from the 128 bytes of eight blocks, lane 1 first. A block has the lane in byte 0, the race's number in bytes 1
-- and 2, low byte first, the crew's code in bytes 3 to 14, and zero in byte 15; a block of sixteen zeros is an empty lane.
use Rattle.std.specs.Prelude.{ℕ, zero, suc, ◌+◌, ◌*◌, Bool, true, cond, not, ◌&&◌, List, [], ◌∷◌, leb, eqb, get_or, take, Result, Ok, Err}
use Rattle.byte_parts.specs.Sizes.{block_size}
use Rattle.byte_parts.specs.Part.{part}
use Rattle.board_lanes.specs.declared.refusal.BoardRefusal.{BoardRefusal}
use Rattle.board_lanes.specs.declared.refusal.BoardRefusal.TheVariants.{RacesDiffer, WrongLane, BadCrew, TailNotZero}

-- the numbers of the board's own refusals
-- RULES 17.3
abbrev pub board_number : BoardRefusal → ℕ
board_number RacesDiffer = 40
board_number WrongLane = 41
board_number BadCrew = 42
board_number TailNotZero = 43

-- the block of lane k + 1
-- RULES 17.1
abbrev pub block_at : List ℕ → ℕ → List ℕ
block_at bytes k = part bytes (block_size * k) 16

-- an empty lane: every byte is zero
-- RULES 17.1
unfoldable pub is_empty : List ℕ → Bool
is_empty [] = true
is_empty (x ∷ s) = eqb x 0 && is_empty s

-- RULES 17.1
abbrev pub race_of : List ℕ → ℕ
race_of b = get_or b 1 0 + 256 * get_or b 2 0

-- a crew's bytes are 20h to 7Eh
unfoldable pub are_crew : List ℕ → Bool
are_crew [] = true
are_crew (x ∷ s) = (leb 0x20 x && leb x 0x7e) && are_crew s

-- RULES 17.1
abbrev pub crew_bytes : List ℕ → List ℕ
crew_bytes b = part b 3 12

-- a filled block: 41 for another lane's byte, then 42 for its crew, then 43 for its last byte
-- RULES 17.3
unfoldable pub filled_judged : ℕ → List ℕ → Result Unit BoardRefusal
filled_judged k b =
    cond (not (eqb (get_or b 0 0) (k + 1))) (Err WrongLane)
    (cond (not (are_crew (crew_bytes b))) (Err BadCrew)
    (cond (not (eqb (get_or b 15 0) 0)) (Err TailNotZero)
    (Ok tt)))

unfoldable pub lane_judged : ℕ → List ℕ → Result Unit BoardRefusal
lane_judged k b = cond (is_empty b) (Ok tt) (filled_judged k b)

-- what follows, where nothing is wrong so far
abbrev pub and_then : Result Unit BoardRefusal → Result Unit BoardRefusal → Result Unit BoardRefusal
and_then (Ok tt) next = next
and_then (Err x) next = Err x

-- n lanes from k on, one after the other: whatever is wrong with a lane comes before the next lane
-- RULES 17.3
unfoldable pub lanes_judged : List ℕ → ℕ → ℕ → Result Unit BoardRefusal
lanes_judged bytes zero k = Ok tt
lanes_judged bytes (suc n) k = and_then (lane_judged k (block_at bytes k)) (lanes_judged bytes n (k + 1))

-- an empty lane has no race
unfoldable pub of_race : ℕ → List ℕ → Bool
of_race race b = cond (is_empty b) true (eqb (race_of b) race)

-- whether the filled ones of n lanes from k on are all of this race
unfoldable pub same_race : List ℕ → ℕ → ℕ → ℕ → Bool
same_race bytes race zero k = true
same_race bytes race (suc n) k = of_race race (block_at bytes k) && same_race bytes race n (k + 1)

-- whether the filled ones of n lanes from k on are all of one race, the first one's
unfoldable pub one_race : List ℕ → ℕ → ℕ → Bool
one_race bytes zero k = true
one_race bytes (suc n) k =
    cond (is_empty (block_at bytes k)) (one_race bytes n (k + 1)) (same_race bytes (race_of (block_at bytes k)) n (k + 1))

-- 40 for two filled lanes of different races
-- RULES 17.3
unfoldable pub races_judged : List ℕ → Result Unit BoardRefusal
races_judged bytes = cond (one_race bytes 8 0) (Ok tt) (Err RacesDiffer)

-- 40 comes last
-- RULES 17.3
unfoldable pub board_judged : List ℕ → Result Unit BoardRefusal
board_judged bytes = and_then (lanes_judged bytes 8 0) (races_judged bytes)

-- how long a crew is without its trailing spaces (32)
unfoldable pub crew_length : List ℕ → ℕ
crew_length [] = 0
crew_length (x ∷ s) = cond (eqb x 32 && eqb (crew_length s) 0) 0 (suc (crew_length s))

abbrev pub crew_of : List ℕ → List ℕ
crew_of b = take (crew_length (crew_bytes b)) (crew_bytes b)

-- a lane of the board
pub data Lane : Type 0 where
  empty : Lane
  filled : (race : ℕ) (crew : List ℕ) → Lane

-- RULES 17.1
unfoldable pub lane_of : List ℕ → Lane
lane_of b = cond (is_empty b) empty (filled (race_of b) (crew_of b))

-- n lanes from k on
unfoldable pub lanes_from : List ℕ → ℕ → ℕ → List Lane
lanes_from bytes zero k = []
lanes_from bytes (suc n) k = lane_of (block_at bytes k) ∷ lanes_from bytes n (k + 1)

abbrev pub lanes_of : List ℕ → List Lane
lanes_of bytes = lanes_from bytes 8 0

-- the board: eight lanes, or why there is none
pub data Board : Type 0 where
  lanes : List Lane → Board
  refused : BoardRefusal → Board

abbrev pub board_by : List ℕ → Result Unit BoardRefusal → Board
board_by bytes (Ok tt) = lanes (lanes_of bytes)
board_by bytes (Err x) = refused x

unfoldable pub board_of : List ℕ → Board
board_of bytes = board_by bytes (board_judged bytes)
