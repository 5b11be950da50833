use Rattle.std.proofs.Common.{◌≡◌, ◌≤◌, length, take}
use Rattle.board_lanes.specs.Board.{crew_length}
use Rattle.board_lanes.proofs.block.crew_length.Given as goal

abbrev pub invariant-loop-i : goal.invariant-loop-i
invariant-loop-i l = (l.i ≤ length l.s) × (crew_length l.s ≡ crew_length (take l.i l.s))
