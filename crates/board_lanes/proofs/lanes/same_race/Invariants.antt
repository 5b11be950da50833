use Rattle.std.proofs.Common.{◌≡◌, ◌-◌}
use Rattle.board_lanes.specs.Board.{same_race}
use Rattle.board_lanes.proofs.lanes.same_race.Given as goal

abbrev pub invariant-loop-i : goal.invariant-loop-i
invariant-loop-i l = same_race l.bytes l.number (8 - l.from) l.from ≡ same_race l.bytes l.number (8 - l.i) l.i
