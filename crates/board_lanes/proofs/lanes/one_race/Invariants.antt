use Rattle.std.proofs.Common.{◌≡◌, ◌-◌}
use Rattle.board_lanes.specs.Board.{one_race}
use Rattle.board_lanes.proofs.lanes.one_race.Given as goal

abbrev pub invariant-loop-first : goal.invariant-loop-first
invariant-loop-first l = one_race l.bytes 8 0 ≡ one_race l.bytes (8 - l.first) l.first
