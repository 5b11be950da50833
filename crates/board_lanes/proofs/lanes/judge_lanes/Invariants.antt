use Rattle.std.proofs.Common.{◌≡◌, ◌-◌}
use Rattle.board_lanes.specs.Board.{and_then, lanes_judged}
use Rattle.board_lanes.proofs.lanes.judge_lanes.Given as goal

abbrev pub invariant-loop-k : goal.invariant-loop-k
invariant-loop-k l = lanes_judged l.bytes 8 0 ≡ and_then l.judged (lanes_judged l.bytes (8 - l.k) l.k)
