use Rattle.std.proofs.Common.{◌≡◌, ◌*◌, length}
use Rattle.byte_parts.specs.Part.{put}
use Rattle.board_lanes.specs.Board.{lanes_from}
use Rattle.board_lanes.specs.Records.{lanes_records}
use Rattle.board_lanes.proofs.records.put_records.Given as goal

abbrev pub invariant-loop-i : goal.invariant-loop-i
invariant-loop-i l =
    (length l.out ≡ length l.initial.out) × (l.out ≡ put l.initial.out 0 (16 * l.i) (lanes_records (lanes_from l.bytes l.i 0)))
