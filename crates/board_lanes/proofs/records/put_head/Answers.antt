-- `records::put_head` meets its contract: four bytes are stored. Assumes nothing.
use native.Mathlib.Omega.{arith}
use mathlib.Core.Path.{ap, ◌∙◌}
use Prim.Native.Nat.{◌/◌, ◌%◌}
use lib.ListN.{length, length-set}
use Rattle.board_lanes.proofs.LaneLaws.{crew_most}
use Rattle.board_lanes.proofs.RecordLaws.{put_four}
use Rattle.board_lanes.proofs.records.put_head.Goals as goal

pub overflow_cast-out : goal.overflow_cast-out
overflow_cast-out c = omega (arith, ap length c.crew_of-n.ensures, crew_most c.args.b.now)

pub returns : goal.returns
returns c =
    let a = c.args in
    put_four a.out.now a.at 1 (length c.crew_of-n.result.now) (c.race-number.result % 256) (c.race-number.result / 256)
    ∙ rw (c.race-number.ensures.0, c.crew_of-n.ensures)

pub bounds-out-at-2 : goal.bounds-out-at-2
bounds-out-at-2 c = simp length-set (omega arith)

pub bounds-out-at-3 : goal.bounds-out-at-3
bounds-out-at-3 c = simp length-set (omega arith)

pub bounds-out-at-4 : goal.bounds-out-at-4
bounds-out-at-4 c = simp length-set (omega arith)
