-- `records::put_record` meets its contract: zeros, or three pieces. Assumes nothing.
use native.Mathlib.Omega.{arith}
use mathlib.Core.Path.{sym, ap, ◌∙◌}
use lib.ListN.{length}
use Rattle.board_lanes.specs.Board.{race_of, crew_of}
use Rattle.board_lanes.proofs.LaneLaws.{crew_most, lane-empty, lane-filled}
use Rattle.board_lanes.proofs.RecordLaws.{filled_record}
use Rattle.board_lanes.proofs.records.put_record.Goals as goal

pub copy-requires : goal.copy-requires
copy-requires c = let most = crew_most c.args.b.now in (omega (arith, most, ap length c.crew_of-crew.ensures), omega arith)

pub overflow_sub-n : goal.overflow_sub-n
overflow_sub-n c = omega (arith, crew_most c.args.b.now, ap length c.crew_of-crew.ensures)

pub zero-requires-2 : goal.zero-requires-2
zero-requires-2 c = omega (arith, crew_most c.args.b.now, ap length c.crew_of-crew.ensures)

pub returns-then-is_empty : goal.returns-then-is_empty
returns-then-is_empty c =
    let a = c.args in
    rw (lane-empty a.b.now (sym c.is_empty.ensures ∙ c.if-is_empty.true)) c.zero.ensures

pub returns : goal.returns
returns c =
    let a = c.args in
    let f = c.crew_of-crew.ensures in
    rw (lane-filled a.b.now (sym c.is_empty.ensures ∙ c.if-is_empty.false))
    (filled_record a.out.now a.at (race_of a.b.now) (crew_of a.b.now) (crew_most a.b.now) c.put_head.ensures (rw f at c.copy.ensures) (rw f at c.zero-2.ensures))
