-- `records::put_records` meets its contract: the records of the lanes so far. Assumes nothing.
use native.Mathlib.Omega.{arith}
use mathlib.Core.Path.{◌≡◌, refl, sym}
use mathlib.Core.List.{[]}
use Rattle.byte_parts.proofs.Part.{put_zero}
use Rattle.board_lanes.specs.Board.{lanes_from}
use Rattle.board_lanes.specs.Records.{lanes_records}
use Rattle.board_lanes.proofs.RecordLaws.{records-put}
use Rattle.board_lanes.proofs.records.put_records.Goals as goal

pub loop-i-init : goal.loop-i-init
unfolding lanes_from lanes_records
loop-i-init c = (refl, sym (put_zero c.args.out.now 0 []))

pub put_record-requires : goal.put_record-requires
put_record-requires c = omega (arith, c.loop-i.invariant.0)

pub loop-i-preserved : goal.loop-i-preserved
loop-i-preserved c =
    let a = c.args in
    let k = c.loop-i.i in
    let w = rw c.block.ensures at c.put_record.ensures in
    (omega (arith, c.put_record.auto, c.loop-i.invariant.0), records-put a.out.now a.bytes.now k c.loop-i.invariant.1 w)

pub shape_of-out : goal.shape_of-out
shape_of-out c = omega (arith, c.loop-i.invariant.0)

pub returns : goal.returns
returns c =
    let e : c.loop-i.i ≡ 8 = omega arith in
    rw e at c.loop-i.invariant.1
