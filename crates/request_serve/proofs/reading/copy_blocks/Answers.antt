-- The invariant: to put the blocks of the elements left is all that is left.
use native.Mathlib.Omega.{arith}
use Rattle.request_runs.proofs.Named.{ready_small, ready_row}
use Rattle.request_serve.proofs.Copied.{over, cut, ready_here, inside, turn}
use Rattle.request_serve.proofs.reading.copy_blocks.Goals as goal

pub bounds-table-e : goal.bounds-table-e
bounds-table-e c =
    ready_small c.args.table c.well_formed.1.1.0.1.1.0.1.0.1 (ready_here c.loop-i.invariant c.unpack.ensures c.loop-i-test.true c.in-Some.is)

pub copy_block-requires : goal.copy_block-requires
copy_block-requires c =
    let k = c.loop-i.invariant in
    let n = k.long in
    let r = ready_here k c.unpack.ensures c.loop-i-test.true c.in-Some.is in (
      omega arith,
      inside k c.unpack.ensures c.loop-i-test.true c.in-Some.is (ready_row c.args.table c.well_formed.1.1.0.1.1.0.1.0.1 r _) c.block_at-from.ensures,
    )

pub loop-i-preserved : goal.loop-i-preserved
loop-i-preserved c =
    let k = c.loop-i.invariant in
    let r = ready_here k c.unpack.ensures c.loop-i-test.true c.in-Some.is in
    turn k c.unpack.ensures c.loop-i-test.true c.in-Some.is (ready_row c.args.table c.well_formed.1.1.0.1.1.0.1.0.1 r _) c.block_at-from.ensures c.copy_block.ensures

pub returns-after-loop-i : goal.returns-after-loop-i
returns-after-loop-i c = over c.loop-i.invariant (omega arith)

pub returns-in_default : goal.returns-in_default
returns-in_default c = cut c.loop-i.invariant c.unpack.ensures c.loop-i-test.true c.in_default.is
