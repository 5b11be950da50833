-- The invariant: to copy the stores of the rows left is all that is left.
use native.Mathlib.Omega.{arith}
use Rattle.request_serve.proofs.Stores.{over, row_here, turn}
use Rattle.request_serve.proofs.writing.copy_stores.Goals as goal

pub loop-i-preserved : goal.loop-i-preserved
loop-i-preserved c =
    let t = c.args.table in
    let n = c.well_formed.1.1.0.1.1.0.1.0.1 in
    let h = c.loop-i-test.true in
    let k = c.loop-i.invariant in
    turn t n c.requires.0 k h (row_here t n c.requires.0 k h _) c.copy.ensures

pub returns : goal.returns
returns c =
    over c.args.table c.well_formed.1.1.0.1.1.0.1.0.1 c.requires.0 c.loop-i.invariant (omega arith)
