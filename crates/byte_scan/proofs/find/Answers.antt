-- `find` meets its contract: the part from i on is its byte at i and the part behind it. Assumes nothing.
use Rattle.std.proofs.Common.{◌≡◌, arith}
use Rattle.byte_scan.proofs.Slices.{slice-none, slice-more, index_of-none, index_of-here, index_of-more}
use Rattle.byte_scan.proofs.find.Goals as goal

pub returns-then-s-i-clause-value : goal.returns-then-s-i-clause-value
returns-then-s-i-clause-value c =
    let a = c.args in
    let e = slice-more c.loop-i.i a.to a.s.now (omega arith) (omega arith) in
    omega (arith, rw (e, index_of-here a.b _ _ c.if-s-i.true) at c.loop-i.invariant)

pub loop-i-preserved : goal.loop-i-preserved
loop-i-preserved c =
    let a = c.args in
    let e = slice-more c.loop-i.i a.to a.s.now (omega arith) (omega arith) in
    omega (arith, rw (e, index_of-more a.b _ _ c.if-s-i.false) at c.loop-i.invariant)

pub returns-clause-value : goal.returns-clause-value
returns-clause-value c =
    let e : c.loop-i.i ≡ c.args.to = omega arith in
    omega (arith, rw (e, slice-none c.args.to c.args.s.now, index_of-none c.args.b) at c.loop-i.invariant)
