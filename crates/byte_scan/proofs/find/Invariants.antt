-- No byte before i is b: what is found in the part is i bytes further than what is found in the rest.
use Rattle.std.proofs.Common.{◌≡◌, ◌+◌}
use Rattle.byte_scan.specs.Bytes.{index_of, slice}
use Rattle.byte_scan.proofs.find.Given as goal

abbrev pub invariant-loop-i : goal.invariant-loop-i
invariant-loop-i l = l.fn.from + index_of l.b (slice l.fn.from l.to l.s) ≡ l.i + index_of l.b (slice l.i l.to l.s)
