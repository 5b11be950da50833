-- In a turn a bit is left, so there is a next place.
use Rattle.std.proofs.Common.{arith}
use Rattle.error_places.proofs.Next.{started, written, next-left, room-left, turn}
use Rattle.error_places.proofs.places_from.Goals as goal

pub loop-rest-init : goal.loop-rest-init
loop-rest-init c = started (omega arith) (omega arith)

pub overflow_add-places : goal.overflow_add-places
overflow_add-places c = let f = next-left c.loop-rest.invariant (omega arith) in omega (arith, f.low, c.loop-rest.invariant.to)

pub bounds-places-i : goal.bounds-places-i
bounds-places-i c = room-left c.loop-rest.invariant (next-left c.loop-rest.invariant (omega arith))

pub overflow_add-next : goal.overflow_add-next
overflow_add-next c = let f = next-left c.loop-rest.invariant (omega arith) in omega (arith, f.low, c.loop-rest.invariant.to)

pub overflow_add-next-in-loop-rest : goal.overflow_add-next-in-loop-rest
overflow_add-next-in-loop-rest c = let f = next-left c.loop-rest.invariant (omega arith) in omega (arith, f.low, c.loop-rest.invariant.to)

pub loop-rest-preserved : goal.loop-rest-preserved
loop-rest-preserved c = turn c.loop-rest.invariant (next-left c.loop-rest.invariant (omega arith))

pub returns : goal.returns
returns c = written c.loop-rest.invariant c.loop-rest-test.false
