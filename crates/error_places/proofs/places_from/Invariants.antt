use Rattle.error_places.proofs.Next.{Left}
use Rattle.error_places.proofs.places_from.Given as goal

abbrev pub invariant-loop-rest : goal.invariant-loop-rest
invariant-loop-rest l = Left l.initial.places l.at l.bits l.place l.places l.rest l.next l.i

abbrev pub decreases-loop-rest : goal.decreases-loop-rest
decreases-loop-rest l = l.rest
