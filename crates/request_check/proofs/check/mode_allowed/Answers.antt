-- On a write modes 0 and 1, else mode 0.
use Rattle.request_check.specs.Check.{mode_allowed}
use Rattle.request_check.proofs.check.mode_allowed.Goals as goal

pub returns-then-write : goal.returns-then-write
unfolding mode_allowed
returns-then-write c = search c.if-write.true

pub returns-else-write : goal.returns-else-write
unfolding mode_allowed
returns-else-write c = search c.if-write.false
