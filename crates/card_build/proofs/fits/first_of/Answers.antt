-- The code reads the record that the definition finds.
use Rattle.std.proofs.Common.{arith, rules}
use Rattle.card_build.proofs.Judged.{shared-index, there}
use Rattle.card_build.proofs.fits.first_of.Goals as goal

pub offset_bounds-nodes-j : goal.offset_bounds-nodes-j
offset_bounds-nodes-j c = omega (arith, shared-index _ _ c.find_shared.ensures c.in_ok-j.was)

pub bounds-nodes-j : goal.bounds-nodes-j
bounds-nodes-j c = shared-index _ _ c.find_shared.ensures c.in_ok-j.was

pub returns : goal.returns
returns c = there _ _ c.find_shared.ensures c.in_ok-j.was _
