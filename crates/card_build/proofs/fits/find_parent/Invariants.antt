use lib.ListN.{length}
use Rattle.card_nodes.specs.Find.{parent_of, parent_from}
use Rattle.card_nodes.proofs.Scan.{Left}
use Rattle.card_build.proofs.fits.find_parent.Given as goal

abbrev pub invariant-loop-i : goal.invariant-loop-i
invariant-loop-i l = Left l.nodes (length l.nodes) (length l.nodes) (parent_of l.nodes l.depth) (parent_from l.depth l.found) l.i
