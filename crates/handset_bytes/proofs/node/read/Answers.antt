-- Each field is what its call reads.
use lib.ListN.{get_or}
use borrow.Author.Rules.{rules}
use Rattle.handset_bytes.specs.Layout.{depth_place}
use Rattle.handset_bytes.specs.Node.{node_in}
use Rattle.handset_bytes.proofs.node.read.Goals as goal

pub returns : goal.returns
unfolding node_in
returns c =
    let a = c.args in
    λ j. record { depth = get_or a.bytes.now (depth_place a.i) 0; code = c.half.ensures j; version = c.half-2.ensures j; entry = c.read_entry.ensures j }
